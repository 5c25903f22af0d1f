use Rattle.std.proofs.Common.{◌≡◌, ◌++◌, take}
use Rattle.std.specs.List.{flat_map}
use Rattle.tplg_model.specs.Arrays.{Each}
use Rattle.tplg_tokens.proofs.element.write_elements.Given as goal

abbrev pub invariant-loop-element : goal.invariant-loop-element
invariant-loop-element g l =
    (l.out.items ≡ l.fn.out.items ++ flat_map g.E.Element.spelling (take l.element-index l.elements)) × Each g.E.Element.is (take l.element-index l.elements)
