use Rattle.std.proofs.Common.{◌-◌}
use Rattle.tplg_model.specs.ArrayReading.{elements_at}
use Rattle.tplg_tokens.proofs.ElementLoops.{ReadSoFar}
use Rattle.tplg_tokens.proofs.element.read_elements.Given as goal

abbrev pub invariant-loop : goal.invariant-loop
invariant-loop g l =
    ReadSoFar g.E.Element.SIZE g.E.Element.element (l.count - l.counter) l.bytes l.place l.elements (elements_at g.E.Element.SIZE g.E.Element.element l.count l.bytes l.at)
