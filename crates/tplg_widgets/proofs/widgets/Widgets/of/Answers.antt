use Rattle.std.proofs.Common.{ap, ◌∙◌, length, position, arith}
use Rattle.tplg_widgets.specs.Entries.{interpreted}
use Rattle.tplg_widgets.specs.Names.{is_interpreted_named, has_name}
use Rattle.tplg_widgets.proofs.FoundEnds.{length-interpreted}
use Rattle.tplg_widgets.proofs.widgets.Widgets.of.Goals as goal

pub invariant_of-result : goal.invariant_of-result
invariant_of-result c =
    let parts = c.in_ok-interpreted.ensures ∙ ap interpreted c.as_slice.ensures.value in
    let same = ap length parts in
    let all = ap length c.in_ok-all.ensures in
    record {
      few = omega (arith, all, c.requires);
      parts = parts;
      parts_few = omega (arith, same, length-interpreted c.in_ok-all.all.items, all, c.requires);
      firsts = λ q. c.in_ok-firsts.ensures q ∙ ap (position (is_interpreted_named q)) c.as_slice-2.ensures.value;
      ids = λ q. c.in_ok-ids.ensures q ∙ ap (position (has_name q)) c.as_slice-3.ensures.value;
      names = λ q. c.in_ok-names.ensures q ∙ ap (position (has_name q)) c.as_slice-4.ensures.value;
    }
