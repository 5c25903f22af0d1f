use Rattle.std.proofs.Common.{◌∙◌, sym, ap, subst, length, List}
use Rattle.sof_base.specs.declared.hole.Hole.{Hole}
use Rattle.sof_base.specs.Holes.{first_fit, carved}
use Rattle.fw_heap.specs.declared.run.Home.{Home}
use Rattle.fw_heap.specs.Regions.{RegionState}
use Rattle.fw_components.specs.Tables.{Tables, all_of}
use Rattle.fw_components.specs.Changes.{IsFoundOf, found}
use Rattle.fw_tests.specs.Alone.{IsAlone}
use Rattle.fw_tests.proofs.AloneLaws.{added-alone, alone-there, alone-found, alone-given, alone-apart, alone-gone, given-back}
use Rattle.fw_tests.proofs.parts.in_parts.Goals as goal
use Rattle.fw_tests.proofs.parts.in_parts.Goals.{After-takes_its_parts-right}

still-alone : (c : After-takes_its_parts-right) → IsAlone c.in-Ok-carve.piece c.takes_its_parts-right.new.registry
still-alone c =
    c.takes_its_parts-right.ensures c.in-Ok-carve.piece
    (added-alone c.in-Ok-carve.piece c.in_ok-registry.registry c.add.new.self c.equaliser.result c.in_piece.result c.in_ok-registry.ensures c.equaliser.ensures c.in_piece.ensures.piece.0 c.in_piece.ensures.piece.1 (c.in_piece.ensures.piece.2 ∙ sym c.in-Ok-carve.ensures.piece.1) c.in-Ok-add.ensures.ok)

pub remove-requires : goal.remove-requires
remove-requires c =
    let alone = still-alone (goal.at.remove-requires c).After-takes_its_parts-right in
    record {
      there = alone-there c.in-Ok-carve.piece c.takes_its_parts-right.new.registry alone;
      region = subst (λ (home : Home). IsFoundOf home (found c.takes_its_parts-right.new.registry 3)) (c.in-Ok-carve.ensures.piece.0 ∙ sym (ap (λ (r : RegionState). r.home) c.in-Ok-carve.ensures.holes)) (alone-found c.in-Ok-carve.piece c.takes_its_parts-right.new.registry alone);
      alone = λ gone. alone-apart c.in-Ok-carve.piece c.takes_its_parts-right.new.registry alone;
    }

pub close-requires-2 : goal.close-requires-2
close-requires-2 c =
    let alone = still-alone (goal.at.close-requires-2 c).After-takes_its_parts-right in
    ap (λ (t : Tables). length (all_of t)) c.remove.ensures.tables ∙ alone-gone c.in-Ok-carve.piece c.takes_its_parts-right.new.registry alone

pub close-requires-3 : goal.close-requires-3
close-requires-3 c =
    let alone = still-alone (goal.at.close-requires-3 c).After-takes_its_parts-right in
    let piece = c.in-Ok-carve.piece in
    c.remove.ensures.holes
    ∙ alone-given piece c.takes_its_parts-right.new.registry c.carve.new.self.holes alone
    ∙ given-back c.carve.new.self.holes piece.place piece.size c.remove.new.region.usable
    (ap (λ (r : RegionState). r.holes) c.in-Ok-carve.ensures.holes ∙ ap (λ (hs : List Hole). carved 4160 hs) c.in-Ok.ensures.2)
    (c.in-Ok-carve.ensures.piece.2 ∙ ap (λ (hs : List Hole). first_fit 4160 hs) c.in-Ok.ensures.2)
    c.in-Ok-carve.ensures.piece.1
    (c.remove.ensures.same.2 ∙ ap (λ (r : RegionState). r.usable) c.in-Ok-carve.ensures.holes ∙ c.in-Ok.ensures.1)
