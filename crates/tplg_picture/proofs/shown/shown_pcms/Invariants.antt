use Rattle.std.proofs.Common.{◌≡◌, take}
use Rattle.std.specs.List.{flat_map}
use Rattle.tplg_picture.specs.ShownNames.{shown_pcms_in}
use Rattle.tplg_picture.proofs.shown.shown_pcms.Given as goal

abbrev pub invariant-loop-block : goal.invariant-loop-block
invariant-loop-block l = l.out ≡ flat_map shown_pcms_in (take l.block-index l.topology.blocks)
