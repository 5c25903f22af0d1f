use Rattle.std.proofs.Common.{◌≡◌, take}
use Rattle.std.specs.List.{flat_map}
use Rattle.tplg_widgets.specs.PcmList.{caps_in}
use Rattle.tplg_widgets.proofs.pcm_caps.pcm_caps.Given as goal

abbrev pub invariant-loop-block : goal.invariant-loop-block
invariant-loop-block l = l.out.items ≡ flat_map caps_in (take l.block-index l.block-items)
