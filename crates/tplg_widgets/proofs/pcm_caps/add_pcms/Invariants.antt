use Rattle.std.proofs.Common.{◌≡◌, ◌++◌, map, take}
use Rattle.tplg_widgets.specs.PcmList.{both_caps}
use Rattle.tplg_widgets.proofs.pcm_caps.add_pcms.Given as goal

abbrev pub invariant-loop-pcm : goal.invariant-loop-pcm
invariant-loop-pcm l = l.out.items ≡ l.initial.out.items ++ map both_caps (take l.pcm-index l.pcms)
