use Rattle.std.proofs.Common.{◌≡◌, ◌++◌, map, take}
use Rattle.tplg_picture.specs.ShownNames.{shown_pcm}
use Rattle.tplg_picture.proofs.shown.add_pcms.Given as goal

abbrev pub invariant-loop-pcm : goal.invariant-loop-pcm
invariant-loop-pcm l = l.out ≡ l.fn.out ++ map shown_pcm (take l.pcm-index l.pcms)
