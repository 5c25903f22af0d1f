use Rattle.std.proofs.Common.{◌≡◌, ◌++◌, take}
use Rattle.std.specs.List.{flat_map}
use Rattle.tplg_source.specs.Carried.{pcm_entries}
use Rattle.tplg_source.proofs.carried_pcms.put_pcms.Given as goal

abbrev pub invariant-loop-pcm : goal.invariant-loop-pcm
invariant-loop-pcm l = l.out ≡ l.fn.out ++ flat_map pcm_entries (take l.pcm-index l.pcms)
