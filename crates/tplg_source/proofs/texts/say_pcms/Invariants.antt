use Rattle.std.proofs.Common.{◌≡◌, ◌++◌, take}
use Rattle.std.specs.List.{flat_map}
use Rattle.tplg_source.specs.SourceText.{pcm_text}
use Rattle.tplg_source.proofs.texts.say_pcms.Given as goal

abbrev pub invariant-loop-pcm : goal.invariant-loop-pcm
invariant-loop-pcm l = l.out.items ≡ l.fn.out.items ++ flat_map pcm_text (take l.pcm-index l.pcms)
