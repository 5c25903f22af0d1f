use Rattle.std.proofs.Common.{◌≡◌, ◌++◌, map, take}
use Rattle.tplg_model.specs.Arrays.{Each}
use Rattle.tplg_model.specs.Spelling.{IsBlock}
use Rattle.tplg_build.specs.TopologyForm.{pcm_block}
use Rattle.tplg_build.proofs.building.put_pcms.Given as goal

abbrev pub invariant-loop-pcm : goal.invariant-loop-pcm
invariant-loop-pcm l = (l.blocks ≡ l.fn.blocks ++ map pcm_block (take l.pcm-index l.pcms)) × (Each IsBlock l.fn.blocks → Each IsBlock l.blocks)
