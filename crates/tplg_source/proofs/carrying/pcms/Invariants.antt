use Rattle.std.proofs.Common.{◌≡◌, take}
use Rattle.std.specs.List.{flat_map}
use Rattle.tplg_source.specs.Carried.{carried_pcms}
use Rattle.tplg_source.proofs.carrying.pcms.Given as goal

abbrev pub invariant-loop-block : goal.invariant-loop-block
invariant-loop-block l = l.pcms ≡ flat_map carried_pcms (take l.block-index l.topology.blocks)
