use Rattle.tplg_model.specs.Reading.{stream_step}
use Rattle.tplg_model.proofs.PartLaws.{Parts}
use Rattle.tplg_read.proofs.pcms.streams_at.Given as goal

abbrev pub invariant-loop-k : goal.invariant-loop-k
invariant-loop-k l = Parts 72 (stream_step l.at l.bytes) 8 l.k 112 l.streams
