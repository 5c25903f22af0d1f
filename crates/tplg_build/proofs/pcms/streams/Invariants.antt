use Rattle.std.proofs.Common.{◌≡◌, replicate}
use Rattle.tplg_build.specs.Payloads.{empty_stream}
use Rattle.tplg_build.proofs.pcms.streams.Given as goal

abbrev pub invariant-loop : goal.invariant-loop
invariant-loop l = l.streams ≡ replicate l.counter empty_stream
