use Rattle.std.proofs.Common.{◌≡◌, take, map}
use Rattle.host_widgets.specs.HostRecord.{closed}
use Rattle.host_widgets.proofs.kept.closed_streams.Given as goal

-- so many streams are closed so far
abbrev pub invariant-loop-stream : goal.invariant-loop-stream
invariant-loop-stream l = l.streams ≡ map (λ s. closed) (take l._stream-index l.plan.streams)
