use Rattle.std.proofs.Common.{refl}
use Rattle.fw_pipeline.specs.Triggers.{triggered}
use Rattle.fw_components.specs.States.{AreOf}
use Rattle.fw_core.specs.Held.{state_in}
use Rattle.fw_core.proofs.RowLaws.{row-is, on-ok}
use Rattle.fw_core.proofs.Streams.{triggered-kept, triggered-whole, told-state, ok-homes, err-same}
use Rattle.fw_core.proofs.Played.{triggered-shapes}
use Rattle.fw_core.proofs.stream_rows.trigger_row.Goals as goal

pub returns : goal.returns
returns c = λ r held.
    let t = c.args.registry.now in let u = c.trigger.new.registry in let a = c.trigger.result in
    row-is (λ f. triggered c.args.what f c.args.host) t u r r a held
    (λ clock. told-state t u r clock a (triggered c.args.what (state_in t r clock) c.args.host) (c.trigger.ensures.state (state_in t r clock) (held.kept clock).seen))
    (triggered-kept c.args.what c.args.host) (λ f g kept is. triggered-whole c.args.what c.args.host f g is)
    (ok-homes (AreOf r.home u) a (c.trigger.ensures.homes r.home held.homes))
    (on-ok a c.trigger.ensures.done (λ done row. triggered-shapes t u r c.args.what c.args.host held (triggered-kept c.args.what c.args.host (state_in t r 0) (state_in u r 0) (held.kept 0) row) c.buffers-buffers.ensures.kept done row)) (refl, refl, refl) (err-same t u r a c.trigger.ensures.kept)
