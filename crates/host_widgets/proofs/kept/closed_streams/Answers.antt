use Rattle.std.proofs.Common.{◌∙◌, sym, ap, map, take, ◌++◌, ◌∷◌, [], get_or, List, length, ◌<◌, arith}
use Rattle.std.proofs.lemmas.List.{take_more, map-append}
use Rattle.tplg_plan.specs.declared.plans.StreamPlan.{StreamPlan}
use Rattle.host_widgets.specs.declared.kept.StreamRec.{StreamRec}
use Rattle.host_widgets.specs.HostRecord.{closed, no_stream}
use Rattle.host_widgets.proofs.kept.closed_streams.Goals as goal

pub loop-stream-preserved : goal.loop-stream-preserved
loop-stream-preserved c =
    let streams = c.args.plan.now.streams in
    let i = c.loop-stream._stream-index in
    let within : i < length streams = omega (arith, c.loop-stream-test.true, ap length c.items-stream-items.ensures) in
    let one : StreamPlan = no_stream in
    c.in_ok-push.ensures.ok
    ∙ ap (λ (s : List StreamRec). s ++ closed ∷ []) c.loop-stream.invariant
    ∙ sym (map-append (λ (s : StreamPlan). closed) (take i streams) (get_or streams i one ∷ []))
    ∙ ap (map (λ (s : StreamPlan). closed)) (sym (take_more streams i one within))
