use Rattle.std.proofs.Common.{◌≡◌, refl, sym, ap, ◌∙◌, List, map, Some, None, Ok, Result, ℤ}
use Rattle.stream_law.specs.declared.graph.Comp.{Comp}
use Rattle.stream_law.specs.declared.stream.StreamView.{StreamView}
use Rattle.stream_law.specs.State.{FwState, View}
use Rattle.stream_law.specs.Seen.{seen}
use Rattle.mbox_link.specs.Step.{set_stream}
use Rattle.fw_units.specs.Units.{edge_by, pipe_by}
use Rattle.fw_components.specs.Tables.{Tables, view_by, graph_of, streams_of}
use Rattle.fw_pipeline.specs.Preparing.{is_moving_at}
use Rattle.fw_pipeline.specs.Rows.{view_after, with_view}
use Rattle.fw_components.specs.States.{with_tables}
use Rattle.stream_law.specs.declared.stream.Phase.TheVariants.{Prepared}
use Rattle.fw_pipeline.proofs.ParamsRow.{params-refused, params-done, moving-is, host-there, goes-passes, rate-passes, rest-passes}
use Rattle.fw_pipeline.proofs.ParamsState.{state-prepared}
use Rattle.fw_pipeline.proofs.preparing.params.Goals as goal

pub returns-then-refuses-clause-answer : goal.returns-then-refuses-clause-answer
returns-then-refuses-clause-answer c = λ f.
    let t : Tables = c.args.registry.now in
    sym (ap view_after (params-refused (with_view (view_by t) f) c.args.host c.args.direction c.args.p (sym c.is_used.ensures ∙ c.if-not-is_used.false) (is_moving_at t.comps c.args.host) (moving-is t.comps c.args.host c.refuses.ensures.kept.named.comps) (sym c.refuses.ensures.refused ∙ c.if-refuses.true)))

pub set_stream-requires-clause-host : goal.set_stream-requires-clause-host
set_stream-requires-clause-host c = host-there c.args.registry.now.comps c.args.host c.args.direction (goes-passes _ _ _ _ _ _ (sym c.refuses.ensures.refused ∙ c.if-refuses.false))

pub set_stream-requires-clause-stream : goal.set_stream-requires-clause-stream
set_stream-requires-clause-stream c = (refl, c.requires, rate-passes (view_by c.args.registry.now) c.args.host c.args.direction c.args.p (is_moving_at c.args.registry.now.comps c.args.host) (sym c.refuses.ensures.refused ∙ c.if-refuses.false))

pub returns-clause-answer : goal.returns-clause-answer
returns-clause-answer c = λ f.
    let t : Tables = c.args.registry.now in
    ap (λ (t : Tables). let r : Result View ℤ = Ok (view_by t) in r) c.set_stream.ensures
    ∙ ap (λ (p : List Comp × List StreamView). let r : Result View ℤ = Ok (record { graph = record { comps = p.0; edges = map edge_by t.buffers; pipes = map pipe_by t.pipes; joins = t.joins }; streams = p.1 }) in r) (λ i. (c.settings_are_seen.ensures.comps c.args.host Prepared (Some c.args.p) t.comps i, c.settings_are_seen.ensures.streams c.args.host Prepared (Some c.args.p) t.comps i))
    ∙ sym (ap view_after (params-done (with_view (view_by t) f) c.args.host c.args.direction c.args.p (sym c.is_used.ensures ∙ c.if-not-is_used.false) (is_moving_at t.comps c.args.host) (moving-is t.comps c.args.host c.refuses.ensures.kept.named.comps) (sym c.refuses.ensures.refused ∙ c.if-refuses.false)))

pub returns-then-refuses-clause-state : goal.returns-then-refuses-clause-state
returns-then-refuses-clause-state c = λ f settled.
    let t : Tables = c.args.registry.now in
    sym (params-refused (with_tables t f) c.args.host c.args.direction c.args.p (sym c.is_used.ensures ∙ c.if-not-is_used.false) (is_moving_at t.comps c.args.host) (moving-is t.comps c.args.host c.refuses.ensures.kept.named.comps) (sym c.refuses.ensures.refused ∙ c.if-refuses.true))

pub returns-clause-state : goal.returns-clause-state
returns-clause-state c = λ f settled.
    let t : Tables = c.args.registry.now in
    let view : view_by c.set_stream.new.self ≡ record { graph = graph_of t; streams = map (set_stream c.args.host Prepared (Some c.args.p)) (streams_of t) } =
    ap view_by c.set_stream.ensures
    ∙ ap (λ (p : List Comp × List StreamView). let v : View = record { graph = record { comps = p.0; edges = map edge_by t.buffers; pipes = map pipe_by t.pipes; joins = t.joins }; streams = p.1 } in v) (λ i. (c.settings_are_seen.ensures.comps c.args.host Prepared (Some c.args.p) t.comps i, c.settings_are_seen.ensures.streams c.args.host Prepared (Some c.args.p) t.comps i)) in
    ap (λ (g : FwState). let r : Result FwState ℤ = Ok g in r) (
    state-prepared c.args.host c.args.p t c.set_stream.new.self c.refuses.ensures.kept c.set_stream.ensures view (rest-passes (view_by t) c.args.host c.args.direction c.args.p (is_moving_at t.comps c.args.host) (sym c.refuses.ensures.refused ∙ c.if-refuses.false)) f settled
    ∙ ap (λ (v : View). seen v None (with_tables t f)) view)
    ∙ sym (params-done (with_tables t f) c.args.host c.args.direction c.args.p (sym c.is_used.ensures ∙ c.if-not-is_used.false) (is_moving_at t.comps c.args.host) (moving-is t.comps c.args.host c.refuses.ensures.kept.named.comps) (sym c.refuses.ensures.refused ∙ c.if-refuses.false))
