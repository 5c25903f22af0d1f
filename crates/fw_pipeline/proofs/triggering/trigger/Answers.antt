use Rattle.std.proofs.Common.{◌≡◌, sym, ap, ◌∙◌, ℕ, Bool, Option, Some}
use Rattle.std.proofs.lemmas.Bool.{and_parts}
use Rattle.sof_base.specs.declared.format.Params.{Params}
use Rattle.stream_law.specs.declared.stream.Phase.{Phase}
use Rattle.stream_law.specs.State.{View}
use Rattle.stream_law.specs.Ways.{live}
use Rattle.mbox_link.specs.Step.{has_kind, is_host, kind_at}
use Rattle.fw_components.specs.Tables.{Tables, graph_of, streams_of}
use Rattle.fw_pipeline.specs.Triggers.{leaves, phase_after, params_after}
use Rattle.fw_pipeline.proofs.TriggerRows.{stream-there, host-unit}
use Rattle.fw_pipeline.proofs.Triggered.{seen-begun, ids-set}
use Rattle.fw_pipeline.proofs.TriggerDoes.{set_tables, trigger-does}
use Rattle.fw_pipeline.proofs.triggering.trigger.Goals as goal

pub set_stream-requires-clause-host : goal.set_stream-requires-clause-host
set_stream-requires-clause-host c =
    let t : Tables = c.args.registry.now in
    host-unit t.comps c.args.host (stream-there (leaves c.args.what) c.args.host (streams_of t) (and_parts (has_kind is_host (kind_at (graph_of t) c.args.host)) _ (sym c.in-Some.ensures.left)).1)

pub live_marks-after-requires : goal.live_marks-after-requires
live_marks-after-requires c =
    let t : Tables = c.args.registry.now in let p : Params = c.in-Some.p in
    let set : c.set_stream.new.self ≡ set_tables c.args.host (phase_after c.args.what) (params_after c.args.what (Some p)) t = c.set_stream.ensures ∙ ap (λ (q : Phase × Option Params). set_tables c.args.host q.0 q.1 t) (λ i. (c.phase_after.ensures i, c.params_after.ensures.params i)) in
    record {
      ids = c.places-places.ensures.ids ∙ sym (ids-set c.args.what c.args.host p t c.set_stream.new.self set (c.settings_are_seen.ensures.streams c.args.host (phase_after c.args.what) (params_after c.args.what (Some p)) t.comps));
      joins = c.places-places.ensures.joins ∙ sym (ap (λ (u : Tables). u.joins) set);
    }

pub begin_each-requires-clause-ids : goal.begin_each-requires-clause-ids
begin_each-requires-clause-ids c =
    let t : Tables = c.args.registry.now in let p : Params = c.in-Some.p in
    let set : c.set_stream.new.self ≡ set_tables c.args.host (phase_after c.args.what) (params_after c.args.what (Some p)) t = c.set_stream.ensures ∙ ap (λ (q : Phase × Option Params). set_tables c.args.host q.0 q.1 t) (λ i. (c.phase_after.ensures i, c.params_after.ensures.params i)) in
    c.places-places.ensures.ids ∙ sym (ids-set c.args.what c.args.host p t c.set_stream.new.self set (c.settings_are_seen.ensures.streams c.args.host (phase_after c.args.what) (params_after c.args.what (Some p)) t.comps))

pub end_each-requires-clause-live : goal.end_each-requires-clause-live
end_each-requires-clause-live c = λ x.
    c.live_marks-after.ensures x ∙ ap (λ (v : View). live v x) (sym (seen-begun c.in-Some.p.channels c.in-Some.p.rate _ c.set_stream.new.self c.begin_each.new.registry c.begin_each.ensures.comps c.begin_each.ensures.buffers c.begin_each.ensures.pipes c.begin_each.ensures.joins))

pub returns-clause-done : goal.returns-clause-done
returns-clause-done c =
    let t : Tables = c.args.registry.now in
    (trigger-does c.args.what c.args.host c.in-Some.p t c.set_stream.new.self c.begin_each.new.registry c.end_each.new.registry c.left_at.ensures.kept (sym c.is_used.ensures ∙ c.if-not-is_used.false) (sym c.in-Some.ensures.left) c.in-Some.ensures.params.0
    (c.set_stream.ensures ∙ ap (λ (q : Phase × Option Params). set_tables c.args.host q.0 q.1 t) (λ i. (c.phase_after.ensures i, c.params_after.ensures.params i)))
    (c.settings_are_seen.ensures.streams c.args.host (phase_after c.args.what) (params_after c.args.what (Some c.in-Some.p)) t.comps)
    c.places-places.result.ids c.live_marks-before.result c.live_marks-after.result c.live_marks-before.ensures c.live_marks-after.ensures
    c.begin_each.ensures.comps c.begin_each.ensures.buffers c.begin_each.ensures.pipes c.begin_each.ensures.joins c.end_each.ensures).done

pub returns-clause-answer : goal.returns-clause-answer
returns-clause-answer c =
    let t : Tables = c.args.registry.now in
    (trigger-does c.args.what c.args.host c.in-Some.p t c.set_stream.new.self c.begin_each.new.registry c.end_each.new.registry c.left_at.ensures.kept (sym c.is_used.ensures ∙ c.if-not-is_used.false) (sym c.in-Some.ensures.left) c.in-Some.ensures.params.0
    (c.set_stream.ensures ∙ ap (λ (q : Phase × Option Params). set_tables c.args.host q.0 q.1 t) (λ i. (c.phase_after.ensures i, c.params_after.ensures.params i)))
    (c.settings_are_seen.ensures.streams c.args.host (phase_after c.args.what) (params_after c.args.what (Some c.in-Some.p)) t.comps)
    c.places-places.result.ids c.live_marks-before.result c.live_marks-after.result c.live_marks-before.ensures c.live_marks-after.ensures
    c.begin_each.ensures.comps c.begin_each.ensures.buffers c.begin_each.ensures.pipes c.begin_each.ensures.joins c.end_each.ensures).answer

pub returns-clause-state : goal.returns-clause-state
returns-clause-state c =
    let t : Tables = c.args.registry.now in
    (trigger-does c.args.what c.args.host c.in-Some.p t c.set_stream.new.self c.begin_each.new.registry c.end_each.new.registry c.left_at.ensures.kept (sym c.is_used.ensures ∙ c.if-not-is_used.false) (sym c.in-Some.ensures.left) c.in-Some.ensures.params.0
    (c.set_stream.ensures ∙ ap (λ (q : Phase × Option Params). set_tables c.args.host q.0 q.1 t) (λ i. (c.phase_after.ensures i, c.params_after.ensures.params i)))
    (c.settings_are_seen.ensures.streams c.args.host (phase_after c.args.what) (params_after c.args.what (Some c.in-Some.p)) t.comps)
    c.places-places.result.ids c.live_marks-before.result c.live_marks-after.result c.live_marks-before.ensures c.live_marks-after.ensures
    c.begin_each.ensures.comps c.begin_each.ensures.buffers c.begin_each.ensures.pipes c.begin_each.ensures.joins c.end_each.ensures).state

pub returns-clause-homes : goal.returns-clause-homes
returns-clause-homes c =
    let t : Tables = c.args.registry.now in
    (trigger-does c.args.what c.args.host c.in-Some.p t c.set_stream.new.self c.begin_each.new.registry c.end_each.new.registry c.left_at.ensures.kept (sym c.is_used.ensures ∙ c.if-not-is_used.false) (sym c.in-Some.ensures.left) c.in-Some.ensures.params.0
    (c.set_stream.ensures ∙ ap (λ (q : Phase × Option Params). set_tables c.args.host q.0 q.1 t) (λ i. (c.phase_after.ensures i, c.params_after.ensures.params i)))
    (c.settings_are_seen.ensures.streams c.args.host (phase_after c.args.what) (params_after c.args.what (Some c.in-Some.p)) t.comps)
    c.places-places.result.ids c.live_marks-before.result c.live_marks-after.result c.live_marks-before.ensures c.live_marks-after.ensures
    c.begin_each.ensures.comps c.begin_each.ensures.buffers c.begin_each.ensures.pipes c.begin_each.ensures.joins c.end_each.ensures).homes
