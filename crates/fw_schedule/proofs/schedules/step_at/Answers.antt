use Rattle.std.proofs.Common.{◌≡◌, sym, ap, ◌∙◌, subst, ℕ, ◌+◌, ◌/◌, ◌≤◌, ◌++◌, List, append_assoc, length, length-append, get_or, ◌||◌, ◌==◌, Option, Some, arith}
use Rattle.std.specs.Prelude.{find, slice_range}
use Rattle.std.specs.Option.{option_map_or}
use Rattle.sof_base.specs.declared.format.Params.{Params}
use Rattle.stream_law.specs.declared.graph.Kind.{Kind}
use Rattle.stream_law.specs.Ways.{rate_of, channels_of}
use Rattle.stream_law.specs.Moves.{skips_idle_inputs, period, fed_by}
use Rattle.stream_law.specs.Endpoints.{is_input}
use Rattle.fw_units.specs.declared.component.Component.{Component}
use Rattle.fw_components.specs.Tables.{view_by}
use Rattle.fw_units.specs.Units.{period_by}
use Rattle.fw_schedule.specs.Outputs.{is_output_kind}
use Rattle.fw_schedule.specs.Schedules.{inlets_of, step_edges}
use Rattle.fw_schedule.proofs.EdgePlaces.{graph-place}
use Rattle.fw_schedule.proofs.AtPlaces.{own-at, kind-at, chooses-at, format-at, period-at}
use Rattle.fw_schedule.proofs.StepLaws.{front-more, behind}
use Rattle.fw_schedule.proofs.schedules.step_at.Goals as goal

pub add_inlets-requires-clause-chooses : goal.add_inlets-requires-clause-chooses
add_inlets-requires-clause-chooses c =
    let t = c.args.registry.now in let kept = c.comps-comps.ensures.kept in let at = c.args.at in let d = c.index-comps-at.result in
    let is : d ≡ get_or t.comps at d = c.index-comps-at.is ∙ ap (λ (cs : List Component). get_or cs at d) c.comps-comps.ensures.items in
    c.chooses.ensures ∙ ap (λ (k : Kind). skips_idle_inputs k) c.kind_of-kind.ensures ∙ chooses-at t kept at c.requires.there d is

pub add_inlets-requires-clause-room : goal.add_inlets-requires-clause-room
add_inlets-requires-clause-room c =
    let t = c.args.registry.now in let kept = c.comps-comps.ensures.kept in let at = c.args.at in let d = c.index-comps-at.result in
    let is : d ≡ get_or t.comps at d = c.index-comps-at.is ∙ ap (λ (cs : List Component). get_or cs at d) c.comps-comps.ensures.items in
    let room = subst (λ n. length c.args.ends.now.ids.items + length (step_edges (view_by t) n) ≤ 256) (sym (own-at t kept at c.requires.there d is)) c.requires.room in
    omega (arith, room, length-append (inlets_of (view_by t) d.id) (fed_by (view_by t) d.id))

pub add_outlets-requires-clause-room : goal.add_outlets-requires-clause-room
add_outlets-requires-clause-room c =
    let t = c.args.registry.now in let kept = c.comps-comps.ensures.kept in let at = c.args.at in let d = c.index-comps-at.result in
    let is : d ≡ get_or t.comps at d = c.index-comps-at.is ∙ ap (λ (cs : List Component). get_or cs at d) c.comps-comps.ensures.items in
    let room = subst (λ n. length c.args.ends.now.ids.items + length (step_edges (view_by t) n) ≤ 256) (sym (own-at t kept at c.requires.there d is)) c.requires.room in
    omega (arith, room, ap length c.add_inlets.ensures.ids, length-append c.args.ends.now.ids.items (inlets_of (view_by t) d.id), length-append (inlets_of (view_by t) d.id) (fed_by (view_by t) d.id))

pub returns-clause-ends : goal.returns-clause-ends
returns-clause-ends c =
    let v = view_by c.args.registry.now in let d = c.index-comps-at.result in
    c.add_outlets.ensures.ids
    ∙ ap (λ (ids : List ℕ). ids ++ fed_by v d.id) c.add_inlets.ensures.ids
    ∙ append_assoc c.args.ends.now.ids.items (inlets_of v d.id) (fed_by v d.id)

pub returns-clause-id : goal.returns-clause-id
returns-clause-id c =
    let t = c.args.registry.now in let kept = c.comps-comps.ensures.kept in let at = c.args.at in let d = c.index-comps-at.result in
    own-at t kept at c.requires.there d (c.index-comps-at.is ∙ ap (λ (cs : List Component). get_or cs at d) c.comps-comps.ensures.items)

pub returns-clause-step : goal.returns-clause-step
unfolding channels_of rate_of
returns-clause-step c =
    let t = c.args.registry.now in let v = view_by t in let kept = c.comps-comps.ensures.kept in let at = c.args.at in let d = c.index-comps-at.result in
    let is : d ≡ get_or t.comps at d = c.index-comps-at.is ∙ ap (λ (cs : List Component). get_or cs at d) c.comps-comps.ensures.items in
    let params = c.live_params-params.ensures in
    let period : c.period_in-micros.result / 1000 ≡ period v d.id =
    ap (λ n. n / 1000) (c.period_in-micros.ensures ∙ ap (λ (ps : List Component). option_map_or (λ p. period_by p.unit) (find (λ p. p.pipe == d.pipe) ps) 0) c.pipes.ensures.items)
    ∙ period-at t kept at c.requires.there d is in
    let rate = c.rate_in-rate.ensures ∙ ap (λ (o : Option Params). option_map_or (λ p. p.rate) o 0) params in
    let first = c.len-first.ensures.value in
    let past = c.len-past.ensures.value in
    let end = c.len.ensures.value in
    let old = c.args.ends.now.ids.items in let mid = c.add_inlets.new.ends.ids.items in let new = c.add_outlets.new.ends.ids.items in
    let inlets = c.add_inlets.ensures.ids in let outlets = c.add_outlets.ensures.ids in
    let low : c.len-first.result ≤ c.len-past.result = omega (arith, first, past, ap length inlets, length-append old (inlets_of v d.id)) in
    let slice : slice_range new c.len-past.result c.len.result ≡ fed_by v d.id =
    ap (λ (ids : List ℕ). slice_range ids c.len-past.result c.len.result) outlets ∙ behind mid (fed_by v d.id) c.len-past.result c.len.result past (end ∙ ap length outlets) in
    record {
      place = graph-place t.comps at d kept.named.comps c.requires.there is;
      kind = kind-at t kept at c.requires.there d is ∙ ap (λ (k : Kind). Some k) (sym c.kind_of-kind.ensures);
      format = λ passes. c.format_in.ensures ∙ format-at t kept at c.requires.there d is (ap (λ (k : Kind). is_input k || is_output_kind k) (sym c.kind_of-kind.ensures) ∙ passes);
      active = c.active.ensures;
      channels = c.channels_in.ensures ∙ ap (λ (o : Option Params). option_map_or (λ p. p.channels) o 0) params;
      period = period;
      rate = rate;
      whole = c.frames_of_period-frames.ensures.whole;
      over = c.frames_of_period-frames.ensures.over;
      within = (low, omega (arith, past, end, ap length outlets, length-append mid (fed_by v d.id)), omega (arith, end));
      inlets =
          ap (λ (ids : List ℕ). slice_range ids c.len-first.result c.len-past.result) outlets
          ∙ front-more mid (fed_by v d.id) c.len-first.result c.len-past.result low (omega (arith, past))
          ∙ ap (λ (ids : List ℕ). slice_range ids c.len-first.result c.len-past.result) inlets
          ∙ behind old (inlets_of v d.id) c.len-first.result c.len-past.result first (past ∙ ap length inlets);
      outlets = slice;
    }
