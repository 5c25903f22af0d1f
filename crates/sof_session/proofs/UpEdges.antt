-- What is there of a host that makes pipelines on use: each edge is joined as the plan joins it, so edges there have no cycle.
use Rattle.std.proofs.Common.{◌≡◌, ◌⊎◌, inl, inr, refl, sym, ap, ◌∙◌, subst, ℕ, ◌+◌, ◌*◌, ◌<◌, Bool, true, false, cond, if◌then◌else◌, ◌==◌, List, [], length, Option, Some, None, unwrap_or, Result, Ok, Err, ℤ, arith}
use Rattle.std.specs.Prelude.{find, nat_le, not, is_some, ◌&&◌, ◌||◌, option_and_then}
use Rattle.std.specs.List.{AllByRecursion, list_any}
use Rattle.std.proofs.lemmas.Bool.{eqb-true}
use Rattle.stream_law.specs.declared.graph.Comp.{Comp}
use Rattle.stream_law.specs.declared.graph.Edge.{Edge}
use Rattle.stream_law.specs.declared.graph.Join.{Join as Joined}
use Rattle.stream_law.specs.declared.graph.Pipe.{Pipe}
use Rattle.stream_law.specs.declared.graph.Setting.{Setting}
use Rattle.stream_law.specs.declared.graph.Graph.{Graph}
use Rattle.stream_law.specs.declared.stream.Phase.{Phase}
use Rattle.stream_law.specs.declared.stream.Phase.TheVariants.{Idle, Prepared, Running, Paused}
use Rattle.stream_law.specs.declared.stream.StreamView.{StreamView}
use Rattle.sof_base.specs.BlobFaults.{is_blob}
use Rattle.sof_base.specs.declared.part.Part.{Part as Staged}
use Rattle.stream_law.specs.Joins.{joined_edge, stays}
use Rattle.stream_law.specs.Seen.{seen, is_volume, is_equaliser}
use Rattle.stream_law.specs.State.{FwState, view_of}
use Rattle.stream_law.specs.Ways.{comp_of, edge_of, is_of, is_live_phase, is_running_phase}
use Rattle.stream_law.proofs.Members.{IsIn, in-all, find-in}
use Rattle.ipc3_model.specs.declared.message.Message.{Message}
use Rattle.ipc3_model.specs.declared.message.Message.TheVariants as messages
use Rattle.mbox_link.specs.BlobParts.{is_last}
use Rattle.mbox_link.specs.Step.{no_memory, busy, no_device, invalid, has_comp, has_edge, is_used, has_index, kind_at, has_kind, comp_bytes, buffer_bytes, pipe_bytes, has_hole, is_complete, kind_of, is_joined, is_refused_join, complete_pipe, has_complete_pipe, touches, is_held, without_edge, is_index_held, free_pipe, new_setting, with_setting_at, value_set, control_values_at, staging_at, keeps_order, staged_bytes, part_staged, part_at, is_host, phase_at, set_stream, is_stream_phase, is_refused_params, set_phase, is_prepared, is_paused, stream_changed, row}
use Rattle.tplg_plan.specs.declared.plans.Plan.{Plan}
use Rattle.tplg_plan.specs.declared.plans.ControlKind.TheVariants as controls
use Rattle.tplg_plan.specs.Sound.{IsSound, IsSideOf, FillsBuffer, DrainsBuffer}
use Rattle.host_widgets.specs.declared.trigger.Trigger.TheVariants as triggers
use Rattle.host_widgets.specs.ActMessages.{act_message}
use Rattle.host_widgets.specs.HostActs.{Make, Join, Put, Part, Trig, Ask, Act, Unmake}
use Rattle.host_widgets.specs.Kept.{first_record}
use Rattle.host_widgets.proofs.NamedIds.{buffer-found}
use Rattle.host_widgets.specs.There.{There, there_view, silent_state, row_left, by_part, there_after}
use Rattle.host_widgets.proofs.Sublists.{all-filter, all-placed}
use Rattle.sof_session.specs.RunLaws.{HasRanks}
use Rattle.sof_session.proofs.EachMessage.{make-so, unmake-so, put-so, ask-so, trigger-so}
use Rattle.sof_session.proofs.OrderActs.{all-along}
use Rattle.sof_session.proofs.RankedRuns.{record-ranks}

abbrev pub join : ℕ → ℕ → Joined
join source sink = record { source = source; sink = sink }

module _ (plan : Plan) where
  -- the plan joins these two
  abbrev pub IsPlanned : ℕ → ℕ → Type 0
  IsPlanned source sink = IsIn (join source sink) plan.graph.joins

  abbrev pub FilledBy : Option ℕ → ℕ → Type 0
  FilledBy None b = Unit {0}
  FilledBy (Some a) b = IsPlanned a b

  abbrev pub DrainedTo : ℕ → Option ℕ → Type 0
  DrainedTo b None = Unit {0}
  DrainedTo b (Some c) = IsPlanned b c

  -- the plan joins an edge's buffer to its ends
  abbrev pub IsEdgeOf : Edge → Type 0
  IsEdgeOf e = FilledBy e.source e.buffer × DrainedTo e.buffer e.sink

  abbrev pub AreEdges : There → Type 0
  AreEdges t = AllByRecursion IsEdgeOf t.graph.edges

  -- ---- rows

  -- a join sets an end
  joined : (j : Joined) → IsIn j plan.graph.joins → (e : Edge) → IsEdgeOf e → IsEdgeOf (joined_edge j e)
  joined j there e is = first (e.buffer == j.source) refl
    where
      second : (b : Bool) → (e.buffer == j.sink) ≡ b → IsEdgeOf (if b then record { buffer = e.buffer; pipe = e.pipe; size = e.size; source = Some j.source; sink = e.sink } else e)
      second true at = (subst (λ (x : ℕ). IsPlanned j.source x) (sym (eqb-true e.buffer j.sink at)) there, is.1)
      second false at = is

      first : (b : Bool) → (e.buffer == j.source) ≡ b →
          IsEdgeOf (if b then record { buffer = e.buffer; pipe = e.pipe; size = e.size; source = e.source; sink = Some j.sink } else (if e.buffer == j.sink then record { buffer = e.buffer; pipe = e.pipe; size = e.size; source = Some j.source; sink = e.sink } else e))
      first true at = (is.0, subst (λ (x : ℕ). IsPlanned x j.sink) (sym (eqb-true e.buffer j.source at)) there)
      first false at = second (e.buffer == j.sink) refl

  -- ---- messages

  -- a message joins nothing but what the plan joins
  abbrev IsTold : Message → Type 0
  IsTold (messages.Connect source sink) = IsPlanned source sink
  IsTold m = Unit {0}

  -- ---- acts

  -- an act joins nothing else
  abbrev pub IsOfPlan : Act → Type 0
  IsOfPlan (Join source sink) = IsPlanned source sink
  IsOfPlan act = Unit {0}

  -- ---- what an act leaves

  module _ (t : There) (are : AreEdges t) where
    abbrev f : FwState
    f = silent_state t

    abbrev g : Graph
    g = t.graph

    -- what a row leaves
    record Leaves (r : Result FwState ℤ) : Type 0 where
      edges : AreEdges (row_left t r)

    -- by a test of it
    test : (b : Bool) (x y : Result FwState ℤ) → Leaves x → Leaves y → Leaves (cond b x y)
    test true x y first second = first
    test false x y first second = second

    -- a refusal leaves what is there
    refused : (e : ℤ) → Leaves (Err e)
    refused e = record { edges = are }

    freed : (id : ℕ) (p : Option Pipe) → Leaves (free_pipe f id p)
    freed id None = refused invalid
    freed id (Some p) = test (is_index_held g t.streams p.index) _ _ (refused invalid) (record { edges = are })

    finished : (id : ℕ) (p : Option Pipe) → Leaves (complete_pipe f id p)
    finished id None = refused invalid
    finished id (Some p) =
        test (not (is_used g p.sched)) _ _ (refused no_device) (test p.complete _ _ (refused busy) (test (not (has_comp g p.sched)) _ _ (refused invalid) (record { edges = are })))

    value-seen : (b : Bool) (id : ℕ) (setting : Setting) → Leaves (Ok (cond b (seen (with_setting_at f id setting) (Some id) f) (record f { graph = (with_setting_at f id setting).graph })))
    value-seen true id setting = record { edges = are }
    value-seen false id setting = record { edges = are }

    valued : (id : ℕ) (setting : Option Setting) → Leaves (value_set f id setting)
    valued id None = refused invalid
    valued id (Some setting) = value-seen (is_of g is_volume id) id setting

    staged : (id : ℕ) (bytes : List ℕ) (part : Staged) → Leaves (part_staged f id bytes part)
    staged id bytes part = test (not (part.remaining == 0)) _ _ (record { edges = are }) (test (not (is_blob bytes)) _ _ (refused invalid) (record { edges = are }))

    changed : (host : ℕ) (from : Phase → Bool) (to : StreamView → StreamView) → Leaves (stream_changed f host from to)
    changed host from to =
        test (not (is_used g host)) _ _ (refused no_device) (test (not (has_kind is_host (kind_at g host) && is_stream_phase from (phase_at f host))) _ _ (refused invalid) (record { edges = are }))

    row-leaves : (m : Message) → IsTold m → Leaves (row f m)
    row-leaves (messages.CompNew id pipe periods_sink periods_source frame_fmt kind) told =
        test (is_used g id || is_complete g pipe) _ _ (refused busy)
        (test (nat_le 128 (length g.comps) || not (has_hole f (comp_bytes (kind_of kind frame_fmt)))) _ _ (refused no_memory) (record { edges = are }))
    row-leaves (messages.CompFree id) told =
        test (not (is_used g id)) _ _ (refused no_device)
        (test (has_complete_pipe g id) _ _ (refused busy)
        (test (not (has_comp g id) || list_any (touches id) g.joins) _ _ (refused invalid) (record { edges = are })))
    row-leaves (messages.BufferNew id pipe size caps) told =
        test (is_used g id || is_complete g pipe) _ _ (refused busy)
        (test (nat_le 128 (length g.edges) || not (has_hole f (buffer_bytes size))) _ _ (refused no_memory)
        (record { edges = all-placed IsEdgeOf (λ (e : Edge). e.buffer) (record { buffer = id; pipe = pipe; size = size; source = None; sink = None }) g.edges (tt, tt) are }))
    row-leaves (messages.BufferFree id) told =
        test (not (is_used g id)) _ _ (refused no_device)
        (test (has_complete_pipe g id) _ _ (refused busy)
        (test (not (has_edge g id) || is_held g t.streams id || not (stays (view_of f) (without_edge id g))) _ _ (refused invalid)
        (record { edges = all-filter IsEdgeOf (λ (e : Edge). not (e.buffer == id)) g.edges are })))
    row-leaves (messages.PipeNew id pipe sched period priority mips frames time_domain) told =
        test (is_used g id || has_index g pipe) _ _ (refused busy)
        (test (nat_le 32 (length g.pipes) || not (has_hole f pipe_bytes)) _ _ (refused no_memory) (record { edges = are }))
    row-leaves (messages.PipeFree id) told = test (not (is_used g id)) _ _ (refused no_device) (freed id (find (λ (p : Pipe). p.id == id) g.pipes))
    row-leaves (messages.Connect source sink) told =
        test (not (is_used g source && is_used g sink)) _ _ (refused no_device)
        (test (is_joined g source sink) _ _ (refused busy)
        (test (is_refused_join f source sink) _ _ (refused invalid)
        (record { edges = all-along IsEdgeOf IsEdgeOf (joined_edge (join source sink)) (joined (join source sink) told) g.edges are })))
    row-leaves (messages.PipeComplete id) told = test (not (is_used g id)) _ _ (refused no_device) (finished id (find (λ (p : Pipe). p.id == id) g.pipes))
    row-leaves (messages.SetValue id command values) told =
        test (not (is_used g id)) _ _ (refused no_device) (valued id (option_and_then (λ (c : Comp). new_setting c.kind c.setting command values) (comp_of g id)))
    row-leaves (messages.GetValue id command) told =
        test (not (is_used g id)) _ _ (refused no_device) (test (not (is_some (control_values_at g id command))) _ _ (refused invalid) (record { edges = are }))
    row-leaves (messages.SetData id part) told =
        test (not (is_used g id)) _ _ (refused no_device)
        (test (not (has_kind is_equaliser (kind_at g id)) || not (keeps_order (staging_at f id) part)) _ _ (refused invalid) (staged id (staged_bytes (staging_at f id) part) part))
    row-leaves (messages.GetData id index) told =
        test (not (is_used g id)) _ _ (refused no_device) (test (not (is_some (part_at g id index))) _ _ (refused invalid) (record { edges = are }))
    row-leaves (messages.PcmParams host direction params) told =
        test (not (is_used g host)) _ _ (refused no_device)
        (test (is_refused_params (view_of f) host direction params (is_stream_phase is_live_phase (phase_at f host))) _ _ (refused invalid) (record { edges = are }))
    row-leaves (messages.PcmFree id) told = changed id is_prepared (set_stream id Idle None)
    row-leaves (messages.TrigStart id) told = changed id is_prepared (set_phase id Running)
    row-leaves (messages.TrigStop id) told = changed id is_live_phase (set_phase id Prepared)
    row-leaves (messages.TrigPause id) told = changed id is_running_phase (set_phase id Paused)
    row-leaves (messages.TrigRelease id) told = changed id is_paused (set_phase id Running)
    row-leaves messages.CtxSave told = record { edges = are }

    row-edges : (m : Message) → IsTold m → AreEdges (row_left t (row f m))
    row-edges m told = (row-leaves m told).edges

    parts : (comp : ℕ) (blob : List ℕ) (last : Bool) → AreEdges (by_part comp blob last t)
    parts comp blob false = are
    parts comp blob true = are

    pub there-edges : (act : Act) → IsOfPlan act → AreEdges (there_after plan act t)
    there-edges (Part comp blob k) is = parts comp blob (is_last blob k)
    there-edges (Make id) is = row-edges (act_message plan (Make id)) (make-so IsTold plan id (λ c. tt) (λ e. tt) (λ sched period. tt))
    there-edges (Join source sink) is = row-edges (messages.Connect source sink) is
    there-edges (Put comp values) is = row-edges (act_message plan (Put comp values)) (put-so IsTold plan comp values (λ command sent. tt))
    there-edges (Trig host what) is = row-edges (act_message plan (Trig host what)) (trigger-so IsTold plan host what tt tt tt tt)
    there-edges (Ask comp k) is = row-edges (act_message plan (Ask comp k)) (ask-so IsTold plan comp k (λ command. tt) tt)
    there-edges (Unmake id) is = row-edges (act_message plan (Unmake id)) (unmake-so IsTold plan id tt tt tt)
    there-edges act is = row-edges (act_message plan act) tt

  -- ---- ranks

  module _ (sound : IsSound plan) where
    -- those of the plan's components
    of-plan : HasRanks (record { graph = plan.graph; streams = [] })
    of-plan = let ranks = record-ranks plan sound (first_record plan) in (ranks.0, record { rises = ranks.1.rises })

    abbrev base : ℕ → ℕ
    base = of-plan.0

    -- a buffer comes after its source
    abbrev rank_by : Option Comp → Option Edge → ℕ → ℕ
    rank_by (Some c) e id = 2 * base id
    rank_by None (Some e) id = 2 * base (unwrap_or e.source 0) + 1
    rank_by None None id = 0

    abbrev rank : ℕ → ℕ
    rank id = rank_by (comp_of plan.graph id) (edge_of plan.graph id) id

    join-rises : (source sink : ℕ) → IsPlanned source sink → rank source < rank sink
    join-rises source sink there = by (in-all (IsSideOf plan.graph) plan.graph.joins (join source sink) sound.joins there).between
      where
        by : FillsBuffer plan.graph (join source sink) ⊎ DrainsBuffer plan.graph (join source sink) → rank source < rank sink
        by (inl (c, e, at_comp, at_edge, is_source)) =
            let b = buffer-found plan sound sink e at_edge in
            let first : rank source ≡ 2 * base source = ap (λ (o : Option Comp). rank_by o (edge_of plan.graph source) source) at_comp in
            let last : rank sink ≡ 2 * base source + 1 = (λ i. rank_by (b.no_comp i) (at_edge i) sink) ∙ ap (λ (o : Option ℕ). 2 * base (unwrap_or o 0) + 1) is_source in
            omega (arith, first, last)
        by (inr (e, c, at_edge, at_comp, is_sink)) =
            let b = buffer-found plan sound source e at_edge in
            let from : e.source ≡ Some b.is.source.id = b.is.from.0 in
            let first : rank source ≡ 2 * base b.is.source.id + 1 = (λ i. rank_by (b.no_comp i) (at_edge i) source) ∙ ap (λ (o : Option ℕ). 2 * base (unwrap_or o 0) + 1) from in
            let last : rank sink ≡ 2 * base sink = ap (λ (o : Option Comp). rank_by o (edge_of plan.graph sink) sink) at_comp in
            let up : base b.is.source.id < base sink =
            of-plan.1.rises source b.is.source.id sink (ap (option_and_then (λ (x : Edge). x.source)) at_edge ∙ from) (ap (option_and_then (λ (x : Edge). x.sink)) at_edge ∙ is_sink) in
            omega (arith, first, last, up)

    pub there-ranks : (t : There) → AreEdges t → HasRanks (there_view t)
    there-ranks t are = (rank, record { rises = λ b a c source sink. by b a c (edge_of t.graph b) refl source sink })
      where
        by : (b a c : ℕ) (o : Option Edge) → edge_of t.graph b ≡ o → option_and_then (λ (e : Edge). e.source) o ≡ Some a → option_and_then (λ (e : Edge). e.sink) o ≡ Some c → rank a < rank c
        by b a c None at source sink = absurd (cc source)
        by b a c (Some e) at source sink =
            let is : IsEdgeOf e = in-all IsEdgeOf t.graph.edges e are (find-in (λ (x : Edge). x.buffer == b) t.graph.edges e at).0 in
            let into : IsPlanned a e.buffer = subst (λ (o : Option ℕ). FilledBy o e.buffer) source is.0 in
            let out : IsPlanned e.buffer c = subst (λ (o : Option ℕ). DrainedTo e.buffer o) sink is.1 in
            let first : rank a < rank e.buffer = join-rises a e.buffer into in
            let last : rank e.buffer < rank c = join-rises e.buffer c out in
            omega (arith, first, last)
