-- At each stage between what is up and the whole a tick may come: edges have ends and no cycle, and each component on the way of a stream
-- that runs has the edges of its kind.
use Rattle.std.proofs.Common.{◌≡◌, sym, ap, ◌∙◌, subst, ℕ, zero, suc, List, length, filter, Bool, true, false, not, ◌==◌, ◌&&◌, ◌||◌, Option, Some, None, is_some}
use Rattle.std.specs.Prelude.{find}
use Rattle.std.specs.Option.{option_map_or, option_and_then}
use Rattle.std.specs.List.{list_all, zip}
use Rattle.std.proofs.lemmas.Bool.{true≢false, false≢true, and_parts, eqb-true}
use Rattle.sof_base.specs.declared.format.Params.{Params}
use Rattle.stream_law.specs.declared.graph.Comp.{Comp}
use Rattle.stream_law.specs.declared.graph.Edge.{Edge}
use Rattle.stream_law.specs.declared.graph.Join.{Join}
use Rattle.stream_law.specs.declared.graph.Graph.{Graph}
use Rattle.stream_law.specs.declared.stream.StreamView.{StreamView}
use Rattle.stream_law.specs.State.{View}
use Rattle.stream_law.specs.Joins.{fits_kind}
use Rattle.stream_law.specs.Order.{is_among}
use Rattle.stream_law.specs.Viewing.{IsPlayable}
use Rattle.stream_law.specs.Walks.{LeadsTo, Walk, HasCycle, HasEnds}
use Rattle.stream_law.specs.Ways.{comp_of, edge_of, components, source_of, sink_of, ins, outs, on_way, is_complete, is_running_phase, active}
use Rattle.stream_law.proofs.Members.{IsIn, in-all, any-in, find-in, kept-in}
use Rattle.stream_law.proofs.Walking.{Walks, walk-on, walks-lead}
use Rattle.stream_law.proofs.Whole.{order-whole}
use Rattle.mbox_link.specs.Step.{is_ready_comp, is_ready_edge, is_way_ready}
use Rattle.tplg_plan.specs.declared.plans.Plan.{Plan}
use Rattle.tplg_plan.specs.Sound.{IsSound, IsSideOf}
use Rattle.host_widgets.specs.declared.kept.Found.{Found}
use Rattle.host_widgets.specs.declared.kept.Found.TheVariants as founds
use Rattle.host_widgets.specs.declared.kept.Record.{Record}
use Rattle.host_widgets.specs.declared.kept.StreamRec.{StreamRec}
use Rattle.host_widgets.specs.Expected.{stream_view, phase_of}
use Rattle.host_widgets.specs.HostRecord.{may_have}
use Rattle.host_widgets.proofs.NamedIds.{buffer-found}
use Rattle.host_widgets.proofs.Needs.{in-among, among-in}
use Rattle.host_widgets.proofs.Between.{IsBetween, member-found, found-member, join-into, join-outof}
use Rattle.host_widgets.proofs.HostStreams.{stream-comp, in-zip}
use Rattle.host_widgets.proofs.StageBetween.{mapped, amid-has, comp-at, at-edge, stage-between}
use Rattle.host_widgets.proofs.StageReady.{way-ready}
use Rattle.host_widgets.proofs.StageStays.{AreHeldUp, pass-each, from-map}
use Rattle.host_widgets.proofs.UpStages.{Stage, StreamPair, stage_graph, stage_streams, IsAmid}

-- the end of an edge is that of one that is there
edge-with : (pick : Edge → Option ℕ) (m : Graph) (b a : ℕ) → option_and_then pick (edge_of m b) ≡ Some a → (e : Edge) × (edge_of m b ≡ Some e) × (pick e ≡ Some a)
edge-with pick m b a is = by (edge_of m b) (λ i. edge_of m b) is
  where
    by : (o : Option Edge) → edge_of m b ≡ o → option_and_then pick o ≡ Some a → (e : Edge) × (edge_of m b ≡ Some e) × (pick e ≡ Some a)
    by None at none = absurd (cc none)
    by (Some e) at some = (e, at, some)

-- a stream that runs has parameters
running-has : (found : Found) (params : Option Params) → may_have found params ≡ true → is_running_phase (phase_of found) ≡ true → is_some params ≡ true
running-has founds.Running (Some p) may is = λ i. true
running-has founds.Running None may is = absurd (false≢true may)
running-has founds.Paused params may is = absurd (false≢true is)
running-has found params may is = absurd (false≢true is)

or-second : (a b : Bool) → (not a || b) ≡ true → a ≡ true → b ≡ true
or-second true b is on = is
or-second false b is on = absurd (false≢true on)

module _ (plan : Plan) (sound : IsSound plan) (kept : Record) (up n : List ℕ) (st : Stage) (amid : IsAmid plan up n st) (held : AreHeldUp plan kept up) (each : list_all (λ (r : StreamRec). may_have r.found r.params) kept.streams ≡ true) where
  abbrev g : Graph
  g = plan.graph

  abbrev k : Graph
  k = stage_graph plan kept st

  abbrev v : View
  v = record { graph = k; streams = stage_streams plan kept st }

  between : IsBetween plan.graph up k
  between = stage-between plan sound kept up n st amid

  -- ---- ends

  -- what a join there names is there
  comp-there : (a : ℕ) (d : Comp) → comp_of g a ≡ Some d → st.has a ≡ true → is_among (components k) a ≡ true
  comp-there a d found here = in-among (components k) a (found-member (λ (x : Comp). x.id) k.comps a _ (comp-at plan sound kept st a d found here))

  source-there : (b a : ℕ) → source_of k b ≡ Some a → is_among (components k) a ≡ true
  source-there b a end =
      let e = edge-with (λ (x : Edge). x.source) k b a end in
      let f = at-edge plan sound kept st b e.0 e.1 in
      let x = between.edge_whole b e.0 e.1 in
      let j = mapped (λ (j : Join). j.source) (find (λ (j : Join). j.sink == f.0.buffer) st.joins) a (ap (λ (x : Edge). x.source) f.3 ∙ e.2) in
      let there = amid.joins j.0 (find-in (λ (j : Join). j.sink == f.0.buffer) st.joins j.0 j.1).0 in
      let named = (buffer-found plan sound b x.0 x.1).is in
      let same : named.source.id ≡ a = cc (sym named.from.0 ∙ x.2 a e.2) in
      comp-there a named.source (ap (comp_of g) (sym same) ∙ named.from.1) (ap st.has (sym j.2) ∙ there.1)

  sink-there : (b a : ℕ) → sink_of k b ≡ Some a → is_among (components k) a ≡ true
  sink-there b a end =
      let e = edge-with (λ (x : Edge). x.sink) k b a end in
      let f = at-edge plan sound kept st b e.0 e.1 in
      let x = between.edge_whole b e.0 e.1 in
      let j = mapped (λ (j : Join). j.sink) (find (λ (j : Join). j.source == f.0.buffer) st.joins) a (ap (λ (x : Edge). x.sink) f.3 ∙ e.2) in
      let there = amid.joins j.0 (find-in (λ (j : Join). j.source == f.0.buffer) st.joins j.0 j.1).0 in
      let named = (buffer-found plan sound b x.0 x.1).is in
      let same : named.sink.id ≡ a = cc (sym named.to.0 ∙ x.3 a e.2) in
      comp-there a named.sink (ap (comp_of g) (sym same) ∙ named.to.1) (ap st.has (sym j.2) ∙ there.2)

  ends : HasEnds k
  ends = record { sources = source-there; sinks = sink-there }

  -- ---- no cycle

  -- an edge is a join of the whole and a walk on from it
  leads-walk : (a c : ℕ) → LeadsTo k a c → (j : Join) × IsIn j g.joins × (j.source ≡ a) × Walks g.joins j.sink c
  leads-walk a c l =
      let e = edge-with (λ (x : Edge). x.source) k l.buffer a l.source in
      let f = edge-with (λ (x : Edge). x.sink) k l.buffer c l.sink in
      let x = between.edge_whole l.buffer e.0 e.1 in
      let y = between.edge_whole l.buffer f.0 f.1 in
      let j = join-into plan sound up l.buffer x.0 a x.1 (x.2 a e.2) in
      let h = join-outof plan sound up l.buffer y.0 c y.1 (y.3 c f.2) in
      (j.0, j.1, j.2, (1, (h.0, h.1, h.2 ∙ sym j.3, h.3)))

  walks-of : (n a c : ℕ) → Walk k n a c → Walks g.joins a c
  walks-of zero a c w = (0, w)
  walks-of (suc n) a c (m, l, rest) =
      let t = leads-walk a m l in
      let w = walk-on g.joins t.3.0 t.0.sink m c t.3.1 (walks-of n m c rest) in
      (suc w.0, (t.0, t.1, t.2, w.1))

  no-cycle : HasCycle k → ⊥
  no-cycle (c, n, (m, l, rest)) =
      let t = leads-walk c m l in
      let w = subst (Walks g.joins t.0.sink) (sym t.2) (walk-on g.joins t.3.0 t.0.sink m c t.3.1 (walks-of n m c rest)) in
      true≢false (sym (walks-lead g.joins t.0.sink t.0.source w) ∙ (in-all (IsSideOf g) g.joins t.0 sound.joins t.1).open_ends)

  -- ---- the edges of a component

  abbrev fits_at : ℕ → Option Comp → Bool
  fits_at c o = option_map_or (λ x. fits_kind x.kind (length (ins k c)) (length (outs k c))) o false

  -- on the way of a stream that runs
  fits : (c : ℕ) → is_among (components k) c ≡ true → active v c ≡ true → fits_at c (comp_of k c) ≡ true
  unfolding active is_way_ready
  fits c among runs =
      let r = any-in (λ (x : StreamView). is_running_phase x.phase && on_way k x.host c) v.streams runs in
      let p = from-map stream_view (filter (λ (q : StreamPair). st.has q.0.host) (zip plan.streams kept.streams)) r.0 r.1 in
      let host = p.0.0.host in
      let parts = and_parts (is_running_phase (phase_of p.0.1.found)) (on_way k host c) (ap (λ (x : StreamView). is_running_phase x.phase && on_way k x.host c) (sym p.2) ∙ r.2) in
      let there = (kept-in (λ (q : StreamPair). st.has q.0.host) (zip plan.streams kept.streams) p.0 p.1).0 in
      let own = stream-comp plan sound kept p.0 there in
      let some = running-has p.0.1.found p.0.1.params (pass-each (λ (r : StreamRec). may_have r.found r.params) kept.streams p.0.1 each (in-zip plan.streams kept.streams p.0 there).1) parts.0 in
      let ready = way-ready plan sound kept up st (amid-has plan sound up n st amid) host (held p.0 there some) own.0 own.1 own.2 in
      let all = (and_parts (list_all (λ (x : Comp). not (on_way k host x.id) || is_ready_comp k x) k.comps) (list_all (λ (e : Edge). not (on_way k host e.buffer) || is_ready_edge k e) k.edges) ready).0 in
      let y = member-found (λ (x : Comp). x.id) k.comps c (among-in (components k) c among) in
      let f = find-in (λ (x : Comp). x.id == c) k.comps y.0 y.1 in
      let same = eqb-true y.0.id c f.1 in
      let one = pass-each (λ (x : Comp). not (on_way k host x.id) || is_ready_comp k x) k.comps y.0 all f.0 in
      let right = and_parts (is_complete k y.0.pipe) (fits_kind y.0.kind (length (ins k y.0.id)) (length (outs k y.0.id))) (or-second (on_way k host y.0.id) (is_ready_comp k y.0) one (ap (on_way k host) same ∙ parts.1)) in
      ap (fits_at c) y.1 ∙ ap (λ (id : ℕ). fits_kind y.0.kind (length (ins k id)) (length (outs k id))) (sym same) ∙ right.1

  pub stage-plays : IsPlayable (record { graph = stage_graph plan kept st; streams = stage_streams plan kept st })
  stage-plays = record { ends = ends; ordered = order-whole k ends no-cycle; fits = fits }
