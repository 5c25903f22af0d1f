-- The whole state once a stream has parameters is that of its row.
use Rattle.std.proofs.Common.{◌≡◌, refl, sym, ap, ◌∙◌, subst, ℕ, List, [], ◌∷◌, Bool, true, false, cond, map, ◌==◌, ◌&&◌, inl, inr, Option, Some, None}
use Rattle.std.specs.Option.{option_map_or}
use Rattle.std.specs.List.{list_any}
use Rattle.std.proofs.lemmas.Bool.{true≢false, and_parts, and_from, false_from_ne_true}
use Rattle.sof_base.specs.declared.format.Params.{Params}
use Rattle.stream_law.specs.declared.graph.Comp.{Comp}
use Rattle.stream_law.specs.declared.graph.Graph.{Graph}
use Rattle.stream_law.specs.declared.stream.Phase.TheVariants.{Prepared}
use Rattle.stream_law.specs.declared.stream.StreamView.{StreamView}
use Rattle.stream_law.specs.State.{FwState, View, RingView}
use Rattle.stream_law.specs.Ways.{live, live_end, on_way, is_live_phase, comp_of, source_of, sink_of}
use Rattle.stream_law.specs.Seen.{flows, ring_seen, keeps_numbers, remembers, numbers_in, marked, numbers_seen, seen}
use Rattle.stream_law.proofs.Members.{IsIn, in-any}
use Rattle.mbox_link.specs.Step.{set_stream}
use Rattle.fw_units.specs.declared.component.Component.{Component}
use Rattle.fw_units.specs.declared.component.Unit as units
use Rattle.fw_units.specs.declared.component.Unit.TheVariants.{Host}
use Rattle.fw_units.specs.Units.{numbers_by}
use Rattle.fw_components.specs.Tables.{Tables, view_by, graph_of, streams_of, all_of, rings_of}
use Rattle.fw_units.specs.Changes.{set_at}
use Rattle.fw_components.specs.Kept.{IsKept}
use Rattle.fw_walks.specs.declared.streams.Sort.TheVariants as sorts
use Rattle.fw_walks.specs.Streams.{is_sort, any_stream}
use Rattle.fw_places.proofs.WayWalks.{any-each}
use Rattle.fw_walks.proofs.OnWays.{any-map, any-streams}
use Rattle.fw_pipeline.specs.Preparing.{is_moving_at}
use Rattle.fw_components.specs.States.{with_tables}
use Rattle.fw_pipeline.proofs.Faces.{face, faces-set, faces-all, staging-same, pieces-same}
use Rattle.fw_pipeline.proofs.TriggerDoes.{set_tables}
use Rattle.fw_pipeline.proofs.StateAfter.{histories-each, history-own, set-numbers, set-id}

in-map : (f : Component → Component) (cs : List Component) (d : Component) → IsIn d (map f cs) → (c : Component) × (IsIn c cs × (d ≡ f c))
in-map f [] d there = absurd there
in-map f (c ∷ cs) d (inl same) = (c, (inl refl, same))
in-map f (c ∷ cs) d (inr more) = let r = in-map f cs d more in (r.0, (inr r.1.0, r.1.1))

none : (h : Bool) → false ≡ (h && false)
none true = refl
none false = refl

rings-alike : (v w : View) → ((b : ℕ) → flows w b ≡ flows v b) → (rs : List RingView) → map (ring_seen w) rs ≡ map (ring_seen v) rs
rings-alike v w same [] = refl
rings-alike v w same (r ∷ rs) = ap (λ (p : Bool × List RingView). let x : RingView = record { buffer = r.buffer; frames = cond p.0 r.frames [] } in x ∷ p.1) (λ i. (same r.buffer i, rings-alike v w same rs i))

module _ (host : ℕ) (p : Params) (t u : Tables) (kept : IsKept t) (set : u ≡ set_tables host Prepared (Some p) t)
    (seen_is : view_by u ≡ record { graph = graph_of t; streams = map (set_stream host Prepared (Some p)) (streams_of t) })
    (rests : is_moving_at t.comps host ≡ false) where
  abbrev v : View
  v = view_by t

  abbrev w : View
  w = view_by u

  abbrev to : StreamView → StreamView
  to = set_stream host Prepared (Some p)

  -- the stream of this host is not Live
  unit-rests : (id : ℕ) (unit : units.Unit) → any_stream (λ s. s.host == host && is_live_phase s.phase) id unit ≡ (id == host && any_stream (is_sort sorts.Live) 0 unit)
  unit-rests id (Host capture phase params piece) = refl
  unit-rests id u = none (id == host)

  stream-rests : list_any (λ s. s.host == host && is_live_phase s.phase) (streams_of t) ≡ false
  stream-rests =
      any-streams (λ s. s.host == host && is_live_phase s.phase) t.comps
      ∙ any-each (λ c. any_stream (λ s. s.host == host && is_live_phase s.phase) c.id c.unit) (λ c. c.id == host && any_stream (is_sort sorts.Live) 0 c.unit) t.comps (λ c there. unit-rests c.id c.unit)
      ∙ rests

  -- what is Live stays so
  live-same : (x : ℕ) → live w x ≡ live v x
  unfolding live
  live-same x =
      ap (λ (q : View). list_any (λ s. is_live_phase s.phase && on_way q.graph s.host x) q.streams) seen_is
      ∙ any-map (λ s. is_live_phase s.phase && on_way (graph_of t) s.host x) to (streams_of t)
      ∙ any-each (λ s. is_live_phase (to s).phase && on_way (graph_of t) (to s).host x) (λ s. is_live_phase s.phase && on_way (graph_of t) s.host x) (streams_of t) (λ s there. by s there (s.host == host) refl)
    where
      by : (s : StreamView) → IsIn s (streams_of t) → (h : Bool) → (s.host == host) ≡ h → (is_live_phase (to s).phase && on_way (graph_of t) (to s).host x) ≡ (is_live_phase s.phase && on_way (graph_of t) s.host x)
      by s there true same =
          let off : is_live_phase s.phase ≡ false = false_from_ne_true _ (λ e. true≢false (sym (in-any (λ s. s.host == host && is_live_phase s.phase) (streams_of t) s there (and_from (s.host == host) _ same e)) ∙ stream-rests)) in
          ap (λ h. let q : StreamView = cond h (record { host = s.host; phase = Prepared; params = Some p }) s in is_live_phase q.phase && on_way (graph_of t) q.host x) same
          ∙ sym (ap (λ h. h && on_way (graph_of t) s.host x) off)
      by s there false other = ap (λ h. let q : StreamView = cond h (record { host = s.host; phase = Prepared; params = Some p }) s in is_live_phase q.phase && on_way (graph_of t) q.host x) other

  graph-same : w.graph ≡ v.graph
  graph-same = ap (λ (q : View). q.graph) seen_is

  end-same : (end : Option ℕ) → live_end w end ≡ live_end v end
  end-same None = refl
  end-same (Some x) = live-same x

  flows-same : (b : ℕ) → flows w b ≡ flows v b
  unfolding flows
  flows-same b = ap (λ (q : Bool × (Bool × Bool)). (q.0 && q.1.0) && q.1.1) (λ i. (
    live-same b i,
    (
      (end-same (source_of w.graph b) ∙ ap (λ (g : Graph). live_end v (source_of g b)) graph-same) i,
      (end-same (sink_of w.graph b) ∙ ap (λ (g : Graph). live_end v (sink_of g b)) graph-same) i,
    ),
  ))

  comps-are : u.comps ≡ map (set_at host Prepared (Some p)) t.comps
  comps-are = ap (λ (u : Tables). u.comps) set

  comps-face : map face u.comps ≡ map face t.comps
  comps-face = ap (map face) comps-are ∙ faces-set host Prepared (Some p) t.comps

  buffers-are : u.buffers ≡ t.buffers
  buffers-are = ap (λ (u : Tables). u.buffers) set

  numbers-left : (f : FwState) (d : Component) → IsIn d u.comps → remembers w d.id ≡ true → numbers_by d.unit d.channels ≡ numbers_seen (with_tables t f) w None d.id
  numbers-left f d there e =
      let from = in-map (set_at host Prepared (Some p)) t.comps d (subst (IsIn d) comps-are there) in
      let c : Component = from.0 in
      let id : d.id ≡ c.id = ap (λ (x : Component). x.id) from.1.1 ∙ set-id host Prepared (Some p) c in
      let both = and_parts (live w d.id) (option_map_or (λ x. keeps_numbers x.kind) (comp_of w.graph d.id) false) e in
      let at : comp_of w.graph d.id ≡ comp_of v.graph c.id = ap (λ (q : Graph × ℕ). comp_of q.0 q.1) (λ i. (graph-same i, id i)) in
      let was : live v d.id ≡ true = sym (live-same d.id) ∙ both.0 in
      let first : remembers v c.id ≡ true = ap (λ (q : Bool × Bool). q.0 && q.1) (λ i. ((ap (live v) (sym id) ∙ was) i, (ap (λ (o : Option Comp). option_map_or (λ x. keeps_numbers x.kind) o false) (sym at) ∙ both.1) i)) in
      ap (λ (x : Component). numbers_by x.unit x.channels) from.1.1
      ∙ set-numbers host Prepared (Some p) c
      ∙ sym (history-own t kept c from.1.0 f first)
      ∙ ap (numbers_in (with_tables t f)) (sym id)
      ∙ sym (ap (λ (q : Bool × Bool). cond ((q.0 && q.1) && true) (numbers_in (with_tables t f) d.id) (marked v w d.id (numbers_in (with_tables t f) d.id))) (λ i. (was i, both.0 i)))

  pub state-prepared : (f : FwState) → map (ring_seen v) (rings_of t) ≡ rings_of t → with_tables u f ≡ seen w None (with_tables t f)
  state-prepared f settled = λ i. record {
    heap = record { holes = f.heap.holes; pieces = pieces-same (all_of t) (all_of u) (faces-all t u comps-face (ap (map face) buffers-are) (ap (λ (u : Tables). u.pipes) set)) i };
    clock = f.clock;
    graph = graph_of u;
    streams = streams_of u;
    rings = (ap (λ (u : Tables). rings_of u) set ∙ sym settled ∙ sym (rings-alike v w flows-same (rings_of t))) i;
    histories = histories-each (remembers w) (numbers_seen (with_tables t f) w None) u.comps (numbers-left f) i;
    staging = staging-same t.comps u.comps comps-face i;
  }
