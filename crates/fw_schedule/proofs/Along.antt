-- The buffers that a component finds at its edges.
use Rattle.std.proofs.Common.{◌≡◌, refl, sym, ap, ◌∙◌, subst, ℕ, nat_le, ◌/◌, List, [], ◌∷◌, map, filter, length, Bool, true, false, cond, not, ◌==◌, ◌||◌, Option, Some, None, option_map, arith}
use Rattle.std.proofs.lemmas.Bool.{and_parts, eqb-true, eq-eqb, false≢true}
use Rattle.std.proofs.lemmas.List.{nil_from_length}
use Rattle.std.specs.Prelude.{find, option_and_then, slice_get}
use Rattle.std.specs.Option.{option_map_or}
use Rattle.sof_base.specs.Samples.{Frame}
use Rattle.stream_law.specs.declared.graph.Kind.{Kind}
use Rattle.stream_law.specs.declared.graph.Comp.{Comp}
use Rattle.stream_law.specs.declared.graph.Edge.{Edge}
use Rattle.stream_law.specs.declared.graph.Graph.{Graph}
use Rattle.stream_law.specs.State.{View}
use Rattle.stream_law.specs.Ways.{comp_of, edge_of, ins, outs, source_of, sink_of, is_end, live, active, active_end, channels_of}
use Rattle.stream_law.specs.Joins.{fits_kind}
use Rattle.stream_law.specs.Moves.{capacity, chooses, fed}
use Rattle.stream_law.specs.Seen.{flows}
use Rattle.stream_law.proofs.Members.{IsIn, in-all, in-any, find-in}
use Rattle.stream_law.proofs.Shapes.{flows-live}
use Rattle.row_laws.proofs.Near.{fits-comp, at-buffer}
use Rattle.row_laws.proofs.Playing.{IsAlong, active-ready, along-out, along-in}
use Rattle.fw_units.specs.declared.component.Unit as units
use Rattle.fw_units.specs.declared.component.Unit.TheVariants.{Buffer}
use Rattle.fw_units.specs.declared.component.Component.{Component}
use Rattle.fw_units.specs.Units.{edge_by, size_by, capacity_by}
use Rattle.fw_components.specs.Tables.{Tables, graph_of, view_by, held_frames, capacity_at}
use Rattle.fw_units.specs.Changes.{has_id}
use Rattle.fw_components.specs.Kept.{IsKept, IsBuffering}
use Rattle.fw_units.specs.Frames.{channels_by}
use Rattle.fw_components.specs.Frames.{channels_at}
use Rattle.fw_walks.proofs.Naming.{find-map}
use Rattle.fw_schedule.specs.Ticks.{CanTick}

-- ---- lists

-- a list of one, filtered
pub single-some : (p : ℕ → Bool) (xs : List ℕ) (b : ℕ) → length xs ≡ 1 → slice_get (filter p xs) 0 ≡ Some b → (xs ≡ b ∷ []) × (filter p xs ≡ b ∷ [])
single-some p [] b one e = absurd (omega (arith, one))
single-some p (x ∷ xs) b one e = by xs (nil_from_length xs (omega (arith, one))) (p x) refl e
  where
    by : (ys : List ℕ) → ys ≡ [] → (h : Bool) → p x ≡ h → slice_get (cond h (x ∷ filter p ys) (filter p ys)) 0 ≡ Some b → (x ∷ ys ≡ b ∷ []) × (cond (p x) (x ∷ filter p ys) (filter p ys) ≡ b ∷ [])
    by ys none true h e =
        let same : x ≡ b = cc e in
        ((λ i. same i ∷ none i), ap (λ k. cond k (x ∷ filter p ys) (filter p ys)) h ∙ (λ i. same i ∷ filter p (none i)))
    by ys none false h e = absurd (no (sym (ap (λ zs. slice_get (filter p zs) 0) none) ∙ e))
      where
        no : {n : ℕ} → None ≡ Some n → ⊥
        no e = cc

pub single-none : (p : ℕ → Bool) (xs : List ℕ) → length xs ≡ 1 → slice_get (filter p xs) 0 ≡ None → (b : ℕ) × (xs ≡ b ∷ []) × (filter p xs ≡ [])
single-none p [] one e = absurd (omega (arith, one))
single-none p (x ∷ xs) one e = by xs (nil_from_length xs (omega (arith, one))) (p x) refl e
  where
    by : (ys : List ℕ) → ys ≡ [] → (h : Bool) → p x ≡ h → slice_get (cond h (x ∷ filter p ys) (filter p ys)) 0 ≡ None → (b : ℕ) × (x ∷ ys ≡ b ∷ []) × (cond (p x) (x ∷ filter p ys) (filter p ys) ≡ [])
    by ys none true h e = absurd (cc e)
    by ys none false h e = (x, ap (λ zs. x ∷ zs) none, ap (λ k. cond k (x ∷ filter p ys) (filter p ys)) h ∙ ap (filter p) none)

-- ---- a component and its kind

pub record IsThere (g : Graph) (id : ℕ) (passes : Kind → Bool) : Type 0 where
  pub comp : Comp
  pub is : comp_of g id ≡ Some comp
  pub among : IsIn comp g.comps
  pub same : comp.id ≡ id
  pub kind : passes comp.kind ≡ true

pub there-is : (g : Graph) (id : ℕ) (passes : Kind → Bool) → option_map_or (λ x. passes x.kind) (comp_of g id) false ≡ true → IsThere g id passes
there-is g id passes e = by (comp_of g id) refl e
  where
    by : (o : Option Comp) → comp_of g id ≡ o → option_map_or (λ x. passes x.kind) o false ≡ true → IsThere g id passes
    by None is e = absurd (false≢true e)
    by (Some x) is e = let at = find-in (λ (x : Comp). x.id == id) g.comps x is in record { comp = x; is = is; among = at.0; same = eqb-true x.id id at.1; kind = e }

-- ---- a buffer at an edge

-- a buffer that is there, with the channels of a component and the room of its edge
pub record IsAt (t : Tables) (c b : ℕ) : Type 0 where
  pub there : has_id t.buffers b ≡ true
  pub shape : channels_at t b ≡ channels_of (view_by t) c
  pub room : capacity (view_by t) b ≡ capacity_at t b

-- the edge of a side
pub edge-of : (g : Graph) (pick : Edge → Option ℕ) (b c : ℕ) → is_end (option_and_then pick (edge_of g b)) c ≡ true → (e : Edge) × IsIn e g.edges × (e.buffer ≡ b) × (is_end (pick e) c ≡ true)
edge-of g pick b c at = by (edge_of g b) refl at
  where
    by : (o : Option Edge) → edge_of g b ≡ o → is_end (option_and_then pick o) c ≡ true → (e : Edge) × IsIn e g.edges × (e.buffer ≡ b) × (is_end (pick e) c ≡ true)
    by None is at = absurd (false≢true at)
    by (Some e) is at = let found = find-in (λ (e : Edge). e.buffer == b) g.edges e is in (e, found.0, eqb-true e.buffer b found.1, at)

module _ (t : Tables) (kept : IsKept t) (can : CanTick t) where
  abbrev v : View
  v = view_by t

  -- what the component of a buffer says
  found-at : (c : ℕ) (d : Component) → find (λ x. x.id == d.id) t.buffers ≡ Some d → IsIn d t.buffers → live v d.id ≡ true → channels_of v d.id ≡ channels_of v c → IsAt t c d.id
  unfolding capacity
  found-at c d found among lives wide =
      let framed = in-all (λ (x : Component). live v x.id ≡ true → channels_by x.unit ≡ channels_of v x.id) t.buffers d can.shapes.buffers among lives in
      let shown : find (λ e. e.buffer == d.id) (map edge_by t.buffers) ≡ Some (edge_by d) = find-map (λ (e : Edge). e.buffer == d.id) edge_by t.buffers ∙ ap (option_map edge_by) found in
      record {
        there = in-any (λ x. x.id == d.id) t.buffers d among (eq-eqb d.id d.id refl);
        shape = ap (λ (o : Option Component). option_map_or (λ c. channels_by c.unit) o 1) found ∙ framed ∙ wide;
        room =
            ap (λ (o : Option Edge). option_map_or (λ e. e.size) o 0 / 4 / channels_of v d.id) shown
            ∙ ap (λ n. size_by d.unit / 4 / n) (sym framed)
            ∙ by d.unit (in-all (λ (x : Component). IsBuffering x.unit) t.buffers d kept.buffering among)
            ∙ sym (ap (λ (o : Option Component). option_map_or (λ c. capacity_by c.unit) o 0) found);
      }
    where
      by : (u : units.Unit) → IsBuffering u → size_by u / 4 / channels_by u ≡ capacity_by u
      by (Buffer size ring source sink) is = ap (λ n. n / ring.channels) (sym is.1)
      by u is = absurd (false≢true is.0)

  at-along : (c b : ℕ) → IsAlong v can.wired can.linked can.played c b → IsAt t c b
  at-along c b along = by (find (λ x. x.id == along.edge.buffer) t.buffers) refl
    where
      shown : option_map edge_by (find (λ x. x.id == along.edge.buffer) t.buffers) ≡ Some along.edge
      shown = sym (find-map (λ (e : Edge). e.buffer == along.edge.buffer) edge_by t.buffers) ∙ at-buffer v.graph can.wired can.linked along.edge along.among

      by : (o : Option Component) → find (λ x. x.id == along.edge.buffer) t.buffers ≡ o → IsAt t c b
      by None none = absurd (no (sym (ap (option_map edge_by) none) ∙ shown))
        where
          no : {e : Edge} → None ≡ Some e → ⊥
          no e = cc
      by (Some d) found =
          let at = find-in (λ (x : Component). x.id == along.edge.buffer) t.buffers d found in
          let own : d.id ≡ along.edge.buffer = eqb-true d.id along.edge.buffer at.1 in
          subst (IsAt t c) (own ∙ sym along.is)
          (found-at c d (ap (λ n. find (λ x. x.id == n) t.buffers) own ∙ found) at.0 (ap (live v) own ∙ along.lives) (ap (channels_of v) own ∙ along.channels))

  module _ (id : ℕ) (passes : Kind → Bool) (there : IsThere (graph_of t) id passes) (now : active v id ≡ true) where
    own-now : active v there.comp.id ≡ true
    own-now = ap (active v) there.same ∙ now

    pub fits : fits_kind there.comp.kind (length (ins (graph_of t) id)) (length (outs (graph_of t) id)) ≡ true
    fits = subst (λ n. fits_kind there.comp.kind (length (ins (graph_of t) n)) (length (outs (graph_of t) n)) ≡ true) there.same (fits-comp (graph_of t) there.comp (active-ready v can.wired can.linked can.played there.comp there.among own-now))

    -- a Live buffer out of a component that is Active
    pub out-at : (b : ℕ) → is_end (source_of (graph_of t) b) id ≡ true → live v b ≡ true → IsAt t id b
    out-at b from lives =
        let e = edge-of (graph_of t) (λ e. e.source) b id from in
        let along = along-out v can.wired can.linked can.played there.comp there.among own-now e.0 e.1 (ap (is_end e.0.source) there.same ∙ e.3) (ap (live v) e.2 ∙ lives) in
        subst (λ n. IsAt t n b) there.same (subst (IsAt t there.comp.id) e.2 (at-along there.comp.id e.0.buffer along))

    -- and one into it, which is Live where the component does not choose
    pub in-at : (b : ℕ) → is_end (sink_of (graph_of t) b) id ≡ true → (not (chooses v id) || live v b) ≡ true → IsAt t id b
    in-at b to takes =
        let e = edge-of (graph_of t) (λ e. e.sink) b id to in
        let may : (not (chooses v there.comp.id) || live v e.0.buffer) ≡ true = (λ i. not (chooses v (there.same i)) || live v (e.2 i)) ∙ takes in
        let along = along-in v can.wired can.linked can.played there.comp there.among own-now e.0 e.1 (ap (is_end e.0.sink) there.same ∙ e.3) may in
        subst (λ n. IsAt t n b) there.same (subst (IsAt t there.comp.id) e.2 (at-along there.comp.id e.0.buffer along))

-- a buffer that holds a frame is Live
pub held-lives : (t : Tables) → CanTick t → (b : ℕ) → nat_le 1 (length (held_frames t b)) ≡ true → live (view_by t) b ≡ true
held-lives t can b held = flows-live (view_by t) b (by (flows (view_by t) b) refl)
  where
    by : (h : Bool) → flows (view_by t) b ≡ h → h ≡ true
    by true e = refl
    by false dead = absurd (false≢true (sym (ap (λ (frames : List Frame). nat_le 1 (length frames)) (can.empty b dead)) ∙ held))

-- what is fed is Live
pub fed-lives : (v : View) (b : ℕ) → fed v b ≡ true → live v b ≡ true
unfolding fed
fed-lives v b is = (and_parts (live v b) (active_end v (sink_of v.graph b)) is).0

-- the only one that passes
pub only-passes : (p : ℕ → Bool) (xs : List ℕ) (b : ℕ) → filter p xs ≡ b ∷ [] → p b ≡ true
only-passes p [] b e = absurd (cc e)
only-passes p (x ∷ xs) b e = by (p x) refl e (only-passes p xs b)
  where
    by : (h : Bool) → p x ≡ h → cond h (x ∷ filter p xs) (filter p xs) ≡ b ∷ [] → (filter p xs ≡ b ∷ [] → p b ≡ true) → p b ≡ true
    by true h e rest = let same : x ≡ b = cc e in ap p (sym same) ∙ h
    by false h e rest = rest e
