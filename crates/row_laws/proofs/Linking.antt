-- What messages keep of the sides of edges.
use Rattle.std.proofs.Common.{◌≡◌, refl, sym, ap, ◌∙◌, ℕ, List, [], ◌∷◌, ◌++◌, map, length, Option, Some, None, Bool, true, false, cond, inl, inr, ◌⊎◌, ◌==◌, ◌&&◌, ◌||◌}
use Rattle.std.proofs.lemmas.Bool.{true≢false, false≢true, or_left, or_right, or_cases, and_parts, and_from, eqb-true, eq-eqb}
use Rattle.std.specs.Prelude.{is_some}
use Rattle.std.specs.List.{list_any, AllByRecursion}
use Rattle.stream_law.specs.declared.graph.Comp.{Comp}
use Rattle.stream_law.specs.declared.graph.Edge.{Edge}
use Rattle.stream_law.specs.declared.graph.Pipe.{Pipe}
use Rattle.stream_law.specs.declared.graph.Join.{Join}
use Rattle.stream_law.specs.declared.graph.Graph.{Graph}
use Rattle.stream_law.specs.declared.stream.StreamView.{StreamView}
use Rattle.stream_law.specs.Placed.{placed}
use Rattle.stream_law.specs.Ways.{is_end, leads}
use Rattle.stream_law.specs.Joins.{joined_edge, with_join, would_cycle, would_stay}
use Rattle.stream_law.proofs.Placing.{list_any-placed}
use Rattle.mbox_link.specs.Step.{has_comp, has_edge, leads_in, leads_out, is_joined, takes_join}
use Rattle.row_laws.specs.Wired.{IsWired, HasJoinedSides, IsJoinedFrom, IsJoinedTo, is_at}
use Rattle.row_laws.specs.Played.{AreStreamsPlayable}
use Rattle.row_laws.proofs.Growing.{all-placed, all-by}
use Rattle.row_laws.proofs.Joining.{IsFree, frees, leads-apart}
use Rattle.stream_law.proofs.Walking.{open-joined}

-- ---- a component more

module _ (g : Graph) (c : Comp) where
  abbrev wider : Graph
  wider = record { comps = placed (λ x. x.id) c g.comps; edges = g.edges; pipes = g.pipes; joins = g.joins }

  from-same : (o : Option ℕ) (b : ℕ) → IsJoinedFrom g o b → IsJoinedFrom wider o b
  from-same None b is = tt
  from-same (Some n) b is = is

  to-same : (b : ℕ) (o : Option ℕ) → IsJoinedTo g b o → IsJoinedTo wider b o
  to-same b None is = tt
  to-same b (Some n) is = is

  pub linked-wider : HasJoinedSides g → HasJoinedSides wider
  linked-wider linked = record {
    at = linked.at;
    from = all-by (λ e. IsJoinedFrom g e.source e.buffer) (λ e. IsJoinedFrom wider e.source e.buffer) (λ e. from-same e.source e.buffer) g.edges linked.from;
    to = all-by (λ e. IsJoinedTo g e.buffer e.sink) (λ e. IsJoinedTo wider e.buffer e.sink) (λ e. to-same e.buffer e.sink) g.edges linked.to;
    open_ends = linked.open_ends;
  }

-- ---- other edges and pipelines, with the same joins

module _ (g h : Graph) (joins : g.joins ≡ h.joins) where
  from-as : (o : Option ℕ) (b : ℕ) → IsJoinedFrom g o b → IsJoinedFrom h o b
  from-as None b is = tt
  from-as (Some n) b is = sym (ap (λ (js : List Join). list_any (λ j. j.source == n && j.sink == b) js) joins) ∙ is

  to-as : (b : ℕ) (o : Option ℕ) → IsJoinedTo g b o → IsJoinedTo h b o
  to-as b None is = tt
  to-as b (Some n) is = sym (ap (λ (js : List Join). list_any (λ j. j.source == b && j.sink == n) js) joins) ∙ is

pub linked-longer : (g : Graph) (e : Edge) → e.source ≡ None → e.sink ≡ None → HasJoinedSides g → HasJoinedSides (record { comps = g.comps; edges = placed (λ y. y.buffer) e g.edges; pipes = g.pipes; joins = g.joins })
linked-longer g e source sink linked = record {
  at = all-by (λ j. list_any (is_at j) g.edges ≡ true) (λ j. list_any (is_at j) (placed (λ y. y.buffer) e g.edges) ≡ true) (λ j is. list_any-placed (is_at j) (λ y. y.buffer) e g.edges ∙ or_right (is_at j e) _ is) g.joins linked.at;
  from = all-placed (λ x. IsJoinedFrom h x.source x.buffer) (λ y. y.buffer) e g.edges (rw source tt) (all-by (λ x. IsJoinedFrom g x.source x.buffer) (λ x. IsJoinedFrom h x.source x.buffer) (λ x. from-as g h refl x.source x.buffer) g.edges linked.from);
  to = all-placed (λ x. IsJoinedTo h x.buffer x.sink) (λ y. y.buffer) e g.edges (rw sink tt) (all-by (λ x. IsJoinedTo g x.buffer x.sink) (λ x. IsJoinedTo h x.buffer x.sink) (λ x. to-as g h refl x.buffer x.sink) g.edges linked.to);
  open_ends = linked.open_ends;
}
  where
    h : Graph
    h = record { comps = g.comps; edges = placed (λ y. y.buffer) e g.edges; pipes = g.pipes; joins = g.joins }

pub linked-other : (g : Graph) (pipes : List Pipe) → HasJoinedSides g → HasJoinedSides (record { comps = g.comps; edges = g.edges; pipes = pipes; joins = g.joins })
linked-other g pipes linked = record {
  at = linked.at;
  from = all-by (λ x. IsJoinedFrom g x.source x.buffer) (λ x. IsJoinedFrom h x.source x.buffer) (λ x. from-as g h refl x.source x.buffer) g.edges linked.from;
  to = all-by (λ x. IsJoinedTo g x.buffer x.sink) (λ x. IsJoinedTo h x.buffer x.sink) (λ x. to-as g h refl x.buffer x.sink) g.edges linked.to;
  open_ends = linked.open_ends;
}
  where
    h : Graph
    h = record { comps = g.comps; edges = g.edges; pipes = pipes; joins = g.joins }

-- ---- a join more

module _ (g : Graph) (j : Join) (wired : IsWired g) (free : is_joined g j.source j.sink ≡ false) (takes : takes_join g j.source j.sink ≡ true) (ss : List StreamView) (played : AreStreamsPlayable (record { graph = g; streams = ss })) (stay : would_stay (record { graph = g; streams = ss }) j.source j.sink ≡ true) (linked : HasJoinedSides g) where
  abbrev linked_on : Graph
  linked_on = with_join g j

  abbrev sided : Bool → Bool → Edge → Edge
  sided from to e =
      cond from (record { buffer = e.buffer; pipe = e.pipe; size = e.size; source = e.source; sink = Some j.sink })
      (cond to (record { buffer = e.buffer; pipe = e.pipe; size = e.size; source = Some j.source; sink = e.sink }) e)

  free-edges : AllByRecursion (IsFree g j) g.edges
  free-edges = frees g j wired free takes ss played stay

  none-end : (o : Option ℕ) (c : ℕ) → is_some o ≡ false → is_end o c ≡ false
  none-end None c e = refl
  none-end (Some n) c e = absurd (true≢false e)

  at-keep : (k : Join) (e : Edge) → IsFree g j e → is_at k e ≡ true → is_at k (joined_edge j e) ≡ true
  at-keep k e fr is = by (e.buffer == j.source) refl (e.buffer == j.sink) refl
    where
      only : (a b c d : Bool) → b ≡ false → ((a && c) || (d && b)) ≡ true → (a && c) ≡ true
      only true b true d gone any = refl
      only true b false true gone any = absurd (false≢true (sym gone ∙ any))
      only true b false false gone any = absurd (false≢true any)
      only false b c true gone any = absurd (false≢true (sym gone ∙ any))
      only false b c false gone any = absurd (false≢true any)

      other : (a b c d : Bool) → c ≡ false → ((a && c) || (d && b)) ≡ true → (d && b) ≡ true
      other false b c d gone any = any
      other true b true d gone any = absurd (true≢false gone)
      other true b false d gone any = any

      by : (h : Bool) → (e.buffer == j.source) ≡ h → (t : Bool) → (e.buffer == j.sink) ≡ t → is_at k (sided h t e) ≡ true
      by true from t to = or_left (e.buffer == k.sink && is_end e.source k.source) _ (only (e.buffer == k.sink) (is_end e.sink k.sink) (is_end e.source k.source) (e.buffer == k.source) (none-end e.sink k.sink (fr.from from).0) is)
      by false from true to = or_right (e.buffer == k.sink && is_end (Some j.source) k.source) _ (other (e.buffer == k.sink) (is_end e.sink k.sink) (is_end e.source k.source) (e.buffer == k.source) (none-end e.source k.source (fr.to to).0) is)
      by false from false to = is

  at-map : (k : Join) (es : List Edge) → AllByRecursion (IsFree g j) es → list_any (is_at k) es ≡ true → list_any (is_at k) (map (joined_edge j) es) ≡ true
  at-map k [] fr is = is
  at-map k (e ∷ es) fr is = by (or_cases (is_at k e) (list_any (is_at k) es) is) (at-map k es fr.1)
    where
      by : (is_at k e ≡ true) ⊎ (list_any (is_at k) es ≡ true) → (list_any (is_at k) es ≡ true → list_any (is_at k) (map (joined_edge j) es) ≡ true) → (is_at k (joined_edge j e) || list_any (is_at k) (map (joined_edge j) es)) ≡ true
      by (inl here) rest = or_left (is_at k (joined_edge j e)) _ (at-keep k e fr.0 here)
      by (inr more) rest = or_right (is_at k (joined_edge j e)) _ (rest more)

  at-in : leads_in g j.source j.sink ≡ true → (es : List Edge) → AllByRecursion (IsFree g j) es → list_any (λ e. e.buffer == j.sink) es ≡ true → list_any (is_at j) (map (joined_edge j) es) ≡ true
  at-in into [] fr there = there
  at-in into (e ∷ es) fr there = by (or_cases (e.buffer == j.sink) (list_any (λ e. e.buffer == j.sink) es) there) (at-in into es fr.1)
    where
      new : (h t : Bool) → (e.buffer == j.source) ≡ h → (e.buffer == j.sink) ≡ t → t ≡ true → is_at j (sided h t e) ≡ true
      new true t from to so = absurd (leads-apart g j wired free takes ss played stay into (fr.0.from from).2)
      new false true from to so = or_left (e.buffer == j.sink && (j.source == j.source)) _ (and_from (e.buffer == j.sink) (j.source == j.source) to (eq-eqb j.source j.source refl))
      new false false from to so = absurd (false≢true so)

      by : ((e.buffer == j.sink) ≡ true) ⊎ (list_any (λ e. e.buffer == j.sink) es ≡ true) → (list_any (λ e. e.buffer == j.sink) es ≡ true → list_any (is_at j) (map (joined_edge j) es) ≡ true) → (is_at j (joined_edge j e) || list_any (is_at j) (map (joined_edge j) es)) ≡ true
      by (inl here) rest = or_left (is_at j (joined_edge j e)) _ (new (e.buffer == j.source) (e.buffer == j.sink) refl refl here)
      by (inr more) rest = or_right (is_at j (joined_edge j e)) _ (rest more)

  at-out : (es : List Edge) → list_any (λ e. e.buffer == j.source) es ≡ true → list_any (is_at j) (map (joined_edge j) es) ≡ true
  at-out [] there = there
  at-out (e ∷ es) there = by (or_cases (e.buffer == j.source) (list_any (λ e. e.buffer == j.source) es) there) (at-out es)
    where
      new : (h t : Bool) → (e.buffer == j.source) ≡ h → h ≡ true → is_at j (sided h t e) ≡ true
      new true t from so = or_right (e.buffer == j.sink && is_end e.source j.source) _ (and_from (e.buffer == j.source) (j.sink == j.sink) from (eq-eqb j.sink j.sink refl))
      new false t from so = absurd (false≢true so)

      by : ((e.buffer == j.source) ≡ true) ⊎ (list_any (λ e. e.buffer == j.source) es ≡ true) → (list_any (λ e. e.buffer == j.source) es ≡ true → list_any (is_at j) (map (joined_edge j) es) ≡ true) → (is_at j (joined_edge j e) || list_any (is_at j) (map (joined_edge j) es)) ≡ true
      by (inl here) rest = or_left (is_at j (joined_edge j e)) _ (new (e.buffer == j.source) (e.buffer == j.sink) refl here)
      by (inr more) rest = or_right (is_at j (joined_edge j e)) _ (rest more)

  at-new : list_any (is_at j) (map (joined_edge j) g.edges) ≡ true
  at-new = by (leads_in g j.source j.sink) refl (leads_out g j.source j.sink) refl _ _ takes
    where
      by : (h : Bool) → leads_in g j.source j.sink ≡ h → (k : Bool) → leads_out g j.source j.sink ≡ k → (a b : Bool) → ((h && a) || (k && b)) ≡ true → list_any (is_at j) (map (joined_edge j) g.edges) ≡ true
      by true into k out a b any = at-in into g.edges free-edges (and_parts (has_comp g j.source) (has_edge g j.sink) into).1
      by false into true out a b any = at-out g.edges (and_parts (has_edge g j.source) (has_comp g j.sink) out).0
      by false into false out a b any = absurd (false≢true any)

  at-all : (js : List Join) → AllByRecursion (λ k. list_any (is_at k) g.edges ≡ true) js → AllByRecursion (λ k. list_any (is_at k) (map (joined_edge j) g.edges) ≡ true) (js ++ j ∷ [])
  at-all [] all = (at-new, tt)
  at-all (k ∷ js) all = (at-map k g.edges free-edges all.0, at-all js all.1)

  any-end : (p : Join → Bool) (js : List Join) → list_any p js ≡ true → list_any p (js ++ j ∷ []) ≡ true
  any-end p [] is = absurd (false≢true is)
  any-end p (k ∷ js) is = by (or_cases (p k) (list_any p js) is) (any-end p js)
    where
      by : (p k ≡ true) ⊎ (list_any p js ≡ true) → (list_any p js ≡ true → list_any p (js ++ j ∷ []) ≡ true) → (p k || list_any p (js ++ j ∷ [])) ≡ true
      by (inl here) rest = or_left (p k) _ here
      by (inr more) rest = or_right (p k) _ (rest more)

  any-last : (p : Join → Bool) (js : List Join) → p j ≡ true → list_any p (js ++ j ∷ []) ≡ true
  any-last p [] is = or_left (p j) false is
  any-last p (k ∷ js) is = or_right (p k) _ (any-last p js is)

  from-keep : (o : Option ℕ) (b : ℕ) → IsJoinedFrom g o b → IsJoinedFrom linked_on o b
  from-keep None b is = tt
  from-keep (Some n) b is = any-end (λ k. k.source == n && k.sink == b) g.joins is

  to-keep : (b : ℕ) (o : Option ℕ) → IsJoinedTo g b o → IsJoinedTo linked_on b o
  to-keep b None is = tt
  to-keep b (Some n) is = any-end (λ k. k.source == b && k.sink == n) g.joins is

  turned : (m n : ℕ) → (m == n) ≡ true → (n == m) ≡ true
  turned m n e = eq-eqb n m (sym (eqb-true m n e))

  from-on : (es : List Edge) → AllByRecursion (λ e. IsJoinedFrom g e.source e.buffer) es → AllByRecursion (λ e. IsJoinedFrom linked_on e.source e.buffer) (map (joined_edge j) es)
  from-on [] all = tt
  from-on (e ∷ es) all = (by (e.buffer == j.source) (e.buffer == j.sink) refl, from-on es all.1)
    where
      by : (h t : Bool) → (e.buffer == j.sink) ≡ t → IsJoinedFrom linked_on (sided h t e).source (sided h t e).buffer
      by true t to = from-keep e.source e.buffer all.0
      by false true to = any-last (λ k. k.source == j.source && k.sink == e.buffer) g.joins (and_from (j.source == j.source) (j.sink == e.buffer) (eq-eqb j.source j.source refl) (turned e.buffer j.sink to))
      by false false to = from-keep e.source e.buffer all.0

  to-on : (es : List Edge) → AllByRecursion (λ e. IsJoinedTo g e.buffer e.sink) es → AllByRecursion (λ e. IsJoinedTo linked_on e.buffer e.sink) (map (joined_edge j) es)
  to-on [] all = tt
  to-on (e ∷ es) all = (by (e.buffer == j.source) refl (e.buffer == j.sink), to-on es all.1)
    where
      by : (h : Bool) → (e.buffer == j.source) ≡ h → (t : Bool) → IsJoinedTo linked_on (sided h t e).buffer (sided h t e).sink
      by true from t = any-last (λ k. k.source == e.buffer && k.sink == j.sink) g.joins (and_from (j.source == e.buffer) (j.sink == j.sink) (turned e.buffer j.source from) (eq-eqb j.sink j.sink refl))
      by false from true = to-keep e.buffer e.sink all.0
      by false from false = to-keep e.buffer e.sink all.0

  still-open : would_cycle g j.source j.sink ≡ false → leads g.joins (length g.joins) j.sink j.source ≡ false
  unfolding would_cycle
  still-open no_cycle = no_cycle

  pub linked-joined : would_cycle g j.source j.sink ≡ false → HasJoinedSides linked_on
  linked-joined no_cycle = record {
    at = at-all g.joins linked.at;
    from = from-on g.edges linked.from;
    to = to-on g.edges linked.to;
    open_ends = open-joined g.joins j (still-open no_cycle) linked.open_ends;
  }
