-- A graph of which a pipeline is taken away.
use Rattle.std.proofs.Common.{◌≡◌, refl, sym, ap, ◌∙◌, ℕ, List, [], ◌∷◌, filter, length, Option, Some, None, Bool, true, false, not, inl, inr, ◌==◌, ◌&&◌, ◌||◌}
use Rattle.std.proofs.lemmas.Bool.{true≢false, false≢true, or_parts, or_left, or_right, and_parts, and_from, eqb-true}
use Rattle.std.specs.Prelude.{find, is_some}
use Rattle.std.specs.List.{list_any, list_all, AllByRecursion}
use Rattle.sof_base.specs.declared.format.Params.{Params}
use Rattle.stream_law.specs.declared.graph.Comp.{Comp}
use Rattle.stream_law.specs.declared.graph.Edge.{Edge}
use Rattle.stream_law.specs.declared.graph.Pipe.{Pipe}
use Rattle.stream_law.specs.declared.graph.Graph.{Graph}
use Rattle.stream_law.specs.declared.stream.StreamView.{StreamView}
use Rattle.stream_law.specs.Ways.{source_of, sink_of, ins, outs, reaches, is_echo, way_joins, ways_to, on_way}
use Rattle.stream_law.specs.Joins.{fits_kind}
use Rattle.ipc3_model.specs.Allowed.{is_period_allowed}
use Rattle.mbox_link.specs.Step.{has_comp, has_edge, is_complete, is_ready_comp, is_ready_edge, is_way_ready, is_held, is_index_held, is_used}
use Rattle.row_laws.specs.Wired.{IsWired, HasJoinedSides, IsSide, IsJoinedFrom, IsJoinedTo, is_node}
use Rattle.row_laws.specs.Played.{IsStreamSet, IsSetBy, is_idle}
use Rattle.row_laws.proofs.Found.{found-each}
use Rattle.row_laws.proofs.Stays.{IsOf}
use Rattle.row_laws.proofs.Growing.{all-by}
use Rattle.row_laws.proofs.Unreached.{eqb-turned}
use Rattle.row_laws.proofs.Fewer.{all-filter, all-both, all-any, all-test, test-all, any-kept, none-each, distinct-filter, not-false, other-any}

any-of : (p : StreamView → Bool) (ss : List StreamView) (s : StreamView) → IsOf s ss → p s ≡ true → list_any p ss ≡ true
any-of p [] s here e = absurd here
any-of p (t ∷ ts) s (inl same) e = or_left (p t) _ (ap p (sym same) ∙ e)
any-of p (t ∷ ts) s (inr more) e = or_right (p t) _ (any-of p ts s more e)

module _ (g : Graph) (id : ℕ) (p : Pipe) (found : find (λ q. q.id == id) g.pipes ≡ Some p) (wired : IsWired g) where
  abbrev less : Graph
  less = record { comps = g.comps; edges = g.edges; pipes = filter (λ q. not (q.id == id)) g.pipes; joins = g.joins }

  abbrev keep : Pipe → Bool
  keep q = not (q.id == id)

  -- pipelines of other indices are as complete as before
  same-index : AllByRecursion (λ q. (q.id == id) ≡ true → q.index ≡ p.index) g.pipes
  same-index = all-by (λ q. find (λ x. x.id == q.id) g.pipes ≡ Some q) (λ q. (q.id == id) ≡ true → q.index ≡ p.index) (λ q is e. index-of q (sym (ap (λ n. find (λ (x : Pipe). x.id == n) g.pipes) (eqb-true q.id id e)) ∙ is)) g.pipes (found-each (λ (q : Pipe). q.id) g.pipes wired.names)
    where
      index-of : (q : Pipe) → find (λ x. x.id == id) g.pipes ≡ Some q → q.index ≡ p.index
      index-of q is = let same : Some q ≡ Some p = sym is ∙ found in let one : q ≡ p = cc same in ap (λ (x : Pipe). x.index) one

  complete-other : (index : ℕ) → (index == p.index) ≡ false → is_complete less index ≡ is_complete g index
  complete-other index other = any-kept keep (λ q. q.index == index && q.complete) (λ q. q.index == index && q.complete) g.pipes (all-by (λ q. (q.id == id) ≡ true → q.index ≡ p.index) (λ q. (keep q ≡ true → (q.index == index && q.complete) ≡ (q.index == index && q.complete)) × (keep q ≡ false → (q.index == index && q.complete) ≡ false)) (λ q is. (λ kept. refl, λ gone. ap (λ h. h && q.complete) (ap (λ n. n == index) (is (not-false (q.id == id) gone)) ∙ eqb-turned index p.index other))) g.pipes same-index)

  way-pipe : (h x : ℕ) → on_way less h x ≡ on_way g h x
  unfolding on_way ways_to way_joins is_echo reaches
  way-pipe h x = refl

  pub echo-pipe : (b : ℕ) → is_echo less b ≡ true → (is_echo g b ≡ true) × (source_of less b ≡ source_of g b) × (sink_of less b ≡ sink_of g b)
  unfolding is_echo reaches
  echo-pipe b is = (is, refl, refl)

  pub ways-pipe : (ss : List StreamView) → AllByRecursion (λ s. true ≡ true → is_some s.params ≡ true → (x : ℕ) → on_way less s.host x ≡ on_way g s.host x) ss
  ways-pipe ss = all-any (λ (s : StreamView). true ≡ true → is_some s.params ≡ true → (x : ℕ) → on_way less s.host x ≡ on_way g s.host x) (λ s kept has x. way-pipe s.host x) ss

  pub bare-pipe : (ss : List StreamView) → AllByRecursion (λ s. true ≡ false → is_some s.params ≡ false) ss
  bare-pipe ss = all-any (λ (s : StreamView). true ≡ false → is_some s.params ≡ false) (λ s e. absurd (true≢false e)) ss

  module _ (ss : List StreamView) (free : is_index_held g ss p.index ≡ false) where
    parts : (list_any (λ c. c.pipe == p.index && is_held g ss c.id) g.comps ≡ false) × (list_any (λ e. e.pipe == p.index && is_held g ss e.buffer) g.edges ≡ false)
    parts = or_parts (list_any (λ c. c.pipe == p.index && is_held g ss c.id) g.comps) (list_any (λ e. e.pipe == p.index && is_held g ss e.buffer) g.edges) free

    -- what is on the way of a stream with parameters has another index
    other-index : (s : StreamView) → IsOf s ss → is_some s.params ≡ true → (index x : ℕ) → (index == p.index && is_held g ss x) ≡ false → on_way g s.host x ≡ true → (index == p.index) ≡ false
    other-index s among has index x clear on = left (index == p.index) (is_held g ss x) (any-of (λ (s : StreamView). is_some s.params && on_way g s.host x) ss s among (and_from (is_some s.params) (on_way g s.host x) has on)) clear
      where
        left : (a b : Bool) → b ≡ true → (a && b) ≡ false → a ≡ false
        left true b is fails = absurd (true≢false (sym is ∙ fails))
        left false b is fails = refl

    ready-pipe_at : (s : StreamView) → IsOf s ss → is_some s.params ≡ true → is_way_ready g s.host ≡ true → is_way_ready less s.host ≡ true
    unfolding is_way_ready
    ready-pipe_at s among has ready =
        let both = and_parts (list_all (λ x. not (on_way g s.host x.id) || is_ready_comp g x) g.comps) (list_all (λ e. not (on_way g s.host e.buffer) || is_ready_edge g e) g.edges) ready in
        and_from _ _
        (test-all (λ (x : Comp). not (on_way less s.host x.id) || is_ready_comp less x) g.comps (all-by (λ x. ((x.pipe == p.index && is_held g ss x.id) ≡ false) × ((not (on_way g s.host x.id) || is_ready_comp g x) ≡ true)) (λ x. (not (on_way less s.host x.id) || is_ready_comp less x) ≡ true) comp-ready g.comps (all-both (λ x. (x.pipe == p.index && is_held g ss x.id) ≡ false) (λ x. (not (on_way g s.host x.id) || is_ready_comp g x) ≡ true) g.comps (none-each (λ (x : Comp). x.pipe == p.index && is_held g ss x.id) g.comps parts.0) (all-test (λ (x : Comp). not (on_way g s.host x.id) || is_ready_comp g x) g.comps both.0))))
        (test-all (λ (e : Edge). not (on_way less s.host e.buffer) || is_ready_edge less e) g.edges (all-by (λ e. ((e.pipe == p.index && is_held g ss e.buffer) ≡ false) × ((not (on_way g s.host e.buffer) || is_ready_edge g e) ≡ true)) (λ e. (not (on_way less s.host e.buffer) || is_ready_edge less e) ≡ true) edge-ready g.edges (all-both (λ e. (e.pipe == p.index && is_held g ss e.buffer) ≡ false) (λ e. (not (on_way g s.host e.buffer) || is_ready_edge g e) ≡ true) g.edges (none-each (λ (e : Edge). e.pipe == p.index && is_held g ss e.buffer) g.edges parts.1) (all-test (λ (e : Edge). not (on_way g s.host e.buffer) || is_ready_edge g e) g.edges both.1))))
      where
        comp-ready : (x : Comp) → ((x.pipe == p.index && is_held g ss x.id) ≡ false) × ((not (on_way g s.host x.id) || is_ready_comp g x) ≡ true) → (not (on_way less s.host x.id) || is_ready_comp less x) ≡ true
        comp-ready x all = ap (λ t. not t || is_ready_comp less x) (way-pipe s.host x.id) ∙ by (on_way g s.host x.id) refl all.1
          where
            by : (t : Bool) → on_way g s.host x.id ≡ t → (not t || is_ready_comp g x) ≡ true → (not t || is_ready_comp less x) ≡ true
            by true on now = ap (λ t. t && fits_kind x.kind (length (ins g x.id)) (length (outs g x.id))) (complete-other x.pipe (other-index s among has x.pipe x.id all.0 on)) ∙ now
            by false on now = refl

        edge-ready : (e : Edge) → ((e.pipe == p.index && is_held g ss e.buffer) ≡ false) × ((not (on_way g s.host e.buffer) || is_ready_edge g e) ≡ true) → (not (on_way less s.host e.buffer) || is_ready_edge less e) ≡ true
        edge-ready e all = ap (λ t. not t || is_ready_edge less e) (way-pipe s.host e.buffer) ∙ by (on_way g s.host e.buffer) refl all.1
          where
            by : (t : Bool) → on_way g s.host e.buffer ≡ t → (not t || is_ready_edge g e) ≡ true → (not t || is_ready_edge less e) ≡ true
            by true on now = ap (λ t. (t && is_some e.source) && is_some e.sink) (complete-other e.pipe (other-index s among has e.pipe e.buffer all.0 on)) ∙ now
            by false on now = refl

    pub ready-pipe : AllByRecursion (IsStreamSet g) ss → AllByRecursion (λ s. true ≡ true → is_some s.params ≡ true → is_way_ready less s.host ≡ true) ss
    ready-pipe sets = each ss (λ s there. there) sets
      where
        was : (h : ℕ) (idle : Bool) (o : Option Params) → is_some o ≡ true → IsSetBy g h idle o → is_way_ready g h ≡ true
        was h idle None has is_set = absurd (false≢true has)
        was h idle (Some q) has is_set = is_set.3

        each : (xs : List StreamView) → ((s : StreamView) → IsOf s xs → IsOf s ss) → AllByRecursion (IsStreamSet g) xs → AllByRecursion (λ s. true ≡ true → is_some s.params ≡ true → is_way_ready less s.host ≡ true) xs
        each [] sub all = tt
        each (s ∷ xs) sub all = (λ kept has. ready-pipe_at s (sub s (inl refl)) has (was s.host (is_idle s.phase) s.params has all.0), each xs (λ t there. sub t (inr there)) all.1)

  pub used-pipe : (n : ℕ) → (n == id) ≡ false → is_used g n ≡ true → is_used less n ≡ true
  used-pipe n other used = ap (λ h. (has_comp g n || has_edge g n) || h) (other-any (λ (q : Pipe). q.id) id n other g.pipes) ∙ used

  side-pipe : (o : Option ℕ) → IsSide g o → IsSide less o
  side-pipe None is = tt
  side-pipe (Some c) is = is

  from-pipe : (o : Option ℕ) (b : ℕ) → IsJoinedFrom g o b → IsJoinedFrom less o b
  from-pipe None b joined = tt
  from-pipe (Some c) b joined = joined

  to-pipe : (b : ℕ) (o : Option ℕ) → IsJoinedTo g b o → IsJoinedTo less b o
  to-pipe b None joined = tt
  to-pipe b (Some c) joined = joined

  pub linked-pipe_less : HasJoinedSides g → HasJoinedSides less
  linked-pipe_less linked = record {
    at = linked.at;
    from = all-by (λ e. IsJoinedFrom g e.source e.buffer) (λ e. IsJoinedFrom less e.source e.buffer) (λ e joined. from-pipe e.source e.buffer joined) g.edges linked.from;
    to = all-by (λ e. IsJoinedTo g e.buffer e.sink) (λ e. IsJoinedTo less e.buffer e.sink) (λ e joined. to-pipe e.buffer e.sink joined) g.edges linked.to;
    open_ends = linked.open_ends;
  }

  pub wired-pipe_less : IsWired less
  wired-pipe_less = record {
    ids = wired.ids;
    buffers = wired.buffers;
    names = distinct-filter (λ (q : Pipe). q.id) keep g.pipes wired.names;
    apart = wired.apart;
    alone = all-filter keep (λ q. is_node g q.id ≡ false) g.pipes wired.alone;
    ends = wired.ends;
    sides = all-by (λ e. IsSide g e.source × IsSide g e.sink) (λ e. IsSide less e.source × IsSide less e.sink) (λ e is. (side-pipe e.source is.0, side-pipe e.sink is.1)) g.edges wired.sides;
    periods = all-filter keep (λ q. is_period_allowed q.period ≡ true) g.pipes wired.periods;
  }
