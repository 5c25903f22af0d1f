-- The pieces of a heap, one for each id.
use Rattle.std.proofs.Common.{◌≡◌, refl, sym, ap, ◌∙◌, subst, ℕ, suc, List, [], ◌∷◌, map, length, Bool, true, false, cond, ◌==◌, ◌||◌, arith}
use Rattle.std.proofs.lemmas.Bool.{true≢false, false_from_ne_true, or_left, or_right, eqb-true, eq-eqb}
use Rattle.std.proofs.lemmas.List.{length-map}
use Rattle.std.specs.List.{list_any, AllByRecursion}
use Rattle.stream_law.specs.declared.graph.Comp.{Comp}
use Rattle.stream_law.specs.declared.graph.Edge.{Edge}
use Rattle.stream_law.specs.declared.graph.Pipe.{Pipe}
use Rattle.stream_law.specs.declared.graph.Join.{Join}
use Rattle.stream_law.specs.declared.graph.Graph.{Graph}
use Rattle.stream_law.specs.Placed.{placed}
use Rattle.stream_law.specs.State.{HeapView, PieceView}
use Rattle.stream_law.specs.Joins.{joined_edge, with_join}
use Rattle.stream_law.proofs.Placing.{list_any-placed, length-placed}
use Rattle.mbox_link.specs.Step.{heap_with_piece, completed, has_comp, has_edge, has_pipe, is_used}
use Rattle.row_laws.specs.Kept.{ArePieces, has_piece}
use Rattle.row_laws.proofs.Growing.{all-placed, all-by}
use Rattle.row_laws.proofs.Joined.{joined-buffer, has-joined}
use Rattle.stream_law.proofs.Members.{in-all, any-in}
use Rattle.row_laws.proofs.Tiling.{new_piece}

-- an id that names nothing has no piece
pub no-piece : (g : Graph) (heap : HeapView) (id : ℕ) → ArePieces g heap → is_used g id ≡ false → has_piece heap id ≡ false
no-piece g heap id pieces unused = false_from_ne_true (has_piece heap id) (λ there.
    let found = any-in (λ p. p.id == id) heap.pieces there in
    let p : PieceView = found.0 in
    true≢false (sym (in-all (λ p. is_used g p.id ≡ true) heap.pieces p pieces.named found.1) ∙ ap (is_used g) (eqb-true p.id id found.2) ∙ unused))

-- ---- a piece more

has-more : (id bytes : ℕ) (heap : HeapView) (n : ℕ) → has_piece heap n ≡ true → has_piece (heap_with_piece id bytes heap) n ≡ true
has-more id bytes heap n there = list_any-placed (λ p. p.id == n) (λ p. p.id) (new_piece id bytes heap) heap.pieces ∙ or_right (id == n) _ there

has-new : (id bytes : ℕ) (heap : HeapView) → has_piece (heap_with_piece id bytes heap) id ≡ true
has-new id bytes heap = list_any-placed (λ p. p.id == id) (λ p. p.id) (new_piece id bytes heap) heap.pieces ∙ or_left (id == id) _ (eq-eqb id id refl)

each-more : {X : Type 0} (key : X → ℕ) (id bytes : ℕ) (heap : HeapView) (xs : List X) → AllByRecursion (λ x. has_piece heap (key x) ≡ true) xs → AllByRecursion (λ x. has_piece (heap_with_piece id bytes heap) (key x) ≡ true) xs
each-more key id bytes heap = all-by (λ x. has_piece heap (key x) ≡ true) (λ x. has_piece (heap_with_piece id bytes heap) (key x) ≡ true) (λ x. has-more id bytes heap (key x))

count-more : (id bytes : ℕ) (heap : HeapView) → length (heap_with_piece id bytes heap).pieces ≡ suc (length heap.pieces)
count-more id bytes heap = length-placed (λ (p : PieceView). p.id) (new_piece id bytes heap) heap.pieces

-- what is used by one of three
used-by : (a b c d e f : Bool) → (a ≡ true → d ≡ true) → (b ≡ true → e ≡ true) → (c ≡ true → f ≡ true) → ((a || b) || c) ≡ true → ((d || e) || f) ≡ true
used-by true b c d e f p q r is = or_left (d || e) f (or_left d e (p refl))
used-by false true c d e f p q r is = or_left (d || e) f (or_right d e (q refl))
used-by false false c d e f p q r is = or_right (d || e) f (r is)

module _ (g : Graph) (heap : HeapView) (bytes : ℕ) (pieces : ArePieces g heap) where
  -- a component and its piece
  module _ (c : Comp) where
    abbrev wider : Graph
    wider = record { comps = placed (λ x. x.id) c g.comps; edges = g.edges; pipes = g.pipes; joins = g.joins }

    comp-used : (n : ℕ) → is_used g n ≡ true → is_used wider n ≡ true
    comp-used n = used-by (has_comp g n) (has_edge g n) (has_pipe g n) (has_comp wider n) (has_edge g n) (has_pipe g n) (λ is. list_any-placed (λ x. x.id == n) (λ x. x.id) c g.comps ∙ or_right (c.id == n) _ is) (λ is. is) (λ is. is)

    comp-new : is_used wider c.id ≡ true
    comp-new = or_left (has_comp wider c.id || has_edge g c.id) _ (or_left (has_comp wider c.id) _ (list_any-placed (λ x. x.id == c.id) (λ x. x.id) c g.comps ∙ or_left (c.id == c.id) _ (eq-eqb c.id c.id refl)))

    pub pieces-comp : ArePieces wider (heap_with_piece c.id bytes heap)
    pieces-comp = record {
      few = omega (arith, pieces.few, count-more c.id bytes heap, length-placed (λ (x : Comp). x.id) c g.comps);
      named = all-placed (λ p. is_used wider p.id ≡ true) (λ p. p.id) (new_piece c.id bytes heap) heap.pieces comp-new (all-by (λ p. is_used g p.id ≡ true) (λ p. is_used wider p.id ≡ true) (λ p. comp-used p.id) heap.pieces pieces.named);
      comps = all-placed (λ x. has_piece (heap_with_piece c.id bytes heap) x.id ≡ true) (λ x. x.id) c g.comps (has-new c.id bytes heap) (each-more (λ (x : Comp). x.id) c.id bytes heap g.comps pieces.comps);
      edges = each-more (λ (e : Edge). e.buffer) c.id bytes heap g.edges pieces.edges;
      pipes = each-more (λ (p : Pipe). p.id) c.id bytes heap g.pipes pieces.pipes;
    }

  -- a buffer and its piece
  module _ (e : Edge) where
    abbrev longer : Graph
    longer = record { comps = g.comps; edges = placed (λ y. y.buffer) e g.edges; pipes = g.pipes; joins = g.joins }

    edge-used : (n : ℕ) → is_used g n ≡ true → is_used longer n ≡ true
    edge-used n = used-by (has_comp g n) (has_edge g n) (has_pipe g n) (has_comp g n) (has_edge longer n) (has_pipe g n) (λ is. is) (λ is. list_any-placed (λ y. y.buffer == n) (λ y. y.buffer) e g.edges ∙ or_right (e.buffer == n) _ is) (λ is. is)

    edge-new : is_used longer e.buffer ≡ true
    edge-new = or_left (has_comp g e.buffer || has_edge longer e.buffer) _ (or_right (has_comp g e.buffer) _ (list_any-placed (λ y. y.buffer == e.buffer) (λ y. y.buffer) e g.edges ∙ or_left (e.buffer == e.buffer) _ (eq-eqb e.buffer e.buffer refl)))

    pub pieces-edge : ArePieces longer (heap_with_piece e.buffer bytes heap)
    pieces-edge = record {
      few = omega (arith, pieces.few, count-more e.buffer bytes heap, length-placed (λ (y : Edge). y.buffer) e g.edges);
      named = all-placed (λ p. is_used longer p.id ≡ true) (λ p. p.id) (new_piece e.buffer bytes heap) heap.pieces edge-new (all-by (λ p. is_used g p.id ≡ true) (λ p. is_used longer p.id ≡ true) (λ p. edge-used p.id) heap.pieces pieces.named);
      comps = each-more (λ (x : Comp). x.id) e.buffer bytes heap g.comps pieces.comps;
      edges = all-placed (λ y. has_piece (heap_with_piece e.buffer bytes heap) y.buffer ≡ true) (λ y. y.buffer) e g.edges (has-new e.buffer bytes heap) (each-more (λ (y : Edge). y.buffer) e.buffer bytes heap g.edges pieces.edges);
      pipes = each-more (λ (p : Pipe). p.id) e.buffer bytes heap g.pipes pieces.pipes;
    }

  -- a pipeline and its piece
  module _ (p : Pipe) where
    abbrev piped : Graph
    piped = record { comps = g.comps; edges = g.edges; pipes = placed (λ q. q.id) p g.pipes; joins = g.joins }

    pipe-used : (n : ℕ) → is_used g n ≡ true → is_used piped n ≡ true
    pipe-used n = used-by (has_comp g n) (has_edge g n) (has_pipe g n) (has_comp g n) (has_edge g n) (has_pipe piped n) (λ is. is) (λ is. is) (λ is. list_any-placed (λ q. q.id == n) (λ q. q.id) p g.pipes ∙ or_right (p.id == n) _ is)

    pipe-new : is_used piped p.id ≡ true
    pipe-new = or_right (has_comp g p.id || has_edge g p.id) _ (list_any-placed (λ q. q.id == p.id) (λ q. q.id) p g.pipes ∙ or_left (p.id == p.id) _ (eq-eqb p.id p.id refl))

    pub pieces-pipe : ArePieces piped (heap_with_piece p.id bytes heap)
    pieces-pipe = record {
      few = omega (arith, pieces.few, count-more p.id bytes heap, length-placed (λ (q : Pipe). q.id) p g.pipes);
      named = all-placed (λ q. is_used piped q.id ≡ true) (λ q. q.id) (new_piece p.id bytes heap) heap.pieces pipe-new (all-by (λ q. is_used g q.id ≡ true) (λ q. is_used piped q.id ≡ true) (λ q. pipe-used q.id) heap.pieces pieces.named);
      comps = each-more (λ (x : Comp). x.id) p.id bytes heap g.comps pieces.comps;
      edges = each-more (λ (y : Edge). y.buffer) p.id bytes heap g.edges pieces.edges;
      pipes = all-placed (λ q. has_piece (heap_with_piece p.id bytes heap) q.id ≡ true) (λ q. q.id) p g.pipes (has-new p.id bytes heap) (each-more (λ (q : Pipe). q.id) p.id bytes heap g.pipes pieces.pipes);
    }

-- ---- the same ids

-- a join more
pub pieces-joined : (g : Graph) (heap : HeapView) (j : Join) → ArePieces g heap → ArePieces (with_join g j) heap
pieces-joined g heap j pieces = record {
  few = omega (arith, pieces.few, length-map g.edges (joined_edge j));
  named = all-by (λ p. is_used g p.id ≡ true) (λ p. is_used (with_join g j) p.id ≡ true) (λ p is. ap (λ h. (has_comp g p.id || h) || has_pipe g p.id) (has-joined j g.edges p.id) ∙ is) heap.pieces pieces.named;
  comps = pieces.comps;
  edges = each g.edges pieces.edges;
  pipes = pieces.pipes;
}
  where
    each : (es : List Edge) → AllByRecursion (λ e. has_piece heap e.buffer ≡ true) es → AllByRecursion (λ e. has_piece heap e.buffer ≡ true) (map (joined_edge j) es)
    each [] all = tt
    each (e ∷ es) all = (ap (has_piece heap) (joined-buffer j e) ∙ all.0, each es all.1)

-- a pipeline that is complete
pub completed-id : (id : ℕ) (p : Pipe) → (completed id p).id ≡ p.id
completed-id id p = by (p.id == id)
  where
    by : (h : Bool) → (cond h (record p { complete = true }) p).id ≡ p.id
    by true = refl
    by false = refl

has-completed : (id : ℕ) (ps : List Pipe) (n : ℕ) → list_any (λ p. p.id == n) (map (completed id) ps) ≡ list_any (λ p. p.id == n) ps
has-completed id [] n = refl
has-completed id (p ∷ ps) n = ap (λ (q : ℕ × Bool). (q.0 == n) || q.1) (λ i. (completed-id id p i, has-completed id ps n i))

pub ids-completed : (id : ℕ) (ps : List Pipe) → map (λ (p : Pipe). p.id) (map (completed id) ps) ≡ map (λ (p : Pipe). p.id) ps
ids-completed id [] = refl
ids-completed id (p ∷ ps) = ap (λ (q : ℕ × List ℕ). q.0 ∷ q.1) (λ i. (completed-id id p i, ids-completed id ps i))

pub each-completed : (P : ℕ → Type 0) (id : ℕ) (ps : List Pipe) → AllByRecursion (λ p. P p.id) ps → AllByRecursion (λ p. P p.id) (map (completed id) ps)
each-completed P id [] all = tt
each-completed P id (p ∷ ps) all = (subst P (sym (completed-id id p)) all.0, each-completed P id ps all.1)

pub pieces-completed : (g : Graph) (heap : HeapView) (id : ℕ) → ArePieces g heap → ArePieces (record { comps = g.comps; edges = g.edges; pipes = map (completed id) g.pipes; joins = g.joins }) heap
pieces-completed g heap id pieces = record {
  few = omega (arith, pieces.few, length-map g.pipes (completed id));
  named = all-by (λ p. is_used g p.id ≡ true) (λ p. is_used (record { comps = g.comps; edges = g.edges; pipes = map (completed id) g.pipes; joins = g.joins }) p.id ≡ true) (λ p is. ap (λ h. (has_comp g p.id || has_edge g p.id) || h) (has-completed id g.pipes p.id) ∙ is) heap.pieces pieces.named;
  comps = pieces.comps;
  edges = pieces.edges;
  pipes = each-completed (λ n. has_piece heap n ≡ true) id g.pipes pieces.pipes;
}
