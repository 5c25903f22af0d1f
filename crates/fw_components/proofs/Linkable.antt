-- What can be linked: the components, edges and joins of a registry, with one more join, or without an edge.
use Rattle.std.proofs.Common.{◌≡◌, refl, sym, ap, ◌∙◌, subst, ℕ, ◌+◌, ◌≤◌, List, [], ◌∷◌, ◌++◌, map, filter, length, length-append, Bool, true, false, cond, not, ◌==◌, ◌&&◌, ◌||◌, inl, inr, ◌⊎◌, Some, arith}
use Rattle.std.proofs.lemmas.Bool.{true≢false, false≢true, eqb-true, or_cases, or_parts, or_left, or_right, and_parts}
use Rattle.std.proofs.lemmas.List.{length-map}
use Rattle.std.proofs.lemmas.List.Folds.{list_any-append}
use Rattle.std.specs.Prelude.{is_none}
use Rattle.std.specs.List.{AllByRecursion, IsDistinct, list_any}
use Rattle.stream_law.specs.declared.graph.Edge.{Edge}
use Rattle.stream_law.specs.declared.graph.Join.{Join}
use Rattle.stream_law.specs.Joins.{joined_edge}
use Rattle.stream_law.specs.Order.{is_among}
use Rattle.stream_law.specs.Placed.{HasDistinct}
use Rattle.stream_law.proofs.Placing.{Ascends-distinct}
use Rattle.stream_law.proofs.Members.{in-all, in-each, kept-in, filter-most}
use Rattle.mbox_link.specs.Step.{touches}
use Rattle.fw_places.specs.Walks.{IsListed}
use Rattle.fw_units.specs.declared.component.Component.{Component}
use Rattle.fw_units.specs.Units.{edge_by, source_by, sink_by}
use Rattle.fw_units.specs.Changes.{has_id}
use Rattle.fw_components.specs.Tables.{Tables, ids_of}
use Rattle.fw_components.specs.Changes.{can_join, has_free_source, has_free_sink}
use Rattle.fw_components.specs.Kept.{AreJoined}
use Rattle.fw_components.specs.EchoEdges.{AreLinkable, linked_ids}
use Rattle.fw_components.proofs.Listed.{joined, ids-are, listed-is, between-listed}
use Rattle.fw_components.proofs.EchoWays.{edges-ids}

-- ---- lists of edges

-- one key of each, by another
keys-distinct : (bs : List Component) → HasDistinct (λ (b : Component). b.id) bs → HasDistinct (λ (e : Edge). e.buffer) (map edge_by bs)
keys-distinct bs distinct = subst (IsDistinct (λ m n. m == n)) (sym (edges-ids bs)) distinct

linked-are : (comps buffers : List Component) (joins : List Join) → linked_ids comps (map edge_by buffers) ≡ ids_of (joined comps buffers joins)
linked-are comps buffers joins = ap (λ (xs : List ℕ). map (λ (c : Component). c.id) comps ++ xs) (edges-ids buffers) ∙ ids-are (joined comps buffers joins) _ refl

pub buffers-linkable : (comps buffers : List Component) (joins : List Join) → AreJoined comps buffers joins → AreLinkable comps (map edge_by buffers) joins
buffers-linkable comps buffers joins are = record {
  few_comps = are.few_comps;
  few_edges = (let e : length (map edge_by buffers) ≤ 128 = omega (arith, length-map buffers edge_by, are.few_buffers) in e);
  few_joins = are.few_joins;
  named = are.named;
  distinct = keys-distinct buffers (Ascends-distinct (λ (b : Component). b.id) buffers are.named_buffers);
  listed = subst (λ (xs : List ℕ). AllByRecursion (IsListed xs) joins) (sym (linked-are comps buffers joins)) (between-listed (joined comps buffers joins) are.between);
}

-- ---- one more join

joined-id : (j : Join) (e : Edge) → (joined_edge j e).buffer ≡ e.buffer
joined-id j e = by (e.buffer == j.source) (e.buffer == j.sink)
  where
    by : (h k : Bool) → (cond {A = Edge} h (record { buffer = e.buffer; pipe = e.pipe; size = e.size; source = e.source; sink = Some j.sink }) (cond k (record { buffer = e.buffer; pipe = e.pipe; size = e.size; source = Some j.source; sink = e.sink }) e)).buffer ≡ e.buffer
    by true k = refl
    by false true = refl
    by false false = refl

joined-ids : (j : Join) (es : List Edge) → map (λ (e : Edge). e.buffer) (map (joined_edge j) es) ≡ map (λ (e : Edge). e.buffer) es
joined-ids j [] = refl
joined-ids j (e ∷ es) = (λ i. joined-id j e i ∷ joined-ids j es i)

pub more-linkable : (comps : List Component) (edges : List Edge) (joins : List Join) (j : Join) → AreLinkable comps edges joins → IsListed (linked_ids comps edges) j → length joins + 1 ≤ 256 → AreLinkable comps (map (joined_edge j) edges) (joins ++ j ∷ [])
more-linkable comps edges joins j can there few =
    let same : linked_ids comps (map (joined_edge j) edges) ≡ linked_ids comps edges = ap (λ (xs : List ℕ). map (λ (c : Component). c.id) comps ++ xs) (joined-ids j edges) in
    record {
      few_comps = can.few_comps;
      few_edges = (let e : length (map (joined_edge j) edges) ≤ 128 = omega (arith, length-map edges (joined_edge j), can.few_edges) in e);
      few_joins = (let e : length (joins ++ j ∷ []) ≤ 256 = omega (arith, length-append joins (j ∷ []), few) in e);
      named = can.named;
      distinct = subst (IsDistinct (λ m n. m == n)) (sym (joined-ids j edges)) can.distinct;
      listed = subst (λ (xs : List ℕ). AllByRecursion (IsListed xs) (joins ++ j ∷ [])) (sym same) (all-more (IsListed (linked_ids comps edges)) joins j can.listed there);
    }
  where
    all-more : (P : Join → Type 0) (js : List Join) (j : Join) → AllByRecursion P js → P j → AllByRecursion P (js ++ j ∷ [])
    all-more P [] j all is = (is, tt)
    all-more P (k ∷ js) j all is = (all.0, all-more P js j all.1 is)

-- both ends of a join that can be made are listed
free-among : (p : Component → Bool) (bs : List Component) (x : ℕ) → list_any (λ b. b.id == x && p b) bs ≡ true → has_id bs x ≡ true
free-among p [] x any = any
free-among p (b ∷ bs) x any = by (b.id == x) any (free-among p bs x)
  where
    by : (h : Bool) → ((h && p b) || list_any (λ b. b.id == x && p b) bs) ≡ true → (list_any (λ b. b.id == x && p b) bs ≡ true → has_id bs x ≡ true) → (h || has_id bs x) ≡ true
    by true any rest = refl
    by false any rest = rest any

module _ (t : Tables) where
  linked-is : (x : ℕ) → is_among (linked_ids t.comps (map edge_by t.buffers)) x ≡ (has_id t.comps x || has_id t.buffers x)
  linked-is x = ap (λ (xs : List ℕ). is_among xs x) (linked-are t.comps t.buffers t.joins) ∙ listed-is (joined t.comps t.buffers t.joins) x

  pub join-listed : (j : Join) → can_join t j ≡ true → IsListed (linked_ids t.comps (map edge_by t.buffers)) j
  join-listed j can = by (or_cases (has_id t.comps j.source && has_free_source t.buffers j.sink) (has_free_sink t.buffers j.source && has_id t.comps j.sink) can)
    where
      by : ((has_id t.comps j.source && has_free_source t.buffers j.sink) ≡ true) ⊎ ((has_free_sink t.buffers j.source && has_id t.comps j.sink) ≡ true) → IsListed (linked_ids t.comps (map edge_by t.buffers)) j
      by (inl into) =
          let p = and_parts (has_id t.comps j.source) (has_free_source t.buffers j.sink) into in (
            linked-is j.source ∙ or_left (has_id t.comps j.source) _ p.0,
            linked-is j.sink ∙ or_right (has_id t.comps j.sink) _ (free-among (λ b. is_none (source_by b.unit)) t.buffers j.sink p.1),
          )
      by (inr from) =
          let p = and_parts (has_free_sink t.buffers j.source) (has_id t.comps j.sink) from in (
            linked-is j.source ∙ or_right (has_id t.comps j.source) _ (free-among (λ b. is_none (sink_by b.unit)) t.buffers j.source p.0),
            linked-is j.sink ∙ or_left (has_id t.comps j.sink) _ p.1,
          )

-- ---- an edge less

-- of records with a key each those that are left have one each
distinct-left : {X : Type 0} (key : X → ℕ) (keep : X → Bool) (xs : List X) → HasDistinct key xs → HasDistinct key (filter keep xs)
unfolding IsDistinct
distinct-left key keep [] distinct = tt
distinct-left {X} key keep (x ∷ xs) distinct = by (keep x) (distinct-left key keep xs distinct.1)
  where
    behind : (ys : List X) → AllByRecursion (λ n. (key x == n) ≡ false) (map key ys) → AllByRecursion (λ n. (key x == n) ≡ false) (map key (filter keep ys))
    behind [] all = tt
    behind (y ∷ ys) all = at_test (keep y) (behind ys all.1)
      where
        at_test : (h : Bool) → AllByRecursion (λ n. (key x == n) ≡ false) (map key (filter keep ys)) → AllByRecursion (λ n. (key x == n) ≡ false) (map key (cond h (y ∷ filter keep ys) (filter keep ys)))
        at_test true rest = (all.0, rest)
        at_test false rest = rest

    by : (h : Bool) → HasDistinct key (filter keep xs) → HasDistinct key (cond h (x ∷ filter keep xs) (filter keep xs))
    by true rest = (behind xs distinct.0, rest)
    by false rest = rest

-- an id that is not that of the edge is still listed
left-among : (edges : List Edge) (b x : ℕ) → (x == b) ≡ false → is_among (map (λ (e : Edge). e.buffer) edges) x ≡ true → is_among (map (λ (e : Edge). e.buffer) (filter (λ (e : Edge). not (e.buffer == b)) edges)) x ≡ true
left-among [] b x other there = there
left-among (e ∷ edges) b x other there = by (e.buffer == x) refl (e.buffer == b) refl (left-among edges b x other)
  where
    rest : Bool
    rest = is_among (map (λ (e : Edge). e.buffer) edges) x

    left : List Edge
    left = filter (λ (e : Edge). not (e.buffer == b)) edges

    by : (h : Bool) → (e.buffer == x) ≡ h → (k : Bool) → (e.buffer == b) ≡ k → (rest ≡ true → is_among (map (λ (e : Edge). e.buffer) left) x ≡ true) → is_among (map (λ (e : Edge). e.buffer) (cond (not (e.buffer == b)) (e ∷ left) left)) x ≡ true
    by true here true gone more = absurd (true≢false (sym gone ∙ ap (λ n. n == b) (eqb-true e.buffer x here) ∙ other))
    by h here false stays more =
        ap (λ k. is_among (map (λ (e : Edge). e.buffer) (cond (not k) (e ∷ left) left)) x) stays
        ∙ onto h here (sym (ap (λ k. k || rest) here) ∙ there)
      where
        onto : (h : Bool) → (e.buffer == x) ≡ h → (h || rest) ≡ true → (e.buffer == x || is_among (map (λ (e : Edge). e.buffer) left) x) ≡ true
        onto true here there = or_left (e.buffer == x) _ here
        onto false here there = or_right (e.buffer == x) _ (more there)
    by false here true gone more =
        ap (λ k. is_among (map (λ (e : Edge). e.buffer) (cond (not k) (e ∷ left) left)) x) gone
        ∙ more (sym (ap (λ k. k || rest) here) ∙ there)

pub fewer-linkable : (comps : List Component) (edges : List Edge) (joins : List Join) (b : ℕ) → AreLinkable comps edges joins → AreLinkable comps (filter (λ e. not (e.buffer == b)) edges) (filter (λ j. not (touches b j)) joins)
fewer-linkable comps edges joins b can =
    record {
      few_comps = can.few_comps;
      few_edges = (let e : length left ≤ 128 = omega (arith, filter-most (λ (e : Edge). not (e.buffer == b)) edges, can.few_edges) in e);
      few_joins = (let e : length (filter (λ j. not (touches b j)) joins) ≤ 256 = omega (arith, filter-most (λ j. not (touches b j)) joins, can.few_joins) in e);
      named = can.named;
      distinct = distinct-left (λ (e : Edge). e.buffer) (λ (e : Edge). not (e.buffer == b)) edges can.distinct;
      listed = in-each (IsListed (linked_ids comps left)) (filter (λ j. not (touches b j)) joins) (λ j here.
          let it = kept-in (λ j. not (touches b j)) joins j here in
          let apart = or_parts (j.source == b) (j.sink == b) (off (touches b j) it.1) in
          let ends = in-all (IsListed (linked_ids comps edges)) joins j can.listed it.0 in
          (still j.source apart.0 ends.0, still j.sink apart.1 ends.1));
    }
  where
    left : List Edge
    left = filter (λ (e : Edge). not (e.buffer == b)) edges

    off : (h : Bool) → not h ≡ true → h ≡ false
    off true is = absurd (false≢true is)
    off false is = refl

    ours : List ℕ
    ours = map (λ (c : Component). c.id) comps

    still : (x : ℕ) → (x == b) ≡ false → is_among (linked_ids comps edges) x ≡ true → is_among (linked_ids comps left) x ≡ true
    still x other there =
        list_any-append (λ y. y == x) ours (map (λ (e : Edge). e.buffer) left)
        ∙ by (or_cases (is_among ours x) (is_among (map (λ (e : Edge). e.buffer) edges) x) (sym (list_any-append (λ y. y == x) ours (map (λ (e : Edge). e.buffer) edges)) ∙ there))
      where
        by : (is_among ours x ≡ true) ⊎ (is_among (map (λ (e : Edge). e.buffer) edges) x ≡ true) → (is_among ours x || is_among (map (λ (e : Edge). e.buffer) left) x) ≡ true
        by (inl here) = or_left (is_among ours x) _ here
        by (inr here) = or_right (is_among ours x) _ (left-among edges b x other here)
