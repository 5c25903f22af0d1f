-- The buffers that are left of those at a component.
use Rattle.std.proofs.Common.{◌≡◌, refl, sym, ap, ◌∙◌, ℕ, zero, suc, ◌+◌, ◌<◌, ◌≤◌, List, [], ◌∷◌, ◌++◌, append_assoc, Bool, true, false, cond, map, take, filter, length, length-append, get_or, not, ◌==◌, ◌&&◌, ◌||◌, Some, arith}
use Rattle.std.proofs.lemmas.Bool.{false≢true}
use Rattle.std.proofs.lemmas.List.{append-nil, map-append}
use Rattle.std.proofs.lemmas.List.Elements.{filter_more}
use Rattle.std.specs.Prelude.{find, option_and_then, nat_le}
use Rattle.std.specs.List.{AllByRecursion}
use Rattle.stream_law.specs.declared.graph.Edge.{Edge}
use Rattle.stream_law.specs.Placed.{Ascends}
use Rattle.stream_law.specs.Ways.{source_of, sink_of, is_end, live, active_end}
use Rattle.stream_law.specs.Moves.{fed, fed_by, looked_at, chooses}
use Rattle.row_laws.proofs.Found.{found-each}
use Rattle.fw_units.specs.declared.component.Component.{Component}
use Rattle.fw_units.specs.Units.{edge_by, source_by, sink_by}
use Rattle.fw_components.specs.Tables.{Tables, graph_of, view_by, held_frames}
use Rattle.fw_schedule.specs.Schedules.{inlets_of}
use Rattle.fw_schedule.proofs.DistinctEdges.{edges-distinct}

-- the ends of a buffer are those of its edge
pub record HasSides (t : Tables) (c : Component) : Type 0 where
  pub source : source_of (graph_of t) c.id ≡ source_by c.unit
  pub sink : sink_of (graph_of t) c.id ≡ sink_by c.unit

pub sides-of : (t : Tables) → Ascends (λ c. c.id) t.buffers → AllByRecursion (HasSides t) t.buffers
sides-of t up = each t.buffers (found-each (λ (e : Edge). e.buffer) (map edge_by t.buffers) (edges-distinct t up))
  where
    each : (cs : List Component) → AllByRecursion (λ e. find (λ x. x.buffer == e.buffer) (map edge_by t.buffers) ≡ Some e) (map edge_by cs) → AllByRecursion (HasSides t) cs
    each [] found = tt
    each (c ∷ cs) found = (
      record {
        source = ap (option_and_then (λ (e : Edge). e.source)) found.0;
        sink = ap (option_and_then (λ (e : Edge). e.sink)) found.0;
      },
      each cs found.1,
    )

-- what passes two tests, by one of the buffer
kept-both : (p q : ℕ → Bool) (r : Component → Bool) (cs : List Component) → AllByRecursion (λ c. (q c.id && p c.id) ≡ r c) cs → filter p (filter q (map (λ e. e.buffer) (map edge_by cs))) ≡ map (λ c. c.id) (filter r cs)
kept-both p q r [] same = refl
kept-both p q r (c ∷ cs) same = by (q c.id) (p c.id) refl refl (kept-both p q r cs same.1)
  where
    rest : List ℕ
    rest = filter q (map (λ e. e.buffer) (map edge_by cs))

    by : (h k : Bool) → q c.id ≡ h → p c.id ≡ k → filter p (filter q (map (λ e. e.buffer) (map edge_by cs))) ≡ map (λ c. c.id) (filter r cs) → filter p (cond (q c.id) (c.id ∷ filter q (map (λ e. e.buffer) (map edge_by cs))) (filter q (map (λ e. e.buffer) (map edge_by cs)))) ≡ map (λ c. c.id) (cond (r c) (c ∷ filter r cs) (filter r cs))
    by true true at is so_far =
        ap (λ x. filter p (cond x (c.id ∷ rest) rest)) at
        ∙ ap (λ x. cond x (c.id ∷ filter p rest) (filter p rest)) is
        ∙ ap (λ (xs : List ℕ). c.id ∷ xs) so_far
        ∙ ap (λ x. map (λ c. c.id) (cond x (c ∷ filter r cs) (filter r cs))) ((λ i. sym at i && sym is i) ∙ same.0)
    by true false at is so_far =
        ap (λ x. filter p (cond x (c.id ∷ rest) rest)) at
        ∙ ap (λ x. cond x (c.id ∷ filter p rest) (filter p rest)) is
        ∙ so_far
        ∙ ap (λ x. map (λ c. c.id) (cond x (c ∷ filter r cs) (filter r cs))) ((λ i. sym at i && sym is i) ∙ same.0)
    by false k at is so_far =
        ap (λ x. filter p (cond x (c.id ∷ rest) rest)) at
        ∙ so_far
        ∙ ap (λ x. map (λ c. c.id) (cond x (c ∷ filter r cs) (filter r cs))) ((λ i. sym at i && sym is i) ∙ same.0)

-- ---- the buffers that are fed

module _ (t : Tables) (id : ℕ) where
  abbrev pub is_fed : Component → Bool
  is_fed b = is_end (source_by b.unit) id && (live (view_by t) b.id && active_end (view_by t) (sink_by b.unit))

  pub fed-are : Ascends (λ c. c.id) t.buffers → fed_by (view_by t) id ≡ map (λ c. c.id) (filter is_fed t.buffers)
  unfolding fed
  fed-are up = kept-both (fed (view_by t)) (λ b. is_end (source_of (graph_of t) b) id) is_fed t.buffers (each t.buffers (sides-of t up))
    where
      each : (cs : List Component) → AllByRecursion (HasSides t) cs → AllByRecursion (λ c. (is_end (source_of (graph_of t) c.id) id && (live (view_by t) c.id && active_end (view_by t) (sink_of (graph_of t) c.id))) ≡ is_fed c) cs
      each [] sides = tt
      each (c ∷ cs) sides = ((λ i. is_end (sides.0.source i) id && (live (view_by t) c.id && active_end (view_by t) (sides.0.sink i))), each cs sides.1)

  -- ---- those that are looked at

  module _ (choosing : Bool) where
    abbrev pub is_looked : Component → Bool
    is_looked b = is_end (sink_by b.unit) id && (not choosing || (active_end (view_by t) (source_by b.unit) && nat_le 1 (length (held_frames t b.id))))

    pub looked-are : Ascends (λ c. c.id) t.buffers → choosing ≡ chooses (view_by t) id → looked_at (view_by t) (λ b. length (held_frames t b)) id ≡ map (λ c. c.id) (filter is_looked t.buffers)
    looked-are up is = kept-both (λ b. not (chooses (view_by t) id) || (active_end (view_by t) (source_of (graph_of t) b) && nat_le 1 (length (held_frames t b)))) (λ b. is_end (sink_of (graph_of t) b) id) is_looked t.buffers (each t.buffers (sides-of t up))
      where
        each : (cs : List Component) → AllByRecursion (HasSides t) cs → AllByRecursion (λ c. (is_end (sink_of (graph_of t) c.id) id && (not (chooses (view_by t) id) || (active_end (view_by t) (source_of (graph_of t) c.id) && nat_le 1 (length (held_frames t c.id))))) ≡ is_looked c) cs
        each [] sides = tt
        each (c ∷ cs) sides = ((λ i. is_end (sides.0.sink i) id && (not (sym is i) || (active_end (view_by t) (sides.0.source i) && nat_le 1 (length (held_frames t c.id))))), each cs sides.1)

    -- ---- those that may be looked at

    abbrev pub is_inlet : Component → Bool
    is_inlet b = is_end (sink_by b.unit) id && (not choosing || active_end (view_by t) (source_by b.unit))

    pub inlets-are : Ascends (λ c. c.id) t.buffers → choosing ≡ chooses (view_by t) id → inlets_of (view_by t) id ≡ map (λ c. c.id) (filter is_inlet t.buffers)
    inlets-are up is = kept-both (λ b. not (chooses (view_by t) id) || active_end (view_by t) (source_of (graph_of t) b)) (λ b. is_end (sink_of (graph_of t) b) id) is_inlet t.buffers (each t.buffers (sides-of t up))
      where
        each : (cs : List Component) → AllByRecursion (HasSides t) cs → AllByRecursion (λ c. (is_end (sink_of (graph_of t) c.id) id && (not (chooses (view_by t) id) || active_end (view_by t) (source_of (graph_of t) c.id))) ≡ is_inlet c) cs
        each [] sides = tt
        each (c ∷ cs) sides = ((λ i. is_end (sides.0.sink i) id && (not (sym is i) || active_end (view_by t) (sides.0.source i))), each cs sides.1)

-- ---- counts

-- before one that passes there are fewer than in all
pub kept-under : (r : Component → Bool) (cs : List Component) (i : ℕ) (d : Component) → i < length cs → r (get_or cs i d) ≡ true → length (map (λ (c : Component). c.id) (filter r (take i cs))) < length (map (λ (c : Component). c.id) (filter r cs))
kept-under r [] i d low is = absurd (omega (arith, low))
kept-under r (c ∷ cs) zero d low is = ap-under (r c) is
  where
    ap-under : (h : Bool) → h ≡ true → 0 < length (map (λ (c : Component). c.id) (cond h (c ∷ filter r cs) (filter r cs)))
    ap-under true e = omega arith
    ap-under false e = absurd (false≢true e)
kept-under r (c ∷ cs) (suc i) d low is = by (r c) (kept-under r cs i d (omega (arith, low)) is)
  where
    by : (h : Bool) → length (map (λ (c : Component). c.id) (filter r (take i cs))) < length (map (λ (c : Component). c.id) (filter r cs)) → length (map (λ (c : Component). c.id) (cond h (c ∷ filter r (take i cs)) (filter r (take i cs)))) < length (map (λ (c : Component). c.id) (cond h (c ∷ filter r cs) (filter r cs)))
    by true rest = omega (arith, rest)
    by false rest = rest

-- so there is room for it
pub kept-room : (r : Component → Bool) (cs : List Component) (i : ℕ) (d : Component) (old now all : List ℕ) → i < length cs → d ≡ get_or cs i d → r d ≡ true → all ≡ map (λ c. c.id) (filter r cs) → length old + length all ≤ 256 → now ≡ old ++ map (λ c. c.id) (filter r (take i cs)) → length now < 256
kept-room r cs i d old now all low is here are room so_far =
    omega (arith, kept-under r cs i d low (ap r (sym is) ∙ here), ap length are, room, ap length so_far, length-append old (map (λ (c : Component). c.id) (filter r (take i cs))))

-- ---- one after the other

next-some : (r : Component → Bool) (cs : List Component) (i : ℕ) (d : Component) (h : Bool) → i < length cs → d ≡ get_or cs i d → r d ≡ h → map (λ (c : Component). c.id) (filter r (take (i + 1) cs)) ≡ map (λ (c : Component). c.id) (filter r (take i cs)) ++ map (λ (c : Component). c.id) (cond h (d ∷ []) [])
next-some r cs i d h low is here =
    ap (map (λ (c : Component). c.id)) (filter_more r cs i d low)
    ∙ map-append (λ (c : Component). c.id) (filter r (take i cs)) (cond (r (get_or cs i d)) (get_or cs i d ∷ []) [])
    ∙ ap (λ (c : Component). map (λ (c : Component). c.id) (filter r (take i cs)) ++ map (λ (c : Component). c.id) (cond (r c) (c ∷ []) [])) (sym is)
    ∙ ap (λ k. map (λ (c : Component). c.id) (filter r (take i cs)) ++ map (λ (c : Component). c.id) (cond k (d ∷ []) [])) here

-- one that passes comes after those before it
pub next-kept : (r : Component → Bool) (cs : List Component) (i : ℕ) (d : Component) (old now new : List ℕ) → i < length cs → d ≡ get_or cs i d → r d ≡ true → now ≡ old ++ map (λ c. c.id) (filter r (take i cs)) → new ≡ now ++ d.id ∷ [] → new ≡ old ++ map (λ c. c.id) (filter r (take (i + 1) cs))
next-kept r cs i d old now new low is here so_far more =
    more
    ∙ ap (λ (ids : List ℕ). ids ++ d.id ∷ []) so_far
    ∙ append_assoc old (map (λ (c : Component). c.id) (filter r (take i cs))) (d.id ∷ [])
    ∙ ap (λ (ids : List ℕ). old ++ ids) (sym (next-some r cs i d true low is here))

-- one that does not changes nothing
pub next-left : (r : Component → Bool) (cs : List Component) (i : ℕ) (d : Component) (old now : List ℕ) → i < length cs → d ≡ get_or cs i d → r d ≡ false → now ≡ old ++ map (λ c. c.id) (filter r (take i cs)) → now ≡ old ++ map (λ c. c.id) (filter r (take (i + 1) cs))
next-left r cs i d old now low is other so_far =
    so_far ∙ ap (λ (ids : List ℕ). old ++ ids) (sym (next-some r cs i d false low is other ∙ append-nil (map (λ (c : Component). c.id) (filter r (take i cs)))))
