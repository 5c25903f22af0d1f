-- Buffers in which no frame may lie any more, one after another.
use Rattle.std.proofs.Common.{◌≡◌, refl, sym, ap, ◌∙◌, ℕ, zero, suc, ◌+◌, ◌<◌, ◌≤◌, List, [], ◌∷◌, Bool, true, false, cond, map, length, take, get_or, ◌==◌, ◌&&◌, ◌||◌, inl, inr, Option, Some, None, option_map, arith}
use Rattle.std.specs.Prelude.{find, option_and_then}
use Rattle.std.proofs.lemmas.List.{take_more, take_all}
use Rattle.std.proofs.lemmas.List.Folds.{list_any-append}
use Rattle.std.proofs.lemmas.Bool.{true≢false, or_right, eqb-true, eq-eqb, false_from_ne_true}
use Rattle.stream_law.specs.declared.graph.Edge.{Edge}
use Rattle.stream_law.specs.State.{View}
use Rattle.stream_law.specs.Ways.{live, live_end, source_of, sink_of, edge_of}
use Rattle.stream_law.specs.Seen.{flows}
use Rattle.stream_law.proofs.Members.{IsIn, in-all}
use Rattle.stream_law.proofs.Placing.{Ascends-distinct}
use Rattle.stream_law.specs.Order.{is_among}
use Rattle.row_laws.proofs.Found.{found-each}
use Rattle.fw_units.specs.declared.component.Component.{Component}
use Rattle.fw_units.specs.declared.component.Unit as units
use Rattle.fw_units.specs.declared.component.Unit.TheVariants.{Buffer}
use Rattle.fw_units.specs.Units.{edge_by, source_by, sink_by}
use Rattle.fw_components.specs.Tables.{Tables, view_by, graph_of}
use Rattle.fw_components.specs.Kept.{IsKept}
use Rattle.fw_units.specs.Changes.{with_ended, ended_unit}
use Rattle.fw_places.specs.Walks.{is_marked}
use Rattle.fw_walks.proofs.Naming.{find-map}
use Rattle.fw_pipeline.specs.Triggers.{settled_in}
use Rattle.fw_places.specs.Walks.{is_end_marked}
use Rattle.fw_pipeline.specs.Settling.{flows_by, ended_unless}

-- a buffer whose ring is empty
abbrev pub ended_by : Component → Component
ended_by c = record { id = c.id; pipe = c.pipe; channels = c.channels; unit = ended_unit c.unit }

ended-twice : (c : Component) → ended_by (ended_by c) ≡ ended_by c
ended-twice c = by c.unit
  where
    by : (u : units.Unit) → ended_by (ended_by (record { id = c.id; pipe = c.pipe; channels = c.channels; unit = u })) ≡ ended_by (record { id = c.id; pipe = c.pipe; channels = c.channels; unit = u })
    by (Buffer size ring source sink) = refl
    by u = refl

ended-ends : (u : units.Unit) → (source_by (ended_unit u) ≡ source_by u) × (sink_by (ended_unit u) ≡ sink_by u)
ended-ends (Buffer size ring source sink) = (refl, refl)
ended-ends u = (refl, refl)

-- there is one at a place
pub some-at : (cs : List Component) (k : ℕ) → k < length cs → Component
some-at [] k low = absurd (omega (arith, low))
some-at (c ∷ cs) k low = c

pub at-any : (cs : List Component) (k : ℕ) (d e : Component) → k < length cs → get_or cs k d ≡ get_or cs k e
at-any [] k d e low = absurd (omega (arith, low))
at-any (c ∷ cs) zero d e low = refl
at-any (c ∷ cs) (suc k) d e low = at-any cs k d e (omega (arith, low))

map-at : {X Y : Type 0} (f : X → Y) (xs : List X) (k : ℕ) (d : X) (e : Y) → k < length xs → get_or (map f xs) k e ≡ f (get_or xs k d)
map-at f [] k d e low = absurd (omega (arith, low))
map-at f (x ∷ xs) zero d e low = refl
map-at f (x ∷ xs) (suc k) d e low = map-at f xs k d e (omega (arith, low))

length-map : {X Y : Type 0} (f : X → Y) (xs : List X) → length (map f xs) ≡ length xs
length-map f [] = refl
length-map f (x ∷ xs) = ap suc (length-map f xs)

map-each : {Y : Type 0} (f g : Component → Y) (cs : List Component) → ((c : Component) → IsIn c cs → f c ≡ g c) → map f cs ≡ map g cs
map-each f g [] same = refl
map-each {Y} f g (c ∷ cs) same = ap (λ (p : Y × List Y). p.0 ∷ p.1) (λ i. (same c (inl refl) i, map-each f g cs (λ d there. same d (inr there)) i))

map-twice : (f g h : Component → Component) (cs : List Component) → ((c : Component) → f (g c) ≡ h c) → map f (map g cs) ≡ map h cs
map-twice f g h [] same = refl
map-twice f g h (c ∷ cs) same = ap (λ (p : Component × List Component). p.0 ∷ p.1) (λ i. (same c i, map-twice f g h cs same i))

-- those of the first ids are settled
abbrev pub among_of : Tables → List ℕ → Component → Component
among_of t ids c = cond (is_among ids c.id) (settled_in (view_by t) c) c

abbrev pub SettledFirst : Tables → ℕ → Tables → Type 0
SettledFirst t n u = u ≡ record { comps = t.comps; buffers = map (among_of t (take n (map (λ (c : Component). c.id) t.buffers))) t.buffers; pipes = t.pipes; joins = t.joins }

pub none-settled : (t : Tables) → SettledFirst t 0 t
none-settled t = ap (λ (cs : List Component). let u : Tables = record { comps = t.comps; buffers = cs; pipes = t.pipes; joins = t.joins } in u) (same t.buffers)
  where
    same : (cs : List Component) → cs ≡ map (among_of t []) cs
    same [] = refl
    same (c ∷ cs) = ap (λ (xs : List Component). c ∷ xs) (same cs)

module _ (t : Tables) (kept : IsKept t) where
  abbrev v : View
  v = view_by t

  abbrev names : List ℕ
  names = map (λ (c : Component). c.id) t.buffers

  abbrev among : List ℕ → Component → Component
  among ids c = among_of t ids c

  abbrev Settled : ℕ → Tables → Type 0
  Settled n u = SettledFirst t n u

  -- ---- the ends of a buffer

  module _ (c : Component) (there : IsIn c t.buffers) where
    edge-own : edge_of (graph_of t) c.id ≡ Some (edge_by c)
    edge-own = find-map (λ (e : Edge). e.buffer == c.id) edge_by t.buffers ∙ ap (option_map edge_by) (in-all (λ (c : Component). find (λ x. x.id == c.id) t.buffers ≡ Some c) t.buffers c (found-each (λ (c : Component). c.id) t.buffers (Ascends-distinct (λ (c : Component). c.id) t.buffers kept.named.buffers)) there)

    source-own : source_of (graph_of t) c.id ≡ source_by c.unit
    source-own = ap (λ (o : Option Edge). option_and_then (λ e. e.source) o) edge-own

    sink-own : sink_of (graph_of t) c.id ≡ sink_by c.unit
    sink-own = ap (λ (o : Option Edge). option_and_then (λ e. e.sink) o) edge-own

  settled-read : (c : Component) → ((settled_in v c).id ≡ c.id) × ((source_by (settled_in v c).unit ≡ source_by c.unit) × (sink_by (settled_in v c).unit ≡ sink_by c.unit))
  settled-read c = by (flows v c.id)
    where
      by : (h : Bool) → ((cond h c (ended_by c)).id ≡ c.id) × ((source_by (cond h c (ended_by c)).unit ≡ source_by c.unit) × (sink_by (cond h c (ended_by c)).unit ≡ sink_by c.unit))
      by true = (refl, (refl, refl))
      by false = (refl, ended-ends c.unit)

  among-read : (ids : List ℕ) (c : Component) → ((among ids c).id ≡ c.id) × ((source_by (among ids c).unit ≡ source_by c.unit) × (sink_by (among ids c).unit ≡ sink_by c.unit))
  among-read ids c = by (is_among ids c.id)
    where
      by : (h : Bool) → ((cond h (settled_in v c) c).id ≡ c.id) × ((source_by (cond h (settled_in v c) c).unit ≡ source_by c.unit) × (sink_by (cond h (settled_in v c) c).unit ≡ sink_by c.unit))
      by true = settled-read c
      by false = (refl, (refl, refl))

  module _ (ids : List ℕ) (marks : List Bool) (is : (x : ℕ) → is_marked ids marks x ≡ live v x) where
    end-live : (end : Option ℕ) → is_end_marked ids marks end ≡ live_end v end
    end-live None = refl
    end-live (Some x) = is x

    flows-marked : (c d : Component) → IsIn c t.buffers → (d.id ≡ c.id) × ((source_by d.unit ≡ source_by c.unit) × (sink_by d.unit ≡ sink_by c.unit)) → flows_by ids marks d ≡ flows v c.id
    unfolding flows
    flows-marked c d there same = ap (λ (p : Bool × Bool × Bool). (p.0 && p.1) && p.2) (λ i. (
      (ap (is_marked ids marks) same.0 ∙ is c.id) i,
      (ap (is_end_marked ids marks) (same.1.0 ∙ sym (source-own c there)) ∙ end-live (source_of (graph_of t) c.id)) i,
      (ap (is_end_marked ids marks) (same.1.1 ∙ sym (sink-own c there)) ∙ end-live (sink_of (graph_of t) c.id)) i,
    ))

    -- ---- one more

    module _ (n : ℕ) (low : n < length t.buffers) where
      abbrev d : Component
      d = some-at t.buffers n low

      abbrev one : Component
      one = get_or t.buffers n d

      in-at : (cs : List Component) (k : ℕ) (d : Component) → k < length cs → IsIn (get_or cs k d) cs
      in-at [] k d low = absurd (omega (arith, low))
      in-at (c ∷ cs) zero d low = inl refl
      in-at (c ∷ cs) (suc k) d low = inr (in-at cs k d (omega (arith, low)))

      more-listed : (x : ℕ) → is_among (take (n + 1) names) x ≡ (is_among (take n names) x || one.id == x)
      more-listed x =
          ap (λ (xs : List ℕ). is_among xs x) (take_more names n 0 (omega (arith, low, length-map (λ (c : Component). c.id) t.buffers)))
          ∙ list_any-append (λ y. y == x) (take n names) (get_or names n 0 ∷ [])
          ∙ ap (λ h. is_among (take n names) x || h) (last (get_or names n 0 == x) ∙ ap (λ k. k == x) (map-at (λ (c : Component). c.id) t.buffers n d 0 low))
        where
          last : (h : Bool) → (h || false) ≡ h
          last true = refl
          last false = refl

      -- a buffer of this id, in which no frame may lie, is empty from now on
      ended-more : flows v one.id ≡ false → (c : Component) → with_ended one.id (among (take n names) c) ≡ among (take (n + 1) names) c
      ended-more still c = by (one.id == c.id) refl ∙ ap (λ h. cond h (settled_in v c) c) (sym (more-listed c.id))
        where
          empty : one.id ≡ c.id → settled_in v c ≡ ended_by c
          empty same = ap (λ h. cond h c (ended_by c)) (ap (flows v) (sym same) ∙ still)

          now : one.id ≡ c.id → (a : Bool) → with_ended one.id (cond a (settled_in v c) c) ≡ settled_in v c
          now same true =
              ap (with_ended one.id) (empty same)
              ∙ ap (λ h. cond h (ended_by (ended_by c)) (ended_by c)) (eq-eqb c.id one.id (sym same))
              ∙ ended-twice c ∙ sym (empty same)
          now same false = ap (λ h. cond h (ended_by c) c) (eq-eqb c.id one.id (sym same)) ∙ sym (empty same)

          other : (one.id == c.id) ≡ false → (x : Component) → x.id ≡ c.id → with_ended one.id x ≡ x
          other apart x same = ap (λ h. cond h (ended_by x) x) (false_from_ne_true (x.id == one.id) (λ e. true≢false (sym (eq-eqb one.id c.id (sym (eqb-true x.id one.id e) ∙ same)) ∙ apart)))

          by : (h : Bool) → (one.id == c.id) ≡ h → with_ended one.id (among (take n names) c) ≡ cond (is_among (take n names) c.id || h) (settled_in v c) c
          by true is = now (eqb-true one.id c.id is) (is_among (take n names) c.id) ∙ sym (ap (λ h. cond h (settled_in v c) c) (some (is_among (take n names) c.id)))
            where
              some : (h : Bool) → (h || true) ≡ true
              some true = refl
              some false = refl
          by false is = other is (among (take n names) c) (among-read (take n names) c).0 ∙ ap (λ h. cond h (settled_in v c) c) (sym (last (is_among (take n names) c.id)))
            where
              last : (h : Bool) → (h || false) ≡ h
              last true = refl
              last false = refl

      -- one in which frames may lie stays as it is
      stays-more : flows v one.id ≡ true → (c : Component) → among (take n names) c ≡ among (take (n + 1) names) c
      stays-more flow c = by (one.id == c.id) refl ∙ ap (λ h. cond h (settled_in v c) c) (sym (more-listed c.id))
        where
          full : one.id ≡ c.id → settled_in v c ≡ c
          full same = ap (λ h. cond h c (ended_by c)) (ap (flows v) (sym same) ∙ flow)

          any : one.id ≡ c.id → (a b : Bool) → cond a (settled_in v c) c ≡ cond b (settled_in v c) c
          any same true true = refl
          any same true false = full same
          any same false true = sym (full same)
          any same false false = refl

          by : (h : Bool) → (one.id == c.id) ≡ h → among (take n names) c ≡ cond (is_among (take n names) c.id || h) (settled_in v c) c
          by true is = any (eqb-true one.id c.id is) (is_among (take n names) c.id) (is_among (take n names) c.id || true)
          by false is = ap (λ h. cond h (settled_in v c) c) (sym (last (is_among (take n names) c.id)))
            where
              last : (h : Bool) → (h || false) ≡ h
              last true = refl
              last false = refl

      pub more-settled : (u w : Tables) → Settled n u → ((e : Component) → w ≡ ended_unless (flows_by ids marks (get_or u.buffers n e)) (get_or u.buffers n e).id u) → Settled (n + 1) w
      more-settled u w so_far next =
          next d
          ∙ ap (λ (u : Tables). ended_unless (flows_by ids marks (get_or u.buffers n d)) (get_or u.buffers n d).id u) so_far
          ∙ ap (λ (c : Component). ended_unless (flows_by ids marks c) c.id before) (map-at (among (take n names)) t.buffers n d d low)
          ∙ ap (λ (p : Bool × ℕ). ended_unless p.0 p.1 before) (λ i. (flows-marked one (among (take n names) one) (in-at t.buffers n d low) (among-read (take n names) one) i, (among-read (take n names) one).0 i))
          ∙ by (flows v one.id) refl
        where
          before : Tables
          before = record { comps = t.comps; buffers = map (among (take n names)) t.buffers; pipes = t.pipes; joins = t.joins }

          of : List Component → Tables
          of cs = record { comps = t.comps; buffers = cs; pipes = t.pipes; joins = t.joins }

          by : (h : Bool) → flows v one.id ≡ h → Settled (n + 1) (ended_unless h one.id before)
          by true flow = ap of (map-each (among (take n names)) (among (take (n + 1) names)) t.buffers (λ c there. stays-more flow c))
          by false still = ap of (map-twice (with_ended one.id) (among (take n names)) (among (take (n + 1) names)) t.buffers (ended-more still))

      pub settled-within : (u : Tables) → Settled n u → n < length u.buffers
      settled-within u so_far = let e : length u.buffers ≡ length t.buffers = ap (λ (u : Tables). length u.buffers) so_far ∙ length-map (among (take n names)) t.buffers in omega (arith, low, e)

  -- all of them
  pub all-settled : (n : ℕ) → length t.buffers ≤ n → (u : Tables) → Settled n u → u ≡ record { comps = t.comps; buffers = map (settled_in v) t.buffers; pipes = t.pipes; joins = t.joins }
  all-settled n end u so_far =
      so_far
      ∙ ap (λ (cs : List Component). let u : Tables = record { comps = t.comps; buffers = cs; pipes = t.pipes; joins = t.joins } in u) (
      ap (λ (ids : List ℕ). map (among ids) t.buffers) (take_all n names (omega (arith, end, length-map (λ (c : Component). c.id) t.buffers)))
      ∙ map-each (among names) (settled_in v) t.buffers (λ c there. ap (λ h. cond h (settled_in v c) c) (listed t.buffers c there)))
    where
      listed : (cs : List Component) (c : Component) → IsIn c cs → is_among (map (λ (c : Component). c.id) cs) c.id ≡ true
      listed [] c there = absurd there
      listed (d ∷ cs) c (inl same) = ap (λ h. h || is_among (map (λ (c : Component). c.id) cs) c.id) (eq-eqb d.id c.id (ap (λ (x : Component). x.id) (sym same)))
      listed (d ∷ cs) c (inr more) = or_right (d.id == c.id) _ (listed cs c more)
