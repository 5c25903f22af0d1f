-- Indices that are noted each once.
use Rattle.std.proofs.Common.{◌≡◌, refl, sym, subst, ◌∙◌, ℕ, ◌+◌, ◌<◌, ◌≤◌, List, [], ◌∷◌, ◌++◌, length, Bool, true, false, cond, inl, inr, ◌⊎◌, ◌==◌, arith}
use Rattle.std.specs.List.{IsDistinct, AllByRecursion}
use Rattle.std.proofs.lemmas.Bool.{true≢false, eqb-true}
use Rattle.std.proofs.lemmas.List.{length-append, length-map}
use Rattle.std.proofs.lemmas.List.FromFn.{length-range_with_len}
use Rattle.stream_law.specs.declared.graph.Pipe.{Pipe}
use Rattle.stream_law.specs.Order.{is_among}
use Rattle.stream_law.proofs.Members.{IsIn, in-all, kept-in}
use Rattle.tplg_plan.specs.declared.plans.Plan.{Plan}
use Rattle.tplg_plan.specs.Sound.{IsSound}
use Rattle.host_widgets.specs.Acts.{widget_ids}
use Rattle.host_widgets.specs.UpActs.{widgets_at, widgets_of}
use Rattle.host_widgets.specs.Need.{need_in, is_needed}
use Rattle.host_dynamic.specs.Noting.{with_index}
use Rattle.host_widgets.proofs.Needs.{among-in, in-among, flat-in}
use Rattle.host_widgets.proofs.Sublists.{AreOnce, once-append, once-flat, once-filter, once-distinct, distinct-once, range-once, few-once}
use Rattle.host_widgets.proofs.UpStages.{index_of_id}
use Rattle.host_widgets.specs.Indices.{pipe_indices}

-- ---- one more

once-push : (has : List ℕ) (i : ℕ) → AreOnce has → is_among has i ≡ false → AreOnce (has ++ i ∷ [])
once-push has i once gone = once-append has (i ∷ []) once (λ none. none, tt) (λ x there one. by x there one)
  where
    by : (x : ℕ) → IsIn x has → (x ≡ i) ⊎ ⊥ → ⊥
    by x there (inl same) = true≢false (sym (in-among has i (subst (λ y. IsIn y has) same there)) ∙ gone)
    by x there (inr none) = none

pub with-once : (has : List ℕ) (i : ℕ) → IsDistinct (λ m n. m == n) has → IsDistinct (λ m n. m == n) (with_index i has)
with-once has i distinct = by (is_among has i) refl
  where
    by : (b : Bool) → is_among has i ≡ b → IsDistinct (λ m n. m == n) (cond b has (has ++ i ∷ []))
    by true e = distinct
    by false e = once-distinct (has ++ i ∷ []) (once-push has i (distinct-once has distinct) e)

all-push : (P : ℕ → Type 0) (has : List ℕ) (i : ℕ) → AllByRecursion P has → P i → AllByRecursion P (has ++ i ∷ [])
all-push P [] i all one = (one, tt)
all-push P (x ∷ has) i all one = (all.0, all-push P has i all.1 one)

pub with-each : (P : ℕ → Type 0) (has : List ℕ) (i : ℕ) → AllByRecursion P has → P i → AllByRecursion P (with_index i has)
with-each P has i all one = by (is_among has i)
  where
    by : (b : Bool) → AllByRecursion P (cond b has (has ++ i ∷ []))
    by true = all
    by false = all-push P has i all one

-- there is room for an index that is not noted
pub room-for : (plan : Plan) (sound : IsSound plan) (has : List ℕ) (i : ℕ) → IsDistinct (λ m n. m == n) has → AllByRecursion (λ i. is_among (pipe_indices plan.graph) i ≡ true) has → is_among (pipe_indices plan.graph) i ≡ true → is_among has i ≡ false → length has < 32
room-for plan sound has i distinct all there gone =
    let few = few-once (has ++ i ∷ []) (pipe_indices plan.graph) (once-push has i (distinct-once has distinct) gone) (λ x here. among-in (pipe_indices plan.graph) x (in-all (λ i. is_among (pipe_indices plan.graph) i ≡ true) (has ++ i ∷ []) x (all-push (λ i. is_among (pipe_indices plan.graph) i ≡ true) has i all there) here)) in
    omega (arith, few, length-append has (i ∷ []), length-map plan.graph.pipes (λ (p : Pipe). p.index), sound.pipes)

-- what a stream needs are indices of pipelines
pub need-indices : (plan : Plan) (host i : ℕ) → IsIn i (need_in plan.graph host) → is_among (pipe_indices plan.graph) i ≡ true
need-indices plan host i there = in-among (pipe_indices plan.graph) i (kept-in (is_needed plan.graph host) (pipe_indices plan.graph) i there).0

-- ---- the widgets of indices

-- of distinct indices they are no more than all
pub few-widgets-of : (plan : Plan) (n : List ℕ) → AreOnce n → length (widgets_of plan n) ≤ length plan.widgets
few-widgets-of plan n once =
    let many = few-once (widgets_of plan n) (widget_ids plan) ids-once (λ id there. here id there) in
    omega (arith, many, length-range)
  where
    ids-once : AreOnce (widgets_of plan n)
    ids-once = once-flat (widgets_at plan) n once
        (λ i. once-filter (λ (x : ℕ). index_of_id plan x == i) (widget_ids plan) (range-once 0 (length plan.widgets)))
        (λ i k id a b. sym (eqb-true (index_of_id plan id) i (kept-in (λ (x : ℕ). index_of_id plan x == i) (widget_ids plan) id a).1) ∙ eqb-true (index_of_id plan id) k (kept-in (λ (x : ℕ). index_of_id plan x == k) (widget_ids plan) id b).1)

    here : (id : ℕ) → IsIn id (widgets_of plan n) → IsIn id (widget_ids plan)
    here id there = let r = flat-in (widgets_at plan) n id there in (kept-in (λ (x : ℕ). index_of_id plan x == r.0) (widget_ids plan) id r.2).0

    length-range : length (widget_ids plan) ≡ length plan.widgets
    length-range = length-range_with_len 0 (length plan.widgets)
