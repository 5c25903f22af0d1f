use Rattle.std.proofs.Common.{◌≡◌, sym, ap, subst, ℕ, ◌<◌, length, get_or, refl, zero, suc, ◌+◌, Bool, [], ◌∷◌, true, false, inl, inr, ◌⊎◌, List, arith}
use Rattle.std.proofs.lemmas.Bool.{false≢true}
use Rattle.host_dynamic.specs.Spreading.{NotesMore, HasNoted, mark_noted}
use Rattle.host_dynamic.proofs.Noted.{has-more}
use Rattle.host_dynamic.proofs.Searchable.{index-among}
use Rattle.stream_law.specs.Order.{is_among}
use Rattle.host_dynamic.proofs.Spreading.{notes-start, cond-keeps, cond-there, cond-more}
use Rattle.host_widgets.specs.Need.{HasAt}
use Rattle.host_dynamic.proofs.needing.note_marked.Goals as goal
use Rattle.host_widgets.specs.Indices.{index_at}

pub loop-id-init : goal.loop-id-init
loop-id-init c = record { more = notes-start c.args.plan.now.graph (λ p. (x : ℕ) → get_or c.args.marks.now x false ≡ true → HasAt p (index_at c.args.plan.now.graph x)) c.args.needed.now.items c.requires.once; marked = λ x low. absurd (omega (arith, low)) }

pub note_mark-requires-clause-once : goal.note_mark-requires-clause-once
note_mark-requires-clause-once c = c.loop-id.invariant.more.once

pub loop-id-preserved : goal.loop-id-preserved
loop-id-preserved c =
    let plan = c.args.plan.now in let g = plan.graph in let marks = c.args.marks.now in let id = c.loop-id.id in let before : List ℕ = c.args.needed.now.items in let now : List ℕ = c.loop-id.needed.items in let then : List ℕ = c.note_mark.new.needed.items in
    let is : then ≡ mark_noted g marks id now = c.note_mark.ensures in
    record {
      more = subst (λ (ys : List ℕ). NotesMore g (λ p. (x : ℕ) → get_or marks x false ≡ true → HasAt p (index_at g x)) before ys) (sym is)
          (cond-more g (λ p. (x : ℕ) → get_or marks x false ≡ true → HasAt p (index_at g x)) before now (get_or marks id false) (index_at g id) (λ i at. index-among plan c.requires.plan id i at)
          (λ on p closed q all. q id on) c.loop-id.invariant.more);
      marked = λ x low on. below x on (lt-or x id low);
    }
  where
    lt-or : (x k : ℕ) → x < k + 1 → (x < k) ⊎ (x ≡ k)
    lt-or zero zero low = inr refl
    lt-or zero (suc k) low = inl (omega arith)
    lt-or (suc x) zero low = absurd (omega (arith, low))
    lt-or (suc x) (suc k) low = by (lt-or x k (omega (arith, low)))
      where
        by : (x < k) ⊎ (x ≡ k) → (suc x < suc k) ⊎ (suc x ≡ suc k)
        by (inl a) = inl (omega (arith, a))
        by (inr b) = inr (ap suc b)

    below : (x : ℕ) → get_or c.args.marks.now x false ≡ true → (x < c.loop-id.id) ⊎ (x ≡ c.loop-id.id) → HasAt (is_among c.note_mark.new.needed.items) (index_at c.args.plan.now.graph x)
    below x on (inl less) =
        has-more (is_among c.loop-id.needed.items) (is_among c.note_mark.new.needed.items) (index_at c.args.plan.now.graph x)
        (subst (λ (ys : List ℕ). HasNoted (is_among ys) c.loop-id.needed.items) (sym c.note_mark.ensures) (cond-keeps (get_or c.args.marks.now c.loop-id.id false) (index_at c.args.plan.now.graph c.loop-id.id) c.loop-id.needed.items))
        (c.loop-id.invariant.marked x less on)
    below x on (inr same) =
        subst (λ (ys : List ℕ). HasAt (is_among ys) (index_at c.args.plan.now.graph x)) (sym c.note_mark.ensures)
        (subst (λ (y : ℕ). HasAt (is_among (mark_noted c.args.plan.now.graph c.args.marks.now y c.loop-id.needed.items)) (index_at c.args.plan.now.graph x)) same (cond-there (get_or c.args.marks.now x false) (index_at c.args.plan.now.graph x) c.loop-id.needed.items on))

pub returns-clause-marked : goal.returns-clause-marked
returns-clause-marked c = λ x on. by x on (low-mark c.args.marks.now x on)
  where
    low-mark : (ms : List Bool) (x : ℕ) → get_or ms x false ≡ true → x < length ms
    low-mark [] x on = absurd (false≢true on)
    low-mark (m ∷ ms) zero on = omega arith
    low-mark (m ∷ ms) (suc x) on = omega (arith, low-mark ms x on)

    by : (x : ℕ) → get_or c.args.marks.now x false ≡ true → x < length c.args.marks.now → HasAt (is_among c.loop-id.needed.items) (index_at c.args.plan.now.graph x)
    by x on low = c.loop-id.invariant.marked x (omega (arith, low, c.requires.size, c.loop-id-test.false)) on
