use Rattle.std.proofs.Common.{◌≡◌, refl, sym, ap, ◌∙◌, ℕ, ◌+◌, ◌<◌, List, length, get_or, Option, Some, None, true, false, ◌&&◌, take, position}
use Rattle.std.specs.Option.{option_or}
use Rattle.std.specs.Str.{bytes_eq}
use Rattle.tplg_widgets.specs.declared.entry.Entry.{Entry}
use Rattle.tplg_widgets.specs.Entries.{is_interpreted}
use Rattle.tplg_widgets.specs.Names.{is_interpreted_named}
use Rattle.tplg_widgets.specs.KeptNumbers.{kept_first}
use Rattle.tplg_widgets.proofs.Positions.{position-more}
use Rattle.tplg_widgets.proofs.first_names.interpreted_by_name.Goals.{then-is_interpreted+in_ok-keep_first, else-is_interpreted}
use Rattle.tplg_widgets.proofs.first_names.interpreted_by_name.Goals as goal

option_or-none : (o : Option ℕ) → option_or o None ≡ o
option_or-none None = refl
option_or-none (Some x) = refl

takes : (es : List Entry) (k : ℕ) (x : Entry) (q name : List ℕ) (old new : Option ℕ) → k < length es → x ≡ get_or es k x → is_interpreted x ≡ true → name ≡ x.name → old ≡ position (is_interpreted_named q) (take k es) → new ≡ kept_first old (bytes_eq q name) k → new ≡ position (is_interpreted_named q) (take (k + 1) es)
takes es k x q name old new within here yes_it same e f = f ∙ ap (λ (p : Option ℕ × List ℕ). kept_first p.0 (bytes_eq q p.1) k) (λ i. (e i, same i)) ∙ ap (λ b. kept_first (position (is_interpreted_named q) (take k es)) (b && bytes_eq q x.name) k) (sym yes_it) ∙ ap (λ y. kept_first (position (is_interpreted_named q) (take k es)) (is_interpreted_named q y) k) here ∙ sym (position-more (is_interpreted_named q) es k x within)

skips : (es : List Entry) (k : ℕ) (x : Entry) (q : List ℕ) (old : Option ℕ) → k < length es → x ≡ get_or es k x → is_interpreted x ≡ false → old ≡ position (is_interpreted_named q) (take k es) → old ≡ position (is_interpreted_named q) (take (k + 1) es)
skips es k x q old within here not_it e = e ∙ sym (position-more (is_interpreted_named q) es k x within ∙ ap (λ y. kept_first (position (is_interpreted_named q) (take k es)) (is_interpreted_named q y) k) (sym here) ∙ ap (λ b. kept_first (position (is_interpreted_named q) (take k es)) (b && bytes_eq q x.name) k) not_it ∙ option_or-none _)

pub loop-k-preserved : goal.loop-k-preserved
loop-k-preserved c = elim c.if-is_interpreted.branch [
  | then-is_interpreted+in_ok-keep_first w ↦ rw w.numbers-is (λ q. takes c.args.entries.now c.loop-k.k c.index-entries-k.result q w.as_bytes.result.now _ _ c.loop-k-test.true c.index-entries-k.is (sym c.is_interpreted.ensures ∙ w.if-is_interpreted.true) (w.as_bytes.ensures.value ∙ w.name.ensures) (c.loop-k.invariant q) (w.in_ok-keep_first.ensures q))
  | else-is_interpreted w ↦ rw w.numbers-is (λ q. skips c.args.entries.now c.loop-k.k c.index-entries-k.result q _ c.loop-k-test.true c.index-entries-k.is (sym c.is_interpreted.ensures ∙ w.if-is_interpreted.false) (c.loop-k.invariant q))
]
