-- Reading words one after the other, as a loop does.
use Rattle.std.proofs.Common.{◌≡◌, ℕ, zero, suc, ◌+◌, ◌*◌, ◌<◌, List, [], ◌∷◌, ◌++◌, length, take, set, refl, sym, ap, ◌∙◌, arith}
use Rattle.std.proofs.lemmas.List.{take_more_set}
use Rattle.sof_base.specs.Slots.{word_at}
use Rattle.sof_base.specs.Layouts.{words_at}

pub words_more : (n : ℕ) (bytes : List ℕ) (at : ℕ) → words_at (n + 1) bytes at ≡ words_at n bytes at ++ word_at bytes (at + 4 * n) ∷ []
unfolding words_at
words_more zero bytes at = let e : at + 4 * 0 ≡ at = omega arith in rw e refl
words_more (suc n) bytes at =
    let k : suc n + 1 ≡ suc (n + 1) = omega arith in
    let e : at + 4 + 4 * n ≡ at + 4 * suc n = omega arith in
    rw (k, ← e) (ap (λ (t : List ℕ). word_at bytes at ∷ t) (words_more n bytes (at + 4)))

pub words_none : (bytes : List ℕ) (at : ℕ) → words_at 0 bytes at ≡ []
unfolding words_at
words_none bytes at = refl

pub words_step : (words : List ℕ) (i : ℕ) (bytes : List ℕ) (at w : ℕ) → i < length words → words_at i bytes at ≡ take i words → w ≡ word_at bytes (at + 4 * i) → words_at (i + 1) bytes at ≡ take (i + 1) (set words i w)
words_step words i bytes at w lt so_far e = words_more i bytes at ∙ (rw (so_far, ← e) (sym (take_more_set words i w lt)))
