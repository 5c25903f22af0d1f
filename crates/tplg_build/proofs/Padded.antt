-- Bytes laid into a field of zeros, one after the other.
use Rattle.std.proofs.Common.{◌≡◌, ℕ, suc, ◌+◌, ◌-◌, ◌<◌, ◌≤◌, List, [], ◌∷◌, ◌++◌, length, get_or, take, set, replicate, refl, sym, ◌∙◌, arith, append_assoc, length-append}
use Rattle.std.proofs.Math.Seq.{set-append_seam}
use Rattle.std.proofs.lemmas.List.{take_more, take_all, length-take, length-replicate}
use Rattle.tplg_build.specs.WidgetForm.{padded}

-- the field so far
abbrev pub laid : ℕ → List ℕ → ℕ → List ℕ
laid n bytes i = take i bytes ++ replicate (n - i) 0

seam : (xs ys : List ℕ) (i b : ℕ) → length xs ≡ i → set (xs ++ 0 ∷ ys) i b ≡ xs ++ b ∷ ys
seam xs ys i b len = rw (← len) (set-append_seam xs 0 ys b)

pub laid-more : (n : ℕ) (bytes : List ℕ) (i b : ℕ) → i < length bytes → length bytes ≤ n → b ≡ get_or bytes i b → set (laid n bytes i) i b ≡ laid n bytes (i + 1)
laid-more n bytes i b within fits is =
    let some : n - i ≡ suc (n - (i + 1)) = omega arith in
    let len : length (take i bytes) ≡ i = omega (arith, length-take i bytes) in
    rw some (seam (take i bytes) (replicate (n - (i + 1)) 0) i b len ∙ sym (rw (take_more bytes i b within, ← is) (append_assoc (take i bytes) (b ∷ []) (replicate (n - (i + 1)) 0))))

pub laid-all : (n : ℕ) (bytes : List ℕ) (i : ℕ) → i ≡ length bytes → laid n bytes i ≡ bytes ++ replicate (n - length bytes) 0
laid-all n bytes i end = rw (end, take_all (length bytes) bytes (omega arith)) refl

pub length-padded : (n : ℕ) (bytes : List ℕ) → length bytes ≤ n → length (padded n bytes) ≡ n
length-padded n bytes h = omega (arith, length-append bytes (replicate (n - length bytes) 0), length-replicate {A = ℕ} (n - length bytes) 0)
