-- Reading a name byte by byte.
use Rattle.std.proofs.Common.{◌≡◌, ℕ, zero, suc, ◌<◌, cond, true, false, length, get_or, List, [], ◌∷◌, ◌++◌, Option, Some, None, refl, sym, ◌∙◌, arith, append_assoc}
use Rattle.std.proofs.lemmas.List.{append-nil}
use Rattle.std.proofs.lemmas.Grind.{common_steps}
use Rattle.sof_base.specs.Slots.{NoZero, IsName, is_name, until_zero, has_zero}

-- the name so far, and the bytes of the field that are left
pub record Before (name rest field : List ℕ) : Type 0 where
  pub so_far : until_zero field ≡ name ++ until_zero rest
  pub same : has_zero field ≡ has_zero rest
  pub no_zero : NoZero name

abbrev pub found : List ℕ → Option (List ℕ)
found field = cond (has_zero field) (Some (until_zero field)) None

pub NoZero-push : (name : List ℕ) (b : ℕ) → NoZero name → 0 < b → NoZero (name ++ b ∷ [])
unfolding NoZero
NoZero-push [] b n lt = (lt, tt)
NoZero-push (x ∷ name) b n lt = (n.0, NoZero-push name b n.1 lt)

pub Before-none : (field : List ℕ) → Before [] field field
unfolding NoZero
Before-none field = record { so_far = refl; same = refl; no_zero = tt }

pub Before-more : (name rest field : List ℕ) (b : ℕ) → 0 < b → Before name (b ∷ rest) field → Before (name ++ b ∷ []) rest field
unfolding until_zero has_zero
Before-more name rest field zero lt h = absurd (omega arith)
Before-more name rest field (suc b) lt h = record { so_far = h.so_far ∙ sym (append_assoc name (suc b ∷ []) (until_zero rest)); same = h.same; no_zero = NoZero-push name (suc b) h.no_zero lt }

pub Before-zero : (name rest field : List ℕ) → Before name (0 ∷ rest) field → found field ≡ Some name
unfolding until_zero has_zero
Before-zero name rest field h = rw (h.same, h.so_far, append-nil name) refl

pub Before-full : (name field : List ℕ) (b : ℕ) → 0 < b → Before name (b ∷ []) field → found field ≡ None
unfolding until_zero has_zero
Before-full name field zero lt h = absurd (omega arith)
Before-full name field (suc b) lt h = rw h.same refl

pub Before-end : (name field : List ℕ) → Before name [] field → found field ≡ None
unfolding until_zero has_zero
Before-end name field h = rw h.same refl

-- ---- which bytes are a name

pub IsName-none : IsName []
unfolding NoZero
IsName-none = (omega arith, tt)

pub zero_there : (bs : List ℕ) (i : ℕ) → i < length bs → get_or bs i 0 ≡ 0 → has_zero bs ≡ true
unfolding has_zero
zero_there [] i lt e = absurd (omega arith)
zero_there (zero ∷ bs) i lt e = refl
zero_there (suc b ∷ bs) zero lt e = absurd (omega (arith, e))
zero_there (suc b ∷ bs) (suc i) lt e = zero_there bs i (omega arith) e

pub none_zero : (bs : List ℕ) → NoZero bs → has_zero bs ≡ false
unfolding NoZero has_zero
none_zero [] h = refl
none_zero (zero ∷ bs) h = absurd (omega (arith, h.0))
none_zero (suc b ∷ bs) h = none_zero bs h.1

abbrev pub named : List ℕ → Option (List ℕ)
named bs = cond (is_name bs) (Some bs) None

pub named_zero : (bs : List ℕ) (i : ℕ) → i < length bs → get_or bs i 0 ≡ 0 → named bs ≡ None
named_zero bs i lt e = rw (zero_there bs i lt e) grind (arith, common_steps)

pub named_long : (bs : List ℕ) → 43 < length bs → named bs ≡ None
named_long bs long = grind (arith, common_steps)

pub named_whole : (bs : List ℕ) → IsName bs → named bs ≡ Some bs
named_whole bs is = rw (none_zero bs is.1) grind (arith, common_steps, is.0)
