-- To fit cells is to agree outside the loose places.
use Rattle.std.proofs.Common.{◌≡◌, ℕ, zero, suc, false, List, [], ◌∷◌, length, get_or, refl, ap, arith}
use Rattle.sof_base.specs.Cells.{Cell, Fixed, Loose, written, Fits}
use Rattle.sof_base.specs.LoosePlaces.{is_loose, AgreesOutsideLoose, IsCanonical}

Same : List ℕ → List Cell → Type 0
Same b cs = (i : ℕ) → is_loose cs i ≡ false → get_or b i 0 ≡ get_or (written cs) i 0

same_fixed : (x y : ℕ) (b : List ℕ) (cs : List Cell) → x ≡ y → Same b cs → Same (x ∷ b) (Fixed y ∷ cs)
unfolding Same is_loose
same_fixed x y b cs h s zero e = h
same_fixed x y b cs h s (suc i) e = s i e

same_loose : (x y : ℕ) (b : List ℕ) (cs : List Cell) → Same b cs → Same (x ∷ b) (Loose y ∷ cs)
unfolding Same is_loose
same_loose x y b cs s zero e = absurd cc
same_loose x y b cs s (suc i) e = s i e

same_none : Same [] []
unfolding Same
same_none i e = refl

both : (b : List ℕ) (cs : List Cell) → Fits b cs → (length b ≡ length (written cs)) × Same b cs
unfolding Fits
both [] [] f = (refl, same_none)
both [] (c ∷ cs) f = absurd f
both (x ∷ b) [] f = absurd f
both (x ∷ b) (Fixed y ∷ cs) f = let r = both b cs f.1 in (ap suc r.0, same_fixed x y b cs f.0 r.1)
both (x ∷ b) (Loose y ∷ cs) f = let r = both b cs f in (ap suc r.0, same_loose x y b cs r.1)

pub agrees : (b : List ℕ) (cs : List Cell) → Fits b cs → AgreesOutsideLoose b cs
unfolding Same
agrees b cs f = both b cs f

pub fits : (b : List ℕ) (cs : List Cell) → AgreesOutsideLoose b cs → Fits b cs
unfolding Fits is_loose
fits [] [] a = tt
fits [] (c ∷ cs) a = absurd (omega (arith, a.0))
fits (x ∷ b) [] a = absurd (omega (arith, a.0))
fits (x ∷ b) (Fixed y ∷ cs) a = (a.1 0 refl, fits b cs (omega (arith, a.0), λ i e. a.1 (suc i) e))
fits (x ∷ b) (Loose y ∷ cs) a = fits b cs (omega (arith, a.0), λ i e. a.1 (suc i) e)

pub canonical : (b : List ℕ) (cs : List Cell) → Fits b cs → IsCanonical b cs → b ≡ written cs
unfolding Fits is_loose
canonical [] [] f k = refl
canonical [] (c ∷ cs) f k = absurd f
canonical (x ∷ b) [] f k = absurd f
canonical (x ∷ b) (Fixed y ∷ cs) f k = let r = canonical b cs f.1 (λ i e. k (suc i) e) in let h : x ≡ y = f.0 in cc
canonical (x ∷ b) (Loose y ∷ cs) f k = let r = canonical b cs f (λ i e. k (suc i) e) in let h : x ≡ y = k 0 refl in cc
