-- What fits cells, part by part.
use Rattle.std.proofs.Common.{◌≡◌, ℕ, suc, List, [], ◌∷◌, ◌++◌, length, refl, ap, arith}
use Rattle.sof_base.specs.Cells.{Cell, Fixed, Loose, fixed, loose, written, Fits}

pub Fits-length : (bs : List ℕ) (cs : List Cell) → Fits bs cs → length bs ≡ length cs
unfolding Fits
Fits-length [] [] f = refl
Fits-length [] (c ∷ cs) f = absurd f
Fits-length (b ∷ bs) [] f = absurd f
Fits-length (b ∷ bs) (Fixed x ∷ cs) f = ap suc (Fits-length bs cs f.1)
Fits-length (b ∷ bs) (Loose x ∷ cs) f = ap suc (Fits-length bs cs f)

pub Fits-append : (xs bs : List ℕ) (cs ds : List Cell) → Fits xs cs → Fits bs ds → Fits (xs ++ bs) (cs ++ ds)
unfolding Fits
Fits-append [] bs [] ds f g = g
Fits-append [] bs (c ∷ cs) ds f g = absurd f
Fits-append (a ∷ xs) bs [] ds f g = absurd f
Fits-append (a ∷ xs) bs (Fixed x ∷ cs) ds f g = (f.0, Fits-append xs bs cs ds f.1 g)
Fits-append (a ∷ xs) bs (Loose x ∷ cs) ds f g = Fits-append xs bs cs ds f g

-- what fits two parts is two parts
pub record Splits (bs : List ℕ) (cs ds : List Cell) : Type 0 where
  pub first : List ℕ
  pub second : List ℕ
  pub whole : bs ≡ first ++ second
  pub fits_first : Fits first cs
  pub fits_second : Fits second ds

more_fixed : (b x : ℕ) (bs : List ℕ) (cs ds : List Cell) → b ≡ x → Splits bs cs ds → Splits (b ∷ bs) (Fixed x ∷ cs) ds
unfolding Fits
more_fixed b x bs cs ds e s = record { first = b ∷ s.first; second = s.second; whole = ap (λ (t : List ℕ). b ∷ t) s.whole; fits_first = (e, s.fits_first); fits_second = s.fits_second }

more_loose : (b x : ℕ) (bs : List ℕ) (cs ds : List Cell) → Splits bs cs ds → Splits (b ∷ bs) (Loose x ∷ cs) ds
unfolding Fits
more_loose b x bs cs ds s = record { first = b ∷ s.first; second = s.second; whole = ap (λ (t : List ℕ). b ∷ t) s.whole; fits_first = s.fits_first; fits_second = s.fits_second }

pub Fits-split : (bs : List ℕ) (cs ds : List Cell) → Fits bs (cs ++ ds) → Splits bs cs ds
unfolding Fits
Fits-split bs [] ds f = record { first = []; second = bs; whole = refl; fits_first = tt; fits_second = f }
Fits-split [] (c ∷ cs) ds f = absurd f
Fits-split (b ∷ bs) (Fixed x ∷ cs) ds f = more_fixed b x bs cs ds f.0 (Fits-split bs cs ds f.1)
Fits-split (b ∷ bs) (Loose x ∷ cs) ds f = more_loose b x bs cs ds (Fits-split bs cs ds f)

pub Fits-fixed : (bs : List ℕ) → Fits bs (fixed bs)
unfolding Fits
Fits-fixed [] = tt
Fits-fixed (b ∷ bs) = (refl, Fits-fixed bs)

pub is_fixed : (bs xs : List ℕ) → Fits bs (fixed xs) → bs ≡ xs
unfolding Fits
is_fixed [] [] f = refl
is_fixed [] (x ∷ xs) f = absurd f
is_fixed (b ∷ bs) [] f = absurd f
is_fixed (b ∷ bs) (x ∷ xs) f = let e = is_fixed bs xs f.1 in let d : b ≡ x = f.0 in cc

pub Fits-loose : (bs xs : List ℕ) → length bs ≡ length xs → Fits bs (loose xs)
unfolding Fits
Fits-loose [] [] e = tt
Fits-loose [] (x ∷ xs) e = absurd (omega (arith, e))
Fits-loose (b ∷ bs) [] e = absurd (omega (arith, e))
Fits-loose (b ∷ bs) (x ∷ xs) e = Fits-loose bs xs (omega (arith, e))

-- what is written fits
pub Fits-written : (cs : List Cell) → Fits (written cs) cs
unfolding Fits
Fits-written [] = tt
Fits-written (Fixed x ∷ cs) = (refl, Fits-written cs)
Fits-written (Loose x ∷ cs) = Fits-written cs
