-- One step of a move: frames are taken out of the buffers that are looked at, and what is made of them is put into those that are fed.
use Rattle.std.proofs.Common.{◌≡◌, refl, sym, ap, ◌∙◌, subst, ℕ, ◌+◌, ◌≤◌, List, [], ◌∷◌, map, length, Bool, true, false, cond, ◌==◌, Option, Some, arith, ℤ}
use Rattle.std.proofs.lemmas.Bool.{eqb-true, eq-eqb, false_from_ne_true}
use Rattle.std.specs.Prelude.{find}
use Rattle.std.specs.List.{AllByRecursion}
use Rattle.std.specs.Option.{option_map_or}
use Rattle.sof_base.specs.Samples.{Frame}
use Rattle.sof_base.specs.FrameLists.{frames_of}
use Rattle.stream_law.specs.Order.{is_among}
use Rattle.stream_law.specs.Placed.{AreAbove, Ascends}
use Rattle.fw_units.specs.declared.component.Component.{Component}
use Rattle.fw_units.specs.Units.{unit_frames, capacity_by}
use Rattle.fw_units.specs.Changes.{has_id}
use Rattle.fw_units.specs.Frames.{channels_by, taken_by}
use Rattle.fw_moves.specs.Processed.{IsOutlet, output_frames, fed_at, drained_at, run_by}
use Rattle.fw_moves.specs.Moving.{CanMove}
use Rattle.fw_units.proofs.Ids.{all-with, has-map}
use Rattle.fw_units.proofs.Ids.{ascends-map}
use Rattle.fw_moves.proofs.MovedLaws.{drained-id, run-output}

-- ---- each component is found by its id

found-behind : (x : Component) (xs ys : List Component) → AreAbove (λ c. c.id) x.id ys → AllByRecursion (λ c. find (λ y. y.id == c.id) xs ≡ Some c) ys → AllByRecursion (λ c. find (λ y. y.id == c.id) (x ∷ xs) ≡ Some c) ys
unfolding AreAbove
found-behind x xs [] above all = tt
found-behind x xs (y ∷ ys) above all =
    let far : (x.id == y.id) ≡ false = false_from_ne_true (x.id == y.id) (λ e. omega (arith, above.0, eqb-true x.id y.id e)) in
    (ap (λ h. cond h (Some x) (find (λ z. z.id == y.id) xs)) far ∙ all.0, found-behind x xs ys above.1 all.1)

pub own-found : (cs : List Component) → Ascends (λ c. c.id) cs → AllByRecursion (λ c. find (λ y. y.id == c.id) cs ≡ Some c) cs
unfolding Ascends
own-found [] all = tt
own-found (c ∷ cs) all = (ap (λ h. cond h (Some c) (find (λ y. y.id == c.id) cs)) (eq-eqb c.id c.id refl), found-behind c cs cs all.0 (own-found cs all.1))

-- ---- what is not looked at stays

pub find-apart : (looked : List ℕ) (n b : ℕ) (cs : List Component) → is_among looked b ≡ false → find (λ c. c.id == b) (map (drained_at looked n) cs) ≡ find (λ c. c.id == b) cs
find-apart looked n b [] apart = refl
find-apart looked n b (c ∷ cs) apart = by (c.id == b) refl (find-apart looked n b cs apart)
  where
    own : (c.id == b) ≡ true → drained_at looked n c ≡ c
    own is = ap (λ h. cond {A = Component} h (taken_by n c) c) (ap (is_among looked) (eqb-true c.id b is) ∙ apart)

    by : (h : Bool) → (c.id == b) ≡ h → find (λ c. c.id == b) (map (drained_at looked n) cs) ≡ find (λ c. c.id == b) cs → find (λ c. c.id == b) (map (drained_at looked n) (c ∷ cs)) ≡ find (λ c. c.id == b) (c ∷ cs)
    by true is rest = (λ i. cond ((own is i).id == b) (Some (own is i)) (rest i))
    by false is rest =
        ap (λ k. cond (k == b) (Some (drained_at looked n c)) (find (λ c. c.id == b) (map (drained_at looked n) cs))) (same c)
        ∙ ap (λ h. cond h (Some (drained_at looked n c)) (find (λ c. c.id == b) (map (drained_at looked n) cs))) is
        ∙ rest
        ∙ sym (ap (λ h. cond h (Some c) (find (λ c. c.id == b) cs)) is)
      where
        same : (c : Component) → (drained_at looked n c).id ≡ c.id
        same c = test (is_among looked c.id)
          where
            test : (h : Bool) → (cond {A = Component} h (taken_by n c) c).id ≡ c.id
            test true = refl
            test false = refl

-- ---- the buffers that are fed

module _ (bs : List Component) (looked fed : List ℕ) (n : ℕ) (c : Component) (can : CanMove bs looked fed n c) (mid : List Component) (drained : mid ≡ map (drained_at looked n) bs) where
  pub mid-ascends : Ascends (λ x. x.id) mid
  mid-ascends = subst (Ascends (λ x. x.id)) (sym drained) (ascends-map (drained_at looked n) (drained-id looked fed can.apart n) bs can.ascends)

  mid-outlet : (b : ℕ) → is_among looked b ≡ false → IsOutlet bs c.channels n b → IsOutlet mid c.channels n b
  mid-outlet b apart outlet =
      let found : find (λ x. x.id == b) mid ≡ find (λ x. x.id == b) bs = ap (find (λ (x : Component). x.id == b)) drained ∙ find-apart looked n b bs apart in
      record {
        there = ap (λ (xs : List Component). has_id xs b) drained ∙ has-map (drained_at looked n) (drained-id looked fed can.apart n) b bs ∙ outlet.there;
        shape = ap (λ (o : Option Component). option_map_or (λ x. channels_by x.unit) o 1) found ∙ outlet.shape;
        room = subst (λ (o : Option Component). length (option_map_or (λ x. unit_frames x.unit) o []) + n ≤ option_map_or (λ x. capacity_by x.unit) o 0) (sym found) outlet.room;
      }

  pub mid-outlets : AllByRecursion (IsOutlet mid c.channels n) fed
  mid-outlets = all-with (λ b. is_among looked b ≡ false) (IsOutlet bs c.channels n) (IsOutlet mid c.channels n) mid-outlet fed can.apart can.outlets

  -- what is given by the component that has moved the frames
  pub step-table : (numbers : ℕ → ℕ → ℕ) (own : List ℤ) (x : Component) (words : ℕ → List ℤ) (new : List Component) (samples : List ℤ) (frames : List Frame) → x ≡ run_by own n c → frames_of c.channels n samples ≡ frames
      → new ≡ map (fed_at fed (λ b. output_frames x.unit x.channels (numbers x.id b) (frames_of x.channels n samples)) words) mid
      → new ≡ map (fed_at fed (λ b. output_frames c.unit c.channels (numbers c.id b) frames) words) (map (drained_at looked n) bs)
  step-table numbers own x words new samples frames is made given =
      given
      ∙ (λ i. map (fed_at fed (λ b. output_frames (is i).unit (is i).channels (numbers (is i).id b) (frames_of (is i).channels n samples)) words) mid)
      ∙ (λ i. map (fed_at fed (λ b. run-output own n c.channels (numbers c.id b) c.unit (made i) i) words) (drained i))
