-- Frames that are made in two runs are those that are made in one.
use Rattle.std.proofs.Common.{◌≡◌, refl, sym, ap, ◌∙◌, ℕ, zero, suc, ◌+◌, ◌-◌, ◌<◌, ◌≤◌, List, [], ◌∷◌, ◌++◌, map, take, drop, length, replicate, get_or, Bool, true, false, cond, ◌==◌, Option, Some, None, arith, ℤ, pos, length-append}
use Rattle.std.proofs.Math.Seq.{take-add}
use Rattle.std.proofs.lemmas.List.{get_or-take, get_or-drop, get_or_append_left, get_or-append-add, replicate-append-replicate}
use Rattle.std.proofs.lemmas.List.FromFn.{fill_by_all, get_or-map-range_with_len, length-map-range_with_len}
use Rattle.std.proofs.lemmas.Bool.{ltb-true, ltb-false}
use Rattle.std.specs.Prelude.{find, nat_lt}
use Rattle.std.specs.List.{range_with_len}
use Rattle.std.specs.Option.{option_map_or}
use Rattle.sof_base.specs.Samples.{Frame, silence}
use Rattle.sof_base.specs.Equations.{mixed}
use Rattle.eq_biquad.specs.EqState.{numbers_of}
use Rattle.stream_law.specs.Table.{table}
use Rattle.stream_law.specs.Made.{only_slice, chosen_slice, frames_at as frames_of_each}
use Rattle.stream_law.specs.Equaliser.{passed_frames, numbers_after}
use Rattle.stream_law.specs.Ramps.{ramped_frames, ramp_place}
use Rattle.stream_law.proofs.Ramping.{frames-append, frames-numbers, from-numbers, place-numbers}
use Rattle.stream_law.proofs.Equalising.{passed_frames-append, numbers_after-append}
use Rattle.fw_units.specs.declared.component.Unit as units
use Rattle.fw_units.specs.declared.component.Unit.TheVariants.{Host, Dai, Volume, Mixer, Mux, Eq, Demux, Buffer, Pipeline}
use Rattle.fw_units.specs.Units.{numbers_by}
use Rattle.fw_moves.specs.Processed.{made_frames, made_numbers, done_after, run_unit}

-- values by place, those of the first places and those after them
range-more : {X : Type 0} (d : X) (f g behind : ℕ → X) (a m : ℕ) → ((j : ℕ) → j < a → g j ≡ f j) → ((j : ℕ) → j < m → behind j ≡ f (a + j)) → map g (range_with_len 0 a) ++ map behind (range_with_len 0 m) ≡ map f (range_with_len 0 (a + m))
range-more {X} d f g behind a m front back =
    let xs = map g (range_with_len 0 a) in
    let ys = map behind (range_with_len 0 m) in
    let long : length xs ≡ a = length-map-range_with_len g 0 a in
    let far : length ys ≡ m = length-map-range_with_len behind 0 m in
    fill_by_all f (xs ++ ys) (a + m) d (omega (arith, length-append xs ys, long, far)) (λ k lt. by (nat_lt k a) k lt refl)
  where
    by : (h : Bool) (k : ℕ) → k < a + m → nat_lt k a ≡ h → get_or (map g (range_with_len 0 a) ++ map behind (range_with_len 0 m)) k d ≡ f k
    by true k lt is =
        let low : k < a = ltb-true k a is in
        get_or_append_left (map g (range_with_len 0 a)) (map behind (range_with_len 0 m)) d k (omega (arith, low, length-map-range_with_len g 0 a))
        ∙ get_or-map-range_with_len g 0 a k k d low (let e : 0 + k ≡ k = omega arith in e)
        ∙ front k low
    by false k lt is =
        let high : a ≤ k = ltb-false k a is in
        let long : length (map g (range_with_len 0 a)) ≡ a = length-map-range_with_len g 0 a in
        let at : k ≡ length (map g (range_with_len 0 a)) + (k - a) = omega (arith, high, long) in
        ap (λ n. get_or (map g (range_with_len 0 a) ++ map behind (range_with_len 0 m)) n d) at
        ∙ get_or-append-add (map g (range_with_len 0 a)) (map behind (range_with_len 0 m)) (k - a) d
        ∙ get_or-map-range_with_len behind 0 m (k - a) (k - a) d (omega (arith, high, lt)) (let e : 0 + (k - a) ≡ k - a = omega arith in e)
        ∙ back (k - a) (omega (arith, high, lt))
        ∙ ap f (let e : a + (k - a) ≡ k = omega (arith, high) in e)

-- ---- how far a ramp is

-- numbers of the same gains have one place
last-same : (from : List ℕ) (x y : ℕ) → map pos from ++ pos x ∷ [] ≡ map pos from ++ pos y ∷ [] → x ≡ y
last-same [] x y same = cc same
last-same (f ∷ from) x y same = last-same from x y (cc same)

-- frames that come one after the other
pub done-add : (over done i j : ℕ) → done_after over (done_after over done i) j ≡ done_after over done (i + j)
done-add over done zero j = ap (done_after over done) (let e : j ≡ 0 + j = omega arith in e)
done-add over done (suc i) zero = ap (done_after over done) (let e : suc i ≡ suc i + 0 = omega arith in e)
done-add over done (suc i) (suc j) =
    (let e : ramp_place over (ramp_place over (done + suc i) + suc j) ≡ ramp_place over (done + suc (i + suc j)) = omega arith in e)
    ∙ ap (done_after over done) (let e : suc (i + suc j) ≡ suc i + suc j = omega arith in e)

-- where the place is held, frames are made as if it were not
frames-held : (from : List ℕ) (over j : ℕ) (to : List ℕ) (channels : ℕ) (fs : List Frame) → ramped_frames from over (ramp_place over j) to channels fs ≡ ramped_frames from over j to channels fs
frames-held from over j to channels fs =
    (λ i. ramped_frames (sym (from-numbers from over j) i) over (sym (place-numbers from over j) i) to channels fs)
    ∙ frames-numbers from over j to channels fs

frames-after : (from : List ℕ) (over done n : ℕ) (to : List ℕ) (channels : ℕ) (fs : List Frame) → ramped_frames from over (done_after over done n) to channels fs ≡ ramped_frames from over (done + n) to channels fs
frames-after from over done zero to channels fs = ap (λ k. ramped_frames from over k to channels fs) (let e : done ≡ done + 0 = omega arith in e)
frames-after from over done (suc n) to channels fs = frames-held from over (done + suc n) to channels fs

-- the first a + m frames of each, the first a, and the m after them
module _ (F : ℕ → List Frame) (a m : ℕ) where
  abbrev all : List ℕ → List (ℕ × List Frame)
  all looked = table looked (λ b. take (a + m) (F b))

  abbrev first : List ℕ → List (ℕ × List Frame)
  first looked = table looked (λ b. take a (F b))

  abbrev rest : List ℕ → List (ℕ × List Frame)
  rest looked = table looked (λ b. take m (drop a (F b)))

  only-more : (looked : List ℕ) → only_slice (all looked) ≡ only_slice (first looked) ++ only_slice (rest looked)
  only-more [] = refl
  only-more (b ∷ looked) = take-add a m (F b)

  at-first : (looked : List ℕ) (j : ℕ) → j < a → frames_of_each (first looked) j ≡ frames_of_each (all looked) j
  at-first [] j low = refl
  at-first (b ∷ looked) j low =
      let one : get_or (take a (F b)) j [] ≡ get_or (take (a + m) (F b)) j [] = get_or-take a (F b) j [] low ∙ sym (get_or-take (a + m) (F b) j [] (omega (arith, low))) in
      (λ i. one i ∷ at-first looked j low i)

  at-rest : (looked : List ℕ) (j : ℕ) → j < m → frames_of_each (rest looked) j ≡ frames_of_each (all looked) (a + j)
  at-rest [] j low = refl
  at-rest (b ∷ looked) j low =
      let one : get_or (take m (drop a (F b))) j [] ≡ get_or (take (a + m) (F b)) (a + j) [] =
      get_or-take m (drop a (F b)) j [] low ∙ get_or-drop a (F b) j [] ∙ sym (get_or-take (a + m) (F b) (a + j) [] (omega (arith, low))) in
      (λ i. one i ∷ at-rest looked j low i)

  mixed-more : (channels : ℕ) (looked : List ℕ) → map (λ j. mixed channels (frames_of_each (all looked) j)) (range_with_len 0 (a + m)) ≡ map (λ j. mixed channels (frames_of_each (first looked) j)) (range_with_len 0 a) ++ map (λ j. mixed channels (frames_of_each (rest looked) j)) (range_with_len 0 m)
  mixed-more channels looked =
      sym (range-more [] (λ j. mixed channels (frames_of_each (all looked) j)) (λ j. mixed channels (frames_of_each (first looked) j)) (λ j. mixed channels (frames_of_each (rest looked) j)) a m
      (λ j low. ap (mixed channels) (at-first looked j low)) (λ j low. ap (mixed channels) (at-rest looked j low)))

  chosen-more : (channels : ℕ) (chosen : Option ℕ) (looked : List ℕ) → chosen_slice (all looked) channels (a + m) chosen ≡ chosen_slice (first looked) channels a chosen ++ chosen_slice (rest looked) channels m chosen
  chosen-more channels None looked = sym (replicate-append-replicate a m (silence channels))
  chosen-more channels (Some b) [] = sym (replicate-append-replicate a m (silence channels))
  chosen-more channels (Some b) (id ∷ looked) = by (id == b) (chosen-more channels (Some b) looked)
    where
      by : (h : Bool) → chosen_slice (all looked) channels (a + m) (Some b) ≡ chosen_slice (first looked) channels a (Some b) ++ chosen_slice (rest looked) channels m (Some b) → option_map_or (λ entry. entry.1) (cond h (Some (id, take (a + m) (F id))) (find (λ entry. entry.0 == b) (all looked))) (replicate (a + m) (silence channels)) ≡ option_map_or (λ entry. entry.1) (cond h (Some (id, take a (F id))) (find (λ entry. entry.0 == b) (first looked))) (replicate a (silence channels)) ++ option_map_or (λ entry. entry.1) (cond h (Some (id, take m (drop a (F id)))) (find (λ entry. entry.0 == b) (rest looked))) (replicate m (silence channels))
      by true more = take-add a m (F id)
      by false more = more

  -- an equaliser and a volume go on with their numbers
  pub made-more : (u : units.Unit) (words : List ℤ) (channels : ℕ) (chosen : Option ℕ) (looked : List ℕ) → numbers_by (run_unit words a u) channels ≡ made_numbers u channels (first looked) → made_frames u channels (a + m) chosen (all looked) ≡ made_frames u channels a chosen (first looked) ++ made_frames (run_unit words a u) channels m chosen (rest looked)
  made-more (Host capture phase params piece) words channels chosen looked is = refl
  made-more (Dai capture format piece) words channels chosen looked is = refl
  made-more (Volume gains ramp from done frames piece) words channels chosen looked is =
      ap (ramped_frames from frames done gains channels) (only-more looked)
      ∙ frames-append from frames done gains channels (only_slice (first looked)) (only_slice (rest looked))
      ∙ ap (λ (fs : List Frame). ramped_frames from frames done gains channels (only_slice (first looked)) ++ fs)
      (sym (frames-after from frames done (length (only_slice (first looked))) gains channels (only_slice (rest looked)))
      ∙ ap (λ k. ramped_frames from frames k gains channels (only_slice (rest looked))) (sym (last-same from (done_after frames done a) (done_after frames done (length (only_slice (first looked)))) is)))
  made-more (Mixer piece) words channels chosen looked is = mixed-more channels looked
  made-more (Mux choice piece) words channels chosen looked is = chosen-more channels chosen looked
  made-more (Eq eq next remaining) words channels chosen looked is =
      ap (passed_frames eq.blob channels (numbers_of eq channels)) (only-more looked)
      ∙ passed_frames-append eq.blob channels (numbers_of eq channels) (only_slice (first looked)) (only_slice (rest looked))
      ∙ ap (λ (numbers : List ℤ). passed_frames eq.blob channels (numbers_of eq channels) (only_slice (first looked)) ++ passed_frames eq.blob channels numbers (only_slice (rest looked))) (sym is)
  made-more (Demux masks piece) words channels chosen looked is = only-more looked
  made-more (Buffer size ring source sink) words channels chosen looked is = refl
  made-more (Pipeline sched period complete piece) words channels chosen looked is = refl

  pub numbers-more : (u : units.Unit) (words : List ℤ) (channels : ℕ) (looked : List ℕ) → numbers_by (run_unit words a u) channels ≡ made_numbers u channels (first looked) → made_numbers u channels (all looked) ≡ made_numbers (run_unit words a u) channels (rest looked)
  numbers-more (Volume gains ramp from done frames piece) words channels looked is =
      let xs = only_slice (first looked) in let ys = only_slice (rest looked) in
      ap (λ k. map pos from ++ pos k ∷ [])
      (ap (λ (fs : List Frame). done_after frames done (length fs)) (only-more looked)
      ∙ ap (done_after frames done) (length-append xs ys)
      ∙ sym (done-add frames done (length xs) (length ys))
      ∙ ap (λ k. done_after frames k (length ys)) (sym (last-same from (done_after frames done a) (done_after frames done (length xs)) is)))
  numbers-more (Eq eq next remaining) words channels looked is =
      ap (numbers_after eq.blob channels (numbers_of eq channels)) (only-more looked)
      ∙ numbers_after-append eq.blob channels (numbers_of eq channels) (only_slice (first looked)) (only_slice (rest looked))
      ∙ ap (λ (numbers : List ℤ). numbers_after eq.blob channels numbers (only_slice (rest looked))) (sym is)
  numbers-more u words channels looked is = refl
