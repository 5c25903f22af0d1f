-- What kernels make of samples that lie frame after frame is what they make of the frames.
use Rattle.std.proofs.Common.{◌≡◌, refl, sym, ap, ◌∙◌, ℕ, zero, suc, ◌+◌, ◌*◌, ◌/◌, ◌%◌, ◌<◌, ◌≤◌, List, [], ◌∷◌, ◌++◌, map, take, drop, length, replicate, get_or, arith, ℤ, pos, ◌+ℤ◌, length-take, length-drop}
use Rattle.std.specs.List.{AllByRecursion, range_with_len}
use Rattle.std.proofs.Math.Nat.{div_self, div-eq_of_lt, mod-eq_of_lt, mod_self, mul-le-mul_right}
use Rattle.std.proofs.lemmas.List.{length-replicate, get_or-take, get_or-drop, replicate-append-replicate}
use Rattle.std.proofs.lemmas.List.FromFn.{fill_by_all, length-map-range_with_len, get_or-map-range_with_len}
use Rattle.sof_base.specs.Samples.{Frame, sample_of, sat, silence}
use Rattle.sof_base.specs.FrameLists.{AreFrames, frames_of, samples_of}
use Rattle.sof_base.specs.Equations.{amplified, channel_gain, exact_sum, mixed}
use Rattle.sof_base.specs.Ramps.{ramp_gain, ramp_gains, ramped_of}
use Rattle.sof_base.proofs.SampleLaws.{map-range_same}
use Rattle.sof_base.proofs.RampLaws.{channel-ramped}
use Rattle.stream_law.specs.Ramps.{ramped_frames}
use Rattle.stream_law.specs.Table.{table}
use Rattle.stream_law.specs.Made.{frames_at as frames_of_each}
use Rattle.fw_gain.specs.RampKernels.{sample_gain, all_ramped}
use Rattle.fw_gain.proofs.RampKernelLaws.{ramped-append}
use Rattle.fw_gain.proofs.KernelLaws.{silence-replicate}
use Rattle.fw_ring.proofs.FrameLaws.{length-frames, get-frame, whole-take}
use Rattle.fw_ring.proofs.Flat.{frames-samples}
use Rattle.fw_units.proofs.TakenFrames.{length-first}

-- ---- frames and their samples

-- frames of the samples of so many frames
pub frames-back : (channels n : ℕ) (fs : List Frame) → AreFrames channels fs → length fs ≡ n → frames_of channels n (samples_of fs) ≡ fs
frames-back channels n fs are long = ap (λ k. frames_of channels k (samples_of fs)) (sym long) ∙ frames-samples channels fs are

pub frames-taken : (channels n : ℕ) (fs : List Frame) → AreFrames channels fs → n ≤ length fs → frames_of channels n (samples_of (take n fs)) ≡ take n fs
frames-taken channels n fs are held = frames-back channels n (take n fs) (whole-take channels n fs are) (length-first n fs held)

-- ---- volumes whose gains go from some to others

pub ramped-whole : (channels : ℕ) (from : List ℕ) (over j : ℕ) (to : List ℕ) (fs : List Frame) → AreFrames channels (ramped_frames from over j to channels fs)
ramped-whole channels from over j to [] = tt
ramped-whole channels from over j to (f ∷ fs) =
    (length-map-range_with_len (λ k. amplified (channel_gain (ramp_gains from to over j) k) (sample_of f k)) 0 channels, ramped-whole channels from over (j + 1) to fs)

-- one frame
ramped-frame : (channels : ℕ) (from to : List ℕ) (over j : ℕ) (f : Frame) → length from ≡ length to → length f ≡ channels → all_ramped channels from to over j f ≡ ramped_of channels from to over j f
ramped-frame channels from to over j f level long =
    ap (λ n. map (λ i. amplified (sample_gain channels from to over j i) (sample_of f i)) (range_with_len 0 n)) long
    ∙ map-range_same (λ i. amplified (sample_gain channels from to over j i) (sample_of f i)) (λ k. amplified (channel_gain (ramp_gains from to over j) k) (sample_of f k)) 0 channels (λ k low.
    let l : k < channels = omega arith in
    let same : j + k / channels ≡ j = ap (λ n. j + n) (div-eq_of_lt l) ∙ (let e : j + 0 ≡ j = omega arith in e) in
    ap (λ g. amplified g (sample_of f k))
    ((λ i. ramp_gain (channel_gain from (mod-eq_of_lt l i)) (channel_gain to (mod-eq_of_lt l i)) over (same i)) ∙ sym (channel-ramped from to over j k level)))

-- the samples of a volume whose gains go from some to others are those of its frames
pub ramped-samples : (channels : ℕ) (from to : List ℕ) (over j : ℕ) (fs : List Frame) → 1 ≤ channels → length from ≡ length to → AreFrames channels fs → all_ramped channels from to over j (samples_of fs) ≡ samples_of (ramped_frames from over j to channels fs)
ramped-samples channels from to over j [] some level are = refl
ramped-samples channels from to over j (f ∷ fs) some level are =
    let one : length f / channels ≡ 1 = ap (λ n. n / channels) are.0 ∙ div_self (let s : 0 < channels = omega arith in s) in
    ramped-append channels from to over j f (samples_of fs) some (ap (λ n. n % channels) are.0 ∙ mod_self channels)
    ∙ (λ i. ramped-frame channels from to over j f level are.0 i ++ all_ramped channels from to over (j + one i) (samples_of fs))
    ∙ ap (λ (xs : List ℤ). ramped_of channels from to over j f ++ xs) (ramped-samples channels from to over (j + 1) fs some level are.1)

-- ---- sums

-- a sample of a frame is one of all samples
pub get-samples : (channels j k : ℕ) (fs : List Frame) → AreFrames channels fs → j < length fs → k < channels → get_or (samples_of fs) (j * channels + k) (pos 0) ≡ get_or (get_or fs j []) k (pos 0)
get-samples channels j k fs are some low =
    let frame : get_or fs j [] ≡ take channels (drop (j * channels) (samples_of fs)) =
    ap (λ (t : List Frame). get_or t j []) (sym (frames-samples channels fs are)) ∙ get-frame channels (length fs) j (samples_of fs) [] some in
    sym (ap (λ (f : Frame). get_or f k (pos 0)) frame ∙ get_or-take channels (drop (j * channels) (samples_of fs)) k (pos 0) low ∙ get_or-drop (j * channels) (samples_of fs) k (pos 0))

-- frames of so many channels, at least n of them
pub record Enough (channels n : ℕ) (fs : List Frame) : Type 0 where
  pub whole : AreFrames channels fs
  pub some : n ≤ length fs

module _ (channels n : ℕ) (frames : ℕ → List Frame) where
  exact-samples : (j k : ℕ) (inlets : List ℕ) → AllByRecursion (λ inlet. Enough channels n (frames inlet)) inlets → j < n → k < channels → exact_sum (j * channels + k) (map (λ inlet. samples_of (take n (frames inlet))) inlets) ≡ exact_sum k (frames_of_each (table inlets (λ inlet. take n (frames inlet))) j)
  exact-samples j k [] all some low = refl
  exact-samples j k (inlet ∷ inlets) all some low = (λ i.
      get-samples channels j k (take n (frames inlet)) (whole-take channels n (frames inlet) all.0.whole) (omega (arith, length-first n (frames inlet) all.0.some)) low i
      +ℤ exact-samples j k inlets all.1 some low i)

  -- the mixed samples are those of the mixed frames
  pub frames-mixed : (inlets : List ℕ) → AllByRecursion (λ inlet. Enough channels n (frames inlet)) inlets → frames_of channels n (mixed (n * channels) (map (λ inlet. samples_of (take n (frames inlet))) inlets)) ≡ map (λ j. mixed channels (frames_of_each (table inlets (λ inlet. take n (frames inlet))) j)) (range_with_len 0 n)
  frames-mixed inlets all =
      let taken = map (λ inlet. samples_of (take n (frames inlet))) inlets in
      let sums : List ℤ = mixed (n * channels) taken in
      let each = λ (j : ℕ). frames_of_each (table inlets (λ inlet. take n (frames inlet))) j in
      let long : length sums ≡ n * channels = length-map-range_with_len (λ k. sat 32 (exact_sum k taken)) 0 (n * channels) in
      fill_by_all (λ j. mixed channels (each j)) (frames_of channels n sums) n [] (length-frames channels n sums) (λ j lt.
      let within : (j + 1) * channels ≤ n * channels = mul-le-mul_right channels (let l : j + 1 ≤ n = omega arith in l) in
      get-frame channels n j sums [] lt
      ∙ fill_by_all (λ k. sat 32 (exact_sum k (each j))) (take channels (drop (j * channels) sums)) channels (pos 0) (omega (arith, length-take channels (drop (j * channels) sums), length-drop (j * channels) sums, long, within)) (λ k low.
      let under : j * channels + k < n * channels = omega (arith, within) in
      get_or-take channels (drop (j * channels) sums) k (pos 0) low ∙ get_or-drop (j * channels) sums k (pos 0)
      ∙ get_or-map-range_with_len (λ i. sat 32 (exact_sum i taken)) 0 (n * channels) (j * channels + k) (j * channels + k) (pos 0) under (omega arith)
      ∙ ap (sat 32) (exact-samples j k inlets all lt low)))

-- ---- silence

silence-whole : (channels n : ℕ) → AreFrames channels (replicate n (silence channels))
silence-whole channels zero = tt
silence-whole channels (suc n) = (length-map-range_with_len (λ _. pos 0) 0 channels, silence-whole channels n)

silence-samples : (channels n : ℕ) → replicate (n * channels) (pos 0) ≡ samples_of (replicate n (silence channels))
silence-samples channels zero = let none : 0 * channels ≡ 0 = omega arith in ap (λ k. replicate k (pos 0)) none
silence-samples channels (suc n) =
    let more : suc n * channels ≡ channels + n * channels = omega arith in
    ap (λ k. replicate k (pos 0)) more
    ∙ sym (replicate-append-replicate channels (n * channels) (pos 0))
    ∙ (λ i. silence-replicate channels i ++ silence-samples channels n i)

-- zeros are frames of silence
pub frames-silence : (channels n : ℕ) → frames_of channels n (replicate (n * channels) (pos 0)) ≡ replicate n (silence channels)
frames-silence channels n = ap (frames_of channels n) (silence-samples channels n) ∙ frames-back channels n (replicate n (silence channels)) (silence-whole channels n) (length-replicate n (silence channels))
