-- Channels of frames whose samples lie one after the other.
use Rattle.std.proofs.Common.{◌≡◌, ◌≢◌, refl, sym, ap, ◌∙◌, ℕ, zero, suc, ◌+◌, ◌-◌, ◌*◌, ◌/◌, ◌%◌, ◌<◌, ◌≤◌, List, [], ◌∷◌, ◌++◌, length, take, drop, get_or, arith, ℤ, pos, length-append}
use Rattle.std.proofs.Math.Nat.{mod-lt, mod-add-div, mod-eq_of_lt, mul-add-mod_self_right, mul-le-mul_right, div-lt_iff_lt-mul}
use Rattle.std.proofs.lemmas.List.{same_lists, get_or_default, get_or-take, get_or-drop, get_or_append_left, get_or-append_right, drop-drop, get_or-map}
use Rattle.std.proofs.lemmas.List.FromFn.{get_or-map-range_with_len, length-map-range_with_len}
use Rattle.sof_base.specs.Samples.{Frame, sample_of}
use Rattle.sof_base.specs.FrameLists.{AreFrames, frames_of, samples_of}
use Rattle.sof_base.proofs.SampleLaws.{map-range_same}
use Rattle.stream_law.specs.Equaliser.{sections_of, passed_frames, numbers_after}
use Rattle.eq_biquad.specs.Lanes.{lane}
use Rattle.eq_biquad.specs.Passing.{passed_samples, numbers_passed, in_turn}
use Rattle.eq_blob.proofs.Cases.{by_less}
use Rattle.eq_biquad.proofs.PassLaws.{HasNumbers, channel_of, after, frames-numbers, frames-sample, length-frames, are-frames}

pub length-lane : (c k n : ℕ) (xs : List ℤ) → length (lane c k n xs) ≡ n
length-lane c k n xs = length-map-range_with_len (λ j. sample_of xs (j * c + k)) 0 n

pub get-lane : (c k n : ℕ) (xs : List ℤ) (j : ℕ) (d : ℤ) → j < n → get_or (lane c k n xs) j d ≡ sample_of xs (j * c + k)
get-lane c k n xs j d lt = get_or-map-range_with_len (λ j. sample_of xs (j * c + k)) 0 n j j d lt (omega arith)

-- a lane with the same samples is the same
pub same-lane : (c k n : ℕ) (xs ys : List ℤ) → ((j : ℕ) → sample_of xs (j * c + k) ≡ sample_of ys (j * c + k)) → lane c k n xs ≡ lane c k n ys
same-lane c k n xs ys same = map-range_same (λ j. sample_of xs (j * c + k)) (λ j. sample_of ys (j * c + k)) 0 n (λ j low. same j)

pub place-within : (j n c k : ℕ) → j < n → k < c → j * c + k < n * c
place-within j n c k lt low = let most : (j + 1) * c ≤ n * c = mul-le-mul_right c (let l : j + 1 ≤ n = omega arith in l) in omega (arith, most)

-- two places of frames are the same only where frame and channel are
pub other-place : (i j c k h : ℕ) → k < c → h < c → k ≢ h → i * c + k ≢ j * c + h
other-place i j c k h low low' ne e = ne (sym (remainder i k low) ∙ ap (λ n. n % c) e ∙ remainder j h low')
  where
    remainder : (i k : ℕ) → k < c → (i * c + k) % c ≡ k
    remainder i k low = mul-add-mod_self_right i c k ∙ mod-eq_of_lt low

pub other-frame : (i j c k : ℕ) → 0 < c → i ≢ j → i * c + k ≢ j * c + k
other-frame i j c k some ne e = by_less i j
    (λ less. let most : (i + 1) * c ≤ j * c = mul-le-mul_right c (let l : i + 1 ≤ j = omega arith in l) in omega (arith, most, e))
    (λ ge. by_less j i
    (λ less. let most : (j + 1) * c ≤ i * c = mul-le-mul_right c (let l : j + 1 ≤ i = omega arith in l) in omega (arith, most, e))
    (λ le. ne (omega arith)))

-- ---- frames of samples

pub length-frames_of : (c n : ℕ) (xs : List ℤ) → length (frames_of c n xs) ≡ n
length-frames_of c zero xs = refl
length-frames_of c (suc n) xs = ap (λ m. suc m) (length-frames_of c n (drop c xs))

get-frame : (c n j : ℕ) (xs : List ℤ) (d : Frame) → j < n → get_or (frames_of c n xs) j d ≡ take c (drop (j * c) xs)
get-frame c zero j xs d lt = absurd (omega arith)
get-frame c (suc n) zero xs d lt = let p : 0 * c ≡ 0 = omega arith in ap (λ k. take c (drop k xs)) (sym p)
get-frame c (suc n) (suc j) xs d lt =
    let p : c + j * c ≡ suc j * c = omega arith in
    get-frame c n j (drop c xs) d (omega arith) ∙ ap (take c) (drop-drop (j * c) c xs ∙ ap (λ k. drop k xs) p)

-- channel k of them is lane k
pub channel-of-frames : (c n k : ℕ) (xs : List ℤ) → k < c → channel_of k (frames_of c n xs) ≡ lane c k n xs
channel-of-frames c n k xs low =
    let fs = frames_of c n xs in
    let long : length (channel_of k fs) ≡ n = Rattle.std.proofs.lemmas.List.length-map fs (λ (f : Frame). sample_of f k) ∙ length-frames_of c n xs in
    same_lists (channel_of k fs) (lane c k n xs) (long ∙ sym (length-lane c k n xs)) (λ j d lt.
    let lt' : j < n = omega (arith, long) in
    get_or-map (λ (f : Frame). sample_of f k) fs j [] d (omega (arith, length-frames_of c n xs))
    ∙ ap (λ (f : Frame). sample_of f k) (get-frame c n j xs [] lt')
    ∙ get_or-take c (drop (j * c) xs) k (pos 0) low
    ∙ get_or-drop (j * c) xs k (pos 0)
    ∙ sym (get-lane c k n xs j d lt'))

-- ---- samples of frames

pub length-samples : (c : ℕ) (fs : List Frame) → AreFrames c fs → length (samples_of fs) ≡ length fs * c
length-samples c [] are = omega arith
length-samples c (f ∷ fs) are =
    let p : suc (length fs) * c ≡ c + length fs * c = omega arith in
    omega (arith, p, length-append f (samples_of fs), are.0, length-samples c fs are.1)

get-samples : (c : ℕ) (fs : List Frame) → AreFrames c fs → (j k : ℕ) → j < length fs → k < c → sample_of (samples_of fs) (j * c + k) ≡ sample_of (get_or fs j []) k
get-samples c [] are j k lt low = absurd (omega arith)
get-samples c (f ∷ fs) are zero k lt low =
    let p : 0 * c + k ≡ k = omega arith in
    ap (λ i. sample_of (f ++ samples_of fs) i) p ∙ get_or_append_left f (samples_of fs) (pos 0) k (omega (arith, are.0))
get-samples c (f ∷ fs) are (suc j) k lt low =
    let p : suc j * c + k - c ≡ j * c + k = omega arith in
    get_or-append_right f (samples_of fs) c (suc j * c + k) (pos 0) are.0 (omega arith)
    ∙ ap (λ i. sample_of (samples_of fs) i) p
    ∙ get-samples c fs are.1 j k (omega arith) low

-- ---- all channels

-- samples each of whose channels passed through its sections are the frames that passed
pub passed-whole : (blob : List ℕ) (c n : ℕ) (numbers : ℕ → List ℤ) (xs ys : List ℤ) → 1 ≤ c → HasNumbers blob numbers → length ys ≡ n * c
    → ((k : ℕ) → k < c → lane c k n ys ≡ passed_samples (sections_of blob k) (numbers k) (lane c k n xs))
    → ys ≡ samples_of (passed_frames blob c (in_turn 0 numbers c) (frames_of c n xs))
passed-whole blob c n numbers xs ys some has long lanes =
    let fs = frames_of c n xs in
    let out = passed_frames blob c (in_turn 0 numbers c) fs in
    let are = are-frames blob c (in_turn 0 numbers c) fs in
    let count : length out ≡ n = length-frames blob c (in_turn 0 numbers c) fs ∙ length-frames_of c n xs in
    let total : length (samples_of out) ≡ n * c = length-samples c out are ∙ ap (λ m. m * c) count in
    same_lists ys (samples_of out) (long ∙ sym total) (λ i d lt.
    let j : ℕ = i / c in let k : ℕ = i % c in
    let low : k < c = mod-lt i {m = c} (omega arith) in
    let place : i ≡ j * c + k = omega (arith, mod-add-div i c) in
    let lt' : j < n = frame-within i n c (omega (arith, long)) some in
    get_or_default ys i d (pos 0) lt
    ∙ ap (sample_of ys) place
    ∙ sym (get-lane c k n ys j (pos 0) lt')
    ∙ ap (λ (t : List ℤ). get_or t j (pos 0)) (lanes k low ∙ ap (passed_samples (sections_of blob k) (numbers k)) (sym (channel-of-frames c n k xs low)))
    ∙ sym (frames-sample blob c fs numbers has j k (omega (arith, length-frames_of c n xs)) low)
    ∙ sym (get-samples c out are j k (omega (arith, count)) low)
    ∙ ap (sample_of (samples_of out)) (sym place)
    ∙ get_or_default (samples_of out) i (pos 0) d (omega (arith, long, total)))
  where
    frame-within : (i n c : ℕ) → i < n * c → 1 ≤ c → i / c < n
    frame-within i n c lt some = (div-lt_iff_lt-mul {k = c} {x = i} {y = n} (omega arith)).1 lt

-- and their numbers are those of all channels
pub numbers-whole : (blob : List ℕ) (c n : ℕ) (numbers next : ℕ → List ℤ) (xs : List ℤ) → HasNumbers blob numbers
    → ((k : ℕ) → k < c → next k ≡ numbers_passed (sections_of blob k) (numbers k) (lane c k n xs))
    → in_turn 0 next c ≡ numbers_after blob c (in_turn 0 numbers c) (frames_of c n xs)
numbers-whole blob c n numbers next xs has each =
    same-turn 0 c next (after blob numbers (frames_of c n xs)) (λ k low. each k (omega arith) ∙ ap (numbers_passed (sections_of blob k) (numbers k)) (sym (channel-of-frames c n k xs (omega arith))))
    ∙ sym (frames-numbers blob c (frames_of c n xs) numbers has)
  where
    same-turn : (a m : ℕ) (f g : ℕ → List ℤ) → ((k : ℕ) → k < a + m → f k ≡ g k) → in_turn a f m ≡ in_turn a g m
    same-turn a zero f g same = refl
    same-turn a (suc m) f g same = (λ i. same a (omega arith) i ++ same-turn (a + 1) m f g (λ k low. same k (omega arith)) i)
