-- The samples of frames, one frame after the other.
use Rattle.std.proofs.Common.{◌≡◌, refl, sym, ap, ◌∙◌, ℕ, zero, suc, ◌+◌, ◌*◌, ◌≤◌, List, [], ◌∷◌, ◌++◌, length, take, drop, arith, append_assoc, length-append, ℤ}
use Rattle.std.proofs.lemmas.List.{take-take, take_at, drop_at, drop-take, take-append-drop}
use Rattle.sof_base.specs.Samples.{Frame}
use Rattle.sof_base.specs.FrameLists.{AreFrames, frames_of, samples_of}

-- the samples of frames, and of those after them
pub samples-append : (xs ys : List Frame) → samples_of (xs ++ ys) ≡ samples_of xs ++ samples_of ys
samples-append [] ys = refl
samples-append (x ∷ xs) ys = ap (λ (t : List ℤ). x ++ t) (samples-append xs ys) ∙ sym (append_assoc x (samples_of xs) (samples_of ys))

-- each frame has a sample of each channel
pub length-samples : (channels : ℕ) (fs : List Frame) → AreFrames channels fs → length (samples_of fs) ≡ length fs * channels
length-samples channels [] are = omega arith
length-samples channels (f ∷ fs) are =
    let p : suc (length fs) * channels ≡ channels + length fs * channels = omega arith in
    omega (arith, p, length-append f (samples_of fs), are.0, length-samples channels fs are.1)

-- the frames of their samples
pub frames-samples : (channels : ℕ) (fs : List Frame) → AreFrames channels fs → frames_of channels (length fs) (samples_of fs) ≡ fs
frames-samples channels [] are = refl
frames-samples channels (f ∷ fs) are =
    (λ i. take_at f (samples_of fs) channels are.0 i ∷ (ap (frames_of channels (length fs)) (drop_at f (samples_of fs) channels are.0) ∙ frames-samples channels fs are.1) i)

-- the samples of the frames of words are those words
pub samples-frames : (c n : ℕ) (ws : List ℤ) → samples_of (frames_of c n ws) ≡ take (n * c) ws
samples-frames c zero ws = let p : 0 * c ≡ 0 = omega arith in ap (λ k. take k ws) (sym p)
samples-frames c (suc n) ws =
    let p : suc n * c ≡ c + n * c = omega arith in
    let most : c ≤ suc n * c = omega arith in
    ap (λ (t : List ℤ). take c ws ++ t) (samples-frames c n (drop c ws))
    ∙ (λ i. sym (take-take c (suc n * c) ws most) i ++ sym (ap (λ k. drop c (take k ws)) p ∙ drop-take c (n * c) ws) i)
    ∙ take-append-drop c (take (suc n * c) ws)
