-- Samples at a place of bytes are those of a part of them, and of longer bytes.
use Rattle.std.proofs.Common.{◌≡◌, refl, ap, ◌∙◌, ℕ, zero, suc, ◌+◌, ◌*◌, ◌%◌, ◌^◌, ◌<◌, ◌≤◌, List, [], ◌∷◌, ◌++◌, map, take, drop, length, arith, ℤ, pos, ◌*ℤ◌, length-append}
use Rattle.std.proofs.lemmas.List.{drop-drop, take-append-le, drop-append-le, length-drop}
use Rattle.std.specs.List.{range_with_len}
use Rattle.std.specs.Int.{w16, w32, from_le_bytes}
use Rattle.sof_base.specs.declared.format.Format.{Format}
use Rattle.sof_base.specs.declared.format.Format.TheVariants.{S16, S24, S32}
use Rattle.sof_base.specs.Slots.{part, half_at, word_at}
use Rattle.sof_base.specs.Samples.{Frame, signed_of, width, sample_in_of, sample_out_of, frame_in, frames_in, frame_out, frames_out}
use Rattle.sof_base.specs.FrameLists.{AreFrames}

-- ---- from a place on

pub word_at-drop : (bytes : List ℕ) (from place : ℕ) → word_at (drop from bytes) place ≡ word_at bytes (from + place)
unfolding word_at
word_at-drop bytes from place = ap (λ (t : List ℕ). from_le_bytes w32 (take 4 t)) (drop-drop place from bytes)

pub half_at-drop : (bytes : List ℕ) (from place : ℕ) → half_at (drop from bytes) place ≡ half_at bytes (from + place)
unfolding half_at
half_at-drop bytes from place = ap (λ (t : List ℕ). from_le_bytes w16 (take 2 t)) (drop-drop place from bytes)

pub sample_in-drop : (format : Format) (bytes : List ℕ) (from place : ℕ) → sample_in_of format (drop from bytes) place ≡ sample_in_of format bytes (from + place)
sample_in-drop S16 bytes from place = ap (λ (n : ℕ). signed_of 16 n *ℤ pos 65536) (half_at-drop bytes from place)
sample_in-drop S24 bytes from place = ap (λ (n : ℕ). signed_of 24 (n % 2 ^ 24) *ℤ pos 256) (word_at-drop bytes from place)
sample_in-drop S32 bytes from place = ap (signed_of 32) (word_at-drop bytes from place)

pub frame_in-drop : (format : Format) (channels : ℕ) (bytes : List ℕ) (from place : ℕ) → frame_in format channels (drop from bytes) place ≡ frame_in format channels bytes (from + place)
frame_in-drop format channels bytes from place =
    ap (λ f. map f (range_with_len 0 channels)) (λ i k. (sample_in-drop format bytes from (place + k * width format) ∙ ap (sample_in_of format bytes) (let e : from + (place + k * width format) ≡ (from + place) + k * width format = omega arith in e)) i)

-- frames from the front of what is left are those from a place of the whole
pub frames_in-drop : (format : Format) (channels : ℕ) (bytes : List ℕ) (from n : ℕ) → frames_in format channels (drop from bytes) 0 n ≡ frames_in format channels bytes from n
frames_in-drop format channels bytes from n =
    ap (λ f. map f (range_with_len 0 n)) (λ i j. (frame_in-drop format channels bytes from (0 + j * (channels * width format)) ∙ ap (frame_in format channels bytes) (let e : from + (0 + j * (channels * width format)) ≡ from + j * (channels * width format) = omega arith in e)) i)

-- ---- with more bytes after

part-append : (xs ys : List ℕ) (at n : ℕ) → at + n ≤ length xs → part (xs ++ ys) at n ≡ part xs at n
part-append xs ys at n fits = ap (take n) (drop-append-le at xs ys (omega arith)) ∙ take-append-le n (drop at xs) ys (omega (arith, length-drop at xs))

pub word_at-append : (xs ys : List ℕ) (place : ℕ) → place + 4 ≤ length xs → word_at (xs ++ ys) place ≡ word_at xs place
unfolding word_at
word_at-append xs ys place fits = ap (from_le_bytes w32) (part-append xs ys place 4 fits)

pub half_at-append : (xs ys : List ℕ) (place : ℕ) → place + 2 ≤ length xs → half_at (xs ++ ys) place ≡ half_at xs place
unfolding half_at
half_at-append xs ys place fits = ap (from_le_bytes w16) (part-append xs ys place 2 fits)

pub sample_in-append : (format : Format) (xs ys : List ℕ) (place : ℕ) → place + width format ≤ length xs → sample_in_of format (xs ++ ys) place ≡ sample_in_of format xs place
sample_in-append S16 xs ys place fits = ap (λ (n : ℕ). signed_of 16 n *ℤ pos 65536) (half_at-append xs ys place fits)
sample_in-append S24 xs ys place fits = ap (λ (n : ℕ). signed_of 24 (n % 2 ^ 24) *ℤ pos 256) (word_at-append xs ys place fits)
sample_in-append S32 xs ys place fits = ap (signed_of 32) (word_at-append xs ys place fits)

pub map-range_same : {X : Type 0} (f g : ℕ → X) (a n : ℕ) → ((j : ℕ) → j < a + n → f j ≡ g j) → map f (range_with_len a n) ≡ map g (range_with_len a n)
map-range_same f g a zero same = refl
map-range_same f g a (suc n) same =
    ap (λ y. y ∷ map f (range_with_len (a + 1) n)) (same a (omega arith))
    ∙ ap (λ l. g a ∷ l) (map-range_same f g (a + 1) n (λ j low. same j (omega arith)))

times-fits : (j n m : ℕ) → j < n → j * m + m ≤ n * m
times-fits j n m low = grind arith

pub frame_in-append : (format : Format) (channels : ℕ) (xs ys : List ℕ) (place : ℕ) → place + channels * width format ≤ length xs → frame_in format channels (xs ++ ys) place ≡ frame_in format channels xs place
frame_in-append format channels xs ys place fits = map-range_same (λ k. sample_in_of format (xs ++ ys) (place + k * width format)) (λ k. sample_in_of format xs (place + k * width format)) 0 channels (λ k low.
    sample_in-append format xs ys (place + k * width format) (let most : k * width format + width format ≤ channels * width format = times-fits k channels (width format) (omega arith) in omega arith))

-- frames within bytes are those of longer ones
pub frames_in-append : (format : Format) (channels : ℕ) (xs ys : List ℕ) (place n : ℕ) → place + n * (channels * width format) ≤ length xs → frames_in format channels (xs ++ ys) place n ≡ frames_in format channels xs place n
frames_in-append format channels xs ys place n fits = map-range_same (λ j. frame_in format channels (xs ++ ys) (place + j * (channels * width format))) (λ j. frame_in format channels xs (place + j * (channels * width format))) 0 n (λ j low.
    frame_in-append format channels xs ys (place + j * (channels * width format)) (let most : j * (channels * width format) + channels * width format ≤ n * (channels * width format) = times-fits j n (channels * width format) (omega arith) in omega arith))

-- ---- lengths

pub length-sample_out : (format : Format) (x : ℤ) → length (sample_out_of format x) ≡ width format
length-sample_out S16 x = refl
length-sample_out S24 x = refl
length-sample_out S32 x = refl

pub length-frame_out : (format : Format) (frame : Frame) → length (frame_out format frame) ≡ length frame * width format
length-frame_out S16 [] = refl
length-frame_out S24 [] = refl
length-frame_out S32 [] = refl
length-frame_out S16 (x ∷ xs) = omega (arith, length-append (sample_out_of S16 x) (frame_out S16 xs), length-sample_out S16 x, length-frame_out S16 xs)
length-frame_out S24 (x ∷ xs) = omega (arith, length-append (sample_out_of S24 x) (frame_out S24 xs), length-sample_out S24 x, length-frame_out S24 xs)
length-frame_out S32 (x ∷ xs) = omega (arith, length-append (sample_out_of S32 x) (frame_out S32 xs), length-sample_out S32 x, length-frame_out S32 xs)

pub length-frames_out : (format : Format) (channels : ℕ) (frames : List Frame) → AreFrames channels frames → length (frames_out format frames) ≡ length frames * (channels * width format)
length-frames_out format channels [] are = omega arith
length-frames_out format channels (f ∷ fs) are =
    let each : length f * width format ≡ channels * width format = ap (λ (n : ℕ). n * width format) are.0 in
    grind (arith, length-append (frame_out format f) (frames_out format fs), length-frame_out format f, length-frames_out format channels fs are.1)
