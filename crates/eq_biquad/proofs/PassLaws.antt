-- Samples through sections: one sample after the other, and one channel at a time.
use Rattle.std.proofs.Common.{◌≡◌, refl, ap, ◌∙◌, ℕ, zero, suc, ◌+◌, ◌*◌, ◌<◌, List, [], ◌∷◌, ◌++◌, map, length, take, drop, get_or, arith, ℤ, pos}
use Rattle.std.specs.List.{range_with_len}
use Rattle.std.proofs.lemmas.List.{drop_at}
use Rattle.std.proofs.lemmas.List.FromFn.{get_or-map-range_with_len}
use Rattle.sof_base.specs.Samples.{Frame, sample_of}
use Rattle.sof_base.specs.FrameLists.{AreFrames}
use Rattle.sof_base.specs.Equations.{Section, section_output}
use Rattle.stream_law.specs.Equaliser.{sections_of, number_at, next_inner, next_numbers, Passed, passed_sections, passed_channels, passed_frames, numbers_after}
use Rattle.eq_biquad.specs.Passing.{passed_samples, numbers_passed, in_turn}

-- ---- one sample more

pub numbers_passed-more : (ss : List Section) (ns xs : List ℤ) (j : ℕ) → j < length xs → numbers_passed ss ns (take (suc j) xs) ≡ (passed_sections ss (numbers_passed ss ns (take j xs)) (get_or xs j (pos 0))).numbers
numbers_passed-more ss ns [] j lt = absurd (omega arith)
numbers_passed-more ss ns (x ∷ xs) zero lt = refl
numbers_passed-more ss ns (x ∷ xs) (suc j) lt = numbers_passed-more ss (passed_sections ss ns x).numbers xs j (omega arith)

pub get-passed : (ss : List Section) (ns xs : List ℤ) (j : ℕ) (d : ℤ) → j < length xs → get_or (passed_samples ss ns xs) j d ≡ (passed_sections ss (numbers_passed ss ns (take j xs)) (get_or xs j (pos 0))).sample
get-passed ss ns [] j d lt = absurd (omega arith)
get-passed ss ns (x ∷ xs) zero d lt = refl
get-passed ss ns (x ∷ xs) (suc j) d lt = get-passed ss (passed_sections ss ns x).numbers xs j d (omega arith)

pub length-passed : (ss : List Section) (ns xs : List ℤ) → length (passed_samples ss ns xs) ≡ length xs
length-passed ss ns [] = refl
length-passed ss ns (x ∷ xs) = ap (λ n. suc n) (length-passed ss (passed_sections ss ns x).numbers xs)

-- ---- no sections

pub passed-none : (ns xs : List ℤ) → passed_samples [] ns xs ≡ xs
passed-none ns [] = refl
passed-none ns (x ∷ xs) = ap (λ t. x ∷ t) (passed-none [] xs)

pub numbers-none : (xs : List ℤ) → numbers_passed [] [] xs ≡ []
numbers-none [] = refl
numbers-none (x ∷ xs) = numbers-none xs

-- ---- numbers after those of the sections do not count

pub length-numbers : (ss : List Section) (ns : List ℤ) (x : ℤ) → length (passed_sections ss ns x).numbers ≡ 2 * length ss
length-numbers [] ns x = refl
length-numbers (s ∷ ss) ns x = let rest = length-numbers ss (drop 2 ns) (section_output s (next_inner s (number_at ns 0) x)) in omega (arith, rest)

pub passed-own : (ss : List Section) (ns more : List ℤ) (x : ℤ) → length ns ≡ 2 * length ss → passed_sections ss (ns ++ more) x ≡ passed_sections ss ns x
passed-own [] ns more x long = refl
passed-own (s ∷ ss) [] more x long = absurd (omega arith)
passed-own (s ∷ ss) (a ∷ []) more x long = absurd (omega arith)
passed-own (s ∷ ss) (a ∷ b ∷ ns) more x long =
    let w = next_inner s a x in
    let rest = passed-own ss ns more (section_output s w) (omega arith) in
    λ i. record { sample = (rest i).sample; numbers = next_numbers s b x w ++ (rest i).numbers }

-- ---- channels

-- each channel has two numbers for each section
abbrev pub HasNumbers : List ℕ → (ℕ → List ℤ) → Type 0
HasNumbers blob numbers = (c : ℕ) → length (numbers c) ≡ 2 * length (sections_of blob c)

-- a channel's sample of a frame, with its numbers
abbrev pub one : List ℕ → (ℕ → List ℤ) → Frame → ℕ → Passed
one blob numbers f c = passed_sections (sections_of blob c) (numbers c) (sample_of f c)

pub channels-numbers : (blob : List ℕ) (numbers : ℕ → List ℤ) → HasNumbers blob numbers → (f : Frame) (k left : ℕ) → (passed_channels blob k left (in_turn k numbers left) f).numbers ≡ in_turn k (λ c. (one blob numbers f c).numbers) left
channels-numbers blob numbers has f k zero = refl
channels-numbers blob numbers has f k (suc left) =
    let rest = in_turn (k + 1) numbers left in
    (λ i. (passed-own (sections_of blob k) (numbers k) rest (sample_of f k) (has k) i).numbers
    ++ (ap (λ (t : List ℤ). (passed_channels blob (k + 1) left t f).numbers) (drop_at (numbers k) rest (2 * length (sections_of blob k)) (has k)) ∙ channels-numbers blob numbers has f (k + 1) left) i)

pub channels-frame : (blob : List ℕ) (numbers : ℕ → List ℤ) → HasNumbers blob numbers → (f : Frame) (k left : ℕ) → (passed_channels blob k left (in_turn k numbers left) f).frame ≡ map (λ c. (one blob numbers f c).sample) (range_with_len k left)
channels-frame blob numbers has f k zero = refl
channels-frame blob numbers has f k (suc left) =
    let rest = in_turn (k + 1) numbers left in
    (λ i. (passed-own (sections_of blob k) (numbers k) rest (sample_of f k) (has k) i).sample
    ∷ (ap (λ (t : List ℤ). (passed_channels blob (k + 1) left t f).frame) (drop_at (numbers k) rest (2 * length (sections_of blob k)) (has k)) ∙ channels-frame blob numbers has f (k + 1) left) i)

-- ---- frames

-- one channel of frames
abbrev pub channel_of : ℕ → List Frame → List ℤ
channel_of c fs = map (λ (f : Frame). sample_of f c) fs

-- the numbers of a channel after frames
abbrev pub after : List ℕ → (ℕ → List ℤ) → List Frame → ℕ → List ℤ
after blob numbers fs c = numbers_passed (sections_of blob c) (numbers c) (channel_of c fs)

pub frames-numbers : (blob : List ℕ) (n : ℕ) (fs : List Frame) (numbers : ℕ → List ℤ) → HasNumbers blob numbers → numbers_after blob n (in_turn 0 numbers n) fs ≡ in_turn 0 (after blob numbers fs) n
frames-numbers blob n [] numbers has = refl
frames-numbers blob n (f ∷ fs) numbers has =
    let next = λ (c : ℕ). (one blob numbers f c).numbers in
    ap (λ (t : List ℤ). numbers_after blob n t fs) (channels-numbers blob numbers has f 0 n)
    ∙ frames-numbers blob n fs next (λ c. length-numbers (sections_of blob c) (numbers c) (sample_of f c))

pub frames-sample : (blob : List ℕ) (n : ℕ) (fs : List Frame) (numbers : ℕ → List ℤ) → HasNumbers blob numbers → (j k : ℕ) → j < length fs → k < n
    → sample_of (get_or (passed_frames blob n (in_turn 0 numbers n) fs) j []) k ≡ get_or (passed_samples (sections_of blob k) (numbers k) (channel_of k fs)) j (pos 0)
frames-sample blob n [] numbers has j k lt low = absurd (omega arith)
frames-sample blob n (f ∷ fs) numbers has zero k lt low =
    ap (λ (t : Frame). sample_of t k) (channels-frame blob numbers has f 0 n)
    ∙ get_or-map-range_with_len (λ c. (one blob numbers f c).sample) 0 n k k (pos 0) low (omega arith)
frames-sample blob n (f ∷ fs) numbers has (suc j) k lt low =
    let next = λ (c : ℕ). (one blob numbers f c).numbers in
    ap (λ (t : List ℤ). sample_of (get_or (passed_frames blob n t fs) j []) k) (channels-numbers blob numbers has f 0 n)
    ∙ frames-sample blob n fs next (λ c. length-numbers (sections_of blob c) (numbers c) (sample_of f c)) j k (omega arith) low

pub length-frames : (blob : List ℕ) (n : ℕ) (ns : List ℤ) (fs : List Frame) → length (passed_frames blob n ns fs) ≡ length fs
length-frames blob n ns [] = refl
length-frames blob n ns (f ∷ fs) = ap (λ m. suc m) (length-frames blob n (passed_channels blob 0 n ns f).numbers fs)

length-frame : (blob : List ℕ) (k left : ℕ) (ns : List ℤ) (f : Frame) → length (passed_channels blob k left ns f).frame ≡ left
length-frame blob k zero ns f = refl
length-frame blob k (suc left) ns f = ap (λ m. suc m) (length-frame blob (k + 1) left (drop (2 * length (sections_of blob k)) ns) f)

pub are-frames : (blob : List ℕ) (n : ℕ) (ns : List ℤ) (fs : List Frame) → AreFrames n (passed_frames blob n ns fs)
are-frames blob n ns [] = tt
are-frames blob n ns (f ∷ fs) = (length-frame blob 0 n ns f, are-frames blob n (passed_channels blob 0 n ns f).numbers fs)
