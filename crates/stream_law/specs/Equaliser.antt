-- An equaliser's sections as its blob has them, and frames through them by the two numbers that each section keeps.
use Rattle.std.specs.Prelude.{ℕ, zero, suc, ◌+◌, ◌*◌, List, [], ◌∷◌, ◌++◌, map, length, drop, get_or, ℤ, pos, negsuc, ◌+ℤ◌, ◌*ℤ◌, if◌then◌else◌, nat_lt}
use Rattle.std.specs.List.{range_with_len}
use Rattle.sof_base.specs.Blob.{blob_channels, assignment_at, section_count, section_place, section_at}
use Rattle.sof_base.specs.Samples.{Frame, sat, rounded, sample_of}
use Rattle.sof_base.specs.Equations.{Section, section_output}

-- ---- the sections of a channel

-- the sections of response r
abbrev pub response_sections : List ℕ → ℕ → List Section
response_sections blob r = map (λ s. section_at blob (section_place blob r s)) (range_with_len 0 (section_count blob r))

-- those of the response with this assignment, none where it is negative
abbrev pub assigned_sections : List ℕ → ℤ → List Section
assigned_sections blob (pos r) = response_sections blob r
assigned_sections blob (negsuc n) = []

-- the sections in series that channel k passes through, none where it has no assignment
unfoldable pub sections_of : List ℕ → ℕ → List Section
sections_of blob k = if nat_lt k (blob_channels blob) then assigned_sections blob (assignment_at blob k) else []

-- ---- one sample, frame and list of frames, by the two numbers that each section keeps of what came before:
-- b1*x1 + b2*x2 + a1*w1 + a2*w2 and b2*x1 + a2*w1, with x1, x2, w1 and w2 its last inputs and inner values, or 0

-- a sample, and the numbers after it
pub record Passed : Type 0 where
  pub sample : ℤ
  pub numbers : List ℤ

-- number i of a list, 0 where there is none
abbrev pub number_at : List ℤ → ℕ → ℤ
number_at numbers i = get_or numbers i (pos 0)

-- the inner value of a section, from its first number
abbrev pub next_inner : Section → ℤ → ℤ → ℤ
next_inner s first x = sat 32 (rounded 30 ((s.b0 *ℤ x) +ℤ first))

-- the two numbers of a section after input x and inner value w, from its second number
abbrev pub next_numbers : Section → ℤ → ℤ → ℤ → List ℤ
next_numbers s second x w = (((s.b1 *ℤ x) +ℤ (s.a1 *ℤ w)) +ℤ second) ∷ ((s.b2 *ℤ x) +ℤ (s.a2 *ℤ w)) ∷ []

-- a sample through sections in series
abbrev pub passed_sections : List Section → List ℤ → ℤ → Passed
passed_sections [] numbers x = record { sample = x; numbers = [] }
passed_sections (s ∷ ss) numbers x =
    let w = next_inner s (number_at numbers 0) x in
    let rest = passed_sections ss (drop 2 numbers) (section_output s w) in
    record { sample = rest.sample; numbers = next_numbers s (number_at numbers 1) x w ++ rest.numbers }

-- a frame, and the numbers after it
pub record PassedFrame : Type 0 where
  pub frame : Frame
  pub numbers : List ℤ

-- channels k and up of a frame, of which so many are left, each through its sections
abbrev pub passed_channels : List ℕ → ℕ → ℕ → List ℤ → Frame → PassedFrame
passed_channels blob k zero numbers frame = record { frame = []; numbers = [] }
passed_channels blob k (suc left) numbers frame =
    let sections = sections_of blob k in
    let here = passed_sections sections numbers (sample_of frame k) in
    let rest = passed_channels blob (k + 1) left (drop (2 * length sections) numbers) frame in
    record { frame = here.sample ∷ rest.frame; numbers = here.numbers ++ rest.numbers }

-- what frames become
abbrev pub passed_frames : List ℕ → ℕ → List ℤ → List Frame → List Frame
passed_frames blob channels numbers [] = []
passed_frames blob channels numbers (f ∷ fs) = let p = passed_channels blob 0 channels numbers f in p.frame ∷ passed_frames blob channels p.numbers fs

-- and the numbers after them, by channel and then section
abbrev pub numbers_after : List ℕ → ℕ → List ℤ → List Frame → List ℤ
numbers_after blob channels numbers [] = numbers
numbers_after blob channels numbers (f ∷ fs) = numbers_after blob channels (passed_channels blob 0 channels numbers f).numbers fs
