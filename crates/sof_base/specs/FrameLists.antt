-- Samples in a row as frames, and frames as samples.
use Rattle.std.specs.Prelude.{◌≡◌, ℕ, zero, suc, ◌+◌, List, [], ◌∷◌, ◌++◌, take, drop, length, ℤ, if◌then◌else◌, ◌==◌, Option, Some, None}
use Rattle.sof_base.specs.declared.format.Format.{Format}
use Rattle.sof_base.specs.declared.format.Format.TheVariants.{S16, S24, S32}
use Rattle.sof_base.specs.Samples.{Frame, silence}

abbrev pub format_numbered : ℕ → Option Format
format_numbered n = if n == 0 then Some S16 else (if n == 1 then Some S24 else (if n == 2 then Some S32 else None))

-- each frame has a sample of each channel
abbrev pub AreFrames : ℕ → List Frame → Type 0
AreFrames channels [] = Unit {0}
AreFrames channels (f ∷ fs) = (length f ≡ channels) × AreFrames channels fs

-- n frames of so many channels, whose samples lie one after the other
abbrev pub frames_of : ℕ → ℕ → List ℤ → List Frame
frames_of channels zero samples = []
frames_of channels (suc n) samples = take channels samples ∷ frames_of channels n (drop channels samples)

-- the samples of frames, frame after frame
abbrev pub samples_of : List Frame → List ℤ
samples_of [] = []
samples_of (frame ∷ frames) = frame ++ samples_of frames

-- the chosen input's frame, or zeros where none is looked at
abbrev pub chosen : ℕ → Option Frame → Frame
chosen channels (Some frame) = frame
chosen channels None = silence channels
