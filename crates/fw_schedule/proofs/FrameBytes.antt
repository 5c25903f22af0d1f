-- The bytes of frames.
use Rattle.std.proofs.Common.{◌≡◌, refl, ap, ◌∙◌, ℕ, List, [], ◌∷◌, ◌++◌}
use Rattle.sof_base.specs.declared.format.Format.{Format}
use Rattle.sof_base.specs.Samples.{Frame, frame_out, frames_out}
use Rattle.sof_base.specs.FrameLists.{samples_of}
use Rattle.sof_io.proofs.SampleRuns.{frame_out-append}

-- the bytes of frames are those of their samples
pub bytes-of-frames : (format : Format) (fs : List Frame) → frame_out format (samples_of fs) ≡ frames_out format fs
bytes-of-frames format [] = refl
bytes-of-frames format (f ∷ fs) = frame_out-append format f (samples_of fs) ∙ ap (λ (t : List ℕ). frame_out format f ++ t) (bytes-of-frames format fs)
