-- What a row tells of what is there.
use Rattle.std.proofs.Common.{◌≡◌, Ok, Err}
use Rattle.std.specs.Prelude.{Result, ℤ}
use Rattle.stream_law.specs.State.{FwState}
use Rattle.host_widgets.specs.There.{There, there_in, row_left}

-- what is there after it, or its error
abbrev pub told : Result FwState ℤ → Result There ℤ
told (Ok f) = Ok (there_in f)
told (Err e) = Err e

-- what is stated to be there after it is there
pub left-told : (t : There) (r : Result FwState ℤ) (now : There) → told r ≡ Ok now → row_left t r ≡ now
left-told t (Ok f) now is = cc is
left-told t (Err e) now is = absurd (cc is)
