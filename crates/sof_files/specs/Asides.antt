-- A file that is written aside, and the bytes that it has.
use Rattle.std.specs.Prelude.{◌≡◌, ◌&&◌, ℕ, Bool, false, not, nat_eq, List, Option, Some, None}
use Rattle.std.specs.List.{list_any}
use Rattle.sof_files.specs.OutFiles.{OutView}
use Rattle.sof_files.specs.declared.aside.Aside.{Aside}

-- whether bytes of the file of a slot are written, or it is emptied, where it is a regular one
abbrev pub has_bytes : ℕ → List OutView → Bool
has_bytes slot files = list_any (λ f. nat_eq f.slot slot && not f.stale) files

-- a file aside that has no bytes stays aside
abbrev pub Waits : List OutView → (old new : Option Aside) → Type 0
Waits files None new = new ≡ None
Waits files (Some aside) new = has_bytes aside.slot files ≡ false → new ≡ Some aside
