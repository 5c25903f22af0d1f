-- The status of `play` by the bytes of its files, where the desk tells them.
use Rattle.std.specs.Prelude.{◌≡◌, ℕ, List, Some}
use Rattle.sof_desk.specs.Desk.{DeskMeaning, DeskCall}
use Rattle.run_words.specs.Words.{Form, play_of}
use Rattle.run_desk.specs.Verdicts.{Verdict}

-- where the desk tells topology and script, the status is by the files' bytes
abbrev pub Judged : {D : Type 0} → DeskMeaning D → ℕ → List (List ℕ) → D → List DeskCall → ℕ → Type 0
Judged means room words old calls status =
    (form : Form) (topology script : List ℕ) → play_of room words ≡ Some form → means.holds old form.topology ≡ Some topology → means.holds old form.script ≡ Some script
    → Verdict topology script calls status
