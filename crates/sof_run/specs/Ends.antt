-- How a run ends, whatever its words.
use Rattle.std.specs.Prelude.{◌≡◌, ◌⊎◌, ℕ, List, None}
use Rattle.run_words.specs.Words.{play_of}
use Rattle.run_words.specs.ToolForms.{check_of, graph_file_of, compile_of, source_files_of, stress_of}
use Rattle.run_words.specs.TraceForms.{decode_of, replay_of}

-- ---- the status

-- a status that comes before any command: not 0, and not that of a desk or a device that failed
abbrev pub IsEarly : ℕ → Type 0
IsEarly status = (status ≡ 1) ⊎ (status ≡ 2) ⊎ (status ≡ 4) ⊎ (status ≡ 5) ⊎ (status ≡ 7) ⊎ (status ≡ 8)

-- ---- the words

-- status 1 comes exactly where the words have none of the forms, but for a failure of the desk
pub record Worded (room : ℕ) (words : List (List ℕ)) (status : ℕ) : Type 0 where
  pub only : status ≡ 1 → (play_of room words ≡ None) × (check_of words ≡ None) × (graph_file_of words ≡ None) × (compile_of words ≡ None) × (source_files_of words ≡ None) × (stress_of words ≡ None) × (decode_of words ≡ None) × (replay_of words ≡ None)
  pub each : play_of room words ≡ None → check_of words ≡ None → graph_file_of words ≡ None → compile_of words ≡ None → source_files_of words ≡ None → stress_of words ≡ None → decode_of words ≡ None → replay_of words ≡ None → (status ≡ 1) ⊎ (status ≡ 3)
