-- What the words of a command line ask for.
use Rattle.std.specs.Prelude.{ℕ, List, Option, option_map}
use Rattle.std.specs.Option.{option_or}
use Rattle.run_words.specs.Words.{Form, play_of}
use Rattle.run_words.specs.ToolForms.{check_of, graph_file_of, CompileNames, compile_of, SourceFiles, source_files_of, stress_of}
use Rattle.run_words.specs.TraceForms.{decode_of, replay_of}

-- what is asked for: `play`, `dynamic` and `trace` by their form, `check`, `graph`, `decode` and `replay` by the name of a file, `compile` and
-- `source` by the names of their files, or `stress` by its number
pub data Request : Type 0 where
  Play : (form : Form) → Request
  Check : (name : List ℕ) → Request
  Picture : (name : List ℕ) → Request
  Compile : (names : CompileNames) → Request
  Source : (files : SourceFiles) → Request
  Stress : (seed : ℕ) → Request
  Decode : (name : List ℕ) → Request
  Replay : (name : List ℕ) → Request

-- what these words ask for, over a device of this room: the first of these forms that they have, if any
abbrev pub request_of : ℕ → List (List ℕ) → Option Request
request_of room words =
    option_or (option_map Play (play_of room words))
    (option_or (option_map Check (check_of words))
    (option_or (option_map Picture (graph_file_of words))
    (option_or (option_map Compile (compile_of words))
    (option_or (option_map Source (source_files_of words))
    (option_or (option_map Stress (stress_of words))
    (option_or (option_map Decode (decode_of words))
    (option_map Replay (replay_of words))))))))
