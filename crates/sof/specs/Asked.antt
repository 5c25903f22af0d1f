-- The words that the program itself understands: those that ask for a text, and those of `drive`.
use Rattle.std.specs.Prelude.{ℕ, ◌&&◌, ◌||◌, Bool, false, List, [], ◌∷◌, Option, Some, None, is_some, codes, if◌then◌else◌}
use Rattle.std.specs.Result.{result_ok}
use Rattle.std.specs.Str.{bytes_eq}
use Rattle.sof_script.specs.ValueForms.{number_value}
use Rattle.run_words.specs.Words.{is_file_name}

-- one word that asks for a text
abbrev pub asks_text : List (List ℕ) → Bool
asks_text (word ∷ []) = (bytes_eq word (codes "--help") || bytes_eq word (codes "-h")) || (bytes_eq word (codes "--version") || bytes_eq word (codes "-V"))
asks_text _ = false

-- what `drive` is given: the words of the play after its form, and the names of the files of records and of replies
pub record DriveNames : Type 0 where
  pub heap : List ℕ
  pub topology : List ℕ
  pub script : List ℕ
  pub requests : List ℕ
  pub replies : List ℕ

abbrev pub drive_names : (heap topology script requests replies : List ℕ) → DriveNames
drive_names heap topology script requests replies = record { heap = heap; topology = topology; script = script; requests = requests; replies = replies }

-- a decimal number that is at most the room of the device
abbrev pub is_heap : ℕ → List ℕ → Bool
is_heap room heap = is_some (result_ok (number_value 0 room heap))

-- `drive HEAP TOPOLOGY SCRIPT REQUESTS REPLIES`
abbrev pub drive_of : ℕ → List (List ℕ) → Option DriveNames
drive_of room (verb ∷ heap ∷ topology ∷ script ∷ requests ∷ replies ∷ []) =
    if bytes_eq verb (codes "drive") && (is_heap room heap && (is_file_name topology && (is_file_name script && (is_file_name requests && is_file_name replies))))
    then Some (drive_names heap topology script requests replies)
    else None
drive_of room _ = None

-- the words of its play
abbrev pub play_words : DriveNames → List (List ℕ)
play_words names = codes "play" ∷ names.heap ∷ names.topology ∷ names.script ∷ []
