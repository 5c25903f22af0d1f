-- The words that lines begin with, and the lines that begin with one.
use Rattle.std.specs.Prelude.{ℕ, true, false, if◌then◌else◌, List, [], ◌∷◌, codes, Option, Some, None, Result, Ok, Err}
use Rattle.std.specs.Borrow.{Bor}
use Rattle.std.specs.Str.{bytes_eq}
use Rattle.sof_script.specs.declared.words.Word.{Word}
use Rattle.sof_script.specs.declared.words.Word.TheVariants as word
use Rattle.sof_script.specs.declared.script.Command.TheVariants as command
use Rattle.sof_script.specs.declared.items.Item.{Item}
use Rattle.sof_script.specs.declared.items.Item.TheVariants.{Do}
use Rattle.sof_script.specs.declared.fault_causes.Cause.{Cause}
use Rattle.sof_script.specs.declared.fault_causes.Cause.TheVariants as causes
use Rattle.sof_script.specs.Commands.{◌⊛◌, alone, params_item, values_item}
use Rattle.sof_script.specs.ArgumentForms.{one_name, one_number, bound, hex_item, error_item, lag_item}

-- each word by its text
abbrev pub word_texts : List (List ℕ × Word)
word_texts =
    (codes "in", word.In) ∷ (codes "out", word.Out) ∷ (codes "load", word.Load) ∷ (codes "unload", word.Unload) ∷ (codes "suspend", word.Suspend)
    ∷ (codes "resume", word.Resume) ∷ (codes "show", word.Show) ∷ (codes "open", word.Open) ∷ (codes "start", word.Start) ∷ (codes "stop", word.Stop)
    ∷ (codes "pause", word.Pause) ∷ (codes "release", word.Release) ∷ (codes "close", word.Close) ∷ (codes "get", word.Get) ∷ (codes "read", word.Read)
    ∷ (codes "params", word.Params) ∷ (codes "set", word.Set) ∷ (codes "bytes", word.Bytes) ∷ (codes "tick", word.Tick) ∷ (codes "refuse", word.Refuse)
    ∷ (codes "drop", word.Drop) ∷ (codes "lose", word.Lose) ∷ (codes "lag", word.Lag) ∷ []

-- the word that a token is, of these
abbrev pub word_listed : List ℕ → List (List ℕ × Word) → Option Word
word_listed token [] = None
word_listed token ((text, w) ∷ rows) = if bytes_eq token text then Some w else word_listed token rows

-- the word that a token is
abbrev pub word_named : List ℕ → Option Word
word_named token = word_listed token word_texts

-- the words of a table of the program
abbrev pub listed_words : List (Bor (List ℕ) × Word) → List (List ℕ × Word)
listed_words [] = []
listed_words ((text, w) ∷ rows) = (text.now, w) ∷ listed_words rows

-- what a word and the tokens after it are
abbrev pub worded_item : Word → List (List ℕ) → Result Item Cause
worded_item word.In args = bound true args
worded_item word.Out args = bound false args
worded_item word.Load args = alone command.Load args
worded_item word.Unload args = alone command.Unload args
worded_item word.Suspend args = alone command.Suspend args
worded_item word.Resume args = alone command.Resume args
worded_item word.Show args = alone command.Show args
worded_item word.Open args = Ok (λ n. Do (command.Open n)) ⊛ one_name args
worded_item word.Start args = Ok (λ n. Do (command.Start n)) ⊛ one_name args
worded_item word.Stop args = Ok (λ n. Do (command.Stop n)) ⊛ one_name args
worded_item word.Pause args = Ok (λ n. Do (command.Pause n)) ⊛ one_name args
worded_item word.Release args = Ok (λ n. Do (command.Release n)) ⊛ one_name args
worded_item word.Close args = Ok (λ n. Do (command.Close n)) ⊛ one_name args
worded_item word.Get args = Ok (λ n. Do (command.Get n)) ⊛ one_name args
worded_item word.Read args = Ok (λ n. Do (command.Read n)) ⊛ one_name args
worded_item word.Params args = params_item args
worded_item word.Set args = values_item args
worded_item word.Bytes args = hex_item args
worded_item word.Tick args = Ok (λ n. Do (command.Tick n)) ⊛ one_number 60000 args
worded_item word.Refuse args = error_item args
worded_item word.Drop args = Ok (λ n. Do (command.Drop n)) ⊛ one_number 100000 args
worded_item word.Lose args = Ok (λ n. Do (command.Lose n)) ⊛ one_number 100000 args
worded_item word.Lag args = lag_item args

-- the tokens after a first token, which is a word or not
abbrev pub behind_word : Option Word → List (List ℕ) → Result Item Cause
behind_word None args = Err causes.Word
behind_word (Some w) args = worded_item w args
