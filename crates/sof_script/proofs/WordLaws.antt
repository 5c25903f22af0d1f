-- A first token that is a word says what the word does.
use Rattle.std.proofs.Common.{◌≡◌, ℕ, Bool, true, false, cond, List, [], ◌∷◌, codes, Option, Some, None, Result, Ok, Err, IfOk, refl, ap, ◌∙◌}
use Rattle.std.specs.List.{AllByRecursion}
use Rattle.std.specs.Str.{bytes_eq}
use Rattle.sof_script.specs.declared.words.Word.{Word}
use Rattle.sof_script.specs.declared.words.Word.TheVariants as word
use Rattle.sof_script.specs.declared.script.Command.{Command}
use Rattle.sof_script.specs.declared.script.Command.TheVariants as command
use Rattle.sof_script.specs.declared.items.Item.{Item}
use Rattle.sof_script.specs.declared.items.Item.TheVariants.{Bind, Do}
use Rattle.sof_script.specs.declared.fault_causes.Cause.{Cause}
use Rattle.sof_script.specs.declared.fault_causes.Cause.TheVariants as causes
use Rattle.sof_script.specs.ValueForms.{number_value, error_value, hex_value, name_value, file_value}
use Rattle.sof_script.specs.Commands.{◌⊛◌, alone, one_value, two_values, params_item, values_item, message_number, said_by}
use Rattle.sof_script.specs.ArgumentForms.{one_name, one_number, bound, hex_item, error_item, lag_item}
use Rattle.sof_script.specs.Words.{word_named, worded_item, behind_word}

-- ---- the forms of arguments

name-is : (make : List ℕ → Command) (args : List (List ℕ)) → (Ok (λ (n : List ℕ). Do (make n)) ⊛ one_name args) ≡ one_value name_value make args
name-is make [] = refl
name-is make (x ∷ []) = refl
name-is make (x ∷ y ∷ args) = refl

number-is : (most : ℕ) (make : ℕ → Command) (args : List (List ℕ)) → (Ok (λ (n : ℕ). Do (make n)) ⊛ one_number most args) ≡ one_value (number_value 1 most) make args
number-is most make [] = refl
number-is most make (x ∷ []) = refl
number-is most make (x ∷ y ∷ args) = refl

bound-is : (input : Bool) (args : List (List ℕ)) → bound input args ≡ two_values name_value file_value (λ e f. Bind input e f) args
bound-is input [] = refl
bound-is input (x ∷ []) = refl
bound-is input (x ∷ y ∷ []) = refl
bound-is input (x ∷ y ∷ z ∷ args) = refl

hex-is : (args : List (List ℕ)) → hex_item args ≡ two_values name_value hex_value (λ c bytes. Do (command.Bytes c bytes)) args
hex-is [] = refl
hex-is (x ∷ []) = refl
hex-is (x ∷ y ∷ []) = refl
hex-is (x ∷ y ∷ z ∷ args) = refl

error-is : (args : List (List ℕ)) → error_item args ≡ two_values message_number error_value (λ k e. Do (command.Refuse k e)) args
error-is [] = refl
error-is (x ∷ []) = refl
error-is (x ∷ y ∷ []) = refl
error-is (x ∷ y ∷ z ∷ args) = refl

lag-is : (args : List (List ℕ)) → lag_item args ≡ two_values message_number (number_value 1 16) (λ k n. Do (command.Lag k n)) args
lag-is [] = refl
lag-is (x ∷ []) = refl
lag-is (x ∷ y ∷ []) = refl
lag-is (x ∷ y ∷ z ∷ args) = refl

-- ---- the words

-- a text, its word, and what the word says of the tokens after it
abbrev Row : Type 0
Row = List ℕ × Word × (List (List ℕ) → Result Item Cause)

abbrev word_rows : List Row
word_rows =
    (codes "in", word.In, two_values name_value file_value (λ e f. Bind true e f))
    ∷ (codes "out", word.Out, two_values name_value file_value (λ e f. Bind false e f))
    ∷ (codes "load", word.Load, alone command.Load)
    ∷ (codes "unload", word.Unload, alone command.Unload)
    ∷ (codes "suspend", word.Suspend, alone command.Suspend)
    ∷ (codes "resume", word.Resume, alone command.Resume)
    ∷ (codes "show", word.Show, alone command.Show)
    ∷ (codes "open", word.Open, one_value name_value command.Open)
    ∷ (codes "start", word.Start, one_value name_value command.Start)
    ∷ (codes "stop", word.Stop, one_value name_value command.Stop)
    ∷ (codes "pause", word.Pause, one_value name_value command.Pause)
    ∷ (codes "release", word.Release, one_value name_value command.Release)
    ∷ (codes "close", word.Close, one_value name_value command.Close)
    ∷ (codes "get", word.Get, one_value name_value command.Get)
    ∷ (codes "read", word.Read, one_value name_value command.Read)
    ∷ (codes "params", word.Params, params_item)
    ∷ (codes "set", word.Set, values_item)
    ∷ (codes "bytes", word.Bytes, two_values name_value hex_value (λ c bytes. Do (command.Bytes c bytes)))
    ∷ (codes "tick", word.Tick, one_value (number_value 1 60000) command.Tick)
    ∷ (codes "refuse", word.Refuse, two_values message_number error_value (λ k e. Do (command.Refuse k e)))
    ∷ (codes "drop", word.Drop, one_value (number_value 1 100000) command.Drop)
    ∷ (codes "lose", word.Lose, one_value (number_value 1 100000) command.Lose)
    ∷ (codes "lag", word.Lag, two_values message_number (number_value 1 16) (λ k n. Do (command.Lag k n))) ∷ []

-- the first word whose text a token is
abbrev word_in : List ℕ → List Row → Option Word
word_in token [] = None
word_in token ((text, w, form) ∷ rows) = cond (bytes_eq token text) (Some w) (word_in token rows)

-- and what it says
abbrev said_in : List ℕ → List (List ℕ) → List Row → Result Item Cause
said_in token args [] = Err causes.Word
said_in token args ((text, w, form) ∷ rows) = cond (bytes_eq token text) (form args) (said_in token args rows)

-- one word, and the words after it
one_more : (args : List (List ℕ)) (t : Bool) (w : Word) (o : Option Word) (here more : Result Item Cause) → worded_item w args ≡ here → behind_word o args ≡ more → behind_word (cond t (Some w) o) args ≡ cond t here more
one_more args true w o here more is rest = is
one_more args false w o here more is rest = rest

along : (token : List ℕ) (args : List (List ℕ)) (rows : List Row) → AllByRecursion (λ (row : Row). worded_item row.1 args ≡ row.2 args) rows → behind_word (word_in token rows) args ≡ said_in token args rows
along token args [] are = refl
along token args ((text, w, form) ∷ rows) are =
    one_more args (bytes_eq token text) w (word_in token rows) (form args) (said_in token args rows) are.0 (along token args rows are.1)

pub said-by-word : (token : List ℕ) (args : List (List ℕ)) → behind_word (word_named token) args ≡ said_by token args
said-by-word token args = along token args word_rows (bound-is true args, (bound-is false args, (refl, (refl, (refl, (refl, (refl, (name-is command.Open args, (name-is command.Start args, (name-is command.Stop args, (name-is command.Pause args, (name-is command.Release args, (name-is command.Close args, (name-is command.Get args, (name-is command.Read args, (refl, (refl, (hex-is args, (number-is 60000 command.Tick args, (error-is args, (number-is 100000 command.Drop args, (number-is 100000 command.Lose args, (lag-is args, tt)))))))))))))))))))))))

-- what is made of a word that a token is, where there was memory
pub if-said : {E : Type 0} (r : Result (Result Item Cause) E) (token : List ℕ) (args : List (List ℕ)) (w : Word) → Some w ≡ word_named token → IfOk r (λ item. item ≡ worded_item w args) → IfOk r (λ item. item ≡ said_by token args)
if-said (Ok item) token args w is made = made ∙ ap (λ (o : Option Word). behind_word o args) is ∙ said-by-word token args
if-said (Err e) token args w is made = tt
