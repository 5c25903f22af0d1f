-- What the reader answers, against what reading gives.
use Rattle.std.specs.Prelude.{◌≡◌, List, Result, Ok, Err}
use Rattle.tplg_model.specs.declared.tokens.TokenArray.{TokenArray}
use Rattle.tplg_model.specs.Arrays.{ArrayFault, Too_short, Wrong_size, Unknown_type}
use Rattle.tplg_tokens.specs.declared.fault.TokenFault.{TokenFault}
use Rattle.tplg_tokens.specs.declared.fault.TokenFault.TheVariants.{Short, Size, Kind, OutOfMemory}

-- the array's fault that is answered is so; want of memory says nothing of the arrays
abbrev pub NamesFault : (ArrayFault → Type 0) → TokenFault → Type 0
NamesFault Is (Short at) = Is (Too_short at)
NamesFault Is (Size at) = Is (Wrong_size at)
NamesFault Is (Kind at kind) = Is (Unknown_type at kind)
NamesFault Is OutOfMemory = Unit {0}

-- the answer is what reading gives, unless memory ran out
abbrev pub GivesArrays : Result (List TokenArray) TokenFault → Result (List TokenArray) ArrayFault → Type 0
GivesArrays (Ok arrays) read = read ≡ Ok arrays
GivesArrays (Err fault) read = NamesFault (λ f. read ≡ Err f) fault
