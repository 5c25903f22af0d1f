-- Reading arrays one after the other: an answer that stops the loop is the answer of the whole.
use Rattle.std.proofs.Common.{◌≡◌, ℕ, ◌<◌, List, ◌++◌, length, drop, Some, Result, Ok, Err, ap, ◌∙◌, append_assoc}
use Rattle.std.specs.Prelude.{IfOk, IfErr, OnOk}
use Rattle.std.specs.Int.{w32, to_le_bytes}
use Rattle.std.specs.declared.alloc.AllocError.{AllocError}
use Rattle.sof_base.proofs.FieldLaws.{IsBytes}
use Rattle.tplg_model.specs.declared.tokens.TokenArray.{TokenArray}
use Rattle.tplg_model.specs.Arrays.{array_type, count_of, array_size, elements_spelling, array_spelling, array_fault, AreArrays, IsTokenFault}
use Rattle.tplg_model.specs.ArrayReading.{AreArraysOf, arrays_of}
use Rattle.tplg_model.proofs.ArrayListLaws.{SoFar, SoFar-fault, read_is, fault_is}
use Rattle.tplg_tokens.specs.declared.fault.TokenFault.{TokenFault}
use Rattle.tplg_tokens.specs.declared.fault.TokenFault.TheVariants.{Short, Size, Kind, OutOfMemory}
use Rattle.tplg_tokens.specs.Answers.{NamesFault, GivesArrays}

-- an array's fault is the whole's
pub stops : (bytes : List ℕ) (xs : List TokenArray) (used : ℕ) (f : TokenFault) → used < length bytes → SoFar bytes xs used → NamesFault (λ g. array_fault used (drop used bytes) ≡ Some g) f → GivesArrays (Err f) (arrays_of bytes)
stops bytes xs used (Short at) lt s e = SoFar-fault bytes xs used _ lt s e
stops bytes xs used (Size at) lt s e = SoFar-fault bytes xs used _ lt s e
stops bytes xs used (Kind at kind) lt s e = SoFar-fault bytes xs used _ lt s e
stops bytes xs used OutOfMemory lt s e = tt

-- ---- what an answer says

pub is_found : (bytes : List ℕ) (r : Result (List TokenArray) TokenFault) → IsBytes bytes → GivesArrays r (arrays_of bytes) → IfOk r (λ xs. AreArrays xs × AreArraysOf bytes xs)
is_found bytes (Ok xs) h g = let p = read_is bytes xs h g in (p.1, p.0)
is_found bytes (Err f) h g = tt

fault_named : (bytes : List ℕ) (f : TokenFault) → IsBytes bytes → NamesFault (λ g. arrays_of bytes ≡ Err g) f → NamesFault (IsTokenFault bytes) f
fault_named bytes (Short at) h e = fault_is bytes _ h e
fault_named bytes (Size at) h e = fault_is bytes _ h e
fault_named bytes (Kind at kind) h e = fault_is bytes _ h e
fault_named bytes OutOfMemory h e = tt

pub is_fault : (bytes : List ℕ) (r : Result (List TokenArray) TokenFault) → IsBytes bytes → GivesArrays r (arrays_of bytes) → IfErr r (NamesFault (IsTokenFault bytes))
is_fault bytes (Ok xs) h g = tt
is_fault bytes (Err f) h g = fault_named bytes f h g

-- ---- writing

-- an array's words and elements after what is written
pub array_written : (a : TokenArray) (size kind count : ℕ) (old words : List ℕ) (new : List ℕ) (r : Result (Unit {0}) AllocError) → size ≡ array_size a → kind ≡ array_type a → count ≡ count_of a → words ≡ old ++ (to_le_bytes w32 size ++ (to_le_bytes w32 kind ++ to_le_bytes w32 count)) → OnOk r (new ≡ words ++ elements_spelling a) → OnOk r (new ≡ old ++ array_spelling a)
unfolding array_spelling
array_written a size kind count old words new (Err e) s k c w h = tt
array_written a size kind count old words new (Ok x) s k c w h =
    let three : words ≡ old ++ (to_le_bytes w32 (array_size a) ++ (to_le_bytes w32 (array_type a) ++ to_le_bytes w32 (count_of a))) = rw (← s, ← k, ← c) w in
    h ∙ ap (λ (t : List ℕ). t ++ elements_spelling a) three ∙ append_assoc old (to_le_bytes w32 (array_size a) ++ (to_le_bytes w32 (array_type a) ++ to_le_bytes w32 (count_of a))) (elements_spelling a)
