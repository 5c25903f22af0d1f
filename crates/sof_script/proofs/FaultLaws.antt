-- The first line at fault.
use Rattle.std.proofs.Common.{◌≡◌, ◌⊎◌, inl, inr, ℕ, ◌+◌, List, [], ◌∷◌, ◌++◌, length, Result, Ok, Err, refl, sym, ap, arith}
use Rattle.sof_script.specs.declared.fault_causes.Cause.{Cause}
use Rattle.sof_script.specs.declared.items.Item.{Item}
use Rattle.sof_script.specs.declared.items.Item.TheVariants.{Nothing, Bind, Do}
use Rattle.sof_script.specs.declared.reading.ScriptFault.{ScriptFault}
use Rattle.sof_script.specs.declared.reading.ScriptFault.TheVariants.{Line}
use Rattle.sof_script.specs.Splitting.{lines_of, without_return}
use Rattle.sof_script.specs.Causes.{cause_number}
use Rattle.sof_script.specs.Commands.{Read, line_item, with_item, lines_read, script_of}
use Rattle.sof_script.specs.Faults.{AllRight, IsToldOf}

-- where lines numbered from a number on have their first fault
pub record FirstFrom (from : ℕ) (all : List (List ℕ)) (number : ℕ) (cause : Cause) : Type 0 where
  pub before : List (List ℕ)
  pub line : List ℕ
  pub behind : List (List ℕ)
  pub lines : all ≡ before ++ line ∷ behind
  pub right : AllRight before
  pub count : number ≡ length before + from
  pub fault : line_item (without_return line) ≡ Err cause

here_or_behind : (n number told : ℕ) (r : Result Item Cause) (rest : Result Read ScriptFault) → with_item n r rest ≡ Err (Line number told)
    → ((number ≡ n) × ((cause : Cause) × (told ≡ cause_number cause) × (r ≡ Err cause))) ⊎ (((item : Item) × (r ≡ Ok item)) × (rest ≡ Err (Line number told)))
here_or_behind n number told (Err c) rest is = inl (let a : n ≡ number = cc is in sym a, (c, let b : cause_number c ≡ told = cc is in sym b, refl))
here_or_behind n number told (Ok item) (Err fault) is = inr ((item, refl), is)
here_or_behind n number told (Ok Nothing) (Ok read) is = absurd (cc is)
here_or_behind n number told (Ok (Bind input endpoint file)) (Ok read) is = absurd (cc is)
here_or_behind n number told (Ok (Do c)) (Ok read) is = absurd (cc is)

first_from : (n : ℕ) (all : List (List ℕ)) (number told : ℕ) → lines_read n all ≡ Err (Line number told) → (cause : Cause) × (told ≡ cause_number cause) × FirstFrom n all number cause
unfolding lines_read
first_from n [] number told is = absurd (cc is)
first_from n (line ∷ all) number told is = elim (here_or_behind n number told (line_item (without_return line)) (lines_read (n + 1) all) is) [
  | inl here ↦
      let first : FirstFrom n (line ∷ all) number here.1.0 = record { before = []; line = line; behind = all; lines = refl; right = tt; count = omega (arith, here.0); fault = here.1.2 } in
      (here.1.0, here.1.1, first)
  | inr later ↦
      let more = first_from (n + 1) all number told later.1 in
      let rest = more.2 in
      let first : FirstFrom n (line ∷ all) number more.0 = record {
        before = line ∷ rest.before;
        line = rest.line;
        behind = rest.behind;
        lines = ap (λ (l : List (List ℕ)). line ∷ l) rest.lines;
        right = (later.0, rest.right);
        count = omega (arith, rest.count);
        fault = rest.fault;
      } in
      (more.0, more.1, first)
]

pub told_fault : (bytes : List ℕ) (number told : ℕ) → script_of bytes ≡ Err (Line number told) → IsToldOf bytes (Line number told)
told_fault bytes number told is =
    let from = first_from 1 (lines_of bytes) number told is in
    let first = from.2 in
    (from.0, from.1, record { before = first.before; line = first.line; behind = first.behind; lines = first.lines; right = first.right; count = first.count; fault = first.fault })

right_or_fault : (n : ℕ) (r : Result Item Cause) (rest : Result Read ScriptFault) (read : Read) → with_item n r rest ≡ Ok read → ((item : Item) × (r ≡ Ok item)) × ((q : Read) × (rest ≡ Ok q))
right_or_fault n (Err c) rest read is = absurd (cc is)
right_or_fault n (Ok item) (Err fault) read is = absurd (cc is)
right_or_fault n (Ok item) (Ok q) read is = ((item, refl), (q, refl))

all_right : (n : ℕ) (all : List (List ℕ)) (read : Read) → lines_read n all ≡ Ok read → AllRight all
unfolding lines_read
all_right n [] read is = tt
all_right n (line ∷ all) read is =
    let both = right_or_fault n (line_item (without_return line)) (lines_read (n + 1) all) read is in
    (both.0, all_right (n + 1) all both.1.0 both.1.1)

pub told_right : (bytes : List ℕ) (read : Read) → script_of bytes ≡ Ok read → AllRight (lines_of bytes)
told_right bytes read is = all_right 1 (lines_of bytes) read is
