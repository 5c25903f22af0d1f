-- Reading a script line by line.
use Rattle.std.proofs.Common.{◌≡◌, ℕ, ◌+◌, ◌<◌, ◌≤◌, List, [], ◌∷◌, ◌++◌, length, Result, Ok, Err, OnOk, string_bytes, refl, sym, ap, ◌∙◌, arith, append_assoc, append-nil}
use Rattle.sof_script.specs.declared.script.Numbered.{Numbered}
use Rattle.sof_script.specs.declared.script.Binding.{Binding}
use Rattle.sof_script.specs.declared.script.Script.{Script}
use Rattle.sof_script.specs.declared.fault_causes.Cause.{Cause}
use Rattle.sof_script.specs.declared.items.Item.{Item}
use Rattle.sof_script.specs.declared.items.Item.TheVariants.{Bind}
use Rattle.sof_script.specs.declared.reading.ScriptFault.{ScriptFault}
use Rattle.sof_script.specs.declared.reading.ScriptFault.TheVariants.{Line}
use Rattle.sof_script.specs.Splitting.{lines_of, without_return}
use Rattle.sof_script.specs.Causes.{cause_number}
use Rattle.sof_script.specs.Commands.{Bound, Read, with_item, line_item, lines_read, script_of}
use Rattle.sof_script.specs.ScriptRead.{bound_of, bounds_of, script_read, behind}

pub on_ok : {A E : Type 0} (r : Result A E) (P Q : Type 0) → (P → Q) → OnOk r P → OnOk r Q
on_ok (Ok a) P Q f p = f p
on_ok (Err e) P Q f p = p

bounds-append : (xs ys : List Binding) → bounds_of (xs ++ ys) ≡ bounds_of xs ++ bounds_of ys
bounds-append [] ys = refl
bounds-append (x ∷ xs) ys = ap (λ (l : List Bound). bound_of x ∷ l) (bounds-append xs ys)

-- one more binding
pub bound_more : (bindings : List Binding) (commands : List Numbered) (b : Binding) (file : List ℕ) (read : Result Read ScriptFault) → string_bytes b.file ≡ file
    → behind (record { bindings = bounds_of bindings; commands = commands }) (with_item b.line (Ok (Bind b.input b.endpoint file)) read) ≡ behind (record { bindings = bounds_of (bindings ++ b ∷ []); commands = commands }) read
bound_more bindings commands b file (Err fault) same = refl
bound_more bindings commands b file (Ok rest) same =
    let one : Bound = record { line = b.line; input = b.input; endpoint = b.endpoint; file = file } in
    let as_told : bound_of b ≡ one = ap (λ (f : List ℕ). let r : Bound = record { line = b.line; input = b.input; endpoint = b.endpoint; file = f } in r) same in
    let lists : bounds_of bindings ++ one ∷ rest.bindings ≡ bounds_of (bindings ++ b ∷ []) ++ rest.bindings =
    sym (append_assoc (bounds_of bindings) (one ∷ []) rest.bindings)
    ∙ ap (λ (o : Bound). (bounds_of bindings ++ o ∷ []) ++ rest.bindings) (sym as_told)
    ∙ ap (λ (l : List Bound). l ++ rest.bindings) (sym (bounds-append bindings (b ∷ []))) in
    ap (λ (l : List Bound). let r : Read = record { bindings = l; commands = commands ++ rest.commands } in Ok r) lists

-- what was read of the first lines, and the bytes of the others
pub record Reading (bytes rest : List ℕ) (number : ℕ) (script : Script) : Type 0 where
  pub whole : script_of bytes ≡ behind (script_read script) (lines_read number (lines_of rest))
  pub few : number + length rest ≤ length bytes + 1
  pub short : length script.commands < number

nothing_before : (r : Result Read ScriptFault) → r ≡ behind (record { bindings = []; commands = [] }) r
nothing_before (Ok read) = refl
nothing_before (Err fault) = refl

pub Reading-none : (bytes : List ℕ) (script : Script) → script_read script ≡ record { bindings = []; commands = [] } → Reading bytes bytes 1 script
Reading-none bytes script empty = record {
  whole = nothing_before (script_of bytes) ∙ ap (λ (r : Read). behind r (script_of bytes)) (sym empty);
  few = omega arith;
  short = omega (arith, ap (λ (r : Read). length r.commands) empty);
}

one_line : (rest line behind_it : List ℕ) (number : ℕ) → lines_of rest ≡ line ∷ lines_of behind_it → lines_read number (lines_of rest) ≡ with_item number (line_item (without_return line)) (lines_read (number + 1) (lines_of behind_it))
unfolding lines_read
one_line rest line behind_it number is = ap (lines_read number) is

pub Reading-fault : (bytes rest line behind_it : List ℕ) (number : ℕ) (cause : Cause) (script : Script) → Reading bytes rest number script → lines_of rest ≡ line ∷ lines_of behind_it → line_item (without_return line) ≡ Err cause → script_of bytes ≡ Err (Line number (cause_number cause))
Reading-fault bytes rest line behind_it number cause script r is fault =
    r.whole ∙ ap (behind (script_read script)) (one_line rest line behind_it number is ∙ ap (λ (i : Result Item Cause). with_item number i (lines_read (number + 1) (lines_of behind_it))) fault)

pub Reading-more : (bytes rest line behind_it : List ℕ) (number : ℕ) (item : Item) (script next : Script) → Reading bytes rest number script → lines_of rest ≡ line ∷ lines_of behind_it → length behind_it < length rest → line_item (without_return line) ≡ Ok item
    → ((read : Result Read ScriptFault) → behind (script_read script) (with_item number (Ok item) read) ≡ behind (script_read next) read) → length next.commands ≤ length script.commands + 1 → Reading bytes behind_it (number + 1) next
Reading-more bytes rest line behind_it number item script next r is fewer good added one = record {
  whole = r.whole ∙ ap (behind (script_read script)) (one_line rest line behind_it number is ∙ ap (λ (i : Result Item Cause). with_item number i (lines_read (number + 1) (lines_of behind_it))) good)
      ∙ added (lines_read (number + 1) (lines_of behind_it));
  few = omega (arith, r.few, fewer);
  short = omega (arith, r.short, one);
}

pub Reading-all : (bytes rest : List ℕ) (number : ℕ) (script : Script) → Reading bytes rest number script → length rest ≡ 0 → script_of bytes ≡ Ok (script_read script)
unfolding lines_of lines_read
Reading-all bytes [] number script r none =
    r.whole ∙ ap (λ (l : List Bound). let s : Read = record { bindings = l; commands = script.commands ++ [] } in Ok s) (append-nil (bounds_of script.bindings))
    ∙ ap (λ (l : List Numbered). let s : Read = record { bindings = bounds_of script.bindings; commands = l } in Ok s) (append-nil script.commands)
Reading-all bytes (b ∷ rest) number script r none = absurd (omega (arith, none))

pub bound_pushed : {E : Type 0} (r : Result (Unit {0}) E) (bindings new : List Binding) (commands : List Numbered) (b : Binding) (file : List ℕ) (read : Result Read ScriptFault) → string_bytes b.file ≡ file → OnOk r (new ≡ bindings ++ b ∷ [])
    → OnOk r (behind (record { bindings = bounds_of bindings; commands = commands }) (with_item b.line (Ok (Bind b.input b.endpoint file)) read) ≡ behind (record { bindings = bounds_of new; commands = commands }) read)
bound_pushed (Ok u) bindings new commands b file read same is = rw is (bound_more bindings commands b file read same)
bound_pushed (Err e) bindings new commands b file read same is = is
