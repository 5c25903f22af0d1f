-- The numbers of a script's commands are in their ranges, and there are at most as many commands as bytes.
use Rattle.std.proofs.Common.{◌≡◌, refl, sym, subst, ℕ, zero, suc, ◌+◌, ◌≤◌, ◌<◌, ◌^◌, ℤ, pos, negsuc, Bool, true, false, cond, ◌&&◌, List, [], ◌∷◌, length, Option, Some, None, Result, Ok, Err, arith}
use Rattle.std.specs.Prelude.{IfOk, nat_le, nat_eq, ◌-ℤ◌, codes}
use Rattle.std.specs.List.{list_all, onto_first}
use Rattle.std.specs.Str.{bytes_eq}
use Rattle.std.proofs.Math.IntN.{+ℤ_idl}
use Rattle.std.proofs.lemmas.Bool.{and_parts, and_from, leb-true, lt-ltb, false≢true}
use Rattle.sof_base.specs.declared.format.Format.{Format}
use Rattle.sof_script.specs.declared.script.Command.{Command}
use Rattle.sof_script.specs.declared.script.Command.TheVariants as commands
use Rattle.sof_script.specs.declared.fault_causes.Cause.{Cause}
use Rattle.sof_script.specs.declared.fault_causes.Cause.TheVariants as causes
use Rattle.sof_script.specs.declared.items.Item.{Item}
use Rattle.sof_script.specs.declared.items.Item.TheVariants.{Nothing, Bind, Do}
use Rattle.sof_script.specs.declared.reading.ScriptFault.{ScriptFault}
use Rattle.sof_script.specs.Splitting.{lines_of, without_return, is_skipped, all_plain, tokens_of}
use Rattle.sof_script.specs.TokenStarts.{with_byte}
use Rattle.sof_script.specs.ValueForms.{name_value, file_value, format_value, hex_value, in_range, decimal_value, number_value, negative, error_value}
use Rattle.sof_script.specs.Commands.{◌⊛◌, any_number, message_number, number_values, one_value, two_values, alone, params_item, values_item, said_by, item_of, line_item, Read, with_item, lines_read, script_of}
use Rattle.sof_session.specs.CommandRanges.{is_ahead, is_lag, is_refusal, is_in_range}
use Rattle.run_play.specs.Ranges.{IsInRange}

-- ---- one line

-- a command whose numbers are in their ranges, or no command
abbrev Ranged : Item → Type 0
Ranged (Do command) = is_in_range command ≡ true
Ranged Nothing = Unit {0}
Ranged (Bind input endpoint file) = Unit {0}

abbrev Fine : Result Item Cause → Type 0
Fine r = IfOk r Ranged

-- one value more, of which something is known
applied : {A B : Type 0} (P : A → Type 0) (Q : B → Type 0) (r : Result (A → B) Cause) (a : Result A Cause) → IfOk r (λ f. (v : A) → P v → Q (f v)) → IfOk a P → IfOk (r ⊛ a) Q
applied P Q (Ok f) (Ok v) all has = all v has
applied P Q (Ok f) (Err cause) all has = tt
applied P Q (Err cause) (Ok v) all has = tt
applied P Q (Err cause) (Err other) all has = tt

-- and any value more
with_any : {A B : Type 0} (Q : B → Type 0) (r : Result (A → B) Cause) (a : Result A Cause) → IfOk r (λ f. (v : A) → Q (f v)) → IfOk (r ⊛ a) Q
with_any Q (Ok f) (Ok v) all = all v
with_any Q (Ok f) (Err cause) all = tt
with_any Q (Err cause) (Ok v) all = tt
with_any Q (Err cause) (Err other) all = tt

always : {A : Type 0} (make : A → Item) (a : Result A Cause) → ((v : A) → Ranged (make v)) → Fine (Ok make ⊛ a)
always make a all = with_any Ranged (Ok make) a all

always_two : {A B : Type 0} (make : A → B → Item) (a : Result A Cause) (b : Result B Cause) → ((v : A) (u : B) → Ranged (make v u)) → Fine (Ok make ⊛ a ⊛ b)
always_two {A} {B} make a b all = with_any Ranged (Ok make ⊛ a) b (with_any (λ (f : B → Item). (u : B) → Ranged (f u)) (Ok make) a all)

fine_if : (b : Bool) (r s : Result Item Cause) → Fine r → Fine s → Fine (cond b r s)
fine_if true r s first rest = first
fine_if false r s first rest = rest

-- ---- numbers

abbrev Between : ℕ → ℕ → ℕ → Type 0
Between least most n = (nat_le least n && nat_le n most) ≡ true

in_between : (least most : ℕ) (o : Option ℕ) → IfOk (in_range least most o) (Between least most)
in_between least most None = tt
in_between least most (Some n) = by_test (nat_le least n && nat_le n most) refl
  where
    by_test : (t : Bool) → (nat_le least n && nat_le n most) ≡ t → IfOk (cond t (Ok n) (Err causes.Number)) (Between least most)
    by_test true is = is
    by_test false is = tt

below_zero : (n : ℕ) → Between 1 4095 n → is_refusal (pos 0 -ℤ pos n) ≡ true
below_zero zero is = absurd (false≢true is)
below_zero (suc n) is =
    subst (λ (e : ℤ). is_refusal e ≡ true) (sym (+ℤ_idl (negsuc n))) (lt-ltb n 4095 (omega (arith, leb-true (suc n) 4095 (and_parts (nat_le 1 (suc n)) (nat_le (suc n) 4095) is).1)))

negative_refuses : (r : Result ℕ Cause) → IfOk r (Between 1 4095) → IfOk (negative r) (λ e. is_refusal e ≡ true)
negative_refuses (Ok n) is = below_zero n is
negative_refuses (Err cause) is = tt

error_refuses : (token : List ℕ) → IfOk (error_value token) (λ e. is_refusal e ≡ true)
error_refuses [] = tt
error_refuses (b ∷ bytes) = by_sign (nat_eq b 45)
  where
    by_sign : (t : Bool) → IfOk (cond t (negative (number_value 1 4095 bytes)) (Err causes.Number)) (λ e. is_refusal e ≡ true)
    by_sign true = negative_refuses (number_value 1 4095 bytes) (in_between 1 4095 (decimal_value bytes))
    by_sign false = tt

-- ---- what a word says

alone_fine : (command : Command) (args : List (List ℕ)) → is_in_range command ≡ true → Fine (alone command args)
alone_fine command [] is = is
alone_fine command (token ∷ args) is = tt

one_fine : {A : Type 0} (P : A → Type 0) (read : List ℕ → Result A Cause) (make : A → Command) → ((token : List ℕ) → IfOk (read token) P) → ((v : A) → P v → is_in_range (make v) ≡ true)
    → (args : List (List ℕ)) → Fine (one_value read make args)
one_fine P read make reads fine [] = tt
one_fine P read make reads fine (token ∷ []) = applied P Ranged (Ok (λ v. Do (make v))) (read token) fine (reads token)
one_fine P read make reads fine (token ∷ other ∷ args) = tt

one_any : {A : Type 0} (read : List ℕ → Result A Cause) (make : A → Command) → ((v : A) → is_in_range (make v) ≡ true) → (args : List (List ℕ)) → Fine (one_value read make args)
one_any read make fine [] = tt
one_any read make fine (token ∷ []) = always (λ v. Do (make v)) (read token) fine
one_any read make fine (token ∷ other ∷ args) = tt

two_any : {A B : Type 0} (first : List ℕ → Result A Cause) (second : List ℕ → Result B Cause) (make : A → B → Item) → ((v : A) (u : B) → Ranged (make v u))
    → (args : List (List ℕ)) → Fine (two_values first second make args)
two_any first second make fine [] = tt
two_any first second make fine (token ∷ []) = tt
two_any first second make fine (token ∷ other ∷ []) = always_two make (first token) (second other) fine
two_any first second make fine (token ∷ other ∷ more ∷ args) = tt

params_fine : (args : List (List ℕ)) → Fine (params_item args)
params_fine [] = tt
params_fine (stream ∷ []) = tt
params_fine (stream ∷ rate ∷ []) = tt
params_fine (stream ∷ rate ∷ channels ∷ []) = tt
params_fine (stream ∷ rate ∷ channels ∷ format ∷ []) =
    let make : List ℕ → ℕ → ℕ → Format → Item = λ s r c f. Do (commands.Params s (record { rate = r; channels = c; format = f })) in
    with_any Ranged (Ok make ⊛ name_value stream ⊛ any_number rate ⊛ number_value 0 255 channels) (format_value format)
    (with_any (λ (f : Format → Item). (v : Format) → Ranged (f v)) (Ok make ⊛ name_value stream ⊛ any_number rate) (number_value 0 255 channels)
    (with_any (λ (f : ℕ → Format → Item). (c : ℕ) (v : Format) → Ranged (f c v)) (Ok make ⊛ name_value stream) (any_number rate)
    (with_any (λ (f : ℕ → ℕ → Format → Item). (r : ℕ) (c : ℕ) (v : Format) → Ranged (f r c v)) (Ok make) (name_value stream) (λ s r c f. refl))))
params_fine (stream ∷ rate ∷ channels ∷ format ∷ other ∷ args) = tt

values_fine : (args : List (List ℕ)) → Fine (values_item args)
values_fine [] = tt
values_fine (control ∷ []) = tt
values_fine (control ∷ value ∷ values) =
    let make : List ℕ → List ℕ → Item = λ c vs. Do (commands.Set c vs) in
    fine_if (nat_le (length values) 7) (Ok make ⊛ name_value control ⊛ number_values (value ∷ values)) (Err causes.Count) (always_two make (name_value control) (number_values (value ∷ values)) (λ c vs. refl)) tt

refuse_fine : (args : List (List ℕ)) → Fine (two_values message_number error_value (λ k e. Do (commands.Refuse k e)) args)
refuse_fine [] = tt
refuse_fine (message ∷ []) = tt
refuse_fine (message ∷ error ∷ []) =
    let make : ℕ → ℤ → Item = λ k e. Do (commands.Refuse k e) in
    applied (λ (e : ℤ). is_refusal e ≡ true) Ranged (Ok make ⊛ message_number message) (error_value error)
    (applied (λ (k : ℕ). is_ahead k ≡ true) (λ (f : ℤ → Item). (e : ℤ) → is_refusal e ≡ true → Ranged (f e)) (Ok make) (message_number message)
    (λ k ahead e refusal. and_from (is_ahead k) (is_refusal e) ahead refusal) (in_between 1 100000 (decimal_value message)))
    (error_refuses error)
refuse_fine (message ∷ error ∷ other ∷ args) = tt

lag_fine : (args : List (List ℕ)) → Fine (two_values message_number (number_value 1 16) (λ k n. Do (commands.Lag k n)) args)
lag_fine [] = tt
lag_fine (message ∷ []) = tt
lag_fine (message ∷ ticks ∷ []) =
    let make : ℕ → ℕ → Item = λ k n. Do (commands.Lag k n) in
    applied (λ (n : ℕ). is_lag n ≡ true) Ranged (Ok make ⊛ message_number message) (number_value 1 16 ticks)
    (applied (λ (k : ℕ). is_ahead k ≡ true) (λ (f : ℕ → Item). (n : ℕ) → is_lag n ≡ true → Ranged (f n)) (Ok make) (message_number message)
    (λ k ahead n short. and_from (is_ahead k) (is_lag n) ahead short) (in_between 1 100000 (decimal_value message)))
    (in_between 1 16 (decimal_value ticks))
lag_fine (message ∷ ticks ∷ other ∷ args) = tt

said_fine : (word : List ℕ) (args : List (List ℕ)) → Fine (said_by word args)
said_fine word args =
    fine_if (bytes_eq word (codes "in")) _ _ (two_any name_value file_value (λ e f. Bind true e f) (λ e f. tt) args)
    (fine_if (bytes_eq word (codes "out")) _ _ (two_any name_value file_value (λ e f. Bind false e f) (λ e f. tt) args)
    (fine_if (bytes_eq word (codes "load")) _ _ (alone_fine commands.Load args refl)
    (fine_if (bytes_eq word (codes "unload")) _ _ (alone_fine commands.Unload args refl)
    (fine_if (bytes_eq word (codes "suspend")) _ _ (alone_fine commands.Suspend args refl)
    (fine_if (bytes_eq word (codes "resume")) _ _ (alone_fine commands.Resume args refl)
    (fine_if (bytes_eq word (codes "show")) _ _ (alone_fine commands.Show args refl)
    (fine_if (bytes_eq word (codes "open")) _ _ (one_any name_value commands.Open (λ n. refl) args)
    (fine_if (bytes_eq word (codes "start")) _ _ (one_any name_value commands.Start (λ n. refl) args)
    (fine_if (bytes_eq word (codes "stop")) _ _ (one_any name_value commands.Stop (λ n. refl) args)
    (fine_if (bytes_eq word (codes "pause")) _ _ (one_any name_value commands.Pause (λ n. refl) args)
    (fine_if (bytes_eq word (codes "release")) _ _ (one_any name_value commands.Release (λ n. refl) args)
    (fine_if (bytes_eq word (codes "close")) _ _ (one_any name_value commands.Close (λ n. refl) args)
    (fine_if (bytes_eq word (codes "get")) _ _ (one_any name_value commands.Get (λ n. refl) args)
    (fine_if (bytes_eq word (codes "read")) _ _ (one_any name_value commands.Read (λ n. refl) args)
    (fine_if (bytes_eq word (codes "params")) _ _ (params_fine args)
    (fine_if (bytes_eq word (codes "set")) _ _ (values_fine args)
    (fine_if (bytes_eq word (codes "bytes")) _ _ (two_any name_value hex_value (λ c bytes. Do (commands.Bytes c bytes)) (λ c bytes. refl) args)
    (fine_if (bytes_eq word (codes "tick")) _ _ (one_any (number_value 1 60000) commands.Tick (λ n. refl) args)
    (fine_if (bytes_eq word (codes "refuse")) _ _ (refuse_fine args)
    (fine_if (bytes_eq word (codes "drop")) _ _ (one_fine (Between 1 100000) (number_value 1 100000) commands.Drop (λ token. in_between 1 100000 (decimal_value token)) (λ n is. is) args)
    (fine_if (bytes_eq word (codes "lose")) _ _ (one_fine (Between 1 100000) (number_value 1 100000) commands.Lose (λ token. in_between 1 100000 (decimal_value token)) (λ n is. is) args)
    (fine_if (bytes_eq word (codes "lag")) _ _ (lag_fine args)
    tt))))))))))))))))))))))

item_fine : (tokens : Option (List (List ℕ))) → Fine (item_of tokens)
item_fine None = tt
item_fine (Some []) = tt
item_fine (Some (word ∷ args)) = said_fine word args

line_fine : (line : List ℕ) → Fine (line_item line)
line_fine line =
    fine_if (is_skipped line) (Ok Nothing) (cond (all_plain line) (item_of (tokens_of line)) (Err causes.Byte)) tt
    (fine_if (all_plain line) (item_of (tokens_of line)) (Err causes.Byte) (item_fine (tokens_of line)) tt)

-- ---- all lines

-- commands whose numbers are in their ranges, at most so many
record Sound (most : ℕ) (read : Read) : Type 0 where
  ranges : list_all (λ n. is_in_range n.command) read.commands ≡ true
  few : length read.commands ≤ most

abbrev AllSound : ℕ → Result Read ScriptFault → Type 0
AllSound most r = IfOk r (Sound most)

more_sound : (line most : ℕ) (item : Result Item Cause) (rest : Result Read ScriptFault) → Fine item → AllSound most rest → AllSound (suc most) (with_item line item rest)
more_sound line most (Err cause) rest fine sound = tt
more_sound line most (Ok item) (Err fault) fine sound = tt
more_sound line most (Ok Nothing) (Ok read) fine sound = record { ranges = sound.ranges; few = omega (arith, sound.few) }
more_sound line most (Ok (Bind input endpoint file)) (Ok read) fine sound = record { ranges = sound.ranges; few = omega (arith, sound.few) }
more_sound line most (Ok (Do command)) (Ok read) fine sound =
    record { ranges = and_from (is_in_range command) (list_all (λ n. is_in_range n.command) read.commands) fine sound.ranges; few = omega (arith, sound.few) }

lines_sound : (number : ℕ) (lines : List (List ℕ)) → AllSound (length lines) (lines_read number lines)
unfolding lines_read
lines_sound number [] = record { ranges = refl; few = omega arith }
lines_sound number (line ∷ lines) = more_sound number (length lines) (line_item (without_return line)) (lines_read (number + 1) lines) (line_fine (without_return line)) (lines_sound (number + 1) lines)

-- each line has a byte
one_more : (b : ℕ) (lines : List (List ℕ)) → length (onto_first b lines) ≤ suc (length lines)
one_more b [] = omega arith
one_more b (line ∷ lines) = omega arith

byte_more : (b : ℕ) (lines : List (List ℕ)) → length (with_byte b lines) ≤ suc (length lines)
byte_more b lines = by_test (nat_eq b 10)
  where
    by_test : (t : Bool) → length (cond t ([] ∷ lines) (onto_first b lines)) ≤ suc (length lines)
    by_test true = omega arith
    by_test false = one_more b lines

few_lines : (bytes : List ℕ) → length (lines_of bytes) ≤ length bytes
unfolding lines_of
few_lines [] = omega arith
few_lines (b ∷ bytes) = omega (arith, byte_more b (lines_of bytes), few_lines bytes)

-- a script that was read
pub script_sound : (bytes : List ℕ) (read : Read) → length bytes < 2 ^ 32 → script_of bytes ≡ Ok read → IsInRange read
script_sound bytes read small is =
    let sound : Sound (length (lines_of bytes)) read = subst (λ (r : Result Read ScriptFault). AllSound (length (lines_of bytes)) r) is (lines_sound 1 (lines_of bytes)) in
    record { ranges = sound.ranges; few = omega (arith, sound.few, few_lines bytes, small) }
