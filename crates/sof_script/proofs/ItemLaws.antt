-- Lines by their number of tokens, and the least cause.
use Rattle.std.proofs.Common.{◌≡◌, ◌≢◌, inl, inr, ℕ, suc, ◌+◌, ◌<◌, ◌≤◌, Bool, true, false, cond, nat_eq, nat_le, nat_lt, List, [], ◌∷◌, ◌++◌, length, drop, get_or, codes, ◌&&◌, Option, Some, None, Result, Ok, Err, refl, sym, ap, ◌∙◌, arith, append_assoc, append-nil}
use Rattle.std.specs.Borrow.{Bor}
use Rattle.std.proofs.lemmas.Bool.{cases_Bool, leb-true}
use Rattle.std.proofs.lemmas.Grind.{common_steps}
use Rattle.sof_base.specs.declared.format.Format.{Format}
use Rattle.sof_base.specs.declared.format.Format.TheVariants.{S16, S24, S32}
use Rattle.sof_base.specs.Slots.{is_name}
use Rattle.std.specs.Str.{bytes_eq}
use Rattle.sof_script.specs.declared.script.Command.{Command}
use Rattle.sof_script.specs.declared.script.Command.TheVariants.{Params, Set, Refuse, Lag}
use Rattle.sof_script.specs.declared.fault_causes.Cause.{Cause}
use Rattle.sof_script.specs.declared.fault_causes.Cause.TheVariants as causes
use Rattle.sof_script.specs.declared.items.Item.{Item}
use Rattle.sof_script.specs.declared.items.Item.TheVariants.{Bind, Do}
use Rattle.std.proofs.lemmas.List.{drop_more, drop_all, length-append}
use Rattle.sof_script.specs.Splitting.{all_plain}
use Rattle.sof_script.specs.TokenStarts.{texts}
use Rattle.sof_script.specs.Causes.{cause_number}
use Rattle.sof_script.specs.ValueForms.{decimal_value, in_range, negative, number_value, error_value, format_value, name_value, file_value}
use Rattle.sof_script.specs.Commands.{alone, params_item, values_item, number_values, any_number, ◌⊛◌}
use Rattle.sof_script.specs.ArgumentForms.{one_name, one_number, bound, hex_item, error_item, lag_item}

-- ---- a wrong count

pub not_alone : (command : Command) (xs : List (Bor (List ℕ))) → length xs ≢ 0 → Err causes.Count ≡ alone command (texts xs)
not_alone command [] some = absurd (some refl)
not_alone command (x ∷ xs) some = refl

pub not_one_name : (xs : List (Bor (List ℕ))) → length xs ≢ 1 → one_name (texts xs) ≡ Err causes.Count
not_one_name [] other = refl
not_one_name (x ∷ []) other = absurd (other refl)
not_one_name (x ∷ y ∷ xs) other = refl

pub not_one_number : (most : ℕ) (xs : List (Bor (List ℕ))) → length xs ≢ 1 → one_number most (texts xs) ≡ Err causes.Count
not_one_number most [] other = refl
not_one_number most (x ∷ []) other = absurd (other refl)
not_one_number most (x ∷ y ∷ xs) other = refl

pub not_bound : (input : Bool) (xs : List (Bor (List ℕ))) → length xs ≢ 2 → bound input (texts xs) ≡ Err causes.Count
not_bound input [] other = refl
not_bound input (x ∷ []) other = refl
not_bound input (x ∷ y ∷ []) other = absurd (other refl)
not_bound input (x ∷ y ∷ z ∷ xs) other = refl

pub not_hex : (xs : List (Bor (List ℕ))) → length xs ≢ 2 → hex_item (texts xs) ≡ Err causes.Count
not_hex [] other = refl
not_hex (x ∷ []) other = refl
not_hex (x ∷ y ∷ []) other = absurd (other refl)
not_hex (x ∷ y ∷ z ∷ xs) other = refl

pub not_error : (xs : List (Bor (List ℕ))) → length xs ≢ 2 → error_item (texts xs) ≡ Err causes.Count
not_error [] other = refl
not_error (x ∷ []) other = refl
not_error (x ∷ y ∷ []) other = absurd (other refl)
not_error (x ∷ y ∷ z ∷ xs) other = refl

pub not_lag : (xs : List (Bor (List ℕ))) → length xs ≢ 2 → lag_item (texts xs) ≡ Err causes.Count
not_lag [] other = refl
not_lag (x ∷ []) other = refl
not_lag (x ∷ y ∷ []) other = absurd (other refl)
not_lag (x ∷ y ∷ z ∷ xs) other = refl

pub not_params : (xs : List (Bor (List ℕ))) → length xs ≢ 4 → params_item (texts xs) ≡ Err causes.Count
not_params [] other = refl
not_params (x ∷ []) other = refl
not_params (x ∷ y ∷ []) other = refl
not_params (x ∷ y ∷ z ∷ []) other = refl
not_params (x ∷ y ∷ z ∷ u ∷ []) other = absurd (other refl)
not_params (x ∷ y ∷ z ∷ u ∷ v ∷ xs) other = refl

-- ---- the least cause

-- only this cause
abbrev pub Only : {A : Type 0} → Cause → Result A Cause → Type 0
Only cause (Ok a) = Unit {0}
Only cause (Err other) = other ≡ cause

pub only_is : {A : Type 0} (cause e : Cause) (r : Result A Cause) → Only cause r → r ≡ Err e → e ≡ cause
only_is cause e (Ok a) only is = absurd (cc is)
only_is cause e (Err other) only is = let same : other ≡ e = cc is in sym same ∙ only

range_only : (least most : ℕ) (o : Option ℕ) → Only causes.Number (in_range least most o)
range_only least most None = refl
range_only least most (Some n) = elim (nat_le least n && nat_le n most) as (λ t. Only causes.Number (cond t (Ok n) (Err causes.Number))) [ true ↦ tt | false ↦ refl ]

pub number_only : (least most : ℕ) (token : List ℕ) → Only causes.Number (number_value least most token)
number_only least most token = range_only least most (decimal_value token)

negative_only : (r : Result ℕ Cause) → Only causes.Number r → Only causes.Number (negative r)
negative_only (Ok n) only = tt
negative_only (Err e) only = only

pub error_only : (token : List ℕ) → Only causes.Number (error_value token)
error_only [] = refl
error_only (b ∷ bytes) = elim (nat_eq b 45) as (λ t. Only causes.Number (cond t (negative (number_value 1 4095 bytes)) (Err causes.Number))) [ true ↦ negative_only (number_value 1 4095 bytes) (number_only 1 4095 bytes) | false ↦ refl ]

cond_only : {A : Type 0} (cause : Cause) (t : Bool) (r s : Result A Cause) → Only cause r → Only cause s → Only cause (cond t r s)
cond_only cause true r s first second = first
cond_only cause false r s first second = second

pub format_only : (token : List ℕ) → Only causes.Number (format_value token)
format_only token =
    cond_only causes.Number (bytes_eq token (codes "s16")) (Ok S16) (cond (bytes_eq token (codes "s24")) (Ok S24) (cond (bytes_eq token (codes "s32")) (Ok S32) (Err causes.Number))) tt
    (cond_only causes.Number (bytes_eq token (codes "s24")) (Ok S24) (cond (bytes_eq token (codes "s32")) (Ok S32) (Err causes.Number)) tt (cond_only causes.Number (bytes_eq token (codes "s32")) (Ok S32) (Err causes.Number) tt refl))

pub name_only : (token : List ℕ) → Only causes.Name (name_value token)
name_only token = cond_only causes.Name (nat_lt 0 (length token) && is_name token) (Ok token) (Err causes.Name) tt refl

pub file_only : (token : List ℕ) → Only causes.Name (file_value token)
file_only token = cond_only causes.Name (nat_lt 0 (length token) && nat_lt (length token) 256 && all_plain token) (Ok token) (Err causes.Name) tt refl

pub numbers_only : (tokens : List (List ℕ)) → Only causes.Number (number_values tokens)
numbers_only [] = tt
numbers_only (token ∷ tokens) = both_only (λ n ns. n ∷ ns) (any_number token) (number_values tokens) (number_only 0 4294967295 token) (numbers_only tokens)
  where
    both_only : (f : ℕ → List ℕ → List ℕ) (r : Result ℕ Cause) (s : Result (List ℕ) Cause) → Only causes.Number r → Only causes.Number s → Only causes.Number (Ok f ⊛ r ⊛ s)
    both_only f (Ok n) (Ok ns) first second = tt
    both_only f (Ok n) (Err e) first second = second
    both_only f (Err e) (Ok ns) first second = first
    both_only f (Err e) (Err d) first second = elim (nat_le (cause_number e) (cause_number d)) as (λ t. cond t e d ≡ causes.Number) [ true ↦ first | false ↦ second ]

-- a number names one cause
abbrev cause_at : ℕ → Cause
cause_at n = get_or (causes.Byte ∷ causes.Byte ∷ causes.Quote ∷ causes.Word ∷ causes.Count ∷ causes.Number ∷ causes.Hex ∷ causes.Name ∷ []) n causes.Byte

cause_back : (cause : Cause) → cause_at (cause_number cause) ≡ cause
cause_back causes.Byte = refl
cause_back cause = refl

same_cause : (first second : Cause) → cause_number first ≡ cause_number second → first ≡ second
same_cause first second is = sym (cause_back first) ∙ ap cause_at is ∙ cause_back second

-- no cause of a lesser number
abbrev pub From : {A : Type 0} → ℕ → Result A Cause → Type 0
From least (Ok a) = Unit {0}
From least (Err other) = least ≤ cause_number other

pub from_only : {A : Type 0} (e same other : Cause) (r : Result A Cause) → Only other r → e ≡ same → cause_number same ≤ cause_number other → From (cause_number e) r
from_only e same other (Ok a) only is le = tt
from_only e same other (Err found) only is le = rw (only, is) le

pub least_first : {A B : Type 0} (cause : Cause) (f : Result (A → B) Cause) (r : Result A Cause) → f ≡ Err cause → From (cause_number cause) r → f ⊛ r ≡ Err cause
least_first cause f (Ok a) is from = rw is refl
least_first cause f (Err e) is from =
    let le : nat_le (cause_number cause) (cause_number e) ≡ true = grind (arith, common_steps, from) in
    rw (is, le) refl

pub least_second : {A B : Type 0} (cause : Cause) (f : Result (A → B) Cause) (r : Result A Cause) → From (cause_number cause) f → r ≡ Err cause → f ⊛ r ≡ Err cause
least_second cause (Ok f) r from is = rw is refl
least_second cause (Err e) r from is = rw is (ap Err (elim (cases_Bool (nat_le (cause_number e) (cause_number cause))) [
  | inl le ↦ rw le (same_cause e cause (omega (arith, leb-true (cause_number e) (cause_number cause) le, from)))
  | inr more ↦ rw more refl
]))

pub from_both : {A B : Type 0} (least : ℕ) (f : Result (A → B) Cause) (r : Result A Cause) → From least f → From least r → From least (f ⊛ r)
from_both least (Ok f) (Ok a) first second = tt
from_both least (Ok f) (Err e) first second = second
from_both least (Err e) (Ok a) first second = first
from_both least (Err e) (Err d) first second = elim (nat_le (cause_number e) (cause_number d)) as (λ t. least ≤ cause_number (cond t e d)) [ true ↦ first | false ↦ second ]

-- ---- each argument at fault

pub bound_endpoint : (input : Bool) (xs : List (Bor (List ℕ))) (d : Bor (List ℕ)) (e : Cause) → length xs ≡ 2 → name_value (get_or xs 0 d).now ≡ Err e → bound input (texts xs) ≡ Err e
bound_endpoint input [] d e two is = absurd (omega (arith, two))
bound_endpoint input (x ∷ []) d e two is = absurd (omega (arith, two))
bound_endpoint input (x ∷ y ∷ []) d e two is =
    let name : e ≡ causes.Name = only_is causes.Name e (name_value x.now) (name_only x.now) is in
    least_first e (Ok (λ e f. Bind input e f) ⊛ name_value x.now) (file_value y.now) (rw is refl) (from_only e causes.Name causes.Name (file_value y.now) (file_only y.now) name (omega arith))
bound_endpoint input (x ∷ y ∷ z ∷ xs) d e two is = absurd (omega (arith, two))

pub error_message : (xs : List (Bor (List ℕ))) (d : Bor (List ℕ)) (e : Cause) → length xs ≡ 2 → number_value 1 100000 (get_or xs 0 d).now ≡ Err e → error_item (texts xs) ≡ Err e
error_message [] d e two is = absurd (omega (arith, two))
error_message (x ∷ []) d e two is = absurd (omega (arith, two))
error_message (x ∷ y ∷ []) d e two is =
    let number : e ≡ causes.Number = only_is causes.Number e (number_value 1 100000 x.now) (number_only 1 100000 x.now) is in
    least_first e (Ok (λ k e. Do (Refuse k e)) ⊛ number_value 1 100000 x.now) (error_value y.now) (rw is refl) (from_only e causes.Number causes.Number (error_value y.now) (error_only y.now) number (omega arith))
error_message (x ∷ y ∷ z ∷ xs) d e two is = absurd (omega (arith, two))

pub lag_message : (xs : List (Bor (List ℕ))) (d : Bor (List ℕ)) (e : Cause) → length xs ≡ 2 → number_value 1 100000 (get_or xs 0 d).now ≡ Err e → lag_item (texts xs) ≡ Err e
lag_message [] d e two is = absurd (omega (arith, two))
lag_message (x ∷ []) d e two is = absurd (omega (arith, two))
lag_message (x ∷ y ∷ []) d e two is =
    let number : e ≡ causes.Number = only_is causes.Number e (number_value 1 100000 x.now) (number_only 1 100000 x.now) is in
    least_first e (Ok (λ k n. Do (Lag k n)) ⊛ number_value 1 100000 x.now) (number_value 1 16 y.now) (rw is refl) (from_only e causes.Number causes.Number (number_value 1 16 y.now) (number_only 1 16 y.now) number (omega arith))
lag_message (x ∷ y ∷ z ∷ xs) d e two is = absurd (omega (arith, two))

-- a stream with parameters
abbrev pub make_params : List ℕ → ℕ → ℕ → Format → Item
make_params s r c f = Do (Params s (record { rate = r; channels = c; format = f }))

params_rate_of : (s r c f : List ℕ) (e : Cause) → any_number r ≡ Err e → (Ok make_params ⊛ name_value s ⊛ any_number r ⊛ number_value 0 255 c ⊛ format_value f) ≡ Err e
params_rate_of s r c f e is =
    let number : e ≡ causes.Number = only_is causes.Number e (any_number r) (number_only 0 4294967295 r) is in
    let first : (Ok make_params ⊛ name_value s ⊛ any_number r) ≡ Err e = least_second e (Ok make_params ⊛ name_value s) (any_number r) (from_both (cause_number e) (Ok make_params) (name_value s) tt (from_only e causes.Number causes.Name (name_value s) (name_only s) number (omega arith))) is in
    least_first e (Ok make_params ⊛ name_value s ⊛ any_number r ⊛ number_value 0 255 c) (format_value f)
    (least_first e (Ok make_params ⊛ name_value s ⊛ any_number r) (number_value 0 255 c) first (from_only e causes.Number causes.Number (number_value 0 255 c) (number_only 0 255 c) number (omega arith)))
    (from_only e causes.Number causes.Number (format_value f) (format_only f) number (omega arith))

params_channels_of : (s r c f : List ℕ) (e : Cause) → number_value 0 255 c ≡ Err e → (Ok make_params ⊛ name_value s ⊛ any_number r ⊛ number_value 0 255 c ⊛ format_value f) ≡ Err e
params_channels_of s r c f e is =
    let number : e ≡ causes.Number = only_is causes.Number e (number_value 0 255 c) (number_only 0 255 c) is in
    let named = from_both (cause_number e) (Ok make_params) (name_value s) tt (from_only e causes.Number causes.Name (name_value s) (name_only s) number (omega arith)) in
    let rated = from_both (cause_number e) (Ok make_params ⊛ name_value s) (any_number r) named (from_only e causes.Number causes.Number (any_number r) (number_only 0 4294967295 r) number (omega arith)) in
    least_first e (Ok make_params ⊛ name_value s ⊛ any_number r ⊛ number_value 0 255 c) (format_value f)
    (least_second e (Ok make_params ⊛ name_value s ⊛ any_number r) (number_value 0 255 c) rated is)
    (from_only e causes.Number causes.Number (format_value f) (format_only f) number (omega arith))

pub params_rate : (xs : List (Bor (List ℕ))) (d : Bor (List ℕ)) (e : Cause) → length xs ≡ 4 → any_number (get_or xs 1 d).now ≡ Err e → params_item (texts xs) ≡ Err e
params_rate [] d e four is = absurd (omega (arith, four))
params_rate (x ∷ []) d e four is = absurd (omega (arith, four))
params_rate (x ∷ y ∷ []) d e four is = absurd (omega (arith, four))
params_rate (x ∷ y ∷ z ∷ []) d e four is = absurd (omega (arith, four))
params_rate (x ∷ y ∷ z ∷ u ∷ []) d e four is = params_rate_of x.now y.now z.now u.now e is
params_rate (x ∷ y ∷ z ∷ u ∷ v ∷ xs) d e four is = absurd (omega (arith, four))

pub params_channels : (xs : List (Bor (List ℕ))) (d : Bor (List ℕ)) (e : Cause) → length xs ≡ 4 → number_value 0 255 (get_or xs 2 d).now ≡ Err e → params_item (texts xs) ≡ Err e
params_channels [] d e four is = absurd (omega (arith, four))
params_channels (x ∷ []) d e four is = absurd (omega (arith, four))
params_channels (x ∷ y ∷ []) d e four is = absurd (omega (arith, four))
params_channels (x ∷ y ∷ z ∷ []) d e four is = absurd (omega (arith, four))
params_channels (x ∷ y ∷ z ∷ u ∷ []) d e four is = params_channels_of x.now y.now z.now u.now e is
params_channels (x ∷ y ∷ z ∷ u ∷ v ∷ xs) d e four is = absurd (omega (arith, four))

-- ---- numbers, one after the other

-- numbers in front of others
abbrev pub in_front : List ℕ → Result (List ℕ) Cause → Result (List ℕ) Cause
in_front front (Ok ns) = Ok (front ++ ns)
in_front front (Err e) = Err e

in_front_none : (r : Result (List ℕ) Cause) → r ≡ in_front [] r
in_front_none (Ok ns) = refl
in_front_none (Err e) = refl

in_front_one : (front : List ℕ) (n : ℕ) (r : Result (List ℕ) Cause) → in_front front (Ok (λ n ns. n ∷ ns) ⊛ Ok n ⊛ r) ≡ in_front (front ++ n ∷ []) r
in_front_one front n (Ok ns) = ap (λ (l : List ℕ). Ok l) (sym (append_assoc front (n ∷ []) ns))
in_front_one front n (Err e) = refl

-- the numbers of the tokens before a place
pub record Counted (tokens : List (Bor (List ℕ))) (at : ℕ) (front : List ℕ) : Type 0 where
  pub whole : number_values (texts tokens) ≡ in_front front (number_values (texts (drop at tokens)))
  pub many : length front ≡ at

pub Counted-none : (tokens : List (Bor (List ℕ))) → Counted tokens 0 []
Counted-none tokens = record { whole = in_front_none (number_values (texts tokens)); many = refl }

pub Counted-more : (tokens : List (Bor (List ℕ))) (at : ℕ) (front : List ℕ) (d : Bor (List ℕ)) (n : ℕ) → Counted tokens at front → at < length tokens → any_number (get_or tokens at d).now ≡ Ok n → Counted tokens (at + 1) (front ++ n ∷ [])
Counted-more tokens at front d n c more is =
    let rest = number_values (texts (drop (at + 1) tokens)) in
    let here : number_values (texts (drop at tokens)) ≡ (Ok (λ n ns. n ∷ ns) ⊛ any_number (get_or tokens at d).now ⊛ rest) = ap (λ (l : List (Bor (List ℕ))). number_values (texts l)) (drop_more tokens at d more) in
    record {
      whole = c.whole ∙ ap (in_front front) (here ∙ ap (λ (r : Result ℕ Cause). Ok (λ n ns. n ∷ ns) ⊛ r ⊛ rest) is) ∙ in_front_one front n rest;
      many = omega (arith, c.many, length-append front (n ∷ []));
    }

pub Counted-fault : (tokens : List (Bor (List ℕ))) (at : ℕ) (front : List ℕ) (d : Bor (List ℕ)) (e : Cause) → Counted tokens at front → at < length tokens → any_number (get_or tokens at d).now ≡ Err e → number_values (texts tokens) ≡ Err e
Counted-fault tokens at front d e c more is =
    let token = (get_or tokens at d).now in
    let rest = number_values (texts (drop (at + 1) tokens)) in
    let number : e ≡ causes.Number = only_is causes.Number e (any_number token) (number_only 0 4294967295 token) is in
    let here : number_values (texts (drop at tokens)) ≡ (Ok (λ n ns. n ∷ ns) ⊛ any_number token ⊛ rest) = ap (λ (l : List (Bor (List ℕ))). number_values (texts l)) (drop_more tokens at d more) in
    let fault : (Ok (λ n ns. n ∷ ns) ⊛ any_number token ⊛ rest) ≡ Err e =
    least_first e (Ok (λ n ns. n ∷ ns) ⊛ any_number token) rest (rw is refl) (from_only e causes.Number causes.Number rest (numbers_only (texts (drop (at + 1) tokens))) number (omega arith)) in
    c.whole ∙ ap (in_front front) (here ∙ fault)

pub Counted-all : (tokens : List (Bor (List ℕ))) (at : ℕ) (front : List ℕ) → Counted tokens at front → length tokens ≤ at → number_values (texts tokens) ≡ Ok front
Counted-all tokens at front c past =
    c.whole ∙ ap (λ (l : List (Bor (List ℕ))). in_front front (number_values (texts l))) (drop_all at tokens past) ∙ ap (λ (l : List ℕ). Ok l) (append-nil front)

pub values_few : (xs : List (Bor (List ℕ))) → length xs < 2 → values_item (texts xs) ≡ Err causes.Count
values_few [] few = refl
values_few (x ∷ []) few = refl
values_few (x ∷ y ∷ xs) few = absurd (omega (arith, few))

length-texts : (xs : List (Bor (List ℕ))) → length (texts xs) ≡ length xs
length-texts [] = refl
length-texts (x ∷ xs) = ap suc (length-texts xs)

pub values_many : (xs : List (Bor (List ℕ))) → 9 < length xs → values_item (texts xs) ≡ Err causes.Count
values_many [] many = absurd (omega (arith, many))
values_many (x ∷ []) many = absurd (omega (arith, many))
values_many (x ∷ y ∷ xs) many =
    let large : nat_le (length (texts xs)) 7 ≡ false = grind (arith, common_steps, length-texts xs) in
    rw large refl

pub values_are : (xs : List (Bor (List ℕ))) (d : Bor (List ℕ)) → 2 ≤ length xs → length xs ≤ 9 → values_item (texts xs) ≡ (Ok (λ c vs. Do (Set c vs)) ⊛ name_value (get_or xs 0 d).now ⊛ number_values (texts (drop 1 xs)))
values_are [] d some few = absurd (omega (arith, some))
values_are (x ∷ []) d some few = absurd (omega (arith, some))
values_are (x ∷ y ∷ xs) d some few =
    let small : nat_le (length (texts xs)) 7 ≡ true = grind (arith, common_steps, length-texts xs) in
    rw small refl

pub values_number : (name : Result (List ℕ) Cause) (ns : List (List ℕ)) (e : Cause) → Only causes.Name name → number_values ns ≡ Err e → (Ok (λ c vs. Do (Set c vs)) ⊛ name ⊛ number_values ns) ≡ Err e
values_number name ns e only is =
    let number : e ≡ causes.Number = only_is causes.Number e (number_values ns) (numbers_only ns) is in
    least_second e (Ok (λ c vs. Do (Set c vs)) ⊛ name) (number_values ns) (from_both (cause_number e) (Ok (λ c vs. Do (Set c vs))) name tt (from_only e causes.Number causes.Name name only number (omega arith))) is

pub values_name : (name values : Result (List ℕ) Cause) (ns : List ℕ) (e : Cause) → name ≡ Err e → values ≡ Ok ns → (Ok (λ c vs. Do (Set c vs)) ⊛ name ⊛ values) ≡ Err e
values_name name values ns e is good = rw (is, good) refl

pub values_good : (name values : Result (List ℕ) Cause) (n ns : List ℕ) → name ≡ Ok n → values ≡ Ok ns → (Ok (λ c vs. Do (Set c vs)) ⊛ name ⊛ values) ≡ Ok (Do (Set n ns))
values_good name values n ns is good = rw (is, good) refl

pub values_fault : (xs : List (Bor (List ℕ))) (e : Cause) → 2 ≤ length xs → length xs ≤ 9 → number_values (texts (drop 1 xs)) ≡ Err e → values_item (texts xs) ≡ Err e
values_fault [] e some few is = absurd (omega (arith, some))
values_fault (x ∷ xs) e some few is = values_are (x ∷ xs) x some few ∙ values_number (name_value x.now) (texts xs) e (name_only x.now) is
