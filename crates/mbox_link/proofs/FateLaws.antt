-- Entries one after another, as loops go over them.
use Rattle.std.proofs.Common.{◌≡◌, inl, inr, ℕ, ◌+◌, ◌<◌, ◌≤◌, Bool, ◌&&◌, true, false, List, [], ◌∷◌, ◌++◌, length, drop, get_or, eqb, eq-eqb, ltb, leb, refl, sym, ap, subst, ◌∙◌, arith, append_assoc, append-nil, length-append, Fits}
use Rattle.std.specs.Int.{w32}
use Rattle.std.proofs.lemmas.Bool.{ne_eqb, cases_Bool, and_left, and_right, lt-ltb, le-ltb, lt-leb, le-leb, eqb-true, eqb-false}
use Rattle.std.proofs.lemmas.List.{drop_more, drop_all}
use Rattle.std.proofs.lemmas.List.Sums.{sum_by-cons, sum_by_push}
use Rattle.mbox_link.specs.declared.fates.Entry.{Entry}
use Rattle.mbox_link.specs.Meetings.{planned, without_entry, is_planned, has_room, has_lag_room, lags}
use Rattle.mbox_link.specs.Fates.{IsMeant, AllMeant, AreEntriesApart, AreHeld}

-- ---- the entries of other messages

-- the entries kept so far, and those that are still to be looked at
pub record Kept (number : ℕ) (left rest all : List Entry) : Type 0 where
  pub whole : left ++ without_entry number rest ≡ without_entry number all
  pub few : length left + length rest ≤ length all

pub Kept-none : (number : ℕ) (all : List Entry) → Kept number [] all all
Kept-none number all = record { whole = refl; few = omega arith }

pub Kept-pass : (number : ℕ) (left rest all : List Entry) (entry : Entry) → eqb entry.number number ≡ true → Kept number left (entry ∷ rest) all → Kept number left rest all
Kept-pass number left rest all entry same kept =
    record {
      whole = (rw (← kept.whole, same) refl);
      few = omega (arith, kept.few);
    }

pub Kept-push : (number : ℕ) (left rest all : List Entry) (entry : Entry) → eqb entry.number number ≡ false → Kept number left (entry ∷ rest) all → Kept number (left ++ entry ∷ []) rest all
Kept-push number left rest all entry other kept =
    record {
      whole = append_assoc left (entry ∷ []) (without_entry number rest) ∙ (rw (← kept.whole, other) refl);
      few = omega (arith, kept.few, length-append left (entry ∷ []));
    }

pub Kept-all : (number : ℕ) (left all : List Entry) → Kept number left [] all → left ≡ without_entry number all
Kept-all number left all kept = sym (append-nil left) ∙ kept.whole

-- the same, where the rest is what a loop has left
pub Kept-pass-at : (number : ℕ) (left all : List Entry) (i : ℕ) (d : Entry) → i < length all → (get_or all i d).number ≡ number → Kept number left (drop i all) all → Kept number left (drop (i + 1) all) all
Kept-pass-at number left all i d lt same kept =
    Kept-pass number left (drop (i + 1) all) all (get_or all i d) (eq-eqb _ _ same) (rw (drop_more all i d lt) at kept)

pub Kept-push-at : (number : ℕ) (left all : List Entry) (i : ℕ) (d : Entry) → i < length all → ((get_or all i d).number ≡ number → ⊥) → Kept number left (drop i all) all → Kept number (left ++ get_or all i d ∷ []) (drop (i + 1) all) all
Kept-push-at number left all i d lt other kept =
    Kept-push number left (drop (i + 1) all) all (get_or all i d) (ne_eqb _ _ other) (rw (drop_more all i d lt) at kept)

pub Kept-end : (number : ℕ) (left all : List Entry) (i : ℕ) → length all ≤ i → Kept number left (drop i all) all → left ≡ without_entry number all
Kept-end number left all i past kept = Kept-all number left all (rw (drop_all i all past) at kept)

-- ---- room for one more

-- fewer are left where one was held, and all where none was
pub without-shorter : (number : ℕ) (entries : List Entry) → length (without_entry number entries) ≤ length entries
without-shorter number [] = omega arith
without-shorter number (entry ∷ entries) = elim (cases_Bool (eqb entry.number number)) [
  | inl same ↦ rw same (omega (arith, without-shorter number entries))
  | inr other ↦ rw other (omega (arith, without-shorter number entries))
]

pub without-planned : (number : ℕ) (entries : List Entry) → is_planned number entries ≡ true → length (without_entry number entries) < length entries
without-planned number [] held = absurd (cc held)
without-planned number (entry ∷ entries) held = elim (cases_Bool (eqb entry.number number)) [
  | inl same ↦ rw same (omega (arith, without-shorter number entries))
  | inr other ↦ rw other (omega (arith, without-planned number entries (rw other at held)))
]

pub without-unplanned : (number : ℕ) (entries : List Entry) → is_planned number entries ≡ false → without_entry number entries ≡ entries
without-unplanned number [] none = refl
without-unplanned number (entry ∷ entries) none = elim (cases_Bool (eqb entry.number number)) [
  | inl same ↦ absurd (cc (rw same at none))
  | inr other ↦ rw other (ap (λ (es : List Entry). entry ∷ es) (without-unplanned number entries (rw other at none)))
]

-- there is room exactly where fewer than 64 of other messages are held
pub room-is : (number : ℕ) (entries : List Entry) → length entries ≤ 64 → has_room number entries ≡ ltb (length (without_entry number entries)) 64
room-is number entries few = elim (cases_Bool (is_planned number entries)) [
  | inl held ↦ rw held (sym (lt-ltb (length (without_entry number entries)) 64 (omega (arith, few, without-planned number entries held))))
  | inr none ↦ rw (none, without-unplanned number entries none) refl
]

-- the same of what a call has left
pub full-at : (number : ℕ) (entries held left : List Entry) → held ≡ entries → length held ≤ 64 → left ≡ without_entry number held → true ≡ eqb (length left) 64 → false ≡ has_room number entries
full-at number entries held left same few is full =
    rw (← same, room-is number held few, ← is) (sym (le-ltb (length left) 64 (omega (arith, eqb-true (length left) 64 (sym full)))))

pub room-at : (number : ℕ) (entries held left : List Entry) → held ≡ entries → length held ≤ 64 → left ≡ without_entry number held → length left ≤ 64 → false ≡ eqb (length left) 64 → true ≡ has_room number entries
room-at number entries held left same few is fits less =
    rw (← same, room-is number held few, ← is) (sym (lt-ltb (length left) 64 (omega (arith, fits, eqb-false (length left) 64 (sym less)))))

-- ---- fates

pub AllMeant-push : (entries : List Entry) (entry : Entry) → AllMeant entries → IsMeant entry.fate → AllMeant (entries ++ entry ∷ [])
AllMeant-push [] entry all meant = (meant, tt)
AllMeant-push (first ∷ entries) entry all meant = (all.0, AllMeant-push entries entry all.1 meant)

pub AllMeant-without : (number : ℕ) (entries : List Entry) → AllMeant entries → AllMeant (without_entry number entries)
AllMeant-without number [] all = tt
AllMeant-without number (entry ∷ entries) all = elim (cases_Bool (eqb entry.number number)) [
  | inl same ↦ rw same (AllMeant-without number entries all.1)
  | inr other ↦ rw other (all.0, AllMeant-without number entries all.1)
]

pub planned-meant : (number : ℕ) (entries : List Entry) → AllMeant entries → IsMeant (planned entries number).fate
planned-meant number [] all = tt
planned-meant number (entry ∷ entries) all = elim (cases_Bool (eqb entry.number number)) [
  | inl same ↦ rw same all.0
  | inr other ↦ rw other (planned-meant number entries all.1)
]

-- ---- one entry for each message

-- a message without an entry has none among fewer, nor where another message gets one
pub unplanned-without : (n number : ℕ) (entries : List Entry) → is_planned n entries ≡ false → is_planned n (without_entry number entries) ≡ false
unplanned-without n number [] none = refl
unplanned-without n number (entry ∷ entries) none = elim (cases_Bool (eqb entry.number n)) [
  | inl held ↦ absurd (cc (rw held at none))
  | inr free ↦ elim (cases_Bool (eqb entry.number number)) [
    | inl same ↦ rw same (unplanned-without n number entries (rw free at none))
    | inr other ↦ rw (other, free) (unplanned-without n number entries (rw free at none))
  ]
]

pub unplanned-push : (n : ℕ) (entries : List Entry) (entry : Entry) → eqb entry.number n ≡ false → is_planned n entries ≡ false → is_planned n (entries ++ entry ∷ []) ≡ false
unplanned-push n [] entry other none = rw other refl
unplanned-push n (first ∷ entries) entry other none = elim (cases_Bool (eqb first.number n)) [
  | inl held ↦ absurd (cc (rw held at none))
  | inr free ↦ rw free (unplanned-push n entries entry other (rw free at none))
]

-- and a message has none among those of others
pub none-without : (number : ℕ) (entries : List Entry) → is_planned number (without_entry number entries) ≡ false
none-without number [] = refl
none-without number (entry ∷ entries) = elim (cases_Bool (eqb entry.number number)) [
  | inl same ↦ rw same (none-without number entries)
  | inr other ↦ rw (other, other) (none-without number entries)
]

pub AreApart-without : (number : ℕ) (entries : List Entry) → AreEntriesApart entries → AreEntriesApart (without_entry number entries)
AreApart-without number [] apart = tt
AreApart-without number (entry ∷ entries) apart = elim (cases_Bool (eqb entry.number number)) [
  | inl same ↦ rw same (AreApart-without number entries apart.1)
  | inr other ↦ rw other (unplanned-without entry.number number entries apart.0, AreApart-without number entries apart.1)
]

-- one more, of a message that had none
pub AreApart-push : (entries : List Entry) (entry : Entry) → AreEntriesApart entries → is_planned entry.number entries ≡ false → AreEntriesApart (entries ++ entry ∷ [])
AreApart-push [] entry apart none = (refl, tt)
AreApart-push (first ∷ entries) entry apart none = elim (cases_Bool (eqb first.number entry.number)) [
  | inl held ↦ absurd (cc (rw held at none))
  | inr free ↦ (
    unplanned-push first.number entries entry (ne_eqb entry.number first.number (λ same. eqb-false first.number entry.number free (sym same))) apart.0,
    AreApart-push entries entry apart.1 (rw free at none),
  )
]

-- ---- lags

pub lags-cons : (entry : Entry) (entries : List Entry) → lags (entry ∷ entries) ≡ entry.lag + lags entries
lags-cons entry entries = sum_by-cons (λ (e : Entry). e.lag) entry entries

pub lags-push : (entries : List Entry) (entry : Entry) → lags (entries ++ entry ∷ []) ≡ lags entries + entry.lag
lags-push entries entry = sum_by_push (λ (e : Entry). e.lag) entries entry

first-less : (left whole rest lag : ℕ) → left ≤ rest → whole ≡ lag + rest → left ≤ whole
first-less left whole rest lag less is = omega (arith, less, is)

both-less : (left whole rest rest' lag : ℕ) → left ≡ lag + rest' → rest' ≤ rest → whole ≡ lag + rest → left ≤ whole
both-less left whole rest rest' lag left_is less is = omega (arith, left_is, less, is)

pub lags-without : (number : ℕ) (entries : List Entry) → lags (without_entry number entries) ≤ lags entries
lags-without number [] = omega arith
lags-without number (entry ∷ entries) = elim (cases_Bool (eqb entry.number number)) [
  | inl same ↦ rw same (first-less (lags (without_entry number entries)) (lags (entry ∷ entries)) (lags entries) entry.lag (lags-without number entries) (lags-cons entry entries))
  | inr other ↦ rw other (both-less (lags (entry ∷ without_entry number entries)) (lags (entry ∷ entries)) (lags entries) (lags (without_entry number entries)) entry.lag
      (lags-cons entry (without_entry number entries)) (lags-without number entries) (lags-cons entry entries))
]

sum-first : (left whole rest lag : ℕ) → left ≡ rest → whole ≡ lag + rest → left + lag ≡ whole
sum-first left whole rest lag same is = omega (arith, same, is)

sum-both : (left whole rest rest' lag own : ℕ) → left ≡ lag + rest' → rest' + own ≡ rest → whole ≡ lag + rest → left + own ≡ whole
sum-both left whole rest rest' lag own left_is same is = omega (arith, left_is, same, is)

-- a message's lag and those of others are all, where it has one entry
pub lags-planned : (number : ℕ) (entries : List Entry) → AreEntriesApart entries → lags (without_entry number entries) + (planned entries number).lag ≡ lags entries
lags-planned number [] apart = omega arith
lags-planned number (entry ∷ entries) apart = elim (cases_Bool (eqb entry.number number)) [
  | inl same ↦ rw same (sum-first (lags (without_entry number entries)) (lags (entry ∷ entries)) (lags entries) entry.lag
      (ap lags (without-unplanned number entries (subst (λ (n : ℕ). is_planned n entries ≡ false) (eqb-true entry.number number same) apart.0))) (lags-cons entry entries))
  | inr other ↦ rw other (sum-both (lags (entry ∷ without_entry number entries)) (lags (entry ∷ entries)) (lags entries) (lags (without_entry number entries)) entry.lag (planned entries number).lag
      (lags-cons entry (without_entry number entries)) (lags-planned number entries apart.1) (lags-cons entry entries))
]

-- ---- what is held

pub AreHeld-without : (number : ℕ) (entries : List Entry) → AreHeld entries → AreHeld (without_entry number entries)
AreHeld-without number entries held = record {
  meant = AllMeant-without number entries held.meant;
  apart = AreApart-without number entries held.apart;
  few = omega (arith, held.few, lags-without number entries);
}

-- an entry in place of one of its message
pub AreHeld-with : (entry : Entry) (entries : List Entry) → AreHeld entries → IsMeant entry.fate → lags (without_entry entry.number entries) + entry.lag ≤ 16 → AreHeld (without_entry entry.number entries ++ entry ∷ [])
AreHeld-with entry entries held meant few =
    let left = without_entry entry.number entries in
    record {
      meant = AllMeant-push left entry (AllMeant-without entry.number entries held.meant) meant;
      apart = AreApart-push left entry (AreApart-without entry.number entries held.apart) (none-without entry.number entries);
      few = omega (arith, few, lags-push left entry);
    }

-- a fate leaves the lag of its message, and so all lags
pub fate-fits : (number : ℕ) (entries : List Entry) → AreHeld entries → lags (without_entry number entries) + (planned entries number).lag ≤ 16
fate-fits number entries held = omega (arith, held.few, lags-planned number entries held.apart)

-- no lag is more than all of them
pub lag-held : (number : ℕ) (entries : List Entry) → AreHeld entries → (lag : ℕ) → lag ≡ (planned entries number).lag → lag ≤ lags entries
lag-held number entries held lag is = omega (arith, is, lags-planned number entries held.apart)

-- ---- a loop that adds the lags up

-- what was added, and what is still to be added
abbrev pub Added : ℕ → List Entry → List Entry → Type 0
Added ticks rest all = ticks + lags rest ≡ lags all

pub Added-none : (all : List Entry) → Added 0 all all
Added-none all = omega arith

sum-moved : (ticks lag before rest all : ℕ) → before ≡ lag + rest → ticks + before ≡ all → (ticks + lag) + rest ≡ all
sum-moved ticks lag before rest all is added = omega (arith, is, added)

Added-push : (ticks : ℕ) (rest all : List Entry) (entry : Entry) → Added ticks (entry ∷ rest) all → Added (ticks + entry.lag) rest all
Added-push ticks rest all entry added = sum-moved ticks entry.lag (lags (entry ∷ rest)) (lags rest) (lags all) (lags-cons entry rest) added

pub Added-push-at : (ticks : ℕ) (all : List Entry) (i : ℕ) (d : Entry) → i < length all → Added ticks (drop i all) all → Added (ticks + (get_or all i d).lag) (drop (i + 1) all) all
Added-push-at ticks all i d lt added = Added-push ticks (drop (i + 1) all) all (get_or all i d) (rw (drop_more all i d lt) at added)

sum-few : (ticks rest all : ℕ) → ticks + rest ≡ all → all ≤ 16 → ticks ≤ 16
sum-few ticks rest all is few = omega (arith, is, few)

-- so no sum is more than all lags
Added-few : (ticks : ℕ) (rest all : List Entry) → Added ticks rest all → lags all ≤ 16 → ticks ≤ 16
Added-few ticks rest all added few = sum-few ticks (lags rest) (lags all) added few

pub Added-fits-at : (ticks : ℕ) (all : List Entry) (i : ℕ) (d : Entry) → i < length all → Added ticks (drop i all) all → lags all ≤ 16 → Fits w32 (ticks + (get_or all i d).lag)
Added-fits-at ticks all i d lt added few =
    let most : ticks + (get_or all i d).lag ≤ 16 = Added-few (ticks + (get_or all i d).lag) (drop (i + 1) all) all (Added-push-at ticks all i d lt added) few in omega (arith, most)

sum-end : (ticks rest all : ℕ) → ticks + rest ≡ all → rest ≡ 0 → ticks ≡ all
sum-end ticks rest all is none = omega (arith, is, none)

pub Added-end : (ticks : ℕ) (all : List Entry) (i : ℕ) → length all ≤ i → Added ticks (drop i all) all → ticks ≡ lags all
Added-end ticks all i past added = sum-end ticks (lags (drop i all)) (lags all) added (ap (λ (es : List Entry). lags es) (drop_all i all past))

-- ---- room for a lag

-- there is none where there is none for an entry, and none where the ticks are more than 16 with those of others
pub entry-full : (number ticks : ℕ) (entries : List Entry) → false ≡ has_room number entries → false ≡ has_lag_room number ticks entries
entry-full number ticks entries full = sym (and_left (has_room number entries) (leb (lags (without_entry number entries) + ticks) 16) (sym full))

pub lag-full : (number ticks : ℕ) (entries : List Entry) → 16 < lags (without_entry number entries) + ticks → false ≡ has_lag_room number ticks entries
lag-full number ticks entries past =
    sym (and_right (has_room number entries) (leb (lags (without_entry number entries) + ticks) 16) (lt-leb (lags (without_entry number entries) + ticks) 16 past))

-- else it is that of an entry
and-true : (b : Bool) → b ≡ (b && true)
and-true true = refl
and-true false = refl

pub lag-fits : (number ticks : ℕ) (entries : List Entry) → lags (without_entry number entries) + ticks ≤ 16 → has_room number entries ≡ has_lag_room number ticks entries
lag-fits number ticks entries fits =
    and-true (has_room number entries) ∙ ap (λ (b : Bool). has_room number entries && b) (sym (le-leb (lags (without_entry number entries) + ticks) 16 fits))

-- a lag that is planned already has room
pub planned-fits : (number lag : ℕ) (entries : List Entry) → AreHeld entries → lag ≡ (planned entries number).lag → has_lag_room number lag entries ≡ has_room number entries
planned-fits number lag entries held is =
    sym (lag-fits number lag entries (subst (λ (n : ℕ). lags (without_entry number entries) + n ≤ 16) (sym is) (fate-fits number entries held)))
