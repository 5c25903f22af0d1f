-- What is still to be read of the inputs' files, read by read.
use Rattle.std.proofs.Common.{◌≡◌, ◌≢◌, ℕ, zero, suc, Bool, true, false, not, ◌||◌, eqb, nat_eq, if◌then◌else◌, List, [], ◌∷◌, ◌++◌, length, drop, Option, Some, option_map, refl, sym, ◌∙◌, ap, subst, append_assoc, inl, inr}
use Rattle.std.proofs.lemmas.Bool.{cases_Bool, eq-eqb, eqb-true, ne_eqb}
use Rattle.std.proofs.lemmas.List.{take-append-drop}
use Rattle.sof_base.specs.Ports.{InputView}
use Rattle.sof_io.specs.Bound.{has_slot}
use Rattle.sof_io.specs.Takes.{input_slots, is_wanting}
use Rattle.sof_io.specs.Fills.{wanting, filled_at, ended_at}
use Rattle.stream_law.specs.Table.{list_of}
use Rattle.sof_desk.specs.Desk.{DeskMeaning, DeskPlace, DeskCall, DeskLed, FrontOf, WasRead}
use Rattle.sof_session.specs.Fills.{FilledBy, next_read, after_read, bytes_read, input_ends, may_grow}
use Rattle.sof_session.specs.NewInputs.{AreNew}
use Rattle.run_desk.specs.DeskCalls.{reading}
use Rattle.run_play.proofs.Refills.{slots-after_read}

-- ---- inputs

one_slot : (n m : ℕ) → Some n ≡ Some m → n ≡ m
one_slot n m e = cc e

or_right : (x y : Bool) → y ≡ true → (x || y) ≡ true
or_right true y is = refl
or_right false y is = is

-- the slot that is read next is there
next_there : (level slot : ℕ) (inputs : List InputView) → wanting level inputs ≡ Some slot → has_slot slot (input_slots inputs) ≡ true
next_there level slot [] is = absurd (cc is)
next_there level slot (input ∷ inputs) is =
    elim (cases_Bool (is_wanting level input)) [
      | inl first ↦
          let same : input.slot ≡ slot = one_slot input.slot slot (rw first at is) in
          rw (eq-eqb input.slot slot same) refl
      | inr other ↦
          let later : wanting level inputs ≡ Some slot = rw other at is in
          or_right (eqb input.slot slot) (has_slot slot (input_slots inputs)) (next_there level slot inputs later)
    ]

grows-filled : (slot : ℕ) (piece : List ℕ) (other : ℕ) (inputs : List InputView) → may_grow other (filled_at slot piece inputs) ≡ may_grow other inputs
grows-filled slot piece other [] = refl
grows-filled slot piece other (input ∷ inputs) =
    elim (cases_Bool (eqb input.slot slot)) [
      | inl same ↦ rw same refl
      | inr differs ↦ rw differs (ap (λ (rest : Bool). if eqb input.slot other then not input.ended else rest) (grows-filled slot piece other inputs))
    ]

grows-ended : (slot other : ℕ) (inputs : List InputView) → other ≢ slot → may_grow other (ended_at slot inputs) ≡ may_grow other inputs
grows-ended slot other [] apart = refl
grows-ended slot other (input ∷ inputs) apart =
    elim (cases_Bool (eqb input.slot slot)) [
      | inl same ↦
          let e : input.slot ≡ slot = eqb-true input.slot slot same in
          let differs : eqb input.slot other ≡ false = ne_eqb input.slot other (λ f. apart (sym f ∙ e)) in
          rw (same, differs) refl
      | inr differs ↦ rw differs (ap (λ (rest : Bool). if eqb input.slot other then not input.ended else rest) (grows-ended slot other inputs apart))
    ]

-- the slots and which may grow, by the slots and ends
abbrev slots_by : List (ℕ × Bool) → List ℕ
slots_by [] = []
slots_by ((slot, ended) ∷ ends) = slot ∷ slots_by ends

abbrev grows_by : ℕ → List (ℕ × Bool) → Bool
grows_by slot [] = false
grows_by slot ((other, ended) ∷ ends) = if eqb other slot then not ended else grows_by slot ends

slots-by : (inputs : List InputView) → slots_by (input_ends inputs) ≡ input_slots inputs
slots-by [] = refl
slots-by (input ∷ inputs) = ap (λ (slots : List ℕ). input.slot ∷ slots) (slots-by inputs)

grows-by : (slot : ℕ) (inputs : List InputView) → grows_by slot (input_ends inputs) ≡ may_grow slot inputs
grows-by slot [] = refl
grows-by slot (input ∷ inputs) = ap (λ (rest : Bool). if eqb input.slot slot then not input.ended else rest) (grows-by slot inputs)

pub slots-ends : (a b : List InputView) → input_ends a ≡ input_ends b → input_slots a ≡ input_slots b
slots-ends a b same = sym (slots-by a) ∙ ap slots_by same ∙ slots-by b

grows-ends : (slot : ℕ) (a b : List InputView) → input_ends a ≡ input_ends b → may_grow slot a ≡ may_grow slot b
grows-ends slot a b same = sym (grows-by slot a) ∙ ap (grows_by slot) same ∙ grows-by slot b

going : (input : InputView) → input.ended ≡ false → not input.ended ≡ false → ⊥
going input more ended = cc (ap not (sym more) ∙ ended)

-- of new inputs exactly those that are there may grow
pub grows-new : (slot : ℕ) (inputs : List InputView) → AreNew inputs → may_grow slot inputs ≡ false → has_slot slot (input_slots inputs) ≡ false
grows-new slot [] new none = refl
grows-new slot (input ∷ inputs) new none =
    elim (cases_Bool (eqb input.slot slot)) [
      | inl same ↦
          let ended : not input.ended ≡ false = rw same at none in
          absurd (going input (ap (λ (i : InputView). i.ended) new.0) ended)
      | inr differs ↦
          let later : may_grow slot inputs ≡ false = rw differs at none in
          rw differs (grows-new slot inputs new.1 later)
    ]

-- ---- bytes

read-append : (a b : List (ℕ × List ℕ)) (slot : ℕ) → list_of (bytes_read (a ++ b)) slot ≡ list_of (bytes_read a) slot ++ list_of (bytes_read b) slot
read-append [] b slot = refl
read-append ((first, bytes) ∷ a) b slot =
    elim (cases_Bool (eqb first slot)) [
      | inl same ↦
          let e : first ≡ slot = eqb-true first slot same in
          rw same
          (ap (λ xs. bytes ++ xs) (read-append a b first)
          ∙ sym (append_assoc bytes (list_of (bytes_read a) first) (list_of (bytes_read b) first))
          ∙ ap (λ n. (bytes ++ list_of (bytes_read a) first) ++ list_of (bytes_read b) n) e)
      | inr differs ↦ rw differs (read-append a b slot)
    ]

drop-none : (n : ℕ) (bytes : List ℕ) → bytes ≡ [] → drop n bytes ≡ []
drop-none zero bytes none = none
drop-none (suc n) bytes none = ap (drop (suc n)) none

module _ {D : Type 0} (means : DeskMeaning D) where
  -- this is still to be read of the inputs' files, and none where no more may come
  pub record Unread (inputs : List InputView) (rest : ℕ → List ℕ) (d : D) : Type 0 where
    pub told : (slot : ℕ) → has_slot slot (input_slots inputs) ≡ true → means.unread d slot ≡ Some (rest slot)
    pub none : (slot : ℕ) → may_grow slot inputs ≡ false → rest slot ≡ []

  -- a command leaves which inputs may grow
  pub unread_ends : (inputs inputs' : List InputView) (rest : ℕ → List ℕ) (d : D) → input_ends inputs' ≡ input_ends inputs → Unread inputs rest d → Unread inputs' rest d
  unread_ends inputs inputs' rest d same u = record {
    told = λ slot there. u.told slot (ap (has_slot slot) (sym (slots-ends inputs' inputs same)) ∙ there);
    none = λ slot none. u.none slot (sym (grows-ends slot inputs' inputs same) ∙ none);
  }

  -- and a call that reads nothing leaves what is to be read
  pub unread_same : (inputs : List InputView) (rest : ℕ → List ℕ) (d e : D) → ((slot : ℕ) → means.unread e slot ≡ means.unread d slot) → Unread inputs rest d → Unread inputs rest e
  unread_same inputs rest d e same u = record { told = λ slot there. same slot ∙ u.told slot there; none = u.none }

  -- ---- one read

  module _ (slot : ℕ) (bytes : List ℕ) (inputs : List InputView) (rest : ℕ → List ℕ) (d m : D) (next : next_read inputs ≡ Some slot) (was : WasRead means slot 65536 (Some bytes) d m) (u : Unread inputs rest d) where
    front : FrontOf (rest slot) bytes
    front = was.answers.1 (rest slot) (u.told slot (next_there 983040 slot inputs next))

    -- what is left then
    abbrev left : ℕ → List ℕ
    left other = if nat_eq slot other then drop (length bytes) (rest other) else rest other

    left_told : (b : Bool) (o : Option (List ℕ)) (xs : List ℕ) → o ≡ Some xs → (if b then option_map (drop (length bytes)) o else o) ≡ Some (if b then drop (length bytes) xs else xs)
    left_told true o xs is = ap (option_map (drop (length bytes))) is
    left_told false o xs is = is

    left_none : (b : Bool) (xs : List ℕ) → xs ≡ [] → (if b then drop (length bytes) xs else xs) ≡ []
    left_none true xs none = drop-none (length bytes) xs none
    left_none false xs none = none

    all_read : bytes ≡ [] → (other : ℕ) → eqb slot other ≡ true → rest other ≡ []
    all_read none other same = subst (λ n. rest n ≡ []) (eqb-true slot other same) (front.ends none)

    none_left : (bs : List ℕ) → bytes ≡ bs → (other : ℕ) → may_grow other (after_read slot bs inputs) ≡ false → rest other ≡ []
    none_left (byte ∷ bs) is other none = u.none other (sym (grows-filled slot (byte ∷ bs) other inputs) ∙ none)
    none_left [] is other none =
        elim (cases_Bool (eqb slot other)) [
          | inl same ↦ all_read is other same
          | inr differs ↦ u.none other (sym (grows-ended slot other inputs (λ e. cc (sym differs ∙ eq-eqb slot other (sym e)))) ∙ none)
        ]

    pub unread_read : Unread (after_read slot bytes inputs) left m
    unread_read = record {
      told = λ other there. was.unread other ∙ left_told (nat_eq slot other) (means.unread d other) (rest other) (u.told other (ap (has_slot other) (sym (slots-after_read slot bytes inputs)) ∙ there));
      none = λ other none. left_none (nat_eq slot other) (rest other) (none_left bytes refl other none);
    }

    -- the bytes that came stand before it
    module _ (reads : List (ℕ × List ℕ)) (last : ℕ → List ℕ) (splits : (other : ℕ) → left other ≡ list_of (bytes_read reads) other ++ last other) where
      whole : (other : ℕ) → eqb slot other ≡ true → rest other ≡ bytes ++ drop (length bytes) (rest other)
      whole other same =
          subst (λ n. rest n ≡ bytes ++ drop (length bytes) (rest n)) (eqb-true slot other same)
          (sym (take-append-drop (length bytes) (rest slot)) ∙ ap (λ xs. xs ++ drop (length bytes) (rest slot)) (sym front.front))

      pub splits_more : (other : ℕ) → rest other ≡ list_of (bytes_read ((slot, bytes) ∷ reads)) other ++ last other
      splits_more other =
          elim (cases_Bool (eqb slot other)) [
            | inl same ↦
                let e : slot ≡ other = eqb-true slot other same in
                let later : drop (length bytes) (rest other) ≡ list_of (bytes_read reads) other ++ last other = rw same at (splits other) in
                rw same
                (whole other same
                ∙ ap (λ xs. bytes ++ xs) later
                ∙ sym (append_assoc bytes (list_of (bytes_read reads) other) (last other))
                ∙ ap (λ n. (bytes ++ list_of (bytes_read reads) n) ++ last other) (sym e))
            | inr differs ↦
                let later : rest other ≡ list_of (bytes_read reads) other ++ last other = rw differs at (splits other) in
                rw differs later
          ]

  -- ---- reads, one after another

  -- what is still to be read after reads, and the calls after them
  pub record ReadOn (reads : List (ℕ × List ℕ)) (failed : Option ℕ) (later : List DeskCall) (inputs' : List InputView) (rest : ℕ → List ℕ) (d e : D) : Type 0 where
    pub mid : D
    pub last : ℕ → List ℕ
    pub splits : (slot : ℕ) → rest slot ≡ list_of (bytes_read reads) slot ++ last slot
    pub unread : Unread inputs' last mid
    pub led : DeskLed means mid (reading [] failed ++ later) e
    pub wrote : (place : DeskPlace) → means.wrote mid place ≡ means.wrote d place

  pub reads_go : (reads : List (ℕ × List ℕ)) (failed : Option ℕ) (later : List DeskCall) (inputs inputs' : List InputView) (rest : ℕ → List ℕ) (d e : D) → FilledBy reads inputs inputs' → Unread inputs rest d → DeskLed means d (reading reads failed ++ later) e → ReadOn reads failed later inputs' rest d e
  reads_go [] failed later inputs inputs' rest d e filled u led =
      record { mid = d; last = rest; splits = λ slot. refl; unread = subst (λ is. Unread is rest d) (sym filled) u; led = led; wrote = λ place. refl }
  reads_go ((slot, bytes) ∷ reads) failed later inputs inputs' rest d e filled u led =
      let on = reads_go reads failed later (after_read slot bytes inputs) inputs' (left slot bytes inputs rest d led.0 filled.0 led.1 u) led.0 e filled.2 (unread_read slot bytes inputs rest d led.0 filled.0 led.1 u) led.2 in
      record {
        mid = on.mid;
        last = on.last;
        splits = splits_more slot bytes inputs rest d led.0 filled.0 led.1 u reads on.last on.splits;
        unread = on.unread;
        led = on.led;
        wrote = λ place. on.wrote place ∙ led.1.wrote place;
      }

  -- reads of several turns
  pub splits_on : (a b : List (ℕ × List ℕ)) (rest mid last : ℕ → List ℕ) → ((slot : ℕ) → rest slot ≡ list_of (bytes_read a) slot ++ mid slot) → ((slot : ℕ) → mid slot ≡ list_of (bytes_read b) slot ++ last slot) → (slot : ℕ) → rest slot ≡ list_of (bytes_read (a ++ b)) slot ++ last slot
  splits_on a b rest mid last first later slot =
      first slot
      ∙ ap (λ xs. list_of (bytes_read a) slot ++ xs) (later slot)
      ∙ sym (append_assoc (list_of (bytes_read a) slot) (list_of (bytes_read b) slot) (last slot))
      ∙ ap (λ xs. xs ++ last slot) (sym (read-append a b slot))
