-- The inputs filled by reads, one after another.
use Rattle.std.proofs.Common.{◌≡◌, ℕ, zero, suc, ◌<◌, ◌≤◌, take, Bool, true, false, eqb, List, [], ◌∷◌, ◌++◌, length, Option, Some, None, MatchOption, is_none, refl, sym, ◌∙◌, subst, inl, inr, arith}
use Rattle.std.proofs.lemmas.Bool.{cases_Bool, eqb-true}
use Rattle.std.proofs.lemmas.List.{append-nil}
use Rattle.sof_base.specs.Ports.{InputView}
use Rattle.sof_io.specs.Bound.{has_slot}
use Rattle.sof_io.specs.Takes.{input_slots}
use Rattle.sof_io.specs.Fills.{filled_at}
use Rattle.sof_io.proofs.InputLaws.{slots-filled_at, slots-ended_at}
use Rattle.sof_desk.specs.Desk.{DeskMeaning, DeskPlace, Put, DeskCall, DeskLed, Acted, WasRead}
use Rattle.mbox_link.specs.Calls.{Meaning}
use Rattle.host_widgets.specs.declared.answers.Answer.TheVariants.{Done}
use Rattle.sof_session.specs.SessionView.{SessionView}
use Rattle.sof_session.specs.Fills.{next_read, after_read}
use Rattle.sof_session.specs.Lives.{Seated}
use Rattle.sof_script.specs.Tasks.{Turn, Fill}
use Rattle.run_desk.specs.Todo.{Todo, Refill, Over, DoneBy, Phase}
use Rattle.run_play.specs.KeptTurns.{KeptTurn}
use Rattle.run_desk.specs.DeskCalls.{reading}
use Rattle.run_play.specs.Opening.{AreOpened, SameFiles}
use Rattle.run_play.specs.Refills.{Refilled}

-- the slots stay
pub slots-after_read : (slot : ℕ) (bytes : List ℕ) (inputs : List InputView) → input_slots (after_read slot bytes inputs) ≡ input_slots inputs
slots-after_read slot [] inputs = slots-ended_at slot inputs
slots-after_read slot (byte ∷ bytes) inputs = slots-filled_at slot (byte ∷ bytes) inputs

-- some bytes of a buffer that has as many
pub some_taken : (n : ℕ) (bytes : List ℕ) → n ≤ length bytes → (n ≡ 0 → ⊥) → 0 < length (take n bytes)
some_taken zero bytes within some = absurd (some refl)
some_taken (suc n) [] within some = absurd (none n within)
  where
    none : (n : ℕ) → suc n ≤ 0 → ⊥
    none n h = omega (arith, h)
some_taken (suc n) (byte ∷ bytes) within some = omega arith

-- a read that got some bytes fills
pub filled-read : (slot : ℕ) (bytes : List ℕ) (inputs : List InputView) → 0 < length bytes → after_read slot bytes inputs ≡ filled_at slot bytes inputs
filled-read slot [] inputs some = absurd (none some)
  where
    none : 0 < 0 → ⊥
    none h = omega (arith, h)
filled-read slot (byte ∷ bytes) inputs some = refl

module _ {D : Type 0} (means : DeskMeaning D) where
  -- ---- which files are open

  pub opened_at : (slots : List ℕ) (slot : ℕ) (d : D) → AreOpened means slots d → has_slot slot slots ≡ true → means.opened d slot ≡ true
  opened_at [] slot d all there = absurd (cc there)
  opened_at (other ∷ slots) slot d all there =
      elim (cases_Bool (eqb other slot)) [
        | inl same ↦ subst (λ n. means.opened d n ≡ true) (eqb-true other slot same) all.0
        | inr differs ↦
            let later : has_slot slot slots ≡ true = rw differs at there in
            opened_at slots slot d all.1 later
      ]

  pub opened_same : (slots : List ℕ) (old new : D) → ((slot : ℕ) → means.opened new slot ≡ means.opened old slot) → AreOpened means slots old → AreOpened means slots new
  opened_same [] old new same all = tt
  opened_same (slot ∷ slots) old new same all = (same slot ∙ all.0, opened_same slots old new same all.1)

  -- ---- which stay so

  pub same_none : (d : D) → SameFiles means d d
  same_none d = record { opened = λ slot. refl; created = λ slot. refl }

  pub same_then : (old m new : D) → SameFiles means old m → SameFiles means m new → SameFiles means old new
  same_then old m new first later = record { opened = λ slot. later.opened slot ∙ first.opened slot; created = λ slot. later.created slot ∙ first.created slot }

  pub same_put : (place : DeskPlace) (piece : List ℕ) (done : Bool) (old new : D) → Acted means (Put place piece) done old new → SameFiles means old new
  same_put place piece done old new acted = record { opened = acted.opened; created = acted.created }

  pub same_read : (slot size : ℕ) (got : Option (List ℕ)) (old new : D) → WasRead means slot size got old new → SameFiles means old new
  same_read slot size got old new was = record { opened = was.opened; created = was.created }

  -- ---- reads

  -- what is left to be read, read, makes all read
  abbrev pub ReadsOn : (whole left : List InputView) → D → D → Type 0
  ReadsOn whole left old new = (done : Bool) (inputs' : List InputView) (end : D) → Refilled means done left inputs' new end → Refilled means done whole inputs' old end

  -- a read, and those after it
  pub refilled_more : (slot : ℕ) (bytes : List ℕ) (inputs inputs' : List InputView) (done : Bool) (old m new : D) → next_read inputs ≡ Some slot → WasRead means slot 65536 (Some bytes) old m → Refilled means done (after_read slot bytes inputs) inputs' m new → Refilled means done inputs inputs' old new
  refilled_more slot bytes inputs inputs' done old m new next was r =
      record { reads = (slot, bytes) ∷ r.reads; failed = r.failed; led = (m, was, r.led); filled = (next, was.answers.0, r.filled); next = r.next; done_is = r.done_is }

  -- none is left
  pub refilled_none : (inputs : List InputView) (old : D) → next_read inputs ≡ None → Refilled means true inputs inputs old old
  refilled_none inputs old next = record { reads = []; failed = None; led = refl; filled = refl; next = next; done_is = refl }

  -- one that failed
  pub refilled_off : (slot : ℕ) (inputs : List InputView) (old new : D) → next_read inputs ≡ Some slot → WasRead means slot 65536 None old new → Refilled means false inputs inputs old new
  refilled_off slot inputs old new next was = record { reads = []; failed = Some slot; led = (new, was, refl); filled = refl; next = next; done_is = refl }

  pub reads_more : (slot : ℕ) (bytes : List ℕ) (whole left : List InputView) (old m new : D) → next_read left ≡ Some slot → WasRead means slot 65536 (Some bytes) m new → ReadsOn whole left old m → ReadsOn whole (after_read slot bytes left) old new
  reads_more slot bytes whole left old m new next was so_far done inputs' end r = so_far done inputs' end (refilled_more slot bytes left inputs' done m new end next was r)

  -- ---- a turn that fills the inputs

  -- calls, and those after them
  pub led-append : (a b : List DeskCall) (d m e : D) → DeskLed means d a m → DeskLed means m b e → DeskLed means d (a ++ b) e
  led-append [] b d m e first rest = subst (λ x. DeskLed means x b e) first rest
  led-append (call ∷ a) b d m e first rest = (first.0, first.1, led-append a b first.0 m e first.2 rest)

  none_failed : (failed : Option ℕ) → true ≡ is_none failed → failed ≡ None
  none_failed None e = refl
  none_failed (Some slot) e = absurd (cc e)

  over : (failed : Option ℕ) (next : Todo) → false ≡ is_none failed → MatchOption failed (DoneBy next [] [] 3) (λ slot. Over 3 [] [] 3)
  over None next e = absurd (cc e)
  over (Some slot) next e = (refl, refl, refl)

  abbrev fill_turn : List (ℕ × List ℕ) → Option ℕ → Turn
  fill_turn reads failed = record { task = Fill reads failed; out = record { answer = Done; shown = []; written = [] } }

  module _ {K : Type 0} (dsp : Meaning K) (holds : K → List ℕ) (empties : K → K → Type 0) (seat : SessionView K) (slots : List ℕ) (inputs inputs' : List InputView) (old new : D) where
    pub refill_phase : (done : Bool) → Refilled means done inputs inputs' old new → Phase means (KeptTurn dsp holds empties) Refill done old (Seated seat inputs slots) new (Seated seat inputs' slots)
    refill_phase true r = λ rest status end q ran. record {
      turns = fill_turn r.reads r.failed ∷ ran.turns;
      turned = (Seated seat inputs' slots, (refl, refl, r.filled, r.next), ran.turned);
      played = record {
        calls = reading r.reads r.failed ++ ran.played.calls;
        led = led-append (reading r.reads r.failed) ran.played.calls old new end r.led ran.played.led;
        goes = (
          record { reads = r.reads; failed = r.failed; later = ran.played.calls; task = refl; calls_are = refl },
          subst (λ o. MatchOption o (DoneBy rest ran.turns ran.played.calls status) (λ slot. Over 3 ran.turns ran.played.calls status)) (sym (none_failed r.failed r.done_is)) ran.played.goes,
        );
      };
    }
    refill_phase false r = λ rest. record {
      turns = fill_turn r.reads r.failed ∷ [];
      turned = (Seated seat inputs' slots, (refl, refl, r.filled, r.next), refl);
      played = record {
        calls = reading r.reads r.failed;
        led = r.led;
        goes = (
          record { reads = r.reads; failed = r.failed; later = []; task = refl; calls_are = sym (append-nil (reading r.reads r.failed)) },
          over r.failed rest r.done_is,
        );
      };
    }
