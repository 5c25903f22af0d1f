-- The bytes of the outputs, one output after another.
use Rattle.std.proofs.Common.{◌≡◌, ℕ, zero, suc, ◌+◌, ◌<◌, ◌≤◌, Bool, true, false, List, [], ◌∷◌, length, drop, Some, refl, sym, ◌∙◌, ap, subst, arith}
use Rattle.std.specs.List.{slice_get}
use Rattle.std.proofs.lemmas.List.{drop_more, drop_all}
use Rattle.std.proofs.lemmas.Option.{slice_get_within, get_or_from_slice_get}
use Rattle.sof_base.specs.Ports.{OutputView}
use Rattle.sof_io.specs.Bound.{output_slots}
use Rattle.sof_desk.specs.Desk.{DeskMeaning, Acted, Put, Slot}
use Rattle.sof_script.specs.Tasks.{Written, Turn}
use Rattle.sof_session.specs.Written.{with_bytes, written_in}
use Rattle.run_desk.specs.Todo.{Todo, Played, DeskPhase}
use Rattle.run_play.specs.Play.{flush_todo}
use Rattle.run_play.specs.Opening.{AreCreated}
use Rattle.run_desk.proofs.Steps.{do_phase}

pub flush_one : (slot : ℕ) (bytes : List ℕ) (written : List Written) (rest : Todo) → flush_todo (with_bytes slot bytes written) rest ≡ flush_todo (with_bytes slot bytes []) (flush_todo written rest)
flush_one slot [] written rest = refl
flush_one slot (byte ∷ bytes) written rest = refl

module _ {D : Type 0} (means : DeskMeaning D) where
  -- an output that has no bytes, or bytes that were appended or not
  pub output_none : (slot : ℕ) (bytes : List ℕ) (old : D) → length bytes ≡ 0 → DeskPhase means (flush_todo (with_bytes slot bytes [])) true old old
  output_none slot [] old none = λ rest turns status end played. played
  output_none slot (byte ∷ bytes) old none = absurd (some (length bytes) none)
    where
      some : (n : ℕ) → suc n ≡ 0 → ⊥
      some n e = omega (arith, e)

  pub output_phase : (slot : ℕ) (bytes : List ℕ) (done : Bool) (old new : D) → 0 < length bytes → Acted means (Put (Slot slot) bytes) done old new → DeskPhase means (flush_todo (with_bytes slot bytes [])) done old new
  output_phase slot [] done old new some acted = absurd (none some)
    where
      none : 0 < 0 → ⊥
      none h = omega (arith, h)
  output_phase slot (byte ∷ bytes) done old new some acted = do_phase means (Put (Slot slot) (byte ∷ bytes)) done old new acted

  -- the file of an output that is there is created
  pub created_at : (outputs : List OutputView) (k : ℕ) (output : OutputView) (d : D) → AreCreated means (output_slots outputs) d → slice_get outputs k ≡ Some output → means.created d output.slot ≡ true
  created_at [] k output d all is = absurd (cc is)
  created_at (first ∷ outputs) zero output d all is = subst (λ (o : OutputView). means.created d o.slot ≡ true) (the first output is) all.0
    where
      the : (a b : OutputView) → Some a ≡ Some b → a ≡ b
      the a b e = cc e
  created_at (first ∷ outputs) (suc k) output d all is = created_at outputs k output d all.1 is

  -- these outputs are left
  abbrev pub Left : List OutputView → List OutputView → D → D → Type 0
  Left whole left old new = (rest : Todo) (turns : List Turn) (status : ℕ) (end : D) → Played means (flush_todo (written_in left) rest) new turns status end → Played means (flush_todo (written_in whole) rest) old turns status end

  module _ (outputs : List OutputView) (k slot : ℕ) (bytes : List ℕ) (there : slice_get outputs k ≡ Some (record { slot = slot; bytes = bytes })) where
    abbrev this : OutputView
    this = record { slot = slot; bytes = bytes }

    at : drop k outputs ≡ this ∷ drop (k + 1) outputs
    at = drop_more outputs k this (slice_get_within outputs k this there) ∙ ap (λ (x : OutputView). x ∷ drop (k + 1) outputs) (get_or_from_slice_get outputs k this this there)

    here : (rest : Todo) (turns : List Turn) (status : ℕ) (d end : D) → Played means (flush_todo (with_bytes slot bytes []) (flush_todo (written_in (drop (k + 1) outputs)) rest)) d turns status end → Played means (flush_todo (written_in (drop k outputs)) rest) d turns status end
    here rest turns status d end played =
        subst (λ todo. Played means todo d turns status end) (sym (ap (λ os. flush_todo (written_in os) rest) at ∙ flush_one slot bytes (written_in (drop (k + 1) outputs)) rest)) played

    pub left_on : (old m new : D) → Left outputs (drop k outputs) old m → DeskPhase means (flush_todo (with_bytes slot bytes [])) true m new → Left outputs (drop (k + 1) outputs) old new
    left_on old m new so_far phase = λ rest turns status end played.
        so_far rest turns status end (here rest turns status m end (phase (flush_todo (written_in (drop (k + 1) outputs)) rest) turns status end played))

    pub left_off : (old m new : D) → Left outputs (drop k outputs) old m → DeskPhase means (flush_todo (with_bytes slot bytes [])) false m new → DeskPhase means (flush_todo (written_in outputs)) false old new
    left_off old m new so_far failed = λ rest. so_far rest [] 3 new (here rest [] 3 m new (failed (flush_todo (written_in (drop (k + 1) outputs)) rest)))

  -- none is left
  pub left_none : (outputs : List OutputView) (k : ℕ) (old new : D) → length outputs ≤ k → Left outputs (drop k outputs) old new → DeskPhase means (flush_todo (written_in outputs)) true old new
  left_none outputs k old new past so_far = λ rest turns status end played.
      so_far rest turns status end (subst (λ os. Played means (flush_todo (written_in os) rest) new turns status end) (sym (drop_all k outputs past)) played)

-- bytes, and then what is written after them
module _ {D : Type 0} (means : DeskMeaning D) (slot : ℕ) (bytes : List ℕ) (written : List Written) (old m new : D) where
  pub flushed_first : (done : Bool) → DeskPhase means (flush_todo (with_bytes slot bytes [])) true old m → DeskPhase means (flush_todo written) done m new → DeskPhase means (flush_todo (with_bytes slot bytes written)) done old new
  flushed_first true first later = λ rest turns status end played.
      subst (λ todo. Played means todo old turns status end) (sym (flush_one slot bytes written rest)) (first (flush_todo written rest) turns status end (later rest turns status end played))
  flushed_first false first later = λ rest.
      subst (λ todo. Played means todo old [] 3 new) (sym (flush_one slot bytes written rest)) (first (flush_todo written rest) [] 3 new (later rest))

  pub flush_failed : DeskPhase means (flush_todo (with_bytes slot bytes [])) false old new → DeskPhase means (flush_todo (with_bytes slot bytes written)) false old new
  flush_failed failed = λ rest. subst (λ todo. Played means todo old [] 3 new) (sym (flush_one slot bytes written rest)) (failed (flush_todo written rest))
