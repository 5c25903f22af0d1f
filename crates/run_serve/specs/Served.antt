-- What `serve` does: over every desk and every device that is off.
use Rattle.std.specs.Prelude.{◌≡◌, ℕ, List, [], ◌∷◌, ◌++◌, Option, Some, None}
use Rattle.std.specs.List.{flat_map}
use Rattle.sof_desk.specs.Desk.{DeskMeaning, Slot, CountRose}
use Rattle.mbox_link.specs.Calls.{Meaning}
use Rattle.ipc3_trace.specs.declared.entry.Entry.{Entry}
use Rattle.ipc3_trace.specs.declared.entry.Entry.TheVariants.{Boot, Cut, Request, Reply, Tick, Lost}
use Rattle.ipc3_trace.specs.Records.{records_bytes}
use Rattle.ipc3_trace.specs.Steps.{Deed, Start, Stop, Send, Wait, recorded, steps_of, AreAlike}
use Rattle.sof_session.specs.SessionStep.{Calm}
use Rattle.run_serve.specs.ServeWords.{ServeNames}
use Rattle.run_serve.specs.AnyCalls.{AnyCall, LedByCalls}
use Rattle.run_serve.specs.Serving.{ServeRound, ServeEnd, replies_slot, served_entries, backs_in, unsent_round, given_rounds, ServesAll, ServedBy}

-- ---- by the firmware

-- what a driver's record does to a device; a reply and a loss do nothing
abbrev pub deeds_of : Entry → List Deed
deeds_of (Boot heap) = Start heap ∷ []
deeds_of Cut = Stop ∷ []
deeds_of (Request message) = Send message ∷ []
deeds_of (Reply reply) = []
deeds_of Tick = Wait ∷ []
deeds_of Lost = []

abbrev pub reply_in : Entry → List Entry
reply_in (Reply reply) = Reply reply ∷ []
reply_in e = []

-- the replies that the firmware gives, in their order
abbrev pub replies_to : List Entry → List Entry
replies_to es = flat_map reply_in (recorded None (flat_map deeds_of es))

-- ---- all

-- the bytes that were not sent, if any
abbrev pub unsent_bytes : ServeEnd → List ℕ
unsent_bytes ending = records_bytes (backs_in (unsent_round ending))

-- the bytes that were written, where the desk tells them: the records of all that came back, and a front of the one that was not sent
abbrev pub Wrote : Option (List ℕ) → List ServeRound → ServeEnd → Type 0
Wrote told rounds ending =
    (bytes : List ℕ) → told ≡ Some bytes
    → (front rest : List ℕ) × (bytes ≡ records_bytes (backs_in rounds) ++ front) × (front ++ rest ≡ unsent_bytes ending)

pub record Serves {D P : Type 0} (means : DeskMeaning D) (dsp : Meaning P) (names : ServeNames) (old : D) (p : P) (status : ℕ) (new : D) (q : P) : Type 0 where
  -- the calls on both sides, in their order and no others
  pub calls : List AnyCall
  pub led : LedByCalls means dsp old p calls new q
  pub follows : ServedBy (dsp.most p) names calls status
  -- status 3 comes only where the desk's count rose
  pub failed : status ≡ 3 → CountRose (means.faults old) (means.faults new)
  -- REPLIES holds what came back of each record that was served, and nothing else
  pub wrote : (all : ServesAll (dsp.most p) names calls status) → Wrote (means.wrote new (Slot replies_slot)) all.served.rounds all.served.ending
  -- over a device that did nothing of its own accord what came back of the records that were given is the firmware's reply to each
  -- message, and the device stands where they lead, but for its audio
  pub replied : (all : ServesAll (dsp.most p) names calls status) → Calm dsp p q → let given = given_rounds all.served.rounds all.served.ending in backs_in given ≡ replies_to (served_entries given)
  pub stands : (all : ServesAll (dsp.most p) names calls status) → Calm dsp p q → AreAlike (dsp.on q) (steps_of (served_entries (given_rounds all.served.rounds all.served.ending)))
