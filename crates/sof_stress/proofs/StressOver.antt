-- The turns of a stress make the written run.
use Rattle.std.proofs.Common.{◌≡◌, ℕ, zero, suc, ◌+◌, ◌*◌, ◌≤◌, eqb, List, [], ◌∷◌, ◌++◌, map, length, None, refl, inl, inr, arith}
use Rattle.std.proofs.lemmas.Bool.{cases_Bool}
use Rattle.std.specs.List.{AllByRecursion, range_with_len}
use Rattle.sof_base.specs.Ports.{InputView}
use Rattle.stream_law.specs.Table.{list_of}
use Rattle.stream_law.specs.Past.{start}
use Rattle.stream_law.specs.Stands.{HasRead, position_of, left_of}
use Rattle.mbox_link.specs.Calls.{Meaning}
use Rattle.tplg_plan.specs.Sound.{IsSound}
use Rattle.host_widgets.specs.declared.kept.Record.{Record}
use Rattle.sof_script.specs.declared.script.Command.{Command}
use Rattle.sof_session.specs.Written.{Ground, Leg}
use Rattle.sof_session.specs.Lives.{Life, Bare, Turns}
use Rattle.sof_script.specs.Tasks.{Turn, Carry}
use Rattle.sof_session.specs.RunOver.{RunOver}
use Rattle.sof_session.specs.Modes.{made_at_load}
use Rattle.sof_session.proofs.LoadMode.{load-laws}
use Rattle.sof_session.proofs.RunLegs.{AreCarried, messages, run-over}
use Rattle.sof_stress.specs.Draws.{stream_count, stress_commands}
use Rattle.sof_stress.specs.StressPorts.{stream_input, stress_inputs}
use Rattle.sof_stress.specs.CommandTurns.{CommandTurn, turns_of}
use Rattle.sof_script.specs.Ticks.{earlier as earlier_turns}
use Rattle.sof_stress.specs.CarriedTurns.{turns_after, IsDue, tasks_of, commands_of}
use Rattle.sof_stress.specs.GraphParts.{stress_plan}
use Rattle.sof_stress.specs.StressRun.{stress_begins, stress_ground, stress_turns}
use Rattle.sof_stress.proofs.DueCommands.{earlier-few, all-due, few-commands}

-- ---- the inputs, of which nothing was read

abbrev AreUnread : List InputView → Type 0
AreUnread inputs = AllByRecursion (λ (input : InputView). input.position ≡ 0) inputs

at-zero : (inputs : List InputView) (slot : ℕ) → AreUnread inputs → position_of inputs slot ≡ 0
at-zero [] slot all = refl
at-zero (input ∷ inputs) slot all =
    elim (cases_Bool (eqb input.slot slot)) [
      | inl same ↦ rw same all.0
      | inr other ↦ rw other (at-zero inputs slot all.1)
    ]

all-left : (inputs : List InputView) (slot : ℕ) → left_of inputs slot ≡ list_of (map (λ (input : InputView). (input.slot, input.left)) inputs) slot
all-left [] slot = refl
all-left (input ∷ inputs) slot =
    elim (cases_Bool (eqb input.slot slot)) [
      | inl same ↦ rw same refl
      | inr other ↦ rw other (all-left inputs slot)
    ]

are-unread : (ks : List ℕ) → AreUnread (map stream_input ks)
are-unread [] = tt
are-unread (k ∷ ks) = (refl, are-unread ks)

none-read : (seed room : ℕ) → HasRead (stress_ground room seed).whole (stress_inputs (stream_count seed)) start
none-read seed room =
    let inputs = stress_inputs (stream_count seed) in
    record { positions = λ slot bound. at-zero inputs slot (are-unread (range_with_len 0 (stream_count seed))); left = λ slot. all-left inputs slot }

-- ---- the commands

messages-few : (most : Command → ℕ) → ((command : Command) → most command ≤ 1200) → (turns : List CommandTurn) → messages most (commands_of turns) ≤ 1200 * length turns
messages-few most few [] = omega arith
messages-few most few (turn ∷ turns) = omega (arith, few turn.command, messages-few most few turns)

after-length : (n : ℕ) (c : Command) (rest : List CommandTurn) → length (turns_after n c ++ rest) ≡ n + 1 + length rest
after-length zero c rest = omega arith
after-length (suc n) c rest = omega (arith, after-length n c rest)

turns-few : (cs : List Command) → AllByRecursion IsDue cs → length (turns_of cs) ≤ 10 * length cs
turns-few [] due = omega arith
turns-few (c ∷ cs) due = omega (arith, after-length (earlier_turns c) c (turns_of cs), earlier-few c due.0.ticks, turns-few cs due.1)

-- ---- the turns

are-carried : (todo : List CommandTurn) (turns : List Turn) → map (λ (turn : Turn). turn.task) turns ≡ tasks_of todo → AreCarried (commands_of todo) turns
are-carried [] [] same = tt
are-carried [] (turn ∷ turns) same = absurd (cc same)
are-carried (t ∷ todo) [] same = absurd (cc same)
are-carried (t ∷ todo) (turn ∷ turns) same =
    let first : turn.task ≡ Carry t.command = cc in
    let rest : map (λ (turn : Turn). turn.task) turns ≡ tasks_of todo = cc in
    (first, are-carried todo turns rest)

module _ {P : Type 0} (means : Meaning P) (seed : ℕ) (small : seed ≤ 1000) (p : P) (last : Life P) (off : means.on p ≡ None) (sound : IsSound (stress_plan seed)) where
  abbrev g : Ground
  g = stress_ground (means.most p) seed

  -- the written run of all commands, whose legs are the turns
  pub stress-over : (begins : Turn) (turns : List Turn) → begins.task ≡ stress_begins (means.most p) seed → map (λ (turn : Turn). turn.task) turns ≡ tasks_of (stress_turns seed) → Turns means (Bare p) (begins ∷ turns) last →
      (legs : List (Leg Record)) × RunOver means made_at_load g (commands_of (stress_turns seed)) legs p (begins ∷ turns) last × (map (λ (leg : Leg Record). leg.out) legs ≡ map (λ (turn : Turn). turn.out) turns)
  stress-over begins turns begun tasks turned =
      let laws = load-laws means g.plan g.heap sound in
      run-over means made_at_load g laws (stress_inputs (stream_count seed)) p (commands_of (stress_turns seed)) begins turns last off
      (none-read seed (means.most p)) begun (are-carried (stress_turns seed) turns tasks)
      (omega (arith, messages-few laws.most laws.most_few (stress_turns seed), turns-few (stress_commands seed) (all-due seed), few-commands seed small)) turned
