-- A stress over a device.
use Rattle.std.specs.Prelude.{◌≡◌, ℕ, List, ◌∷◌, map}
use Rattle.mbox_link.specs.Calls.{Meaning}
use Rattle.tplg_plan.specs.Sound.{IsSound}
use Rattle.sof_script.specs.Tasks.{Out, Turn}
use Rattle.sof_session.specs.Lives.{Life, Bare, Turns, device_of, Exit}
use Rattle.sof_stress.specs.declared.counts.Counts.{Counts}
use Rattle.sof_stress.specs.CarriedTurns.{tasks_of}
use Rattle.sof_stress.specs.GraphParts.{stress_plan}
use Rattle.sof_stress.specs.StressRun.{stress_begins, stress_turns, sent_in, stress_counts}

-- The device was handed in bare and is handed back after the turns of the stress, in their order and no others; the numbers are
-- those of the result of each. The plan is sound.
pub record Stresses {P : Type 0} (means : Meaning P) (seed : ℕ) (p : P) (counts : Counts) (q : P) : Type 0 where
  pub last : Life P
  pub is : device_of last ≡ q
  pub exit : Exit means p last
  pub sound : IsSound (stress_plan seed)
  pub begun : Out
  pub turns : List Turn
  pub turned : Turns means (Bare p) (record { task = stress_begins (means.most p) seed; out = begun } ∷ turns) last
  pub tasks : map (λ (turn : Turn). turn.task) turns ≡ tasks_of (stress_turns seed)
  pub numbers : counts ≡ stress_counts seed (sent_in last) (map (λ (turn : Turn). turn.out) turns)
