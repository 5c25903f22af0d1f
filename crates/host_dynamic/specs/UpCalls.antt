-- What making and unmaking did, over any device.
use Rattle.std.specs.Prelude.{◌≡◌, ℕ, List, [], ◌∷◌, Ok, Err}
use Rattle.stream_law.specs.Past.{Cut}
use Rattle.mbox_link.specs.Calls.{World, Meaning, Led}
use Rattle.tplg_plan.specs.declared.plans.Plan.{Plan}
use Rattle.host_widgets.specs.declared.answers.HostFault.TheVariants.{Refused}
use Rattle.host_widgets.specs.declared.kept.Power.{Power}
use Rattle.host_widgets.specs.declared.kept.Power.TheVariants as powers
use Rattle.host_widgets.specs.declared.kept.Record.{Record}
use Rattle.host_widgets.specs.ActCalls.{calls_of}
use Rattle.host_widgets.specs.Host.{Outcome}
use Rattle.host_widgets.specs.Kept.{went_down}
use Rattle.host_widgets.specs.Walk.{first_of}
use Rattle.host_widgets.specs.UpActs.{making_acts, unmaking_acts}
use Rattle.host_widgets.specs.HostActs.{Act}
use Rattle.host_widgets.specs.MadeLists.{ActsPassed, MadeListed}

-- the device was cut, and the record taken down
abbrev pub WasCut : {D : Type 0} → Meaning D → ℕ → Record → Record → World D → World D → Type 0
WasCut means heap kept kept' w v = (kept' ≡ went_down kept) × Led means w (calls_of heap (Cut ∷ [])) v

-- where all passed, nothing more is done; after a failure this is
abbrev pub CutAtFailure : {D : Type 0} → Meaning D → ℕ → Outcome → Record → Record → World D → World D → Type 0
CutAtFailure means heap (Ok passed) kept kept' w v = (kept' ≡ kept) × (v ≡ w)
CutAtFailure means heap (Err fault) kept kept' w v = WasCut means heap kept kept' w v

-- what these ids name was unmade, up to the first message that did not pass; a failure cut the device
pub record Unmade {D : Type 0} (means : Meaning D) (plan : Plan) (heap : ℕ) (ids : List ℕ) (kept kept' : Record) (w v : World D) (result : Outcome) : Type 0 where
  pub passed : List Act
  pub sent : World D
  pub did : ActsPassed means plan (unmaking_acts plan ids) passed w sent result
  pub ends : CutAtFailure means heap result kept kept' sent v

-- what comes after what was made, by the result of making
abbrev pub AfterMaking : {D : Type 0} → Meaning D → Plan → ℕ → List ℕ → Outcome → Record → Record → World D → World D → Outcome → Type 0
AfterMaking means plan heap made (Ok passed) kept kept' w v result = (result ≡ Ok tt) × (kept' ≡ kept) × (v ≡ w)
AfterMaking means plan heap made (Err (Refused e)) kept kept' w v result =
    (done : Outcome) × Unmade means plan heap made kept kept' w v done × (result ≡ first_of (Err (Refused e)) done)
AfterMaking means plan heap made (Err fault) kept kept' w v result = (result ≡ Err fault) × WasCut means heap kept kept' w v

-- the pipelines of these indices were made; after a refusal what was made is unmade, and a failed link cuts the device
pub record MadeOrCut {D : Type 0} (means : Meaning D) (plan : Plan) (heap : ℕ) (indices : List ℕ) (kept kept' : Record) (w v : World D) (result : Outcome) : Type 0 where
  pub made : List ℕ
  pub outcome : Outcome
  pub mid : World D
  pub listed : MadeListed means plan (making_acts plan kept indices) [] made w mid outcome
  pub rest : AfterMaking means plan heap made outcome kept kept' mid v result

-- so where the power is on; else nothing is done
abbrev pub MadeWhereOn : {D : Type 0} → Meaning D → Plan → ℕ → List ℕ → Power → Record → Record → World D → World D → Outcome → Type 0
MadeWhereOn means plan heap indices powers.On kept kept' w v result = MadeOrCut means plan heap indices kept kept' w v result
MadeWhereOn means plan heap indices power kept kept' w v result = (kept' ≡ kept) × (v ≡ w) × (result ≡ Ok tt)

-- what these ids name was unmade where the power is on; else nothing is done
abbrev pub UnmadeWhereOn : {D : Type 0} → Meaning D → Plan → ℕ → List ℕ → Power → Record → Record → World D → World D → Outcome → Type 0
UnmadeWhereOn means plan heap ids powers.On kept kept' w v result = Unmade means plan heap ids kept kept' w v result
UnmadeWhereOn means plan heap ids power kept kept' w v result = (kept' ≡ kept) × (v ≡ w) × (result ≡ Ok tt)
