-- The calls made on a device, in order.
use Rattle.std.specs.Prelude.{◌≡◌, ◌+◌, ◌-◌, ◌*◌, ◌≤◌, ℕ, List, [], ◌∷◌, Option, Some, None}
use Rattle.sof_base.specs.Ports.{InputView, OutputView, Io, HasRoom}
use Rattle.sof_base.specs.declared.limits.TheConstants.{TURN_BYTES}
use Rattle.stream_law.specs.State.{FwState}
use Rattle.stream_law.specs.Stands.{position_of}
use Rattle.mbox_link.specs.Step.{fresh}
use Rattle.mbox_link.specs.Exchange.{ticked, ticks, Stepped, Rose, NoneFell, more}

-- a device with the endpoints' bytes
pub record World (D : Type 0) : Type 0 where
  pub device : D
  pub io : Io

abbrev pub world : {D : Type 0} → D → List InputView → List OutputView → World D
world device inputs outputs = record { device = device; io = record { inputs = inputs; outputs = outputs } }

-- what a device means: its state, its counts, and what each call does and answers
pub record Meaning (D : Type 0) : Type 1 where
  pub on : D → Option FwState  -- off, or on with a state
  pub faults : D → List ℕ  -- how often the link failed, at each link on the way
  pub refusals : D → List ℕ  -- how often a message was refused that the firmware would have taken, at each link on the way
  pub boots : D → ℕ  -- how often it was booted
  pub pending : D → ℕ  -- the ticks that it may yet put before messages
  pub most : D → ℕ  -- the greatest heap, in bytes
  pub boot : ℕ → D → D → Type 0
  pub cut : D → D → Type 0
  pub exchange : List ℕ → Option (List ℕ) → World D → World D → Type 0
  pub tick : World D → World D → Type 0

-- a call, with its arguments and its answer
pub data Call : Type 0 where
  Boot : (heap : ℕ) → Call
  Cut : Call
  Exchange : (request : List ℕ) → (answer : Option (List ℕ)) → Call
  Tick : Call

-- what every call keeps: no count falls, `pending` does not rise, and the greatest heap stays
pub record Steady {D : Type 0} (means : Meaning D) (old new : D) : Type 0 where
  pub faults : NoneFell (means.faults old) (means.faults new)
  pub refusals : NoneFell (means.refusals old) (means.refusals new)
  pub boots : means.boots old ≤ means.boots new
  pub pending : means.pending new ≤ means.pending old
  pub most : means.most new ≡ means.most old

-- what every call but an exchange keeps
pub record Quiet {D : Type 0} (means : Meaning D) (old new : D) : Type 0 where
  pub faults : means.faults new ≡ means.faults old
  pub refusals : means.refusals new ≡ means.refusals old
  pub pending : means.pending new ≡ means.pending old
  pub most : means.most new ≡ means.most old

-- the position of no input rises by more than so many bytes
abbrev pub MovesBy : ℕ → List InputView → List InputView → Type 0
MovesBy most old new = (slot : ℕ) → position_of new slot ≤ position_of old slot + most

-- what a boot does
pub record BootedDevice {D : Type 0} (means : Meaning D) (heap : ℕ) (old new : D) : Type 0 where
  pub did : means.boot heap old new
  pub on : means.on new ≡ Some (fresh heap)
  pub boots : means.boots new ≡ more (means.boots old)
  pub no_fewer : means.boots old ≤ means.boots new
  pub quiet : Quiet means old new

-- what a cut does
pub record CutOff {D : Type 0} (means : Meaning D) (old new : D) : Type 0 where
  pub did : means.cut old new
  pub on : means.on new ≡ None
  pub boots : means.boots new ≡ means.boots old
  pub quiet : Quiet means old new

-- What an exchange does and answers: the ticks that `pending` fell by, and then the step or none.
pub record Exchanged {D : Type 0} (means : Meaning D) (request : List ℕ) (answer : Option (List ℕ)) (w v : World D) : Type 0 where
  pub did : means.exchange request answer w v
  pub step : (s : FwState) → means.on w.device ≡ Some s → Stepped (Rose (means.refusals w.device) (means.refusals v.device)) (Rose (means.faults w.device) (means.faults v.device)) (ticks (means.pending w.device - means.pending v.device) (s, w.io)) request answer (means.on v.device) v.io
  pub room : (n : ℕ) → HasRoom (TURN_BYTES * means.pending w.device + n) w.io.outputs → HasRoom (TURN_BYTES * means.pending v.device + n) v.io.outputs
  pub moves : MovesBy (TURN_BYTES * (means.pending w.device - means.pending v.device)) w.io.inputs v.io.inputs
  pub boots : means.boots v.device ≡ means.boots w.device
  pub steady : Steady means w.device v.device

-- what a tick does
pub record Ticked {D : Type 0} (means : Meaning D) (w v : World D) : Type 0 where
  pub did : means.tick w v
  pub on : (s : FwState) → means.on w.device ≡ Some s → (means.on v.device ≡ Some (ticked (s, w.io)).0) × (v.io ≡ (ticked (s, w.io)).1)
  pub off : means.on w.device ≡ None → (means.on v.device ≡ None) × (v.io ≡ w.io)
  pub room : (n : ℕ) → HasRoom (n + TURN_BYTES) w.io.outputs → HasRoom n v.io.outputs
  pub moves : MovesBy TURN_BYTES w.io.inputs v.io.inputs
  pub boots : means.boots v.device ≡ means.boots w.device
  pub quiet : Quiet means w.device v.device

-- what a call does
abbrev pub Did : {D : Type 0} → Meaning D → Call → World D → World D → Type 0
Did means (Boot heap) w v = BootedDevice means heap w.device v.device × (v.io ≡ w.io)
Did means Cut w v = CutOff means w.device v.device × (v.io ≡ w.io)
Did means (Exchange request answer) w v = Exchanged means request answer w v
Did means Tick w v = Ticked means w v

-- these calls, in this order and no others, lead from one world to another
abbrev pub Led : {D : Type 0} → Meaning D → World D → List Call → World D → Type 0
Led means w [] v = v ≡ w
Led {D} means w (call ∷ calls) v = (m : World D) × Did means call w m × Led means m calls v
