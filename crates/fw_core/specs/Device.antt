-- The firmware as a value, and what each call does to it.
use Rattle.std.specs.Prelude.{◌≡◌, ℕ, List, [], Option, Some, None}
use Rattle.stream_law.specs.State.{FwState}
use Rattle.fw_heap.specs.declared.run.Home.{Home}
use Rattle.mbox_link.specs.Step.{step, fresh}
use Rattle.mbox_link.specs.Exchange.{ticked, more}
use Rattle.mbox_link.specs.Calls.{World, Meaning}
use Rattle.row_laws.specs.Tiled.{carved_bytes}

-- a firmware: off, or on with a state; how often it was booted; the greatest heap in bytes; and the region of its heap
pub record FirmwareView : Type 0 where
  pub state : Option FwState
  pub boots : ℕ
  pub most : ℕ
  pub home : Home

-- how many bytes of its heap are carved, 0 where it is off
abbrev pub used_of : Option FwState → ℕ
used_of None = 0
used_of (Some f) = carved_bytes f.heap.pieces

-- after a message: the step's state, and its reply
abbrev pub stepped : Option FwState → List ℕ → Option FwState
stepped None request = None
stepped (Some f) request = Some (step f request).0

abbrev pub reply_to : Option FwState → List ℕ → Option (List ℕ)
reply_to None request = None
reply_to (Some f) request = Some (step f request).1

-- the firmware with another state
abbrev pub with_state : Option FwState → FirmwareView → FirmwareView
with_state state view = record view { state = state }

-- after a tick, which moves nothing where it is off
abbrev pub after_tick : Option FwState → World FirmwareView → World FirmwareView
after_tick None w = w
after_tick (Some f) w = record { device = with_state (Some (ticked (f, w.io)).0) w.device; io = (ticked (f, w.io)).1 }

-- it has no link that can fail or refuse
abbrev pub firmware : Meaning FirmwareView
firmware =
    record {
      on = λ view. view.state;
      faults = λ view. [];
      refusals = λ view. [];
      boots = λ view. view.boots;
      pending = λ view. 0;
      most = λ view. view.most;
      boot = λ heap w v. v ≡ record w { state = Some (fresh heap); boots = more w.boots };
      cut = λ w v. v ≡ with_state None w;
      exchange = λ request answer w v. (answer ≡ reply_to w.device.state request) × (v ≡ record { device = with_state (stepped w.device.state request) w.device; io = w.io });
      tick = λ w v. v ≡ after_tick w.device.state w;
    }
