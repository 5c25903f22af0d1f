-- The host's side of a call, before it and after it.
use Rattle.std.specs.Prelude.{◌≡◌, ◌*◌, is_some, true}
use Rattle.sof_base.specs.Ports.{HasRoom}
use Rattle.sof_base.specs.declared.limits.TheConstants.{TURN_BYTES}
use Rattle.mbox_link.specs.Calls.{World, Meaning, world}
use Rattle.tplg_plan.specs.Sound.{IsSound}
use Rattle.host_widgets.specs.declared.host_call.HostCall.{HostCall}
use Rattle.host_widgets.specs.declared.kept.Power.TheVariants.{On}
use Rattle.host_widgets.specs.Host.{IsRecordOf}

-- the device and the endpoints of a side
abbrev pub world_of : {P : Type 0} → HostCall P → World P
world_of side = world side.dsp.now side.io.now side.out.now

-- a call may begin: the plan is sound, the record is one of it, the device is on where the record says so, and the outputs have room for
-- the ticks that may come
pub record IsReady {P : Type 0} (means : Meaning P) (side : HostCall P) : Type 0 where
  pub plan : IsSound side.plan.now
  pub record_is : IsRecordOf side.plan.now side.kept.now
  pub on : side.kept.now.power ≡ On → is_some (means.on side.dsp.now) ≡ true
  pub room : HasRoom (TURN_BYTES * means.pending side.dsp.now) side.out.now

-- it has the same plan and heap, and refers to the same record, device and endpoints
pub record SameSide {P : Type 0} (old new : HostCall P) : Type 0 where
  pub plan : new.plan ≡ old.plan
  pub heap : new.heap ≡ old.heap
  pub kept : new.kept.ghost_name ≡ old.kept.ghost_name
  pub dsp : new.dsp.ghost_name ≡ old.dsp.ghost_name
  pub io : new.io.ghost_name ≡ old.io.ghost_name
  pub out : new.out.ghost_name ≡ old.out.ghost_name
