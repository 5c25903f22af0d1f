-- A device that keeps the records of its calls: it means what the device in it means.
use Rattle.std.specs.Prelude.{◌≡◌, ℕ, Bool, true, false, List, is_some}
use Rattle.mbox_link.specs.Calls.{World, Meaning, BootedDevice, CutOff, Exchanged, Ticked}
use Rattle.ipc3_trace.specs.declared.entry.Entry.TheVariants.{Boot, Cut, Tick}
use Rattle.ipc3_trace.specs.AlongCalls.{back_of}
use Rattle.ipc3_trace.specs.Records.{IsEntry, record_bytes}
use Rattle.ipc3_trace.specs.HeldRecords.{HeldRecords, no_records, kept, kept_exchange}

-- a device with the records of the calls on it
pub record Traced (P : Type 0) : Type 0 where
  pub device : P
  pub held : HeldRecords

-- a tracer over a device, which holds no record
abbrev pub new_tracer : {P : Type 0} → P → Traced P
new_tracer dsp = record { device = dsp; held = no_records }

-- the device in it, with the endpoints' bytes
abbrev pub traced : {P : Type 0} → World (Traced P) → World P
traced w = record { device = w.device.device; io = w.io }

-- ---- the records that each call adds

-- of a device that is off, a cut and a tick add none
abbrev pub kept_where : Bool → List ℕ → HeldRecords → HeldRecords
kept_where true piece held = kept piece held
kept_where false piece held = held

-- another device, and records that were kept
abbrev pub with_records : {P : Type 0} → P → HeldRecords → Traced P
with_records dsp held = record { device = dsp; held = held }

-- ---- what it means: each record that is kept is one that a reader takes

abbrev pub tracer : {P : Type 0} → Meaning P → Meaning (Traced P)
tracer means =
    record {
      on = λ t. means.on t.device;
      faults = λ t. means.faults t.device;
      refusals = λ t. means.refusals t.device;
      boots = λ t. means.boots t.device;
      pending = λ t. means.pending t.device;
      most = λ t. means.most t.device;
      boot = λ heap t u. BootedDevice means heap t.device u.device × IsEntry (Boot heap) × (u ≡ with_records u.device (kept (record_bytes (Boot heap)) t.held));
      cut = λ t u. CutOff means t.device u.device × (u ≡ with_records u.device (kept_where (is_some (means.on t.device)) (record_bytes Cut) t.held));
      exchange = λ request answer w v.
          Exchanged means request answer (traced w) (traced v) × IsEntry (back_of answer)
          × (v.device ≡ with_records v.device.device (kept_exchange request (record_bytes (back_of answer)) w.device.held));
      tick = λ w v.
          Ticked means (traced w) (traced v)
          × (v.device ≡ with_records v.device.device (kept_where (is_some (means.on w.device.device)) (record_bytes Tick) w.device.held));
    }

-- it holds no record once it was drained, and its device is as it was
abbrev pub Emptied : {P : Type 0} → Traced P → Traced P → Type 0
Emptied old new = new ≡ new_tracer old.device
