-- A link over a device, whose messages meet their planned lags and fates.
use Rattle.std.specs.Prelude.{◌≡◌, ℕ, ◌+◌, List, ◌∷◌, replicate, Option, Some, None}
use Rattle.mbox_link.specs.Step.{error_reply}
use Rattle.mbox_link.specs.Exchange.{more}
use Rattle.mbox_link.specs.Calls.{World, Meaning, BootedDevice, CutOff, Exchanged, Ticked, Tick, Led}
use Rattle.mbox_link.specs.declared.fates.Fate.{Fate}
use Rattle.mbox_link.specs.declared.fates.Fate.TheVariants.{Pass, Refuse, Drop, Lose}
use Rattle.mbox_link.specs.Meetings.{planned, without_entry, lags}
use Rattle.mbox_link.specs.Wire.{Wire}

-- the device after the link, with the endpoints' bytes
abbrev pub inner : {P : Type 0} → World (Wire P) → World P
inner w = record { device = w.device.device; io = w.io }

-- what a message of this fate does: the device's own exchange, or none
abbrev pub Met : {P : Type 0} → Meaning P → Fate → List ℕ → Option (List ℕ) → World P → World P → Type 0
Met means Pass request answer w v = Exchanged means request answer w v
Met means (Refuse e) request answer w v = (answer ≡ Some (error_reply e)) × (v ≡ w)
Met means Drop request answer w v = (answer ≡ None) × (v ≡ w)
Met {P} means Lose request answer w v = (answer ≡ None) × (lost : Option (List ℕ)) × Exchanged means request lost w v

-- what a message of this lag and fate does: so many ticks of the device come first, one after another
abbrev pub MetLate : {P : Type 0} → Meaning P → ℕ → Fate → List ℕ → Option (List ℕ) → World P → World P → Type 0
MetLate {P} means lag fate request answer w v = (m : World P) × Led means w (replicate lag Tick) m × Met means fate request answer m v

-- the counts of the link's own failures
abbrev pub dropped_after : Fate → ℕ → ℕ
dropped_after Drop count = more count
dropped_after Lose count = more count
dropped_after Pass count = count
dropped_after (Refuse e) count = count

abbrev pub refused_after : Fate → ℕ → ℕ
refused_after (Refuse e) count = more count
refused_after Pass count = count
refused_after Drop count = count
refused_after Lose count = count

-- the link with another device in it, and all else the same
abbrev pub over : {P : Type 0} → Wire P → P → Wire P
over link dsp = record { device = dsp; entries = link.entries; sent = link.sent; dropped = link.dropped; refused = link.refused }

-- the fate and the lag of the message that comes next
abbrev pub next_fate : {P : Type 0} → Wire P → Fate
next_fate link = (planned link.entries (more link.sent)).fate

abbrev pub next_lag : {P : Type 0} → Wire P → ℕ
next_lag link = (planned link.entries (more link.sent)).lag

-- the link after a message
abbrev pub after_message : {P : Type 0} → Wire P → P → Wire P
after_message link dsp = record {
  device = dsp;
  entries = without_entry (more link.sent) link.entries;
  sent = more link.sent;
  dropped = dropped_after (next_fate link) link.dropped;
  refused = refused_after (next_fate link) link.refused;
}

abbrev pub link : {P : Type 0} → Meaning P → Meaning (Wire P)
link means =
    record {
      on = λ l. means.on l.device;
      faults = λ l. l.dropped ∷ means.faults l.device;
      refusals = λ l. l.refused ∷ means.refusals l.device;
      boots = λ l. means.boots l.device;
      pending = λ l. lags l.entries + means.pending l.device;
      most = λ l. means.most l.device;
      boot = λ heap w v. BootedDevice means heap w.device v.device × (v ≡ over w v.device);
      cut = λ w v. CutOff means w.device v.device × (v ≡ over w v.device);
      exchange = λ request answer w v.
          MetLate means (next_lag w.device) (next_fate w.device) request answer (inner w) (inner v)
          × (v.device ≡ after_message w.device v.device.device);
      tick = λ w v. Ticked means (inner w) (inner v) × (v.device ≡ over w.device v.device.device);
    }
