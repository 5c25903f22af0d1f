-- After a fate or a lag was planned the two sides agree again, and the rest stays.
use Rattle.std.proofs.Common.{◌≡◌, ℕ, ◌+◌, List, Bool, true, ℤ, pos, negsuc, Option, Some, None, Result, Ok, Err, refl, sym, subst, arith}
use Rattle.std.specs.Prelude.{nat_le}
use Rattle.std.proofs.lemmas.Bool.{and_parts, false≢true, leb-true, ltb-true}
use Rattle.sof_base.specs.Ports.{Io}
use Rattle.mbox_link.specs.declared.fates.Entry.{Entry}
use Rattle.mbox_link.specs.declared.fates.Fate.{Fate}
use Rattle.mbox_link.specs.declared.fates.PlanFull.{PlanFull}
use Rattle.mbox_link.specs.Fates.{IsMeant, IsError, AreHeld}
use Rattle.mbox_link.specs.Meetings.{has_room, has_lag_room, lags, planned, with_fate, with_lag, without_entry}
use Rattle.mbox_link.specs.Calls.{Meaning}
use Rattle.mbox_link.specs.Wire.{Wire}
use Rattle.mbox_link.specs.Planned.{Planned, LagPlanned, PlannedSo, holding}
use Rattle.mbox_link.proofs.FateLaws.{AreHeld-with, lags-planned, planned-meant}
use Rattle.host_widgets.specs.declared.kept.Power.{Power}
use Rattle.host_widgets.specs.declared.kept.Power.TheVariants.{Unloaded}
use Rattle.sof_session.specs.Agreement.{AreAgreed, Powered, PoweredBy}
use Rattle.sof_session.specs.CommandRanges.{is_refusal}
use Rattle.sof_session.specs.SessionView.{SessionView}
use Rattle.sof_session.specs.SessionCalls.{Stays}

-- an error of a script is one of a refusal
pub is-error : (e : ℤ) → is_refusal e ≡ true → IsError e
is-error (pos n) is = absurd (false≢true is)
is-error (negsuc n) is = record { code = n; small = omega (arith, ltb-true n 4095 is); is = refl }

-- ---- what is held

-- a fate leaves the lag
held-fate : (number : ℕ) (fate : Fate) (entries : List Entry) → AreHeld entries → IsMeant fate → AreHeld (with_fate number fate entries)
held-fate number fate entries held meant =
    let lag = (planned entries number).lag in
    AreHeld-with (record { number = number; fate = fate; lag = lag }) entries held meant (omega (arith, held.few, lags-planned number entries held.apart))

-- and a lag the fate, where there is room for it
held-lag : (number ticks : ℕ) (entries : List Entry) → AreHeld entries → has_lag_room number ticks entries ≡ true → AreHeld (with_lag number ticks entries)
held-lag number ticks entries held room =
    let fits = (and_parts (has_room number entries) (nat_le (lags (without_entry number entries) + ticks) 16) room).1 in
    AreHeld-with (record { number = number; fate = (planned entries number).fate; lag = ticks }) entries held (planned-meant number entries held.meant) (leb-true (lags (without_entry number entries) + ticks) 16 fits)

-- ---- both sides

module _ {P : Type 0} (means : Meaning P) (old : SessionView P) where
  abbrev pub seat_by : Wire P → SessionView P
  seat_by wire = record { link = wire; kept = old.kept; plan = old.plan; heap = old.heap; up = old.up }

  module _ (agreed : AreAgreed means old) where
    load-powered : (entries : List Entry) (power : Power) → Powered means old power → Powered means (seat_by (holding old.link entries)) power
    load-powered entries Unloaded powered = powered
    load-powered entries power powered = powered

    powered-with : (entries : List Entry) (up : Option (List ℕ)) → PoweredBy means old up → PoweredBy means (seat_by (holding old.link entries)) up
    powered-with entries None powered = load-powered entries old.kept.power powered
    powered-with entries (Some up) powered = powered

    agreed-with : (entries : List Entry) → AreHeld entries → AreAgreed means (seat_by (holding old.link entries))
    agreed-with entries held = record {
      agree = agreed.agree;
      powered = powered-with entries old.up agreed.powered;
      room = agreed.room;
      pending = agreed.pending;
      fated = record { held = held; dropped = agreed.fated.dropped; refused = agreed.fated.refused; counted = agreed.fated.counted };
      sound = agreed.sound;
    }

    agreed-so : (room : Bool) (entries : List Entry) → (room ≡ true → AreHeld entries) → (wire : Wire P) (outcome : Result (Unit {0}) PlanFull) → PlannedSo room entries old.link outcome wire → AreAgreed means (seat_by wire)
    agreed-so room entries held wire (Ok done) plan = subst (λ (l : Wire P). AreAgreed means (seat_by l)) (sym plan.1) (agreed-with entries (held plan.0))
    agreed-so room entries held wire (Err full) plan = subst (λ (l : Wire P). AreAgreed means (seat_by l)) (sym plan.1) agreed

    pub AreAgreed-planned : (k : ℕ) (fate : Fate) → IsMeant fate → (wire : Wire P) (outcome : Result (Unit {0}) PlanFull) → Planned k fate old.link outcome wire → AreAgreed means (seat_by wire)
    AreAgreed-planned k fate meant wire outcome plan =
        let n = old.link.sent + k in
        agreed-so (has_room n old.link.entries) (with_fate n fate old.link.entries) (λ room. held-fate n fate old.link.entries agreed.fated.held meant) wire outcome plan

    pub AreAgreed-lagged : (k ticks : ℕ) (wire : Wire P) (outcome : Result (Unit {0}) PlanFull) → LagPlanned k ticks old.link outcome wire → AreAgreed means (seat_by wire)
    AreAgreed-lagged k ticks wire outcome plan =
        let n = old.link.sent + k in
        agreed-so (has_lag_room n ticks old.link.entries) (with_lag n ticks old.link.entries) (held-lag n ticks old.link.entries agreed.fated.held) wire outcome plan

    -- what that leaves, whatever the endpoints are
    pub link-stays : (wire : Wire P) → AreAgreed means (seat_by wire) → (io : Io) → Stays means old (seat_by wire) io io
    link-stays wire later io = record { agreed = agreed; later = later; plan = refl; heap = refl; mode = refl; slots = refl; ends = refl; still = λ none. refl }
