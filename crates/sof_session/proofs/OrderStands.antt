-- An order that was carried out over a link: where the device and the endpoints stand after it, by its written moments.
use Rattle.std.proofs.Common.{◌≡◌, ◌⊎◌, inl, inr, ⊎_elim, refl, sym, ap, ◌∙◌, subst, ℕ, ◌+◌, ◌<◌, ◌-◌, ◌^◌, Bool, false, List, [], ◌∷◌, ◌++◌, length, Option, Some, None, Ok, Err}
use Rattle.std.proofs.lemmas.List.{append-nil, append_assoc}
use Rattle.sof_base.specs.Ports.{Io}
use Rattle.stream_law.specs.State.{FwState}
use Rattle.stream_law.specs.Past.{Moment, Cut}
use Rattle.stream_law.specs.Viewing.{IsPlayable}
use Rattle.mbox_link.specs.Calls.{World, Meaning, Led}
use Rattle.mbox_link.specs.Wire.{Wire}
use Rattle.mbox_link.specs.Link.{link}
use Rattle.mbox_link.specs.Meetings.{Doing, Meeting}
use Rattle.tplg_plan.specs.declared.plans.Plan.{Plan}
use Rattle.tplg_plan.specs.Sound.{IsSound}
use Rattle.host_widgets.specs.declared.answers.Answer.{Answer}
use Rattle.host_widgets.specs.declared.answers.HostFault.TheVariants.{Refused, LinkDown}
use Rattle.host_widgets.specs.declared.kept.Record.{Record}
use Rattle.host_widgets.specs.Host.{Outcome, IsRecordOf}
use Rattle.host_widgets.specs.Keeps.{KeepsRecord}
use Rattle.host_widgets.specs.HostActs.{Act, after}
use Rattle.host_widgets.specs.ViewOf.{record_view}
use Rattle.host_widgets.specs.OneAct.{act_rules}
use Rattle.host_widgets.specs.Walk.{Walked, walk}
use Rattle.host_widgets.specs.ActCalls.{ActsDid, next_of, calls_of}
use Rattle.host_widgets.specs.Orders.{Procedure, Plain, Carried, goes_on_after_refusal, plain_end, end_by}
use Rattle.host_widgets.proofs.StandingOn.{StandsOn, ReadsOn, cut-stands}
use Rattle.host_widgets.proofs.OneActLaws.{AreReady}
use Rattle.host_widgets.proofs.SoundPlays.{sound-plays}
use Rattle.host_widgets.proofs.WalksHold.{ByLink, AreTaken, HaveLaw}
use Rattle.host_widgets.specs.Routines.{order_job}
use Rattle.host_widgets.proofs.OrderJobs.{order-done}
use Rattle.sof_session.specs.Agreement.{IsFated}
use Rattle.sof_session.specs.Commands.{carried, command_rules}
use Rattle.sof_session.specs.SessionStep.{known_of}
use Rattle.sof_session.proofs.JobWalks.{job_doing, job-moments}
use Rattle.sof_session.proofs.WalkStands.{Held, HeldBy, LeadOn, walk-stands}

-- ---- acts

module _ (plan : Plan) (heap : ℕ) (goes_on : Bool) (sound : IsSound plan) where
  -- those that the firmware takes by the record lead on where it keeps the record
  taken-lead : (acts : List Act) (kept : Record) → HaveLaw plan goes_on kept acts → (f : FwState) → KeepsRecord plan heap kept f → AreReady plan goes_on acts f → LeadOn (act_rules plan heap) goes_on (KeepsRecord plan heap) acts kept f
  taken-lead [] kept law f keeps ready = keeps
  taken-lead (act ∷ acts) kept law f keeps ready = (
    subst IsPlayable (sym keeps.view) (sound-plays plan sound kept (record_view plan kept).streams),
    λ g same.
        let now : KeepsRecord plan heap kept g = record { view = same.view ∙ keeps.view; pieces = same.heap ∙ keeps.pieces; rings = same.buffers ∙ keeps.rings } in
        let r = ready g same.staging in (
          now,
          λ free h done.
              let l = law.0.leaves g h now.view now.rings r.0 done in
              (l.stands, taken-lead acts (after plan act kept) (law.1 l.record_now) h record { view = l.shows_now; pieces = l.heap ∙ now.pieces; rings = l.rings } (r.1 h done)),
          λ goes. taken-lead acts kept (law.2 goes) g now (r.2 goes),
        ),
  )

  -- so over any device
  pub walk-holds : {D : Type 0} (means : Meaning D) (acts : List Act) (ms : List Meeting) (kept : Record) (w v : World D) → ActsDid means (act_rules plan heap) goes_on kept acts ms w v → AreTaken plan goes_on kept acts →
      (f : FwState) → means.on w.device ≡ Some f → KeepsRecord plan heap kept f → HeldBy means (KeepsRecord plan heap) f w v (walk (act_rules plan heap) goes_on next_of kept ms acts)
  walk-holds means acts ms kept w v did taken f on keeps = walk-stands (act_rules plan heap) goes_on (KeepsRecord plan heap) means acts ms kept w v did f on (taken-lead acts kept taken.each f keeps (taken.ready f))

-- ---- how an order ends

-- alone: a failed link cuts the device, and else nothing more is done
pub plain-ends : (done : Record → Record) (now : Record) (o : Outcome) (Up Down : Type 0) → ByLink o Up Down → (((plain_end done now o).1 ≡ Cut ∷ []) × Down) ⊎ (Up × ((plain_end done now o).1 ≡ []))
plain-ends done now (Ok all) Up Down x = inr (x, refl)
plain-ends done now (Err LinkDown) Up Down x = inl (refl, x)
plain-ends done now (Err (Refused e)) Up Down x = inr (x, refl)
plain-ends done now (Err fault) Up Down x = inr (x, refl)

-- what is so where the link failed is so of all
pub by-down : (o : Outcome) (Up Down : Type 0) → (Up → Down) → ByLink o Up Down → Down
by-down (Ok all) Up Down f x = f x
by-down (Err LinkDown) Up Down f x = x
by-down (Err (Refused e)) Up Down f x = f x
by-down (Err fault) Up Down f x = f x

-- ---- over a link

module _ {P : Type 0} (means : Meaning P) (heap : ℕ) (plan : Plan) (o : Procedure) (kept kept' : Record) (w v : World (Wire P)) (result : Outcome) (c : Carried (link means) plan heap o kept kept' w v result) where
  abbrev pub met : Walked Record Act (List Meeting)
  met = walk (act_rules plan heap) (goes_on_after_refusal o.ending) next_of kept c.meetings o.acts

  abbrev pub last : List Moment
  last = (end_by o.ending plan o.done kept met.kept met.outcome).1

  -- what ends with a cut leaves the device off
  pub cut-off : last ≡ Cut ∷ [] → means.on v.device.device ≡ None
  cut-off cuts =
      let one = subst (λ (ms : List Moment). Led (link means) c.sent (calls_of heap ms) v) cuts c.ends.1 in
      ap (λ (x : World (Wire P)). means.on x.device.device) one.2 ∙ one.1.0.on

  -- and the endpoints as they are
  pub cut-io : last ≡ Cut ∷ [] → v.io ≡ c.sent.io
  cut-io cuts =
      let one = subst (λ (ms : List Moment). Led (link means) c.sent (calls_of heap ms) v) cuts c.ends.1 in
      ap (λ (x : World (Wire P)). x.io) one.2 ∙ one.1.1

  module _ (none : means.pending w.device.device ≡ 0) (fated : IsFated w.device) (few : w.device.sent + length c.meetings < 2 ^ 64 - 1) where
    abbrev pub doing : Doing
    doing = job_doing means (command_rules plan heap) heap (order_job plan kept o) kept kept' w v result (order-done (link means) plan heap o kept kept' w v result c) none fated few

    abbrev pub written : List Moment
    written = (carried (command_rules plan heap) doing (known_of w.device kept) (order_job plan (known_of w.device kept).kept o)).moments

    -- the written moments are those of what the messages met
    pub moments-are : o.first ++ (met.moments ++ last) ≡ written
    moments-are = job-moments means (command_rules plan heap) heap (order_job plan kept o) kept kept' w v result (order-done (link means) plan heap o kept kept' w v result c) none fated few

    -- the device is off, whatever the result of its acts
    pub cut-leads : (device : Option FwState) → last ≡ Cut ∷ [] → ReadsOn device w.io c.sent.io (o.first ++ met.moments) → StandsOn device w.io (means.on v.device.device) v.io written
    cut-leads device cuts reads =
        let all = append_assoc o.first met.moments (Cut ∷ []) ∙ (λ i. o.first ++ (met.moments ++ sym cuts i)) ∙ moments-are in
        subst (λ (x : Option FwState × Io × List Moment). StandsOn device w.io x.0 x.1 x.2) (λ i. (sym (cut-off cuts) i, sym (cut-io cuts) i, all i)) (cut-stands device w.io c.sent.io (o.first ++ met.moments) reads)

-- ---- one that sends acts alone

-- with this record once all passed
abbrev pub sending : List Act → (Record → Record) → Answer → Procedure
sending acts done answer = record { first = []; acts = acts; ending = Plain; done = done; answer = answer }

module _ {P : Type 0} (means : Meaning P) (heap : ℕ) (plan : Plan) (sound : IsSound plan) (acts : List Act) (done : Record → Record) (answer : Answer) (kept kept' : Record) (w v : World (Wire P)) (result : Outcome)
    (c : Carried (link means) plan heap (sending acts done answer) kept kept' w v result)
    (f : FwState) (on : means.on w.device.device ≡ Some f) (is : IsRecordOf plan kept) (keeps : KeepsRecord plan heap kept f) (taken : AreTaken plan false kept acts) where
  abbrev o : Procedure
  o = sending acts done answer

  abbrev sent : Walked Record Act (List Meeting)
  sent = met means heap plan o kept kept' w v result c

  -- its messages reached a device that is as it was
  held : HeldBy (link means) (KeepsRecord plan heap) f w c.sent sent
  held = subst (λ (x : World (Wire P)). HeldBy (link means) (KeepsRecord plan heap) f x c.sent sent) c.first
      (walk-holds plan heap false sound (link means) acts c.meetings kept c.begun c.sent c.walked taken f (ap (λ (x : World (Wire P)). means.on x.device.device) c.first ∙ on) keeps)

  abbrev HeldSo : Type 0
  HeldSo = Held (link means) (KeepsRecord plan heap sent.kept) f w c.sent sent.moments

  abbrev ReadSo : Type 0
  ReadSo = ReadsOn (Some f) w.io c.sent.io sent.moments

  -- it is on in a state that keeps the plan, and nothing more was done
  pub record IsUp : Type 0 where
    pub state : FwState
    pub is_on : means.on v.device.device ≡ Some state
    pub keeps_now : KeepsRecord plan heap sent.kept state
    pub stands : StandsOn (Some f) w.io (Some state) v.io sent.moments
    pub no_more : last means heap plan o kept kept' w v result c ≡ []

  up : HeldSo → last means heap plan o kept kept' w v result c ≡ [] → IsUp
  up h no_more =
      let same : v ≡ c.sent = subst (λ (ms : List Moment). Led (link means) c.sent (calls_of heap ms) v) no_more c.ends.1 in
      record {
        state = h.state;
        is_on = ap (λ (x : World (Wire P)). means.on x.device.device) same ∙ h.is_on;
        keeps_now = h.so;
        stands = subst (λ (x : World (Wire P)). StandsOn (Some f) w.io (Some h.state) x.io sent.moments) (sym same) h.stands;
        no_more = no_more;
      }

  -- else it was cut
  pub sent-left : ((last means heap plan o kept kept' w v result c ≡ Cut ∷ []) × ReadSo) ⊎ IsUp
  sent-left = ⊎_elim (λ cut. inl cut) (λ both. inr (up both.0 both.1)) (plain-ends done sent.kept sent.outcome HeldSo ReadSo held)

  module _ (none : means.pending w.device.device ≡ 0) (fated : IsFated w.device) (few : w.device.sent + length c.meetings < 2 ^ 64 - 1) where
    abbrev all : List Moment
    all = written means heap plan o kept kept' w v result c none fated few

    up-leads : (u : IsUp) → StandsOn (Some f) w.io (means.on v.device.device) v.io all
    up-leads u =
        let are : sent.moments ≡ all = sym (append-nil sent.moments) ∙ (λ i. sent.moments ++ sym u.no_more i) ∙ moments-are means heap plan o kept kept' w v result c none fated few in
        subst (λ (x : Option FwState × List Moment). StandsOn (Some f) w.io x.0 v.io x.1) (λ i. (sym u.is_on i, are i)) u.stands

    pub sent-leads : StandsOn (Some f) w.io (means.on v.device.device) v.io all
    sent-leads = ⊎_elim (λ cut. cut-leads means heap plan o kept kept' w v result c none fated few (Some f) cut.0 cut.1) up-leads sent-left
