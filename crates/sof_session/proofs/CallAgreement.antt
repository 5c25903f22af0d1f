-- After a load, an unload, a suspend, a resume and a call that sends acts alone, the two sides agree again.
use Rattle.std.proofs.Common.{◌≡◌, ⊎_elim, false, List, Option, Some, None, Ok, Err, refl, sym, ap, subst, ◌∙◌}
use Rattle.std.specs.Option.{option_map}
use Rattle.sof_base.specs.Ports.{Io}
use Rattle.stream_law.specs.State.{FwState, view_of}
use Rattle.mbox_link.specs.Calls.{World, Meaning}
use Rattle.mbox_link.specs.Link.{link}
use Rattle.mbox_link.specs.Wire.{Wire}
use Rattle.host_widgets.specs.declared.answers.Answer.{Answer}
use Rattle.host_widgets.specs.declared.answers.HostFault.{HostFault}
use Rattle.host_widgets.specs.declared.kept.Power.{Power}
use Rattle.host_widgets.specs.declared.kept.Power.TheVariants.{Unloaded, On, Off}
use Rattle.host_widgets.specs.declared.kept.Record.{Record}
use Rattle.host_widgets.specs.HostActs.{Act}
use Rattle.host_widgets.specs.Host.{Outcome, Agrees, Sides}
use Rattle.host_widgets.specs.Keeps.{KeepsRecord}
use Rattle.host_widgets.specs.ViewOf.{record_view}
use Rattle.host_widgets.specs.Bringing.{BroughtUp, ticks_put}
use Rattle.host_widgets.specs.Kept.{first_record, with_power}
use Rattle.host_widgets.specs.IdleStreams.{all_closed}
use Rattle.host_widgets.specs.Orders.{Procedure, Carried, brought_end, sends, fault_of_load, loading, resuming, suspending, unload_fault, unloading}
use Rattle.host_widgets.specs.TestedOrders.{Tested}
use Rattle.host_widgets.specs.StateOf.{loaded_state}
use Rattle.host_widgets.proofs.LoadEnds.{failed-off}
use Rattle.host_widgets.proofs.LoadOrders.{unloading_at}
use Rattle.host_widgets.proofs.WalksHold.{AreTaken}
use Rattle.host_pm.specs.PowerTests.{suspend_fault, resume_fault}
use Rattle.host_pm.specs.Resumed.{ResumeLeft}
use Rattle.sof_session.specs.Agreement.{Powered}
use Rattle.sof_session.specs.SessionView.{SessionView}
use Rattle.sof_session.proofs.Agreement.{at, AgreeAtLoad, agreed-then, agrees-inside, seat_then, with_up}
use Rattle.sof_session.proofs.CallStays.{order-tested, tested-calls}
use Rattle.sof_session.proofs.Keeping.{Keeps-loaded}
use Rattle.host_widgets.specs.OneAct.{act_rules}
use Rattle.host_widgets.specs.Routines.{order_job}
use Rattle.sof_session.proofs.OrderStands.{sending, cut-off, met, sent-left}
use Rattle.sof_session.proofs.SentOrders.{IsSent, IsSentCall}

module _ {P : Type 0} (means : Meaning P) (old : SessionView P) (wire : Wire P) (io io' : Io) (agreed : AgreeAtLoad means old) (kept : Record) (agree : Agrees (link means) old.plan kept wire) (result : Outcome) where
  abbrev seat : SessionView P
  seat = with_up old None

  abbrev new : SessionView P
  new = seat_then old wire kept None

  abbrev CarriedSo : Procedure → Type 0
  CarriedSo o = Carried (link means) old.plan old.heap o old.kept kept (at old.link io) (at wire io') result

  abbrev TestedSo : Option HostFault → Procedure → Type 0
  TestedSo test o = Tested (link means) old.plan old.heap test o old.kept kept (at old.link io) (at wire io') result

  -- ---- a device that shows what the record says is on, and keeps the plan

  abbrev Here : Type 0
  Here = (f : FwState) × (means.on wire.device ≡ Some f) × KeepsRecord old.plan old.heap kept f

  abbrev Found : Type 0
  Found = option_map view_of (means.on wire.device) ≡ Some (record_view old.plan kept) → Here

  off-found : means.on wire.device ≡ None → Found
  off-found off shows = absurd (cc (sym (ap (option_map view_of) off) ∙ shows))

  kept-found : (now : Record) (f : FwState) → means.on wire.device ≡ Some f → KeepsRecord old.plan old.heap now f → Found
  kept-found now f on keeps shows =
      let same : Some (view_of f) ≡ Some (record_view old.plan kept) = ap (option_map view_of) (sym on) ∙ shows in
      (f, on, record { view = cc same; pieces = keeps.pieces; rings = keeps.rings })

  still-found : (power : Power) → Powered means seat power → wire ≡ old.link → Found
  still-found On powered same = kept-found old.kept powered.0 (ap (λ (w : Wire P). means.on w.device) same ∙ powered.1) powered.2
  still-found Unloaded off same = off-found (ap (λ (w : Wire P). means.on w.device) same ∙ off)
  still-found Off off same = off-found (ap (λ (w : Wire P). means.on w.device) same ∙ off)

  powered-by : Found → (power : Power) → Sides means old.plan kept wire.device power → Powered means new power
  powered-by here Unloaded sides = sides.1
  powered-by here Off sides = sides.1
  powered-by here On sides = here sides

  -- by a test, and an order where none fails
  by-test : (test : Option HostFault) (o : Procedure) → TestedSo test o → (test ≡ None → CarriedSo o → Found) → AgreeAtLoad means new
  by-test test o tested found =
      let inside = agrees-inside means old.plan (record_view old.plan kept) kept wire agree in
      agreed-then means seat wire io io' agreed
      (tested-calls means (act_rules old.plan old.heap) seat wire io io' agreed test (order_job old.plan old.kept o) old.kept kept result (order-tested (link means) old.plan old.heap test o old.kept kept (at old.link io) (at wire io') result tested))
      kept None inside (powered-by (by test refl) kept.power inside.sides)
    where
      by : (t : Option HostFault) → test ≡ t → Found
      by (Some fault) is = still-found old.kept.power agreed.powered (ap (λ (w : World (Wire P)). w.device) (tested.early fault is).1)
      by None is = found is (tested.late is)

  -- ---- a load

  left-found : CarriedSo (loading old.plan old.kept) → (o : Outcome) → result ≡ o → BroughtUp (link means) old.plan old.heap (first_record old.plan) old.link o wire → Found
  left-found c (Ok done) is left =
      let count = ticks_put (link means) old.link wire in kept-found (all_closed On old.plan) (loaded_state old.plan old.heap count) left (Keeps-loaded old.plan old.heap count)
  left-found c (Err fault) is left =
      off-found (failed-off (link means) old.plan old.heap old.kept agreed.sound agreed.agree.record_is.controls kept (at old.link io) (at wire io') result c fault is)

  pub AgreeAtLoad-loaded : TestedSo (fault_of_load old.kept.power) (loading old.plan old.kept) → BroughtUp (link means) old.plan old.heap (first_record old.plan) old.link result wire → AgreeAtLoad means new
  AgreeAtLoad-loaded tested left = by-test (fault_of_load old.kept.power) (loading old.plan old.kept) tested (λ none c. left-found c result refl left)

  -- ---- an unload

  gone : (power : Power) → Powered means seat power → CarriedSo (unloading_at old.plan power) → means.on wire.device ≡ None
  gone On powered c = ap (λ (x : World (Wire P)). means.on x.device.device) (c.ends.1 ∙ c.walked.1 ∙ c.first.2) ∙ c.first.1.0.on
  gone Unloaded off c = ap (λ (x : World (Wire P)). means.on x.device.device) (c.ends.1 ∙ c.walked.1 ∙ c.first) ∙ off
  gone Off off c = ap (λ (x : World (Wire P)). means.on x.device.device) (c.ends.1 ∙ c.walked.1 ∙ c.first) ∙ off

  pub AgreeAtLoad-unloaded : TestedSo (unload_fault old.kept.power) (unloading old.plan old.kept) → AgreeAtLoad means new
  AgreeAtLoad-unloaded tested = by-test (unload_fault old.kept.power) (unloading old.plan old.kept) tested (λ none c. off-found (gone old.kept.power agreed.powered c))

  -- ---- a suspend, which ends with a cut

  pub AgreeAtLoad-suspended : TestedSo (suspend_fault old.kept.power) (suspending old.plan old.kept) → AgreeAtLoad means new
  AgreeAtLoad-suspended tested = by-test (suspend_fault old.kept.power) (suspending old.plan old.kept) tested
      (λ none c. off-found (cut-off means old.heap old.plan (suspending old.plan old.kept) old.kept kept (at old.link io) (at wire io') result c refl))

  -- ---- a resume: what it leaves where it was done, and else it ends with a cut

  resumed-found : CarriedSo (resuming old.plan old.kept) → (o : Outcome) → result ≡ o → ResumeLeft (link means) old.plan old.heap old.kept old.link o wire → Found
  resumed-found c (Ok done) is left = let r = left refl in kept-found old.kept r.state r.on r.keeps
  resumed-found c (Err fault) is left =
      let o = resuming old.plan old.kept in
      let now = (met means old.heap old.plan o old.kept kept (at old.link io) (at wire io') result c).kept in
      off-found (cut-off means old.heap old.plan o old.kept kept (at old.link io) (at wire io') result c (ap (λ (o : Outcome). (brought_end (with_power On) old.kept now o).1) (sym c.came ∙ is)))

  pub AgreeAtLoad-resumed : TestedSo (resume_fault old.kept.power) (resuming old.plan old.kept) → ResumeLeft (link means) old.plan old.heap old.kept old.link result wire → AgreeAtLoad means new
  AgreeAtLoad-resumed tested left = by-test (resume_fault old.kept.power) (resuming old.plan old.kept) tested (λ none c. resumed-found c result refl left)

  -- ---- a call that sends acts alone

  -- after acts, or none where the power was off
  module _ (acts : List Act) (done : Record → Record) (answer : Answer) where
    sent-found : (power : Power) → Powered means seat power → CarriedSo (sends power acts done answer) → AreTaken old.plan false old.kept (sends power acts done answer).acts → Found
    sent-found Unloaded off c taken = off-found (ap (λ (x : World (Wire P)). means.on x.device.device) (c.ends.1 ∙ c.walked.1 ∙ c.first) ∙ off)
    sent-found Off off c taken = off-found (ap (λ (x : World (Wire P)). means.on x.device.device) (c.ends.1 ∙ c.walked.1 ∙ c.first) ∙ off)
    sent-found On powered c taken = ⊎_elim
        (λ cut. off-found (cut-off means old.heap old.plan (sending acts done answer) old.kept kept (at old.link io) (at wire io') result c cut.0))
        (λ u. kept-found _ u.state u.is_on u.keeps_now)
        (sent-left means old.heap old.plan agreed.sound acts done answer old.kept kept (at old.link io) (at wire io') result c powered.0 powered.1 agreed.agree.record_is powered.2 taken)

  pub AgreeAtLoad-sent : (test : Option HostFault) (o : Procedure) → IsSentCall old.plan old.kept test o → TestedSo test o → AgreeAtLoad means new
  AgreeAtLoad-sent test o call tested = by-test test o tested (λ none c. found (call.sent none) c (call.taken none))
    where
      found : (s : IsSent old.kept o) → CarriedSo o → AreTaken old.plan false old.kept o.acts → Found
      found s c are = sent-found s.acts s.done s.answer old.kept.power agreed.powered (subst CarriedSo s.is c) (subst (λ (x : Procedure). AreTaken old.plan false old.kept x.acts) s.is are)
