-- What stood stands where the written moments of a command lead, where all pipelines are made at a load.
use Rattle.std.proofs.Common.{◌≡◌, ⊎_elim, false, true, refl, sym, ap, ◌∙◌, subst, zero-add, ℕ, ◌+◌, ◌<◌, ◌-◌, ◌%◌, ◌^◌, List, [], ◌∷◌, ◌++◌, length, Option, Some, None, Ok, Err}
use Rattle.std.proofs.lemmas.List.{append-nil}
use Rattle.sof_base.specs.Ports.{Io}
use Rattle.sof_base.specs.DrainedOutputs.{drained}
use Rattle.stream_law.specs.State.{FwState, View, view_of}
use Rattle.stream_law.specs.Past.{Moment, Boot, Cut, empty_view}
use Rattle.mbox_link.specs.Calls.{World, Meaning, Led}
use Rattle.mbox_link.specs.Meetings.{Meeting}
use Rattle.mbox_link.specs.Step.{fresh}
use Rattle.mbox_link.specs.Wire.{Wire}
use Rattle.mbox_link.specs.Link.{link}
use Rattle.tplg_plan.specs.declared.plans.Plan.{Plan}
use Rattle.host_widgets.specs.declared.answers.Answer.{Answer}
use Rattle.host_widgets.specs.declared.kept.Power.{Power}
use Rattle.host_widgets.specs.declared.kept.Power.TheVariants.{Unloaded, On, Off}
use Rattle.host_widgets.specs.declared.kept.Record.{Record}
use Rattle.host_widgets.specs.ActCalls.{ActsDid, calls_of, next_of}
use Rattle.host_widgets.specs.ActLists.{bring_back, bring_up}
use Rattle.host_widgets.specs.Bringing.{BroughtUp, ticks_put}
use Rattle.host_widgets.specs.Host.{Outcome, Sides}
use Rattle.host_widgets.specs.HostActs.{Act}
use Rattle.host_widgets.specs.Keeps.{KeepsRecord}
use Rattle.host_widgets.specs.Kept.{first_record, with_power}
use Rattle.host_widgets.specs.OneAct.{act_rules}
use Rattle.host_widgets.specs.Orders.{Procedure, Carried, brought_end, fault_of_load, loading, resuming, sends, suspending, unloading, where_on}
use Rattle.host_widgets.specs.StateOf.{loaded_state}
use Rattle.host_widgets.specs.ViewOf.{record_view}
use Rattle.host_widgets.specs.Walk.{Walked, walk}
use Rattle.host_widgets.proofs.BuildingActs.{bring-leaves}
use Rattle.host_widgets.proofs.BuildingMoments.{AllOf, view_from, clock_from, build-views, passed-view, none-came, acts-clocked}
use Rattle.host_widgets.proofs.LoadOrders.{unloading_at}
use Rattle.host_widgets.proofs.StandingOn.{StandsOn, ReadsOn, cut-stands, reads-of, stands-none}
use Rattle.host_widgets.proofs.WalksHold.{AreTaken}
use Rattle.host_pm.specs.PowerTests.{suspend_fault, resume_fault}
use Rattle.host_pm.specs.Resumed.{ResumeLeft}
use Rattle.host_pm.proofs.GoingDown.{down-taken}
use Rattle.host_pm.proofs.PowerOrders.{back-leaves, rests-off}
use Rattle.sof_session.specs.Agreement.{Powered}
use Rattle.sof_session.specs.SessionView.{SessionView}
use Rattle.sof_session.proofs.Agreement.{at, AgreeAtLoad, with_up}
use Rattle.sof_session.proofs.BuildStands.{AtRest, IsQuiet, rest_view, rest-quiet, loaded-rests, record-quiet, resumed-rests, brought-stands, brought-reads}
use Rattle.sof_session.proofs.OrderStands.{by-down, cut-leads, met, moments-are, sending, sent-leads, walk-holds, written}
use Rattle.sof_session.proofs.SentOrders.{IsSent}
use Rattle.sof_session.proofs.Stepping.{Standing, standing-by, stays-standing}
use Rattle.sof_session.proofs.WalkStands.{Held, HeldBy}

-- ---- the power before a load, a suspend and a resume

was-unloaded : (power : Power) → fault_of_load power ≡ None → power ≡ Unloaded
was-unloaded Unloaded none = refl
was-unloaded On none = absurd (cc none)
was-unloaded Off none = absurd (cc none)

pub was-on : (power : Power) → suspend_fault power ≡ None → power ≡ On
was-on On none = refl
was-on Unloaded none = absurd (cc none)
was-on Off none = absurd (cc none)

pub was-off : (power : Power) → resume_fault power ≡ None → power ≡ Off
was-off Off none = refl
was-off Unloaded none = absurd (cc none)
was-off On none = absurd (cc none)

-- ---- acts that bring a device up or back: a boot comes before them, and after a failure a cut

module _ {P : Type 0} (means : Meaning P) (plan : Plan) (heap : ℕ) (acts : List Act) (done : Record → Record) (failed kept : Record) (ms : List Meeting) (w begun sent v : World (Wire P)) (first : Led (link means) w (calls_of heap (Boot ∷ [])) begun)
    (walked : ActsDid (link means) (act_rules plan heap) false kept acts ms begun sent) where
  abbrev walk_met : Walked Record Act (List Meeting)
  walk_met = walk (act_rules plan heap) false next_of kept ms acts

  abbrev last : Outcome → List Moment
  last o = (brought_end done failed walk_met.kept o).1

  -- the ticks that the link put
  abbrev count : ℕ
  count = ticks_put (link means) w.device v.device

  -- once all passed, the device is on in a state in which nothing is Live
  pub record IsLeft (shown : View) : Type 0 where
    pub state : FwState
    pub on : means.on v.device.device ≡ Some state
    pub rests : AtRest shown count state

  module _ (ends : Led (link means) sent (calls_of heap (last walk_met.outcome)) v) (same : v.io ≡ w.io) (shown : View) (quiet : IsQuiet shown) (views : AllOf shown walk_met.moments) (left : walk_met.outcome ≡ Ok tt → IsLeft shown) where
    abbrev device : Option FwState
    device = means.on w.device.device

    ends-by : (o : Outcome) → walk_met.outcome ≡ o → Led (link means) sent (calls_of heap (last o)) v
    ends-by o is = subst (λ (x : Outcome). Led (link means) sent (calls_of heap (last x)) v) is ends

    -- the clock counts them
    counted : walk_met.outcome ≡ Ok tt → clock_from 0 walk_met.moments ≡ count
    counted passed =
        let k = acts-clocked (link means) plan heap acts ms kept begun sent walked in
        let pends : (link means).pending begun.device ≡ (link means).pending w.device = ap (λ (x : World (Wire P)). (link means).pending x.device) first.2 ∙ first.1.0.quiet.pending in
        let last_is : v ≡ sent = ends-by (Ok tt) passed in
        k.clock 0 ∙ ap (λ (n : ℕ). n % 2 ^ 32) (zero-add ((link means).pending begun.device - (link means).pending sent.device)) ∙ (λ i. ((pends i) - (link means).pending (sym last_is i).device) % 2 ^ 32)

    -- the last act leaves this view; where none came, the device is as it was booted
    ends-so : walk_met.outcome ≡ Ok tt → IsLeft shown → view_from empty_view walk_met.moments ≡ shown
    ends-so passed l = ⊎_elim bare (λ ends. ends empty_view) (passed-view plan heap shown acts ms kept passed views)
      where
        bare : acts ≡ [] → view_from empty_view walk_met.moments ≡ shown
        bare none =
            let no_more = subst (λ (xs : List Act). ActsDid (link means) (act_rules plan heap) false kept xs ms begun sent) none walked in
            let later : v ≡ begun = ends-by (Ok tt) passed ∙ no_more.1 in
            let on : Some (fresh heap) ≡ Some l.state = sym (ap (λ (x : World (Wire P)). means.on x.device.device) first.2 ∙ first.1.0.on) ∙ sym (ap (λ (x : World (Wire P)). means.on x.device.device) later) ∙ l.on in
            let booted : fresh heap ≡ l.state = cc on in
            ap (view_from empty_view) (none-came plan heap acts ms kept none) ∙ ap view_of booted ∙ l.rests.view

    by : (o : Outcome) → walk_met.outcome ≡ o → StandsOn device w.io (means.on v.device.device) v.io (Boot ∷ (walk_met.moments ++ last o))
    by (Ok passed) is =
        let l = left is in
        subst (λ (x : Option FwState × Io × List Moment). StandsOn device w.io x.0 x.1 x.2) (λ i. (sym l.on i, sym same i, Boot ∷ sym (append-nil walk_met.moments) i))
        (brought-stands heap shown quiet device w.io walk_met.moments views shown l.state (subst (λ (t : ℕ). AtRest shown t l.state) (sym (counted is)) l.rests) (ends-so is l))
    by (Err fault) is =
        let cut = ends-by (Err fault) is in
        let off : means.on v.device.device ≡ None = ap (λ (x : World (Wire P)). means.on x.device.device) cut.2 ∙ cut.1.0.on in
        let still : v.io ≡ sent.io = ap (λ (x : World (Wire P)). x.io) cut.2 ∙ cut.1.1 in
        subst (λ (x : Option FwState × Io). StandsOn device w.io x.0 x.1 (Boot ∷ (walk_met.moments ++ Cut ∷ []))) (λ i. (sym off i, sym still i))
        (cut-stands device w.io sent.io (Boot ∷ walk_met.moments) (subst (λ (x : Io). ReadsOn device w.io x (Boot ∷ walk_met.moments)) (sym same ∙ still) (brought-reads heap shown quiet device w.io walk_met.moments views)))

    pub brought-leads : StandsOn device w.io (means.on v.device.device) v.io (Boot ∷ (walk_met.moments ++ last walk_met.outcome))
    brought-leads = by walk_met.outcome refl

-- ---- over a link

module _ {P : Type 0} (means : Meaning P) (old : SessionView P) (wire : Wire P) (io io' : Io) (agreed : AgreeAtLoad means old) (empty : drained io.outputs ≡ io.outputs) (kept : Record) (outcome : Outcome) where
  abbrev w : World (Wire P)
  w = at old.link io

  abbrev v : World (Wire P)
  v = at wire io'

  abbrev PoweredSo : Power → Type 0
  PoweredSo power = Powered means (with_up old None) power

  abbrev pub CarriedSo : Procedure → Type 0
  CarriedSo o = Carried (link means) old.plan old.heap o old.kept kept w v outcome

  -- where few messages were sent
  abbrev pub StandsBy : (o : Procedure) → CarriedSo o → Type 0
  StandsBy o c = (fewer : old.link.sent + length c.meetings < 2 ^ 64 - 1) → Standing means w v (written means old.heap old.plan o old.kept kept w v outcome c agreed.pending agreed.fated fewer)

  -- where the device stays as it is
  rests : v ≡ w → Standing means w v []
  rests still = stays-standing means w v (ap (λ (x : World (Wire P)). means.on x.device.device) still) (ap (λ (x : World (Wire P)). x.io) still) empty

  -- ---- a load and a resume

  pub load-stands : fault_of_load old.kept.power ≡ None → (c : CarriedSo (loading old.plan old.kept)) → BroughtUp (link means) old.plan old.heap (first_record old.plan) old.link outcome wire → io' ≡ io → StandsBy (loading old.plan old.kept) c
  load-stands passes c left same fewer =
      let o = loading old.plan old.kept in
      let count = ticks_put (link means) old.link wire in
      let first : old.kept ≡ first_record old.plan = (subst (λ (x : Power). Sides means old.plan old.kept old.link.device x) (was-unloaded old.kept.power passes) agreed.agree.sides).0 in
      let views = subst (λ (r : Record). AllOf (record_view old.plan r) (met means old.heap old.plan o old.kept kept w v outcome c).moments) first
      (build-views (link means) old.plan old.heap old.kept (bring_up old.plan old.kept) c.meetings old.kept refl c.begun c.sent c.walked (bring-leaves old.plan old.kept agreed.sound)) in
      standing-by means w v (written means old.heap old.plan o old.kept kept w v outcome c agreed.pending agreed.fated fewer)
      (subst (StandsOn (means.on old.link.device) io (means.on wire.device) io') (moments-are means old.heap old.plan o old.kept kept w v outcome c agreed.pending agreed.fated fewer)
      (brought-leads means old.plan old.heap (bring_up old.plan old.kept) (with_power On) (first_record old.plan) old.kept c.meetings w c.begun c.sent v c.first c.walked c.ends.1 same (rest_view old.plan old.heap) (rest-quiet old.plan old.heap) views (λ passed. record {
        state = loaded_state old.plan old.heap count;
        on = subst (λ (x : Outcome). BroughtUp (link means) old.plan old.heap (first_record old.plan) old.link x wire) (c.came ∙ passed) left;
        rests = loaded-rests old.plan old.heap count;
      }))) empty

  pub resume-stands : resume_fault old.kept.power ≡ None → (c : CarriedSo (resuming old.plan old.kept)) → ResumeLeft (link means) old.plan old.heap old.kept old.link outcome wire → io' ≡ io → StandsBy (resuming old.plan old.kept) c
  resume-stands passes c left same fewer =
      let o = resuming old.plan old.kept in
      let is = agreed.agree.record_is in
      -- no stream runs or is paused
      let still = rests-off means old.plan old.heap old.kept old.link.device agreed.agree (was-off old.kept.power passes) in
      let views = build-views (link means) old.plan old.heap old.kept (bring_back old.plan old.kept) c.meetings old.kept refl c.begun c.sent c.walked (back-leaves means old.plan old.heap agreed.sound old.kept is still) in
      standing-by means w v (written means old.heap old.plan o old.kept kept w v outcome c agreed.pending agreed.fated fewer)
      (subst (StandsOn (means.on old.link.device) io (means.on wire.device) io') (moments-are means old.heap old.plan o old.kept kept w v outcome c agreed.pending agreed.fated fewer)
      (brought-leads means old.plan old.heap (bring_back old.plan old.kept) (with_power On) old.kept old.kept c.meetings w c.begun c.sent v c.first c.walked c.ends.1 same (record_view old.plan old.kept) (record-quiet old.plan old.kept still is) views (λ passed.
      (let r = left (c.came ∙ passed) in record { state = r.state; on = r.on; rests = resumed-rests (link means) old.plan old.heap old.kept (ticks_put (link means) old.link wire) wire r still is })))) empty

  -- ---- an unload, whose only moment is the cut of a device that is on

  unloaded-stands : (power : Power) → CarriedSo (unloading_at old.plan power) → Standing means w v (where_on power (Cut ∷ []))
  unloaded-stands On c =
      let cut = c.first.1 in
      let later : v ≡ c.first.0 = c.ends.1 ∙ c.walked.1 ∙ c.first.2 in
      let off : means.on v.device.device ≡ None = ap (λ (x : World (Wire P)). means.on x.device.device) later ∙ cut.0.on in
      let still : v.io ≡ io = ap (λ (x : World (Wire P)). x.io) later ∙ cut.1 in
      standing-by means w v (Cut ∷ [])
      (subst (λ (x : Option FwState × Io). StandsOn (means.on old.link.device) io x.0 x.1 (Cut ∷ [])) (λ i. (sym off i, sym still i))
      (cut-stands (means.on old.link.device) io io [] (reads-of (means.on old.link.device) (means.on old.link.device) io io [] (stands-none (means.on old.link.device) io))))
      empty
  unloaded-stands Unloaded c = rests (c.ends.1 ∙ c.walked.1 ∙ c.first)
  unloaded-stands Off c = rests (c.ends.1 ∙ c.walked.1 ∙ c.first)

  pub unload-stands : (c : CarriedSo (unloading old.plan old.kept)) → StandsBy (unloading old.plan old.kept) c
  unload-stands c fewer = subst (Standing means w v) (sym (append-nil (where_on old.kept.power (Cut ∷ [])))) (unloaded-stands old.kept.power c)

  -- ---- a suspend: its acts reached a device that keeps the record, which they leave so or whose link failed, and all ends with the cut

  pub suspend-stands : suspend_fault old.kept.power ≡ None → (c : CarriedSo (suspending old.plan old.kept)) → StandsBy (suspending old.plan old.kept) c
  suspend-stands passes c fewer =
      let o = suspending old.plan old.kept in
      let is = agreed.agree.record_is in
      let powered = subst PoweredSo (was-on old.kept.power passes) agreed.powered in
      let f = powered.0 in
      let now = met means old.heap old.plan o old.kept kept w v outcome c in
      let held = subst (λ (x : World (Wire P)). HeldBy (link means) (KeepsRecord old.plan old.heap) f x c.sent now) c.first
      (walk-holds old.plan old.heap true agreed.sound (link means) o.acts c.meetings old.kept c.begun c.sent c.walked (down-taken old.plan old.heap agreed.sound old.kept is) f (ap (λ (x : World (Wire P)). means.on x.device.device) c.first ∙ powered.1) powered.2) in
      let reads = subst (λ (d : Option FwState). ReadsOn d io c.sent.io now.moments) (sym powered.1)
      (by-down now.outcome (Held (link means) (KeepsRecord old.plan old.heap now.kept) f w c.sent now.moments) (ReadsOn (Some f) io c.sent.io now.moments) (λ h. reads-of (Some f) (Some h.state) io c.sent.io now.moments h.stands) held) in
      standing-by means w v (written means old.heap old.plan o old.kept kept w v outcome c agreed.pending agreed.fated fewer)
      (cut-leads means old.heap old.plan o old.kept kept w v outcome c agreed.pending agreed.fated fewer (means.on old.link.device) refl reads) empty

  -- ---- a call that sends acts alone, where the power is on

  module _ (acts : List Act) (done : Record → Record) (answer : Answer) where
    acts-stand : (power : Power) → PoweredSo power → (c : CarriedSo (sends power acts done answer)) → AreTaken old.plan false old.kept (sends power acts done answer).acts → StandsBy (sends power acts done answer) c
    acts-stand Unloaded powered c taken fewer = rests (c.ends.1 ∙ c.walked.1 ∙ c.first)
    acts-stand Off powered c taken fewer = rests (c.ends.1 ∙ c.walked.1 ∙ c.first)
    acts-stand On powered c taken fewer =
        let all = written means old.heap old.plan (sending acts done answer) old.kept kept w v outcome c agreed.pending agreed.fated fewer in
        standing-by means w v all (subst (λ (d : Option FwState). StandsOn d io (means.on wire.device) io' all) (sym powered.1)
        (sent-leads means old.heap old.plan agreed.sound acts done answer old.kept kept w v outcome c powered.0 powered.1 agreed.agree.record_is powered.2 taken agreed.pending agreed.fated fewer)) empty

  pub sent-stands : (o : Procedure) → IsSent old.kept o → (c : CarriedSo o) → AreTaken old.plan false old.kept o.acts → StandsBy o c
  sent-stands o s = subst (λ (x : Procedure). (c : CarriedSo x) → AreTaken old.plan false old.kept x.acts → StandsBy x c) (sym s.is) (acts-stand s.acts s.done s.answer old.kept.power agreed.powered)
