-- The acts on the control at a place of a sound plan: both laws of one act hold of values that are put there, and of one that asks
-- for them.
use Rattle.std.proofs.Common.{◌≡◌, refl, sym, ap, subst, ◌∙◌, ℕ, ◌<◌, ◌≤◌, ◌^◌, Bool, true, false, not, cond, List, [], ◌∷◌, length, map, Some, Ok, Err, arith}
use Rattle.std.specs.Prelude.{is_some}
use Rattle.std.specs.List.{AllByRecursion}
use Rattle.std.proofs.lemmas.List.{length-map}
use Rattle.sof_base.specs.Slots.{AreSlots, IsSlot}
use Rattle.stream_law.specs.State.{FwState, view_of}
use Rattle.stream_law.specs.Ways.{comp_of}
use Rattle.ipc3_model.specs.declared.message.Message.TheVariants.{GetValue}
use Rattle.ipc3_model.specs.Messages.{message_spelling, decoded}
use Rattle.ipc3_model.specs.Meanings.{IsMessage}
use Rattle.mbox_link.specs.Step as fw
use Rattle.mbox_link.specs.Step.{row, body_of, no_device, invalid}
use Rattle.tplg_plan.specs.declared.plans.Plan.{Plan}
use Rattle.tplg_plan.specs.declared.plans.ControlPlan.{ControlPlan}
use Rattle.tplg_plan.specs.declared.plans.ControlKind.{ControlKind}
use Rattle.tplg_plan.specs.declared.plans.ControlKind.TheVariants.{Volume, Choice, Blob, Masks}
use Rattle.tplg_plan.specs.GainOf.{control_gain}
use Rattle.tplg_plan.specs.Sound.{IsSound, IsControlOf, IsLive}
use Rattle.host_widgets.specs.declared.kept.Record.{Record}
use Rattle.host_widgets.specs.declared.kept.ControlRec.{ControlRec}
use Rattle.host_widgets.specs.Controls.{control_of}
use Rattle.host_widgets.specs.Kept.{control_at, with_control}
use Rattle.host_widgets.specs.Host.{IsRecordOf, IsControlSet, AreControls, verdict}
use Rattle.host_widgets.specs.HostActs.{Put, Ask, with_values}
use Rattle.host_widgets.specs.ActMessages.{act_message, set_message, put_message, get_message, ask_message}
use Rattle.host_widgets.specs.ViewOf.{record_view, set_comp, record_setting}
use Rattle.host_widgets.specs.ActCalls.{came_to}
use Rattle.host_widgets.proofs.DonePasses.{done-passes}
use Rattle.host_widgets.proofs.ActsCome.{IsAnswered}
use Rattle.host_widgets.proofs.ControlLists.{bare-one}
use Rattle.host_widgets.proofs.PartFacts.{none-empty}
use Rattle.host_widgets.proofs.Effects.{decoded-message}
use Rattle.host_widgets.proofs.GreatestGains.{AreGains, gains-are, set-message, of-values}
use Rattle.host_widgets.proofs.EightMasks.{eight, few-masks, masks-few, ranged-masks}
use Rattle.host_widgets.specs.Controls.{eight_masks}
use Rattle.host_widgets.proofs.LookedUp.{found-is, each-found}
use Rattle.host_widgets.proofs.NamedIds.{component-found, id-fits}
use Rattle.host_widgets.proofs.OneActLaws.{IsTaken, IsShown}
use Rattle.host_widgets.proofs.ReplyErrors.{done_reply}
use Rattle.host_ctl.specs.ControlAnswers.{MaySet, value_command}
use Rattle.host_ctl.specs.ControlPlaces.{control_here, record_here}
use Rattle.host_ctl.proofs.PutShows.{found, put-shows}
use Rattle.host_ctl.proofs.PutStands.{put-record}
use Rattle.host_ctl.proofs.ControlActs.{put-taken, still-taken}
use Rattle.host_ctl.proofs.ControlsThere.{Was, controls-with, live, of-comp, at-here, was-here, kinds-here}
use Rattle.host_ctl.proofs.PutAnswers.{control, put-answers, values-at, asked-answers}

-- ---- messages

get-fits : (id command : ℕ) → id < 2 ^ 32 → command ≤ 2 → IsMessage (GetValue id command)
unfolding AreSlots IsSlot
get-fits id command fits low =
    ((tt, (omega arith, (tt, (fits, (omega arith, (omega (arith, low), (tt, (tt, (tt, (tt, (tt, (tt, (tt, (tt, (tt, (tt, (tt, (tt, (tt, (tt, (tt, (tt, (tt, tt))))))))))))))))))))))), of-values command low)

few-commands : (q : ControlKind) (command : ℕ) → value_command q ≡ Some command → command ≤ 2
few-commands (Volume min max channels lowest step mute) command is = let same : 0 ≡ command = cc is in omega (arith, same)
few-commands (Choice items) command is = let same : 1 ≡ command = cc is in omega (arith, same)
few-commands (Blob most initial) command is = absurd (cc is)
few-commands (Masks min max channels) command is = let same : 2 ≡ command = cc is in omega (arith, same)

asks-by : (id : ℕ) (q : ControlKind) (command : ℕ) → value_command q ≡ Some command → get_message id 0 q ≡ GetValue id command
asks-by id (Volume min max channels lowest step mute) command is = let same : 0 ≡ command = cc is in ap (GetValue id) same
asks-by id (Choice items) command is = let same : 1 ≡ command = cc is in ap (GetValue id) same
asks-by id (Blob most initial) command is = absurd (cc is)
asks-by id (Masks min max channels) command is = let same : 2 ≡ command = cc is in ap (GetValue id) same

put-fits : (id : ℕ) (q : ControlKind) (values : List ℕ) → id < 2 ^ 32 → MaySet q values → (1 ≤ length values) × (length values ≤ 8) × ((items : ℕ) → q ≡ Choice items → items ≤ 16) × ((min max channels : ℕ) → q ≡ Masks min max channels → max ≤ 255) → IsMessage (set_message id values q)
put-fits id (Volume min max channels lowest step mute) values fits may few =
    let q : ControlKind = Volume min max channels lowest step mute in
    let long : length (map (control_gain q) values) ≡ length values = length-map values (control_gain q) in
    set-message id 0 (map (control_gain q) values) fits (omega arith) (omega (arith, long, few.0)) (omega (arith, long, few.1)) (gains-are q values)
put-fits id (Choice items) values fits may few =
    let s = may [] refl in
    set-message id 1 values fits (omega arith) few.0 few.1 (subst AreGains (sym s.1) (omega (arith, s.2, few.2 items refl), tt))
put-fits id (Masks min max channels) values fits may few =
    let long : length (eight_masks values) ≡ 8 = eight values in
    set-message id 2 (eight_masks values) fits (omega arith) (omega (arith, long)) (omega (arith, long)) (masks-few (eight_masks values) (few-masks values (ranged-masks min max (few.3 min max channels refl) values (may [] refl).1)))
put-fits id (Blob most initial) values fits may few = absurd (none-empty (may [] refl).2)

-- values that may be set are as many as a message takes
few-values : (q : ControlKind) (values : List ℕ) → MaySet q values → (kind : _) → IsControlOf q kind → (1 ≤ length values) × (length values ≤ 8) × ((items : ℕ) → q ≡ Choice items → items ≤ 16) × ((min max channels : ℕ) → q ≡ Masks min max channels → max ≤ 255)
few-values (Volume min max channels lowest step mute) values may kind of =
    let long = (may [] refl).0 in (omega (arith, long, of.3), omega (arith, long, of.4), (λ items is. absurd (cc is)), λ least most n is. absurd (cc is))
few-values (Choice items) values may kind of =
    let long : length values ≡ 1 = ap length (may [] refl).1 in
    (omega (arith, long), omega (arith, long), (λ n is. (let same : items ≡ n = cc is in omega (arith, same, of.2))), λ least most n is. absurd (cc is))
few-values (Masks min max channels) values may kind of =
    let long = (may [] refl).0 in (omega (arith, long, of.3), omega (arith, long, of.4), (λ items is. absurd (cc is)), λ least most n is. (let same : max ≡ most = cc is in omega (arith, same, of.2)))
few-values (Blob most initial) values may kind of = absurd (none-empty (may [] refl).2)

-- one that asked and was done leaves the state
pub done-stays : (f f' : FwState) (b c : Bool) → cond (not b) (Err no_device) (cond (not c) (Err invalid) (Ok f)) ≡ Ok f' → f' ≡ f
done-stays f f' false c is = absurd (cc is)
done-stays f f' true false is = absurd (cc is)
done-stays f f' true true is = cc (sym is)

-- ---- at a place

module _ (plan : Plan) (sound : IsSound plan) (kept : Record) (is : IsRecordOf plan kept) (i : ℕ) (low : i < length plan.controls) where
  abbrev k : ControlPlan
  k = control_here plan i

  abbrev r : ControlRec
  r = record_here kept i

  abbrev here : IsLive plan.graph k
  here = live plan sound kept is i low

  pub id-low : k.comp < 2 ^ 32
  id-low = id-fits plan sound k.comp (component-found plan sound k.comp here.comp here.there).low

  -- what the record sets there
  pub shown-here : IsControlOf k.kind here.comp.kind × ((set_comp plan kept here.comp).setting ≡ record_setting here.comp.kind (Some (control k.comp k.kind, r))) × Was (control k.comp k.kind) r
  shown-here = (
    here.kind,
    ap (λ (id : ℕ). record_setting here.comp.kind (control_at plan kept id)) (found-is (λ c. c.id) plan.graph.comps k.comp here.comp here.there) ∙ ap (record_setting here.comp.kind) (at-here plan sound kept is i low),
    was-here plan sound kept is i low,
  )

  -- what a firmware that shows the record has there
  module _ (f : FwState) (shows : view_of f ≡ record_view plan kept) where
    pub found-in : comp_of f.graph k.comp ≡ Some (set_comp plan kept here.comp)
    found-in = found plan kept f f shows k.comp [] here.comp here.there

  -- ---- values

  module _ (values : List ℕ) (may : MaySet k.kind values) where
    no-blob : (q : ControlKind) → MaySet q values → (c : ControlRec) → Was (control k.comp q) c → c.blob ≡ []
    no-blob (Blob most initial) may c was = absurd (none-empty (may [] refl).2)
    no-blob q may c was = bare-one q c (λ m n e. cc e) was

    pub set-all : AreControls plan.controls (with_control plan k.comp (with_values values) kept).controls
    set-all = controls-with k.comp (with_values values) plan.controls kept.controls (all plan.controls (each-found (λ (x : ControlPlan). x.comp) plan.controls sound.controls_ascend)) is.controls
      where
        all : (ks : List ControlPlan) → AllByRecursion (λ (x : ControlPlan). control_of plan x.comp ≡ Some x) ks → AllByRecursion (λ (x : ControlPlan). x.comp ≡ k.comp → (c : ControlRec) → Was x c → IsControlSet x.kind (with_values values c)) ks
        all [] each = tt
        all (x ∷ ks) each = (
          λ same c was.
              let one : Some k ≡ Some x = sym (of-comp plan sound kept is i low) ∙ ap (control_of plan) (sym same) ∙ each.0 in
              let x-is : k ≡ x = cc one in
              subst (λ (y : ControlPlan). Was y c → IsControlSet y.kind (with_values values c)) x-is (λ was. may c.blob (no-blob k.kind may c was)) was,
          all ks each.1,
        )

    pub puts : act_message plan (Put k.comp values) ≡ set_message k.comp values k.kind
    puts = ap (put_message k.comp values) (of-comp plan sound kept is i low)

    fits : IsMessage (act_message plan (Put k.comp values))
    fits = subst IsMessage (sym puts) (put-fits k.comp k.kind values id-low may (few-values k.kind values may here.comp.kind here.kind))

    pub put-is : IsTaken plan kept (Put k.comp values)
    put-is = put-taken plan kept is k.comp values here.comp here.there k.kind r (at-here plan sound kept is i low) (of-comp plan sound kept is i low) (kinds-here plan sound kept is i low) here.kind set-all
        (fits, decoded-message (act_message plan (Put k.comp values)) fits)

    pub put-shown : IsShown plan kept (Put k.comp values)
    put-shown = record {
      message = fits;
      power = refl;
      shown = λ f f' shows done. (
        put-record plan kept k.comp (with_values values) (λ c. refl) is set-all,
        put-shows plan kept f f' shows k.comp values here.comp here.there k.kind r (at-here plan sound kept is i low) (of-comp plan sound kept is i low) (kinds-here plan sound kept is i low) here.kind done,
      );
    }

    pub put-comes : (heap : ℕ) → IsAnswered plan heap kept (Put k.comp values)
    put-comes heap = record {
      message = fits;
      passes = put-is.passes;
      answers = λ f shows. (let a = put-answers f k.comp (set_comp plan kept here.comp) (found-in f shows) r k.kind values shown-here may in (a.0, ap (row f) puts ∙ a.1));
    }

  -- ---- one that asks

  module _ (command : ℕ) (at : value_command k.kind ≡ Some command) where
    pub asks : act_message plan (Ask k.comp 0) ≡ GetValue k.comp command
    asks = ap (ask_message k.comp 0) (of-comp plan sound kept is i low) ∙ asks-by k.comp k.kind command at

    pub ask-fits : IsMessage (act_message plan (Ask k.comp 0))
    ask-fits = subst IsMessage (sym asks) (get-fits k.comp command id-low (few-commands k.kind command at))

    pub ask-stays : (f f' : FwState) → row f (act_message plan (Ask k.comp 0)) ≡ Ok f' → f' ≡ f
    ask-stays f f' done = done-stays f f' (fw.is_used f.graph k.comp) (is_some (fw.control_values_at f.graph k.comp command)) (ap (row f) (sym asks) ∙ done)

    passes : (f : FwState) → came_to (verdict (Some (done_reply (body_of f (decoded (message_spelling (act_message plan (Ask k.comp 0)))))))) ≡ Ok tt
    passes f = done-passes (body_of f (decoded (message_spelling (act_message plan (Ask k.comp 0)))))

    pub ask-is : IsTaken plan kept (Ask k.comp 0)
    ask-is = still-taken plan kept (Ask k.comp 0) is refl refl (ask-fits, decoded-message (act_message plan (Ask k.comp 0)) ask-fits) passes ask-stays

    pub ask-shown : IsShown plan kept (Ask k.comp 0)
    ask-shown = record { message = ask-fits; power = refl; shown = λ f f' shows done. (is, ap view_of (ask-stays f f' done) ∙ shows) }

    pub ask-comes : (heap : ℕ) → IsAnswered plan heap kept (Ask k.comp 0)
    ask-comes heap = record {
      message = ask-fits;
      passes = passes;
      answers = λ f shows. (
        f,
        ap (row f) asks ∙ asked-answers f k.comp (set_comp plan kept here.comp) (found-in f shows) r command _ (values-at f k.comp (set_comp plan kept here.comp) (found-in f shows) r k.kind command shown-here at),
      );
    }
