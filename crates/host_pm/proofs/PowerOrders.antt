-- A suspend and a resume are orders that are carried out.
use Rattle.std.proofs.Common.{◌≡◌, refl, sym, ap, subst, ◌∙◌, ℕ, ◌+◌, ◌-◌, ◌≤◌, List, [], ◌∷◌, ◌++◌, zip, Bool, true, false, Some, None, Ok, Err, arith}
use Rattle.std.specs.List.{AllByRecursion, flat_map, list_any}
use Rattle.std.specs.Option.{option_map}
use Rattle.stream_law.specs.State.{FwState, view_of}
use Rattle.stream_law.specs.Ways.{is_live_phase}
use Rattle.mbox_link.specs.Meetings.{Meeting}
use Rattle.mbox_link.specs.Calls.{World, Meaning, Boot, Cut, Did, Led}
use Rattle.tplg_plan.specs.declared.plans.Plan.{Plan}
use Rattle.tplg_plan.specs.Sound.{IsSound}
use Rattle.host_widgets.specs.declared.answers.HostFault.{HostFault}
use Rattle.host_widgets.specs.declared.answers.HostFault.TheVariants.{Off, Refused}
use Rattle.host_widgets.specs.declared.kept.Power.{Power}
use Rattle.host_widgets.specs.declared.kept.Power.TheVariants as powers
use Rattle.host_widgets.specs.declared.kept.Power.TheVariants.{On}
use Rattle.host_widgets.specs.declared.kept.Record.{Record}
use Rattle.host_widgets.specs.Kept.{went_down, with_power}
use Rattle.host_widgets.specs.Expected.{phase_of}
use Rattle.host_widgets.specs.Host.{Outcome, Agrees, IsRecordOf, Sides}
use Rattle.host_widgets.specs.Bringing.{ticks_put}
use Rattle.host_widgets.specs.HostActs.{Act, after}
use Rattle.host_widgets.specs.ActLists.{go_down, bring_up, bring_back, prepare_acts}
use Rattle.host_widgets.specs.OneAct.{act_rules, own, outcome_by, lag_of, performed}
use Rattle.host_widgets.specs.Walk.{Walked, walk, followed_by, goes_past}
use Rattle.host_widgets.specs.ActCalls.{ActsDid, Onwards, next_of, calls_of}
use Rattle.host_widgets.specs.Orders.{Carried, suspending, resuming, brought_end}
use Rattle.host_widgets.specs.TestedOrders.{ActsCame}
use Rattle.host_widgets.specs.StateOf.{state_by}
use Rattle.host_widgets.specs.ViewOf.{record_view}
use Rattle.host_widgets.proofs.BuildingActs.{bring-leaves}
use Rattle.host_widgets.proofs.ManyEffects.{Followed, follow-sent}
use Rattle.host_widgets.proofs.Walks.{did-keep}
use Rattle.host_widgets.proofs.SilentTicks.{AreInputs, at}
use Rattle.host_pm.specs.InTurn.{InTurn}
use Rattle.host_pm.specs.Resumed.{Resumed}
use Rattle.host_pm.proofs.TurnsCome.{turn-sent, turns-come}
use Rattle.host_pm.proofs.GoingDown.{are-said, walk-down, going-down}
use Rattle.host_pm.proofs.PreparesTaken.{empty-buffers, prepared_state, prepares-end, prepares-follow, prepares-leave}

-- ---- walks that end at the first failure

module _ {D : Type 0} (means : Meaning D) (plan : Plan) (heap : ℕ) where
  abbrev walked : Record → List Meeting → List Act → Walked Record Act (List Meeting)
  walked kept ms acts = walk (act_rules plan heap) false next_of kept ms acts

  abbrev did_acts : Record → List Act → List Meeting → World D → World D → Type 0
  did_acts kept acts ms w v = ActsDid means (act_rules plan heap) false kept acts ms w v

  -- acts after acts that passed
  pub record Joined (kept : Record) (xs ys : List Act) (ms ns : List Meeting) (w v : World D) : Type 0 where
    pub did : did_acts kept (xs ++ ys) (ms ++ ns) w v
    pub outcome : (walked kept (ms ++ ns) (xs ++ ys)).outcome ≡ (walked (walked kept ms xs).kept ns ys).outcome

  pub acts-joined : (xs ys : List Act) (ms ns : List Meeting) (kept : Record) (w m v : World D) → did_acts kept xs ms w m → (walked kept ms xs).outcome ≡ Ok tt → did_acts (walked kept ms xs).kept ys ns m v → Joined kept xs ys ms ns w v
  acts-joined [] ys ms ns kept w m v did ok more =
      subst (λ (p : List Meeting × World D). did_acts kept ys ns p.1 v → Joined kept [] ys p.0 ns w v) (λ i. (sym did.0 i, sym did.1 i)) (λ there. record { did = there; outcome = refl }) more
  acts-joined (x ∷ xs) ys [] ns kept w m v did ok more = absurd did
  acts-joined (x ∷ xs) ys (one ∷ ms) ns kept w m v (mid, act, onwards) ok more =
      let r = by (outcome_by one.fate (own plan heap kept x)) onwards ok more (acts-joined xs ys ms ns (after plan x kept) mid m v) in
      record { did = (mid, act, r.0); outcome = r.1 }
    where
      Left : Outcome → Type 0
      Left o =
          let a = performed (act_rules plan heap) x kept (lag_of one) o in
          Onwards (goes_past false a.outcome) (ms ++ ns) mid v (did_acts a.kept (xs ++ ys) (ms ++ ns) mid v)
          × ((followed_by x a (ms ++ ns) (goes_past false a.outcome) (walked a.kept (ms ++ ns) (xs ++ ys))).outcome
          ≡ (walked (followed_by x a ms (goes_past false a.outcome) (walked a.kept ms xs)).kept ns ys).outcome)

      by : (o : Outcome) → (let a = performed (act_rules plan heap) x kept (lag_of one) o in Onwards (goes_past false a.outcome) ms mid m (did_acts a.kept xs ms mid m)) →
          (let a = performed (act_rules plan heap) x kept (lag_of one) o in (followed_by x a ms (goes_past false a.outcome) (walked a.kept ms xs)).outcome ≡ Ok tt) →
          (let a = performed (act_rules plan heap) x kept (lag_of one) o in did_acts (followed_by x a ms (goes_past false a.outcome) (walked a.kept ms xs)).kept ys ns m v) →
          (did_acts (after plan x kept) xs ms mid m → (walked (after plan x kept) ms xs).outcome ≡ Ok tt → did_acts (walked (after plan x kept) ms xs).kept ys ns m v → Joined (after plan x kept) xs ys ms ns mid v) → Left o
      by (Ok done) on ok more go = let r = go on ok more in (r.did, r.outcome)
      by (Err (Refused e)) on ok more go = absurd (cc ok)
      by (Err fault) on ok more go = absurd (cc ok)

  -- no act after one that failed
  pub record Ended (kept : Record) (xs ys : List Act) (ms : List Meeting) (w v : World D) : Type 0 where
    pub did : did_acts kept (xs ++ ys) ms w v
    pub outcome : (walked kept ms (xs ++ ys)).outcome ≡ (walked kept ms xs).outcome

  pub acts-ended : (xs ys : List Act) (ms : List Meeting) (kept : Record) (w v : World D) (fault : HostFault) → did_acts kept xs ms w v → (walked kept ms xs).outcome ≡ Err fault → Ended kept xs ys ms w v
  acts-ended [] ys ms kept w v fault did is = absurd (cc is)
  acts-ended (x ∷ xs) ys [] kept w v fault did is = absurd did
  acts-ended (x ∷ xs) ys (one ∷ ms) kept w v fault (mid, act, onwards) is =
      let r = by (outcome_by one.fate (own plan heap kept x)) onwards is (acts-ended xs ys ms (after plan x kept) mid v fault) in
      record { did = (mid, act, r.0); outcome = r.1 }
    where
      Left : Outcome → Type 0
      Left o =
          let a = performed (act_rules plan heap) x kept (lag_of one) o in
          Onwards (goes_past false a.outcome) ms mid v (did_acts a.kept (xs ++ ys) ms mid v)
          × ((followed_by x a ms (goes_past false a.outcome) (walked a.kept ms (xs ++ ys))).outcome ≡ (followed_by x a ms (goes_past false a.outcome) (walked a.kept ms xs)).outcome)

      by : (o : Outcome) → (let a = performed (act_rules plan heap) x kept (lag_of one) o in Onwards (goes_past false a.outcome) ms mid v (did_acts a.kept xs ms mid v)) →
          (let a = performed (act_rules plan heap) x kept (lag_of one) o in (followed_by x a ms (goes_past false a.outcome) (walked a.kept ms xs)).outcome ≡ Err fault) →
          (did_acts (after plan x kept) xs ms mid v → (walked (after plan x kept) ms xs).outcome ≡ Err fault → Ended (after plan x kept) xs ys ms mid v) → Left o
      by (Ok done) on is go = let r = go on is in (r.did, r.outcome)
      by (Err (Refused e)) on is go = (on, refl)
      by (Err fault) on is go = (on, refl)

  -- no more ticks are pending after them
  acts-fewer : (acts : List Act) (ms : List Meeting) (kept : Record) (w v : World D) → did_acts kept acts ms w v → means.pending v.device ≤ means.pending w.device
  acts-fewer acts ms kept w v did = did-keep means plan (λ (x : World D). means.pending x.device ≤ means.pending w.device) (λ request answer a b x few. omega (arith, few, x.steady.pending)) heap false acts ms kept w v did (omega arith)

  -- acts that leave the record do so wherever they end
  pub walk-stays : (kept : Record) (acts : List Act) (ms : List Meeting) → AllByRecursion (λ (act : Act). after plan act kept ≡ kept) acts → (walked kept ms acts).kept ≡ kept
  walk-stays kept [] ms all = refl
  walk-stays kept (act ∷ acts) ms all = by (outcome_by (next_of ms).0.fate (own plan heap kept act)) (walk-stays kept acts (next_of ms).1 all.1)
    where
      ended : (o : Outcome) (b : Bool) → (walked kept (next_of ms).1 acts).kept ≡ kept → (followed_by act (record { outcome = o; kept = kept; moments = lag_of (next_of ms).0 }) (next_of ms).1 b (walked kept (next_of ms).1 acts)).kept ≡ kept
      ended o true rest = rest
      ended o false rest = refl

      by : (o : Outcome) → (walked kept (next_of ms).1 acts).kept ≡ kept → (let a = performed (act_rules plan heap) act kept (lag_of (next_of ms).0) o in (followed_by act a (next_of ms).1 (goes_past false a.outcome) (walked a.kept (next_of ms).1 acts)).kept ≡ kept)
      by (Ok done) rest = ap (λ (now : Record). (walked now (next_of ms).1 acts).kept) all.0 ∙ rest
      by (Err fault) rest = ended (Err fault) (goes_past false (Err fault)) rest

  all-both : (P : Act → Type 0) (xs ys : List Act) → AllByRecursion P xs → AllByRecursion P ys → AllByRecursion P (xs ++ ys)
  all-both P [] ys first rest = rest
  all-both P (x ∷ xs) ys first rest = (first.0, all-both P xs ys first.1 rest)

  -- ---- a suspend

  pub went-down : IsSound plan → (kept kept' : Record) → IsRecordOf plan kept → (w s v : World D) (result : Outcome) → (f : FwState) → means.on w.device ≡ Some f → view_of f ≡ record_view plan kept →
      InTurn means plan true (go_down plan kept) w s result → Did means Cut s v → kept' ≡ went_down kept → Carried means plan heap (suspending plan kept) kept kept' w v result
  went-down sound kept kept' is w s v result f on shows turn cut now =
      let are = going-down plan heap sound kept is in
      let c = turns-come plan (own plan heap) (after plan) (record_view plan) true means (go_down plan kept) kept w s result f on (are-said plan heap (go_down plan kept) kept are f shows) turn in
      record {
        meetings = c.meetings;
        begun = w;
        sent = s;
        first = refl;
        walked = c.did;
        came = c.is;
        ends = (now ∙ sym (walk-down plan heap (go_down plan kept) c.meetings kept are), (v, cut, refl));
      }

  -- ---- a resume

  -- what it met, the record that the device shows and what it keeps where all passed, and no audio was moved while parameters were sent
  pub record BroughtBack (kept : Record) (w m v : World D) (result : Outcome) : Type 0 where
    pub came : ActsCame means plan heap false (bring_back plan kept) kept kept w v result
    pub shows : result ≡ Ok tt → option_map view_of (means.on v.device) ≡ Some (record_view plan kept)
    pub left : result ≡ Ok tt → Resumed means plan heap kept (ticks_put means w.device v.device) v.device
    pub io : v.io ≡ m.io

  module _ (sound : IsSound plan) (kept : Record) (is : IsRecordOf plan kept) (still : list_any (λ r. is_live_phase (phase_of r.found)) kept.streams ≡ false) where
    abbrev prepares : List Act
    prepares = flat_map prepare_acts (zip plan.streams kept.streams)

    -- all that bring it back leave the record
    pub back-leaves : AllByRecursion (λ (act : Act). after plan act kept ≡ kept) (bring_back plan kept)
    back-leaves = all-both (λ (act : Act). after plan act kept ≡ kept) (bring_up plan kept) prepares (bring-leaves plan kept sound) (prepares-leave plan sound heap kept is still)

    -- a bring-up that failed is the end
    pub back-failed : (mid : Record) (w v : World D) (fault : HostFault) (result : Outcome) → ActsCame means plan heap false (bring_up plan kept) kept mid w v (Err fault) → result ≡ Err fault → ActsCame means plan heap false (bring_back plan kept) kept kept w v result
    back-failed mid w v fault result x so =
        let e = acts-ended (bring_up plan kept) prepares x.meetings kept w v fault x.did (sym x.came) in
        record { meetings = x.meetings; did = e.did; came = so ∙ x.came ∙ sym e.outcome; left = sym (walk-stays kept (bring_back plan kept) x.meetings back-leaves) }

    module _ (mid : Record) (w m v : World D) (result : Outcome) (x : ActsCame means plan heap false (bring_up plan kept) kept mid w m (Ok tt)) (on : means.on m.device ≡ Some (state_by plan kept heap (ticks_put means w.device m.device))) (are : AreInputs m.io.inputs)
        (turn : InTurn means plan false prepares m v result) where
      abbrev t : ℕ
      t = means.pending w.device - means.pending m.device

      followed : Followed means plan heap kept prepares m v (state_by plan kept heap 0) t result
      followed = follow-sent means plan heap kept prepares m v (state_by plan kept heap 0) t result (prepares-leave plan sound heap kept is still) (prepares-follow plan sound heap kept is still) are on (turn-sent means plan prepares m v result turn)

      same-mid : (walked kept x.meetings (bring_up plan kept)).kept ≡ kept
      same-mid = walk-stays kept (bring_up plan kept) x.meetings (bring-leaves plan kept sound)

      back-came : ActsCame means plan heap false (bring_back plan kept) kept kept w v result
      back-came =
          let c = followed in
          let j = acts-joined (bring_up plan kept) prepares x.meetings c.meetings kept w m v x.did (sym x.came) (subst (λ (k : Record). did_acts k prepares c.meetings m v) (sym same-mid) c.did) in
          record {
            meetings = x.meetings ++ c.meetings;
            did = j.did;
            came = c.came_so ∙ ap (λ (k : Record). (walked k c.meetings prepares).outcome) (sym same-mid) ∙ sym j.outcome;
            left = sym (walk-stays kept (bring_back plan kept) (x.meetings ++ c.meetings) back-leaves);
          }

      -- the state then, after all ticks
      last-on : result ≡ Ok tt → means.on v.device ≡ Some (at (prepared_state plan sound heap kept is still) (means.pending w.device - means.pending v.device))
      last-on ok =
          let first = acts-fewer (bring_up plan kept) x.meetings kept w m x.did in
          let all : t + (means.pending m.device - means.pending v.device) ≡ means.pending w.device - means.pending v.device = omega (arith, first, followed.fewer) in
          followed.on ok ∙ (λ i. Some (at (prepares-end plan sound heap kept is still i) (all i)))

      back-shows : result ≡ Ok tt → option_map view_of (means.on v.device) ≡ Some (record_view plan kept)
      back-shows ok = ap (option_map view_of) (last-on ok)

      back-left : result ≡ Ok tt → Resumed means plan heap kept (ticks_put means w.device v.device) v.device
      back-left ok = record {
        state = at (prepared_state plan sound heap kept is still) (means.pending w.device - means.pending v.device);
        on = last-on ok;
        keeps = record { view = refl; pieces = refl; rings = empty-buffers plan.graph.edges };
        clock = refl;
        rings = refl;
      }

      pub brought-back : BroughtBack kept w m v result
      brought-back = record { came = back-came; shows = back-shows; left = back-left; io = followed.io }

  module _ (kept kept' mid : Record) (w b s : World D) (result : Outcome) (boot : Did means (Boot heap) w b) (x : ActsCame means plan heap false (bring_back plan kept) kept mid b s result) where
    abbrev EndsSo : World D → Record → Outcome → Type 0
    EndsSo v now o = let end = brought_end (with_power On) kept now o in (kept' ≡ end.0) × Led means s (calls_of heap end.1) v

    resumed : (v : World D) → EndsSo v mid result → Carried means plan heap (resuming plan kept) kept kept' w v result
    resumed v end = record {
      meetings = x.meetings;
      begun = b;
      sent = s;
      first = (b, boot, refl);
      walked = x.did;
      came = x.came;
      ends = subst (λ (p : Record × Outcome). EndsSo v p.0 p.1) (λ i. (x.left i, x.came i)) end;
    }

    pub resume-passed : result ≡ Ok tt → kept' ≡ with_power On mid → Carried means plan heap (resuming plan kept) kept kept' w s result
    resume-passed passed so = resumed s (subst (EndsSo s mid) (sym passed) (so, refl))

    pub resume-failed : (fault : HostFault) → result ≡ Err fault → (v : World D) → Did means Cut s v → kept' ≡ kept → Carried means plan heap (resuming plan kept) kept kept' w v result
    resume-failed fault failed v cut so = resumed v (subst (EndsSo v mid) (sym failed) (so, (v, cut, refl)))

  -- ---- both sides

  pub resumed-agrees : (kept kept' : Record) → IsRecordOf plan kept → kept' ≡ kept → (device : D) → option_map view_of (means.on device) ≡ Some (record_view plan kept) → Agrees means plan (with_power On kept') device
  resumed-agrees kept kept' is same device shows = subst (λ (r : Record). Agrees means plan (with_power On r) device) (sym same) record {
    record_is = record { streams = is.streams; controls = is.controls; each = is.each; shapes = is.shapes };
    sides = shows;
  }

  -- the streams rest, and the device is off
  pub rests-off : (kept : Record) (device : D) → Agrees means plan kept device → kept.power ≡ powers.Off → list_any (λ r. is_live_phase (phase_of r.found)) kept.streams ≡ false
  rests-off kept device agrees off = (subst (λ (p : Power). Sides means plan kept device p) off agrees.sides).0

  pub off-agrees : (kept kept' : Record) (old new : D) → Agrees means plan kept old → kept.power ≡ powers.Off → kept' ≡ kept → means.on new ≡ None → Agrees means plan kept' new
  off-agrees kept kept' old new agrees off same none = subst (λ (r : Record). Agrees means plan r new) (sym same) record {
    record_is = agrees.record_is;
    sides = subst (λ (p : Power). Sides means plan kept new p) (sym off) (rests-off kept old agrees off, none);
  }
