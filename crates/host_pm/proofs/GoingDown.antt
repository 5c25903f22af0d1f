-- The acts before a cut, in every plan: the firmware takes each, whatever became of those before it, and no act changes what the
-- record is once the power is off.
use Rattle.std.proofs.Common.{◌≡◌, refl, sym, ap, subst, ◌∙◌, ℕ, suc, ◌<◌, List, [], ◌∷◌, ◌++◌, map, length, zip, get_or, Bool, true, false, ◌==◌, Some, None, Ok, Err, arith}
use Rattle.std.specs.Prelude.{if◌then◌else◌}
use Rattle.std.specs.List.{AllByRecursion, flat_map}
use Rattle.std.proofs.lemmas.Bool.{eqb-true}
use Rattle.std.proofs.lemmas.List.{append_assoc}
use Rattle.sof_base.specs.Slots.{AreSlots, IsSlot}
use Rattle.stream_law.specs.Placed.{AreAbove, Ascends}
use Rattle.stream_law.specs.State.{FwState, View, view_of}
use Rattle.stream_law.specs.Past.{Now, Leads}
use Rattle.stream_law.specs.Stands.{Stands}
use Rattle.ipc3_model.specs.Messages.{decoded, message_spelling}
use Rattle.ipc3_model.specs.Meanings.{IsMessage}
use Rattle.ipc3_model.specs.declared.message.Message.TheVariants.{CtxSave}
use Rattle.mbox_link.specs.Step.{row, body_of, fresh}
use Rattle.mbox_link.specs.Meetings.{Meeting}
use Rattle.tplg_plan.specs.declared.plans.Plan.{Plan}
use Rattle.tplg_plan.specs.declared.plans.StreamPlan.{StreamPlan}
use Rattle.tplg_plan.specs.Sound.{IsSound}
use Rattle.host_widgets.specs.declared.answers.HostFault.TheVariants.{Off, Refused}
use Rattle.host_widgets.specs.declared.kept.Found.{Found}
use Rattle.host_widgets.specs.declared.kept.Found.TheVariants.{Prepared, Running, Paused}
use Rattle.host_widgets.specs.declared.kept.Power.TheVariants as powers
use Rattle.host_widgets.specs.declared.kept.StreamRec.{StreamRec}
use Rattle.host_widgets.specs.declared.kept.Record.{Record}
use Rattle.host_widgets.specs.declared.trigger.Trigger.TheVariants.{Stop}
use Rattle.host_widgets.specs.HostRecord.{closed, no_stream, halted, halted_found}
use Rattle.host_widgets.specs.Kept.{changed, went_down}
use Rattle.host_widgets.specs.Host.{Outcome, IsRecordOf}
use Rattle.host_widgets.specs.HostActs.{Act, Trig, Save, after, triggered_stream}
use Rattle.host_widgets.specs.ActLists.{stop_by, stop_acts, go_down}
use Rattle.host_widgets.specs.ActMessages.{act_message}
use Rattle.host_widgets.specs.OneAct.{act_rules, own, outcome_by, lag_of, performed}
use Rattle.host_widgets.specs.ViewOf.{record_view}
use Rattle.host_widgets.specs.Walk.{walk, followed_by, goes_past}
use Rattle.host_widgets.specs.ActCalls.{next_of}
use Rattle.host_widgets.proofs.Effects.{decoded-message}
use Rattle.host_widgets.proofs.OneActLaws.{IsPlain, IsTaken, LeavesSo, bare-passes, plain-ready, stream-taken}
use Rattle.host_widgets.proofs.ReadyWays.{has_host}
use Rattle.host_widgets.proofs.StreamPlaces.{streams-ascend, place-has, place-all}
use Rattle.host_widgets.proofs.StreamRows.{AllAt}
use Rattle.host_widgets.proofs.StandingOn.{same-now}
use Rattle.host_widgets.proofs.WalksHold.{AreTaken, HaveLaw}
use Rattle.host_widgets.specs.StreamStands.{takes_trigger}
use Rattle.host_widgets.proofs.StreamAnswers.{all-at}
use Rattle.host_widgets.proofs.StreamsTaken.{trig-is, trig-comes}
use Rattle.host_pm.proofs.TurnsCome.{IsMet, AreSaid}
use Rattle.host_widgets.proofs.ActsCome.{answer-says}

-- ---- one stream

-- a change of one stream leaves those of another host
pub elsewhere : (So : StreamRec → Type 0) (f : StreamRec → StreamRec) (host other : ℕ) → (other ≡ host → ⊥) → (ss : List StreamPlan) (rs : List StreamRec) → AllAt So other ss rs → AllAt So other ss (changed (λ (s : StreamPlan). s.host) host f ss rs)
elsewhere So f host other apart [] rs so = tt
elsewhere So f host other apart (s ∷ ss) [] so = tt
elsewhere So f host other apart (s ∷ ss) (r ∷ rs) so = (λ here. by (s.host == host) refl here, elsewhere So f host other apart ss rs so.1)
  where
    by : (b : Bool) → (s.host == host) ≡ b → (s.host == other) ≡ true → So (if b then f r else r)
    by true is here = absurd (apart (sym (eqb-true s.host other here) ∙ eqb-true s.host host is))
    by false is here = so.0 here

stops-halted : (found : Found) → takes_trigger Stop found ≡ true → Prepared ≡ halted_found found
stops-halted Running is = refl
stops-halted Paused is = refl
stops-halted found is = absurd (cc is)

-- one that is stopped is as one that went down
halts-same : (host : ℕ) (ss : List StreamPlan) (rs : List StreamRec) → AllAt (λ r. takes_trigger Stop r.found ≡ true) host ss rs → map halted (changed (λ (s : StreamPlan). s.host) host (triggered_stream Stop) ss rs) ≡ map halted rs
halts-same host [] rs so = refl
halts-same host (s ∷ ss) [] so = refl
halts-same host (s ∷ ss) (r ∷ rs) so = λ i. by (s.host == host) refl i ∷ halts-same host ss rs so.1 i
  where
    by : (b : Bool) → (s.host == host) ≡ b → halted (if b then triggered_stream Stop r else r) ≡ halted r
    by true is = λ i. record { found = stops-halted r.found (so.0 is) i; params = r.params }
    by false is = refl

pub save-fits : IsMessage CtxSave
unfolding AreSlots IsSlot
save-fits = ((tt, (omega arith, tt)), tt)

-- ---- lists of acts

module _ (plan : Plan) (heap : ℕ) where
  -- an act that the firmware takes, and that leaves what the record is once the power is off
  pub record IsDown (now : Record) (act : Act) : Type 0 where
    pub taken : IsTaken plan now act
    pub met : IsMet plan heap (λ f. Unit {0}) now (record_view plan now) (record_view plan (after plan act now)) act
    pub halts : went_down (after plan act now) ≡ went_down now

  -- each, whatever became of those before it
  abbrev pub AreDown : Record → List Act → Type 0
  AreDown now [] = Unit {0}
  AreDown now (act ∷ acts) = IsDown now act × AreDown (after plan act now) acts × AreDown now acts

  -- so each has the law of one act
  have-law : (acts : List Act) (now : Record) → AreDown now acts → HaveLaw plan true now acts
  have-law [] now are = tt
  have-law (act ∷ acts) now are = (are.0.taken, (λ will. have-law acts (after plan act now) are.1), λ on. have-law acts now are.2)

  -- and the firmware says to each what the record says
  pub are-said : (acts : List Act) (now : Record) → AreDown now acts → (f : FwState) → view_of f ≡ record_view plan now → AreSaid plan (own plan heap) (after plan) (record_view plan) true acts now f
  are-said [] now are f shows = tt
  are-said (act ∷ acts) now are f shows = (
    are.0.met.message,
    λ g same.
        let shown = same.view ∙ shows in
        let a = are.0.met.answers g shown in (
          answer-says (own plan heap now act) (row g (act_message plan act)) a.0 a.1,
          λ free h done. are-said acts (after plan act now) are.1 h (are.0.met.shows g h shown done),
          λ goes. are-said acts now are.2 g shown,
        ),
  )

  -- whatever their messages met
  pub walk-down : (acts : List Act) (ms : List Meeting) (now : Record) → AreDown now acts → went_down (walk (act_rules plan heap) true next_of now ms acts).kept ≡ went_down now
  walk-down [] ms now are = refl
  walk-down (act ∷ acts) ms now are = by (outcome_by (next_of ms).0.fate (own plan heap now act)) (walk-down acts (next_of ms).1 (after plan act now) are.1) (walk-down acts (next_of ms).1 now are.2)
    where
      left : Outcome → Record
      left o =
          let a = performed (act_rules plan heap) act now (lag_of (next_of ms).0) o in
          (followed_by act a (next_of ms).1 (goes_past true a.outcome) (walk (act_rules plan heap) true next_of a.kept (next_of ms).1 acts)).kept

      by : (o : Outcome) → went_down (walk (act_rules plan heap) true next_of (after plan act now) (next_of ms).1 acts).kept ≡ went_down (after plan act now) → went_down (walk (act_rules plan heap) true next_of now (next_of ms).1 acts).kept ≡ went_down now → went_down (left o) ≡ went_down now
      by (Ok done) passed refused = passed ∙ are.0.halts
      by (Err (Refused e)) passed refused = refused
      by (Err fault) passed refused = refl

  -- ---- the acts before a cut

  module _ (sound : IsSound plan) where
    -- some state that shows a record
    abbrev shown_state : Record → FwState
    shown_state now = record { heap = (fresh heap).heap; clock = 0; graph = (record_view plan now).graph; streams = (record_view plan now).streams; rings = []; histories = []; staging = [] }

    -- each stream stands in a record as it stands here
    abbrev AllStand : Record → List StreamPlan → List StreamRec → Type 0
    AllStand now [] rs = Unit {0}
    AllStand now (s ∷ ss) [] = Unit {0}
    AllStand now (s ∷ ss) (r ∷ rs) = AllAt (λ x. x.found ≡ r.found) s.host plan.streams now.streams × AllStand now ss rs

    abbrev AllHere : List StreamPlan → Type 0
    AllHere ss = AllByRecursion (λ (s : StreamPlan). has_host plan.streams s.host ≡ true) ss

    -- the firmware goes on as it is
    save-taken : (now : Record) → IsRecordOf plan now → IsTaken plan now Save
    save-taken now is = record {
      message = save-fits;
      passes = λ f. bare-passes (body_of f (decoded (message_spelling (act_message plan Save)))) (ap (body_of f) (decoded-message CtxSave save-fits));
      record_is = is;
      leaves = λ f f' shows rings ready done.
          let same : f ≡ f' = cc done in
          subst (λ (g : FwState). LeavesSo plan Save f g now) same record {
            record_now = is;
            shows_now = shows;
            heap = refl;
            rings = rings;
            stands = λ whole inputs before stood.
                subst (λ (v : View). (after_it : Stands (Some f) whole inputs (before ++ Now v None ∷ [])) × Leads whole stood.past (Now v None ∷ []) after_it.past) shows (same-now f whole inputs before stood);
          };
    }

    save-down : (now : Record) → IsRecordOf plan now → AreDown now (Save ∷ [])
    save-down now is = (
      record {
        taken = save-taken now is;
        met = record {
          message = save-fits;
          passes = λ f. bare-passes (body_of f (decoded (message_spelling (act_message plan Save)))) (ap (body_of f) (decoded-message CtxSave save-fits));
          answers = λ f shows. (f, refl);
          shows = λ f f' shows done. (let same : f ≡ f' = cc done in ap view_of (sym same) ∙ shows);
          stays = λ f f' shows done so. tt;
        };
        halts = refl;
      },
      tt,
      tt,
    )

    module _ (now : Record) (is : IsRecordOf plan now) (host : ℕ) (some : has_host plan.streams host ≡ true) (takes : AllAt (λ r. takes_trigger Stop r.found ≡ true) host plan.streams now.streams) where
      abbrev stopped : Record
      stopped = after plan (Trig host Stop) now

      stopped-is : IsRecordOf plan stopped
      stopped-is =
          let s = trig-is plan sound now is host some Stop takes in
          let done = (trig-comes plan sound now is host some heap Stop takes).answers (shown_state now) refl in
          subst (IsRecordOf plan) (sym s.changes) (s.record_will (shown_state now) done.0 refl done.1)

      stop-down : IsDown now (Trig host Stop)
      stop-down =
          let s = trig-is plan sound now is host some Stop takes in
          let a = trig-comes plan sound now is host some heap Stop takes in
          record {
            taken = stream-taken plan now (Trig host Stop) s;
            met = record {
              message = a.message;
              passes = a.passes;
              answers = a.answers;
              shows = λ f f' shows done. ap view_of (s.sees f f' shows done);
              stays = λ f f' shows done so. tt;
            };
            halts = λ i. record { power = powers.Off; streams = halts-same host plan.streams now.streams takes i; controls = now.controls };
          }

    others-stand : (now : Record) (host : ℕ) (ss : List StreamPlan) (rs : List StreamRec) → AreAbove (λ (s : StreamPlan). s.host) host ss → AllStand now ss rs → AllStand (after plan (Trig host Stop) now) ss rs
    unfolding AreAbove
    others-stand now host [] rs above stand = tt
    others-stand now host (s ∷ ss) [] above stand = tt
    others-stand now host (s ∷ ss) (r ∷ rs) above stand =
        (elsewhere (λ x. x.found ≡ r.found) (triggered_stream Stop) host s.host (λ same. omega (arith, same, above.0)) plan.streams now.streams stand.0, others-stand now host ss rs above.1 stand.1)

    downwards : (ss : List StreamPlan) (rs : List StreamRec) (now : Record) → IsRecordOf plan now → Ascends (λ (s : StreamPlan). s.host) ss → AllHere ss → AllStand now ss rs → AreDown now (flat_map stop_acts (zip ss rs) ++ Save ∷ [])
    unfolding Ascends
    downwards [] rs now is up here stand = save-down now is
    downwards (s ∷ ss) [] now is up here stand = save-down now is
    downwards (s ∷ ss) (r ∷ rs) now is up here stand = by r.found refl (downwards ss rs now is up.1 here.1 stand.1) (λ will. downwards ss rs (after plan (Trig s.host Stop) now) will up.1 here.1 (others-stand now s.host ss rs up.0 stand.1))
      where
        rest : List Act
        rest = flat_map stop_acts (zip ss rs) ++ Save ∷ []

        stops : AllAt (λ x. takes_trigger Stop x.found ≡ true) s.host plan.streams now.streams → AreDown now rest → (IsRecordOf plan (after plan (Trig s.host Stop) now) → AreDown (after plan (Trig s.host Stop) now) rest) → AreDown now (Trig s.host Stop ∷ rest)
        stops takes same behind = (stop-down now is s.host here.0 takes, behind (stopped-is now is s.host here.0 takes), same)

        takes : (found : Found) → r.found ≡ found → takes_trigger Stop found ≡ true → AllAt (λ x. takes_trigger Stop x.found ≡ true) s.host plan.streams now.streams
        takes found is_so may_stop = all-at (λ x. x.found ≡ r.found) (λ x. takes_trigger Stop x.found ≡ true) (λ x stands. ap (takes_trigger Stop) (stands ∙ is_so) ∙ may_stop) s.host plan.streams now.streams stand.0

        by : (found : Found) → r.found ≡ found → AreDown now rest → (IsRecordOf plan (after plan (Trig s.host Stop) now) → AreDown (after plan (Trig s.host Stop) now) rest) → AreDown now ((stop_by s.host found ++ flat_map stop_acts (zip ss rs)) ++ Save ∷ [])
        by Running is_so same behind = stops (takes Running is_so refl) same behind
        by Paused is_so same behind = stops (takes Paused is_so refl) same behind
        by found is_so same behind = same

    -- ---- by places

    stand-by : (now : Record) (ss : List StreamPlan) (rs : List StreamRec) → ((k : ℕ) → k < length ss → AllAt (λ x. x.found ≡ (get_or rs k closed).found) (get_or ss k no_stream).host plan.streams now.streams) → AllStand now ss rs
    stand-by now [] rs each = tt
    stand-by now (s ∷ ss) [] each = tt
    stand-by now (s ∷ ss) (r ∷ rs) each = (each 0 (omega arith), stand-by now ss rs (λ k low. each (suc k) (omega (arith, low))))

    here-by : (ss : List StreamPlan) → ((k : ℕ) → k < length ss → has_host plan.streams (get_or ss k no_stream).host ≡ true) → AllHere ss
    here-by [] each = tt
    here-by (s ∷ ss) each = (each 0 (omega arith), here-by ss (λ k low. each (suc k) (omega (arith, low))))

    -- all that moves is stopped, and the message that the power will be cut is sent
    pub going-down : (kept : Record) → IsRecordOf plan kept → AreDown kept (go_down plan kept)
    going-down kept is = downwards plan.streams kept.streams kept is (streams-ascend plan sound) (here-by plan.streams (place-has plan sound))
        (stand-by kept plan.streams kept.streams (λ k low. place-all plan sound k low (λ x. x.found ≡ (get_or kept.streams k closed).found) kept.streams refl))

    -- they ask nothing of what is staged
    plain-one : (host : ℕ) (found : Found) (rest : List Act) → AllByRecursion IsPlain rest → AllByRecursion IsPlain (stop_by host found ++ rest)
    plain-one host Running rest all = (tt, all)
    plain-one host Paused rest all = (tt, all)
    plain-one host found rest all = all

    plain-down : (ss : List StreamPlan) (rs : List StreamRec) → AllByRecursion IsPlain (flat_map stop_acts (zip ss rs) ++ Save ∷ [])
    plain-down [] rs = (tt, tt)
    plain-down (s ∷ ss) [] = (tt, tt)
    plain-down (s ∷ ss) (r ∷ rs) =
        subst (AllByRecursion IsPlain) (sym (append_assoc (stop_by s.host r.found) (flat_map stop_acts (zip ss rs)) (Save ∷ [])))
        (plain-one s.host r.found (flat_map stop_acts (zip ss rs) ++ Save ∷ []) (plain-down ss rs))

    -- so the firmware takes them all, whatever becomes of each
    pub down-taken : (kept : Record) → IsRecordOf plan kept → AreTaken plan true kept (go_down plan kept)
    down-taken kept is = record {
      each = have-law (go_down plan kept) kept (going-down kept is);
      ready = plain-ready plan true (go_down plan kept) (plain-down plan.streams kept.streams);
    }
