-- Messages one after another of a host that makes pipelines on use, over any device: they are those of its acts, and what is there in the
-- device goes on to be what is kept of it.
use Rattle.std.proofs.Common.{◌≡◌, refl, sym, ap, subst, ◌∙◌, ℕ, ◌-◌, ◌==◌, List, [], ◌∷◌, Bool, true, false, Some, None, Ok, Err}
use Rattle.std.specs.Prelude.{Option, Result, MatchResult, find, is_some}
use Rattle.stream_law.specs.State.{FwState, Staging}
use Rattle.ipc3_model.specs.declared.reply.Reply.{Reply}
use Rattle.ipc3_model.specs.Meanings.{IsMessage}
use Rattle.mbox_link.specs.Calls.{World, Meaning}
use Rattle.mbox_link.specs.Meetings.{Meeting}
use Rattle.mbox_link.specs.Step.{row}
use Rattle.tplg_plan.specs.declared.plans.Plan.{Plan}
use Rattle.host_widgets.specs.declared.answers.HostFault.{HostFault}
use Rattle.host_widgets.specs.declared.answers.HostFault.TheVariants as faults
use Rattle.host_widgets.specs.ActCalls.{ActsDid, Onwards, next_of, came_to}
use Rattle.host_widgets.specs.Host.{Outcome, verdict}
use Rattle.host_widgets.specs.HostActs.{Part, Act}
use Rattle.host_widgets.specs.OneAct.{outcome_by, performed, lag_of}
use Rattle.host_widgets.specs.Walk.{walk, followed_by, goes_past}
use Rattle.host_widgets.proofs.BuildingActs.{ends-at}
use Rattle.host_widgets.proofs.PartRows.{HasStaged}
use Rattle.host_widgets.proofs.StandingOn.{LeavesAll, ticks-leave}
use Rattle.host_widgets.specs.There.{there_in}
use Rattle.host_widgets.specs.UpState.{UpState, up_own, up_act_rules}
use Rattle.host_widgets.proofs.AfterExchange.{before, Left, it-left, HasMet, met-came, act-met}
use Rattle.host_widgets.proofs.UpExchanges.{leaves-there, IsOwn, own-said, own-leaves}
use Rattle.host_widgets.proofs.UpWalks.{passed-free}
use Rattle.host_widgets.specs.ActMessages.{act_message}
use Rattle.host_widgets.specs.MadeLists.{ActsPassed}

-- ---- what is staged

-- a part of a blob asks for those before it
abbrev pub Staged : Act → FwState → Type 0
Staged (Part id blob k) f = HasStaged id blob k f
Staged act f = Unit {0}

abbrev pub StagedFirst : List Act → FwState → Type 0
StagedFirst [] f = Unit {0}
StagedFirst (act ∷ acts) f = Staged act f

pub staged-still : (act : Act) (f g : FwState) → g.staging ≡ f.staging → Staged act f → Staged act g
staged-still (Part id blob k) f g same staged = λ some. ap (λ (ss : List Staging). find (λ (s : Staging). s.eq == id) ss) same ∙ staged some
staged-still act f g same staged = tt

module _ (plan : Plan) where
  -- ---- lists that the firmware answers as the rules say

  -- Each is a message; a firmware in which what is kept is there answers it as the rules say, where what it asks is staged; and after it
  -- the next finds staged what it asks.
  abbrev pub AreAnswered : UpState → List Act → Type 0
  AreAnswered u [] = Unit {0}
  AreAnswered u (act ∷ acts) =
      IsMessage (act_message plan act)
      × ((f : FwState) → there_in f ≡ u.there → Staged act f → IsOwn plan u act f)
      × ((f g : FwState) → Staged act f → row f (act_message plan act) ≡ Ok g → StagedFirst acts g)
      × (up_own plan u act ≡ None → AreAnswered ((up_act_rules plan).after act u) acts)

  -- what acts leave that passed one after another
  abbrev pub after_all : UpState → List Act → UpState
  after_all u [] = u
  after_all u (act ∷ acts) = after_all ((up_act_rules plan).after act u) acts

  -- the firmware itself refused none of them
  abbrev pub AreFree : UpState → List Act → Type 0
  AreFree u [] = Unit {0}
  AreFree u (act ∷ acts) = (up_own plan u act ≡ None) × AreFree ((up_act_rules plan).after act u) acts

  module _ {D : Type 0} (means : Meaning D) where
    -- what is kept is there in a device, unless its link failed
    abbrev pub EndsThere : Outcome → UpState → World D → Type 0
    EndsThere (Err faults.LinkDown) u v = is_some (means.on v.device) ≡ true
    EndsThere o u v = (g : FwState) × (means.on v.device ≡ Some g) × (there_in g ≡ u.there)

    pub record HasSent (u : UpState) (acts passed : List Act) (w v : World D) (result : Outcome) : Type 0 where
      pub meetings : List Meeting
      pub did : ActsDid means (up_act_rules plan) false u acts meetings w v
      pub came : result ≡ (walk (up_act_rules plan) false next_of u meetings acts).outcome
      pub there : let x = walk (up_act_rules plan) false next_of u meetings acts in EndsThere x.outcome x.kept v
      pub free : AreFree u passed
      pub left : (walk (up_act_rules plan) false next_of u meetings acts).kept ≡ after_all u passed

    -- one act, and those after it
    module _ (u : UpState) (act : Act) (acts passed : List Act) (w mid v : World D) (result : Outcome) (answer : Option (List ℕ)) (m : HasMet means (up_act_rules plan) u act answer w mid) where
      abbrev came_so : Outcome
      came_so = outcome_by m.0.fate (up_own plan u act)

      -- its result, by whether acts go on
      abbrev Behind : List Meeting → Outcome → Bool → Type 0
      Behind ms o goes =
          let a = performed (up_act_rules plan) act u (lag_of m.0) o in
          let y = followed_by act a ms goes (walk (up_act_rules plan) false next_of a.kept ms acts) in
          Onwards goes ms mid v (ActsDid means (up_act_rules plan) false a.kept acts ms mid v) × (result ≡ y.outcome) × EndsThere y.outcome y.kept v × (y.kept ≡ after_all u passed)

      abbrev All : List Meeting → Outcome → Type 0
      All ms o = Behind ms o (goes_past false (performed (up_act_rules plan) act u (lag_of m.0) o).outcome)

      whole-list : (ms : List Meeting) → AreFree u passed → All ms came_so → HasSent u (act ∷ acts) passed w v result
      whole-list ms free all = record { meetings = m.0 ∷ ms; did = (mid, m.1, all.0); came = all.1; there = all.2; free = free; left = all.3 }

      passed-so : came_so ≡ Ok tt → (more : List Act) → passed ≡ act ∷ more → HasSent ((up_act_rules plan).after act u) acts more mid v result → HasSent u (act ∷ acts) passed w v result
      passed-so is more first r =
          whole-list r.meetings (subst (AreFree u) (sym first) (passed-free m.0.fate (up_own plan u act) is, r.free)) (subst (All r.meetings) (sym is) (r.did, r.came, r.there, r.left ∙ ap (after_all u) (sym first)))

      -- a fault ends it
      failed-so : (fault : HostFault) → came_so ≡ Err fault → passed ≡ [] → v ≡ mid → result ≡ Err fault → EndsThere (Err fault) u mid → HasSent u (act ∷ acts) passed w v result
      failed-so fault is none stays told_is ends = whole-list [] (subst (AreFree u) (sym none) tt) (subst (All []) (sym is) (subst (Behind [] (Err fault)) (sym (ends-at fault))
          ((refl, stays), told_is, subst (EndsThere (Err fault) u) (sym stays) ends, ap (after_all u) (sym none))))

    -- ---- all of them

    pub sent-did : (acts : List Act) (passed : List Act) (u : UpState) (w v : World D) (result : Outcome) (f : FwState) → means.on w.device ≡ Some f → there_in f ≡ u.there → StagedFirst acts f → AreAnswered u acts →
        ActsPassed means plan acts passed w v result → HasSent u acts passed w v result
    sent-did [] passed u w v result f on same staged answered (none, stays, is) = record {
      meetings = [];
      did = (refl, stays);
      came = is;
      there = (f, ap (λ (y : World D). means.on y.device) stays ∙ on, same);
      free = subst (AreFree u) (sym none) tt;
      left = ap (after_all u) (sym none);
    }
    sent-did (act ∷ acts) passed u w v result f on same staged answered (mid, answer, x, rest) =
        by (verdict answer) refl rest (λ more g on_g same_g staged_g answered_g sent. sent-did acts more ((up_act_rules plan).after act u) mid v result g on_g same_g staged_g answered_g sent)
      where
        now : FwState
        now = (before means (act_message plan act) answered.0 answer w mid f on x).0

        leaves : LeavesAll f now
        leaves = ticks-leave (means.pending w.device - means.pending mid.device) f w.io

        same_now : there_in now ≡ u.there
        same_now = leaves-there f now leaves ∙ same

        staged_now : Staged act now
        staged_now = staged-still act f now leaves.staging staged

        own : IsOwn plan u act now
        own = answered.1 now same_now staged_now

        m : HasMet means (up_act_rules plan) u act answer w mid
        m = act-met means (up_act_rules plan) u act answer w mid answered.0 f on x (own-said plan u act now own)

        After : Outcome → Type 0
        After o = Left means (act_message plan act) answered.0 answer w mid f on x o

        after-it : After (came_to (verdict answer))
        after-it = it-left means (act_message plan act) answered.0 answer w mid f on x

        ends-of : (fault : HostFault) → After (Err fault) → EndsThere (Err fault) u mid
        ends-of faults.LinkDown left = left
        ends-of fault left = (now, left, same_now)

        Rest : Type 0
        Rest = (more : List Act) (g : FwState) → means.on mid.device ≡ Some g → there_in g ≡ ((up_act_rules plan).after act u).there → StagedFirst acts g → AreAnswered ((up_act_rules plan).after act u) acts →
            ActsPassed means plan acts more mid v result → HasSent ((up_act_rules plan).after act u) acts more mid v result

        by : (r : Result Reply HostFault) → verdict answer ≡ r →
            MatchResult r (λ reply. (more : List Act) × (passed ≡ act ∷ more) × ActsPassed means plan acts more mid v result) (λ fault. (passed ≡ []) × (v ≡ mid) × (result ≡ Err fault)) →
            Rest → HasSent u (act ∷ acts) passed w v result
        by (Ok reply) is (more, first, sent) go =
            let is_ok : outcome_by m.0.fate (up_own plan u act) ≡ Ok tt = sym (met-came means (up_act_rules plan) u act answer w mid m) ∙ ap came_to is in
            let free = passed-free m.0.fate (up_own plan u act) is_ok in
            let l = subst After (ap came_to is) after-it in
            passed-so u act acts passed w mid v result answer m is_ok more first
            (go more l.0 l.1 (own-leaves plan u act now l.0 own free l.2) (answered.2 now l.0 staged_now l.2) (answered.3 free) sent)
        by (Err fault) is (none, stays, told_is) go =
            failed-so u act acts passed w mid v result answer m fault (sym (met-came means (up_act_rules plan) u act answer w mid m) ∙ ap came_to is) none stays told_is (ends-of fault (subst After (ap came_to is) after-it))
