-- An order whose messages were answered is a job that is done by the rules of a host that makes pipelines on use, where the firmware answers
-- them as these rules say.
use Rattle.std.proofs.Common.{◌≡◌, refl, sym, ap, subst, ◌∙◌, ℕ, Bool, List, [], ◌∷◌, true, false, Option, Some, None, Result, Ok, Err}
use Rattle.std.specs.Prelude.{MatchResult, is_some, if◌then◌else◌}
use Rattle.std.proofs.lemmas.List.{append-nil}
use Rattle.stream_law.specs.Past.{Moment}
use Rattle.stream_law.specs.State.{FwState}
use Rattle.ipc3_model.specs.declared.reply.Reply.{Reply}
use Rattle.mbox_link.specs.BlobParts.{is_last}
use Rattle.mbox_link.specs.Calls.{World, Meaning, Led}
use Rattle.tplg_plan.specs.declared.plans.Plan.{Plan}
use Rattle.host_widgets.specs.declared.answers.Answer.{Answer}
use Rattle.host_widgets.specs.declared.answers.HostFault.{HostFault}
use Rattle.host_widgets.specs.declared.answers.HostFault.TheVariants as faults
use Rattle.host_widgets.specs.declared.kept.Power.{Power}
use Rattle.host_widgets.specs.declared.kept.Power.TheVariants as powers
use Rattle.host_widgets.specs.declared.kept.Record.{Record}
use Rattle.host_widgets.specs.ActCalls.{calls_of, next_of}
use Rattle.host_widgets.specs.AnsweredOrders.{ActsAnswered, OrderAnswered}
use Rattle.host_widgets.specs.Host.{Outcome, verdict}
use Rattle.host_widgets.specs.HostActs.{Act, Part, after, with_blob}
use Rattle.host_widgets.specs.Kept.{with_control}
use Rattle.host_widgets.specs.Orders.{plain_end, sends}
use Rattle.host_widgets.specs.Routines.{JobDone}
use Rattle.host_widgets.specs.Walk.{walk}
use Rattle.host_widgets.proofs.AnsweredActs.{Answering}
use Rattle.host_widgets.proofs.Exchanges.{state_of}
use Rattle.host_widgets.proofs.PlainOrders.{same-end}
use Rattle.host_dynamic.specs.Dynamic.{plain_job}
use Rattle.host_widgets.specs.UpState.{UpState, settled, there_by, up_act_rules}
use Rattle.host_widgets.specs.There.{nowhere, there_in}
use Rattle.host_dynamic.specs.UpDevices.{there_on, up_state_in}
use Rattle.host_widgets.proofs.UpSending.{AreAnswered, EndsThere, HasSent, StagedFirst, after_all, sent-did}
use Rattle.host_widgets.specs.MadeLists.{ActsPassed}

module _ (plan : Plan) where
  -- acts that passed leave the power, and what is up
  after-power : (act : Act) (now : Record) → (after plan act now).power ≡ now.power
  after-power (Part comp blob k) now = by (is_last blob k)
    where
      by : (b : Bool) → (if b then with_control plan comp (with_blob blob) now else now).power ≡ now.power
      by true = refl
      by false = refl
  after-power act now = refl

  pub all-power : (acts : List Act) (u : UpState) → (after_all plan u acts).kept.power ≡ u.kept.power
  all-power [] u = refl
  all-power (act ∷ acts) u = all-power acts ((up_act_rules plan).after act u) ∙ after-power act u.kept

  pub all-up : (acts : List Act) (u : UpState) → (after_all plan u acts).up ≡ u.up
  all-up [] u = refl
  all-up (act ∷ acts) u = all-up acts ((up_act_rules plan).after act u)

  module _ {D : Type 0} (means : Meaning D) (heap : ℕ) (done : Record → Record) where
    -- what is left of a record, by the result of all
    abbrev LeftSo : Record → Record → World D → World D → Outcome → Type 0
    LeftSo now kept' sent v result = let end = plain_end done now result in (kept' ≡ end.0) × Led means sent (calls_of heap end.1) v

    -- the messages of acts, the acts that passed, and how they ended
    pub record Split (u : UpState) (acts : List Act) (kept' : Record) (w v : World D) (result : Outcome) : Type 0 where
      pub passed : List Act
      pub sent : World D
      pub did : ActsPassed means plan acts passed w sent result
      pub ends : LeftSo (after_all plan u passed).kept kept' sent v result

    pub split : (acts : List Act) (u : UpState) (kept' : Record) (w v : World D) (result : Outcome) → ActsAnswered means plan heap done acts u.kept kept' w v result → Split u acts kept' w v result
    split [] u kept' w v result (left, stays, is) = record { passed = []; sent = w; did = (refl, refl, is); ends = subst (LeftSo u.kept kept' w v) (sym is) (left, stays) }
    split (act ∷ acts) u kept' w v result (mid, answer, e, more) = by (verdict answer) refl more (λ rest. split acts ((up_act_rules plan).after act u) kept' mid v result rest)
      where
        Behind : List Act → World D → Result Reply HostFault → Type 0
        Behind passed sent r = MatchResult r
            (λ reply. (rest : List Act) × (passed ≡ act ∷ rest) × ActsPassed means plan acts rest mid sent result)
            (λ fault. (passed ≡ []) × (sent ≡ mid) × (result ≡ Err fault))

        by : (r : Result Reply HostFault) → verdict answer ≡ r → Answering means plan heap done act acts u.kept kept' mid v result r →
            (ActsAnswered means plan heap done acts (after plan act u.kept) kept' mid v result → Split ((up_act_rules plan).after act u) acts kept' mid v result) → Split u (act ∷ acts) kept' w v result
        by (Ok reply) is rest go =
            let s = go rest in
            record { passed = act ∷ s.passed; sent = s.sent; did = (mid, answer, e, subst (Behind (act ∷ s.passed) s.sent) (sym is) (s.passed, refl, s.did)); ends = s.ends }
        by (Err fault) is (failed, end) go = record {
          passed = [];
          sent = mid;
          did = (mid, answer, e, subst (Behind [] mid) (sym is) (refl, refl, failed));
          ends = subst (LeftSo u.kept kept' mid v) (sym failed) (subst (λ (x : Record × List Moment). (kept' ≡ x.0) × Led means mid (calls_of heap x.1) v) (same-end done u.kept fault) end);
        }

    -- ---- where the power is on

    module _ (keeps : (now : Record) → (done now).power ≡ now.power) (u : UpState) (power : u.kept.power ≡ powers.On) (acts : List Act) (w : World D) (f : FwState) (on : means.on w.device ≡ Some f) (same : there_in f ≡ u.there)
        (staged : StagedFirst acts f) (answered : AreAnswered plan u acts) (kept' : Record) (v : World D) (result : Outcome) (x : ActsAnswered means plan heap done acts u.kept kept' w v result) where
      s : Split u acts kept' w v result
      s = split acts u kept' w v result x

      h : HasSent plan means u acts s.passed w s.sent result
      h = sent-did plan means acts s.passed u w s.sent result f on same staged answered s.did

      abbrev now : UpState
      now = (walk (up_act_rules plan) false next_of u h.meetings acts).kept

      abbrev came : Outcome
      came = (walk (up_act_rules plan) false next_of u h.meetings acts).outcome

      ends : LeftSo now.kept kept' s.sent v came
      ends = subst (λ (y : UpState × Outcome). LeftSo y.0.kept kept' s.sent v y.1) (λ i. (sym h.left i, h.came i)) s.ends

      now-power : now.kept.power ≡ powers.On
      now-power = ap (λ (y : UpState). y.kept.power) h.left ∙ all-power s.passed u ∙ power

      -- what is there then
      abbrev Stays : Outcome → Type 0
      Stays o = LeftSo now.kept kept' s.sent v o → EndsThere plan means o now s.sent → there_on (means.on v.device) ≡ there_by (plain_end done now.kept o).0.power now.there

      there-so : (left : Record) → left.power ≡ powers.On → v ≡ s.sent → (g : FwState) → means.on s.sent.device ≡ Some g → there_in g ≡ now.there → there_on (means.on v.device) ≡ there_by left.power now.there
      there-so left is_on stays g on_g same_g =
          ap (λ (y : World D). there_on (means.on y.device)) stays ∙ ap there_on on_g ∙ same_g ∙ ap (λ (p : Power). there_by p now.there) (sym is_on)

      kept-there : (o : Outcome) → Stays o
      kept-there (Ok passed) left (g, on_g, same_g) = there-so (done now.kept) (keeps now.kept ∙ now-power) left.1 g on_g same_g
      kept-there (Err faults.LinkDown) left up = ap there_on (ap (λ (y : World D). means.on y.device) left.1.2 ∙ left.1.1.0.on)
      kept-there (Err (faults.Refused e)) left (g, on_g, same_g) = there-so now.kept now-power left.1 g on_g same_g
      kept-there (Err fault) left (g, on_g, same_g) = there-so now.kept now-power left.1 g on_g same_g

      now-up : u.up ≡ now.up
      now-up = sym (all-up s.passed u) ∙ ap (λ (y : UpState). y.up) (sym h.left)

      left-is : up_state_in means kept' u.up v.device ≡ settled (plain_end done now.kept came).0 now
      left-is = λ i. record { kept = ends.0 i; up = now-up i; there = kept-there came ends h.there i }

      pub acts-job : (answer : Answer) → JobDone means (up_act_rules plan) heap (plain_job plan u (sends powers.On acts done answer)) (up_state_in means kept' u.up v.device) w v result
      acts-job answer = record {
        meetings = h.meetings;
        begun = w;
        first = refl;
        did = (h.meetings, [], s.sent, sym (append-nil h.meetings), h.did, (refl, ends.1));
        came = h.came;
        left = left-is;
      }

    -- ---- an order that sends where the power is on

    by-none : (power : Power) → there_by power nowhere ≡ nowhere
    by-none powers.On = refl
    by-none power = refl

    module _ (kept : Record) (up : List ℕ) (w : World D) where
      abbrev at_first : UpState
      at_first = up_state_in means kept up w.device

      -- where it is off, nothing is sent
      none-sent : means.on w.device ≡ None → (answer : Answer) (kept' : Record) (v : World D) (result : Outcome) → (kept' ≡ done kept) × (v ≡ w) × (result ≡ Ok tt) →
          JobDone means (up_act_rules plan) heap (plain_job plan at_first (sends powers.Off [] done answer)) (up_state_in means kept' up v.device) w v result
      none-sent off answer kept' v result (left, stays, is) = record {
        meetings = [];
        begun = w;
        first = refl;
        did = ([], [], w, refl, (refl, refl), (refl, stays));
        came = is;
        left = λ i. record {
          kept = left i;
          up = up;
          there = (ap (λ (y : World D). there_on (means.on y.device)) stays ∙ ap there_on off ∙ sym (ap (λ (o : Option FwState). there_by (done kept).power (there_on o)) off ∙ by-none (done kept).power)) i;
        };
      }

      pub sends-job : ((now : Record) → (done now).power ≡ now.power) → (kept.power ≡ powers.On → is_some (means.on w.device) ≡ true) → ((kept.power ≡ powers.On → ⊥) → means.on w.device ≡ None) → (acts : List Act) (answer : Answer) →
          ((f : FwState) → StagedFirst acts f) → (kept.power ≡ powers.On → AreAnswered plan at_first acts) → (kept' : Record) (v : World D) (result : Outcome) →
          OrderAnswered means plan heap (sends kept.power acts done answer) kept kept' w v result → JobDone means (up_act_rules plan) heap (plain_job plan at_first (sends kept.power acts done answer)) (up_state_in means kept' up v.device) w v result
      sends-job keeps on off acts answer staged answered kept' v result x = by kept.power refl x
        where
          by : (power : Power) → kept.power ≡ power → OrderAnswered means plan heap (sends power acts done answer) kept kept' w v result →
              JobDone means (up_act_rules plan) heap (plain_job plan at_first (sends power acts done answer)) (up_state_in means kept' up v.device) w v result
          by powers.On is x = let s = state_of (means.on w.device) (on is) in acts-job keeps at_first is acts w s.0 s.1 (sym (ap there_on s.1)) (staged s.0) (answered is) kept' v result x answer
          by powers.Off is x = none-sent (off (λ e. cc (sym is ∙ e))) answer kept' v result x
          by powers.Unloaded is x = none-sent (off (λ e. cc (sym is ∙ e))) answer kept' v result x
