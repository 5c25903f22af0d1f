-- Closing a stream over any device: the results of its messages, and of those that unmake, are what the rules say.
use Rattle.std.proofs.Common.{◌≡◌, refl, sym, ap, subst, ◌∙◌, ℕ, List, [], ◌∷◌, filter, Bool, true, false, not, ◌==◌, ◌&&◌, Some, None, Ok, Err}
use Rattle.std.specs.Prelude.{Option, find, is_some}
use Rattle.std.specs.List.{zip, IsDistinct}
use Rattle.std.proofs.lemmas.Bool.{and_parts}
use Rattle.sof_base.specs.declared.errno.Errno.{Errno}
use Rattle.stream_law.specs.Past.{Moment, Cut}
use Rattle.stream_law.specs.State.{FwState}
use Rattle.stream_law.specs.Order.{is_among}
use Rattle.stream_law.proofs.Among.{is_among-filter}
use Rattle.stream_law.proofs.Members.{in-each}
use Rattle.mbox_link.specs.declared.fates.Fate.{Fate}
use Rattle.mbox_link.specs.declared.fates.Fate.TheVariants.{Pass, Refuse, Drop, Lose}
use Rattle.mbox_link.specs.Calls.{World, Meaning, Led}
use Rattle.mbox_link.specs.Meetings.{Meeting}
use Rattle.tplg_plan.specs.declared.plans.Plan.{Plan}
use Rattle.tplg_plan.specs.Sound.{IsSound}
use Rattle.host_widgets.specs.declared.answers.HostFault.{HostFault}
use Rattle.host_widgets.specs.declared.answers.HostFault.TheVariants as faults
use Rattle.host_widgets.specs.declared.kept.Found.{Found}
use Rattle.host_widgets.specs.declared.kept.Found.TheVariants as founds
use Rattle.host_widgets.specs.declared.kept.Power.{Power}
use Rattle.host_widgets.specs.declared.kept.Power.TheVariants as powers
use Rattle.host_widgets.specs.declared.kept.Record.{Record}
use Rattle.host_widgets.specs.ActCalls.{next_of, calls_of}
use Rattle.host_widgets.specs.ActLists.{close_by}
use Rattle.host_widgets.specs.ActRules.{ActRules}
use Rattle.host_widgets.specs.Acts.{widget_ids}
use Rattle.host_widgets.specs.Host.{Outcome}
use Rattle.host_widgets.specs.Kept.{went_down, with_stream}
use Rattle.host_widgets.specs.Orders.{plain_end}
use Rattle.host_widgets.specs.OneAct.{outcome_by, performed, lag_of}
use Rattle.host_widgets.specs.Routines.{Finished, Sending, JobDone}
use Rattle.host_widgets.specs.Walk.{Walked, walk, followed_by, goes_past}
use Rattle.host_pcm.specs.Asks.{is_closed}
use Rattle.host_pcm.specs.StreamCalls.{shut}
use Rattle.host_widgets.specs.UpActs.{unmaking_acts}
use Rattle.host_dynamic.specs.Dynamic.{needed, without_stream, parting, staying, with_stream_shut, after_unmaking, after_closing, closing_by, closing_job}
use Rattle.host_widgets.specs.UpState.{UpState, cut_off, up_act_rules}
use Rattle.host_widgets.specs.Need.{HasBrought}
use Rattle.host_widgets.specs.There.{There, there_in, ids_there_of, shown_ids}
use Rattle.host_dynamic.specs.UpCalls.{WasCut, Unmade}
use Rattle.host_dynamic.specs.UpDevices.{there_on}
use Rattle.host_dynamic.specs.UpStates.{IsUpState}
use Rattle.host_dynamic.proofs.JobLegs.{HasGone, once-done, twice-done}
use Rattle.host_widgets.proofs.Sublists.{filter-same, filter-both}
use Rattle.host_dynamic.proofs.UpAgreeing.{IsSwitched, unmakes-loose, gone-of, cut-none, there-then}
use Rattle.host_dynamic.proofs.UpAnswered.{Split, all-power, all-up}
use Rattle.host_dynamic.proofs.UpAsked.{close-answered}
use Rattle.host_dynamic.proofs.UpClosing.{parts-apart, shut-amid, gone-serves, serves}
use Rattle.host_widgets.proofs.UpContext.{IsServing, AreApart}
use Rattle.host_dynamic.proofs.UpNeeds.{IsAsked, up-brought}
use Rattle.host_widgets.proofs.UpSending.{StagedFirst, EndsThere, HasSent, sent-did}
use Rattle.host_dynamic.proofs.UpShutting.{Ended, steps}
use Rattle.host_widgets.proofs.UpStages.{StreamPair, IsAmid, IsStage, index_of_id, up_stage}
use Rattle.host_dynamic.proofs.UpStreams.{HasFreed}
use Rattle.host_dynamic.proofs.UpUnmaking.{unmakes, unmakes-answered}
use Rattle.host_widgets.proofs.UpWalks.{HasEnded, Came, walk-runs, walk-steps}
use Rattle.host_widgets.specs.HostActs.{Act}
use Rattle.host_widgets.specs.MadeLists.{ActsPassed}

-- ---- what a walk may come to

abbrev pub IsPlain : Outcome → Type 0
IsPlain (Ok done) = Unit {0}
IsPlain (Err (faults.Refused e)) = Unit {0}
IsPlain (Err faults.LinkDown) = Unit {0}
IsPlain (Err fault) = ⊥

plain-one : (fate : Fate) (o : Option Errno) → IsPlain (outcome_by fate o)
plain-one Pass None = tt
plain-one Pass (Some e) = tt
plain-one (Refuse e) o = tt
plain-one Drop o = tt
plain-one Lose o = tt

pub plain-walk : {S A Q : Type 0} (rules : ActRules S A) (next : Q → Meeting × Q) (acts : List A) (kept : S) (q : Q) → IsPlain (walk rules false next kept q acts).outcome
plain-walk rules next [] kept q = tt
plain-walk {S} {A} {Q} rules next (act ∷ acts) kept q = by (outcome_by (next q).0.fate (rules.own kept act)) (plain-one (next q).0.fate (rules.own kept act)) (plain-walk rules next acts (rules.after act kept) (next q).1)
  where
    Goal : Outcome → Type 0
    Goal o = let a = performed rules act kept (lag_of (next q).0) o in IsPlain (followed_by act a (next q).1 (goes_past false a.outcome) (walk rules false next a.kept (next q).1 acts)).outcome

    by : (o : Outcome) → IsPlain o → IsPlain (walk rules false next (rules.after act kept) (next q).1 acts).outcome → Goal o
    by (Ok done) plain rest = rest
    by (Err (faults.Refused e)) plain rest = tt
    by (Err faults.LinkDown) plain rest = tt
    by (Err fault) plain rest = absurd plain

-- a stream's acts ask for nothing that is staged
close-loose : (host : ℕ) (stands : Found) (f : FwState) → StagedFirst (close_by host stands) f
close-loose host founds.Running f = tt
close-loose host found f = tt

module _ {D : Type 0} (means : Meaning D) (plan : Plan) (sound : IsSound plan) (heap : ℕ) (s : UpState) (is : IsUpState plan s) (on : s.kept.power ≡ powers.On) (host : ℕ) (p : StreamPair)
    (found : find (λ (q : StreamPair). q.0.host == host) (zip plan.streams s.kept.streams) ≡ Some p) (open_yet : is_closed p.1.found ≡ false) where
  abbrev acts : List Act
  acts = (close_by host p.1.found)

  -- what is kept after a call with this result at its first part
  pub record HasClosed (up' : List ℕ) (kept' : Record) (w v : World D) (result : Outcome) : Type 0 where
    pub done : JobDone means (up_act_rules plan) heap (closing_job plan s host p.1.found) (record { kept = kept'; up = up'; there = there_on (means.on v.device) }) w v result
    pub switched : IsSwitched kept'.power (means.on v.device)

  module _ (w : World D) (f : FwState) (on_w : means.on w.device ≡ Some f) (same : there_in f ≡ s.there) where
    sends : (closing_job plan s host p.1.found).routine ≡ Sending acts false (after_closing plan host)
    sends = ap (λ (power : Power). closing_by power plan host p.1.found s) on

    module _ (kept1 : Record) (m1 : World D) (result1 : Outcome) (a : Split plan means heap (with_stream plan host shut) s (close_by host p.1.found) kept1 w m1 result1) where
      h : HasSent plan means s acts a.passed w a.sent result1
      h = sent-did plan means acts a.passed s w a.sent result1 f on_w same (close-loose host p.1.found f) (close-answered plan sound s is on host p found p.1.found refl) a.did

      abbrev x : Walked UpState Act (List Meeting)
      x = walk (up_act_rules plan) false next_of s h.meetings acts

      abbrev u : UpState
      u = x.kept

      came : Came plan (IsUpState plan) (Ended plan sound s is on host p found open_yet) x.outcome u
      came = walk-steps plan next_of (IsUpState plan) (Ended plan sound s is on host p found open_yet) acts s h.meetings (steps plan sound s is on host p found open_yet p.1.found refl)

      gone : HasGone means (up_act_rules plan) s acts false w a.sent u result1
      gone = gone-of means plan s acts a.passed w a.sent result1 h

      there-at : EndsThere plan means result1 u a.sent
      there-at = subst (λ (o : Outcome). EndsThere plan means o u a.sent) (sym h.came) h.there

      -- how its messages ended
      abbrev Ends : Outcome → Type 0
      Ends o = let end = plain_end (with_stream plan host shut) u.kept o in (kept1 ≡ end.0) × Led means a.sent (calls_of heap end.1) m1

      ends : Ends result1
      ends = subst (λ (k : Record). let end = plain_end (with_stream plan host shut) k result1 in (kept1 ≡ end.0) × Led means a.sent (calls_of heap end.1) m1) (ap (λ (y : UpState). y.kept) (sym h.left)) a.ends

      plain : IsPlain result1
      plain = subst IsPlain (sym h.came) (plain-walk (up_act_rules plan) next_of acts s h.meetings)

      -- ---- a failure

      up-now : u.up ≡ s.up
      up-now = ap (λ (y : UpState). y.up) h.left ∙ all-up plan a.passed s

      power-now : u.kept.power ≡ powers.On
      power-now = ap (λ (y : UpState). y.kept.power) h.left ∙ all-power plan a.passed s ∙ on

      -- a refusal leaves what passed
      was-refused : (e : Errno) → result1 ≡ Err (faults.Refused e) → kept1 ≡ u.kept → m1 ≡ a.sent → HasClosed s.up kept1 w m1 (Err (faults.Refused e))
      was-refused e is_r left stays =
          let at : (g : FwState) × (means.on a.sent.device ≡ Some g) × (there_in g ≡ u.there) = subst (λ (o : Outcome). EndsThere plan means o u a.sent) is_r there-at in
          let here : there_on (means.on m1.device) ≡ u.there = ap (λ (y : World D). there_on (means.on y.device)) stays ∙ there-then means plan u a.sent at in
          let end : u ≡ record { kept = kept1; up = s.up; there = there_on (means.on m1.device) } = λ i. record { kept = sym left i; up = up-now i; there = sym here i } in
          record {
            done = subst (λ (y : UpState). JobDone means (up_act_rules plan) heap (closing_job plan s host p.1.found) y w m1 (Err (faults.Refused e))) end
                (once-done means (up_act_rules plan) heap (closing_job plan s host p.1.found) acts false (after_closing plan host) sends w w a.sent m1 refl u (Err (faults.Refused e)) (subst (HasGone means (up_act_rules plan) s acts false w a.sent u) is_r gone) u [] refl stays);
            switched = subst (λ (power : Power). IsSwitched power (means.on m1.device)) (sym (ap (λ (k : Record). k.power) left ∙ power-now)) (ap (λ (y : World D). is_some (means.on y.device)) stays ∙ ap is_some at.1);
          }

      -- a failed link cuts the device
      was-down : result1 ≡ Err faults.LinkDown → kept1 ≡ went_down u.kept → Led means a.sent (calls_of heap (Cut ∷ [])) m1 → HasClosed s.up kept1 w m1 (Err faults.LinkDown)
      was-down is_r left cut =
          let off : means.on m1.device ≡ None = cut-none means plan heap a.sent m1 cut in
          let end : cut_off u ≡ record { kept = kept1; up = s.up; there = there_on (means.on m1.device) } = λ i. record { kept = sym left i; up = up-now i; there = sym (ap there_on off) i } in
          record {
            done = subst (λ (y : UpState). JobDone means (up_act_rules plan) heap (closing_job plan s host p.1.found) y w m1 (Err faults.LinkDown)) end
                (once-done means (up_act_rules plan) heap (closing_job plan s host p.1.found) acts false (after_closing plan host) sends w w a.sent m1 refl u (Err faults.LinkDown) (subst (HasGone means (up_act_rules plan) s acts false w a.sent u) is_r gone) (cut_off u) (Cut ∷ []) refl cut);
            switched = subst (λ (power : Power). IsSwitched power (means.on m1.device)) (sym (ap (λ (k : Record). k.power) left)) off;
          }

      pub closes-not : (fault : HostFault) → result1 ≡ Err fault → HasClosed s.up kept1 w m1 (Err fault)
      closes-not fault is_r = by fault is_r (subst IsPlain is_r plain) (subst Ends is_r ends)
        where
          by : (fault : HostFault) → result1 ≡ Err fault → IsPlain (Err fault) → Ends (Err fault) → HasClosed s.up kept1 w m1 (Err fault)
          by (faults.Refused e) is_r ok (left, stays) = was-refused e is_r left stays
          by faults.LinkDown is_r ok (left, cut) = was-down is_r left cut
          by fault is_r ok end = absurd ok

      -- ---- its messages passed, and what no other stream needs is unmade

      module _ (ok : result1 ≡ Ok tt) where
        freed : HasFreed plan sound s.up host u
        freed = subst (λ (o : Outcome). Came plan (IsUpState plan) (Ended plan sound s is on host p found open_yet) o u) (sym h.came ∙ ok) came

        left-now : kept1 ≡ without_stream plan host u.kept
        left-now = (subst Ends ok ends).0

        stays-now : m1 ≡ a.sent
        stays-now = (subst Ends ok ends).1

        at-now : (g : FwState) × (means.on a.sent.device ≡ Some g) × (there_in g ≡ u.there)
        at-now = subst (λ (o : Outcome). EndsThere plan means o u a.sent) ok there-at

        pub on-now : is_some (means.on m1.device) ≡ true
        on-now = ap (λ (y : World D). is_some (means.on y.device)) stays-now ∙ ap is_some at-now.1

        pub power-left : kept1.power ≡ powers.On
        power-left = ap (λ (k : Record). k.power) left-now ∙ power-now

        -- what stays up and what parts, by the record as it is left
        abbrev pub stay : List ℕ
        stay = filter (is_among (needed plan kept1)) s.up

        abbrev pub part : List ℕ
        part = filter (λ i. not (is_among (needed plan kept1) i)) s.up

        part-is : part ≡ parting plan host u
        part-is = λ i. filter (λ j. not (is_among (needed plan (left-now i)) j)) (sym up-now i)

        stay-is : stay ≡ staying plan host u
        stay-is = λ i. filter (is_among (needed plan (left-now i))) (sym up-now i)

        abbrev parts : List ℕ
        parts = parting plan host u

        abbrev more : List Act
        more = unmaking_acts plan (ids_there_of plan parts u.there)

        parts-up : (i : ℕ) → is_among parts i ≡ true → is_among s.up i ≡ true
        parts-up i in_parts = ap (λ (l : List ℕ). is_among l i) (sym up-now) ∙ (and_parts (not (is_among (needed plan (without_stream plan host u.kept)) i)) (is_among u.up i) (sym (is_among-filter (λ j. not (is_among (needed plan (without_stream plan host u.kept)) j)) u.up i) ∙ in_parts)).1

        -- what is there of what parts is all of it
        gone-ids : shown_ids plan part ≡ ids_there_of plan parts u.there
        gone-ids =
            ap (shown_ids plan) part-is
            ∙ sym (filter-same (λ (id : ℕ). is_among s.up (index_of_id plan id) && is_among parts (index_of_id plan id)) (λ (id : ℕ). is_among parts (index_of_id plan id)) (widget_ids plan) (in-each (λ (id : ℕ). (is_among s.up (index_of_id plan id) && is_among parts (index_of_id plan id)) ≡ is_among parts (index_of_id plan id)) (widget_ids plan) (λ id there. both id (is_among parts (index_of_id plan id)) refl)))
            ∙ sym (filter-both (λ (id : ℕ). is_among parts (index_of_id plan id)) (λ (id : ℕ). is_among s.up (index_of_id plan id)) (widget_ids plan))
            ∙ ap (filter (λ (id : ℕ). is_among parts (index_of_id plan id))) (sym freed.stage.heap.pieces)
          where
            both : (id : ℕ) (b : Bool) → is_among parts (index_of_id plan id) ≡ b → (is_among s.up (index_of_id plan id) && is_among parts (index_of_id plan id)) ≡ is_among parts (index_of_id plan id)
            both id true e = ap (λ (c : Bool). c && is_among parts (index_of_id plan id)) (parts-up (index_of_id plan id) e)
            both id false e = ap (λ (c : Bool). is_among s.up (index_of_id plan id) && c) e ∙ none (is_among s.up (index_of_id plan id)) ∙ sym e
              where
                none : (c : Bool) → (c && false) ≡ false
                none true = refl
                none false = refl

        -- ---- what is unmade

        once-up : IsDistinct (λ m n. m == n) u.up
        once-up = subst (IsDistinct (λ m n. m == n)) (sym up-now) is.once

        asked-up : (i : ℕ) → IsAsked plan sound (with_stream plan host shut u.kept) i → is_among u.up i ≡ true
        asked-up i asked = subst (λ (l : List ℕ). is_among l i ≡ true) (sym up-now) (freed.asked i asked)

        brought-up : HasBrought plan.graph (is_among u.up)
        brought-up = subst (λ (l : List ℕ). HasBrought plan.graph (is_among l)) (sym up-now) (up-brought plan sound s.kept s.up is.record_is is.up)

        serving-left : IsServing plan u.kept (staying plan host u)
        serving-left = serves plan sound u host freed.record_is once-up asked-up brought-up freed.rests freed.bare freed.on

        apart-left : AreApart (staying plan host u) parts
        apart-left = parts-apart plan sound u host freed.record_is once-up asked-up

        amid-left : IsAmid plan (staying plan host u) parts (up_stage plan u.up)
        amid-left = shut-amid plan sound u host freed.record_is once-up asked-up (gone-serves plan sound u host freed.record_is once-up asked-up brought-up freed.rests freed.bare freed.on) brought-up

        stage-now : IsStage plan u.kept (up_stage plan u.up) u.there
        stage-now = subst (λ (l : List ℕ). IsStage plan u.kept (up_stage plan l) u.there) (sym up-now) freed.stage

        module _ (passed' : List Act) (at : World D) (outcome' : Outcome) (sent' : ActsPassed means plan (unmaking_acts plan (shown_ids plan part)) passed' m1 at outcome') where
          h' : HasSent plan means u more passed' a.sent at outcome'
          h' = sent-did plan means more passed' u a.sent at outcome' at-now.0 at-now.1 at-now.2 (unmakes-loose _ at-now.0)
              (unmakes-answered plan sound u (staying plan host u) parts serving-left apart-left (up_stage plan u.up) u.there amid-left stage-now)
              (subst (λ (y : List ℕ × World D). ActsPassed means plan (unmaking_acts plan y.0) passed' y.1 at outcome') (λ i. (gone-ids i, stays-now i)) sent')

          abbrev x' : Walked UpState Act (List Meeting)
          x' = walk (up_act_rules plan) false next_of u h'.meetings more

          abbrev Any : There → Type 0
          Any t = Unit {0}

          ended' : HasEnded plan Any (λ t. IsStage plan u.kept (up_stage plan (staying plan host u)) t) u x'
          ended' = walk-runs plan next_of Any (λ t. IsStage plan u.kept (up_stage plan (staying plan host u)) t) more u h'.meetings
              (unmakes plan sound u (staying plan host u) parts serving-left apart-left (up_stage plan u.up) u.there amid-left stage-now)

          gone' : HasGone means (up_act_rules plan) u more false a.sent at x'.kept outcome'
          gone' = gone-of means plan u more passed' a.sent at outcome' h'

          done-by : (v : World D) (o : Outcome) (end : UpState) (moments : List Moment) → outcome' ≡ o → after_unmaking (with_stream_shut plan host) x'.kept o ≡ Finished end moments → Led means at (calls_of heap moments) v →
              JobDone means (up_act_rules plan) heap (closing_job plan s host p.1.found) end w v o
          done-by v o end moments came' ends led =
              twice-done means (up_act_rules plan) heap (closing_job plan s host p.1.found) acts false (after_closing plan host) sends w w a.sent v refl u (Ok tt) (subst (HasGone means (up_act_rules plan) s acts false w a.sent u) ok gone)
              more false (after_unmaking (with_stream_shut plan host)) refl at x'.kept o (subst (HasGone means (up_act_rules plan) u more false a.sent at x'.kept) came' gone') end moments ends led

          -- the record and what is up, once it is shut
          kept-shut : without_stream plan host x'.kept.kept ≡ kept1
          kept-shut = ap (without_stream plan host) ended'.kept ∙ sym left-now

          up-shut : staying plan host x'.kept ≡ stay
          up-shut = (λ i. filter (is_among (needed plan (without_stream plan host (ended'.kept i)))) (ended'.up i)) ∙ sym stay-is

          all-unmade : (kept' : Record) (v : World D) → outcome' ≡ Ok tt → kept' ≡ kept1 → v ≡ at → HasClosed stay kept' w v (Ok tt)
          all-unmade kept' v ok' same_kept stays =
              let there' : (g : FwState) × (means.on at.device ≡ Some g) × (there_in g ≡ x'.kept.there) = subst (λ (o : Outcome). EndsThere plan means o x'.kept at) (sym h'.came ∙ ok') h'.there in
              let here : there_on (means.on v.device) ≡ x'.kept.there = ap (λ (y : World D). there_on (means.on y.device)) stays ∙ there-then means plan x'.kept at there' in
              let end : with_stream_shut plan host x'.kept ≡ record { kept = kept'; up = stay; there = there_on (means.on v.device) } = λ i. record { kept = (kept-shut ∙ sym same_kept) i; up = up-shut i; there = sym here i } in
              record {
                done = subst (λ (y : UpState). JobDone means (up_act_rules plan) heap (closing_job plan s host p.1.found) y w v (Ok tt)) end (done-by v (Ok tt) (with_stream_shut plan host x'.kept) [] ok' refl stays);
                switched = subst (λ (power : Power). IsSwitched power (means.on v.device)) (sym (ap (λ (k : Record). k.power) same_kept ∙ power-left)) (ap (λ (y : World D). is_some (means.on y.device)) stays ∙ ap is_some there'.1);
              }

          cut-unmade : (kept' : Record) (v : World D) (fault : HostFault) → outcome' ≡ Err fault → WasCut means heap kept1 kept' at v → HasClosed stay kept' w v (Err fault)
          cut-unmade kept' v fault failed (down, cut) =
              let off : means.on v.device ≡ None = cut-none means plan heap at v cut in
              let end : cut_off (with_stream_shut plan host x'.kept) ≡ record { kept = kept'; up = stay; there = there_on (means.on v.device) } = λ i. record { kept = (ap went_down kept-shut ∙ sym down) i; up = up-shut i; there = sym (ap there_on off) i } in
              record {
                done = subst (λ (y : UpState). JobDone means (up_act_rules plan) heap (closing_job plan s host p.1.found) y w v (Err fault)) end (done-by v (Err fault) (cut_off (with_stream_shut plan host x'.kept)) (Cut ∷ []) failed refl cut);
                switched = subst (λ (power : Power). IsSwitched power (means.on v.device)) (sym (ap (λ (k : Record). k.power) down)) off;
              }

        pub closes-so : (kept' : Record) (v : World D) (result : Outcome) → Unmade means plan heap (shown_ids plan part) kept1 kept' m1 v result → HasClosed stay kept' w v result
        closes-so kept' v (Ok done) un = all-unmade un.passed un.sent (Ok tt) un.did kept' v refl un.ends.0 un.ends.1
        closes-so kept' v (Err fault) un = cut-unmade un.passed un.sent (Err fault) un.did kept' v fault refl un.ends
