-- Opening a stream over any device: the results of the messages that make and unmake are what the rules say.
use Rattle.std.proofs.Common.{◌≡◌, refl, sym, ap, subst, ◌∙◌, ℕ, List, [], ◌∷◌, ◌++◌, false, not, Some, None, Ok, Err}
use Rattle.std.specs.Prelude.{is_some}
use Rattle.std.specs.List.{filter_map}
use Rattle.sof_base.specs.declared.errno.Errno.{Errno}
use Rattle.stream_law.specs.declared.graph.Comp.{Comp}
use Rattle.stream_law.specs.Past.{Moment, Cut}
use Rattle.stream_law.specs.State.{FwState}
use Rattle.stream_law.specs.Ways.{comp_of}
use Rattle.stream_law.specs.Order.{is_among}
use Rattle.mbox_link.specs.Calls.{World, Meaning, Led}
use Rattle.mbox_link.specs.Meetings.{Meeting}
use Rattle.tplg_plan.specs.declared.plans.Plan.{Plan}
use Rattle.tplg_plan.specs.Sound.{IsSound}
use Rattle.host_widgets.specs.declared.answers.HostFault.{HostFault}
use Rattle.host_widgets.specs.declared.answers.HostFault.TheVariants as faults
use Rattle.host_widgets.specs.declared.kept.Power.{Power}
use Rattle.host_widgets.specs.declared.kept.Power.TheVariants as powers
use Rattle.host_widgets.specs.declared.kept.Record.{Record}
use Rattle.host_widgets.specs.ActCalls.{next_of, calls_of}
use Rattle.host_widgets.specs.Host.{Outcome}
use Rattle.host_widgets.specs.Kept.{went_down}
use Rattle.host_widgets.specs.Routines.{Finished, Sending, JobDone}
use Rattle.host_widgets.specs.Walk.{Walked, walk, first_of}
use Rattle.host_widgets.specs.UpActs.{making_acts, unmaking_acts}
use Rattle.host_dynamic.specs.Dynamic.{lacking, with_stream_open, after_unmaking, after_making, opening_by, opening_job}
use Rattle.host_widgets.specs.UpState.{UpState, cut_off, up_act_rules}
use Rattle.host_widgets.specs.Need.{need_in, is_needed}
use Rattle.host_widgets.specs.There.{There, there_in, ids_there_of}
use Rattle.host_dynamic.specs.UpCalls.{WasCut, Unmade, AfterMaking, MadeOrCut}
use Rattle.host_dynamic.specs.UpDevices.{there_on}
use Rattle.host_dynamic.specs.UpStates.{IsThere, IsThereBy, IsUpState}
use Rattle.host_dynamic.proofs.JobLegs.{HasGone, once-done, twice-done}
use Rattle.host_widgets.proofs.Sublists.{AreOnce, once-filter, distinct-once}
use Rattle.host_dynamic.proofs.UpAgreeing.{IsSwitched, unmakes-loose, gone-of, cut-none, there-then}
use Rattle.host_widgets.proofs.UpContext.{IsServing, AreApart}
use Rattle.host_dynamic.proofs.UpMade.{unmakes-same, passed-begins}
use Rattle.host_widgets.proofs.UpMaking.{IsMaking, makes-up, makes-answered, making-loose}
use Rattle.host_dynamic.proofs.UpNeeds.{serving, lacking-need, both-brought}
use Rattle.host_widgets.proofs.UpSending.{AreAnswered, EndsThere, HasSent, sent-did}
use Rattle.host_widgets.proofs.UpStages.{IsStage, up_stage}
use Rattle.host_dynamic.proofs.UpStanding.{there-stage}
use Rattle.host_dynamic.proofs.UpUnmaking.{unmakes, unmakes-answered}
use Rattle.host_widgets.proofs.UpWalks.{with_there, Runs, HasEnded, Met, walk-runs}
use Rattle.host_widgets.specs.HostActs.{Act}
use Rattle.host_widgets.specs.MadeLists.{ActsPassed, widget_made}
use Rattle.host_widgets.specs.Indices.{pipe_indices}

module _ {D : Type 0} (means : Meaning D) (plan : Plan) (sound : IsSound plan) (heap : ℕ) where
  -- ---- opening

  module _ (s : UpState) (is : IsUpState plan s) (on : s.kept.power ≡ powers.On) (host : ℕ) (c : Comp) (found : comp_of plan.graph host ≡ Some c) where
    abbrev n : List ℕ
    n = lacking plan s.up host

    abbrev acts : List Act
    acts = (making_acts plan s.kept n)

    serves : IsServing plan s.kept s.up
    serves = serving plan sound s.kept s.up is.record_is is.up

    apart : AreApart s.up n
    apart i in_n = (lacking-need plan sound s.kept s.up is.record_is is.up host c found i in_n).0

    n-once : AreOnce n
    n-once = once-filter (λ i. not (is_among s.up i)) (need_in plan.graph host) (once-filter (is_needed plan.graph host) (pipe_indices plan.graph) (distinct-once (pipe_indices plan.graph) sound.indices))

    begun : IsThere plan s
    begun = subst (λ (power : Power). IsThereBy power plan s) on is.there

    abbrev Mid : There → Type 0
    Mid t = IsMaking plan sound s s.up n serves apart (both-brought plan sound s.kept s.up is.record_is is.up host c found) n-once t

    abbrev End : There → Type 0
    End t = IsStage plan s.kept (up_stage plan (s.up ++ n)) t

    abbrev Any : There → Type 0
    Any t = Unit {0}

    -- what is kept after a call with this result
    abbrev pub opened_state : Outcome → Record → World D → UpState
    opened_state (Ok done) kept' v = with_stream_open plan host n (record { kept = kept'; up = s.up; there = there_on (means.on v.device) })
    opened_state (Err fault) kept' v = record { kept = kept'; up = s.up; there = there_on (means.on v.device) }

    pub record HasOpened (kept' : Record) (w v : World D) (result : Outcome) : Type 0 where
      pub done : JobDone means (up_act_rules plan) heap (opening_job plan s host) (opened_state result kept' v) w v result
      pub switched : IsSwitched kept'.power (means.on v.device)

    module _ (w : World D) (f : FwState) (on_w : means.on w.device ≡ Some f) (same : there_in f ≡ s.there) where
      sends : (opening_job plan s host).routine ≡ Sending acts false (after_making plan host n)
      sends = ap (λ (power : Power). opening_by power plan host n s) on

      module _ (passed : List Act) (mid : World D) (outcome : Outcome) (sent : ActsPassed means plan acts passed w mid outcome) where
        h : HasSent plan means s acts passed w mid outcome
        h = sent-did plan means acts passed s w mid outcome f on_w same (making-loose plan sound s s.up n serves apart (both-brought plan sound s.kept s.up is.record_is is.up host c found) n-once f)
            (makes-answered plan sound s s.up n serves apart (both-brought plan sound s.kept s.up is.record_is is.up host c found) n-once (there-stage plan sound s begun)) sent

        abbrev x : Walked UpState Act (List Meeting)
        x = walk (up_act_rules plan) false next_of s h.meetings acts

        abbrev u : UpState
        u = x.kept

        ended : HasEnded plan Mid End s x
        ended = walk-runs plan next_of Mid End acts s h.meetings (makes-up plan sound s s.up n serves apart (both-brought plan sound s.kept s.up is.record_is is.up host c found) n-once (there-stage plan sound s begun))

        gone : HasGone means (up_act_rules plan) s acts false w mid u outcome
        gone = gone-of means plan s acts passed w mid outcome h

        there-at : EndsThere plan means outcome u mid
        there-at = subst (λ (o : Outcome). EndsThere plan means o u mid) (sym h.came) h.there

        -- so all was made
        all-made : (kept' : Record) (v : World D) → outcome ≡ Ok tt → kept' ≡ s.kept → v ≡ mid → HasOpened kept' w v (Ok tt)
        all-made kept' v ok kept_same stays =
            let at : EndsThere plan means (Ok tt) u mid = subst (λ (o : Outcome). EndsThere plan means o u mid) ok there-at in
            let here : there_on (means.on v.device) ≡ u.there = ap (λ (y : World D). there_on (means.on y.device)) stays ∙ there-then means plan u mid at in
            let left : with_stream_open plan host n u ≡ opened_state (Ok tt) kept' v = λ i. with_stream_open plan host n (record { kept = (ended.kept ∙ sym kept_same) i; up = ended.up i; there = sym here i }) in
            record {
              done = subst (λ (y : UpState). JobDone means (up_act_rules plan) heap (opening_job plan s host) y w v (Ok tt)) left
                  (once-done means (up_act_rules plan) heap (opening_job plan s host) acts false (after_making plan host n) sends w w mid v refl u (Ok tt) (subst (HasGone means (up_act_rules plan) s acts false w mid u) ok gone) (with_stream_open plan host n u) [] refl stays);
              switched = subst (λ (p : Power). IsSwitched p (means.on v.device)) (sym (ap (λ (k : Record). k.power) kept_same ∙ on)) (ap (λ (y : World D). is_some (means.on y.device)) stays ∙ ap is_some at.1);
            }

        -- a failed link cuts the device
        was-cut : (kept' : Record) (v : World D) (fault : HostFault) → outcome ≡ Err fault → after_making plan host n u (Err fault) ≡ Finished (cut_off u) (Cut ∷ []) → WasCut means heap s.kept kept' mid v → HasOpened kept' w v (Err fault)
        was-cut kept' v fault failed ends (down, cut) =
            let off : means.on v.device ≡ None = cut-none means plan heap mid v cut in
            let left : cut_off u ≡ opened_state (Err fault) kept' v = λ i. record { kept = (ap went_down ended.kept ∙ sym down) i; up = ended.up i; there = sym (ap there_on off) i } in
            record {
              done = subst (λ (y : UpState). JobDone means (up_act_rules plan) heap (opening_job plan s host) y w v (Err fault)) left
                  (once-done means (up_act_rules plan) heap (opening_job plan s host) acts false (after_making plan host n) sends w w mid v refl u (Err fault) (subst (HasGone means (up_act_rules plan) s acts false w mid u) failed gone) (cut_off u) (Cut ∷ []) ends cut);
              switched = subst (λ (p : Power). IsSwitched p (means.on v.device)) (sym (ap (λ (k : Record). k.power) down)) off;
            }

        -- a refusal unmakes what was made
        module _ (e : Errno) (refused : outcome ≡ Err (faults.Refused e)) (made : List ℕ) (made_are : made ≡ filter_map widget_made passed) where
          abbrev more : List Act
          more = unmaking_acts plan (ids_there_of plan n u.there)

          now-at : (g : FwState) × (means.on mid.device ≡ Some g) × (there_in g ≡ u.there)
          now-at = subst (λ (o : Outcome). EndsThere plan means o u mid) refused there-at

          amid : Mid u.there
          amid = subst (λ (o : Outcome). Met plan Mid End o u.there) (sym h.came ∙ refused) ended.met

          abbrev again : UpState
          again = with_there plan s u.there

          again-is : again ≡ u
          again-is = λ i. record { kept = sym ended.kept i; up = sym ended.up i; there = u.there }

          same-list : unmaking_acts plan made ≡ more
          same-list =
              ap (unmaking_acts plan) made_are
              ∙ unmakes-same plan s.up n apart s begun.pieces passed (passed-begins plan means (making_acts plan s.kept n) passed w mid outcome sent) h.free
              (makes-answered plan sound s s.up n serves apart (both-brought plan sound s.kept s.up is.record_is is.up host c found) n-once (there-stage plan sound s begun))
              ∙ ap (λ (y : UpState). unmaking_acts plan (ids_there_of plan n y.there)) (sym h.left)

          module _ (passed' : List Act) (at : World D) (outcome' : Outcome) (sent' : ActsPassed means plan (unmaking_acts plan made) passed' mid at outcome') where
            h' : HasSent plan means u more passed' mid at outcome'
            h' = sent-did plan means more passed' u mid at outcome' now-at.0 now-at.1 now-at.2 (unmakes-loose _ now-at.0)
                (subst (λ (y : UpState). AreAnswered plan y more) again-is (unmakes-answered plan sound s s.up n serves apart amid.0 u.there amid.1 amid.2))
                (subst (λ (l : List Act). ActsPassed means plan l passed' mid at outcome') same-list sent')

            abbrev x' : Walked UpState Act (List Meeting)
            x' = walk (up_act_rules plan) false next_of u h'.meetings more

            ended' : HasEnded plan Any (λ t. IsStage plan s.kept (up_stage plan s.up) t) u x'
            ended' = walk-runs plan next_of Any (λ t. IsStage plan s.kept (up_stage plan s.up) t) more u h'.meetings
                (subst (λ (y : UpState). Runs plan Any y more (λ t. IsStage plan s.kept (up_stage plan s.up) t)) again-is (unmakes plan sound s s.up n serves apart amid.0 u.there amid.1 amid.2))

            gone' : HasGone means (up_act_rules plan) u more false mid at x'.kept outcome'
            gone' = gone-of means plan u more passed' mid at outcome' h'

            kept-so : x'.kept.kept ≡ s.kept
            kept-so = ended'.kept ∙ ended.kept

            up-so : x'.kept.up ≡ s.up
            up-so = ended'.up ∙ ended.up

            done-by : (v : World D) (o : Outcome) (end : UpState) (moments : List Moment) → outcome' ≡ o → after_unmaking (λ now. now) x'.kept o ≡ Finished end moments → Led means at (calls_of heap moments) v →
                JobDone means (up_act_rules plan) heap (opening_job plan s host) end w v (first_of (Err (faults.Refused e)) o)
            done-by v o end moments came ends led =
                twice-done means (up_act_rules plan) heap (opening_job plan s host) acts false (after_making plan host n) sends w w mid v refl u (Err (faults.Refused e)) (subst (HasGone means (up_act_rules plan) s acts false w mid u) refused gone)
                more false (after_unmaking (λ now. now)) refl at x'.kept o (subst (HasGone means (up_act_rules plan) u more false mid at x'.kept) came gone') end moments ends led

            unmade-all : (kept' : Record) (v : World D) → outcome' ≡ Ok tt → kept' ≡ s.kept → v ≡ at → HasOpened kept' w v (Err (faults.Refused e))
            unmade-all kept' v ok kept_same stays =
                let there' : EndsThere plan means (Ok tt) x'.kept at = subst (λ (o : Outcome). EndsThere plan means o x'.kept at) (sym h'.came ∙ ok) h'.there in
                let here : there_on (means.on v.device) ≡ x'.kept.there = ap (λ (y : World D). there_on (means.on y.device)) stays ∙ there-then means plan x'.kept at there' in
                let left : x'.kept ≡ opened_state (Err (faults.Refused e)) kept' v = λ i. record { kept = (kept-so ∙ sym kept_same) i; up = up-so i; there = sym here i } in
                record {
                  done = subst (λ (y : UpState). JobDone means (up_act_rules plan) heap (opening_job plan s host) y w v (Err (faults.Refused e))) left (done-by v (Ok tt) x'.kept [] ok refl stays);
                  switched = subst (λ (p : Power). IsSwitched p (means.on v.device)) (sym (ap (λ (k : Record). k.power) kept_same ∙ on)) (ap (λ (y : World D). is_some (means.on y.device)) stays ∙ ap is_some there'.1);
                }

            unmade-cut : (kept' : Record) (v : World D) (fault : HostFault) → outcome' ≡ Err fault → WasCut means heap s.kept kept' at v → HasOpened kept' w v (first_of (Err (faults.Refused e)) (Err fault))
            unmade-cut kept' v fault failed (down, cut) =
                let off : means.on v.device ≡ None = cut-none means plan heap at v cut in
                let left : cut_off x'.kept ≡ record { kept = kept'; up = s.up; there = there_on (means.on v.device) } = λ i. record { kept = (ap went_down kept-so ∙ sym down) i; up = up-so i; there = sym (ap there_on off) i } in
                fails fault (subst (λ (y : UpState). JobDone means (up_act_rules plan) heap (opening_job plan s host) y w v (first_of (Err (faults.Refused e)) (Err fault))) left (done-by v (Err fault) (cut_off x'.kept) (Cut ∷ []) failed refl cut))
                (subst (λ (p : Power). IsSwitched p (means.on v.device)) (sym (ap (λ (k : Record). k.power) down)) off)
              where
                -- whatever it is, what is answered is a fault
                fails : (fault : HostFault) → JobDone means (up_act_rules plan) heap (opening_job plan s host) (record { kept = kept'; up = s.up; there = there_on (means.on v.device) }) w v (first_of (Err (faults.Refused e)) (Err fault)) →
                    IsSwitched kept'.power (means.on v.device) → HasOpened kept' w v (first_of (Err (faults.Refused e)) (Err fault))
                fails faults.LinkDown done switched = record { done = done; switched = switched }
                fails fault done switched = record { done = done; switched = switched }

          unmade-then : (kept' : Record) (v : World D) (outcome' : Outcome) → Unmade means plan heap made s.kept kept' mid v outcome' → HasOpened kept' w v (first_of (Err (faults.Refused e)) outcome')
          unmade-then kept' v (Ok done) un = unmade-all un.passed un.sent (Ok tt) un.did kept' v refl un.ends.0 un.ends.1
          unmade-then kept' v (Err fault) un = unmade-cut un.passed un.sent (Err fault) un.did kept' v fault refl un.ends

        -- ---- by the result of making

        opens-by : (o : Outcome) → outcome ≡ o → (made : List ℕ) → made ≡ filter_map widget_made passed → (kept' : Record) (v : World D) (result : Outcome) → AfterMaking means plan heap made o s.kept kept' mid v result → HasOpened kept' w v result
        opens-by (Ok done) is_o made are kept' v result (said, kept_same, stays) = subst (HasOpened kept' w v) (sym said) (all-made kept' v is_o kept_same stays)
        opens-by (Err (faults.Refused e)) is_o made are kept' v result (outcome', un, said) = subst (HasOpened kept' w v) (sym said) (unmade-then e is_o made are kept' v outcome' un)
        opens-by (Err fault) is_o made are kept' v result after = subst (HasOpened kept' w v) (sym after.0) (was-cut kept' v fault is_o refl after.1)

      pub opens-on : (kept' : Record) (v : World D) (result : Outcome) → MadeOrCut means plan heap n s.kept kept' w v result → HasOpened kept' w v result
      opens-on kept' v result m = opens-by m.listed.passed m.mid m.outcome m.listed.sent m.outcome refl m.made m.listed.made_are kept' v result m.rest
