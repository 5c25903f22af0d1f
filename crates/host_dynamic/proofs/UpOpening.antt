-- Whatever messages meet, opening a stream leaves a state in which what is up is there.
use Rattle.std.proofs.Common.{◌≡◌, refl, sym, ap, subst, ◌∙◌, ℕ, List, [], ◌∷◌, ◌++◌, map, filter, Bool, true, false, cond, not, inl, inr, ◌⊎◌, ◌==◌, Some, Ok, Err}
use Rattle.std.specs.Prelude.{◌↔◌}
use Rattle.std.specs.List.{zip, list_any, IsDistinct}
use Rattle.std.proofs.lemmas.Bool.{true≢false, false≢true, eqb-true, eq-eqb, or_left, or_cases, or_from, or_parts}
use Rattle.stream_law.specs.declared.graph.Comp.{Comp}
use Rattle.stream_law.specs.declared.graph.Graph.{Graph}
use Rattle.stream_law.specs.Ways.{comp_of, is_live_phase}
use Rattle.stream_law.specs.Order.{is_among}
use Rattle.stream_law.proofs.Members.{IsIn}
use Rattle.mbox_link.specs.Meetings.{Meeting}
use Rattle.tplg_plan.specs.declared.plans.Plan.{Plan}
use Rattle.tplg_plan.specs.declared.plans.StreamPlan.{StreamPlan}
use Rattle.tplg_plan.specs.Sound.{IsSound}
use Rattle.host_widgets.specs.declared.answers.HostFault.{HostFault}
use Rattle.host_widgets.specs.declared.answers.HostFault.TheVariants as faults
use Rattle.host_widgets.specs.declared.kept.Found.{Found}
use Rattle.host_widgets.specs.declared.kept.Found.TheVariants as founds
use Rattle.host_widgets.specs.declared.kept.Power.{Power}
use Rattle.host_widgets.specs.declared.kept.Power.TheVariants as powers
use Rattle.host_widgets.specs.declared.kept.StreamRec.{StreamRec}
use Rattle.host_widgets.specs.declared.kept.Record.{Record}
use Rattle.host_widgets.specs.HostRecord.{halted, halted_found}
use Rattle.host_widgets.specs.Expected.{stream_view, phase_of}
use Rattle.host_widgets.specs.Host.{Outcome, IsRecordOf}
use Rattle.host_widgets.specs.Kept.{changed, with_stream, went_down}
use Rattle.host_widgets.specs.Walk.{Walked, walk}
use Rattle.host_widgets.proofs.Records.{down-record, down-rests}
use Rattle.host_widgets.proofs.RecordsStay.{AllAt, record-less}
use Rattle.host_pcm.specs.Asks.{is_closed}
use Rattle.host_pcm.specs.StreamCalls.{opened_stream}
use Rattle.host_widgets.specs.UpActs.{making_acts, unmaking_acts}
use Rattle.host_widgets.specs.There.{There, ids_there_of}
use Rattle.host_dynamic.specs.Dynamic.{needed, lacking, with_stream_open, after_unmaking, unmade, after_making, opening_by}
use Rattle.host_widgets.specs.UpState.{UpState, cut_off, up_act_rules}
use Rattle.host_widgets.specs.Need.{need_in, is_needed}
use Rattle.host_dynamic.specs.UpStates.{IsThere, IsThereBy, IsUpState}
use Rattle.host_widgets.proofs.Needs.{in-map, in-among}
use Rattle.host_widgets.proofs.Sublists.{AreOnce, once-filter, once-append, distinct-once, once-distinct}
use Rattle.host_widgets.proofs.UpContext.{IsServing, AreApart, among-both}
use Rattle.host_widgets.proofs.UpMaking.{IsMaking, makes-up}
use Rattle.host_dynamic.proofs.UpNeeds.{IsAsked, needed-asked, asked-needed, serving, lacking-need, need-in-both, both-brought}
use Rattle.host_widgets.proofs.UpStages.{Stage, StreamPair, stage_streams, at_stage, IsStage, up_stage, IsAmid}
use Rattle.host_widgets.proofs.StageStreams.{changed_one, zip-changed}
use Rattle.host_dynamic.proofs.UpStanding.{there-stage, stage-there}
use Rattle.host_dynamic.proofs.UpUnmaking.{unmakes}
use Rattle.host_widgets.proofs.UpWalks.{with_there, Runs, Met, HasEnded, walk-runs, Keeps}
use Rattle.host_widgets.specs.HostActs.{Act}
use Rattle.host_widgets.specs.Indices.{pipe_indices}
use Rattle.host_widgets.proofs.StageStays.{from-map}

-- what is so of every record is so at each host
pub all-at : {So : StreamRec → Type 0} (host : ℕ) (ss : List StreamPlan) (rs : List StreamRec) → ((r : StreamRec) → So r) → AllAt So host ss rs
all-at host [] rs each = tt
all-at host (s ∷ ss) [] each = tt
all-at host (s ∷ ss) (r ∷ rs) each = (λ here. each r, all-at host ss rs each)

-- no stream runs or is paused, also with one changed so that it does neither
pub rests-changed : (host : ℕ) (f : StreamRec → StreamRec) (ss : List StreamPlan) (rs : List StreamRec) → ((r : StreamRec) → is_live_phase (phase_of (f r).found) ≡ false) →
    list_any (λ (r : StreamRec). is_live_phase (phase_of r.found)) rs ≡ false → list_any (λ (r : StreamRec). is_live_phase (phase_of r.found)) (changed (λ (s : StreamPlan). s.host) host f ss rs) ≡ false
rests-changed host f [] rs rests none = none
rests-changed host f (s ∷ ss) [] rests none = refl
rests-changed host f (s ∷ ss) (r ∷ rs) rests none =
    let both = or_parts (is_live_phase (phase_of r.found)) (list_any (λ (x : StreamRec). is_live_phase (phase_of x.found)) rs) none in
    or_from (is_live_phase (phase_of (cond (s.host == host) (f r) r).found)) (list_any (λ (x : StreamRec). is_live_phase (phase_of x.found)) (changed (λ (x : StreamPlan). x.host) host f ss rs))
    (by (s.host == host) both.0) (rests-changed host f ss rs rests both.1)
  where
    by : (b : Bool) → is_live_phase (phase_of r.found) ≡ false → is_live_phase (phase_of (cond b (f r) r).found) ≡ false
    by true was = rests r
    by false was = was

-- ---- a device that was cut

-- a stream that was halted is closed where it was
halted-closed : (found : Found) → is_closed (halted_found found) ≡ is_closed found
halted-closed founds.Closed = refl
halted-closed founds.Open = refl
halted-closed founds.Prepared = refl
halted-closed founds.Running = refl
halted-closed founds.Paused = refl
halted-closed found = refl

zip-halted : (ss : List StreamPlan) (rs : List StreamRec) → zip ss (map halted rs) ≡ map (λ (p : StreamPair). (p.0, halted p.1)) (zip ss rs)
zip-halted [] rs = refl
zip-halted (s ∷ ss) [] = refl
zip-halted (s ∷ ss) (r ∷ rs) = ap (λ (ps : List StreamPair). (s, halted r) ∷ ps) (zip-halted ss rs)

module _ (plan : Plan) (sound : IsSound plan) where
  abbrev g : Graph
  g = plan.graph

  -- it needs what it needed
  halted-needed : (kept : Record) (i : ℕ) → (is_among (needed plan kept) i ≡ true) ↔ (is_among (needed plan (went_down kept)) i ≡ true)
  halted-needed kept i = (
    λ is. asked-needed plan sound (went_down kept) i (down (needed-asked plan sound kept i is)),
    λ is. asked-needed plan sound kept i (back (needed-asked plan sound (went_down kept) i is)),
  )
    where
      down : IsAsked plan sound kept i → IsAsked plan sound (went_down kept) i
      down (p, there, open_yet, is) = (
        (p.0, halted p.1),
        subst (IsIn (p.0, halted p.1)) (sym (zip-halted plan.streams kept.streams)) (in-map (λ (q : StreamPair). (q.0, halted q.1)) (zip plan.streams kept.streams) p there),
        halted-closed p.1.found ∙ open_yet,
        is,
      )

      back : IsAsked plan sound (went_down kept) i → IsAsked plan sound kept i
      back (p, there, open_yet, is) =
          let r = from-map (λ (q : StreamPair). (q.0, halted q.1)) (zip plan.streams kept.streams) p (subst (IsIn p) (zip-halted plan.streams kept.streams) there) in
          (r.0, r.1, sym (halted-closed r.0.1.found) ∙ ap (λ (q : StreamPair). is_closed q.1.found) (sym r.2) ∙ open_yet, ap (λ (q : StreamPair). is_among (need_in g q.0.host) i) (sym r.2) ∙ is)

  -- what is up by a record, each index once
  pub record IsKept (kept : Record) (up : List ℕ) : Type 0 where
    pub record_is : IsRecordOf plan kept
    pub up_is : (i : ℕ) → (is_among up i ≡ true) ↔ (is_among (needed plan kept) i ≡ true)
    pub once : IsDistinct (λ m n. m == n) up

  pub down-state : (u : UpState) → IsKept u.kept u.up → IsUpState plan (cut_off u)
  down-state u k = record {
    record_is = down-record plan u.kept k.record_is;
    up = λ i. (λ is. (halted-needed u.kept i).0 ((k.up_is i).0 is), λ is. (k.up_is i).1 ((halted-needed u.kept i).1 is));
    once = k.once;
    there = (refl, down-rests u.kept.streams);
  }

  -- ---- unmaking

  -- What is unmade of these, from a stage at which all else is up, leaves what is up, or a device that is cut.
  module _ {Q : Type 0} (next : Q → Meeting × Q) (up n : List ℕ) (done : UpState → UpState) (kept : Record) (was_up : List ℕ)
      (serving_is : IsServing plan kept up) (apart : AreApart up n)
      (ends : (u : UpState) → u.kept ≡ kept → u.up ≡ was_up → IsStage plan kept (up_stage plan up) u.there → IsUpState plan (done u)) (cuts : (u : UpState) → u.kept ≡ kept → u.up ≡ was_up → IsUpState plan (cut_off (done u))) where
    pub unmade-keeps : (u : UpState) (q : Q) (st : Stage) → u.kept ≡ kept → u.up ≡ was_up → IsAmid plan up n st → IsStage plan kept st u.there → Keeps plan next (IsUpState plan) u q (unmade plan n done u)
    unmade-keeps u q st same same_up amid is = by w.outcome w.kept w.queue ended.kept ended.up ended.met
      where
        u_is : with_there plan (record { kept = kept; up = u.up; there = u.there }) u.there ≡ u
        u_is = λ i. record { kept = sym same i; up = u.up; there = u.there }

        w : Walked UpState Act Q
        w = walk (up_act_rules plan) false next u q (unmaking_acts plan (ids_there_of plan n u.there))

        runs : Runs plan (λ t. Unit {0}) u (unmaking_acts plan (ids_there_of plan n u.there)) (λ t. IsStage plan kept (up_stage plan up) t)
        runs = subst (λ (x : UpState). Runs plan (λ t. Unit {0}) x (unmaking_acts plan (ids_there_of plan n u.there)) (λ t. IsStage plan kept (up_stage plan up) t)) u_is
            (unmakes plan sound (record { kept = kept; up = u.up; there = u.there }) up n serving_is apart st u.there amid is)

        ended : HasEnded plan (λ t. Unit {0}) (λ t. IsStage plan kept (up_stage plan up) t) u w
        ended = walk-runs plan next (λ t. Unit {0}) (λ t. IsStage plan kept (up_stage plan up) t) (unmaking_acts plan (ids_there_of plan n u.there)) u q runs

        by : (o : Outcome) (v : UpState) (r : Q) → v.kept ≡ u.kept → v.up ≡ u.up → Met plan (λ t. Unit {0}) (λ t. IsStage plan kept (up_stage plan up) t) o v.there → Keeps plan next (IsUpState plan) v r (after_unmaking done v o)
        by (Ok passed) v r v_kept v_up met = ends v (v_kept ∙ same) (v_up ∙ same_up) met
        by (Err fault) v r v_kept v_up met = cuts v (v_kept ∙ same) (v_up ∙ same_up)

  -- ---- opening

  module _ (s : UpState) (is : IsUpState plan s) (p : StreamPair) (there : IsIn p (zip plan.streams s.kept.streams)) (shut_yet : (q : StreamPair) → IsIn q (zip plan.streams s.kept.streams) → q.0.host ≡ p.0.host → is_closed q.1.found ≡ true)
      (rests : (q : StreamPair) → IsIn q (zip plan.streams s.kept.streams) → q.0.host ≡ p.0.host → stream_view (q.0, opened_stream q.1) ≡ stream_view q) (c : Comp) (found : comp_of g p.0.host ≡ Some c) where
    abbrev host : ℕ
    host = p.0.host

    abbrev n : List ℕ
    n = lacking plan s.up host

    abbrev opened : Record
    opened = with_stream plan host opened_stream s.kept

    abbrev olds : List StreamPair
    olds = zip plan.streams s.kept.streams

    abbrev news : List StreamPair
    news = zip plan.streams opened.streams

    news-are : news ≡ map (changed_one host opened_stream) olds
    news-are = zip-changed host opened_stream plan.streams s.kept.streams

    opened-record : IsRecordOf plan opened
    opened-record = record-less plan s.kept host opened_stream is.record_is (all-at host plan.streams s.kept.streams (λ r. refl)) (all-at host plan.streams s.kept.streams (λ r. inr refl))

    -- what is needed then
    now-asked : (i : ℕ) → IsAsked plan sound s.kept i ⊎ (is_among (need_in g host) i ≡ true) → IsAsked plan sound opened i
    now-asked i (inl (q, q_in, open_yet, need)) =
        let apart : (q.0.host == host) ≡ false = by (q.0.host == host) refl in
        (q, subst (IsIn q) (sym news-are) (subst (λ (x : StreamPair). IsIn x (map (changed_one host opened_stream) olds)) (ap (λ (b : Bool). (q.0, cond b (opened_stream q.1) q.1)) apart) (in-map (changed_one host opened_stream) olds q q_in)), open_yet, need)
      where
        by : (b : Bool) → (q.0.host == host) ≡ b → (q.0.host == host) ≡ false
        by false e = e
        by true e = absurd (false≢true (sym open_yet ∙ shut_yet q q_in (eqb-true q.0.host host e)))
    now-asked i (inr need) = (
      (p.0, opened_stream p.1),
      subst (IsIn (p.0, opened_stream p.1)) (sym news-are) (subst (λ (x : StreamPair). IsIn x (map (changed_one host opened_stream) olds)) (ap (λ (b : Bool). (p.0, cond b (opened_stream p.1) p.1)) (eq-eqb host host refl)) (in-map (changed_one host opened_stream) olds p there)),
      refl,
      need,
    )

    was-asked : (i : ℕ) → IsAsked plan sound opened i → IsAsked plan sound s.kept i ⊎ (is_among (need_in g host) i ≡ true)
    was-asked i (q, q_in, open_yet, need) = by (r.0.0.host == host) refl
      where
        r : (x : StreamPair) × IsIn x olds × (q ≡ changed_one host opened_stream x)
        r = from-map (changed_one host opened_stream) olds q (subst (IsIn q) news-are q_in)

        same_host : q.0.host ≡ r.0.0.host
        same_host = ap (λ (x : StreamPair). x.0.host) r.2

        by : (b : Bool) → (r.0.0.host == host) ≡ b → IsAsked plan sound s.kept i ⊎ (is_among (need_in g host) i ≡ true)
        by true e = inr (ap (λ (h : ℕ). is_among (need_in g h) i) (sym (same_host ∙ eqb-true r.0.0.host host e)) ∙ need)
        by false e = inl (r.0, r.1, ap (λ (b : Bool). is_closed (cond b (opened_stream r.0.1) r.0.1).found) (sym e) ∙ ap (λ (x : StreamPair). is_closed x.1.found) (sym r.2) ∙ open_yet, ap (λ (h : ℕ). is_among (need_in g h) i) (sym same_host) ∙ need)

    opened-up : (i : ℕ) → (is_among (s.up ++ n) i ≡ true) ↔ (is_among (needed plan opened) i ≡ true)
    opened-up i = (λ both. asked-needed plan sound opened i (now-asked i (one (or_cases (is_among s.up i) (is_among n i) (sym (among-both s.up n i) ∙ both)))), λ need. two (was-asked i (needed-asked plan sound opened i need)))
      where
        one : (is_among s.up i ≡ true) ⊎ (is_among n i ≡ true) → IsAsked plan sound s.kept i ⊎ (is_among (need_in g host) i ≡ true)
        one (inl a) = inl (needed-asked plan sound s.kept i ((is.up i).0 a))
        one (inr b) = inr (lacking-need plan sound s.kept s.up is.record_is is.up host c found i b).1

        two : IsAsked plan sound s.kept i ⊎ (is_among (need_in g host) i ≡ true) → is_among (s.up ++ n) i ≡ true
        two (inl a) = among-both s.up n i ∙ or_left (is_among s.up i) (is_among n i) ((is.up i).1 (asked-needed plan sound s.kept i a))
        two (inr b) = need-in-both plan sound s.kept s.up is.record_is is.up host c found i b

    n-once : AreOnce n
    n-once = once-filter (λ i. not (is_among s.up i)) (need_in g host) (once-filter (is_needed g host) (pipe_indices g) (distinct-once (pipe_indices g) sound.indices))

    apart : AreApart s.up n
    apart i in_n = (lacking-need plan sound s.kept s.up is.record_is is.up host c found i in_n).0

    both-once : IsDistinct (λ a b. a == b) (s.up ++ n)
    both-once = once-distinct (s.up ++ n) (once-append s.up n (distinct-once s.up is.once) n-once (λ i a b. true≢false (sym (in-among s.up i a) ∙ apart i (in-among n i b))))

    -- its stream shows as it did
    streams-same : (st : Stage) → stage_streams plan opened st ≡ stage_streams plan s.kept st
    streams-same st =
        ap (λ (ps : List StreamPair). map stream_view (filter (λ (q : StreamPair). st.has q.0.host) ps)) news-are
        ∙ shows olds (λ q q_in. q_in)
      where
        one : (q : StreamPair) → IsIn q olds → stream_view (changed_one host opened_stream q) ≡ stream_view q
        one q q_in = by (q.0.host == host) refl
          where
            by : (b : Bool) → (q.0.host == host) ≡ b → stream_view (q.0, cond b (opened_stream q.1) q.1) ≡ stream_view q
            by true e = rests q q_in (eqb-true q.0.host host e)
            by false e = refl

        shows : (ps : List StreamPair) → ((q : StreamPair) → IsIn q ps → IsIn q olds) → map stream_view (filter (λ (q : StreamPair). st.has q.0.host) (map (changed_one host opened_stream) ps)) ≡ map stream_view (filter (λ (q : StreamPair). st.has q.0.host) ps)
        shows [] within = refl
        shows (q ∷ ps) within = by (st.has q.0.host) (shows ps (λ r r_in. within r (inr r_in)))
          where
            left : List StreamPair → List StreamPair
            left xs = filter (λ (x : StreamPair). st.has x.0.host) xs

            by : (b : Bool) → map stream_view (left (map (changed_one host opened_stream) ps)) ≡ map stream_view (left ps) →
                map stream_view (cond b (changed_one host opened_stream q ∷ left (map (changed_one host opened_stream) ps)) (left (map (changed_one host opened_stream) ps))) ≡ map stream_view (cond b (q ∷ left ps) (left ps))
            by true rest = λ i. one q (within q (inl refl)) i ∷ rest i
            by false rest = rest

    -- where all is there it is open
    open-state : (u : UpState) → u.kept ≡ s.kept → u.up ≡ s.up → IsThereBy s.kept.power plan (with_stream_open plan host n (record { kept = s.kept; up = s.up; there = u.there })) → IsUpState plan (with_stream_open plan host n u)
    open-state u same same_up is_there = subst (λ (v : UpState). IsUpState plan (with_stream_open plan host n v)) (λ i. record { kept = sym same i; up = sym same_up i; there = u.there })
        (record { record_is = opened-record; up = opened-up; once = both-once; there = is_there })

    module _ {Q : Type 0} (next : Q → Meeting × Q) (on : s.kept.power ≡ powers.On) where
      begun : IsThere plan s
      begun = subst (λ (power : Power). IsThereBy power plan s) on is.there

      serves : IsServing plan s.kept s.up
      serves = serving plan sound s.kept s.up is.record_is is.up

      abbrev Mid : There → Type 0
      Mid t = IsMaking plan sound s s.up n serves apart (both-brought plan sound s.kept s.up is.record_is is.up host c found) n-once t

      abbrev End : There → Type 0
      End t = IsStage plan s.kept (up_stage plan (s.up ++ n)) t

      runs : Runs plan Mid s (making_acts plan s.kept n) End
      runs = makes-up plan sound s s.up n serves apart (both-brought plan sound s.kept s.up is.record_is is.up host c found) n-once (there-stage plan sound s begun)

      kept-so : (u : UpState) → u.kept ≡ s.kept → u.up ≡ s.up → IsKept u.kept u.up
      kept-so u same same_up = subst (λ (x : Record × List ℕ). IsKept x.0 x.1) (λ i. (sym same i, sym same_up i)) (record { record_is = is.record_is; up_is = is.up; once = is.once })

      -- the state as it was, where all was unmade
      as-before : (u : UpState) → u.kept ≡ s.kept → u.up ≡ s.up → IsStage plan s.kept (up_stage plan s.up) u.there → IsUpState plan u
      as-before u same same_up at = subst (IsUpState plan) (λ i. record { kept = sym same i; up = sym same_up i; there = u.there })
          (record { record_is = is.record_is; up = is.up; once = is.once; there = subst (λ (power : Power). IsThereBy power plan (record { kept = s.kept; up = s.up; there = u.there })) (sym on) (stage-there plan sound (record { kept = s.kept; up = s.up; there = u.there }) at) })

      -- all was made
      opened-there : (t : There) → End t → IsThereBy s.kept.power plan (with_stream_open plan host n (record { kept = s.kept; up = s.up; there = t }))
      opened-there t at = subst (λ (power : Power). IsThereBy power plan now) (sym on) (stage-there plan sound now (record { is = at.is ∙ (λ i. record { heap = t.heap; graph = (at_stage plan s.kept (up_stage plan (s.up ++ n)) t.heap).graph; streams = sym (streams-same (up_stage plan (s.up ++ n))) i }); heap = at.heap }))
        where
          now : UpState
          now = with_stream_open plan host n (record { kept = s.kept; up = s.up; there = t })

      module _ (u : UpState) (same : u.kept ≡ s.kept) (same_up : u.up ≡ s.up) (r : Q) where
        abbrev Goal : Outcome → Type 0
        Goal o = Keeps plan next (IsUpState plan) u r (after_making plan host n u o)

        down : IsUpState plan (cut_off u)
        down = down-state u (kept-so u same same_up)

        refused : Mid u.there → Keeps plan next (IsUpState plan) u r (unmade plan n (λ now. now) u)
        refused (st, amid, at) =
            unmade-keeps next s.up n (λ now. now) s.kept s.up serves apart (λ x x_kept x_up at_x. as-before x x_kept x_up at_x) (λ x x_kept x_up. down-state x (kept-so x x_kept x_up)) u r st same same_up amid at

        faulted : (fault : HostFault) → Mid u.there → Goal (Err fault)
        faulted (faults.Refused e) mid = refused mid
        faulted fault mid = down

        come : (o : Outcome) → Met plan Mid End o u.there → Goal o
        come (Ok passed) met = open-state u same same_up (opened-there u.there met)
        come (Err fault) met = faulted fault met

      pub opening-keeps : (q : Q) → Keeps plan next (IsUpState plan) s q (opening_by powers.On plan host n s)
      opening-keeps q =
          let w = walk (up_act_rules plan) false next s q (making_acts plan s.kept n) in
          let ended = walk-runs plan next Mid End (making_acts plan s.kept n) s q runs in
          come w.kept ended.kept ended.up w.queue w.outcome ended.met

    -- while the power is off nothing is sent
    pub opening-off : {Q : Type 0} (next : Q → Meeting × Q) (q : Q) → s.kept.power ≡ powers.Off → Keeps plan next (IsUpState plan) s q (opening_by powers.Off plan host n s)
    opening-off next q off =
        let was : IsThereBy powers.Off plan s = subst (λ (power : Power). IsThereBy power plan s) off is.there in
        open-state s refl refl (subst (λ (power : Power). IsThereBy power plan (with_stream_open plan host n s)) (sym off) (was.0, rests-changed host opened_stream plan.streams s.kept.streams (λ r. refl) was.1))
