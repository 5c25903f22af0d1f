-- While streams that are prepared have their parameters again, at a stage at which all is up that they need: some have, and the rest are at rest.
use Rattle.std.proofs.Common.{◌≡◌, refl, sym, ap, subst, ◌∙◌, ℕ, List, [], ◌∷◌, ◌++◌, map, filter, length, Bool, true, false, cond, not, inl, inr, ◌⊎◌, ◌==◌, ◌||◌, Some, None, Ok, is_some, append_assoc, append-nil, arith}
use Rattle.std.specs.Prelude.{Option, find, nat_le, ◌&&◌}
use Rattle.std.specs.Option.{option_map}
use Rattle.std.specs.List.{zip, flat_map, list_any, list_all}
use Rattle.std.proofs.lemmas.Bool.{true≢false, false≢true, eq-eqb, and_parts, or_right, false_from_ne_true}
use Rattle.std.proofs.lemmas.List.{map-append}
use Rattle.sof_base.specs.declared.format.Params.{Params}
use Rattle.stream_law.specs.declared.graph.Comp.{Comp}
use Rattle.stream_law.specs.declared.graph.Join.{Join}
use Rattle.stream_law.specs.declared.graph.Graph.{Graph}
use Rattle.stream_law.specs.declared.stream.Phase.TheVariants as phases
use Rattle.stream_law.specs.declared.stream.StreamView.{StreamView}
use Rattle.stream_law.specs.State.{FwState, HeapView}
use Rattle.stream_law.specs.Order.{is_among}
use Rattle.stream_law.specs.Placed.{Ascends}
use Rattle.stream_law.specs.Ways.{comp_of, touch, same_shape, agree, is_live_phase}
use Rattle.stream_law.proofs.Members.{IsIn, in-any, any-in, find-in, in-kept, kept-in}
use Rattle.ipc3_model.specs.Meanings.{IsMessage}
use Rattle.ipc3_model.specs.declared.message.Message.TheVariants.{PcmParams}
use Rattle.mbox_link.specs.Step.{row, is_rate, is_stream_phase, set_stream, invalid}
use Rattle.tplg_plan.specs.declared.plans.Plan.{Plan}
use Rattle.tplg_plan.specs.declared.plans.StreamPlan.{StreamPlan}
use Rattle.tplg_plan.specs.Sound.{IsSound}
use Rattle.host_widgets.specs.declared.kept.Found.{Found}
use Rattle.host_widgets.specs.declared.kept.Found.TheVariants as founds
use Rattle.host_widgets.specs.declared.kept.StreamRec.{StreamRec}
use Rattle.host_widgets.specs.declared.kept.Record.{Record}
use Rattle.host_widgets.specs.ActLists.{prepare_acts, prepare_by}
use Rattle.host_widgets.specs.Expected.{stream_view, phase_of}
use Rattle.host_widgets.specs.Acts.{direction_of}
use Rattle.host_widgets.specs.Host.{IsRecordOf, errno, conflicts}
use Rattle.host_widgets.specs.HostActs.{Act, Prepare, after, prepared_stream}
use Rattle.host_widgets.specs.HostRecord.{closed, are_in_range, may_have}
use Rattle.host_widgets.specs.IdleStreams.{idle_view}
use Rattle.host_widgets.specs.Indices.{join_index}
use Rattle.host_widgets.specs.Kept.{changed, control_at}
use Rattle.host_widgets.specs.ViewOf.{graph_by, record_setting}
use Rattle.host_widgets.proofs.ReadyWays.{touch-set}
use Rattle.host_widgets.proofs.StreamFits.{params-fit}
use Rattle.host_widgets.proofs.LookedUp.{first-apart, rest-ascends}
use Rattle.host_widgets.proofs.StreamPlaces.{streams-ascend}
use Rattle.host_widgets.specs.There.{There, there_in, there_after, silent_state}
use Rattle.host_widgets.specs.UpState.{UpState}
use Rattle.host_widgets.specs.Need.{IsEnough}
use Rattle.host_widgets.proofs.Needs.{in-left, in-right, in-either, in-map}
use Rattle.host_widgets.proofs.HostStreams.{IsHostKind, stream-comp, in-zip}
use Rattle.host_widgets.proofs.StageBetween.{up-between}
use Rattle.host_widgets.proofs.StageMakes.{zip-ascends}
use Rattle.host_widgets.proofs.RowsTold.{told}
use Rattle.host_widgets.proofs.StagePrepares.{own-found, one-of-host, none-one, host-has, prepare-row, prepare-row-told}
use Rattle.host_widgets.proofs.StageStays.{all-pass, pass-each, from-map, streams-agree}
use Rattle.host_widgets.proofs.Sublists.{filter-append}
use Rattle.host_widgets.proofs.UpContext.{IsServing}
use Rattle.host_widgets.proofs.RestedRecords.{bare_of}
use Rattle.host_widgets.proofs.UpExchanges.{IsOwn, own-told}
use Rattle.host_widgets.proofs.LeadingOn.{LeadsTo}
use Rattle.host_widgets.proofs.UpStages.{Stage, StreamPair, stage_graph, stage_streams, at_stage, HasUp}
use Rattle.host_widgets.proofs.UpSending.{StagedFirst}
use Rattle.host_widgets.specs.ActMessages.{act_message}
use Rattle.host_widgets.proofs.RecordsStay.{none-left, none-right}

-- ---- lists

-- the key of a record of a list that ascends is not after it
behind-apart : {X : Type 0} (key : X → ℕ) (before : List X) (x : X) (behind : List X) → Ascends key (before ++ x ∷ behind) → list_any (λ (y : X). key y == key x) behind ≡ false
behind-apart key [] x behind up = first-apart key x behind up
behind-apart key (y ∷ before) x behind up = behind-apart key before x behind (rest-ascends key y (before ++ x ∷ behind) up)

-- streams of which one has what a change makes of it are as they were
changed-same : (host : ℕ) (f : StreamRec → StreamRec) (ss : List StreamPlan) (rs : List StreamRec) → ((p : StreamPair) → IsIn p (zip ss rs) → (p.0.host == host) ≡ true → f p.1 ≡ p.1) → changed (λ (y : StreamPlan). y.host) host f ss rs ≡ rs
changed-same host f [] rs each = refl
changed-same host f (y ∷ ss) [] each = refl
changed-same host f (y ∷ ss) (r ∷ rs) each = (λ i. by (y.host == host) refl i ∷ changed (λ (z : StreamPlan). z.host) host f ss rs) ∙ ap (λ (qs : List StreamRec). r ∷ qs) (changed-same host f ss rs (λ p there. each p (inr there)))
  where
    by : (b : Bool) → (y.host == host) ≡ b → cond b (f r) r ≡ r
    by true e = each (y, r) (inl refl) e
    by false e = refl

-- where no stream of a host moves, the one that is found does not
found-still : (vs : List StreamView) (host : ℕ) → ((v : StreamView) → IsIn v vs → is_live_phase v.phase ≡ false) → is_stream_phase is_live_phase (option_map (λ (v : StreamView). v.phase) (find (λ (v : StreamView). v.host == host) vs)) ≡ false
found-still vs host each = by (find (λ (v : StreamView). v.host == host) vs) refl
  where
    by : (o : Option StreamView) → find (λ (v : StreamView). v.host == host) vs ≡ o → is_stream_phase is_live_phase (option_map (λ (v : StreamView). v.phase) o) ≡ false
    by None e = refl
    by (Some v) e = each v (find-in (λ (w : StreamView). w.host == host) vs v e).0

pub none-closed : (o : Option Params) → may_have founds.Closed o ≡ true → o ≡ None
none-closed None may = refl
none-closed (Some p) may = absurd (false≢true may)

pub none-open : (o : Option Params) → may_have founds.Open o ≡ true → o ≡ None
none-open None may = refl
none-open (Some p) may = absurd (false≢true may)

-- anything may be there
abbrev pub AnyThere : There → Type 0
AnyThere t = Unit {0}

-- parameters ask for nothing that is staged
pub prepares-loose : (ps : List StreamPair) (f : FwState) → StagedFirst (flat_map prepare_acts ps) f
prepares-loose [] f = tt
prepares-loose (p ∷ ps) f = by p.1.found p.1.params (prepares-loose ps f)
  where
    by : (found : Found) (o : Option Params) → StagedFirst (flat_map prepare_acts ps) f → StagedFirst (prepare_by p.0.host found o ++ flat_map prepare_acts ps) f
    by founds.Prepared (Some params) rest = tt
    by founds.Prepared None rest = rest
    by founds.Closed o rest = rest
    by founds.Open o rest = rest
    by founds.Running o rest = rest
    by founds.Paused o rest = rest
    by founds.On o rest = rest

-- of four tests that all hold, the second, and the last
both-of : (a b c d : Bool) → (a && b && c && d) ≡ true → (b ≡ true) × (d ≡ true)
both-of true true true true holds = (refl, refl)
both-of true true true false holds = absurd (false≢true holds)
both-of true true false d holds = absurd (false≢true holds)
both-of true false c d holds = absurd (false≢true holds)
both-of false b c d holds = absurd (false≢true holds)

-- ---- streams at rest

-- All is there that is up, and no other join; it serves the streams of a record of the plan, and none of them moves.
pub record IsResting (plan : Plan) (kept : Record) (up : List ℕ) (st : Stage) : Type 0 where
  pub over : HasUp plan up st
  pub placed : (j : Join) → IsIn j st.joins → (i : ℕ) × (join_index plan.graph j ≡ Some i) × (is_among up i ≡ true)
  pub serves : IsServing plan kept up
  pub record_is : IsRecordOf plan kept
  pub still : list_any (λ (r : StreamRec). is_live_phase (phase_of r.found)) kept.streams ≡ false

module _ (plan : Plan) (sound : IsSound plan) (kept : Record) (up : List ℕ) (st : Stage) (at_rest : IsResting plan kept up st) where
  abbrev pub k : Graph
  k = stage_graph plan kept st

  abbrev pub pairs : List StreamPair
  pairs = zip plan.streams kept.streams

  -- ---- while streams have their parameters again: some have, and the rest are at rest

  abbrev pub left : StreamPair → Bool
  left q = st.has q.0.host

  abbrev idle : StreamPair → StreamView
  idle q = idle_view q.0.host

  abbrev pub partly : List StreamPair → List StreamPair → List StreamView
  partly done rest = map stream_view (filter left done) ++ map idle (filter left rest)

  rest-shown : (ss : List StreamPlan) (rs : List StreamRec) → length rs ≡ length ss → map stream_view (filter left (zip ss (map (λ (x : StreamPlan). closed) ss))) ≡ map idle (filter left (zip ss rs))
  rest-shown [] rs same = refl
  rest-shown (x ∷ ss) [] same = absurd (cc same)
  rest-shown (x ∷ ss) (r ∷ rs) same = by (st.has x.host) (rest-shown ss rs (let rest : length rs ≡ length ss = omega (arith, same) in rest))
    where
      by : (b : Bool) → map stream_view (filter left (zip ss (map (λ (y : StreamPlan). closed) ss))) ≡ map idle (filter left (zip ss rs)) →
          map stream_view (cond b ((x, closed) ∷ filter left (zip ss (map (λ (y : StreamPlan). closed) ss))) (filter left (zip ss (map (λ (y : StreamPlan). closed) ss)))) ≡ map idle (cond b ((x, r) ∷ filter left (zip ss rs)) (filter left (zip ss rs)))
      by true rest = ap (λ (vs : List StreamView). idle_view x.host ∷ vs) rest
      by false rest = rest

  -- each has what the record says, or no parameters
  abbrev IsSome : StreamView → Type 0
  IsSome v = IsIn v (stage_streams plan kept st) ⊎ (v.params ≡ None)

  pub partly-in : (done rest : List StreamPair) → ((p : StreamPair) → IsIn p done → IsIn p pairs) → (v : StreamView) → IsIn v (partly done rest) → IsSome v
  partly-in done rest within v there = by (in-either (map stream_view (filter left done)) (map idle (filter left rest)) v there)
    where
      by : IsIn v (map stream_view (filter left done)) ⊎ IsIn v (map idle (filter left rest)) → IsSome v
      by (inl a) =
          let r = from-map stream_view (filter left done) v a in
          let mine = kept-in left done r.0 r.1 in
          inl (subst (λ (x : StreamView). IsIn x (stage_streams plan kept st)) (sym r.2) (in-map stream_view (filter left pairs) r.0 (in-kept left pairs r.0 (within r.0 mine.0) mine.1)))
      by (inr b) = let r = from-map idle (filter left rest) v b in inr (ap (λ (x : StreamView). x.params) r.2)

  record-agrees : agree (record { graph = stage_graph plan kept st; streams = stage_streams plan kept st }) ≡ true
  record-agrees = streams-agree plan sound kept up at_rest.serves.held at_rest.serves.shapes left k (up-between plan sound kept up st at_rest.over)

  fair : (v w : StreamView) → IsSome v → IsSome w → (not (touch k v.host w.host) || same_shape v.params w.params) ≡ true
  unfolding agree
  fair v w (inr none) some = or_right (not (touch k v.host w.host)) (same_shape v.params w.params) (ap (λ (o : Option Params). same_shape o w.params) none ∙ none-left w.params)
  fair v w (inl a) (inr none) = or_right (not (touch k v.host w.host)) (same_shape v.params w.params) (ap (λ (o : Option Params). same_shape v.params o) none ∙ none-right v.params)
  fair v w (inl a) (inl b) =
      pass-each (λ (y : StreamView). not (touch k v.host y.host) || same_shape v.params y.params) (stage_streams plan kept st) w
      (pass-each (λ (x : StreamView). list_all (λ (y : StreamView). not (touch k x.host y.host) || same_shape x.params y.params) (stage_streams plan kept st)) (stage_streams plan kept st) v record-agrees a) b

  pub some-agree : (vs : List StreamView) → ((v : StreamView) → IsIn v vs → IsSome v) → agree (record { graph = stage_graph plan kept st; streams = vs }) ≡ true
  unfolding agree
  some-agree vs each = all-pass (λ (v : StreamView). list_all (λ (w : StreamView). not (touch k v.host w.host) || same_shape v.params w.params) vs) vs (λ v v_in.
      all-pass (λ (w : StreamView). not (touch k v.host w.host) || same_shape v.params w.params) vs (λ w w_in. fair v w (each v v_in) (each w w_in)))

  -- ---- what the record says of a stream

  may-be : (q : StreamPair) → IsIn q pairs → may_have q.1.found q.1.params ≡ true
  may-be q there = pass-each (λ (r : StreamRec). may_have r.found r.params) kept.streams q.1 at_rest.record_is.each (in-zip plan.streams kept.streams q there).1

  pub still : (q : StreamPair) → IsIn q pairs → is_live_phase (phase_of q.1.found) ≡ false
  still q there = none-one (λ (r : StreamRec). is_live_phase (phase_of r.found)) kept.streams q.1 at_rest.still (in-zip plan.streams kept.streams q there).1

  -- ---- one stream more

  moved : (done rest : List StreamPair) (q : StreamPair) → partly (done ++ q ∷ []) rest ≡ map stream_view (filter left done) ++ (map stream_view (cond (left q) (q ∷ []) []) ++ map idle (filter left rest))
  moved done rest q =
      ap (λ (ps : List StreamPair). map stream_view ps ++ map idle (filter left rest)) (filter-append left done (q ∷ []))
      ∙ ap (λ (vs : List StreamView). vs ++ map idle (filter left rest)) (map-append stream_view (filter left done) (filter left (q ∷ [])))
      ∙ append_assoc (map stream_view (filter left done)) (map stream_view (filter left (q ∷ []))) (map idle (filter left rest))

  -- one that is at rest in the record
  stays-idle : (done rest : List StreamPair) (q : StreamPair) → stream_view q ≡ idle q → partly done (q ∷ rest) ≡ partly (done ++ q ∷ []) rest
  stays-idle done rest q same = ap (λ (vs : List StreamView). map stream_view (filter left done) ++ vs) (by (left q)) ∙ sym (moved done rest q)
    where
      by : (b : Bool) → map idle (cond b (q ∷ filter left rest) (filter left rest)) ≡ map stream_view (cond b (q ∷ []) []) ++ map idle (filter left rest)
      by true = ap (λ (v : StreamView). v ∷ map idle (filter left rest)) (sym same)
      by false = refl

  -- one that is prepared in the record
  module _ (done rest : List StreamPair) (q : StreamPair) (cut : zip plan.streams kept.streams ≡ done ++ q ∷ rest) (params : Params) (found_is : q.1.found ≡ founds.Prepared) (params_are : q.1.params ≡ Some params) where
    abbrev given : StreamView → StreamView
    given = set_stream q.0.host phases.Prepared (Some params)

    view-is : stream_view q ≡ record { host = q.0.host; phase = phases.Prepared; params = Some params }
    view-is = λ i. record { host = q.0.host; phase = phase_of (found_is i); params = params_are i }

    q-in : IsIn q pairs
    q-in = subst (IsIn q) (sym cut) (in-right done (q ∷ rest) q (inl refl))

    done-in : (p : StreamPair) → IsIn p done → IsIn p pairs
    done-in p there = subst (IsIn p) (sym cut) (in-left done (q ∷ rest) p there)

    next-cut : zip plan.streams kept.streams ≡ (done ++ q ∷ []) ++ rest
    next-cut = cut ∙ sym (append_assoc done (q ∷ []) rest)

    pub next-in : (p : StreamPair) → IsIn p (done ++ q ∷ []) → IsIn p pairs
    next-in p there = subst (IsIn p) (sym next-cut) (in-left (done ++ q ∷ []) rest p there)

    only : (p : StreamPair) → IsIn p pairs → (p.0.host == q.0.host) ≡ true → p ≡ q
    only = one-of-host plan sound kept q.0.host q (own-found plan sound kept q q-in)

    -- those that have theirs stay
    done-stays : (ps : List StreamPair) → ((p : StreamPair) → IsIn p ps → IsIn p pairs) → map given (map stream_view ps) ≡ map stream_view ps
    done-stays [] within = refl
    done-stays (p ∷ ps) within = (λ i. by (p.0.host == q.0.host) refl i ∷ map given (map stream_view ps)) ∙ ap (λ (vs : List StreamView). stream_view p ∷ vs) (done-stays ps (λ r there. within r (inr there)))
      where
        by : (b : Bool) → (p.0.host == q.0.host) ≡ b → cond b (record { host = p.0.host; phase = phases.Prepared; params = Some params }) (stream_view p) ≡ stream_view p
        by true e =
            let same : p ≡ q = only p (within p (inl refl)) e in
            ap (λ (y : StreamPair). record { host = y.0.host; phase = phases.Prepared; params = Some params }) same ∙ sym view-is ∙ ap stream_view (sym same)
        by false e = refl

    rest-apart : list_any (λ (p : StreamPair). p.0.host == q.0.host) rest ≡ false
    rest-apart = behind-apart (λ (p : StreamPair). p.0.host) done q rest (subst (Ascends (λ (p : StreamPair). p.0.host)) cut (zip-ascends plan.streams kept.streams (streams-ascend plan sound)))

    -- and so do those after it
    rest-stays : (ps : List StreamPair) → ((p : StreamPair) → IsIn p ps → IsIn p rest) → map given (map idle ps) ≡ map idle ps
    rest-stays [] within = refl
    rest-stays (p ∷ ps) within =
        (λ i. cond (none-one (λ (x : StreamPair). x.0.host == q.0.host) rest p rest-apart (within p (inl refl)) i) (record { host = p.0.host; phase = phases.Prepared; params = Some params }) (idle p) ∷ map given (map idle ps))
        ∙ ap (λ (vs : List StreamView). idle p ∷ vs) (rest-stays ps (λ r there. within r (inr there)))

    q-comp : (c : Comp) × (comp_of plan.graph q.0.host ≡ Some c) × IsHostKind c.kind
    q-comp = stream-comp plan sound kept q q-in

    q-enough : IsEnough plan.graph q.0.host (is_among up)
    q-enough = at_rest.serves.held q q-in (ap is_some params_are)

    module _ (h : HeapView) where
      q-has : st.has q.0.host ≡ true
      q-has = host-has plan sound kept up st at_rest.over at_rest.placed h q.0.host q-enough q-comp.0 q-comp.1 q-comp.2 params

      given-rest : map given (map idle (filter left (q ∷ rest))) ≡ map stream_view (cond (left q) (q ∷ []) []) ++ map idle (filter left rest)
      given-rest = by (left q) q-has
        where
          first : given (idle q) ≡ stream_view q
          first = ap (λ (b : Bool). cond b (record { host = q.0.host; phase = phases.Prepared; params = Some params }) (idle q)) (eq-eqb q.0.host q.0.host refl) ∙ sym view-is

          by : (b : Bool) → b ≡ true → map given (map idle (cond b (q ∷ filter left rest) (filter left rest))) ≡ map stream_view (cond b (q ∷ []) []) ++ map idle (filter left rest)
          by true e = (λ i. first i ∷ rest-stays (filter left rest) (λ p there. (kept-in left rest p there).0) i)
          by false e = absurd (false≢true e)

      given-next : map given (partly done (q ∷ rest)) ≡ partly (done ++ q ∷ []) rest
      given-next =
          map-append given (map stream_view (filter left done)) (map idle (filter left (q ∷ rest)))
          ∙ (λ i. done-stays (filter left done) (λ p there. done-in p (kept-in left done p there).0) i ++ given-rest i)
          ∙ sym (moved done rest q)

      agrees-then : agree (record { graph = stage_graph plan kept st; streams = map given (partly done (q ∷ rest)) }) ≡ true
      agrees-then = ap (λ (vs : List StreamView). agree (record { graph = k; streams = vs })) given-next ∙ some-agree (partly (done ++ q ∷ []) rest) (partly-in (done ++ q ∷ []) rest next-in)

      partly-still : (v : StreamView) → IsIn v (partly done (q ∷ rest)) → is_live_phase v.phase ≡ false
      partly-still v there = by (in-either (map stream_view (filter left done)) (map idle (filter left (q ∷ rest))) v there)
        where
          by : IsIn v (map stream_view (filter left done)) ⊎ IsIn v (map idle (filter left (q ∷ rest))) → is_live_phase v.phase ≡ false
          by (inl a) = let r = from-map stream_view (filter left done) v a in ap (λ (x : StreamView). is_live_phase x.phase) r.2 ∙ still r.0 (done-in r.0 (kept-in left done r.0 r.1).0)
          by (inr b) = let r = from-map idle (filter left (q ∷ rest)) v b in ap (λ (x : StreamView). is_live_phase x.phase) r.2

      rate : is_rate params.rate ≡ true
      rate =
          let range : are_in_range params ≡ true = (λ i. may_have (sym found_is i) (sym params_are i)) ∙ may-be q q-in in
          (and_parts (is_rate params.rate) (nat_le 1 params.channels && nat_le params.channels 8) range).0

      pub prepared-there : there_after plan (Prepare q.0.host params) (record { heap = h; graph = k; streams = partly done (q ∷ rest) }) ≡ record { heap = h; graph = k; streams = partly (done ++ q ∷ []) rest }
      prepared-there =
          prepare-row plan sound kept up st at_rest.over at_rest.placed h q.0.host q-enough q-comp.0 q-comp.1 q-comp.2 params (partly done (q ∷ rest)) rate (found-still (partly done (q ∷ rest)) q.0.host partly-still) agrees-then
          ∙ (λ i. record { heap = h; graph = k; streams = given-next i })

    -- the firmware itself refuses nothing: the record agrees
    shape-with : (r : StreamPair) → IsIn r pairs → (not (touch plan.graph r.0.host q.0.host) || same_shape r.1.params (Some params)) ≡ true
    unfolding agree
    shape-with r there =
        let views = map stream_view pairs in
        let set : touch (graph_by plan kept) r.0.host q.0.host ≡ touch plan.graph r.0.host q.0.host = touch-set plan.graph (λ (c : Comp). record_setting c.kind (control_at plan kept c.id)) r.0.host q.0.host in
        (λ i. not (sym set i) || same_shape r.1.params (sym params_are i))
        ∙ pass-each (λ (u : StreamView). not (touch (graph_by plan kept) r.0.host u.host) || same_shape r.1.params u.params) views (stream_view q)
        (pass-each (λ (v : StreamView). list_all (λ (u : StreamView). not (touch (graph_by plan kept) v.host u.host) || same_shape v.params u.params) views) views (stream_view r) at_rest.record_is.shapes (in-map stream_view pairs r there))
        (in-map stream_view pairs q q-in)

    pub none-conflicts : list_any (conflicts plan q.0.host params) (zip plan.streams kept.streams) ≡ false
    none-conflicts = false_from_ne_true (list_any (conflicts plan q.0.host params) pairs) (λ some.
        let a = any-in (conflicts plan q.0.host params) pairs some in
        let b = both-of (not (a.0.0.host == q.0.host)) (touch plan.graph a.0.0.host q.0.host) (is_some a.0.1.params) (not (same_shape a.0.1.params (Some params))) a.2 in
        by (touch plan.graph a.0.0.host q.0.host) (same_shape a.0.1.params (Some params)) b.0 b.1 (shape-with a.0 a.1))
      where
        by : (x y : Bool) → x ≡ true → not y ≡ true → (not x || y) ≡ true → ⊥
        by true true e no_shape fair_so = false≢true no_shape
        by true false e no_shape fair_so = false≢true fair_so
        by false y e no_shape fair_so = false≢true e

    module _ (h : HeapView) where
      abbrev at_now : There
      at_now = record { heap = h; graph = k; streams = partly done (q ∷ rest) }

      said-so : told (row (silent_state at_now) (PcmParams q.0.host (direction_of plan q.0.host) params)) ≡ Ok (record { heap = h; graph = k; streams = map given (partly done (q ∷ rest)) })
      said-so = prepare-row-told plan sound kept up st at_rest.over at_rest.placed h q.0.host q-enough q-comp.0 q-comp.1 q-comp.2 params (partly done (q ∷ rest)) (rate h) (found-still (partly done (q ∷ rest)) q.0.host (partly-still h)) (agrees-then h)

      -- so it takes the parameters, wherever as much is there
      pub own-prepared : (f : FwState) → there_in f ≡ record { heap = h; graph = stage_graph plan kept st; streams = partly done (q ∷ rest) } → IsOwn plan (record { kept = kept; up = up; there = record { heap = h; graph = stage_graph plan kept st; streams = partly done (q ∷ rest) } }) (Prepare q.0.host params) f
      own-prepared f same = own-told plan (record { kept = kept; up = up; there = at_now }) (Prepare q.0.host params) tt refl f same
          (ap (λ (b : Bool). cond b (Some (errno invalid)) None) none-conflicts) (record { heap = h; graph = k; streams = map given (partly done (q ∷ rest)) })
          said-so

      pub fits-so : IsMessage (act_message plan (Prepare q.0.host params))
      fits-so = params-fit plan sound q.0.host (in-any (λ (x : StreamPlan). x.host == q.0.host) plan.streams q.0 (in-zip plan.streams kept.streams q q-in).0 (eq-eqb q.0.host q.0.host refl)) params
          ((λ i. may_have (sym found_is i) (sym params_are i)) ∙ may-be q q-in)

    -- the record has it already
    pub kept-same : after plan (Prepare q.0.host params) kept ≡ kept
    kept-same = λ i. record {
      power = kept.power;
      streams = changed-same q.0.host (prepared_stream params) plan.streams kept.streams (λ p there e. sym (ap (λ (x : StreamPair). x.1) (only p there e) ∙ (λ j. record { found = found_is j; params = params_are j }))) i;
      controls = kept.controls;
    }

  -- ---- all of them

  module _ (h : HeapView) where
    abbrev pub at_part : List StreamPair → List StreamPair → There
    at_part done rest = record { heap = h; graph = stage_graph plan kept st; streams = partly done rest }

    -- at first none has
    pub rest-at : at_stage plan (bare_of plan kept) st h ≡ at_part [] (zip plan.streams kept.streams)
    rest-at = λ i. record { heap = h; graph = k; streams = rest-shown plan.streams kept.streams at_rest.record_is.streams i }

    -- and then all have
    pub all-given : at_part (zip plan.streams kept.streams) [] ≡ at_stage plan kept st h
    all-given = λ i. record { heap = h; graph = k; streams = append-nil (map stream_view (filter left pairs)) i }

    -- What is so once all have theirs is so before them, where it is so before one more that is prepared, if it is so after that.
    module _ (So : There → List Act → Type 0) (none : So (at_part (zip plan.streams kept.streams) []) [])
        (one : (done rest : List StreamPair) (q : StreamPair) (cut : zip plan.streams kept.streams ≡ done ++ q ∷ rest) (params : Params) (found_is : q.1.found ≡ founds.Prepared) (params_are : q.1.params ≡ Some params) →
        So (at_part (done ++ q ∷ []) rest) (flat_map prepare_acts rest) → So (at_part done (q ∷ rest)) (Prepare q.0.host params ∷ flat_map prepare_acts rest)) where
      part-by-part : (done rest : List StreamPair) → zip plan.streams kept.streams ≡ done ++ rest → So (at_part done rest) (flat_map prepare_acts rest)
      part-by-part done [] cut = subst (λ (ps : List StreamPair). So (at_part ps []) []) (cut ∙ append-nil done) none
      part-by-part done (q ∷ rest) cut = by q.1.found q.1.params refl refl (part-by-part (done ++ q ∷ []) rest (cut ∙ sym (append_assoc done (q ∷ []) rest)))
        where
          q-there : IsIn q pairs
          q-there = subst (IsIn q) (sym cut) (in-right done (q ∷ rest) q (inl refl))

          More : Type 0
          More = So (at_part (done ++ q ∷ []) rest) (flat_map prepare_acts rest)

          idly : (f : Found) → q.1.found ≡ f → phase_of f ≡ phases.Idle → ((o : Option Params) → may_have f o ≡ true → o ≡ None) → More → So (at_part done (q ∷ rest)) (flat_map prepare_acts rest)
          idly f e at no_params more =
              let same : stream_view q ≡ idle q = λ i. record { host = q.0.host; phase = (ap phase_of e ∙ at) i; params = no_params q.1.params (ap (λ (x : Found). may_have x q.1.params) (sym e) ∙ may-be q q-there) i } in
              subst (λ (vs : List StreamView). So (record { heap = h; graph = k; streams = vs }) (flat_map prepare_acts rest)) (sym (stays-idle done rest q same)) more

          by : (f : Found) (o : Option Params) → q.1.found ≡ f → q.1.params ≡ o → More → So (at_part done (q ∷ rest)) (prepare_by q.0.host f o ++ flat_map prepare_acts rest)
          by founds.Prepared (Some params) e p more = one done rest q cut params e p more
          by founds.Prepared None e p more = absurd (false≢true ((λ i. may_have (sym e i) (sym p i)) ∙ may-be q q-there))
          by founds.Closed o e p more = idly founds.Closed e refl none-closed more
          by founds.Open o e p more = idly founds.Open e refl none-open more
          by founds.Running o e p more = absurd (true≢false (ap (λ (x : Found). is_live_phase (phase_of x)) (sym e) ∙ still q q-there))
          by founds.Paused o e p more = absurd (true≢false (ap (λ (x : Found). is_live_phase (phase_of x)) (sym e) ∙ still q q-there))
          by founds.On o e p more = absurd (false≢true (ap (λ (x : Found). may_have x q.1.params) (sym e) ∙ may-be q q-there))

      pub part-by-part-from : So (at_part [] (zip plan.streams kept.streams)) (flat_map prepare_acts (zip plan.streams kept.streams))
      part-by-part-from = part-by-part [] pairs refl

    -- the firmware takes them all
    module _ (Ready : There → Type 0) (ready : Ready (at_stage plan kept st h)) where
      abbrev real : There → UpState
      real t = record { kept = kept; up = up; there = t }

      pub prepares-lead : LeadsTo plan AnyThere (real (at_part [] (zip plan.streams kept.streams))) (flat_map prepare_acts (zip plan.streams kept.streams)) Ready
      prepares-lead = part-by-part-from (λ t acts. LeadsTo plan AnyThere (real t) acts Ready) (subst Ready (sym all-given) ready) (λ done rest q cut params e p more. (
        tt,
        kept-same done rest q cut params e p,
        fits-so done rest q cut params e p h,
        λ f same staged. own-prepared done rest q cut params e p h f same,
        λ f g staged passed. prepares-loose rest g,
        λ free. subst (λ (t : There). LeadsTo plan AnyThere (real t) (flat_map prepare_acts rest) Ready) (sym (prepared-there done rest q cut params e p h)) more,
      ))
