-- Whatever messages meet, what parts where a stream is closed leaves a state in which what is up is there.
use Rattle.std.proofs.Common.{◌≡◌, refl, sym, ap, subst, ◌∙◌, ℕ, List, [], ◌∷◌, ◌++◌, map, filter, Bool, true, false, cond, not, inl, inr, ◌==◌, ◌||◌, ◌&&◌, is_some}
use Rattle.std.specs.Prelude.{Option, ◌↔◌}
use Rattle.std.specs.Option.{option_map_or}
use Rattle.std.specs.List.{zip, flat_map, IsDistinct}
use Rattle.std.proofs.lemmas.Bool.{true≢false, false≢true, or_left, or_right, and_parts, and_from}
use Rattle.stream_law.specs.declared.graph.Join.{Join}
use Rattle.stream_law.specs.declared.graph.Graph.{Graph}
use Rattle.stream_law.specs.declared.stream.StreamView.{StreamView}
use Rattle.stream_law.specs.Order.{is_among}
use Rattle.stream_law.proofs.Among.{is_among-filter}
use Rattle.stream_law.proofs.Keyed.{map-same}
use Rattle.stream_law.proofs.Members.{IsIn, in-each, kept-in}
use Rattle.mbox_link.specs.Meetings.{Meeting}
use Rattle.tplg_plan.specs.declared.plans.Plan.{Plan}
use Rattle.tplg_plan.specs.Sound.{IsSound}
use Rattle.host_widgets.specs.declared.kept.Power.{Power}
use Rattle.host_widgets.specs.declared.kept.Power.TheVariants as powers
use Rattle.host_widgets.specs.declared.kept.Record.{Record}
use Rattle.host_widgets.specs.Expected.{stream_view}
use Rattle.host_widgets.specs.Host.{IsRecordOf}
use Rattle.host_widgets.specs.IdleStreams.{idle_view}
use Rattle.host_widgets.specs.Kept.{with_stream}
use Rattle.host_widgets.proofs.RecordsStay.{record-less}
use Rattle.host_pcm.specs.StreamCalls.{shut}
use Rattle.host_dynamic.specs.Dynamic.{needed, parting, staying, with_stream_shut, unmade}
use Rattle.host_widgets.specs.UpState.{UpState, cut_off}
use Rattle.host_widgets.specs.Need.{HasBrought, IsEnough}
use Rattle.host_widgets.specs.Up.{is_join_at, buffer_joins}
use Rattle.host_dynamic.specs.UpStates.{IsThereBy, IsUpState}
use Rattle.host_widgets.proofs.Needs.{in-map, in-among, flat-in}
use Rattle.host_widgets.proofs.Sublists.{filter-append, filter-all, filter-none, once-filter, distinct-once, once-distinct}
use Rattle.host_widgets.proofs.StageStreams.{changed_one, zip-changed, streams-changed, other-stays}
use Rattle.host_widgets.proofs.UpContext.{IsServing, AreApart, join-at, ends-up}
use Rattle.host_dynamic.proofs.UpNeeds.{IsAsked, needed-asked, serving}
use Rattle.host_dynamic.proofs.UpOpening.{all-at, rests-changed, down-state, unmade-keeps}
use Rattle.host_widgets.proofs.UpStages.{Stage, StreamPair, stage_streams, at_stage, IsStage, index_of_id, is_join_of, up_stage, IsAmid}
use Rattle.host_dynamic.proofs.UpStanding.{stage-there}
use Rattle.host_widgets.proofs.UpWalks.{Keeps}
use Rattle.host_widgets.specs.Indices.{is_up}

-- ---- joins of some of these indices

module _ (plan : Plan) (sound : IsSound plan) (kept_up : List ℕ) where
  -- those of the buffers of an index are all kept where it is kept, and else none
  joins-one : (i : ℕ) → filter (is_join_of plan.graph kept_up) (buffer_joins plan.graph i) ≡ cond (is_among kept_up i) (buffer_joins plan.graph i) []
  joins-one i = by (is_among kept_up i) refl
    where
      each : (b : Bool) → is_among kept_up i ≡ b → (j : Join) → IsIn j (buffer_joins plan.graph i) → is_join_of plan.graph kept_up j ≡ b
      each b e j there = ap (λ (o : Option ℕ). among_of o) (join-at plan sound i j (kept-in (is_join_at plan.graph i) plan.graph.joins j there).1) ∙ e
        where
          among_of : Option ℕ → Bool
          among_of o = option_map_or (is_among kept_up) o false

      by : (b : Bool) → is_among kept_up i ≡ b → filter (is_join_of plan.graph kept_up) (buffer_joins plan.graph i) ≡ cond b (buffer_joins plan.graph i) []
      by true e = filter-all (is_join_of plan.graph kept_up) (buffer_joins plan.graph i) (in-each (λ (j : Join). is_join_of plan.graph kept_up j ≡ true) (buffer_joins plan.graph i) (each true e))
      by false e = filter-none (is_join_of plan.graph kept_up) (buffer_joins plan.graph i) (in-each (λ (j : Join). is_join_of plan.graph kept_up j ≡ false) (buffer_joins plan.graph i) (each false e))

  pub joins-kept : (up : List ℕ) → filter (is_join_of plan.graph kept_up) (flat_map (buffer_joins plan.graph) up) ≡ flat_map (buffer_joins plan.graph) (filter (is_among kept_up) up)
  joins-kept [] = refl
  joins-kept (i ∷ up) =
      filter-append (is_join_of plan.graph kept_up) (buffer_joins plan.graph i) (flat_map (buffer_joins plan.graph) up)
      ∙ (λ k. joins-one i k ++ joins-kept up k)
      ∙ by (is_among kept_up i)
    where
      by : (b : Bool) → cond b (buffer_joins plan.graph i) [] ++ flat_map (buffer_joins plan.graph) (filter (is_among kept_up) up) ≡ flat_map (buffer_joins plan.graph) (cond b (i ∷ filter (is_among kept_up) up) (filter (is_among kept_up) up))
      by true = refl
      by false = refl

-- Once the messages of a stream have passed, its record is this, and its parameters are gone. What no other stream needs is unmade.
module _ (plan : Plan) (sound : IsSound plan) (u : UpState) (host : ℕ) (record_is : IsRecordOf plan u.kept) (once : IsDistinct (λ a b. a == b) u.up)
    (up_asked : (i : ℕ) → IsAsked plan sound (with_stream plan host shut u.kept) i → is_among u.up i ≡ true) where
  abbrev g : Graph
  g = plan.graph

  abbrev gone : Record
  gone = with_stream plan host shut u.kept

  abbrev left : List ℕ
  left = staying plan host u

  abbrev parts : List ℕ
  parts = parting plan host u

  gone-record : IsRecordOf plan gone
  gone-record = record-less plan u.kept host shut record_is (all-at host plan.streams u.kept.streams (λ r. refl)) (all-at host plan.streams u.kept.streams (λ r. inr refl))

  left-is : (i : ℕ) → (is_among left i ≡ true) ↔ (is_among (needed plan gone) i ≡ true)
  left-is i = (
    λ is. (and_parts (is_among (needed plan gone) i) (is_among u.up i) (sym (is_among-filter (is_among (needed plan gone)) u.up i) ∙ is)).0,
    λ is. is_among-filter (is_among (needed plan gone)) u.up i ∙ and_from (is_among (needed plan gone) i) (is_among u.up i) is (up_asked i (needed-asked plan sound gone i is)),
  )

  left-once : IsDistinct (λ a b. a == b) left
  left-once = once-distinct left (once-filter (is_among (needed plan gone)) u.up (distinct-once u.up once))

  pub parts-apart : AreApart left parts
  parts-apart i in_parts = by (is_among left i) refl
    where
      p : (not (is_among (needed plan gone) i) ≡ true) × (is_among u.up i ≡ true)
      p = and_parts (not (is_among (needed plan gone) i)) (is_among u.up i) (sym (is_among-filter (λ j. not (is_among (needed plan gone) j)) u.up i) ∙ in_parts)

      by : (b : Bool) → is_among left i ≡ b → is_among left i ≡ false
      by false e = e
      by true e = absurd (false≢true (sym (ap not ((left-is i).0 e)) ∙ p.0))

  -- all that was up stays or parts
  each-parts : (i : ℕ) → is_among u.up i ≡ true → (is_among left i || is_among parts i) ≡ true
  each-parts i is = by (is_among (needed plan gone) i) refl
    where
      by : (b : Bool) → is_among (needed plan gone) i ≡ b → (is_among left i || is_among parts i) ≡ true
      by true e = or_left (is_among left i) (is_among parts i) ((left-is i).1 e)
      by false e = or_right (is_among left i) (is_among parts i) (is_among-filter (λ j. not (is_among (needed plan gone) j)) u.up i ∙ and_from (not (is_among (needed plan gone) i)) (is_among u.up i) (ap not e) is)

  left-up : (i : ℕ) → is_among left i ≡ true → is_among u.up i ≡ true
  left-up i is = (and_parts (is_among (needed plan gone) i) (is_among u.up i) (sym (is_among-filter (is_among (needed plan gone)) u.up i) ∙ is)).1

  left-filter : filter (is_among left) u.up ≡ left
  left-filter = filter-agree u.up (λ i there. there)
    where
      filter-agree : (is : List ℕ) → ((i : ℕ) → IsIn i is → IsIn i u.up) → filter (is_among left) is ≡ filter (is_among (needed plan gone)) is
      filter-agree [] within = refl
      filter-agree (i ∷ is) within =
          ap (λ (b : Bool). cond b (i ∷ filter (is_among left) is) (filter (is_among left) is)) (is_among-filter (is_among (needed plan gone)) u.up i ∙ and_right_true (is_among (needed plan gone) i) (is_among u.up i) (in-among u.up i (within i (inl refl))))
          ∙ ap (λ (xs : List ℕ). cond (is_among (needed plan gone) i) (i ∷ xs) xs) (filter-agree is (λ j there. within j (inr there)))
        where
          and_right_true : (a b : Bool) → b ≡ true → (a && b) ≡ a
          and_right_true true b e = e
          and_right_true false b e = refl

  -- a state at which all that was up is there is amid what stays and what parts, where that has what it brings
  pub shut-amid : IsServing plan gone left → (brought : HasBrought g (is_among u.up)) → IsAmid plan left parts (up_stage plan u.up)
  shut-amid serves brought = record {
    there = λ id is. left-up (index_of_id plan id) is;
    only = λ id is. each-parts (index_of_id plan id) is;
    joins = λ j there.
        (let r = flat-in (buffer_joins g) u.up j there in
        let k = kept-in (is_join_at g r.0) g.joins j r.2 in
        let e = ends-up plan sound u.up brought j k.0 r.0 (join-at plan sound r.0 j k.1) (in-among u.up r.0 r.1) in
        (k.0, e.0, e.1));
    rest = joins-kept plan sound left u.up ∙ ap (flat_map (buffer_joins g)) left-filter;
    todo = λ p none. absurd none;
    done = λ id is. refl;
  }

  -- while the power is off only what should be there changes
  pub shut-off : u.kept.power ≡ powers.Off → IsThereBy powers.Off plan u → IsUpState plan (with_stream_shut plan host u)
  shut-off off was = record {
    record_is = gone-record;
    up = left-is;
    once = left-once;
    there = subst (λ (power : Power). IsThereBy power plan (with_stream_shut plan host u)) (sym off) (was.0, rests-changed host shut plan.streams u.kept.streams (λ r. refl) was.1);
  }

  -- ---- where its stream is at rest already

  module _ (up_brought : HasBrought g (is_among u.up)) (rests : (q : StreamPair) → IsIn q (zip plan.streams u.kept.streams) → (q.0.host == host) ≡ true → stream_view (q.0, shut q.1) ≡ stream_view q)
      (bare : (q : StreamPair) → IsIn q (zip plan.streams u.kept.streams) → (q.0.host == host) ≡ true → is_some q.1.params ≡ false) (on : u.kept.power ≡ powers.On) where
    -- its stream shows as it did
    streams-same : (st : Stage) → stage_streams plan gone st ≡ stage_streams plan u.kept st
    streams-same st =
        streams-changed plan u.kept host shut (λ v. v) (λ q there. other-stays host shut (λ v. v) q (λ e. rests q there e) (λ e. refl)) st
        ∙ map-same (λ (v : StreamView). v) (stage_streams plan u.kept st) (in-each (λ (v : StreamView). v ≡ v) (stage_streams plan u.kept st) (λ v there. refl))

    pub gone-serves : IsServing plan gone left
    gone-serves = serving plan sound gone left gone-record left-is

    -- a stream of another host is as it was
    other-in : (q : StreamPair) → IsIn q (zip plan.streams u.kept.streams) → (q.0.host == host) ≡ false → IsIn q (zip plan.streams gone.streams)
    other-in q there e = subst (IsIn q) (sym (zip-changed host shut plan.streams u.kept.streams)) (subst (λ (x : StreamPair). IsIn x (map (changed_one host shut) (zip plan.streams u.kept.streams))) (ap (λ (b : Bool). (q.0, cond b (shut q.1) q.1)) e) (in-map (changed_one host shut) (zip plan.streams u.kept.streams) q there))

    shut-in : (q : StreamPair) → IsIn q (zip plan.streams u.kept.streams) → (q.0.host == host) ≡ true → IsIn (q.0, shut q.1) (zip plan.streams gone.streams)
    shut-in q there e = subst (IsIn (q.0, shut q.1)) (sym (zip-changed host shut plan.streams u.kept.streams)) (subst (λ (x : StreamPair). IsIn x (map (changed_one host shut) (zip plan.streams u.kept.streams))) (ap (λ (b : Bool). (q.0, cond b (shut q.1) q.1)) e) (in-map (changed_one host shut) (zip plan.streams u.kept.streams) q there))

    pub serves : IsServing plan u.kept left
    serves = record {
      long = record_is.streams;
      controls = record_is.controls;
      shapes = record_is.shapes;
      brought = gone-serves.brought;
      held = λ q there some. held q there some (q.0.host == host) refl;
      rests = λ q there down. rest q there down (q.0.host == host) refl;
    }
      where
        held : (q : StreamPair) → IsIn q (zip plan.streams u.kept.streams) → is_some q.1.params ≡ true → (b : Bool) → (q.0.host == host) ≡ b → IsEnough g q.0.host (is_among left)
        held q there some true e = absurd (true≢false (sym some ∙ bare q there e))
        held q there some false e = gone-serves.held q (other-in q there e) some

        rest : (q : StreamPair) → IsIn q (zip plan.streams u.kept.streams) → is_up g left q.0.host ≡ false → (b : Bool) → (q.0.host == host) ≡ b → stream_view q ≡ idle_view q.0.host
        rest q there down true e = sym (rests q there e) ∙ gone-serves.rests (q.0, shut q.1) (shut-in q there e) down
        rest q there down false e = gone-serves.rests q (other-in q there e) down

    module _ {Q : Type 0} (next : Q → Meeting × Q) where
      -- closed, with what stays
      shut-state : (v : UpState) → v.kept ≡ u.kept → v.up ≡ u.up → IsStage plan u.kept (up_stage plan left) v.there → IsUpState plan (with_stream_shut plan host v)
      shut-state v same same_up at = subst (λ (x : UpState). IsUpState plan (with_stream_shut plan host x)) (λ i. record { kept = sym same i; up = sym same_up i; there = v.there })
          (record { record_is = gone-record; up = left-is; once = left-once; there = subst (λ (power : Power). IsThereBy power plan now) (sym on) (stage-there plan sound now (record { is = at.is ∙ (λ i. record { heap = v.there.heap; graph = (at_stage plan u.kept (up_stage plan left) v.there.heap).graph; streams = sym (streams-same (up_stage plan left)) i }); heap = at.heap })) })
        where
          now : UpState
          now = record { kept = gone; up = left; there = v.there }

      shut-cut : (v : UpState) → v.kept ≡ u.kept → v.up ≡ u.up → IsUpState plan (cut_off (with_stream_shut plan host v))
      shut-cut v same same_up = subst (λ (x : Record × List ℕ). IsUpState plan (cut_off (with_stream_shut plan host (record { kept = x.0; up = x.1; there = v.there })))) (λ i. (sym same i, sym same_up i))
          (down-state plan sound (record { kept = gone; up = left; there = v.there }) (record { record_is = gone-record; up_is = left-is; once = left-once }))

      pub parts-keep : (q : Q) → IsStage plan u.kept (up_stage plan u.up) u.there → Keeps plan next (IsUpState plan) u q (unmade plan parts (with_stream_shut plan host) u)
      parts-keep q at = unmade-keeps plan sound next left parts (with_stream_shut plan host) u.kept u.up serves parts-apart shut-state shut-cut u q (up_stage plan u.up) refl refl (shut-amid gone-serves up_brought) at
