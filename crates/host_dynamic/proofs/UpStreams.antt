-- A stream that is changed leaves what is up there; and so does one whose parameters go before what it alone needs is unmade.
use Rattle.std.proofs.Common.{◌≡◌, refl, sym, ap, subst, ◌∙◌, ℕ, List, map, Bool, true, false, cond, inr, ◌==◌, Some, is_some}
use Rattle.std.specs.Prelude.{find}
use Rattle.std.specs.List.{zip, IsDistinct}
use Rattle.std.proofs.lemmas.Bool.{true≢false, eqb-true}
use Rattle.stream_law.specs.declared.graph.Join.{Join}
use Rattle.stream_law.specs.declared.graph.Graph.{Graph}
use Rattle.stream_law.specs.Order.{is_among}
use Rattle.stream_law.proofs.Members.{IsIn, find-in, kept-in}
use Rattle.mbox_link.specs.Meetings.{Meeting}
use Rattle.tplg_plan.specs.declared.plans.Plan.{Plan}
use Rattle.tplg_plan.specs.Sound.{IsSound}
use Rattle.host_widgets.specs.declared.kept.Found.TheVariants as founds
use Rattle.host_widgets.specs.declared.kept.Power.{Power}
use Rattle.host_widgets.specs.declared.kept.Power.TheVariants as powers
use Rattle.host_widgets.specs.declared.kept.StreamRec.{StreamRec}
use Rattle.host_widgets.specs.declared.kept.Record.{Record}
use Rattle.host_widgets.specs.HostRecord.{closed}
use Rattle.host_widgets.specs.HostActs.{Free}
use Rattle.host_widgets.specs.Expected.{stream_view}
use Rattle.host_widgets.specs.Host.{IsRecordOf}
use Rattle.host_widgets.specs.Kept.{with_stream}
use Rattle.host_widgets.proofs.LookedUp.{found-map}
use Rattle.host_widgets.proofs.RecordsStay.{record-less}
use Rattle.host_pcm.specs.Asks.{is_closed}
use Rattle.host_pcm.specs.StreamCalls.{shut}
use Rattle.host_widgets.specs.There.{There, there_after}
use Rattle.host_dynamic.specs.Dynamic.{parting, with_stream_shut, unmade}
use Rattle.host_widgets.specs.UpState.{UpState, up_act_rules}
use Rattle.host_widgets.specs.Need.{HasBrought, need_in}
use Rattle.host_widgets.specs.Up.{is_join_at, buffer_joins}
use Rattle.host_dynamic.specs.UpStates.{IsThereBy, IsUpState}
use Rattle.host_widgets.proofs.Needs.{in-map, flat-in, has-at, host-on}
use Rattle.host_widgets.proofs.Between.{comp-named}
use Rattle.host_widgets.proofs.HostStreams.{stream-comp}
use Rattle.host_widgets.proofs.StageBetween.{comp-index}
use Rattle.host_widgets.proofs.StageStreams.{changed_one, zip-changed, free-is}
use Rattle.host_dynamic.proofs.UpNeeds.{IsAsked, needed-asked, asked-needed, stream-enough}
use Rattle.host_dynamic.proofs.UpOpening.{all-at}
use Rattle.host_dynamic.proofs.UpClosing.{parts-keep}
use Rattle.host_widgets.proofs.UpStages.{StreamPair, at_stage, IsStage, up_stage, index_of_id}
use Rattle.host_dynamic.proofs.UpStanding.{there-stage}
use Rattle.host_widgets.proofs.UpWalks.{Keeps}
use Rattle.host_widgets.specs.Indices.{index_at}
use Rattle.host_widgets.proofs.StageStays.{from-map}

module _ (plan : Plan) (sound : IsSound plan) (u : UpState) (is : IsUpState plan u) (host : ℕ) (f : StreamRec → StreamRec)
    (keeps : (p : StreamPair) → IsIn p (zip plan.streams u.kept.streams) → (p.0.host == host) ≡ true → is_closed (f p.1).found ≡ is_closed p.1.found) (record_is : IsRecordOf plan (with_stream plan host f u.kept)) where
  abbrev now : Record
  now = with_stream plan host f u.kept

  abbrev olds : List StreamPair
  olds = zip plan.streams u.kept.streams

  news-are : zip plan.streams now.streams ≡ map (changed_one host f) olds
  news-are = zip-changed host f plan.streams u.kept.streams

  same-closed : (p : StreamPair) → IsIn p olds → is_closed (changed_one host f p).1.found ≡ is_closed p.1.found
  same-closed p there = by (p.0.host == host) refl
    where
      by : (b : Bool) → (p.0.host == host) ≡ b → is_closed (cond b (f p.1) p.1).found ≡ is_closed p.1.found
      by true e = keeps p there e
      by false e = refl

  asked-now : (i : ℕ) → IsAsked plan sound u.kept i → IsAsked plan sound now i
  asked-now i (p, there, open_yet, need) = (changed_one host f p, subst (IsIn (changed_one host f p)) (sym news-are) (in-map (changed_one host f) olds p there), same-closed p there ∙ open_yet, need)

  asked-then : (i : ℕ) → IsAsked plan sound now i → IsAsked plan sound u.kept i
  asked-then i (q, there, open_yet, need) =
      let r = from-map (changed_one host f) olds q (subst (IsIn q) news-are there) in
      (r.0, r.1, sym (same-closed r.0 r.1) ∙ ap (λ (x : StreamPair). is_closed x.1.found) (sym r.2) ∙ open_yet, ap (λ (x : StreamPair). is_among (need_in plan.graph x.0.host) i) (sym r.2) ∙ need)

  -- with the stream changed in the record, and what is there as it should be then
  pub changed-state : (t : There) → IsThereBy u.kept.power plan (record { kept = now; up = u.up; there = t }) → IsUpState plan (record { kept = now; up = u.up; there = t })
  changed-state t is_there = record {
    record_is = record_is;
    up = λ i. (λ in_up. asked-needed plan sound now i (asked-now i (needed-asked plan sound u.kept i ((is.up i).0 in_up))), λ need. (is.up i).1 (asked-needed plan sound u.kept i (asked-then i (needed-asked plan sound now i need))));
    once = is.once;
    there = is_there;
  }

-- ---- closing

-- a stream is found where the streams are, also once it is changed
pub changed-found : (host : ℕ) (f : StreamRec → StreamRec) (ps : List StreamPair) (p : StreamPair) → find (λ (q : StreamPair). q.0.host == host) ps ≡ Some p → find (λ (q : StreamPair). q.0.host == host) (map (changed_one host f) ps) ≡ Some (changed_one host f p)
changed-found host f ps p found = found-map (λ (q : StreamPair). q.0.host) (λ (q : StreamPair). q.0.host) (changed_one host f) (λ (q : StreamPair). refl) ps host p found

module _ (plan : Plan) (sound : IsSound plan) (up : List ℕ) (host : ℕ) where
  abbrev g : Graph
  g = plan.graph

  abbrev freed : StreamRec → StreamRec
  freed r = closed

  -- the stream has no parameters any more, and what was up is there; the record is one of the plan
  pub record HasFreed (u : UpState) : Type 0 where
    pub up_is : u.up ≡ up
    pub on : u.kept.power ≡ powers.On
    pub record_is : IsRecordOf plan u.kept
    pub rests : (q : StreamPair) → IsIn q (zip plan.streams u.kept.streams) → (q.0.host == host) ≡ true → stream_view (q.0, shut q.1) ≡ stream_view q
    pub bare : (q : StreamPair) → IsIn q (zip plan.streams u.kept.streams) → (q.0.host == host) ≡ true → is_some q.1.params ≡ false
    pub asked : (i : ℕ) → IsAsked plan sound (with_stream plan host shut u.kept) i → is_among up i ≡ true
    pub stage : IsStage plan u.kept (up_stage plan up) u.there

  module _ {Q : Type 0} (next : Q → Meeting × Q) (once : IsDistinct (λ m n. m == n) up) (brought : HasBrought g (is_among up)) where
    pub freed-keeps : (u : UpState) (q : Q) → HasFreed u → Keeps plan next (IsUpState plan) u q (unmade plan (parting plan host u) (with_stream_shut plan host) u)
    freed-keeps u q h =
        parts-keep plan sound u host h.record_is (subst (IsDistinct (λ m n. m == n)) (sym h.up_is) once) (λ i a. subst (λ (l : List ℕ). is_among l i ≡ true) (sym h.up_is) (h.asked i a))
        (subst (λ (l : List ℕ). HasBrought g (is_among l)) (sym h.up_is) brought) h.rests h.bare h.on next q (subst (λ (l : List ℕ). IsStage plan u.kept (up_stage plan l) u.there) (sym h.up_is) h.stage)

  -- ---- its parameters go

  pub whole : (u : UpState) (j : Join) → IsIn j (up_stage plan u.up).joins → IsIn j g.joins
  whole u j there = let r = flat-in (buffer_joins g) u.up j there in (kept-in (is_join_at g r.0) g.joins j r.2).0

  module _ (u : UpState) (is : IsUpState plan u) (same : u.up ≡ up) (on : u.kept.power ≡ powers.On) where
    pub begun : IsStage plan u.kept (up_stage plan u.up) u.there
    begun = there-stage plan sound u (subst (λ (power : Power). IsThereBy power plan u) on is.there)

  module _ (u : UpState) (is : IsUpState plan u) (same : u.up ≡ up) (on : u.kept.power ≡ powers.On) (p : StreamPair) (found : find (λ (q : StreamPair). q.0.host == host) (zip plan.streams u.kept.streams) ≡ Some p) (open_yet : is_closed p.1.found ≡ false) where
    in-pairs : IsIn p (zip plan.streams u.kept.streams) × ((p.0.host == host) ≡ true)
    in-pairs = find-in (λ (q : StreamPair). q.0.host == host) (zip plan.streams u.kept.streams) p found

    -- its host is up
    pub has : (up_stage plan u.up).has host ≡ true
    has =
        let c = stream-comp plan sound u.kept p in-pairs.0 in
        let enough = stream-enough plan sound u.kept u.up is.record_is is.up p in-pairs.0 open_yet in
        let here = has-at (is_among u.up) (index_at g p.0.host) c.0.pipe (comp-named plan sound u.up p.0.host c.0 c.1) (enough.way p.0.host (host-on g p.0.host)) in
        ap (λ (x : ℕ). is_among u.up (index_of_id plan x)) (sym (eqb-true p.0.host host in-pairs.1)) ∙ ap (is_among u.up) (comp-index plan sound p.0.host c.0 c.1) ∙ here

    module _ (prepared : p.1.found ≡ founds.Prepared) where
      abbrev then : UpState
      then = (up_act_rules plan).after (Free host) u

      then-there : then.there ≡ at_stage plan then.kept (up_stage plan u.up) u.there.heap
      then-there = ap (there_after plan (Free host)) (begun u is same on).is ∙ free-is plan sound u.kept (up_stage plan u.up) (whole u) u.there.heap host p found has prepared

      from-old : (q : StreamPair) → IsIn q (zip plan.streams then.kept.streams) → (r : StreamPair) × IsIn r (zip plan.streams u.kept.streams) × (q ≡ changed_one host freed r)
      from-old q there = from-map (changed_one host freed) (zip plan.streams u.kept.streams) q (subst (IsIn q) (zip-changed host freed plan.streams u.kept.streams) there)

      is-closed : (q : StreamPair) → IsIn q (zip plan.streams then.kept.streams) → (q.0.host == host) ≡ true → q.1 ≡ closed
      is-closed q there e =
          let r = from-old q there in
          let here : (r.0.0.host == host) ≡ true = ap (λ (x : StreamPair). x.0.host == host) (sym r.2) ∙ e in
          ap (λ (x : StreamPair). x.1) r.2 ∙ ap (λ (b : Bool). cond b closed r.0.1) here

      -- what is asked of others was asked
      still-asked : (i : ℕ) → IsAsked plan sound (with_stream plan host shut then.kept) i → is_among up i ≡ true
      still-asked i (q, there, open_q, need) =
          let r = from-map (changed_one host shut) (zip plan.streams then.kept.streams) q (subst (IsIn q) (zip-changed host shut plan.streams then.kept.streams) there) in
          by (r.0.0.host == host) r refl
        where
          by : (b : Bool) (r : (x : StreamPair) × IsIn x (zip plan.streams then.kept.streams) × (q ≡ changed_one host shut x)) → (r.0.0.host == host) ≡ b → is_among up i ≡ true
          by b r e = at b e
            where
              old : (x : StreamPair) × IsIn x (zip plan.streams u.kept.streams) × (r.0 ≡ changed_one host freed x)
              old = from-old r.0 r.1

              at : (b : Bool) → (r.0.0.host == host) ≡ b → is_among up i ≡ true
              at true e = absurd (true≢false (sym (ap (λ (b : Bool). is_closed (cond b (shut r.0.1) r.0.1).found) e) ∙ ap (λ (x : StreamPair). is_closed x.1.found) (sym r.2) ∙ open_q))
              at false e =
                  let apart : (old.0.0.host == host) ≡ false = ap (λ (x : StreamPair). x.0.host == host) (sym old.2) ∙ e in
                  let first : r.0 ≡ q = ap (λ (b : Bool). (r.0.0, cond b (shut r.0.1) r.0.1)) (sym e) ∙ sym r.2 in
                  let second : old.0 ≡ r.0 = ap (λ (b : Bool). (old.0.0, cond b closed old.0.1)) (sym apart) ∙ sym old.2 in
                  let one : old.0 ≡ q = second ∙ first in
                  ap (λ (l : List ℕ). is_among l i) (sym same) ∙ (is.up i).1 (asked-needed plan sound u.kept i (old.0, old.1, ap (λ (x : StreamPair). is_closed x.1.found) one ∙ open_q, ap (λ (x : StreamPair). is_among (need_in g x.0.host) i) one ∙ need))

      pub freed-so : HasFreed then
      freed-so = record {
        up_is = same;
        on = on;
        record_is = record-less plan u.kept host freed is.record_is (all-at host plan.streams u.kept.streams (λ r. refl)) (all-at host plan.streams u.kept.streams (λ r. inr refl));
        rests = λ q there e. ap (λ (r : StreamRec). stream_view (q.0, r)) (sym (is-closed q there e));
        bare = λ q there e. ap (λ (r : StreamRec). is_some r.params) (is-closed q there e);
        asked = still-asked;
        stage = subst (λ (l : List ℕ). IsStage plan then.kept (up_stage plan l) then.there) same (subst (IsStage plan then.kept (up_stage plan u.up)) (sym then-there) (record { is = refl; heap = (begun u is same on).heap }));
      }
