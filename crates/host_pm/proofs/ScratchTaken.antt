-- A fresh firmware takes all acts that lead from nothing to what a record says.
use Rattle.std.proofs.Common.{◌≡◌, ⊎_elim, refl, sym, ap, subst, ◌∙◌, ℕ, suc, ◌<◌, List, [], ◌∷◌, ◌++◌, map, get_or, length, zip, Bool, true, false, ◌==◌, Option, None, Ok, arith}
use Rattle.std.specs.Prelude.{if◌then◌else◌}
use Rattle.std.specs.List.{flat_map}
use Rattle.std.proofs.lemmas.Bool.{cases_Bool, eq-eqb, eqb-true, false≢true}
use Rattle.stream_law.specs.Placed.{AreAbove, Ascends}
use Rattle.stream_law.specs.Seen.{ring_seen, seen}
use Rattle.stream_law.specs.State.{FwState, RingView, View, view_of}
use Rattle.mbox_link.specs.Step.{fresh, row}
use Rattle.tplg_plan.specs.declared.plans.Plan.{Plan}
use Rattle.tplg_plan.specs.declared.plans.StreamPlan.{StreamPlan}
use Rattle.tplg_plan.specs.Sound.{IsSound}
use Rattle.host_widgets.specs.declared.kept.Found.{Found}
use Rattle.host_widgets.specs.declared.kept.Found.TheVariants.{Closed, Open, Prepared, Running, Paused, On as Found_On}
use Rattle.host_widgets.specs.declared.kept.StreamRec.{StreamRec}
use Rattle.host_widgets.specs.declared.kept.Record.{Record}
use Rattle.host_widgets.specs.declared.trigger.Trigger.{Trigger}
use Rattle.host_widgets.specs.declared.trigger.Trigger.TheVariants.{Start, Pause}
use Rattle.host_widgets.specs.ActLists.{bring_up, bring_back, prepare_acts}
use Rattle.host_widgets.specs.ActMessages.{act_message}
use Rattle.host_widgets.specs.Host.{IsRecordOf}
use Rattle.host_widgets.specs.Bringing.{Fits}
use Rattle.host_widgets.specs.Expected.{loaded_heap}
use Rattle.host_widgets.specs.HostActs.{Act, Trig, after, triggered_stream}
use Rattle.host_widgets.specs.HostRecord.{closed, halted, halted_found, no_stream}
use Rattle.host_widgets.specs.Keeps.{KeepsRecord}
use Rattle.host_widgets.specs.Kept.{changed, went_down}
use Rattle.host_widgets.specs.OneAct.{own}
use Rattle.host_widgets.specs.StateOf.{empty_rings, state_by}
use Rattle.host_widgets.specs.ViewOf.{record_view}
use Rattle.host_widgets.proofs.ActsCome.{answer_by}
use Rattle.host_widgets.proofs.Brings.{brings}
use Rattle.host_widgets.proofs.Effects.{FollowAll, effect, effect-at, effects, own_cases, row-decoded}
use Rattle.host_widgets.proofs.ManyEffects.{AllFree}
use Rattle.host_widgets.proofs.QuietStates.{rings-empty}
use Rattle.host_widgets.proofs.ReadyWays.{has_host}
use Rattle.host_widgets.proofs.Records.{down-record, down-rests}
use Rattle.host_widgets.proofs.SilentTicks.{at}
use Rattle.host_widgets.proofs.StreamPlaces.{place-all, place-has, streams-ascend}
use Rattle.host_widgets.proofs.StreamRows.{AllAt}
use Rattle.host_widgets.specs.StreamStands.{takes_trigger}
use Rattle.host_widgets.proofs.StreamAnswers.{all-at}
use Rattle.host_widgets.proofs.StreamsTaken.{trig-is, trig-comes}
use Rattle.host_pm.specs.FromScratch.{IsFromScratch, TakesActs, start_acts, start_by}
use Rattle.host_pm.proofs.GoingDown.{elsewhere}
use Rattle.host_pm.proofs.TurnsCome.{AreMet}
use Rattle.host_pm.proofs.PreparesTaken.{empty-buffers, prepared_state, prepares-end, prepares-follow, prepares-free}

-- ---- one list after another

takes-then : (plan : Plan) (xs ys : List Act) (f g h : FwState) → TakesActs plan f xs g → TakesActs plan g ys h → TakesActs plan f (xs ++ ys) h
takes-then plan [] ys f g h first rest = subst (λ (s : FwState). TakesActs plan s ys h) first rest
takes-then plan (x ∷ xs) ys f g h (next, took, more) rest = (next, took, takes-then plan xs ys next g h more rest)

-- ---- what brings the device up

module _ (plan : Plan) (heap : ℕ) (kept : Record) (fits : Fits plan heap) where
  -- none of it is refused
  all-free : (acts : List Act) (g : FwState) → FollowAll plan heap kept g acts → AllFree plan heap kept acts
  all-free [] g follow = tt
  all-free (act ∷ acts) g follow =
      let free : own plan heap kept act ≡ None = ⊎_elim (λ none. none) (λ (e, refused). (let more = (follow.0.number e refused).1 in absurd (omega (arith, fits, more)))) (own_cases (own plan heap kept act)) in
      (free, all-free acts (effect (act_message plan act) g) (follow.1 free))

  takes-brought : (acts : List Act) (g : FwState) → FollowAll plan heap kept g acts → AllFree plan heap kept acts → TakesActs plan (at g 0) acts (at (effects plan acts g) 0)
  takes-brought [] g follow free = refl
  takes-brought (act ∷ acts) g follow free =
      let m = act_message plan act in
      (at (effect m g) 0, row-decoded (at g 0) m follow.0.message ∙ follow.0.passes free.0 0 ∙ ap (λ (s : FwState). Ok s) (effect-at m g 0), takes-brought acts (effect m g) (follow.1 free.0) free.1)

-- ---- a state in which no audio was moved

-- its heap is as the graph leaves it, and its rings are empty
record IsFine (plan : Plan) (heap : ℕ) (f : FwState) : Type 0 where
  pieces : f.heap ≡ loaded_heap plan heap
  rings : f.rings ≡ empty_rings plan.graph

-- a change of its streams leaves it so
fine-seen : (plan : Plan) (heap : ℕ) (v : View) (f : FwState) → IsFine plan heap f → IsFine plan heap (seen v None f)
fine-seen plan heap v f fine = record { pieces = fine.pieces; rings = ap (map (ring_seen v)) fine.rings ∙ rings-empty v plan.graph.edges }

-- ---- the stream of each host

module _ (plan : Plan) (kept : Record) where
  abbrev AllWere : List StreamPlan → List StreamRec → Type 0
  AllWere [] rs = Unit {0}
  AllWere (s ∷ ss) [] = ⊥
  AllWere (s ∷ ss) (r ∷ rs) = (has_host plan.streams s.host ≡ true) × AllAt (λ x. x ≡ r) s.host plan.streams kept.streams × AllWere ss rs

  were-by : (ss : List StreamPlan) (rs : List StreamRec) → length rs ≡ length ss → ((k : ℕ) → k < length ss → (has_host plan.streams (get_or ss k no_stream).host ≡ true) × AllAt (λ x. x ≡ get_or rs k closed) (get_or ss k no_stream).host plan.streams kept.streams) → AllWere ss rs
  were-by [] rs same each = tt
  were-by (s ∷ ss) [] same each = absurd (cc same)
  were-by (s ∷ ss) (r ∷ rs) same each =
      let first = each 0 (omega arith) in
      (first.0, first.1, were-by ss rs (let rest : length rs ≡ length ss = omega (arith, same) in rest) (λ k low. each (suc k) (omega (arith, low))))

  all-were : IsSound plan → IsRecordOf plan kept → AllWere plan.streams kept.streams
  all-were sound is = were-by plan.streams kept.streams is.streams (λ k low. (place-has plan sound k low, place-all plan sound k low (λ x. x ≡ get_or kept.streams k closed) kept.streams refl))

-- ---- acts that the firmware takes by the record

module _ (plan : Plan) (heap : ℕ) where
  -- none of them is refused
  abbrev NoneRefused : Record → List Act → Type 0
  NoneRefused now [] = Unit {0}
  NoneRefused now (act ∷ acts) = (own plan heap now act ≡ None) × NoneRefused (after plan act now) acts

  module _ (last : View) where
    abbrev AreTaken : Record → View → List Act → Type 0
    AreTaken now shown acts = AreMet plan heap false (λ v. v ≡ last) (IsFine plan heap) now shown acts

    met-taken : (acts : List Act) (now : Record) (shown : View) (f : FwState) → view_of f ≡ shown → AreTaken now shown acts → NoneRefused now acts → IsFine plan heap f →
        (g : FwState) × TakesActs plan f acts g × (view_of g ≡ last) × IsFine plan heap g
    met-taken [] now shown f shows met free fine = (f, refl, shows ∙ met, fine)
    met-taken (act ∷ acts) now shown f shows (later, law, behind, same) free fine =
        let a = law.answers f shows in
        let done : row f (act_message plan act) ≡ Ok a.0 = a.1 ∙ ap (λ (o : Option _). answer_by o a.0) free.0 in
        let rest = met-taken acts (after plan act now) later a.0 (law.shows f a.0 shows done) behind free.1 (law.stays f a.0 shows done fine) in
        (rest.0, (a.0, row-decoded f (act_message plan act) law.message ∙ done, rest.1), rest.2, rest.3)

-- ---- lists of streams of which one is changed

abbrev set_at : ℕ → (StreamRec → StreamRec) → List StreamPlan → List StreamRec → List StreamRec
set_at host f ss rs = changed (λ (s : StreamPlan). s.host) host f ss rs

-- what is changed twice is changed once
fused : (host : ℕ) (f g : StreamRec → StreamRec) (ss : List StreamPlan) (rs : List StreamRec) → set_at host g ss (set_at host f ss rs) ≡ set_at host (λ r. g (f r)) ss rs
fused host f g [] rs = refl
fused host f g (s ∷ ss) [] = refl
fused host f g (s ∷ ss) (r ∷ rs) = λ i. by (s.host == host) i ∷ fused host f g ss rs i
  where
    by : (b : Bool) → (if b then g (if b then f r else r) else (if b then f r else r)) ≡ (if b then g (f r) else r)
    by true = refl
    by false = refl

-- the stream of a host, once it was changed
was-changed : (host : ℕ) (f : StreamRec → StreamRec) (c : StreamRec) (ss : List StreamPlan) (rs : List StreamRec) → AllAt (λ x. x ≡ c) host ss rs → AllAt (λ x. x ≡ f c) host ss (set_at host f ss rs)
was-changed host f c [] rs so = tt
was-changed host f c (s ∷ ss) [] so = tt
was-changed host f c (s ∷ ss) (r ∷ rs) so = (λ here. ap (λ (b : Bool). if b then f r else r) here ∙ ap f (so.0 here), was-changed host f c ss rs so.1)

-- a change that leaves that stream leaves all
unchanged : (host : ℕ) (f : StreamRec → StreamRec) (c : StreamRec) → f c ≡ c → (ss : List StreamPlan) (rs : List StreamRec) → AllAt (λ x. x ≡ c) host ss rs → set_at host f ss rs ≡ rs
unchanged host f c stays [] rs so = refl
unchanged host f c stays (s ∷ ss) [] so = refl
unchanged host f c stays (s ∷ ss) (r ∷ rs) so = λ i. by (s.host == host) refl i ∷ unchanged host f c stays ss rs so.1 i
  where
    by : (b : Bool) → (s.host == host) ≡ b → (if b then f r else r) ≡ r
    by true is = ap f (so.0 is) ∙ stays ∙ sym (so.0 is)
    by false is = refl

not-same : (m n : ℕ) → (m ≡ n → ⊥) → (m == n) ≡ false
not-same m n apart = ⊎_elim (λ is. absurd (apart (eqb-true m n is))) (λ other. other) (cases_Bool (m == n))

-- streams of higher hosts stay
below-stays : (host : ℕ) (f : StreamRec → StreamRec) (ss : List StreamPlan) (rs : List StreamRec) → AreAbove (λ (s : StreamPlan). s.host) host ss → set_at host f ss rs ≡ rs
unfolding AreAbove
below-stays host f [] rs above = refl
below-stays host f (s ∷ ss) [] above = refl
below-stays host f (s ∷ ss) (r ∷ rs) above =
    λ i. (if other i then f r else r) ∷ below-stays host f ss rs above.1 i
  where
    other : (s.host == host) ≡ false
    other = not-same s.host host (λ same. omega (arith, same, above.0))

-- each of these is halted
abbrev halts : List StreamPlan → List StreamPlan → List StreamRec → List StreamRec
halts [] ps rs = rs
halts (s ∷ ss) ps rs = set_at s.host halted ps (halts ss ps rs)

halts-above : (ss : List StreamPlan) (p : StreamPlan) (ps : List StreamPlan) (r : StreamRec) (rs : List StreamRec) → AreAbove (λ (s : StreamPlan). s.host) p.host ss → halts ss (p ∷ ps) (r ∷ rs) ≡ r ∷ halts ss ps rs
unfolding AreAbove
halts-above [] p ps r rs above = refl
halts-above (s ∷ ss) p ps r rs above =
    ap (set_at s.host halted (p ∷ ps)) (halts-above ss p ps r rs above.1) ∙ (λ i. (if other i then halted r else r) ∷ set_at s.host halted ps (halts ss ps rs))
  where
    other : (p.host == s.host) ≡ false
    other = not-same p.host s.host (λ same. omega (arith, same, above.0))

-- so all are
halts-all : (ps : List StreamPlan) (rs : List StreamRec) → length rs ≡ length ps → Ascends (λ (s : StreamPlan). s.host) ps → halts ps ps rs ≡ map halted rs
unfolding Ascends
halts-all [] [] same up = refl
halts-all [] (r ∷ rs) same up = absurd (cc same)
halts-all (p ∷ ps) [] same up = absurd (cc same)
halts-all (p ∷ ps) (r ∷ rs) same up =
    ap (set_at p.host halted (p ∷ ps)) (halts-above ps p ps r rs up.0 ∙ ap (λ (xs : List StreamRec). r ∷ xs) (halts-all ps rs (let rest : length rs ≡ length ps = omega (arith, same) in rest) up.1))
    ∙ (λ i. (if eq-eqb p.host p.host refl i then halted r else r) ∷ below-stays p.host halted ps (map halted rs) up.0 i)

-- ---- triggers

module _ (plan : Plan) (heap : ℕ) (sound : IsSound plan) (kept : Record) where
  -- the record with these streams not started yet
  abbrev halted_from : List StreamPlan → Record
  halted_from ss = record { power = kept.power; streams = halts ss plan.streams kept.streams; controls = kept.controls }

  abbrev GoesOn : Record → List Act → Type 0
  GoesOn now acts = AreTaken plan heap (record_view plan kept) now (record_view plan now) acts × NoneRefused plan heap now acts

  module _ (now : Record) (is : IsRecordOf plan now) (host : ℕ) (some : has_host plan.streams host ≡ true) (what : Trigger) (takes : AllAt (λ r. takes_trigger what r.found ≡ true) host plan.streams now.streams) where
    abbrev later : Record
    later = after plan (Trig host what) now

    -- some state that shows the record
    abbrev shown_state : FwState
    shown_state = record { heap = (fresh heap).heap; clock = 0; graph = (record_view plan now).graph; streams = (record_view plan now).streams; rings = []; histories = []; staging = [] }

    triggered-is : IsRecordOf plan later
    triggered-is =
        let s = trig-is plan sound now is host some what takes in
        let done = (trig-comes plan sound now is host some heap what takes).answers shown_state refl in
        subst (IsRecordOf plan) (sym s.changes) (s.record_will shown_state done.0 refl done.1)

    trigger-goes : (acts : List Act) → GoesOn later acts → GoesOn now (Trig host what ∷ acts)
    trigger-goes acts more =
        let s = trig-is plan sound now is host some what takes in
        let a = trig-comes plan sound now is host some heap what takes in (
          (
            record_view plan later,
            record {
              message = a.message;
              passes = a.passes;
              answers = a.answers;
              shows = λ f f' shows done. ap view_of (s.sees f f' shows done);
              stays = λ f f' shows done fine. subst (IsFine plan heap) (sym (s.sees f f' shows done)) (fine-seen plan heap (record_view plan later) f fine);
            },
            more.0,
            λ on. absurd (false≢true on),
          ),
          (refl, more.1),
        )

  stands-on : (So : StreamRec → Type 0) (host : ℕ) (ss : List StreamPlan) → AreAbove (λ (s : StreamPlan). s.host) host ss → AllAt So host plan.streams kept.streams → AllAt So host plan.streams (halts ss plan.streams kept.streams)
  unfolding AreAbove
  stands-on So host [] above so = so
  stands-on So host (t ∷ ss) above so = elsewhere So halted t.host host (λ same. omega (arith, same, above.0)) plan.streams (halts ss plan.streams kept.streams) (stands-on So host ss above.1 so)

  starting : (ss : List StreamPlan) (rs : List StreamRec) → Ascends (λ (s : StreamPlan). s.host) ss → AllWere plan kept ss rs → IsRecordOf plan (halted_from ss) → GoesOn (halted_from ss) (flat_map start_acts (zip ss rs))
  unfolding Ascends
  starting [] rs up were is = (refl, tt)
  starting (s ∷ ss) [] up were is = absurd were
  starting (s ∷ ss) (r ∷ rs) up were is = by r.found refl (λ will. starting ss rs up.1 were.2 will)
    where
      rest : List Act
      rest = flat_map start_acts (zip ss rs)

      halted_now : Record
      halted_now = halted_from (s ∷ ss)

      there : AllAt (λ x. x ≡ r) s.host plan.streams (halts ss plan.streams kept.streams)
      there = stands-on (λ x. x ≡ r) s.host ss up.0 were.1

      with_them : List StreamRec → Record
      with_them streams = record { power = kept.power; streams = streams; controls = kept.controls }

      -- one that does not move
      idle : halted r ≡ r → (IsRecordOf plan (halted_from ss) → GoesOn (halted_from ss) rest) → GoesOn (halted_from (s ∷ ss)) rest
      idle same go =
          let back = ap (λ (streams : List StreamRec). with_them streams) (unchanged s.host halted r same plan.streams (halts ss plan.streams kept.streams) there) in
          subst (λ (k : Record). GoesOn k rest) (sym back) (go (subst (IsRecordOf plan) back is))

      -- one that was started
      takes-start : halted_found r.found ≡ Prepared → AllAt (λ x. takes_trigger Start x.found ≡ true) s.host plan.streams (halted_from (s ∷ ss)).streams
      takes-start halts_so = all-at (λ x. x ≡ halted r) (λ x. takes_trigger Start x.found ≡ true) (λ x same. ap (λ (y : StreamRec). takes_trigger Start y.found) same ∙ ap (takes_trigger Start) halts_so) s.host plan.streams (halted_from (s ∷ ss)).streams
          (was-changed s.host halted r plan.streams (halts ss plan.streams kept.streams) there)

      started : Record
      started = after plan (Trig s.host Start) (halted_from (s ∷ ss))

      running : r.found ≡ Running → (IsRecordOf plan (halted_from ss) → GoesOn (halted_from ss) rest) → GoesOn (halted_from (s ∷ ss)) (Trig s.host Start ∷ rest)
      running is_so go =
          let takes = takes-start (ap halted_found is_so) in
          let back : started ≡ halted_from ss = ap (λ (streams : List StreamRec). with_them streams)
          (fused s.host halted (triggered_stream Start) plan.streams (halts ss plan.streams kept.streams)
          ∙ unchanged s.host (λ x. triggered_stream Start (halted x)) r (λ i. record { found = sym is_so i; params = r.params }) plan.streams (halts ss plan.streams kept.streams) there) in
          trigger-goes (halted_from (s ∷ ss)) is s.host were.0 Start takes rest
          (subst (λ (k : Record). GoesOn k rest) (sym back) (go (subst (IsRecordOf plan) back (triggered-is (halted_from (s ∷ ss)) is s.host were.0 Start takes))))

      paused : r.found ≡ Paused → (IsRecordOf plan (halted_from ss) → GoesOn (halted_from ss) rest) → GoesOn (halted_from (s ∷ ss)) (Trig s.host Start ∷ Trig s.host Pause ∷ rest)
      paused is_so go =
          let takes = takes-start (ap halted_found is_so) in
          let started_is = triggered-is (halted_from (s ∷ ss)) is s.host were.0 Start takes in
          let runs : AllAt (λ x. takes_trigger Pause x.found ≡ true) s.host plan.streams started.streams =
          all-at (λ x. x ≡ triggered_stream Start (halted r)) (λ x. takes_trigger Pause x.found ≡ true) (λ x same. ap (λ (y : StreamRec). takes_trigger Pause y.found) same) s.host plan.streams started.streams
          (was-changed s.host (triggered_stream Start) (halted r) plan.streams (halted_from (s ∷ ss)).streams (was-changed s.host halted r plan.streams (halts ss plan.streams kept.streams) there)) in
          let back : after plan (Trig s.host Pause) started ≡ halted_from ss = ap (λ (streams : List StreamRec). with_them streams)
          (ap (set_at s.host (triggered_stream Pause) plan.streams) (fused s.host halted (triggered_stream Start) plan.streams (halts ss plan.streams kept.streams))
          ∙ fused s.host (λ x. triggered_stream Start (halted x)) (triggered_stream Pause) plan.streams (halts ss plan.streams kept.streams)
          ∙ unchanged s.host (λ x. triggered_stream Pause (triggered_stream Start (halted x))) r (λ i. record { found = sym is_so i; params = r.params }) plan.streams (halts ss plan.streams kept.streams) there) in
          trigger-goes (halted_from (s ∷ ss)) is s.host were.0 Start takes (Trig s.host Pause ∷ rest)
          (trigger-goes started started_is s.host were.0 Pause runs rest
          (subst (λ (k : Record). GoesOn k rest) (sym back) (go (subst (IsRecordOf plan) back (triggered-is started started_is s.host were.0 Pause runs)))))

      stays : (found : Found) → halted_found found ≡ found → r.found ≡ found → halted r ≡ r
      stays found same is_so = λ i. record { found = (ap halted_found is_so ∙ same ∙ sym is_so) i; params = r.params }

      by : (found : Found) → r.found ≡ found → (IsRecordOf plan (halted_from ss) → GoesOn (halted_from ss) rest) → GoesOn (halted_from (s ∷ ss)) (start_by s.host found ++ rest)
      by Running is_so go = running is_so go
      by Paused is_so go = paused is_so go
      by Closed is_so go = idle (stays Closed refl is_so) go
      by Open is_so go = idle (stays Open refl is_so) go
      by Prepared is_so go = idle (stays Prepared refl is_so) go
      by Found_On is_so go = idle (stays Found_On refl is_so) go

-- ---- all of them

module _ (plan : Plan) (heap : ℕ) (kept : Record) (sound : IsSound plan) (is : IsRecordOf plan kept) (fits : Fits plan heap) where
  -- the record with each stream prepared that runs or is paused
  abbrev down : Record
  down = went_down kept

  abbrev prepares : List Act
  prepares = flat_map prepare_acts (zip plan.streams down.streams)

  abbrev starts : List Act
  starts = flat_map start_acts (zip plan.streams kept.streams)

  down-is : IsRecordOf plan down
  down-is = down-record plan kept is

  -- the list that brings the device up
  first-taken : TakesActs plan (fresh heap) (bring_up plan down) (state_by plan down heap 0)
  first-taken =
      let b = brings plan heap down sound down-is.controls in
      let free = all-free plan heap down fits (bring_up plan down) (fresh heap) b.follow in
      subst (λ (s : FwState). TakesActs plan (fresh heap) (bring_up plan down) (at s 0)) (b.state free) (takes-brought plan heap down fits (bring_up plan down) (fresh heap) b.follow free)

  -- the streams' parameters
  abbrev Taken : FwState → List Act → View → Type 0
  Taken f acts last = (g : FwState) × TakesActs plan f acts g × (view_of g ≡ last) × IsFine plan heap g

  abbrev prepared : FwState
  prepared = prepared_state plan sound heap down down-is (down-rests kept.streams)

  then-taken : TakesActs plan (state_by plan down heap 0) prepares prepared
  then-taken = subst (λ (s : FwState). TakesActs plan (state_by plan down heap 0) prepares (at s 0)) (prepares-end plan sound heap down down-is (down-rests kept.streams))
      (takes-brought plan heap down fits prepares (state_by plan down heap 0) (prepares-follow plan sound heap down down-is (down-rests kept.streams)) (prepares-free plan sound heap down down-is (down-rests kept.streams)))

  -- the triggers
  all-halted : halted_from plan heap sound kept plan.streams ≡ record { power = kept.power; streams = down.streams; controls = kept.controls }
  all-halted = λ i. record { power = kept.power; streams = halts-all plan.streams kept.streams is.streams (streams-ascend plan sound) i; controls = kept.controls }

  goes : GoesOn plan heap sound kept (halted_from plan heap sound kept plan.streams) starts
  goes = starting plan heap sound kept plan.streams kept.streams (streams-ascend plan sound) (all-were plan kept sound is)
      (subst (IsRecordOf plan) (sym all-halted) (record { streams = down-is.streams; controls = down-is.controls; each = down-is.each; shapes = down-is.shapes }))

  last-taken : Taken prepared starts (record_view plan kept)
  last-taken = met-taken plan heap (record_view plan kept) starts (halted_from plan heap sound kept plan.streams) (record_view plan (halted_from plan heap sound kept plan.streams)) prepared
      (ap (record_view plan) (sym all-halted)) goes.0 goes.1 (record { pieces = refl; rings = refl })

  last-keeps : KeepsRecord plan heap kept last-taken.0
  last-keeps =
      let fine = last-taken.3 in
      record { view = last-taken.2; pieces = fine.pieces; rings = ap (map (λ (r : RingView). r.buffer)) fine.rings ∙ empty-buffers plan.graph.edges }

  pub from-scratch : IsFromScratch plan heap kept
  from-scratch = record {
    state = last-taken.0;
    taken = takes-then plan (bring_back plan down) starts (fresh heap) prepared last-taken.0
        (takes-then plan (bring_up plan down) prepares (fresh heap) (state_by plan down heap 0) prepared first-taken then-taken) last-taken.1;
    keeps = last-keeps;
    same = λ g keeps. (keeps.view ∙ sym last-keeps.view, keeps.pieces ∙ sym last-keeps.pieces);
  }
