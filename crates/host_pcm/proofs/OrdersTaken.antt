-- The acts of a call on a stream, where no test fails: in every sound plan the law of one act holds of each, and the firmware answers each
-- as the record says.
use Rattle.std.proofs.Common.{◌≡◌, refl, sym, ap, subst, ◌∙◌, ℕ, ◌<◌, Bool, true, false, List, [], ◌∷◌, length, Option, Some, None, Ok, unwrap_or}
use Rattle.std.specs.Prelude.{if◌then◌else◌}
use Rattle.std.specs.List.{AllByRecursion}
use Rattle.tplg_plan.specs.declared.plans.Plan.{Plan}
use Rattle.tplg_plan.specs.declared.plans.StreamPlan.{StreamPlan}
use Rattle.tplg_plan.specs.Sound.{IsSound}
use Rattle.host_widgets.specs.Named.{loaded_fault}
use Rattle.host_widgets.specs.declared.answers.Answer.TheVariants.{Done}
use Rattle.host_widgets.specs.declared.answers.HostFault.TheVariants.{NoSuch}
use Rattle.host_widgets.specs.declared.kept.Found.{Found}
use Rattle.host_widgets.specs.declared.kept.Found.TheVariants.{Prepared, Running, Paused}
use Rattle.host_widgets.specs.declared.kept.Power.{Power}
use Rattle.host_widgets.specs.declared.kept.Power.TheVariants as powers
use Rattle.host_widgets.specs.declared.kept.StreamRec.{StreamRec}
use Rattle.host_widgets.specs.declared.kept.Record.{Record}
use Rattle.host_widgets.specs.declared.trigger.Trigger.TheVariants.{Stop}
use Rattle.host_widgets.specs.Kept.{changed, with_stream}
use Rattle.host_widgets.specs.HostActs.{Act, Prepare, Trig, Free, after, triggered_stream}
use Rattle.host_widgets.specs.ActLists.{close_by}
use Rattle.host_widgets.specs.Host.{IsRecordOf}
use Rattle.host_widgets.specs.Orders.{Procedure, sends}
use Rattle.host_widgets.proofs.ActsCome.{IsAnswered}
use Rattle.host_widgets.proofs.ReadyWays.{has_host}
use Rattle.host_widgets.proofs.StreamRows.{AllAt}
use Rattle.host_widgets.proofs.StreamPlaces.{place-has, place-all}
use Rattle.host_widgets.proofs.OneActLaws.{IsPlain, IsStreamAct, stream-shown, stream-taken}
use Rattle.host_widgets.proofs.WalksHold.{AreTaken, HaveLaw, plainly-taken}
use Rattle.host_pcm.specs.declared.asking.Ask.{Ask}
use Rattle.host_pcm.specs.declared.asking.Ask.TheVariants.{Opening, Preparing, Triggering, Closing}
use Rattle.host_widgets.specs.StreamStands.{takes_trigger, takes_params}
use Rattle.host_pcm.specs.Asks.{stream_at, stream_place, early_fault, named_fault}
use Rattle.host_pcm.specs.StreamOrders.{stream_order}
use Rattle.host_pcm.specs.StreamCalls.{host_at, opened_stream, place_order, shut, stream_caps}
use Rattle.host_widgets.proofs.ActSteps.{AreMet, EachBy, met-by, sends-taken}
use Rattle.host_pcm.proofs.HostTests.{Stood, found_place}
use Rattle.host_pcm.proofs.StreamCalls.{ranges}
use Rattle.host_widgets.proofs.StreamsTaken.{trig-is, free-is, prepare-is, trig-comes, free-comes, prepare-comes}

-- a stream that was stopped is prepared
all-stopped : (host : ℕ) (ss : List StreamPlan) (rs : List StreamRec) → AllAt (λ r. r.found ≡ Prepared) host ss (changed (λ (s : StreamPlan). s.host) host (triggered_stream Stop) ss rs)
all-stopped host [] rs = tt
all-stopped host (s ∷ ss) [] = tt
all-stopped host (s ∷ ss) (r ∷ rs) = (λ here. ap (λ (b : Bool). (if b then triggered_stream Stop r else r).found) here, all-stopped host ss rs)

-- ---- acts on streams, one after another

module _ (plan : Plan) (heap : ℕ) where
  -- each is one by the record so far, and is answered by it
  abbrev pub AreStreamActs : Record → List Act → Type 0
  AreStreamActs kept acts = EachBy plan (λ now act. IsStreamAct plan now act × IsAnswered plan heap now act) kept acts

  stream-laws : (acts : List Act) (kept : Record) → AreStreamActs kept acts → HaveLaw plan false kept acts
  stream-laws [] kept each = tt
  stream-laws (act ∷ acts) kept each = (stream-taken plan kept act each.0.0, (λ now. stream-laws acts (after plan act kept) (each.1 now)), λ on. absurd (cc on))

  pub streams-met : (acts : List Act) (kept : Record) → kept.power ≡ powers.On → AreStreamActs kept acts → AreMet plan heap kept acts
  streams-met [] kept on each = tt
  streams-met (act ∷ acts) kept on each = (met-by plan heap kept act on (stream-shown plan kept act each.0.0) each.0.1, λ now. streams-met acts (after plan act kept) ((stream-shown plan kept act each.0.0).power ∙ on) (each.1 now))

-- ---- what is asked of the stream at a place

module _ (plan : Plan) (kept : Record) (k : ℕ) where
  -- the acts where the power is on, and the record once all passed
  abbrev pub acts_at : Ask → List Act
  acts_at Opening = []
  acts_at (Preparing p) = Prepare (host_at plan k) p ∷ []
  acts_at (Triggering what) = Trig (host_at plan k) what ∷ []
  acts_at Closing = close_by (host_at plan k) (stream_at kept k).found

  abbrev pub done_at : Ask → Record → Record
  done_at Opening = with_stream plan (host_at plan k) opened_stream
  done_at (Preparing p) = λ now. now
  done_at (Triggering what) = λ now. now
  done_at Closing = with_stream plan (host_at plan k) shut

  pub order-is : (ask : Ask) → place_order plan kept k ask ≡ sends kept.power (acts_at ask) (done_at ask) Done
  order-is Opening = refl
  order-is (Preparing p) = refl
  order-is (Triggering what) = refl
  order-is Closing = refl

  -- they ask nothing of what is staged
  close-plain : (found : Found) → AllByRecursion IsPlain (close_by (host_at plan k) found)
  close-plain Prepared = (tt, tt)
  close-plain Running = (tt, (tt, tt))
  close-plain Paused = (tt, (tt, tt))
  close-plain found = tt

  pub acts-plain : (ask : Ask) → AllByRecursion IsPlain (acts_at ask)
  acts-plain Opening = tt
  acts-plain (Preparing p) = (tt, tt)
  acts-plain (Triggering what) = (tt, tt)
  acts-plain Closing = close-plain (stream_at kept k).found

module _ (plan : Plan) (sound : IsSound plan) (kept : Record) (is : IsRecordOf plan kept) where
  module _ (k : ℕ) (within : k < length plan.streams) where
    abbrev host : ℕ
    host = host_at plan k

    some : has_host plan.streams host ≡ true
    some = place-has plan sound k within

    at-host : (So : StreamRec → Type 0) → So (stream_at kept k) → AllAt So host plan.streams kept.streams
    at-host So so = place-all plan sound k within So kept.streams so

    module _ (heap : ℕ) where
      -- a stream that moves is stopped and freed
      both-acts : takes_trigger Stop (stream_at kept k).found ≡ true → AreStreamActs plan heap kept (Trig host Stop ∷ Free host ∷ [])
      both-acts takes =
          let moves = at-host (λ r. takes_trigger Stop r.found ≡ true) takes in
          let stopped = after plan (Trig host Stop) kept in
          let rests = all-stopped host plan.streams kept.streams in
          ((trig-is plan sound kept is host some Stop moves, trig-comes plan sound kept is host some heap Stop moves), λ now. ((free-is plan sound stopped now host some rests, free-comes plan sound stopped now host some heap rests), λ later. tt))

      pub close-acts : (found : Found) → (stream_at kept k).found ≡ found → AreStreamActs plan heap kept (close_by host found)
      close-acts Prepared found =
          let rests = at-host (λ r. r.found ≡ Prepared) found in
          ((free-is plan sound kept is host some rests, free-comes plan sound kept is host some heap rests), λ now. tt)
      close-acts Running found = both-acts (ap (takes_trigger Stop) found)
      close-acts Paused found = both-acts (ap (takes_trigger Stop) found)
      close-acts other found = tt

      pub ask-acts : (ask : Ask) → Stood (stream_caps plan k) ask (stream_at kept k).found kept.power → AreStreamActs plan heap kept (acts_at plan kept k ask)
      ask-acts Opening stood = tt
      ask-acts (Preparing p) stood =
          let range = ranges (stream_caps plan k) p stood.range in
          let takes = at-host (λ r. takes_params r.found ≡ true) stood.takes_it in
          ((prepare-is plan sound kept is host some p range takes, prepare-comes plan sound kept is host some heap p range takes), λ now. tt)
      ask-acts (Triggering what) stood =
          let takes = at-host (λ r. takes_trigger what r.found ≡ true) stood.takes_it in
          ((trig-is plan sound kept is host some what takes, trig-comes plan sound kept is host some heap what takes), λ now. tt)
      ask-acts Closing stood = close-acts (stream_at kept k).found refl

    ask-taken : (ask : Ask) → Stood (stream_caps plan k) ask (stream_at kept k).found kept.power → AreTaken plan false kept (place_order plan kept k ask).acts
    ask-taken ask stood = subst (λ (o : Procedure). AreTaken plan false kept o.acts) (sym (order-is plan kept k ask)) (sends-taken plan kept kept.power (acts_at plan kept k ask) (done_at plan kept k ask) Done
        (plainly-taken plan false kept (acts_at plan kept k ask) (acts-plain plan kept k ask) (stream-laws plan 0 (acts_at plan kept k ask) kept (ask-acts 0 ask stood))))

  module _ (name : List ℕ) (ask : Ask) (none : early_fault plan kept name ask ≡ None) where
    no-place : (power : Power) → loaded_fault power (Some (NoSuch name)) ≡ None → ⊥
    no-place powers.Unloaded is_none = cc is_none
    no-place power is_none = cc is_none

    -- the acts of the stream's order
    pub asked-taken : AreTaken plan false kept (stream_order plan kept name ask).acts
    asked-taken = by (stream_place plan name) refl
      where
        by : (place : Option ℕ) → stream_place plan name ≡ place → AreTaken plan false kept (place_order plan kept (unwrap_or place 0) ask).acts
        by None at = absurd (no-place kept.power (ap (λ (o : Option ℕ). loaded_fault kept.power (named_fault plan kept name ask o)) (sym at) ∙ none))
        by (Some k) at = let found = found_place plan kept name ask (Ok k) k at none refl in ask-taken k found.within ask found.stood
