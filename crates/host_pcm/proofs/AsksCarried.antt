-- What is asked of a stream, once its tests have passed: the messages that were sent answer the call, and where the two sides agreed, its
-- order was carried out, and they agree after it.
use Rattle.std.proofs.Common.{◌≡◌, ℕ, ◌<◌, false, List, [], ◌∷◌, length, Option, unwrap_or, Ok, refl, sym, ap, subst, ◌∙◌}
use Rattle.sof_base.specs.declared.format.Params.{Params}
use Rattle.mbox_link.specs.Calls.{World, Meaning}
use Rattle.tplg_plan.specs.declared.plans.Plan.{Plan}
use Rattle.tplg_plan.specs.Sound.{IsSound}
use Rattle.host_widgets.specs.declared.answers.Answer.TheVariants.{Done}
use Rattle.host_widgets.specs.declared.kept.Found.{Found}
use Rattle.host_widgets.specs.declared.kept.Found.TheVariants.{Prepared, Running, Paused}
use Rattle.host_widgets.specs.declared.kept.Power.{Power}
use Rattle.host_widgets.specs.declared.kept.Power.TheVariants.{On, Unloaded}
use Rattle.host_widgets.specs.declared.kept.Record.{Record}
use Rattle.host_widgets.specs.declared.trigger.Trigger.{Trigger}
use Rattle.host_widgets.specs.declared.trigger.Trigger.TheVariants.{Stop}
use Rattle.host_widgets.specs.HostRecord.{closed}
use Rattle.host_widgets.specs.HostActs.{Free, Prepare, Trig, after}
use Rattle.host_widgets.specs.ActLists.{close_by}
use Rattle.host_widgets.specs.Host.{Outcome, Agrees}
use Rattle.host_widgets.specs.AnsweredOrders.{ActsAnswered, OrderAnswered, TestedAnswered}
use Rattle.host_widgets.specs.Kept.{with_stream}
use Rattle.host_widgets.specs.Orders.{Carried, Procedure, sends}
use Rattle.host_widgets.proofs.AnsweredActs.{late-answered, sends-on, sends-rest}
use Rattle.host_widgets.proofs.OneActLaws.{plain-ready}
use Rattle.host_widgets.proofs.PlainOrders.{no-acts, plain}
use Rattle.host_pcm.specs.declared.asking.Ask.{Ask}
use Rattle.host_pcm.specs.declared.asking.Ask.TheVariants.{Opening, Preparing, Triggering, Closing}
use Rattle.host_pcm.specs.Asks.{early_fault, stream_at}
use Rattle.host_pcm.specs.StreamOrders.{stream_order}
use Rattle.host_pcm.specs.StreamCalls.{Asked, host_at, opened_stream, place_order, shut, stream_caps, with_stream_at}
use Rattle.host_widgets.proofs.ActSteps.{Both, all_after, sends-carried}
use Rattle.host_pcm.proofs.AtRest.{closed-idle, is_idle, later-agrees}
use Rattle.host_pcm.proofs.HostTests.{Found_place, Stood, asked-late}
use Rattle.host_pcm.proofs.OrdersTaken.{AreStreamActs, acts-plain, acts_at, ask-acts, close-acts, done_at, order-is, streams-met}
use Rattle.host_pcm.proofs.Places.{place-changed, shut-over}

-- orders of no acts
sends-none : (power : Power) (done : Record → Record) → sends power [] done Done ≡ plain [] done
sends-none On done = refl
sends-none power done = refl

-- ---- where the two sides agree

module _ {D : Type 0} (means : Meaning D) (plan : Plan) (sound : IsSound plan) (k : ℕ) (within : k < length plan.streams) (kept : Record) where
  abbrev host : ℕ
  host = host_at plan k

  abbrev Goes : Record → (Record → Record) → Type 0
  Goes now done = (d : D) → Agrees means plan now d → Agrees means plan (done now) d

  -- once a stream was freed, it is closed
  freed-goes : (now : Record) → Goes (after plan (Free host) now) (with_stream plan host shut)
  freed-goes now d agrees = subst (λ (r : Record). Agrees means plan r d) (sym (shut-over plan host (λ r. closed) now)) agrees

  close-goes : (found : Found) → (stream_at kept k).found ≡ found → (kept.power ≡ Unloaded → ⊥) → Goes (all_after plan (close_by host found) kept) (with_stream plan host shut)
  close-goes Prepared found up = freed-goes kept
  close-goes Running found up = freed-goes (after plan (Trig host Stop) kept)
  close-goes Paused found up = freed-goes (after plan (Trig host Stop) kept)
  close-goes idle found up = later-agrees means plan sound k within kept up closed (refl, refl) refl (λ on. ap is_idle found)

  -- with another record where nothing is sent
  close-rests : (kept.power ≡ Unloaded → ⊥) → (kept.power ≡ On → ⊥) → Goes kept (with_stream plan host shut)
  close-rests up off = later-agrees means plan sound k within kept up closed (refl, refl) refl (λ on. absurd (off on))

  -- by acts that are the stream's, after which they agree
  acts-carried : (ask : Ask) (heap : ℕ) → AreStreamActs plan heap kept (acts_at plan kept k ask) → Goes (all_after plan (acts_at plan kept k ask) kept) (done_at plan kept k ask) → ((kept.power ≡ On → ⊥) → Goes kept (done_at plan kept k ask)) →
      (w : World D) → Agrees means plan kept w.device → (kept' : Record) (v : World D) (result : Outcome) → OrderAnswered means plan heap (place_order plan kept k ask) kept kept' w v result → Both means plan heap (place_order plan kept k ask) kept kept' w v result
  acts-carried ask heap acts goes rests w agrees kept' v result x =
      subst (λ (o : Procedure). Both means plan heap o kept kept' w v result) (sym (order-is plan kept k ask))
      (sends-carried means plan heap kept.power (acts_at plan kept k ask) (done_at plan kept k ask) Done kept kept' w v result (λ on. streams-met plan heap (acts_at plan kept k ask) kept on acts)
      (plain-ready plan false (acts_at plan kept k ask) (acts-plain plan kept k ask)) (λ on. goes) rests agrees
      (subst (λ (o : Procedure). OrderAnswered means plan heap o kept kept' w v result) (order-is plan kept k ask) x))

  -- of a stream that is closed, whatever it is
  pub close-carried : (kept.power ≡ Unloaded → ⊥) → (heap : ℕ) (w : World D) → Agrees means plan kept w.device → (kept' : Record) (v : World D) (result : Outcome) → OrderAnswered means plan heap (place_order plan kept k Closing) kept kept' w v result → Both means plan heap (place_order plan kept k Closing) kept kept' w v result
  close-carried up heap w agrees = acts-carried Closing heap (close-acts plan sound kept agrees.record_is k within heap (stream_at kept k).found refl) (close-goes (stream_at kept k).found refl up) (close-rests up) w agrees

  module _ (ask : Ask) (stood : Stood (stream_caps plan k) ask (stream_at kept k).found kept.power) where
    rest-goes : (ask : Ask) → Stood (stream_caps plan k) ask (stream_at kept k).found kept.power → (kept.power ≡ On → ⊥) → Goes kept (done_at plan kept k ask)
    rest-goes Opening stood off = later-agrees means plan sound k within kept stood.up (opened_stream closed) (refl, refl) refl (λ on. absurd (off on))
    rest-goes Closing stood off = close-rests stood.up off
    rest-goes ask stood off = λ d agrees. agrees

    all-goes : (ask : Ask) → Stood (stream_caps plan k) ask (stream_at kept k).found kept.power → Goes (all_after plan (acts_at plan kept k ask) kept) (done_at plan kept k ask)
    all-goes Opening stood = later-agrees means plan sound k within kept stood.up (opened_stream closed) (refl, refl) refl (λ on. closed-idle (stream_at kept k).found stood.takes_it)
    all-goes Closing stood = close-goes (stream_at kept k).found refl stood.up
    all-goes (Preparing p) stood = λ d agrees. agrees
    all-goes (Triggering what) stood = λ d agrees. agrees

    pub place-carried : (heap : ℕ) (w : World D) → Agrees means plan kept w.device → (kept' : Record) (v : World D) (result : Outcome) → OrderAnswered means plan heap (place_order plan kept k ask) kept kept' w v result → Both means plan heap (place_order plan kept k ask) kept kept' w v result
    place-carried heap w agrees = acts-carried ask heap (ask-acts plan sound kept agrees.record_is k within heap ask stood) (all-goes ask stood) (rest-goes ask stood) w agrees

-- ---- by the tests

module _ (plan : Plan) (kept : Record) (name : List ℕ) (ask : Ask) (k : ℕ) (found : Found_place plan kept name ask k) where
  -- the place that the tests of this ask found
  found-of : (a : Ask) → ask ≡ a → Found_place plan kept name a k
  found-of a is = subst (λ (x : Ask). Found_place plan kept name x k) is found

  module _ {D : Type 0} (means : Meaning D) (heap : ℕ) (w : World D) where
    abbrev AskedTo : Record → World D → Outcome → Type 0
    AskedTo kept' v result = Asked means plan heap name ask kept kept' w v result

    abbrev AnsweredTo : Record → World D → Outcome → Type 0
    AnsweredTo kept' v result = TestedAnswered means plan heap (early_fault plan kept name ask) (stream_order plan kept name ask) kept kept' w v result

    pub answered-asked : (a : Ask) → ask ≡ a → (kept' : Record) (v : World D) (result : Outcome) → OrderAnswered means plan heap (place_order plan kept k a) kept kept' w v result → AnsweredTo kept' v result
    answered-asked a is kept' v result x =
        late-answered means plan heap (early_fault plan kept name ask) (stream_order plan kept name ask) kept kept' w v result found.none
        (subst (λ (o : Option ℕ). OrderAnswered means plan heap (place_order plan kept (unwrap_or o 0) ask) kept kept' w v result) (sym found.place)
        (subst (λ (y : Ask). OrderAnswered means plan heap (place_order plan kept k y) kept kept' w v result) (sym is) x))

    pub prepared-answered : (p : Params) → ask ≡ Preparing p → (kept' : Record) (v : World D) (result : Outcome) → ActsAnswered means plan heap (λ now. now) (Prepare (host_at plan k) p ∷ []) kept kept' w v result → AnsweredTo kept' v result
    prepared-answered p is kept' v result x =
        answered-asked (Preparing p) is kept' v result
        (sends-on means plan heap kept.power (Prepare (host_at plan k) p ∷ []) (λ now. now) Done kept kept' w v result ((found-of (Preparing p) is).stood.powered refl) x)

    pub triggered-answered : (what : Trigger) → ask ≡ Triggering what → (kept' : Record) (v : World D) (result : Outcome) → ActsAnswered means plan heap (λ now. now) (Trig (host_at plan k) what ∷ []) kept kept' w v result → AnsweredTo kept' v result
    triggered-answered what is kept' v result x =
        answered-asked (Triggering what) is kept' v result
        (sends-on means plan heap kept.power (Trig (host_at plan k) what ∷ []) (λ now. now) Done kept kept' w v result ((found-of (Triggering what) is).stood.powered refl) x)

    -- where the two sides agree, what was answered was carried out
    pub asked-carried : IsSound plan → Agrees means plan kept w.device → (kept' : Record) (v : World D) (result : Outcome) → AnsweredTo kept' v result → AskedTo kept' v result × Agrees means plan kept' v.device
    asked-carried sound agrees kept' v result x =
        let b = place-carried means plan sound k found.within kept ask found.stood heap w agrees kept' v result
        (subst (λ (o : Option ℕ). OrderAnswered means plan heap (place_order plan kept (unwrap_or o 0) ask) kept kept' w v result) found.place (x.late found.none)) in
        (asked-late plan kept name ask means heap w k kept' v result found b.0, b.1)

    -- a stream that was closed is open in the record
    module _ (sound : IsSound plan) (long : length kept.streams ≡ length plan.streams) (kept' : Record) (opened : kept' ≡ with_stream_at k (opened_stream closed) kept) (is : ask ≡ Opening) where
      now-open : kept' ≡ with_stream plan (host_at plan k) opened_stream kept
      now-open = opened ∙ place-changed plan sound k found.within opened_stream kept long

      pub opened-answered : AnsweredTo kept' w (Ok tt)
      opened-answered = answered-asked Opening is kept' w (Ok tt) (sends-rest means plan heap kept.power [] (with_stream plan (host_at plan k) opened_stream) Done kept kept' w (λ on. refl) now-open)

      -- and that is all, whether or not the two sides agree
      pub opened-asked : AskedTo kept' w (Ok tt)
      opened-asked = asked-late plan kept name ask means heap w k kept' w (Ok tt) found
          (subst (λ (a : Ask). Carried means plan heap (place_order plan kept k a) kept kept' w w (Ok tt)) (sym is)
          (subst (λ (o : Procedure). Carried means plan heap o kept kept' w w (Ok tt)) (sym (sends-none kept.power (with_stream plan (host_at plan k) opened_stream)))
          (no-acts means plan heap (with_stream plan (host_at plan k) opened_stream) kept kept' w now-open)))
