-- A command's moments have at most 16 ticks, and each view that comes has periods, frames a second and samples a frame in range, where
-- pipelines are made on use.
use Rattle.std.proofs.Common.{◌≡◌, refl, sym, subst, ℕ, ◌+◌, ◌≤◌, ◌<◌, Bool, true, false, cond, ◌==◌, List, [], ◌∷◌, ◌++◌, map, filter, length, Option, Some, None, arith}
use Rattle.std.specs.List.{AllByRecursion, flat_map, zip}
use Rattle.sof_base.specs.declared.format.Params.{Params}
use Rattle.stream_law.specs.declared.graph.Join.{Join}
use Rattle.stream_law.specs.declared.graph.Pipe.{Pipe}
use Rattle.stream_law.specs.Order.{is_among}
use Rattle.stream_law.specs.Past.{Moment}
use Rattle.stream_law.specs.State.{View}
use Rattle.stream_law.proofs.Members.{IsIn, in-each, kept-in}
use Rattle.mbox_link.specs.BlobParts.{is_last}
use Rattle.mbox_link.specs.Meetings.{Doing, lags}
use Rattle.tplg_plan.specs.declared.plans.Plan.{Plan}
use Rattle.tplg_plan.specs.declared.plans.StreamPlan.{StreamPlan}
use Rattle.tplg_plan.specs.declared.plans.ControlKind.TheVariants as controls
use Rattle.tplg_plan.specs.Sound.{IsSound}
use Rattle.host_widgets.specs.declared.kept.Power.{Power}
use Rattle.host_widgets.specs.declared.kept.Power.TheVariants as powers
use Rattle.host_widgets.specs.declared.kept.StreamRec.{StreamRec}
use Rattle.host_widgets.specs.declared.kept.Record.{Record}
use Rattle.host_widgets.specs.declared.trigger.Trigger.TheVariants as triggers
use Rattle.host_widgets.specs.Acts.{widget_ids, widget_words}
use Rattle.host_widgets.specs.ActLists.{control_acts, prepare_acts}
use Rattle.host_widgets.specs.ActMessages.{act_message}
use Rattle.host_widgets.specs.Expected.{stream_view}
use Rattle.host_widgets.specs.Kept.{controls_of}
use Rattle.host_widgets.specs.HostActs as acts
use Rattle.host_widgets.specs.HostActs.{Act, Unmake}
use Rattle.host_widgets.specs.UpActs.{widgets_at, widgets_of, making_acts, unmade_order}
use Rattle.host_widgets.specs.UpState.{UpState}
use Rattle.host_widgets.specs.There.{There, there_view, there_after, by_part, nowhere}
use Rattle.host_widgets.specs.Up.{buffer_joins, is_host_up}
use Rattle.host_dynamic.specs.UpStates.{IsUpState, IsThereBy}
use Rattle.host_widgets.proofs.Needs.{flat-in}
use Rattle.host_widgets.proofs.StageMessages.{make-fits}
use Rattle.host_widgets.proofs.Sublists.{range-low, all-filter}
use Rattle.sof_script.specs.declared.script.Command.{Command}
use Rattle.sof_script.specs.declared.script.Command.TheVariants as commands
use Rattle.sof_session.specs.CommandRules.{CommandRules}
use Rattle.sof_session.specs.Commands.{Known, next}
use Rattle.sof_session.specs.UpCommands.{up_fault, up_job, up_rules}
use Rattle.sof_session.proofs.CommandMoves.{AllFew, AreFew, few-record, params-few, plan-periods, view-in-range}
use Rattle.sof_session.proofs.EachMessage.{unmake-so, put-so, ask-so, trigger-so}
use Rattle.sof_session.proofs.FewRows.{HasFewPeriod, HasFewParams, AreFewThere, IsFewMessage, row-few, allowed-few}
use Rattle.sof_session.proofs.InputMoves.{IsInRange, AllInRange}
use Rattle.sof_session.proofs.OrderActs.{AreRight, IsTaken, all-along, all-each, close-sent, controls-sent, order-sent, params_of, prepares-sent}
use Rattle.sof_session.proofs.OrderFirsts.{few-ticks, job-first, seen-first, tick-few}
use Rattle.sof_session.proofs.RoutinePasses.{IsCame, IsPassedJob, Keeping, next-passed}
use Rattle.sof_session.proofs.SeenMoments.{AllSeen, ticks_in}
use Rattle.sof_session.proofs.UpFew.{record-none}
use Rattle.sof_session.proofs.UpPasses.{IsAsked, job-passed}
use Rattle.host_widgets.specs.Groups.{is_control_of, finish_ids}
use Rattle.host_widgets.proofs.BuildingActs.{all-both}

-- ---- acts

module _ (plan : Plan) where
  abbrev pub IsFewDynamic : Act → Type 0
  IsFewDynamic act = IsFewMessage (act_message plan act)

  part-few : (comp : ℕ) (blob : List ℕ) (t : There) → AreFewThere t → (b : Bool) → AreFewThere (by_part comp blob b t)
  part-few comp blob t few true = record { pipes = few.pipes; streams = few.streams }
  part-few comp blob t few false = few

  there-few : (act : Act) (t : There) → IsFewDynamic act → AreFewThere t → AreFewThere (there_after plan act t)
  there-few (acts.Part comp blob k) t is few = part-few comp blob t few (is_last blob k)
  there-few act t is few = row-few t (act_message plan act) few is

  there-range : (t : There) → AreFewThere t → IsInRange (there_view t)
  there-range t few = view-in-range (there_view t) few.pipes few.streams

-- ---- which acts commands have

-- no more than eight samples a frame
abbrev IsFewChannels : Params → Type 0
IsFewChannels p = p.channels ≤ 8

module _ (plan : Plan) where
  unmake-few : (id : ℕ) → IsFewDynamic plan (Unmake id)
  unmake-few id = unmake-so IsFewMessage plan id tt tt tt

  few-taken : IsTaken (IsFewDynamic plan) IsFewChannels
  few-taken = record {
    put = λ comp values. put-so IsFewMessage plan comp values (λ command sent. tt);
    part = λ comp blob k. tt;
    prepare = λ host params few. few;
    trig = λ host what. trigger-so IsFewMessage plan host what tt tt tt tt;
    free = λ host. tt;
    save = tt;
    ask = λ comp k. ask-so IsFewMessage plan comp k (λ command. tt) tt;
  }

-- ---- making and unmaking

module _ (plan : Plan) (sound : IsSound plan) where
  widget-low : (n : List ℕ) (id : ℕ) → IsIn id (widgets_of plan n) → id < length plan.widgets
  widget-low n id there =
      let r = flat-in (widgets_at plan) n id there in
      let k = kept-in (λ (x : ℕ). (widget_words plan x).pipe == r.0) (widget_ids plan) id r.2 in
      let low = range-low 0 (length plan.widgets) id k.0 in
      omega (arith, low)

  abbrev IsFewAct : Act → Type 0
  IsFewAct act = IsFewDynamic plan act

  making-few : (kept : Record) (n : List ℕ) → AllByRecursion (IsFewDynamic plan) (making_acts plan kept n)
  making-few kept n =
      let joins = flat_map (buffer_joins plan.graph) n in
      let set = filter (is_control_of plan n) (controls_of plan kept) in
      let join_acts = map (λ (j : Join). acts.Join j.source j.sink) joins in
      let finishes = map acts.Finish (finish_ids plan.graph n) in
      all-both IsFewAct (map acts.Make (widgets_of plan n)) (join_acts ++ (flat_map control_acts set ++ finishes))
      (all-along (λ (id : ℕ). id < length plan.widgets) IsFewAct acts.Make (λ id low. allowed-few (act_message plan (acts.Make id)) (make-fits plan sound id low).1) (widgets_of plan n) (in-each (λ (id : ℕ). id < length plan.widgets) (widgets_of plan n) (widget-low n)))
      (all-both IsFewAct join_acts (flat_map control_acts set ++ finishes) (all-each IsFewAct (λ (j : Join). acts.Join j.source j.sink) (λ j. tt) joins)
      (all-both IsFewAct (flat_map control_acts set) finishes (controls-sent IsFewAct IsFewChannels (few-taken plan) set) (all-each IsFewAct acts.Finish (λ id. tt) (finish_ids plan.graph n))))

-- ---- what is kept

all-pipes : (plan : Plan) → IsSound plan → (p : Pipe → Bool) → AllByRecursion HasFewPeriod (filter p plan.graph.pipes)
all-pipes plan sound p = all-filter HasFewPeriod p plan.graph.pipes (plan-periods plan sound)

all-streams : (p : StreamPlan × StreamRec → Bool) (ss : List StreamPlan) (rs : List StreamRec) → AllFew rs → AllByRecursion HasFewParams (map stream_view (filter p (zip ss rs)))
all-streams p [] rs few = tt
all-streams p (s ∷ ss) [] few = tt
all-streams p (s ∷ ss) (r ∷ rs) few = by (p (s, r)) (all-streams p ss rs few.1)
  where
    by : (b : Bool) → AllByRecursion HasFewParams (map stream_view (filter p (zip ss rs))) → AllByRecursion HasFewParams (map stream_view (cond b ((s, r) ∷ filter p (zip ss rs)) (filter p (zip ss rs))))
    by true rest = (few.0, rest)
    by false rest = rest

-- nothing is out of range where nothing is there
few-nowhere : AreFewThere nowhere
few-nowhere = record { pipes = tt; streams = tt }

few-there : (plan : Plan) → IsSound plan → (s : UpState) → IsUpState plan s → AreFewThere s.there
few-there plan sound s is = by s.kept.power is.there
  where
    by : (power : Power) → IsThereBy power plan s → AreFewThere s.there
    by powers.On there = record {
      pipes = subst (λ (v : View). AllByRecursion HasFewPeriod v.graph.pipes) (sym there.view) (all-pipes plan sound (λ (p : Pipe). is_among s.up p.index));
      streams = subst (λ (v : View). AllByRecursion HasFewParams v.streams) (sym there.view) (all-streams (is_host_up plan s.up) plan.streams s.kept.streams (few-record plan s.kept is.record_is));
    }
    by power there = subst AreFewThere (sym there.0) few-nowhere

-- ---- commands

module _ (plan : Plan) (sound : IsSound plan) (heap : ℕ) (doing : Doing) (known : Known UpState) (is : IsUpState plan known.kept) (held : lags known.queue.entries ≤ 16) where
  abbrev s : UpState
  s = known.kept

  abbrev rules : CommandRules UpState Act
  rules = up_rules plan heap

  abbrev IsFew : UpState → Type 0
  IsFew now = AreFewThere now.there

  few : AllFew s.kept.streams
  few = few-record plan s.kept is.record_is

  keeping : Keeping rules.acts (IsFewDynamic plan) IsFew IsInRange
  keeping = record { after = λ act now sent all. there-few plan act now.there sent all; seen = λ now all. there-range plan now.there all }

  -- the channels of parameters that are in range
  narrow : (o : Option Params) → AreFew o → AreRight IsFewChannels o
  narrow None are = tt
  narrow (Some p) are = are.1

  asked : IsAsked plan (λ (xs : List Act). AllByRecursion (IsFewDynamic plan) xs) AreFewThere heap s
  asked = record {
    nothing = few-nowhere;
    fresh = record { pipes = tt; streams = tt };
    none = tt;
    making = making-few plan sound s.kept;
    unmaking = λ ids. all-each (IsFewDynamic plan) Unmake (unmake-few plan) (unmade_order plan.graph ids);
    closing = close-sent (IsFewDynamic plan) IsFewChannels (few-taken plan);
    resuming = all-both (IsFewDynamic plan) (making_acts plan s.kept s.up) (flat_map prepare_acts (zip plan.streams s.kept.streams)) (making-few plan sound s.kept s.up)
        (prepares-sent (IsFewDynamic plan) IsFewChannels (few-taken plan) plan.streams s.kept.streams (all-such s.kept.streams few));
  }
    where
      all-such : (rs : List StreamRec) → AllFew rs → AllByRecursion (λ (r : StreamRec). AreRight IsFewChannels r.params) rs
      all-such [] all = tt
      all-such (r ∷ rs) all = (narrow r.params all.0, all-such rs all.1)

  job-few : (command : Command) → up_fault plan s command ≡ None → IsPassedJob rules (IsFewDynamic plan) IsFew IsFew IsInRange (up_job plan heap s command)
  job-few command none =
      let right = narrow (params_of command) (params-few plan s.kept command (record-none plan s command none)) in
      let passed = job-passed plan (λ (xs : List Act). AllByRecursion (IsFewDynamic plan) xs) AreFewThere heap s asked (few-there plan sound s is) command
      (λ other. order-sent (IsFewDynamic plan) IsFewChannels (few-taken plan) plan s.kept command other right) in
      record { first = subst (AllSeen IsInRange) (sym (job-first plan heap s command)) (seen-first IsInRange s.kept.power command); from = passed.from; routine = passed.routine }

  -- the views that come are in range, and there are at most 16 ticks
  pub up-paced : (command : Command) → let moments = (next rules doing known command).moments in AllInRange moments × (ticks_in moments ≤ 16)
  up-paced command = (came.seen, ticks command came.ticks)
    where
      came : IsCame rules (IsFewDynamic plan) IsFew IsFew IsInRange doing keeping known (up_job plan heap s command).first (next rules doing known command)
      came = next-passed rules (IsFewDynamic plan) IsFew IsFew IsInRange doing keeping known command (few-there plan sound s is) (λ plans none. job-few command none)

      ticks : (c : Command) → ticks_in (next rules doing known c).moments ≤ ticks_in (up_job plan heap s c).first + lags known.queue.entries → ticks_in (next rules doing known c).moments ≤ 16
      ticks (commands.Tick n) most = tick-few s.kept.power
      ticks c most =
          few-ticks s.kept.power c (lags known.queue.entries) (ticks_in (next rules doing known c).moments) refl held
          (subst (λ (ms : List Moment). ticks_in (next rules doing known c).moments ≤ ticks_in ms + lags known.queue.entries) (job-first plan heap s c) most)
