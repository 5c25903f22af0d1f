-- A command's moments have at most 16 ticks, and each view that comes has periods, frames a second and samples a frame in range.
use Rattle.std.proofs.Common.{◌≡◌, refl, sym, ap, ◌∙◌, subst, ℕ, ◌+◌, ◌/◌, ◌%◌, ◌≤◌, Bool, true, false, ◌&&◌, cond, ◌==◌, List, [], ◌∷◌, ◌++◌, map, zip, Option, Some, None, Ok, arith}
use Rattle.std.specs.Prelude.{nat_le, find, option_and_then, if◌then◌else◌}
use Rattle.std.specs.Option.{option_map_or}
use Rattle.std.specs.List.{AllByRecursion, flat_map, list_all}
use Rattle.std.proofs.lemmas.Bool.{and_parts, leb-true}
use Rattle.sof_base.specs.declared.format.Params.{Params}
use Rattle.sof_base.proofs.RateLaws.{rate-most as is_rate-most}
use Rattle.stream_law.specs.declared.graph.Comp.{Comp}
use Rattle.stream_law.specs.declared.graph.Join.{Join as Joined}
use Rattle.stream_law.specs.declared.graph.Pipe.{Pipe}
use Rattle.stream_law.specs.declared.stream.StreamView.{StreamView}
use Rattle.stream_law.specs.State.{View}
use Rattle.stream_law.specs.Ways.{pipe_of, comp_of, live_params, rate_of, channels_of, is_live_phase, on_way}
use Rattle.stream_law.specs.Past.{Moment}
use Rattle.mbox_link.specs.Meetings.{Doing, lags}
use Rattle.mbox_link.specs.BlobParts.{is_last}
use Rattle.tplg_plan.specs.declared.plans.Plan.{Plan}
use Rattle.tplg_plan.specs.declared.plans.StreamPlan.{StreamPlan}
use Rattle.tplg_plan.specs.Sound.{IsSound, pipe_at}
use Rattle.host_widgets.specs.declared.answers.HostFault.{HostFault}
use Rattle.host_widgets.specs.declared.answers.HostFault.TheVariants.{NoSuch}
use Rattle.host_widgets.specs.declared.kept.Found.{Found}
use Rattle.host_widgets.specs.declared.kept.Found.TheVariants.{Closed, Open, Prepared, Running, Paused, On as Found_On}
use Rattle.host_widgets.specs.declared.kept.Power.{Power}
use Rattle.host_widgets.specs.declared.kept.Power.TheVariants.{Unloaded}
use Rattle.host_widgets.specs.declared.kept.StreamRec.{StreamRec}
use Rattle.host_widgets.specs.declared.kept.Record.{Record}
use Rattle.host_widgets.specs.HostRecord.{may_have, are_in_range, closed}
use Rattle.host_widgets.specs.Host.{IsRecordOf}
use Rattle.host_widgets.specs.Kept.{changed, with_control}
use Rattle.host_widgets.specs.Named.{loaded_fault}
use Rattle.host_widgets.specs.ViewOf.{record_view}
use Rattle.host_widgets.specs.Expected.{stream_view}
use Rattle.host_widgets.specs.Acts.{widget_ids}
use Rattle.host_widgets.specs.HostActs.{Act, Make, Join, Part, Finish, Prepare, Trig, Free, after, prepared_stream, triggered_stream, with_blob}
use Rattle.host_widgets.specs.ActLists.{control_acts, bring_up, prepare_acts}
use Rattle.host_widgets.specs.OneAct.{act_rules}
use Rattle.host_widgets.proofs.NamedIds.{each-pipe, pipeline-found}
use Rattle.host_pcm.specs.declared.asking.Ask.TheVariants.{Preparing}
use Rattle.host_pcm.specs.Asks.{stream_place, early_fault, named_fault}
use Rattle.host_pcm.specs.StreamCalls.{stream_caps}
use Rattle.host_pcm.proofs.HostTests.{found_place}
use Rattle.host_pcm.proofs.StreamCalls.{ranges}
use Rattle.host_widgets.specs.Routines.{order_job}
use Rattle.sof_script.specs.declared.script.Command.{Command}
use Rattle.sof_script.specs.declared.script.Command.TheVariants as commands
use Rattle.sof_session.specs.CommandTests.{fault_of}
use Rattle.sof_session.specs.Commands.{Known, order_of, next, command_rules}
use Rattle.sof_session.proofs.InputMoves.{IsInRange, AllInRange}
use Rattle.sof_session.proofs.OrderActs.{AreRight, IsTaken, all-each, controls-sent, order-sent, params_of, prepares-sent}
use Rattle.sof_session.proofs.OrderFirsts.{few-ticks, order-first, seen-first, tick-few}
use Rattle.sof_session.proofs.RoutinePasses.{IsCame, IsPassedJob, Keeping, next-passed}
use Rattle.sof_session.proofs.SeenMoments.{AllSeen, ticks_in}
use Rattle.sof_session.proofs.UpPasses.{ends-by}
use Rattle.host_widgets.proofs.BuildingActs.{all-both}

-- ---- streams whose parameters are in range

abbrev pub IsFewParams : Params → Type 0
IsFewParams p = (p.rate ≤ 192000) × (p.channels ≤ 8)

abbrev pub AreFew : Option Params → Type 0
AreFew o = AreRight IsFewParams o

abbrev pub AllFew : List StreamRec → Type 0
AllFew rs = AllByRecursion (λ (r : StreamRec). AreFew r.params) rs

few-params : (p : Params) → are_in_range p ≡ true → AreFew (Some p)
few-params p is =
    let both = and_parts _ (nat_le 1 p.channels && nat_le p.channels 8) is in
    (is_rate-most p.rate both.0, leb-true p.channels 8 (and_parts (nat_le 1 p.channels) (nat_le p.channels 8) both.1).1)

few-may : (found : Found) (params : Option Params) → may_have found params ≡ true → AreFew params
few-may found None is = tt
few-may Prepared (Some p) is = few-params p is
few-may Running (Some p) is = few-params p is
few-may Paused (Some p) is = few-params p is
few-may Closed (Some p) is = absurd (cc is)
few-may Open (Some p) is = absurd (cc is)
few-may Found_On (Some p) is = absurd (cc is)

all-may : (rs : List StreamRec) → list_all (λ r. may_have r.found r.params) rs ≡ true → AllFew rs
all-may [] is = tt
all-may (r ∷ rs) is =
    let both = and_parts (may_have r.found r.params) (list_all (λ r. may_have r.found r.params) rs) is in
    (few-may r.found r.params both.0, all-may rs both.1)

pub few-record : (plan : Plan) (kept : Record) → IsRecordOf plan kept → AllFew kept.streams
few-record plan kept is = all-may kept.streams is.each

changed-few : (f : StreamRec → StreamRec) → ((r : StreamRec) → AreFew r.params → AreFew (f r).params) → (host : ℕ) (ss : List StreamPlan) (rs : List StreamRec) → AllFew rs → AllFew (changed (λ (s : StreamPlan). s.host) host f ss rs)
changed-few f keeps host [] rs all = all
changed-few f keeps host (s ∷ ss) [] all = tt
changed-few f keeps host (s ∷ ss) (r ∷ rs) all = (by (s.host == host), changed-few f keeps host ss rs all.1)
  where
    by : (b : Bool) → AreFew (if b then f r else r).params
    by true = keeps r all.0
    by false = all.0

-- ---- the view of a record

shown-few : (ss : List StreamPlan) (rs : List StreamRec) → AllFew rs → AllByRecursion (λ (s : StreamView). AreFew s.params) (map stream_view (zip ss rs))
shown-few [] rs all = tt
shown-few (s ∷ ss) [] all = tt
shown-few (s ∷ ss) (r ∷ rs) all = (all.0, shown-few ss rs all.1)

found-few : (test : StreamView → Bool) (ss : List StreamView) → AllByRecursion (λ (s : StreamView). AreFew s.params) ss → AreFew (option_and_then (λ (s : StreamView). s.params) (find test ss))
found-few test [] all = tt
found-few test (s ∷ ss) all = by (test s) (found-few test ss all.1)
  where
    by : (b : Bool) → AreFew (option_and_then (λ (s : StreamView). s.params) (find test ss)) → AreFew (option_and_then (λ (s : StreamView). s.params) (cond b (Some s) (find test ss)))
    by true rest = all.0
    by false rest = rest

pub plan-periods : (plan : Plan) → IsSound plan → AllByRecursion (λ (p : Pipe). p.period ≤ 10000) plan.graph.pipes
plan-periods plan sound = each plan.graph.pipes (each-pipe plan sound)
  where
    each : (ps : List Pipe) → AllByRecursion (λ (p : Pipe). pipe_at plan.graph p.id ≡ Some p) ps → AllByRecursion (λ (p : Pipe). p.period ≤ 10000) ps
    each [] all = tt
    each (p ∷ ps) all =
        let is = (pipeline-found plan sound p.id p all.0).is.period in
        let range = (and_parts (p.period % 1000 == 0 && nat_le 1000 p.period) (nat_le p.period 10000) is).1 in
        (leb-true p.period 10000 range, each ps all.1)

found-period : (index : ℕ) (ps : List Pipe) → AllByRecursion (λ (p : Pipe). p.period ≤ 10000) ps → option_map_or (λ p. p.period) (find (λ p. p.index == index) ps) 0 ≤ 10000
found-period index [] all = omega arith
found-period index (p ∷ ps) all = by (p.index == index) (found-period index ps all.1)
  where
    by : (b : Bool) → option_map_or (λ p. p.period) (find (λ p. p.index == index) ps) 0 ≤ 10000 → option_map_or (λ p. p.period) (cond b (Some p) (find (λ p. p.index == index) ps)) 0 ≤ 10000
    by true rest = all.0
    by false rest = rest

-- any view whose pipelines and streams are in range
pub view-in-range : (v : View) → AllByRecursion (λ (p : Pipe). p.period ≤ 10000) v.graph.pipes → AllByRecursion (λ (s : StreamView). AreFew s.params) v.streams → IsInRange v
unfolding rate_of channels_of
view-in-range v pipes streams = record {
  periods = λ c. periods (comp_of v.graph c);
  rates = λ c. rates (live_params v c) (found-few (λ s. is_live_phase s.phase && on_way v.graph s.host c) v.streams streams);
  channels = λ c. channels (live_params v c) (found-few (λ s. is_live_phase s.phase && on_way v.graph s.host c) v.streams streams);
}
  where
    periods : (o : Option Comp) → option_map_or (λ x. option_map_or (λ p. p.period) (pipe_of v.graph x.pipe) 0) o 0 / 1000 ≤ 10
    periods None = omega arith
    periods (Some x) = let most = found-period x.pipe v.graph.pipes pipes in omega (arith, most)

    rates : (o : Option Params) → AreFew o → option_map_or (λ p. p.rate) o 0 ≤ 192000
    rates None are = omega arith
    rates (Some p) are = are.0

    channels : (o : Option Params) → AreFew o → option_map_or (λ p. p.channels) o 0 ≤ 8
    channels None are = omega arith
    channels (Some p) are = are.1

record-in-range : (plan : Plan) → IsSound plan → (kept : Record) → AllFew kept.streams → IsInRange (record_view plan kept)
record-in-range plan sound kept few = view-in-range (record_view plan kept) (plan-periods plan sound) (shown-few plan.streams kept.streams few)

-- ---- acts

-- an act gives a stream no parameters but some in range
abbrev IsFewAct : Act → Type 0
IsFewAct (Prepare host params) = IsFewParams params
IsFewAct act = Unit {0}

after-few : (plan : Plan) (act : Act) (kept : Record) → IsFewAct act → AllFew kept.streams → AllFew (after plan act kept).streams
after-few plan (Prepare host params) kept is few = changed-few (prepared_stream params) (λ r old. is) host plan.streams kept.streams few
after-few plan (Trig host what) kept is few = changed-few (triggered_stream what) (λ r old. old) host plan.streams kept.streams few
after-few plan (Free host) kept is few = changed-few (λ r. closed) (λ r old. tt) host plan.streams kept.streams few
after-few plan (Part comp blob k) kept is few = by (is_last blob k)
  where
    by : (b : Bool) → AllFew (if b then with_control plan comp (with_blob blob) kept else kept).streams
    by true = few
    by false = few
after-few plan act kept is few = few

-- what is sent to what is made
few-taken : IsTaken IsFewAct IsFewParams
few-taken = record {
  put = λ comp values. tt;
  part = λ comp blob k. tt;
  prepare = λ host params few. few;
  trig = λ host what. tt;
  free = λ host. tt;
  save = tt;
  ask = λ comp k. tt;
}

few-up : (plan : Plan) (kept : Record) → AllByRecursion IsFewAct (bring_up plan kept)
few-up plan kept =
    let join_acts = map (λ (j : Joined). Join j.source j.sink) plan.graph.joins in
    let controls = flat_map control_acts (zip plan.controls kept.controls) in
    let finishes = map (λ (p : Pipe). Finish p.id) plan.graph.pipes in
    all-both IsFewAct (map Make (widget_ids plan)) (join_acts ++ (controls ++ finishes)) (all-each IsFewAct Make (λ id. tt) (widget_ids plan))
    (all-both IsFewAct join_acts (controls ++ finishes) (all-each IsFewAct (λ (j : Joined). Join j.source j.sink) (λ j. tt) plan.graph.joins)
    (all-both IsFewAct controls finishes (controls-sent IsFewAct IsFewParams few-taken (zip plan.controls kept.controls)) (all-each IsFewAct (λ (p : Pipe). Finish p.id) (λ p. tt) plan.graph.pipes)))

-- ---- parameters that pass their tests

module _ (plan : Plan) (kept : Record) where
  no-name : (power : Power) (fault : HostFault) → loaded_fault power (Some fault) ≡ None → ⊥
  no-name Unloaded fault is = cc is
  no-name power fault is = cc is

  asked-few : (name : List ℕ) (p : Params) → early_fault plan kept name (Preparing p) ≡ None → IsFewParams p
  asked-few name p none = by (stream_place plan name) refl
    where
      by : (o : Option ℕ) → stream_place plan name ≡ o → IsFewParams p
      by None at = absurd (no-name kept.power (NoSuch name) (ap (λ (o : Option ℕ). loaded_fault kept.power (named_fault plan kept name (Preparing p) o)) (sym at) ∙ none))
      by (Some k) at = few-params p (ranges (stream_caps plan k) p (found_place plan kept name (Preparing p) (Ok k) k at none refl).stood.range)

  pub params-few : (command : Command) → fault_of plan kept command ≡ None → AreFew (params_of command)
  params-few (commands.Params name p) none = asked-few name p none
  params-few command none = tt

  order-few : AllFew kept.streams → (command : Command) → fault_of plan kept command ≡ None → AllByRecursion IsFewAct (order_of plan kept command).acts
  order-few few commands.Load none = few-up plan kept
  order-few few commands.Resume none = all-both IsFewAct (bring_up plan kept) (flat_map prepare_acts (zip plan.streams kept.streams)) (few-up plan kept) (prepares-sent IsFewAct IsFewParams few-taken plan.streams kept.streams few)
  order-few few command none = order-sent IsFewAct IsFewParams few-taken plan kept command refl (params-few command none)

-- ---- a command

module _ (plan : Plan) (sound : IsSound plan) (heap : ℕ) (doing : Doing) (known : Known Record) (is : IsRecordOf plan known.kept) (held : lags known.queue.entries ≤ 16) where
  few : AllFew known.kept.streams
  few = few-record plan known.kept is

  keeping : Keeping (act_rules plan heap) IsFewAct (λ (kept : Record). AllFew kept.streams) IsInRange
  keeping = record { after = λ act kept sent all. after-few plan act kept sent all; seen = λ kept all. record-in-range plan sound kept all }

  job-few : (command : Command) → fault_of plan known.kept command ≡ None →
      IsPassedJob (command_rules plan heap) IsFewAct (λ (kept : Record). AllFew kept.streams) (λ (kept : Record). Unit {0}) IsInRange (order_job plan known.kept (order_of plan known.kept command))
  job-few command none =
      let o = order_of plan known.kept command in
      record {
        first = subst (AllSeen IsInRange) (sym (order-first plan known.kept command)) (seen-first IsInRange known.kept.power command);
        from = few;
        routine = (order-few plan known.kept few command none, λ now outcome later. (ends-by o.ending plan o.done known.kept now outcome, tt));
      }

  -- the views that come are in range, and there are at most 16 ticks
  pub next-paced : (command : Command) → let moments = (next (command_rules plan heap) doing known command).moments in AllInRange moments × (ticks_in moments ≤ 16)
  next-paced command = (came.seen, ticks command came.ticks)
    where
      came : IsCame (command_rules plan heap) IsFewAct (λ (kept : Record). AllFew kept.streams) (λ (kept : Record). Unit {0}) IsInRange doing keeping known (order_of plan known.kept command).first (next (command_rules plan heap) doing known command)
      came = next-passed (command_rules plan heap) IsFewAct (λ (kept : Record). AllFew kept.streams) (λ (kept : Record). Unit {0}) IsInRange doing keeping known command tt (λ plans none. job-few command none)

      ticks : (c : Command) → ticks_in (next (command_rules plan heap) doing known c).moments ≤ ticks_in (order_of plan known.kept c).first + lags known.queue.entries → ticks_in (next (command_rules plan heap) doing known c).moments ≤ 16
      ticks (commands.Tick n) most = tick-few known.kept.power
      ticks c most =
          few-ticks known.kept.power c (lags known.queue.entries) (ticks_in (next (command_rules plan heap) doing known c).moments) refl held
          (subst (λ (ms : List Moment). ticks_in (next (command_rules plan heap) doing known c).moments ≤ ticks_in ms + lags known.queue.entries) (order-first plan known.kept c) most)
