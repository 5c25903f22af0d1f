-- Each view that a command brings where pipelines are made on use has edges without a cycle, whatever its messages meet.
use Rattle.std.proofs.Common.{sym, subst, ℕ, List, ◌++◌, map, filter, zip, Option, Some, None}
use Rattle.std.specs.List.{AllByRecursion, flat_map}
use Rattle.sof_base.specs.declared.format.Params.{Params}
use Rattle.stream_law.specs.declared.graph.Join.{Join as Joined}
use Rattle.stream_law.proofs.Members.{IsIn, in-each, kept-in}
use Rattle.mbox_link.specs.Meetings.{Doing}
use Rattle.tplg_plan.specs.declared.plans.Plan.{Plan}
use Rattle.tplg_plan.specs.Sound.{IsSound}
use Rattle.host_widgets.specs.declared.kept.Record.{Record}
use Rattle.host_widgets.specs.declared.kept.StreamRec.{StreamRec}
use Rattle.host_widgets.specs.ActLists.{control_acts, prepare_acts}
use Rattle.host_widgets.specs.HostActs.{Act, Make, Join, Finish, Unmake}
use Rattle.host_widgets.specs.Kept.{controls_of}
use Rattle.host_widgets.specs.Up.{is_join_at, buffer_joins}
use Rattle.host_widgets.specs.UpActs.{widgets_of, making_acts, unmade_order}
use Rattle.host_widgets.specs.UpState.{UpState}
use Rattle.host_widgets.proofs.Needs.{flat-in}
use Rattle.sof_script.specs.declared.script.Command.{Command}
use Rattle.sof_session.specs.CommandRules.{CommandRules}
use Rattle.sof_session.specs.Commands.{Known, next}
use Rattle.sof_session.specs.RunLaws.{HasRanks}
use Rattle.sof_session.specs.UpCommands.{up_job, up_rules}
use Rattle.sof_session.proofs.OrderActs.{AreRight, IsTaken, all-along, all-each, close-sent, controls-sent, order-sent, params_of, prepares-sent}
use Rattle.sof_session.proofs.OrderFirsts.{job-first, seen-first}
use Rattle.sof_session.proofs.RankedRuns.{AllRanks}
use Rattle.sof_session.proofs.RoutinePasses.{IsPassedJob, Keeping, next-passed}
use Rattle.sof_session.proofs.UpEdges.{IsPlanned, AreEdges, IsOfPlan, there-edges, there-ranks}
use Rattle.sof_session.proofs.UpPasses.{IsAsked, job-passed}
use Rattle.host_widgets.specs.Groups.{is_control_of, finish_ids}
use Rattle.host_widgets.proofs.BuildingActs.{all-both}
use Rattle.host_widgets.proofs.LookedUp.{all-of}

module _ (plan : Plan) where
  -- ---- which acts commands have

  abbrev IsSent : Act → Type 0
  IsSent act = IsOfPlan plan act

  abbrev AreSent : List Act → Type 0
  AreSent acts = AllByRecursion IsSent acts

  -- whatever parameters a stream has
  abbrev AnyParams : Params → Type 0
  AnyParams p = Unit {0}

  any-params : (o : Option Params) → AreRight AnyParams o
  any-params None = tt
  any-params (Some p) = tt

  taken : IsTaken IsSent AnyParams
  taken = record {
    put = λ comp values. tt;
    part = λ comp blob k. tt;
    prepare = λ host params any. tt;
    trig = λ host what. tt;
    free = λ host. tt;
    save = tt;
    ask = λ comp k. tt;
  }

  -- what is joined at a buffer is joined by the plan
  joins-planned : (n : List ℕ) (j : Joined) → IsIn j (flat_map (buffer_joins plan.graph) n) → IsPlanned plan j.source j.sink
  joins-planned n j there =
      let at = flat-in (buffer_joins plan.graph) n j there in
      (kept-in (is_join_at plan.graph at.0) plan.graph.joins j at.2).0

  making-sent : (kept : Record) (n : List ℕ) → AreSent (making_acts plan kept n)
  making-sent kept n =
      let joins = flat_map (buffer_joins plan.graph) n in
      let set = filter (is_control_of plan n) (controls_of plan kept) in
      let join_acts = map (λ (j : Joined). Join j.source j.sink) joins in
      all-both IsSent (map Make (widgets_of plan n)) (join_acts ++ (flat_map control_acts set ++ map Finish (finish_ids plan.graph n))) (all-each IsSent Make (λ id. tt) (widgets_of plan n))
      (all-both IsSent join_acts (flat_map control_acts set ++ map Finish (finish_ids plan.graph n))
      (all-along (λ (j : Joined). IsPlanned plan j.source j.sink) IsSent (λ (j : Joined). Join j.source j.sink) (λ j is. is) joins (in-each (λ (j : Joined). IsPlanned plan j.source j.sink) joins (joins-planned n)))
      (all-both IsSent (flat_map control_acts set) (map Finish (finish_ids plan.graph n))
      (controls-sent IsSent AnyParams taken set)
      (all-each IsSent Finish (λ id. tt) (finish_ids plan.graph n))))

  -- ---- a command

  module _ (sound : IsSound plan) (doing : Doing) (heap : ℕ) (known : Known UpState) (are : AreEdges plan known.kept.there) where
    abbrev s : UpState
    s = known.kept

    abbrev rules : CommandRules UpState Act
    rules = up_rules plan heap

    abbrev HasEdges : UpState → Type 0
    HasEdges now = AreEdges plan now.there

    keeping : Keeping rules.acts IsSent HasEdges HasRanks
    keeping = record { after = λ act now sent edges. there-edges plan now.there edges act sent; seen = λ now edges. there-ranks plan sound now.there edges }

    asked : IsAsked plan AreSent (AreEdges plan) heap s
    asked = record {
      nothing = tt;
      fresh = tt;
      none = tt;
      making = making-sent s.kept;
      unmaking = λ ids. all-each IsSent Unmake (λ id. tt) (unmade_order plan.graph ids);
      closing = close-sent IsSent AnyParams taken;
      resuming = all-both IsSent (making_acts plan s.kept s.up) (flat_map prepare_acts (zip plan.streams s.kept.streams)) (making-sent s.kept s.up)
          (prepares-sent IsSent AnyParams taken plan.streams s.kept.streams (all-of (λ (r : StreamRec). AreRight AnyParams r.params) (λ r. any-params r.params) s.kept.streams));
    }

    job-ranked : (command : Command) → IsPassedJob rules IsSent HasEdges HasEdges HasRanks (up_job plan heap s command)
    job-ranked command =
        let passed = job-passed plan AreSent (AreEdges plan) heap s asked are command (λ other. order-sent IsSent AnyParams taken plan s.kept command other (any-params (params_of command))) in
        record { first = subst AllRanks (sym (job-first plan heap s command)) (seen-first HasRanks s.kept.power command); from = passed.from; routine = passed.routine }

    pub came-ranked : (command : Command) → let c = next rules doing known command in AllRanks c.moments × AreEdges plan c.known.kept.there
    came-ranked command = let came = next-passed rules IsSent HasEdges HasEdges HasRanks doing keeping known command are (λ plans none. job-ranked command) in (came.seen, came.left)
