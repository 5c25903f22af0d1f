-- Each view that a command brings is that of a record of the plan. Where the plan is sound, its edges lead to higher ranks.
use Rattle.std.proofs.Common.{sym, subst, ℕ, List, [], ◌∷◌}
use Rattle.stream_law.specs.Order.{order}
use Rattle.stream_law.specs.Past.{Moment, Boot, Cut, Now, Tick, Past, Leads, empty_view}
use Rattle.stream_law.specs.State.{View}
use Rattle.stream_law.specs.StreamLaws.{AreRanked}
use Rattle.stream_law.proofs.Cycles.{order-ranks}
use Rattle.stream_law.proofs.Ordered.{place_of}
use Rattle.mbox_link.specs.Meetings.{Doing}
use Rattle.tplg_plan.specs.declared.plans.Plan.{Plan}
use Rattle.tplg_plan.specs.Sound.{IsSound}
use Rattle.host_widgets.specs.declared.kept.Record.{Record}
use Rattle.host_widgets.specs.HostActs.{Act}
use Rattle.host_widgets.specs.OneAct.{act_rules}
use Rattle.host_widgets.specs.ViewOf.{record_view, graph_by}
use Rattle.host_widgets.proofs.SoundPlays.{sound-plays}
use Rattle.host_widgets.specs.Routines.{order_job}
use Rattle.sof_script.specs.declared.script.Command.{Command}
use Rattle.sof_session.specs.Commands.{Known, order_of, next, command_rules}
use Rattle.sof_session.specs.RunLaws.{HasRanks}
use Rattle.host_widgets.proofs.LookedUp.{all-of}
use Rattle.sof_session.proofs.OrderFirsts.{order-first, seen-first}
use Rattle.sof_session.proofs.RoutinePasses.{IsPassedJob, Keeping, next-passed}
use Rattle.sof_session.proofs.SeenMoments.{AllSeen}
use Rattle.sof_session.proofs.UpPasses.{ends-by}

-- ---- views

pub empty-ranks : HasRanks empty_view
empty-ranks = ((λ c. 0), record { rises = λ b a c source sink. absurd (cc source) })

pub record-ranks : (plan : Plan) → IsSound plan → (kept : Record) → HasRanks (record_view plan kept)
record-ranks plan sound kept =
    let plays = sound-plays plan sound kept (record_view plan kept).streams in
    (place_of (order (graph_by plan kept)), order-ranks (graph_by plan kept) plays.ends plays.ordered)

-- so has each view that comes
abbrev pub AllRanks : List Moment → Type 0
AllRanks ms = AllSeen HasRanks ms

-- the views at which ticks come
pub are-ranked : (ms : List Moment) (v : View) → HasRanks v → AllRanks ms → AreRanked v ms
are-ranked [] v ranks all = tt
are-ranked (Boot ∷ ms) v ranks all = are-ranked ms empty_view empty-ranks all
are-ranked (Cut ∷ ms) v ranks all = are-ranked ms empty_view empty-ranks all
are-ranked (Now w fresh ∷ ms) v ranks all = are-ranked ms w all.0 all.1
are-ranked (Tick ∷ ms) v ranks all = (ranks, are-ranked ms v ranks all)

-- and the last
pub leads-ranks : (whole : List (ℕ × List ℕ)) (ms : List Moment) (old new : Past) → HasRanks old.view → AllRanks ms → Leads whole old ms new → HasRanks new.view
leads-ranks whole [] old new ranks all led = subst (λ (p : Past). HasRanks p.view) led ranks
leads-ranks whole (Boot ∷ ms) old new ranks all led = leads-ranks whole ms led.0 new (subst (λ (p : Past). HasRanks p.view) (sym led.1) empty-ranks) all led.2
leads-ranks whole (Cut ∷ ms) old new ranks all led = leads-ranks whole ms led.0 new (subst (λ (p : Past). HasRanks p.view) (sym led.1) empty-ranks) all led.2
leads-ranks whole (Now view fresh ∷ ms) old new ranks all led = leads-ranks whole ms led.0 new (subst (λ (p : Past). HasRanks p.view) (sym led.1) all.0) all.1 led.2
leads-ranks whole (Tick ∷ ms) old new ranks all led = leads-ranks whole ms led.0 new (subst HasRanks (sym led.1.1.view) ranks) all led.2

-- ---- a command

module _ (plan : Plan) (sound : IsSound plan) (heap : ℕ) (doing : Doing) (known : Known Record) where
  abbrev Any : Record → Type 0
  Any kept = Unit {0}

  abbrev AnyAct : Act → Type 0
  AnyAct act = Unit {0}

  keeping : Keeping (act_rules plan heap) AnyAct Any HasRanks
  keeping = record { after = λ act kept sent any. tt; seen = λ kept any. record-ranks plan sound kept }

  job-ranks : (command : Command) → IsPassedJob (command_rules plan heap) AnyAct Any Any HasRanks (order_job plan known.kept (order_of plan known.kept command))
  job-ranks command =
      let o = order_of plan known.kept command in
      record {
        first = subst AllRanks (sym (order-first plan known.kept command)) (seen-first HasRanks known.kept.power command);
        from = tt;
        routine = (all-of AnyAct (λ act. tt) o.acts, λ now outcome any. (ends-by o.ending plan o.done known.kept now outcome, tt));
      }

  pub next-ranks : (command : Command) → AllRanks (next (command_rules plan heap) doing known command).moments
  next-ranks command = (next-passed (command_rules plan heap) AnyAct Any Any HasRanks doing keeping known command tt (λ plans none. job-ranks command)).seen
