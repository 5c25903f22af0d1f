-- What commands come to over the mix graph where pipelines are made on use.
use Rattle.std.specs.Prelude.{◌≡◌, ℕ, List, [], ◌∷◌, false, codes, negsuc}
use Rattle.sof_base.specs.declared.hole.Hole.{Hole}
use Rattle.stream_law.specs.WorkedGraphs.{mix_graph}
use Rattle.mbox_link.specs.CalmDevice.{calm}
use Rattle.tplg_plan.specs.declared.plans.Plan.{Plan}
use Rattle.tplg_plan.specs.declared.plans.WidgetPlan.{WidgetPlan}
use Rattle.host_widgets.specs.HostRecord.{no_caps}
use Rattle.host_widgets.specs.declared.answers.Answer.{Answer}
use Rattle.host_widgets.specs.declared.answers.Answer.TheVariants as answers
use Rattle.host_widgets.specs.declared.answers.HostFault.TheVariants.{Refused}
use Rattle.sof_script.specs.declared.script.Command.{Command}
use Rattle.sof_script.specs.declared.script.Command.TheVariants.{Load, Open, Close}
use Rattle.sof_session.specs.Commands.{Known, first_known, next}
use Rattle.host_widgets.specs.UpState.{UpState}
use Rattle.sof_session.specs.UpCommands.{up_rules}
use Rattle.host_widgets.specs.There.{there_view}
use Rattle.host_widgets.specs.Up.{up_view}

-- ---- the plan: two hosts, each with its buffer in a pipeline of its own, and a mixer with a DAI in a third

abbrev words : ℕ → ℕ → WidgetPlan
words pipe format = record { pipe = pipe; periods_sink = 0; periods_source = 0; frame_fmt = format; dai_index = 0; caps = 0; priority = 0; mips = 0; frames = 0; time_domain = 0; ramp_type = 0; ramp_ms = 0 }

abbrev pub mix_plan : Plan
mix_plan = record {
  graph = mix_graph;
  streams = record { host = 0; capture = false; caps = no_caps } ∷ record { host = 3; capture = false; caps = no_caps } ∷ [];
  controls = [];
  names =
      codes "PCM0P" ∷ codes "BA" ∷ codes "PIPE1" ∷ codes "PCM1P" ∷ codes "BB" ∷ codes "PIPE2"
      ∷ codes "MIX" ∷ codes "BC" ∷ codes "DAI0" ∷ codes "PIPE3" ∷ [];
  widgets = words 1 0 ∷ words 1 0 ∷ words 1 0 ∷ words 2 0 ∷ words 2 0 ∷ words 2 0 ∷ words 3 0 ∷ words 3 0 ∷ words 3 2 ∷ words 3 0 ∷ [];
}

-- ---- commands, one after another

-- what a command answered, how many messages were sent so far, what is up after it, and the holes
pub record Seen : Type 0 where
  pub answer : Answer
  pub sent : ℕ
  pub up : List ℕ
  pub holes : List Hole

abbrev pub seen_over : Plan → ℕ → Known UpState → List Command → List Seen
seen_over plan heap known [] = []
seen_over plan heap known (command ∷ commands) =
    let c = next (up_rules plan heap) calm known command in
    record { answer = c.answer; sent = c.known.queue.sent; up = c.known.kept.up; holes = c.known.kept.there.heap.holes } ∷ seen_over plan heap c.known commands

abbrev pub seen_from : ℕ → List Command → List Seen
seen_from heap commands = seen_over mix_plan heap (first_known (up_rules mix_plan heap)) commands

abbrev hole : ℕ → ℕ → Hole
hole place size = record { place = place; size = size }

abbrev done : ℕ → List ℕ → List Hole → Seen
done sent up holes = record { answer = answers.Done; sent = sent; up = up; holes = holes }

abbrev pub refused_commands : List Command
refused_commands = Load ∷ Open (codes "PCM0P") ∷ Open (codes "PCM1P") ∷ Close (codes "PCM0P") ∷ Open (codes "PCM1P") ∷ []

abbrev pub shared_commands : List Command
shared_commands = Load ∷ Open (codes "PCM0P") ∷ Open (codes "PCM1P") ∷ Close (codes "PCM0P") ∷ Open (codes "PCM0P") ∷ []

-- what is there is the graph of what is up, with what the record sets, and its streams
abbrev pub ShowsUp : Known UpState → Type 0
ShowsUp known = there_view known.kept.there ≡ up_view mix_plan known.kept.kept known.kept.up

-- after each of these commands
abbrev pub ShowUpOver : ℕ → Known UpState → List Command → Type 0
ShowUpOver heap known [] = Unit {0}
ShowUpOver heap known (command ∷ commands) =
    let now = (next (up_rules mix_plan heap) calm known command).known in ShowsUp now × ShowUpOver heap now commands

-- With 2784 bytes the second stream is refused at its buffer, and what was made of it is unmade; once the first is closed, it opens.
abbrev pub SecondStreamIsRefused : Type 0
SecondStreamIsRefused =
    seen_from 2784 refused_commands
    ≡ done 0 [] (hole 0 2784 ∷ [])
    ∷ done 13 (1 ∷ 3 ∷ []) (hole 2656 128 ∷ [])
    ∷ record { answer = answers.Fault (Refused (record { 0 = negsuc 11 })); sent = 16; up = 1 ∷ 3 ∷ []; holes = hole 2656 128 ∷ [] }
    ∷ done 23 [] (hole 0 2784 ∷ [])
    ∷ done 36 (2 ∷ 3 ∷ []) (hole 2656 128 ∷ [])
    ∷ []

-- With 4352 bytes both are open at once, and the third pipeline stays while one of them needs it.
abbrev pub SharedPipelineStays : Type 0
SharedPipelineStays =
    seen_from 4352 shared_commands
    ≡ done 0 [] (hole 0 4352 ∷ [])
    ∷ done 13 (1 ∷ 3 ∷ []) (hole 2656 1696 ∷ [])
    ∷ done 19 (1 ∷ 3 ∷ 2 ∷ []) []
    ∷ done 22 (3 ∷ 2 ∷ []) (hole 0 1696 ∷ [])
    ∷ done 28 (3 ∷ 2 ∷ 1 ∷ []) []
    ∷ []

abbrev pub RefusedShowsUp : Type 0
RefusedShowsUp = ShowUpOver 2784 (first_known (up_rules mix_plan 2784)) refused_commands

abbrev pub SharedShowsUp : Type 0
SharedShowsUp = ShowUpOver 4352 (first_known (up_rules mix_plan 4352)) shared_commands
