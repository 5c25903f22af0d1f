-- Both sides of the laws of success and of boots, and places of the law of one run, over the thin graph and the mix graph.
use Rattle.std.specs.Prelude.{ℕ, List, [], ◌∷◌, length, Some, codes}
use Rattle.stream_law.specs.declared.graph.Edge.{Edge}
use Rattle.stream_law.specs.Past.{start}
use Rattle.mbox_link.specs.CalmDevice.{calm}
use Rattle.mbox_link.specs.declared.fates.Fate.{Fate}
use Rattle.mbox_link.specs.Meetings.{Queue}
use Rattle.tplg_plan.specs.declared.plans.Plan.{Plan}
use Rattle.tplg_graph.specs.PlanOf.{plan_of}
use Rattle.host_widgets.specs.declared.answers.Answer.{Answer}
use Rattle.host_widgets.specs.ActLists.{bring_up}
use Rattle.host_widgets.specs.Bringing.{Fits}
use Rattle.host_widgets.specs.Kept.{first_record}
use Rattle.host_widgets.specs.There.{There, there_view}
use Rattle.host_widgets.specs.UpState.{UpState, up_act_rules}
use Rattle.sof_script.specs.declared.script.Command.{Command}
use Rattle.sof_script.specs.declared.script.Command.TheVariants as commands
use Rattle.sof_session.specs.BootLaws.{tested_boots}
use Rattle.sof_session.specs.CommandRules.{CommandRules}
use Rattle.sof_session.specs.Commands.{Known, first_known, next, command_rules}
use Rattle.sof_session.specs.FaultRows.{first_open}
use Rattle.sof_session.specs.SuccessLaws.{PassNext, NoneRefused, opening_acts}
use Rattle.sof_session.specs.UpCommands.{up_rules}
use Rattle.sof_session.specs.UpRows.{mix_plan}
use Rattle.sof_session.specs.Written.{At, boots_in}
use Rattle.sof_tests.specs.Rows.{thin_topology}

-- no message was sent yet, and the one of this number has this fate
abbrev pub one_planned : ℕ → Fate → Queue
one_planned number fate = record { sent = 0; entries = record { number = number; fate = fate; lag = 0 } ∷ [] }

-- ---- a load

abbrev pub thin_plan : Plan
thin_plan = plan_of thin_topology

abbrev pub thin_acts : ℕ
thin_acts = length (bring_up thin_plan (first_record thin_plan))

-- the answer of a load from unloaded with a heap of so many bytes
abbrev pub load_answer : ℕ → ℕ → Fate → Answer
load_answer heap number fate = (next (command_rules thin_plan heap) calm (record { kept = first_record thin_plan; queue = one_planned number fate }) commands.Load).answer

-- what the law asks for it to be done
abbrev pub MayLoad : ℕ → ℕ → Fate → Type 0
MayLoad heap number fate = Fits thin_plan heap × PassNext calm (one_planned number fate) thin_acts

-- ---- an open

-- the power is on, and nothing is up
abbrev pub none_open : ℕ → UpState
none_open heap = (next (up_rules mix_plan heap) calm (first_known (up_rules mix_plan heap)) commands.Load).known.kept

-- the first stream is open, and so many bytes are left after what was made
abbrev pub one_open : ℕ → UpState
one_open left = record {
  kept = first_open.kept;
  up = first_open.up;
  there = record {
    heap = record { holes = record { place = 2656; size = left } ∷ []; pieces = first_open.there.heap.pieces };
    graph = first_open.there.graph;
    streams = first_open.there.streams;
  };
}

abbrev pub opening_count : UpState → List ℕ → ℕ
opening_count s name = length (opening_acts mix_plan s name)

abbrev pub open_answer : UpState → List ℕ → ℕ → Fate → Answer
open_answer s name number fate = (next (up_rules mix_plan 4352) calm (record { kept = s; queue = one_planned number fate }) (commands.Open name)).answer

abbrev pub MayOpen : UpState → List ℕ → ℕ → Fate → Type 0
MayOpen s name number fate = NoneRefused (up_act_rules mix_plan) s (opening_acts mix_plan s name) × PassNext calm (one_planned number fate) (opening_count s name)

-- ---- boots

-- how often each of these commands boots the device, one after another
abbrev pub boots_each : {S A : Type 0} → CommandRules S A → Known S → List Command → List ℕ
boots_each rules known [] = []
boots_each rules known (command ∷ commands) = let c = next rules calm known command in boots_in c.moments ∷ boots_each rules c.known commands

-- and what the law says
abbrev pub tested_each : {S A : Type 0} → CommandRules S A → Known S → List Command → List ℕ
tested_each rules known [] = []
tested_each rules known (command ∷ commands) = tested_boots command (rules.fault known.kept command) ∷ tested_each rules (next rules calm known command).known commands

abbrev pub power_commands : List Command
power_commands = commands.Load ∷ commands.Load ∷ commands.Suspend ∷ commands.Resume ∷ commands.Resume ∷ commands.Unload ∷ commands.Load ∷ []

-- with a stream open between
abbrev pub mix_commands : List Command
mix_commands = commands.Load ∷ commands.Open (codes "PCM0P") ∷ commands.Suspend ∷ commands.Close (codes "PCM0P") ∷ commands.Resume ∷ commands.Resume ∷ []

-- ---- places of a run

-- the run is where this is there
abbrev pub place_with : There → At UpState
place_with there = record {
  known = record { kept = record { kept = first_open.kept; up = first_open.up; there = there }; queue = record { sent = 13; entries = [] } };
  past = record start { view = there_view there };
}

-- these edges alone are there, between the components that the first stream needs
abbrev pub edges_alone : List Edge → There
edges_alone edges = record {
  heap = first_open.there.heap;
  graph = record { comps = first_open.there.graph.comps; edges = edges; pipes = first_open.there.graph.pipes; joins = [] };
  streams = [];
}

-- the first stream's buffer leads past the mixer
abbrev pub other_edge : Edge
other_edge = record { buffer = 1; pipe = 1; size = 1536; source = Some 0; sink = Some 8 }

-- two buffers that lead round
abbrev pub round_edges : List Edge
round_edges =
    record { buffer = 1; pipe = 1; size = 1536; source = Some 0; sink = Some 6 } ∷ record { buffer = 7; pipe = 3; size = 768; source = Some 6; sink = Some 0 } ∷ []
