-- The result of a message that is refused or lost while pipelines of the mix graph are unmade.
use Rattle.std.specs.Prelude.{◌≡◌, ◌+◌, ℕ, List, [], ◌∷◌, Some, None, true, codes, ℤ, negsuc}
use Rattle.stream_law.specs.declared.graph.Comp.{Comp}
use Rattle.sof_base.specs.declared.format.Format.TheVariants.{S32}
use Rattle.sof_base.specs.declared.hole.Hole.{Hole}
use Rattle.stream_law.specs.declared.graph.Kind.{Kind}
use Rattle.stream_law.specs.declared.graph.Kind.TheVariants.{HostPlay, DaiPlay, Mixer}
use Rattle.stream_law.specs.declared.graph.Setting.TheVariants.{Nothing}
use Rattle.stream_law.specs.declared.stream.Phase.TheVariants.{Idle}
use Rattle.stream_law.specs.State.{PieceView}
use Rattle.mbox_link.specs.CalmDevice.{calm}
use Rattle.host_widgets.specs.declared.kept.Power.TheVariants as powers
use Rattle.host_widgets.specs.declared.kept.Found.{Found}
use Rattle.host_widgets.specs.declared.kept.Found.TheVariants.{Open as FoundOpen, Closed}
use Rattle.host_widgets.specs.declared.kept.StreamRec.{StreamRec}
use Rattle.host_widgets.specs.declared.answers.Answer.{Answer}
use Rattle.host_widgets.specs.declared.answers.Answer.TheVariants as answers
use Rattle.host_widgets.specs.declared.answers.HostFault.TheVariants.{Refused, LinkDown}
use Rattle.mbox_link.specs.declared.fates.Fate.{Fate}
use Rattle.mbox_link.specs.declared.fates.Fate.TheVariants as fates
use Rattle.sof_script.specs.declared.script.Command.{Command}
use Rattle.sof_script.specs.declared.script.Command.TheVariants.{Open, Close}
use Rattle.host_widgets.specs.There.{nowhere}
use Rattle.sof_session.specs.Commands.{Known, next}
use Rattle.host_widgets.specs.UpState.{UpState}
use Rattle.sof_session.specs.UpCommands.{up_rules}
use Rattle.sof_session.specs.UpRows.{mix_plan}

abbrev comp : ℕ → Kind → ℕ → Comp
comp id kind pipe = record { id = id; kind = kind; pipe = pipe; setting = Nothing; ramp = 0 }

abbrev hole : ℕ → ℕ → Hole
hole place size = record { place = place; size = size }

abbrev piece : ℕ → ℕ → ℕ → PieceView
piece id place size = record { id = id; place = place; size = size }

abbrev stream : Found → StreamRec
stream found = record { found = found; params = None }

-- the state once the first stream is open, of 2784 bytes
abbrev pub first_open : UpState
first_open = record {
  kept = record { power = powers.On; streams = stream FoundOpen ∷ stream Closed ∷ []; controls = [] };
  up = 1 ∷ 3 ∷ [];
  there = record {
    heap = record { holes = hole 2656 128 ∷ []; pieces = piece 0 0 64 ∷ piece 1 64 1568 ∷ piece 2 1632 64 ∷ piece 6 1696 32 ∷ piece 7 1728 800 ∷ piece 8 2528 64 ∷ piece 9 2592 64 ∷ [] };
    graph = record { comps = comp 0 HostPlay 1 ∷ comp 6 Mixer 3 ∷ comp 8 (DaiPlay S32) 3 ∷ []; edges = record { buffer = 1; pipe = 1; size = 1536; source = Some 0; sink = Some 6 } ∷ record { buffer = 7; pipe = 3; size = 768; source = Some 6; sink = Some 8 } ∷ []; pipes = record { id = 2; index = 1; sched = 0; period = 1000; complete = true } ∷ record { id = 9; index = 3; sched = 8; period = 1000; complete = true } ∷ []; joins = record { source = 0; sink = 1 } ∷ record { source = 1; sink = 6 } ∷ record { source = 6; sink = 7 } ∷ record { source = 7; sink = 8 } ∷ [] };
    streams = record { host = 0; phase = Idle; params = None } ∷ [];
  };
}

-- the first stream is open, of 2784 bytes; the 13 messages were sent, and one that is ahead has a fate
abbrev pub with_fate_ahead : ℕ → Fate → Known UpState
with_fate_ahead n fate = record { kept = first_open; queue = record { sent = 13; entries = record { number = 13 + n; fate = fate; lag = 0 } ∷ [] } }

-- the result of a command there
abbrev pub comes_to : ℕ → Fate → Command → Answer × Known UpState
comes_to n fate command = let c = next (up_rules mix_plan 2784) calm (with_fate_ahead n fate) command in (c.answer, c.known)

-- the power is off, with these streams and indices
abbrev pub off_with : Found → List ℕ → ℕ → Known UpState
off_with found up sent = record {
  kept = record {
    kept = record { power = powers.Off; streams = record { found = found; params = None } ∷ record { found = Closed; params = None } ∷ []; controls = [] };
    up = up;
    there = nowhere;
  };
  queue = record { sent = sent; entries = [] };
}

abbrev pub refused_by : ℤ → Answer
refused_by e = answers.Fault (Refused (record { 0 = e }))

-- An open is refused by the heap at its second message. Its third unmakes: where that is refused too the device is cut, and the first
-- refusal is reported; where it is lost, the link is down.
abbrev pub RefusedUnmakingCuts : Type 0
RefusedUnmakingCuts = comes_to 3 (fates.Refuse (negsuc 4)) (Open (codes "PCM1P")) ≡ (refused_by (negsuc 11), off_with FoundOpen (1 ∷ 3 ∷ []) 16)

abbrev pub LostUnmakingIsDown : Type 0
LostUnmakingIsDown = comes_to 3 fates.Lose (Open (codes "PCM1P")) ≡ (answers.Fault LinkDown, off_with FoundOpen (1 ∷ 3 ∷ []) 16)

-- a close whose first free is refused cuts the device: the stream is closed, and what was to go is not up
abbrev pub RefusedCloseCuts : Type 0
RefusedCloseCuts = comes_to 1 (fates.Refuse (negsuc 4)) (Close (codes "PCM0P")) ≡ (refused_by (negsuc 4), off_with Closed [] 14)

-- an open whose first message is dropped leaves the second stream closed, and what was up
abbrev pub DroppedMakingIsDown : Type 0
DroppedMakingIsDown = comes_to 1 fates.Drop (Open (codes "PCM1P")) ≡ (answers.Fault LinkDown, off_with FoundOpen (1 ∷ 3 ∷ []) 14)
