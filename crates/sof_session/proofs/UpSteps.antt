-- The rows of the mix graph, command by command.
use Rattle.std.proofs.Common.{◌≡◌, refl, sym, subst, ap, ◌∙◌, ℕ, List, [], ◌∷◌, Some, None, true}
use Rattle.std.specs.Prelude.{codes, negsuc}
use Rattle.sof_base.specs.declared.format.Format.TheVariants.{S32}
use Rattle.sof_base.specs.declared.hole.Hole.{Hole}
use Rattle.stream_law.specs.declared.graph.Kind.{Kind}
use Rattle.stream_law.specs.declared.graph.Kind.TheVariants.{HostPlay, DaiPlay, Mixer}
use Rattle.stream_law.specs.declared.graph.Setting.TheVariants.{Nothing}
use Rattle.stream_law.specs.declared.graph.Comp.{Comp}
use Rattle.stream_law.specs.declared.stream.Phase.TheVariants.{Idle}
use Rattle.stream_law.specs.State.{PieceView}
use Rattle.stream_law.specs.Ways.{reaches, is_echo, way_joins, ways_to, on_way, agree}
use Rattle.stream_law.specs.Joins.{would_cycle, stays}
use Rattle.mbox_link.specs.CalmDevice.{calm}
use Rattle.host_widgets.specs.declared.kept.Power.TheVariants.{On}
use Rattle.host_widgets.specs.declared.kept.Found.{Found}
use Rattle.host_widgets.specs.declared.kept.Found.TheVariants.{Open as FoundOpen, Closed}
use Rattle.host_widgets.specs.declared.kept.StreamRec.{StreamRec}
use Rattle.host_widgets.specs.declared.answers.Answer.{Answer}
use Rattle.host_widgets.specs.declared.answers.Answer.TheVariants as answers
use Rattle.host_widgets.specs.declared.answers.HostFault.TheVariants.{Refused}
use Rattle.sof_script.specs.declared.script.Command.{Command}
use Rattle.sof_script.specs.declared.script.Command.TheVariants.{Load, Open, Close}
use Rattle.sof_session.specs.Commands.{Known, first_known, next}
use Rattle.host_widgets.specs.UpState.{UpState}
use Rattle.sof_session.specs.UpCommands.{up_rules}
use Rattle.sof_session.specs.UpRows.{mix_plan, Seen, seen_over, ShowsUp, ShowUpOver, SecondStreamIsRefused, SharedPipelineStays, RefusedShowsUp, SharedShowsUp}

abbrev comp : ℕ → Kind → ℕ → Comp
comp id kind pipe = record { id = id; kind = kind; pipe = pipe; setting = Nothing; ramp = 0 }

abbrev hole : ℕ → ℕ → Hole
hole place size = record { place = place; size = size }

abbrev piece : ℕ → ℕ → ℕ → PieceView
piece id place size = record { id = id; place = place; size = size }

abbrev stream : Found → StreamRec
stream found = record { found = found; params = None }

-- what is seen of a command, by what it comes to
seen-step : (heap : ℕ) (known now : Known UpState) (command : Command) (commands : List Command) (answer : Answer) → (next (up_rules mix_plan heap) calm known command).answer ≡ answer → (next (up_rules mix_plan heap) calm known command).known ≡ now → seen_over mix_plan heap known (command ∷ commands) ≡ record { answer = answer; sent = now.queue.sent; up = now.kept.up; holes = now.kept.there.heap.holes } ∷ seen_over mix_plan heap now commands
seen-step heap known now command commands answer said is =
    ap (λ (q : Answer × Known UpState). let s : Seen = record { answer = q.0; sent = q.1.queue.sent; up = q.1.kept.up; holes = q.1.kept.there.heap.holes } in s ∷ seen_over mix_plan heap q.1 commands) (λ i. (said i, is i))

abbrev a0 : Known UpState
a0 = record {
  kept = record {
    kept = record { power = On; streams = stream Closed ∷ stream Closed ∷ []; controls = [] };
    up = [];
    there = record {
      heap = record { holes = hole 0 2784 ∷ []; pieces = [] };
      graph = record { comps = []; edges = []; pipes = []; joins = [] };
      streams = [];
    };
  };
  queue = record { sent = 0; entries = [] };
}

abbrev a1 : Known UpState
a1 = record {
  kept = record {
    kept = record { power = On; streams = stream FoundOpen ∷ stream Closed ∷ []; controls = [] };
    up = 1 ∷ 3 ∷ [];
    there = record {
      heap = record { holes = hole 2656 128 ∷ []; pieces = piece 0 0 64 ∷ piece 1 64 1568 ∷ piece 2 1632 64 ∷ piece 6 1696 32 ∷ piece 7 1728 800 ∷ piece 8 2528 64 ∷ piece 9 2592 64 ∷ [] };
      graph = record { comps = comp 0 HostPlay 1 ∷ comp 6 Mixer 3 ∷ comp 8 (DaiPlay S32) 3 ∷ []; edges = record { buffer = 1; pipe = 1; size = 1536; source = Some 0; sink = Some 6 } ∷ record { buffer = 7; pipe = 3; size = 768; source = Some 6; sink = Some 8 } ∷ []; pipes = record { id = 2; index = 1; sched = 0; period = 1000; complete = true } ∷ record { id = 9; index = 3; sched = 8; period = 1000; complete = true } ∷ []; joins = record { source = 0; sink = 1 } ∷ record { source = 1; sink = 6 } ∷ record { source = 6; sink = 7 } ∷ record { source = 7; sink = 8 } ∷ [] };
      streams = record { host = 0; phase = Idle; params = None } ∷ [];
    };
  };
  queue = record { sent = 13; entries = [] };
}

abbrev a2 : Known UpState
a2 = record {
  kept = record {
    kept = record { power = On; streams = stream FoundOpen ∷ stream Closed ∷ []; controls = [] };
    up = 1 ∷ 3 ∷ [];
    there = record {
      heap = record { holes = hole 2656 128 ∷ []; pieces = piece 0 0 64 ∷ piece 1 64 1568 ∷ piece 2 1632 64 ∷ piece 6 1696 32 ∷ piece 7 1728 800 ∷ piece 8 2528 64 ∷ piece 9 2592 64 ∷ [] };
      graph = record { comps = comp 0 HostPlay 1 ∷ comp 6 Mixer 3 ∷ comp 8 (DaiPlay S32) 3 ∷ []; edges = record { buffer = 1; pipe = 1; size = 1536; source = Some 0; sink = Some 6 } ∷ record { buffer = 7; pipe = 3; size = 768; source = Some 6; sink = Some 8 } ∷ []; pipes = record { id = 2; index = 1; sched = 0; period = 1000; complete = true } ∷ record { id = 9; index = 3; sched = 8; period = 1000; complete = true } ∷ []; joins = record { source = 0; sink = 1 } ∷ record { source = 1; sink = 6 } ∷ record { source = 6; sink = 7 } ∷ record { source = 7; sink = 8 } ∷ [] };
      streams = record { host = 0; phase = Idle; params = None } ∷ [];
    };
  };
  queue = record { sent = 16; entries = [] };
}

abbrev a3 : Known UpState
a3 = record {
  kept = record {
    kept = record { power = On; streams = stream Closed ∷ stream Closed ∷ []; controls = [] };
    up = [];
    there = record {
      heap = record { holes = hole 0 2784 ∷ []; pieces = [] };
      graph = record { comps = []; edges = []; pipes = []; joins = [] };
      streams = [];
    };
  };
  queue = record { sent = 23; entries = [] };
}

abbrev a4 : Known UpState
a4 = record {
  kept = record {
    kept = record { power = On; streams = stream Closed ∷ stream FoundOpen ∷ []; controls = [] };
    up = 2 ∷ 3 ∷ [];
    there = record {
      heap = record { holes = hole 2656 128 ∷ []; pieces = piece 3 0 64 ∷ piece 4 64 1568 ∷ piece 5 1632 64 ∷ piece 6 1696 32 ∷ piece 7 1728 800 ∷ piece 8 2528 64 ∷ piece 9 2592 64 ∷ [] };
      graph = record { comps = comp 3 HostPlay 2 ∷ comp 6 Mixer 3 ∷ comp 8 (DaiPlay S32) 3 ∷ []; edges = record { buffer = 4; pipe = 2; size = 1536; source = Some 3; sink = Some 6 } ∷ record { buffer = 7; pipe = 3; size = 768; source = Some 6; sink = Some 8 } ∷ []; pipes = record { id = 5; index = 2; sched = 3; period = 4000; complete = true } ∷ record { id = 9; index = 3; sched = 8; period = 1000; complete = true } ∷ []; joins = record { source = 3; sink = 4 } ∷ record { source = 4; sink = 6 } ∷ record { source = 6; sink = 7 } ∷ record { source = 7; sink = 8 } ∷ [] };
      streams = record { host = 3; phase = Idle; params = None } ∷ [];
    };
  };
  queue = record { sent = 36; entries = [] };
}

a0-known : (next (up_rules mix_plan 2784) calm (first_known (up_rules mix_plan 2784)) (Load)).known ≡ a0
unfolding reaches is_echo way_joins ways_to on_way would_cycle stays agree
a0-known = refl

a0-said : (next (up_rules mix_plan 2784) calm (first_known (up_rules mix_plan 2784)) (Load)).answer ≡ answers.Done
unfolding reaches is_echo way_joins ways_to on_way would_cycle stays agree
a0-said = refl

a1-known : (next (up_rules mix_plan 2784) calm a0 (Open (codes "PCM0P"))).known ≡ a1
unfolding reaches is_echo way_joins ways_to on_way would_cycle stays agree
a1-known = refl

a1-said : (next (up_rules mix_plan 2784) calm a0 (Open (codes "PCM0P"))).answer ≡ answers.Done
unfolding reaches is_echo way_joins ways_to on_way would_cycle stays agree
a1-said = refl

a2-known : (next (up_rules mix_plan 2784) calm a1 (Open (codes "PCM1P"))).known ≡ a2
unfolding reaches is_echo way_joins ways_to on_way would_cycle stays agree
a2-known = refl

a2-said : (next (up_rules mix_plan 2784) calm a1 (Open (codes "PCM1P"))).answer ≡ answers.Fault (Refused (record { 0 = negsuc 11 }))
unfolding reaches is_echo way_joins ways_to on_way would_cycle stays agree
a2-said = refl

a3-known : (next (up_rules mix_plan 2784) calm a2 (Close (codes "PCM0P"))).known ≡ a3
unfolding reaches is_echo way_joins ways_to on_way would_cycle stays agree
a3-known = refl

a3-said : (next (up_rules mix_plan 2784) calm a2 (Close (codes "PCM0P"))).answer ≡ answers.Done
unfolding reaches is_echo way_joins ways_to on_way would_cycle stays agree
a3-said = refl

a4-known : (next (up_rules mix_plan 2784) calm a3 (Open (codes "PCM1P"))).known ≡ a4
unfolding reaches is_echo way_joins ways_to on_way would_cycle stays agree
a4-known = refl

a4-said : (next (up_rules mix_plan 2784) calm a3 (Open (codes "PCM1P"))).answer ≡ answers.Done
unfolding reaches is_echo way_joins ways_to on_way would_cycle stays agree
a4-said = refl

abbrev b0 : Known UpState
b0 = record {
  kept = record {
    kept = record { power = On; streams = stream Closed ∷ stream Closed ∷ []; controls = [] };
    up = [];
    there = record {
      heap = record { holes = hole 0 4352 ∷ []; pieces = [] };
      graph = record { comps = []; edges = []; pipes = []; joins = [] };
      streams = [];
    };
  };
  queue = record { sent = 0; entries = [] };
}

abbrev b1 : Known UpState
b1 = record {
  kept = record {
    kept = record { power = On; streams = stream FoundOpen ∷ stream Closed ∷ []; controls = [] };
    up = 1 ∷ 3 ∷ [];
    there = record {
      heap = record { holes = hole 2656 1696 ∷ []; pieces = piece 0 0 64 ∷ piece 1 64 1568 ∷ piece 2 1632 64 ∷ piece 6 1696 32 ∷ piece 7 1728 800 ∷ piece 8 2528 64 ∷ piece 9 2592 64 ∷ [] };
      graph = record { comps = comp 0 HostPlay 1 ∷ comp 6 Mixer 3 ∷ comp 8 (DaiPlay S32) 3 ∷ []; edges = record { buffer = 1; pipe = 1; size = 1536; source = Some 0; sink = Some 6 } ∷ record { buffer = 7; pipe = 3; size = 768; source = Some 6; sink = Some 8 } ∷ []; pipes = record { id = 2; index = 1; sched = 0; period = 1000; complete = true } ∷ record { id = 9; index = 3; sched = 8; period = 1000; complete = true } ∷ []; joins = record { source = 0; sink = 1 } ∷ record { source = 1; sink = 6 } ∷ record { source = 6; sink = 7 } ∷ record { source = 7; sink = 8 } ∷ [] };
      streams = record { host = 0; phase = Idle; params = None } ∷ [];
    };
  };
  queue = record { sent = 13; entries = [] };
}

abbrev b2 : Known UpState
b2 = record {
  kept = record {
    kept = record { power = On; streams = stream FoundOpen ∷ stream FoundOpen ∷ []; controls = [] };
    up = 1 ∷ 3 ∷ 2 ∷ [];
    there = record {
      heap = record { holes = []; pieces = piece 0 0 64 ∷ piece 1 64 1568 ∷ piece 2 1632 64 ∷ piece 3 2656 64 ∷ piece 4 2720 1568 ∷ piece 5 4288 64 ∷ piece 6 1696 32 ∷ piece 7 1728 800 ∷ piece 8 2528 64 ∷ piece 9 2592 64 ∷ [] };
      graph = record { comps = comp 0 HostPlay 1 ∷ comp 3 HostPlay 2 ∷ comp 6 Mixer 3 ∷ comp 8 (DaiPlay S32) 3 ∷ []; edges = record { buffer = 1; pipe = 1; size = 1536; source = Some 0; sink = Some 6 } ∷ record { buffer = 4; pipe = 2; size = 1536; source = Some 3; sink = Some 6 } ∷ record { buffer = 7; pipe = 3; size = 768; source = Some 6; sink = Some 8 } ∷ []; pipes = record { id = 2; index = 1; sched = 0; period = 1000; complete = true } ∷ record { id = 5; index = 2; sched = 3; period = 4000; complete = true } ∷ record { id = 9; index = 3; sched = 8; period = 1000; complete = true } ∷ []; joins = record { source = 0; sink = 1 } ∷ record { source = 1; sink = 6 } ∷ record { source = 6; sink = 7 } ∷ record { source = 7; sink = 8 } ∷ record { source = 3; sink = 4 } ∷ record { source = 4; sink = 6 } ∷ [] };
      streams = record { host = 0; phase = Idle; params = None } ∷ record { host = 3; phase = Idle; params = None } ∷ [];
    };
  };
  queue = record { sent = 19; entries = [] };
}

abbrev b3 : Known UpState
b3 = record {
  kept = record {
    kept = record { power = On; streams = stream Closed ∷ stream FoundOpen ∷ []; controls = [] };
    up = 3 ∷ 2 ∷ [];
    there = record {
      heap = record { holes = hole 0 1696 ∷ []; pieces = piece 3 2656 64 ∷ piece 4 2720 1568 ∷ piece 5 4288 64 ∷ piece 6 1696 32 ∷ piece 7 1728 800 ∷ piece 8 2528 64 ∷ piece 9 2592 64 ∷ [] };
      graph = record { comps = comp 3 HostPlay 2 ∷ comp 6 Mixer 3 ∷ comp 8 (DaiPlay S32) 3 ∷ []; edges = record { buffer = 4; pipe = 2; size = 1536; source = Some 3; sink = Some 6 } ∷ record { buffer = 7; pipe = 3; size = 768; source = Some 6; sink = Some 8 } ∷ []; pipes = record { id = 5; index = 2; sched = 3; period = 4000; complete = true } ∷ record { id = 9; index = 3; sched = 8; period = 1000; complete = true } ∷ []; joins = record { source = 6; sink = 7 } ∷ record { source = 7; sink = 8 } ∷ record { source = 3; sink = 4 } ∷ record { source = 4; sink = 6 } ∷ [] };
      streams = record { host = 3; phase = Idle; params = None } ∷ [];
    };
  };
  queue = record { sent = 22; entries = [] };
}

abbrev b4 : Known UpState
b4 = record {
  kept = record {
    kept = record { power = On; streams = stream FoundOpen ∷ stream FoundOpen ∷ []; controls = [] };
    up = 3 ∷ 2 ∷ 1 ∷ [];
    there = record {
      heap = record { holes = []; pieces = piece 0 0 64 ∷ piece 1 64 1568 ∷ piece 2 1632 64 ∷ piece 3 2656 64 ∷ piece 4 2720 1568 ∷ piece 5 4288 64 ∷ piece 6 1696 32 ∷ piece 7 1728 800 ∷ piece 8 2528 64 ∷ piece 9 2592 64 ∷ [] };
      graph = record { comps = comp 0 HostPlay 1 ∷ comp 3 HostPlay 2 ∷ comp 6 Mixer 3 ∷ comp 8 (DaiPlay S32) 3 ∷ []; edges = record { buffer = 1; pipe = 1; size = 1536; source = Some 0; sink = Some 6 } ∷ record { buffer = 4; pipe = 2; size = 1536; source = Some 3; sink = Some 6 } ∷ record { buffer = 7; pipe = 3; size = 768; source = Some 6; sink = Some 8 } ∷ []; pipes = record { id = 2; index = 1; sched = 0; period = 1000; complete = true } ∷ record { id = 5; index = 2; sched = 3; period = 4000; complete = true } ∷ record { id = 9; index = 3; sched = 8; period = 1000; complete = true } ∷ []; joins = record { source = 6; sink = 7 } ∷ record { source = 7; sink = 8 } ∷ record { source = 3; sink = 4 } ∷ record { source = 4; sink = 6 } ∷ record { source = 0; sink = 1 } ∷ record { source = 1; sink = 6 } ∷ [] };
      streams = record { host = 0; phase = Idle; params = None } ∷ record { host = 3; phase = Idle; params = None } ∷ [];
    };
  };
  queue = record { sent = 28; entries = [] };
}

b0-known : (next (up_rules mix_plan 4352) calm (first_known (up_rules mix_plan 4352)) (Load)).known ≡ b0
unfolding reaches is_echo way_joins ways_to on_way would_cycle stays agree
b0-known = refl

b0-said : (next (up_rules mix_plan 4352) calm (first_known (up_rules mix_plan 4352)) (Load)).answer ≡ answers.Done
unfolding reaches is_echo way_joins ways_to on_way would_cycle stays agree
b0-said = refl

b1-known : (next (up_rules mix_plan 4352) calm b0 (Open (codes "PCM0P"))).known ≡ b1
unfolding reaches is_echo way_joins ways_to on_way would_cycle stays agree
b1-known = refl

b1-said : (next (up_rules mix_plan 4352) calm b0 (Open (codes "PCM0P"))).answer ≡ answers.Done
unfolding reaches is_echo way_joins ways_to on_way would_cycle stays agree
b1-said = refl

b2-known : (next (up_rules mix_plan 4352) calm b1 (Open (codes "PCM1P"))).known ≡ b2
unfolding reaches is_echo way_joins ways_to on_way would_cycle stays agree
b2-known = refl

b2-said : (next (up_rules mix_plan 4352) calm b1 (Open (codes "PCM1P"))).answer ≡ answers.Done
unfolding reaches is_echo way_joins ways_to on_way would_cycle stays agree
b2-said = refl

b3-known : (next (up_rules mix_plan 4352) calm b2 (Close (codes "PCM0P"))).known ≡ b3
unfolding reaches is_echo way_joins ways_to on_way would_cycle stays agree
b3-known = refl

b3-said : (next (up_rules mix_plan 4352) calm b2 (Close (codes "PCM0P"))).answer ≡ answers.Done
unfolding reaches is_echo way_joins ways_to on_way would_cycle stays agree
b3-said = refl

b4-known : (next (up_rules mix_plan 4352) calm b3 (Open (codes "PCM0P"))).known ≡ b4
unfolding reaches is_echo way_joins ways_to on_way would_cycle stays agree
b4-known = refl

b4-said : (next (up_rules mix_plan 4352) calm b3 (Open (codes "PCM0P"))).answer ≡ answers.Done
unfolding reaches is_echo way_joins ways_to on_way would_cycle stays agree
b4-said = refl

abbrev sa0 : Seen
sa0 = record { answer = answers.Done; sent = a0.queue.sent; up = a0.kept.up; holes = a0.kept.there.heap.holes }

abbrev sa1 : Seen
sa1 = record { answer = answers.Done; sent = a1.queue.sent; up = a1.kept.up; holes = a1.kept.there.heap.holes }

abbrev sa2 : Seen
sa2 = record { answer = answers.Fault (Refused (record { 0 = negsuc 11 })); sent = a2.queue.sent; up = a2.kept.up; holes = a2.kept.there.heap.holes }

abbrev sa3 : Seen
sa3 = record { answer = answers.Done; sent = a3.queue.sent; up = a3.kept.up; holes = a3.kept.there.heap.holes }

abbrev sb0 : Seen
sb0 = record { answer = answers.Done; sent = b0.queue.sent; up = b0.kept.up; holes = b0.kept.there.heap.holes }

abbrev sb1 : Seen
sb1 = record { answer = answers.Done; sent = b1.queue.sent; up = b1.kept.up; holes = b1.kept.there.heap.holes }

abbrev sb2 : Seen
sb2 = record { answer = answers.Done; sent = b2.queue.sent; up = b2.kept.up; holes = b2.kept.there.heap.holes }

abbrev sb3 : Seen
sb3 = record { answer = answers.Done; sent = b3.queue.sent; up = b3.kept.up; holes = b3.kept.there.heap.holes }

pub row-a : SecondStreamIsRefused
row-a =
    seen-step 2784 (first_known (up_rules mix_plan 2784)) a0 (Load) ((Open (codes "PCM0P")) ∷ (Open (codes "PCM1P")) ∷ (Close (codes "PCM0P")) ∷ (Open (codes "PCM1P")) ∷ []) answers.Done a0-said a0-known
    ∙ ap (λ (rest : List Seen). sa0 ∷ rest) (seen-step 2784 a0 a1 (Open (codes "PCM0P")) ((Open (codes "PCM1P")) ∷ (Close (codes "PCM0P")) ∷ (Open (codes "PCM1P")) ∷ []) answers.Done a1-said a1-known)
    ∙ ap (λ (rest : List Seen). sa0 ∷ sa1 ∷ rest) (seen-step 2784 a1 a2 (Open (codes "PCM1P")) ((Close (codes "PCM0P")) ∷ (Open (codes "PCM1P")) ∷ []) (answers.Fault (Refused (record { 0 = negsuc 11 }))) a2-said a2-known)
    ∙ ap (λ (rest : List Seen). sa0 ∷ sa1 ∷ sa2 ∷ rest) (seen-step 2784 a2 a3 (Close (codes "PCM0P")) ((Open (codes "PCM1P")) ∷ []) answers.Done a3-said a3-known)
    ∙ ap (λ (rest : List Seen). sa0 ∷ sa1 ∷ sa2 ∷ sa3 ∷ rest) (seen-step 2784 a3 a4 (Open (codes "PCM1P")) ([]) answers.Done a4-said a4-known)

pub row-b : SharedPipelineStays
row-b =
    seen-step 4352 (first_known (up_rules mix_plan 4352)) b0 (Load) ((Open (codes "PCM0P")) ∷ (Open (codes "PCM1P")) ∷ (Close (codes "PCM0P")) ∷ (Open (codes "PCM0P")) ∷ []) answers.Done b0-said b0-known
    ∙ ap (λ (rest : List Seen). sb0 ∷ rest) (seen-step 4352 b0 b1 (Open (codes "PCM0P")) ((Open (codes "PCM1P")) ∷ (Close (codes "PCM0P")) ∷ (Open (codes "PCM0P")) ∷ []) answers.Done b1-said b1-known)
    ∙ ap (λ (rest : List Seen). sb0 ∷ sb1 ∷ rest) (seen-step 4352 b1 b2 (Open (codes "PCM1P")) ((Close (codes "PCM0P")) ∷ (Open (codes "PCM0P")) ∷ []) answers.Done b2-said b2-known)
    ∙ ap (λ (rest : List Seen). sb0 ∷ sb1 ∷ sb2 ∷ rest) (seen-step 4352 b2 b3 (Close (codes "PCM0P")) ((Open (codes "PCM0P")) ∷ []) answers.Done b3-said b3-known)
    ∙ ap (λ (rest : List Seen). sb0 ∷ sb1 ∷ sb2 ∷ sb3 ∷ rest) (seen-step 4352 b3 b4 (Open (codes "PCM0P")) ([]) answers.Done b4-said b4-known)

a0-shows : ShowsUp a0
unfolding reaches is_echo way_joins ways_to on_way would_cycle stays agree
a0-shows = refl

a1-shows : ShowsUp a1
unfolding reaches is_echo way_joins ways_to on_way would_cycle stays agree
a1-shows = refl

a2-shows : ShowsUp a2
unfolding reaches is_echo way_joins ways_to on_way would_cycle stays agree
a2-shows = refl

a3-shows : ShowsUp a3
unfolding reaches is_echo way_joins ways_to on_way would_cycle stays agree
a3-shows = refl

a4-shows : ShowsUp a4
unfolding reaches is_echo way_joins ways_to on_way would_cycle stays agree
a4-shows = refl

pub shows-a : RefusedShowsUp
shows-a = subst (λ (k : Known UpState). ShowsUp k × ShowUpOver 2784 k ((Open (codes "PCM0P")) ∷ (Open (codes "PCM1P")) ∷ (Close (codes "PCM0P")) ∷ (Open (codes "PCM1P")) ∷ [])) (sym a0-known) (a0-shows, subst (λ (k : Known UpState). ShowsUp k × ShowUpOver 2784 k ((Open (codes "PCM1P")) ∷ (Close (codes "PCM0P")) ∷ (Open (codes "PCM1P")) ∷ [])) (sym a1-known) (a1-shows, subst (λ (k : Known UpState). ShowsUp k × ShowUpOver 2784 k ((Close (codes "PCM0P")) ∷ (Open (codes "PCM1P")) ∷ [])) (sym a2-known) (a2-shows, subst (λ (k : Known UpState). ShowsUp k × ShowUpOver 2784 k ((Open (codes "PCM1P")) ∷ [])) (sym a3-known) (a3-shows, subst (λ (k : Known UpState). ShowsUp k × ShowUpOver 2784 k ([])) (sym a4-known) (a4-shows, tt)))))

b0-shows : ShowsUp b0
unfolding reaches is_echo way_joins ways_to on_way would_cycle stays agree
b0-shows = refl

b1-shows : ShowsUp b1
unfolding reaches is_echo way_joins ways_to on_way would_cycle stays agree
b1-shows = refl

b2-shows : ShowsUp b2
unfolding reaches is_echo way_joins ways_to on_way would_cycle stays agree
b2-shows = refl

b3-shows : ShowsUp b3
unfolding reaches is_echo way_joins ways_to on_way would_cycle stays agree
b3-shows = refl

b4-shows : ShowsUp b4
unfolding reaches is_echo way_joins ways_to on_way would_cycle stays agree
b4-shows = refl

pub shows-b : SharedShowsUp
shows-b = subst (λ (k : Known UpState). ShowsUp k × ShowUpOver 4352 k ((Open (codes "PCM0P")) ∷ (Open (codes "PCM1P")) ∷ (Close (codes "PCM0P")) ∷ (Open (codes "PCM0P")) ∷ [])) (sym b0-known) (b0-shows, subst (λ (k : Known UpState). ShowsUp k × ShowUpOver 4352 k ((Open (codes "PCM1P")) ∷ (Close (codes "PCM0P")) ∷ (Open (codes "PCM0P")) ∷ [])) (sym b1-known) (b1-shows, subst (λ (k : Known UpState). ShowsUp k × ShowUpOver 4352 k ((Close (codes "PCM0P")) ∷ (Open (codes "PCM0P")) ∷ [])) (sym b2-known) (b2-shows, subst (λ (k : Known UpState). ShowsUp k × ShowUpOver 4352 k ((Open (codes "PCM0P")) ∷ [])) (sym b3-known) (b3-shows, subst (λ (k : Known UpState). ShowsUp k × ShowUpOver 4352 k ([])) (sym b4-known) (b4-shows, tt)))))
