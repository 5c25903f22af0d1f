-- What is to do, as one list: what was done is that list, or its front.
use Rattle.std.proofs.Common.{◌≡◌, inl, inr, ℕ, Bool, true, false, List, [], ◌∷◌, ◌++◌, map, Option, Some, None, MatchOption, Result, Ok, Err, refl, sym, ◌∙◌, ap, subst, codes}
use Rattle.sof_desk.specs.declared.calls.LoadFault.TheVariants.{Failed, TooLong, OutOfMemory}
use Rattle.sof_desk.specs.Desk.{DeskAct, Heard, DeskCall, Load, Did, Read}
use Rattle.tplg_model.specs.declared.block.Topology.{Topology}
use Rattle.tplg_plan.specs.declared.plans.Plan.{Plan}
use Rattle.tplg_compile.specs.declared.source_fault.SourceFault.{SourceFault}
use Rattle.tplg_graph.specs.PlanOf.{plan_of}
use Rattle.tplg_compile.specs.InOrder.{compiled_of}
use Rattle.sof_script.specs.Commands.{Bound, Read as ReadScript}
use Rattle.sof_script.specs.Tasks.{Out, Task, Begin, Carry, Fill, Give, Turn}
use Rattle.mbox_link.specs.Calls as device
use Rattle.run_desk.specs.declared.preparing.Halt.{Halt}
use Rattle.run_words.specs.Words.{Form}
use Rattle.run_desk.specs.Todo.{Todo, End, Stop, Ask, Do, Step, Refill, Send, Free, Says, Over, DoneBy}
use Rattle.run_desk.specs.DeskCalls.{reading, answer_in, heard_in}
use Rattle.run_desk.specs.Bindings.{binding_act, bound_inputs, bound_slots}
use Rattle.run_play.specs.Keeping.{trace_acts}
use Rattle.run_play.specs.Rounds.{Round, rounds_of}
use Rattle.run_desk.specs.Lines.{no_memory_line, with_newline}
use Rattle.run_play.specs.Pieces.{lines_after, Piece, pieces_of}
use Rattle.run_desk.specs.Prepared.{prepared, checked}
use Rattle.tplg_source.specs.Outcome.{source_for}
use Rattle.run_play.specs.Play.{prepared_todo, ready_todo, rounds_todo, session_todo, bindings_todo, acts_todo, traced_todo, play}
use Rattle.run_desk.specs.LinesTodo.{lines_todo}
use Rattle.run_tools.specs.Checking.{count_lines}
use Rattle.run_tools.specs.Picturing.{picture_lines}
use Rattle.run_tools.specs.CheckTodo.{said_todo, checked_todo, check}
use Rattle.run_tools.specs.CompileTodo.{compiled_todo}
use Rattle.run_tools.specs.SourceTodo.{kept_todo, sourced_todo}
use Rattle.sof_stress.specs.declared.counts.Counts.{Counts}
use Rattle.sof_stress.specs.Draws.{stream_count}
use Rattle.sof_stress.specs.StressPorts.{dai_slot}
use Rattle.sof_stress.specs.CommandTurns.{CommandTurn, turn_counted, no_counts}
use Rattle.sof_stress.specs.StressRun.{stress_begins, stress_turns}
use Rattle.sof_run.specs.Stressing.{stress_lines}
use Rattle.sof_run.specs.StressTodo.{counted_todo, told_todo, stress}
use Rattle.ipc3_trace.specs.declared.entry.Entry.{Entry}
use Rattle.ipc3_trace.specs.declared.entry.Entry.TheVariants as entries
use Rattle.ipc3_trace.specs.declared.fault.TraceFault.{TraceFault}
use Rattle.ipc3_trace.specs.declared.fault.ReplayFault.{ReplayFault}
use Rattle.ipc3_trace.specs.EntryLines.{entry_line}
use Rattle.ipc3_trace.specs.Reading.{trace_in}
use Rattle.run_tools.specs.DecodeTodo.{decoded_todo}
use Rattle.run_replay.specs.Replaying.{next_place, record_fault, end_fault, on_after, tally_of, replay_lines}
use Rattle.run_replay.specs.ReplayTodo.{without_fault, replied_todo, give_todo, given_todo, replayed_todo}
use Rattle.run_words.specs.Requests.{Request, Play, Check, Picture, Compile, Source, Stress, Decode, Replay, request_of}
use Rattle.sof_run.specs.Forms.{todo_for, todo_of}
use Rattle.sof_run.specs.Calls.{Item, Calls, Turns, Memory, Course, before_course, said_item, last_line, load_course, turning, filling_by, filling, putting, units, bindings, files, playing, counting, checking, making_source, keeping, sourcing, recounting, sending, faulting, replying, giving, giving_all, replaying, counting_turns, telling_counts, stressing, Wants, Made, course}
use Rattle.sof_run.specs.ComeTo.{IsMade}
use Rattle.sof_run.specs.Findings.{FollowsCourse}
use Rattle.run_play.proofs.WrittenPieces.{puts, puts_flush}
use Rattle.run_desk.proofs.LoadedBytes.{heard_behind, loads_bring}
use Rattle.sof_run.proofs.Findings.{run_of, as_prepared, prepared_same, run_heard, topology_heard, source_heard, trace_heard, findings_of, are_found}

-- ---- what is to do, unrolled

-- a load, and what comes after it by the bytes
abbrev loading : List ℕ → ℕ → List ℕ → List Heard → (List ℕ → List Heard → Course) → Course
loading name limit line [] next = record { items = Calls (Load name limit (Err Failed)) ∷ []; status = 3 }
loading name limit line (Ok bytes ∷ heard) next = before_course (Calls (Load name limit (Ok bytes)) ∷ []) (next bytes heard)
loading name limit line (Err TooLong ∷ heard) next = before_course (Calls (Load name limit (Err TooLong)) ∷ []) (last_line line 5)
loading name limit line (Err OutOfMemory ∷ heard) next = before_course (Calls (Load name limit (Err OutOfMemory)) ∷ []) (last_line no_memory_line 7)
loading name limit line (Err Failed ∷ heard) next = record { items = Calls (Load name limit (Err Failed)) ∷ []; status = 3 }

abbrev unrolled : Todo → List Heard → List Turn → Course
unrolled End heard turns = record { items = []; status = 0 }
unrolled (Stop line n) heard turns = last_line line n
unrolled (Ask name limit line next) heard turns = loading name limit line heard (λ bytes heard. unrolled (next bytes) heard turns)
unrolled (Do act next) heard turns = before_course (Calls (Did act true) ∷ []) (unrolled next heard turns)
unrolled (Step task next) heard turns = turning task turns (λ out turns. unrolled (next out) heard turns)
unrolled (Refill next) heard turns = filling turns (λ turns. unrolled next heard turns)
unrolled (Send message next) heard turns = sending message turns (λ reply turns. unrolled (next reply) heard turns)
unrolled (Free next) heard turns = before_course (Memory ∷ []) (unrolled next heard turns)

said : (line : List ℕ) (n : ℕ) (turns : List Turn) (calls : List DeskCall) (status : ℕ) → Says line n turns calls status → IsMade (last_line line n) turns calls status
said line n turns [] status says = absurd says
said line n turns (Load name limit heard ∷ calls) status says = absurd says
said line n turns (Read slot size got ∷ calls) status says = absurd says
said line n turns (Did act true ∷ calls) status says = inl (ap (λ a. Did a true) says.0, (says.1, says.2, says.3))
said line n turns (Did act false ∷ calls) status says = inr (ap (λ a. Did a false) says.0, says.1, says.2, says.3)

wanted : (turns : List Turn) (calls : List DeskCall) (status : ℕ) → Says no_memory_line 7 turns calls status → Wants turns calls status
wanted turns [] status says = absurd says
wanted turns (Load name limit heard ∷ calls) status says = absurd says
wanted turns (Read n size got ∷ calls) status says = absurd says
wanted turns (Did act true ∷ calls) status says = says
wanted turns (Did act false ∷ calls) status says = says

-- reads, and what comes after them
reads_made : (reads : List (ℕ × List ℕ)) (items : List Item) (end : ℕ) (turns : List Turn) (later : List DeskCall) (status : ℕ) → Made items end turns later status → Made (map Calls (reading reads None) ++ items) end turns (reading reads None ++ later) status
reads_made [] items end turns later status made = made
reads_made ((slot, bytes) ∷ reads) items end turns later status made = (refl, reads_made reads items end turns later status made)

reads_broke : (reads : List (ℕ × List ℕ)) (slot : ℕ) → Made (map Calls (reading reads (Some slot))) 3 [] (reading reads (Some slot) ++ []) 3
reads_broke [] slot = (refl, (refl, refl, refl))
reads_broke ((other, bytes) ∷ reads) slot = (refl, reads_broke reads slot)

-- a turn that fills the inputs, done or broken off
module _ (next : List Turn → List Heard → Course) (reads : List (ℕ × List ℕ)) (turn : Turn) (turns : List Turn) (later : List DeskCall) (status : ℕ) where
  filling_made : turn.task ≡ Fill reads None → IsMade (next turns (heard_in later)) turns later status → IsMade (filling_by turn.task (next turns (heard_in (reading reads None ++ later)))) (turn ∷ turns) (reading reads None ++ later) status
  filling_made is made =
      subst (λ (task : Task). IsMade (filling_by task (next turns (heard_in (reading reads None ++ later)))) (turn ∷ turns) (reading reads None ++ later) status) (sym is) (
        is,
        subst (λ heard. Made (map Calls (reading reads None) ++ (next turns heard).items) (next turns heard).status turns (reading reads None ++ later) status) (sym (heard_behind reads None later))
            (reads_made reads (next turns (heard_in later)).items (next turns (heard_in later)).status turns later status made),
      )

  filling_broke : (slot : ℕ) → turn.task ≡ Fill reads (Some slot) → Over 3 turns later status → (course : Course) → IsMade (filling_by turn.task course) (turn ∷ turns) (reading reads (Some slot) ++ later) status
  filling_broke slot is over course =
      subst (λ (task : Task). IsMade (filling_by task course) (turn ∷ turns) (reading reads (Some slot) ++ later) status) (sym is) (
        is,
        subst (λ n. Made (map Calls (reading reads (Some slot))) 3 turns (reading reads (Some slot) ++ later) n) (sym over.2)
            (subst (λ cs. Made (map Calls (reading reads (Some slot))) 3 turns (reading reads (Some slot) ++ cs) 3) (sym over.1)
            (subst (λ ts. Made (map Calls (reading reads (Some slot))) 3 ts (reading reads (Some slot) ++ []) 3) (sym over.0) (reads_broke reads slot))),
      )

made : (todo : Todo) (turns : List Turn) (calls : List DeskCall) (status : ℕ) → DoneBy todo turns calls status → IsMade (unrolled todo (heard_in calls) turns) turns calls status
made End turns calls status goes = goes
made (Stop line n) turns calls status goes = said line n turns calls status goes
made (Ask name limit line next) turns [] status goes = absurd goes
made (Ask name limit line next) turns (Did act done ∷ calls) status goes = absurd goes
made (Ask name limit line next) turns (Read n size got ∷ calls) status goes = absurd goes
made (Ask name limit line next) turns (Load n l (Ok bytes) ∷ calls) status goes = (λ i. Load (goes.0 i) (goes.1 i) (Ok bytes), made (next bytes) turns calls status goes.2)
made (Ask name limit line next) turns (Load n l (Err TooLong) ∷ calls) status goes = (λ i. Load (goes.0 i) (goes.1 i) (Err TooLong), said line 5 turns calls status goes.2)
made (Ask name limit line next) turns (Load n l (Err OutOfMemory) ∷ calls) status goes = (λ i. Load (goes.0 i) (goes.1 i) (Err OutOfMemory), said no_memory_line 7 turns calls status goes.2)
made (Ask name limit line next) turns (Load n l (Err Failed) ∷ calls) status goes = (λ i. Load (goes.0 i) (goes.1 i) (Err Failed), goes.2)
made (Do act next) turns [] status goes = absurd goes
made (Do act next) turns (Load n l heard ∷ calls) status goes = absurd goes
made (Do act next) turns (Read n size got ∷ calls) status goes = absurd goes
made (Do act next) turns (Did a true ∷ calls) status goes = inl (ap (λ x. Did x true) goes.0, made next turns calls status goes.1)
made (Do act next) turns (Did a false ∷ calls) status goes = inr (ap (λ x. Did x false) goes.0, goes.1.0, goes.1.1, goes.1.2)
made (Step task next) (turn ∷ turns) calls status goes = (goes.0, made (next turn.out) turns calls status goes.1)
made (Refill next) (turn ∷ turns) calls status goes =
    let f = goes.0 in
    subst (λ cs. IsMade (filling_by turn.task (unrolled next (heard_in cs) turns)) (turn ∷ turns) cs status) (sym f.calls_are)
    ((elim f.failed as (λ failed. turn.task ≡ Fill f.reads failed → MatchOption failed (DoneBy next turns f.later status) (λ slot. Over 3 turns f.later status) → IsMade (filling_by turn.task (unrolled next (heard_in (reading f.reads failed ++ f.later)) turns)) (turn ∷ turns) (reading f.reads failed ++ f.later) status) [
      | None ↦ λ is done. filling_made (λ ts heard. unrolled next heard ts) f.reads turn turns f.later status is (made next turns f.later status done)
      | Some slot ↦ λ is over. filling_broke (λ ts heard. unrolled next heard ts) f.reads turn turns f.later status slot is over (unrolled next (heard_in (reading f.reads (Some slot) ++ f.later)) turns)
    ]) f.task goes.1)
made (Send message next) (turn ∷ turns) calls status goes = (goes.0, made (next (answer_in turn.task)) turns calls status goes.1)
made (Free next) turns calls status (inl goes) = inl (made next turns calls status goes)
made (Free next) turns calls status (inr says) = inr (wanted turns calls status says)
made todo [] calls status goes = absurd goes

-- ---- the same, form by form

loading-same : (name : List ℕ) (limit : ℕ) (line : List ℕ) (heard : List Heard) (f : List ℕ → List Heard → Course) (g : List Heard → Course) → ((bytes : List ℕ) (later : List Heard) → heard ≡ Ok bytes ∷ later → f bytes later ≡ g later) → loading name limit line heard f ≡ load_course name limit line heard g
loading-same name limit line [] f g same = refl
loading-same name limit line (Ok bytes ∷ later) f g same = ap (before_course (Calls (Load name limit (Ok bytes)) ∷ [])) (same bytes later refl)
loading-same name limit line (Err TooLong ∷ later) f g same = refl
loading-same name limit line (Err OutOfMemory ∷ later) f g same = refl
loading-same name limit line (Err Failed ∷ later) f g same = refl

turning-same : (task : Task) (turns : List Turn) (f g : Out → List Turn → Course) → ((out : Out) (turns : List Turn) → f out turns ≡ g out turns) → turning task turns f ≡ turning task turns g
turning-same task [] f g same = refl
turning-same task (turn ∷ turns) f g same = ap (before_course (Turns task ∷ [])) (same turn.out turns)

filling-same : (turns : List Turn) (f g : List Turn → Course) → ((turns : List Turn) → f turns ≡ g turns) → filling turns f ≡ filling turns g
filling-same [] f g same = refl
filling-same (turn ∷ turns) f g same = ap (filling_by turn.task) (same turns)

lines-same : (lines : List (List ℕ)) (heard : List Heard) (turns : List Turn) → unrolled (lines_todo lines End) heard turns ≡ record { items = map (λ line. said_item (with_newline line)) lines; status = 0 }
lines-same [] heard turns = refl
lines-same (line ∷ lines) heard turns = ap (before_course (said_item (with_newline line) ∷ [])) (lines-same lines heard turns)

said-same : (lines : List (List ℕ)) (heard : List Heard) (turns : List Turn) → unrolled (said_todo lines End) heard turns ≡ record { items = map said_item lines; status = 0 }
said-same [] heard turns = refl
said-same (line ∷ lines) heard turns = ap (before_course (said_item line ∷ [])) (said-same lines heard turns)

puts-same : (pieces : List Piece) (rest : Todo) (heard : List Heard) (turns : List Turn) → unrolled (puts pieces rest) heard turns ≡ before_course (map putting pieces) (unrolled rest heard turns)
puts-same [] rest heard turns = refl
puts-same (piece ∷ pieces) rest heard turns = ap (before_course (putting piece ∷ [])) (puts-same pieces rest heard turns)

units-same : (rounds : List Round) (heard : List Heard) (turns : List Turn) → unrolled (rounds_todo rounds End) heard turns ≡ units rounds turns
units-same [] heard turns = refl
units-same (round ∷ rounds) heard turns =
    filling-same turns _ _ (λ turns.
    turning-same (Carry round.numbered.command) turns _ _ (λ out turns.
    ap (λ todo. unrolled todo heard turns) (puts_flush out.written (lines_after round out) (rounds_todo rounds End))
    ∙ puts-same (pieces_of round out) (rounds_todo rounds End) heard turns
    ∙ ap (before_course (map putting (pieces_of round out))) (units-same rounds heard turns)))

bindings-same : (plan : Plan) (bs : List Bound) (rest : Todo) (heard : List Heard) (turns : List Turn) → unrolled (bindings_todo plan bs rest) heard turns ≡ bindings plan bs (unrolled rest heard turns)
bindings-same plan [] rest heard turns = refl
bindings-same plan (b ∷ bs) rest heard turns = ap (before_course (Calls (Did (binding_act plan b) true) ∷ [])) (bindings-same plan bs rest heard turns)

acts-same : (acts : List DeskAct) (rest : Todo) (heard : List Heard) (turns : List Turn) → unrolled (acts_todo acts rest) heard turns ≡ before_course (map (λ act. Calls (Did act true)) acts) (unrolled rest heard turns)
acts-same [] rest heard turns = refl
acts-same (act ∷ acts) rest heard turns = ap (before_course (Calls (Did act true) ∷ [])) (acts-same acts rest heard turns)

abbrev session : Bool → ℕ → Option (List ℕ) → Plan → ReadScript → List Turn → Course
session on_use heap trace plan read turns =
    bindings plan read.bindings
    (before_course (map (λ act. Calls (Did act true)) (trace_acts trace))
    (turning (Begin on_use plan heap (bound_inputs plan [] read.bindings) (bound_slots plan read.bindings)) turns (λ out turns. units (rounds_of read.commands) turns)))

session-same : (on_use : Bool) (heap : ℕ) (trace : Option (List ℕ)) (plan : Plan) (read : ReadScript) (heard : List Heard) (turns : List Turn) → unrolled (ready_todo on_use heap trace plan read) heard turns ≡ session on_use heap trace plan read turns
session-same on_use heap trace plan read heard turns =
    let inputs = bound_inputs plan [] read.bindings in
    let slots = bound_slots plan read.bindings in
    let whole = session_todo on_use heap plan read.commands inputs slots in
    bindings-same plan read.bindings (traced_todo trace whole) heard turns
    ∙ ap (bindings plan read.bindings) (
    acts-same (trace_acts trace) whole heard turns
    ∙ ap (before_course (map (λ act. Calls (Did act true)) (trace_acts trace))) (turning-same (Begin on_use plan heap inputs slots) turns _ _ (λ out turns. units-same (rounds_of read.commands) heard turns))
    )

files-same : (on_use : Bool) (heap : ℕ) (trace : Option (List ℕ)) (r : Result (Topology × ReadScript) Halt) (heard : List Heard) (turns : List Turn) → unrolled (prepared_todo on_use heap trace (as_prepared r)) heard turns ≡ files on_use heap trace r turns
files-same on_use heap trace (Err why) heard turns = refl
files-same on_use heap trace (Ok (t, read)) heard turns = session-same on_use heap trace (plan_of t) read heard turns

-- the files by the run that they make
module _ (form : Form) (topology script : List ℕ) (heard last : List Heard) (turns : List Turn) (brought : heard ≡ Ok topology ∷ Ok script ∷ last) where
  brought-same : unrolled (prepared_todo form.on_use form.heap form.trace (prepared topology script)) last turns ≡ files form.on_use form.heap form.trace (run_heard heard) turns
  brought-same =
      ap (λ p. unrolled (prepared_todo form.on_use form.heap form.trace p) last turns) (prepared_same topology script)
      ∙ files-same form.on_use form.heap form.trace (run_of topology script) last turns
      ∙ ap (λ r. files form.on_use form.heap form.trace r turns) (sym (ap run_heard brought))

playing-same : (form : Form) (heard : List Heard) (turns : List Turn) → unrolled (play form) heard turns ≡ playing form (run_heard heard) heard turns
playing-same form heard turns =
    loading-same form.topology 1048576 (codes "too long topology\n") heard _ _ (λ topology later first.
    loading-same form.script 1048576 (codes "too long script\n") later _ _ (λ script last second.
    ap (before_course (Memory ∷ [])) (brought-same form topology script heard last turns (first ∙ ap (λ hs. Ok topology ∷ hs) second))))

counting-same : (lines : Topology → List (List ℕ)) (r : Result Topology Halt) (heard : List Heard) (turns : List Turn) → unrolled (checked_todo lines r) heard turns ≡ counting lines r
counting-same lines (Ok t) heard turns = said-same (lines t) heard turns
counting-same lines (Err why) heard turns = refl

checking-same : (lines : Topology → List (List ℕ)) (name : List ℕ) (heard : List Heard) (turns : List Turn) → unrolled (check lines name) heard turns ≡ checking name heard (counting lines (topology_heard heard))
checking-same lines name heard turns =
    loading-same name 1048576 (codes "too long topology\n") heard _ _ (λ bytes later is.
    ap (before_course (Memory ∷ [])) (counting-same lines (checked bytes) later turns ∙ ap (counting lines) (sym (ap topology_heard is))))

making-same : (out : List ℕ) (r : Result Topology SourceFault) (heard : List Heard) (turns : List Turn) → unrolled (compiled_todo out r) heard turns ≡ making_source out r
making-same out (Ok t) heard turns = refl
making-same out (Err fault) heard turns = refl

keeping-same : (out : List ℕ) (o : Option (List ℕ)) (heard : List Heard) (turns : List Turn) → unrolled (kept_todo out o) heard turns ≡ keeping out o
keeping-same out (Some text) heard turns = refl
keeping-same out None heard turns = refl

sourcing-same : (out : List ℕ) (r : Result Topology Halt) (heard : List Heard) (turns : List Turn) → unrolled (sourced_todo out r) heard turns ≡ sourcing source_for out r
sourcing-same out (Ok t) heard turns = keeping-same out (source_for t) heard turns
sourcing-same out (Err why) heard turns = refl

counted-same : (slot : ℕ) (commands : List CommandTurn) (counts : Counts) (f : Counts → Todo) (g : Counts → Course) (heard : List Heard) (turns : List Turn) → ((c : Counts) (turns : List Turn) → unrolled (f c) heard turns ≡ g c) → unrolled (counted_todo slot commands counts f) heard turns ≡ counting_turns slot commands counts turns g
counted-same slot [] counts f g heard turns same = same counts turns
counted-same slot (turn ∷ commands) counts f g heard turns same =
    turning-same (Carry turn.command) turns _ _ (λ out turns. counted-same slot commands (turn_counted slot turn out counts) f g heard turns same)

stressing-same : (room sent seed : ℕ) (heard : List Heard) (turns : List Turn) → unrolled (stress room sent seed) heard turns ≡ stressing room sent seed turns
stressing-same room sent seed heard turns =
    ap (before_course (Memory ∷ [])) (turning-same (stress_begins room seed) turns _ _ (λ out turns.
    counted-same (dai_slot (stream_count seed)) (stress_turns seed) no_counts (told_todo sent) (telling_counts sent) heard turns
    (λ counts turns. lines-same (stress_lines (record counts { messages = sent })) heard turns)))

decoded-same : (es : List Entry) (fault : Option TraceFault) (heard : List Heard) (turns : List Turn) → unrolled (decoded_todo es fault) heard turns ≡ recounting (es, fault)
decoded-same [] None heard turns = refl
decoded-same [] (Some fault) heard turns = refl
decoded-same (e ∷ es) fault heard turns = ap (before_course (said_item (with_newline (entry_line e)) ∷ [])) (decoded-same es fault heard turns)

faulting-same : (fault : Option ReplayFault) (rest : Todo) (course : Course) (heard : List Heard) (turns : List Turn) → unrolled rest heard turns ≡ course → unrolled (without_fault fault rest) heard turns ≡ faulting fault course
faulting-same None rest course heard turns same = same
faulting-same (Some fault) rest course heard turns same = refl

replying-same : (f : Option (List ℕ) → Todo) (g : Option (List ℕ) → List Turn → Course) (heard : List Heard) → ((reply : Option (List ℕ)) (turns : List Turn) → unrolled (f reply) heard turns ≡ g reply turns)
    → (reply : Option (List ℕ)) (turns : List Turn) → unrolled (replied_todo f reply) heard turns ≡ replying reply (g reply turns)
replying-same f g heard same None turns = refl
replying-same f g heard same (Some reply) turns = same (Some reply) turns

sending-same : (message : List ℕ) (turns : List Turn) (f g : Option (List ℕ) → List Turn → Course) → ((reply : Option (List ℕ)) (turns : List Turn) → f reply turns ≡ g reply turns) → sending message turns f ≡ sending message turns g
sending-same message [] f g same = refl
sending-same message (turn ∷ turns) f g same =
    ap (before_course (Turns (Give (device.Exchange message (answer_in turn.task))) ∷ [])) (same (answer_in turn.task) turns)

giving-same : (e : Entry) (f : Option (List ℕ) → Todo) (g : Option (List ℕ) → List Turn → Course) (heard : List Heard) → ((reply : Option (List ℕ)) (turns : List Turn) → unrolled (f reply) heard turns ≡ g reply turns)
    → (turns : List Turn) → unrolled (give_todo e f) heard turns ≡ giving e turns g
giving-same (entries.Boot heap) f g heard same turns = turning-same (Give (device.Boot heap)) turns _ _ (λ out turns. same None turns)
giving-same entries.Cut f g heard same turns = turning-same (Give device.Cut) turns _ _ (λ out turns. same None turns)
giving-same (entries.Request message) f g heard same turns = sending-same message turns _ _ (replying-same f g heard same)
giving-same entries.Tick f g heard same turns = turning-same (Give device.Tick) turns _ _ (λ out turns. same None turns)
giving-same (entries.Reply reply) f g heard same turns = same None turns
giving-same entries.Lost f g heard same turns = same None turns

-- records that are given, whatever comes after them
module _ (room : ℕ) (end : Option TraceFault) (f : Bool → Todo) (g : Bool → Course) (heard : List Heard) (same : (on : Bool) (turns : List Turn) → unrolled (f on) heard turns ≡ g on) where
  given-same : (es : List Entry) (on : Bool) (awaited : Option (List ℕ)) (at : ℕ) (turns : List Turn) → unrolled (given_todo room es end on awaited at f) heard turns ≡ giving_all room es end on awaited at g turns
  given-same [] on awaited at turns = faulting-same (end_fault awaited at end) (f on) (g on) heard turns (same on turns)
  given-same (e ∷ es) on awaited at turns =
      faulting-same (record_fault room on awaited at e) (give_todo e (λ reply. given_todo room es end (on_after on e) reply (next_place at e) f)) _ heard turns
      (giving-same e (λ reply. given_todo room es end (on_after on e) reply (next_place at e) f) (λ reply turns. giving_all room es end (on_after on e) reply (next_place at e) g turns) heard
      (λ reply turns. given-same es (on_after on e) reply (next_place at e) turns) turns)

replayed-same : (room : ℕ) (es : List Entry) (end : Option TraceFault) (heard : List Heard) (turns : List Turn) → unrolled (replayed_todo room es end) heard turns ≡ replaying room (es, end) turns
replayed-same room es end heard turns =
    given-same room end (λ on. lines_todo (replay_lines (tally_of es) on) End) (λ on. record { items = map (λ line. said_item (with_newline line)) (replay_lines (tally_of es) on); status = 0 }) heard
    (λ on turns. lines-same (replay_lines (tally_of es) on) heard turns) es false None 0 turns

request-same : (room sent : ℕ) (r : Option Request) (heard : List Heard) (turns : List Turn) → unrolled (todo_for room sent r) heard turns ≡ course source_for room sent r (findings_of heard) heard turns
request-same room sent (Some (Play form)) heard turns = playing-same form heard turns
request-same room sent (Some (Check name)) heard turns = checking-same count_lines name heard turns
request-same room sent (Some (Picture name)) heard turns = checking-same picture_lines name heard turns
request-same room sent (Some (Compile names)) heard turns =
    loading-same names.source 1048576 (codes "too long source\n") heard _ _ (λ text later is.
    ap (before_course (Memory ∷ [])) (making-same names.out (compiled_of text) later turns ∙ ap (making_source names.out) (sym (ap source_heard is))))
request-same room sent (Some (Source given)) heard turns =
    loading-same given.topology 1048576 (codes "too long topology\n") heard _ _ (λ bytes later is.
    ap (before_course (Memory ∷ [])) (sourcing-same given.out (checked bytes) later turns ∙ ap (sourcing source_for given.out) (sym (ap topology_heard is))))
request-same room sent (Some (Stress seed)) heard turns = stressing-same room sent seed heard turns
request-same room sent (Some (Decode name)) heard turns =
    loading-same name 16777216 (codes "too long trace\n") heard _ _ (λ bytes later is.
    decoded-same (trace_in bytes).0 (trace_in bytes).1 later turns ∙ ap recounting (sym (ap trace_heard is)))
request-same room sent (Some (Replay name)) heard turns =
    loading-same name 16777216 (codes "too long trace\n") heard _ _ (λ bytes later is.
    ap (before_course (Memory ∷ [])) (replayed-same room (trace_in bytes).0 (trace_in bytes).1 later turns ∙ ap (λ trace. replaying room trace turns) (sym (ap trace_heard is))))
request-same room sent None heard turns = refl

-- what was done is the course of the words, or its front
pub follows : (room sent : ℕ) (words : List (List ℕ)) (turns : List Turn) (calls : List DeskCall) (status : ℕ) → DoneBy (todo_of room sent words) turns calls status → FollowsCourse source_for room sent words turns calls status
follows room sent words turns calls status goes =
    record {
      found = findings_of (heard_in calls);
      are = are_found (heard_in calls) (loads_bring (todo_of room sent words) turns calls status goes);
      made = subst (λ (c : Course). IsMade c turns calls status) (request-same room sent (request_of room words) (heard_in calls) turns) (made (todo_of room sent words) turns calls status goes);
    }
