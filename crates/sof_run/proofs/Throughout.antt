-- What holds throughout what `run` has to do.
use Rattle.std.proofs.Common.{◌≡◌, ◌⊎◌, ℕ, Bool, false, List, [], ◌∷◌, map, Option, Some, None, Result, Ok, Err, inl, inr, refl}
use Rattle.sof_base.specs.Ports.{InputView}
use Rattle.sof_desk.specs.Desk.{DeskAct, DeskCall}
use Rattle.tplg_model.specs.declared.fault.TplgFault.{TplgFault}
use Rattle.tplg_model.specs.declared.block.Topology.{Topology}
use Rattle.tplg_model.specs.Reading.{topology_of}
use Rattle.tplg_plan.specs.declared.plans.Plan.{Plan}
use Rattle.tplg_rules.specs.RuleTest.{ruling_of}
use Rattle.tplg_compile.specs.declared.source_fault.SourceFault.{SourceFault}
use Rattle.tplg_compile.specs.declared.source_fault.SourceFault.TheVariants as source
use Rattle.tplg_compile.specs.InOrder.{compiled_of}
use Rattle.sof_script.specs.Commands.{Bound, Read}
use Rattle.sof_script.specs.declared.script.Numbered.{Numbered}
use Rattle.sof_script.specs.Tasks.{Written, Turn}
use Rattle.run_desk.specs.declared.preparing.Halt.{Halt}
use Rattle.run_desk.specs.declared.preparing.Halt.TheVariants as halt
use Rattle.run_words.specs.Words.{Form}
use Rattle.run_desk.specs.Bindings.{bound_inputs, bound_slots}
use Rattle.run_play.specs.Keeping.{trace_acts}
use Rattle.run_play.specs.Rounds.{Round, rounds_of}
use Rattle.run_desk.specs.Todo.{Todo, End, DoneBy}
use Rattle.run_play.specs.Pieces.{lines_after}
use Rattle.run_desk.specs.Lines.{halt_status}
use Rattle.run_desk.specs.Prepared.{Prepared, Ready, Halted, prepared, checked_rules, checked_file, checked}
use Rattle.run_play.specs.Play.{prepared_todo, ready_todo, flush_todo, rounds_todo, session_todo, bindings_todo, acts_todo, traced_todo, play}
use Rattle.run_desk.specs.LinesTodo.{lines_todo}
use Rattle.run_tools.specs.Checking.{count_lines}
use Rattle.run_tools.specs.Picturing.{picture_lines}
use Rattle.run_tools.specs.CheckTodo.{said_todo, checked_todo, check}
use Rattle.run_words.specs.ToolForms.{CompileNames, SourceFiles}
use Rattle.run_tools.specs.Compiling.{source_status}
use Rattle.run_tools.specs.CompileTodo.{compiled_todo, compile}
use Rattle.tplg_source.specs.Outcome.{source_for}
use Rattle.run_tools.specs.SourceTodo.{kept_todo, sourced_todo, make_source}
use Rattle.sof_stress.specs.declared.counts.Counts.{Counts}
use Rattle.sof_stress.specs.Draws.{stream_count}
use Rattle.sof_stress.specs.StressPorts.{dai_slot}
use Rattle.sof_stress.specs.CommandTurns.{CommandTurn, turn_counted, no_counts}
use Rattle.sof_stress.specs.StressRun.{stress_turns}
use Rattle.sof_run.specs.Stressing.{stress_lines}
use Rattle.sof_run.specs.StressTodo.{counted_todo, told_todo, stress}
use Rattle.ipc3_trace.specs.declared.entry.Entry.{Entry}
use Rattle.ipc3_trace.specs.declared.entry.Entry.TheVariants as entries
use Rattle.ipc3_trace.specs.declared.fault.TraceFault.{TraceFault}
use Rattle.ipc3_trace.specs.declared.fault.ReplayFault.{ReplayFault}
use Rattle.ipc3_trace.specs.EntryLines.{entry_line}
use Rattle.ipc3_trace.specs.Reading.{trace_in}
use Rattle.run_tools.specs.DecodeTodo.{fault_todo, decoded_todo, decode}
use Rattle.run_replay.specs.Replaying.{next_place, record_fault, end_fault, on_after, tally_of, replay_lines}
use Rattle.run_replay.specs.ReplayTodo.{without_fault, replied_todo, give_todo, given_todo, replayed_todo, replay}
use Rattle.run_words.specs.Requests.{Request, Play, Check, Picture, Compile, Source, Stress, Decode, Replay}
use Rattle.sof_run.specs.Forms.{todo_for}
use Rattle.run_desk.specs.Throughout.{Throughout}
use Rattle.run_desk.proofs.Statuses.{IsLate, OpensNone, TurnsLast, ends}

module _ (P : ℕ → Type 0) (A : List ℕ → Type 0) where
  flush_all : (written : List Written) (rest : Todo) → Throughout P A rest → Throughout P A (flush_todo written rest)
  flush_all [] rest all = all
  flush_all ((slot, bytes) ∷ written) rest all = flush_all written rest all

  lines_all : (lines : List (List ℕ)) (rest : Todo) → Throughout P A rest → Throughout P A (lines_todo lines rest)
  lines_all [] rest all = all
  lines_all (line ∷ lines) rest all = lines_all lines rest all

  rounds_all : (rounds : List Round) → P 0 → Throughout P A (rounds_todo rounds End)
  rounds_all [] done = done
  rounds_all (round ∷ rounds) done = λ out. flush_all out.written (lines_todo (lines_after round out) (rounds_todo rounds End)) (lines_all (lines_after round out) (rounds_todo rounds End) (rounds_all rounds done))

  session_all : (on_use : Bool) (heap : ℕ) (plan : Plan) (commands : List Numbered) (inputs : List InputView) (slots : List ℕ) → P 0 → Throughout P A (session_todo on_use heap plan commands inputs slots)
  session_all on_use heap plan commands inputs slots done = λ out. rounds_all (rounds_of commands) done

  bindings_all : (plan : Plan) (bs : List Bound) (rest : Todo) → Throughout P A rest → Throughout P A (bindings_todo plan bs rest)
  bindings_all plan [] rest all = all
  bindings_all plan (b ∷ bs) rest all = bindings_all plan bs rest all

  acts_all : (acts : List DeskAct) (rest : Todo) → Throughout P A rest → Throughout P A (acts_todo acts rest)
  acts_all [] rest all = all
  acts_all (act ∷ acts) rest all = acts_all acts rest all

  pub ready_all : (on_use : Bool) (heap : ℕ) (trace : Option (List ℕ)) (plan : Plan) (read : Read) → P 0 → Throughout P A (ready_todo on_use heap trace plan read)
  ready_all on_use heap trace plan read done =
      let session = session_todo on_use heap plan read.commands (bound_inputs plan [] read.bindings) (bound_slots plan read.bindings) in
      bindings_all plan read.bindings (traced_todo trace session)
      (acts_all (trace_acts trace) session (session_all on_use heap plan read.commands (bound_inputs plan [] read.bindings) (bound_slots plan read.bindings) done))

  halts_all : (why : Halt) → P 2 → P 4 → P 7 → P 8 → P (halt_status why)
  halts_all (halt.Script line cause) two four seven eight = four
  halts_all (halt.Ticks sum) two four seven eight = eight
  halts_all (halt.Broken fault) two four seven eight = two
  halts_all (halt.Rule rule item) two four seven eight = two
  halts_all (halt.Binding line) two four seven eight = four
  halts_all halt.OutOfMemory two four seven eight = seven

  pub prepared_all : (on_use : Bool) (heap : ℕ) (trace : Option (List ℕ)) (files : Prepared) → P 0 → P 2 → P 4 → P 7 → P 8 → Throughout P A (prepared_todo on_use heap trace files)
  prepared_all on_use heap trace (Ready plan read) done two four seven eight = ready_all on_use heap trace plan read done
  prepared_all on_use heap trace (Halted why) done two four seven eight = halts_all why two four seven eight

  pub play_all : (form : Form) → P 0 → P 2 → P 4 → P 5 → P 7 → P 8 → ((name : List ℕ) → A name) → Throughout P A (play form)
  play_all form done two four five seven eight names =
      (names form.topology, five, seven, λ topology. (names form.script, five, seven, λ script. (seven, prepared_all form.on_use form.heap form.trace (prepared topology script) done two four seven eight)))

  said_all : (lines : List (List ℕ)) → P 0 → Throughout P A (said_todo lines End)
  said_all [] done = done
  said_all (line ∷ lines) done = said_all lines done

  checked_all : (lines : Topology → List (List ℕ)) (t : Topology) (ruling : Option (ℕ × ℕ)) → P 0 → P 2 → Throughout P A (checked_todo lines (checked_rules t ruling))
  checked_all lines t (Some (rule, item)) done two = two
  checked_all lines t None done two = said_all (lines t) done

  file_all : (lines : Topology → List (List ℕ)) (r : Result Topology TplgFault) → P 0 → P 2 → Throughout P A (checked_todo lines (checked_file r))
  file_all lines (Err fault) done two = two
  file_all lines (Ok t) done two = checked_all lines t (ruling_of t) done two

  pub check_all : (lines : Topology → List (List ℕ)) (name : List ℕ) → P 0 → P 2 → P 5 → P 7 → A name → Throughout P A (check lines name)
  check_all lines name done two five seven named = (named, five, seven, λ bytes. (seven, file_all lines (topology_of bytes) done two))

  fault_all : (f : SourceFault) → P 4 → P 7 → P (source_status f)
  fault_all source.OutOfMemory four seven = seven
  fault_all f four seven = four

  compiled_all : (out : List ℕ) (r : Result Topology SourceFault) → P 0 → P 4 → P 7 → Throughout P A (compiled_todo out r)
  compiled_all out (Ok t) done four seven = done
  compiled_all out (Err f) done four seven = fault_all f four seven

  pub compile_all : (names : CompileNames) → P 0 → P 4 → P 5 → P 7 → A names.source → Throughout P A (compile names)
  compile_all names done four five seven named = (named, five, seven, λ text. (seven, compiled_all names.out (compiled_of text) done four seven))

  kept_all : (out : List ℕ) (o : Option (List ℕ)) → P 0 → P 2 → Throughout P A (kept_todo out o)
  kept_all out (Some text) done two = done
  kept_all out None done two = two

  sourced_rules_all : (out : List ℕ) (t : Topology) (ruling : Option (ℕ × ℕ)) → P 0 → P 2 → Throughout P A (sourced_todo out (checked_rules t ruling))
  sourced_rules_all out t (Some (rule, item)) done two = two
  sourced_rules_all out t None done two = kept_all out (source_for t) done two

  sourced_all : (out : List ℕ) (r : Result Topology TplgFault) → P 0 → P 2 → Throughout P A (sourced_todo out (checked_file r))
  sourced_all out (Err fault) done two = two
  sourced_all out (Ok t) done two = sourced_rules_all out t (ruling_of t) done two

  pub source_all : (files : SourceFiles) → P 0 → P 2 → P 5 → P 7 → A files.topology → Throughout P A (make_source files)
  source_all files done two five seven named = (named, five, seven, λ bytes. (seven, sourced_all files.out (topology_of bytes) done two))

  counted_all : (slot : ℕ) (turns : List CommandTurn) (counts : Counts) (next : Counts → Todo) → ((c : Counts) → Throughout P A (next c)) → Throughout P A (counted_todo slot turns counts next)
  counted_all slot [] counts next all = all counts
  counted_all slot (turn ∷ turns) counts next all = λ out. counted_all slot turns (turn_counted slot turn out counts) next all

  told_all : (sent : ℕ) (counts : Counts) → P 0 → Throughout P A (told_todo sent counts)
  told_all sent counts done = lines_all (stress_lines (record counts { messages = sent })) End done

  pub stress_all : (room sent seed : ℕ) → P 0 → P 7 → Throughout P A (stress room sent seed)
  stress_all room sent seed done seven =
      (seven, λ out. counted_all (dai_slot (stream_count seed)) (stress_turns seed) no_counts (told_todo sent) (λ counts. told_all sent counts done))

  trace_fault_all : (fault : Option TraceFault) → P 0 → P 2 → Throughout P A (fault_todo fault)
  trace_fault_all None done two = done
  trace_fault_all (Some fault) done two = two

  decoded_all : (es : List Entry) (fault : Option TraceFault) → P 0 → P 2 → Throughout P A (decoded_todo es fault)
  decoded_all es fault done two = lines_all (map entry_line es) (fault_todo fault) (trace_fault_all fault done two)

  pub decode_all : (name : List ℕ) → P 0 → P 2 → P 5 → P 7 → A name → Throughout P A (decode name)
  decode_all name done two five seven named = (named, five, seven, λ bytes. decoded_all (trace_in bytes).0 (trace_in bytes).1 done two)

  without_fault_all : (fault : Option ReplayFault) (rest : Todo) → P 2 → Throughout P A rest → Throughout P A (without_fault fault rest)
  without_fault_all None rest two all = all
  without_fault_all (Some fault) rest two all = two

  replied_all : (next : Option (List ℕ) → Todo) (reply : Option (List ℕ)) → P 10 → ((reply : Option (List ℕ)) → Throughout P A (next reply)) → Throughout P A (replied_todo next reply)
  replied_all next None ten all = ten
  replied_all next (Some reply) ten all = all (Some reply)

  give_all : (e : Entry) (next : Option (List ℕ) → Todo) → P 10 → ((reply : Option (List ℕ)) → Throughout P A (next reply)) → Throughout P A (give_todo e next)
  give_all (entries.Request message) next ten all = λ reply. replied_all next reply ten all
  give_all (entries.Reply reply) next ten all = all None
  give_all entries.Lost next ten all = all None
  give_all e next ten all = λ out. all None

  given_all : (room : ℕ) (es : List Entry) (end : Option TraceFault) (on : Bool) (awaited : Option (List ℕ)) (at : ℕ) (last : Bool → Todo) → P 2 → P 10 → ((on : Bool) → Throughout P A (last on))
      → Throughout P A (given_todo room es end on awaited at last)
  given_all room [] end on awaited at last two ten all = without_fault_all (end_fault awaited at end) (last on) two (all on)
  given_all room (e ∷ es) end on awaited at last two ten all =
      without_fault_all (record_fault room on awaited at e) (give_todo e (λ reply. given_todo room es end (on_after on e) reply (next_place at e) last)) two
      (give_all e (λ reply. given_todo room es end (on_after on e) reply (next_place at e) last) ten (λ reply. given_all room es end (on_after on e) reply (next_place at e) last two ten all))

  pub replay_all : (room : ℕ) (name : List ℕ) → P 0 → P 2 → P 5 → P 7 → P 10 → A name → Throughout P A (replay room name)
  replay_all room name done two five seven ten named = (
    named,
    five,
    seven,
    λ bytes. (
      seven,
      given_all room (trace_in bytes).0 (trace_in bytes).1 false None 0 (λ on. lines_todo (replay_lines (tally_of (trace_in bytes).0) on) End) two ten
          (λ on. lines_all (replay_lines (tally_of (trace_in bytes).0) on) End done),
    ),
  )

-- ---- turns come last

flush_puts : (written : List Written) (rest : Todo) → OpensNone rest → OpensNone (flush_todo written rest)
flush_puts [] rest puts = puts
flush_puts ((slot, bytes) ∷ written) rest puts = ((λ is. is), flush_puts written rest puts)

lines_puts : (lines : List (List ℕ)) (rest : Todo) → OpensNone rest → OpensNone (lines_todo lines rest)
lines_puts [] rest puts = puts
lines_puts (line ∷ lines) rest puts = ((λ is. is), lines_puts lines rest puts)

rounds_puts : (rounds : List Round) → OpensNone (rounds_todo rounds End)
rounds_puts [] = tt
rounds_puts (round ∷ rounds) = λ out. flush_puts out.written (lines_todo (lines_after round out) (rounds_todo rounds End)) (lines_puts (lines_after round out) (rounds_todo rounds End) (rounds_puts rounds))

counted_puts : (slot : ℕ) (turns : List CommandTurn) (counts : Counts) (next : Counts → Todo) → ((c : Counts) → OpensNone (next c)) → OpensNone (counted_todo slot turns counts next)
counted_puts slot [] counts next puts = puts counts
counted_puts slot (turn ∷ turns) counts next puts = λ out. counted_puts slot turns (turn_counted slot turn out counts) next puts

without_fault_puts : (fault : Option ReplayFault) (rest : Todo) → OpensNone rest → OpensNone (without_fault fault rest)
without_fault_puts None rest puts = puts
without_fault_puts (Some fault) rest puts = tt

replied_puts : (next : Option (List ℕ) → Todo) (reply : Option (List ℕ)) → ((reply : Option (List ℕ)) → OpensNone (next reply)) → OpensNone (replied_todo next reply)
replied_puts next None puts = tt
replied_puts next (Some reply) puts = puts (Some reply)

give_puts : (e : Entry) (next : Option (List ℕ) → Todo) → ((reply : Option (List ℕ)) → OpensNone (next reply)) → OpensNone (give_todo e next)
give_puts (entries.Request message) next puts = λ reply. replied_puts next reply puts
give_puts (entries.Reply reply) next puts = puts None
give_puts entries.Lost next puts = puts None
give_puts e next puts = λ out. puts None

given_puts : (room : ℕ) (es : List Entry) (end : Option TraceFault) (on : Bool) (awaited : Option (List ℕ)) (at : ℕ) (last : Bool → Todo) → ((on : Bool) → OpensNone (last on)) → OpensNone (given_todo room es end on awaited at last)
given_puts room [] end on awaited at last puts = without_fault_puts (end_fault awaited at end) (last on) (puts on)
given_puts room (e ∷ es) end on awaited at last puts =
    without_fault_puts (record_fault room on awaited at e) (give_todo e (λ reply. given_todo room es end (on_after on e) reply (next_place at e) last))
    (give_puts e (λ reply. given_todo room es end (on_after on e) reply (next_place at e) last) (λ reply. given_puts room es end (on_after on e) reply (next_place at e) last puts))

-- the status is 3 or one of those, and one of those where all was done
module _ (P : ℕ → Type 0) (done : P 0) where
  session_last : (on_use : Bool) (heap : ℕ) (plan : Plan) (commands : List Numbered) (inputs : List InputView) (slots : List ℕ) → TurnsLast P (session_todo on_use heap plan commands inputs slots)
  session_last on_use heap plan commands inputs slots = λ out. (rounds_all P (λ name. ⊥) (rounds_of commands) done, rounds_puts (rounds_of commands))

  bindings_last : (plan : Plan) (bs : List Bound) (rest : Todo) → TurnsLast P rest → TurnsLast P (bindings_todo plan bs rest)
  bindings_last plan [] rest last = last
  bindings_last plan (b ∷ bs) rest last = bindings_last plan bs rest last

  acts_last : (acts : List DeskAct) (rest : Todo) → TurnsLast P rest → TurnsLast P (acts_todo acts rest)
  acts_last [] rest last = last
  acts_last (act ∷ acts) rest last = acts_last acts rest last

  prepared_last : (on_use : Bool) (heap : ℕ) (trace : Option (List ℕ)) (files : Prepared) → TurnsLast P (prepared_todo on_use heap trace files)
  prepared_last on_use heap trace (Ready plan read) =
      let session = session_todo on_use heap plan read.commands (bound_inputs plan [] read.bindings) (bound_slots plan read.bindings) in
      bindings_last plan read.bindings (traced_todo trace session)
      (acts_last (trace_acts trace) session (session_last on_use heap plan read.commands (bound_inputs plan [] read.bindings) (bound_slots plan read.bindings)))
  prepared_last on_use heap trace (Halted why) = tt

  said_last : (lines : List (List ℕ)) → TurnsLast P (said_todo lines End)
  said_last [] = tt
  said_last (line ∷ lines) = said_last lines

  lines_last : (lines : List (List ℕ)) (rest : Todo) → TurnsLast P rest → TurnsLast P (lines_todo lines rest)
  lines_last [] rest last = last
  lines_last (line ∷ lines) rest last = lines_last lines rest last

  checked_last : (lines : Topology → List (List ℕ)) (r : Result Topology Halt) → TurnsLast P (checked_todo lines r)
  checked_last lines (Ok t) = said_last (lines t)
  checked_last lines (Err why) = tt

  compiled_last : (out : List ℕ) (r : Result Topology SourceFault) → TurnsLast P (compiled_todo out r)
  compiled_last out (Ok t) = tt
  compiled_last out (Err f) = tt

  kept_last : (out : List ℕ) (o : Option (List ℕ)) → TurnsLast P (kept_todo out o)
  kept_last out (Some text) = tt
  kept_last out None = tt

  sourced_last : (out : List ℕ) (r : Result Topology Halt) → TurnsLast P (sourced_todo out r)
  sourced_last out (Ok t) = kept_last out (source_for t)
  sourced_last out (Err why) = tt

  trace_fault_last : (fault : Option TraceFault) → TurnsLast P (fault_todo fault)
  trace_fault_last None = tt
  trace_fault_last (Some fault) = tt

  decoded_last : (es : List Entry) (fault : Option TraceFault) → TurnsLast P (decoded_todo es fault)
  decoded_last es fault = lines_last (map entry_line es) (fault_todo fault) (trace_fault_last fault)

  stress_last : (room sent seed : ℕ) → TurnsLast P (stress room sent seed)
  stress_last room sent seed = λ out. (
    counted_all P (λ name. ⊥) (dai_slot (stream_count seed)) (stress_turns seed) no_counts (told_todo sent) (λ counts. told_all P (λ name. ⊥) sent counts done),
    counted_puts (dai_slot (stream_count seed)) (stress_turns seed) no_counts (told_todo sent) (λ counts. lines_puts (stress_lines (record counts { messages = sent })) End tt),
  )

  without_fault_last : (fault : Option ReplayFault) (rest : Todo) → TurnsLast P rest → TurnsLast P (without_fault fault rest)
  without_fault_last None rest last = last
  without_fault_last (Some fault) rest last = tt

  -- what comes after a record that is given
  module _ (two : P 2) (ten : P 10) where
    give_last : (e : Entry) (next : Option (List ℕ) → Todo) → TurnsLast P (next None) → ((reply : Option (List ℕ)) → Throughout P (λ name. ⊥) (next reply) × OpensNone (next reply)) → TurnsLast P (give_todo e next)
    give_last (entries.Request message) next last all = λ reply. (replied_all P (λ name. ⊥) next reply ten (λ reply. (all reply).0), replied_puts next reply (λ reply. (all reply).1))
    give_last (entries.Reply reply) next last all = last
    give_last entries.Lost next last all = last
    give_last e next last all = λ out. all None

    given_last : (room : ℕ) (es : List Entry) (end : Option TraceFault) (on : Bool) (awaited : Option (List ℕ)) (at : ℕ) (final : Bool → Todo) → ((on : Bool) → TurnsLast P (final on)) → ((on : Bool) → Throughout P (λ name. ⊥) (final on) × OpensNone (final on))
        → TurnsLast P (given_todo room es end on awaited at final)
    given_last room [] end on awaited at final last all = without_fault_last (end_fault awaited at end) (final on) (last on)
    given_last room (e ∷ es) end on awaited at final last all =
        let next : Option (List ℕ) → Todo = λ reply. given_todo room es end (on_after on e) reply (next_place at e) final in
        without_fault_last (record_fault room on awaited at e) (give_todo e next)
        (give_last e next (given_last room es end (on_after on e) None (next_place at e) final last all) (λ reply. (
          given_all P (λ name. ⊥) room es end (on_after on e) reply (next_place at e) final two ten (λ on. (all on).0),
          given_puts room es end (on_after on e) reply (next_place at e) final (λ on. (all on).1),
        )))

    replayed_last : (room : ℕ) (es : List Entry) (end : Option TraceFault) → TurnsLast P (replayed_todo room es end)
    replayed_last room es end =
        given_last room es end false None 0 (λ on. lines_todo (replay_lines (tally_of es) on) End) (λ on. lines_last (replay_lines (tally_of es) on) End tt)
        (λ on. (lines_all P (λ name. ⊥) (replay_lines (tally_of es) on) End done, lines_puts (replay_lines (tally_of es) on) End tt))

  -- a replay alone may end otherwise than with 0 or 3 once a turn was made
  pub words_last : (room sent : ℕ) (r : Option Request) → ((name : List ℕ) → r ≡ Some (Replay name) → P 2 × P 10) → TurnsLast P (todo_for room sent r)
  words_last room sent None other = tt
  words_last room sent (Some (Replay name)) other = λ bytes. replayed_last (other name refl).0 (other name refl).1 room (trace_in bytes).0 (trace_in bytes).1
  words_last room sent (Some (Decode name)) other = λ bytes. decoded_last (trace_in bytes).0 (trace_in bytes).1
  words_last room sent (Some (Stress seed)) other = stress_last room sent seed
  words_last room sent (Some (Compile names)) other = λ text. compiled_last names.out (compiled_of text)
  words_last room sent (Some (Source files)) other = λ bytes. sourced_last files.out (checked bytes)
  words_last room sent (Some (Check name)) other = λ bytes. checked_last count_lines (checked bytes)
  words_last room sent (Some (Picture name)) other = λ bytes. checked_last picture_lines (checked bytes)
  words_last room sent (Some (Play form)) other = λ topology script. prepared_last form.on_use form.heap form.trace (prepared topology script)

-- files that make a run end with 0 or 3, or there was no memory
pub ready_ends : (on_use : Bool) (heap : ℕ) (trace : Option (List ℕ)) (plan : Plan) (read : Read) (turns : List Turn) (calls : List DeskCall) (status : ℕ) → DoneBy (ready_todo on_use heap trace plan read) turns calls status → IsLate status ⊎ (status ≡ 7)
ready_ends on_use heap trace plan read turns calls status goes =
    ends (λ n. IsLate n ⊎ (n ≡ 7)) (λ name. Unit {0}) (ready_todo on_use heap trace plan read) turns calls status goes (ready_all (λ n. IsLate n ⊎ (n ≡ 7)) (λ name. Unit {0}) on_use heap trace plan read (inl (inl refl))) (inl (inr refl))
