-- A play begins its session first, in the mode that is asked for.
use Rattle.std.proofs.Common.{◌≡◌, inl, inr, sym, subst, ℕ, Bool, true, false, List, [], ◌∷◌, Option}
use Rattle.sof_base.specs.Ports.{InputView}
use Rattle.sof_desk.specs.Desk.{DeskAct, DeskCall, Load, Did, Read as ReadCall}
use Rattle.tplg_plan.specs.declared.plans.Plan.{Plan}
use Rattle.sof_script.specs.Commands.{Bound, Read}
use Rattle.sof_script.specs.declared.script.Numbered.{Numbered}
use Rattle.sof_script.specs.Tasks.{Task, Begin, Turn}
use Rattle.run_desk.specs.Bindings.{binding_act, bound_inputs, bound_slots}
use Rattle.run_play.specs.Keeping.{trace_acts}
use Rattle.run_desk.specs.Lines.{no_memory_line}
use Rattle.run_play.specs.Play.{acts_todo, bindings_todo, traced_todo, session_todo, ready_todo}
use Rattle.run_desk.specs.Todo.{Todo, Do, Free, DoneBy, Says}

-- a session that is begun makes all pipelines at a load
abbrev pub IsAtLoad : Task → Type 0
IsAtLoad (Begin on_use plan heap inputs slots) = on_use ≡ false
IsAtLoad task = Unit {0}

-- of these turns the first
abbrev pub BeginsAtLoad : List Turn → Type 0
BeginsAtLoad [] = Unit {0}
BeginsAtLoad (turn ∷ turns) = IsAtLoad turn.task

none_begins : (turns : List Turn) → turns ≡ [] → BeginsAtLoad turns
none_begins turns none = subst BeginsAtLoad (sym none) tt

says_begins : (line : List ℕ) (n : ℕ) (turns : List Turn) (calls : List DeskCall) (status : ℕ) → Says line n turns calls status → BeginsAtLoad turns
says_begins line n turns [] status says = absurd says
says_begins line n turns (Load name limit heard ∷ calls) status says = absurd says
says_begins line n turns (ReadCall slot size got ∷ calls) status says = absurd says
says_begins line n turns (Did act done ∷ calls) status says = none_begins turns says.1

-- so does all that is to do
abbrev Begins : Todo → Type 0
Begins todo = (turns : List Turn) (calls : List DeskCall) (status : ℕ) → DoneBy todo turns calls status → BeginsAtLoad turns

do_begins : (act : DeskAct) (rest : Todo) → Begins rest → Begins (Do act rest)
do_begins act rest next turns [] status goes = absurd goes
do_begins act rest next turns (Load name limit heard ∷ calls) status goes = absurd goes
do_begins act rest next turns (ReadCall slot size got ∷ calls) status goes = absurd goes
do_begins act rest next turns (Did a true ∷ calls) status goes = next turns calls status goes.1
do_begins act rest next turns (Did a false ∷ calls) status goes = none_begins turns goes.1.0

acts_begin : (acts : List DeskAct) (rest : Todo) → Begins rest → Begins (acts_todo acts rest)
acts_begin [] rest next = next
acts_begin (act ∷ acts) rest next = do_begins act (acts_todo acts rest) (acts_begin acts rest next)

bindings_begin : (plan : Plan) (bs : List Bound) (rest : Todo) → Begins rest → Begins (bindings_todo plan bs rest)
bindings_begin plan [] rest next = next
bindings_begin plan (b ∷ bs) rest next = do_begins (binding_act plan b) (bindings_todo plan bs rest) (bindings_begin plan bs rest next)

session_begins : (on_use : Bool) → on_use ≡ false → (heap : ℕ) (plan : Plan) (commands : List Numbered) (inputs : List InputView) (slots : List ℕ) → Begins (session_todo on_use heap plan commands inputs slots)
session_begins on_use at_load heap plan commands inputs slots [] calls status goes = absurd goes
session_begins on_use at_load heap plan commands inputs slots (turn ∷ turns) calls status goes = subst IsAtLoad (sym goes.0) at_load

-- where all pipelines are made at a load
pub begins_at_load : (on_use : Bool) → on_use ≡ false → (heap : ℕ) (trace : Option (List ℕ)) (plan : Plan) (read : Read) → Begins (Free (ready_todo on_use heap trace plan read))
begins_at_load on_use at_load heap trace plan read turns calls status (inr says) = says_begins no_memory_line 7 turns calls status says
begins_at_load on_use at_load heap trace plan read turns calls status (inl goes) =
    let inputs = bound_inputs plan [] read.bindings in
    let slots = bound_slots plan read.bindings in
    let session = session_todo on_use heap plan read.commands inputs slots in
    bindings_begin plan read.bindings (traced_todo trace session)
    (acts_begin (trace_acts trace) session (session_begins on_use at_load heap plan read.commands inputs slots)) turns calls status goes
