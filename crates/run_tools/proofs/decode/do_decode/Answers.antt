use Rattle.std.proofs.Common.{codes, List, ℕ}
use Rattle.ipc3_trace.specs.Reading.{trace_in}
use Rattle.run_desk.specs.Todo.{Todo}
use Rattle.run_tools.specs.DecodeTodo.{decoded_todo}
use Rattle.run_desk.proofs.Steps.{ask_on}
use Rattle.run_tools.proofs.decode.do_decode.Goals as goal

abbrev next : List ℕ → Todo
next bytes = decoded_todo (trace_in bytes).0 (trace_in bytes).1

pub returns-in-Ok : goal.returns-in-Ok
returns-in-Ok g c =
    ask_on g.D.Desk.means c.args.name.now 16777216 (codes "too long trace\n") next c.in-Ok.bytes.items _ _ _ _ _ c.in-Ok.ensures.0 c.in-Ok.ensures.1 (rw c.deref.ensures.value at c.say_records.ensures)

pub returns-in-Err : goal.returns-in-Err
returns-in-Err g c = c.in-Err.ensures next
