use Rattle.std.proofs.Common.{sym, ap, ◌∙◌, subst, refl, true, option_map, []}
use Rattle.sof_io.specs.Bound.{output_slots}
use Rattle.sof_script.specs.ScriptRead.{bounds_of, script_read}
use Rattle.sof_session.specs.SessionView.{seat_in}
use Rattle.sof_session.specs.Lives.{Seated}
use Rattle.sof_session.proofs.Agreement.{AreAgreed-new}
use Rattle.run_desk.specs.Bindings.{bound_inputs, bound_slots}
use Rattle.run_desk.specs.Todo.{DeskPhase, Free}
use Rattle.run_play.specs.HandedBack.{GaveBy}
use Rattle.run_play.specs.KeptTurns.{KeptTurn}
use Rattle.run_play.specs.Play.{bindings_todo, traced_todo, session_todo, ready_todo}
use Rattle.run_play.proofs.Plays.{gave_alone, wanted_gave, begin_on, opened_on, session_done}
use Rattle.run_desk.proofs.Steps.{free_on}
use Rattle.run_play.proofs.Kept.{can_keep}
use Rattle.run_play.proofs.play.do_session.Goals as goal

-- there was no memory for the places of the bindings
pub returns-in_default : goal.returns-in_default
returns-in_default g c =
    wanted_gave g.D.Desk.means g.K.Dsp.means (KeptTurn g.K.Dsp.means g.K.TraceBuffer.holds g.K.Drain.empties) _ _ _ c.args.dsp _ _ c.fail_no_memory.ensures.same
    (c.fail_no_memory.ensures.said (ready_todo c.args.form.on_use c.args.form.heap (option_map (λ name. name.now) c.args.form.trace) c.args.ready.plan (script_read c.args.ready.script)))

pub returns-in_default-new : goal.returns-in_default-new
returns-in_default-new g c =
    wanted_gave g.D.Desk.means g.K.Dsp.means (KeptTurn g.K.Dsp.means g.K.TraceBuffer.holds g.K.Drain.empties) _ _ _ c.args.dsp _ _ c.fail_no_memory-in_default-new.ensures.same
    (c.fail_no_memory-in_default-new.ensures.said (ready_todo c.args.form.on_use c.args.form.heap (option_map (λ name. name.now) c.args.form.trace) c.args.ready.plan (script_read c.args.ready.script)))

pub returns-in_default-bind_all : goal.returns-in_default-bind_all
returns-in_default-bind_all g c =
    wanted_gave g.D.Desk.means g.K.Dsp.means (KeptTurn g.K.Dsp.means g.K.TraceBuffer.holds g.K.Drain.empties) _ _ _ c.args.dsp _ _ c.fail_no_memory-in_default-bind_all.ensures.same
    (c.fail_no_memory-in_default-bind_all.ensures.said (ready_todo c.args.form.on_use c.args.form.heap (option_map (λ name. name.now) c.args.form.trace) c.args.ready.plan (script_read c.args.ready.script)))

-- and for the session
pub returns-in-Err : goal.returns-in-Err
returns-in-Err g c =
    wanted_gave g.D.Desk.means g.K.Dsp.means (KeptTurn g.K.Dsp.means g.K.TraceBuffer.holds g.K.Drain.empties) _ _ _ c.args.dsp _ _ (c.fail_no_memory-in-Err.ensures.same ∙ c.in-Err.ensures)
    (c.fail_no_memory-in-Err.ensures.said (ready_todo c.args.form.on_use c.args.form.heap (option_map (λ name. name.now) c.args.form.trace) c.args.ready.plan (script_read c.args.ready.script)))

-- a file was not opened
pub returns-then-not-open_all : goal.returns-then-not-open_all
returns-then-not-open_all g c =
    let means = g.D.Desk.means in
    let by = KeptTurn g.K.Dsp.means g.K.TraceBuffer.holds g.K.Drain.empties in
    let trace = option_map (λ name. name.now) c.args.form.trace in
    let plan = c.args.ready.plan in
    let read = script_read c.args.ready.script in
    let heap = c.args.form.heap in
    let todo = ready_todo c.args.form.on_use heap trace plan read in
    let same = c.plan.ensures ∙ ap (λ s. s.plan) c.in-Ok-with_mode.ensures in
    let opened = subst (λ p. DeskPhase means (bindings_todo p read.bindings) c.open_all.result c.args.desk.now c.open_all.new.desk) same (rw c.items.ensures at c.open_all.ensures.done) in
    let failed = rw c.if-not-open_all.true at opened in
    subst (λ q. GaveBy means g.K.Dsp.means by (Free todo) c.args.desk.now c.args.dsp 3 c.open_all.new.desk q) (sym (c.into_dsp.ensures.dsp ∙ ap (λ s. s.link.device) c.in-Ok-with_mode.ensures))
    (gave_alone means by g.K.Dsp.means (Free todo) _ _ c.args.dsp 3
    (free_on means todo [] 3 _ _ (failed (traced_todo trace (session_todo c.args.form.on_use heap plan read.commands (bound_inputs plan [] read.bindings) (bound_slots plan read.bindings))))))

-- nor that of the trace created
pub returns-then-not-open_trace : goal.returns-then-not-open_trace
returns-then-not-open_trace g c =
    let means = g.D.Desk.means in
    let by = KeptTurn g.K.Dsp.means g.K.TraceBuffer.holds g.K.Drain.empties in
    let trace = option_map (λ name. name.now) c.args.form.trace in
    let plan = c.args.ready.plan in
    let read = script_read c.args.ready.script in
    let heap = c.args.form.heap in
    let todo = ready_todo c.args.form.on_use heap trace plan read in
    let session = session_todo c.args.form.on_use heap plan read.commands (bound_inputs plan [] read.bindings) (bound_slots plan read.bindings) in
    let same = c.plan.ensures ∙ ap (λ s. s.plan) c.in-Ok-with_mode.ensures in
    let opened = subst (λ p. DeskPhase means (bindings_todo p read.bindings) c.open_all.result c.args.desk.now c.open_all.new.desk) same (rw c.items.ensures at c.open_all.ensures.done) in
    let opens = rw c.if-not-open_all.false at opened in
    let failed = rw c.if-not-open_trace.true at c.open_trace.ensures.done in
    subst (λ q. GaveBy means g.K.Dsp.means by (Free todo) c.args.desk.now c.args.dsp 3 c.open_trace.new.desk q) (sym (c.into_dsp-then-not-open_trace.ensures.dsp ∙ ap (λ s. s.link.device) c.in-Ok-with_mode.ensures))
    (gave_alone means by g.K.Dsp.means (Free todo) _ _ c.args.dsp 3 (free_on means todo [] 3 _ _ (opens (traced_todo trace session) [] 3 _ (failed session))))

pub do_commands-done-requires-clause-keeps : goal.do_commands-done-requires-clause-keeps
do_commands-done-requires-clause-keeps g c =
    can_keep g.D.Desk.means g.K.TraceBuffer.holds c.args.form.trace c.open_trace.new.desk c.requires.keeps (λ some. c.open_trace.ensures.traced c.if-not-open_trace.false some)

pub do_commands-done-requires-clause-files : goal.do_commands-done-requires-clause-files
do_commands-done-requires-clause-files g c =
    let same = c.plan.ensures ∙ ap (λ s. s.plan) c.in-Ok-with_mode.ensures in
    c.open_trace.ensures.files _ _ c.if-not-open_trace.false (rw (c.in-Ok-bind_all.ensures.inputs, c.in-Ok-bind_all.ensures.outputs, c.items-bindings.ensures) (rw (c.items.ensures, same) at (c.open_all.ensures.files c.if-not-open_all.false)))

pub returns : goal.returns
returns g c =
    let means = g.D.Desk.means in
    let device = g.K.Dsp.means in
    let by = KeptTurn device g.K.TraceBuffer.holds g.K.Drain.empties in
    let trace = option_map (λ name. name.now) c.args.form.trace in
    let plan = c.args.ready.plan in
    let heap = c.args.form.heap in
    let read = script_read c.args.ready.script in
    let inputs = bound_inputs plan [] read.bindings in
    let slots = bound_slots plan read.bindings in
    let on_use = c.args.form.on_use in
    let seat = seat_in on_use plan heap c.args.dsp in
    let same = c.plan.ensures ∙ ap (λ s. s.plan) c.in-Ok-with_mode.ensures in
    let opened = subst (λ p. DeskPhase means (bindings_todo p read.bindings) c.open_all.result c.args.desk.now c.open_all.new.desk) same (rw c.items.ensures at c.open_all.ensures.done) in
    let ins = c.in-Ok-bind_all.ensures.inputs ∙ ap (λ bs. bound_inputs plan [] (bounds_of bs)) c.items-bindings.ensures in
    let outs = ap output_slots c.in-Ok-bind_all.ensures.outputs ∙ ap (λ bs. bound_slots plan (bounds_of bs)) c.items-bindings.ensures in
    let done = rw (ins, outs, c.items-commands.ensures, c.in-Ok-with_mode.ensures) at c.do_commands-done.ensures in
    record {
      last = Seated c.do_commands-done.new.session c.do_commands-done.new.inputs (output_slots c.do_commands-done.new.outputs);
      is = sym c.into_dsp-2.ensures.dsp;
      exit = c.into_dsp-2.ensures.agreed;
      ran = opened_on means by on_use plan heap c.args.dsp trace read _ _ _ _ _ _ (rw c.if-not-open_all.false at opened) (rw c.if-not-open_trace.false at c.open_trace.ensures.done)
          (begin_on means by on_use plan heap c.args.dsp inputs slots read.commands _ _ _ _ (refl, AreAgreed-new device plan heap c.args.dsp c.requires.off c.requires.carriable.sound on_use c.requires.pending c.requires.fits)
          (rw c.status_of.ensures (session_done means by read.commands c.do_commands-done.result _ _ (Seated seat inputs slots) _ done)));
    }
