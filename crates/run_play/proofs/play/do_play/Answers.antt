use Rattle.std.proofs.Common.{option_map, arith}
use Rattle.sof_script.specs.ScriptRead.{script_read}
use Rattle.run_words.specs.FormParts.{form}
use Rattle.run_play.proofs.Plays.{kept_alone, kept_whole, second_missing, halted_on, ready_on}
use Rattle.run_play.proofs.ScriptRanges.{script_sound}
use Rattle.run_play.proofs.PreparedReads.{prepared_read}
use Rattle.run_play.proofs.play.do_play.Goals as goal

pub returns-in-Err : goal.returns-in-Err
returns-in-Err g c = kept_alone g.D.Desk.means g.P.Dsp.means _ _ _ _ _ _ (c.in-Err.ensures _)

pub returns-in-Err-fetch : goal.returns-in-Err-fetch
returns-in-Err-fetch g c =
    kept_alone g.D.Desk.means g.P.Dsp.means _ _ _ _ _ _
    (second_missing g.D.Desk.means (form c.args.form.on_use c.args.form.heap c.args.form.topology.now c.args.form.script.now (option_map (λ name. name.now) c.args.form.trace)) c.in-Ok.bytes.items _ _ _ _ c.in-Ok.ensures.0 c.in-Ok.ensures.1 c.in-Err-fetch.ensures)

pub returns-in-Ok-prepare : goal.returns-in-Ok-prepare
returns-in-Ok-prepare g c =
    kept_whole g.D.Desk.means g.P.Dsp.means _ _ _ _ _ _ _ _ _
    (λ turns played. ready_on g.D.Desk.means (form c.args.form.on_use c.args.form.heap c.args.form.topology.now c.args.form.script.now (option_map (λ name. name.now) c.args.form.trace)) c.in-Ok.bytes.items c.in-Ok-fetch.bytes.items _ _ _ _ _ c.in-Ok.ensures.0 c.in-Ok-fetch.ensures.0 c.in-Ok.ensures.1 c.in-Ok-fetch.ensures.1
    c.in-Ok-prepare.ready.plan (script_read c.in-Ok-prepare.ready.script) turns (rw (c.deref.ensures.value, c.deref-2.ensures.value) at c.in-Ok-prepare.ensures.0) played)
    c.do_run.ensures

pub returns : goal.returns
returns g c =
    kept_alone g.D.Desk.means g.P.Dsp.means _ _ _ _ _ _
    (halted_on g.D.Desk.means (form c.args.form.on_use c.args.form.heap c.args.form.topology.now c.args.form.script.now (option_map (λ name. name.now) c.args.form.trace)) c.in-Ok.bytes.items c.in-Ok-fetch.bytes.items _ _ _ _ _ c.in-Ok.ensures.0 c.in-Ok-fetch.ensures.0 c.in-Ok.ensures.1 c.in-Ok-fetch.ensures.1
    c.in-Err-prepare.halt (rw (c.deref.ensures.value, c.deref-2.ensures.value) at c.in-Err-prepare.ensures) c.stop_for.ensures)

pub do_run-requires-clause-sound : goal.do_run-requires-clause-sound
do_run-requires-clause-sound g c =
    let plan = c.in-Ok-prepare.ready.plan in
    let read = script_read c.in-Ok-prepare.ready.script in
    script_sound c.in-Ok-fetch.bytes.items read (omega (arith, c.in-Ok-fetch.ensures.0.answers.0)) (prepared_read plan read c.in-Ok.bytes.items c.in-Ok-fetch.bytes.items (rw (c.deref.ensures.value, c.deref-2.ensures.value) at c.in-Ok-prepare.ensures.0))
