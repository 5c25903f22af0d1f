use Rattle.std.proofs.Common.{◌∙◌, option_map}
use Rattle.sof_script.specs.ScriptRead.{script_read}
use Rattle.run_play.specs.Play.{ready_todo}
use Rattle.run_play.proofs.Plays.{wanted_kept}
use Rattle.run_play.proofs.Kept.{some_named, named_as, traced_gave}
use Rattle.run_play.proofs.play.do_traced.Goals as goal

pub do_session-ended-requires-clause-keeps : goal.do_session-ended-requires-clause-keeps
do_session-ended-requires-clause-keeps g c = λ none k. absurd (some_named c.args.form.trace c.requires.some none)

pub returns-in-Ok : goal.returns-in-Ok
returns-in-Ok g c =
    let name = named_as (λ name. name.now) c.args.form.trace c.requires.some in
    rw (c.into_dsp.ensures, name.1) (traced_gave g.P.Dsp.means g.D.Desk.means name.0 c.args.form.on_use c.requires.at_load c.args.form.heap c.args.ready.plan (script_read c.args.ready.script) _ _ _ _ _ (rw (c.in-Ok.ensures, name.1) at c.do_session-ended.ensures))

-- there was no memory for the records
pub returns-in-Err : goal.returns-in-Err
returns-in-Err g c =
    wanted_kept g.D.Desk.means g.P.Dsp.means _ _ _ _ c.args.dsp _ _ (c.fail_no_memory.ensures.same ∙ c.in-Err.ensures)
    (c.fail_no_memory.ensures.said (ready_todo c.args.form.on_use c.args.form.heap (option_map (λ name. name.now) c.args.form.trace) c.args.ready.plan (script_read c.args.ready.script)))
