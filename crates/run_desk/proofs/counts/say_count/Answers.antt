use Rattle.std.proofs.Common.{is_ok, ◌∙◌}
use Rattle.sof_desk.specs.Desk.{Put, Spoken}
use Rattle.run_desk.specs.Lines.{with_newline, count_line}
use Rattle.run_desk.proofs.Steps.{do_phase}
use Rattle.run_desk.proofs.counts.say_count.Goals as goal

pub returns : goal.returns
returns g c =
    do_phase g.D.Desk.means (Put Spoken (with_newline (count_line c.args.word.now c.args.count))) (is_ok c.say.result) _ _ (rw (c.bytes.ensures ∙ c.write_count.ensures) at c.say.ensures)
