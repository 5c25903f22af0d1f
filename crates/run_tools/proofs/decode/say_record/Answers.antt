use Rattle.std.proofs.Common.{◌++◌, List, ℕ, codes, is_ok, ap, ◌∙◌}
use Rattle.sof_desk.specs.Desk.{Put, Spoken}
use Rattle.ipc3_trace.specs.EntryLines.{entry_line}
use Rattle.run_desk.specs.Lines.{with_newline}
use Rattle.run_desk.proofs.Steps.{do_phase}
use Rattle.run_tools.proofs.decode.say_record.Goals as goal

pub returns : goal.returns
returns g c =
    rw c.is_ok.ensures.value
    (do_phase g.D.Desk.means (Put Spoken (with_newline (entry_line c.args.entry.now))) (is_ok c.say-2.result) _ _
    (rw (c.bytes.ensures ∙ c.say.ensures.said ∙ ap (λ (l : List ℕ). l ++ codes "\n") c.describe.ensures.said) at c.say-2.ensures))
