use Rattle.sof_script.proofs.ScriptLaws.{bound_pushed}
use Rattle.sof_script.proofs.reading.add.Goals as goal

pub returns-in_ok-file-in-Bind-clause-added : goal.returns-in_ok-file-in-Bind-clause-added
returns-in_ok-file-in-Bind-clause-added c = λ read.
    rw c.in-Bind.is
    (bound_pushed c.push.result c.args.script.now.bindings c.push.new.self c.args.script.now.commands
    (record { line = c.args.line; input = c.in-Bind.input; endpoint = c.in-Bind.endpoint; file = c.in_ok-file-in-Bind.file }) c.in-Bind.file read c.in_ok-file-in-Bind.ensures c.push.ensures.ok)
