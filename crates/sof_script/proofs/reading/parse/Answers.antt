use Rattle.std.proofs.Common.{◌≡◌, Ok, Err, inr, arith, rules, sym, ap, ◌∙◌}
use Rattle.sof_script.specs.declared.reading.ScriptFault.TheVariants.{Line}
use Rattle.sof_script.specs.Causes.{cause_number}
use Rattle.sof_script.specs.Commands.{line_item, script_of}
use Rattle.sof_script.specs.ScriptRead.{script_read}
use Rattle.sof_script.proofs.ScriptLaws.{Reading-fault, Reading-more, Reading-all}
use Rattle.sof_script.proofs.FaultLaws.{told_fault, told_right}
use Rattle.sof_script.proofs.reading.parse.Goals as goal

pub returns-in-Err-read : goal.returns-in-Err-read
returns-in-Err-read c =
    let bytes = c.args.bytes.now in
    let read : script_of bytes ≡ Err (Line c.loop-rest.number (cause_number c.in-Err-read.cause)) = Reading-fault bytes c.loop-rest.rest.now c.first_line.result.0.now c.first_line.result.1.now c.loop-rest.number
    c.in-Err-read.cause c.loop-rest.script c.loop-rest.invariant c.first_line.ensures.lines (ap line_item (sym c.before_return.ensures) ∙ sym c.in-Ok.ensures ∙ c.in-Err-read.is) in
    let fault : script_of bytes ≡ Err (Line c.loop-rest.number c.number.result) = read ∙ ap (λ told. Err (Line c.loop-rest.number told)) (sym c.number.ensures) in
    record { read = inr fault; few = tt; first = told_fault bytes c.loop-rest.number c.number.result fault }

pub loop-rest-preserved : goal.loop-rest-preserved
loop-rest-preserved c =
    Reading-more c.args.bytes.now c.loop-rest.rest.now c.first_line.result.0.now c.first_line.result.1.now c.loop-rest.number c.in-Ok-read.next c.loop-rest.script c.add.new.script c.loop-rest.invariant
    c.first_line.ensures.lines c.first_line.ensures.fewer (ap line_item (sym c.before_return.ensures) ∙ sym c.in-Ok.ensures ∙ c.in-Ok-read.is) (λ read. c.in_default.ensures.added read) c.in_default.ensures.one

pub returns : goal.returns
returns c =
    let all : script_of c.args.bytes.now ≡ Ok (script_read c.loop-rest.script) = Reading-all c.args.bytes.now c.loop-rest.rest.now c.loop-rest.number c.loop-rest.script c.loop-rest.invariant (search rules) in
    record { read = all; few = omega (arith, c.loop-rest.invariant.short, c.loop-rest.invariant.few, c.requires); first = told_right c.args.bytes.now (script_read c.loop-rest.script) all }
