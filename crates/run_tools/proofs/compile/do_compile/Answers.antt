use Rattle.std.proofs.Common.{is_ok, codes}
use Rattle.run_words.specs.FormParts.{names}
use Rattle.run_tools.proofs.CompilePhases.{made, refused, none_refused, none_missing, made_is}
use Rattle.run_tools.proofs.compile.do_compile.Goals as goal

pub returns-in-Err-clause-played : goal.returns-in-Err-clause-played
returns-in-Err-clause-played g c = c.in-Err.ensures _

pub returns-in-Err-clause-sound : goal.returns-in-Err-clause-sound
returns-in-Err-clause-sound g c = λ zero text t holds is.
    absurd (none_missing g.D.Desk.means c.args.names.source.now (codes "too long source\n") 1048576 c.args.desk.now c.fetch.new.desk c.in-Err.status c.in-Err.ensures zero)

pub returns-in-Ok-compiled-clause-played : goal.returns-in-Ok-compiled-clause-played
returns-in-Ok-compiled-clause-played g c =
    let right = rw c.deref.ensures.value at c.in-Ok-compiled.ensures in
    let phase = rw c.deref-in-Ok-compiled.ensures.value at c.make_file.ensures in
    rw (c.status_of.ensures, c.is_ok.ensures.value)
    (made g.D.Desk.means (names c.args.names.source.now c.args.names.out.now) c.in-Ok.bytes.items c.args.desk.now c.fetch.new.desk c.make_file.new.desk c.in-Ok.ensures.0 c.in-Ok.ensures.1
    right.0 c.in-Ok-compiled.bytes.items (is_ok c.make_file.result) right.1 right.2 phase)

pub returns-in-Ok-compiled-clause-sound : goal.returns-in-Ok-compiled-clause-sound
returns-in-Ok-compiled-clause-sound g c = λ zero.
    let right = rw c.deref.ensures.value at c.in-Ok-compiled.ensures in
    made_is g.D.Desk.means c.args.names.source.now c.in-Ok.bytes.items 1048576 c.args.desk.now c.fetch.new.desk right.0 c.in-Ok.ensures.0 right.1 right.3

pub returns-clause-played : goal.returns-clause-played
returns-clause-played g c =
    refused g.D.Desk.means (names c.args.names.source.now c.args.names.out.now) c.in-Ok.bytes.items c.args.desk.now c.fetch.new.desk c.refuse.new.desk c.in-Ok.ensures.0 c.in-Ok.ensures.1
    c.in-Err-compiled.fault _ (rw c.deref.ensures.value at c.in-Err-compiled.ensures) c.refuse.ensures

pub returns-clause-sound : goal.returns-clause-sound
returns-clause-sound g c = λ zero text t holds is.
    absurd (none_refused g.D.Desk.means c.in-Err-compiled.fault c.fetch.new.desk c.refuse.new.desk _ c.refuse.ensures zero)
