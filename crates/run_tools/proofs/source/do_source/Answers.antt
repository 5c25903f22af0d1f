use Rattle.std.proofs.Common.{is_ok}
use Rattle.run_words.specs.FormParts.{source_files}
use Rattle.run_tools.proofs.SourcePhases.{source_made, no_source, source_halted}
use Rattle.run_tools.proofs.source.do_source.Goals as goal

pub returns-in-Err : goal.returns-in-Err
returns-in-Err g c = c.in-Err.ensures _

pub returns-in-Ok-Some : goal.returns-in-Ok-Some
returns-in-Ok-Some g c =
    let right = rw (c.in-Ok-Some.field-0-is, c.deref.ensures.value) at c.in-Ok-Some.ensures in
    let phase = rw c.deref-in-Ok-Some.ensures.value at c.make_file.ensures in
    rw (c.status_of.ensures, c.is_ok.ensures.value)
    (source_made g.D.Desk.means (source_files c.args.files.topology.now c.args.files.out.now) c.in-Ok.bytes.items c.args.desk.now c.fetch.new.desk c.make_file.new.desk c.in-Ok.ensures.0 c.in-Ok.ensures.1
    right.0 c.in-Ok-Some.text.items (is_ok c.make_file.result) right.1 right.2 phase)

pub returns-in-Ok-None : goal.returns-in-Ok-None
returns-in-Ok-None g c =
    let right = rw (c.in-Ok-None.field-0-is, c.deref.ensures.value) at c.in-Ok-None.ensures in
    no_source g.D.Desk.means (source_files c.args.files.topology.now c.args.files.out.now) c.in-Ok.bytes.items c.args.desk.now c.fetch.new.desk c.stop.new.desk c.in-Ok.ensures.0 c.in-Ok.ensures.1
    right.0 _ right.1 right.2 c.stop.ensures

pub returns : goal.returns
returns g c =
    source_halted g.D.Desk.means (source_files c.args.files.topology.now c.args.files.out.now) c.in-Ok.bytes.items c.args.desk.now c.fetch.new.desk c.stop_for.new.desk c.in-Ok.ensures.0 c.in-Ok.ensures.1
    c.in-Err-sourced.halt _ (rw c.deref.ensures.value at c.in-Err-sourced.ensures) c.stop_for.ensures
