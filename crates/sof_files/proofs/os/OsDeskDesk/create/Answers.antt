use Rattle.std.proofs.Common.{true, false, Some, refl, ap}
use Rattle.std.specs.Option.{option_or}
use Rattle.sof_files.specs.RealDesk.{RealDesk}
use Rattle.sof_files.proofs.ActsOfReal.{answered_is, creates}
use Rattle.sof_files.proofs.os.OsDeskDesk.create.Goals as goal

pub returns-in-Ok : goal.returns-in-Ok
returns-in-Ok g c =
    let e = c.open_for_writing.ensures in
    let mid : RealDesk = c.open_for_writing.new.self in
    let new : RealDesk = mid in
    creates c.args.slot c.args.name.now true true c.args.self.now mid new refl e.faults (rw c.in-Ok.is at e.slots) e.others e.room e.inputs (rw c.in-Ok.is at e.takes) (rw c.in-Ok.is at e.names) mid.first e.first refl

pub returns-in-Err : goal.returns-in-Err
returns-in-Err g c =
    let e = c.open_for_writing.ensures in
    let mid : RealDesk = c.open_for_writing.new.self in
    let inside = c.self.inside in
    let noting = c.note_file.ensures in
    let last : RealDesk = record { files = inside.files.items; inputs = inside.inputs.items; uses = inside.uses.items; faults = inside.troubles.count; first = inside.troubles.first } in
    let new : RealDesk = record last { faults = c.note_file.new.self.count; first = c.note_file.new.self.first } in
    let first = option_or mid.first (Some noting.0) in
    let is = answered_is last mid inside.troubles c.note_file.new.self noting.0 c.self.view_is refl refl noting.2 in
    creates c.args.slot c.args.name.now false false c.args.self.now mid new refl e.faults (rw c.in-Err.is at e.slots) e.others e.room e.inputs (rw c.in-Err.is at e.takes) (rw c.in-Err.is at e.names) first (noting.0, noting.1, ap (λ o. option_or o (Some noting.0)) e.first) is
