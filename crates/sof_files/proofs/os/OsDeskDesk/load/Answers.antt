use Rattle.std.proofs.Common.{Ok, Err, ap, refl, subst}
use Rattle.sof_desk.specs.declared.calls.LoadFault.TheVariants.{Failed, TooLong, OutOfMemory}
use Rattle.sof_desk.specs.Desk.{Loaded}
use Rattle.sof_files.specs.RealDesk.{RealDesk, real}
use Rattle.sof_files.proofs.LoadsOfReal.{loads}
use Rattle.sof_files.proofs.os.OsDeskDesk.load.Goals as goal

pub returns-in-Ok : goal.returns-in-Ok
returns-in-Ok g c =
    let inside = c.self.inside in
    let mid : RealDesk = record { files = inside.files.items; inputs = inside.inputs.items; uses = inside.uses.items; faults = inside.troubles.count; first = inside.troubles.first } in
    let new : RealDesk = record mid { uses = c.load_file.new.uses.items } in
    subst (λ (old : RealDesk). Loaded real c.args.name.now c.args.limit (Ok c.in-Ok.bytes.items) old new) c.self.view_is (loads c.args.name.now c.args.limit (Ok c.in-Ok.bytes.items) mid new c.in-Ok.ensures.limit refl refl c.load_file.ensures.takes refl refl)

pub returns-in-Err-TooLong : goal.returns-in-Err-TooLong
returns-in-Err-TooLong g c =
    let inside = c.self.inside in
    let mid : RealDesk = record { files = inside.files.items; inputs = inside.inputs.items; uses = inside.uses.items; faults = inside.troubles.count; first = inside.troubles.first } in
    let new : RealDesk = record mid { uses = c.load_file.new.uses.items } in
    subst (λ (old : RealDesk). Loaded real c.args.name.now c.args.limit (Err TooLong) old new) c.self.view_is (loads c.args.name.now c.args.limit (Err TooLong) mid new tt refl refl c.load_file.ensures.takes refl refl)

pub returns-in-Err-OutOfMemory : goal.returns-in-Err-OutOfMemory
returns-in-Err-OutOfMemory g c =
    let inside = c.self.inside in
    let mid : RealDesk = record { files = inside.files.items; inputs = inside.inputs.items; uses = inside.uses.items; faults = inside.troubles.count; first = inside.troubles.first } in
    let new : RealDesk = record mid { uses = c.load_file.new.uses.items } in
    subst (λ (old : RealDesk). Loaded real c.args.name.now c.args.limit (Err OutOfMemory) old new) c.self.view_is (loads c.args.name.now c.args.limit (Err OutOfMemory) mid new tt refl refl c.load_file.ensures.takes refl refl)

pub returns-in-Err-Failed : goal.returns-in-Err-Failed
returns-in-Err-Failed g c =
    let inside = c.self.inside in
    let noting = c.note_file.ensures in
    let mid : RealDesk = record { files = inside.files.items; inputs = inside.inputs.items; uses = inside.uses.items; faults = inside.troubles.count; first = inside.troubles.first } in
    let new : RealDesk = record mid { uses = c.load_file.new.uses.items; faults = c.note_file.new.self.count; first = c.note_file.new.self.first } in
    subst (λ (old : RealDesk). Loaded real c.args.name.now c.args.limit (Err Failed) old new) c.self.view_is (loads c.args.name.now c.args.limit (Err Failed) mid new tt refl refl c.load_file.ensures.takes (ap (λ n. n.count) noting.2) (noting.0, noting.1, ap (λ n. n.first) noting.2))
