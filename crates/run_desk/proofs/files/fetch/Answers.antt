use Rattle.run_desk.proofs.Steps.{ask_off, ask_long, ask_free}
use Rattle.run_desk.proofs.files.fetch.Goals as goal

pub returns-in-Err-Failed : goal.returns-in-Err-Failed
returns-in-Err-Failed g c = λ next. ask_off g.D.Desk.means c.args.name.now c.args.limit c.args.long.now next _ _ (rw c.in-Err-Failed.field-0-is at c.in-Err-Failed.ensures)

pub returns-in-Err-TooLong : goal.returns-in-Err-TooLong
returns-in-Err-TooLong g c = λ next. ask_long g.D.Desk.means c.args.name.now c.args.limit c.args.long.now next _ _ _ _ (rw c.in-Err-TooLong.field-0-is at c.in-Err-TooLong.ensures) c.stop.ensures

pub returns-in-Err-OutOfMemory : goal.returns-in-Err-OutOfMemory
returns-in-Err-OutOfMemory g c = λ next. ask_free g.D.Desk.means c.args.name.now c.args.limit c.args.long.now next _ _ _ _ (rw c.in-Err-OutOfMemory.field-0-is at c.in-Err-OutOfMemory.ensures) c.stop-in-Err-OutOfMemory.ensures
