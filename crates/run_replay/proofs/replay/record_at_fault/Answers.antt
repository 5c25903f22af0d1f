use Rattle.std.proofs.Common.{◌∙◌, ap, Err, inl, inr}
use Rattle.run_replay.proofs.replay.record_at_fault.Goals as goal

pub returns-in-Err-At : goal.returns-in-Err-At
returns-in-Err-At g c = (c.give_records.new.dsp, rw (c.in-Err-At.is ∙ ap Err c.in-Err-At.field-0-is) at c.give_records.ensures)

pub returns-in-Err-Device : goal.returns-in-Err-Device
returns-in-Err-Device g c = (c.give_records.new.dsp, inr (rw (c.in-Err-Device.is ∙ ap Err c.in-Err-Device.field-0-is) at c.give_records.ensures))

pub returns : goal.returns
returns g c = (c.give_records.new.dsp, inl (c.in-Ok.field-0, rw c.in-Ok.is at c.give_records.ensures))
