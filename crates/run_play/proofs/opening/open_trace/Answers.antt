use Rattle.std.proofs.Common.{◌≡◌, true, false, sym}
use Rattle.sof_desk.specs.Desk.{Create}
use Rattle.run_play.specs.Keeping.{trace_slot}
use Rattle.run_desk.proofs.Steps.{do_phase}
use Rattle.run_play.proofs.Openings.{files_kept, marked_itself}
use Rattle.run_play.proofs.opening.open_trace.Goals as goal

pub returns-in-Some-clause-done : goal.returns-in-Some-clause-done
returns-in-Some-clause-done g c = rw c.in-Some.is (do_phase g.D.Desk.means (Create trace_slot c.in-Some.name.now) c.is_ok.result _ _ (rw (sym c.is_ok.ensures.value) at c.create.ensures))

pub returns-in-Some-clause-traced : goal.returns-in-Some-clause-traced
returns-in-Some-clause-traced g c = λ done some.
    marked_itself g.D.Desk.means trace_slot c.in-Some.name.now _ _ (rw (sym c.is_ok.ensures.value, done) at c.create.ensures)

pub returns-in-Some-clause-files : goal.returns-in-Some-clause-files
returns-in-Some-clause-files g c = λ inputs outputs done all.
    files_kept g.D.Desk.means inputs outputs _ _ trace_slot c.in-Some.name.now (rw (sym c.is_ok.ensures.value, done) at c.create.ensures) all

pub returns-in-None-clause-done : goal.returns-in-None-clause-done
returns-in-None-clause-done g c = rw c.in-None.is (λ rest turns status end played. played)

pub returns-in-None-clause-traced : goal.returns-in-None-clause-traced
returns-in-None-clause-traced g c = λ done some. let none : false ≡ true = rw c.in-None.is at some in absurd (cc none)

pub returns-in-None-clause-files : goal.returns-in-None-clause-files
returns-in-None-clause-files g c = λ inputs outputs done all. all
