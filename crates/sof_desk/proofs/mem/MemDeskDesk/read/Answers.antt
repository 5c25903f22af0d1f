use Rattle.std.proofs.Common.{◌≡◌, ◌≤◌, ◌∙◌, sym, ap, arith, Some, None}
use Rattle.sof_desk.specs.Shelf.{Shelf}
use Rattle.sof_desk.proofs.ActsOfShelf.{was_read}
use Rattle.sof_desk.proofs.CallSteps.{reads}
use Rattle.sof_desk.proofs.mem.MemDeskDesk.read.Goals as goal
use Rattle.sof_desk.proofs.mem.MemDeskDesk.read.Goals.{in-Some, in-None}

pub returns-in-Some-count : goal.returns-in-Some-count
returns-in-Some-count c =
    let call = c.count_call-planned in
    let count = c.in-Some-count.count in
    elim c.match-planned.branch [
      | in-Some w ↦ (let no : None ≡ Some count = sym w.count-is ∙ c.in-Some-count.is in cc)
      | in-None w ↦
          let given = rw (sym w.count-is ∙ c.in-Some-count.is) at w.read_next-count.ensures in
          let within : count ≤ _ = rw (← w.out-is) at given.bound in
          let same_most = ap (λ (s : Shelf). s.most) (c.self.view_is ∙ w.self-is ∙ given.after) ∙ ap (λ (s : Shelf). s.most) call.ensures.after in
          (within, was_read c.args.slot _ _ c.args.self.now c.match-planned.self c.requires.room (omega (arith, c.self.invariant.reads, same_most)) (reads c.args.self.now call.new.self c.match-planned.self call.result c.args.slot _ count c.match-planned.out call.ensures.after call.ensures.planned w.in-None.is within (rw (← w.out-is) at given.gets) (w.self-is ∙ given.after)))
    ]
