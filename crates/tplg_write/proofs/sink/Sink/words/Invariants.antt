use Rattle.std.proofs.Common.{◌≡◌, take}
use Rattle.sof_base.specs.Slots.{Words}
use Rattle.sof_base.specs.Layouts.{wrote}
use Rattle.tplg_write.proofs.sink.Sink.words.Given as goal

abbrev pub invariant-loop-word : goal.invariant-loop-word
invariant-loop-word l = l.self ≡ record { front = l.fn.self.front; added = wrote l.fn.self.added (Words (take l.word-index l.words)) }
