use Rattle.std.proofs.Common.{codes, decimal, sym}
use Rattle.tplg_picture.specs.Labels.{range_label}
use Rattle.tplg_picture.proofs.Lists.{three_lists}
use Rattle.tplg_picture.proofs.labels.say_range.Goals as goal

pub returns-in_ok-say_number-in-Blob : goal.returns-in_ok-say_number-in-Blob
returns-in_ok-say_number-in-Blob c =
    rw c.in-Blob.is (
    rw (sym (three_lists c.args.line.now.items (codes "\\nblob up to ") (decimal c.in-Blob.max) (codes " bytes"))) (
    rw (sym c.in_ok-say-in-Blob.ensures, sym c.in_ok-say_number-in-Blob.ensures) c.say-in-Blob-2.ensures
    ))
