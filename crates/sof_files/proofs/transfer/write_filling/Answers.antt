use Rattle.std.proofs.Common.{is_ok, take-append-drop}
use Rattle.std.specs.Io.Buffered.{writer_contents}
use Rattle.sof_files.specs.Transfers.{Writes}
use Rattle.sof_files.proofs.KnownTransfers.{writes_more}
use Rattle.sof_files.proofs.transfer.write_filling.Goals.{then-rest-room+in_ok-write_all, else-rest-room}
use Rattle.sof_files.proofs.transfer.write_filling.Goals as goal

pub returns : goal.returns
returns g c =
    let contents = g.W.Write.contents in
    let last = c.write_all-2 in
    elim c.if-rest-room.branch [
      | then-rest-room+in_ok-write_all w ↦
          let near = w.split_at.result.0.now in
          let far = w.split_at.result.1.now in
          let behind : Writes far (is_ok last.result) (writer_contents contents w.write_all.new.to) (writer_contents contents last.new.to) = rw (w.rest-is, w.to-is) at last.ensures in
          let whole = writes_more near far (is_ok last.result) _ _ _ w.in_ok-write_all.ensures behind in
          rw (w.split_at.ensures.front, w.split_at.ensures.back, take-append-drop c.saturating_sub-room.result c.args.piece.now) at whole
      | else-rest-room w ↦ rw (w.rest-is, w.to-is) at last.ensures
    ]
