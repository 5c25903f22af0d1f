use Rattle.sof_files.proofs.KnownTransfers.{write_step}
use Rattle.sof_files.proofs.transfer.write_all.Goals as goal

pub loop-rest-preserved : goal.loop-rest-preserved
loop-rest-preserved g c =
    let contents = g.W.Write.contents in
    let before = c.loop-rest.invariant in
    write_step c.args.piece.now c.loop-rest.rest.now before.0 c.in-Ok.count (contents c.args.to.now) (contents c.loop-rest.to) (contents c.write.new.self) before.1.0 before.1.1 c.in-Ok.ensures.bytes
