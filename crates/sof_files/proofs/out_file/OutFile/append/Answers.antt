use Rattle.std.proofs.Common.{ap, refl, subst, true, take, arith, take-append-drop, ℕ, List, Option}
use Rattle.std.proofs.lemmas.List.{take_all, take_rest}
use Rattle.std.specs.Io.KnownBytes.{Appends}
use Rattle.std.specs.Io.Buffered.{writer_contents}
use Rattle.sof_files.specs.declared.sink.Sink.{Sink}
use Rattle.sof_files.specs.OutFiles.{OutView, contents_in}
use Rattle.sof_files.specs.Transfers.{Writes}
use Rattle.sof_files.proofs.KnownTransfers.{writes_more}
use Rattle.sof_files.proofs.out_file.OutFile.append.Goals as goal

pub returns-then-kept-piece-clause-given : goal.returns-then-kept-piece-clause-given
returns-then-kept-piece-clause-given g c =
    let near = take c.keep-kept.result c.args.piece.now in
    let mid = writer_contents (λ (s : Sink g.row.F.Denot). contents_in g.F.Write.contents s.file) c.keep-kept.new.to in
    record {
      part = near;
      takes = take_all c.keep-kept.result c.args.piece.now (omega (arith, c.if-kept-piece.true));
      appends = subst (λ (old : Option (List ℕ)). Appends old mid near) (ap (λ (v : OutView). v.given) c.self.view_is) c.keep-kept.ensures.given;
    }

pub returns-clause-given : goal.returns-clause-given
returns-clause-given g c =
    let near = take c.keep-kept.result c.args.piece.now in
    let mid = writer_contents (λ (s : Sink g.row.F.Denot). contents_in g.F.Write.contents s.file) c.keep-kept.new.to in
    let first : Writes near true c.args.self.now.given mid = record {
      part = near;
      takes = refl;
      appends = subst (λ (old : Option (List ℕ)). Appends old mid near) (ap (λ (v : OutView). v.given) c.self.view_is) c.keep-kept.ensures.given;
    } in
    rw (take_rest, take-append-drop c.keep-kept.result c.args.piece.now) at (writes_more near _ _ _ mid _ first c.append_rest.ensures.given)
