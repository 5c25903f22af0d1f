use Rattle.std.proofs.Common.{◌≡◌, refl, sym, ap, ◌∙◌, false, not, ◌==◌}
use Rattle.stream_law.specs.declared.graph.Pipe.{Pipe}
use Rattle.mbox_link.specs.Step.{pipe_bytes, has_index}
use Rattle.fw_units.specs.Units.{pipe_by}
use Rattle.fw_components.specs.Tables.{graph_of}
use Rattle.fw_walks.proofs.OnWays.{any-map}
use Rattle.fw_core.proofs.Values.{there-used}
use Rattle.fw_core.proofs.Made.{IsCarved, new_pipeline, pipe-is, few-there}
use Rattle.fw_core.proofs.new_rows.pipe_new.Goals as goal

pub add-requires-clause-id : goal.add-requires-clause-id
add-requires-clause-id c = there-used c.args.registry.now c.args.id ∙ sym c.is_used.ensures ∙ c.if-is_used.false

pub add-requires-clause-index : goal.add-requires-clause-index
add-requires-clause-index c =
    let t = c.args.registry.now in
    let none : has_index (graph_of t) c.args.index ≡ false = sym c.has_index.ensures ∙ c.if-has_index.false in
    ap not (sym (any-map (λ (p : Pipe). p.index == c.args.index) pipe_by t.pipes) ∙ none)

pub returns : goal.returns
returns c =
    let t = c.args.registry.now in let r = c.args.region.now in let s = c.carve.new.self in
    let own = c.in-Ok.ensures {u = tt} in
    let so : IsCarved pipe_bytes r s (new_pipeline c.args.id c.args.index c.args.sched c.args.period c.in-Ok.piece) = record {
      home = own.piece.0;
      place = own.piece.2;
      size = own.piece.1;
      room = own.succeeds.0 refl;
      left = own.holes;
    } in
    pipe-is t c.add.new.registry r s c.args.id c.args.index c.args.sched c.args.period c.in-Ok.piece c.requires.held so (sym c.is_used.ensures ∙ c.if-is_used.false)
    (sym c.has_index.ensures ∙ c.if-has_index.false) (few-there 32 pipe_by t.pipes c.pipes.result.now c.pipes.ensures.items c.if-pipes-ge32.false) c.requires.period c.add.ensures
