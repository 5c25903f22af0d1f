use Rattle.std.proofs.Common.{refl, sym, ap, ◌∙◌}
use Rattle.fw_heap.specs.Pieces.{PieceState}
use Rattle.fw_ring.specs.RingState.{RingState}
use Rattle.mbox_link.specs.Step.{buffer_bytes}
use Rattle.fw_units.specs.Units.{edge_by}
use Rattle.fw_core.proofs.Values.{there-used}
use Rattle.fw_core.proofs.Made.{IsCarved, new_buffer, buffer-is, few-there}
use Rattle.fw_core.proofs.new_rows.buffer_new.Goals as goal

pub add-requires-clause-id : goal.add-requires-clause-id
add-requires-clause-id c = there-used c.args.registry.now c.args.id ∙ sym c.is_used.ensures ∙ c.if-is_used.false

pub returns : goal.returns
returns c =
    let t = c.args.registry.now in let r = c.args.region.now in let s = c.carve.new.self in
    let ring = c.over.result in
    let own = c.in-Ok.ensures {u = tt} in
    let piece = ap (λ (x : RingState). x.piece) c.over.ensures in
    let so : IsCarved (buffer_bytes c.args.size) r s (new_buffer c.args.id c.args.pipe c.args.size ring) = record {
      home = ap (λ (p : PieceState). p.home) piece ∙ own.piece.0;
      place = ap (λ (p : PieceState). p.place) piece ∙ own.piece.2;
      size = ap (λ (p : PieceState). p.size) piece ∙ own.piece.1;
      room = own.succeeds.0 refl;
      left = own.holes;
    } in
    buffer-is t c.add.new.registry r s c.args.id c.args.pipe c.args.size ring c.requires.held so (sym c.is_used.ensures ∙ c.if-is_used.false) (ap (λ (x : RingState). x.frames) c.over.ensures)
    (sym c.is_complete.ensures ∙ c.if-is_complete.false) (few-there 128 edge_by t.buffers c.buffers.result.now c.buffers.ensures.items c.if-buffers-ge128.false) c.requires.size c.add.ensures
