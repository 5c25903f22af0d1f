use Rattle.std.proofs.Common.{◌<◌, ◌^◌, length, arith, rules, ap, length-append}
use Rattle.sof_base.specs.Slots.{AreSlots, IsSlot}
use Rattle.tplg_model.proofs.ItemLaws.{items_few}
use Rattle.tplg_model.specs.Arrays.{AreArrays, arrays_spelling}
use Rattle.tplg_model.specs.Spelling.{control_cells, items_cells, widget_head_cells, head_of}
use Rattle.tplg_write.proofs.ControlRoom.{control_some, tokens_room}
use Rattle.tplg_write.proofs.widgets.put_widget_head.Goals as goal

pub overflow_cast-items : goal.overflow_cast-items
overflow_cast-items c =
    let w = c.args.widget.now in
    omega (arith, c.requires.room, items_few control_cells control_some w.controls, length-append (widget_head_cells (head_of w)) (items_cells control_cells w.controls), ap length c.items.ensures)

pub put_tokens-requires : goal.put_tokens-requires
put_tokens-requires c =
    let w = c.args.widget.now in
    record {
      room = omega (arith, c.requires.room, tokens_room (head_of w), length-append (widget_head_cells (head_of w)) (items_cells control_cells w.controls), ap (λ ts. length (arrays_spelling ts)) c.items-2.ensures);
    }

pub returns-clause-is : goal.returns-clause-is
unfolding AreSlots IsSlot
returns-clause-is c =
    let w = c.args.widget.now in
    let controls : length w.controls < 2 ^ 32 = omega (arith, c.word-2.ensures.fits, ap length c.items.ensures) in
    let private : length (arrays_spelling w.tokens) < 2 ^ 32 = omega (arith, c.requires.room, tokens_room (head_of w), length-append (widget_head_cells (head_of w)) (items_cells control_cells w.controls)) in
    record {
      slots = (tt, (c.word.ensures.fits, (c.label.ensures.fits, (c.label-2.ensures.fits, (c.words.ensures.fit, (c.half.ensures.fits, (c.half-2.ensures.fits, (controls, (private, (tt, tt))))))))));
      words = search rules;
      tokens = rw (← c.items-2.ensures) c.in_ok-put_tokens.ensures.are;
    }
