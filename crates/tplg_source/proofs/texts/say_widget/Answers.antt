use Rattle.std.proofs.Common.{◌++◌, codes, ap, ◌∙◌}
use Rattle.std.specs.List.{flat_map}
use Rattle.tplg_source.specs.SourceText.{widget_head, number_line, text_line, control_text, widget_text}
use Rattle.tplg_source.proofs.Pieces.{five, written}
use Rattle.tplg_source.proofs.texts.say_widget.Goals as goal

pub returns : goal.returns
unfolding widget_text
returns c =
    let w = c.args.widget.now in
    let numbers = c.in_ok-say_numbers.ensures ∙ ap (λ xs. c.say_widget_head.new.out.items ++ flat_map number_line xs) c.items.ensures in
    let texts = c.in_ok-say_token_texts.ensures ∙ ap (λ xs. c.say_numbers.new.out.items ++ flat_map text_line xs) c.items-2.ensures in
    let all = five c.args.out.now.items (codes "[[widget]]\n") (widget_head w) (flat_map number_line w.numbers) (flat_map text_line w.texts) (flat_map control_text w.controls)
    _ _ _ _ c.in_ok-say.ensures c.in_ok-say_widget_head.ensures numbers texts in
    written _ _ _ _ (ap (λ xs. c.say_token_texts.new.out.items ++ flat_map control_text xs) c.items-3.ensures ∙ all) c.say_controls.ensures
