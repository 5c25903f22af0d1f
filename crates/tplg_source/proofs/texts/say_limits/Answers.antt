use Rattle.std.proofs.Common.{codes, decimal}
use Rattle.tplg_source.specs.SourceText.{key_line, text_list, format_list, limits_text}
use Rattle.tplg_source.proofs.Pieces.{five, written}
use Rattle.tplg_source.proofs.texts.say_limits.Goals as goal

pub returns : goal.returns
unfolding limits_text
returns c =
    let l = c.args.limits.now in
    written _ _ _ _ (five c.args.out.now.items (key_line (codes "formats") (text_list (format_list l.formats))) (key_line (codes "rate_min") (decimal l.rate_min))
    (key_line (codes "rate_max") (decimal l.rate_max)) (key_line (codes "channels_min") (decimal l.channels_min)) (key_line (codes "channels_max") (decimal l.channels_max))
    _ _ _ _ c.in_ok-say_formats.ensures c.in_ok-number_at_key.ensures c.in_ok-number_at_key-2.ensures c.in_ok-number_at_key-3.ensures) c.number_at_key-4.ensures
