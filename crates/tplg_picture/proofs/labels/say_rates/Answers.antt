use Rattle.std.proofs.Common.{codes, sym}
use Rattle.tplg_picture.specs.Labels.{rate_label, span_words}
use Rattle.tplg_picture.proofs.Lists.{four_lists}
use Rattle.tplg_picture.proofs.labels.say_rates.Goals as goal

pub returns : goal.returns
unfolding rate_label
returns c =
    let caps = c.args.caps.now in
    rw (sym (four_lists c.args.line.now.items (codes "\\n") (span_words caps.rate_min caps.rate_max) (codes " Hz, channels ") (span_words caps.channels_min caps.channels_max))) (
    rw (sym c.in_ok-say.ensures, sym c.in_ok-say_span.ensures, sym c.in_ok-say-2.ensures) c.say_span-2.ensures
    )
