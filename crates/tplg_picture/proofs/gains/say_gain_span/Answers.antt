use Rattle.std.proofs.Common.{◌≡◌, ◌++◌, codes, sym, rules}
use Rattle.tplg_picture.specs.Labels.{gain_span, gain_words}
use Rattle.tplg_picture.proofs.Lists.{four_lists}
use Rattle.tplg_picture.proofs.gains.say_gain_span.Goals as goal

pub returns : goal.returns
unfolding gain_span
returns c =
    let line = c.args.line.now.items in
    let lowest = c.args.lowest in
    let step = c.args.step in
    let least : c.say_gain.new.line.items ≡ line ++ gain_words lowest step c.args.least = search rules in
    let greatest : c.say_gain-2.new.line.items ≡ c.say.new.line.items ++ gain_words lowest step c.args.greatest = search rules in
    rw (sym (four_lists line (gain_words lowest step c.args.least) (codes " to ") (gain_words lowest step c.args.greatest) (codes " dB"))) (
    rw (sym least, sym c.in_ok-say.ensures, sym greatest) c.say-2.ensures
    )
