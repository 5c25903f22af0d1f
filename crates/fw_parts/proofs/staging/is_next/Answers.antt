use Rattle.std.proofs.Common.{◌∙◌, refl, sym, ap, ◌==◌, true, false, take}
use Rattle.std.specs.Str.{bytes_eq}
use Rattle.mbox_link.specs.Step.{bytes_left}
use Rattle.fw_parts.proofs.PartLaws.{next-told}
use Rattle.fw_parts.proofs.staging.is_next.Goals as goal

pub returns-then-not-is_in_turn : goal.returns-then-not-is_in_turn
returns-then-not-is_in_turn c = λ id.
    next-told id c.args.staged.now c.args.next c.args.remaining c.args.part.now false (bytes_eq c.args.part.now.header (take 32 c.args.staged.now)) (bytes_left c.args.part.now == c.args.remaining) (sym c.if-not-is_in_turn.true ∙ c.is_in_turn.ensures) refl refl

pub returns-then-not-are_same : goal.returns-then-not-are_same
returns-then-not-are_same c = λ id.
    next-told id c.args.staged.now c.args.next c.args.remaining c.args.part.now true false (bytes_left c.args.part.now == c.args.remaining) (sym c.if-not-is_in_turn.false ∙ c.is_in_turn.ensures) (sym c.if-not-are_same.true ∙ c.are_same.ensures) refl

pub returns : goal.returns
returns c = λ id.
    next-told id c.args.staged.now c.args.next c.args.remaining c.args.part.now true true (c.left_of.result == c.from.result) (sym c.if-not-is_in_turn.false ∙ c.is_in_turn.ensures) (sym c.if-not-are_same.false ∙ c.are_same.ensures) (ap (λ n. n == c.from.result) c.left_of.ensures ∙ ap (λ n. bytes_left c.args.part.now == n) c.from.ensures)
