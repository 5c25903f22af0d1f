use Rattle.std.proofs.Common.{◌∙◌, sym, ap, ◌==◌, ◌&&◌, ◌||◌, length}
use Rattle.std.proofs.lemmas.Bool.{false≢true}
use Rattle.fw_parts.proofs.PartLaws.{order-fits}
use Rattle.fw_parts.proofs.staging.is_in_order.Goals as goal

pub returns-then-is_due-clause-order : goal.returns-then-is_due-clause-order
returns-then-is_due-clause-order c = λ id.
    c.is_full-is_full.ensures
    ∙ ap (λ h. h && (c.args.part.now.remaining == 0 || length c.args.part.now.bytes == 260)) (sym c.if-is_due.true ∙ c.is_due-is_due.ensures id)

pub returns-else-is_due-clause-order : goal.returns-else-is_due-clause-order
returns-else-is_due-clause-order c = λ id.
    c.if-is_due.false
    ∙ ap (λ h. h && (c.args.part.now.remaining == 0 || length c.args.part.now.bytes == 260)) (sym c.if-is_due.false ∙ c.is_due-is_due.ensures id)

pub returns-then-is_due-clause-within : goal.returns-then-is_due-clause-within
returns-then-is_due-clause-within c = λ e.
    order-fits 0 c.args.staged.now c.args.next c.args.remaining c.args.part.now c.requires
    (sym (c.is_full-is_full.ensures ∙ ap (λ h. h && (c.args.part.now.remaining == 0 || length c.args.part.now.bytes == 260)) (sym c.if-is_due.true ∙ c.is_due-is_due.ensures 0)) ∙ e)

pub returns-else-is_due-clause-within : goal.returns-else-is_due-clause-within
returns-else-is_due-clause-within c = λ e. absurd (false≢true (sym c.if-is_due.false ∙ e))
