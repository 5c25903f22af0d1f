use Rattle.std.proofs.Common.{sym, ap, ◌∙◌, not, ◌||◌}
use Rattle.stream_law.specs.Ways.{touch, same_shape}
use Rattle.fw_pipeline.proofs.agreeing.suits_one.Goals as goal

pub returns-then-has_shape : goal.returns-then-has_shape
returns-then-has_shape c = λ g is are.
    sym (ap (λ h. h || not (touch g c.args.one.now.id c.args.other.now.id)) ((λ i. same_shape (sym c.shape-own.ensures i) (sym c.shape-others.ensures i)) ∙ sym c.has_shape.ensures ∙ c.if-has_shape.true))

pub returns : goal.returns
returns c = λ g is are.
    ap not (c.touches.ensures g is are)
    ∙ sym (ap (λ h. h || not (touch g c.args.one.now.id c.args.other.now.id)) ((λ i. same_shape (sym c.shape-own.ensures i) (sym c.shape-others.ensures i)) ∙ sym c.has_shape.ensures ∙ c.if-has_shape.false))
