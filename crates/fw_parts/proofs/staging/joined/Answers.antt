use Rattle.std.proofs.Common.{◌≡◌, ◌∙◌, sym, ap, subst, ◌+◌, ◌*◌, ◌++◌, ◌==◌, take, length, cond, true, List, Option, Some, ℕ, arith, rules}
use Rattle.std.specs.Prelude.{IfSome}
use Rattle.std.proofs.lemmas.List.{length-take-le}
use Rattle.eq_biquad.specs.EqState.{staged_of}
use Rattle.mbox_link.specs.Step.{keeps_order}
use Rattle.fw_parts.specs.Staged.{staging_in, CanBeStaged}
use Rattle.fw_parts.proofs.PartLaws.{are-joined, joined-some, joined-disordered, joined-wrong, some-whole}
use Rattle.fw_parts.proofs.staging.joined.Goals as goal
use Rattle.fw_parts.proofs.staging.joined.Goals.{After-new}

pub returns-then-not-is_in_order-clause-bytes : goal.returns-then-not-is_in_order-clause-bytes
returns-then-not-is_in_order-clause-bytes c = λ id.
    joined-disordered id (staged_of c.args.eq.now) c.args.next c.args.remaining c.args.part.now
    (sym (c.is_in_order.ensures.order id ∙ ap (λ (xs : List ℕ). keeps_order (staging_in id xs c.args.next c.args.remaining) c.args.part.now) c.staged.ensures) ∙ search rules)

pub returns-then-not-is_right-clause-bytes : goal.returns-then-not-is_right-clause-bytes
returns-then-not-is_right-clause-bytes c = λ id.
    joined-wrong id (staged_of c.args.eq.now) c.args.next c.args.remaining c.args.part.now (take c.join-end.result c.join-end.new.bytes)
    (sym (c.is_in_order.ensures.order id ∙ ap (λ (xs : List ℕ). keeps_order (staging_in id xs c.args.next c.args.remaining) c.args.part.now) c.staged.ensures) ∙ search rules)
    (sym c.is_right.ensures.right ∙ search rules)
    (c.join-end.ensures.bytes ∙ ap (λ (xs : List ℕ). cond (c.args.part.now.index == 0) c.args.part.now.header (take (32 + 260 * c.args.part.now.index) xs) ++ c.args.part.now.bytes) c.staged.ensures)

-- the bytes come back whole, and can be staged or put in force
joined-here : (c : After-new) → (c.new.result ≡ Some (take c.join-end.result c.join-end.new.bytes)) × CanBeStaged c.args.part.now (take c.join-end.result c.join-end.new.bytes)
joined-here c =
    let part = c.args.part.now in
    let bytes = take c.join-end.result c.join-end.new.bytes in
    let order : keeps_order (staging_in 0 (staged_of c.args.eq.now) c.args.next c.args.remaining) part ≡ true =
    sym (c.is_in_order.ensures.order 0 ∙ ap (λ (xs : List ℕ). keeps_order (staging_in 0 xs c.args.next c.args.remaining) part) c.staged.ensures) ∙ c.if-not-is_in_order.false in
    let fits = c.is_in_order.ensures.within c.if-not-is_in_order.false in
    let long : length bytes ≡ 32 + 260 * part.index + length part.bytes = length-take-le c.join-end.result c.join-end.new.bytes (omega (arith, c.join-end.ensures.end, c.join-end.array_long, fits)) ∙ c.join-end.ensures.end in
    (some-whole c.new.result bytes 1024 (omega (arith, long, fits)) c.new.ensures, are-joined 0 (staged_of c.args.eq.now) c.args.next c.args.remaining part bytes c.requires order (c.is_right.ensures.blob c.if-not-is_right.false) long)

pub returns-clause-joined : goal.returns-clause-joined
returns-clause-joined c = subst (λ (o : Option (List ℕ)). IfSome o (λ bytes. CanBeStaged c.args.part.now bytes)) (sym (joined-here c).0) (joined-here c).1

pub returns-clause-bytes : goal.returns-clause-bytes
returns-clause-bytes c = λ id.
    (joined-here c).0
    ∙ joined-some id (staged_of c.args.eq.now) c.args.next c.args.remaining c.args.part.now (take c.join-end.result c.join-end.new.bytes)
    (sym (c.is_in_order.ensures.order id ∙ ap (λ (xs : List ℕ). keeps_order (staging_in id xs c.args.next c.args.remaining) c.args.part.now) c.staged.ensures) ∙ c.if-not-is_in_order.false)
    (sym c.is_right.ensures.right ∙ c.if-not-is_right.false)
    (c.join-end.ensures.bytes ∙ ap (λ (xs : List ℕ). cond (c.args.part.now.index == 0) c.args.part.now.header (take (32 + 260 * c.args.part.now.index) xs) ++ c.args.part.now.bytes) c.staged.ensures)
