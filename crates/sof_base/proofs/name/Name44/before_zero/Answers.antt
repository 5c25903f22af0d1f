use Rattle.std.proofs.Common.{length-append, ◌∙◌, ◌≡◌, ◌+◌, [], ◌∷◌, length, drop, get_or, arith, refl, sym}
use Rattle.std.proofs.lemmas.Bool.{eqb-true}
use Rattle.std.proofs.lemmas.List.{drop_more, drop_all}
use Rattle.sof_base.proofs.NameLaws.{Before-none, Before-more, Before-zero, Before-full, Before-end}
use Rattle.sof_base.proofs.name.Name44.before_zero.Goals as goal

pub loop-b-init : goal.loop-b-init
loop-b-init c = rw c.new-bytes.ensures (record { before = Before-none c.args.field.now; len = refl })

pub returns-then-b-eq0 : goal.returns-then-b-eq0
returns-then-b-eq0 c =
    let i = c.loop-b.b-index in
    let next = drop_more c.args.field.now i 0 c.loop-b-test.true in
    let here = rw (next, c.if-b-eq0.true) at c.loop-b.invariant.before in
    sym (Before-zero c.loop-b.bytes.items (drop (i + 1) c.args.field.now) c.args.field.now here)

pub returns-then-is_full : goal.returns-then-is_full
returns-then-is_full c =
    let i = c.loop-b.b-index in
    let next = drop_more c.args.field.now i 0 c.loop-b-test.true in
    let full : length c.loop-b.bytes.items ≡ 43 = eqb-true _ _ (sym c.is_full.ensures.value ∙ c.if-is_full.true) in
    let last : drop (i + 1) c.args.field.now ≡ [] = drop_all (i + 1) c.args.field.now (omega (arith, c.requires)) in
    let here = rw (next, last) at c.loop-b.invariant.before in
    sym (Before-full c.loop-b.bytes.items c.args.field.now (get_or c.args.field.now i 0) (omega (arith, c.if-b-eq0.false)) here)

pub loop-b-preserved : goal.loop-b-preserved
loop-b-preserved c =
    let i = c.loop-b.b-index in
    let next = drop_more c.args.field.now i 0 c.loop-b-test.true in
    let here = rw next at c.loop-b.invariant.before in
    rw c.push.ensures.items (record { before = Before-more c.loop-b.bytes.items (drop (i + 1) c.args.field.now) c.args.field.now (get_or c.args.field.now i 0) (omega arith) here; len = omega (arith, length-append c.loop-b.bytes.items (get_or c.args.field.now i 0 ∷ [])) })

pub returns : goal.returns
returns c =
    let end : drop c.loop-b.b-index c.args.field.now ≡ [] = drop_all _ _ c.loop-b-test.false in
    sym (Before-end c.loop-b.bytes.items c.args.field.now (rw end at c.loop-b.invariant.before))
