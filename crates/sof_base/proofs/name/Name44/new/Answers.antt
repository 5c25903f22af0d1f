use Rattle.std.proofs.Common.{◌≡◌, ◌<◌, length, take, get_or, ◌∷◌, [], arith, rules, sym, ◌∙◌, length-append}
use Rattle.std.proofs.lemmas.List.{take_more, take_all}
use Rattle.sof_base.proofs.NameLaws.{IsName-none, NoZero-push, named_zero, named_whole}
use Rattle.sof_base.proofs.name.Name44.new.Goals as goal

pub loop-b-init : goal.loop-b-init
loop-b-init c = rw c.new-name.ensures (record { so_far = search rules; is = IsName-none })

pub returns-then-b-eq0 : goal.returns-then-b-eq0
returns-then-b-eq0 c = sym (named_zero c.args.bytes.now c.loop-b.b-index c.loop-b-test.true c.if-b-eq0.true)

pub loop-b-preserved : goal.loop-b-preserved
loop-b-preserved c =
    let i = c.loop-b.b-index in
    let b = get_or c.args.bytes.now i 0 in
    let short : length c.loop-b.name.items < 43 = search rules in
    rw c.push.ensures.items (record {
      so_far = rw c.loop-b.invariant.so_far (sym (take_more c.args.bytes.now i 0 c.loop-b-test.true));
      is = (omega (arith, short, length-append c.loop-b.name.items (b ∷ [])), NoZero-push c.loop-b.name.items b c.loop-b.invariant.is.1 (omega (arith, c.if-b-eq0.false)));
    })

pub returns : goal.returns
returns c =
    let whole : take c.loop-b.b-index c.args.bytes.now ≡ c.args.bytes.now = take_all c.loop-b.b-index c.args.bytes.now c.loop-b-test.false in
    let same = c.loop-b.invariant.so_far ∙ whole in
    rw same (sym (named_whole c.args.bytes.now (rw same at c.loop-b.invariant.is)))
