use Rattle.std.proofs.Common.{◌≡◌, suc, ◌+◌, ◌-◌, arith, length, ap, ◌∙◌}
use Rattle.tplg_model.specs.ArrayReading.{elements_at}
use Rattle.tplg_model.proofs.ElementLaws.{length-elements}
use Rattle.tplg_tokens.proofs.ElementLoops.{Read-more, Read-all}
use Rattle.tplg_tokens.proofs.element.read_elements.Goals as goal

pub loop-preserved : goal.loop-preserved
loop-preserved g c =
    let k : c.args.count - c.loop.counter ≡ suc (c.args.count - (c.loop.counter + 1)) = omega arith in
    let all = elements_at g.E.Element.SIZE g.E.Element.element c.args.count c.args.bytes.now c.args.at in
    rw (c.in_ok-push.ensures.ok, c.read.ensures, c.SIZE-place.ensures) (Read-more g.E.Element.SIZE g.E.Element.element (c.args.count - c.loop.counter) (c.args.count - (c.loop.counter + 1)) c.args.bytes.now c.loop.place c.loop.elements all k c.loop.invariant)

pub returns-clause-are : goal.returns-clause-are
returns-clause-are g c =
    let k : c.args.count - c.loop.counter ≡ 0 = omega arith in
    Read-all g.E.Element.SIZE g.E.Element.element (c.args.count - c.loop.counter) c.args.bytes.now c.loop.place c.loop.elements (elements_at g.E.Element.SIZE g.E.Element.element c.args.count c.args.bytes.now c.args.at) k c.loop.invariant

pub returns-clause-count : goal.returns-clause-count
returns-clause-count g c =
    let k : c.args.count - c.loop.counter ≡ 0 = omega arith in
    ap length (Read-all g.E.Element.SIZE g.E.Element.element (c.args.count - c.loop.counter) c.args.bytes.now c.loop.place c.loop.elements (elements_at g.E.Element.SIZE g.E.Element.element c.args.count c.args.bytes.now c.args.at) k c.loop.invariant)
    ∙ length-elements g.E.Element.SIZE g.E.Element.element c.args.count c.args.bytes.now c.args.at
