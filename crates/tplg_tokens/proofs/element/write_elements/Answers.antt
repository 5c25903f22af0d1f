use Rattle.std.proofs.Common.{take, sym, append-nil}
use Rattle.std.specs.List.{flat_map}
use Rattle.tplg_model.specs.Arrays.{Each}
use Rattle.tplg_model.proofs.ElementLaws.{each_more}
use Rattle.tplg_tokens.proofs.ElementLoops.{Write-more, kept_along}
use Rattle.tplg_tokens.proofs.element.write_elements.Goals as goal

pub loop-element-init : goal.loop-element-init
unfolding Each
loop-element-init g c = (sym (append-nil c.args.out.now.items), tt)

pub loop-element-preserved : goal.loop-element-preserved
loop-element-preserved g c =
    let xs = c.args.elements.now in
    let i = c.loop-element.element-index in
    let x = c.element-item.result in (
      rw (c.in_ok-write.ensures.ok, c.loop-element.invariant.0) (Write-more g.E.Element.spelling c.args.out.now.items xs i x c.loop-element-test.true c.element-item.is),
      each_more g.E.Element.is xs i x c.loop-element-test.true c.element-item.is c.loop-element.invariant.1 c.in_ok-write.ensures.is,
    )

pub returns-in_err-write-clause-kept : goal.returns-in_err-write-clause-kept
returns-in_err-write-clause-kept g c = kept_along c.args.out.now.items (flat_map g.E.Element.spelling (take c.loop-element.element-index c.args.elements.now)) c.loop-element.out.items c.write.new.out.items c.loop-element.invariant.0 c.write.ensures.kept
