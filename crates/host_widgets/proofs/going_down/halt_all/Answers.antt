use Rattle.std.proofs.Common.{◌≡◌, ◌<◌, List, length, set, get_or, refl, ap, ◌∙◌, arith}
use Rattle.std.proofs.lemmas.List.{length-set}
use Rattle.host_widgets.specs.declared.kept.StreamRec.{StreamRec}
use Rattle.host_widgets.specs.HostRecord.{closed, halted, halted_found}
use Rattle.host_widgets.proofs.Halting.{at-place, one-more, all-changed}
use Rattle.host_widgets.proofs.going_down.halt_all.Goals as goal

pub loop-place-init : goal.loop-place-init
loop-place-init c = record { long = refl; halted = refl }

pub bounds-items-place : goal.bounds-items-place
bounds-items-place c = omega (arith, c.loop-place-test.true, ap length c.items.ensures, ap length c.items-count.ensures, c.loop-place.invariant.long)

pub put-requires : goal.put-requires
put-requires c = omega (arith, c.loop-place-test.true, ap length c.items-count.ensures, c.loop-place.invariant.long)

pub loop-place-preserved : goal.loop-place-preserved
loop-place-preserved c =
    let xs = c.args.streams.now in
    let ys = c.loop-place.streams in
    let i = c.loop-place.place in
    let within : i < length xs = omega (arith, c.loop-place-test.true, ap length c.items-count.ensures) in
    let same : get_or ys i closed ≡ get_or xs i closed = ap (λ (zs : List StreamRec). get_or zs i closed) c.loop-place.invariant.halted ∙ at-place halted xs i closed within in
    record {
      long = ap length c.put.ensures ∙ length-set ys i _ ∙ c.loop-place.invariant.long;
      halted =
          c.put.ensures
          ∙ ap (λ (x : StreamRec). set ys i x) (λ j. record { found = (c.halted_found.ensures ∙ ap (λ (zs : List StreamRec). halted_found (get_or zs i closed).found) c.items.ensures) j; params = ap (λ (zs : List StreamRec). (get_or zs i closed).params) c.items.ensures j })
          ∙ ap (λ (x : StreamRec). set ys i (halted x)) same
          ∙ ap (λ (zs : List StreamRec). set zs i (halted (get_or xs i closed))) c.loop-place.invariant.halted
          ∙ one-more halted xs i closed within;
    }

pub returns : goal.returns
returns c = c.loop-place.invariant.halted ∙ all-changed halted c.args.streams.now c.loop-place.place (omega (arith, c.loop-place-test.false, ap length c.items-count.ensures))
