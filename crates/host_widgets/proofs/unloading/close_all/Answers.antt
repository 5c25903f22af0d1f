use Rattle.std.proofs.Common.{◌<◌, List, length, set, refl, ap, ◌∙◌, arith}
use Rattle.std.proofs.lemmas.List.{length-set}
use Rattle.host_widgets.specs.declared.kept.StreamRec.{StreamRec}
use Rattle.host_widgets.specs.HostRecord.{closed}
use Rattle.host_widgets.proofs.Halting.{one-more, all-changed}
use Rattle.host_widgets.proofs.unloading.close_all.Goals as goal

pub loop-place-init : goal.loop-place-init
loop-place-init c = record { long = refl; closed_so_far = refl }

pub put-requires : goal.put-requires
put-requires c = omega (arith, c.loop-place-test.true, ap length c.items-count.ensures, c.loop-place.invariant.long)

pub loop-place-preserved : goal.loop-place-preserved
loop-place-preserved c =
    let xs = c.args.streams.now in
    let ys = c.loop-place.streams in
    let i = c.loop-place.place in
    let within : i < length xs = omega (arith, c.loop-place-test.true, ap length c.items-count.ensures) in
    record {
      long = ap length c.put.ensures ∙ length-set ys i _ ∙ c.loop-place.invariant.long;
      closed_so_far =
          c.put.ensures
          ∙ ap (λ (zs : List StreamRec). set zs i closed) c.loop-place.invariant.closed_so_far
          ∙ one-more (λ (s : StreamRec). closed) xs i closed within;
    }

pub returns : goal.returns
returns c =
    c.loop-place.invariant.closed_so_far
    ∙ all-changed (λ (s : StreamRec). closed) c.args.streams.now c.loop-place.place (omega (arith, c.loop-place-test.false, ap length c.items-count.ensures))
