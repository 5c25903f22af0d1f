use Rattle.std.proofs.Common.{true, ◌≡◌, sym, ap, subst, ◌∙◌, ℕ, ◌+◌, ◌<◌, ◌≤◌, List, length, get_or, Bool, false, arith}
use Rattle.std.proofs.lemmas.List.{get_or_default, length-replicate}
use Rattle.tplg_plan.specs.declared.plans.StreamPlan.{StreamPlan}
use Rattle.host_widgets.specs.declared.kept.StreamRec.{StreamRec}
use Rattle.host_dynamic.proofs.NeededNoted.{Allow, Serve, host-here, none-allowed, onward-size, back-size, allow-more, serve-more, needed-marks}
use Rattle.host_dynamic.proofs.Searchable.{searchable, host-low}
use Rattle.host_dynamic.proofs.opening.needed.Goals as goal

-- what is read of one list is there in the other
same-read : (xs ys : List StreamRec) (k : ℕ) (d : StreamRec) → xs ≡ ys → k < length ys → get_or xs k d ≡ get_or ys k (get_or xs k d)
same-read xs ys k d same low = ap (λ (zs : List StreamRec). get_or zs k d) same ∙ get_or_default ys k d (get_or xs k d) low

pub loop-place-init : goal.loop-place-init
loop-place-init c = record {
  size = length-replicate 288 false;
  size_back = length-replicate 288 false;
  allow = λ p served. (none-allowed c.args.plan.now.graph false p 288, none-allowed c.args.plan.now.graph true p 288);
  serve = λ p closed on back. tt;
}

pub bounds-items-place-in-loop-place : goal.bounds-items-place-in-loop-place
bounds-items-place-in-loop-place c = omega (arith, c.loop-place-test.true, ap length c.items-count.ensures, ap length c.items-in-loop-place.ensures, c.requires.streams)

pub mark_stream-requires-clause-host : goal.mark_stream-requires-clause-host
mark_stream-requires-clause-host c =
    let plan = c.args.plan.now in let k = c.loop-place.place in let s = c.index-items-place.result in
    let low : k < length plan.streams = omega (arith, c.loop-place-test.true, ap length c.items-count.ensures) in
    host-low plan.graph s.host (searchable plan c.requires.plan s.host (host-here plan k s low (c.index-items-place.is ∙ ap (λ (xs : List StreamPlan). get_or xs k s) c.items.ensures)))

pub mark_stream-requires-clause-onward : goal.mark_stream-requires-clause-onward
mark_stream-requires-clause-onward c = c.loop-place.invariant.size

pub mark_stream-requires-clause-back : goal.mark_stream-requires-clause-back
mark_stream-requires-clause-back c = c.loop-place.invariant.size_back

pub loop-place-preserved : goal.loop-place-preserved
loop-place-preserved c =
    let plan = c.args.plan.now in let kept = c.args.kept.now in let k = c.loop-place.place in let s = c.index-items-place.result in
    let low : k < length plan.streams = omega (arith, c.loop-place-test.true, ap length c.items-count.ensures) in
    let s_is : s ≡ get_or plan.streams k s = c.index-items-place.is ∙ ap (λ (xs : List StreamPlan). get_or xs k s) c.items.ensures in
    let host_is : s.host < 288 = host-low plan.graph s.host (searchable plan c.requires.plan s.host (host-here plan k s low s_is)) in
    let on = c.mark_stream.ensures.onward in let back = c.mark_stream.ensures.back in
    record {
      size = onward-size plan.graph s.host _ c.loop-place.onward _ on ∙ c.loop-place.invariant.size;
      size_back = back-size plan.graph s.host _ c.loop-place.back _ back ∙ c.loop-place.invariant.size_back;
      allow = subst (λ (m : List Bool × List Bool). Allow plan kept (k + 1) m.0 m.1) (λ i. (sym on i, sym back i))
          (allow-more plan c.requires.plan kept c.requires.streams k s _ c.loop-place.onward c.loop-place.back low s_is (same-read c.items-in-loop-place.result.now kept.streams k _ c.items-in-loop-place.ensures (omega (arith, low, c.requires.streams))) c.loop-place.invariant.allow);
      serve = subst (λ (m : List Bool × List Bool). Serve plan kept (k + 1) m.0 m.1) (λ i. (sym on i, sym back i))
          (serve-more plan c.requires.plan kept c.requires.streams k s _ c.loop-place.onward c.loop-place.back low s_is (same-read c.items-in-loop-place.result.now kept.streams k _ c.items-in-loop-place.ensures (omega (arith, low, c.requires.streams)))
          (omega (arith, host_is, c.loop-place.invariant.size)) (omega (arith, host_is, c.loop-place.invariant.size_back)) c.loop-place.invariant.serve);
    }

pub returns : goal.returns
returns c =
    let plan = c.args.plan.now in let k = c.loop-place.place in
    let past : length plan.streams ≤ k = omega (arith, c.loop-place-test.false, ap length c.items-count.ensures) in
    needed-marks plan c.requires.plan c.args.kept.now c.requires.streams k c.loop-place.onward c.loop-place.back c.needed_from.result.items past
    c.loop-place.invariant.allow c.loop-place.invariant.serve c.needed_from.ensures.least c.needed_from.ensures.enough
