use Rattle.std.proofs.Common.{◌≡◌, sym, ap, ◌∙◌, subst, ℕ, ◌+◌, ◌-◌, ◌≤◌, min, map, length, List, get_or, Some, arith}
use Rattle.std.proofs.lemmas.List.{take_all}
use Rattle.std.specs.List.{AllByRecursion}
use Rattle.stream_law.specs.Moves.{least}
use Rattle.fw_components.specs.Tables.{held_frames, capacity_at}
use Rattle.fw_moves.proofs.PlaceLaws.{length-places, place-at}
use Rattle.fw_schedule.proofs.Least.{least-more, fit-less, fit-more}
use Rattle.fw_schedule.proofs.ticking.least_free.Goals as goal

pub free_at-requires : goal.free_at-requires
free_at-requires c = ap (λ (n : ℕ). Some n) c.from.ensures ∙ place-at c.args.registry.now.buffers c.args.fed.now c.args.to.now c.loop-i.i c.requires c.loop-i-test.true

pub bounds-to-i : goal.bounds-to-i
bounds-to-i c = omega (arith, c.loop-i-test.true, length-places c.args.registry.now.buffers c.args.fed.now c.args.to.now c.requires)

pub loop-i-preserved : goal.loop-i-preserved
loop-i-preserved c =
    let t = c.args.registry.now in let fed = c.args.fed.now in let i = c.loop-i.i in
    let held : ℕ → ℕ = λ b. length (held_frames t b) in let room : ℕ → ℕ = λ b. capacity_at t b in
    let n = c.loop-i.n in let m = c.min-n.result in let b = get_or fed i 0 in
    let free : c.free_at.result ≡ room b - held b = omega (arith, c.free_at.ensures) in
    record {
      least = c.min-n.ensures ∙ (λ k. min (c.loop-i.invariant.least k) (free k)) ∙ sym (least-more (λ b. room b - held b) c.args.most fed i 0 c.loop-i-test.true);
      fit = fit-more held room m fed i 0 c.loop-i-test.true (fit-less held room n m (omega (arith, c.min-n.ensures)) _ c.loop-i.invariant.fit) (omega (arith, c.min-n.ensures, c.free_at.ensures));
    }

pub returns-clause-least : goal.returns-clause-least
returns-clause-least c =
    let t = c.args.registry.now in
    c.loop-i.invariant.least ∙ ap (λ (xs : List ℕ). least c.args.most (map (λ b. capacity_at t b - length (held_frames t b)) xs)) (take_all c.loop-i.i c.args.fed.now (omega (arith, c.loop-i-test.false)))

pub returns-clause-fit : goal.returns-clause-fit
returns-clause-fit c =
    let t = c.args.registry.now in
    subst (AllByRecursion (λ b. c.loop-i.n + length (held_frames t b) ≤ capacity_at t b)) (take_all c.loop-i.i c.args.fed.now (omega (arith, c.loop-i-test.false))) c.loop-i.invariant.fit
