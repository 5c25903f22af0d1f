use Rattle.std.proofs.Common.{◌-◌, ◌*◌, ◌≤◌, List, ℤ, drop, length, refl, arith, rules, length-take, length-drop}
use Rattle.fw_units.specs.Frames.{channels_in}
use Rattle.fw_moves.proofs.MadeLaws.{parts}
use Rattle.fw_moves.proofs.mixing.part_of.Goals as goal

pub offset_bounds-back-done : goal.offset_bounds-back-done
offset_bounds-back-done c =
    let front : List ℤ = c.spans.result.0.now in let back : List ℤ = c.spans.result.1.now in let bs = c.args.buffers.now in let b = c.args.inlet in
    let all = parts front back bs c.args.n b (c.args.n * channels_in bs b) c.spans.ensures.samples c.spans.ensures.frames c.requires.held refl in
    let low : c.args.done - length front ≤ length back = omega (arith, all, c.requires.within) in
    search rules

pub slice_bounds-result-count-else-done-front : goal.slice_bounds-result-count-else-done-front
slice_bounds-result-count-else-done-front c =
    let front : List ℤ = c.spans.result.0.now in let back : List ℤ = c.spans.result.1.now in let bs = c.args.buffers.now in let b = c.args.inlet in
    let all = parts front back bs c.args.n b (c.args.n * channels_in bs b) c.spans.ensures.samples c.spans.ensures.frames c.requires.held refl in
    let low : c.args.done - length front ≤ length back = omega (arith, all, c.requires.within) in
    search rules

pub slice_bounds-result-start-else-done-front : goal.slice_bounds-result-start-else-done-front
slice_bounds-result-start-else-done-front c =
    let front : List ℤ = c.spans.result.0.now in let back : List ℤ = c.spans.result.1.now in let bs = c.args.buffers.now in let b = c.args.inlet in
    let all = parts front back bs c.args.n b (c.args.n * channels_in bs b) c.spans.ensures.samples c.spans.ensures.frames c.requires.held refl in
    let low : c.args.done - length front ≤ length back = omega (arith, all, c.requires.within) in
    search rules

pub returns-else-done-front-clause-some : goal.returns-else-done-front-clause-some
returns-else-done-front-clause-some c = λ some.
    let front : List ℤ = c.spans.result.0.now in let back : List ℤ = c.spans.result.1.now in let bs = c.args.buffers.now in let b = c.args.inlet in
    let all = parts front back bs c.args.n b (c.args.n * channels_in bs b) c.spans.ensures.samples c.spans.ensures.frames c.requires.held refl in
    let at = c.args.done - length front in
    omega (arith, all, some, length-take (length back - at) (drop at back), length-drop at back)
