use Rattle.std.proofs.Common.{◌≡◌, ◌++◌, ◌∷◌, [], ap, ◌∙◌, map, arith}
use Rattle.std.specs.List.{range_with_len}
use Rattle.sof_stress.specs.StressPorts.{input_bytes}
use Rattle.sof_stress.specs.GraphParts.{input_byte}
use Rattle.sof_stress.proofs.Ranges.{map-next}
use Rattle.sof_stress.proofs.ports.input_bytes.Goals as goal

pub loop-j-preserved : goal.loop-j-preserved
loop-j-preserved c =
    c.in_ok-push.ensures.items
    ∙ ap (λ xs. xs ++ input_byte c.args.i c.loop-j.j ∷ []) c.loop-j.invariant
    ∙ map-next (input_byte c.args.i) [] c.loop-j.j

pub returns : goal.returns
unfolding input_bytes
returns c =
    let all : c.loop-j.j ≡ 4800 = omega arith in
    c.loop-j.invariant ∙ ap (λ n. map (input_byte c.args.i) (range_with_len 0 n)) all
