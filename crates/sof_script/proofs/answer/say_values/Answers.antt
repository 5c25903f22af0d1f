use Rattle.std.proofs.Common.{◌++◌, List, ℕ, codes, decimal, get_or, arith, ap, ◌∙◌}
use Rattle.sof_script.proofs.TextLaws.{values_more}
use Rattle.sof_script.proofs.answer.say_values.Goals as goal

pub loop-value-preserved : goal.loop-value-preserved
loop-value-preserved c =
    let value = get_or c.args.values.now c.loop-value.value-index 0 in
    record {
      said = c.say_number.ensures.said ∙ ap (λ (l : List ℕ). l ++ decimal value) (c.say.ensures.said ∙ ap (λ (l : List ℕ). l ++ codes " ") c.loop-value.invariant.said)
          ∙ values_more c.args.values.now c.loop-value.value-index c.args.line.now c.loop-value-test.true;
      short = omega arith;
    }
