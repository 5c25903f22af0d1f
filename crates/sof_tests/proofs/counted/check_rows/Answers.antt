use Rattle.std.proofs.Common.{refl}
use Rattle.std.specs.Fmt.{digits}
use Rattle.sof_base.specs.Slots.{until_zero}
use Rattle.tplg_model.specs.TokenValues.{number_of, text_of}
use Rattle.tplg_rules.specs.RuleTest.{ruling_of}
use Rattle.sof_tests.proofs.counted.check_rows.Goals as goal

pub returns-clause-thin : goal.returns-clause-thin
unfolding digits number_of text_of until_zero
returns-clause-thin c = refl

pub returns-clause-empty : goal.returns-clause-empty
unfolding digits
returns-clause-empty c = refl

pub returns-clause-cycle : goal.returns-clause-cycle
unfolding ruling_of number_of text_of until_zero
returns-clause-cycle c = refl

pub returns-clause-echo : goal.returns-clause-echo
unfolding ruling_of number_of text_of until_zero
returns-clause-echo c = refl

pub returns-clause-crossing : goal.returns-clause-crossing
unfolding ruling_of number_of text_of until_zero
returns-clause-crossing c = refl
