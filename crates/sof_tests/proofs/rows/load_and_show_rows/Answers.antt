use Rattle.std.proofs.Common.{refl}
use Rattle.std.specs.Fmt.{digits}
use Rattle.sof_base.specs.Slots.{until_zero}
use Rattle.tplg_model.specs.TokenValues.{number_of, text_of}
use Rattle.tplg_rules.specs.RuleTest.{ruling_of}
use Rattle.sof_tests.proofs.rows.load_and_show_rows.Goals as goal

pub returns-clause-rules : goal.returns-clause-rules
unfolding ruling_of number_of text_of until_zero
returns-clause-rules c = refl

pub returns-clause-need : goal.returns-clause-need
unfolding number_of
returns-clause-need c = refl

pub returns-clause-loaded : goal.returns-clause-loaded
unfolding digits number_of text_of until_zero
returns-clause-loaded c = refl

pub returns-clause-refused : goal.returns-clause-refused
unfolding digits number_of text_of until_zero
returns-clause-refused c = refl
