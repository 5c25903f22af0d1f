use Rattle.std.proofs.Common.{◌≡◌, refl, arith, length}
use Rattle.std.specs.Prelude.{negsuc}
use Rattle.sof_base.specs.Slots.{until_zero}
use Rattle.mbox_link.specs.declared.fates.Fate.TheVariants.{Pass, Lose, Refuse}
use Rattle.tplg_model.specs.TokenValues.{number_of, text_of}
use Rattle.host_widgets.specs.Expected.{needed_by}
use Rattle.sof_tests.specs.LawRows.{thin_plan}
use Rattle.sof_tests.proofs.law_rows.load_success_rows.Goals as goal

needed-is : needed_by thin_plan (length thin_plan.widgets) ≡ 992
unfolding number_of text_of until_zero
needed-is = refl

pub returns-clause-messages : goal.returns-clause-messages
unfolding number_of text_of until_zero
returns-clause-messages c = refl

pub returns-clause-done : goal.returns-clause-done
unfolding number_of text_of until_zero
returns-clause-done c = refl

pub returns-clause-may : goal.returns-clause-may
unfolding number_of text_of until_zero
returns-clause-may c = (omega (arith, needed-is), (refl, (refl, (refl, (refl, (refl, (refl, (refl, tt))))))))

pub returns-clause-small : goal.returns-clause-small
unfolding number_of text_of until_zero
returns-clause-small c = refl

pub returns-clause-small_may_not : goal.returns-clause-small_may_not
unfolding number_of text_of until_zero
returns-clause-small_may_not c = λ may. let le = may.0 in omega (arith, needed-is, le)

pub returns-clause-lost : goal.returns-clause-lost
unfolding number_of text_of until_zero
returns-clause-lost c = refl

pub returns-clause-lost_may_not : goal.returns-clause-lost_may_not
unfolding number_of text_of until_zero
returns-clause-lost_may_not c = λ may. let bad : Lose ≡ Pass = may.1.1.1.1.1.1.1.0 in cc bad

pub returns-clause-refused : goal.returns-clause-refused
unfolding number_of text_of until_zero
returns-clause-refused c = refl

pub returns-clause-refused_may_not : goal.returns-clause-refused_may_not
unfolding number_of text_of until_zero
returns-clause-refused_may_not c = λ may. let bad : Refuse (negsuc 4) ≡ Pass = may.1.0 in cc bad
