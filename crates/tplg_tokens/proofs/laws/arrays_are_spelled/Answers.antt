use Rattle.tplg_model.proofs.ArrayListLaws.{one_list, read_written, apart, one_fault}
use Rattle.tplg_tokens.proofs.laws.arrays_are_spelled.Goals as goal

pub returns-clause-one : goal.returns-clause-one
returns-clause-one c = λ bytes a b are_a are_b is_a is_b. one_list bytes a b are_a are_b is_a is_b

pub returns-clause-again : goal.returns-clause-again
returns-clause-again c = λ a are. read_written a are

pub returns-clause-apart : goal.returns-clause-apart
returns-clause-apart c = λ bytes a fault are is wrong. apart bytes a fault are is wrong

pub returns-clause-one_fault : goal.returns-clause-one_fault
returns-clause-one_fault c = λ bytes f g is_f is_g. one_fault bytes f g is_f is_g
