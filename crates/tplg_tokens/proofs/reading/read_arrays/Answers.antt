use Rattle.std.proofs.Common.{arith, subst}
use Rattle.tplg_model.proofs.ArrayListLaws.{read_again, fault_again}
use Rattle.tplg_tokens.specs.Answers.{GivesArrays}
use Rattle.tplg_tokens.proofs.ArrayLoops.{is_found, is_fault}
use Rattle.tplg_tokens.proofs.reading.read_arrays.Goals as goal

pub returns-clause-found : goal.returns-clause-found
returns-clause-found c = is_found c.args.bytes.now c.each_array.result (λ i. omega (arith, c.type_inv.bytes i)) c.each_array.ensures

pub returns-clause-only : goal.returns-clause-only
returns-clause-only c = λ arrays are is. subst (λ r. GivesArrays c.each_array.result r) (read_again c.args.bytes.now arrays are is) c.each_array.ensures

pub returns-clause-fault : goal.returns-clause-fault
returns-clause-fault c = is_fault c.args.bytes.now c.each_array.result (λ i. omega (arith, c.type_inv.bytes i)) c.each_array.ensures

pub returns-clause-fault_only : goal.returns-clause-fault_only
returns-clause-fault_only c = λ fault is. subst (λ r. GivesArrays c.each_array.result r) (fault_again c.args.bytes.now fault is) c.each_array.ensures
