use Rattle.std.proofs.Common.{arith, subst}
use Rattle.tplg_model.specs.Outcomes.{Gives}
use Rattle.tplg_model.proofs.FileLaws.{is_found, is_fault, topology_again, topology_only}
use Rattle.tplg_read.proofs.file.read.Goals as goal

pub returns-clause-found : goal.returns-clause-found
returns-clause-found c = is_found c.args.bytes.now c.all.result (λ i. omega (arith, c.type_inv.bytes i)) c.all.ensures

pub returns-clause-only : goal.returns-clause-only
returns-clause-only c = λ t is f. subst (λ r. Gives (λ x. x) c.all.result r) (topology_again c.args.bytes.now t is f) c.all.ensures

pub returns-clause-fault : goal.returns-clause-fault
returns-clause-fault c = is_fault c.args.bytes.now c.all.result (λ i. omega (arith, c.type_inv.bytes i)) c.all.ensures

pub returns-clause-fault_only : goal.returns-clause-fault_only
returns-clause-fault_only c = λ f q. subst (λ r. Gives (λ x. x) c.all.result r) (topology_only c.args.bytes.now f q) c.all.ensures
