use Rattle.tplg_model.specs.RecordFaults.{topology_cells}
use Rattle.tplg_model.proofs.FileLaws.{one_topology, IsFileOf-spelling, topology_take, topology_again, topology_found, topology_only}
use Rattle.tplg_model.proofs.Literal.{agrees, fits, canonical}
use Rattle.tplg_read.proofs.laws.files_are_spelled.Goals as goal

pub returns-clause-literal : goal.returns-clause-literal
returns-clause-literal c = λ b t. (agrees b (topology_cells t), fits b (topology_cells t))

pub returns-clause-one : goal.returns-clause-one
returns-clause-one c = λ b t u is_t is_u f g. one_topology b t u is_t is_u f g

pub returns-clause-written : goal.returns-clause-written
returns-clause-written c = λ t. IsFileOf-spelling t

pub returns-clause-canonical : goal.returns-clause-canonical
returns-clause-canonical c = λ b t f k. canonical b (topology_cells t) f k

pub returns-clause-carried : goal.returns-clause-carried
returns-clause-carried c = λ b t small. (λ read. topology_take b t small read, λ file. topology_again b t file.0 file.1)

pub returns-clause-faults : goal.returns-clause-faults
returns-clause-faults c = λ b f small. (λ read. topology_found b f small read, λ fault. topology_only b f fault)
