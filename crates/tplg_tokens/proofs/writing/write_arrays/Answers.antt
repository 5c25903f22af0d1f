use Rattle.tplg_model.proofs.ArrayListLaws.{read_written}
use Rattle.tplg_tokens.proofs.writing.write_arrays.Goals as goal

pub returns-in-Ok-clause-again : goal.returns-in-Ok-clause-again
returns-in-Ok-clause-again c = read_written c.args.arrays.now c.in-Ok.ensures.are
