use Rattle.tplg_source.proofs.carried_tokens.carried_numbers.Goals as goal

pub returns : goal.returns
returns c = c.numbers_at.ensures
