use Rattle.tplg_source.proofs.texts.number_key.Goals as goal

pub returns : goal.returns
returns c = c.key_in.ensures
