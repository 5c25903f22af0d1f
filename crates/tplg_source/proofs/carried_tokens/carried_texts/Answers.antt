use Rattle.tplg_source.proofs.carried_tokens.carried_texts.Goals as goal

pub returns : goal.returns
returns c = c.texts_at.ensures
