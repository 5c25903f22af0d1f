use Rattle.tplg_source.specs.SourceText.{control_text}
use Rattle.tplg_source.proofs.Pieces.{ahead, written}
use Rattle.tplg_source.proofs.texts.say_control.Goals as goal

pub returns : goal.returns
unfolding control_text
returns c = written _ _ _ _ (ahead _ _ _ _ c.in_ok-say.ensures) c.say_control_keys.ensures
