use Rattle.fw_components.specs.Parts.{words_in}
use Rattle.fw_tests.proofs.AloneLaws.{set-alone}
use Rattle.fw_tests.proofs.parts.is_taken.Goals as goal

pub returns-in-Some : goal.returns-in-Some
returns-in-Some c = λ piece alone.
    set-alone piece c.args.registry.now c.set_part.new.self c.in-Some.part (words_in c.set_part.new.self.comps 3) c.set_part.result c.set_part.ensures.answer c.set_part.ensures.kept alone
