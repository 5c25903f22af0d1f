use Rattle.fw_tests.proofs.parts.takes_its_parts.Goals as goal

pub returns-then-eq : goal.returns-then-eq
returns-then-eq c = λ piece alone.
    c.is_taken-last_again.ensures piece (c.is_taken-last.ensures piece (c.is_taken-second.ensures piece (c.is_taken-last_early.ensures piece (c.is_taken-first.ensures piece (c.is_taken-early.ensures piece alone)))))

pub returns-else-eq : goal.returns-else-eq
returns-else-eq c = λ piece alone.
    c.is_taken-last_again.ensures piece (c.is_taken-last.ensures piece (c.is_taken-second.ensures piece (c.is_taken-last_early.ensures piece (c.is_taken-first.ensures piece (c.is_taken-early.ensures piece alone)))))
