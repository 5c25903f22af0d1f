use Rattle.run_play.proofs.keeping.write_unit.Goals as goal

pub write_pieces-written-requires-clause-held : goal.write_pieces-written-requires-clause-held
write_pieces-written-requires-clause-held g c = rw (c.held.ensures, c.dsp.ensures) (c.requires.keeps c.args.session.now.link.device)

pub returns-clause-phase : goal.returns-clause-phase
returns-clause-phase g c = rw (c.held.ensures, c.dsp.ensures) at c.write_pieces-written.ensures.phase
