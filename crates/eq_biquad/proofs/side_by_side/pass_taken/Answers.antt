use Rattle.eq_biquad.proofs.side_by_side.pass_taken.Goals as goal

pub take_plain-requires-clause-first : goal.take_plain-requires-clause-first
take_plain-requires-clause-first c = c.have_unit_gains-first.ensures c.if-first.true

pub take_plain-requires-clause-second : goal.take_plain-requires-clause-second
take_plain-requires-clause-second c = c.have_unit_gains-second.ensures c.if-second.true

pub take_scaled_first-requires-clause-second : goal.take_scaled_first-requires-clause-second
take_scaled_first-requires-clause-second c = c.have_unit_gains-second.ensures c.if-second.true
