use Rattle.eq_biquad.proofs.side_by_side.pass_held.Goals as goal

pub pass_plain-requires-clause-first : goal.pass_plain-requires-clause-first
pass_plain-requires-clause-first c = c.have_unit_gains-first.ensures c.if-first.true

pub pass_plain-requires-clause-second : goal.pass_plain-requires-clause-second
pass_plain-requires-clause-second c = c.have_unit_gains-second.ensures c.if-second.true

pub pass_scaled_first-requires-clause-second : goal.pass_scaled_first-requires-clause-second
pass_scaled_first-requires-clause-second c = c.have_unit_gains-second.ensures c.if-second.true
