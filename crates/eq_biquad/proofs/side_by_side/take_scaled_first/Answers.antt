use Rattle.std.proofs.lemmas.Bool.{false≢true}
use Rattle.eq_biquad.proofs.side_by_side.take_scaled_first.Goals as goal

pub take_frames-requires-clause-first : goal.take_frames-requires-clause-first
take_frames-requires-clause-first c = λ e. absurd (false≢true e)
