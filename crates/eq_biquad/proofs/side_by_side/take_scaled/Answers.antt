use Rattle.std.proofs.lemmas.Bool.{false≢true}
use Rattle.eq_biquad.proofs.side_by_side.take_scaled.Goals as goal

pub take_frames-requires-clause-first : goal.take_frames-requires-clause-first
take_frames-requires-clause-first c = λ e. absurd (false≢true e)

pub take_frames-requires-clause-second : goal.take_frames-requires-clause-second
take_frames-requires-clause-second c = λ e. absurd (false≢true e)
