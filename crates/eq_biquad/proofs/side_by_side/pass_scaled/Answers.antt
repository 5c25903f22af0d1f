use Rattle.std.proofs.lemmas.Bool.{false≢true}
use Rattle.eq_biquad.proofs.side_by_side.pass_scaled.Goals as goal

pub pass_frames-requires-clause-first : goal.pass_frames-requires-clause-first
pass_frames-requires-clause-first c = λ e. absurd (false≢true e)

pub pass_frames-requires-clause-second : goal.pass_frames-requires-clause-second
pass_frames-requires-clause-second c = λ e. absurd (false≢true e)
