use Rattle.std.proofs.Common.{map, w64, to_z, FitsSigned}
use Rattle.eq_biquad.specs.PairForms.{AreNearSeries, series_of, left_series, right_series}
use Rattle.eq_biquad.specs.Pairs.{left_number, right_number, BothAre, IsClear}
use Rattle.eq_biquad.proofs.PairSteps.{RunsBoth}
use Rattle.eq_biquad.proofs.side_by_side.take_frames.Given as goal

abbrev pub invariant-loop-frame : goal.invariant-loop-frame
invariant-loop-frame l = record {
  so : IsClear (left_number (map (to_z w64) l.marks)) × IsClear (right_number (map (to_z w64) l.marks)) → RunsBoth (series_of l.left) (series_of l.right) (left_series l.fn.before) (right_series l.fn.before) l.at.channels l.at.channel l.at.frames l.fn.samples l.samples (left_series l.near) (right_series l.near) l.frame;
  near : AreNearSeries l.left l.right l.near;
  marks : BothAre (FitsSigned w64) (map (to_z w64) l.marks);
}
