use Rattle.std.proofs.Common.{refl, sym, subst, ◌+◌, ◌≤◌, ℤ, pos, List, arith, w64, FitsSigned}
use Rattle.eq_biquad.specs.PairForms.{series_of, left_series, right_series}
use Rattle.eq_biquad.specs.Pairs.{left_number, right_number, BothAre, IsClear}
use Rattle.eq_biquad.proofs.PairLaws.{pair-again, known-again}
use Rattle.eq_biquad.proofs.LaneLaws.{place-within}
use Rattle.eq_biquad.proofs.PairSteps.{both-none, both-more, runs-samples, runs-numbers}
use Rattle.eq_biquad.proofs.side_by_side.take_frames.Goals as goal

pub loop-frame-init : goal.loop-frame-init
loop-frame-init c =
    let at = c.args.at in
    let zero : FitsSigned w64 (pos 0) = record { sfits = omega arith } in
    record {
      so = λ clear. both-none (series_of c.args.left) (series_of c.args.right) (left_series c.args.before) (right_series c.args.before) at.channels at.channel at.frames c.args.samples.now;
      near = c.requires.near;
      marks = subst (BothAre (FitsSigned w64)) (sym (known-again w64 c.wide_both-marks.result (pos 0) (pos 0) c.wide_both-marks.ensures zero zero)) (refl, (zero, zero));
    }

pub loop-frame-preserved : goal.loop-frame-preserved
loop-frame-preserved c =
    let at = c.args.at in let after = c.take_frame-taken.ensures in let near = c.loop-frame.near in let next = c.take_frame-taken.result.0 in
    let joined = c.join_both-marks.ensures in
    let in_marks = pair-again w64 c.join_both-marks.result joined.fit in let in_next = pair-again w64 c.take_frame-taken.result.1 after.marks in
    record {
      so = λ clear.
          let left = joined.left (subst (λ (m : List ℤ). IsClear (left_number m)) in_marks clear.0) in let right = joined.right (subst (λ (m : List ℤ). IsClear (right_number m)) in_marks clear.1) in
          both-more (series_of c.args.left) (series_of c.args.right) (left_series c.args.before) (right_series c.args.before) at.channels at.channel at.frames c.args.samples.now c.loop-frame.samples c.take_frame-taken.new.samples
          (left_series near) (right_series near) (left_series next) (right_series next) c.loop-frame.frame c.requires.lane.0 (omega (arith, c.loop-frame-test.true, c.loop-frame.auto.frame-end))
          (c.loop-frame.invariant.so (left.0, right.0))
          (after.left (subst (λ (m : List ℤ). IsClear (left_number m)) in_next left.1)) (after.right (subst (λ (m : List ℤ). IsClear (right_number m)) in_next right.1)) after.others c.take_frame-taken.auto.samples;
      near = after.near;
      marks = subst (BothAre (FitsSigned w64)) (sym in_marks) joined.fit;
    }

pub returns : goal.returns
returns c =
    let at = c.args.at in let samples = c.loop-frame.samples in let near = c.loop-frame.near in let frame = c.loop-frame.frame in let before = c.args.before in
    let old = c.args.samples.now in
    let all : at.frames ≤ frame = omega (arith, c.loop-frame-test.false, c.loop-frame.auto.frame-end) in
    record {
      goes = λ e.
          let so = c.loop-frame.invariant.so (c.are_clear.ensures e) in
          record {
            left = runs-samples (series_of c.args.left) (left_series before) at.channels at.channel at.frames old samples (left_series near) frame so.left all;
            right = runs-samples (series_of c.args.right) (right_series before) at.channels (at.channel + 1) at.frames old samples (right_series near) frame so.right all;
            others = so.others;
            after_left = runs-numbers (series_of c.args.left) (left_series before) at.channels at.channel at.frames old samples (left_series near) frame so.left all;
            after_right = runs-numbers (series_of c.args.right) (right_series before) at.channels (at.channel + 1) at.frames old samples (right_series near) frame so.right all;
            near = c.loop-frame.invariant.near;
          };
    }

pub join_both-marks-requires-clause-first : goal.join_both-marks-requires-clause-first
join_both-marks-requires-clause-first c = c.loop-frame.invariant.marks

pub join_both-marks-requires-clause-second : goal.join_both-marks-requires-clause-second
join_both-marks-requires-clause-second c = subst (BothAre (FitsSigned w64)) (sym (pair-again w64 c.take_frame-taken.result.1 c.take_frame-taken.ensures.marks)) c.take_frame-taken.ensures.marks

pub are_clear-requires : goal.are_clear-requires
are_clear-requires c = c.loop-frame.invariant.marks

pub take_frame-taken-requires-clause-first : goal.take_frame-taken-requires-clause-first
take_frame-taken-requires-clause-first c = c.requires.first

pub take_frame-taken-requires-clause-second : goal.take_frame-taken-requires-clause-second
take_frame-taken-requires-clause-second c = c.requires.second

pub take_frame-taken-requires-clause-near : goal.take_frame-taken-requires-clause-near
take_frame-taken-requires-clause-near c = c.loop-frame.invariant.near

pub take_frame-taken-requires-clause-there : goal.take_frame-taken-requires-clause-there
take_frame-taken-requires-clause-there c =
    let at = c.args.at in
    let low = place-within c.loop-frame.frame at.frames at.channels (at.channel + 1) (omega (arith, c.loop-frame-test.true, c.loop-frame.auto.frame-end)) c.requires.lane.0 in
    omega (arith, low, c.requires.lane.1.1, c.loop-frame.auto.samples)
