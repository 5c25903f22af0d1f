use Rattle.std.proofs.Common.{◌+◌, ◌≤◌, arith}
use Rattle.eq_biquad.specs.PairForms.{series_of, left_series, right_series}
use Rattle.eq_biquad.proofs.LaneLaws.{place-within}
use Rattle.eq_biquad.proofs.PairSteps.{both-none, both-more, runs-samples, runs-numbers}
use Rattle.eq_biquad.proofs.side_by_side.pass_frames.Goals as goal

pub loop-frame-init : goal.loop-frame-init
loop-frame-init c =
    let at = c.args.at in
    record {
      so = both-none (series_of c.args.left) (series_of c.args.right) (left_series c.args.before) (right_series c.args.before) at.channels at.channel at.frames c.args.samples.now;
      near = c.requires.near;
    }

pub loop-frame-preserved : goal.loop-frame-preserved
loop-frame-preserved c =
    let at = c.args.at in let after = c.pass_frame-near.ensures in let near = c.loop-frame.near in let next = c.pass_frame-near.result in
    record {
      so = both-more (series_of c.args.left) (series_of c.args.right) (left_series c.args.before) (right_series c.args.before) at.channels at.channel at.frames c.args.samples.now c.loop-frame.samples c.pass_frame-near.new.samples
          (left_series near) (right_series near) (left_series next) (right_series next) c.loop-frame.frame c.requires.lane.0 (omega (arith, c.loop-frame-test.true, c.loop-frame.auto.frame-end)) c.loop-frame.invariant.so
          after.left after.right after.others c.pass_frame-near.auto.samples;
      near = after.near;
    }

pub returns : goal.returns
returns c =
    let at = c.args.at in let so = c.loop-frame.invariant.so in let samples = c.loop-frame.samples in let near = c.loop-frame.near in let frame = c.loop-frame.frame in let before = c.args.before in
    let old = c.args.samples.now in
    let all : at.frames ≤ frame = omega (arith, c.loop-frame-test.false, c.loop-frame.auto.frame-end) in
    record {
      left = runs-samples (series_of c.args.left) (left_series before) at.channels at.channel at.frames old samples (left_series near) frame so.left all;
      right = runs-samples (series_of c.args.right) (right_series before) at.channels (at.channel + 1) at.frames old samples (right_series near) frame so.right all;
      others = so.others;
      after_left = runs-numbers (series_of c.args.left) (left_series before) at.channels at.channel at.frames old samples (left_series near) frame so.left all;
      after_right = runs-numbers (series_of c.args.right) (right_series before) at.channels (at.channel + 1) at.frames old samples (right_series near) frame so.right all;
      near = c.loop-frame.invariant.near;
    }

pub pass_frame-near-requires-clause-first : goal.pass_frame-near-requires-clause-first
pass_frame-near-requires-clause-first c = c.requires.first

pub pass_frame-near-requires-clause-second : goal.pass_frame-near-requires-clause-second
pass_frame-near-requires-clause-second c = c.requires.second

pub pass_frame-near-requires-clause-near : goal.pass_frame-near-requires-clause-near
pass_frame-near-requires-clause-near c = c.loop-frame.invariant.near

pub pass_frame-near-requires-clause-there : goal.pass_frame-near-requires-clause-there
pass_frame-near-requires-clause-there c =
    let at = c.args.at in
    let low = place-within c.loop-frame.frame at.frames at.channels (at.channel + 1) (omega (arith, c.loop-frame-test.true, c.loop-frame.auto.frame-end)) c.requires.lane.0 in
    omega (arith, low, c.requires.lane.1.1, c.loop-frame.auto.samples)
