use Rattle.std.proofs.Common.{◌≡◌, sym, ap, ◌∙◌, subst, ◌+◌, ◌==◌, arith}
use Rattle.std.specs.Prelude.{position}
use Rattle.fw_schedule.proofs.Parts.{CanFeed, IsFed, can-feed-less, can-feed-on, fed-more}
use Rattle.fw_units.specs.declared.component.Component.{Component}
use Rattle.fw_units.specs.Frames.{pushed_at}
use Rattle.fw_units.proofs.Positions.{position-map}
use Rattle.fw_units.proofs.Found.{placed-there}
use Rattle.fw_moves.proofs.OutletLaws.{pushed-id}
use Rattle.fw_components.specs.Tables.{Tables}
use Rattle.fw_schedule.proofs.endpoints.feed_parts.Goals as goal

pub loop-fed-init : goal.loop-fed-init
loop-fed-init c = record {
  within = omega (arith, c.min-fed.ensures);
  so_far = record { tables = c.feed_some.ensures.tables; inputs = c.feed_some.ensures.inputs };
}

pub feed_some-requires-in-loop-fed-clause-place : goal.feed_some-requires-in-loop-fed-clause-place
feed_some-requires-in-loop-fed-clause-place c =
    let b = c.args.buffer in let t = c.args.registry.now in
    c.requires.place
    ∙ sym (ap (λ (u : Tables). position (λ (y : Component). y.id == b) u.buffers) c.loop-fed.invariant.so_far.tables
    ∙ position-map (λ (y : Component). y.id == b) (pushed_at b _ _) (λ y. ap (λ k. k == b) (pushed-id b _ _ y)) t.buffers)

pub feed_some-requires-in-loop-fed-clause-shape : goal.feed_some-requires-in-loop-fed-clause-shape
feed_some-requires-in-loop-fed-clause-shape c =
    let id = c.args.step.now.id in let b = c.args.buffer in let channels = c.args.step.now.channels in let n = c.args.n in let t = c.args.registry.now in let a = c.loop-fed.fed in let k = c.min-more.result in
    let can : CanFeed b channels n t = record { there = placed-there b t.buffers c.args.at c.requires.place; shape = c.requires.shape; fit = c.requires.fit } in
    let on = can-feed-on id b channels c.args.step.now.format a k t c.loop-fed.registry c.args.io.now c.loop-fed.io c.loop-fed.invariant.so_far (can-feed-less b channels n (a + k) t (omega (arith, c.min-more.ensures, c.loop-fed.invariant.within)) can) in
    on.shape

pub feed_some-requires-in-loop-fed-clause-fit : goal.feed_some-requires-in-loop-fed-clause-fit
feed_some-requires-in-loop-fed-clause-fit c =
    let id = c.args.step.now.id in let b = c.args.buffer in let channels = c.args.step.now.channels in let n = c.args.n in let t = c.args.registry.now in let a = c.loop-fed.fed in let k = c.min-more.result in
    let can : CanFeed b channels n t = record { there = placed-there b t.buffers c.args.at c.requires.place; shape = c.requires.shape; fit = c.requires.fit } in
    let on = can-feed-on id b channels c.args.step.now.format a k t c.loop-fed.registry c.args.io.now c.loop-fed.io c.loop-fed.invariant.so_far (can-feed-less b channels n (a + k) t (omega (arith, c.min-more.ensures, c.loop-fed.invariant.within)) can) in
    on.fit

pub loop-fed-preserved : goal.loop-fed-preserved
loop-fed-preserved c =
    let next = c.feed_some-in-loop-fed in
    record {
      within = omega (arith, c.min-more.ensures, c.loop-fed.invariant.within);
      so_far =
          fed-more c.args.step.now.id c.args.buffer c.args.step.now.channels c.args.step.now.format c.loop-fed.fed c.min-more.result c.args.registry.now c.loop-fed.registry c.args.io.now c.loop-fed.io c.loop-fed.invariant.so_far
          next.new.registry next.new.io
          (record { tables = next.ensures.tables; inputs = next.ensures.inputs });
    }

pub returns-clause-tables : goal.returns-clause-tables
returns-clause-tables c =
    let all : c.loop-fed.fed ≡ c.args.n = omega (arith, c.loop-fed-test.false, c.loop-fed.invariant.within) in
    (subst (λ k. IsFed c.args.step.now.id c.args.buffer c.args.step.now.channels c.args.step.now.format k c.args.registry.now c.args.io.now c.loop-fed.registry c.loop-fed.io) all c.loop-fed.invariant.so_far).tables

pub returns-clause-inputs : goal.returns-clause-inputs
returns-clause-inputs c =
    let all : c.loop-fed.fed ≡ c.args.n = omega (arith, c.loop-fed-test.false, c.loop-fed.invariant.within) in
    (subst (λ k. IsFed c.args.step.now.id c.args.buffer c.args.step.now.channels c.args.step.now.format k c.args.registry.now c.args.io.now c.loop-fed.registry c.loop-fed.io) all c.loop-fed.invariant.so_far).inputs
