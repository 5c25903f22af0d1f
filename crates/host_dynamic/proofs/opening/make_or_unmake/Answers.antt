use Rattle.std.proofs.Common.{refl, ap, subst, List, ℕ, length, Ok, Err, arith}
use Rattle.mbox_link.specs.Calls.{world}
use Rattle.host_widgets.specs.Host.{Outcome}
use Rattle.host_widgets.specs.Sides.{world_of}
use Rattle.host_widgets.specs.UpActs.{making_acts}
use Rattle.host_dynamic.specs.UpCalls.{AfterMaking}
use Rattle.host_dynamic.proofs.opening.make_or_unmake.Goals as goal
use Rattle.host_widgets.specs.MadeLists.{MadeListed}
use Rattle.host_widgets.proofs.MadeSent.{listed-on, listed-room}

pub make-requires-clause-controls : goal.make-requires-clause-controls
make-requires-clause-controls g c = c.requires.kept.controls

pub make-requires-clause-few : goal.make-requires-clause-few
make-requires-clause-few g c = omega (arith, ap length c.new-made.ensures, c.requires.few)

pub unmake_after-requires-clause-on : goal.unmake_after-requires-clause-on
unmake_after-requires-clause-on g c = listed-on g.P.Dsp.means c.args.side.now.plan.now _ _ _ _ _ c.make.ensures.sent c.requires.on

pub unmake_after-requires-clause-room : goal.unmake_after-requires-clause-room
unmake_after-requires-clause-room g c = listed-room g.P.Dsp.means c.args.side.now.plan.now _ _ _ _ _ c.make.ensures.sent c.requires.room

pub returns-in-Ok-clause-did : goal.returns-in-Ok-clause-did
returns-in-Ok-clause-did g c =
    let means = g.P.Dsp.means in let plan = c.args.side.now.plan.now in let kept = c.args.side.now.kept.now in let n : List ℕ = c.args.indices.now in
    let w = world_of c.args.side.now in let m = world c.make.new.dsp c.make.new.io c.make.new.out in
    record {
      made = c.make.new.made.items;
      outcome = Ok tt;
      mid = m;
      listed = subst (λ (x : List ℕ × Outcome). MadeListed means plan (making_acts plan kept n) x.0 c.make.new.made.items w m x.1) (λ i. (c.new-made.ensures i, c.in-Ok.is i)) c.make.ensures;
      rest = (refl, refl, refl);
    }

pub returns-in-Err-clause-same : goal.returns-in-Err-clause-same
returns-in-Err-clause-same g c =
    let same = c.unmake_after.ensures.same in
    record { plan = same.plan; heap = same.heap; kept = same.kept; dsp = same.dsp; io = same.io; out = same.out }

pub returns-in-Err-clause-did : goal.returns-in-Err-clause-did
returns-in-Err-clause-did g c =
    let means = g.P.Dsp.means in let plan = c.args.side.now.plan.now in let kept = c.args.side.now.kept.now in let n : List ℕ = c.args.indices.now in
    let w = world_of c.args.side.now in let m = world c.make.new.dsp c.make.new.io c.make.new.out in
    record {
      made = c.make.new.made.items;
      outcome = Err c.in-Err.fault;
      mid = m;
      listed = subst (λ (x : List ℕ × Outcome). MadeListed means plan (making_acts plan kept n) x.0 c.make.new.made.items w m x.1) (λ i. (c.new-made.ensures i, c.in-Err.is i)) c.make.ensures;
      rest = subst (λ (xs : List ℕ). AfterMaking means plan c.args.side.now.heap xs (Err c.in-Err.fault) kept c.unmake_after.new.side.kept.now m (world_of c.unmake_after.new.side) c.unmake_after.result) c.as_slice.ensures.value c.unmake_after.ensures.did;
    }
