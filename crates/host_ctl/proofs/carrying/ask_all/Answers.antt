use Rattle.std.proofs.Common.{◌≡◌, ◌+◌, ◌<◌, ◌≤◌, ℕ, List, [], ◌∷◌, length, Ok, Err, refl, subst, sym, ap, ◌∙◌, arith}
use Rattle.std.specs.Prelude.{IfOk}
use Rattle.ipc3_model.specs.declared.message.Message.TheVariants.{GetData}
use Rattle.ipc3_model.specs.Messages.{message_spelling}
use Rattle.mbox_link.specs.BlobParts.{parts, blob_part}
use Rattle.host_widgets.specs.Sides.{world_of}
use Rattle.tplg_plan.specs.declared.plans.ControlPlan.{ControlPlan}
use Rattle.host_widgets.specs.declared.kept.Record.{Record}
use Rattle.host_widgets.specs.ActCarried.{Replied}
use Rattle.host_widgets.specs.Host.{Outcome}
use Rattle.host_widgets.specs.HostActs.{Ask}
use Rattle.host_widgets.proofs.AnsweredActs.{Passing, answered-sent}
use Rattle.host_widgets.proofs.SidesKept.{same-on}
use Rattle.host_widgets.proofs.Walks.{handed_on, sent-on, sent-room}
use Rattle.host_ctl.specs.ControlAnswers.{HasSet, with_part}
use Rattle.host_ctl.specs.ControlPlaces.{control_here, record_here}
use Rattle.host_ctl.proofs.ControlAnswered.{AskedAhead, ask-failed, ask-passed, ask-stays, asked-all, asked-ends, asked-more, asked-none, parts-answered}
use Rattle.host_ctl.proofs.ControlCalls.{place-control}
use Rattle.host_ctl.proofs.ControlParts.{asks_from, blob-kind, initial-here, part-asks, part-heard}
use Rattle.host_ctl.proofs.ControlShown.{has-set, set-has}
use Rattle.host_ctl.proofs.PartsTold.{bytes-all, bytes-fit, bytes-more, first_bytes}
use Rattle.host_ctl.proofs.carrying.ask_all.Goals as goal

pub loop-index-init : goal.loop-index-init
loop-index-init g c = record {
  stays = refl;
  same = record { plan = refl; heap = refl; kept = refl; dsp = refl; io = refl; out = refl };
  room = c.requires.ready.room;
  on = c.requires.ready.on c.requires.power;
  asked = asked-none g.P.Dsp.means c.args.side.now.plan.now c.args.side.now.heap (control_here c.args.side.now.plan.now c.args.place).comp c.args.count c.args.side.now.kept.now (world_of c.args.side.now);
  told = λ set. (c.requires.empty, set);
}

pub transact-requires-clause-on : goal.transact-requires-clause-on
transact-requires-clause-on g c = c.loop-index.invariant.on

pub returns-in_err-reply : goal.returns-in_err-reply
returns-in_err-reply g c =
    let means = g.P.Dsp.means in
    let plan = c.args.side.now.plan.now in
    let heap = c.args.side.now.heap in
    let kept = c.args.side.now.kept.now in
    let sound = c.requires.ready.plan in
    let is = c.requires.ready.record_is in
    let i = c.args.place in
    let low = c.requires.place in
    let kind = blob-kind (control_here plan i).kind c.requires.kind in
    let w = world_of c.args.side.now in
    let j = c.loop-index.index in
    let m = world_of c.loop-index.side in
    let v = world_of c.transact.new.side in
    let few : j < parts (record_here kept i).blob = omega (arith, c.loop-index-test.true, c.requires.count) in
    let same = c.loop-index.invariant.same in
    let here = place-control plan i low c.items.result.now _ (c.items.ensures ∙ (λ t. (same.plan t).now.controls)) in
    let asked = subst (λ (n : ℕ). AskedAhead means plan heap (control_here plan i).comp n kept w m j) c.requires.count c.loop-index.invariant.asked in
    let h = subst (λ (p : ControlPlan × Record × ℕ). Replied means p.2 (message_spelling (GetData p.0.comp j)) p.1 c.transact.new.side.kept.now m v c.transact.result) (λ t. (here t, c.loop-index.invariant.stays t, same.heap t)) c.transact.ensures.replied in
    let fault = c.in_err-reply.field-0.0 in
    let failed = handed_on c.from_residual.result fault c.from_residual.ensures in
    record {
      answered = parts-answered means c.args.side.now c.requires.ready i low kind.0 kind.1 kind.2 c.requires.power c.transact.new.side.kept.now v _
          (asked-ends means plan heap (control_here plan i).comp (parts (record_here kept i).blob) kept w m v j few asked c.transact.new.side.kept.now fault
          (ask-failed means c.args.side.now c.requires.ready i low j _ (sym (part-asks plan sound kept is i low kind.0 kind.1 kind.2 j few)) m v c.transact.new.side.kept.now c.transact.result h fault c.in_err-reply.was (Err fault) refl) _ failed);
      told = λ set. subst (λ (o : Outcome). IfOk o (λ done. (c.loop-index.told.items ≡ (record_here kept i).blob) × HasSet means plan kept (control_here plan i).comp c.transact.new.side.dsp.now)) (sym failed) tt;
      still = subst (λ (o : Outcome). IfOk o (λ done. c.transact.new.side.kept.now ≡ kept)) (sym failed) tt;
      same = same-on c.args.side.now c.loop-index.side c.transact.new.side same c.transact.ensures.same;
    }

pub loop-index-preserved : goal.loop-index-preserved
loop-index-preserved g c =
    let means = g.P.Dsp.means in
    let plan = c.args.side.now.plan.now in
    let heap = c.args.side.now.heap in
    let kept = c.args.side.now.kept.now in
    let sound = c.requires.ready.plan in
    let is = c.requires.ready.record_is in
    let i = c.args.place in
    let low = c.requires.place in
    let kind = blob-kind (control_here plan i).kind c.requires.kind in
    let w = world_of c.args.side.now in
    let j = c.loop-index.index in
    let m = world_of c.loop-index.side in
    let v = world_of c.transact.new.side in
    let few : j < parts (record_here kept i).blob = omega (arith, c.loop-index-test.true, c.requires.count) in
    let same = c.loop-index.invariant.same in
    let here = place-control plan i low c.items.result.now _ (c.items.ensures ∙ (λ t. (same.plan t).now.controls)) in
    let asked = subst (λ (n : ℕ). AskedAhead means plan heap (control_here plan i).comp n kept w m j) c.requires.count c.loop-index.invariant.asked in
    let h = subst (λ (p : ControlPlan × Record × ℕ). Replied means p.2 (message_spelling (GetData p.0.comp j)) p.1 c.transact.new.side.kept.now m v c.transact.result) (λ t. (here t, c.loop-index.invariant.stays t, same.heap t)) c.transact.ensures.replied in
    let initial = initial-here plan sound kept is i low kind.0 kind.1 kind.2 in
    let says = sym (part-asks plan sound kept is i low kind.0 kind.1 kind.2 j few) in
    let one = ask-passed means c.args.side.now c.requires.ready i low j _ says m v c.transact.new.side.kept.now c.transact.result h c.in_ok-reply.reply c.in_ok-reply.was kept refl in
    let sent = answered-sent means plan heap (Ask (control_here plan i).comp j ∷ []) (λ now. now) kept kept m v one in
    record {
      stays = ask-stays means c.args.side.now c.requires.ready i low j _ says m v c.transact.new.side.kept.now c.transact.result h c.in_ok-reply.reply c.in_ok-reply.was;
      same = same-on c.args.side.now c.loop-index.side c.transact.new.side same c.transact.ensures.same;
      room = sent-room means plan (Ask (control_here plan i).comp j ∷ []) m v (Ok tt) sent c.loop-index.invariant.room;
      on = sent-on means plan (Ask (control_here plan i).comp j ∷ []) m v (Ok tt) sent c.loop-index.invariant.on;
      asked = subst (λ (n : ℕ). AskedAhead means plan heap (control_here plan i).comp n kept w v (j + 1)) (sym c.requires.count) (asked-more means plan heap (control_here plan i).comp (parts (record_here kept i).blob) kept w m v j few asked one);
      told = λ set.
          let was = c.loop-index.invariant.told set in
          let heard = part-heard plan sound kept is i low kind.0 kind.1 kind.2 j few means heap m c.loop-index.invariant.on was.1 c.transact.new.side.kept.now v c.transact.result h c.in_ok-reply.reply c.in_ok-reply.was in
          let joins = ap (λ (bytes : List ℕ). with_part bytes (blob_part (record_here kept i).blob j)) was.0 ∙ bytes-more (record_here kept i).blob j few initial in
          let fits = subst (λ (bytes : List ℕ). length bytes ≤ 1024) (sym joins) (bytes-fit (record_here kept i).blob j few initial) in
          (c.append_reply.ensures (blob_part (record_here kept i).blob j) heard.0 fits ∙ joins, has-set means plan kept (control_here plan i).comp v.device heard.1);
    }

pub returns : goal.returns
returns g c =
    let means = g.P.Dsp.means in
    let plan = c.args.side.now.plan.now in
    let heap = c.args.side.now.heap in
    let kept = c.args.side.now.kept.now in
    let sound = c.requires.ready.plan in
    let is = c.requires.ready.record_is in
    let i = c.args.place in
    let low = c.requires.place in
    let kind = blob-kind (control_here plan i).kind c.requires.kind in
    let w = world_of c.args.side.now in
    let m = world_of c.loop-index.side in
    let last : c.loop-index.index ≡ parts (record_here kept i).blob = omega (arith, c.loop-index-test.false, c.loop-index.auto.index-end, c.requires.count) in
    let past : c.args.count ≤ c.loop-index.index = omega (arith, c.loop-index-test.false) in
    let stays = c.loop-index.invariant.stays in
    let raw = subst (λ (n : ℕ). Passing means plan heap (asks_from (control_here plan i).comp 0 n) kept kept w m (Ok tt)) c.requires.count
    (asked-all means plan heap (control_here plan i).comp c.args.count kept w m c.loop-index.index past c.loop-index.invariant.asked) in
    record {
      answered = parts-answered means c.args.side.now c.requires.ready i low kind.0 kind.1 kind.2 c.requires.power c.loop-index.side.kept.now m (Ok tt)
          (subst (λ (y : Record). Passing means plan heap (asks_from (control_here plan i).comp 0 (parts (record_here kept i).blob)) kept y w m (Ok tt)) (sym stays) raw);
      told = λ set.
          let was = c.loop-index.invariant.told set in (
            was.0 ∙ ap (first_bytes (record_here kept i).blob) last ∙ bytes-all (record_here kept i).blob (initial-here plan sound kept is i low kind.0 kind.1 kind.2),
            set-has means plan kept (control_here plan i).comp c.loop-index.side.dsp.now c.loop-index.invariant.on was.1,
          );
      still = stays;
      same = c.loop-index.invariant.same;
    }
