use Rattle.std.proofs.Common.{◌+◌, ◌∙◌, sym, ap, refl, Some, None, cond, arith}
use Rattle.std.proofs.lemmas.Bool.{true≢false}
use Rattle.sof_base.specs.Ports.{Io}
use Rattle.stream_law.specs.State.{FwState}
use Rattle.stream_law.specs.Move.{next_clock}
use Rattle.stream_law.specs.TickMoves.{Move}
use Rattle.mbox_link.specs.Exchange.{ticked}
use Rattle.mbox_link.proofs.Rooms.{HasRoom-less}
use Rattle.fw_core.specs.Held.{state_in}
use Rattle.fw_core.specs.Device.{FirmwareView, with_state}
use Rattle.fw_core.proofs.Calls.{ticked-on, ticked-off}
use Rattle.fw_core.proofs.InputMoves.{tick-moves}
use Rattle.fw_core.proofs.Ticks.{can-tick, tick-held}
use Rattle.fw_core.proofs.dsp.FirmwareDsp.tick.Goals as goal

pub tick_by-requires-clause-can : goal.tick_by-requires-clause-can
tick_by-requires-clause-can c = can-tick c.self.inside.registry c.self.inside.region (c.self.invariant.on c.if-self.true)

pub renew-requires : goal.renew-requires
renew-requires c = c.self.invariant.schedule

pub tick_by-requires-clause-schedule : goal.tick_by-requires-clause-schedule
tick_by-requires-clause-schedule c = c.renew.ensures

pub invariant_of-self : goal.invariant_of-self
invariant_of-self c =
    let f = c.self.inside in let u = c.tick_by.new.registry in
    let io : Io = record { inputs = c.args.io.now; outputs = c.args.out.now } in
    let after : Io = record { inputs = c.tick_by.new.io; outputs = c.tick_by.new.out } in
    let held = c.self.invariant.on c.if-self.true in
    let moved : Move (state_in f.registry f.region f.clock) io (state_in u f.region (next_clock f.clock)) after = c.tick_by.ensures.moved (state_in f.registry f.region f.clock) refl in
    record {
      on = λ e. tick-held f.registry u f.region f.clock io after held moved c.tick_by.ensures.can (c.tick_by.ensures.region f.region.home held.homes);
      off = λ e. absurd (true≢false (sym c.if-self.true ∙ e));
      schedule = λ e. c.tick_by.ensures.schedule;
    }

pub returns-then-self : goal.returns-then-self
returns-then-self c =
    let f = c.self.inside in let u = c.tick_by.new.registry in
    let s : FwState = state_in f.registry f.region f.clock in
    let io : Io = record { inputs = c.args.io.now; outputs = c.args.out.now } in
    let after : Io = record { inputs = c.tick_by.new.io; outputs = c.tick_by.new.out } in
    let moved : Move s io (state_in u f.region (next_clock f.clock)) after = c.tick_by.ensures.moved s refl in
    ticked-on _ _ s
    (sym (ap (λ (d : FirmwareView). d.state) c.self.view_is) ∙ ap (λ h. cond h (Some s) None) c.if-self.true)
    ((λ i. record { device = record { state = cond (c.if-self.true i) (Some (moved.state i)) None; boots = f.boots; most = f.region.size; home = f.region.home }; io = moved.endpoints i })
    ∙ ap (λ (d : FirmwareView). record { device = with_state (Some (ticked (s, io)).0) d; io = (ticked (s, io)).1 }) c.self.view_is)
    c.tick_by.ensures.room
    (let kept = (c.self.invariant.on c.if-self.true).kept f.clock in tick-moves s io kept.wired kept.played)

pub returns-else-self : goal.returns-else-self
returns-else-self c =
    let f = c.self.inside in
    ticked-off _ _ (sym (ap (λ (d : FirmwareView). d.state) c.self.view_is) ∙ ap (λ h. cond h (Some (state_in f.registry f.region f.clock)) None) c.if-self.false) refl (λ n room. HasRoom-less c.args.out.now (n + 61440) n (omega arith) room)
