use Rattle.std.proofs.Common.{◌≡◌, sym, ◌∙◌, ◌*◌, ◌≤◌, [], ◌∷◌, false, arith}
use Rattle.std.proofs.Math.Nat.{mul-le-mul}
use Rattle.stream_law.specs.Moves.{runs}
use Rattle.stream_law.specs.Move.{ring_length, ring_room}
use Rattle.stream_law.specs.Seen.{blob_in}
use Rattle.fw_components.specs.Tables.{view_by}
use Rattle.fw_schedule.proofs.Growing.{grew-still}
use Rattle.fw_schedule.proofs.Moved.{frames-idle, made-idle, writes-idle}
use Rattle.fw_schedule.proofs.Stages.{still}
use Rattle.row_laws.proofs.Playing.{active-live}
use Rattle.fw_schedule.proofs.Running.{period-some, period-most, rate-few, quota-few, runs-is, runs-active}
use Rattle.fw_schedule.proofs.ticking.move_by.Goals as goal

pub runs-requires : goal.runs-requires
runs-requires c = λ on.
    let s = c.args.step.now in let is = c.requires.step in let v = view_by c.args.registry.now in let can = c.requires.can in
    let some = period-some v can.wired can.linked can.played s.id s.kind is.kind (sym is.active ∙ on) in
    omega (arith, some, is.period)

pub quota-most-requires : goal.quota-most-requires
quota-most-requires c =
    let s = c.args.step.now in let is = c.requires.step in let v = view_by c.args.registry.now in let can = c.requires.can in
    let now = runs-active v c.args.clock s.id (sym (runs-is v c.args.clock s.id s.period s.active is.active is.period) ∙ sym c.runs.ensures ∙ c.if-runs.true) in
    let low : s.rate ≤ 192000 = omega (arith, is.rate, rate-few v can.played s.id (active-live v can.wired can.linked can.played s.id now)) in
    let short : s.period ≤ 10 = omega (arith, is.period, period-most v.graph s.id can.wired.periods) in
    let most : s.period * s.rate ≤ 10 * 192000 = mul-le-mul short low in
    record {
      short = short;
      few = omega (arith, is.whole, most);
      whole = is.whole;
      over = is.over;
    }

pub copy_component-requires-clause-few : goal.copy_component-requires-clause-few
copy_component-requires-clause-few c =
    let s = c.args.step.now in let is = c.requires.step in let v = view_by c.args.registry.now in let can = c.requires.can in
    let now = runs-active v c.args.clock s.id (sym (runs-is v c.args.clock s.id s.period s.active is.active is.period) ∙ sym c.runs.ensures ∙ c.if-runs.true) in
    let few = quota-few v can.wired can.played c.args.clock s.id (active-live v can.wired can.linked can.played s.id now) in
    omega (arith, c.quota-most.ensures v is.period is.rate, few)

pub copy_component-requires-clause-active : goal.copy_component-requires-clause-active
copy_component-requires-clause-active c =
    let s = c.args.step.now in let is = c.requires.step in let v = view_by c.args.registry.now in
    runs-active v c.args.clock s.id (sym (runs-is v c.args.clock s.id s.period s.active is.active is.period) ∙ sym c.runs.ensures ∙ c.if-runs.true)

pub returns-then-runs-clause-moved : goal.returns-then-runs-clause-moved
returns-then-runs-clause-moved c =
    let s = c.args.step.now in let is = c.requires.step in let v = view_by c.args.registry.now in
    c.copy_component.ensures.moved c.args.clock (sym (runs-is v c.args.clock s.id s.period s.active is.active is.period) ∙ sym c.runs.ensures ∙ c.if-runs.true) (c.quota-most.ensures v is.period is.rate)

pub returns-else-runs-clause-grew : goal.returns-else-runs-clause-grew
returns-else-runs-clause-grew c = grew-still (c.args.step.now.id ∷ []) c.args.out.now

pub returns-else-runs-clause-moved : goal.returns-else-runs-clause-moved
returns-else-runs-clause-moved c = λ began start a ends stage.
    let t = c.args.registry.now in let s = c.args.step.now in let is = c.requires.step in let clock = c.args.clock in
    let off : runs (view_by t) clock s.id ≡ false = sym (runs-is (view_by t) clock s.id s.period s.active is.active is.period) ∙ sym c.runs.ensures ∙ c.if-runs.false in
    let idle = frames-idle (view_by t) clock (ring_length (view_by t) (blob_in (view_by t)) clock s.id a) (ring_room (view_by t) (blob_in (view_by t)) clock s.id a) s.id off in
    still began start t c.args.io.now c.args.out.now a ends stage clock s.id idle (made-idle (view_by t) (blob_in (view_by t)) clock s.id start a idle) (writes-idle (view_by t) (blob_in (view_by t)) clock s.id start a off)
