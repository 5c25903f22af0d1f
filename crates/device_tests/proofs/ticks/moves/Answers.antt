use Rattle.std.proofs.Common.{refl, sym, ap, ◌∙◌}
use Rattle.sof_base.specs.Holes.{fresh_holes}
use Rattle.fw_schedule.specs.Ticks.{io_of}
use Rattle.fw_core.specs.Held.{state_in}
use Rattle.fw_core.proofs.Ticks.{can-tick, tick-held}
use Rattle.fw_core.proofs.Back.{all-back}
use Rattle.device_tests.proofs.ticks.moves.Goals as goal

-- src/ticks.rt:115:5
pub tick-requires-clause-can : goal.tick-requires-clause-can
tick-requires-clause-can g c = can-tick c.begin.new.registry c.begin.new.region c.begin.ensures.held

-- src/ticks.rt:117:5
pub remove_all-requires : goal.remove_all-requires
remove_all-requires g c = c.tick.ensures.region c.begin.new.region.home c.begin.ensures.held.homes

-- src/ticks.rt:119:5
pub close-requires-2 : goal.close-requires-2
close-requires-2 g c =
    let t = c.begin.new.registry in
    let u = c.tick.new.registry in
    let r = c.begin.new.region in
    let homes = c.tick.ensures.region r.home c.begin.ensures.held.homes in
    let moved = c.tick.ensures.moved (state_in t r 0) refl in
    let held = tick-held t u r 0 (io_of c.fill.new.self c.add-2.new.self) (io_of c.tick.new.io c.tick.new.out) c.begin.ensures.held moved c.tick.ensures.can homes in
    c.remove_all.ensures.holes ∙ all-back u r held ∙ ap fresh_holes (sym c.remove_all.ensures.same.2)
