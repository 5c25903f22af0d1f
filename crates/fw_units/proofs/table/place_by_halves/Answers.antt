use Rattle.std.proofs.Common.{◌<◌, ◌≤◌, length, arith}
use Rattle.fw_units.proofs.Hinted.{found_at, none_past, none_between}
use Rattle.fw_units.proofs.table.place_by_halves.Goals as goal

pub returns-then-from-components : goal.returns-then-from-components
returns-then-from-components c =
    let past : length c.args.components.now ≤ c.loop-from.from = omega arith in
    none_past c.args.id c.args.components.now c.loop-from.from c.loop-from.invariant.below past

pub returns-then-components-from : goal.returns-then-components-from
returns-then-components-from c =
    let low : c.loop-from.from < length c.args.components.now = omega arith in
    found_at c.args.id c.args.components.now c.loop-from.from _ c.requires low c.if-components-from.true

pub returns-else-components-from : goal.returns-else-components-from
returns-else-components-from c =
    let low : c.loop-from.from < length c.args.components.now = omega arith in
    let met : c.loop-from.end ≤ c.loop-from.from = omega arith in
    none_between c.args.id c.args.components.now c.loop-from.from _ c.requires c.loop-from.invariant.below low (c.loop-from.invariant.high c.loop-from.from _ met low) c.if-components-from.false
