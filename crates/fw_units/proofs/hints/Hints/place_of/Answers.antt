use Rattle.std.proofs.Common.{◌<◌, length, arith}
use Rattle.fw_units.proofs.Hinted.{stands-at}
use Rattle.fw_units.proofs.hints.Hints.place_of.Goals as goal

pub returns-then-components-seen : goal.returns-then-components-seen
returns-then-components-seen c =
    let low : c.from-seen.result < length c.args.components.now = omega arith in
    stands-at c.args.id c.args.components.now c.from-seen.result _ c.requires low c.if-components-seen.true
