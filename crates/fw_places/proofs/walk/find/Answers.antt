use Rattle.std.proofs.Common.{◌<◌, sym, subst, length, set, arith}
use Rattle.fw_places.specs.Leaving.{AreFound}
use Rattle.fw_places.proofs.Marking.{unmarked-set}
use Rattle.fw_places.proofs.Leaves.{found-one}
use Rattle.fw_places.proofs.walk.find.Goals as goal
use Rattle.std.proofs.Common.{true}

pub push-requires : goal.push-requires
push-requires c =
    let low : c.args.place < length c.args.marks.now = omega (arith, c.requires.place, c.requires.size) in
    let few : length c.args.found.now.items < 257 = omega (arith, c.requires.found.room, c.requires.size, unmarked-set c.args.marks.now c.args.place low c.if-not-marks-place.true) in
    (omega arith, few)

pub returns-then-not-marks-place-clause-found : goal.returns-then-not-marks-place-clause-found
returns-then-not-marks-place-clause-found c =
    let low : c.args.place < length c.args.marks.now = omega (arith, c.requires.place, c.requires.size) in
    subst (AreFound (set c.args.marks.now c.args.place true)) (sym c.push.ensures.items) (found-one c.args.marks.now c.args.found.now.items c.args.place c.requires.found low c.if-not-marks-place.true)
