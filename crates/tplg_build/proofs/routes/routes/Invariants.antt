use Rattle.std.proofs.Common.{◌≡◌, map, take}
use Rattle.tplg_model.specs.Arrays.{Each}
use Rattle.tplg_model.specs.Spelling.{IsRoute}
use Rattle.tplg_build.specs.PcmForm.{route_of}
use Rattle.tplg_build.proofs.routes.routes.Given as goal

abbrev pub invariant-loop-one : goal.invariant-loop-one
invariant-loop-one l = (l.routes ≡ map route_of (take l.one-index l.stated)) × Each IsRoute l.routes
