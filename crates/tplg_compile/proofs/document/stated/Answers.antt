use Rattle.std.proofs.Common.{◌<◌, ◌^◌, length, arith}
use Rattle.tplg_compile.specs.ProgramValues.{viewed}
use Rattle.tplg_compile.proofs.SeenLaws.{seen-count}
use Rattle.tplg_compile.proofs.document.stated.Goals as goal

pub records-requires : goal.records-requires
records-requires c =
    let vs = c.in-Ok.entries.widgets.now in
    let few : length (viewed vs) < 2 ^ 32 = (c.requires _ c.in-Ok.ensures).widgets in
    omega (arith, few, seen-count vs)

pub records-requires-2 : goal.records-requires-2
records-requires-2 c =
    let vs = c.in-Ok.entries.routes.now in
    let few : length (viewed vs) < 2 ^ 32 = (c.requires _ c.in-Ok.ensures).routes in
    omega (arith, few, seen-count vs)

pub records-requires-3 : goal.records-requires-3
records-requires-3 c =
    let vs = c.in-Ok.entries.pcms.now in
    let few : length (viewed vs) < 2 ^ 32 = (c.requires _ c.in-Ok.ensures).pcms in
    omega (arith, few, seen-count vs)
