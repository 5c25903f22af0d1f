use Rattle.std.proofs.Common.{◌++◌, arith}
use Rattle.std.proofs.lemmas.Grind.{common_steps}
use Rattle.tplg_compile.specs.ProgramValues.{slice_texts}
use Rattle.tplg_compile.specs.KeyTables.{keys_of}
use Rattle.tplg_compile.specs.ProgramValues.{keyed_by}
use Rattle.tplg_compile.proofs.KeyLaws.{is_among-append}
use Rattle.tplg_compile.proofs.entry.is_known.Goals as goal

pub returns-then-is_among : goal.returns-then-is_among
returns-then-is_among c =
    let own = slice_texts c.args.keys.now in
    let numbers = keys_of (keyed_by c.args.numbers.now) in
    let others = keys_of (keyed_by c.args.texts.now) in
    grind (arith, common_steps, is_among-append c.args.key.now own (numbers ++ others), is_among-append c.args.key.now numbers others)

pub returns-then-is_token : goal.returns-then-is_token
returns-then-is_token c =
    let own = slice_texts c.args.keys.now in
    let numbers = keys_of (keyed_by c.args.numbers.now) in
    let others = keys_of (keyed_by c.args.texts.now) in
    grind (arith, common_steps, is_among-append c.args.key.now own (numbers ++ others), is_among-append c.args.key.now numbers others)

pub returns : goal.returns
returns c =
    let own = slice_texts c.args.keys.now in
    let numbers = keys_of (keyed_by c.args.numbers.now) in
    let others = keys_of (keyed_by c.args.texts.now) in
    grind (arith, common_steps, is_among-append c.args.key.now own (numbers ++ others), is_among-append c.args.key.now numbers others)
