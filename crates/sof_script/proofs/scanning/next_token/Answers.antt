use Rattle.std.proofs.Common.{length, arith, rules, sym, ap, ◌∙◌}
use Rattle.std.proofs.lemmas.List.{length-drop}
use Rattle.sof_script.specs.Splitting.{tokens_from, Quoted}
use Rattle.sof_script.proofs.TokenLaws.{begins_quoted, begins_bare, some_byte, behind_quote}
use Rattle.sof_script.proofs.scanning.next_token.Goals as goal

pub bounds-bytes-0 : goal.bounds-bytes-0
bounds-bytes-0 c = some_byte c.args.bytes.now c.requires

pub bare_token-requires : goal.bare_token-requires
bare_token-requires c = begins_bare c.args.bytes.now c.requires (search rules)

pub returns-then-bytes-eq34 : goal.returns-then-bytes-eq34
returns-then-bytes-eq34 c =
    let bytes = c.args.bytes.now in
    behind_quote c.quoted_token.result c.split_at.result.1.now bytes
    (begins_quoted bytes (some_byte bytes c.requires) c.if-bytes-eq34.true ∙ ap (tokens_from Quoted) (sym c.split_at.ensures.back))
    (omega (arith, ap length c.split_at.ensures.back, length-drop 1 bytes))
    c.quoted_token.ensures
