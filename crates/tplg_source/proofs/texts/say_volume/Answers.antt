use Rattle.std.proofs.Common.{◌++◌, codes, decimal, w32, ap, ◌∙◌, rules}
use Rattle.std.specs.Fmt.{signed_decimal}
use Rattle.std.proofs.lemmas.Int.{to_z-of_z}
use Rattle.tplg_source.specs.SourceText.{key_line, quoted}
use Rattle.tplg_source.proofs.Pieces.{seven, written}
use Rattle.tplg_source.proofs.texts.say_volume.Goals as goal

pub returns : goal.returns
returns c =
    let start = c.args.out.now.items in
    let name = c.in_ok-text_at_key.ensures ∙ ap (λ xs. start ++ key_line (codes "name") (quoted xs)) c.as_bytes.ensures.value in
    let least = c.in_ok-signed_at_key.ensures ∙ ap (λ n. c.number_at_key.new.out.items ++ key_line (codes "min") (signed_decimal n)) (to_z-of_z w32 c.args.min c.ranges.min) in
    let most = c.in_ok-signed_at_key-2.ensures ∙ ap (λ n. c.signed_at_key.new.out.items ++ key_line (codes "max") (signed_decimal n)) (to_z-of_z w32 c.args.max c.ranges.max) in
    let lowest = c.in_ok-signed_at_key-3.ensures ∙ ap (λ n. c.signed_at_key-2.new.out.items ++ key_line (codes "tlv_min") (signed_decimal n)) (to_z-of_z w32 c.args.scale.min (search rules)) in
    written _ _ _ _ (seven start (key_line (codes "name") (quoted c.args.name.now)) (key_line (codes "channels") (decimal c.args.channels))
    (key_line (codes "min") (signed_decimal c.args.min)) (key_line (codes "max") (signed_decimal c.args.max)) (key_line (codes "tlv_min") (signed_decimal c.args.scale.min))
    (key_line (codes "tlv_step") (decimal c.args.scale.step)) (key_line (codes "tlv_mute") (decimal c.args.scale.mute)) _ _ _ _ _ _ name c.in_ok-number_at_key.ensures
    least most lowest c.in_ok-number_at_key-2.ensures) c.number_at_key-3.ensures
