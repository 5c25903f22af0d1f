use Rattle.std.proofs.Common.{◌≡◌, [], of_z, to_z, w32, rules, arith}
use Rattle.std.proofs.lemmas.Int.{to_z-of_z}
use Rattle.std.specs.Int.{cast_unsigned}
use Rattle.tplg_model.specs.declared.control.Control.TheVariants.{Mixer}
use Rattle.tplg_build.specs.WidgetForm.{scaled_head, channel_records}
use Rattle.tplg_build.proofs.OfProgram.{mixer_is}
use Rattle.tplg_build.proofs.RecordSizes.{control_size}
use Rattle.tplg_build.proofs.controls.control.Goals as goal

pub returns-in-Volume-clause-is : goal.returns-in-Volume-clause-is
returns-in-Volume-clause-is c =
    let v = c.in-Volume in
    let min : to_z w32 (of_z w32 v.min) ≡ v.min = to_z-of_z w32 v.min (search rules) in
    let max : to_z w32 (of_z w32 v.max) ≡ v.max = to_z-of_z w32 v.max (search rules) in
    let tlv_min : to_z w32 (of_z w32 v.tlv_min) ≡ v.tlv_min = to_z-of_z w32 v.tlv_min (search rules) in
    rw (c.scaled_head.ensures, c.copied.ensures.value, c.new.ensures, min, max, tlv_min)
    (mixer_is v.name v.channels v.min v.max v.tlv_min v.tlv_step v.tlv_mute c.copied.ensures.is_name (search rules) (search rules) (search rules) (search rules) (search rules) (search rules))

pub returns-in-Volume-clause-short : goal.returns-in-Volume-clause-short
returns-in-Volume-clause-short c =
    let v = c.in-Volume in
    let min : to_z w32 (of_z w32 v.min) ≡ v.min = to_z-of_z w32 v.min (search rules) in
    let max : to_z w32 (of_z w32 v.max) ≡ v.max = to_z-of_z w32 v.max (search rules) in
    let tlv_min : to_z w32 (of_z w32 v.tlv_min) ≡ v.tlv_min = to_z-of_z w32 v.tlv_min (search rules) in
    let is = mixer_is v.name v.channels v.min v.max v.tlv_min v.tlv_step v.tlv_mute c.copied.ensures.is_name (search rules) (search rules) (search rules) (search rules) (search rules) (search rules) in
    rw (c.scaled_head.ensures, c.copied.ensures.value, c.new.ensures, min, max, tlv_min) (omega (arith, control_size (Mixer (scaled_head 1 v.name (cast_unsigned w32 v.tlv_min) v.tlv_step v.tlv_mute) v.min v.max v.max 0 v.channels (channel_records 8) []) is))
