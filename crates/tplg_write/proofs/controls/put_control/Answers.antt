use Rattle.std.proofs.Common.{◌≡◌, ℕ, ◌<◌, ◌^◌, length, subst, arith, refl, ap, ◌∙◌, of_z, w32, rules}
use Rattle.std.proofs.lemmas.Int.{to_z-of_z}
use Rattle.tplg_write.proofs.ControlRoom.{mixer_private, enum_private, bytes_private}
use Rattle.tplg_model.specs.Spelling.{control_head_slots}
use Rattle.tplg_write.proofs.OfProgram.{mixer_slots, enum_slots, bytes_slots}
use Rattle.tplg_write.proofs.controls.put_control.Goals as goal

pub overflow_cast-items : goal.overflow_cast-items
overflow_cast-items c =
    let room = rw c.in-Mixer.is at c.requires in
    omega (arith, room, mixer_private c.in-Mixer.head c.in-Mixer.min c.in-Mixer.max c.in-Mixer.platform_max c.in-Mixer.invert c.in-Mixer.num_channels c.in-Mixer.channels c.in-Mixer.private, ap length c.items.ensures)

pub overflow_cast-items-in-Enum : goal.overflow_cast-items-in-Enum
overflow_cast-items-in-Enum c =
    let room = rw c.in-Enum.is at c.requires in
    omega (arith, room, enum_private c.in-Enum.head c.in-Enum.num_channels c.in-Enum.channels c.in-Enum.items c.in-Enum.mask c.in-Enum.count c.in-Enum.texts c.in-Enum.values c.in-Enum.private, ap length c.items-in-Enum.ensures)

pub overflow_cast-items-in-Bytes : goal.overflow_cast-items-in-Bytes
overflow_cast-items-in-Bytes c =
    let room = rw c.in-Bytes.is at c.requires in
    omega (arith, room, bytes_private c.in-Bytes.head c.in-Bytes.max c.in-Bytes.mask c.in-Bytes.base c.in-Bytes.num_regs c.in-Bytes.ext_ops c.in-Bytes.private, ap length c.items-in-Bytes.ensures)

pub returns-in_ok-raw-in-Mixer-clause-ok : goal.returns-in_ok-raw-in-Mixer-clause-ok
returns-in_ok-raw-in-Mixer-clause-ok c =
    let min : c.cast_unsigned.result ≡ of_z w32 c.in-Mixer.min = c.cast_unsigned.ensures ∙ ap (of_z w32) (to_z-of_z w32 c.in-Mixer.min (search rules)) in
    let max : c.cast_unsigned-in-Mixer.result ≡ of_z w32 c.in-Mixer.max = c.cast_unsigned-in-Mixer.ensures ∙ ap (of_z w32) (to_z-of_z w32 c.in-Mixer.max (search rules)) in
    let most : c.cast_unsigned-in-Mixer-2.result ≡ of_z w32 c.in-Mixer.platform_max = c.cast_unsigned-in-Mixer-2.ensures ∙ ap (of_z w32) (to_z-of_z w32 c.in-Mixer.platform_max (search rules)) in
    rw (c.in-Mixer.is, c.in_ok-raw-in-Mixer.ensures.ok, c.in_ok-word-in-Mixer-6.ensures.ok, c.in_ok-words-in-Mixer.ensures.ok, c.in_ok-word-in-Mixer-5.ensures.ok, c.in_ok-word-in-Mixer-4.ensures.ok, c.in_ok-word-in-Mixer-3.ensures.ok, c.in_ok-word-in-Mixer-2.ensures.ok, c.in_ok-word-in-Mixer.ensures.ok, c.in_ok-size-in-Mixer.ensures.ok, c.in_ok-put_control_head-in-Mixer.ensures.ok, c.items-in-Mixer.ensures, c.items.ensures, min, max, most) refl

pub returns-in_ok-raw-in-Enum-2-clause-ok : goal.returns-in_ok-raw-in-Enum-2-clause-ok
returns-in_ok-raw-in-Enum-2-clause-ok c =
    rw (c.in-Enum.is, c.in_ok-raw-in-Enum-2.ensures.ok, c.in_ok-word-in-Enum-5.ensures.ok, c.in_ok-words-in-Enum-2.ensures.ok, c.in_ok-raw-in-Enum.ensures.ok, c.in_ok-word-in-Enum-4.ensures.ok, c.in_ok-word-in-Enum-3.ensures.ok, c.in_ok-word-in-Enum-2.ensures.ok, c.in_ok-words-in-Enum.ensures.ok, c.in_ok-word-in-Enum.ensures.ok, c.in_ok-size-in-Enum.ensures.ok, c.in_ok-put_control_head-in-Enum.ensures.ok, c.items-in-Enum-2.ensures, c.items-in-Enum.ensures) refl

pub returns-in_ok-raw-in-Bytes-clause-ok : goal.returns-in_ok-raw-in-Bytes-clause-ok
returns-in_ok-raw-in-Bytes-clause-ok c =
    rw (c.in-Bytes.is, c.in_ok-raw-in-Bytes.ensures.ok, c.in_ok-word-in-Bytes-5.ensures.ok, c.in_ok-words-in-Bytes.ensures.ok, c.in_ok-word-in-Bytes-4.ensures.ok, c.in_ok-word-in-Bytes-3.ensures.ok, c.in_ok-word-in-Bytes-2.ensures.ok, c.in_ok-word-in-Bytes.ensures.ok, c.in_ok-size-in-Bytes.ensures.ok, c.in_ok-put_control_head-in-Bytes.ensures.ok, c.items-in-Bytes-2.ensures, c.items-in-Bytes.ensures) refl

pub returns-in_ok-raw-in-Mixer-clause-is : goal.returns-in_ok-raw-in-Mixer-clause-is
returns-in_ok-raw-in-Mixer-clause-is c =
    let m = c.in-Mixer in
    let min : c.cast_unsigned.result ≡ of_z w32 m.min = c.cast_unsigned.ensures ∙ ap (of_z w32) (to_z-of_z w32 m.min (search rules)) in
    let max : c.cast_unsigned-in-Mixer.result ≡ of_z w32 m.max = c.cast_unsigned-in-Mixer.ensures ∙ ap (of_z w32) (to_z-of_z w32 m.max (search rules)) in
    let most : c.cast_unsigned-in-Mixer-2.result ≡ of_z w32 m.platform_max = c.cast_unsigned-in-Mixer-2.ensures ∙ ap (of_z w32) (to_z-of_z w32 m.platform_max (search rules)) in
    let private : length m.private < 2 ^ 32 = omega (arith, c.word-in-Mixer-5.ensures.fits, ap length c.items.ensures) in
    let fits : (ℕ → Type 0) = λ n. n < 2 ^ 32 in
    rw (m.is) (
      mixer_slots (control_head_slots 1 m.head) m.min m.max m.platform_max m.invert m.num_channels m.channels m.private c.in_ok-put_control_head-in-Mixer.ensures.is
          (subst fits min c.word.ensures.fits) (subst fits max c.word-in-Mixer.ensures.fits) (subst fits most c.word-in-Mixer-2.ensures.fits) c.word-in-Mixer-3.ensures.fits c.word-in-Mixer-4.ensures.fits c.words.ensures.fit private,
      (c.in_ok-put_control_head-in-Mixer.ensures.tlv, (search rules, (search rules, (search rules, search rules)))),
    )

pub returns-in_ok-raw-in-Enum-2-clause-is : goal.returns-in_ok-raw-in-Enum-2-clause-is
returns-in_ok-raw-in-Enum-2-clause-is c =
    let e = c.in-Enum in
    let private : length e.private < 2 ^ 32 = omega (arith, c.word-in-Enum-5.ensures.fits, ap length c.items-in-Enum.ensures) in
    rw (e.is) (
      enum_slots (control_head_slots 4 e.head) e.num_channels e.channels e.items e.mask e.count e.texts e.values e.private c.in_ok-put_control_head-in-Enum.ensures.is
          c.word-in-Enum.ensures.fits c.words-in-Enum.ensures.fit c.word-in-Enum-2.ensures.fits c.word-in-Enum-3.ensures.fits c.word-in-Enum-4.ensures.fits c.words-in-Enum-2.ensures.fit private,
      (c.in_ok-put_control_head-in-Enum.ensures.tlv, (search rules, (search rules, search rules))),
    )

pub returns-in_ok-raw-in-Bytes-clause-is : goal.returns-in_ok-raw-in-Bytes-clause-is
returns-in_ok-raw-in-Bytes-clause-is c =
    let b = c.in-Bytes in
    let private : length b.private < 2 ^ 32 = omega (arith, c.word-in-Bytes-5.ensures.fits, ap length c.items-in-Bytes.ensures) in
    rw (b.is) (
      bytes_slots (control_head_slots 5 b.head) b.max b.mask b.base b.num_regs b.ext_ops b.private c.in_ok-put_control_head-in-Bytes.ensures.is
          c.word-in-Bytes.ensures.fits c.word-in-Bytes-2.ensures.fits c.word-in-Bytes-3.ensures.fits c.word-in-Bytes-4.ensures.fits c.words-in-Bytes.ensures.fit private,
      (c.in_ok-put_control_head-in-Bytes.ensures.tlv, search rules),
    )
