-- What is written is of the program: the fields of controls and of blocks.
use Rattle.std.proofs.Common.{ℕ, ℤ, ◌<◌, ◌^◌, List, [], ◌∷◌, ◌++◌, length, arith}
use Rattle.std.specs.Int.{w32, cast_unsigned}
use Rattle.sof_base.specs.Slots.{Slot, Size, Word, Words, Raw, AreSlots, AreWords, IsSlot}
use Rattle.tplg_model.specs.Spelling.{BlockValue, block_type, count_of, AreRecords, IsBlock}
use Rattle.tplg_model.specs.Storable.{IsStorable}

-- fields, and fields after them
are_append : (xs ys : List Slot) → AreSlots xs → AreSlots ys → AreSlots (xs ++ ys)
unfolding AreSlots
are_append [] ys are more = more
are_append (x ∷ xs) ys are more = (are.0, are_append xs ys are.1 more)

-- a mixer's fields after its head
pub mixer_slots : (head : List Slot) (min max platform_max : ℤ) (invert num_channels : ℕ) (channels private : List ℕ) → AreSlots head → cast_unsigned w32 min < 2 ^ 32 → cast_unsigned w32 max < 2 ^ 32 → cast_unsigned w32 platform_max < 2 ^ 32 → invert < 2 ^ 32 → num_channels < 2 ^ 32 → AreWords channels → length private < 2 ^ 32
    → AreSlots (head ++ Size 360 ∷ Word (cast_unsigned w32 min) ∷ Word (cast_unsigned w32 max) ∷ Word (cast_unsigned w32 platform_max) ∷ Word invert ∷ Word num_channels ∷ Words channels ∷ Word (length private) ∷ Raw private ∷ [])
unfolding AreSlots IsSlot
mixer_slots head min max platform_max invert num_channels channels private are a b c d e f g =
    are_append head (Size 360 ∷ Word (cast_unsigned w32 min) ∷ Word (cast_unsigned w32 max) ∷ Word (cast_unsigned w32 platform_max) ∷ Word invert ∷ Word num_channels ∷ Words channels ∷ Word (length private) ∷ Raw private ∷ []) are
    (tt, (a, (b, (c, (d, (e, (f, (g, (tt, tt)))))))))

-- an enum's
pub enum_slots : (head : List Slot) (num_channels : ℕ) (channels : List ℕ) (items mask count : ℕ) (texts values private : List ℕ) → AreSlots head → num_channels < 2 ^ 32 → AreWords channels → items < 2 ^ 32 → mask < 2 ^ 32 → count < 2 ^ 32 → AreWords values → length private < 2 ^ 32
    → AreSlots (head ++ Size 1764 ∷ Word num_channels ∷ Words channels ∷ Word items ∷ Word mask ∷ Word count ∷ Raw texts ∷ Words values ∷ Word (length private) ∷ Raw private ∷ [])
unfolding AreSlots IsSlot
enum_slots head num_channels channels items mask count texts values private are a b c d e f g =
    are_append head (Size 1764 ∷ Word num_channels ∷ Words channels ∷ Word items ∷ Word mask ∷ Word count ∷ Raw texts ∷ Words values ∷ Word (length private) ∷ Raw private ∷ []) are
    (tt, (a, (b, (c, (d, (e, (tt, (f, (g, (tt, tt))))))))))

-- those of a bytes control
pub bytes_slots : (head : List Slot) (max mask base num_regs : ℕ) (ext_ops private : List ℕ) → AreSlots head → max < 2 ^ 32 → mask < 2 ^ 32 → base < 2 ^ 32 → num_regs < 2 ^ 32 → AreWords ext_ops → length private < 2 ^ 32
    → AreSlots (head ++ Size 240 ∷ Word max ∷ Word mask ∷ Word base ∷ Word num_regs ∷ Words ext_ops ∷ Word (length private) ∷ Raw private ∷ [])
unfolding AreSlots IsSlot
bytes_slots head max mask base num_regs ext_ops private are a b c d e f =
    are_append head (Size 240 ∷ Word max ∷ Word mask ∷ Word base ∷ Word num_regs ∷ Words ext_ops ∷ Word (length private) ∷ Raw private ∷ []) are
    (tt, (a, (b, (c, (d, (e, (f, (tt, tt))))))))

-- a block, by the numbers of its header
pub block_is : (b : BlockValue) → b.version < 2 ^ 32 → block_type b.body < 2 ^ 32 → b.vendor_type < 2 ^ 32 → IsStorable b.body → b.index < 2 ^ 32 → count_of b.body < 2 ^ 32 → AreRecords b.body → IsBlock b
unfolding AreSlots IsSlot
block_is b version kind vendor_type sound index count body = record {
  header = (omega arith, (omega arith, (version, (kind, (omega arith, (vendor_type, (sound.size, (index, (count, tt)))))))));
  kept = sound.kept;
  body = body;
}
