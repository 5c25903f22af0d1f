-- What stands under an id, by what is found.
use Rattle.std.proofs.Common.{◌≡◌, ap, ℕ, ◌*◌, ◌/◌, ◌%◌, ◌≤◌, min, arith, List, [], ◌==◌, Option, Some}
use Rattle.std.proofs.Math.Nat.{div-add-mod}
use Rattle.std.proofs.Math.Nat.{mul_comm}
use Rattle.std.specs.Prelude.{find}
use Rattle.std.specs.Option.{option_map_or}
use Rattle.fw_units.specs.declared.component.Component.{Component}
use Rattle.fw_units.specs.Units.{unit_frames, capacity_by}
use Rattle.fw_units.specs.Frames.{channels_by, buffer_frames, channels_in, capacity_in}

module _ (id : ℕ) (cs : List Component) (c : Component) (it : Some c ≡ find (λ x. x.id == id) cs) where
  pub frames-is : unit_frames c.unit ≡ buffer_frames cs id
  frames-is = ap (λ (o : Option Component). option_map_or (λ x. unit_frames x.unit) o []) it

  pub channels-is : channels_by c.unit ≡ channels_in cs id
  channels-is = ap (λ (o : Option Component). option_map_or (λ x. channels_by x.unit) o 1) it

  pub capacity-is : capacity_by c.unit ≡ capacity_in cs id
  capacity-is = ap (λ (o : Option Component). option_map_or (λ x. capacity_by x.unit) o 0) it

-- ---- numbers

pub fewest : (a b n : ℕ) → n ≡ min a b → a ≤ b → n ≡ a
fewest a b n e le = omega (arith, e, le)

pub whole : (n m : ℕ) → n % m ≡ 0 → n ≡ n / m * m
whole n m none = let turned : m * (n / m) ≡ n / m * m = mul_comm m (n / m) in omega (arith, turned, none, div-add-mod n m)
