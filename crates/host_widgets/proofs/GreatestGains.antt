-- A control's gains are at most 16777216, and a message can say them.
use Rattle.std.proofs.Common.{◌≡◌, refl, ap, ◌∙◌, ℕ, zero, suc, ◌+◌, ◌*◌, ◌/◌, ◌≤◌, ◌<◌, ◌^◌, ℤ, pos, negsuc, List, [], ◌∷◌, map, length, Bool, true, false, not, cond, ◌==◌, ◌&&◌, arith}
use Rattle.std.specs.Prelude.{nat_le, int_lt, ◌≤ℤ◌, ◌+ℤ◌, ◌||◌}
use Rattle.std.specs.Int.{int_min, int_max, int_div_euclid}
use Rattle.std.specs.List.{list_all, AllByRecursion}
use Rattle.std.proofs.lemmas.Bool.{le-leb}
use Rattle.sof_base.specs.Slots.{AreSlots, IsSlot}
use Rattle.stream_law.specs.Gain.{gain_below, gain_at, gain_of, half_decibels}
use Rattle.ipc3_model.specs.declared.message.Message.TheVariants.{SetValue}
use Rattle.ipc3_model.specs.ControlWords.{value_slots}
use Rattle.ipc3_model.specs.Meanings.{IsMessage}
use Rattle.tplg_plan.specs.declared.plans.ControlKind.{ControlKind}
use Rattle.tplg_plan.specs.declared.plans.ControlKind.TheVariants.{Volume}
use Rattle.tplg_plan.specs.GainOf.{control_gain}
use Rattle.tplg_plan.proofs.Gains.{above-most, below-zero, below-suc}

-- ---- a gain

below-least : (h : ℕ) → gain_below h ≤ 65536
below-least zero = omega (arith, below-zero)
below-least (suc h) =
    let e : gain_below (suc h) ≡ gain_below h * 61870 / 65536 = (let f : suc h ≡ h + 1 = omega arith in ap gain_below f) ∙ below-suc h in
    omega (arith, e, below-least h)

at-most : (h : ℤ) → h ≤ℤ pos 84 → gain_at h ≤ 16777216
at-most (pos h) low = let few : h ≤ 84 = grind (arith, low) in above-most h few
at-most (negsuc h) low = omega (arith, below-least (suc h))

held-most : (x : ℤ) → int_max (negsuc 199) (int_min (pos 84) x) ≤ℤ pos 84
held-most x = lower (int_min (pos 84) x) (by (int_lt x (pos 84)) refl)
  where
    by : (h : Bool) → int_lt x (pos 84) ≡ h → cond h x (pos 84) ≤ℤ pos 84
    by true e = grind arith
    by false e = grind arith

    lower : (y : ℤ) → y ≤ℤ pos 84 → int_max (negsuc 199) y ≤ℤ pos 84
    lower y low = on (int_lt y (negsuc 199))
      where
        on : (h : Bool) → cond h (negsuc 199) y ≤ℤ pos 84
        on true = grind arith
        on false = low

pub gain-most : (lowest : ℤ) (step mute value : ℕ) → gain_of lowest step mute value ≤ 16777216
gain-most lowest step mute value = by (value == 0 && not (mute == 0))
  where
    by : (h : Bool) → cond h 0 (gain_at (half_decibels lowest step value)) ≤ 16777216
    by true = omega arith
    by false = at-most (half_decibels lowest step value) (held-most (int_div_euclid (lowest +ℤ pos (value * step)) (pos 50)))

pub control_gain-most : (kind : ControlKind) (value : ℕ) → control_gain kind value ≤ 16777216
control_gain-most (Volume min max channels lowest step mute) value = gain-most lowest step mute value
control_gain-most kind value = omega arith

-- ---- lists of gains

abbrev pub AreGains : List ℕ → Type 0
AreGains values = AllByRecursion (λ v. v ≤ 16777216) values

pub gains-are : (kind : ControlKind) (values : List ℕ) → AreGains (map (control_gain kind) values)
gains-are kind [] = tt
gains-are kind (v ∷ vs) = (control_gain-most kind v, gains-are kind vs)

pub gains-pass : (values : List ℕ) → AreGains values → list_all (λ v. nat_le v 16777216) values ≡ true
gains-pass [] are = refl
gains-pass (v ∷ vs) are = rw (le-leb v 16777216 are.0) (gains-pass vs are.1)

-- ---- in messages

pub value-slots : (channel : ℕ) (values : List ℕ) → channel + length values ≤ 2 ^ 32 → AreGains values → AreSlots (value_slots channel values)
unfolding AreSlots IsSlot
value-slots channel [] few are = tt
value-slots channel (v ∷ vs) few are = (omega (arith, few), (omega (arith, are.0), value-slots (channel + 1) vs (omega (arith, few)) are.1))

-- the command of a volume, of a mux or of a demux
pub of-values : (command : ℕ) → command ≤ 2 → (command == 0 || command == 1 || command == 2) ≡ true
of-values zero low = refl
of-values (suc zero) low = refl
of-values (suc (suc zero)) low = refl
of-values (suc (suc (suc command))) low = absurd (omega (arith, low))

pub set-message : (id command : ℕ) (values : List ℕ) → id < 2 ^ 32 → command ≤ 2 → 1 ≤ length values → length values ≤ 8 → AreGains values → IsMessage (SetValue id command values)
unfolding AreSlots IsSlot
set-message id command values fits low some few are =
    ((tt, (omega arith, (tt, (fits, (omega arith, (omega (arith, low), (tt, (tt, (tt, (tt, (tt, (tt, (tt, (tt, (omega (arith, few), (tt, (tt, (tt, (tt, (tt, (tt, (tt, (tt, value-slots 0 values (omega (arith, few)) are))))))))))))))))))))))), (of-values command low, rw (le-leb 1 (length values) some, le-leb (length values) 8 few) refl))
