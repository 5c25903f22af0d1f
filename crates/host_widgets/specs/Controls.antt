-- The live controls of a plan, and their first values.
use Rattle.std.specs.Prelude.{ℕ, suc, ◌-◌, ℤ, pos, negsuc, Bool, true, false, not, ◌&&◌, ◌==◌, List, [], ◌∷◌, get_or, map, replicate, find, Option, unwrap_or}
use Rattle.std.specs.List.{range_with_len}
use Rattle.stream_law.specs.Gain.{half_decibels}
use Rattle.tplg_plan.specs.declared.plans.Plan.{Plan}
use Rattle.tplg_plan.specs.declared.plans.ControlPlan.{ControlPlan}
use Rattle.tplg_plan.specs.declared.plans.ControlKind.{ControlKind}
use Rattle.tplg_plan.specs.declared.plans.ControlKind.TheVariants.{Volume, Choice, Blob, Masks}

-- the live control of a component
abbrev pub control_of : Plan → ℕ → Option ControlPlan
control_of plan id = find (λ k. k.comp == id) plan.controls

-- ---- first values

abbrev pub is_at_least_one : ℤ → Bool
is_at_least_one (pos h) = true
is_at_least_one (negsuc h) = false

-- a value that is not silent and whose gain is 1 or more
abbrev pub has_full_gain : ℤ → ℕ → ℕ → ℕ → Bool
has_full_gain lowest step mute value = not (value == 0 && not (mute == 0)) && is_at_least_one (half_decibels lowest step value)

-- a volume begins at the least such value, or at its greatest where there is none; a mux begins at its first input, and a demux at
-- its greatest mask
unfoldable pub first_value : ControlKind → ℕ
first_value (Volume min max channels lowest step mute) = unwrap_or (find (has_full_gain lowest step mute) (range_with_len min (suc max - min))) max
first_value (Choice items) = 0
first_value (Blob most initial) = 0
first_value (Masks min max channels) = max

-- the greatest value of a volume
abbrev pub greatest_value : ControlKind → ℕ
greatest_value (Volume min max channels lowest step mute) = max
greatest_value kind = 0

-- by channel; a choice has one
abbrev pub first_values : ControlKind → List ℕ
first_values (Volume min max channels lowest step mute) = replicate channels (first_value (Volume min max channels lowest step mute))
first_values (Choice items) = 0 ∷ []
first_values (Blob most initial) = []
first_values (Masks min max channels) = replicate channels max

-- an equaliser's first blob
abbrev pub first_blob : ControlKind → List ℕ
first_blob (Blob most initial) = initial
first_blob kind = []

-- ---- a demux's masks

-- the mask of an output, counted from 0: its value, and 255 past the values
abbrev pub mask_at : List ℕ → ℕ → ℕ
mask_at values k = get_or values k 255

-- those of eight outputs
abbrev pub eight_masks : List ℕ → List ℕ
eight_masks values = map (mask_at values) (range_with_len 0 8)
