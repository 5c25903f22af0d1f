-- The values of volumes, muxes and demuxes.
use Rattle.std.specs.Prelude.{ℕ, List, [], ◌∷◌, Option, Some, None, ◌==◌, if◌then◌else◌, Bool, false, ◌&&◌, length, nat_le}
use Rattle.std.specs.List.{list_all}
use Rattle.ipc3_model.specs.declared.control_kind.TheConstants.{CTRL_VOLUME, CTRL_ENUM, CTRL_SWITCH}
use Rattle.fw_units.specs.declared.component.Component.{Component}
use Rattle.fw_units.specs.declared.component.Unit as units
use Rattle.fw_units.specs.declared.component.Unit.TheVariants.{Volume, Mux, Demux}
use Rattle.stream_law.specs.Ramps.{last_gains}
use Rattle.fw_units.specs.Changes.{unit_at}

-- the gains of a volume by CTRL_VOLUME, the choice of a mux by CTRL_ENUM, and the masks of a demux by CTRL_SWITCH
abbrev pub unit_values : units.Unit → ℕ → Option (List ℕ)
unit_values (Volume gains ramp from done frames piece) command = if command == CTRL_VOLUME then Some gains else None
unit_values (Mux choice piece) command = if command == CTRL_ENUM then Some (choice ∷ []) else None
unit_values (Demux masks piece) command = if command == CTRL_SWITCH then Some masks else None
unit_values unit command = None

-- ---- what values set

-- a volume takes as many gains as it has, of at most 16777216, by CTRL_VOLUME; a mux a choice by CTRL_ENUM; and a demux eight masks,
-- of at most 255, by CTRL_SWITCH
abbrev pub takes_values : units.Unit → ℕ → List ℕ → Bool
takes_values (Volume gains ramp from done frames piece) command values = command == CTRL_VOLUME && (length values == length gains && list_all (λ v. nat_le v 16777216) values)
takes_values (Mux choice piece) command values = command == CTRL_ENUM && length values == 1
takes_values (Demux masks piece) command values = command == CTRL_SWITCH && (length values == 8 && list_all (λ v. nat_le v 255) values)
takes_values unit command values = false

-- the gains of a volume, where they are as many: its ramp goes to them from those at its last frame; the choice of a mux, where there is one;
-- and the masks of a demux, where they are eight
abbrev pub choice_of : List ℕ → ℕ → ℕ
choice_of [] choice = choice
choice_of (v ∷ values) choice = v

abbrev pub valued_unit : List ℕ → units.Unit → units.Unit
valued_unit values (Volume gains ramp from done frames piece) =
    Volume (if length values == length gains then values else gains) ramp
    (if length values == length gains then last_gains from gains frames done else from)
    (if length values == length gains then 0 else done) frames piece
valued_unit values (Mux choice piece) = Mux (choice_of values choice) piece
valued_unit values (Demux masks piece) = Demux (if length values == 8 then values else masks) piece
valued_unit values unit = unit

abbrev pub valued_at : ℕ → List ℕ → Component → Component
valued_at id values c = unit_at (valued_unit values) id c
