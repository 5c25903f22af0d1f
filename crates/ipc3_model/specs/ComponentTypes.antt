-- The types of components, as the type word of COMP_NEW names them.
use Rattle.std.specs.Prelude.{ℕ, List, [], ◌∷◌, Option, find, ◌==◌}
use Rattle.ipc3_model.specs.declared.component_type.CompType.{CompType}
use Rattle.ipc3_model.specs.declared.component_type.CompType.TheVariants.{Host, Dai, Volume, Mixer, Mux, EqIir, Demux}
use Rattle.ipc3_model.specs.declared.component_type.TheConstants.{HOST, DAI, VOLUME, MIXER, MUX, EQ_IIR, DEMUX}

-- the type word of a type: 1, 2, 5, 6, 7, 13, 18
abbrev pub type_number : CompType → ℕ
type_number Host = HOST
type_number Dai = DAI
type_number Volume = VOLUME
type_number Mixer = MIXER
type_number Mux = MUX
type_number EqIir = EQ_IIR
type_number Demux = DEMUX

-- all types
abbrev pub all_types : List CompType
all_types = Host ∷ Dai ∷ Volume ∷ Mixer ∷ Mux ∷ EqIir ∷ Demux ∷ []

-- the type whose type word this is
abbrev pub type_numbered : ℕ → Option CompType
type_numbered n = find (λ t. n == type_number t) all_types
