-- The values, the texts and the keys of the program, as those of a source.
use Rattle.std.specs.Prelude.{ℕ, List, [], ◌∷◌, codes, Option, Some, None, option_map}
use Rattle.std.specs.Option.{option_map_or}
use Rattle.std.specs.Borrow.{Bor}
use Rattle.toml.specs.Data.{Data}
use Rattle.toml.specs.View.{view}
use Rattle.toml.specs.declared.value.Value.{Value}
use Rattle.tplg_build.specs.declared.source.WidgetKind.{WidgetKind}
use Rattle.tplg_compile.specs.declared.keys.TokenKey.{TokenKey}
use Rattle.tplg_compile.specs.KeyTables.{Keyed}

-- the values of the program
abbrev pub viewed : List Value → List Data
viewed [] = []
viewed (v ∷ vs) = view v ∷ viewed vs

-- the slice_texts of slices
abbrev pub slice_texts : List (Bor (List ℕ)) → List (List ℕ)
slice_texts [] = []
slice_texts (r ∷ rs) = r.now ∷ slice_texts rs

-- the keys of a table of the program
abbrev pub keyed_by : List TokenKey → List Keyed
keyed_by [] = []
keyed_by (k ∷ ks) = (k.key.now, k.token) ∷ keyed_by ks

-- the kinds of a table of the program
abbrev pub listed_kinds : List (Bor (List ℕ) × WidgetKind) → List (List ℕ × WidgetKind)
listed_kinds [] = []
listed_kinds ((text, kind) ∷ kinds) = (text.now, kind) ∷ listed_kinds kinds

-- the keys of a document
abbrev pub document_keys : List (List ℕ)
document_keys = codes "widget" ∷ codes "route" ∷ codes "pcm" ∷ []

-- the keys of the control of a pga
abbrev pub pga_keys : List (List ℕ)
pga_keys = codes "name" ∷ codes "channels" ∷ codes "min" ∷ codes "max" ∷ codes "tlv_min" ∷ codes "tlv_step" ∷ codes "tlv_mute" ∷ []

-- of a mux
abbrev pub mux_keys : List (List ℕ)
mux_keys = codes "name" ∷ codes "items" ∷ []

-- of an effect
abbrev pub effect_keys : List (List ℕ)
effect_keys = codes "name" ∷ codes "max" ∷ codes "blob" ∷ []

-- a value read, where there is one
abbrev pub perhaps : {A : Type 0} → (Data → Option A) → Option Data → Option (Option A)
perhaps read found = option_map_or (λ d. option_map Some (read d)) found (Some None)
