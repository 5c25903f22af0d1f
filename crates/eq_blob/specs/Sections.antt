-- The sections of a channel, as the bytes of a blob have them.
use Rattle.std.specs.Prelude.{◌≡◌, ℕ, zero, suc, ◌+◌, ◌*◌, ◌<◌, ◌≤◌, List, [], ◌∷◌, length, Option, true}
use Rattle.std.specs.Option.{option_map_or}
use Rattle.sof_base.specs.Equations as law
use Rattle.sof_base.specs.Blob.{signed_at, is_shift, section_at}
use Rattle.eq_blob.specs.declared.section.Section.{Section}
use Rattle.eq_blob.specs.declared.section.Found.{Found}

abbrev pub law_section : Section → law.Section
law_section s = record { a2 = s.a2; a1 = s.a1; b2 = s.b2; b1 = s.b1; b0 = s.b0; shift = s.shift; gain = s.gain }

-- n sections from a place on
abbrev pub sections_in : List ℕ → ℕ → ℕ → List law.Section
sections_in blob place zero = []
sections_in blob place (suc n) = section_at blob place ∷ sections_in blob (place + 28) n

-- the sections that were found
abbrev pub found_in : List ℕ → Option Found → List law.Section
found_in blob found = option_map_or (λ f. sections_in blob (4 * f.place) f.count) found []

-- they are at most 8, lie within the bytes, and have shifts of -13 to 31
pub record AreWithin (blob : List ℕ) (f : Found) : Type 0 where
  pub few : f.count ≤ 8
  pub bytes : 4 * f.place + 28 * f.count ≤ length blob
  pub shifts : (s : ℕ) → s < f.count → is_shift (signed_at blob (4 * f.place + 28 * s + 20)) ≡ true
