-- The free parts of a heap as a list, and what carving and giving back make of it. Places and sizes are in bytes.
use Rattle.std.specs.Prelude.{ℕ, ◌+◌, ◌-◌, ◌*◌, ◌/◌, Bool, List, [], ◌∷◌, ◌==◌, nat_le, nat_lt, max, if◌then◌else◌}
use Rattle.std.specs.List.{list_any}
use Rattle.sof_base.specs.declared.hole.Hole.{Hole}

-- n, up to a multiple of 16
abbrev pub rounded : ℕ → ℕ
rounded n = (n + 15) / 16 * 16

-- n, down to a multiple of 16
abbrev pub usable_of : ℕ → ℕ
usable_of n = n / 16 * 16

-- the holes of n bytes of which none is carved
abbrev pub fresh_holes : ℕ → List Hole
fresh_holes n = if n == 0 then [] else record { place = 0; size = n } ∷ []

-- some hole has n bytes
abbrev pub fits : ℕ → List Hole → Bool
fits n hs = list_any (λ (h : Hole). nat_le n h.size) hs

-- the size of the largest hole, 0 if there is no hole
abbrev pub largest : List Hole → ℕ
largest [] = 0
largest (h ∷ hs) = max h.size (largest hs)

-- the place of the first hole that has n bytes
abbrev pub first_fit : ℕ → List Hole → ℕ
first_fit n [] = 0
first_fit n (h ∷ hs) = if nat_le n h.size then h.place else first_fit n hs

-- h less its first n bytes, before hs
abbrev pub shortened : ℕ → Hole → List Hole → List Hole
shortened n h hs = if h.size == n then hs else record { place = h.place + n; size = h.size - n } ∷ hs

-- the holes once n bytes are taken from the front of the first that has them
abbrev pub carved : ℕ → List Hole → List Hole
carved n [] = []
carved n (h ∷ hs) = if nat_le n h.size then shortened n h hs else h ∷ carved n hs

-- s before the holes, joined to the first if they touch
abbrev pub joined : Hole → List Hole → List Hole
joined s [] = s ∷ []
joined s (h ∷ hs) = if s.place + s.size == h.place then record { place = s.place; size = s.size + h.size } ∷ hs else s ∷ h ∷ hs

-- the holes once s is free: it stands in its place, joined to the holes that it touches
abbrev pub given : Hole → List Hole → List Hole
given s [] = s ∷ []
given s (h ∷ hs) = if nat_lt s.place h.place then joined s (h ∷ hs) else (if h.place + h.size == s.place then joined (record { place = h.place; size = h.size + s.size }) hs else h ∷ given s hs)
