-- A heap from whose front pieces were carved one after the other.
use Rattle.std.proofs.Common.{◌≡◌, ℕ, ◌+◌, ◌-◌, ◌<◌, ◌≤◌, Bool, true, false, cond, eqb, leb, List, [], ◌∷◌, refl, sym, ap, ◌∙◌, arith, inl, inr}
use Rattle.std.specs.Prelude.{◌||◌}
use Rattle.std.proofs.lemmas.Bool.{cases_Bool, cases_eq, eqb-true, eq-eqb, le-leb, leb-true, leb-false, lt-leb}
use Rattle.sof_base.specs.declared.hole.Hole.{Hole}
use Rattle.sof_base.specs.Holes.{fresh_holes, fits, carved, shortened}

-- the holes of so many bytes of which the first are carved
abbrev pub left : ℕ → ℕ → List Hole
left used usable = cond (eqb used usable) [] (record { place = used; size = usable - used } ∷ [])

-- tests that are known
same-number : (a b : ℕ) → a ≡ b → eqb a b ≡ true
same-number a b same = eq-eqb a b same

other-number : (a b : ℕ) → (a ≡ b → ⊥) → eqb a b ≡ false
other-number a b other = elim (cases_Bool (eqb a b)) [ inl is ↦ absurd (other (eqb-true a b is)) | inr is ↦ is ]

abbrev hole : ℕ → ℕ → List Hole
hole place size = record { place = place; size = size } ∷ []

abbrev left_by : Bool → ℕ → ℕ → List Hole
left_by b place size = cond b [] (hole place size)

pub fresh-left : (n : ℕ) → fresh_holes n ≡ left 0 n
fresh-left n = elim (cases_eq n 0) [
  | inl none ↦ ap (λ (b : Bool). left_by b 0 n) (same-number n 0 none) ∙ sym (ap (λ (b : Bool). left_by b 0 (n - 0)) (same-number 0 n (sym none)))
  | inr some ↦ ap (λ (b : Bool). left_by b 0 n) (other-number n 0 some) ∙ ap (hole 0) (let same : n ≡ n - 0 = omega arith in same) ∙ sym (ap (λ (b : Bool). left_by b 0 (n - 0)) (other-number 0 n (λ e. some (sym e))))
]

test-same : (a b c d : ℕ) → (a ≤ b → c ≤ d) → (c ≤ d → a ≤ b) → leb a b ≡ leb c d
test-same a b c d f g = elim (cases_Bool (leb a b)) [
  | inl holds ↦ holds ∙ sym (le-leb c d (f (leb-true a b holds)))
  | inr fails ↦ elim (cases_Bool (leb c d)) [
    | inl holds ↦ absurd (omega (arith, leb-false a b fails, g (leb-true c d holds)))
    | inr fails' ↦ fails ∙ sym fails'
  ]
]

-- whether some hole holds n bytes
pub fits-left : (n used usable : ℕ) → 0 < n → used ≤ usable → fits n (left used usable) ≡ leb (used + n) usable
fits-left n used usable some within = elim (cases_eq used usable) [
  | inl full ↦ ap (λ (b : Bool). fits n (left_by b used (usable - used))) (same-number used usable full) ∙ sym (lt-leb (used + n) usable (omega (arith, full)))
  | inr more ↦
      ap (λ (b : Bool). fits n (left_by b used (usable - used))) (other-number used usable more)
      ∙ or-false (leb n (usable - used))
      ∙ test-same n (usable - used) (used + n) usable (λ le. omega (arith, le, within)) (λ le. omega (arith, le))
]
  where
    or-false : (b : Bool) → (b || false) ≡ b
    or-false true = refl
    or-false false = refl

-- what carving them leaves
pub carved-left : (n used usable : ℕ) → 0 < n → used + n ≤ usable → carved n (left used usable) ≡ left (used + n) usable
carved-left n used usable some within =
    ap (λ (b : Bool). carved n (left_by b used (usable - used))) (other-number used usable (λ full. omega (arith, full)))
    ∙ ap (λ (b : Bool). cond b (shortened n (record { place = used; size = usable - used }) []) (record { place = used; size = usable - used } ∷ [])) (le-leb n (usable - used) (omega arith))
    ∙ rest
  where
    rest : shortened n (record { place = used; size = usable - used }) [] ≡ left (used + n) usable
    rest = elim (cases_eq (usable - used) n) [
      | inl all ↦ ap (λ (b : Bool). left_by b (used + n) (usable - used - n)) (same-number (usable - used) n all) ∙ sym (ap (λ (b : Bool). left_by b (used + n) (usable - (used + n))) (same-number (used + n) usable (omega (arith, all, within))))
      | inr less ↦
          ap (λ (b : Bool). left_by b (used + n) (usable - used - n)) (other-number (usable - used) n less)
          ∙ ap (hole (used + n)) (let same : usable - used - n ≡ usable - (used + n) = omega arith in same)
          ∙ sym (ap (λ (b : Bool). left_by b (used + n) (usable - (used + n))) (other-number (used + n) usable (λ same. less (omega (arith, same, within)))))
    ]
