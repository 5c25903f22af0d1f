-- What becomes of an equaliser that stands alone.
use Rattle.std.proofs.Common.{◌≡◌, refl, sym, ap, ◌∙◌, subst, ℕ, List, [], ◌∷◌, ◌++◌, map, length, Bool, true, false, cond, not, ◌==◌, ◌||◌, Option, Some, Result, Ok, Err, ℤ, negsuc, eq-eqb, filter}
use Rattle.std.specs.Prelude.{find, OnErr}
use Rattle.std.specs.List.{list_any}
use Rattle.sof_base.specs.declared.errno.Errno.{Errno}
use Rattle.sof_base.specs.declared.hole.Hole.{Hole}
use Rattle.sof_base.specs.declared.part.Part.{Part}
use Rattle.sof_base.specs.Holes.{fresh_holes, first_fit, carved, given}
use Rattle.fw_heap.specs.Pieces.{PieceState}
use Rattle.eq_biquad.specs.EqState.{EqState}
use Rattle.fw_units.specs.declared.component.Component.{Component}
use Rattle.fw_units.specs.declared.component.Unit as units
use Rattle.fw_units.specs.declared.component.Unit.TheVariants.{Eq}
use Rattle.fw_units.specs.Units.{piece_of}
use Rattle.fw_components.specs.Tables.{Tables, all_of}
use Rattle.mbox_link.specs.Step.{touches}
use Rattle.fw_units.specs.Changes.{has_id}
use Rattle.fw_components.specs.Changes.{added, is_there, found, given_found, tables_without, without_by, IsFoundOf}
use Rattle.fw_components.specs.Values.{left_with}
use Rattle.fw_components.specs.Parts.{parted, parted_by, parted_at, parted_unit, part_set, takes_part}
use Rattle.std.specs.Option.{option_map_or}
use Rattle.fw_tests.specs.Alone.{IsPlaced, IsOne, IsAlone}

-- ---- it comes

pub added-alone : (piece : PieceState) (t new : Tables) (c : Component) (eq : EqState) → t ≡ record { comps = []; buffers = []; pipes = []; joins = [] } → c ≡ record { id = 3; pipe = 1; channels = 2; unit = Eq eq 0 0 }
    → eq.piece.home ≡ piece.home → eq.piece.place ≡ piece.place → eq.piece.size ≡ piece.size → new ≡ added c t → IsAlone piece new
added-alone piece t new c eq none is home place size new_is =
    subst (IsAlone piece) (sym (new_is ∙ (λ i. added (is i) (none i)))) (record { comps = (refl, record { home = home; place = place; size = size }); buffers = refl; pipes = refl; joins = refl })

-- ---- a part comes

same-place : (piece : PieceState) (id : ℕ) (part : Part) (words : List ℤ) (u : units.Unit) → IsPlaced piece (piece_of u) → IsPlaced piece (piece_of (parted_unit id part words u))
same-place piece id part words (Eq eq next remaining) e = record { home = e.home; place = e.place; size = e.size }
same-place piece id part words u e = e

one-parted : (piece : PieceState) (part : Part) (words : List ℤ) (cs : List Component) → IsOne piece cs → IsOne piece (map (parted_at 3 part words) cs)
one-parted piece part words [] e = absurd e
one-parted piece part words (c ∷ []) e = by (c.id == 3)
  where
    by : (h : Bool) → ((cond {A = Component} h (parted_by part words c) c).id ≡ 3) × IsPlaced piece (piece_of (cond {A = Component} h (parted_by part words c) c).unit)
    by true = (e.0, same-place piece c.id part words c.unit e.1)
    by false = e
one-parted piece part words (c ∷ (d ∷ cs)) e = absurd e

parted-alone : (piece : PieceState) (t : Tables) (part : Part) (words : List ℤ) → IsAlone piece t → IsAlone piece (parted 3 part words t)
parted-alone piece t part words alone = record { comps = one-parted piece part words t.comps alone.comps; buffers = alone.buffers; pipes = alone.pipes; joins = alone.joins }

set-is : (there takes : Bool) (new after : Tables) → ◌≡◌ {A = Result Tables ℤ} (Ok new) (cond (not there) (Err (negsuc 18)) (cond takes (Ok after) (Err (negsuc 21)))) → new ≡ after
set-is true true new after e = cc e
set-is true false new after e = absurd (cc e)
set-is false takes new after e = absurd (cc e)

-- whatever is answered, the equaliser stays where it is
pub set-alone : (piece : PieceState) (old new : Tables) (part : Part) (words : List ℤ) (o : Result Unit Errno) → left_with new o ≡ part_set old 3 part words → OnErr o (new ≡ old) → IsAlone piece old → IsAlone piece new
set-alone piece old new part words (Ok done) e kept alone = subst (IsAlone piece) (sym (set-is (is_there old 3) (option_map_or (λ c. takes_part c.id c.unit part) (find (λ c. c.id == 3) old.comps) false) new (parted 3 part words old) e)) (parted-alone piece old part words alone)
set-alone piece old new part words (Err fault) e kept alone = subst (IsAlone piece) (sym kept) alone

-- ---- it goes

one-there : (piece : PieceState) (cs rest : List Component) → IsOne piece cs → list_any (λ c. c.id == 3) (cs ++ rest) ≡ true
one-there piece [] rest e = absurd e
one-there piece (c ∷ []) rest e = ap (λ h. h || list_any (λ c. c.id == 3) rest) (eq-eqb c.id 3 e.0)
one-there piece (c ∷ (d ∷ cs)) rest e = absurd e

pub alone-there : (piece : PieceState) (t : Tables) → IsAlone piece t → is_there t 3 ≡ true
alone-there piece t alone = one-there piece t.comps (t.buffers ++ t.pipes) alone.comps

one-found : (piece : PieceState) (cs rest : List Component) → IsOne piece cs → (c : Component) × (find (λ c. c.id == 3) (cs ++ rest) ≡ Some c) × IsPlaced piece (piece_of c.unit)
one-found piece [] rest e = absurd e
one-found piece (c ∷ []) rest e = (c, ap (λ h. cond h (Some c) (find (λ c. c.id == 3) rest)) (eq-eqb c.id 3 e.0), e.1)
one-found piece (c ∷ (d ∷ cs)) rest e = absurd e

pub alone-found : (piece : PieceState) (t : Tables) → IsAlone piece t → IsFoundOf piece.home (found t 3)
alone-found piece t alone =
    let it = one-found piece t.comps (t.buffers ++ t.pipes) alone.comps in
    subst (IsFoundOf piece.home) (sym it.1) it.2.home

pub alone-given : (piece : PieceState) (t : Tables) (holes : List Hole) → IsAlone piece t → given_found (found t 3) holes ≡ given (record { place = piece.place; size = piece.size }) holes
alone-given piece t holes alone =
    let it = one-found piece t.comps (t.buffers ++ t.pipes) alone.comps in
    ap (λ (o : Option Component). given_found o holes) it.1 ∙ (λ i. given (record { place = it.2.place i; size = it.2.size i }) holes)

pub alone-apart : (piece : PieceState) (t : Tables) → IsAlone piece t → list_any (touches 3) t.joins ≡ false
alone-apart piece t alone = ap (list_any (touches 3)) alone.joins

one-gone : (piece : PieceState) (cs : List Component) → IsOne piece cs → filter (λ c. not (c.id == 3)) cs ≡ []
one-gone piece [] e = absurd e
one-gone piece (c ∷ []) e = ap (λ h. cond {A = List Component} (not h) (c ∷ []) []) (eq-eqb c.id 3 e.0)
one-gone piece (c ∷ (d ∷ cs)) e = absurd e

pub alone-gone : (piece : PieceState) (t : Tables) → IsAlone piece t → length (all_of (tables_without 3 t)) ≡ 0
alone-gone piece t alone =
    let here : has_id t.comps 3 ≡ true = subst (λ (cs : List Component). list_any (λ c. c.id == 3) cs ≡ true) (nothing t.comps) (one-there piece t.comps [] alone.comps) in
    ap (λ h. length (all_of (without_by h (has_id t.buffers 3) 3 t))) here
    ∙ (λ i. length (one-gone piece t.comps alone.comps i ++ (alone.buffers i ++ alone.pipes i)))
  where
    nothing : (cs : List Component) → cs ++ [] ≡ cs
    nothing [] = refl
    nothing (c ∷ cs) = ap (λ (xs : List Component). c ∷ xs) (nothing cs)

-- its piece is the only one, and its bytes come back
pub given-back : (holes : List Hole) (place size usable : ℕ) → holes ≡ carved 4160 (fresh_holes 4160) → place ≡ first_fit 4160 (fresh_holes 4160) → size ≡ 4160 → usable ≡ 4160 → given (record { place = place; size = size }) holes ≡ fresh_holes usable
given-back holes place size usable holes_are place_is size_is usable_is = (λ i. given (record { place = place_is i; size = size_is i }) (holes_are i)) ∙ sym (ap fresh_holes usable_is)
