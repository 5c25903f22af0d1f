-- What of tables is seen through pieces: where each lies, and of which region it is.
use Rattle.std.proofs.Common.{◌≡◌, refl, sym, ap, ◌∙◌, subst, ℕ, List, [], ◌∷◌, ◌++◌, map, Bool, true, false, cond, ◌==◌, inl, inr}
use Rattle.std.specs.List.{AllByRecursion}
use Rattle.stream_law.specs.State.{PieceView}
use Rattle.stream_law.proofs.Members.{IsIn}
use Rattle.stream_law.specs.Placed.{placed}
use Rattle.stream_law.specs.declared.graph.Join.{Join}
use Rattle.fw_heap.specs.declared.run.Home.{Home}
use Rattle.fw_units.specs.declared.component.Component.{Component}
use Rattle.fw_units.specs.declared.component.Unit as units
use Rattle.fw_units.specs.declared.component.Unit.TheVariants.{Buffer}
use Rattle.fw_units.specs.Units.{piece_of, piece_by, pieces_by}
use Rattle.fw_units.specs.Changes.{IsOfHome, joined_at, sunk_unit, sourced_unit, completed_at, completed_unit}
use Rattle.fw_units.specs.Values.{valued_at, valued_unit}

-- the piece of a component, and its region
abbrev pub seat : Component → PieceView × Home
seat c = (piece_by c, (piece_of c.unit).home)

abbrev gathered : List (PieceView × Home) → List PieceView
gathered [] = []
gathered (p ∷ ps) = placed (λ p. p.id) p.0 (gathered ps)

pieces-gathered : (cs : List Component) → pieces_by cs ≡ gathered (map seat cs)
pieces-gathered [] = refl
pieces-gathered (c ∷ cs) = ap (placed (λ (p : PieceView). p.id) (piece_by c)) (pieces-gathered cs)

pub seats-pieces : (cs ds : List Component) → map seat ds ≡ map seat cs → pieces_by ds ≡ pieces_by cs
seats-pieces cs ds same = pieces-gathered ds ∙ ap gathered same ∙ sym (pieces-gathered cs)

abbrev AreFrom : Home → List (PieceView × Home) → Type 0
AreFrom home ps = AllByRecursion (λ p. p.1 ≡ home) ps

homes-from : (home : Home) (cs : List Component) → AllByRecursion (IsOfHome home) cs → AreFrom home (map seat cs)
homes-from home [] all = tt
homes-from home (c ∷ cs) all = (all.0, homes-from home cs all.1)

from-homes : (home : Home) (cs : List Component) → AreFrom home (map seat cs) → AllByRecursion (IsOfHome home) cs
from-homes home [] all = tt
from-homes home (c ∷ cs) all = (all.0, from-homes home cs all.1)

pub seats-homes : (home : Home) (cs ds : List Component) → map seat ds ≡ map seat cs → AllByRecursion (IsOfHome home) cs → AllByRecursion (IsOfHome home) ds
seats-homes home cs ds same all = from-homes home ds (subst (AreFrom home) (sym same) (homes-from home cs all))

-- ---- lists that change alike

pub map-kept : {X Y : Type 0} (f : X → Y) (to : X → X) → ((x : X) → f (to x) ≡ f x) → (xs : List X) → map f (map to xs) ≡ map f xs
map-kept f to same [] = refl
map-kept {X} {Y} f to same (x ∷ xs) = ap (λ (p : Y × List Y). p.0 ∷ p.1) (λ i. (same x i, map-kept f to same xs i))

pub in-map : {X Y : Type 0} (f : X → Y) (xs : List X) (y : Y) → IsIn y (map f xs) → (x : X) × IsIn x xs × (y ≡ f x)
in-map f [] y there = absurd there
in-map f (x ∷ xs) y (inl same) = (x, inl refl, same)
in-map f (x ∷ xs) y (inr there) = let more = in-map f xs y there in (more.0, inr more.1, more.2)

pub map-split : {X Y : Type 0} (f : X → Y) (xs ys : List X) → map f (xs ++ ys) ≡ map f xs ++ map f ys
map-split f [] ys = refl
map-split f (x ∷ xs) ys = ap (λ zs. f x ∷ zs) (map-split f xs ys)

pub map-both : {X Y : Type 0} (f : X → Y) (xs ys ws zs : List X) → map f ws ≡ map f xs → map f zs ≡ map f ys → map f (ws ++ zs) ≡ map f (xs ++ ys)
map-both f xs ys ws zs first second = map-split f ws zs ∙ (λ i. first i ++ second i) ∙ sym (map-split f xs ys)

-- ---- each change leaves seats

seated : (id pipe channels : ℕ) (u w : units.Unit) → piece_of w ≡ piece_of u → seat (record { id = id; pipe = pipe; channels = channels; unit = w }) ≡ seat (record { id = id; pipe = pipe; channels = channels; unit = u })
seated id pipe channels u w same = λ i. (record { id = id; place = (same i).place; size = (same i).size }, (same i).home)

sunk-piece : (id : ℕ) (u : units.Unit) → piece_of (sunk_unit id u) ≡ piece_of u
sunk-piece id (Buffer size ring source sink) = refl
sunk-piece id u = refl

sourced-piece : (id : ℕ) (u : units.Unit) → piece_of (sourced_unit id u) ≡ piece_of u
sourced-piece id (Buffer size ring source sink) = refl
sourced-piece id u = refl

completed-piece : (u : units.Unit) → piece_of (completed_unit u) ≡ piece_of u
completed-piece (Buffer size ring source sink) = refl
completed-piece u = refl

valued-piece : (values : List ℕ) (u : units.Unit) → piece_of (valued_unit values u) ≡ piece_of u
valued-piece values (Buffer size ring source sink) = refl
valued-piece values u = refl

pub seat-joined : (j : Join) (c : Component) → seat (joined_at j c) ≡ seat c
seat-joined j c = by (c.id == j.source) (c.id == j.sink)
  where
    by : (h k : Bool) → seat (cond h (record { id = c.id; pipe = c.pipe; channels = c.channels; unit = sunk_unit j.sink c.unit }) (cond k (record { id = c.id; pipe = c.pipe; channels = c.channels; unit = sourced_unit j.source c.unit }) c)) ≡ seat c
    by true k = seated c.id c.pipe c.channels c.unit (sunk_unit j.sink c.unit) (sunk-piece j.sink c.unit)
    by false true = seated c.id c.pipe c.channels c.unit (sourced_unit j.source c.unit) (sourced-piece j.source c.unit)
    by false false = refl

pub seat-completed : (id : ℕ) (c : Component) → seat (completed_at id c) ≡ seat c
seat-completed id c = by (c.id == id)
  where
    by : (h : Bool) → seat (cond h (record { id = c.id; pipe = c.pipe; channels = c.channels; unit = completed_unit c.unit }) c) ≡ seat c
    by true = seated c.id c.pipe c.channels c.unit (completed_unit c.unit) (completed-piece c.unit)
    by false = refl

pub seat-valued : (id : ℕ) (values : List ℕ) (c : Component) → seat (valued_at id values c) ≡ seat c
seat-valued id values c = by (c.id == id)
  where
    by : (h : Bool) → seat (cond h (record { id = c.id; pipe = c.pipe; channels = c.channels; unit = valued_unit values c.unit }) c) ≡ seat c
    by true = seated c.id c.pipe c.channels c.unit (valued_unit values c.unit) (valued-piece values c.unit)
    by false = refl
