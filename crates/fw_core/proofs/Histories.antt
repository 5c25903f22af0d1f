-- The histories of a state that is kept are those of the tables that have its view.
use Rattle.std.proofs.Common.{◌≡◌, refl, sym, ap, ◌∙◌, subst, ℕ, List, [], ◌∷◌, map, filter, Bool, true, false, cond, ◌==◌, inl, inr, Some, find}
use Rattle.std.specs.List.{AllByRecursion}
use Rattle.stream_law.specs.declared.graph.Comp.{Comp}
use Rattle.stream_law.specs.State.{FwState, View, History, view_of}
use Rattle.stream_law.specs.Ways.{components}
use Rattle.stream_law.specs.Seen.{remembers}
use Rattle.stream_law.specs.Placed.{HasDistinct}
use Rattle.stream_law.proofs.Members.{IsIn, in-all, kept-in}
use Rattle.row_laws.specs.Kept.{FirmwareInvariant}
use Rattle.row_laws.proofs.Found.{found-each}
use Rattle.fw_units.specs.declared.component.Component.{Component}
use Rattle.fw_units.specs.Units.{comp_by, numbers_by}
use Rattle.fw_components.specs.Tables.{Tables, view_by, histories_of}

abbrev pub history : Component → History
history c = record { comp = c.id; numbers = numbers_by c.unit c.channels }

-- two of one key are one
pub one-key : {X : Type 0} (key : X → ℕ) (xs : List X) → HasDistinct key xs → (x y : X) → IsIn x xs → IsIn y xs → key y ≡ key x → y ≡ x
one-key {X} key xs distinct x y in_x in_y same =
    let a : find (λ z. key z == key x) xs ≡ Some x = in-all (λ x. find (λ z. key z == key x) xs ≡ Some x) xs x (found-each key xs distinct) in_x in
    let b : find (λ z. key z == key y) xs ≡ Some y = in-all (λ x. find (λ z. key z == key x) xs ≡ Some x) xs y (found-each key xs distinct) in_y in
    out y x (sym b ∙ ap (λ n. find (λ z. key z == n) xs) same ∙ a)
  where
    out : (y x : X) → Some y ≡ Some x → y ≡ x
    out y x e = cc e

-- each of these is that of the component of its id
abbrev pub AreThere : List Component → List History → Type 0
AreThere ds hs = AllByRecursion (λ h. (d : Component) → IsIn d ds → d.id ≡ h.comp → history d ≡ h) hs

histories-there : (q : ℕ → Bool) (ds : List Component) (hs : List History) → map (λ (h : History). h.comp) hs ≡ filter q (map (λ (x : Comp). x.id) (map comp_by ds)) → AreThere ds hs → hs ≡ map history (filter (λ c. q c.id) ds)
histories-there q [] [] ids there = refl
histories-there q [] (h ∷ hs) ids there = cc
histories-there q (d ∷ ds) hs ids there = by (q d.id) hs ids there (histories-there q ds)
  where
    behind : (hs : List History) → AreThere (d ∷ ds) hs → AreThere ds hs
    behind [] there = tt
    behind (h ∷ hs) there = (λ e within same. there.0 e (inr within) same, behind hs there.1)

    head-same : (m n : ℕ) (ms ns : List ℕ) → m ∷ ms ≡ n ∷ ns → (m ≡ n) × (ms ≡ ns)
    head-same m n ms ns e = (cc e, cc e)

    by : (b : Bool) (hs : List History) → map (λ (h : History). h.comp) hs ≡ cond b (d.id ∷ filter q (map (λ (x : Comp). x.id) (map comp_by ds))) (filter q (map (λ (x : Comp). x.id) (map comp_by ds))) → AreThere (d ∷ ds) hs → ((hs : List History) → map (λ (h : History). h.comp) hs ≡ filter q (map (λ (x : Comp). x.id) (map comp_by ds)) → AreThere ds hs → hs ≡ map history (filter (λ c. q c.id) ds)) → hs ≡ map history (cond b (d ∷ filter (λ c. q c.id) ds) (filter (λ c. q c.id) ds))
    by true [] ids there rest = cc
    by true (h ∷ hs) ids there rest =
        let same = head-same h.comp d.id (map (λ (h : History). h.comp) hs) (filter q (map (λ (x : Comp). x.id) (map comp_by ds))) ids in
        ap (λ (p : History × List History). p.0 ∷ p.1) (λ i. (sym (there.0 d (inl refl) (sym same.0)) i, rest hs same.1 (behind hs there.1) i))
    by false hs ids there rest = rest hs ids (behind hs there)

-- those of other components that have the same numbers under the same ids
pub there-all : (cs ds : List Component) (p : Component → Bool) → ((c d : Component) → IsIn c cs → IsIn d ds → d.id ≡ c.id → history d ≡ history c) → AreThere ds (map history (filter p cs))
there-all cs ds p same = go (filter p cs) (λ c within. (kept-in p cs c within).0)
  where
    go : (xs : List Component) → ((c : Component) → IsIn c xs → IsIn c cs) → AreThere ds (map history xs)
    go [] within = tt
    go (c ∷ xs) within = (λ d there id. same c d (within c (inl refl)) there id, go xs (λ e there. within e (inr there)))

pub there-less : (ds : List Component) (p : History → Bool) (hs : List History) → AreThere ds hs → AreThere ds (filter p hs)
there-less ds p [] there = tt
there-less ds p (h ∷ hs) there = by (p h) (there-less ds p hs there.1)
  where
    by : (b : Bool) → AreThere ds (filter p hs) → AreThere ds (cond b (h ∷ filter p hs) (filter p hs))
    by true rest = (there.0, rest)
    by false rest = rest

pub histories-are : (g : FwState) (u : Tables) → FirmwareInvariant g → view_of g ≡ view_by u → AreThere u.comps g.histories → g.histories ≡ histories_of u
histories-are g u kept view there = histories-there (remembers (view_by u)) u.comps g.histories (subst (λ (v : View). map (λ (h : History). h.comp) g.histories ≡ filter (remembers v) (components v.graph)) view kept.histories.comps) there
