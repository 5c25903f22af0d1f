-- The live controls of a plan, each with its record.
use Rattle.std.proofs.Common.{◌≡◌, ◌⊎◌, refl, sym, ap, ◌∙◌, ℕ, suc, ◌<◌, ◌≤◌, Bool, true, List, [], ◌∷◌, length, map, get_or, ◌==◌, inl, inr, arith}
use Rattle.std.specs.Prelude.{◌||◌}
use Rattle.std.specs.List.{AllByRecursion, list_all, list_any, zip}
use Rattle.std.proofs.lemmas.List.{length-replicate}
use Rattle.std.proofs.lemmas.Slice.Zip.{get_or-zip}
use Rattle.sof_base.specs.BlobFaults.{is_blob}
use Rattle.stream_law.specs.declared.graph.Graph.{Graph}
use Rattle.stream_law.specs.declared.graph.Kind.{Kind}
use Rattle.stream_law.specs.Placed.{Ascends, AreAbove}
use Rattle.tplg_plan.specs.declared.plans.ControlPlan.{ControlPlan}
use Rattle.tplg_plan.specs.declared.plans.ControlKind.{ControlKind}
use Rattle.tplg_plan.specs.declared.plans.ControlKind.TheVariants.{Volume, Choice, Blob, Masks}
use Rattle.tplg_plan.specs.Ranges.{is_initial}
use Rattle.tplg_plan.specs.Sound.{IsControlOf, IsLive}
use Rattle.host_widgets.specs.declared.kept.ControlRec.{ControlRec}
use Rattle.host_widgets.specs.Controls.{first_value, first_values, first_blob}
use Rattle.host_widgets.specs.Kept.{first_control}
use Rattle.host_widgets.specs.Host.{IsControlSet, AreControls}
use Rattle.host_widgets.proofs.EightMasks.{is_mask, ranged-masks, same-masks}

abbrev pub Pair : Type 0
Pair = ControlPlan × ControlRec

abbrev pub comp_at : Pair → ℕ
comp_at p = p.0.comp

-- what a record may be that goes with a control: the values of a message, a blob or none, and masks
abbrev pub Takes : ControlKind → ControlRec → Type 0
Takes (Volume min max channels lowest step mute) r = length r.values ≡ channels
Takes (Choice items) r = (v : ℕ) × (r.values ≡ v ∷ []) × (v ≤ 16777216)
Takes (Blob most initial) r = is_initial r.blob ≡ true
Takes (Masks min max channels) r = list_all is_mask r.values ≡ true

-- a blob may stand where none or one may
pub blob-initial : (blob : List ℕ) → is_blob blob ≡ true → is_initial blob ≡ true
blob-initial [] is = refl
blob-initial (b ∷ blob) is = is

pub takes-by : (kind : ControlKind) (of : Kind) (r : ControlRec) → IsControlOf kind of → ((r ≡ record { values = first_values kind; blob = first_blob kind }) ⊎ IsControlSet kind r) → Takes kind r
takes-by (Volume min max channels lowest step mute) of r is (inl e) =
    ap (λ (x : ControlRec). length x.values) e ∙ length-replicate channels (first_value (Volume min max channels lowest step mute))
takes-by (Volume min max channels lowest step mute) of r is (inr s) = s.0
takes-by (Choice items) of r is (inl e) = (0, ap (λ (x : ControlRec). x.values) e, omega arith)
takes-by (Choice items) of r is (inr s) = (s.0, s.1, omega (arith, s.2, is.2))
takes-by (Blob most initial) of r is (inl e) = ap (λ (x : ControlRec). is_initial x.blob) e ∙ is.1
takes-by (Blob most initial) of r is (inr s) = blob-initial r.blob s.2
takes-by (Masks min max channels) of r is (inl e) = ap (λ (x : ControlRec). list_all is_mask x.values) e ∙ same-masks channels max is.2
takes-by (Masks min max channels) of r is (inr s) = ranged-masks min max is.2 r.values s.1

-- a control of another kind has no blob
pub bare-one : (kind : ControlKind) (r : ControlRec) → ((most : ℕ) (initial : List ℕ) → kind ≡ Blob most initial → ⊥) → ((r ≡ record { values = first_values kind; blob = first_blob kind }) ⊎ IsControlSet kind r) → r.blob ≡ []
bare-one (Volume min max channels lowest step mute) r other (inr s) = s.2
bare-one (Choice items) r other (inr s) = s.3
bare-one (Blob most initial) r other was = absurd (other most initial refl)
bare-one (Masks min max channels) r other (inr s) = s.2
bare-one kind r other (inl e) = ap (λ (x : ControlRec). x.blob) e

-- ---- as a list

pub all-first : {X Y : Type 0} (P : X → Type 0) (xs : List X) (ys : List Y) → AllByRecursion P xs → AllByRecursion (λ (p : X × Y). P p.0) (zip xs ys)
all-first P [] ys all = tt
all-first P (x ∷ xs) [] all = tt
all-first P (x ∷ xs) (y ∷ ys) all = (all.0, all-first P xs ys all.1)

pub all-take : (g : Graph) (ks : List ControlPlan) (rs : List ControlRec) → AllByRecursion (IsLive g) ks → AreControls ks rs → AllByRecursion (λ (p : Pair). Takes p.0.kind p.1) (zip ks rs)
all-take g [] rs live are = tt
all-take g (k ∷ ks) [] live are = tt
all-take g (k ∷ ks) (r ∷ rs) live are = (takes-by k.kind live.0.comp.kind r live.0.kind are.0, all-take g ks rs live.1 are.1)

zip-above : (n : ℕ) (ks : List ControlPlan) (rs : List ControlRec) → AreAbove (λ (k : ControlPlan). k.comp) n ks → AreAbove comp_at n (zip ks rs)
unfolding AreAbove
zip-above n [] rs above = tt
zip-above n (k ∷ ks) [] above = tt
zip-above n (k ∷ ks) (r ∷ rs) above = (above.0, zip-above n ks rs above.1)

pub zip-ascends : (ks : List ControlPlan) (rs : List ControlRec) → Ascends (λ (k : ControlPlan). k.comp) ks → Ascends comp_at (zip ks rs)
unfolding Ascends
zip-ascends [] rs up = tt
zip-ascends (k ∷ ks) [] up = tt
zip-ascends (k ∷ ks) (r ∷ rs) up = (zip-above k.comp ks rs up.0, zip-ascends ks rs up.1)

pub any-zip : (id : ℕ) (ks : List ControlPlan) (rs : List ControlRec) → AreControls ks rs → list_any (λ (p : Pair). p.0.comp == id) (zip ks rs) ≡ list_any (λ (k : ControlPlan). k.comp == id) ks
any-zip id [] [] are = refl
any-zip id [] (r ∷ rs) are = refl
any-zip id (k ∷ ks) [] are = absurd are
any-zip id (k ∷ ks) (r ∷ rs) are = ap (λ (b : Bool). (k.comp == id) || b) (any-zip id ks rs are.1)

pub same-length : (ks : List ControlPlan) (rs : List ControlRec) → AreControls ks rs → length rs ≡ length ks
same-length [] [] are = refl
same-length [] (r ∷ rs) are = absurd are
same-length (k ∷ ks) [] are = absurd are
same-length (k ∷ ks) (r ∷ rs) are = ap (λ (n : ℕ). suc n) (same-length ks rs are.1)

-- ---- what controls begin with

-- what controls begin with is a record of each
pub first-are : (ks : List ControlPlan) → AreControls ks (map first_control ks)
first-are [] = tt
first-are (k ∷ ks) = (inl refl, first-are ks)

-- the pair at a place
pub pairs-long : (ks : List ControlPlan) (rs : List ControlRec) → AreControls ks rs → length (zip ks rs) ≡ length ks
pairs-long [] [] are = refl
pairs-long [] (r ∷ rs) are = absurd are
pairs-long (k ∷ ks) [] are = absurd are
pairs-long (k ∷ ks) (r ∷ rs) are = ap (λ (n : ℕ). suc n) (pairs-long ks rs are.1)

pub pair-at : (ks : List ControlPlan) (rs : List ControlRec) → AreControls ks rs → (i : ℕ) (k : ControlPlan) (r : ControlRec) → i < length ks → k ≡ get_or ks i k → r ≡ get_or rs i r → get_or (zip ks rs) i (k, r) ≡ (k, r)
pair-at ks rs are i k r within first second =
    get_or-zip ks rs i (k, r) within (omega (arith, within, same-length ks rs are)) ∙ (λ j. (sym first j, sym second j))
