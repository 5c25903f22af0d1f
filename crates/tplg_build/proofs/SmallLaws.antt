-- What the limits of the builder leave, part by part.
use Rattle.std.proofs.Common.{◌≡◌, ℕ, zero, suc, ◌<◌, ◌≤◌, List, [], ◌∷◌, length, get_or, Bool, true, ◌&&◌, ap, ◌∙◌, arith}
use Rattle.std.specs.Prelude.{nat_le}
use Rattle.std.specs.List.{list_all}
use Rattle.std.proofs.lemmas.Bool.{and_parts, leb-true}
use Rattle.tplg_build.specs.declared.source.SourceWidget.{SourceWidget}
use Rattle.tplg_build.specs.declared.source.TopologySource.{TopologySource}
use Rattle.tplg_build.specs.SmallSource.{is_small_control, is_small_widget, is_small_source}

-- what holds of all items holds of the one at a place
pub item-holds : {X : Type 0} (p : X → Bool) (xs : List X) (i : ℕ) (x : X) → list_all p xs ≡ true → i < length xs → x ≡ get_or xs i x → p x ≡ true
item-holds {X} p xs i x all within is = ap p is ∙ at_place xs i all within
  where
    at_place : (ys : List X) (k : ℕ) → list_all p ys ≡ true → k < length ys → p (get_or ys k x) ≡ true
    at_place [] k h w = absurd (omega arith)
    at_place (y ∷ ys) zero h w = (and_parts (p y) (list_all p ys) h).0
    at_place (y ∷ ys) (suc k) h w = at_place ys k (and_parts (p y) (list_all p ys) h).1 (omega arith)

pub record IsSmallWidget (w : SourceWidget) : Type 0 where
  pub numbers : length w.numbers ≤ 1000000
  pub texts : length w.texts ≤ 1000000
  pub controls : length w.controls ≤ 1000
  pub small : list_all is_small_control w.controls ≡ true

pub small-widget : (w : SourceWidget) → is_small_widget w ≡ true → IsSmallWidget w
unfolding is_small_widget
small-widget w h =
    let whole = and_parts ((nat_le (length w.numbers) 1000000 && nat_le (length w.texts) 1000000) && nat_le (length w.controls) 1000) (list_all is_small_control w.controls) h in
    let counts = and_parts (nat_le (length w.numbers) 1000000 && nat_le (length w.texts) 1000000) (nat_le (length w.controls) 1000) whole.0 in
    let tokens = and_parts (nat_le (length w.numbers) 1000000) (nat_le (length w.texts) 1000000) counts.0 in
    record {
      numbers = leb-true (length w.numbers) 1000000 tokens.0;
      texts = leb-true (length w.texts) 1000000 tokens.1;
      controls = leb-true (length w.controls) 1000 counts.1;
      small = whole.1;
    }

pub record IsSmallSource (s : TopologySource) : Type 0 where
  pub small : list_all is_small_widget s.widgets ≡ true
  pub widgets : length s.widgets ≤ 4294967295
  pub routes : length s.routes ≤ 32000000

pub small-source : (s : TopologySource) → is_small_source s ≡ true → IsSmallSource s
unfolding is_small_source
small-source s h =
    let whole = and_parts (list_all is_small_widget s.widgets && nat_le (length s.widgets) 4294967295) (nat_le (length s.routes) 32000000) h in
    let widgets = and_parts (list_all is_small_widget s.widgets) (nat_le (length s.widgets) 4294967295) whole.0 in
    record { small = widgets.0; widgets = leb-true (length s.widgets) 4294967295 widgets.1; routes = leb-true (length s.routes) 32000000 whole.1 }
