-- Tables with no id in common after each change.
use Rattle.std.proofs.Common.{◌≡◌, refl, sym, ap, ◌∙◌, ℕ, List, [], ◌∷◌, map, filter, Bool, true, false, ◌==◌, ◌||◌}
use Rattle.std.proofs.lemmas.Bool.{true≢false, false_from_ne_true, eqb-true, or_parts}
use Rattle.stream_law.specs.Placed.{placed}
use Rattle.fw_units.specs.declared.component.Component.{Component}
use Rattle.fw_units.specs.Changes.{has_id}
use Rattle.fw_components.specs.Kept.{AreIdsApart}
use Rattle.fw_units.proofs.Ids.{all-by, has-map, has-placed, none-left, other-way}

pub apart-placed_first : (c : Component) (cs ds : List Component) → has_id ds c.id ≡ false → AreIdsApart cs ds → AreIdsApart (placed (λ x. x.id) c cs) ds
apart-placed_first c cs [] gone all = tt
apart-placed_first c cs (d ∷ ds) gone all =
    let parts = or_parts (d.id == c.id) (has_id ds c.id) gone in
    (has-placed d.id c cs ∙ ap (λ h. h || has_id cs d.id) (other-way d.id c.id parts.0) ∙ all.0, apart-placed_first c cs ds parts.1 all.1)

pub apart-left_first : (keep : Component → Bool) (cs ds : List Component) → AreIdsApart cs ds → AreIdsApart (filter keep cs) ds
apart-left_first keep cs ds all = all-by (λ d. has_id cs d.id ≡ false) (λ d. has_id (filter keep cs) d.id ≡ false) (λ d. none-left keep d.id cs) ds all

pub apart-map_first : (f : Component → Component) → ((c : Component) → (f c).id ≡ c.id) → (cs ds : List Component) → AreIdsApart cs ds → AreIdsApart (map f cs) ds
apart-map_first f same cs ds all = all-by (λ d. has_id cs d.id ≡ false) (λ d. has_id (map f cs) d.id ≡ false) (λ d none. has-map f same d.id cs ∙ none) ds all

pub apart-map_second : (f : Component → Component) → ((c : Component) → (f c).id ≡ c.id) → (cs ds : List Component) → AreIdsApart cs ds → AreIdsApart cs (map f ds)
apart-map_second f same cs [] all = tt
apart-map_second f same cs (d ∷ ds) all = (ap (has_id cs) (same d) ∙ all.0, apart-map_second f same cs ds all.1)

-- what is in the second table is not in the first
pub not-first : (id : ℕ) (cs ds : List Component) → AreIdsApart cs ds → has_id ds id ≡ true → has_id cs id ≡ false
not-first id cs [] all there = absurd (true≢false (sym there))
not-first id cs (d ∷ ds) all there = by (d.id == id) refl there (not-first id cs ds all.1)
  where
    by : (h : Bool) → (d.id == id) ≡ h → (h || has_id ds id) ≡ true → (has_id ds id ≡ true → has_id cs id ≡ false) → has_id cs id ≡ false
    by true is e rest = ap (has_id cs) (sym (eqb-true d.id id is)) ∙ all.0
    by false is e rest = rest e

-- and what is in the first is not in the second
pub not-second : (id : ℕ) (cs ds : List Component) → AreIdsApart cs ds → has_id cs id ≡ true → has_id ds id ≡ false
not-second id cs ds all there = false_from_ne_true (has_id ds id) (λ e. true≢false (sym there ∙ not-first id cs ds all e))
