use Rattle.std.proofs.Common.{◌≡◌, ◌≤◌, ◌<◌, ◌+◌, ◌∙◌, ◌||◌, sym, ap, ℕ, length, true, arith}
use Rattle.std.proofs.lemmas.Bool.{true≢false, false_from_ne_true}
use Rattle.stream_law.specs.Order.{is_among}
use Rattle.fw_places.specs.Walks.{place_in}
use Rattle.fw_units.specs.Changes.{has_id}
use Rattle.fw_components.specs.Tables.{Tables, all_of, ids_of}
use Rattle.fw_units.proofs.Found.{never-there}
use Rattle.fw_components.proofs.Listed.{listed-is, listed-below, unlisted-above, place-of-all, place-low, found-among}
use Rattle.fw_components.proofs.registry.Registry.listed_at.Goals as goal

pub returns-in_default-clause-listed : goal.returns-in_default-clause-listed
returns-in_default-clause-listed c =
    let t : Tables = c.args.self.now in let id : ℕ = c.args.id in
    sym (false_from_ne_true (is_among (ids_of t) id) (λ e. true≢false (sym (found-among t id (sym (listed-is t id) ∙ e)) ∙ never-there id (all_of t) c.in_default.ensures)))

pub returns-then-at-end-clause-some : goal.returns-then-at-end-clause-some
returns-then-at-end-clause-some c =
    let t : Tables = c.args.self.now in let id : ℕ = c.args.id in
    let low : c.in-Some.at < length t.comps + length t.buffers = omega (arith, c.if-at-end.true, ap length c.comps.ensures.items, ap length c.buffers.ensures.items) in
    let there : (has_id t.comps id || has_id t.buffers id) ≡ true = sym (listed-is t id) ∙ listed-below t id c.in-Some.at c.in-Some.ensures low in
    let place : c.in-Some.at ≡ place_in (ids_of t) id = place-of-all t id c.in-Some.at there c.in-Some.ensures in
    (place, place-low t c.comps.ensures.kept id c.in-Some.at there place)

pub returns-then-at-end-clause-listed : goal.returns-then-at-end-clause-listed
returns-then-at-end-clause-listed c =
    let t : Tables = c.args.self.now in
    let low : c.in-Some.at < length t.comps + length t.buffers = omega (arith, c.if-at-end.true, ap length c.comps.ensures.items, ap length c.buffers.ensures.items) in
    sym (listed-below t c.args.id c.in-Some.at c.in-Some.ensures low)

pub returns-else-at-end-clause-listed : goal.returns-else-at-end-clause-listed
returns-else-at-end-clause-listed c =
    let t : Tables = c.args.self.now in
    let high : length t.comps + length t.buffers ≤ c.in-Some.at = omega (arith, c.if-at-end.false, ap length c.comps.ensures.items, ap length c.buffers.ensures.items) in
    sym (unlisted-above t c.args.id c.in-Some.at c.in-Some.ensures high)
