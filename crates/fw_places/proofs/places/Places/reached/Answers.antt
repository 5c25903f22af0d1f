use Rattle.std.proofs.Common.{ap, sym, subst, ◌∙◌, ◌≤◌, ◌++◌, ◌∷◌, [], ℕ, List, true, false, length, replicate, get_or, set, arith}
use Rattle.std.specs.List.{AllByRecursion}
use Rattle.std.proofs.lemmas.List.{get_or-set_other}
use Rattle.fw_places.specs.Walks.{IsListed, place_in, is_reached}
use Rattle.fw_places.proofs.Marking.{none-marked}
use Rattle.fw_places.proofs.Reaching.{at-place}
use Rattle.fw_places.specs.Charts.{Chart}
use Rattle.fw_places.specs.Leaving.{AreFound}
use Rattle.fw_places.proofs.Charts.{one-reached}
use Rattle.fw_places.proofs.Leaves.{found-first}
use Rattle.fw_places.proofs.places.Places.reached.Goals as goal

pub spread_from-requires-clause-found : goal.spread_from-requires-clause-found
spread_from-requires-clause-found c = subst (AreFound (set (replicate 257 false) c.place-place.result true)) (sym (c.push.ensures.items ∙ ap (λ (xs : List ℕ). xs ++ c.place-place.result ∷ []) c.new-found.ensures)) (found-first 257 c.place-place.result (omega (arith, c.place-place.ensures.within)))

-- nothing but the place of the id is marked first
pub returns-clause-past : goal.returns-clause-past
returns-clause-past c = λ there.
    let ids : List ℕ = c.args.self.now.ids in
    c.spread_from.ensures.past (
    ap (λ (k : ℕ). get_or (set (replicate 257 false) k true) (length ids) false) c.place-place.ensures.place
    ∙ get_or-set_other (replicate 257 false) (place_in ids c.args.id) (length ids) true false (λ same. let low = (at-place ids c.args.id there).0 in absurd (omega (arith, low, same)))
    ∙ none-marked 257 (length ids))

pub returns-clause-reached : goal.returns-clause-reached
returns-clause-reached c =
    let v : Chart = c.args.self.now in
    let listed : AllByRecursion (IsListed v.ids) v.joins = subst (λ (v : Chart). AllByRecursion (IsListed v.ids) v.joins) c.self.view_is c.self.invariant.listed in
    let few : length v.ids ≤ 256 = subst (λ (v : Chart). length v.ids ≤ 256) c.self.view_is c.self.invariant.few in
    λ x there. c.spread_from.ensures.reached x there ∙ ap (λ (k : ℕ). is_reached c.args.back v.ids v.joins (set (replicate 257 false) k true) x) c.place-place.ensures.place ∙ one-reached c.args.back v.ids v.joins listed 257 (omega (arith, few)) c.args.id x there
