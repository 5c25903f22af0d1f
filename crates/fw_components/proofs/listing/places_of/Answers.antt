use Rattle.std.proofs.Common.{◌≡◌, sym, ap, subst, ◌∙◌, ◌++◌, ℕ, List, length, map, arith}
use Rattle.std.proofs.lemmas.List.{length-map}
use Rattle.std.specs.List.{AllByRecursion}
use Rattle.fw_places.specs.Walks.{IsListed}
use Rattle.fw_units.specs.declared.component.Component.{Component}
use Rattle.fw_components.proofs.Listed.{joined, ids-are, between-listed}
use Rattle.fw_components.proofs.listing.places_of.Goals as goal

pub returns-clause-ids : goal.returns-clause-ids
returns-clause-ids c = c.of.ensures.ids ∙ c.list-2.ensures ∙ ap (λ (xs : List ℕ). xs ++ map (λ c. c.id) c.args.buffers.now) (c.list.ensures ∙ ap (λ (xs : List ℕ). xs ++ map (λ c. c.id) c.args.comps.now) c.new-ids.ensures)

pub list-requires-2 : goal.list-requires-2
list-requires-2 c =
    let a : length c.list.new.ids.items ≡ length (map (λ c. c.id) c.args.comps.now) = ap length (c.list.ensures ∙ ap (λ (xs : List ℕ). xs ++ map (λ c. c.id) c.args.comps.now) c.new-ids.ensures) in
    omega (arith, a, length-map c.args.comps.now (λ (c : Component). c.id), c.requires.few_comps, c.requires.few_buffers)

pub of-requires : goal.of-requires
of-requires c =
    let ids : c.list-2.new.ids.items ≡ map (λ c. c.id) c.args.comps.now ++ map (λ c. c.id) c.args.buffers.now = c.list-2.ensures ∙ ap (λ (xs : List ℕ). xs ++ map (λ c. c.id) c.args.buffers.now) (c.list.ensures ∙ ap (λ (xs : List ℕ). xs ++ map (λ c. c.id) c.args.comps.now) c.new-ids.ensures) in
    record {
      listed = subst (λ (xs : List ℕ). AllByRecursion (IsListed xs) c.args.joins.now) (sym (ids-are (joined c.args.comps.now c.args.buffers.now c.args.joins.now) _ ids)) (between-listed (joined c.args.comps.now c.args.buffers.now c.args.joins.now) c.requires.between);
      few = c.requires.few_joins;
    }
