use Rattle.std.proofs.Common.{sym, ap, subst, ◌∙◌, ◌++◌, List, map}
use Rattle.stream_law.specs.declared.graph.Join.{Join}
use Rattle.fw_units.specs.declared.component.Component.{Component}
use Rattle.fw_components.specs.Kept.{AreJoined}
use Rattle.fw_components.proofs.Listed.{are-joined, ids-are}
use Rattle.fw_components.proofs.registry.Registry.places.Goals as goal

pub places_of-requires : goal.places_of-requires
places_of-requires c = subst (λ (p : List Component × List Component × List Join). AreJoined p.0 p.1 p.2) (λ i. (sym c.comps.ensures.items i, sym c.buffers.ensures.items i, sym c.joins.ensures.items i)) (are-joined c.args.self.now c.joins.ensures.kept)

pub returns-clause-ids : goal.returns-clause-ids
returns-clause-ids c = ids-are c.args.self.now _ (c.places_of.ensures.ids ∙ ap (λ (p : List Component × List Component). map (λ c. c.id) p.0 ++ map (λ c. c.id) p.1) (λ i. (c.comps.ensures.items i, c.buffers.ensures.items i)))
