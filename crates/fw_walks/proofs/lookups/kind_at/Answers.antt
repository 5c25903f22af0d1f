use Rattle.std.proofs.Common.{ap, ◌∙◌, List, ◌==◌, Some, option_map}
use Rattle.std.specs.Prelude.{find}
use Rattle.fw_units.specs.declared.component.Component.{Component}
use Rattle.stream_law.specs.declared.graph.Comp.{Comp}
use Rattle.fw_units.specs.Units.{comp_by, kind_by}
use Rattle.fw_walks.proofs.Naming.{found-shown}
use Rattle.fw_walks.proofs.lookups.kind_at.Goals as goal

pub returns-in-Some : goal.returns-in-Some
returns-in-Some c =
    ap Some c.kind_of.ensures
    ∙ ap (option_map (λ (x : Component). kind_by x.unit)) c.in-Some.ensures
    ∙ ap (λ (cs : List Component). option_map (λ (x : Component). kind_by x.unit) (find (λ x. x.id == c.args.id) cs)) c.comps.ensures.items
    ∙ found-shown (λ (x : Comp). x.id == c.args.id) comp_by (λ (x : Comp). x.kind) c.args.registry.now.comps

pub returns-in-None : goal.returns-in-None
returns-in-None c =
    ap (option_map (λ (x : Component). kind_by x.unit)) c.in-None.ensures
    ∙ ap (λ (cs : List Component). option_map (λ (x : Component). kind_by x.unit) (find (λ x. x.id == c.args.id) cs)) c.comps.ensures.items
    ∙ found-shown (λ (x : Comp). x.id == c.args.id) comp_by (λ (x : Comp). x.kind) c.args.registry.now.comps
