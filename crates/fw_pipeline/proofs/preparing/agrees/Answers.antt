use Rattle.std.proofs.Common.{sym, ap, subst, ◌∙◌, List, Some}
use Rattle.std.specs.List.{list_all}
use Rattle.fw_units.specs.declared.component.Component.{Component}
use Rattle.fw_components.specs.Tables.{Tables, graph_of}
use Rattle.fw_pipeline.specs.declared.agreeing.Given.{Given}
use Rattle.fw_pipeline.specs.Preparing.{suits, AreHostsIn}
use Rattle.fw_pipeline.proofs.AgreeLaws.{suits-given}
use Rattle.fw_pipeline.proofs.StayLaws.{hosts-in}
use Rattle.fw_pipeline.proofs.preparing.agrees.Goals as goal

pub returns : goal.returns
returns c =
    let t : Tables = c.args.registry.now in let r : Given = record { host = c.args.host; params = c.args.p } in
    c.all_suit.ensures (graph_of t) c.requires (subst (AreHostsIn (graph_of t)) (sym c.comps.ensures.items) (hosts-in t c.comps.ensures.kept.named.comps))
    ∙ ap (λ (cs : List Component). list_all (λ x. list_all (λ y. suits (graph_of t) (Some r) x y) cs) cs) c.comps.ensures.items
    ∙ suits-given (graph_of t) r t.comps
