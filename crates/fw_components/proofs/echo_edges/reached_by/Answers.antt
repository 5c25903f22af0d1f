use Rattle.std.proofs.Common.{refl, sym, ap, ◌∙◌, subst, ℕ, ◌+◌, ◌<◌, List, length, arith}
use Rattle.std.proofs.lemmas.List.{take_all}
use Rattle.fw_places.specs.Charts.{Chart}
use Rattle.fw_places.specs.Walks.{place_in}
use Rattle.fw_places.proofs.Marking.{none-marked}
use Rattle.fw_units.specs.declared.component.Component.{Component}
use Rattle.fw_components.specs.EchoEdges.{is_kind_at}
use Rattle.fw_components.proofs.EchoReach.{AreSorted, sorted-marked, sorted-passed, kinds-reached, comp-among}
use Rattle.fw_components.proofs.echo_edges.reached_by.Goals as goal
use Rattle.fw_components.proofs.echo_edges.reached_by.Goals.{then-is_kind, else-is_kind}

pub loop-comp-init : goal.loop-comp-init
loop-comp-init c = record {
  size = refl;
  past = none-marked 257 (length c.args.places.now.ids);
  each = λ x listed. none-marked 257 (place_in c.args.places.now.ids x);
}

pub loop-comp-preserved : goal.loop-comp-preserved
loop-comp-preserved c =
    let cs : List Component = c.args.comps.now in let i = c.loop-comp.comp-index in let d : Component = c.comp-item.result in
    let ids : List ℕ = c.args.places.now.ids in let sort = c.args.sort in
    let few : length ids < 257 = omega (arith, c.ids-ids.ensures.few) in
    elim c.if-is_kind.branch [
      | then-is_kind w ↦
          subst (AreSorted sort ids cs (i + 1)) (sym (w.marks-is ∙ w.mark.ensures))
          (sorted-marked sort ids cs i d c.loop-comp-test.true c.loop-comp.marks c.loop-comp.invariant (sym c.comp-item.is) (sym c.is_kind.ensures ∙ w.if-is_kind.true) (comp-among cs c.requires.ids.0 ids c.requires.ids.1 i d c.loop-comp-test.true (sym c.comp-item.is)) few)
      | else-is_kind w ↦
          subst (AreSorted sort ids cs (i + 1)) (sym w.marks-is)
          (sorted-passed sort ids cs i d c.loop-comp-test.true c.loop-comp.marks c.loop-comp.invariant (sym c.comp-item.is) (sym c.is_kind.ensures ∙ w.if-is_kind.false))
    ]

pub returns : goal.returns
returns c =
    let cs : List Component = c.args.comps.now in let places : Chart = c.args.places.now in let sort = c.args.sort in
    kinds-reached cs c.requires.ids.0 places c.requires.ids.1 c.requires.listed sort c.args.back c.loop-comp.marks c.spread.new.marks
    (λ x listed. c.loop-comp.invariant.each x listed ∙ ap (λ (xs : List Component). is_kind_at xs sort x) (take_all c.loop-comp.comp-index cs c.loop-comp-test.false))
    (c.spread.ensures.past c.loop-comp.invariant.past)
    c.spread.ensures.reached
