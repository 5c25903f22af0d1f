use Rattle.std.proofs.Common.{◌≡◌, sym, ap, ◌∙◌, subst, ℕ, ◌+◌, ◌<◌, List, Bool, true, false, length, get_or, set, arith}
use Rattle.std.proofs.lemmas.List.{length-set}
use Rattle.stream_law.specs.Order.{is_among}
use Rattle.fw_units.specs.declared.component.Component.{Component}
use Rattle.fw_walks.specs.Streams.{is_host_of}
use Rattle.fw_places.specs.Walks.{place_in}
use Rattle.fw_places.proofs.Marking.{all-at, none-marked}
use Rattle.fw_walks.proofs.HostMarks.{AreHosts, host-marked, host-passed}
use Rattle.fw_walks.proofs.marks.mark_hosts.Goals as goal
use Rattle.fw_walks.proofs.marks.mark_hosts.Goals.{then-is_host_of, else-is_host_of}

pub loop-comp-init : goal.loop-comp-init
loop-comp-init c = ((λ x there. none-marked 257 (place_in c.args.places.now.ids x)), (λ i. 257))

pub loop-comp-preserved : goal.loop-comp-preserved
loop-comp-preserved c =
    let cs : List Component = c.args.comps.now in let i = c.loop-comp.comp-index in let d : Component = c.comp-item.result in
    let ids : List ℕ = c.args.places.now.ids in
    let at : is_among ids (get_or cs i d).id ≡ true = all-at (λ (x : Component). is_among ids x.id ≡ true) cs i d c.loop-comp-test.true c.requires in
    let few : length ids < 257 = omega (arith, c.ids-ids.ensures.few) in
    elim c.if-is_host_of.branch [
      | then-is_host_of w ↦
          let is : c.if-is_host_of.marks ≡ set c.loop-comp.marks (place_in ids (get_or cs i d).id) true = w.marks-is ∙ w.mark.ensures ∙ ap (λ (x : Component). set c.loop-comp.marks (place_in ids x.id) true) c.comp-item.is in
          subst (λ (ms : List Bool). AreHosts c.args.sort c.args.capture ids cs i d c.loop-comp-test.true ms (i + 1) × (length ms ≡ 257)) (sym is) (
            host-marked c.args.sort c.args.capture ids cs i d c.loop-comp-test.true c.loop-comp.marks c.loop-comp.invariant.0 at (omega (arith, few, c.loop-comp.invariant.1)) (ap (is_host_of c.args.sort c.args.capture) (sym c.comp-item.is) ∙ sym c.is_host_of.ensures ∙ w.if-is_host_of.true),
            length-set c.loop-comp.marks _ true ∙ c.loop-comp.invariant.1,
          )
      | else-is_host_of w ↦
          subst (λ (ms : List Bool). AreHosts c.args.sort c.args.capture ids cs i d c.loop-comp-test.true ms (i + 1) × (length ms ≡ 257)) (sym w.marks-is) (
            host-passed c.args.sort c.args.capture ids cs i d c.loop-comp-test.true c.loop-comp.marks c.loop-comp.invariant.0 (ap (is_host_of c.args.sort c.args.capture) (sym c.comp-item.is) ∙ sym c.is_host_of.ensures ∙ w.if-is_host_of.false),
            c.loop-comp.invariant.1,
          )
    ]
