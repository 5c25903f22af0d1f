use Rattle.std.proofs.Common.{sym, ap, ◌∙◌, subst, ℕ, ◌<◌, ◌==◌, List, ◌++◌, length, map, filter, get_or, arith}
use Rattle.std.proofs.lemmas.List.{take_all, append-nil}
use Rattle.std.specs.Prelude.{position}
use Rattle.fw_units.specs.declared.component.Component.{Component}
use Rattle.fw_units.specs.Units.{edge_by}
use Rattle.fw_components.specs.Tables.{view_by}
use Rattle.fw_schedule.specs.declared.steps.Ends.{Ends}
use Rattle.fw_schedule.specs.Schedules.{inlets_of, ArePlaces}
use Rattle.fw_schedule.proofs.EdgePlaces.{placed-more, edge-place, length-all}
use Rattle.fw_schedule.proofs.KeptEnds.{is_inlet, inlets-are, kept-room, next-kept, next-left}
use Rattle.fw_schedule.proofs.ends.add_inlets.Goals as goal
use Rattle.fw_schedule.proofs.ends.add_inlets.Goals.{then-is_inlet, else-is_inlet}

pub overflow_cast-place : goal.overflow_cast-place
overflow_cast-place c = omega (arith, c.buffers-buffers.ensures.kept.buffers, ap length c.buffers-buffers.ensures.items, c.loop-at-test.true)

pub push-requires-clause-ids : goal.push-requires-clause-ids
push-requires-clause-ids c =
    let t = c.args.registry.now in let id = c.args.id in let bs = c.buffers-buffers.result.now in let d = c.index-buffers-at.result in
    let r = is_inlet t id c.args.chooses in
    let are = inlets-are t id c.args.chooses c.buffers-buffers.ensures.kept.named.buffers c.requires.chooses ∙ ap (λ (cs : List Component). map (λ (c : Component). c.id) (filter r cs)) (sym c.buffers-buffers.ensures.items) in
    kept-room r bs c.loop-at.at d c.args.ends.now.ids.items c.loop-at.ends.ids.items (inlets_of (view_by t) id) c.loop-at-test.true c.index-buffers-at.is (sym c.is_inlet.ensures ∙ c.if-is_inlet.true) are c.requires.room c.loop-at.invariant.ids

pub push-requires-clause-places : goal.push-requires-clause-places
push-requires-clause-places c =
    let t = c.args.registry.now in let id = c.args.id in let bs = c.buffers-buffers.result.now in let d = c.index-buffers-at.result in
    let r = is_inlet t id c.args.chooses in
    let are = inlets-are t id c.args.chooses c.buffers-buffers.ensures.kept.named.buffers c.requires.chooses ∙ ap (λ (cs : List Component). map (λ (c : Component). c.id) (filter r cs)) (sym c.buffers-buffers.ensures.items) in
    let room = kept-room r bs c.loop-at.at d c.args.ends.now.ids.items c.loop-at.ends.ids.items (inlets_of (view_by t) id) c.loop-at-test.true c.index-buffers-at.is (sym c.is_inlet.ensures ∙ c.if-is_inlet.true) are c.requires.room c.loop-at.invariant.ids in
    omega (arith, room, length-all t c.loop-at.ends c.loop-at.invariant.places)

pub loop-at-init : goal.loop-at-init
loop-at-init c = record { ids = sym (append-nil c.args.ends.now.ids.items); places = c.requires.places }

pub loop-at-preserved : goal.loop-at-preserved
loop-at-preserved c =
    let t = c.args.registry.now in let id = c.args.id in let bs = c.buffers-buffers.result.now in let i = c.loop-at.at in let d = c.index-buffers-at.result in
    let r = is_inlet t id c.args.chooses in let so = c.loop-at.invariant in let old = c.args.ends.now.ids.items in let now = c.loop-at.ends in
    let low = c.loop-at-test.true in let is = c.index-buffers-at.is in
    let within : i < length t.buffers = omega (arith, low, ap length c.buffers-buffers.ensures.items) in
    let at = edge-place t i d c.buffers-buffers.ensures.kept.named.buffers within (is ∙ ap (λ (cs : List Component). get_or cs i d) c.buffers-buffers.ensures.items) in
    elim c.if-is_inlet.branch [
      | then-is_inlet w ↦
          let more = ap (λ (e : Ends). e.ids.items) w.ends-is ∙ w.push.ensures.ids in
          let further = ap (λ (e : Ends). e.places.items) w.ends-is ∙ w.push.ensures.places in
          record {
            ids = next-kept r bs i d old now.ids.items _ low is (sym c.is_inlet.ensures ∙ w.if-is_inlet.true) so.ids more;
            places = placed-more (λ b. position (λ e. e.buffer == b) (map edge_by t.buffers)) now.ids.items now.places.items _ _ d.id i so.places more further at;
          }
      | else-is_inlet w ↦
          record {
            ids = ap (λ (e : Ends). e.ids.items) w.ends-is ∙ next-left r bs i d old now.ids.items low is (sym c.is_inlet.ensures ∙ w.if-is_inlet.false) so.ids;
            places = subst (ArePlaces (view_by t)) (sym w.ends-is) so.places;
          }
    ]

pub returns-clause-ids : goal.returns-clause-ids
returns-clause-ids c =
    let t = c.args.registry.now in let id = c.args.id in
    c.loop-at.invariant.ids
    ∙ ap (λ (bs : List Component). c.args.ends.now.ids.items ++ map (λ c. c.id) (filter (is_inlet t id c.args.chooses) bs)) (take_all c.loop-at.at c.buffers-buffers.result.now (omega (arith, c.loop-at-test.false)) ∙ c.buffers-buffers.ensures.items)
    ∙ ap (λ (ids : List ℕ). c.args.ends.now.ids.items ++ ids) (sym (inlets-are t id c.args.chooses c.buffers-buffers.ensures.kept.named.buffers c.requires.chooses))
