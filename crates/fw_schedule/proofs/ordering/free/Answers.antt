use Rattle.std.proofs.Common.{◌≡◌, ◌<◌, ◌≤◌, sym, ap, ◌∙◌, map, length, get_or, arith, List, cond}
use Rattle.std.proofs.lemmas.List.{take_all, length-map, get_or-map}
use Rattle.stream_law.specs.declared.graph.Edge.{Edge}
use Rattle.stream_law.specs.Waiting.{freed, leads_from, lowered}
use Rattle.stream_law.proofs.TurnLaws.{freed-none, freed-more}
use Rattle.stream_law.specs.Ways.{is_end}
use Rattle.fw_units.specs.declared.component.Component.{Component}
use Rattle.fw_units.specs.Units.{edge_by, source_by, sink_by}
use Rattle.fw_schedule.proofs.TurnsSeen.{are-found, at-found, leads-found}
use Rattle.fw_schedule.proofs.ordering.free.Goals as goal

pub loop-buffer-init : goal.loop-buffer-init
loop-buffer-init c = sym (freed-none (map edge_by c.args.buffers.now) c.args.id c.args.left.now)

pub loop-buffer-preserved : goal.loop-buffer-preserved
loop-buffer-preserved c =
    let bs = c.args.buffers.now in let edges = map edge_by bs in let id = c.args.id in let k = c.loop-buffer.buffer-index in
    let d = c.buffer-item.result in let left = c.loop-buffer.left in
    let low : k < length bs = c.loop-buffer-test.true in
    let lows : k < length edges = omega (arith, length-map bs edge_by, low) in
    let at : get_or edges k (edge_by d) ≡ edge_by (get_or bs k d) = get_or-map edge_by bs k d (edge_by d) low in
    freed-more edges id k (edge_by d) c.args.left.now left c.free_one.new.left lows c.loop-buffer.invariant
    (c.free_one.ensures
    ∙ ap (λ (b : Component). cond (is_end (source_by b.unit) id) (map (lowered (sink_by b.unit)) left) left) c.buffer-item.is
    ∙ ap (λ h. cond h (map (lowered (sink_by (get_or bs k d).unit)) left) left) (sym (leads-found edges id (edge_by (get_or bs k d)) (at-found edges bs k d low (are-found bs c.requires))))
    ∙ ap (λ (e : Edge). cond (leads_from edges id e) (map (lowered e.sink) left) left) (sym at))

pub returns : goal.returns
returns c =
    let bs = c.args.buffers.now in let edges = map edge_by bs in
    let most : length edges ≤ c.loop-buffer.buffer-index = omega (arith, length-map bs edge_by, c.loop-buffer-test.false) in
    c.loop-buffer.invariant ∙ ap (λ (those : List Edge). map (freed edges c.args.id those) c.args.left.now) (take_all c.loop-buffer.buffer-index edges most)
