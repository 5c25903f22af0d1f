use Rattle.std.proofs.Common.{min, ap, ◌∙◌}
use Rattle.sof_io.specs.Bound.{output_slots}
use Rattle.sof_stress.specs.StressPorts.{dai_slot}
use Rattle.sof_stress.proofs.WholeStress.{whole}
use Rattle.sof_stress.proofs.running.stress.Goals as goal

pub returns : goal.returns
returns g c =
    let seed = c.args.seed in
    whole g.P.Dsp.means seed c.args.dsp c.into_dsp.result c.in-Ok.made.plan c.heap_for-heap.result c.dai_slot-slot.result c.sent.result
    c.in-Ok.made.inputs c.carry_all-counts.new.inputs (output_slots c.in-Ok.made.outputs) (output_slots c.carry_all-counts.new.outputs) c.in_ok-session.session c.carry_all-counts.new.session c.carry_all-counts.result
    c.in-Ok.ensures.sound c.in-Ok.ensures.plan (c.heap_for-heap.ensures.heap ∙ (λ i. min (c.in-Ok.ensures.need i) (c.room.ensures i)))
    (c.dai_slot-slot.ensures ∙ ap dai_slot c.streams_of.ensures.streams) c.in-Ok.ensures.inputs (ap output_slots c.in-Ok.ensures.outputs)
    c.in_ok-session.ensures c.carry_all-counts.ensures c.into_dsp.ensures.dsp c.into_dsp.ensures.agreed c.sent.ensures
