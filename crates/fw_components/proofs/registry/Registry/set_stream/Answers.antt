use Rattle.std.specs.List.{list_any}
use Rattle.stream_law.specs.Ways.{is_live_phase}
use Rattle.fw_units.specs.declared.component.Component.{Component}
use Rattle.fw_components.specs.Kept.{IsKept}
use Rattle.fw_components.specs.Laid.{tables_of}
use Rattle.fw_components.specs.Tally.{has_phase}
use Rattle.std.proofs.Common.{subst, ap, ◌≤◌, ◌∙◌, ◌==◌, ◌&&◌, sym, List}
use Rattle.fw_components.proofs.KeptLaws.{stream-kept}
use Rattle.fw_components.proofs.Listed.{lists-joined}
use Rattle.fw_components.proofs.Tallying.{lists-tallied}
use Rattle.fw_components.proofs.TallyKept.{set-tallied}
use Rattle.fw_components.proofs.registry.Registry.set_stream.Goals as goal

-- a stream that was not counted, nor is
pub invariant_of-self : goal.invariant_of-self
invariant_of-self c =
    let now : IsKept (record { comps = c.set_stream_in.new.components.items; buffers = c.self.inside.buffers.items; pipes = c.self.inside.pipes.items; joins = c.self.inside.joins.items }) = stream-kept (tables_of c.self.inside) c.self.invariant.kept c.args.host c.args.phase c.args.params c.requires.stream c.set_stream_in.new.components.items c.set_stream_in.ensures.items in
    record {
      comps = subst (λ n. 128 ≤ n) (sym c.set_stream_in.ensures.capacity) c.self.invariant.comps;
      buffers = c.self.invariant.buffers;
      pipes = c.self.invariant.pipes;
      joins = c.self.invariant.joins;
      kept = now;
      tallied = set-tallied (tables_of c.self.inside) c.self.inside.tallies c.self.invariant.tallied c.args.host c.args.phase c.args.params
          (sym c.counts.ensures ∙ c.if-not-counts.true)
          (ap (λ (cs : List Component). list_any (λ x. x.id == c.args.host && has_phase is_live_phase x.unit) cs) (sym c.as_slice.ensures.value) ∙ sym c.is_counted-was_counted.ensures ∙ c.if-not-was_counted.true)
          c.set_stream_in.new.components.items c.set_stream_in.ensures.items;
    }

pub invariant_of-self-2 : goal.invariant_of-self-2
invariant_of-self-2 c = record {
  comps = subst (λ n. 128 ≤ n) (sym c.set_stream_in.ensures.capacity) c.self.invariant.comps;
  buffers = c.self.invariant.buffers;
  pipes = c.self.invariant.pipes;
  joins = c.self.invariant.joins;
  kept = stream-kept (tables_of c.self.inside) c.self.invariant.kept c.args.host c.args.phase c.args.params c.requires.stream c.set_stream_in.new.components.items c.set_stream_in.ensures.items;
  tallied = lists-tallied (record { comps = c.set_stream_in.new.components.items; buffers = c.self.inside.buffers.items; pipes = c.self.inside.pipes.items; joins = c.self.inside.joins.items }) c.deref.result.now c.deref-2.result.now c.deref-3.result.now c.recount.new.self c.deref.ensures.value c.deref-2.ensures.value c.deref-3.ensures.value c.recount.ensures;
}

pub recount-requires : goal.recount-requires
recount-requires c = lists-joined (record { comps = c.set_stream_in.new.components.items; buffers = c.self.inside.buffers.items; pipes = c.self.inside.pipes.items; joins = c.self.inside.joins.items }) (stream-kept (tables_of c.self.inside) c.self.invariant.kept c.args.host c.args.phase c.args.params c.requires.stream c.set_stream_in.new.components.items c.set_stream_in.ensures.items) c.deref.result.now c.deref-2.result.now c.deref-3.result.now c.deref.ensures.value c.deref-2.ensures.value c.deref-3.ensures.value
