use Rattle.std.proofs.Common.{◌≡◌, ◌<◌, ◌∙◌, sym, ap, length, false, rules}
use Rattle.fw_components.specs.Changes.{is_there}
use Rattle.fw_components.specs.Laid.{tables_of}
use Rattle.fw_components.proofs.KeptLaws.{comp-added, buffer-added, pipe-added}
use Rattle.fw_components.proofs.Listed.{lists-joined}
use Rattle.fw_components.proofs.Tallying.{lists-tallied, pipes-tallied}
use Rattle.fw_components.proofs.registry.Registry.add.Goals as goal

pub invariant_of-self : goal.invariant_of-self
invariant_of-self c =
    let gone : is_there (tables_of c.self.inside) c.args.component.id ≡ false = ap (λ t. is_there t c.args.component.id) c.self.view_is ∙ c.requires.id in
    let room : length c.self.inside.buffers.items < 128 = search rules in
    record {
      comps = c.self.invariant.comps;
      buffers = search rules;
      pipes = c.self.invariant.pipes;
      joins = c.self.invariant.joins;
      kept = buffer-added (tables_of c.self.inside) c.self.invariant.kept c.args.component c.place.new.components.items gone (sym c.is_buffer.ensures ∙ c.if-is_buffer.true) c.requires.unit room c.place.ensures.items;
      tallied = lists-tallied (record { comps = c.self.inside.comps.items; buffers = c.place.new.components.items; pipes = c.self.inside.pipes.items; joins = c.self.inside.joins.items }) c.deref.result.now c.deref-then-is_buffer.result.now c.deref-then-is_buffer-2.result.now c.recount.new.self c.deref.ensures.value c.deref-then-is_buffer.ensures.value c.deref-then-is_buffer-2.ensures.value c.recount.ensures;
    }

pub invariant_of-self-then-is_pipeline : goal.invariant_of-self-then-is_pipeline
invariant_of-self-then-is_pipeline c =
    let gone : is_there (tables_of c.self.inside) c.args.component.id ≡ false = ap (λ t. is_there t c.args.component.id) c.self.view_is ∙ c.requires.id in
    let room : length c.self.inside.pipes.items < 32 = search rules in
    record {
      comps = c.self.invariant.comps;
      buffers = c.self.invariant.buffers;
      pipes = search rules;
      joins = c.self.invariant.joins;
      kept = pipe-added (tables_of c.self.inside) c.self.invariant.kept c.args.component c.place-then-is_pipeline.new.components.items gone (sym c.is_pipeline.ensures ∙ c.if-is_pipeline.true) c.requires.unit room c.place-then-is_pipeline.ensures.items;
      tallied = pipes-tallied (tables_of c.self.inside) c.self.inside.tallies c.self.invariant.tallied c.place-then-is_pipeline.new.components.items;
    }

pub invariant_of-self-2 : goal.invariant_of-self-2
invariant_of-self-2 c =
    let gone : is_there (tables_of c.self.inside) c.args.component.id ≡ false = ap (λ t. is_there t c.args.component.id) c.self.view_is ∙ c.requires.id in
    let room : length c.self.inside.comps.items < 128 = search rules in
    record {
      comps = search rules;
      buffers = c.self.invariant.buffers;
      pipes = c.self.invariant.pipes;
      joins = c.self.invariant.joins;
      kept = comp-added (tables_of c.self.inside) c.self.invariant.kept c.args.component c.place-2.new.components.items gone (sym c.is_buffer.ensures ∙ c.if-is_buffer.false) (sym c.is_pipeline.ensures ∙ c.if-is_pipeline.false) c.requires.unit room c.place-2.ensures.items;
      tallied = lists-tallied (record { comps = c.place-2.new.components.items; buffers = c.self.inside.buffers.items; pipes = c.self.inside.pipes.items; joins = c.self.inside.joins.items }) c.deref-2.result.now c.deref-3.result.now c.deref-4.result.now c.recount-2.new.self c.deref-2.ensures.value c.deref-3.ensures.value c.deref-4.ensures.value c.recount-2.ensures;
    }

pub recount-requires : goal.recount-requires
recount-requires c =
    let gone : is_there (tables_of c.self.inside) c.args.component.id ≡ false = ap (λ t. is_there t c.args.component.id) c.self.view_is ∙ c.requires.id in
    let room : length c.self.inside.buffers.items < 128 = search rules in
    lists-joined (record { comps = c.self.inside.comps.items; buffers = c.place.new.components.items; pipes = c.self.inside.pipes.items; joins = c.self.inside.joins.items }) (buffer-added (tables_of c.self.inside) c.self.invariant.kept c.args.component c.place.new.components.items gone (sym c.is_buffer.ensures ∙ c.if-is_buffer.true) c.requires.unit room c.place.ensures.items) c.deref.result.now c.deref-then-is_buffer.result.now c.deref-then-is_buffer-2.result.now c.deref.ensures.value c.deref-then-is_buffer.ensures.value c.deref-then-is_buffer-2.ensures.value

pub recount-requires-2 : goal.recount-requires-2
recount-requires-2 c =
    let gone : is_there (tables_of c.self.inside) c.args.component.id ≡ false = ap (λ t. is_there t c.args.component.id) c.self.view_is ∙ c.requires.id in
    let room : length c.self.inside.comps.items < 128 = search rules in
    lists-joined (record { comps = c.place-2.new.components.items; buffers = c.self.inside.buffers.items; pipes = c.self.inside.pipes.items; joins = c.self.inside.joins.items }) (comp-added (tables_of c.self.inside) c.self.invariant.kept c.args.component c.place-2.new.components.items gone (sym c.is_buffer.ensures ∙ c.if-is_buffer.false) (sym c.is_pipeline.ensures ∙ c.if-is_pipeline.false) c.requires.unit room c.place-2.ensures.items) c.deref-2.result.now c.deref-3.result.now c.deref-4.result.now c.deref-2.ensures.value c.deref-3.ensures.value c.deref-4.ensures.value
