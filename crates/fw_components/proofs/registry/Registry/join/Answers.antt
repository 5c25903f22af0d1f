use Rattle.std.proofs.Common.{◌≡◌, ◌∙◌, ◌≤◌, ap, sym, subst, true, arith}
use Rattle.stream_law.specs.declared.graph.Join.{Join}
use Rattle.fw_components.specs.Tables.{Tables}
use Rattle.fw_components.specs.Changes.{can_join}
use Rattle.fw_components.specs.Laid.{tables_of}
use Rattle.fw_components.proofs.KeptLaws.{room-to_join, joined-kept}
use Rattle.fw_components.proofs.Listed.{lists-joined}
use Rattle.fw_components.proofs.Tallying.{lists-tallied}
use Rattle.fw_components.proofs.registry.Registry.join.Goals as goal

pub put_join-requires : goal.put_join-requires
put_join-requires c =
    let t = tables_of c.self.inside in
    let j : Join = record { source = c.args.source; sink = c.args.sink } in
    let can : can_join t j ≡ true = ap (λ (t : Tables). can_join t j) c.self.view_is ∙ c.requires in
    omega (arith, room-to_join t c.self.invariant.kept j can, c.self.invariant.joins)

pub invariant_of-self : goal.invariant_of-self
invariant_of-self c =
    let t = tables_of c.self.inside in
    let j : Join = record { source = c.args.source; sink = c.args.sink } in
    let can : can_join t j ≡ true = ap (λ (t : Tables). can_join t j) c.self.view_is ∙ c.requires in
    record {
      comps = c.self.invariant.comps;
      buffers = subst (λ n. 128 ≤ n) (sym c.join_in.ensures.capacity) c.self.invariant.buffers;
      pipes = c.self.invariant.pipes;
      joins = subst (λ n. 256 ≤ n) (sym c.put_join.ensures.capacity) c.self.invariant.joins;
      kept = joined-kept t c.self.invariant.kept j c.join_in.new.components.items c.put_join.new.joins.items can c.join_in.ensures.items c.put_join.ensures.items;
      tallied = lists-tallied (record { comps = t.comps; buffers = c.join_in.new.components.items; pipes = t.pipes; joins = c.put_join.new.joins.items }) c.deref.result.now c.deref-2.result.now c.deref-3.result.now c.recount.new.self c.deref.ensures.value c.deref-2.ensures.value c.deref-3.ensures.value c.recount.ensures;
    }

pub recount-requires : goal.recount-requires
recount-requires c =
    let t = tables_of c.self.inside in
    let j : Join = record { source = c.args.source; sink = c.args.sink } in
    let can : can_join t j ≡ true = ap (λ (t : Tables). can_join t j) c.self.view_is ∙ c.requires in
    lists-joined (record { comps = t.comps; buffers = c.join_in.new.components.items; pipes = t.pipes; joins = c.put_join.new.joins.items }) (joined-kept t c.self.invariant.kept j c.join_in.new.components.items c.put_join.new.joins.items can c.join_in.ensures.items c.put_join.ensures.items) c.deref.result.now c.deref-2.result.now c.deref-3.result.now c.deref.ensures.value c.deref-2.ensures.value c.deref-3.ensures.value
