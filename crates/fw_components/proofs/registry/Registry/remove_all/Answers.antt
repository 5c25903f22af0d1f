use Rattle.std.proofs.Common.{◌≤◌, ◌∙◌, ◌++◌, sym, ap, subst}
use Rattle.std.specs.List.{AllByRecursion}
use Rattle.fw_heap.specs.declared.run.Home.{Home}
use Rattle.fw_components.specs.Tables.{Tables, all_of}
use Rattle.fw_units.specs.Changes.{IsOfHome, given_all}
use Rattle.fw_components.proofs.KeptLaws.{empty-kept}
use Rattle.fw_components.proofs.Going.{given-append, all-first, all-rest}
use Rattle.fw_components.proofs.Listed.{lists-joined}
use Rattle.fw_components.proofs.Tallying.{lists-tallied}
use Rattle.fw_components.proofs.registry.Registry.remove_all.Goals as goal

pub give_all-requires : goal.give_all-requires
give_all-requires c =
    let s = c.self.inside in
    all-first (IsOfHome c.args.region.now.home) s.comps.items (s.buffers.items ++ s.pipes.items) (subst (λ (t : Tables). AllByRecursion (IsOfHome c.args.region.now.home) (all_of t)) (sym c.self.view_is) c.requires)

pub give_all-requires-2 : goal.give_all-requires-2
give_all-requires-2 c =
    let s = c.self.inside in
    let all = subst (λ (t : Tables). AllByRecursion (IsOfHome c.args.region.now.home) (all_of t)) (sym c.self.view_is) c.requires in
    let rest = all-rest (IsOfHome c.args.region.now.home) s.comps.items (s.buffers.items ++ s.pipes.items) all in
    subst (λ (h : Home). AllByRecursion (IsOfHome h) s.buffers.items) (sym c.give_all.ensures.same.0) (all-first (IsOfHome c.args.region.now.home) s.buffers.items s.pipes.items rest)

pub give_all-requires-3 : goal.give_all-requires-3
give_all-requires-3 c =
    let s = c.self.inside in
    let all = subst (λ (t : Tables). AllByRecursion (IsOfHome c.args.region.now.home) (all_of t)) (sym c.self.view_is) c.requires in
    let rest = all-rest (IsOfHome c.args.region.now.home) s.comps.items (s.buffers.items ++ s.pipes.items) all in
    subst (λ (h : Home). AllByRecursion (IsOfHome h) s.pipes.items) (sym (c.give_all-2.ensures.same.0 ∙ c.give_all.ensures.same.0)) (all-rest (IsOfHome c.args.region.now.home) s.buffers.items s.pipes.items rest)

pub invariant_of-self : goal.invariant_of-self
invariant_of-self c = record {
  comps = subst (λ n. 128 ≤ n) (sym c.give_all.ensures.capacity) c.self.invariant.comps;
  buffers = subst (λ n. 128 ≤ n) (sym c.give_all-2.ensures.capacity) c.self.invariant.buffers;
  pipes = subst (λ n. 32 ≤ n) (sym c.give_all-3.ensures.capacity) c.self.invariant.pipes;
  joins = subst (λ n. 256 ≤ n) (sym c.clear.ensures.capacity) c.self.invariant.joins;
  kept = rw (c.give_all.ensures.items, c.give_all-2.ensures.items, c.give_all-3.ensures.items, c.clear.ensures.items) empty-kept;
  tallied = lists-tallied (record { comps = c.give_all.new.components.items; buffers = c.give_all-2.new.components.items; pipes = c.give_all-3.new.components.items; joins = c.clear.new.self.items }) c.deref.result.now c.deref-2.result.now c.deref-3.result.now c.recount.new.self c.deref.ensures.value c.deref-2.ensures.value c.deref-3.ensures.value c.recount.ensures;
}

pub returns-clause-holes : goal.returns-clause-holes
returns-clause-holes c =
    let s = c.self.inside in
    c.give_all-3.ensures.holes
    ∙ ap (given_all s.pipes.items) (c.give_all-2.ensures.holes ∙ ap (given_all s.buffers.items) c.give_all.ensures.holes)
    ∙ sym (given-append s.comps.items (s.buffers.items ++ s.pipes.items) c.args.region.now.holes ∙ given-append s.buffers.items s.pipes.items (given_all s.comps.items c.args.region.now.holes))
    ∙ ap (λ (t : Tables). given_all (all_of t) c.args.region.now.holes) c.self.view_is

pub recount-requires : goal.recount-requires
recount-requires c = lists-joined (record { comps = c.give_all.new.components.items; buffers = c.give_all-2.new.components.items; pipes = c.give_all-3.new.components.items; joins = c.clear.new.self.items }) (rw (c.give_all.ensures.items, c.give_all-2.ensures.items, c.give_all-3.ensures.items, c.clear.ensures.items) empty-kept) c.deref.result.now c.deref-2.result.now c.deref-3.result.now c.deref.ensures.value c.deref-2.ensures.value c.deref-3.ensures.value
