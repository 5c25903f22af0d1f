use Rattle.std.proofs.Common.{◌≡◌, ◌≤◌, ◌∙◌, sym, ap, subst, Some, Option, true, false, ◌==◌}
use Rattle.std.proofs.lemmas.Bool.{true≢false}
use Rattle.std.specs.Prelude.{position}
use Rattle.std.specs.List.{list_any}
use Rattle.sof_base.specs.Holes.{given}
use Rattle.fw_heap.specs.Pieces.{PieceState}
use Rattle.fw_units.specs.declared.component.Component.{Component}
use Rattle.fw_components.specs.Tables.{Tables}
use Rattle.mbox_link.specs.Step.{touches}
use Rattle.fw_units.specs.Changes.{has_id}
use Rattle.fw_components.specs.Changes.{found, given_found, is_there, tables_without, IsFoundOf}
use Rattle.fw_components.specs.Laid.{tables_of}
use Rattle.fw_units.proofs.Found.{placed-there, never-there}
use Rattle.fw_components.proofs.Going.{comp-found, buffer-found, pipe-found, none-there, without-comp, without-buffer, without-pipe}
use Rattle.fw_components.proofs.GoneKept.{comp-gone, buffer-gone, pipe-gone}
use Rattle.fw_components.proofs.Apart.{not-second}
use Rattle.fw_components.proofs.Listed.{lists-joined}
use Rattle.fw_components.proofs.Tallying.{lists-tallied, pipes-tallied}
use Rattle.fw_components.proofs.registry.Registry.remove.Goals as goal

pub give-requires : goal.give-requires
give-requires c =
    let t = tables_of c.self.inside in
    let x = c.take_at-component.result in
    let there : has_id t.comps c.args.id ≡ true = placed-there c.args.id t.comps c.in-Some.at (c.in-Some.ensures ∙ ap (position (λ (y : Component). y.id == c.args.id)) c.as_slice.ensures.value) in
    let it : Some x ≡ found c.args.self.now c.args.id = comp-found t c.args.id x there c.take_at-component.ensures.found ∙ ap (λ (t : Tables). found t c.args.id) c.self.view_is in
    ap (λ (p : PieceState). p.home) c.into_piece.ensures ∙ subst (IsFoundOf c.args.region.now.home) (sym it) c.requires.region

pub invariant_of-self : goal.invariant_of-self
invariant_of-self c =
    let t = tables_of c.self.inside in
    let there : has_id t.comps c.args.id ≡ true = placed-there c.args.id t.comps c.in-Some.at (c.in-Some.ensures ∙ ap (position (λ (y : Component). y.id == c.args.id)) c.as_slice.ensures.value) in
    let no_buffer : has_id c.args.self.now.buffers c.args.id ≡ false = ap (λ (t : Tables). has_id t.buffers c.args.id) (sym c.self.view_is) ∙ not-second c.args.id t.comps t.buffers c.self.invariant.kept.named.comps_buffers there in
    let alone : list_any (touches c.args.id) t.joins ≡ false = ap (λ (t : Tables). list_any (touches c.args.id) t.joins) c.self.view_is ∙ c.requires.alone no_buffer in
    record {
      comps = subst (λ n. 128 ≤ n) (sym c.take_at-component.ensures.capacity) c.self.invariant.comps;
      buffers = c.self.invariant.buffers;
      pipes = c.self.invariant.pipes;
      joins = c.self.invariant.joins;
      kept = comp-gone (tables_of c.self.inside) c.self.invariant.kept c.args.id c.take_at-component.new.components.items alone c.take_at-component.ensures.items;
      tallied = lists-tallied (record { comps = c.take_at-component.new.components.items; buffers = t.buffers; pipes = t.pipes; joins = t.joins }) c.deref.result.now c.deref-in-Some.result.now c.deref-in-Some-2.result.now c.recount.new.self c.deref.ensures.value c.deref-in-Some.ensures.value c.deref-in-Some-2.ensures.value c.recount.ensures;
    }

pub returns-in-Some-clause-tables : goal.returns-in-Some-clause-tables
returns-in-Some-clause-tables c =
    let t = tables_of c.self.inside in
    let there : has_id t.comps c.args.id ≡ true = placed-there c.args.id t.comps c.in-Some.at (c.in-Some.ensures ∙ ap (position (λ (y : Component). y.id == c.args.id)) c.as_slice.ensures.value) in
    without-comp t c.args.id c.take_at-component.new.components.items there c.take_at-component.ensures.items ∙ ap (tables_without c.args.id) c.self.view_is

pub returns-in-Some-clause-holes : goal.returns-in-Some-clause-holes
returns-in-Some-clause-holes c =
    let t = tables_of c.self.inside in
    let x = c.take_at-component.result in
    let there : has_id t.comps c.args.id ≡ true = placed-there c.args.id t.comps c.in-Some.at (c.in-Some.ensures ∙ ap (position (λ (y : Component). y.id == c.args.id)) c.as_slice.ensures.value) in
    let it : Some x ≡ found c.args.self.now c.args.id = comp-found t c.args.id x there c.take_at-component.ensures.found ∙ ap (λ (t : Tables). found t c.args.id) c.self.view_is in
    c.give.ensures.holes ∙ ap (λ (p : PieceState). given (record { place = p.place; size = p.size }) c.args.region.now.holes) c.into_piece.ensures ∙ ap (λ (o : Option Component). given_found o c.args.region.now.holes) it

pub give-requires-in-Some-place_of : goal.give-requires-in-Some-place_of
give-requires-in-Some-place_of c =
    let t = tables_of c.self.inside in
    let x = c.take_at-component-in-Some-place_of.result in
    let gone : has_id t.comps c.args.id ≡ false = never-there c.args.id t.comps (c.in_default.ensures ∙ ap (position (λ (y : Component). y.id == c.args.id)) c.as_slice.ensures.value) in
    let there : has_id t.buffers c.args.id ≡ true = placed-there c.args.id t.buffers c.in-Some-place_of.at (c.in-Some-place_of.ensures ∙ ap (position (λ (y : Component). y.id == c.args.id)) c.as_slice-in_default.ensures.value) in
    let it : Some x ≡ found c.args.self.now c.args.id = buffer-found t c.args.id x gone there c.take_at-component-in-Some-place_of.ensures.found ∙ ap (λ (t : Tables). found t c.args.id) c.self.view_is in
    ap (λ (p : PieceState). p.home) c.into_piece-in-Some-place_of.ensures ∙ subst (IsFoundOf c.args.region.now.home) (sym it) c.requires.region

pub invariant_of-self-in-Some-place_of : goal.invariant_of-self-in-Some-place_of
invariant_of-self-in-Some-place_of c =
    let t = tables_of c.self.inside in
    let there : has_id t.buffers c.args.id ≡ true = placed-there c.args.id t.buffers c.in-Some-place_of.at (c.in-Some-place_of.ensures ∙ ap (position (λ (y : Component). y.id == c.args.id)) c.as_slice-in_default.ensures.value) in
    record {
      comps = c.self.invariant.comps;
      buffers = subst (λ n. 128 ≤ n) (sym c.take_at-component-in-Some-place_of.ensures.capacity) c.self.invariant.buffers;
      pipes = c.self.invariant.pipes;
      joins = subst (λ n. 256 ≤ n) (sym c.remove_joins.ensures.capacity) c.self.invariant.joins;
      kept = buffer-gone (tables_of c.self.inside) c.self.invariant.kept c.args.id c.take_at-component-in-Some-place_of.new.components.items c.remove_joins.new.joins.items there c.take_at-component-in-Some-place_of.ensures.items c.remove_joins.ensures.items;
      tallied = lists-tallied (record { comps = t.comps; buffers = c.take_at-component-in-Some-place_of.new.components.items; pipes = t.pipes; joins = c.remove_joins.new.joins.items }) c.deref-in-Some-place_of.result.now c.deref-in-Some-place_of-2.result.now c.deref-in-Some-place_of-3.result.now c.recount-in-Some-place_of.new.self c.deref-in-Some-place_of.ensures.value c.deref-in-Some-place_of-2.ensures.value c.deref-in-Some-place_of-3.ensures.value c.recount-in-Some-place_of.ensures;
    }

pub returns-in-Some-place_of-clause-tables : goal.returns-in-Some-place_of-clause-tables
returns-in-Some-place_of-clause-tables c =
    let t = tables_of c.self.inside in
    let gone : has_id t.comps c.args.id ≡ false = never-there c.args.id t.comps (c.in_default.ensures ∙ ap (position (λ (y : Component). y.id == c.args.id)) c.as_slice.ensures.value) in
    let there : has_id t.buffers c.args.id ≡ true = placed-there c.args.id t.buffers c.in-Some-place_of.at (c.in-Some-place_of.ensures ∙ ap (position (λ (y : Component). y.id == c.args.id)) c.as_slice-in_default.ensures.value) in
    without-buffer t c.args.id c.take_at-component-in-Some-place_of.new.components.items c.remove_joins.new.joins.items gone there c.take_at-component-in-Some-place_of.ensures.items c.remove_joins.ensures.items ∙ ap (tables_without c.args.id) c.self.view_is

pub returns-in-Some-place_of-clause-holes : goal.returns-in-Some-place_of-clause-holes
returns-in-Some-place_of-clause-holes c =
    let t = tables_of c.self.inside in
    let x = c.take_at-component-in-Some-place_of.result in
    let gone : has_id t.comps c.args.id ≡ false = never-there c.args.id t.comps (c.in_default.ensures ∙ ap (position (λ (y : Component). y.id == c.args.id)) c.as_slice.ensures.value) in
    let there : has_id t.buffers c.args.id ≡ true = placed-there c.args.id t.buffers c.in-Some-place_of.at (c.in-Some-place_of.ensures ∙ ap (position (λ (y : Component). y.id == c.args.id)) c.as_slice-in_default.ensures.value) in
    let it : Some x ≡ found c.args.self.now c.args.id = buffer-found t c.args.id x gone there c.take_at-component-in-Some-place_of.ensures.found ∙ ap (λ (t : Tables). found t c.args.id) c.self.view_is in
    c.give-in-Some-place_of.ensures.holes ∙ ap (λ (p : PieceState). given (record { place = p.place; size = p.size }) c.args.region.now.holes) c.into_piece-in-Some-place_of.ensures ∙ ap (λ (o : Option Component). given_found o c.args.region.now.holes) it

pub give-requires-in-Some-place_of-2 : goal.give-requires-in-Some-place_of-2
give-requires-in-Some-place_of-2 c =
    let t = tables_of c.self.inside in
    let x = c.take_at-component-in-Some-place_of-2.result in
    let gone : has_id t.comps c.args.id ≡ false = never-there c.args.id t.comps (c.in_default.ensures ∙ ap (position (λ (y : Component). y.id == c.args.id)) c.as_slice.ensures.value) in
    let far : has_id t.buffers c.args.id ≡ false = never-there c.args.id t.buffers (c.in_default-place_of.ensures ∙ ap (position (λ (y : Component). y.id == c.args.id)) c.as_slice-in_default.ensures.value) in
    let it : Some x ≡ found c.args.self.now c.args.id = pipe-found t c.args.id x gone far c.take_at-component-in-Some-place_of-2.ensures.found ∙ ap (λ (t : Tables). found t c.args.id) c.self.view_is in
    ap (λ (p : PieceState). p.home) c.into_piece-in-Some-place_of-2.ensures ∙ subst (IsFoundOf c.args.region.now.home) (sym it) c.requires.region

pub invariant_of-self-in-Some-place_of-2 : goal.invariant_of-self-in-Some-place_of-2
invariant_of-self-in-Some-place_of-2 c = record {
  comps = c.self.invariant.comps;
  buffers = c.self.invariant.buffers;
  pipes = subst (λ n. 32 ≤ n) (sym c.take_at-component-in-Some-place_of-2.ensures.capacity) c.self.invariant.pipes;
  joins = c.self.invariant.joins;
  kept = pipe-gone (tables_of c.self.inside) c.self.invariant.kept c.args.id c.take_at-component-in-Some-place_of-2.new.components.items c.take_at-component-in-Some-place_of-2.ensures.items;
  tallied = pipes-tallied (tables_of c.self.inside) c.self.inside.tallies c.self.invariant.tallied c.take_at-component-in-Some-place_of-2.new.components.items;
}

pub returns-in-Some-place_of-2-clause-tables : goal.returns-in-Some-place_of-2-clause-tables
returns-in-Some-place_of-2-clause-tables c =
    let t = tables_of c.self.inside in
    let gone : has_id t.comps c.args.id ≡ false = never-there c.args.id t.comps (c.in_default.ensures ∙ ap (position (λ (y : Component). y.id == c.args.id)) c.as_slice.ensures.value) in
    let far : has_id t.buffers c.args.id ≡ false = never-there c.args.id t.buffers (c.in_default-place_of.ensures ∙ ap (position (λ (y : Component). y.id == c.args.id)) c.as_slice-in_default.ensures.value) in
    without-pipe t c.args.id c.take_at-component-in-Some-place_of-2.new.components.items gone far c.take_at-component-in-Some-place_of-2.ensures.items ∙ ap (tables_without c.args.id) c.self.view_is

pub returns-in-Some-place_of-2-clause-holes : goal.returns-in-Some-place_of-2-clause-holes
returns-in-Some-place_of-2-clause-holes c =
    let t = tables_of c.self.inside in
    let x = c.take_at-component-in-Some-place_of-2.result in
    let gone : has_id t.comps c.args.id ≡ false = never-there c.args.id t.comps (c.in_default.ensures ∙ ap (position (λ (y : Component). y.id == c.args.id)) c.as_slice.ensures.value) in
    let far : has_id t.buffers c.args.id ≡ false = never-there c.args.id t.buffers (c.in_default-place_of.ensures ∙ ap (position (λ (y : Component). y.id == c.args.id)) c.as_slice-in_default.ensures.value) in
    let it : Some x ≡ found c.args.self.now c.args.id = pipe-found t c.args.id x gone far c.take_at-component-in-Some-place_of-2.ensures.found ∙ ap (λ (t : Tables). found t c.args.id) c.self.view_is in
    c.give-in-Some-place_of-2.ensures.holes ∙ ap (λ (p : PieceState). given (record { place = p.place; size = p.size }) c.args.region.now.holes) c.into_piece-in-Some-place_of-2.ensures ∙ ap (λ (o : Option Component). given_found o c.args.region.now.holes) it

pub returns-in_default-place_of-2-clause-tables : goal.returns-in_default-place_of-2-clause-tables
returns-in_default-place_of-2-clause-tables c =
    let t = tables_of c.self.inside in
    let gone : has_id t.comps c.args.id ≡ false = never-there c.args.id t.comps (c.in_default.ensures ∙ ap (position (λ (y : Component). y.id == c.args.id)) c.as_slice.ensures.value) in
    let far : has_id t.buffers c.args.id ≡ false = never-there c.args.id t.buffers (c.in_default-place_of.ensures ∙ ap (position (λ (y : Component). y.id == c.args.id)) c.as_slice-in_default.ensures.value) in
    let never : has_id t.pipes c.args.id ≡ false = never-there c.args.id t.pipes (c.in_default-place_of-2.ensures ∙ ap (position (λ (y : Component). y.id == c.args.id)) c.as_slice-in_default-place_of.ensures.value) in
    absurd (true≢false (sym c.requires.there ∙ ap (λ (t : Tables). is_there t c.args.id) (sym c.self.view_is) ∙ none-there t c.args.id gone far never))

pub returns-in_default-place_of-2-clause-holes : goal.returns-in_default-place_of-2-clause-holes
returns-in_default-place_of-2-clause-holes c =
    let t = tables_of c.self.inside in
    let gone : has_id t.comps c.args.id ≡ false = never-there c.args.id t.comps (c.in_default.ensures ∙ ap (position (λ (y : Component). y.id == c.args.id)) c.as_slice.ensures.value) in
    let far : has_id t.buffers c.args.id ≡ false = never-there c.args.id t.buffers (c.in_default-place_of.ensures ∙ ap (position (λ (y : Component). y.id == c.args.id)) c.as_slice-in_default.ensures.value) in
    let never : has_id t.pipes c.args.id ≡ false = never-there c.args.id t.pipes (c.in_default-place_of-2.ensures ∙ ap (position (λ (y : Component). y.id == c.args.id)) c.as_slice-in_default-place_of.ensures.value) in
    absurd (true≢false (sym c.requires.there ∙ ap (λ (t : Tables). is_there t c.args.id) (sym c.self.view_is) ∙ none-there t c.args.id gone far never))

pub recount-requires : goal.recount-requires
recount-requires c =
    let t = tables_of c.self.inside in
    let there : has_id t.comps c.args.id ≡ true = placed-there c.args.id t.comps c.in-Some.at (c.in-Some.ensures ∙ ap (position (λ (y : Component). y.id == c.args.id)) c.as_slice.ensures.value) in
    let no_buffer : has_id c.args.self.now.buffers c.args.id ≡ false = ap (λ (t : Tables). has_id t.buffers c.args.id) (sym c.self.view_is) ∙ not-second c.args.id t.comps t.buffers c.self.invariant.kept.named.comps_buffers there in
    let alone : list_any (touches c.args.id) t.joins ≡ false = ap (λ (t : Tables). list_any (touches c.args.id) t.joins) c.self.view_is ∙ c.requires.alone no_buffer in
    lists-joined (record { comps = c.take_at-component.new.components.items; buffers = t.buffers; pipes = t.pipes; joins = t.joins }) (comp-gone (tables_of c.self.inside) c.self.invariant.kept c.args.id c.take_at-component.new.components.items alone c.take_at-component.ensures.items) c.deref.result.now c.deref-in-Some.result.now c.deref-in-Some-2.result.now c.deref.ensures.value c.deref-in-Some.ensures.value c.deref-in-Some-2.ensures.value

pub recount-requires-in-Some-place_of : goal.recount-requires-in-Some-place_of
recount-requires-in-Some-place_of c =
    let t = tables_of c.self.inside in
    let there : has_id t.buffers c.args.id ≡ true = placed-there c.args.id t.buffers c.in-Some-place_of.at (c.in-Some-place_of.ensures ∙ ap (position (λ (y : Component). y.id == c.args.id)) c.as_slice-in_default.ensures.value) in
    lists-joined (record { comps = t.comps; buffers = c.take_at-component-in-Some-place_of.new.components.items; pipes = t.pipes; joins = c.remove_joins.new.joins.items }) (buffer-gone (tables_of c.self.inside) c.self.invariant.kept c.args.id c.take_at-component-in-Some-place_of.new.components.items c.remove_joins.new.joins.items there c.take_at-component-in-Some-place_of.ensures.items c.remove_joins.ensures.items) c.deref-in-Some-place_of.result.now c.deref-in-Some-place_of-2.result.now c.deref-in-Some-place_of-3.result.now c.deref-in-Some-place_of.ensures.value c.deref-in-Some-place_of-2.ensures.value c.deref-in-Some-place_of-3.ensures.value
