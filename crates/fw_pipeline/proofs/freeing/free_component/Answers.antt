use Rattle.std.proofs.Common.{◌≡◌, sym, ap, ◌∙◌, List, true, map, Ok, Result, ℤ}
use Rattle.stream_law.specs.declared.graph.Comp.{Comp}
use Rattle.stream_law.specs.declared.stream.StreamView.{StreamView}
use Rattle.stream_law.specs.State.{View}
use Rattle.fw_units.specs.Changes.{has_id}
use Rattle.fw_units.specs.Units.{edge_by, pipe_by}
use Rattle.fw_components.specs.Tables.{Tables, view_by}
use Rattle.fw_pipeline.specs.Rows.{view_after, with_view}
use Rattle.fw_pipeline.proofs.FreeRows.{there-all, found-of, streams-gone, comp-left, comp_free-row}
use Rattle.fw_walks.proofs.Naming.{comp-named}
use Rattle.fw_pipeline.proofs.freeing.free_component.Goals as goal

pub remove-requires : goal.remove-requires
remove-requires c =
    let t : Tables = c.args.registry.now in
    record {
      there = there-all t c.args.id (sym c.is_used.ensures ∙ c.if-not-is_used.false);
      region = found-of c.args.region.now.home t c.args.id c.requires;
      alone = λ _. sym c.is_joined.ensures ∙ c.if-is_joined.false;
    }

pub returns-clause-answer : goal.returns-clause-answer
returns-clause-answer c = λ f.
    let t : Tables = c.args.registry.now in let id = c.args.id in
    let there : has_id t.comps id ≡ true = comp-named t id ∙ sym c.has_comp.ensures ∙ c.if-not-has_comp.false in
    ap (λ (t : Tables). let r : Result View ℤ = Ok (view_by t) in r) (c.remove.ensures.tables ∙ comp-left t id there)
    ∙ ap (λ (p : List Comp × List StreamView). let r : Result View ℤ = Ok (record { graph = record { comps = p.0; edges = map edge_by t.buffers; pipes = map pipe_by t.pipes; joins = t.joins }; streams = p.1 }) in r) (λ i. (c.removals_are_seen.ensures.comps id t.comps i, streams-gone id t.comps i))
    ∙ sym (ap view_after (comp_free-row (with_view (view_by t) f) id (sym c.is_used.ensures ∙ c.if-not-is_used.false) (sym c.has_complete_pipe.ensures.complete ∙ c.if-has_complete_pipe.false) (sym c.has_comp.ensures ∙ c.if-not-has_comp.false) (sym c.is_joined.ensures ∙ c.if-is_joined.false)))
