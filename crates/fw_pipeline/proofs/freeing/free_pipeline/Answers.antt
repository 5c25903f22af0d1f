use Rattle.std.proofs.Common.{◌≡◌, sym, ap, ◌∙◌, List, true, map, Ok, Result, ℤ}
use Rattle.stream_law.specs.declared.graph.Pipe.{Pipe}
use Rattle.stream_law.specs.State.{View}
use Rattle.fw_units.specs.Changes.{has_id}
use Rattle.fw_units.specs.Units.{comp_by, edge_by}
use Rattle.fw_components.specs.Tables.{Tables, graph_of, view_by, streams_of}
use Rattle.fw_pipeline.specs.Rows.{view_after, with_view}
use Rattle.fw_pipeline.proofs.FreeRows.{there-all, found-of, apart-gone, pipe-alone, pipe-left, pipe_free-row, index-named}
use Rattle.fw_walks.proofs.Naming.{pipe-named}
use Rattle.fw_pipeline.proofs.freeing.free_pipeline.Goals as goal

pub remove-requires : goal.remove-requires
remove-requires c =
    let t : Tables = c.args.registry.now in let id = c.args.id in
    let there : has_id t.pipes id ≡ true = pipe-named t id ∙ index-named (graph_of t).pipes id c.in-Some.index (sym c.pipeline_index.ensures.found ∙ c.in-Some.is) in
    let kept = c.pipeline_index.ensures.kept in
    record {
      there = there-all t id (sym c.is_used.ensures ∙ c.if-not-is_used.false);
      region = found-of c.args.region.now.home t id c.requires;
      alone = λ _. pipe-alone t id kept (apart-gone t.comps t.pipes id kept.named.comps_pipes there) (apart-gone t.buffers t.pipes id kept.named.buffers_pipes there);
    }

pub returns-clause-answer : goal.returns-clause-answer
returns-clause-answer c = λ f.
    let t : Tables = c.args.registry.now in let id = c.args.id in
    let there : has_id t.pipes id ≡ true = pipe-named t id ∙ index-named (graph_of t).pipes id c.in-Some.index (sym c.pipeline_index.ensures.found ∙ c.in-Some.is) in
    let kept = c.pipeline_index.ensures.kept in
    ap (λ (t : Tables). let r : Result View ℤ = Ok (view_by t) in r) (c.remove.ensures.tables ∙ pipe-left t id (apart-gone t.comps t.pipes id kept.named.comps_pipes there) (apart-gone t.buffers t.pipes id kept.named.buffers_pipes there))
    ∙ ap (λ (ps : List Pipe). let r : Result View ℤ = Ok (record { graph = record { comps = map comp_by t.comps; edges = map edge_by t.buffers; pipes = ps; joins = t.joins }; streams = streams_of t }) in r) (c.removals_are_seen.ensures.pipes id t.pipes)
    ∙ sym (ap view_after (pipe_free-row (with_view (view_by t) f) id c.in-Some.index (sym c.is_used.ensures ∙ c.if-not-is_used.false) (sym c.pipeline_index.ensures.found ∙ c.in-Some.is) (sym c.is_index_held.ensures ∙ c.if-is_index_held.false)))
