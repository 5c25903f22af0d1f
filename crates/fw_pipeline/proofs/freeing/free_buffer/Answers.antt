use Rattle.std.proofs.Common.{◌≡◌, sym, ap, ◌∙◌, List, true, false, not, map, filter, ◌||◌, ◌==◌, Ok, Result, ℤ}
use Rattle.stream_law.specs.declared.graph.Edge.{Edge}
use Rattle.stream_law.specs.State.{View}
use Rattle.fw_units.specs.Changes.{has_id}
use Rattle.fw_units.specs.Units.{comp_by, pipe_by}
use Rattle.fw_components.specs.Tables.{Tables, view_by, streams_of}
use Rattle.fw_pipeline.specs.Rows.{view_after, with_view}
use Rattle.fw_pipeline.proofs.FreeRows.{there-all, found-of, apart-gone, buffer-left, buffer_free-row}
use Rattle.fw_walks.proofs.Naming.{edge-named}
use Rattle.std.proofs.lemmas.Bool.{true≢false}
use Rattle.fw_pipeline.proofs.freeing.free_buffer.Goals as goal

pub remove-requires : goal.remove-requires
remove-requires c =
    let t : Tables = c.args.registry.now in let id = c.args.id in
    let there : has_id t.buffers id ≡ true = edge-named t id ∙ sym c.has_buffer.ensures ∙ c.if-not-has_buffer.false in
    record {
      there = there-all t id (sym c.is_used.ensures ∙ c.if-not-is_used.false);
      region = found-of c.args.region.now.home t id c.requires;
      alone = λ none. absurd (true≢false (sym there ∙ none));
    }

pub returns-clause-answer : goal.returns-clause-answer
returns-clause-answer c = λ f.
    let t : Tables = c.args.registry.now in let id = c.args.id in
    let there : has_id t.buffers id ≡ true = edge-named t id ∙ sym c.has_buffer.ensures ∙ c.if-not-has_buffer.false in
    let none : has_id t.comps id ≡ false = apart-gone t.comps t.buffers id c.has_complete_pipe.ensures.kept.named.comps_buffers there in
    ap (λ (t : Tables). let r : Result View ℤ = Ok (view_by t) in r) (c.remove.ensures.tables ∙ buffer-left t id none there)
    ∙ ap (λ (es : List Edge). let r : Result View ℤ = Ok (record { graph = record { comps = map comp_by t.comps; edges = es; pipes = map pipe_by t.pipes; joins = filter (λ j. not (j.source == id || j.sink == id)) t.joins }; streams = streams_of t }) in r) (c.removals_are_seen.ensures.edges id t.buffers)
    ∙ sym (ap view_after (buffer_free-row (with_view (view_by t) f) id (sym c.is_used.ensures ∙ c.if-not-is_used.false) (sym c.has_complete_pipe.ensures.complete ∙ c.if-has_complete_pipe.false) (sym c.has_buffer.ensures ∙ c.if-not-has_buffer.false) (sym c.is_held.ensures ∙ c.if-is_held.false) (sym c.stays_without.ensures ∙ c.if-not-stays_without.false)))
