use Rattle.std.proofs.Common.{sym, ap, ◌∙◌, List, map, Ok, Result, ℤ}
use Rattle.fw_units.specs.Units.{comp_by, edge_by}
use Rattle.fw_components.specs.Tables.{Tables, graph_of, view_by, streams_of}
use Rattle.stream_law.specs.declared.graph.Pipe.{Pipe}
use Rattle.stream_law.specs.State.{View}
use Rattle.fw_pipeline.specs.Rows.{view_after, with_view}
use Rattle.fw_walks.proofs.Naming.{pipe-named}
use Rattle.fw_pipeline.proofs.CompletingRow.{complete-row, terms-named, are-pipelines}
use Rattle.fw_pipeline.proofs.completing.complete.Goals as goal

pub set_complete-requires : goal.set_complete-requires
set_complete-requires c = pipe-named c.args.registry.now c.args.id ∙ terms-named (graph_of c.args.registry.now).pipes c.args.id (c.in-Some.sched, c.in-Some.complete) (sym c.terms.ensures.found ∙ c.in-Some.is)

pub returns-clause-answer : goal.returns-clause-answer
returns-clause-answer c = λ f.
    let t : Tables = c.args.registry.now in
    ap (λ (t : Tables). let r : Result View ℤ = Ok (view_by t) in r) c.set_complete.ensures
    ∙ ap (λ (pipes : List Pipe). let r : Result View ℤ = Ok (record { graph = record { comps = map comp_by t.comps; edges = map edge_by t.buffers; pipes = pipes; joins = t.joins }; streams = streams_of t }) in r) (c.completions_are_seen.ensures c.args.id t.pipes (are-pipelines t.pipes c.terms.ensures.kept.piping))
    ∙ sym (ap view_after (complete-row (with_view (view_by t) f) c.args.id c.in-Some.sched c.in-Some.complete (sym c.is_used.ensures ∙ c.if-not-is_used.false) (sym c.terms.ensures.found ∙ c.in-Some.is) (sym c.is_used-2.ensures ∙ c.if-not-is_used-2.false) c.if-complete.false (sym c.has_comp.ensures ∙ c.if-not-has_comp.false)))
