use Rattle.std.proofs.Common.{◌≤◌, sym, ap, ◌∙◌, List, ◌++◌, get_or, arith}
use Rattle.stream_law.specs.declared.graph.Join.{Join}
use Rattle.host_widgets.specs.Up.{buffer_joins}
use Rattle.host_dynamic.proofs.ListedPipelines.{flat-more, few-listed}
use Rattle.host_dynamic.proofs.lists.list_joins.Goals as goal

pub joins_at-listed-requires : goal.joins_at-listed-requires
joins_at-listed-requires c =
    let few : c.loop-index.listed ≤ 576 = few-listed (buffer_joins c.args.graph.now) c.args.indices.now c.loop-index.index-index c.loop-index.listed c.loop-index.list c.loop-index-test.true c.loop-index.invariant.fits c.loop-index.invariant.joins c.requires.few in
    omega (arith, few, c.requires.joins, c.loop-index.invariant.size)

pub loop-index-preserved : goal.loop-index-preserved
loop-index-preserved c =
    let f = buffer_joins c.args.graph.now in let n = c.args.indices.now in let k = c.loop-index.index-index in
    let few : c.loop-index.listed ≤ 576 = few-listed f n k c.loop-index.listed c.loop-index.list c.loop-index-test.true c.loop-index.invariant.fits c.loop-index.invariant.joins c.requires.few in
    record {
      joins = c.joins_at-listed.ensures.joins ∙ ap (λ (js : List Join). js ++ f (get_or n k 0)) c.loop-index.invariant.joins ∙ sym (flat-more f n k c.loop-index-test.true);
      fits = omega (arith, few, c.joins_at-listed.ensures.few, c.requires.joins, c.loop-index.invariant.size, c.joins_at-listed.ensures.size);
      size = omega (arith, c.loop-index.invariant.size, c.joins_at-listed.ensures.size);
    }
