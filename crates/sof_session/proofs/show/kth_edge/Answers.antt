use Rattle.std.proofs.Common.{refl, sym, ◌∙◌, List, Bool, None, get_or, arith}
use Rattle.std.specs.Prelude.{ℕ}
use Rattle.std.proofs.lemmas.Option.{slice_get-get_or}
use Rattle.stream_law.specs.Order.{is_among}
use Rattle.stream_law.specs.declared.graph.Edge.{Edge}
use Rattle.sof_session.proofs.KthPassing.{kth-there, kth-fewer, one-counted, none-counted}
use Rattle.sof_session.proofs.show.kth_edge.Goals as goal
use Rattle.sof_session.proofs.show.kth_edge.Goals.{then-has+else-count-k, else-has}

-- an edge that is up
abbrev is_there : List ℕ → Edge → Bool
is_there up e = is_among up e.pipe

-- what is read where there is none
abbrev no_edge : Edge
no_edge = record { buffer = 0; pipe = 0; size = 0; source = None; sink = None }

pub loop-edge-init : goal.loop-edge-init
loop-edge-init c = record { counted = refl; low = omega arith }

pub returns-then-count-k : goal.returns-then-count-k
returns-then-count-k c =
    let edges = c.items-edge-items.result.now in
    let i = c.loop-edge.edge-index in
    rw (← c.items-edge-items.ensures)
    (sym (kth-there (is_there c.args.up.now) edges i c.args.k (get_or edges i no_edge) (slice_get-get_or edges i no_edge c.loop-edge-test.true) (sym c.has.ensures ∙ c.if-has.true) (sym c.if-count-k.true ∙ c.loop-edge.invariant.counted)))

pub overflow_add-count : goal.overflow_add-count
overflow_add-count c = omega (arith, c.loop-edge.invariant.low, c.if-count-k.false, c.ranges.k)

pub loop-edge-preserved : goal.loop-edge-preserved
loop-edge-preserved c =
    let edges = c.items-edge-items.result.now in
    let i = c.loop-edge.edge-index in
    let edge = get_or edges i no_edge in
    let at = slice_get-get_or edges i no_edge c.loop-edge-test.true in
    elim c.if-has.branch [
      | then-has+else-count-k w ↦ record {
        counted = w.count-is ∙ one-counted (is_there c.args.up.now) edges i edge c.loop-edge.count at (sym c.has.ensures ∙ w.if-has.true) c.loop-edge.invariant.counted;
        low = omega (arith, w.count-is, c.loop-edge.invariant.low, w.if-count-k.false);
      }
      | else-has w ↦ record {
        counted = w.count-is ∙ none-counted (is_there c.args.up.now) edges i edge c.loop-edge.count at (sym c.has.ensures ∙ w.if-has.false) c.loop-edge.invariant.counted;
        low = omega (arith, w.count-is, c.loop-edge.invariant.low);
      }
    ]

pub returns : goal.returns
returns c =
    rw (← c.items-edge-items.ensures)
    (sym (kth-fewer (is_there c.args.up.now) c.items-edge-items.result.now c.loop-edge.edge-index c.args.k c.loop-edge.count c.loop-edge-test.false c.loop-edge.invariant.counted c.loop-edge.invariant.low))
