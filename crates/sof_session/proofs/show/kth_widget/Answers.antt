use Rattle.std.proofs.Common.{refl, sym, ap, ◌∙◌, ℕ, ◌<◌, List, Bool, length, arith}
use Rattle.std.proofs.lemmas.List.FromFn.{length-range_with_len}
use Rattle.stream_law.specs.Order.{is_among}
use Rattle.tplg_plan.specs.declared.plans.Plan.{Plan}
use Rattle.host_widgets.specs.Acts.{widget_ids, widget_words}
use Rattle.host_widgets.proofs.Loadables.{few-widgets}
use Rattle.sof_session.proofs.KthPassing.{kth-there, kth-fewer, one-counted, none-counted, range-at}
use Rattle.sof_session.proofs.show.kth_widget.Goals as goal
use Rattle.sof_session.proofs.show.kth_widget.Goals.{then-has+else-count-k, else-has}

-- a widget that is up
abbrev is_there : Plan → List ℕ → ℕ → Bool
is_there plan up id = is_among up (widget_words plan id).pipe

pub loop-id-init : goal.loop-id-init
loop-id-init c = record { counted = refl; low = omega arith }

pub overflow_cast-id : goal.overflow_cast-id
overflow_cast-id c = omega (arith, few-widgets c.args.plan.now c.requires, c.loop-id-test.true, ap length c.items-id-end.ensures)

pub returns-then-count-k : goal.returns-then-count-k
returns-then-count-k c =
    let plan = c.args.plan.now in
    let id = c.loop-id.id in
    let within : id < length plan.widgets = omega (arith, c.loop-id-test.true, ap length c.items-id-end.ensures) in
    sym (kth-there (is_there plan c.args.up.now) (widget_ids plan) id c.args.k id (range-at (length plan.widgets) id within) (ap (is_among c.args.up.now) (sym c.widget_index.ensures) ∙ sym c.has.ensures ∙ c.if-has.true) (sym c.if-count-k.true ∙ c.loop-id.invariant.counted))

pub overflow_add-count : goal.overflow_add-count
overflow_add-count c = omega (arith, c.loop-id.invariant.low, c.if-count-k.false, c.ranges.k)

pub loop-id-preserved : goal.loop-id-preserved
loop-id-preserved c =
    let plan = c.args.plan.now in
    let id = c.loop-id.id in
    let within : id < length plan.widgets = omega (arith, c.loop-id-test.true, ap length c.items-id-end.ensures) in
    let at = range-at (length plan.widgets) id within in
    let found = ap (is_among c.args.up.now) (sym c.widget_index.ensures) ∙ sym c.has.ensures in
    elim c.if-has.branch [
      | then-has+else-count-k w ↦ record {
        counted = w.count-is ∙ one-counted (is_there plan c.args.up.now) (widget_ids plan) id id c.loop-id.count at (found ∙ w.if-has.true) c.loop-id.invariant.counted;
        low = omega (arith, w.count-is, c.loop-id.invariant.low, w.if-count-k.false);
      }
      | else-has w ↦ record {
        counted = w.count-is ∙ none-counted (is_there plan c.args.up.now) (widget_ids plan) id id c.loop-id.count at (found ∙ w.if-has.false) c.loop-id.invariant.counted;
        low = omega (arith, w.count-is, c.loop-id.invariant.low);
      }
    ]

pub returns : goal.returns
returns c =
    let plan = c.args.plan.now in
    sym (kth-fewer (is_there plan c.args.up.now) (widget_ids plan) c.loop-id.id c.args.k c.loop-id.count
    (omega (arith, c.loop-id-test.false, ap length c.items-id-end.ensures, length-range_with_len 0 (length plan.widgets))) c.loop-id.invariant.counted c.loop-id.invariant.low)
