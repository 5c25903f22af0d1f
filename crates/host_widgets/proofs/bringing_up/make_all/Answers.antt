use Rattle.std.proofs.Common.{ap, subst, ◌∙◌, ℕ, ◌+◌, ◌<◌, map, length, sym, arith}
use Rattle.std.specs.List.{AllByRecursion}
use Rattle.std.proofs.lemmas.List.FromFn.{length-range_with_len}
use Rattle.stream_law.specs.declared.graph.Pipe.{Pipe}
use Rattle.stream_law.proofs.Members.{in-each}
use Rattle.mbox_link.specs.Calls.{world}
use Rattle.host_widgets.specs.Acts.{widget_ids}
use Rattle.host_widgets.proofs.Sublists.{range-low}
use Rattle.host_widgets.proofs.GroupsMade.{brought-sent}
use Rattle.host_widgets.proofs.NamedIds.{few-widgets}
use Rattle.host_widgets.proofs.bringing_up.make_all.Goals as goal

pub make-requires-clause-few : goal.make-requires-clause-few
make-requires-clause-few g c =
    omega (
      arith,
      ap length c.new-made.ensures,
      ap length c.as_slice.ensures.value,
      ap length c.all_widgets-ids.ensures,
      length-range_with_len 0 (length c.args.plan.now.widgets),
      few-widgets c.args.plan.now c.requires.plan,
    )

pub make-requires-clause-low : goal.make-requires-clause-low
make-requires-clause-low g c =
    let plan = c.args.plan.now in
    subst (AllByRecursion (λ (id : ℕ). id < length plan.widgets)) (sym (c.as_slice.ensures.value ∙ c.all_widgets-ids.ensures))
    (in-each (λ (id : ℕ). id < length plan.widgets) (widget_ids plan) (λ id here. let low : id < 0 + length plan.widgets = range-low 0 (length plan.widgets) id here in omega (arith, low)))

pub all_widgets-ids-requires : goal.all_widgets-ids-requires
all_widgets-ids-requires g c = few-widgets c.args.plan.now c.requires.plan

pub returns : goal.returns
returns g c =
    brought-sent g.P.Dsp.means c.args.plan.now c.requires.plan c.args.kept.now _ _ _ _ _ (world c.args.dsp.now c.args.io.now c.args.out.now) (world c.make.new.dsp c.make.new.io c.make.new.out) c.make.result
    (c.as_slice.ensures.value ∙ c.all_widgets-ids.ensures) c.items-joins.ensures (c.as_slice-2.ensures.value ∙ c.all_indices-indices.ensures ∙ ap (map (λ (p : Pipe). p.index)) c.items.ensures) c.make.ensures
