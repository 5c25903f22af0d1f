use Rattle.std.proofs.Common.{◌≡◌, ℕ, List, [], ◌∷◌, unwrap_or, refl, subst, sym, ap, ◌∙◌}
use Rattle.tplg_plan.specs.declared.plans.ControlPlan.{ControlPlan}
use Rattle.host_widgets.specs.declared.answers.Answer.TheVariants.{Done}
use Rattle.host_widgets.specs.declared.kept.Record.{Record}
use Rattle.host_widgets.specs.Host.{IsRecordOf}
use Rattle.host_widgets.specs.HostActs.{Put, with_values}
use Rattle.host_widgets.specs.Kept.{with_control}
use Rattle.host_widgets.specs.Orders.{Procedure}
use Rattle.host_ctl.specs.ControlAsks.{channels_of, spread}
use Rattle.host_ctl.specs.ControlPlaces.{control_here, with_values_at}
use Rattle.host_ctl.proofs.ControlsThere.{place-changed, within}
use Rattle.host_ctl.proofs.ControlsTaken.{set-all}
use Rattle.host_ctl.proofs.ControlCalls.{place-control}
use Rattle.host_ctl.proofs.ControlOrdered.{sends-done, set-named}
use Rattle.host_ctl.proofs.ControlTests.{place-low, settable-here}
use Rattle.host_ctl.proofs.PutStands.{put-record}
use Rattle.host_ctl.proofs.commands.keep_values.Goals as goal

pub all_values-all-requires-clause-values : goal.all_values-all-requires-clause-values
all_values-all-requires-clause-values c = (settable-here c.args.plan.now c.requires.plan c.args.kept.now c.requires.kept c.args.name.now c.in_ok-place.place c.in_ok-place.ensures.place c.args.values.now c.in_ok-place.ensures.none).values_few

pub keep-requires : goal.keep-requires
keep-requires c = within c.args.plan.now c.requires.plan c.args.kept.now c.requires.kept c.in_ok-place.place (place-low c.args.plan.now c.args.name.now c.in_ok-place.place c.in_ok-place.ensures.place)

pub returns : goal.returns
returns c =
    let plan = c.args.plan.now in
    let kept = c.args.kept.now in
    let name = c.args.name.now in
    let sound = c.requires.plan in
    let is = c.requires.kept in
    let i = c.in_ok-place.place in
    let at = c.in_ok-place.ensures.place in
    let low = place-low plan name i at in
    let k = control_here plan i in
    let all : c.all_values-all.result ≡ spread (unwrap_or (channels_of k.kind) 0) c.args.values.now = c.all_values-all.ensures ∙ ap (λ (x : ControlPlan). spread (unwrap_or (channels_of x.kind) 0) c.args.values.now) (place-control plan i low c.items.result.now _ c.items.ensures) in
    let vs = spread (unwrap_or (channels_of k.kind) 0) c.args.values.now in
    let may = (settable-here plan sound kept is name i at c.args.values.now c.in_ok-place.ensures.none).may in
    record {
      kept = record {
        early = λ f e. absurd (cc (sym c.in_ok-place.ensures.none ∙ e));
        late = λ none. (
          refl,
          c.keep.ensures ∙ ap (λ (xs : List ℕ). with_values_at i xs kept) all ∙ place-changed plan sound kept is i low vs
              ∙ ap (λ (f : Record → Record). f kept) (sym (sends-done kept.power (Put k.comp vs ∷ []) (with_control plan k.comp (with_values vs)) Done))
              ∙ ap (λ (o : Procedure). o.done kept) (set-named plan sound kept is name i at c.args.values.now),
        );
      };
      record_is = subst (IsRecordOf plan) (sym (c.keep.ensures ∙ ap (λ (xs : List ℕ). with_values_at i xs kept) all ∙ place-changed plan sound kept is i low vs))
          (put-record plan kept k.comp (with_values vs) (λ c. refl) is (set-all plan sound kept is i low vs may));
    }
