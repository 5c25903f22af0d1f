use Rattle.std.proofs.Common.{rules, ap, ◌∙◌, ℕ, filter}
use Rattle.stream_law.specs.Order.{is_among}
use Rattle.arrayvec.proofs.ArrayVecLemmas.{filter-from_retain}
use Rattle.host_widgets.specs.Acts.{widget_words}
use Rattle.host_dynamic.proofs.opening.widgets_in.Goals as goal

pub returns : goal.returns
returns c = filter-from_retain _ _ _ (λ x b f' y k. search rules) _ _ c.retain.ensures.filtered ∙ ap (filter (λ (id : ℕ). is_among c.args.indices.now (widget_words c.args.plan.now id).pipe)) c.all_widgets-ids.ensures
