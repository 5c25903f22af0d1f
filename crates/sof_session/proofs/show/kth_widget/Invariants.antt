use Rattle.std.proofs.Common.{◌≡◌, ◌≤◌, ℕ, length, take, filter}
use Rattle.stream_law.specs.Order.{is_among}
use Rattle.host_widgets.specs.Acts.{widget_ids, widget_words}
use Rattle.sof_session.proofs.show.kth_widget.Given as goal

abbrev pub invariant-loop-id : goal.invariant-loop-id
invariant-loop-id l = record { counted : l.count ≡ length (filter (λ (id : ℕ). is_among l.up (widget_words l.plan id).pipe) (take l.id (widget_ids l.plan))); low : l.count ≤ l.k }
