use Rattle.std.proofs.Common.{◌≡◌}
use Rattle.host_widgets.specs.Controls as law
use Rattle.host_widgets.proofs.Firsts.{from}
use Rattle.host_widgets.proofs.controls.first_full.Given as goal

-- no value so far is the first
abbrev pub invariant-loop-value : goal.invariant-loop-value
invariant-loop-value l =
    from (law.has_full_gain l.fn.lowest l.fn.step l.fn.mute) l.fn.max l.fn.min ≡ from (law.has_full_gain l.fn.lowest l.fn.step l.fn.mute) l.fn.max l.value
