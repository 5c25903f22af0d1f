-- What is kept where what is up may be a part of a plan, and the rules of one message over it.
use Rattle.std.specs.Prelude.{ℕ, List, [], Option, Some, None, if◌then◌else◌}
use Rattle.std.specs.List.{zip, list_any}
use Rattle.sof_base.specs.Holes.{rounded, fits}
use Rattle.sof_base.specs.declared.errno.Errno.{Errno}
use Rattle.mbox_link.specs.Step.{no_memory, invalid}
use Rattle.tplg_plan.specs.declared.plans.Plan.{Plan}
use Rattle.host_widgets.specs.declared.kept.Power.{Power}
use Rattle.host_widgets.specs.declared.kept.Power.TheVariants as powers
use Rattle.host_widgets.specs.declared.kept.Record.{Record}
use Rattle.host_widgets.specs.Expected.{stated_bytes}
use Rattle.host_widgets.specs.Host.{errno, conflicts}
use Rattle.host_widgets.specs.HostActs.{Make, Prepare, after, Act, fresh_in}
use Rattle.host_widgets.specs.Kept.{first_record, went_down}
use Rattle.host_widgets.specs.ActRules.{ActRules}
use Rattle.host_widgets.specs.There.{There, there_view, there_after, nowhere}
use Rattle.host_widgets.specs.ActMessages.{act_message}

-- ---- what is kept

-- the host's record; the indices that are up, in the order in which they were made; and what is there in the firmware
pub record UpState : Type 0 where
  pub kept : Record
  pub up : List ℕ
  pub there : There

-- before the first command
abbrev pub first_state : Plan → UpState
first_state plan = record { kept = first_record plan; up = []; there = nowhere }

-- while the power is not on, nothing is there
abbrev pub there_by : Power → There → There
there_by powers.On t = t
there_by power t = nowhere

-- with another record
abbrev pub settled : Record → UpState → UpState
settled kept s = record { kept = kept; up = s.up; there = there_by kept.power s.there }

-- the device was cut, and no stream moves
abbrev pub cut_off : UpState → UpState
cut_off s = settled (went_down s.kept) s

-- ---- one message

-- The firmware itself refuses a widget exactly where no hole holds its rounded size, and parameters that do not agree with those of
-- another stream.
abbrev pub up_own : Plan → UpState → Act → Option Errno
up_own plan s (Make id) = if fits (rounded (stated_bytes plan id)) s.there.heap.holes then None else Some (errno no_memory)
up_own plan s (Prepare host p) = if list_any (conflicts plan host p) (zip plan.streams s.kept.streams) then Some (errno invalid) else None
up_own plan s act = None

abbrev pub up_act_rules : Plan → ActRules UpState Act
up_act_rules plan = record {
  own = up_own plan;
  after = λ act s. record { kept = after plan act s.kept; up = s.up; there = there_after plan act s.there };
  view = λ s. there_view s.there;
  fresh = fresh_in plan;
  message = act_message plan;
}
