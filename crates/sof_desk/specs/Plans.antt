-- Calls that are planned to fail.
use Rattle.std.specs.Prelude.{ℕ, Bool, nat_eq, find, List, Option}
use Rattle.std.specs.Option.{option_map}
use Rattle.sof_desk.specs.declared.plan.Planned.{Planned}

-- whether a plan is for the call of a number
abbrev pub is_for : ℕ → Planned → Bool
is_for number plan = nat_eq plan.number number

-- how many bytes the call of a number passes, where it is planned to fail
abbrev pub planned_at : ℕ → List Planned → Option ℕ
planned_at number plans = option_map (λ plan. plan.passes) (find (is_for number) plans)
