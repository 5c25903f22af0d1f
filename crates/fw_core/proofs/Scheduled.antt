-- What a message that changes nothing, or only what is set, leaves current.
use Rattle.std.proofs.Common.{◌≡◌, ◌∙◌, sym, ap, ℕ, ℤ, Bool, true, false, cond, not, ◌&&◌, ◌||◌, Result, Ok, Err, refl}
use Rattle.std.proofs.lemmas.Bool.{true≢false, false≢true, and_parts}
use Rattle.std.specs.Prelude.{IfOk, is_some}
use Rattle.sof_base.specs.declared.errno.Errno.{Errno}
use Rattle.ipc3_model.specs.declared.reply.Body.{Body}
use Rattle.ipc3_model.specs.declared.message.Message.{Message}
use Rattle.ipc3_model.specs.declared.message.Message.TheVariants.{GetValue, GetData}
use Rattle.ipc3_model.specs.declared.fault.CodecFault.{CodecFault}
use Rattle.stream_law.specs.State.{FwState, view_of}
use Rattle.mbox_link.specs.Step.{row, row_of, body, body_of, no_device, invalid, is_used, control_values_at, part_at}
use Rattle.fw_heap.specs.Regions.{RegionState}
use Rattle.fw_components.specs.Tables.{Tables, view_by}
use Rattle.fw_schedule.specs.declared.schedules.Schedule.{Schedule}
use Rattle.fw_schedule.specs.Schedules.{IsScheduleOf}
use Rattle.fw_schedule.proofs.ScheduleLaws.{schedule-seen, schedule-kept, KeepsSteps}
use Rattle.fw_core.specs.Held.{state_in}
use Rattle.fw_core.specs.Answers.{IsRow}
use Rattle.fw_core.specs.Unchanged.{tells, changes_nothing, keeps_steps}
use Rattle.fw_core.proofs.SetRows.{keeps-row}

two-tests : (a b : Bool) (e n : ℤ) (h g : FwState) → cond a (Err e) (cond b (Err n) (Ok h)) ≡ Ok g → h ≡ g
two-tests true b e n h g is = cc
two-tests false true e n h g is = cc
two-tests false false e n h g is = cc

-- a message that tells something leaves the state
told-same : (f g : FwState) (m : Message) → tells (body f m) ≡ true → row f m ≡ Ok g → f ≡ g
told-same f g (GetValue id command) told is = two-tests (not (is_used f.graph id)) (not (is_some (control_values_at f.graph id command))) no_device invalid f g is
told-same f g (GetData id index) told is = two-tests (not (is_used f.graph id)) (not (is_some (part_at f.graph id index))) no_device invalid f g is
told-same f g m told is = absurd (false≢true told)

same-of : (f g : FwState) (d : Result Message CodecFault) → tells (body_of f d) ≡ true → row_of f d ≡ Ok g → f ≡ g
same-of f g (Ok m) told is = told-same f g m told is
same-of f g (Err fault) told is = absurd (false≢true told)

same-view : (t u : Tables) (r s : RegionState) (answer : Result Body Errno) (d : Result Message CodecFault) → changes_nothing answer ≡ true → IsRow (λ f. row_of f d) t u r s answer → IfOk answer (λ said. (clock : ℕ) → said ≡ body_of (state_in t r clock) d) → view_by t ≡ view_by u
same-view t u r s (Ok told) d nothing row said = ap view_of (same-of (state_in t r 0) (state_in u s 0) d (ap tells (sym (said 0)) ∙ nothing) (sym (row.told 0)))
same-view t u r s (Err error) d nothing row said = ap view_by (sym row.kept.0)

set-view : (t u : Tables) (r s : RegionState) (answer : Result Body Errno) (d : Result Message CodecFault) → changes_nothing answer ≡ false → keeps_steps d ≡ true → IsRow (λ f. row_of f d) t u r s answer → KeepsSteps (view_by t) (view_by u)
set-view t u r s (Ok said) d some sets row = keeps-row (state_in t r 0) (state_in u s 0) d sets (sym (row.told 0))
set-view t u r s (Err error) d some sets row = absurd (true≢false some)

-- a schedule that is still current is that of the tables
pub still-scheduled : (t u : Tables) (r s : RegionState) (answer : Result Body Errno) (d : Result Message CodecFault) (schedule : Schedule) (current : Bool) → (current ≡ true → IsScheduleOf t schedule) → IsRow (λ f. row_of f d) t u r s answer → IfOk answer (λ said. (clock : ℕ) → said ≡ body_of (state_in t r clock) d) → (current && (changes_nothing answer || keeps_steps d)) ≡ true → IsScheduleOf u schedule
still-scheduled t u r s answer d schedule current was row said still =
    let both = and_parts current (changes_nothing answer || keeps_steps d) still in
    by (changes_nothing answer) refl both.1 (was both.0)
  where
    by : (h : Bool) → changes_nothing answer ≡ h → (h || keeps_steps d) ≡ true → IsScheduleOf t schedule → IsScheduleOf u schedule
    by true nothing one old = schedule-seen t u schedule (same-view t u r s answer d nothing row said) old
    by false some sets old = schedule-kept t u schedule (set-view t u r s answer d some sets row) old
