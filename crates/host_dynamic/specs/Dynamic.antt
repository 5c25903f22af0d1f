-- What commands come to where pipelines are made when a stream that needs them is opened, and unmade once no stream does.
use Rattle.std.specs.Prelude.{ℕ, List, [], ◌∷◌, ◌++◌, filter, Bool, true, false, not, Option, Some, None, Ok, Err, if◌then◌else◌}
use Rattle.std.specs.List.{zip, flat_map}
use Rattle.std.specs.Option.{option_map_or, option_or}
use Rattle.stream_law.specs.Past.{Boot, Cut}
use Rattle.stream_law.specs.Order.{is_among}
use Rattle.tplg_plan.specs.declared.plans.Plan.{Plan}
use Rattle.tplg_plan.specs.declared.plans.StreamPlan.{StreamPlan}
use Rattle.tplg_plan.specs.declared.plans.ControlPlan.{ControlPlan}
use Rattle.host_widgets.specs.declared.answers.Answer.TheVariants as answers
use Rattle.host_widgets.specs.declared.answers.HostFault.{HostFault}
use Rattle.host_widgets.specs.declared.answers.HostFault.TheVariants.{Refused, Off}
use Rattle.host_widgets.specs.declared.kept.Power.{Power}
use Rattle.host_widgets.specs.declared.kept.Power.TheVariants as powers
use Rattle.host_widgets.specs.declared.kept.Found.{Found}
use Rattle.host_widgets.specs.declared.kept.StreamRec.{StreamRec}
use Rattle.host_widgets.specs.declared.kept.Record.{Record}
use Rattle.host_widgets.specs.ActLists.{close_by, prepare_acts}
use Rattle.host_widgets.specs.Host.{Outcome}
use Rattle.host_widgets.specs.HostActs.{Act}
use Rattle.host_widgets.specs.Kept.{with_power, with_stream}
use Rattle.host_widgets.specs.Orders.{Procedure, goes_on_after_refusal, end_by, where_on}
use Rattle.host_widgets.specs.Routines.{Routine, Finished, Sending, Job}
use Rattle.host_widgets.specs.UpState.{UpState, first_state, settled, cut_off}
use Rattle.host_pcm.specs.Asks.{is_closed}
use Rattle.host_pcm.specs.StreamCalls.{opened_stream, shut}
use Rattle.host_ctl.specs.ControlAsks.{named_control, read_fault}
use Rattle.host_widgets.specs.Need.{need_in}
use Rattle.host_widgets.specs.UpActs.{making_acts, unmaking_acts}
use Rattle.host_widgets.specs.There.{booted, ids_there_of}
use Rattle.host_widgets.specs.Indices.{is_up}

-- ---- commands that neither make nor unmake

-- the ordinary host's order, with its end
abbrev pub plain_job : Plan → UpState → Procedure → Job UpState Act
plain_job plan s o = record {
  first = o.first;
  from = s;
  routine = Sending o.acts (goes_on_after_refusal o.ending)
      (λ now outcome. let e = end_by o.ending plan o.done s.kept now.kept outcome in Finished (settled e.0 now) e.1);
  answer = o.answer;
}

-- ---- load and unload

-- the device is booted, and no message is sent
abbrev pub loading_job : ℕ → UpState → Job UpState Act
loading_job heap s =
    let now : UpState = record { kept = with_power powers.On s.kept; up = []; there = booted heap } in
    record { first = Boot ∷ []; from = now; routine = Finished now []; answer = answers.Done }

abbrev pub unloading_job : Plan → UpState → Job UpState Act
unloading_job plan s =
    record { first = where_on s.kept.power (Cut ∷ []); from = s; routine = Finished (first_state plan) []; answer = answers.Done }

-- ---- open

-- what a stream needs that is not up, by the ids of pipelines
abbrev pub lacking : Plan → List ℕ → ℕ → List ℕ
lacking plan up host = filter (λ i. not (is_among up i)) (need_in plan.graph host)

abbrev pub with_stream_open : Plan → ℕ → List ℕ → UpState → UpState
with_stream_open plan host n s = record { kept = with_stream plan host opened_stream s.kept; up = s.up ++ n; there = s.there }

-- a failure while unmaking cuts the device
abbrev pub after_unmaking : (UpState → UpState) → UpState → Outcome → Routine UpState Act
after_unmaking done s (Ok passed) = Finished (done s) []
after_unmaking done s (Err fault) = Finished (cut_off (done s)) (Cut ∷ [])

-- what there is of these indices is unmade
abbrev pub unmade : Plan → List ℕ → (UpState → UpState) → UpState → Routine UpState Act
unmade plan n done s = Sending (unmaking_acts plan (ids_there_of plan n s.there)) false (after_unmaking done)

-- a refusal unmakes what was made, and a failed link cuts the device: the stream stays closed, and what is up stays so
abbrev pub after_making : Plan → ℕ → List ℕ → UpState → Outcome → Routine UpState Act
after_making plan host n s (Ok passed) = Finished (with_stream_open plan host n s) []
after_making plan host n s (Err (Refused e)) = unmade plan n (λ now. now) s
after_making plan host n s (Err fault) = Finished (cut_off s) (Cut ∷ [])

-- while the power is off, only what should be there changes
abbrev pub opening_by : Power → Plan → ℕ → List ℕ → UpState → Routine UpState Act
opening_by powers.On plan host n s = Sending (making_acts plan s.kept n) false (after_making plan host n)
opening_by power plan host n s = Finished (with_stream_open plan host n s) []

abbrev pub opening_job : Plan → UpState → ℕ → Job UpState Act
opening_job plan s host =
    record { first = []; from = s; routine = opening_by s.kept.power plan host (lacking plan s.up host) s; answer = answers.Done }

-- ---- close

-- what a stream needs that is not closed
abbrev pub need_of_stream : Plan → StreamPlan × StreamRec → List ℕ
need_of_stream plan (s, r) = if is_closed r.found then [] else need_in plan.graph s.host

-- what all streams need
abbrev pub needed : Plan → Record → List ℕ
needed plan kept = flat_map (need_of_stream plan) (zip plan.streams kept.streams)

abbrev pub without_stream : Plan → ℕ → Record → Record
without_stream plan host kept = with_stream plan host shut kept

-- the indices that no other stream needs, and the rest
abbrev pub parting : Plan → ℕ → UpState → List ℕ
parting plan host s = filter (λ i. not (is_among (needed plan (without_stream plan host s.kept)) i)) s.up

abbrev pub staying : Plan → ℕ → UpState → List ℕ
staying plan host s = filter (is_among (needed plan (without_stream plan host s.kept))) s.up

abbrev pub with_stream_shut : Plan → ℕ → UpState → UpState
with_stream_shut plan host s = record { kept = without_stream plan host s.kept; up = staying plan host s; there = s.there }

-- once the stream is stopped and freed, what no other needs is unmade; after a refusal nothing is
abbrev pub after_closing : Plan → ℕ → UpState → Outcome → Routine UpState Act
after_closing plan host s (Ok passed) = unmade plan (parting plan host s) (with_stream_shut plan host) s
after_closing plan host s (Err (Refused e)) = Finished s []
after_closing plan host s (Err fault) = Finished (cut_off s) (Cut ∷ [])

abbrev pub closing_by : Power → Plan → ℕ → Found → UpState → Routine UpState Act
closing_by powers.On plan host found s = Sending (close_by host found) false (after_closing plan host)
closing_by power plan host found s = Finished (with_stream_shut plan host s) []

abbrev pub closing_job : Plan → UpState → ℕ → Found → Job UpState Act
closing_job plan s host found = record { first = []; from = s; routine = closing_by s.kept.power plan host found s; answer = answers.Done }

-- ---- resume

-- a failure cuts the device, and what is kept is as before
abbrev pub after_resuming : UpState → UpState → Outcome → Routine UpState Act
after_resuming before now (Ok passed) = Finished (record { kept = with_power powers.On now.kept; up = now.up; there = now.there }) []
after_resuming before now (Err fault) = Finished before (Cut ∷ [])

-- all that is up is made in its order, and each prepared stream has its parameters again
abbrev pub resuming_job : Plan → ℕ → UpState → Job UpState Act
resuming_job plan heap s = record {
  first = Boot ∷ [];
  from = record { kept = s.kept; up = s.up; there = booted heap };
  routine = Sending (making_acts plan s.kept s.up ++ flat_map prepare_acts (zip plan.streams s.kept.streams)) false (after_resuming s);
  answer = answers.Done;
}

-- ---- controls whose component is not up

abbrev pub is_control_up : Plan → List ℕ → List ℕ → Bool
is_control_up plan up name = option_map_or (λ (k : ControlPlan). is_up plan.graph up k.comp) (named_control plan name) true

-- the record alone changes
abbrev pub unsent : Procedure → Procedure
unsent o = record { first = o.first; acts = []; ending = o.ending; done = o.done; answer = o.answer }

abbrev pub control_order : Plan → List ℕ → List ℕ → Procedure → Procedure
control_order plan up name o = if is_control_up plan up name then o else unsent o

-- what is asked of the firmware asks for the power, and that the component is up
abbrev pub read_up_fault : Plan → UpState → List ℕ → Option HostFault
read_up_fault plan s name = option_or (read_fault plan s.kept name) (if is_control_up plan s.up name then None else Some Off)
