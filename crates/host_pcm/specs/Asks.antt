-- What may be asked of a stream, and when it is refused before any message.
use Rattle.std.specs.Prelude.{ℕ, List, get_or, Bool, true, false, not, Option, Some, None, position, if◌then◌else◌}
use Rattle.tplg_model.specs.declared.pcm.Caps.{Caps}
use Rattle.tplg_plan.specs.declared.plans.Plan.{Plan}
use Rattle.host_widgets.specs.declared.answers.HostFault.{HostFault}
use Rattle.host_widgets.specs.declared.answers.HostFault.TheVariants.{NoSuch, State, Off}
use Rattle.host_widgets.specs.declared.kept.Found.{Found}
use Rattle.host_widgets.specs.declared.kept.Found.TheVariants.{Closed}
use Rattle.host_widgets.specs.declared.kept.Power.{Power}
use Rattle.host_widgets.specs.declared.kept.Power.TheVariants as powers
use Rattle.host_widgets.specs.declared.kept.StreamRec.{StreamRec}
use Rattle.host_widgets.specs.declared.kept.Record.{Record}
use Rattle.host_widgets.specs.HostRecord.{closed, no_stream}
use Rattle.host_widgets.specs.StreamStands.{takes_trigger, takes_params}
use Rattle.host_widgets.specs.Named.{is_named, loaded_fault}
use Rattle.host_pcm.specs.StreamRanges.{params_fault}
use Rattle.host_pcm.specs.declared.asking.Ask.{Ask}
use Rattle.host_pcm.specs.declared.asking.Ask.TheVariants.{Opening, Preparing, Triggering, Closing}

-- ---- the tests before any message, in their order: NotLoaded, NoSuch, Off, State, Range

-- the place of the stream of this name among the plan's streams: a stream has the name of its host
abbrev pub stream_place : Plan → List ℕ → Option ℕ
stream_place plan name = position (λ s. is_named plan name s.host) plan.streams

abbrev pub is_closed : Found → Bool
is_closed Closed = true
is_closed found = false

-- a stream that stands so may be asked this
abbrev pub takes_ask : Ask → Found → Bool
takes_ask Opening found = is_closed found
takes_ask (Preparing params) found = takes_params found
takes_ask (Triggering what) found = takes_trigger what found
takes_ask Closing found = not (is_closed found)

-- all but an opening and a closing ask for the power
abbrev pub asks_for_power : Ask → Bool
asks_for_power Opening = false
asks_for_power Closing = false
asks_for_power ask = true

-- parameters are tested against what the stream's PCM can do
abbrev pub range_fault : Caps → Ask → Option HostFault
range_fault caps (Preparing p) = params_fault caps p
range_fault caps ask = None

-- the tests of a stream that stands so
abbrev pub found_fault : Caps → Ask → Found → Option HostFault
found_fault caps ask found = if not (takes_ask ask found) then Some (State found) else range_fault caps ask

-- the tests of a stream, by the power
abbrev pub power_fault : Caps → Ask → Found → Power → Option HostFault
power_fault caps ask found powers.Off = if asks_for_power ask then Some Off else found_fault caps ask found
power_fault caps ask found power = found_fault caps ask found

-- the record of the stream at a place
abbrev pub stream_at : Record → ℕ → StreamRec
stream_at kept k = get_or kept.streams k closed

-- the tests where something is loaded
abbrev pub named_fault : Plan → Record → List ℕ → Ask → Option ℕ → Option HostFault
named_fault plan kept name ask None = Some (NoSuch name)
named_fault plan kept name ask (Some k) = power_fault (get_or plan.streams k no_stream).caps ask (stream_at kept k).found kept.power

-- the first test that fails
abbrev pub early_fault : Plan → Record → List ℕ → Ask → Option HostFault
early_fault plan kept name ask = loaded_fault kept.power (named_fault plan kept name ask (stream_place plan name))
