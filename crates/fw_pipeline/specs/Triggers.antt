-- The rows of messages that start, stop, pause, release and free streams, and what they leave of the tables.
use Rattle.std.specs.Prelude.{◌≡◌, ℕ, ℤ, List, [], ◌∷◌, Bool, true, false, ◌&&◌, not, map, find, if◌then◌else◌, ◌==◌, Option, None, option_and_then, Result}
use Rattle.sof_base.specs.declared.format.Params.{Params}
use Rattle.stream_law.specs.declared.stream.Phase.{Phase}
use Rattle.stream_law.specs.declared.stream.Phase.TheVariants.{Idle, Prepared, Running, Paused}
use Rattle.stream_law.specs.State.{FwState, View}
use Rattle.stream_law.specs.Ways.{live, rate_of, channels_of, is_live_phase, is_running_phase}
use Rattle.stream_law.specs.Seen.{flows}
use Rattle.mbox_link.specs.Step as rows
use Rattle.fw_units.specs.declared.component.Component.{Component}
use Rattle.fw_units.specs.declared.component.Unit as units
use Rattle.fw_units.specs.declared.component.Unit.TheVariants.{Host}
use Rattle.fw_components.specs.Tables.{Tables, view_by}
use Rattle.fw_units.specs.Changes.{set_at, ended_unit}
use Rattle.fw_units.specs.Frames.{begun_by, kept_words, IsFresh, staged_by}
use Rattle.fw_pipeline.specs.declared.phases.Trigger.{Trigger}
use Rattle.fw_pipeline.specs.declared.phases.Trigger.TheVariants.{Start, Stop, Pause, Release, Free}

-- the row that does what is asked for
abbrev pub triggered : Trigger → FwState → ℕ → Result FwState ℤ
triggered Start f host = rows.trigger f host rows.is_prepared Running
triggered Stop f host = rows.trigger f host is_live_phase Prepared
triggered Pause f host = rows.trigger f host is_running_phase Paused
triggered Release f host = rows.trigger f host rows.is_paused Running
triggered Free f host = rows.pcm_free f host

-- the phases that it leaves, the phase that it leads to, and the parameters that it keeps
abbrev pub leaves : Trigger → Phase → Bool
leaves Start = rows.is_prepared
leaves Stop = is_live_phase
leaves Pause = is_running_phase
leaves Release = rows.is_paused
leaves Free = rows.is_prepared

abbrev pub phase_after : Trigger → Phase
phase_after Start = Running
phase_after Stop = Prepared
phase_after Pause = Paused
phase_after Release = Running
phase_after Free = Idle

abbrev pub params_after : Trigger → Option Params → Option Params
params_after Start params = params
params_after Stop params = params
params_after Pause params = params
params_after Release params = params
params_after Free params = None

-- the parameters of a host's stream
abbrev pub params_of : View → ℕ → Option Params
params_of v host = option_and_then (λ s. s.params) (find (λ s. s.host == host) v.streams)

-- the parameters that a unit's stream has where it is in a phase to leave
abbrev pub left_by : Trigger → units.Unit → Option Params
left_by what (Host capture phase params piece) = if leaves what phase then params else None
left_by what unit = None

-- ---- what begins

-- x becomes Live
abbrev pub begins : View → View → ℕ → Bool
begins old new x = live new x && not (live old x)

-- What begins has so many channels from then on, at so many frames a second; its ring is empty, an equaliser's epoch begins, and what is
-- staged of its blob stays; a volume has the gains that are set. What does not begin is as it was.
abbrev pub IsBegun : (channels rate : ℕ) → Bool → Component → Component → Type 0
IsBegun channels rate true c d = (d ≡ begun_by channels rate (kept_words d) c) × (IsFresh d.unit × (staged_by d.unit ≡ staged_by c.unit))
IsBegun channels rate false c d = d ≡ c

-- each of one list becomes the one at its place in another
abbrev pub BecomeEach : (Component → Component → Type 0) → List Component → List Component → Type 0
BecomeEach R [] [] = Unit {0}
BecomeEach R [] (d ∷ ds) = ⊥
BecomeEach R (c ∷ cs) [] = ⊥
BecomeEach R (c ∷ cs) (d ∷ ds) = R c d × BecomeEach R cs ds

-- ---- what is left of buffers

-- a buffer that begins
abbrev pub begun_in : View → View → Component → Component
begun_in old new c = if begins old new c.id then begun_by (channels_of new c.id) (rate_of new c.id) [] c else c

-- a buffer in which no frame may lie is empty
abbrev pub settled_in : View → Component → Component
settled_in new c = if flows new c.id then c else record { id = c.id; pipe = c.pipe; channels = c.channels; unit = ended_unit c.unit }

-- ---- all of it

-- What is left of tables: the host has its phase and its parameters, what becomes Live begins with the channels and the rate of its stream, and
-- a buffer in which no frame may lie is empty. All else is as it was.
pub record IsTriggered (what : Trigger) (host : ℕ) (t u : Tables) : Type 0 where
  pub comps : BecomeEach (λ c d. IsBegun (channels_of (view_by u) c.id) (rate_of (view_by u) c.id) (begins (view_by t) (view_by u) c.id) c d)
      (map (set_at host (phase_after what) (params_after what (params_of (view_by t) host))) t.comps) u.comps
  pub buffers : u.buffers ≡ map (λ c. settled_in (view_by u) (begun_in (view_by t) (view_by u) c)) t.buffers
  pub pipes : u.pipes ≡ t.pipes
  pub joins : u.joins ≡ t.joins
