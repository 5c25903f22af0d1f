-- What is so of the streams of every state.
use Rattle.std.specs.Prelude.{◌≡◌, ℕ, ◌≤◌, List, Bool, true, false, Option, Some, None}
use Rattle.std.specs.List.{AllByRecursion}
use Rattle.sof_base.specs.declared.format.Params.{Params}
use Rattle.stream_law.specs.declared.graph.Graph.{Graph}
use Rattle.stream_law.specs.declared.stream.Phase.{Phase}
use Rattle.stream_law.specs.declared.stream.Phase.TheVariants.{Idle}
use Rattle.stream_law.specs.declared.stream.StreamView.{StreamView}
use Rattle.stream_law.specs.Placed.{HasDistinct}
use Rattle.stream_law.specs.State.{View}
use Rattle.stream_law.specs.Ways.{is_live_phase, agree}
use Rattle.mbox_link.specs.Step.{has_kind, kind_at, is_host, is_rate, is_way_ready}

-- whether a phase is Idle
abbrev pub is_idle : Phase → Bool
is_idle Idle = true
is_idle phase = false

-- a host's stream is Idle and without parameters, or has a right rate, 1 to 8 channels and a way that is ready
abbrev pub IsSetBy : Graph → ℕ → Bool → Option Params → Type 0
IsSetBy g host idle None = idle ≡ true
IsSetBy g host idle (Some p) = (idle ≡ false) × ((1 ≤ p.channels) × (p.channels ≤ 8)) × (is_rate p.rate ≡ true) × (is_way_ready g host ≡ true)

abbrev pub IsStreamSet : Graph → StreamView → Type 0
IsStreamSet g s = IsSetBy g s.host (is_idle s.phase) s.params

-- What is so of the streams of a view: each belongs to a host of its own and is set as it should, and they agree.
pub record AreStreamsPlayable (v : View) : Type 0 where
  pub hosts : HasDistinct (λ s. s.host) v.streams
  pub owned : AllByRecursion (λ s. has_kind is_host (kind_at v.graph s.host) ≡ true) v.streams
  pub each : AllByRecursion (IsStreamSet v.graph) v.streams
  pub agreed : agree v ≡ true

-- a change of streams leaves the hosts of all, and the parameters of those that are Live
abbrev pub KeepsLive : (StreamView → StreamView) → List StreamView → Type 0
KeepsLive to streams = AllByRecursion (λ s. ((to s).host ≡ s.host) × (is_live_phase s.phase ≡ true → (to s).params ≡ s.params)) streams
