-- The law of written runs that a public call states.
use Rattle.std.specs.Prelude.{◌≡◌, ◌==◌, ◌&&◌, ℕ, List, Bool, true}
use Rattle.std.specs.List.{AllByRecursion, list_any}
use Rattle.std.specs.Option.{option_map_or}
use Rattle.stream_law.specs.declared.graph.Edge.{Edge}
use Rattle.stream_law.specs.State.{View}
use Rattle.stream_law.specs.StreamLaws.{IsRanked}
use Rattle.mbox_link.specs.Meetings.{Doing}
use Rattle.tplg_plan.specs.declared.plans.Plan.{Plan}
use Rattle.tplg_plan.specs.Sound.{IsSound}
use Rattle.host_widgets.specs.HostActs.{Act}
use Rattle.host_widgets.specs.There.{There}
use Rattle.host_widgets.specs.UpState.{UpState}
use Rattle.sof_script.specs.declared.script.Command.{Command}
use Rattle.sof_session.specs.UpCommands.{up_rules}
use Rattle.sof_session.specs.Written.{Basis, Ground, basis_of, At, Leg, IsRun, first_at, end_of}

-- each edge of a view leads to a higher rank: they have no cycle
abbrev pub HasRanks : View → Type 0
HasRanks v = (rank : ℕ → ℕ) × IsRanked v.graph rank

-- Of a sound plan a run is one: the same commands, doings of the device and whole inputs lead to the same legs, with what they
-- answer, show and write.
abbrev pub IsOneRun : {S A : Type 0} → (Ground → Basis S A) → Type 0
IsOneRun {S} basis = (g : Ground) → IsSound g.plan → (doing : Doing) (commands : List Command) (xs ys : List (Leg S)) →
    IsRun (basis g) doing commands (first_at (basis g)) xs → IsRun (basis g) doing commands (first_at (basis g)) ys → xs ≡ ys

-- where all pipelines are made at a load
abbrev pub RunIsOne : Type 0
RunIsOne = IsOneRun basis_of

-- where they are made on use
abbrev pub up_basis : Ground → Basis UpState Act
up_basis g = record { rules = up_rules g.plan g.heap; whole = g.whole; slots = g.slots }

abbrev pub UpRunIsOne : Type 0
UpRunIsOne = IsOneRun up_basis

-- from any place on, where the edges of its view have no cycle
abbrev pub GoesOnAsOne : {S A : Type 0} → (Ground → Basis S A) → Type 0
GoesOnAsOne {S} basis = (g : Ground) → IsSound g.plan → (doing : Doing) (commands : List Command) (old : At S) (xs ys : List (Leg S)) → HasRanks old.past.view →
    IsRun (basis g) doing commands old xs → IsRun (basis g) doing commands old ys → xs ≡ ys

abbrev pub RunGoesOnAsOne : Type 0
RunGoesOnAsOne = GoesOnAsOne basis_of

-- and then they have none where the run ends
abbrev pub KeepsRanks : {S A : Type 0} → (Ground → Basis S A) → Type 0
KeepsRanks {S} basis = (g : Ground) → IsSound g.plan → (doing : Doing) (commands : List Command) (old : At S) (legs : List (Leg S)) → HasRanks old.past.view →
    IsRun (basis g) doing commands old legs → HasRanks (end_of old legs).past.view

abbrev pub RunKeepsRanks : Type 0
RunKeepsRanks = KeepsRanks basis_of

-- ---- where pipelines are made on use

-- the plan joins the ends that a buffer has
abbrev pub is_planned_join : Plan → ℕ → ℕ → Bool
is_planned_join plan source sink = list_any (λ j. j.source == source && j.sink == sink) plan.graph.joins

abbrev pub is_planned_edge : Plan → Edge → Bool
is_planned_edge plan e =
    option_map_or (λ (a : ℕ). is_planned_join plan a e.buffer) e.source true && option_map_or (λ (c : ℕ). is_planned_join plan e.buffer c) e.sink true

-- of each buffer that is there
abbrev pub ArePlannedEdges : Plan → There → Type 0
ArePlannedEdges plan t = AllByRecursion (λ (e : Edge). is_planned_edge plan e ≡ true) t.graph.edges

-- a place whose view has no cycle, and where what is there is joined as the plan joins it
abbrev pub IsRankedPlace : Plan → At UpState → Type 0
IsRankedPlace plan at = HasRanks at.past.view × ArePlannedEdges plan at.known.kept.there

-- from any such place on the run is one
abbrev pub UpRunGoesOnAsOne : Type 0
UpRunGoesOnAsOne = (g : Ground) → IsSound g.plan → (doing : Doing) (commands : List Command) (old : At UpState) (xs ys : List (Leg UpState)) → IsRankedPlace g.plan old →
    IsRun (up_basis g) doing commands old xs → IsRun (up_basis g) doing commands old ys → xs ≡ ys

-- and it ends at such a place
abbrev pub UpRunKeepsRanks : Type 0
UpRunKeepsRanks = (g : Ground) → IsSound g.plan → (doing : Doing) (commands : List Command) (old : At UpState) (legs : List (Leg UpState)) → IsRankedPlace g.plan old →
    IsRun (up_basis g) doing commands old legs → IsRankedPlace g.plan (end_of old legs)

-- the first place is one
abbrev pub UpFirstIsRanked : Type 0
UpFirstIsRanked = (g : Ground) → IsRankedPlace g.plan (first_at (up_basis g))
