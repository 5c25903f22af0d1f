-- How what all streams need is found at once: walks go from marks, and what they lead to is noted with all that it brings.
use Rattle.std.specs.Prelude.{◌≡◌, ◌==◌, ℕ, List, ◌++◌, set, slice_index_or, is_some, Bool, true, false, ◌&&◌, Option, Some, None, if◌then◌else◌}
use Rattle.std.specs.List.{AllByRecursion, IsDistinct}
use Rattle.stream_law.specs.declared.graph.Comp.{Comp}
use Rattle.stream_law.specs.declared.graph.Edge.{Edge}
use Rattle.stream_law.specs.declared.graph.Pipe.{Pipe}
use Rattle.stream_law.specs.declared.graph.Join.{Join}
use Rattle.stream_law.specs.declared.graph.Graph.{Graph}
use Rattle.stream_law.specs.Ways.{splits, is_of, is_capture}
use Rattle.stream_law.specs.Order.{is_among}
use Rattle.tplg_plan.specs.declared.plans.StreamPlan.{StreamPlan}
use Rattle.host_widgets.specs.declared.kept.StreamRec.{StreamRec}
use Rattle.host_pcm.specs.Asks.{is_closed}
use Rattle.host_widgets.specs.Need.{end_index, HasAt, HasBrought}
use Rattle.host_dynamic.specs.Noting.{led_to, is_unwalked, walk_to, with_index}
use Rattle.host_widgets.specs.Indices.{index_at, pipe_indices}

-- ---- marks

-- a set has the indices of all that walks lead to from an id, or to it
abbrev pub Allows : Graph → Bool → (ℕ → Bool) → ℕ → Type 0
Allows g back p x = (y : ℕ) → led_to g back x y ≡ true → HasAt p (index_at g y)

-- from each that is marked
abbrev pub AllAllowed : Graph → Bool → (ℕ → Bool) → List Bool → Type 0
AllAllowed g back p marks = (x : ℕ) → slice_index_or marks x false ≡ true → Allows g back p x

-- what is marked stays so
abbrev pub AreKept : List Bool → List Bool → Type 0
AreKept before after = (x : ℕ) → slice_index_or before x false ≡ true → slice_index_or after x false ≡ true

-- marks along a join
abbrev pub passed : Bool → Join → List Bool → List Bool
passed back j marks = if is_unwalked marks back j then set marks (walk_to back j) true else marks

-- a component that splits, and whose index is noted, is marked
abbrev pub split_marked : List ℕ → Comp → List Bool → List Bool
split_marked has c marks = if splits c.kind && is_among has c.pipe then set marks c.id true else marks

-- a closed set that has all that the walks lead to
pub record IsClosedOver (g : Graph) (onward back : List Bool) (p : ℕ → Bool) : Type 0 where
  pub closed : HasBrought g p
  pub allowed : AllAllowed g false p onward
  pub allowed_back : AllAllowed g true p back

-- where the walks of a host's stream begin
abbrev pub host_onward : Graph → ℕ → List Bool → List Bool
host_onward g host marks = if is_of g is_capture host then marks else set marks host true

abbrev pub host_back : Graph → ℕ → List Bool → List Bool
host_back g host marks = if is_of g is_capture host then set marks host true else marks

-- those of a stream's, unless it is closed
abbrev pub stream_onward : Graph → StreamPlan × StreamRec → List Bool → List Bool
stream_onward g (s, r) marks = if is_closed r.found then marks else host_onward g s.host marks

abbrev pub stream_back : Graph → StreamPlan × StreamRec → List Bool → List Bool
stream_back g (s, r) marks = if is_closed r.found then marks else host_back g s.host marks

-- ---- indices

-- the index of each component and buffer, by its id
abbrev pub IsTable : Graph → List (Option ℕ) → Type 0
IsTable g table = (x : ℕ) → slice_index_or table x None ≡ index_at g x

-- an id has an index, unless it has one
abbrev pub put_index : ℕ → ℕ → List (Option ℕ) → List (Option ℕ)
put_index id index table = if is_some (slice_index_or table id None) then table else set table id (Some index)

-- an index is noted, where there is one
abbrev pub with_at : Option ℕ → List ℕ → List ℕ
with_at None has = has
with_at (Some i) has = with_index i has

-- that of what is marked
abbrev pub mark_noted : Graph → List Bool → ℕ → List ℕ → List ℕ
mark_noted g marks x has = if slice_index_or marks x false then with_at (index_at g x) has else has

-- that of a pipeline's scheduler, and that at an end of a buffer
abbrev pub scheduler_noted : Graph → Pipe → List ℕ → List ℕ
scheduler_noted g p has = if is_among has p.index then with_at (index_at g p.sched) has else has

abbrev pub end_noted : Graph → ℕ → Option ℕ → List ℕ → List ℕ
end_noted g index end has = if is_among has index then with_at (end_index g end) has else has

-- indices of pipelines, each once
pub record AreOnceNoted (g : Graph) (has : List ℕ) : Type 0 where
  pub distinct : IsDistinct (λ m n. m == n) has
  pub within : AllByRecursion (λ i. is_among (pipe_indices g) i ≡ true) has

-- a set has all that is noted
abbrev pub HasNoted : (ℕ → Bool) → List ℕ → Type 0
HasNoted p has = (i : ℕ) → is_among has i ≡ true → p i ≡ true

-- more is noted, each once, and no more than closed sets have of which this is so
pub record NotesMore (g : Graph) (Q : (ℕ → Bool) → Type 0) (before after : List ℕ) : Type 0 where
  pub grown : (xs : List ℕ) × (after ≡ before ++ xs)
  pub once : AreOnceNoted g after
  pub sound : (p : ℕ → Bool) → HasBrought g p → Q p → HasNoted p before → HasNoted p after

-- what is brought by what was noted before
abbrev pub BringsScheduler : Graph → List ℕ → List ℕ → Pipe → Type 0
BringsScheduler g before after p = is_among before p.index ≡ true → HasAt (is_among after) (index_at g p.sched)

abbrev pub BringsEnds : Graph → List ℕ → List ℕ → Edge → Type 0
BringsEnds g before after e = is_among before e.pipe ≡ true → HasAt (is_among after) (end_index g e.source) × HasAt (is_among after) (end_index g e.sink)

abbrev pub IsSplitMarked : List ℕ → List Bool → Comp → Type 0
IsSplitMarked has marks c = splits c.kind ≡ true → is_among has c.pipe ≡ true → slice_index_or marks c.id false ≡ true

-- One round: what is marked and noted grows by no more than closed sets have; and where nothing new is noted, what is noted is closed.
pub record SpreadStep (g : Graph) (onward back : List Bool) (has : List ℕ) (onward_then back_then : List Bool) (has_then : List ℕ) : Type 0 where
  pub marked : AreKept onward onward_then
  pub marked_back : AreKept back back_then
  pub grown : (xs : List ℕ) × (has_then ≡ has ++ xs)
  pub sound : (p : ℕ → Bool) → HasBrought g p → HasNoted p has → AllAllowed g false p onward → AllAllowed g true p back →
      HasNoted p has_then × AllAllowed g false p onward_then × AllAllowed g true p back_then
  pub closed : has_then ≡ has → IsClosedOver g onward_then back_then (is_among has_then)
