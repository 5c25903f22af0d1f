-- The row of a message that joins a component and a buffer.
use Rattle.std.proofs.Common.{◌≡◌, refl, sym, ap, ◌∙◌, ℕ, List, [], ◌∷◌, ◌++◌, map, Bool, true, false, cond, not, ◌==◌, ◌&&◌, ◌||◌, inl, inr, ◌⊎◌, Option, Some, None, Result, Ok, Err, ℤ, is_some}
use Rattle.std.specs.Prelude.{find, is_none, option_and_then}
use Rattle.std.specs.List.{list_any, AllByRecursion}
use Rattle.std.proofs.lemmas.Bool.{false≢true, true≢false, or_left, or_right, or_cases, or_parts, and_parts, and_from}
use Rattle.stream_law.specs.declared.graph.Join.{Join}
use Rattle.stream_law.specs.declared.graph.Edge.{Edge}
use Rattle.stream_law.specs.declared.graph.Graph.{Graph}
use Rattle.stream_law.specs.State.{FwState, View, view_of}
use Rattle.stream_law.specs.Ways.{source_of, sink_of}
use Rattle.stream_law.specs.Joins.{joined_edge, with_join, would_cycle, would_stay}
use Rattle.mbox_link.specs.Step.{no_device, busy, invalid, is_used, has_comp, has_edge, is_joined, takes_join, leads_in, leads_out, has_free_in, has_free_out, kind_at, connect}
use Rattle.fw_units.specs.declared.component.Component.{Component}
use Rattle.fw_units.specs.declared.component.Unit as units
use Rattle.fw_units.specs.declared.component.Unit.TheVariants.{Buffer}
use Rattle.fw_units.specs.Units.{comp_by, edge_by, pipe_by, is_buffer, source_by, sink_by}
use Rattle.fw_components.specs.Tables.{Tables, graph_of, streams_of, view_by}
use Rattle.fw_units.specs.Changes.{has_id, joined_at, sourced_unit, sunk_unit}
use Rattle.fw_components.specs.Changes.{can_join, has_free_source, has_free_sink}
use Rattle.fw_components.specs.Changes as changes
use Rattle.fw_components.specs.Kept.{IsKept, IsBuffering}
use Rattle.fw_walks.proofs.Naming.{comp-named, edge-named, found-then}

-- a row whose tests pass
pub connect-row : (f : FwState) (j : Join) → is_used f.graph j.source ≡ true → is_used f.graph j.sink ≡ true → is_joined f.graph j.source j.sink ≡ false → takes_join f.graph j.source j.sink ≡ true → (would_cycle f.graph j.source j.sink || not (would_stay (view_of f) j.source j.sink)) ≡ false → connect f j.source j.sink ≡ Ok (record f { graph = with_join f.graph j })
connect-row f j first second free takes passes =
    ap (λ (p : Bool × Bool × Bool × Bool). let r : Result FwState ℤ = cond (not (p.0 && p.1)) (Err no_device) (cond p.2 (Err busy) (cond ((not p.3 || would_cycle f.graph j.source j.sink) || not (would_stay (view_of f) j.source j.sink)) (Err invalid) (Ok (record f { graph = with_join f.graph j })))) in r) (λ i. (first i, second i, free i, takes i))
    ∙ ap (λ h. let r : Result FwState ℤ = cond h (Err invalid) (Ok (record f { graph = with_join f.graph j })) in r) passes

-- ---- the side is free

free-side : (pick : Component → Option ℕ) (id : ℕ) (cs : List Component) → has_id cs id ≡ true → is_some (option_and_then pick (find (λ c. c.id == id) cs)) ≡ false → list_any (λ c. c.id == id && is_none (pick c)) cs ≡ true
free-side pick id [] there free = absurd (false≢true there)
free-side pick id (c ∷ cs) there free = by (c.id == id) there free (free-side pick id cs)
  where
    none : (o : Option ℕ) → is_some o ≡ false → is_none o ≡ true
    none None e = refl
    none (Some n) e = absurd (true≢false e)

    by : (h : Bool) → (h || has_id cs id) ≡ true → is_some (option_and_then pick (cond h (Some c) (find (λ c. c.id == id) cs))) ≡ false → (has_id cs id ≡ true → is_some (option_and_then pick (find (λ c. c.id == id) cs)) ≡ false → list_any (λ c. c.id == id && is_none (pick c)) cs ≡ true) → ((h && is_none (pick c)) || list_any (λ c. c.id == id && is_none (pick c)) cs) ≡ true
    by true there free rest = or_left (is_none (pick c)) _ (none (pick c) free)
    by false there free rest = rest there free

pub may-join : (t : Tables) (j : Join) → takes_join (graph_of t) j.source j.sink ≡ true → is_joined (graph_of t) j.source j.sink ≡ false → can_join t j ≡ true
may-join t j takes free = by (or_cases (leads_in g j.source j.sink && has_free_out g j.source (kind_at g j.source)) (leads_out g j.source j.sink && has_free_in g j.sink (kind_at g j.sink)) takes)
  where
    g : Graph
    g = graph_of t

    parts : ((leads_in g j.source j.sink && is_some (source_of g j.sink)) ≡ false) × ((leads_out g j.source j.sink && is_some (sink_of g j.source)) ≡ false)
    parts = or_parts (leads_in g j.source j.sink && is_some (source_of g j.sink)) (leads_out g j.source j.sink && is_some (sink_of g j.source)) free

    second : (a b : Bool) → a ≡ true → (a && b) ≡ false → b ≡ false
    second a b is e = ap (λ h. h && b) (sym is) ∙ e

    by : ((leads_in g j.source j.sink && has_free_out g j.source (kind_at g j.source)) ≡ true) ⊎ ((leads_out g j.source j.sink && has_free_in g j.sink (kind_at g j.sink)) ≡ true) → can_join t j ≡ true
    by (inl e) =
        let into = (and_parts (leads_in g j.source j.sink) _ e).0 in
        let p = and_parts (has_comp g j.source) (has_edge g j.sink) into in
        let none = ap is_some (found-then (λ (e : Edge). e.buffer == j.sink) edge_by (λ (e : Edge). e.source) t.buffers) ∙ second (leads_in g j.source j.sink) (is_some (source_of g j.sink)) into parts.0 in
        or_left (has_id t.comps j.source && has_free_source t.buffers j.sink) _ (and_from (has_id t.comps j.source) _ (comp-named t j.source ∙ p.0) (free-side (λ c. source_by c.unit) j.sink t.buffers (edge-named t j.sink ∙ p.1) none))
    by (inr e) =
        let out_of = (and_parts (leads_out g j.source j.sink) _ e).0 in
        let p = and_parts (has_edge g j.source) (has_comp g j.sink) out_of in
        let none = ap is_some (found-then (λ (e : Edge). e.buffer == j.source) edge_by (λ (e : Edge). e.sink) t.buffers) ∙ second (leads_out g j.source j.sink) (is_some (sink_of g j.source)) out_of parts.1 in
        or_right (has_id t.comps j.source && has_free_source t.buffers j.sink) _ (and_from (has_free_sink t.buffers j.source) _ (free-side (λ c. sink_by c.unit) j.source t.buffers (edge-named t j.source ∙ p.0) none) (comp-named t j.sink ∙ p.1))

-- ---- the join is seen

joined-one : (j : Join) (id pipe channels : ℕ) (unit : units.Unit) → is_buffer unit ≡ true → edge_by (joined_at j (record { id = id; pipe = pipe; channels = channels; unit = unit })) ≡ joined_edge j (edge_by (record { id = id; pipe = pipe; channels = channels; unit = unit }))
joined-one j id pipe channels (Buffer size ring source sink) is = by (id == j.source) (id == j.sink)
  where
    c : Component
    c = record { id = id; pipe = pipe; channels = channels; unit = Buffer size ring source sink }

    by : (from to : Bool) → edge_by (cond from (record { id = id; pipe = pipe; channels = channels; unit = sunk_unit j.sink (Buffer size ring source sink) }) (cond to (record { id = id; pipe = pipe; channels = channels; unit = sourced_unit j.source (Buffer size ring source sink) }) c)) ≡ cond from (record { buffer = id; pipe = pipe; size = size; source = source; sink = Some j.sink }) (cond to (record { buffer = id; pipe = pipe; size = size; source = Some j.source; sink = sink }) (edge_by c))
    by true to = refl
    by false true = refl
    by false false = refl
joined-one j id pipe channels unit no_buffer = absurd (false≢true no_buffer)

joined-all : (j : Join) (cs : List Component) → AllByRecursion (λ c. IsBuffering c.unit) cs → map edge_by (map (joined_at j) cs) ≡ map (joined_edge j) (map edge_by cs)
joined-all j [] all = refl
joined-all j (c ∷ cs) all = ap (λ (p : Edge × List Edge). p.0 ∷ p.1) (λ i. (joined-one j c.id c.pipe c.channels c.unit all.0.0 i, joined-all j cs all.1 i))

pub join-seen : (t : Tables) (j : Join) → IsKept t → view_by (changes.tables_with_join j t) ≡ record { graph = with_join (graph_of t) j; streams = streams_of t }
join-seen t j kept = ap (λ (es : List Edge). let v : View = record { graph = record { comps = map comp_by t.comps; edges = es; pipes = map pipe_by t.pipes; joins = t.joins ++ j ∷ [] }; streams = streams_of t } in v) (joined-all j t.buffers kept.buffering)
