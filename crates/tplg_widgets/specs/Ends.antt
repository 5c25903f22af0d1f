-- What the ends of routes name, and which routes are real.
use Rattle.std.specs.Prelude.{ℕ, List, map, Option, Some, None, is_some, slice_get, position, if◌then◌else◌}
use Rattle.std.specs.Option.{option_map_or}
use Rattle.std.specs.List.{flat_map, filter_map}
use Rattle.stream_law.specs.declared.graph.Join.{Join}
use Rattle.tplg_model.specs.declared.block.Route.{Route}
use Rattle.tplg_model.specs.declared.block.Block.{Block}
use Rattle.tplg_model.specs.declared.block.Topology.{Topology}
use Rattle.tplg_widgets.specs.declared.entry.Entry.{Entry}
use Rattle.tplg_widgets.specs.declared.route_end.End.{End}
use Rattle.tplg_widgets.specs.declared.route_end.End.TheVariants.{Buffer, Component, Other, Missing}
use Rattle.tplg_widgets.specs.declared.route_end.Ends.{Ends}
use Rattle.tplg_widgets.specs.Entries.{is_buffer_entry, is_component, routes_in, entries_of, interpreted}
use Rattle.tplg_widgets.specs.Names.{has_name}

-- the interpreted widget of this id, as an end
abbrev pub end_at : Entry → ℕ → End
end_at e id = if is_buffer_entry e then Buffer id else if is_component e then Component id else Other

-- what a name names: the first interpreted widget of the name, else any widget of it
abbrev pub end_named : List Entry → List ℕ → End
end_named es name =
    option_map_or (λ id. option_map_or (λ e. end_at e id) (slice_get (interpreted es) id) Other)
    (position (has_name name) (interpreted es))
    (if is_some (position (has_name name) es) then Other else Missing)

abbrev pub ends_of : List Entry → Route → Ends
ends_of es r = record { source = end_named es r.source; sink = end_named es r.sink }

abbrev pub block_ends : List Entry → Block → List Ends
block_ends es b = map (ends_of es) (routes_in b.body)

-- the ends of the routes in file order, as these widgets have their names
abbrev pub all_ends : List Entry → Topology → List Ends
all_ends es t = flat_map (block_ends es) t.blocks

-- the ends of a topology's routes, numbered from 0
abbrev pub ends_in : Topology → List Ends
ends_in t = all_ends (entries_of t) t

-- a route is real where one end is a buffer and the other a component
abbrev pub join_of : End → End → Option Join
join_of (Buffer a) (Component b) = Some (record { source = a; sink = b })
join_of (Component a) (Buffer b) = Some (record { source = a; sink = b })
join_of _ _ = None

abbrev pub real_of : Ends → Option Join
real_of e = join_of e.source e.sink

-- the real routes in file order, by ids
abbrev pub joins_of : Topology → List Join
joins_of t = filter_map real_of (ends_in t)
