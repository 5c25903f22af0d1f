-- Which bindings of a script are right, and what they bind.
use Rattle.std.specs.Prelude.{ℕ, Bool, true, false, ◌&&◌, not, if◌then◌else◌, List, [], ◌∷◌, ◌++◌, Option, Some, None, unwrap_or, find}
use Rattle.std.specs.List.{list_any, slice_get}
use Rattle.std.specs.Option.{option_map_or}
use Rattle.std.specs.Str.{bytes_eq}
use Rattle.sof_base.specs.Ports.{InputView, OutputView}
use Rattle.stream_law.specs.declared.graph.Comp.{Comp}
use Rattle.stream_law.specs.declared.graph.Kind.{Kind}
use Rattle.stream_law.specs.declared.graph.Kind.TheVariants.{HostPlay, HostCapture, DaiPlay, DaiCapture}
use Rattle.tplg_plan.specs.declared.plans.Plan.{Plan}
use Rattle.sof_io.specs.Bound.{output_slots}
use Rattle.sof_io.specs.Bound.{with_slot}
use Rattle.sof_io.specs.Fills.{with_input}
use Rattle.sof_desk.specs.Desk.{DeskAct, Create, Open}
use Rattle.sof_script.specs.Commands.{Bound}

-- ---- which are right

-- a component of this kind takes its frames from an input, or gives them to an output
abbrev pub is_endpoint_kind : Bool → Kind → Bool
is_endpoint_kind true HostPlay = true
is_endpoint_kind true (DaiCapture format) = true
is_endpoint_kind false HostCapture = true
is_endpoint_kind false (DaiPlay format) = true
is_endpoint_kind _ _ = false

-- a component is the endpoint of this direction, and its widget has this name
abbrev pub is_sought : Plan → Bool → List ℕ → Comp → Bool
is_sought plan input name c = is_endpoint_kind input c.kind && option_map_or (λ other. bytes_eq name other) (slice_get plan.names c.id) false

-- a binding's name is an endpoint of its direction, and none of the earlier ones binds this name
abbrev pub is_right : Plan → List Bound → Bound → Bool
is_right plan earlier b = list_any (is_sought plan b.input b.endpoint) plan.graph.comps && not (list_any (λ e. bytes_eq b.endpoint e.endpoint) earlier)

-- the line of the first that is wrong, after earlier ones
abbrev pub wrong_behind : Plan → List Bound → List Bound → Option ℕ
wrong_behind plan earlier [] = None
wrong_behind plan earlier (b ∷ bs) = if is_right plan earlier b then wrong_behind plan (earlier ++ b ∷ []) bs else Some b.line

-- of all
abbrev pub wrong_binding : Plan → List Bound → Option ℕ
wrong_binding plan bindings = wrong_behind plan [] bindings

-- ---- what they bind

-- the slot of a binding: the id of its endpoint's component
abbrev pub bound_slot : Plan → Bound → ℕ
bound_slot plan b = option_map_or (λ c. c.id) (find (is_sought plan b.input b.endpoint) plan.graph.comps) 0

-- the file of a binding is opened to be read, or created to be written
abbrev pub binding_act : Plan → Bound → DeskAct
binding_act plan b = if b.input then Open (bound_slot plan b) b.file else Create (bound_slot plan b) b.file

-- the inputs that are bound, by ascending slot, with earlier ones
abbrev pub bound_inputs : Plan → List InputView → List Bound → List InputView
bound_inputs plan inputs [] = inputs
bound_inputs plan inputs (b ∷ bs) = bound_inputs plan (if b.input then with_input (bound_slot plan b) inputs else inputs) bs

-- the bytes of the files that are bound to inputs, by slot, with earlier ones
abbrev pub bound_files : Plan → (List ℕ → Option (List ℕ)) → List (ℕ × List ℕ) → List Bound → List (ℕ × List ℕ)
bound_files plan holds files [] = files
bound_files plan holds files (b ∷ bs) = bound_files plan holds (if b.input then (bound_slot plan b, unwrap_or (holds b.file) []) ∷ files else files) bs

-- the outputs that are bound, by ascending slot, with earlier ones
abbrev pub bound_outputs : Plan → List OutputView → List Bound → List OutputView
bound_outputs plan outputs [] = outputs
bound_outputs plan outputs (b ∷ bs) = bound_outputs plan (if b.input then outputs else with_slot (bound_slot plan b) outputs) bs

-- the slots of the outputs that are bound, ascending
abbrev pub bound_slots : Plan → List Bound → List ℕ
bound_slots plan bs = output_slots (bound_outputs plan [] bs)
