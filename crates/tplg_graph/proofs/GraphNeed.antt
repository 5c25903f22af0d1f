-- What a well-formed topology's graph needs is what its widgets need.
use Rattle.std.proofs.Common.{◌≡◌, refl, sym, ap, ◌∙◌, ℕ, suc, ◌+◌, ◌*◌, List, [], ◌∷◌, length, map, sum, Bool, true, false, cond, not, ◌||◌, is_some, Option, Some, None, unwrap_or, arith}
use Rattle.std.specs.Option.{option_map}
use Rattle.std.specs.List.{list_all, cons_option}
use Rattle.std.proofs.lemmas.Bool.{false≢true, and_parts}
use Rattle.std.proofs.lemmas.List.Sums.{sum_by-cons}
use Rattle.sof_base.specs.Holes.{rounded}
use Rattle.stream_law.specs.declared.graph.Kind.{Kind}
use Rattle.stream_law.specs.declared.graph.Comp.{Comp}
use Rattle.stream_law.specs.declared.graph.Edge.{Edge}
use Rattle.stream_law.specs.declared.graph.Pipe.{Pipe}
use Rattle.stream_law.specs.declared.graph.Join.{Join}
use Rattle.tplg_widgets.specs.declared.entry.Role.{Role}
use Rattle.tplg_widgets.specs.declared.entry.Role.TheVariants.{HostPlay, HostCapture, Dai, Volume, Mixer, Mux, Eq, Demux, Buffer, Scheduler}
use Rattle.tplg_widgets.specs.declared.entry.Entry.{Entry}
use Rattle.tplg_widgets.specs.declared.route_end.End.{End}
use Rattle.tplg_widgets.specs.declared.route_end.End.TheVariants as an_end
use Rattle.tplg_widgets.specs.declared.tokens.FormatToken.{FormatToken}
use Rattle.tplg_widgets.specs.Entries.{is_interpreted, is_buffer_entry, is_buffer_role, is_scheduler, is_scheduler_role, interpreted}
use Rattle.tplg_widgets.specs.Ends.{end_named}
use Rattle.tplg_widgets.specs.GraphLists.{component_kind, component_made, component_of, buffer_edge, is_sink, route_in, route_out}
use Rattle.tplg_graph.specs.PlanLists.{pipeline_of, component_end}
use Rattle.stream_law.specs.Sizes.{comp_bytes}
use Rattle.tplg_plan.specs.HeapNeed.{components_need, edges_need, need_on}
use Rattle.tplg_graph.specs.TopologyNeed.{stated_size, widget_need}
use Rattle.tplg_graph.specs.PlanOf.{graph_on}
use Rattle.tplg_walks.specs.Rules.{HoldsAll}
use Rattle.tplg_rules.specs.RuleTable.{is_component_end, scheds_rule}
use Rattle.tplg_widgets.proofs.Indexed.{indexed, by-index}
use Rattle.tplg_graph.proofs.Interpreted.{of-interpreted, all-interpreted}

-- ---- one more

nothing : (n : ℕ) → n ≡ 0 + n
nothing n = omega arith

one : (n : ℕ) → suc n ≡ 1 + n
one n = omega arith

abbrev kind_size : Option Kind → ℕ
kind_size None = 0
kind_size (Some k) = comp_bytes k

more-comps : (id : ℕ) (e : Entry) (o : Option Kind) (cs : List Comp) → components_need (cons_option (option_map (component_made id e) o) cs) ≡ kind_size o + components_need cs
more-comps id e None cs = nothing (components_need cs)
more-comps id e (Some k) cs = sum_by-cons (λ x. x) (comp_bytes k) (map (λ (c : Comp). comp_bytes c.kind) cs)

more-edges : (b : Bool) (e : Edge) (es : List Edge) → edges_need (cons_option (cond b (Some e) None) es) ≡ cond b (rounded (32 + e.size)) 0 + edges_need es
more-edges true e es = sum_by-cons (λ x. x) (rounded (32 + e.size)) (map (λ (e : Edge). rounded (32 + e.size)) es)
more-edges false e es = nothing (edges_need es)

more-pipes : (o : Option Pipe) (ps : List Pipe) → length (cons_option o ps) ≡ cond (is_some o) 1 0 + length ps
more-pipes None ps = nothing (length ps)
more-pipes (Some p) ps = one (length ps)

-- ---- each widget

own : (n : ℕ) → 0 + n + 64 * 0 ≡ n
own n = omega arith

role-need : (r : Option Role) (format : FormatToken) (ends : Bool) (size : ℕ) → is_some r ≡ true → kind_size (component_kind r format ends) + cond (is_buffer_role r) (rounded (32 + size)) 0 + 64 * cond (is_scheduler_role r) 1 0 ≡ rounded (stated_size r size)
role-need None format ends size h = absurd (false≢true h)
role-need (Some HostPlay) format ends size h = refl
role-need (Some HostCapture) format ends size h = refl
role-need (Some Dai) format true size h = refl
role-need (Some Dai) format false size h = refl
role-need (Some Volume) format ends size h = refl
role-need (Some Mixer) format ends size h = refl
role-need (Some Mux) format ends size h = refl
role-need (Some Eq) format ends size h = refl
role-need (Some Demux) format ends size h = refl
role-need (Some Buffer) format ends size h = own (rounded (32 + size))
role-need (Some Scheduler) format ends size h = refl

-- a scheduler has a pipeline where its stream name names a component
is-pipe : (b : Bool) (x : End) (pipe : ℕ → Pipe) → (not b || is_component_end x) ≡ true → is_some (cond b (option_map pipe (component_end x)) None) ≡ b
is-pipe false x pipe h = refl
is-pipe true (an_end.Component c) pipe h = refl
is-pipe true (an_end.Buffer c) pipe h = absurd (false≢true h)
is-pipe true an_end.Other pipe h = absurd (false≢true h)
is-pipe true an_end.Missing pipe h = absurd (false≢true h)

add-up : (C E L c e l C' E' L' n rest : ℕ) → C ≡ c + C' → E ≡ e + E' → L ≡ l + L' → c + e + 64 * l ≡ n → C' + E' + 64 * L' ≡ rest → C + E + 64 * L ≡ n + rest
add-up C E L c e l C' E' L' n rest f g h k m = omega arith

needs : (es : List Entry) (js : List Join) (i : ℕ) (ps : List Entry) → list_all is_interpreted ps ≡ true → list_all (λ e. not (is_scheduler e) || is_component_end (end_named es e.sname)) ps ≡ true → components_need (indexed (component_of js) i ps) + edges_need (indexed (buffer_edge js) i ps) + 64 * length (indexed (pipeline_of es) i ps) ≡ sum (map widget_need ps)
needs es js i [] all scheds = refl
needs es js i (p ∷ ps) all scheds =
    let a = and_parts (is_interpreted p) (list_all is_interpreted ps) all in
    let s = and_parts (not (is_scheduler p) || is_component_end (end_named es p.sname)) (list_all (λ e. not (is_scheduler e) || is_component_end (end_named es e.sname)) ps) scheds in
    let size = unwrap_or p.tokens.size 0 in
    let own_need = ap (λ b. kind_size (component_kind p.role p.tokens.format (is_sink js i)) + cond (is_buffer_role p.role) (rounded (32 + size)) 0 + 64 * cond b 1 0) (is-pipe (is_scheduler_role p.role) (end_named es p.sname) (λ sched. record { id = i; index = p.index; sched = sched; period = unwrap_or p.tokens.period 0; complete = true }) s.0) ∙ role-need p.role p.tokens.format (is_sink js i) size a.0 in
    add-up _ _ _ _ _ _ _ _ _ _ _
    (more-comps i p (component_kind p.role p.tokens.format (is_sink js i)) (indexed (component_of js) (i + 1) ps))
    (more-edges (is_buffer_entry p) (record { buffer = i; pipe = p.index; size = size; source = option_map (λ j. j.source) (route_in js i); sink = option_map (λ j. j.sink) (route_out js i) }) (indexed (buffer_edge js) (i + 1) ps))
    (more-pipes (pipeline_of es i p) (indexed (pipeline_of es) (i + 1) ps))
    own_need
    (needs es js (i + 1) ps a.1 s.1)
    ∙ sym (sum_by-cons (λ x. x) (widget_need p) (map widget_need ps))

pub graph-need : (es : List Entry) (js : List Join) → HoldsAll (scheds_rule es) → need_on (graph_on es (interpreted es) js) ≡ sum (map widget_need (interpreted es))
graph-need es js scheds =
    (λ k. components_need (by-index (component_of js) (interpreted es) k) + edges_need (by-index (buffer_edge js) (interpreted es) k) + 64 * length (by-index (pipeline_of es) (interpreted es) k))
    ∙ needs es js 0 (interpreted es) (all-interpreted es) (of-interpreted es (interpreted es) (λ e. not (is_scheduler e) || is_component_end (end_named es e.sname)) refl scheds)
