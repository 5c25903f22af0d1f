-- How many lines say how everything stands.
use Rattle.std.proofs.Common.{◌≡◌, refl, ap, ℕ, ◌<◌, ◌≤◌, ◌^◌, suc, Bool, true, false, List, [], ◌∷◌, ◌++◌, map, filter, length, Option, Some, None, MatchOption, arith}
use Rattle.std.specs.List.{zip, range_with_len, filter_map, cons_option, slice_get}
use Rattle.std.proofs.Math.Nat.{min-le_left}
use Rattle.std.proofs.lemmas.List.{length-map, length-append}
use Rattle.std.proofs.lemmas.List.FromFn.{length-range_with_len, length-map-range_with_len}
use Rattle.std.proofs.lemmas.Slice.Zip.{length-zip}
use Rattle.std.proofs.lemmas.Option.{slice_get_within}
use Rattle.stream_law.specs.declared.graph.Comp.{Comp}
use Rattle.stream_law.specs.declared.graph.Edge.{Edge}
use Rattle.stream_law.specs.Order.{is_among}
use Rattle.stream_law.proofs.Members.{filter-most}
use Rattle.tplg_plan.specs.declared.plans.Plan.{Plan}
use Rattle.tplg_plan.specs.declared.plans.StreamPlan.{StreamPlan}
use Rattle.tplg_plan.specs.Sound.{IsSound, host_of}
use Rattle.host_widgets.specs.declared.kept.Power.{Power}
use Rattle.host_widgets.specs.declared.kept.Power.TheVariants.{Unloaded, On, Off}
use Rattle.host_widgets.specs.declared.kept.Record.{Record}
use Rattle.host_widgets.specs.Kept.{controls_of}
use Rattle.host_widgets.proofs.NamedIds.{few-widgets}
use Rattle.host_widgets.specs.Acts.{widget_ids, widget_words}
use Rattle.host_widgets.specs.There.{shown_ids}
use Rattle.sof_session.specs.Modes.{lines_in}
use Rattle.sof_session.specs.Show as show
use Rattle.sof_session.specs.StateLines as state_lines
use Rattle.sof_session.specs.ShownLines as shown_lines
use Rattle.sof_session.specs.UpCommands.{up_edge_lines, up_lines, up_lines_by}

-- a line that is there has a number below theirs
pub line_within : (lines : List (List ℕ)) (k : ℕ) (line : List ℕ) → shown_lines.IsLineAt lines k true line → k < length lines
line_within lines k line is = by_line (slice_get lines k) refl is
  where
    by_line : (o : Option (List ℕ)) → slice_get lines k ≡ o → MatchOption o (true ≡ false) (λ text. (true ≡ true) × (line ≡ text)) → k < length lines
    by_line None at none = absurd (cc none)
    by_line (Some text) at there = slice_get_within lines k text at

one_more : {X : Type 0} (o : Option X) (xs : List X) → length (cons_option o xs) ≤ suc (length xs)
one_more None xs = omega arith
one_more (Some x) xs = omega arith

few_hosts : (comps : List Comp) → length (filter_map host_of comps) ≤ length comps
few_hosts [] = omega arith
few_hosts (c ∷ cs) = by_tail (one_more (host_of c) (filter_map host_of cs)) (few_hosts cs)
  where
    by_tail : length (filter_map host_of (c ∷ cs)) ≤ suc (length (filter_map host_of cs)) → length (filter_map host_of cs) ≤ length cs → length (filter_map host_of (c ∷ cs)) ≤ suc (length cs)
    by_tail more few = omega (arith, more, few)

module _ (plan : Plan) (sound : IsSound plan) (kept : Record) where
  few_streams : length plan.streams ≤ 128
  few_streams =
      let ends : StreamPlan → ℕ × Bool = λ s. (s.host, s.capture) in
      omega (arith, length-map plan.streams ends, ap length sound.hosts, few_hosts plan.graph.comps, sound.comps)

  some_streams : length (state_lines.stream_lines plan kept) ≤ 128
  some_streams =
      omega (arith, length-map (zip plan.streams kept.streams) (show.stream_line plan), length-zip plan.streams kept.streams, min-le_left (length plan.streams) (length kept.streams), few_streams)

  few_loaded : length (show.loaded_lines plan kept) ≤ 700
  few_loaded =
      let widgets : List (List ℕ) = map (show.widget_line plan) (range_with_len 0 (length plan.widgets)) in
      let edges : List (List ℕ) = map show.edge_line plan.graph.edges in
      omega (
        arith,
        length-append widgets (edges ++ state_lines.state_lines plan kept),
        length-append edges (state_lines.state_lines plan kept),
        length-append (state_lines.stream_lines plan kept) (state_lines.control_lines plan kept),
        length-map-range_with_len (show.widget_line plan) 0 (length plan.widgets),
        length-map plan.graph.edges show.edge_line,
        length-map (controls_of plan kept) (show.control_line plan),
        length-zip plan.controls kept.controls,
        min-le_left (length plan.controls) (length kept.controls),
        few-widgets plan sound,
        sound.edges,
        sound.controls,
        some_streams,
      )

  few_by : (power : Power) → length (show.lines_by power plan kept) ≤ 700
  few_by Unloaded = omega arith
  few_by On = few_loaded
  few_by Off = few_loaded

  -- what is up has no more
  few_up : (up : List ℕ) → length (up_lines plan kept up) ≤ 700
  few_up up =
      let widgets : List (List ℕ) = map (show.widget_line plan) (shown_ids plan up) in
      let shown : List Edge = filter (λ (e : Edge). is_among up e.pipe) plan.graph.edges in
      omega (
        arith,
        length-append widgets (up_edge_lines plan kept up),
        length-append (map show.edge_line shown ++ state_lines.stream_lines plan kept) (state_lines.control_lines plan kept),
        length-append (map show.edge_line shown) (state_lines.stream_lines plan kept),
        length-map (shown_ids plan up) (show.widget_line plan),
        filter-most (λ (id : ℕ). is_among up (widget_words plan id).pipe) (widget_ids plan),
        length-range_with_len 0 (length plan.widgets),
        length-map shown show.edge_line,
        filter-most (λ (e : Edge). is_among up e.pipe) plan.graph.edges,
        length-map (controls_of plan kept) (show.control_line plan),
        length-zip plan.controls kept.controls,
        min-le_left (length plan.controls) (length kept.controls),
        few-widgets plan sound,
        sound.edges,
        sound.controls,
        some_streams,
      )

  few_up_by : (power : Power) (up : List ℕ) → length (up_lines_by power plan kept up) ≤ 700
  few_up_by Unloaded up = omega arith
  few_up_by On up = few_up up
  few_up_by Off up = few_up up

  pub few_lines : (up : Option (List ℕ)) → length (lines_in up plan kept) < 2 ^ 32
  few_lines None = omega (arith, few_by kept.power)
  few_lines (Some up) = omega (arith, few_up_by kept.power up)
