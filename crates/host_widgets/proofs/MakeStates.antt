-- What the message of a widget is that is made, and the bytes that it needs.
use Rattle.std.proofs.Common.{◌≡◌, refl, sym, ap, ◌∙◌, ℕ, ◌<◌, List, length, Option, Some, None, unwrap_or, true}
use Rattle.std.proofs.lemmas.Bool.{eqb-true}
use Rattle.std.proofs.lemmas.Option.{slice_get-get_or}
use Rattle.std.specs.Option.{option_map}
use Rattle.sof_base.specs.declared.format.Format.{Format}
use Rattle.sof_base.specs.declared.format.Format.TheVariants.{S16, S24, S32}
use Rattle.stream_law.specs.declared.graph.Kind.{Kind}
use Rattle.stream_law.specs.declared.graph.Kind.TheVariants.{DaiPlay, DaiCapture, Volume}
use Rattle.stream_law.specs.declared.graph.Comp.{Comp}
use Rattle.stream_law.specs.declared.graph.Edge.{Edge}
use Rattle.stream_law.specs.declared.graph.Pipe.{Pipe}
use Rattle.stream_law.specs.Ways.{edge_of}
use Rattle.mbox_link.specs.Step.{sample_format, kind_of, first_ramp, comp_bytes, buffer_bytes, pipe_bytes}
use Rattle.tplg_plan.specs.declared.plans.Plan.{Plan}
use Rattle.tplg_plan.specs.declared.plans.WidgetPlan.{WidgetPlan}
use Rattle.tplg_plan.specs.declared.plans.ControlPlan.{ControlPlan}
use Rattle.tplg_plan.specs.WidgetWords.{format_number, kind_ramp}
use Rattle.tplg_plan.specs.Sound.{IsSound, Names, NamesComponent, NamesBuffer, NamesPipeline, has_number}
use Rattle.host_widgets.specs.Controls.{control_of}
use Rattle.host_widgets.specs.HostActs.{Make}
use Rattle.host_widgets.specs.ActMessages.{act_message}
use Rattle.host_widgets.specs.Acts.{component_words, widget_words, no_words, comp_message, buffer_message, pipe_message, made_buffer, made_pipe}
use Rattle.host_widgets.specs.Expected.{stated_bytes, stated_by}
use Rattle.host_widgets.proofs.BelowIds.{below}

abbrev pub comps_below : Plan → ℕ → List Comp
comps_below plan n = below (λ c. c.id) n plan.graph.comps

abbrev pub edges_below : Plan → ℕ → List Edge
edges_below plan n = below (λ e. e.buffer) n plan.graph.edges

abbrev pub pipes_below : Plan → ℕ → List Pipe
pipes_below plan n = below (λ p. p.id) n plan.graph.pipes

-- ---- kinds

-- a DAI's format is read from its number
format-read : (format : Format) → sample_format (format_number format) ≡ format
format-read S16 = refl
format-read S24 = refl
format-read S32 = refl

pub kind-read : (kind : Kind) (k : Option ControlPlan) (w : WidgetPlan) → has_number kind w.frame_fmt ≡ true → kind_of (component_words kind k w) w.frame_fmt ≡ kind
kind-read (DaiPlay format) k w is = ap DaiPlay (ap sample_format (sym (eqb-true (format_number format) w.frame_fmt is)) ∙ format-read format)
kind-read (DaiCapture format) k w is = ap DaiCapture (ap sample_format (sym (eqb-true (format_number format) w.frame_fmt is)) ∙ format-read format)
kind-read Volume (Some k) w is = refl
kind-read Volume None w is = refl
kind-read kind k w is = refl

-- its words carry its ramp
pub ramp-made : (kind : Kind) (k : Option ControlPlan) (w : WidgetPlan) → first_ramp (component_words kind k w) ≡ kind_ramp kind w.ramp_type w.ramp_ms
ramp-made Volume (Some k) w = refl
ramp-made Volume None w = refl
ramp-made kind k w = refl

-- ---- the next widget

module _ (plan : Plan) (heap : ℕ) (s : IsSound plan) (n : ℕ) where
  abbrev w : WidgetPlan
  w = widget_words plan n

  -- what its message is
  pub message-comp : (x : NamesComponent plan.graph n w) → act_message plan (Make n) ≡ comp_message n (control_of plan n) w x.comp
  message-comp x = ap (λ o. unwrap_or (option_map (comp_message n (control_of plan n) w) o) (unwrap_or (made_buffer plan n w) (unwrap_or (made_pipe plan n w) (pipe_message n w 0 0)))) x.there

  pub message-buffer : (x : NamesBuffer plan.graph n w) → act_message plan (Make n) ≡ buffer_message n w x.edge
  message-buffer x =
      ap (λ o. unwrap_or (option_map (comp_message n (control_of plan n) w) o) (unwrap_or (made_buffer plan n w) (unwrap_or (made_pipe plan n w) (pipe_message n w 0 0)))) x.no_comp
      ∙ ap (λ o. unwrap_or (option_map (buffer_message n w) o) (unwrap_or (made_pipe plan n w) (pipe_message n w 0 0))) x.there

  pub message-pipe : (x : NamesPipeline plan.graph n w) → act_message plan (Make n) ≡ pipe_message n w x.pipe.sched x.pipe.period
  message-pipe x =
      ap (λ o. unwrap_or (option_map (comp_message n (control_of plan n) w) o) (unwrap_or (made_buffer plan n w) (unwrap_or (made_pipe plan n w) (pipe_message n w 0 0)))) x.no_comp
      ∙ ap (λ o. unwrap_or (option_map (buffer_message n w) o) (unwrap_or (made_pipe plan n w) (pipe_message n w 0 0))) x.no_edge
      ∙ ap (λ o. unwrap_or (option_map (λ p. pipe_message n w p.sched p.period) o) (pipe_message n w 0 0)) x.there

  -- its bytes
  pub bytes-comp : (x : NamesComponent plan.graph n w) → stated_bytes plan n ≡ comp_bytes x.comp.kind
  bytes-comp x = ap (λ o. stated_by o (edge_of plan.graph n)) x.there

  pub bytes-buffer : (x : NamesBuffer plan.graph n w) → stated_bytes plan n ≡ buffer_bytes x.edge.size
  bytes-buffer x = ap (λ o. stated_by o (edge_of plan.graph n)) x.no_comp ∙ ap (stated_by None) x.there

  pub bytes-pipe : (x : NamesPipeline plan.graph n w) → stated_bytes plan n ≡ pipe_bytes
  bytes-pipe x = ap (λ o. stated_by o (edge_of plan.graph n)) x.no_comp ∙ ap (stated_by None) x.no_edge

  pub names-of : n < length plan.widgets → Names plan.graph n w
  names-of within = s.named n w (slice_get-get_or plan.widgets n no_words within)
