-- What is so of each message that an act may be is so of the act's.
use Rattle.std.proofs.Common.{ℕ, List, Option, Some, None, option_map}
use Rattle.std.specs.Prelude.{unwrap_or}
use Rattle.stream_law.specs.declared.graph.Comp.{Comp}
use Rattle.stream_law.specs.declared.graph.Edge.{Edge}
use Rattle.stream_law.specs.declared.graph.Pipe.{Pipe}
use Rattle.stream_law.specs.Ways.{comp_of, edge_of}
use Rattle.ipc3_model.specs.declared.message.Message.{Message}
use Rattle.ipc3_model.specs.declared.message.Message.TheVariants.{SetValue, GetValue, GetData, CompFree, BufferFree, PipeFree, TrigStart, TrigStop, TrigPause, TrigRelease}
use Rattle.tplg_plan.specs.declared.plans.Plan.{Plan}
use Rattle.tplg_plan.specs.declared.plans.ControlPlan.{ControlPlan}
use Rattle.tplg_plan.specs.declared.plans.ControlKind.{ControlKind}
use Rattle.tplg_plan.specs.declared.plans.ControlKind.TheVariants as controls
use Rattle.host_widgets.specs.declared.trigger.Trigger.{Trigger}
use Rattle.host_widgets.specs.declared.trigger.Trigger.TheVariants.{Start, Stop, Pause, Release}
use Rattle.host_widgets.specs.Acts.{widget_words, pipe_by_id, comp_message, buffer_message, pipe_message}
use Rattle.host_widgets.specs.Controls.{control_of}
use Rattle.host_widgets.specs.HostActs.{Make, Put, Ask, Trig, Unmake}
use Rattle.host_widgets.specs.ActMessages.{act_message, set_message, put_message, get_message, ask_message, unmake_by}

module _ (P : Message → Type 0) (plan : Plan) (id : ℕ) where
  pub make-so : ((c : Comp) → P (comp_message id (control_of plan id) (widget_words plan id) c)) → ((e : Edge) → P (buffer_message id (widget_words plan id) e)) →
      ((sched period : ℕ) → P (pipe_message id (widget_words plan id) sched period)) → P (act_message plan (Make id))
  make-so comps edges pipes = by (comp_of plan.graph id) (edge_of plan.graph id) (pipe_by_id plan id)
    where
      by : (c : Option Comp) (e : Option Edge) (p : Option Pipe) →
          P (unwrap_or (option_map (comp_message id (control_of plan id) (widget_words plan id)) c)
          (unwrap_or (option_map (buffer_message id (widget_words plan id)) e)
          (unwrap_or (option_map (λ (p : Pipe). pipe_message id (widget_words plan id) p.sched p.period) p) (pipe_message id (widget_words plan id) 0 0))))
      by (Some c) e p = comps c
      by None (Some e) p = edges e
      by None None (Some p) = pipes p.sched p.period
      by None None None = pipes 0 0

  pub unmake-so : P (CompFree id) → P (BufferFree id) → P (PipeFree id) → P (act_message plan (Unmake id))
  unmake-so comp edge pipe = by (comp_of plan.graph id) (edge_of plan.graph id)
    where
      by : (c : Option Comp) (e : Option Edge) → P (unmake_by c e id)
      by (Some c) e = comp
      by None (Some e) = edge
      by None None = pipe

  pub put-so : (values : List ℕ) → ((command : ℕ) (sent : List ℕ) → P (SetValue id command sent)) → P (act_message plan (Put id values))
  put-so values each = by (control_of plan id)
    where
      kind : (q : ControlKind) → P (set_message id values q)
      kind (controls.Volume min max channels lowest step mute) = each _ _
      kind (controls.Choice items) = each _ _
      kind (controls.Masks min max channels) = each _ _
      kind (controls.Blob most initial) = each _ _

      by : (k : Option ControlPlan) → P (put_message id values k)
      by (Some k) = kind k.kind
      by None = each _ _

  pub ask-so : (k : ℕ) → ((command : ℕ) → P (GetValue id command)) → P (GetData id k) → P (act_message plan (Ask id k))
  ask-so k value part = by (control_of plan id)
    where
      kind : (q : ControlKind) → P (get_message id k q)
      kind (controls.Volume min max channels lowest step mute) = value _
      kind (controls.Choice items) = value _
      kind (controls.Masks min max channels) = value _
      kind (controls.Blob most initial) = part

      by : (c : Option ControlPlan) → P (ask_message id k c)
      by (Some c) = kind c.kind
      by None = value _

  pub trigger-so : (what : Trigger) → P (TrigStart id) → P (TrigStop id) → P (TrigPause id) → P (TrigRelease id) → P (act_message plan (Trig id what))
  trigger-so Start start stop pause release = start
  trigger-so Stop start stop pause release = stop
  trigger-so Pause start stop pause release = pause
  trigger-so Release start stop pause release = release
