-- The messages that make and unmake pipelines fit, and none of them is a part of a blob.
use Rattle.std.proofs.Common.{sym, subst, ℕ, ◌<◌, length, inl, inr, Some, None, arith}
use Rattle.std.specs.Prelude.{Option}
use Rattle.sof_base.specs.Slots.{AreSlots, IsSlot}
use Rattle.stream_law.specs.declared.graph.Comp.{Comp}
use Rattle.stream_law.specs.declared.graph.Edge.{Edge}
use Rattle.stream_law.specs.Ways.{comp_of, edge_of}
use Rattle.ipc3_model.specs.Meanings.{IsMessage}
use Rattle.ipc3_model.specs.declared.message.Message.TheVariants.{CompFree, BufferFree, PipeFree, Connect, PipeComplete}
use Rattle.tplg_plan.specs.declared.plans.Plan.{Plan}
use Rattle.tplg_plan.specs.Sound.{IsSound, Names}
use Rattle.host_widgets.specs.Acts.{widget_words}
use Rattle.host_widgets.specs.ActMessages.{act_message, unmake_by}
use Rattle.host_widgets.specs.HostActs.{Make, Unmake}
use Rattle.host_widgets.proofs.MakeMessages.{is_comp_message, is_buffer_message, is_pipe_message}
use Rattle.host_widgets.proofs.MakeStates.{message-comp, message-buffer, message-pipe}
use Rattle.host_widgets.proofs.NamedIds.{named-at, id-fits}
use Rattle.host_widgets.proofs.RowsThere.{IsNoPart}

module _ (plan : Plan) (sound : IsSound plan) where
  -- ---- making

  pub make-fits : (id : ℕ) → id < length plan.widgets → IsMessage (act_message plan (Make id))
  make-fits id low = by (named-at plan sound id low)
    where
      by : Names plan.graph id (widget_words plan id) → IsMessage (act_message plan (Make id))
      by (inl x) = subst IsMessage (sym (message-comp plan 0 sound id x)) (is_comp_message plan sound id low x)
      by (inr (inl x)) = subst IsMessage (sym (message-buffer plan 0 sound id x)) (is_buffer_message plan sound id low x)
      by (inr (inr x)) = subst IsMessage (sym (message-pipe plan 0 sound id x)) (is_pipe_message plan sound id low x)

  pub make-whole : (id : ℕ) → id < length plan.widgets → IsNoPart (act_message plan (Make id))
  make-whole id low = by (named-at plan sound id low)
    where
      by : Names plan.graph id (widget_words plan id) → IsNoPart (act_message plan (Make id))
      by (inl x) = subst IsNoPart (sym (message-comp plan 0 sound id x)) tt
      by (inr (inl x)) = subst IsNoPart (sym (message-buffer plan 0 sound id x)) tt
      by (inr (inr x)) = subst IsNoPart (sym (message-pipe plan 0 sound id x)) tt

  pub join-fits : (source sink : ℕ) → source < length plan.widgets → sink < length plan.widgets → IsMessage (Connect source sink)
  unfolding AreSlots IsSlot
  join-fits source sink low lower = ((tt, (omega arith, (id-fits plan sound source low, (id-fits plan sound sink lower, tt)))), tt)

  pub finish-fits : (id : ℕ) → id < length plan.widgets → IsMessage (PipeComplete id)
  unfolding AreSlots IsSlot
  finish-fits id low = ((tt, (omega arith, (id-fits plan sound id low, tt))), tt)

  -- ---- unmaking

  comp-free-fits : (id : ℕ) → id < length plan.widgets → IsMessage (CompFree id)
  unfolding AreSlots IsSlot
  comp-free-fits id low = ((tt, (omega arith, (id-fits plan sound id low, tt))), tt)

  buffer-free-fits : (id : ℕ) → id < length plan.widgets → IsMessage (BufferFree id)
  unfolding AreSlots IsSlot
  buffer-free-fits id low = ((tt, (omega arith, (id-fits plan sound id low, tt))), tt)

  pipe-free-fits : (id : ℕ) → id < length plan.widgets → IsMessage (PipeFree id)
  unfolding AreSlots IsSlot
  pipe-free-fits id low = ((tt, (omega arith, (id-fits plan sound id low, tt))), tt)

  pub unmake-fits : (id : ℕ) → id < length plan.widgets → IsMessage (act_message plan (Unmake id))
  unmake-fits id low = by (comp_of plan.graph id) (edge_of plan.graph id)
    where
      by : (c : Option Comp) (e : Option Edge) → IsMessage (unmake_by c e id)
      by (Some c) e = comp-free-fits id low
      by None (Some e) = buffer-free-fits id low
      by None None = pipe-free-fits id low

  pub unmake-whole : (id : ℕ) → IsNoPart (act_message plan (Unmake id))
  unmake-whole id = by (comp_of plan.graph id) (edge_of plan.graph id)
    where
      by : (c : Option Comp) (e : Option Edge) → IsNoPart (unmake_by c e id)
      by (Some c) e = tt
      by None (Some e) = tt
      by None None = tt
