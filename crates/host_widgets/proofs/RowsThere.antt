-- What a row makes of what is there is a matter of what is there alone, but for the parts of a blob.
use Rattle.std.proofs.Common.{◌≡◌, refl, ℕ, Bool, true, false, not, cond, ◌||◌, ◌&&◌, length, Option, Some, None, Ok, Err}
use Rattle.std.specs.Prelude.{Result, ℤ, find, nat_le, is_some, option_and_then, ◌==◌}
use Rattle.std.specs.List.{list_any}
use Rattle.stream_law.specs.declared.graph.Comp.{Comp}
use Rattle.stream_law.specs.declared.graph.Pipe.{Pipe}
use Rattle.stream_law.specs.declared.graph.Setting.{Setting}
use Rattle.stream_law.specs.declared.stream.Phase.{Phase}
use Rattle.stream_law.specs.declared.stream.Phase.TheVariants as phases
use Rattle.stream_law.specs.declared.stream.StreamView.{StreamView}
use Rattle.stream_law.specs.Joins.{stays}
use Rattle.stream_law.specs.Seen.{seen, is_volume}
use Rattle.stream_law.specs.State.{FwState, view_of}
use Rattle.stream_law.specs.Ways.{comp_of, is_of, is_complete, is_live_phase, is_running_phase}
use Rattle.ipc3_model.specs.declared.message.Message.{Message}
use Rattle.ipc3_model.specs.declared.message.Message.TheVariants as messages
use Rattle.mbox_link.specs.Step.{row, busy, no_device, no_memory, invalid, has_comp, has_edge, has_index, is_used, kind_at, has_kind, comp_bytes, buffer_bytes, pipe_bytes, has_hole, kind_of, is_joined, is_refused_join, complete_pipe, has_complete_pipe, touches, is_held, without_edge, is_index_held, free_pipe, new_setting, value_set, control_values_at, part_at, is_host, phase_at, is_stream_phase, is_refused_params, stream_changed, set_stream, set_phase, is_prepared, is_paused, with_setting_at}
use Rattle.host_widgets.specs.There.{there_in, silent_state}
use Rattle.host_widgets.proofs.RowsTold.{told}

-- after a test that both pass or both fail
behind : (b : Bool) (e : ℤ) (r s : Result FwState ℤ) → told r ≡ told s → told (cond b (Err e) r) ≡ told (cond b (Err e) s)
behind true e r s same = refl
behind false e r s same = same

-- every message but a part of a blob
abbrev pub IsNoPart : Message → Type 0
IsNoPart (messages.SetData id part) = ⊥
IsNoPart m = Unit {0}

module _ (f : FwState) where
  -- a firmware in which as much is there, that played nothing
  abbrev t : FwState
  t = silent_state (there_in f)

  freed-same : (id : ℕ) (o : Option Pipe) → told (free_pipe f id o) ≡ told (free_pipe t id o)
  freed-same id None = refl
  freed-same id (Some p) = behind (is_index_held f.graph f.streams p.index) invalid _ _ refl

  completed-same : (id : ℕ) (o : Option Pipe) → told (complete_pipe f id o) ≡ told (complete_pipe t id o)
  completed-same id None = refl
  completed-same id (Some p) = behind (not (is_used f.graph p.sched)) no_device _ _ (behind p.complete busy _ _ (behind (not (has_comp f.graph p.sched)) invalid _ _ refl))

  set-same : (id : ℕ) (o : Option Setting) → told (value_set f id o) ≡ told (value_set t id o)
  set-same id None = refl
  set-same id (Some setting) = by (is_of f.graph is_volume id)
    where
      left : Bool → Result FwState ℤ
      left b = Ok (cond b (seen (with_setting_at f id setting) (Some id) f) (record f { graph = (with_setting_at f id setting).graph }))

      silent_left : Bool → Result FwState ℤ
      silent_left b = Ok (cond b (seen (with_setting_at t id setting) (Some id) t) (record t { graph = (with_setting_at t id setting).graph }))

      by : (b : Bool) → told (left b) ≡ told (silent_left b)
      by true = refl
      by false = refl

  changed-same : (host : ℕ) (from : Phase → Bool) (to : StreamView → StreamView) → told (stream_changed f host from to) ≡ told (stream_changed t host from to)
  changed-same host from to = behind (not (is_used f.graph host)) no_device _ _ (behind (not (has_kind is_host (kind_at f.graph host) && is_stream_phase from (phase_at f host))) invalid _ _ refl)

  pub row-told : (m : Message) → IsNoPart m → told (row f m) ≡ told (row t m)
  row-told (messages.CompNew id pipe periods_sink periods_source frame_fmt kind) no_part =
      behind (is_used f.graph id || is_complete f.graph pipe) busy _ _ (behind (nat_le 128 (length f.graph.comps) || not (has_hole f (comp_bytes (kind_of kind frame_fmt)))) no_memory _ _ refl)
  row-told (messages.CompFree id) no_part =
      behind (not (is_used f.graph id)) no_device _ _ (behind (has_complete_pipe f.graph id) busy _ _ (behind (not (has_comp f.graph id) || list_any (touches id) f.graph.joins) invalid _ _ refl))
  row-told (messages.BufferNew id pipe size caps) no_part =
      behind (is_used f.graph id || is_complete f.graph pipe) busy _ _ (behind (nat_le 128 (length f.graph.edges) || not (has_hole f (buffer_bytes size))) no_memory _ _ refl)
  row-told (messages.BufferFree id) no_part =
      behind (not (is_used f.graph id)) no_device _ _
      (behind (has_complete_pipe f.graph id) busy _ _ (behind (not (has_edge f.graph id) || is_held f.graph f.streams id || not (stays (view_of f) (without_edge id f.graph))) invalid _ _ refl))
  row-told (messages.PipeNew id pipe sched period priority mips frames time_domain) no_part =
      behind (is_used f.graph id || has_index f.graph pipe) busy _ _ (behind (nat_le 32 (length f.graph.pipes) || not (has_hole f pipe_bytes)) no_memory _ _ refl)
  row-told (messages.PipeFree id) no_part = behind (not (is_used f.graph id)) no_device _ _ (freed-same id (find (λ (p : Pipe). p.id == id) f.graph.pipes))
  row-told (messages.Connect source sink) no_part =
      behind (not (is_used f.graph source && is_used f.graph sink)) no_device _ _ (behind (is_joined f.graph source sink) busy _ _ (behind (is_refused_join f source sink) invalid _ _ refl))
  row-told (messages.PipeComplete id) no_part = behind (not (is_used f.graph id)) no_device _ _ (completed-same id (find (λ (p : Pipe). p.id == id) f.graph.pipes))
  row-told (messages.SetValue id command values) no_part =
      behind (not (is_used f.graph id)) no_device _ _ (set-same id (option_and_then (λ (c : Comp). new_setting c.kind c.setting command values) (comp_of f.graph id)))
  row-told (messages.GetValue id command) no_part = behind (not (is_used f.graph id)) no_device _ _ (behind (not (is_some (control_values_at f.graph id command))) invalid _ _ refl)
  row-told (messages.SetData id part) no_part = absurd no_part
  row-told (messages.GetData id index) no_part = behind (not (is_used f.graph id)) no_device _ _ (behind (not (is_some (part_at f.graph id index))) invalid _ _ refl)
  row-told (messages.PcmParams host direction params) no_part =
      behind (not (is_used f.graph host)) no_device _ _ (behind (is_refused_params (view_of f) host direction params (is_stream_phase is_live_phase (phase_at f host))) invalid _ _ refl)
  row-told (messages.PcmFree id) no_part = changed-same id is_prepared (set_stream id phases.Idle None)
  row-told (messages.TrigStart id) no_part = changed-same id is_prepared (set_phase id phases.Running)
  row-told (messages.TrigStop id) no_part = changed-same id is_live_phase (set_phase id phases.Prepared)
  row-told (messages.TrigPause id) no_part = changed-same id is_running_phase (set_phase id phases.Paused)
  row-told (messages.TrigRelease id) no_part = changed-same id is_paused (set_phase id phases.Running)
  row-told messages.CtxSave no_part = refl
