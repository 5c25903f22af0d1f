-- The firmware's step for a message: one row for each, its tests in the order -19, -16, -22, -12.
use Rattle.std.specs.Prelude.{ℕ, List, [], Option, Some, None, Result, Ok, Err, ℤ, pos}
use Rattle.sof_base.specs.declared.part.Part.{Part}
use Rattle.sof_base.specs.Holes.{usable_of, fresh_holes}
use Rattle.stream_law.specs.declared.stream.Phase.TheVariants.{Prepared, Running, Paused}
use Rattle.stream_law.specs.State.{FwState}
use Rattle.stream_law.specs.Ways.{is_live_phase, is_running_phase}
use Rattle.ipc3_model.specs.declared.message.Message.{Message}
use Rattle.ipc3_model.specs.declared.message.Message.TheVariants as messages
use Rattle.ipc3_model.specs.declared.reply.Body.{Body}
use Rattle.ipc3_model.specs.declared.reply.Body.TheVariants as bodies
use Rattle.ipc3_model.specs.declared.fault.CodecFault.{CodecFault}
use Rattle.ipc3_model.specs.Messages.{decoded}
use Rattle.ipc3_model.specs.Replies.{reply_spelling}
pub use Rattle.stream_law.specs.Ways.{is_complete}
pub use Rattle.sof_base.specs.Rates.{is_rate}
pub use Rattle.mbox_link.specs.ErrorNumbers.{no_memory, busy, no_device, invalid}
pub use Rattle.mbox_link.specs.NamedIds.{has_comp, has_edge, has_pipe, is_used, has_index, kind_at, has_kind}
pub use Rattle.stream_law.specs.Sizes.{comp_bytes, buffer_bytes, pipe_bytes}
pub use Rattle.mbox_link.specs.HeapPieces.{has_hole, heap_with_piece, holes_after_free, without_piece}
pub use Rattle.mbox_link.specs.NewRows.{sample_format, kind_of, first_setting, first_ramp, with_host_stream, with_comps, with_comp, comp_new, with_edges, with_buffer, buffer_new, with_pipes, with_pipe, pipe_new}
pub use Rattle.mbox_link.specs.JoinRows.{leads_in, leads_out, is_joined, has_free_out, has_free_in, takes_join, is_refused_join, connect, completed, complete_pipe, pipe_complete}
pub use Rattle.mbox_link.specs.FreeRows.{index_by, index_of, has_complete_pipe, touches, without_comp, comp_free, is_held, without_edge, without_buffer, buffer_free, without_pipe, is_index_held, free_pipe, pipe_free}
pub use Rattle.mbox_link.specs.ValueRows.{new_setting, with_setting, with_setting_at, value_set, set_value, control_values, control_values_at, get_value}
pub use Rattle.mbox_link.specs.DataRows.{staging_at, bytes_left, is_next, keeps_order, staged_bytes, unstaged, with_staged, with_blob_at, blob_installed, part_staged, set_data, part_by, part_at, get_data}
pub use Rattle.mbox_link.specs.StreamRows.{is_host, goes, is_ready_comp, is_ready_edge, phase_at, set_stream, with_params, is_stream_phase, is_refused_params, pcm_params, set_phase, is_prepared, is_paused, stream_changed, pcm_free, trigger}
unfoldable pub use Rattle.mbox_link.specs.StreamRows.{is_way_ready}

-- ---- all rows

-- a message's row: the state after it, or a negative error, which leaves the state as it was
abbrev pub row : FwState → Message → Result FwState ℤ
row f (messages.CompNew id pipe periods_sink periods_source frame_fmt kind) = comp_new f id pipe (kind_of kind frame_fmt) (first_setting kind) (first_ramp kind)
row f (messages.CompFree id) = comp_free f id
row f (messages.BufferNew id pipe size caps) = buffer_new f id pipe size
row f (messages.BufferFree id) = buffer_free f id
row f (messages.PipeNew id pipe sched period priority mips frames time_domain) = pipe_new f id pipe sched period
row f (messages.PipeFree id) = pipe_free f id
row f (messages.Connect source sink) = connect f source sink
row f (messages.PipeComplete id) = pipe_complete f id
row f (messages.SetValue id command values) = set_value f id command values
row f (messages.GetValue id command) = get_value f id command
row f (messages.SetData id part) = set_data f id part
row f (messages.GetData id index) = get_data f id index
row f (messages.PcmParams host direction params) = pcm_params f host direction params
row f (messages.PcmFree id) = pcm_free f id
row f (messages.TrigStart id) = trigger f id is_prepared Running
row f (messages.TrigStop id) = trigger f id is_live_phase Prepared
row f (messages.TrigPause id) = trigger f id is_running_phase Paused
row f (messages.TrigRelease id) = trigger f id is_paused Running
row f messages.CtxSave = Ok f

-- the body of the reply to a message that is done: the values, or the part, that were asked for
abbrev pub values_body : Option (List ℕ) → Body
values_body None = bodies.Nothing
values_body (Some values) = bodies.Values values

abbrev pub part_body : Option Part → Body
part_body None = bodies.Nothing
part_body (Some part) = bodies.Part part

abbrev pub body : FwState → Message → Body
body f (messages.GetValue id command) = values_body (control_values_at f.graph id command)
body f (messages.GetData id index) = part_body (part_at f.graph id index)
body f m = bodies.Nothing

-- bytes that are no message are answered -22
abbrev pub row_of : FwState → Result Message CodecFault → Result FwState ℤ
row_of f (Ok m) = row f m
row_of f (Err fault) = Err invalid

abbrev pub body_of : FwState → Result Message CodecFault → Body
body_of f (Ok m) = body f m
body_of f (Err fault) = bodies.Nothing

-- the bytes of a reply without a body
abbrev pub error_reply : ℤ → List ℕ
error_reply error = reply_spelling (record { error = error; body = bodies.Nothing })

-- a message that is done is answered 0 with its body; a negative error has none
abbrev pub replied : FwState → Body → Result FwState ℤ → FwState × List ℕ
replied f said (Ok g) = (g, reply_spelling (record { error = pos 0; body = said }))
replied f said (Err e) = (f, error_reply e)

-- the state after the bytes of a message, and the reply's bytes
unfoldable pub step : FwState → List ℕ → FwState × List ℕ
step f request = replied f (body_of f (decoded request)) (row_of f (decoded request))

-- ---- a boot

-- nothing is there, and the heap is one hole
abbrev pub fresh : ℕ → FwState
fresh heap = record {
  heap = record { holes = fresh_holes (usable_of heap); pieces = [] };
  clock = 0;
  graph = record { comps = []; edges = []; pipes = []; joins = [] };
  streams = [];
  rings = [];
  histories = [];
  staging = [];
}
