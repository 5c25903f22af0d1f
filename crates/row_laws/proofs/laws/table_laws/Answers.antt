use Rattle.std.proofs.Common.{refl}
use Rattle.stream_law.specs.declared.stream.Phase.TheVariants.{Prepared, Running, Paused}
use Rattle.stream_law.specs.Ways.{is_live_phase, is_running_phase}
use Rattle.mbox_link.specs.Step.{is_prepared, is_paused}
use Rattle.row_laws.proofs.RowKept.{comp_new-kept, buffer_new-kept, pipe_new-kept, connect-kept, pipe_complete-kept, comp_free-kept, buffer_free-kept, pipe_free-kept, set_value-kept, get_value-kept, set_data-kept, get_data-kept, pcm_params-kept, pcm_free-kept, ctx_save-kept, trigger-kept, leaves-moving, leaves-prepared, leaves-running, leaves-paused}
use Rattle.row_laws.proofs.laws.table_laws.Goals as goal

pub returns-clause-comp_new : goal.returns-clause-comp_new
returns-clause-comp_new c = comp_new-kept

pub returns-clause-buffer_new : goal.returns-clause-buffer_new
returns-clause-buffer_new c = buffer_new-kept

pub returns-clause-pipe_new : goal.returns-clause-pipe_new
returns-clause-pipe_new c = pipe_new-kept

pub returns-clause-connect : goal.returns-clause-connect
returns-clause-connect c = connect-kept

pub returns-clause-pipe_complete : goal.returns-clause-pipe_complete
returns-clause-pipe_complete c = pipe_complete-kept

pub returns-clause-comp_free : goal.returns-clause-comp_free
returns-clause-comp_free c = comp_free-kept

pub returns-clause-buffer_free : goal.returns-clause-buffer_free
returns-clause-buffer_free c = buffer_free-kept

pub returns-clause-pipe_free : goal.returns-clause-pipe_free
returns-clause-pipe_free c = pipe_free-kept

pub returns-clause-set_value : goal.returns-clause-set_value
returns-clause-set_value c = set_value-kept

pub returns-clause-get_value : goal.returns-clause-get_value
returns-clause-get_value c = get_value-kept

pub returns-clause-set_data : goal.returns-clause-set_data
returns-clause-set_data c = set_data-kept

pub returns-clause-get_data : goal.returns-clause-get_data
returns-clause-get_data c = get_data-kept

pub returns-clause-pcm_params : goal.returns-clause-pcm_params
returns-clause-pcm_params c = pcm_params-kept

pub returns-clause-pcm_free : goal.returns-clause-pcm_free
returns-clause-pcm_free c = pcm_free-kept

pub returns-clause-ctx_save : goal.returns-clause-ctx_save
returns-clause-ctx_save c = ctx_save-kept

pub returns-clause-trig_start : goal.returns-clause-trig_start
returns-clause-trig_start c host = trigger-kept host is_prepared Running leaves-prepared refl

pub returns-clause-trig_stop : goal.returns-clause-trig_stop
returns-clause-trig_stop c host = trigger-kept host is_live_phase Prepared leaves-moving refl

pub returns-clause-trig_pause : goal.returns-clause-trig_pause
returns-clause-trig_pause c host = trigger-kept host is_running_phase Paused leaves-running refl

pub returns-clause-trig_release : goal.returns-clause-trig_release
returns-clause-trig_release c host = trigger-kept host is_paused Running leaves-paused refl
