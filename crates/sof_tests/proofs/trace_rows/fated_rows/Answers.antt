use Rattle.std.proofs.Common.{refl}
use Rattle.std.specs.Fmt.{digits}
use Rattle.sof_base.specs.Slots.{until_zero, word_at, slots_cells, slot_cells, words_bytes}
use Rattle.stream_law.specs.Joins.{would_cycle, crosses, stays}
use Rattle.stream_law.specs.Ways.{reaches, is_echo, way_joins, ways_to, on_way, agree}
use Rattle.tplg_model.specs.TokenValues.{number_of, text_of}
use Rattle.ipc3_model.specs.Messages.{decoded}
use Rattle.mbox_link.specs.Step.{step}
use Rattle.ipc3_trace.specs.Records.{spelled}
use Rattle.sof_tests.proofs.trace_rows.fated_rows.Goals as goal

pub returns-clause-fated : goal.returns-clause-fated
unfolding digits number_of text_of until_zero step decoded spelled word_at slots_cells slot_cells words_bytes would_cycle crosses stays reaches is_echo way_joins ways_to on_way agree
returns-clause-fated c = refl

pub returns-clause-refused : goal.returns-clause-refused
unfolding digits number_of text_of until_zero step decoded spelled word_at slots_cells slot_cells words_bytes would_cycle crosses stays reaches is_echo way_joins ways_to on_way agree
returns-clause-refused c = refl
