use Rattle.std.proofs.Common.{refl}
use Rattle.std.specs.Fmt.{digits}
use Rattle.sof_base.specs.Slots.{until_zero, word_at, slots_cells, slot_cells, words_bytes}
use Rattle.stream_law.specs.Joins.{would_cycle, crosses, stays}
use Rattle.stream_law.specs.Ways.{reaches, is_echo, way_joins, ways_to, on_way, agree}
use Rattle.tplg_model.specs.TokenValues.{number_of, text_of}
use Rattle.ipc3_model.specs.Messages.{decoded}
use Rattle.mbox_link.specs.Step.{step}
use Rattle.ipc3_trace.specs.Reading.{next_in, found_from}
use Rattle.ipc3_trace.specs.Records.{spelled}
use Rattle.sof_tests.proofs.trace_rows.load_rows.Goals as goal

pub returns-clause-long : goal.returns-clause-long
unfolding digits number_of text_of until_zero step decoded spelled word_at slots_cells slot_cells words_bytes would_cycle crosses stays reaches is_echo way_joins ways_to on_way agree
returns-clause-long c = refl

pub returns-clause-begins : goal.returns-clause-begins
unfolding digits number_of text_of until_zero step decoded spelled word_at slots_cells slot_cells words_bytes would_cycle crosses stays reaches is_echo way_joins ways_to on_way agree
returns-clause-begins c = refl

pub returns-clause-lines : goal.returns-clause-lines
unfolding digits number_of text_of until_zero step decoded spelled word_at slots_cells slot_cells words_bytes would_cycle crosses stays reaches is_echo way_joins ways_to on_way agree
returns-clause-lines c = refl

pub returns-clause-first : goal.returns-clause-first
unfolding digits number_of text_of until_zero step decoded spelled word_at slots_cells slot_cells words_bytes would_cycle crosses stays reaches is_echo way_joins ways_to on_way agree
returns-clause-first c = refl

pub returns-clause-tenth : goal.returns-clause-tenth
unfolding digits number_of text_of until_zero step decoded spelled word_at slots_cells slot_cells words_bytes would_cycle crosses stays reaches is_echo way_joins ways_to on_way agree
returns-clause-tenth c = refl

pub returns-clause-eleventh : goal.returns-clause-eleventh
unfolding digits number_of text_of until_zero step decoded spelled word_at slots_cells slot_cells words_bytes would_cycle crosses stays reaches is_echo way_joins ways_to on_way agree
returns-clause-eleventh c = refl

pub returns-clause-bytes : goal.returns-clause-bytes
unfolding digits number_of text_of until_zero step decoded spelled word_at slots_cells slot_cells words_bytes would_cycle crosses stays reaches is_echo way_joins ways_to on_way agree
returns-clause-bytes c = refl

pub returns-clause-replayed : goal.returns-clause-replayed
unfolding digits number_of text_of until_zero step decoded spelled word_at slots_cells slot_cells words_bytes would_cycle crosses stays reaches is_echo way_joins ways_to on_way agree next_in found_from
returns-clause-replayed c = refl

pub returns-clause-short : goal.returns-clause-short
unfolding digits number_of text_of until_zero step decoded spelled word_at slots_cells slot_cells words_bytes would_cycle crosses stays reaches is_echo way_joins ways_to on_way agree next_in found_from
returns-clause-short c = refl

pub returns-clause-other_reply : goal.returns-clause-other_reply
unfolding digits number_of text_of until_zero step decoded spelled word_at slots_cells slot_cells words_bytes would_cycle crosses stays reaches is_echo way_joins ways_to on_way agree next_in found_from
returns-clause-other_reply c = refl

pub returns-clause-said : goal.returns-clause-said
unfolding digits number_of text_of until_zero step decoded spelled word_at slots_cells slot_cells words_bytes would_cycle crosses stays reaches is_echo way_joins ways_to on_way agree next_in found_from
returns-clause-said c = refl
