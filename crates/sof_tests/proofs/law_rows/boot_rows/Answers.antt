use Rattle.std.proofs.Common.{refl}
use Rattle.sof_base.specs.Slots.{until_zero}
use Rattle.stream_law.specs.Ways.{reaches, is_echo, way_joins, ways_to, on_way, agree}
use Rattle.stream_law.specs.Joins.{would_cycle, stays}
use Rattle.tplg_model.specs.TokenValues.{number_of, text_of}
use Rattle.sof_tests.proofs.law_rows.boot_rows.Goals as goal

pub returns-clause-at_load : goal.returns-clause-at_load
unfolding number_of text_of until_zero
returns-clause-at_load c = refl

pub returns-clause-at_load_law : goal.returns-clause-at_load_law
unfolding number_of text_of until_zero
returns-clause-at_load_law c = refl

pub returns-clause-small : goal.returns-clause-small
unfolding number_of text_of until_zero
returns-clause-small c = refl

pub returns-clause-on_use : goal.returns-clause-on_use
unfolding reaches is_echo way_joins ways_to on_way would_cycle stays agree
returns-clause-on_use c = refl

pub returns-clause-on_use_law : goal.returns-clause-on_use_law
unfolding reaches is_echo way_joins ways_to on_way would_cycle stays agree
returns-clause-on_use_law c = refl
