use Rattle.std.proofs.Common.{◌≡◌, refl, Some, None}
use Rattle.stream_law.specs.Ways.{reaches, is_echo, way_joins, ways_to, on_way, agree}
use Rattle.stream_law.specs.Joins.{would_cycle, stays}
use Rattle.mbox_link.specs.Step.{no_memory}
use Rattle.mbox_link.specs.declared.fates.Fate.TheVariants.{Pass, Lose}
use Rattle.host_widgets.specs.Host.{errno}
use Rattle.sof_tests.proofs.law_rows.open_success_rows.Goals as goal

pub returns-clause-messages : goal.returns-clause-messages
unfolding reaches is_echo way_joins ways_to on_way would_cycle stays agree
returns-clause-messages c = refl

pub returns-clause-done : goal.returns-clause-done
unfolding reaches is_echo way_joins ways_to on_way would_cycle stays agree
returns-clause-done c = refl

pub returns-clause-may : goal.returns-clause-may
unfolding reaches is_echo way_joins ways_to on_way would_cycle stays agree
returns-clause-may c = ((refl, (refl, (refl, (refl, (refl, (refl, (refl, (refl, (refl, (refl, (refl, (refl, (refl, tt))))))))))))), (refl, (refl, (refl, (refl, (refl, (refl, (refl, (refl, (refl, (refl, (refl, (refl, (refl, tt))))))))))))))

pub returns-clause-lost : goal.returns-clause-lost
unfolding reaches is_echo way_joins ways_to on_way would_cycle stays agree
returns-clause-lost c = refl

pub returns-clause-lost_may_not : goal.returns-clause-lost_may_not
unfolding reaches is_echo way_joins ways_to on_way would_cycle stays agree
returns-clause-lost_may_not c = λ may. let bad : Lose ≡ Pass = may.1.1.1.1.1.1.1.1.1.1.1.1.1.0 in cc bad

pub returns-clause-shared : goal.returns-clause-shared
unfolding reaches is_echo way_joins ways_to on_way would_cycle stays agree
returns-clause-shared c = refl

pub returns-clause-shared_done : goal.returns-clause-shared_done
unfolding reaches is_echo way_joins ways_to on_way would_cycle stays agree
returns-clause-shared_done c = refl

pub returns-clause-shared_may : goal.returns-clause-shared_may
unfolding reaches is_echo way_joins ways_to on_way would_cycle stays agree
returns-clause-shared_may c = ((refl, (refl, (refl, (refl, (refl, (refl, tt)))))), (refl, (refl, (refl, (refl, (refl, (refl, tt)))))))

pub returns-clause-shared_refused : goal.returns-clause-shared_refused
unfolding reaches is_echo way_joins ways_to on_way would_cycle stays agree
returns-clause-shared_refused c = refl

pub returns-clause-full : goal.returns-clause-full
unfolding reaches is_echo way_joins ways_to on_way would_cycle stays agree
returns-clause-full c = refl

pub returns-clause-full_may_not : goal.returns-clause-full_may_not
unfolding reaches is_echo way_joins ways_to on_way would_cycle stays agree
returns-clause-full_may_not c = λ may. let bad : Some (errno no_memory) ≡ None = may.0.1.0 in cc bad
