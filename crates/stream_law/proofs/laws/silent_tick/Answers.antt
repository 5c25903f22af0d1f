use Rattle.stream_law.proofs.Silent.{silent-tick, silent-tick_only}
use Rattle.stream_law.proofs.laws.silent_tick.Goals as goal

pub returns : goal.returns
returns c = record {
  clock_alone = λ f io silent single. silent-tick f io silent single;
  nothing_else = λ f f' io io' silent single move. silent-tick_only f f' io io' silent single move;
}
