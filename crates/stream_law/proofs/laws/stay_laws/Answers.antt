use Rattle.stream_law.proofs.Shapes.{shapes-stay, live-stays}
use Rattle.stream_law.proofs.laws.stay_laws.Goals as goal

pub returns : goal.returns
returns c = record {
  shapes = λ old new keeps x there was now. shapes-stay old new keeps x there was now;
  live = λ old new fresh keeps. live-stays old new fresh keeps;
}
