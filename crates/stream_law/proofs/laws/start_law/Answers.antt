use Rattle.stream_law.specs.Stands.{SameView}
use Rattle.stream_law.specs.Viewing.{BothSilent}
use Rattle.stream_law.proofs.Standing.{Stands-start, Stands-reads}
use Rattle.stream_law.proofs.laws.start_law.Goals as goal

pub returns : goal.returns
returns c = record {
  stands = λ whole inputs read. Stands-start whole inputs read;
  read = λ device whole inputs moments before. Stands-reads SameView device whole inputs moments before;
  building = λ device whole inputs moments before. Stands-reads BothSilent device whole inputs moments before;
}
