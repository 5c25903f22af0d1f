use Rattle.stream_law.proofs.Quotas.{quota-numbers, quota-parts, quota-thousands, quota-few}
use Rattle.stream_law.proofs.laws.quota_law.Goals as goal

pub returns : goal.returns
returns c = record {
  numbers = λ v t c low. quota-numbers v t c low;
  parts = λ v t c low. quota-parts v t c low;
  thousands = λ v t c k low is. quota-thousands v t c k low is;
  few = λ v t c short slow. quota-few v t c short slow;
}
