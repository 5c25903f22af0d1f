use Rattle.std.proofs.Common.{◌≡◌, ◌<◌, ℕ, get_or}
use Rattle.fw_places.specs.Walks.{near_of}
use Rattle.fw_places.specs.Leaving.{no_join, last_from}
use Rattle.fw_places.proofs.walk.link.Given as goal

abbrev pub invariant-loop-k : goal.invariant-loop-k
invariant-loop-k l = record {
  last : (x : ℕ) → get_or l.last x 0 ≡ last_from l.back l.joins l.k x;
  links : (n : ℕ) → n < l.k → get_or l.before n 0 ≡ last_from l.back l.joins n (near_of l.back (get_or l.joins n no_join));
}
