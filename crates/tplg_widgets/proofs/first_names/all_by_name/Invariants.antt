use Rattle.std.proofs.Common.{◌≡◌, ℕ, List, take, position}
use Rattle.std.specs.Str.{bytes_eq}
use Rattle.std.specs.HashMap as hash
use Rattle.tplg_widgets.specs.Names.{has_name}
use Rattle.tplg_widgets.proofs.first_names.all_by_name.Given as goal

abbrev pub invariant-loop-k : goal.invariant-loop-k
invariant-loop-k l = (q : List ℕ) → hash.get_by (λ k. bytes_eq q k.now) l.numbers ≡ position (has_name q) (take l.k l.entries)
