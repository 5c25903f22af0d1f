use Rattle.std.proofs.Common.{◌≡◌, ℕ, List, take, position}
use Rattle.std.specs.Str.{bytes_eq}
use Rattle.std.specs.HashMap as hash
use Rattle.tplg_widgets.specs.Names.{is_interpreted_named}
use Rattle.tplg_widgets.proofs.first_names.interpreted_by_name.Given as goal

abbrev pub invariant-loop-k : goal.invariant-loop-k
invariant-loop-k l = (q : List ℕ) → hash.get_by (λ k. bytes_eq q k.now) l.numbers ≡ position (is_interpreted_named q) (take l.k l.entries)
