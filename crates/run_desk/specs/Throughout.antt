-- What holds throughout what is to do.
use Rattle.std.specs.Prelude.{ℕ, List, Option}
use Rattle.sof_script.specs.Tasks.{Out}
use Rattle.run_desk.specs.Todo.{Todo, End, Stop, Ask, Do, Step, Refill, Send, Free}

-- each status that it may end with but 3 is so, and each name that it loads
abbrev pub Throughout : (ℕ → Type 0) → (List ℕ → Type 0) → Todo → Type 0
Throughout P A End = P 0
Throughout P A (Stop line n) = P n
Throughout P A (Ask name limit line rest) = A name × P 5 × P 7 × ((bytes : List ℕ) → Throughout P A (rest bytes))
Throughout P A (Do act rest) = Throughout P A rest
Throughout P A (Step task rest) = (out : Out) → Throughout P A (rest out)
Throughout P A (Refill rest) = Throughout P A rest
Throughout P A (Send message rest) = (reply : Option (List ℕ)) → Throughout P A (rest reply)
Throughout P A (Free rest) = P 7 × Throughout P A rest
