-- What an exchange answers.
use Rattle.std.specs.Prelude.{ℕ, List, take, Option, Some, None, Result, Ok, Err}
use Rattle.mbox_link.specs.declared.device.LinkFault.{LinkFault}

-- what an exchange answered: the reply's bytes, or that the link failed
abbrev pub answered : Result ℕ LinkFault → List ℕ → Option (List ℕ)
answered (Ok n) reply = Some (take n reply)
answered (Err fault) reply = None
