-- Inputs before a run.
use Rattle.std.specs.Prelude.{◌≡◌, List}
use Rattle.std.specs.List.{AllByRecursion}
use Rattle.sof_base.specs.Ports.{InputView}
use Rattle.sof_io.specs.Fills.{new_input}

-- inputs of which nothing was read yet
abbrev pub AreNew : List InputView → Type 0
AreNew inputs = AllByRecursion (λ (input : InputView). input ≡ new_input input.slot) inputs
