-- Outputs once all their bytes are taken.
use Rattle.std.specs.Prelude.{List, [], ◌∷◌}
use Rattle.sof_base.specs.Ports.{OutputView}

-- the outputs with no bytes
abbrev pub drained : List OutputView → List OutputView
drained [] = []
drained (output ∷ outputs) = record { slot = output.slot; bytes = [] } ∷ drained outputs
