-- The endpoints' bytes, as contracts see them.
use Rattle.std.specs.Prelude.{ℕ, Bool, ◌+◌, ◌-◌, ◌≤◌, ◌^◌, min, List, [], ◌∷◌, length}
use Rattle.sof_base.specs.declared.limits.TheConstants.{OUTPUT_BYTES}

-- an input: its endpoint's component id, how many bytes were taken of it, those that are left, and whether no more come
pub record InputView : Type 0 where
  pub slot : ℕ
  pub position : ℕ
  pub left : List ℕ
  pub ended : Bool

-- an output: its endpoint's component id, and the bytes that were put and not yet drained
pub record OutputView : Type 0 where
  pub slot : ℕ
  pub bytes : List ℕ

-- all endpoints that are bound
pub record Io : Type 0 where
  pub inputs : List InputView
  pub outputs : List OutputView

-- a position after n more bytes; it stays at its last value
abbrev pub moved_on : ℕ → ℕ → ℕ
moved_on position n = min (position + n) (2 ^ 64 - 1)

-- every output has room for n more bytes, of 1048576
abbrev pub HasRoom : ℕ → List OutputView → Type 0
HasRoom n [] = Unit {0}
HasRoom n (output ∷ outputs) = (length output.bytes + n ≤ OUTPUT_BYTES) × HasRoom n outputs
