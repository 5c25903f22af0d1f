-- Room in the outputs.
use Rattle.std.proofs.Common.{◌≡◌, ℕ, ◌+◌, ◌*◌, ◌≤◌, List, [], ◌∷◌, sym, subst, arith, add-zero}
use Rattle.sof_base.specs.Ports.{OutputView, HasRoom}
use Rattle.sof_base.specs.DrainedOutputs.{drained}

pub HasRoom-less : (outputs : List OutputView) (m n : ℕ) → n ≤ m → HasRoom m outputs → HasRoom n outputs
HasRoom-less [] m n le room = tt
HasRoom-less (output ∷ outputs) m n le room = (omega (arith, room.0), HasRoom-less outputs m n le room.1)

-- room for what is pending, from the clause of an exchange
pub HasRoom-now : (p q : ℕ) (old new : List OutputView) → ((n : ℕ) → HasRoom (p + n) old → HasRoom (q + n) new) → HasRoom p old → HasRoom q new
HasRoom-now p q old new keeps room = subst (λ n. HasRoom n new) (add-zero q) (keeps 0 (subst (λ n. HasRoom n old) (sym (add-zero p)) room))

pub HasRoom-drained : (n : ℕ) (outputs : List OutputView) → n ≤ 1048576 → HasRoom n (drained outputs)
HasRoom-drained n [] le = tt
HasRoom-drained n (output ∷ outputs) le = (omega arith, HasRoom-drained n outputs le)

-- room for what is held after a message, from room for its ticks
pub room-held : (all left lag a b : ℕ) (old new : List OutputView) → left + lag ≡ all → ((n : ℕ) → HasRoom (61440 * (lag + a) + n) old → HasRoom (61440 * b + n) new) →
    (n : ℕ) → HasRoom (61440 * (all + a) + n) old → HasRoom (61440 * (left + b) + n) new
room-held all left lag a b old new is keeps n room =
    HasRoom-less new (61440 * b + (61440 * left + n)) (61440 * (left + b) + n) (omega arith)
    (keeps (61440 * left + n) (HasRoom-less old (61440 * (all + a) + n) (61440 * (lag + a) + (61440 * left + n)) (omega (arith, is)) room))
