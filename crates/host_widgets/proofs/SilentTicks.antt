-- Ticks of a firmware in which no stream runs or is paused: the clock alone goes on.
use Rattle.std.proofs.Common.{◌≡◌, ℕ, zero, suc, ◌+◌, ◌%◌, ◌^◌, List, sym, ap, ◌∙◌, arith}
use Rattle.std.specs.Prelude.{IsTrue, All, nat_eq}
use Rattle.std.specs.List.{IsDistinct}
use Rattle.sof_base.specs.Ports.{Io, InputView}
use Rattle.sof_io.specs.Takes.{input_slots, HasPosition}
use Rattle.stream_law.specs.State.{FwState, view_of}
use Rattle.stream_law.specs.Placed.{HasDistinct}
use Rattle.stream_law.specs.Silence.{is_silent}
use Rattle.stream_law.specs.Move.{next_clock}
use Rattle.stream_law.specs.TickLaws.{HasOneOfEach, clocked}
use Rattle.stream_law.proofs.Silent.{silent-tick}
use Rattle.mbox_link.specs.Exchange.{ticked, ticks}

-- a state whose clock has counted so many ticks
abbrev pub at : FwState → ℕ → FwState
at g t = record g { clock = t % 2 ^ 32 }

-- what the type of the inputs says of them
pub record AreInputs (inputs : List InputView) : Type 0 where
  pub distinct : IsDistinct nat_eq (input_slots inputs)
  pub positions : All HasPosition inputs

-- nothing moves in this state
pub record IsStill (g : FwState) : Type 0 where
  pub silent : IsTrue (is_silent (view_of g))
  pub rings : HasDistinct (λ r. r.buffer) g.rings
  pub histories : HasDistinct (λ h. h.comp) g.histories

next-clock : (t : ℕ) → next_clock (t % 2 ^ 32) ≡ (t + 1) % 2 ^ 32
next-clock t = omega arith

tick-still : (g : FwState) (t : ℕ) (io : Io) → IsStill g → AreInputs io.inputs → ticked (at g t, io) ≡ (at g (t + 1), io)
tick-still g t io still are =
    let single : HasOneOfEach (at g t) io = record { rings = still.rings; histories = still.histories; inputs = are.distinct; positions = are.positions } in
    let move = silent-tick (at g t) io still.silent single in
    let clock : clocked (at g t) ≡ at g (t + 1) = ap (λ (n : ℕ). record g { clock = n }) (next-clock t) in
    λ i. ((sym move.state ∙ clock) i, sym move.endpoints i)

-- so many ticks
pub ticks-still : (n : ℕ) (g : FwState) (t : ℕ) (io : Io) → IsStill g → AreInputs io.inputs → ticks n (at g t, io) ≡ (at g (t + n), io)
ticks-still zero g t io still are = ap (λ (n : ℕ). (at g n, io)) (omega arith)
ticks-still (suc n) g t io still are =
    ap (ticks n) (tick-still g t io still are) ∙ ticks-still n g (t + 1) io still are ∙ ap (λ (n : ℕ). (at g n, io)) (omega arith)
