-- What ticks leave of endpoints, and outputs to which nothing was written yet.
use Rattle.std.proofs.Common.{◌≡◌, ℕ, zero, suc, ◌≤◌, Bool, List, [], ◌∷◌, ◌++◌, map, drop, length, refl, sym, ap, subst, ◌∙◌, arith}
use Rattle.std.proofs.Math.Seq.{drop-append_seam}
use Rattle.sof_base.specs.Ports.{Io, InputView, OutputView, HasRoom}
use Rattle.sof_base.specs.DrainedOutputs.{drained}
use Rattle.sof_io.specs.Bound.{output_slots}
use Rattle.stream_law.specs.State.{FwState}
use Rattle.stream_law.specs.Table.{list_of, number_of}
use Rattle.stream_law.specs.Past.{Past}
use Rattle.stream_law.specs.Move.{audio_after}
use Rattle.mbox_link.specs.Exchange.{ticked, ticks}
use Rattle.host_widgets.proofs.StandingOn.{Gained, with_more}
use Rattle.sof_session.specs.Fills.{input_ends}
use Rattle.sof_session.specs.Written.{bytes_between, empty_outputs, with_bytes, written_between, written_in}

drained-empty : (outputs : List OutputView) → empty_outputs (output_slots outputs) ≡ drained outputs
drained-empty [] = refl
drained-empty (output ∷ outputs) = λ i. record { slot = output.slot; bytes = [] } ∷ drained-empty outputs i

drained-room : (n : ℕ) → n ≤ 1048576 → (outputs : List OutputView) → HasRoom n (drained outputs)
drained-room n fits [] = tt
drained-room n fits (output ∷ outputs) = (omega (arith, fits), drained-room n fits outputs)

-- ---- what stays

-- the slots of the outputs, and those of the inputs with whether each has ended
abbrev pub bound_ends : Io → List ℕ × List (ℕ × Bool)
bound_ends io = (output_slots io.outputs, input_ends io.inputs)

-- outputs with other bytes have the same slots
same-slots : (change : OutputView → OutputView) → ((output : OutputView) → (change output).slot ≡ output.slot) → (outputs : List OutputView) → output_slots (map change outputs) ≡ output_slots outputs
same-slots change same [] = refl
same-slots change same (output ∷ outputs) = λ i. same output i ∷ same-slots change same outputs i

-- and inputs of which bytes were taken end where they did
same-ends : (change : InputView → InputView) → ((input : InputView) → ((change input).slot ≡ input.slot) × ((change input).ended ≡ input.ended)) → (inputs : List InputView) → input_ends (map change inputs) ≡ input_ends inputs
same-ends change same [] = refl
same-ends change same (input ∷ inputs) = λ i. ((same input).0 i, (same input).1 i) ∷ same-ends change same inputs i

-- a tick leaves them
pub one-ends : (f : FwState) (io : Io) → bound_ends (ticked (f, io)).1 ≡ bound_ends io
one-ends f io =
    let a = audio_after f io in
    let outputs = same-slots (λ (o : OutputView). record { slot = o.slot; bytes = o.bytes ++ list_of a.written o.slot }) (λ o. refl) io.outputs in
    let inputs = same-ends (λ (x : InputView). record x { position = number_of a.positions x.slot; left = list_of a.left x.slot }) (λ x. (refl, refl)) io.inputs in
    λ i. (outputs i, inputs i)

-- so do so many ticks
pub ticks-ends : (n : ℕ) (f : FwState) (io : Io) → bound_ends (ticks n (f, io)).1 ≡ bound_ends io
ticks-ends zero f io = refl
ticks-ends (suc n) f io = let next = ticked (f, io) in ticks-ends n next.0 next.1 ∙ one-ends f io

-- ---- what was written

-- outputs that were empty hold what they gained
module _ (outputs new : List OutputView) (p q : Past) (gained : Gained outputs new p q) where
  between : (slot : ℕ) → bytes_between p q slot ≡ gained.more slot
  between slot = ap (drop (length (list_of p.bytes slot))) (gained.bytes slot) ∙ drop-append_seam (list_of p.bytes slot) (gained.more slot)

  more-written : (os : List OutputView) → written_in (map (with_more gained.more) (drained os)) ≡ written_between (map (λ (o : OutputView). o.slot) (drained os)) p q
  more-written [] = refl
  more-written (o ∷ os) = λ i. with_bytes o.slot (sym (between o.slot) i) (more-written os i)

  pub gained-written : drained outputs ≡ outputs → written_in new ≡ written_between (map (λ (o : OutputView). o.slot) outputs) p q
  gained-written empty =
      ap written_in gained.outputs
      ∙ subst (λ (os : List OutputView). written_in (map (with_more gained.more) os) ≡ written_between (map (λ (o : OutputView). o.slot) os) p q) empty (more-written outputs)

module _ (outputs : List OutputView) (empty : drained outputs ≡ outputs) where
  -- they are found by their slots
  pub empty-outputs : empty_outputs (output_slots outputs) ≡ outputs
  empty-outputs = drained-empty outputs ∙ empty

  -- and have all their room
  pub all-room : (n : ℕ) → n ≤ 1048576 → HasRoom n outputs
  all-room n fits = subst (HasRoom n) empty (drained-room n fits outputs)
