use Rattle.std.proofs.Common.{sym, ap, ◌∙◌, subst, ◌≡◌, false, arith, ◌*◌, length}
use Rattle.sof_stress.proofs.FreshSlots.{fresh-slot, inputs-more, slots-below, bytes-count, new-there, new-open, new-held, filled-there, loaded}
use Rattle.sof_io.specs.Bound.{has_slot}
use Rattle.sof_io.specs.Takes.{input_slots}
use Rattle.sof_io.specs.Fills.{with_input, filled_at, ended_at}
use Rattle.sof_io.specs.Takes.{held_at, has_ended}
use Rattle.sof_stress.specs.StressPorts.{input_bytes, stress_inputs}
use Rattle.sof_stress.proofs.ports.inputs_of.Goals as goal

pub add-requires : goal.add-requires
add-requires c = subst (λ xs. has_slot (5 * c.loop-i.i) (input_slots xs) ≡ false) (sym c.loop-i.invariant) (fresh-slot c.loop-i.i c.loop-i.i (omega arith))

pub fill-requires-clause-there : goal.fill-requires-clause-there
fill-requires-clause-there c =
    let i = c.loop-i.i in
    ap (λ xs. has_slot (5 * i) (input_slots xs)) (c.in_ok-add.ensures.ok ∙ ap (with_input (5 * i)) c.loop-i.invariant) ∙ new-there (5 * i) (stress_inputs i) (slots-below i i (omega arith))

pub fill-requires-clause-open : goal.fill-requires-clause-open
fill-requires-clause-open c =
    let i = c.loop-i.i in
    ap (has_ended (5 * i)) (c.in_ok-add.ensures.ok ∙ ap (with_input (5 * i)) c.loop-i.invariant) ∙ new-open (5 * i) (stress_inputs i) (slots-below i i (omega arith))

pub fill-requires-clause-fits : goal.fill-requires-clause-fits
fill-requires-clause-fits c =
    let i = c.loop-i.i in
    let none = ap (held_at (5 * i)) (c.in_ok-add.ensures.ok ∙ ap (with_input (5 * i)) c.loop-i.invariant) ∙ new-held (5 * i) (stress_inputs i) (slots-below i i (omega arith)) in
    let few = ap length (c.as_slice.ensures.value ∙ c.in_ok-bytes.ensures) ∙ bytes-count i in
    omega (arith, none, few)

pub end-requires : goal.end-requires
end-requires c =
    let i = c.loop-i.i in
    let added = c.in_ok-add.ensures.ok ∙ ap (with_input (5 * i)) c.loop-i.invariant in
    ap (λ xs. has_slot (5 * i) (input_slots xs)) (c.fill.ensures ∙ ap (filled_at (5 * i) c.as_slice.result.now) added) ∙ filled-there (5 * i) (stress_inputs i) (slots-below i i (omega arith)) c.as_slice.result.now

pub loop-i-preserved : goal.loop-i-preserved
loop-i-preserved c =
    let i = c.loop-i.i in
    let added = c.in_ok-add.ensures.ok ∙ ap (with_input (5 * i)) c.loop-i.invariant in
    let filled = c.fill.ensures ∙ (λ k. filled_at (5 * i) ((c.as_slice.ensures.value ∙ c.in_ok-bytes.ensures) k) (added k)) in
    c.end.ensures ∙ ap (ended_at (5 * i)) filled ∙ loaded (5 * i) (stress_inputs i) (slots-below i i (omega arith)) (input_bytes i) ∙ sym (inputs-more i)
