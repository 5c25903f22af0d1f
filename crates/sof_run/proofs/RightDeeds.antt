-- Deeds that start a device only where it is off, with a heap of at most a room, leave records that a replay over such a room takes.
use Rattle.std.proofs.Common.{◌≡◌, refl, sym, ap, ◌∙◌, subst, ℕ, ◌≤◌, Bool, true, false, List, [], ◌∷◌, ◌++◌, Option, Some, None}
use Rattle.std.proofs.lemmas.Bool.{le-ltb}
use Rattle.std.proofs.lemmas.Slice.Eq.{bytes_eq-Decides}
use Rattle.std.specs.Prelude.{is_some, nat_lt, if◌then◌else◌}
use Rattle.std.specs.Option.{option_or}
use Rattle.std.specs.Str.{bytes_eq}
use Rattle.stream_law.specs.State.{FwState}
use Rattle.mbox_link.specs.Step.{fresh, step}
use Rattle.mbox_link.specs.Exchange.{ticked}
use Rattle.ipc3_trace.specs.declared.entry.Entry.{Entry}
use Rattle.ipc3_trace.specs.declared.entry.Entry.TheVariants.{Boot, Cut, Request, Reply, Tick}
use Rattle.ipc3_trace.specs.declared.fault.TraceFault.{TraceFault}
use Rattle.ipc3_trace.specs.declared.fault.ReplayFault.{ReplayFault}
use Rattle.ipc3_trace.specs.declared.fault.ReplayFault.TheVariants.{Replied}
use Rattle.ipc3_trace.specs.Steps.{Deed, Start, Stop, Send, Wait, no_ports, recorded, steps_from}
use Rattle.run_replay.specs.Replaying.{next_place, order_where}
use Rattle.run_replay.specs.Replays.{fault_from}

-- Each start meets a device that is off, and its heap is at most this room. They lead from a device that is on or off to one that is on or
-- off.
abbrev pub AreRight : ℕ → Bool → List Deed → Bool → Type 0
AreRight room on [] after = on ≡ after
AreRight room on (Start heap ∷ deeds) after = (on ≡ false) × (heap ≤ room) × AreRight room true deeds after
AreRight room on (Stop ∷ deeds) after = AreRight room false deeds after
AreRight room on (Send message ∷ deeds) after = AreRight room on deeds after
AreRight room on (Wait ∷ deeds) after = AreRight room on deeds after

module _ (room : ℕ) where
  pub right-append : (d e : List Deed) (on mid after : Bool) → AreRight room on d mid → AreRight room mid e after → AreRight room on (d ++ e) after
  right-append [] e on mid after first rest = subst (λ (b : Bool). AreRight room b e after) (sym first) rest
  right-append (Start heap ∷ d) e on mid after first rest = (first.0, first.1, right-append d e true mid after first.2 rest)
  right-append (Stop ∷ d) e on mid after first rest = right-append d e false mid after first rest
  right-append (Send message ∷ d) e on mid after first rest = right-append d e on mid after first rest
  right-append (Wait ∷ d) e on mid after first rest = right-append d e on mid after first rest

  -- where their records lead, a device is on as they say
  pub right-leads : (d : List Deed) (s : Option FwState) (after : Bool) → AreRight room (is_some s) d after → is_some (steps_from s (recorded s d)) ≡ after
  right-leads [] s after right = right
  right-leads (Start heap ∷ d) None after right = right-leads d (Some (fresh heap)) after right.2
  right-leads (Start heap ∷ d) (Some f) after right = absurd (cc right.0)
  right-leads (Stop ∷ d) None after right = right-leads d None after right
  right-leads (Stop ∷ d) (Some f) after right = right-leads d None after right
  right-leads (Send message ∷ d) None after right = right-leads d None after right
  right-leads (Send message ∷ d) (Some f) after right = right-leads d (Some (step f message).0) after right
  right-leads (Wait ∷ d) None after right = right-leads d None after right
  right-leads (Wait ∷ d) (Some f) after right = right-leads d (Some (ticked (f, no_ports)).0) after right

  module _ (end : Option TraceFault) where
    -- no reply is awaited before a record
    abbrev Fault : List Entry → Option FwState → ℕ → Option ReplayFault
    Fault es s at = fault_from room es end s None at

    -- a boot of a heap that fits, and a reply that is the awaited one
    boot-passes : (heap at : ℕ) (rest : Option ReplayFault) → heap ≤ room → option_or (order_where (nat_lt room heap) at) rest ≡ rest
    boot-passes heap at rest fits = ap (λ (b : Bool). option_or (order_where b at) rest) (le-ltb room heap fits)

    reply-passes : (reply : List ℕ) (at : ℕ) (rest : Option ReplayFault) → option_or (if bytes_eq reply reply then None else Some (Replied at)) rest ≡ rest
    reply-passes reply at rest = ap (λ (b : Bool). option_or (if b then None else Some (Replied at)) rest) ((bytes_eq-Decides reply reply).1 refl)

    -- none of their records is at fault: what is at fault with these and others is what is at fault with the others
    pub right-passes : (d : List Deed) (s : Option FwState) (after : Bool) (rest : List Entry) (at : ℕ) → AreRight room (is_some s) d after →
        (k : ℕ) × (Fault (recorded s d ++ rest) s at ≡ Fault rest (steps_from s (recorded s d)) k)
    right-passes [] s after rest at right = (at, refl)
    right-passes (Start heap ∷ d) None after rest at right =
        let later = next_place at (Boot heap) in
        let more = right-passes d (Some (fresh heap)) after rest later right.2 in
        (more.0, boot-passes heap at (Fault (recorded (Some (fresh heap)) d ++ rest) (Some (fresh heap)) later) right.1 ∙ more.1)
    right-passes (Start heap ∷ d) (Some f) after rest at right = absurd (cc right.0)
    right-passes (Stop ∷ d) None after rest at right = right-passes d None after rest at right
    right-passes (Stop ∷ d) (Some f) after rest at right = right-passes d None after rest (next_place at Cut) right
    right-passes (Send message ∷ d) None after rest at right = right-passes d None after rest at right
    right-passes (Send message ∷ d) (Some f) after rest at right =
        let g = (step f message).0 in
        let reply = (step f message).1 in
        let back = next_place at (Request message) in
        let later = next_place back (Reply reply) in
        let more = right-passes d (Some g) after rest later right in
        (more.0, reply-passes reply back (Fault (recorded (Some g) d ++ rest) (Some g) later) ∙ more.1)
    right-passes (Wait ∷ d) None after rest at right = right-passes d None after rest at right
    right-passes (Wait ∷ d) (Some f) after rest at right = right-passes d (Some (ticked (f, no_ports)).0) after rest (next_place at Tick) right
