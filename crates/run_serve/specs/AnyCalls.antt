-- Calls on a desk and on a device that has endpoints without slots, in their order.
use Rattle.std.specs.Prelude.{◌≡◌, List, [], ◌∷◌}
use Rattle.sof_desk.specs.Desk.{DeskMeaning, DeskCall, Does}
use Rattle.mbox_link.specs.Calls.{Meaning, Call, Did, world}

pub data AnyCall : Type 0 where
  AtDesk : (call : DeskCall) → AnyCall
  AtDevice : (call : Call) → AnyCall

-- what a call does: the other side stays as it is
abbrev pub DidAnyCall : {D P : Type 0} → DeskMeaning D → Meaning P → AnyCall → D → P → D → P → Type 0
DidAnyCall means dsp (AtDesk call) d p e q = Does means call d e × (q ≡ p)
DidAnyCall means dsp (AtDevice call) d p e q = Did dsp call (world p [] []) (world q [] []) × (e ≡ d)

-- these calls, in this order and no others, lead from one desk and device to others
abbrev pub LedByCalls : {D P : Type 0} → DeskMeaning D → Meaning P → D → P → List AnyCall → D → P → Type 0
LedByCalls means dsp d p [] e q = (e ≡ d) × (q ≡ p)
LedByCalls {D} {P} means dsp d p (call ∷ calls) e q = (m : D) × (n : P) × DidAnyCall means dsp call d p m n × LedByCalls means dsp m n calls e q
