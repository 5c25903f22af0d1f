-- A record that is given to a device, and the device after it.
use Rattle.std.proofs.Common.{◌≡◌, inl, inr, refl, sym, ◌∙◌, ap, ℕ, true, List, [], ◌∷◌, map, Option, Some, None}
use Rattle.std.specs.Prelude.{is_some}
use Rattle.std.specs.List.{AllByRecursion}
use Rattle.sof_base.specs.Ports.{Io}
use Rattle.stream_law.specs.State.{FwState}
use Rattle.sof_desk.specs.Desk.{DeskMeaning}
use Rattle.mbox_link.specs.Exchange.{Stepped}
use Rattle.mbox_link.specs.Calls as calls
use Rattle.mbox_link.specs.Calls.{Meaning, Call, Did, Steady, Exchanged, Ticked, world}
use Rattle.mbox_link.proofs.Led.{Led-one, Led-steady}
use Rattle.ipc3_trace.specs.declared.entry.Entry.{Entry}
use Rattle.ipc3_trace.specs.declared.entry.Entry.TheVariants as entries
use Rattle.ipc3_trace.specs.Records.{IsEntry}
use Rattle.ipc3_trace.specs.Steps.{no_ports}
use Rattle.run_replay.specs.Replaying.{on_after}
use Rattle.run_serve.specs.declared.giving.Given.{Given}
use Rattle.run_serve.specs.declared.giving.Given.TheVariants.{Done, Reply, Lost, Misplaced}
use Rattle.run_serve.specs.AnyCalls.{AtDevice, LedByCalls}
use Rattle.run_serve.specs.Placed.{may_come, device_calls_of, backs_of, WasGiven}
use Rattle.run_serve.specs.Sent.{backs_by}
use Rattle.run_serve.proofs.CallParts.{at-device, device-alone}

-- what a device gave back
abbrev pub answer_by : Given → Option (List ℕ)
answer_by (Reply reply) = Some reply
answer_by given = None

pub is-on : (o : Option FwState) → is_some o ≡ true → (f : FwState) × (o ≡ Some f)
is-on None e = absurd (cc e)
is-on (Some f) e = (f, refl)

module _ {D P : Type 0} (means : DeskMeaning D) (dsp : Meaning P) where
  -- ---- one that may come was given by its calls

  pub record WasCalled (e : Entry) (given : Given) (p q : P) : Type 0 where
    pub may : may_come (dsp.most p) (is_some (dsp.on p)) e ≡ true
    pub led : (d : D) → LedByCalls means dsp d p (map AtDevice (device_calls_of e (answer_by given))) d q
    pub backs : backs_by given ≡ backs_of e (answer_by given)
    pub are : AllByRecursion IsEntry (backs_of e (answer_by given))

  pub was-called : (e : Entry) (given : Given) (p q : P) → (given ≡ Misplaced → ⊥) → WasGiven dsp e given p q → WasCalled e given p q
  was-called e Misplaced p q placed was = absurd (placed refl)
  was-called (entries.Boot heap) Done p q placed was = record { may = was.0; led = λ d. at-device means dsp (calls.Boot heap) d p q was.1; backs = refl; are = tt }
  was-called entries.Cut Done p q placed was = record { may = was.0; led = λ d. at-device means dsp calls.Cut d p q was.1; backs = refl; are = tt }
  was-called (entries.Request message) (Reply reply) p q placed was = record { may = was.0; led = λ d. at-device means dsp (calls.Exchange message (Some reply)) d p q was.1.1; backs = refl; are = (was.1.0, tt) }
  was-called (entries.Request message) Lost p q placed was = record { may = was.0; led = λ d. at-device means dsp (calls.Exchange message None) d p q was.1; backs = refl; are = (tt, tt) }
  was-called entries.Tick Done p q placed was = record { may = was.0; led = λ d. at-device means dsp calls.Tick d p q was.1; backs = refl; are = tt }
  was-called e given p q placed was = absurd was.1

  -- ---- whether the device is on then

  exchange-on : (message : List ℕ) (answer : Option (List ℕ)) (p q : P) → Exchanged dsp message answer (world p [] []) (world q [] []) → is_some (dsp.on p) ≡ true → is_some (dsp.on q) ≡ true
  exchange-on message answer p q x on = let here = is-on (dsp.on p) on in by _ _ _ answer (x.step here.0 here.1)
    where
      by : (s : FwState × Io) (refused faulted : Type 0) (answer : Option (List ℕ)) → Stepped refused faulted s message answer (dsp.on q) no_ports → is_some (dsp.on q) ≡ true
      by s refused faulted (Some reply) (same, inl (after, is)) = ap is_some after
      by s refused faulted (Some reply) (same, inr (rose, refusal, after)) = ap is_some after
      by s refused faulted None (same, rose, inl after) = ap is_some after
      by s refused faulted None (same, rose, inr after) = ap is_some after

  tick-on : (p q : P) → Ticked dsp (world p [] []) (world q [] []) → is_some (dsp.on p) ≡ true → is_some (dsp.on q) ≡ true
  tick-on p q t on = let here = is-on (dsp.on p) on in ap is_some (t.on here.0 here.1).0

  -- what a record's calls keep and leave
  pub record After (e : Entry) (p q : P) : Type 0 where
    pub on : is_some (dsp.on q) ≡ on_after (is_some (dsp.on p)) e
    pub steady : Steady dsp p q

  pub steady-same : (p q : P) → q ≡ p → Steady dsp p q
  steady-same p q same = Led-steady dsp [] (world p [] []) (world q [] []) (ap (λ x. world x [] []) same)

  call-steady : (call : Call) (p q : P) → Did dsp call (world p [] []) (world q [] []) → Steady dsp p q
  call-steady call p q did = Led-steady dsp (call ∷ []) (world p [] []) (world q [] []) (Led-one dsp (world p [] []) (world q [] []) call did)

  pub then-is : (e : Entry) (answer : Option (List ℕ)) (d : D) (p : P) (m : D) (q : P) → may_come (dsp.most p) (is_some (dsp.on p)) e ≡ true → LedByCalls means dsp d p (map AtDevice (device_calls_of e answer)) m q → After e p q
  then-is (entries.Boot heap) answer d p m q may led =
      let did = (device-alone means dsp (calls.Boot heap) d p m q led).1 in record { on = ap is_some did.0.on; steady = call-steady (calls.Boot heap) p q did }
  then-is entries.Cut answer d p m q may led =
      let did = (device-alone means dsp calls.Cut d p m q led).1 in record { on = ap is_some did.0.on; steady = call-steady calls.Cut p q did }
  then-is (entries.Request message) answer d p m q may led =
      let did = (device-alone means dsp (calls.Exchange message answer) d p m q led).1 in
      record { on = exchange-on message answer p q did may ∙ sym may; steady = call-steady (calls.Exchange message answer) p q did }
  then-is (entries.Reply reply) answer d p m q may led = absurd (cc may)
  then-is entries.Tick answer d p m q may led =
      let did = (device-alone means dsp calls.Tick d p m q led).1 in record { on = tick-on p q did may ∙ sym may; steady = call-steady calls.Tick p q did }
  then-is entries.Lost answer d p m q may led = absurd (cc may)

  -- what calls keep, whether or not the record may come
  pub steady-by : (e : Entry) (answer : Option (List ℕ)) (d : D) (p : P) (m : D) (q : P) → LedByCalls means dsp d p (map AtDevice (device_calls_of e answer)) m q → Steady dsp p q
  steady-by (entries.Boot heap) answer d p m q led = call-steady (calls.Boot heap) p q (device-alone means dsp (calls.Boot heap) d p m q led).1
  steady-by entries.Cut answer d p m q led = call-steady calls.Cut p q (device-alone means dsp calls.Cut d p m q led).1
  steady-by (entries.Request message) answer d p m q led = call-steady (calls.Exchange message answer) p q (device-alone means dsp (calls.Exchange message answer) d p m q led).1
  steady-by (entries.Reply reply) answer d p m q led = steady-same p q led.1
  steady-by entries.Tick answer d p m q led = call-steady calls.Tick p q (device-alone means dsp calls.Tick d p m q led).1
  steady-by entries.Lost answer d p m q led = steady-same p q led.1

  -- no call on the device leaves the desk another
  pub desk-same : (e : Entry) (answer : Option (List ℕ)) (d : D) (p : P) (m : D) (q : P) → LedByCalls means dsp d p (map AtDevice (device_calls_of e answer)) m q → m ≡ d
  desk-same (entries.Boot heap) answer d p m q led = (device-alone means dsp (calls.Boot heap) d p m q led).0
  desk-same entries.Cut answer d p m q led = (device-alone means dsp calls.Cut d p m q led).0
  desk-same (entries.Request message) answer d p m q led = (device-alone means dsp (calls.Exchange message answer) d p m q led).0
  desk-same (entries.Reply reply) answer d p m q led = led.0
  desk-same entries.Tick answer d p m q led = (device-alone means dsp calls.Tick d p m q led).0
  desk-same entries.Lost answer d p m q led = led.0
