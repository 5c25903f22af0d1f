-- Calls on a desk and a device, in parts.
use Rattle.std.proofs.Common.{◌≡◌, refl, sym, ◌∙◌, subst, List, [], ◌∷◌, ◌++◌, map}
use Rattle.sof_desk.specs.Desk.{DeskMeaning, DeskCall, DeskLed}
use Rattle.mbox_link.specs.Calls.{Meaning, Call, Did, world}
use Rattle.run_serve.specs.AnyCalls.{AnyCall, AtDesk, AtDevice, LedByCalls}

-- calls on a desk, one list after another
pub desk-append : {D : Type 0} (means : DeskMeaning D) (first rest : List DeskCall) (d m e : D) → DeskLed means d first m → DeskLed means m rest e → DeskLed means d (first ++ rest) e
desk-append means [] rest d m e one two = subst (λ x. DeskLed means x rest e) one two
desk-append means (call ∷ first) rest d m e (x, did, one) two = (x, did, desk-append means first rest x m e one two)

module _ {D P : Type 0} (means : DeskMeaning D) (dsp : Meaning P) where
  -- one list after another
  pub led-append : (first rest : List AnyCall) (d : D) (p : P) (m : D) (n : P) (e : D) (q : P) → LedByCalls means dsp d p first m n → LedByCalls means dsp m n rest e q → LedByCalls means dsp d p (first ++ rest) e q
  led-append [] rest d p m n e q one two = subst (λ x. LedByCalls means dsp x p rest e q) one.0 (subst (λ y. LedByCalls means dsp m y rest e q) one.1 two)
  led-append (call ∷ first) rest d p m n e q (x, y, did, one) two = (x, y, did, led-append first rest x y m n e q one two)

  -- where the first of two lists led
  pub record Midway (first rest : List AnyCall) (d : D) (p : P) (e : D) (q : P) : Type 0 where
    pub desk : D
    pub device : P
    pub one : LedByCalls means dsp d p first desk device
    pub two : LedByCalls means dsp desk device rest e q

  pub led-parts : (first rest : List AnyCall) (d : D) (p : P) (e : D) (q : P) → LedByCalls means dsp d p (first ++ rest) e q → Midway first rest d p e q
  led-parts [] rest d p e q led = record { desk = d; device = p; one = (refl, refl); two = led }
  led-parts (call ∷ first) rest d p e q (m, n, did, led) =
      let later = led-parts first rest m n e q led in
      record { desk = later.desk; device = later.device; one = (m, n, did, later.one); two = later.two }

  -- calls on the desk alone
  pub at-desk : (calls : List DeskCall) (d : D) (p : P) (e : D) → DeskLed means d calls e → LedByCalls means dsp d p (map AtDesk calls) e p
  at-desk [] d p e led = (led, refl)
  at-desk (call ∷ calls) d p e (m, did, led) = (m, p, (did, refl), at-desk calls m p e led)

  pub desk-alone : (calls : List DeskCall) (d : D) (p : P) (e : D) (q : P) → LedByCalls means dsp d p (map AtDesk calls) e q → DeskLed means d calls e × (q ≡ p)
  desk-alone [] d p e q led = led
  desk-alone (call ∷ calls) d p e q (m, n, did, led) =
      let later = desk-alone calls m n e q led in
      ((m, did.0, later.0), later.1 ∙ did.1)

  -- one call on the device
  pub at-device : (call : Call) (d : D) (p q : P) → Did dsp call (world p [] []) (world q [] []) → LedByCalls means dsp d p (AtDevice call ∷ []) d q
  at-device call d p q did = (d, q, (did, refl), (refl, refl))

  pub device-alone : (call : Call) (d : D) (p : P) (e : D) (q : P) → LedByCalls means dsp d p (AtDevice call ∷ []) e q → (e ≡ d) × Did dsp call (world p [] []) (world q [] [])
  device-alone call d p e q (m, n, did, last) = (last.0 ∙ did.1, subst (λ y. Did dsp call (world p [] []) (world y [] [])) (sym last.1) did.0)
