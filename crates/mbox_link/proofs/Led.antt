-- Calls, one after another.
use Rattle.std.proofs.Common.{◌≤◌, ℕ, ◌+◌, replicate, List, [], ◌∷◌, ◌++◌, refl, sym, ◌∙◌, subst, arith}
use Rattle.std.proofs.lemmas.List.{replicate-append-replicate}
use Rattle.mbox_link.specs.Exchange.{NoneFell}
use Rattle.mbox_link.specs.Calls.{World, Meaning, Call, Boot, Cut, Exchange, Tick, Did, Led, Steady, Quiet, Ticked}
use Rattle.mbox_link.proofs.Steps.{NoneFell-same, NoneFell-by}

module _ {D : Type 0} (means : Meaning D) where
  pub Led-one : (w v : World D) (call : Call) → Did means call w v → Led means w (call ∷ []) v
  Led-one w v call d = (v, d, refl)

  -- calls after calls
  pub Led-append : (calls more : List Call) (w m v : World D) → Led means w calls m → Led means m more v → Led means w (calls ++ more) v
  Led-append [] more w m v first rest = subst (λ x. Led means x more v) first rest
  Led-append (call ∷ calls) more w m v first rest = (first.0, first.1, Led-append calls more first.0 m v first.2 rest)

  -- one call more
  pub Led-more : (calls : List Call) (call : Call) (w m v : World D) → Led means w calls m → Did means call m v → Led means w (calls ++ call ∷ []) v
  Led-more calls call w m v first d = Led-append calls (call ∷ []) w m v first (Led-one m v call d)

  -- and back: the calls but the last led to a world from which the last leads on
  pub Led-last : (calls : List Call) (call : Call) (w v : World D) → Led means w (calls ++ call ∷ []) v → (m : World D) × Led means w calls m × Did means call m v
  Led-last [] call w v led = (w, refl, subst (λ x. Did means call w x) (sym led.2) led.1)
  Led-last (first ∷ calls) call w v led =
      let back = Led-last calls call led.0 v led.2 in (back.0, (led.0, led.1, back.1), back.2)

  -- what calls keep, one after another
  pub Steady-by : (a b c : D) → Steady means a b → Steady means b c → Steady means a c
  Steady-by a b c first then =
      record {
        faults = NoneFell-by (means.faults a) (means.faults b) (means.faults c) first.faults then.faults;
        refusals = NoneFell-by (means.refusals a) (means.refusals b) (means.refusals c) first.refusals then.refusals;
        boots = omega (arith, first.boots, then.boots);
        pending = omega (arith, first.pending, then.pending);
        most = then.most ∙ first.most;
      }

  pub Steady-quiet : (a b : D) → Quiet means a b → means.boots a ≤ means.boots b → Steady means a b
  Steady-quiet a b quiet boots =
      record {
        faults = subst (NoneFell (means.faults a)) (sym quiet.faults) (NoneFell-same (means.faults a));
        refusals = subst (NoneFell (means.refusals a)) (sym quiet.refusals) (NoneFell-same (means.refusals a));
        boots = boots;
        pending = omega (arith, quiet.pending);
        most = quiet.most;
      }

  Did-steady : (call : Call) (w v : World D) → Did means call w v → Steady means w.device v.device
  Did-steady (Boot heap) w v d = Steady-quiet w.device v.device d.0.quiet d.0.no_fewer
  Did-steady Cut w v d = Steady-quiet w.device v.device d.0.quiet (omega (arith, d.0.boots))
  Did-steady (Exchange request answer) w v d = d.steady
  Did-steady Tick w v d = Steady-quiet w.device v.device d.quiet (omega (arith, d.boots))

  pub Led-steady : (calls : List Call) (w v : World D) → Led means w calls v → Steady means w.device v.device
  Led-steady [] w v led = subst (λ x. Steady means w.device x.device) (sym led) record { faults = NoneFell-same (means.faults w.device); refusals = NoneFell-same (means.refusals w.device); boots = omega arith; pending = omega arith; most = refl }
  Led-steady (call ∷ calls) w v led = Steady-by w.device led.0.device v.device (Did-steady call w led.0 led.1) (Led-steady calls led.0 v led.2)

  -- one tick more
  pub Led-tick : (n : ℕ) (w m v : World D) → Led means w (replicate n Tick) m → Ticked means m v → Led means w (replicate (n + 1) Tick) v
  Led-tick n w m v led tick =
      subst (λ calls. Led means w calls v) (replicate-append-replicate n 1 Tick) (Led-more (replicate n Tick) Tick w m v led tick)
