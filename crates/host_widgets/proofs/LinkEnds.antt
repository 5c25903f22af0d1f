-- What a fault leaves, by whether it is a failed link.
use Rattle.std.proofs.Common.{◌≡◌, ℕ, true, false, Err, refl}
use Rattle.mbox_link.specs.Calls.{World, Meaning}
use Rattle.host_widgets.specs.declared.answers.HostFault.{HostFault}
use Rattle.host_widgets.specs.declared.answers.HostFault.TheVariants.{LinkDown}
use Rattle.host_widgets.specs.declared.kept.Record.{Record}
use Rattle.host_widgets.specs.ActCarried.{PlainEnd, is_down}

module _ (T : Type 0) where
  pub down-is : (fault : HostFault) → is_down {T = T} (Err fault) ≡ true → LinkDown ≡ fault
  down-is LinkDown is = refl
  down-is fault is = absurd (cc is)

  pub stays : {D : Type 0} (means : Meaning D) (heap : ℕ) (kept : Record) (fault : HostFault) (v : World D) → is_down {T = T} (Err fault) ≡ false → PlainEnd means heap (Err fault) kept kept v v
  stays means heap kept LinkDown v other = absurd (cc other)
  stays means heap kept fault v other = (refl, refl)
