-- What `serve` ensures, from the calls that it made.
use Rattle.std.proofs.Common.{◌≡◌, inl, inr, refl, ap, subst, ℕ, true, List, ◌++◌, map, None}
use Rattle.std.specs.Prelude.{is_some}
use Rattle.sof_desk.specs.Desk.{DeskMeaning, DeskAct, Did}
use Rattle.mbox_link.specs.Calls.{Meaning}
use Rattle.run_serve.specs.ServeWords.{ServeNames}
use Rattle.run_serve.specs.AnyCalls.{AnyCall, AtDesk, LedByCalls}
use Rattle.run_serve.specs.Serving.{doing, serve_opening, ServedFrom, ServedBy}
use Rattle.run_serve.specs.Opened.{OpenedBoth, NotOpened}
use Rattle.run_serve.specs.Served.{Serves}
use Rattle.run_serve.proofs.CallParts.{led-append, at-desk}
use Rattle.run_serve.proofs.ServedRecords.{ServedOn}
use Rattle.run_serve.proofs.WrittenReplies.{was-written}
use Rattle.run_serve.proofs.FailedCalls.{three-rises}
use Rattle.run_serve.proofs.FirmwareReplies.{by-firmware}

module _ {D P : Type 0} (means : DeskMeaning D) (dsp : Meaning P) (names : ServeNames) (old : D) (p : P) (off : dsp.on p ≡ None) (none : dsp.pending p ≡ 0) where
  serves : (status : ℕ) (new : D) (q : P) (calls : List AnyCall) → LedByCalls means dsp old p calls new q → ServedBy (dsp.most p) names calls status → Serves means dsp names old p status new q
  serves status new q calls led follows = record {
    calls = calls;
    led = led;
    follows = follows;
    failed = three-rises means dsp (dsp.most p) names calls status old p new q follows led;
    wrote = was-written means dsp (dsp.most p) names calls status old p new q led;
    replied = λ all calm. (by-firmware means dsp (dsp.most p) names calls status old p new q led all off none calm).replied;
    stands = λ all calm. (by-firmware means dsp (dsp.most p) names calls status old p new q led all off none calm).stands;
  }

  pub not-served : (new : D) → NotOpened means names old new → Serves means dsp names old p 3 new p
  not-served new (calls, led, un) = serves 3 new p (map AtDesk calls) (at-desk means dsp calls old p new led) (inl (refl, un))

  pub all-served : (mid new : D) (q : P) (status : ℕ) → OpenedBoth means names old mid → ServedOn means dsp 0 mid p status new q → Serves means dsp names old p status new q
  all-served mid new q status opened (calls, led, from) =
      serves status new q (map doing (serve_opening names) ++ calls)
      (led-append means dsp (map doing (serve_opening names)) calls old p mid p new q (at-desk means dsp (map (λ (act : DeskAct). Did act true) (serve_opening names)) old p mid opened.led) led)
      (inr record { later = calls; calls_are = refl; served = subst (λ b. ServedFrom (dsp.most p) 0 b calls status) (ap is_some off) from })
