-- The two files are opened, or a call for them failed.
use Rattle.std.proofs.Common.{◌∙◌, inl, inr, refl, true, false, [], ◌∷◌, Result, Ok, Err, is_ok}
use Rattle.std.specs.Prelude.{MatchResult}
use Rattle.sof_desk.specs.Desk.{DeskMeaning, Open, Create, Did, Acted}
use Rattle.run_serve.specs.ServeWords.{ServeNames}
use Rattle.run_serve.specs.AnyCalls.{AtDesk}
use Rattle.run_serve.specs.Reads.{requests_slot}
use Rattle.run_serve.specs.Serving.{replies_slot}
use Rattle.run_serve.specs.Opened.{OpenedBoth, NotOpened}

module _ {D : Type 0} (means : DeskMeaning D) (names : ServeNames) where
  pub not-opened : (old d : D) → Acted means (Open requests_slot names.requests) false old d → NotOpened means names old d
  not-opened old d opened = (Did (Open requests_slot names.requests) false ∷ [], (d, opened, refl), inl refl)

  module _ (old d : D) (opened : Acted means (Open requests_slot names.requests) true old d) where
    pub is-created : {A F : Type 0} (e : D) (r : Result A F) → Acted means (Create replies_slot names.replies) (is_ok r) d e → MatchResult r (λ done. OpenedBoth means names old e) (λ fault. NotOpened means names old e)
    is-created e (Ok a) created = record {
      led = (d, opened, (e, created, refl));
      opened = created.opened requests_slot ∙ opened.opened requests_slot;
      created = created.created replies_slot;
    }
    is-created e (Err fault) created = (
      Did (Open requests_slot names.requests) true ∷ Did (Create replies_slot names.replies) false ∷ [],
      (d, opened, (e, created, refl)),
      inr (AtDesk (Did (Create replies_slot names.replies) false) ∷ [], refl, inl refl),
    )
