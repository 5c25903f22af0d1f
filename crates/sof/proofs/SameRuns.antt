-- A run over the same words and device.
use Rattle.std.proofs.Common.{◌≡◌, ℕ, List, subst}
use Rattle.mbox_link.specs.Calls.{Meaning}
use Rattle.sof_files.specs.RealDesk.{RealDesk}
use Rattle.sof.specs.HandedOn.{PlayedOver}

pub over-same : {P : Type 0} (dsp : Meaning P) (words words' : List (List ℕ)) (old : RealDesk) (p p' : P) (told : ℕ) (q : P) → words ≡ words' → p ≡ p' → PlayedOver dsp words old p told q → PlayedOver dsp words' old p' told q
over-same dsp words words' old p p' told q same_words same_device over =
    subst (λ w. PlayedOver dsp w old p' told q) same_words (subst (λ f. PlayedOver dsp words old f told q) same_device over)
