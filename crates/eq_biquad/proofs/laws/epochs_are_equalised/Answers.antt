use Rattle.std.proofs.Common.{sym, ap, ◌∙◌, ◌≡◌, ℕ, ℤ, List, []}
use Rattle.sof_base.specs.Samples.{Frame}
use Rattle.stream_law.specs.Equaliser.{passed_frames, numbers_after}
use Rattle.stream_law.specs.Epochs.{equalised, history_of}
use Rattle.stream_law.specs.Seen.{fresh_numbers}
use Rattle.stream_law.proofs.Equalising.{equalised-append, history_of-append}
use Rattle.stream_law.proofs.Beginning.{history_of-fresh}
use Rattle.eq_biquad.proofs.laws.epochs_are_equalised.Goals as goal

whole : (blob : List ℕ) (channels : ℕ) (frames : List Frame)
    → (passed_frames blob channels (fresh_numbers blob channels) frames ≡ equalised blob channels frames)
    × (numbers_after blob channels (fresh_numbers blob channels) frames ≡ history_of blob channels frames)
unfolding equalised
whole blob channels frames = (
  sym (equalised-append blob channels [] frames ∙ ap (λ (ns : List ℤ). passed_frames blob channels ns frames) (history_of-fresh blob channels)),
  sym (ap (λ (ns : List ℤ). numbers_after blob channels ns frames) (history_of-fresh blob channels)) ∙ history_of-append blob channels [] frames,
)

pub returns : goal.returns
returns c = whole
