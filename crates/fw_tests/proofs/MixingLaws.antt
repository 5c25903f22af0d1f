-- Frames that a mixer moves from one buffer into another.
use Rattle.std.proofs.Common.{◌≡◌, ap, ◌∙◌, ℕ, ℤ, List, [], ◌∷◌}
use Rattle.sof_base.specs.Samples.{Frame}
use Rattle.fw_heap.specs.Pieces.{PieceState}
use Rattle.fw_components.specs.Tables.{Tables}
use Rattle.fw_components.specs.Frames.{pushed}
use Rattle.fw_components.specs.Processed.{processed, output_at, made_at}
use Rattle.fw_tests.specs.Mixing.{mixing, IsFed, IsMixed}

-- three come into the first buffer
pub pushed-fed : (own from to : PieceState) (t new : Tables) (u v w : Frame) (words : List ℤ) → t ≡ mixing own from to 0 [] [] → new ≡ pushed 5 (u ∷ v ∷ w ∷ []) words t → IsFed own from to new
pushed-fed own from to t new u v w words empty came = record {
  first = u;
  second = v;
  third = w;
  words = words;
  tables = came ∙ ap (pushed 5 (u ∷ v ∷ w ∷ []) words) empty;
}

-- two of them go on
pub processed-mixed : (own from to : PieceState) (t new : Tables) (fed_words : ℕ → List ℤ) (words : List ℤ) → IsFed own from to t → new ≡ processed 4 (5 ∷ []) 2 (6 ∷ []) (λ b. output_at t 4 b (made_at t 4 (5 ∷ []) 2)) fed_words words t → IsMixed own from to new
processed-mixed own from to t new fed_words words fed went = record {
  left = fed.third;
  first = _;
  second = _;
  words_from = fed.words;
  words_to = fed_words 6;
  tables = went ∙ ap (λ (t : Tables). processed 4 (5 ∷ []) 2 (6 ∷ []) (λ b. output_at t 4 b (made_at t 4 (5 ∷ []) 2)) fed_words words t) fed.tables;
}
