-- What a component makes of no frames, whatever its kind.
use Rattle.std.proofs.Common.{◌≡◌, refl, ap, ℕ, List, [], ◌∷◌, take, replicate, Option, Some, None, Bool, true, false, cond, ◌==◌, ℤ}
use Rattle.std.specs.Prelude.{find, slice_get}
use Rattle.std.specs.List.{position_or_len}
use Rattle.std.specs.Option.{option_map_or}
use Rattle.sof_base.specs.Samples.{Frame, silence}
use Rattle.stream_law.specs.declared.graph.Kind.{Kind}
use Rattle.stream_law.specs.declared.graph.Kind.TheVariants.{Volume, Mux, Eq, Demux}
use Rattle.stream_law.specs.declared.graph.Setting.{Setting}
use Rattle.stream_law.specs.declared.graph.Comp.{Comp}
use Rattle.stream_law.specs.State.{View}
use Rattle.stream_law.specs.Table.{table}
use Rattle.stream_law.specs.Ways.{comp_of, channels_of, inputs, outputs}
use Rattle.stream_law.specs.Made.{gains, choice, blob, only_slice, chosen_slice, frames_by, frames_made, frames_at_output, frames_for}
use Rattle.stream_law.specs.Equaliser.{passed_frames}
use Rattle.stream_law.specs.Ramps.{ramped_frames}

-- slices of no frames at these edges
module _ (ids : List ℕ) (frames : ℕ → List Frame) where
  abbrev slices : List (ℕ × List Frame)
  slices = table ids (λ b. take 0 (frames b))

  pub only-none : only_slice slices ≡ []
  only-none = first ids
    where
      first : (bs : List ℕ) → only_slice (table bs (λ b. take 0 (frames b))) ≡ []
      first [] = refl
      first (b ∷ bs) = refl

  chosen-none : (channels : ℕ) (o : Option ℕ) → chosen_slice slices channels 0 o ≡ []
  chosen-none channels None = refl
  chosen-none channels (Some b) = found ids
    where
      found : (bs : List ℕ) → option_map_or (λ entry. entry.1) (find (λ entry. entry.0 == b) (table bs (λ b. take 0 (frames b)))) (replicate 0 (silence channels)) ≡ []
      found [] = refl
      found (x ∷ bs) = by_id (x == b) (found bs)
        where
          by_id : (h : Bool) → option_map_or (λ entry. entry.1) (find (λ entry. entry.0 == b) (table bs (λ b. take 0 (frames b)))) (replicate 0 (silence channels)) ≡ [] → option_map_or (λ entry. entry.1) (cond h (Some (x, take 0 (frames x))) (find (λ entry. entry.0 == b) (table bs (λ b. take 0 (frames b))))) (replicate 0 (silence channels)) ≡ []
          by_id true rest = refl
          by_id false rest = rest

  by-kind : (k : Kind) (setting : Setting) (v : View) (c : ℕ) (numbers : List ℤ) (from : List ℕ) (over j : ℕ) → frames_by k setting v c 0 [] slices (λ blob channels frames. passed_frames blob channels numbers frames) (ramped_frames from over j) ≡ []
  by-kind Volume setting v c numbers from over j = ap (ramped_frames from over j (gains setting) (channels_of v c)) only-none
  by-kind Mux setting v c numbers from over j = chosen-none (channels_of v c) (slice_get (inputs v.graph c) (choice setting))
  by-kind Eq setting v c numbers from over j = ap (passed_frames (blob setting) (channels_of v c) numbers) only-none
  by-kind Demux setting v c numbers from over j = only-none
  by-kind kind setting v c numbers from over j = refl

  -- a component makes none of them
  pub made-none : (v : View) (c : ℕ) (numbers : List ℤ) (from : List ℕ) (over j : ℕ) → frames_made v c 0 [] slices (λ blob channels frames. passed_frames blob channels numbers frames) (ramped_frames from over j) ≡ []
  unfolding frames_made
  made-none v c numbers from over j = by_comp (comp_of v.graph c)
    where
      by_comp : (o : Option Comp) → option_map_or (λ x. frames_by x.kind x.setting v c 0 [] slices (λ blob channels frames. passed_frames blob channels numbers frames) (ramped_frames from over j)) o [] ≡ []
      by_comp None = refl
      by_comp (Some x) = by-kind x.kind x.setting v c numbers from over j

-- and an edge out gets none of them
pub parted-none : (v : View) (c b : ℕ) → frames_for v c b [] ≡ []
unfolding frames_for
parted-none v c b = by_comp (comp_of v.graph c)
  where
    by_kind : (k : Kind) (setting : Setting) (at : ℕ) → frames_at_output k setting v c at [] ≡ []
    by_kind Demux setting at = refl
    by_kind kind setting at = refl

    by_comp : (o : Option Comp) → option_map_or (λ x. frames_at_output x.kind x.setting v c (position_or_len (λ id. id == b) (outputs v.graph c)) []) o [] ≡ []
    by_comp None = refl
    by_comp (Some x) = by_kind x.kind x.setting (position_or_len (λ id. id == b) (outputs v.graph c))
