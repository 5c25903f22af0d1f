-- What the definitions of a tick say of a component's kind.
use Rattle.std.proofs.Common.{◌≡◌, refl, sym, ap, ◌∙◌, ℕ, ◌-◌, ◌*◌, List, [], ◌++◌, replicate, Some, true, false, ◌==◌, ◌&&◌, arith}
use Rattle.std.proofs.lemmas.Bool.{true≢false, and_parts, eqb-true}
use Rattle.std.proofs.lemmas.List.{append-nil}
use Rattle.std.specs.List.{position_or_len}
use Rattle.std.specs.Option.{option_map_or}
use Rattle.sof_base.specs.declared.format.Format.{Format}
use Rattle.sof_base.specs.declared.format.Format.TheVariants.{S32}
use Rattle.sof_base.specs.Samples.{Frame, width, frames_out}
use Rattle.stream_law.specs.declared.graph.Kind.{Kind}
use Rattle.stream_law.specs.declared.graph.Kind.TheVariants.{HostPlay, HostCapture, DaiPlay, DaiCapture, Demux}
use Rattle.stream_law.specs.declared.graph.Comp.{Comp}
use Rattle.stream_law.specs.declared.graph.Setting.{Setting}
use Rattle.stream_law.specs.State.{View}
use Rattle.stream_law.specs.Ways.{comp_of, channels_of, outputs, splits}
use Rattle.stream_law.specs.Moves.{skips_idle_inputs, chooses}
use Rattle.stream_law.specs.Joins.{fits_kind}
use Rattle.stream_law.specs.Made.{Passing, frames_by, frames_made, frames_at_output, frames_for}
use Rattle.stream_law.specs.Endpoints.{format_by, format_of, is_input, reads, bytes_by, bytes_written}

all-for : (k : Kind) (setting : Setting) (v : View) (c at : ℕ) (frames : List Frame) → splits k ≡ false → frames_at_output k setting v c at frames ≡ frames
all-for Demux setting v c at frames whole = absurd (true≢false whole)
all-for kind setting v c at frames whole = refl

-- ---- a component by its kind

module _ (v : View) (c : ℕ) (x : Comp) (is : comp_of v.graph c ≡ Some x) (k : Kind) (kind : x.kind ≡ k) where
  pub chooses-of : chooses v c ≡ skips_idle_inputs k
  unfolding chooses
  chooses-of = ap (λ o. option_map_or (λ y. skips_idle_inputs y.kind) o false) is ∙ ap skips_idle_inputs kind

  pub made-of : (n : ℕ) (read : List Frame) (slices : List (ℕ × List Frame)) (equalise amplify : Passing) → frames_made v c n read slices equalise amplify ≡ frames_by k x.setting v c n read slices equalise amplify
  unfolding frames_made
  made-of n read slices equalise amplify = ap (λ o. option_map_or (λ y. frames_by y.kind y.setting v c n read slices equalise amplify) o []) is ∙ ap (λ k. frames_by k x.setting v c n read slices equalise amplify) kind

  -- where it does not split, each edge out gets all frames
  pub for-of : splits k ≡ false → (b : ℕ) (frames : List Frame) → frames_for v c b frames ≡ frames
  unfolding frames_for
  for-of whole b frames =
      let at = position_or_len (λ id. id == b) (outputs v.graph c) in
      ap (λ o. option_map_or (λ y. frames_at_output y.kind y.setting v c at frames) o frames) is
      ∙ ap (λ k. frames_at_output k x.setting v c at frames) kind
      ∙ all-for k x.setting v c at frames whole

  pub written-of : (n most : ℕ) (frames : List Frame) → bytes_written v c n most frames ≡ bytes_by k v c n most frames
  unfolding bytes_written
  written-of n most frames = ap (λ o. option_map_or (λ y. bytes_by y.kind v c n most frames) o []) is ∙ ap (λ k. bytes_by k v c n most frames) kind

  pub reads-of : reads v c ≡ is_input k
  reads-of = ap (λ o. option_map_or (λ y. is_input y.kind) o false) is ∙ ap is_input kind

  pub format-of : format_of v c ≡ format_by v c k
  format-of = ap (λ o. option_map_or (λ y. format_by v c y.kind) o S32) is ∙ ap (format_by v c) kind

-- ---- sources

pub record IsSource (k : Kind) : Type 0 where
  pub made : (setting : Setting) (v : View) (c n : ℕ) (read : List Frame) (slices : List (ℕ × List Frame)) (equalise amplify : Passing) → frames_by k setting v c n read slices equalise amplify ≡ read
  pub silent : (v : View) (c n most : ℕ) (frames : List Frame) → bytes_by k v c n most frames ≡ []
  pub reads : is_input k ≡ true
  pub picks : skips_idle_inputs k ≡ false
  pub whole : splits k ≡ false
  pub fits : (m n : ℕ) → fits_kind k m n ≡ true → (m ≡ 0) × (n ≡ 1)

two-numbers : (m n a b : ℕ) → ((m == a) && (n == b)) ≡ true → (m ≡ a) × (n ≡ b)
two-numbers m n a b h = let parts = and_parts (m == a) (n == b) h in (eqb-true m a parts.0, eqb-true n b parts.1)

pub host-play : IsSource HostPlay
host-play = record {
  made = λ setting v c n read slices equalise amplify. refl;
  silent = λ v c n most frames. refl;
  reads = refl;
  picks = refl;
  whole = refl;
  fits = λ m n h. two-numbers m n 0 1 h;
}

pub dai-capture : (format : Format) → IsSource (DaiCapture format)
dai-capture format = record {
  made = λ setting v c n read slices equalise amplify. refl;
  silent = λ v c n most frames. refl;
  reads = refl;
  picks = refl;
  whole = refl;
  fits = λ m n h. two-numbers m n 0 1 h;
}

-- ---- sinks

pub record IsSink (k : Kind) (more : ℕ → ℕ → ℕ) : Type 0 where
  pub made : (setting : Setting) (v : View) (c n : ℕ) (read : List Frame) (slices : List (ℕ × List Frame)) (equalise amplify : Passing) → frames_by k setting v c n read slices equalise amplify ≡ []
  pub written : (v : View) (c n most : ℕ) (frames : List Frame) → format_of v c ≡ format_by v c k → bytes_by k v c n most frames ≡ frames_out (format_of v c) frames ++ replicate (more most n * (channels_of v c * width (format_of v c))) 0
  pub reads : is_input k ≡ false
  pub picks : skips_idle_inputs k ≡ false
  pub fits : (m n : ℕ) → fits_kind k m n ≡ true → (m ≡ 1) × (n ≡ 0)

pub host-capture : IsSink HostCapture (λ most n. 0)
host-capture = record {
  made = λ setting v c n read slices equalise amplify. refl;
  written = λ v c n most frames is. sym (append-nil (frames_out (format_of v c) frames)) ∙ ap (λ m. frames_out (format_of v c) frames ++ replicate m 0) (let e : 0 ≡ 0 * (channels_of v c * width (format_of v c)) = omega arith in e);
  reads = refl;
  picks = refl;
  fits = λ m n h. two-numbers m n 1 0 h;
}

pub dai-play : (format : Format) → IsSink (DaiPlay format) (λ most n. most - n)
dai-play format = record {
  made = λ setting v c n read slices equalise amplify. refl;
  written = λ v c n most frames is. ap (λ f. frames_out f frames ++ replicate ((most - n) * (channels_of v c * width (format_of v c))) 0) (sym is);
  reads = refl;
  picks = refl;
  fits = λ m n h. two-numbers m n 1 0 h;
}
