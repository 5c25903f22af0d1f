-- The equations of a tick's frames have a solution, and what feeds an edge makes as many frames as it moves.
use Rattle.std.proofs.Common.{◌≡◌, refl, sym, ap, ◌∙◌, subst, ℕ, zero, suc, ◌+◌, ◌<◌, ◌≤◌, List, [], ◌∷◌, ◌++◌, filter, length, replicate, Option, Some, None, Bool, true, false, cond, not, ◌==◌, ◌&&◌, ◌||◌, arith}
use Rattle.std.proofs.lemmas.Bool.{false≢true, true≢false, and_parts, eqb-true, or_left, or_right, eq-eqb, false_from_ne_true}
use Rattle.std.proofs.lemmas.List.{length-append, length-replicate, length-drop}
use Rattle.std.proofs.lemmas.List.FromFn.{length-map-range_with_len}
use Rattle.std.specs.Option.{option_map_or}
use Rattle.std.specs.List.{find}
use Rattle.std.specs.Prelude.{slice_get, nat_le}
use Rattle.stream_law.specs.declared.graph.Kind.{Kind}
use Rattle.stream_law.specs.declared.graph.Kind.TheVariants.{HostPlay, HostCapture, DaiPlay, DaiCapture, Volume, Mixer, Mux, Eq, Demux}
use Rattle.stream_law.specs.declared.graph.Setting.{Setting}
use Rattle.stream_law.specs.declared.graph.Comp.{Comp}
use Rattle.stream_law.specs.declared.graph.Graph.{Graph}
use Rattle.stream_law.specs.Table.{number_of, list_of, updated, table}
use Rattle.sof_base.specs.Samples.{Frame, silence}
use Rattle.stream_law.specs.State.{View}
use Rattle.stream_law.specs.Ways.{comp_of, components, buffers, source_of, sink_of, is_end, ins, outs, channels_of, active, active_end, inputs}
use Rattle.stream_law.specs.Moves.{fed, looks, looked_at, frames_to_move, chooses, skips_idle_inputs}
use Rattle.stream_law.specs.Counts.{Counts, Counting, frames_held, frames_free, moved_by}
use Rattle.stream_law.specs.Epochs.{equalised}
use Rattle.stream_law.specs.Past.{part_of, frames_read, Past, frames_now, frames_put, made_after, slices, equalised_after}
use Rattle.stream_law.specs.Made.{Passing, frames_made, frames_by, frames_for, chosen_slice, blob, choice, gains}
use Rattle.stream_law.specs.Ramps.{ramped_frames}
use Rattle.stream_law.specs.Seen.{ramp_length}
use Rattle.stream_law.specs.StreamLaws.{IsRanked}
use Rattle.stream_law.specs.Order.{is_among}
use Rattle.stream_law.specs.Stands.{KeepsCounts}
use Rattle.stream_law.specs.Viewing.{IsPlayable}
use Rattle.stream_law.specs.Joins.{fits_kind}
use Rattle.stream_law.proofs.Tables.{value_of-updated_same}
use Rattle.stream_law.proofs.Among.{is_among-filter, table_same_among, value_of-table_among, value_of-table_apart}
use Rattle.stream_law.proofs.OneSolution.{is_end-some, frames_to_move-le_held}
use Rattle.stream_law.proofs.Rounds.{made_in}
use Rattle.stream_law.proofs.Equalising.{length-equalised}
use Rattle.stream_law.proofs.Parts.{length-part_of}
use Rattle.stream_law.proofs.Ramping.{length-ramped_frames}
use Rattle.stream_law.proofs.Feeding.{looked-parts, some-end, source_of-there, put_is_by, made_at_by, length-frames_for}
use Rattle.stream_law.proofs.Silent.{frames_to_move-idle}

module _ (whole : List (ℕ × List ℕ)) (old : Past) (n put : List (ℕ × ℕ)) where
  -- what a component makes depends only on what was made into its edges in
  frames_now_same : (made other : List (ℕ × List Frame)) (a : ℕ) → ((b : ℕ) → is_end (sink_of old.view.graph b) a ≡ true → list_of made b ≡ list_of other b) → frames_now whole old n put made a ≡ frames_now whole old n put other a
  frames_now_same made other a same =
      ap (λ table. frames_made old.view a (number_of n a) (frames_read old.view a (list_of whole a) (number_of old.positions a) (number_of n a)) table (equalised_after (list_of old.epochs a)) (ramped_frames (list_of old.from a) (ramp_length old.view a) (length (list_of old.epochs a))))
      (table_same_among (looked_at old.view (frames_held old.counts put) a) (λ b. part_of (list_of made b) (number_of old.counts.taken b) (number_of n a)) (λ b. part_of (list_of other b) (number_of old.counts.taken b) (number_of n a))
      (λ b there. ap (λ l. part_of l (number_of old.counts.taken b) (number_of n a)) (same b (looked-parts old.view (frames_held old.counts put) a b there).1)))

  pub made_after_same : (made other : List (ℕ × List Frame)) (b : ℕ) → ((a : ℕ) → source_of old.view.graph b ≡ Some a → (b' : ℕ) → is_end (sink_of old.view.graph b') a ≡ true → list_of made b' ≡ list_of other b') → made_after whole old n put made b ≡ made_after whole old n put other b
  made_after_same made other b same = ap (λ l. list_of old.made b ++ cond (fed old.view b) l []) (by_source (source_of old.view.graph b) refl)
    where
      by_source : (e : Option ℕ) → source_of old.view.graph b ≡ e → option_map_or (frames_put whole old n put made b) e [] ≡ option_map_or (frames_put whole old n put other b) e []
      by_source None e = refl
      by_source (Some a) e = ap (frames_for old.view a b) (frames_now_same made other a (same a e))

  module _ (rank : ℕ → ℕ) (ranked : IsRanked old.view.graph rank) where
    -- one more round changes nothing after what is below the rank of the round
    settles_made : (k b : ℕ) → ((a : ℕ) → source_of old.view.graph b ≡ Some a → rank a < k) → list_of (made_in whole old n put (suc k)) b ≡ list_of (made_in whole old n put (suc (suc k))) b
    settles_made zero b low =
        value_of-updated_same [] (buffers old.view.graph) (made_after whole old n put (made_in whole old n put 0)) (made_after whole old n put (made_in whole old n put 1)) old.made b
        (made_after_same (made_in whole old n put 0) (made_in whole old n put 1) b (λ a source. absurd (let none : rank a < 0 = low a source in omega arith)))
    settles_made (suc k) b low =
        value_of-updated_same [] (buffers old.view.graph) (made_after whole old n put (made_in whole old n put (suc k))) (made_after whole old n put (made_in whole old n put (suc (suc k)))) old.made b
        (made_after_same (made_in whole old n put (suc k)) (made_in whole old n put (suc (suc k))) b (λ a source b' into. settles_made k b' (λ a' source'.
        let rise : rank a' < rank a = ranked.rises b' a' a source' (is_end-some (sink_of old.view.graph b') a into) in
        let top : rank a < suc k = low a source in
        omega arith)))

    -- as many rounds as there are ranks, and one, solve the equations
    pub solves_made : (k : ℕ) → ((c : ℕ) → rank c < suc k) → made_in whole old n put (suc (suc k)) ≡ updated (buffers old.view.graph) (made_after whole old n put (made_in whole old n put (suc (suc k)))) old.made
    solves_made k low = ap (λ f. updated (buffers old.view.graph) f old.made) (λ i b.
        made_after_same (made_in whole old n put (suc k)) (made_in whole old n put (suc (suc k))) b (λ a source b' into. settles_made k b' (λ a' source'.
        let rise : rank a' < rank a = ranked.rises b' a' a source' (is_end-some (sink_of old.view.graph b') a into) in
        let top : rank a < suc k = low a in
        omega arith)) i)

-- ---- lengths

outs-among : (g : Graph) (b a : ℕ) → source_of g b ≡ Some a → is_among (outs g a) b ≡ true
outs-among g b a source = is_among-filter (λ x. is_end (source_of g x) a) (buffers g) b ∙ ap (λ (p : Bool × Bool). p.0 && p.1) (λ i. (some-end (source_of g b) a source i, source_of-there g b a source i))

chooses-kind : (v : View) (a : ℕ) (x : Comp) → comp_of v.graph a ≡ Some x → chooses v a ≡ skips_idle_inputs x.kind
unfolding chooses
chooses-kind v a x e = ap (λ o. option_map_or (λ (x : Comp). skips_idle_inputs x.kind) o false) e

length-equalised_after : (epoch : List Frame) (blob : List ℕ) (channels : ℕ) (frames : List Frame) → length (equalised_after epoch blob channels frames) ≡ length frames
length-equalised_after epoch blob channels frames = omega (arith, length-drop (length epoch) (equalised blob channels (epoch ++ frames)), length-equalised blob channels (epoch ++ frames), length-append epoch frames)

-- kinds that make no frames, and those that need an edge to look at
abbrev makes : Kind → List (ℕ × List Frame) → Bool
makes HostCapture slices = false
makes (DaiPlay format) slices = false
makes Volume [] = false
makes Eq [] = false
makes Demux [] = false
makes _ slices = true

length-chosen : (channels n : ℕ) (ids : List ℕ) (f : ℕ → List Frame) (o : Option ℕ) → ((b : ℕ) → is_among ids b ≡ true → length (f b) ≡ n) → length (chosen_slice (table ids f) channels n o) ≡ n
length-chosen channels n ids f None each = length-replicate n (silence channels)
length-chosen channels n [] f (Some b) each = length-replicate n (silence channels)
length-chosen channels n (i ∷ ids) f (Some b) each = by_equal (i == b) (length-chosen channels n ids f (Some b) (λ x h. each x (or_right (i == x) (is_among ids x) h)))
  where
    by_equal : (h : Bool) → length (option_map_or (λ (e : ℕ × List Frame). e.1) (find (λ e. e.0 == b) (table ids f)) (replicate n (silence channels))) ≡ n → length (option_map_or (λ (e : ℕ × List Frame). e.1) (cond h (Some (i, f i)) (find (λ e. e.0 == b) (table ids f))) (replicate n (silence channels))) ≡ n
    by_equal true rest = each i (or_left (i == i) (is_among ids i) (eq-eqb i i refl))
    by_equal false rest = rest

-- equalisers and volumes make as many frames as they take
abbrev Lengthwise : Passing → Type 0
Lengthwise f = (bytes : List ℕ) (channels : ℕ) (frames : List Frame) → length (f bytes channels frames) ≡ length frames

length-frames_by : (k : Kind) (setting : Setting) (v : View) (c n : ℕ) (read : List Frame) (ids : List ℕ) (f : ℕ → List Frame) (equalise amplify : Passing) → Lengthwise equalise → Lengthwise amplify → length read ≡ n → ((b : ℕ) → is_among ids b ≡ true → length (f b) ≡ n) → makes k (table ids f) ≡ true → length (frames_by k setting v c n read (table ids f) equalise amplify) ≡ n
length-frames_by HostPlay setting v c n read ids f equalise amplify whole long reads each shape = reads
length-frames_by (DaiCapture format) setting v c n read ids f equalise amplify whole long reads each shape = reads
length-frames_by HostCapture setting v c n read ids f equalise amplify whole long reads each shape = absurd (false≢true shape)
length-frames_by (DaiPlay format) setting v c n read ids f equalise amplify whole long reads each shape = absurd (false≢true shape)
length-frames_by Volume setting v c n read [] f equalise amplify whole long reads each shape = absurd (false≢true shape)
length-frames_by Volume setting v c n read (i ∷ ids) f equalise amplify whole long reads each shape = long (gains setting) (channels_of v c) (f i) ∙ each i (or_left (i == i) (is_among ids i) (eq-eqb i i refl))
length-frames_by Mixer setting v c n read ids f equalise amplify whole long reads each shape = length-map-range_with_len _ 0 n
length-frames_by Mux setting v c n read ids f equalise amplify whole long reads each shape = length-chosen (channels_of v c) n ids f (slice_get (inputs v.graph c) (choice setting)) each
length-frames_by Eq setting v c n read [] f equalise amplify whole long reads each shape = absurd (false≢true shape)
length-frames_by Eq setting v c n read (i ∷ ids) f equalise amplify whole long reads each shape = whole (blob setting) (channels_of v c) (f i) ∙ each i (or_left (i == i) (is_among ids i) (eq-eqb i i refl))
length-frames_by Demux setting v c n read [] f equalise amplify whole long reads each shape = absurd (false≢true shape)
length-frames_by Demux setting v c n read (i ∷ ids) f equalise amplify whole long reads each shape = each i (or_left (i == i) (is_among ids i) (eq-eqb i i refl))

-- what makes no frames
length-frames_by_none : (k : Kind) (setting : Setting) (v : View) (c n : ℕ) (read : List Frame) (slices : List (ℕ × List Frame)) (equalise amplify : Passing) → Lengthwise equalise → Lengthwise amplify → makes k slices ≡ false → length (frames_by k setting v c n read slices equalise amplify) ≡ 0
length-frames_by_none HostCapture setting v c n read slices equalise amplify whole long none = refl
length-frames_by_none (DaiPlay format) setting v c n read slices equalise amplify whole long none = refl
length-frames_by_none Volume setting v c n read [] equalise amplify whole long none = long (gains setting) (channels_of v c) []
length-frames_by_none Volume setting v c n read (e ∷ es) equalise amplify whole long none = absurd (true≢false none)
length-frames_by_none Eq setting v c n read [] equalise amplify whole long none = whole (blob setting) (channels_of v c) []
length-frames_by_none Eq setting v c n read (e ∷ es) equalise amplify whole long none = absurd (true≢false none)
length-frames_by_none Demux setting v c n read [] equalise amplify whole long none = refl
length-frames_by_none Demux setting v c n read (e ∷ es) equalise amplify whole long none = absurd (true≢false none)
length-frames_by_none kind setting v c n read slices equalise amplify whole long none = absurd (true≢false none)

-- a list with an id in it has a length
length-among : (ids : List ℕ) (x : ℕ) → is_among ids x ≡ true → 1 ≤ length ids
length-among [] x there = absurd (false≢true there)
length-among (i ∷ ids) x there = omega arith

-- one edge in that is always looked at
one-looked : (ids : List ℕ) (p : ℕ → Bool) (f : ℕ → List Frame) (k : List (ℕ × List Frame) → Bool) → ((e : ℕ × List Frame) (es : List (ℕ × List Frame)) → k (e ∷ es) ≡ true) → length ids ≡ 1 → ((b : ℕ) → p b ≡ true) → k (table (filter p ids) f) ≡ true
one-looked [] p f k some one all = absurd (omega arith)
one-looked (i ∷ ids) p f k some one all = ap (λ h. k (table (cond h (i ∷ filter p ids) (filter p ids)) f)) (all i) ∙ some (i, f i) (table (filter p ids) f)

makes-fit : (k : Kind) (ins' outs' : List ℕ) (p : ℕ → Bool) (f : ℕ → List Frame) (b : ℕ) → fits_kind k (length ins') (length outs') ≡ true → is_among outs' b ≡ true → (skips_idle_inputs k ≡ false → (x : ℕ) → p x ≡ true) → makes k (table (filter p ins') f) ≡ true
makes-fit HostCapture ins' outs' p f b fits there all =
    let none : length outs' ≡ 0 = eqb-true (length outs') 0 (and_parts (length ins' == 1) (length outs' == 0) fits).1 in
    absurd (omega (arith, length-among outs' b there))
makes-fit (DaiPlay format) ins' outs' p f b fits there all =
    let none : length outs' ≡ 0 = eqb-true (length outs') 0 (and_parts (length ins' == 1) (length outs' == 0) fits).1 in
    absurd (omega (arith, length-among outs' b there))
makes-fit Volume ins' outs' p f b fits there all = one-looked ins' p f (makes Volume) (λ e es. refl) (eqb-true (length ins') 1 (and_parts (length ins' == 1) (length outs' == 1) fits).0) (all refl)
makes-fit Demux ins' outs' p f b fits there all = one-looked ins' p f (makes Demux) (λ e es. refl) (eqb-true (length ins') 1 (and_parts (length ins' == 1) (nat_le 1 (length outs') && nat_le (length outs') 8) fits).0) (all refl)
makes-fit Eq ins' outs' p f b fits there all = one-looked ins' p f (makes Eq) (λ e es. refl) (eqb-true (length ins') 1 (and_parts (length ins' == 1) (length outs' == 1) fits).0) (all refl)
makes-fit kind ins' outs' p f b fits there all = refl

module _ (whole : List (ℕ × List ℕ)) (old : Past) (t : ℕ) (n : List (ℕ × ℕ)) (new : Counts) (made : List (ℕ × List Frame))
    (counting : Counting old.view t old.counts n new) (is : made ≡ updated (buffers old.view.graph) (made_after whole old n new.put made) old.made) (kept : KeepsCounts old)
    (playable : IsPlayable old.view) (rank : ℕ → ℕ) (ranked : IsRanked old.view.graph rank) where
  length_made_by : (b : ℕ) → ((a : ℕ) → source_of old.view.graph b ≡ Some a → fed old.view b ≡ true → length (frames_now whole old n new.put made a) ≡ number_of n a) → length (list_of made b) ≡ number_of new.put b
  length_made_by b lengths =
      ap length (made_at_by whole old n new.put made is b)
      ∙ length-append (list_of old.made b) (cond (fed old.view b) (option_map_or (frames_put whole old n new.put made b) (source_of old.view.graph b) []) [])
      ∙ ap (λ (p : ℕ × ℕ). p.0 + p.1) (λ i. (kept.length_made b i, grown (source_of old.view.graph b) refl (fed old.view b) refl i))
      ∙ sym (put_is_by old t n new counting b)
    where
      grown : (e : Option ℕ) → source_of old.view.graph b ≡ e → (f : Bool) → fed old.view b ≡ f → length (cond f (option_map_or (frames_put whole old n new.put made b) e []) []) ≡ cond f (moved_by n e) 0
      grown None e true h = refl
      grown (Some a) e true h = length-frames_for old.view a b (frames_now whole old n new.put made a) ∙ lengths a e h
      grown e' e false h = refl

  -- what a component moves is no more than an edge holds that it looks at
  moves-le : (c b : ℕ) → is_among (looked_at old.view (frames_held old.counts new.put) c) b ≡ true → number_of n c ≤ frames_held old.counts new.put b
  moves-le c b there = subst (λ k. k ≤ frames_held old.counts new.put b) (sym (ap (λ l. number_of l c) counting.moves)) (by_place (is_among (components old.view.graph) c) refl)
    where
      by_place : (h : Bool) → is_among (components old.view.graph) c ≡ h → number_of (table (components old.view.graph) (frames_to_move old.view t (frames_held old.counts new.put) (frames_free old.view old.counts))) c ≤ frames_held old.counts new.put b
      by_place true h = rw (value_of-table_among 0 (components old.view.graph) (frames_to_move old.view t (frames_held old.counts new.put) (frames_free old.view old.counts)) c h) (frames_to_move-le_held old.view t (frames_held old.counts new.put) (frames_free old.view old.counts) c b there)
      by_place false h = rw (value_of-table_apart 0 (components old.view.graph) (frames_to_move old.view t (frames_held old.counts new.put) (frames_free old.view old.counts)) c h) (omega arith)

  -- a source makes as many frames as it moves, where the edges into it have theirs
  length-frames_now : (b a : ℕ) → source_of old.view.graph b ≡ Some a → ((b' : ℕ) → is_end (sink_of old.view.graph b') a ≡ true → length (list_of made b') ≡ number_of new.put b') → length (frames_now whole old n new.put made a) ≡ number_of n a
  unfolding frames_made
  length-frames_now b a source lengths = by_comp (comp_of old.view.graph a) refl
    where
      slice_of : ℕ → List Frame
      slice_of b' = part_of (list_of made b') (number_of old.counts.taken b') (number_of n a)

      ids : List ℕ
      ids = looked_at old.view (frames_held old.counts new.put) a

      read : List Frame
      read = frames_read old.view a (list_of whole a) (number_of old.positions a) (number_of n a)

      reads : length read ≡ number_of n a
      reads = length-map-range_with_len _ 0 (number_of n a)

      each : (b' : ℕ) → is_among ids b' ≡ true → length (slice_of b') ≡ number_of n a
      each b' there =
          let held : number_of n a ≤ frames_held old.counts new.put b' = moves-le a b' there in
          let low : number_of old.counts.taken b' ≤ number_of old.counts.put b' = kept.no_more_taken b' in
          let full : length (list_of made b') ≡ number_of new.put b' = lengths b' (looked-parts old.view (frames_held old.counts new.put) a b' there).1 in
          let more : number_of old.counts.put b' ≤ number_of new.put b' = omega (arith, put_is_by old t n new counting b') in
          length-part_of (list_of made b') (number_of old.counts.taken b') (number_of n a) (omega arith)

      idle : active old.view a ≡ false → number_of n a ≡ 0
      idle h = ap (λ l. number_of l a) counting.moves ∙ by_place (is_among (components old.view.graph) a) refl
        where
          by_place : (k : Bool) → is_among (components old.view.graph) a ≡ k → number_of (table (components old.view.graph) (frames_to_move old.view t (frames_held old.counts new.put) (frames_free old.view old.counts))) a ≡ 0
          by_place true k = value_of-table_among 0 (components old.view.graph) (frames_to_move old.view t (frames_held old.counts new.put) (frames_free old.view old.counts)) a k ∙ frames_to_move-idle old.view t (frames_held old.counts new.put) (frames_free old.view old.counts) a h
          by_place false k = value_of-table_apart 0 (components old.view.graph) (frames_to_move old.view t (frames_held old.counts new.put) (frames_free old.view old.counts)) a k

      equalise : Passing
      equalise = equalised_after (list_of old.epochs a)

      amplify : Passing
      amplify = ramped_frames (list_of old.from a) (ramp_length old.view a) (length (list_of old.epochs a))

      long : Lengthwise amplify
      long to channels frames = length-ramped_frames (list_of old.from a) (ramp_length old.view a) (length (list_of old.epochs a)) to channels frames

      by_shape : (x : Comp) (h : Bool) → makes x.kind (table ids slice_of) ≡ h → (active old.view a ≡ true → makes x.kind (table ids slice_of) ≡ true) → length (frames_by x.kind x.setting old.view a (number_of n a) read (table ids slice_of) equalise amplify) ≡ number_of n a
      by_shape x true h shape = length-frames_by x.kind x.setting old.view a (number_of n a) read ids slice_of equalise amplify (length-equalised_after (list_of old.epochs a)) long reads each h
      by_shape x false h shape = length-frames_by_none x.kind x.setting old.view a (number_of n a) read (table ids slice_of) equalise amplify (length-equalised_after (list_of old.epochs a)) long h ∙ sym (idle (false_from_ne_true (active old.view a) (λ k. true≢false (sym (shape k) ∙ h))))

      by_comp : (o : Option Comp) → comp_of old.view.graph a ≡ o → length (option_map_or (λ x. frames_by x.kind x.setting old.view a (number_of n a) read (table ids slice_of) equalise amplify) o []) ≡ number_of n a
      by_comp None e = sym (idle (false_from_ne_true (active old.view a) (λ k. false≢true (sym (ap (λ o. option_map_or (λ (x : Comp). fits_kind x.kind (length (ins old.view.graph a)) (length (outs old.view.graph a))) o false) e) ∙ playable.fits a (playable.ends.sources b a source) k))))
      by_comp (Some x) e = by_shape x (makes x.kind (table ids slice_of)) refl (λ k.
          makes-fit x.kind (ins old.view.graph a) (outs old.view.graph a) (looks old.view (frames_held old.counts new.put) a) slice_of b
          (sym (ap (λ o. option_map_or (λ (x : Comp). fits_kind x.kind (length (ins old.view.graph a)) (length (outs old.view.graph a))) o false) e) ∙ playable.fits a (playable.ends.sources b a source) k)
          (outs-among old.view.graph b a source)
          (λ plain x'. ap (λ h. not h || (active_end old.view (source_of old.view.graph x') && nat_le 1 (frames_held old.counts new.put x'))) (chooses-kind old.view a x e ∙ plain)))

  pub lengths_below : (k b a : ℕ) → source_of old.view.graph b ≡ Some a → fed old.view b ≡ true → rank a < k → length (frames_now whole old n new.put made a) ≡ number_of n a
  lengths_below zero b a source f low = absurd (omega arith)
  lengths_below (suc k) b a source f low = length-frames_now b a source (λ b' into. length_made_by b' (λ a' source' f'.
      let rise : rank a' < rank a = ranked.rises b' a' a source' (is_end-some (sink_of old.view.graph b') a into) in
      lengths_below k b' a' source' f' (omega arith)))
