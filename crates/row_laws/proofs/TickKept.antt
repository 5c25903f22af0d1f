-- A tick keeps what every state keeps.
use Rattle.std.proofs.Common.{◌≡◌, refl, sym, ap, ◌∙◌, subst, ℕ, zero, suc, ◌+◌, ◌*◌, ◌≤◌, List, [], ◌∷◌, ◌++◌, length, map, drop, take, replicate, Option, Some, None, Bool, true, false, cond, inl, inr, ◌⊎◌, ◌==◌, ◌&&◌, ◌||◌, ℤ, pos, arith, length-append}
use Rattle.std.proofs.lemmas.Bool.{true≢false, false≢true, and_parts, eqb-true, eq-eqb, or_left, or_right, cond-true, cond-false}
use Rattle.std.proofs.lemmas.List.{length-replicate, nil_from_length}
use Rattle.std.proofs.Math.Seq.{drop-nil}
use Rattle.std.specs.Prelude.{find, slice_get}
use Rattle.std.specs.Option.{option_map_or}
use Rattle.std.specs.List.{AllByRecursion}
use Rattle.sof_base.specs.Equations.{Section, section_output}
use Rattle.sof_base.specs.Samples.{Frame, frames_in, sample_of}
use Rattle.sof_base.specs.Ports.{Io}
use Rattle.stream_law.specs.declared.graph.Kind.{Kind}
use Rattle.stream_law.specs.declared.graph.Kind.TheVariants.{Volume, Mux, Eq, Demux}
use Rattle.stream_law.specs.declared.graph.Setting.{Setting}
use Rattle.stream_law.specs.declared.graph.Comp.{Comp}
use Rattle.stream_law.specs.State.{FwState, View, RingView, History, view_of}
use Rattle.stream_law.specs.Table.{table, list_of, updated}
use Rattle.stream_law.specs.Ways.{comp_of, is_of, source_of, sink_of, outs, is_end, live, live_end, active_end, channels_of, inputs}
use Rattle.stream_law.specs.Moves.{fed, fed_by}
use Rattle.stream_law.specs.Order.{is_among, order}
use Rattle.stream_law.specs.Made.{Passing, gains, frames_for, frames_made, frames_by, only_slice, chosen_slice}
use Rattle.stream_law.specs.Endpoints.{format_of}
use Rattle.stream_law.specs.Equaliser.{sections_of, passed_sections, passed_channels, passed_frames, numbers_after, next_inner, number_at}
use Rattle.stream_law.specs.Ramps.{ramped_frames, ramp_place, ramp_numbers, numbers_from, numbers_place, ramped_on}
use Rattle.stream_law.specs.Move.{Audio, after_move, after_moves, frames_moved, looked_now, fronts, made_now, numbers_moved, audio_of, audio_after, next_clock}
use Rattle.stream_law.specs.Seen.{is_volume, flows, ring_seen, blob_in, gains_in, ramp_length, fresh_from, fresh_numbers}
use Rattle.stream_law.proofs.Among.{is_among-filter}
use Rattle.stream_law.proofs.Feeding.{length-frames_for}
use Rattle.stream_law.proofs.Keyed.{keys-remade}
use Rattle.stream_law.proofs.Silent.{active-live, frames_to_move-idle}
use Rattle.stream_law.proofs.Tables.{value_of-updated_cases}
use Rattle.mbox_link.specs.Exchange.{ticked}
use Rattle.row_laws.specs.Kept.{FirmwareInvariant, AreRampNumbers, numbers_held}
use Rattle.stream_law.proofs.Members.{IsIn, in-each}
use Rattle.stream_law.proofs.Ramping.{from-numbers, place-numbers}
use Rattle.row_laws.proofs.RingViews.{seen-each, seen-all}
use Rattle.row_laws.proofs.SeenKept.{AreLow, AreWithin, AreHeld, all-held, length-numbers, length-from}

-- ---- how many numbers an equaliser has after frames

length-passed : (ss : List Section) (numbers : List ℤ) (x : ℤ) → length (passed_sections ss numbers x).numbers ≡ 2 * length ss
length-passed [] numbers x = refl
length-passed (s ∷ ss) numbers x =
    let rest : length (passed_sections ss (drop 2 numbers) (section_output s (next_inner s (number_at numbers 0) x))).numbers ≡ 2 * length ss = length-passed ss (drop 2 numbers) (section_output s (next_inner s (number_at numbers 0) x)) in
    omega (arith, rest)

length-channels : (blob : List ℕ) (k left : ℕ) (numbers : List ℤ) (frame : Frame) → length (passed_channels blob k left numbers frame).numbers ≡ length (fresh_from k blob left)
length-channels blob k zero numbers frame = refl
length-channels blob k (suc left) numbers frame =
    length-append (passed_sections (sections_of blob k) numbers (sample_of frame k)).numbers (passed_channels blob (k + 1) left (drop (2 * length (sections_of blob k)) numbers) frame).numbers
    ∙ ap (λ (p : ℕ × ℕ). p.0 + p.1) (λ i. (
      (length-passed (sections_of blob k) numbers (sample_of frame k) ∙ sym (length-replicate (2 * length (sections_of blob k)) (pos 0))) i,
      length-channels blob (k + 1) left (drop (2 * length (sections_of blob k)) numbers) frame i,
    ))
    ∙ sym (length-append (replicate (2 * length (sections_of blob k)) (pos 0)) (fresh_from (k + 1) blob left))

length-after : (blob : List ℕ) (channels : ℕ) (numbers : List ℤ) (frames : List Frame) → length numbers ≡ length (fresh_numbers blob channels) → length (numbers_after blob channels numbers frames) ≡ length (fresh_numbers blob channels)
length-after blob channels numbers [] same = same
length-after blob channels numbers (f ∷ fs) same = length-after blob channels (passed_channels blob 0 channels numbers f).numbers fs (length-channels blob 0 channels numbers f)

-- ---- a volume's numbers after frames

length-on : (over : ℕ) (numbers : List ℤ) (n : ℕ) → 1 ≤ length numbers → length (ramped_on over numbers n) ≡ length numbers
length-on over numbers zero some = refl
length-on over numbers (suc n) some = length-numbers (numbers_from numbers) over (numbers_place numbers + suc n) ∙ (let e : length (numbers_from numbers) + 1 ≡ length numbers = omega (arith, some, length-from numbers) in e)

within-on : (over : ℕ) (numbers : List ℤ) (n : ℕ) → AreWithin over numbers → AreWithin over (ramped_on over numbers n)
within-on over numbers zero was = was
within-on over numbers (suc n) was =
    let place : numbers_place (ramp_numbers (numbers_from numbers) over (numbers_place numbers + suc n)) ≡ ramp_place over (numbers_place numbers + suc n) = place-numbers (numbers_from numbers) over (numbers_place numbers + suc n) in
    (subst AreLow (sym (from-numbers (numbers_from numbers) over (numbers_place numbers + suc n))) was.0, omega (arith, place))

-- so either keeps what its numbers are
held-moved : (v : View) (x : ℕ) (numbers : List ℤ) (frames : List Frame) → AreHeld v x numbers → AreHeld v x (cond (is_of v.graph is_volume x) (ramped_on (ramp_length v x) numbers (length frames)) (numbers_after (blob_in v x) (channels_of v x) numbers frames))
held-moved v x numbers frames was = by (is_of v.graph is_volume x) refl
  where
    by : (t : Bool) → is_of v.graph is_volume x ≡ t → AreHeld v x (cond t (ramped_on (ramp_length v x) numbers (length frames)) (numbers_after (blob_in v x) (channels_of v x) numbers frames))
    by true volume =
        let count : length numbers ≡ length (gains_in v x) + 1 = was.0 ∙ cond-true (is_of v.graph is_volume x) (length (gains_in v x) + 1) (length (fresh_numbers (blob_in v x) (channels_of v x))) volume in
        (length-on (ramp_length v x) numbers (length frames) (omega (arith, count)) ∙ was.0, λ is. within-on (ramp_length v x) numbers (length frames) (was.1 is))
    by false other =
        let plain : numbers_held v x ≡ length (fresh_numbers (blob_in v x) (channels_of v x)) = cond-false (is_of v.graph is_volume x) (length (gains_in v x) + 1) (length (fresh_numbers (blob_in v x) (channels_of v x))) other in
        (length-after (blob_in v x) (channels_of v x) numbers frames (was.0 ∙ plain) ∙ sym plain, λ is. absurd (true≢false (sym is ∙ other)))

-- ---- nothing is made of no frames

none-taken : (ids : List ℕ) (rings : List (ℕ × List Frame)) → only_slice (table ids (λ b. take 0 (list_of rings b))) ≡ []
none-taken [] rings = refl
none-taken (b ∷ ids) rings = refl

none-chosen : (ids : List ℕ) (rings : List (ℕ × List Frame)) (b : ℕ) → option_map_or (λ (entry : ℕ × List Frame). entry.1) (find (λ entry. entry.0 == b) (table ids (λ b. take 0 (list_of rings b)))) [] ≡ []
none-chosen [] rings b = refl
none-chosen (i ∷ ids) rings b = by (i == b) (none-chosen ids rings b)
  where
    by : (h : Bool) → option_map_or (λ (entry : ℕ × List Frame). entry.1) (find (λ entry. entry.0 == b) (table ids (λ b. take 0 (list_of rings b)))) [] ≡ [] → option_map_or (λ (entry : ℕ × List Frame). entry.1) (cond h (Some (i, [])) (find (λ entry. entry.0 == b) (table ids (λ b. take 0 (list_of rings b))))) [] ≡ []
    by true rest = refl
    by false rest = rest

module _ (v : View) (t c : ℕ) (a : Audio) where
  abbrev equalise : Passing
  equalise blob channels frames = passed_frames blob channels (list_of a.numbers c) frames

  abbrev amplify : Passing
  amplify = ramped_frames (numbers_from (list_of a.numbers c)) (ramp_length v c) (numbers_place (list_of a.numbers c))

  abbrev slices : ℕ → List (ℕ × List Frame)
  slices n = table (looked_now v (blob_in v) t c a) (λ b. take n (list_of a.rings b))

  none-by : (kind : Kind) (setting : Setting) → frames_by kind setting v c 0 [] (slices 0) equalise amplify ≡ []
  none-by Volume setting = ap (amplify (gains setting) (channels_of v c)) (none-taken (looked_now v (blob_in v) t c a) a.rings)
  none-by Mux setting = by (slice_get (inputs v.graph c) _)
    where
      by : (o : Option ℕ) → chosen_slice (slices 0) (channels_of v c) 0 o ≡ []
      by None = refl
      by (Some b) = none-chosen (looked_now v (blob_in v) t c a) a.rings b
  none-by Eq setting = ap (passed_frames _ _ (list_of a.numbers c)) (none-taken (looked_now v (blob_in v) t c a) a.rings)
  none-by Demux setting = none-taken (looked_now v (blob_in v) t c a) a.rings
  none-by kind setting = refl

  made-none : frames_moved v (blob_in v) t c a ≡ 0 → made_now v (blob_in v) t c a ≡ []
  unfolding frames_made
  made-none none =
      ap (λ n. frames_made v c n (frames_in (format_of v c) (channels_of v c) (list_of a.left c) 0 n) (slices n) equalise amplify) none ∙ by (comp_of v.graph c)
    where
      by : (o : Option Comp) → option_map_or (λ x. frames_by x.kind x.setting v c 0 [] (slices 0) equalise amplify) o [] ≡ []
      by None = refl
      by (Some x) = none-by x.kind x.setting

-- ---- rings in which no frame may lie stay empty

active-heard : (v : View) (o : Option ℕ) → active_end v o ≡ true → live_end v o ≡ true
active-heard v None e = e
active-heard v (Some n) e = by (live v n) refl
  where
    by : (h : Bool) → live v n ≡ h → h ≡ true
    by true is = refl
    by false is = absurd (true≢false (sym e ∙ active-live v n is))

-- a component that feeds such a ring is not Live
dead-end : (v : View) (c : ℕ) (o : Option ℕ) → is_end o c ≡ true → live_end v o ≡ false → live v c ≡ false
dead-end v c None is dead = absurd (false≢true is)
dead-end v c (Some n) is dead = ap (live v) (sym (eqb-true n c is)) ∙ dead

dead-source : (l s k : Bool) → l ≡ true → k ≡ true → ((l && s) && k) ≡ false → s ≡ false
dead-source true s true live heard dead = by s dead
  where
    by : (h : Bool) → ((true && h) && true) ≡ false → h ≡ false
    by true e = e
    by false e = refl
dead-source false s k live heard dead = absurd (false≢true live)
dead-source true s false live heard dead = absurd (false≢true heard)

abbrev pub AreEmpty : View → Audio → Type 0
AreEmpty v a = (b : ℕ) → flows v b ≡ false → list_of a.rings b ≡ []

module _ (v : View) (t : ℕ) where
  -- what feeds such a ring makes nothing
  feeds-none : (c b : ℕ) (a : Audio) → is_among (fed_by v c) b ≡ true → flows v b ≡ false → made_now v (blob_in v) t c a ≡ []
  unfolding flows fed
  feeds-none c b a there dead =
      let parts = and_parts (fed v b) (is_among (outs v.graph c) b) (sym (is_among-filter (fed v) (outs v.graph c) b) ∙ there) in
      let is_fed = and_parts (live v b) (active_end v (sink_of v.graph b)) parts.0 in
      let from = and_parts (is_end (source_of v.graph b) c) _ (sym (is_among-filter (λ b. is_end (source_of v.graph b) c) _ b) ∙ parts.1) in
      let end = dead-source (live v b) (live_end v (source_of v.graph b)) (live_end v (sink_of v.graph b)) is_fed.0 (active-heard v (sink_of v.graph b) is_fed.1) dead in
      made-none v t c a (frames_to_move-idle v t _ _ c (active-live v c (dead-end v c (source_of v.graph b) from.0 end)))

  parted-none : (c b : ℕ) (a : Audio) → is_among (fed_by v c) b ≡ true → flows v b ≡ false → frames_for v c b (made_now v (blob_in v) t c a) ≡ []
  parted-none c b a there dead =
      let none : length (made_now v (blob_in v) t c a) ≡ 0 = ap (λ (fs : List Frame). length fs) (feeds-none c b a there dead) in
      nil_from_length (frames_for v c b (made_now v (blob_in v) t c a)) (length-frames_for v c b (made_now v (blob_in v) t c a) ∙ none)

  empty-one : (c : ℕ) (a : Audio) → AreEmpty v a → AreEmpty v (after_move v (blob_in v) t c a)
  empty-one c a was b dead = fed-part (value_of-updated_cases [] (fed_by v c) (λ b. list_of a.rings b ++ frames_for v c b (made_now v (blob_in v) t c a)) dropped b)
    where
      dropped : List (ℕ × List Frame)
      dropped = updated (looked_now v (blob_in v) t c a) (λ b. drop (frames_moved v (blob_in v) t c a) (list_of a.rings b)) a.rings

      looked-part : ((is_among (looked_now v (blob_in v) t c a) b ≡ true) × (list_of dropped b ≡ drop (frames_moved v (blob_in v) t c a) (list_of a.rings b))) ⊎ ((is_among (looked_now v (blob_in v) t c a) b ≡ false) × (list_of dropped b ≡ list_of a.rings b)) → list_of dropped b ≡ []
      looked-part (inl p) = p.1 ∙ ap (drop (frames_moved v (blob_in v) t c a)) (was b dead) ∙ drop-nil (frames_moved v (blob_in v) t c a)
      looked-part (inr p) = p.1 ∙ was b dead

      fed-part : ((is_among (fed_by v c) b ≡ true) × (list_of (after_move v (blob_in v) t c a).rings b ≡ list_of a.rings b ++ frames_for v c b (made_now v (blob_in v) t c a))) ⊎ ((is_among (fed_by v c) b ≡ false) × (list_of (after_move v (blob_in v) t c a).rings b ≡ list_of dropped b)) → list_of (after_move v (blob_in v) t c a).rings b ≡ []
      fed-part (inl p) = p.1 ∙ ap (λ (q : List Frame × List Frame). q.0 ++ q.1) (λ i. (was b dead i, parted-none c b a p.0 dead i))
      fed-part (inr p) = p.1 ∙ looked-part (value_of-updated_cases [] (looked_now v (blob_in v) t c a) (λ b. drop (frames_moved v (blob_in v) t c a) (list_of a.rings b)) a.rings b)

  pub empty-all : (cs : List ℕ) (a : Audio) → AreEmpty v a → AreEmpty v (after_moves v (blob_in v) t cs a)
  empty-all [] a was = was
  empty-all (c ∷ cs) a was = empty-all cs (after_move v (blob_in v) t c a) (empty-one c a was)

  -- ---- and equalisers and volumes keep what their numbers are

  held-one : (x c : ℕ) (a : Audio) → AreHeld v x (list_of a.numbers x) → AreHeld v x (list_of (after_move v (blob_in v) t c a).numbers x)
  held-one x c a was = by (value_of-updated_cases [] (c ∷ []) after a.numbers x)
    where
      after : ℕ → List ℤ
      after = numbers_moved v (blob_in v) t c a

      by : ((is_among (c ∷ []) x ≡ true) × (list_of (after_move v (blob_in v) t c a).numbers x ≡ after x)) ⊎ ((is_among (c ∷ []) x ≡ false) × (list_of (after_move v (blob_in v) t c a).numbers x ≡ list_of a.numbers x)) → AreHeld v x (list_of (after_move v (blob_in v) t c a).numbers x)
      by (inl p) = subst (AreHeld v x) (sym p.1) (held-moved v x (list_of a.numbers x) (only_slice (fronts v (blob_in v) t c a)) was)
      by (inr p) = subst (AreHeld v x) (sym p.1) was

  held-all : (x : ℕ) (cs : List ℕ) (a : Audio) → AreHeld v x (list_of a.numbers x) → AreHeld v x (list_of (after_moves v (blob_in v) t cs a).numbers x)
  held-all x [] a was = was
  held-all x (c ∷ cs) a was = held-all x cs (after_move v (blob_in v) t c a) (held-one x c a was)

-- ---- a whole tick

-- at the beginning
pub empty-first : (v : View) (rs : List RingView) → AllByRecursion (λ r. ring_seen v r ≡ r) rs → (b : ℕ) → flows v b ≡ false → list_of (map (λ (r : RingView). (r.buffer, r.frames)) rs) b ≡ []
empty-first v [] all b dead = refl
empty-first v (r ∷ rs) all b dead = by (r.buffer == b) refl (empty-first v rs all.1 b dead)
  where
    by : (h : Bool) → (r.buffer == b) ≡ h → list_of (map (λ (r : RingView). (r.buffer, r.frames)) rs) b ≡ [] → cond h r.frames (list_of (map (λ (r : RingView). (r.buffer, r.frames)) rs) b) ≡ []
    by true e rest = sym (ap (λ (x : RingView). x.frames) all.0) ∙ ap (λ h. cond h r.frames []) (ap (flows v) (eqb-true r.buffer b e) ∙ dead)
    by false e rest = rest

held-first : (v : View) (hs : List History) → AllByRecursion (λ h. AreHeld v h.comp h.numbers) hs → (x : ℕ) → is_among (map (λ (h : History). h.comp) hs) x ≡ true → AreHeld v x (list_of (map (λ (h : History). (h.comp, h.numbers)) hs) x)
held-first v [] all x there = absurd (false≢true there)
held-first v (h ∷ hs) all x there = by (h.comp == x) refl there (held-first v hs all.1 x)
  where
    by : (t : Bool) → (h.comp == x) ≡ t → (t || is_among (map (λ (h : History). h.comp) hs) x) ≡ true → (is_among (map (λ (h : History). h.comp) hs) x ≡ true → AreHeld v x (list_of (map (λ (h : History). (h.comp, h.numbers)) hs) x)) → AreHeld v x (cond t h.numbers (list_of (map (λ (h : History). (h.comp, h.numbers)) hs) x))
    by true e is rest = subst (λ n. AreHeld v n h.numbers) (eqb-true h.comp x e) all.0
    by false e is rest = rest is

-- a member's key is among the keys
in-key : {X : Type 0} (key : X → ℕ) (xs : List X) (x : X) → IsIn x xs → is_among (map key xs) (key x) ≡ true
in-key key [] x there = absurd there
in-key key (y ∷ ys) x (inl same) = or_left (key y == key x) _ (eq-eqb (key y) (key x) (sym (ap key same)))
in-key key (y ∷ ys) x (inr more) = or_right (key y == key x) _ (in-key key ys x more)

-- each ring and each history anew
rings-after : (v : View) (a : Audio) → AreEmpty v a → (rs : List RingView) → AllByRecursion (λ (r : RingView). ring_seen v r ≡ r) (map (λ (r : RingView). record { buffer = r.buffer; frames = list_of a.rings r.buffer }) rs)
rings-after v a empty [] = tt
rings-after v a empty (r ∷ rs) = (ap (λ (frames : List Frame). record { buffer = r.buffer; frames = frames }) (by (flows v r.buffer) refl), rings-after v a empty rs)
  where
    by : (h : Bool) → flows v r.buffer ≡ h → cond h (list_of a.rings r.buffer) [] ≡ list_of a.rings r.buffer
    by true e = refl
    by false e = sym (empty r.buffer e)

numbers-anew : (P : History → Type 0) (a : Audio) (hs : List History) → AllByRecursion (λ (h : History). P (record { comp = h.comp; numbers = list_of a.numbers h.comp })) hs → AllByRecursion P (map (λ (h : History). record { comp = h.comp; numbers = list_of a.numbers h.comp }) hs)
numbers-anew P a [] all = tt
numbers-anew P a (h ∷ hs) all = (all.0, numbers-anew P a hs all.1)

pub tick-kept : (f : FwState) (io : Io) → FirmwareInvariant f → FirmwareInvariant (ticked (f, io)).0
tick-kept f io kept = record {
  comps = kept.comps;
  edges = kept.edges;
  pipes = kept.pipes;
  joins = kept.joins;
  streams = kept.streams;
  ascending = record { comps = kept.ascending.comps; edges = kept.ascending.edges; pipes = kept.ascending.pipes; streams = kept.ascending.streams; pieces = kept.ascending.pieces; staging = kept.ascending.staging };
  indices = kept.indices;
  sizes = kept.sizes;
  settings = kept.settings;
  ramps = kept.ramps;
  pieces = kept.pieces;
  tiled = kept.tiled;
  wired = kept.wired;
  linked = kept.linked;
  played = kept.played;
  rings = keys-remade (λ (r : RingView). r.buffer) (λ r. record { buffer = r.buffer; frames = list_of after.rings r.buffer }) (λ r. refl) f.rings ∙ kept.rings;
  seen = seen-all (view_of f) _ (rings-after (view_of f) after empty f.rings);
  histories = record {
    comps = keys-remade (λ (h : History). h.comp) (λ h. record { comp = h.comp; numbers = list_of after.numbers h.comp }) (λ h. refl) f.histories ∙ kept.histories.comps;
    numbers = numbers-anew (λ h. length h.numbers ≡ numbers_held (view_of f) h.comp) after f.histories (in-each (λ h. length (list_of after.numbers h.comp) ≡ numbers_held (view_of f) h.comp) f.histories (λ h there. (held h there).0));
    ramps = numbers-anew (AreRampNumbers (view_of f)) after f.histories (in-each (λ h. AreRampNumbers (view_of f) (record { comp = h.comp; numbers = list_of after.numbers h.comp })) f.histories (λ h there. (held h there).1));
  };
  staging = kept.staging;
}
  where
    after : Audio
    after = audio_after f io

    empty : AreEmpty (view_of f) after
    empty = empty-all (view_of f) (next_clock f.clock) (order f.graph) (audio_of f io) (empty-first (view_of f) f.rings (seen-each (view_of f) f.rings kept.seen))

    held : (h : History) → IsIn h f.histories → AreHeld (view_of f) h.comp (list_of after.numbers h.comp)
    held h there = held-all (view_of f) (next_clock f.clock) h.comp (order f.graph) (audio_of f io) (held-first (view_of f) f.histories (all-held f kept) h.comp (in-key (λ (h : History). h.comp) f.histories h there))
