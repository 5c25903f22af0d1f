-- What the move of one component leaves of rings and endpoints, whatever it moves.
use Rattle.std.proofs.Common.{◌≡◌, refl, sym, ap, ◌∙◌, ℕ, ◌-◌, ◌^◌, ◌≤◌, List, [], ◌∷◌, ◌++◌, map, take, drop, Bool, true, false, cond, not, ◌==◌, ◌&&◌, ◌||◌, arith}
use Rattle.std.proofs.lemmas.Bool.{eqb-true}
use Rattle.std.proofs.lemmas.List.{append-nil}
use Rattle.std.proofs.Math.Seq.{drop-nil}
use Rattle.sof_base.specs.Samples.{Frame, frames_in}
use Rattle.sof_base.specs.Ports.{Io, InputView, moved_on}
use Rattle.sof_io.specs.Takes.{taken}
use Rattle.sof_io.specs.Puts.{with_piece}
use Rattle.stream_law.specs.State.{View}
use Rattle.stream_law.specs.Table.{table, number_of, list_of, updated}
use Rattle.stream_law.specs.Placed.{HasDistinct}
use Rattle.stream_law.specs.Ways.{outs, channels_of}
use Rattle.stream_law.specs.Moves.{quota, runs, chooses, fed_by, looked_at, is_empty, least, frames_to_move}
use Rattle.stream_law.specs.Order.{is_among}
use Rattle.stream_law.specs.Made.{only_slice, frames_made, frames_for}
use Rattle.stream_law.specs.Endpoints.{format_of, reads, bytes_of_frames, bytes_written}
use Rattle.stream_law.specs.Equaliser.{passed_frames}
use Rattle.stream_law.specs.Ramps.{ramped_frames, numbers_from, numbers_place}
use Rattle.stream_law.specs.Seen.{ramp_length}
use Rattle.stream_law.specs.Move.{Audio, after_move, frames_moved, looked_now, fronts, made_now, bytes_moved, bytes_now, io_after}
use Rattle.stream_law.proofs.Among.{value_of-updated_among, value_of-updated_apart, value_of-updated_kept}
use Rattle.fw_schedule.specs.Stages.{AreEnds}
use Rattle.fw_schedule.proofs.NoFrames.{made-none, parted-none}
use Rattle.fw_schedule.proofs.ShownEnds.{shown-taken, shown-put}

-- ---- how many frames

-- what does not run moves nothing
pub frames-idle : (v : View) (t : ℕ) (held free : ℕ → ℕ) (c : ℕ) → runs v t c ≡ false → frames_to_move v t held free c ≡ 0
unfolding frames_to_move
frames-idle v t held free c idle = ap (λ l. cond (l && (not (chooses v c) || not (is_empty (looked_at v held c))) && (is_empty (outs v.graph c) || not (is_empty (fed_by v c)))) (least (quota v t c) (map held (looked_at v held c) ++ map free (fed_by v c))) 0) idle

-- what has edges out and feeds none moves nothing
pub frames-unfed : (v : View) (t : ℕ) (held free : ℕ → ℕ) (c : ℕ) → is_empty (outs v.graph c) ≡ false → fed_by v c ≡ [] → frames_to_move v t held free c ≡ 0
unfolding frames_to_move
frames-unfed v t held free c out none = both (runs v t c) (not (chooses v c) || not (is_empty (looked_at v held c))) (is_empty (outs v.graph c) || not (is_empty (fed_by v c))) (λ i. out i || not (is_empty (none i)))
  where
    both : (p q r : Bool) → r ≡ false → cond (p && q && r) (least (quota v t c) (map held (looked_at v held c) ++ map free (fed_by v c))) 0 ≡ 0
    both false q r e = refl
    both true false r e = refl
    both true true r e = ap (λ h. cond h (least (quota v t c) (map held (looked_at v held c) ++ map free (fed_by v c))) 0) e

-- what runs and looks at all its edges in moves the least of its quota, of what they hold, and of the room in those that it feeds
pub frames-run : (v : View) (t : ℕ) (held free : ℕ → ℕ) (c : ℕ) (looked fed : List ℕ) → runs v t c ≡ true → chooses v c ≡ false → looked_at v held c ≡ looked → fed_by v c ≡ fed → (is_empty (outs v.graph c) || not (is_empty fed)) ≡ true → frames_to_move v t held free c ≡ least (quota v t c) (map held looked ++ map free fed)
unfolding frames_to_move
frames-run v t held free c looked fed run picks look feed some =
    (λ i. cond (run i && (not (picks i) || not (is_empty (look i))) && (is_empty (outs v.graph c) || not (is_empty (feed i)))) (least (quota v t c) (map held (look i) ++ map free (feed i))) 0)
    ∙ ap (λ h. cond h (least (quota v t c) (map held looked ++ map free fed)) 0) some

-- what runs, feeds some edge, and looks at something if it chooses, moves the least of these, and nothing where it looks at nothing
pub frames-looked : (v : View) (t : ℕ) (held free : ℕ → ℕ) (c : ℕ) (looked fed : List ℕ) → runs v t c ≡ true → looked_at v held c ≡ looked → fed_by v c ≡ fed → is_empty fed ≡ false → (not (chooses v c) || not (is_empty (looked_at v held c))) ≡ not (is_empty looked) → frames_to_move v t held free c ≡ cond (is_empty looked) 0 (least (quota v t c) (map held looked ++ map free fed))
unfolding frames_to_move
frames-looked v t held free c looked fed run look feed one some =
    (λ i. cond (run i && some i && (is_empty (outs v.graph c) || not (is_empty (feed i)))) (least (quota v t c) (map held (look i) ++ map free (feed i))) 0)
    ∙ ap (λ h. cond (not (is_empty looked) && (is_empty (outs v.graph c) || not h)) (least (quota v t c) (map held looked ++ map free fed)) 0) one
    ∙ both (is_empty looked) (is_empty (outs v.graph c))
  where
    both : (p q : Bool) → cond (not p && (q || true)) (least (quota v t c) (map held looked ++ map free fed)) 0 ≡ cond p 0 (least (quota v t c) (map held looked ++ map free fed))
    both true q = refl
    both false true = refl
    both false false = refl

-- ---- endpoints

module _ (v : View) (blobs : ℕ → List ℕ) (t c : ℕ) (io : Io) (a : Audio) where
  -- bytes are taken of its slot's input, and put after its slot's output
  pub io-moved : HasDistinct (λ x. x.slot) io.inputs → HasDistinct (λ x. x.slot) io.outputs → io_after io (after_move v blobs t c a) ≡ record { inputs = taken c (bytes_moved v blobs t c a) (io_after io a).inputs; outputs = with_piece c (bytes_now v blobs t c a) (io_after io a).outputs }
  io-moved inputs outputs = λ i. record {
    inputs = shown-taken c (bytes_moved v blobs t c a) (λ x. number_of a.positions x) (λ x. list_of a.left x) io.inputs inputs i;
    outputs = shown-put c (bytes_now v blobs t c a) (λ x. list_of a.written x) io.outputs outputs i;
  }

  pub on-moved : AreEnds io a → AreEnds io (after_move v blobs t c a)
  on-moved stage = record { inputs = stage.inputs; outputs = stage.outputs; low = λ x. low x (c == x); none = λ x gone. none x gone (c == x) refl }
    where
      low : (x : ℕ) (h : Bool) → cond h (moved_on (number_of a.positions c) (bytes_moved v blobs t c a)) (number_of a.positions x) ≤ 2 ^ 64 - 1
      low x true = omega arith
      low x false = stage.low x

      none : (x : ℕ) → is_among (map (λ (i : InputView). i.slot) io.inputs) x ≡ false → (h : Bool) → (c == x) ≡ h → cond h (drop (bytes_moved v blobs t c a) (list_of a.left c)) (list_of a.left x) ≡ []
      none x gone true h = ap (λ y. drop (bytes_moved v blobs t c a) (list_of a.left y)) (eqb-true c x h) ∙ ap (drop (bytes_moved v blobs t c a)) (stage.none x gone) ∙ drop-nil (bytes_moved v blobs t c a)
      none x gone false h = stage.none x gone

  -- ---- rings

  -- a component that moves no frame and makes none leaves the rings
  pub rings-still : frames_moved v blobs t c a ≡ 0 → made_now v blobs t c a ≡ [] → (b : ℕ) → list_of (after_move v blobs t c a).rings b ≡ list_of a.rings b
  rings-still idle none b =
      value_of-updated_kept [] (fed_by v c) (λ b. list_of a.rings b ++ frames_for v c b (made_now v blobs t c a)) dropped b
      (λ there. ap (λ made. list_of a.rings b ++ frames_for v c b made) none ∙ ap (λ fs. list_of a.rings b ++ fs) (parted-none v c b) ∙ append-nil (list_of a.rings b) ∙ sym ring)
      ∙ ring
    where
      dropped : List (ℕ × List Frame)
      dropped = updated (looked_now v blobs t c a) (λ b. drop (frames_moved v blobs t c a) (list_of a.rings b)) a.rings

      ring : list_of dropped b ≡ list_of a.rings b
      ring = value_of-updated_kept [] (looked_now v blobs t c a) (λ b. drop (frames_moved v blobs t c a) (list_of a.rings b)) a.rings b (λ there. ap (λ m. drop m (list_of a.rings b)) idle)

  pub takes-none : frames_moved v blobs t c a ≡ 0 → bytes_moved v blobs t c a ≡ 0
  takes-none idle = ap (λ m. cond (reads v c) (bytes_of_frames v c m) 0) idle ∙ both (reads v c)
    where
      both : (h : Bool) → cond h (bytes_of_frames v c 0) 0 ≡ 0
      both true = omega arith
      both false = refl

  -- what does not run makes nothing
  pub made-idle : frames_moved v blobs t c a ≡ 0 → made_now v blobs t c a ≡ []
  made-idle idle =
      ap (λ n. frames_made v c n (frames_in (format_of v c) (channels_of v c) (list_of a.left c) 0 n) (table (looked_now v blobs t c a) (λ b. take n (list_of a.rings b))) (λ blob channels frames. passed_frames blob channels (list_of a.numbers c) frames) (ramped_frames (numbers_from (list_of a.numbers c)) (ramp_length v c) (numbers_place (list_of a.numbers c)))) idle
      ∙ made-none (looked_now v blobs t c a) (λ b. list_of a.rings b) v c (list_of a.numbers c) (numbers_from (list_of a.numbers c)) (ramp_length v c) (numbers_place (list_of a.numbers c))

  pub writes-idle : runs v t c ≡ false → bytes_now v blobs t c a ≡ []
  writes-idle off = ap (λ h. cond h (bytes_written v c (frames_moved v blobs t c a) (quota v t c) (only_slice (fronts v blobs t c a))) []) off

  -- one that feeds one edge and takes from none puts its frames after those of the edge
  pub rings-fed : (b : ℕ) → looked_now v blobs t c a ≡ [] → fed_by v c ≡ b ∷ [] → (x : ℕ) → list_of (after_move v blobs t c a).rings x ≡ cond (b == x) (list_of a.rings b ++ frames_for v c b (made_now v blobs t c a)) (list_of a.rings x)
  rings-fed b look feed x =
      λ i. list_of (updated (feed i) (λ b. list_of a.rings b ++ frames_for v c b (made_now v blobs t c a)) (updated (look i) (λ b. drop (frames_moved v blobs t c a) (list_of a.rings b)) a.rings)) x

  -- one that takes from one edge and feeds none drops its frames
  pub rings-drained : (b : ℕ) → looked_now v blobs t c a ≡ b ∷ [] → fed_by v c ≡ [] → (x : ℕ) → list_of (after_move v blobs t c a).rings x ≡ cond (b == x) (drop (frames_moved v blobs t c a) (list_of a.rings b)) (list_of a.rings x)
  rings-drained b look feed x =
      λ i. list_of (updated (feed i) (λ b. list_of a.rings b ++ frames_for v c b (made_now v blobs t c a)) (updated (look i) (λ b. drop (frames_moved v blobs t c a) (list_of a.rings b)) a.rings)) x

  -- one that takes from some edges and feeds some drops its frames of each, and puts what each that it feeds gets after those of it
  pub rings-made : (ids fed : List ℕ) → looked_now v blobs t c a ≡ ids → fed_by v c ≡ fed → (x : ℕ)
      → list_of (after_move v blobs t c a).rings x ≡ cond (is_among fed x) (list_of a.rings x ++ frames_for v c x (made_now v blobs t c a)) (cond (is_among ids x) (drop (frames_moved v blobs t c a) (list_of a.rings x)) (list_of a.rings x))
  rings-made ids fed look feed x =
      (λ i. list_of (updated (feed i) puts (updated (look i) (λ b. drop (frames_moved v blobs t c a) (list_of a.rings b)) a.rings)) x)
      ∙ by_fed (is_among fed x) refl
      ∙ ap (cond (is_among fed x) (puts x)) (by_place (is_among ids x) refl)
    where
      puts : ℕ → List Frame
      puts b = list_of a.rings b ++ frames_for v c b (made_now v blobs t c a)

      dropped : List (ℕ × List Frame)
      dropped = updated ids (λ b. drop (frames_moved v blobs t c a) (list_of a.rings b)) a.rings

      by_fed : (h : Bool) → is_among fed x ≡ h → list_of (updated fed puts dropped) x ≡ cond h (puts x) (list_of dropped x)
      by_fed true h = value_of-updated_among [] fed puts dropped x h
      by_fed false h = value_of-updated_apart [] fed puts dropped x h

      by_place : (h : Bool) → is_among ids x ≡ h → list_of (updated ids (λ b. drop (frames_moved v blobs t c a) (list_of a.rings b)) a.rings) x ≡ cond h (drop (frames_moved v blobs t c a) (list_of a.rings x)) (list_of a.rings x)
      by_place true h = value_of-updated_among [] ids (λ b. drop (frames_moved v blobs t c a) (list_of a.rings b)) a.rings x h
      by_place false h = value_of-updated_apart [] ids (λ b. drop (frames_moved v blobs t c a) (list_of a.rings b)) a.rings x h
