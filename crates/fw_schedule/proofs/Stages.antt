-- From one stage of a tick to the next.
use Rattle.std.proofs.Common.{◌≡◌, refl, sym, ap, ◌∙◌, ℕ, List, [], ◌∷◌, ◌++◌, map, take, drop, filter, length, Bool, true, false, cond, ◌==◌, ℤ}
use Rattle.std.proofs.lemmas.Bool.{eqb-true, true≢false}
use Rattle.std.specs.List.{AllByRecursion}
use Rattle.sof_base.specs.Samples.{Frame}
use Rattle.sof_base.specs.Ports.{InputView, OutputView, Io}
use Rattle.sof_io.specs.Takes.{taken as input_taken}
use Rattle.sof_io.specs.Puts.{with_piece}
use Rattle.stream_law.specs.State.{View, RingView, History}
use Rattle.stream_law.specs.Table.{table, list_of, number_of}
use Rattle.stream_law.specs.Ways.{is_of, channels_of}
use Rattle.stream_law.specs.Moves.{fed_by}
use Rattle.stream_law.specs.Made.{only_slice, frames_for}
use Rattle.stream_law.specs.Seen.{is_volume, remembers, blob_in, ramp_length}
use Rattle.stream_law.specs.Equaliser.{numbers_after}
use Rattle.stream_law.specs.Ramps.{ramped_on}
use Rattle.stream_law.specs.Move.{Audio, after_move, frames_moved, looked_now, fronts, made_now, numbers_moved, bytes_moved, bytes_now, io_after}
use Rattle.fw_units.specs.declared.component.Component.{Component}
use Rattle.fw_units.specs.Units.{numbers_by}
use Rattle.fw_components.specs.Tables.{Tables, view_by, rings_of, histories_of}
use Rattle.fw_components.specs.Frames.{with_taken, pushed, with_frames}
use Rattle.fw_components.specs.Kept.{IsKept}
use Rattle.fw_schedule.specs.Stages.{heard_ring, heard_history, IsStage, AreEnds}
use Rattle.fw_schedule.proofs.Still.{bare-taken, bare-pushed, view-still, rings-taken, rings-pushed}
use Rattle.fw_schedule.proofs.NoFrames.{only-none}
use Rattle.fw_schedule.proofs.ShownEnds.{eqb-turned, shown-untaken, put-none}
use Rattle.fw_schedule.proofs.Moved.{io-moved, rings-still, takes-none, rings-fed, rings-drained}

-- ---- histories

-- each history is of one that keeps numbers
history-each : (v : View) (cs : List Component) → AllByRecursion (λ (h : History). remembers v h.comp ≡ true) (map (λ c. record { comp = c.id; numbers = numbers_by c.unit c.channels }) (filter (λ c. remembers v c.id) cs))
history-each v [] = tt
history-each v (c ∷ cs) = by (remembers v c.id) refl (history-each v cs)
  where
    by : (h : Bool) → remembers v c.id ≡ h → AllByRecursion (λ (h : History). remembers v h.comp ≡ true) (map (λ c. record { comp = c.id; numbers = numbers_by c.unit c.channels }) (filter (λ c. remembers v c.id) cs)) → AllByRecursion (λ (h : History). remembers v h.comp ≡ true) (map (λ c. record { comp = c.id; numbers = numbers_by c.unit c.channels }) (cond h (c ∷ filter (λ c. remembers v c.id) cs) (filter (λ c. remembers v c.id) cs)))
    by true is rest = (is, rest)
    by false is rest = rest

pub histories-each : (t : Tables) → AllByRecursion (λ (h : History). remembers (view_by t) h.comp ≡ true) (histories_of t)
histories-each t = history-each (view_by t) t.comps

-- histories by numbers that are the same at each
heard-same : (a b : Audio) (hs : List History) → AllByRecursion (λ (h : History). list_of a.numbers h.comp ≡ list_of b.numbers h.comp) hs → map (heard_history a) hs ≡ map (heard_history b) hs
heard-same a b [] same = refl
heard-same a b (h ∷ hs) same = λ i. record { comp = h.comp; numbers = same.0 i } ∷ heard-same a b hs same.1 i

all-same : (a b : Audio) → ((x : ℕ) → list_of a.numbers x ≡ list_of b.numbers x) → (hs : List History) → AllByRecursion (λ (h : History). list_of a.numbers h.comp ≡ list_of b.numbers h.comp) hs
all-same a b same [] = tt
all-same a b same (h ∷ hs) = (same h.comp, all-same a b same hs)

histories-view : (t u : Tables) → t.comps ≡ u.comps → view_by t ≡ view_by u → histories_of t ≡ histories_of u
histories-view t u comps view = λ i. map (λ c. record { comp = c.id; numbers = numbers_by c.unit c.channels }) (filter (λ c. remembers (view i) c.id) (comps i))

-- ---- rings

rings-same : (a b : Audio) → ((x : ℕ) → list_of a.rings x ≡ list_of b.rings x) → (rs : List RingView) → map (heard_ring a) rs ≡ map (heard_ring b) rs
rings-same a b same [] = refl
rings-same a b same (r ∷ rs) = λ i. record { buffer = r.buffer; frames = same r.buffer i } ∷ rings-same a b same rs i

-- a ring of a buffer
abbrev pub ring : ℕ → List Frame → RingView
ring b fs = record { buffer = b; frames = fs }

-- one ring has other frames
rings-one : (f : List Frame → List Frame) (b : ℕ) (a a' : Audio) → ((x : ℕ) → list_of a'.rings x ≡ cond (b == x) (f (list_of a.rings b)) (list_of a.rings x)) → (rs : List RingView) → map (with_frames f b) (map (heard_ring a) rs) ≡ map (heard_ring a') rs
rings-one f b a a' is [] = refl
rings-one f b a a' is (r ∷ rs) = λ i. (by (r.buffer == b) refl ∙ ap (ring r.buffer) (sym (is r.buffer))) i ∷ rings-one f b a a' is rs i
  where
    by : (h : Bool) → (r.buffer == b) ≡ h → cond h (ring r.buffer (f (list_of a.rings r.buffer))) (ring r.buffer (list_of a.rings r.buffer)) ≡ ring r.buffer (cond (b == r.buffer) (f (list_of a.rings b)) (list_of a.rings r.buffer))
    by true h =
        ap (λ x. ring r.buffer (f (list_of a.rings x))) (eqb-true r.buffer b h)
        ∙ sym (ap (λ k. ring r.buffer (cond k (f (list_of a.rings b)) (list_of a.rings r.buffer))) (eqb-turned b r.buffer ∙ h))
    by false h = sym (ap (λ k. ring r.buffer (cond k (f (list_of a.rings b)) (list_of a.rings r.buffer))) (eqb-turned b r.buffer ∙ h))

-- ---- one component

module _ (began : Tables) (start : Io) (t : Tables) (inputs : List InputView) (outputs : List OutputView) (a : Audio) (ends : AreEnds start a) (stage : IsStage began start t inputs outputs a) (clock c : ℕ) where
  abbrev v : View
  v = view_by t

  abbrev blobs : ℕ → List ℕ
  blobs = blob_in (view_by t)

  abbrev next : Audio
  next = after_move (view_by t) (blob_in (view_by t)) clock c a

  -- numbers that no frame changes
  numbers-still : only_slice (fronts v blobs clock c a) ≡ [] → (x : ℕ) → list_of a.numbers x ≡ list_of next.numbers x
  numbers-still none x = by (c == x) refl
    where
      both : (k : Bool) → cond k (list_of a.numbers c) (list_of a.numbers c) ≡ list_of a.numbers c
      both true = refl
      both false = refl

      none_taken : numbers_moved v blobs clock c a c ≡ list_of a.numbers c
      none_taken =
          ap (λ (fs : List Frame). cond (is_of v.graph is_volume c) (ramped_on (ramp_length v c) (list_of a.numbers c) (length fs)) (numbers_after (blobs c) (channels_of v c) (list_of a.numbers c) fs)) none
          ∙ both (is_of v.graph is_volume c)

      by : (h : Bool) → (c == x) ≡ h → list_of a.numbers x ≡ cond h (numbers_moved v blobs clock c a c) (list_of a.numbers x)
      by true h = sym (none_taken ∙ ap (list_of a.numbers) (eqb-true c x h))
      by false h = refl

  -- or that are of another
  pub numbers-plain : remembers v c ≡ false → AllByRecursion (λ (h : History). list_of a.numbers h.comp ≡ list_of next.numbers h.comp) (histories_of began)
  numbers-plain plain = each (histories_of began) (histories-each began)
    where
      each : (hs : List History) → AllByRecursion (λ (h : History). remembers (view_by began) h.comp ≡ true) hs → AllByRecursion (λ (h : History). list_of a.numbers h.comp ≡ list_of next.numbers h.comp) hs
      each [] are = tt
      each (h ∷ hs) are = (by (c == h.comp) refl, each hs are.1)
        where
          by : (k : Bool) → (c == h.comp) ≡ k → list_of a.numbers h.comp ≡ cond k (numbers_moved v blobs clock c a c) (list_of a.numbers h.comp)
          by true k = absurd (true≢false (sym are.0 ∙ (λ i. remembers (sym (view-still t began stage.bare) i) (sym (eqb-true c h.comp k) i)) ∙ plain))
          by false k = refl

  inputs-next : (m : ℕ) → bytes_moved v blobs clock c a ≡ m → (io_after start next).inputs ≡ input_taken c m inputs
  inputs-next m is = ap (λ (io : Io). io.inputs) (io-moved v blobs clock c start a ends.inputs ends.outputs) ∙ (λ i. input_taken c (is i) (sym stage.inputs i))

  pub inputs-still : bytes_moved v blobs clock c a ≡ 0 → (io_after start next).inputs ≡ inputs
  inputs-still none = ap (λ (io : Io). io.inputs) (io-moved v blobs clock c start a ends.inputs ends.outputs) ∙ ap (λ m. input_taken c m (io_after start a).inputs) none ∙ shown-untaken c (λ x. number_of a.positions x) (λ x. list_of a.left x) start.inputs ends.low ∙ sym stage.inputs

  outputs-next : (piece : List ℕ) → bytes_now v blobs clock c a ≡ piece → (io_after start next).outputs ≡ with_piece c piece outputs
  outputs-next piece is = ap (λ (io : Io). io.outputs) (io-moved v blobs clock c start a ends.inputs ends.outputs) ∙ (λ i. with_piece c (is i) (sym stage.outputs i))

  pub outputs-still : bytes_now v blobs clock c a ≡ [] → (io_after start next).outputs ≡ outputs
  outputs-still none = outputs-next [] none ∙ put-none c outputs

  -- a component that moves no frame, makes none and writes nothing leaves all
  pub still : frames_moved v blobs clock c a ≡ 0 → made_now v blobs clock c a ≡ [] → bytes_now v blobs clock c a ≡ [] → IsStage began start t inputs outputs next
  still idle none silent = record {
    bare = stage.bare;
    rings = stage.rings ∙ rings-same a next (λ x. sym (rings-still v blobs clock c start a idle none x)) (rings_of began);
    histories = stage.histories ∙ heard-same a next (histories_of began) (all-same a next (numbers-still (ap (λ n. only_slice (table (looked_now v blobs clock c a) (λ b. take n (list_of a.rings b)))) idle ∙ only-none (looked_now v blobs clock c a) (λ b. list_of a.rings b))) (histories_of began));
    staging = stage.staging;
    inputs = sym (inputs-still (takes-none v blobs clock c start a idle));
    outputs = sym (outputs-still silent);
  }

  -- one that looks at nothing puts its frames into the buffer that it feeds
  pub fed : IsKept t → (b m : ℕ) (fs : List Frame) (w : List ℤ) → looked_now v blobs clock c a ≡ [] → fed_by v c ≡ b ∷ [] → frames_for v c b (made_now v blobs clock c a) ≡ fs → bytes_moved v blobs clock c a ≡ m → bytes_now v blobs clock c a ≡ [] → IsStage began start (pushed b fs w t) (input_taken c m inputs) outputs next
  fed kept b m fs w look feed made moved silent = record {
    bare = bare-pushed b fs w t ∙ stage.bare;
    rings =
        rings-pushed b fs w t kept ∙ ap (map (with_frames (λ own. own ++ fs) b)) stage.rings
        ∙ rings-one (λ own. own ++ fs) b a next (λ x. rings-fed v blobs clock c start a b look feed x ∙ ap (λ (made : List Frame). cond (b == x) (list_of a.rings b ++ made) (list_of a.rings x)) made) (rings_of began);
    histories =
        histories-view (pushed b fs w t) t refl (view-still (pushed b fs w t) t (bare-pushed b fs w t)) ∙ stage.histories
        ∙ heard-same a next (histories_of began) (all-same a next (numbers-still (ap (λ ids. only_slice (table ids (λ b. take (frames_moved v blobs clock c a) (list_of a.rings b)))) look)) (histories_of began));
    staging = stage.staging;
    inputs = sym (inputs-next m moved);
    outputs = sym (outputs-still silent);
  }

  -- one that feeds nothing takes its frames from the buffer that it looks at
  pub drained : (b n : ℕ) (piece : List ℕ) → remembers v c ≡ false → looked_now v blobs clock c a ≡ b ∷ [] → fed_by v c ≡ [] → frames_moved v blobs clock c a ≡ n → bytes_moved v blobs clock c a ≡ 0 → bytes_now v blobs clock c a ≡ piece → IsStage began start (with_taken b n t) inputs (with_piece c piece outputs) next
  drained b n piece plain look feed count moved wrote = record {
    bare = bare-taken b n t ∙ stage.bare;
    rings =
        rings-taken b n t ∙ ap (map (with_frames (drop n) b)) stage.rings
        ∙ rings-one (drop n) b a next (λ x. rings-drained v blobs clock c start a b look feed x ∙ ap (λ k. cond (b == x) (drop k (list_of a.rings b)) (list_of a.rings x)) count) (rings_of began);
    histories = histories-view (with_taken b n t) t refl (view-still (with_taken b n t) t (bare-taken b n t)) ∙ stage.histories ∙ heard-same a next (histories_of began) (numbers-plain plain);
    staging = stage.staging;
    inputs = sym (inputs-still moved);
    outputs = sym (outputs-next piece wrote);
  }
