-- One component after another, in order.
use Rattle.std.proofs.Common.{◌≡◌, refl, sym, ap, ◌∙◌, subst, ℕ, ◌+◌, ◌-◌, ◌≤◌, ◌^◌, List, [], ◌∷◌, ◌++◌, map, length, filter, Bool, true, false, cond, ◌==◌, ◌||◌, arith, append-nil}
use Rattle.std.proofs.lemmas.Bool.{eqb-true, true≢false}
use Rattle.std.specs.Prelude.{nat_eq}
use Rattle.std.specs.List.{AllByRecursion, IsDistinct}
use Rattle.sof_base.specs.Ports.{InputView, OutputView, Io, HasRoom}
use Rattle.sof_io.specs.Puts.{room_at}
use Rattle.sof_io.proofs.RoomLaws.{room_at-HasRoom}
use Rattle.stream_law.specs.State.{View, RingView, History}
use Rattle.stream_law.specs.Table.{list_of, number_of}
use Rattle.stream_law.specs.Placed.{HasDistinct}
use Rattle.stream_law.specs.Order.{is_among}
use Rattle.stream_law.specs.Seen.{flows, remembers, blob_in}
use Rattle.stream_law.specs.Move.{Audio, after_move, after_moves}
use Rattle.stream_law.proofs.Keyed.{keyed, keyed-values, map-same, all-from, all-both}
use Rattle.stream_law.proofs.Placing.{Ascends-distinct}
use Rattle.row_laws.proofs.Fewer.{distinct-filter}
use Rattle.row_laws.proofs.TickKept.{empty-all}
use Rattle.fw_units.specs.declared.component.Component.{Component}
use Rattle.fw_units.specs.Units.{ring_by, numbers_by}
use Rattle.fw_components.specs.Tables.{Tables, view_by, rings_of, histories_of}
use Rattle.fw_components.specs.Kept.{IsKept}
use Rattle.fw_schedule.specs.Stages.{heard_ring, heard_history, IsStage, AreEnds, Moves, Grew, audio_from}
use Rattle.fw_schedule.specs.Ticks.{CanTick}
use Rattle.fw_schedule.proofs.Still.{view-still, can-still, frames-none, frames-listed}
use Rattle.fw_schedule.proofs.Moved.{on-moved}
use Rattle.fw_schedule.proofs.Growing.{grew-then, apart-among}

-- ---- room

-- room in every output is room for each
pub room-each : (ids : List ℕ) (outputs : List OutputView) → HasRoom 61440 outputs → AllByRecursion (λ c. 61440 ≤ room_at c outputs) ids
room-each [] outputs room = tt
room-each (c ∷ ids) outputs room = (room_at-HasRoom 61440 c outputs (omega arith) room, room-each ids outputs room)

-- another slot's room is kept
room-kept : (c d : ℕ) (old new : List OutputView) → (c == d) ≡ false → Grew (c ∷ []) old new → 61440 ≤ room_at d old → 61440 ≤ room_at d new
room-kept c d [] [] apart grew room = room
room-kept c d [] (n ∷ new) apart grew room = elim grew [ ]
room-kept c d (o ∷ old) [] apart grew room = elim grew [ ]
room-kept c d (o ∷ old) (n ∷ new) apart grew room = by_slot (o.slot == d) refl (ap (λ s. s == d) grew.0) room (room-kept c d old new apart grew.2)
  where
    short : (o.slot == d) ≡ true → length n.bytes ≤ length o.bytes
    short here = by_case (c == o.slot) (ap (λ s. c == s) (eqb-true o.slot d here) ∙ apart) grew.1
      where
        by_case : (h : Bool) → h ≡ false → length n.bytes ≤ length o.bytes + cond (h || false) 61440 0 → length n.bytes ≤ length o.bytes
        by_case h e low = let more : length n.bytes ≤ length o.bytes + 0 = subst (λ h. length n.bytes ≤ length o.bytes + cond (h || false) 61440 0) e low in omega (arith, more)

    by_slot : (h : Bool) → (o.slot == d) ≡ h → (n.slot == d) ≡ (o.slot == d) → 61440 ≤ cond h (1048576 - length o.bytes) (room_at d old) → (61440 ≤ room_at d old → 61440 ≤ room_at d new) → 61440 ≤ cond (n.slot == d) (1048576 - length n.bytes) (room_at d new)
    by_slot true here same low rest = subst (λ h. 61440 ≤ cond h (1048576 - length n.bytes) (room_at d new)) (sym (same ∙ here)) (let few = short here in omega (arith, low, few))
    by_slot false here same low rest = subst (λ h. 61440 ≤ cond h (1048576 - length n.bytes) (room_at d new)) (sym (same ∙ here)) (rest low)

-- those after one have their room after it
room-behind : (c : ℕ) (ids : List ℕ) (old new : List OutputView) → Grew (c ∷ []) old new → AllByRecursion (λ d. (c == d) ≡ false) ids → AllByRecursion (λ c. 61440 ≤ room_at c old) ids → AllByRecursion (λ c. 61440 ≤ room_at c new) ids
room-behind c [] old new grew apart room = tt
room-behind c (d ∷ ids) old new grew apart room = (room-kept c d old new apart.0 grew room.0, room-behind c ids old new grew apart.1 room.1)

-- ---- a step

-- one more component
after-end : (v : View) (blobs : ℕ → List ℕ) (clock : ℕ) (cs : List ℕ) (c : ℕ) (a : Audio) → after_moves v blobs clock (cs ++ c ∷ []) a ≡ after_move v blobs clock c (after_moves v blobs clock cs a)
after-end v blobs clock [] c a = refl
after-end v blobs clock (d ∷ cs) c a = after-end v blobs clock cs c (after_move v blobs clock d a)

-- how far a tick has come: these have moved, and those are left
pub record IsOnWay (began : Tables) (start : Io) (clock : ℕ) (a : Audio) (moved left : List ℕ) (t : Tables) (inputs' : List InputView) (outputs' : List OutputView) : Type 0 where
  pub stage : IsStage began start t inputs' outputs' (after_moves (view_by began) (blob_in (view_by began)) clock moved a)
  pub ends : AreEnds start (after_moves (view_by began) (blob_in (view_by began)) clock moved a)
  pub single : IsDistinct nat_eq left
  pub room : AllByRecursion (λ c. 61440 ≤ room_at c outputs') left
  pub grew : (new : List OutputView) → Grew left outputs' new → Grew (moved ++ left) start.outputs new

pub on-step : (began : Tables) (start : Io) (clock : ℕ) (a : Audio) (moved : List ℕ) (c : ℕ) (left : List ℕ) (t : Tables) (inputs : List InputView) (outputs : List OutputView) → IsOnWay began start clock a moved (c ∷ left) t inputs outputs
    → (u : Tables) (inputs' : List InputView) (outputs' : List OutputView) → Grew (c ∷ []) outputs outputs' → Moves clock c t inputs outputs u inputs' outputs' → IsOnWay began start clock a (moved ++ c ∷ []) left u inputs' outputs'
unfolding IsDistinct
on-step began start clock a moved c left t inputs outputs on u inputs' outputs' grew moves =
    let v = view_by began in
    let view : view_by t ≡ view_by began = view-still t began on.stage.bare in
    let so_far = after_moves (view_by began) (blob_in (view_by began)) clock moved a in
    let step = moves began start so_far on.ends on.stage in
    record {
      stage =
          subst (IsStage began start u inputs' outputs')
          ((λ i. after_move (view i) (blob_in (view i)) clock c (after_moves (view_by began) (blob_in (view_by began)) clock moved a)) ∙ sym (after-end (view_by began) (blob_in (view_by began)) clock moved c a))
          step;
      ends = subst (AreEnds start) (sym (after-end (view_by began) (blob_in (view_by began)) clock moved c a)) (on-moved (view_by began) (blob_in (view_by began)) clock c start (after_moves (view_by began) (blob_in (view_by began)) clock moved a) on.ends);
      single = on.single.1;
      room = room-behind c left outputs outputs' grew on.single.0 on.room.1;
      grew = λ new rest. subst (λ cs. Grew cs start.outputs new) (sym (joined moved)) (on.grew new (grew-then c left outputs outputs' new (apart-among c left on.single.0) grew rest));
    }
  where
    joined : (xs : List ℕ) → (xs ++ c ∷ []) ++ left ≡ xs ++ c ∷ left
    joined [] = refl
    joined (x ∷ xs) = ap (λ (ys : List ℕ). x ∷ ys) (joined xs)

-- ---- the beginning

positions-low : (xs : List InputView) → AllByRecursion (λ x. x.position ≤ 2 ^ 64 - 1) xs → (slot : ℕ) → number_of (keyed (λ x. x.slot) (λ x. x.position) xs) slot ≤ 2 ^ 64 - 1
positions-low [] low slot = omega arith
positions-low (x ∷ xs) low slot = head (x.slot == slot) (positions-low xs low.1 slot)
  where
    head : (h : Bool) → number_of (keyed (λ x. x.slot) (λ x. x.position) xs) slot ≤ 2 ^ 64 - 1 → cond h x.position (number_of (keyed (λ x. x.slot) (λ x. x.position) xs) slot) ≤ 2 ^ 64 - 1
    head true rest = low.0
    head false rest = rest

left-none : (xs : List InputView) (slot : ℕ) → is_among (map (λ (x : InputView). x.slot) xs) slot ≡ false → list_of (keyed (λ x. x.slot) (λ x. x.left) xs) slot ≡ []
left-none [] slot gone = refl
left-none (x ∷ xs) slot gone = head (x.slot == slot) gone (left-none xs slot)
  where
    head : (h : Bool) → (h || is_among (map (λ (x : InputView). x.slot) xs) slot) ≡ false → (is_among (map (λ (x : InputView). x.slot) xs) slot ≡ false → list_of (keyed (λ x. x.slot) (λ x. x.left) xs) slot ≡ []) → cond h x.left (list_of (keyed (λ x. x.slot) (λ x. x.left) xs) slot) ≡ []
    head true h rest = absurd (true≢false h)
    head false h rest = rest h

outputs-same : (xs : List OutputView) → map (λ x. record { slot = x.slot; bytes = x.bytes ++ [] }) xs ≡ xs
outputs-same [] = refl
outputs-same (x ∷ xs) = λ i. record { slot = x.slot; bytes = append-nil x.bytes i } ∷ outputs-same xs i

ring-ids : (cs : List Component) → map (λ (r : RingView). r.buffer) (map ring_by cs) ≡ map (λ (c : Component). c.id) cs
ring-ids [] = refl
ring-ids (c ∷ cs) = ap (λ (ids : List ℕ). c.id ∷ ids) (ring-ids cs)

history-ids : (cs : List Component) → map (λ (h : History). h.comp) (map (λ c. record { comp = c.id; numbers = numbers_by c.unit c.channels }) cs) ≡ map (λ (c : Component). c.id) cs
history-ids [] = refl
history-ids (c ∷ cs) = ap (λ (ids : List ℕ). c.id ∷ ids) (history-ids cs)

module _ (t : Tables) (kept : IsKept t) (start : Io) (inputs : HasDistinct (λ x. x.slot) start.inputs) (outputs : HasDistinct (λ x. x.slot) start.outputs) (low : AllByRecursion (λ x. x.position ≤ 2 ^ 64 - 1) start.inputs) where
  abbrev audio : Audio
  audio = audio_from t start

  pub ends-first : AreEnds start (audio_from t start)
  ends-first = record { inputs = inputs; outputs = outputs; low = λ x. positions-low start.inputs low x; none = λ x gone. left-none start.inputs x gone }

  rings-apart : HasDistinct (λ (r : RingView). r.buffer) (rings_of t)
  rings-apart = subst (IsDistinct nat_eq) (sym (ring-ids t.buffers)) (Ascends-distinct (λ (c : Component). c.id) t.buffers kept.named.buffers)

  histories-apart : HasDistinct (λ (h : History). h.comp) (histories_of t)
  histories-apart = subst (IsDistinct nat_eq) (sym (history-ids (filter (λ c. remembers (view_by t) c.id) t.comps))) (distinct-filter (λ (c : Component). c.id) (λ c. remembers (view_by t) c.id) t.comps (Ascends-distinct (λ (c : Component). c.id) t.comps kept.named.comps))

  pub stage-first : IsStage t start t start.inputs start.outputs (audio_from t start)
  stage-first = record {
    bare = refl;
    rings = sym (map-same (heard_ring (audio_from t start)) (rings_of t)
        (all-from (rings_of t) (λ r e. ap (λ frames. record { buffer = r.buffer; frames = frames }) e) (keyed-values (λ (r : RingView). r.buffer) (λ r. r.frames) [] (rings_of t) rings-apart)));
    histories = sym (map-same (heard_history (audio_from t start)) (histories_of t)
        (all-from (histories_of t) (λ h e. ap (λ numbers. record { comp = h.comp; numbers = numbers }) e) (keyed-values (λ (h : History). h.comp) (λ h. h.numbers) [] (histories_of t) histories-apart)));
    staging = refl;
    inputs = sym (map-same (λ (x : InputView). record x { position = number_of (keyed (λ (x : InputView). x.slot) (λ x. x.position) start.inputs) x.slot; left = list_of (keyed (λ (x : InputView). x.slot) (λ x. x.left) start.inputs) x.slot }) start.inputs
        (all-both start.inputs (λ x p l. λ i. record x { position = p i; left = l i })
        (keyed-values (λ (x : InputView). x.slot) (λ x. x.position) 0 start.inputs inputs) (keyed-values (λ (x : InputView). x.slot) (λ x. x.left) [] start.inputs inputs)));
    outputs = sym (outputs-same start.outputs);
  }

  pub on-first : (clock : ℕ) (cs : List ℕ) → IsDistinct nat_eq cs → HasRoom 61440 start.outputs → IsOnWay t start clock (audio_from t start) [] cs t start.inputs start.outputs
  on-first clock cs single room = record { stage = stage-first; ends = ends-first; single = single; room = room-each cs start.outputs room; grew = λ new rest. rest }

-- ---- at each stage a tick can go on

pub can-on : (began : Tables) → CanTick began → (start : Io) (clock : ℕ) (moved left : List ℕ) (t : Tables) (inputs : List InputView) (outputs : List OutputView) → IsOnWay began start clock (audio_from began start) moved left t inputs outputs → CanTick t
can-on began can start clock moved left t inputs outputs on =
    can-still began t (sym on.stage.bare) (λ b dead.
    frames-none (after_moves (view_by began) (blob_in (view_by began)) clock moved (audio_from began start)) t.buffers (rings_of began) on.stage.rings b
    (empty-all (view_by began) clock moved (audio_from began start) (λ b dead. frames-listed began.buffers b ∙ can.empty b dead) b (ap (λ (v : View). flows v b) (sym (view-still t began on.stage.bare)) ∙ dead))) can
