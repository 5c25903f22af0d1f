-- A tick moves each input by at most 61440 bytes.
use Rattle.std.proofs.Common.{◌≡◌, refl, sym, ap, ◌∙◌, subst, ℕ, ◌+◌, ◌*◌, ◌≤◌, List, [], ◌∷◌, ◌++◌, map, Bool, true, false, cond, ◌==◌, ◌||◌, arith}
use Rattle.std.proofs.lemmas.Bool.{eqb-true, true≢false, true_from_ne_false}
use Rattle.std.specs.List.{IsDistinct}
use Rattle.sof_base.specs.Ports.{Io, InputView, moved_on}
use Rattle.sof_base.specs.Samples.{width}
use Rattle.stream_law.specs.State.{FwState, View, view_of}
use Rattle.stream_law.specs.Table.{number_of, list_of}
use Rattle.stream_law.specs.Ways.{active, live, channels_of}
use Rattle.stream_law.specs.Moves.{quota, least, may_move, looked_at, fed_by, frames_to_move}
use Rattle.stream_law.specs.Order.{is_among, order}
use Rattle.stream_law.specs.Endpoints.{format_of, reads}
use Rattle.stream_law.specs.Move.{Audio, after_move, after_moves, audio_of, audio_after, bytes_moved, frames_moved, next_clock}
use Rattle.stream_law.specs.Stands.{position_of}
use Rattle.stream_law.proofs.Among.{value_of-updated_among, value_of-updated_apart}
use Rattle.stream_law.proofs.Keyed.{value_of-keyed, find-remade}
use Rattle.stream_law.proofs.Silent.{active-live, frames_to_move-idle}
use Rattle.stream_law.specs.Seen.{blob_in}
use Rattle.mbox_link.specs.Exchange.{ticked}
use Rattle.mbox_link.specs.Calls.{MovesBy}
use Rattle.row_laws.specs.Wired.{IsWired}
use Rattle.row_laws.specs.Played.{AreStreamsPlayable}
use Rattle.fw_schedule.proofs.Growing.{apart-among}
use Rattle.fw_schedule.proofs.InOrder.{order-distinct}
use Rattle.fw_schedule.proofs.Running.{channels-few, quota-few, bytes-most}

least-most : (q : ℕ) (xs : List ℕ) → least q xs ≤ q
least-most q [] = omega arith
least-most q (x ∷ xs) = omega (arith, least-most q xs)

moved-most : (v : View) (t : ℕ) (held free : ℕ → ℕ) (c : ℕ) → frames_to_move v t held free c ≤ quota v t c
unfolding frames_to_move
moved-most v t held free c = by (may_move v t held c) (map held (looked_at v held c) ++ map free (fed_by v c))
  where
    by : (h : Bool) (xs : List ℕ) → cond h (least (quota v t c) xs) 0 ≤ quota v t c
    by true xs = least-most (quota v t c) xs
    by false xs = omega arith

module _ (v : View) (wired : IsWired v.graph) (played : AreStreamsPlayable v) (blobs : ℕ → List ℕ) (t : ℕ) where
  bytes-few : (c : ℕ) (a : Audio) → bytes_moved v blobs t c a ≤ 61440
  bytes-few c a = by_kind (reads v c) (active v c) refl
    where
      n : ℕ
      n = frames_moved v blobs t c a

      by_kind : (h on : Bool) → active v c ≡ on → cond h (n * (channels_of v c * width (format_of v c))) 0 ≤ 61440
      by_kind false on is = omega arith
      by_kind true true is =
          let now : live v c ≡ true = true_from_ne_false (live v c) (λ gone. true≢false (sym is ∙ active-live v c gone)) in
          let few : n ≤ quota v t c = moved-most v t _ _ c in
          bytes-most n (channels_of v c) (format_of v c) (let most = quota-few v wired played t c now in omega (arith, few, most)) (channels-few v played c now).1
      by_kind true false is =
          subst (λ (m : ℕ). m * (channels_of v c * width (format_of v c)) ≤ 61440) (sym (frames_to_move-idle v t _ _ c is)) (omega arith)

  -- the components move one after another, and none twice
  moves-few : (slot : ℕ) (cs : List ℕ) → IsDistinct (λ a b. a == b) cs → (a : Audio) → number_of (after_moves v blobs t cs a).positions slot ≤ number_of a.positions slot + cond (is_among cs slot) 61440 0
  unfolding IsDistinct
  moves-few slot [] single a = omega arith
  moves-few slot (c ∷ cs) single a = by_slot (c == slot) refl (moves-few slot cs single.1 next)
    where
      next : Audio
      next = after_move v blobs t c a

      last : ℕ
      last = number_of (after_moves v blobs t cs next).positions slot

      after : ℕ → ℕ
      after = λ d. moved_on (number_of a.positions d) (bytes_moved v blobs t c a)

      by_slot : (h : Bool) → (c == slot) ≡ h → last ≤ number_of next.positions slot + cond (is_among cs slot) 61440 0 → last ≤ number_of a.positions slot + cond (h || is_among cs slot) 61440 0
      by_slot true is rest =
          let moved : number_of next.positions slot ≡ after slot = value_of-updated_among 0 (c ∷ []) after a.positions slot (ap (λ h. h || false) is) in
          let gone : is_among cs slot ≡ false = subst (λ d. is_among cs d ≡ false) (eqb-true c slot is) (apart-among c cs single.0) in
          let so_far : last ≤ number_of next.positions slot + 0 = subst (λ h. last ≤ number_of next.positions slot + cond h 61440 0) gone rest in
          omega (arith, moved, so_far, bytes-few c a)
      by_slot false is rest =
          let still : number_of next.positions slot ≡ number_of a.positions slot = value_of-updated_apart 0 (c ∷ []) after a.positions slot (ap (λ h. h || false) is) in
          subst (λ n. last ≤ n + cond (is_among cs slot) 61440 0) still rest

  all-few : (slot : ℕ) (cs : List ℕ) → IsDistinct (λ a b. a == b) cs → (a : Audio) → number_of (after_moves v blobs t cs a).positions slot ≤ number_of a.positions slot + 61440
  all-few slot cs single a = by_slot (is_among cs slot) (moves-few slot cs single a)
    where
      by_slot : (h : Bool) → number_of (after_moves v blobs t cs a).positions slot ≤ number_of a.positions slot + cond h 61440 0 → number_of (after_moves v blobs t cs a).positions slot ≤ number_of a.positions slot + 61440
      by_slot true rest = rest
      by_slot false rest = omega (arith, rest)

pub tick-moves : (f : FwState) (io : Io) → IsWired f.graph → AreStreamsPlayable (view_of f) → MovesBy 61440 io.inputs (ticked (f, io)).1.inputs
tick-moves f io wired played slot =
    let v = view_of f in
    let audio = audio_after f io in
    let began : number_of (audio_of f io).positions slot ≡ position_of io.inputs slot = value_of-keyed (λ (x : InputView). x.slot) (λ x. x.position) 0 io.inputs slot in
    let ended = find-remade (λ (x : InputView). x.slot) (λ x. x.position) (λ (x : InputView). record x { position = number_of audio.positions x.slot; left = list_of audio.left x.slot }) (number_of audio.positions) 0 (λ x. refl) (λ x. refl) io.inputs slot in
    let few = all-few v wired played (blob_in v) (next_clock f.clock) slot (order f.graph) (order-distinct f.graph) (audio_of f io) in
    by_bound (is_among (map (λ (x : InputView). x.slot) io.inputs) slot) ended began few
  where
    by_bound : (h : Bool) → position_of (ticked (f, io)).1.inputs slot ≡ cond h (number_of (audio_after f io).positions slot) 0 → number_of (audio_of f io).positions slot ≡ position_of io.inputs slot
        → number_of (audio_after f io).positions slot ≤ number_of (audio_of f io).positions slot + 61440 → position_of (ticked (f, io)).1.inputs slot ≤ position_of io.inputs slot + 61440
    by_bound true is began few = omega (arith, is, began, few)
    by_bound false is began few = omega (arith, is)
