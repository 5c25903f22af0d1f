-- How far moments move an input: each tick by at most 61440 bytes, where periods, frames a second and samples a frame are in range.
use Rattle.std.proofs.Common.{◌≡◌, refl, sym, ap, ◌∙◌, subst, ℕ, ◌+◌, ◌*◌, ◌≤◌, List, [], ◌∷◌, Bool, true, false, cond, arith}
use Rattle.std.proofs.Math.Nat.{mul-le-mul_right}
use Rattle.sof_base.specs.declared.format.Format.{Format}
use Rattle.sof_base.specs.declared.format.Format.TheVariants.{S16}
use Rattle.sof_base.specs.Samples.{width}
use Rattle.stream_law.specs.State.{View}
use Rattle.stream_law.specs.Table.{number_of}
use Rattle.stream_law.specs.Ways.{components, rate_of, channels_of}
use Rattle.stream_law.specs.Order.{is_among}
use Rattle.stream_law.specs.Moves.{period, quota, least, may_move, frames_to_move}
use Rattle.stream_law.specs.Counts.{frames_held, frames_free}
use Rattle.stream_law.specs.Endpoints.{format_of, reads, bytes_of_frames}
use Rattle.stream_law.specs.Past.{Moment, Boot, Cut, Now, Tick, Past, Ticks, Leads, empty_view, position_after}
use Rattle.stream_law.proofs.Among.{value_of-table_among, value_of-table_apart, value_of-updated_among, value_of-updated_apart}
use Rattle.stream_law.proofs.Quotas.{quota-few}
use Rattle.sof_session.proofs.SeenMoments.{AllSeen, ticks_in}

-- ---- a view in range

-- periods of at most 10 ticks, and at most 192000 frames a second and 8 samples a frame
pub record IsInRange (v : View) : Type 0 where
  pub periods : (c : ℕ) → period v c ≤ 10
  pub rates : (c : ℕ) → rate_of v c ≤ 192000
  pub channels : (c : ℕ) → channels_of v c ≤ 8

pub empty-in-range : IsInRange empty_view
unfolding rate_of channels_of
empty-in-range = record { periods = λ c. omega arith; rates = λ c. omega arith; channels = λ c. omega arith }

width-most : (format : Format) → width format ≤ 4
width-most S16 = omega arith
width-most format = omega arith

quota-most : (v : View) (t c : ℕ) → IsInRange v → quota v t c ≤ 1920
quota-most v t c is = quota-few v t c (is.periods c) (is.rates c)

bytes-most : (n channels : ℕ) (format : Format) → n ≤ 1920 → channels ≤ 8 → n * (channels * width format) ≤ 61440
bytes-most n channels format few narrow =
    let w = width-most format in
    let first : channels * width format ≤ 8 * width format = mul-le-mul_right (width format) narrow in
    let frame : channels * width format ≤ 32 = omega (arith, first, w) in
    let all : n * (channels * width format) ≤ 1920 * (channels * width format) = mul-le-mul_right (channels * width format) few in
    omega (arith, all, frame)

-- ---- a tick

least-most : (q : ℕ) (xs : List ℕ) → least q xs ≤ q
least-most q [] = omega arith
least-most q (x ∷ xs) = omega (arith, least-most q xs)

moved-most : (v : View) (t : ℕ) (held free : ℕ → ℕ) (c : ℕ) → frames_to_move v t held free c ≤ quota v t c
unfolding frames_to_move
moved-most v t held free c = by (may_move v t held c) _
  where
    by : (h : Bool) (xs : List ℕ) → cond h (least (quota v t c) xs) 0 ≤ quota v t c
    by true xs = least-most (quota v t c) xs
    by false xs = omega arith

module _ (whole : List (ℕ × List ℕ)) (slot : ℕ) where
  number-most : (old new : Past) (n : List (ℕ × ℕ)) → Ticks whole old n new → IsInRange old.view → number_of n slot ≤ 1920
  number-most old new n ticks range = by (is_among (components old.view.graph) slot) refl
    where
      held : ℕ → ℕ
      held = frames_held old.counts new.counts.put

      free : ℕ → ℕ
      free = frames_free old.view old.counts

      moves : ℕ → ℕ
      moves = frames_to_move old.view new.clock held free

      by : (h : Bool) → is_among (components old.view.graph) slot ≡ h → number_of n slot ≤ 1920
      by true h =
          let is : number_of n slot ≡ moves slot = ap (λ l. number_of l slot) ticks.counts.moves ∙ value_of-table_among 0 (components old.view.graph) moves slot h in
          omega (arith, moved-most old.view new.clock held free slot, quota-most old.view new.clock slot range)
      by false h =
          let is : number_of n slot ≡ 0 = ap (λ l. number_of l slot) ticks.counts.moves ∙ value_of-table_apart 0 (components old.view.graph) moves slot h in
          omega arith

  tick-moves : (old new : Past) (n : List (ℕ × ℕ)) → Ticks whole old n new → IsInRange old.view → number_of new.positions slot ≤ number_of old.positions slot + 61440
  tick-moves old new n ticks range = by_place (is_among (components old.view.graph) slot) refl
    where
      after : ℕ → ℕ
      after = position_after whole old n new.counts.put new.made

      most : bytes_of_frames old.view slot (number_of n slot) ≤ 61440
      most = bytes-most (number_of n slot) (channels_of old.view slot) (format_of old.view slot) (number-most old new n ticks range) (range.channels slot)

      few : (h : Bool) → cond h (bytes_of_frames old.view slot (number_of n slot)) 0 ≤ 61440
      few true = most
      few false = omega arith

      by_place : (h : Bool) → is_among (components old.view.graph) slot ≡ h → number_of new.positions slot ≤ number_of old.positions slot + 61440
      by_place true h =
          let is : number_of new.positions slot ≡ after slot = ap (λ l. number_of l slot) ticks.positions ∙ value_of-updated_among 0 (components old.view.graph) after old.positions slot h in
          omega (arith, is, few (reads old.view slot))
      by_place false h =
          let is : number_of new.positions slot ≡ number_of old.positions slot = ap (λ l. number_of l slot) ticks.positions ∙ value_of-updated_apart 0 (components old.view.graph) after old.positions slot h in
          omega arith

-- ---- moments, one after another

-- every view that comes is in range
abbrev pub AllInRange : List Moment → Type 0
AllInRange ms = AllSeen IsInRange ms

module _ (whole : List (ℕ × List ℕ)) (slot : ℕ) where
  -- how far a moment moves an input, and that the view stays in range
  abbrev MovesBy : ℕ → Past → Past → Type 0
  MovesBy most old new = IsInRange new.view × (number_of new.positions slot ≤ number_of old.positions slot + most)

  moves-then : (most : ℕ) (old mid new : Past) → MovesBy 0 old mid → MovesBy most mid new → MovesBy most old new
  moves-then most old mid new first rest = (rest.0, omega (arith, first.1, rest.1))

  stays : (old new : Past) (view : View) → new.view ≡ view → IsInRange view → new.positions ≡ old.positions → MovesBy 0 old new
  stays old new view is range same = let at : number_of new.positions slot ≡ number_of old.positions slot = ap (λ l. number_of l slot) same in (subst IsInRange (sym is) range, omega (arith, at))

  pub leads-moves : (ms : List Moment) (old new : Past) → Leads whole old ms new → IsInRange old.view → AllInRange ms → MovesBy (61440 * ticks_in ms) old new
  leads-moves [] old new led range all = stays old new old.view (ap (λ (p : Past). p.view) (sym led)) range (ap (λ (p : Past). p.positions) (sym led))
  leads-moves (Boot ∷ ms) old new led range all =
      let first = stays old led.0 empty_view (ap (λ (p : Past). p.view) led.1) empty-in-range (ap (λ (p : Past). p.positions) led.1) in
      moves-then (61440 * ticks_in ms) old led.0 new first (leads-moves ms led.0 new led.2 first.0 all)
  leads-moves (Cut ∷ ms) old new led range all =
      let first = stays old led.0 empty_view (ap (λ (p : Past). p.view) led.1) empty-in-range (ap (λ (p : Past). p.positions) led.1) in
      moves-then (61440 * ticks_in ms) old led.0 new first (leads-moves ms led.0 new led.2 first.0 all)
  leads-moves (Now view fresh ∷ ms) old new led range all =
      let first = stays old led.0 view (ap (λ (p : Past). p.view) led.1) all.0 (ap (λ (p : Past). p.positions) led.1) in
      moves-then (61440 * ticks_in ms) old led.0 new first (leads-moves ms led.0 new led.2 first.0 all.1)
  leads-moves (Tick ∷ ms) old new led range all =
      let first : MovesBy 61440 old led.0 = (subst IsInRange (sym led.1.1.view) range, tick-moves whole slot old led.0 led.1.0 led.1.1 range) in
      let rest = leads-moves ms led.0 new led.2 first.0 all in
      (rest.0, omega (arith, first.1, rest.1))
