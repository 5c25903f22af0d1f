-- What the invariant of a ring tells, and where its frames lie.
use Rattle.std.proofs.Common.{◌≡◌, refl, sym, ap, ◌∙◌, ℕ, zero, suc, ◌+◌, ◌-◌, ◌*◌, ◌/◌, ◌%◌, ◌<◌, ◌≤◌, List, [], ◌++◌, length, take, drop, get_or, arith, length-take, length-drop, take_at, drop_at, ℤ, pos}
use Rattle.std.proofs.Math.Nat.{mod-eq_of_lt, add-mod_left, mul-le-mul_right}
use Rattle.std.proofs.lemmas.List.{get_or-take, get_or-drop}
use borrow.Rule.Slice.PartMut.{put_mid}
use Rattle.sof_base.specs.Samples.{Frame, sample_of}
use Rattle.sof_base.specs.FrameLists.{frames_of}
use Rattle.fw_ring.specs.declared.ring.Ring.TheInside.{Inside}
use Rattle.fw_ring.specs.declared.window.Window.{Window}
use Rattle.fw_ring.specs.RingState.{RingState, IsRing, place_after}
use Rattle.fw_ring.specs.RingWords.{IsWindow, window_frames, round_from, wrapped}
use Rattle.fw_ring.specs.RingLaid.{own_words, ring_state, IsRingLaid}
use Rattle.fw_ring.proofs.RoundLaws.{by_less, wrapped-low, wrapped-high, wrapped-inside, get-round}
use Rattle.fw_ring.proofs.FrameLaws.{length-frames, get-frame}
use Rattle.fw_ring.proofs.WindowLaws.{length-window, window-whole}

pub length-own : (n : ℕ) (ws : List ℤ) → 8 + n ≤ length ws → length (own_words n ws) ≡ n
unfolding own_words
length-own n ws fits = omega (arith, length-take n (drop 8 ws), length-drop 8 ws)

-- the words that were put are those for samples
pub own-put : (n : ℕ) (ws part : List ℤ) → 8 + n ≤ length ws → length part ≡ n → own_words n (put_mid 8 n ws part) ≡ part
unfolding own_words
own-put n ws part fits long =
    ap (take n) (drop_at (take 8 ws) (part ++ drop n (drop 8 ws)) 8 (omega (arith, length-take 8 ws))) ∙ take_at part (drop n (drop 8 ws)) n long

moved-some : (m start n : ℕ) → 0 < m → place_after m start n ≡ (start + n) % m
moved-some zero start n some = absurd (omega arith)
moved-some (suc m) start n some = refl

-- a place in the round of words is one in the round of frames
pub place-words : (cap c start j k : ℕ) → start < cap → j ≤ cap → k < c → place_after (cap * c) (start * c) (j * c + k) ≡ wrapped cap start j * c + k
place-words cap c start j k inside le low =
    let one : (0 + 1) * c ≤ cap * c = mul-le-mul_right c (let l : 0 + 1 ≤ cap = omega arith in l) in
    let some : 0 < cap * c = omega (arith, one) in
    moved-some (cap * c) (start * c) (j * c + k) some
    ∙ by_less (start + j) cap
    (λ near.
    let most : (start + j + 1) * c ≤ cap * c = mul-le-mul_right c (let l : start + j + 1 ≤ cap = omega arith in l) in
    let sum : start * c + (j * c + k) ≡ (start + j) * c + k = omega arith in
    let under : (start + j) * c + k < cap * c = omega (arith, most) in
    ap (λ p. p % (cap * c)) sum ∙ mod-eq_of_lt under ∙ ap (λ p. p * c + k) (sym (wrapped-low cap start j near)))
    (λ far.
    let q : ℕ = start + j - cap in
    let most : (q + 1) * c ≤ cap * c = mul-le-mul_right c (let l : q + 1 ≤ cap = omega arith in l) in
    let all : start + j ≡ cap + q = omega arith in
    let sum : start * c + (j * c + k) ≡ cap * c + (q * c + k) = (let e : start * c + (j * c + k) ≡ (start + j) * c + k = omega arith in e) ∙ ap (λ p. p * c + k) all ∙ (let e : (cap + q) * c + k ≡ cap * c + (q * c + k) = omega arith in e) in
    let under : q * c + k < cap * c = omega (arith, most) in
    ap (λ p. p % (cap * c)) sum ∙ add-mod_left (cap * c) (q * c + k) ∙ mod-eq_of_lt under ∙ ap (λ p. p * c + k) (sym (wrapped-high cap start j far)))

-- the start in words
pub start-words : (w : Window) (n : ℕ) → IsWindow w → n ≤ w.held → place_after (w.words / w.channels * w.channels) (w.start * w.channels) (n * w.channels) ≡ wrapped w.capacity w.start n * w.channels
start-words w n is few =
    ap (λ m. place_after (m * w.channels) (w.start * w.channels) (n * w.channels)) (sym is.capacity) ∙ by_less 0 w.capacity
    (λ some.
    ap (place_after (w.capacity * w.channels) (w.start * w.channels)) (let e : n * w.channels ≡ n * w.channels + 0 = omega arith in e)
    ∙ place-words w.capacity w.channels w.start n 0 (is.start.1 some) (omega (arith, is.held)) (omega (arith, is.channels))
    ∙ (let e : wrapped w.capacity w.start n * w.channels + 0 ≡ wrapped w.capacity w.start n * w.channels = omega arith in e))
    (λ none.
    let empty : w.capacity ≡ 0 = omega arith in let few' : n ≡ 0 = omega (arith, is.held) in let first : w.start ≡ 0 = omega (arith, is.start) in
    ap (λ m. place_after (m * w.channels) (w.start * w.channels) (n * w.channels)) empty
    ∙ ap (λ m. place_after m (w.start * w.channels) (n * w.channels)) (let e : 0 * w.channels ≡ 0 = omega arith in e)
    ∙ sym (ap (λ p. p * w.channels) (wrapped-high w.capacity w.start n (omega arith)) ∙ (let e : (w.start + n - w.capacity) * w.channels ≡ 0 * w.channels = ap (λ p. p * w.channels) (let z : w.start + n - w.capacity ≡ 0 = omega arith in z) in e ∙ (let e : 0 * w.channels ≡ 0 = omega arith in e))))

-- where the samples of a frame lie
pub sample-words : (w : Window) (ws : List ℤ) (j k : ℕ) → IsWindow w → 8 + w.words ≤ length ws → w.capacity * w.channels ≤ w.words → j < w.held → k < w.channels
    → sample_of (get_or (window_frames w (own_words w.words ws)) j []) k ≡ get_or ws (8 + place_after (w.words / w.channels * w.channels) (w.start * w.channels) (j * w.channels + k)) (pos 0)
unfolding window_frames own_words
sample-words w ws j k is fits room lt low =
    let own = take w.words (drop 8 ws) in let all = frames_of w.channels w.capacity own in
    let l : length all ≡ w.capacity = length-frames w.channels w.capacity own in
    let some : 0 < w.capacity = omega (arith, is.held) in
    let p : ℕ = wrapped w.capacity w.start j in
    let p_low : p < w.capacity = (wrapped-inside w.capacity w.start j is.start.1 is.start.0 (omega (arith, is.held))).1 some in
    let most : (p + 1) * w.channels ≤ w.capacity * w.channels = mul-le-mul_right w.channels (let e : p + 1 ≤ w.capacity = omega arith in e) in
    ap (λ (f : Frame). sample_of f k)
    (get-round w.start w.held all j [] (omega (arith, l, is.start)) (omega (arith, l, is.held)) lt
    ∙ ap (λ m. get_or all (wrapped m w.start j) []) l
    ∙ get-frame w.channels w.capacity p own [] p_low)
    ∙ get_or-take w.channels (drop (p * w.channels) own) k (pos 0) low
    ∙ get_or-drop (p * w.channels) own k (pos 0)
    ∙ get_or-take w.words (drop 8 ws) (p * w.channels + k) (pos 0) (omega (arith, most, room))
    ∙ get_or-drop 8 ws (p * w.channels + k) (pos 0)
    ∙ ap (λ q. get_or ws (8 + q) (pos 0)) (sym (ap (λ m. place_after (m * w.channels) (w.start * w.channels) (j * w.channels + k)) (sym is.capacity) ∙ place-words w.capacity w.channels w.start j k (is.start.1 some) (omega (arith, is.held)) low))

-- ---- what the invariant tells

pub no-frames : (w : Window) (ws : List ℤ) → w.held ≡ 0 → window_frames w ws ≡ []
unfolding window_frames round_from
no-frames w ws none = ap (λ n. take n (drop w.start (frames_of w.channels w.capacity ws) ++ take w.start (frames_of w.channels w.capacity ws))) none

pub own-slice : (n : ℕ) (ws : List ℤ) → take (8 + n - 8) (drop 8 ws) ≡ own_words n ws
unfolding own_words
own-slice n ws = ap (λ k. take k (drop 8 ws)) (let e : 8 + n - 8 ≡ n = omega arith in e)

module _ (r : Inside) (v : IsRingLaid r) where
  pub held : length (window_frames r.window (own_words r.window.words r.piece.words)) ≡ r.window.held
  held = length-window r.window (own_words r.window.words r.piece.words) v.window

  pub held-now : (now : RingState) → ring_state r ≡ now → length now.frames ≡ r.window.held
  held-now now is = ap (λ (s : RingState). length s.frames) (sym is) ∙ held

  pub is-ring : IsRing (ring_state r)
  is-ring = record {
    channels = v.window.channels;
    room = omega (arith, held, v.window.held, v.window.capacity);
    samples = window-whole r.window (own_words r.window.words r.piece.words) v.window (length-own r.window.words r.piece.words v.within);
  }
