-- The frames of a window, before and after what is put into its words and what is taken.
use Rattle.std.proofs.Common.{◌≡◌, sym, ap, ◌∙◌, ℕ, ◌+◌, ◌-◌, ◌*◌, ◌≤◌, ◌⊎◌, inl, inr, List, ◌++◌, length, take, drop, arith, ℤ}
use Rattle.std.specs.Prelude.{min}
use Rattle.std.proofs.Math.Nat.{mul-le-mul_right, div-mul-le_self, min-le_left, min-le_right, min-eq_left, min-eq_right}
use borrow.Rule.Slice.PartMut.{put_mid}
use Rattle.sof_base.specs.Samples.{Frame}
use Rattle.sof_base.specs.FrameLists.{AreFrames, frames_of, samples_of}
use Rattle.fw_ring.specs.declared.window.Window.{Window}
use Rattle.fw_ring.specs.RingWords.{IsWindow, round_from, window_frames, wrapped}
use Rattle.fw_ring.proofs.RoundLaws.{by_less, round-push, round-drop, round-spans, wrapped-inside, length-round}
use Rattle.fw_ring.proofs.FrameLaws.{length-frames, frames-put, frames-drop, take-frames, frames-whole, round-whole}
use Rattle.fw_ring.proofs.Flat.{samples-append, samples-frames}

-- the words of all frames are words of the window
pub words-room : (w : Window) → IsWindow w → w.capacity * w.channels ≤ w.words
words-room w is = omega (arith, ap (λ n. n * w.channels) is.capacity, div-mul-le_self w.words w.channels)

-- a window with more frames held
abbrev pub fuller : Window → ℕ → Window
fuller w n = record { words = w.words; channels = w.channels; capacity = w.capacity; start = w.start; held = w.held + n }

-- a window with its first frames dropped
abbrev pub emptier : Window → ℕ → Window
emptier w n = record { words = w.words; channels = w.channels; capacity = w.capacity; start = wrapped w.capacity w.start n; held = w.held - n }

pub length-window : (w : Window) (words : List ℤ) → IsWindow w → length (window_frames w words) ≡ w.held
unfolding window_frames
length-window w words is = length-round w.start w.held (frames_of w.channels w.capacity words) (omega (arith, length-frames w.channels w.capacity words, is.start)) (omega (arith, length-frames w.channels w.capacity words, is.held))

-- what is put into the words after the last frame
pub window-put : (w : Window) (words : List ℤ) (count at : ℕ) (xs : List ℤ) → IsWindow w → length words ≡ w.words → w.held + count ≤ w.capacity → at ≡ wrapped w.capacity w.start w.held → at + count ≤ w.capacity → length xs ≡ count * w.channels → window_frames (fuller w count) (put_mid (at * w.channels) (count * w.channels) words xs) ≡ window_frames w words ++ frames_of w.channels count xs
unfolding window_frames
window-put w words count at xs is long fit here near size =
    let c = w.channels in let n = w.capacity in let old = frames_of c n words in let new = frames_of c count xs in
    let l : length old ≡ n = length-frames c n words in
    ap (round_from w.start (w.held + count)) (frames-put c at count n words xs near (omega (arith, words-room w is, long)) size)
    ∙ round-push w.start w.held at count old new (omega (arith, l, is.start)) (λ some. omega (arith, l, is.start.1 (omega (arith, l)))) (here ∙ ap (λ m. wrapped m w.start w.held) (sym l)) (omega (arith, l)) (omega (arith, l)) (length-frames c count xs)

-- the words of the first frames: those up to the end of the room, and then those from its beginning
pub window-spans : (w : Window) (words : List ℤ) (count near : ℕ) → IsWindow w → count ≤ w.held → near ≡ min count (w.capacity - w.start) → take (near * w.channels) (drop (w.start * w.channels) words) ++ take ((count - near) * w.channels) words ≡ samples_of (take count (window_frames w words))
unfolding window_frames
window-spans w words count near is few least =
    let c = w.channels in let n = w.capacity in let s = w.start in let all = frames_of c n words in let behind = drop (s * c) words in
    let l : length all ≡ n = length-frames c n words in
    let low : near ≤ count = omega (arith, least, min-le_left count (n - s)) in
    let inside : near ≤ n - s = omega (arith, least, min-le_right count (n - s)) in
    let either : (count ≡ near) ⊎ (s + near ≡ length all) =
    by_less count (n - s) (λ a. inl (sym (least ∙ min-eq_left (omega arith)))) (λ b. inr (omega (arith, l, least, min-eq_right b, is.start))) in
    let front : samples_of (take near (drop s all)) ≡ take (near * c) behind =
    ap (λ (t : List Frame). samples_of (take near t)) (frames-drop c s n words (omega (arith, is.start))) ∙ ap samples_of (take-frames c near (n - s) behind inside) ∙ samples-frames c near behind in
    let back : samples_of (take (count - near) all) ≡ take ((count - near) * c) words =
    ap samples_of (take-frames c (count - near) n words (omega (arith, is.held))) ∙ samples-frames c (count - near) words in
    sym (ap samples_of (round-spans s w.held count near all (omega (arith, l, is.start)) (omega (arith, l, is.held)) few low (omega (arith, l, inside, is.start)) either)
    ∙ samples-append (take near (drop s all)) (take (count - near) all)
    ∙ (λ i. front i ++ back i))

-- and what is left
pub window-drop : (w : Window) (words : List ℤ) (count : ℕ) → IsWindow w → count ≤ w.held → window_frames (emptier w count) words ≡ drop count (window_frames w words)
unfolding window_frames
window-drop w words count is few =
    let c = w.channels in let n = w.capacity in let all = frames_of c n words in let l : length all ≡ n = length-frames c n words in
    ap (λ m. round_from (wrapped m w.start count) (w.held - count) all) (sym l)
    ∙ round-drop w.start w.held count all (omega (arith, l, is.start)) (λ some. omega (arith, l, is.start.1 (omega (arith, l)))) (omega (arith, l, is.held)) few

-- a window is one still
pub fuller-is : (w : Window) (n : ℕ) → IsWindow w → w.held + n ≤ w.capacity → IsWindow (fuller w n)
fuller-is w n is fit = record { channels = is.channels; capacity = is.capacity; start = is.start; held = fit; words = is.words }

pub emptier-is : (w : Window) (n : ℕ) → IsWindow w → n ≤ w.held → IsWindow (emptier w n)
emptier-is w n is few = record { channels = is.channels; capacity = is.capacity; start = wrapped-inside w.capacity w.start n is.start.1 is.start.0 (omega (arith, is.held)); held = omega (arith, is.held); words = is.words }

-- the words of some frames lie in the window
pub part-room : (w : Window) (at count : ℕ) → IsWindow w → at + count ≤ w.capacity → at * w.channels + count * w.channels ≤ w.words
part-room w at count is near = omega (arith, words-room w is, mul-le-mul_right w.channels near)

-- each frame of a window has its samples
pub window-whole : (w : Window) (words : List ℤ) → IsWindow w → length words ≡ w.words → AreFrames w.channels (window_frames w words)
unfolding window_frames
window-whole w words is long =
    round-whole w.channels w.start w.held (frames_of w.channels w.capacity words) (frames-whole w.channels w.capacity words (omega (arith, words-room w is, long)))
