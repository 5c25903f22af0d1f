-- Moments each of whose views is so, and how many of them are ticks.
use Rattle.std.proofs.Common.{◌≡◌, refl, ap, ℕ, zero, suc, ◌+◌, List, [], ◌∷◌, ◌++◌, replicate, arith}
use Rattle.stream_law.specs.Past.{Moment, Boot, Cut, Now, Tick}
use Rattle.stream_law.specs.State.{View}

-- each view that comes is so
abbrev pub AllSeen : (View → Type 0) → List Moment → Type 0
AllSeen Seen [] = Unit {0}
AllSeen Seen (Boot ∷ ms) = AllSeen Seen ms
AllSeen Seen (Cut ∷ ms) = AllSeen Seen ms
AllSeen Seen (Now view fresh ∷ ms) = Seen view × AllSeen Seen ms
AllSeen Seen (Tick ∷ ms) = AllSeen Seen ms

pub seen-append : (Seen : View → Type 0) (ms ns : List Moment) → AllSeen Seen ms → AllSeen Seen ns → AllSeen Seen (ms ++ ns)
seen-append Seen [] ns first rest = rest
seen-append Seen (Boot ∷ ms) ns first rest = seen-append Seen ms ns first rest
seen-append Seen (Cut ∷ ms) ns first rest = seen-append Seen ms ns first rest
seen-append Seen (Now view fresh ∷ ms) ns first rest = (first.0, seen-append Seen ms ns first.1 rest)
seen-append Seen (Tick ∷ ms) ns first rest = seen-append Seen ms ns first rest

abbrev pub ticks_in : List Moment → ℕ
ticks_in [] = 0
ticks_in (Boot ∷ ms) = ticks_in ms
ticks_in (Cut ∷ ms) = ticks_in ms
ticks_in (Now view fresh ∷ ms) = ticks_in ms
ticks_in (Tick ∷ ms) = suc (ticks_in ms)

pub ticks-append : (ms ns : List Moment) → ticks_in (ms ++ ns) ≡ ticks_in ms + ticks_in ns
ticks-append [] ns = omega arith
ticks-append (Boot ∷ ms) ns = ticks-append ms ns
ticks-append (Cut ∷ ms) ns = ticks-append ms ns
ticks-append (Now view fresh ∷ ms) ns = ticks-append ms ns
ticks-append (Tick ∷ ms) ns = omega (arith, ticks-append ms ns)

-- so many ticks bring no view
pub lag-seen : (Seen : View → Type 0) (n : ℕ) → AllSeen Seen (replicate n Tick)
lag-seen Seen zero = tt
lag-seen Seen (suc n) = lag-seen Seen n

pub lag-ticks : (n : ℕ) → ticks_in (replicate n Tick) ≡ n
lag-ticks zero = refl
lag-ticks (suc n) = ap suc (lag-ticks n)
