use Rattle.std.proofs.Common.{◌≡◌, refl, arith, ℕ, ◌<◌, List, [], ◌∷◌, Bool, true, false, Some}
use Rattle.std.specs.Prelude.{◌==◌, find, option_and_then, if◌then◌else◌}
use Rattle.stream_law.specs.declared.graph.Edge.{Edge}
use Rattle.sof_session.specs.FaultRows.{first_open}
use Rattle.sof_tests.proofs.law_rows.place_rows.Goals as goal

-- each of these edges leads to a higher id
abbrev Rise : List Edge → Type 0
Rise [] = Unit {0}
Rise (e ∷ es) = ((a c : ℕ) → e.source ≡ Some a → e.sink ≡ Some c → a < c) × Rise es

-- so does that of each buffer
rises-by : (e : Edge) (es : List Edge) (all : Rise (e ∷ es)) (b a c : ℕ) (same : Bool) →
    (option_and_then (λ (x : Edge). x.source) (find (λ (x : Edge). x.buffer == b) es) ≡ Some a → option_and_then (λ (x : Edge). x.sink) (find (λ (x : Edge). x.buffer == b) es) ≡ Some c → a < c) →
    option_and_then (λ (x : Edge). x.source) (if same then Some e else find (λ (x : Edge). x.buffer == b) es) ≡ Some a →
    option_and_then (λ (x : Edge). x.sink) (if same then Some e else find (λ (x : Edge). x.buffer == b) es) ≡ Some c → a < c
rises-by e es all b a c true rest source sink = all.0 a c source sink
rises-by e es all b a c false rest source sink = rest source sink

rises-in : (es : List Edge) → Rise es → (b a c : ℕ) → option_and_then (λ (x : Edge). x.source) (find (λ (x : Edge). x.buffer == b) es) ≡ Some a →
    option_and_then (λ (x : Edge). x.sink) (find (λ (x : Edge). x.buffer == b) es) ≡ Some c → a < c
rises-in [] all b a c source sink = absurd (cc source)
rises-in (e ∷ es) all b a c source sink = rises-by e es all b a c (e.buffer == b) (rises-in es all.1 b a c) source sink

first-rises : Rise first_open.there.graph.edges
first-rises = (
  λ a c source sink. let from : 0 ≡ a = cc source in let to : 6 ≡ c = cc sink in omega (arith, from, to),
  (λ a c source sink. let from : 6 ≡ a = cc source in let to : 8 ≡ c = cc sink in omega (arith, from, to), tt),
)

pub returns-clause-open : goal.returns-clause-open
returns-clause-open c = (((λ id. id), record { rises = λ b a c source sink. rises-in first_open.there.graph.edges first-rises b a c source sink }), (refl, (refl, tt)))

pub returns-clause-nothing : goal.returns-clause-nothing
returns-clause-nothing c = (((λ id. id), record { rises = λ b a c source sink. absurd (cc source) }), tt)

pub returns-clause-past_is_none : goal.returns-clause-past_is_none
returns-clause-past_is_none c = λ place. let bad : false ≡ true = place.1.0 in cc bad

pub returns-clause-round : goal.returns-clause-round
returns-clause-round c = λ ranks. let up = ranks.1.rises 1 0 6 refl refl in let down = ranks.1.rises 7 6 0 refl refl in omega (arith, up, down)
