-- What reads do to inputs: their slots and positions stay, and the bytes that came stand after those that are left.
use Rattle.std.proofs.Common.{◌≡◌, refl, sym, ap, ◌∙◌, subst, ℕ, ◌+◌, ◌-◌, ◌≤◌, List, [], ◌∷◌, ◌++◌, map, length, Bool, true, false, not, ◌&&◌, ◌||◌, cond, ◌==◌, Some, None, nat_eq, arith}
use Rattle.std.specs.Prelude.{find, nat_lt}
use Rattle.std.specs.Option.{option_map_or}
use Rattle.std.specs.List.{IsDistinct, AllByRecursion}
use Rattle.std.proofs.lemmas.Bool.{eqb-true, eqb-false, eq-eqb, ne_eqb, ltb-false, true≢false, and_parts}
use Rattle.std.proofs.lemmas.List.{append-nil}
use Rattle.sof_base.specs.Ports.{InputView}
use Rattle.sof_io.specs.Takes.{input_slots}
use Rattle.sof_io.specs.Fills.{filled_at, ended_at, wanting}
use Rattle.sof_io.specs.Takes.{is_wanting, fuller_input, ended_input}
use Rattle.stream_law.specs.Order.{is_among}
use Rattle.stream_law.specs.Stands.{is_bound, position_of, left_of}
use Rattle.stream_law.specs.Viewing.{Fills}
use Rattle.sof_session.specs.Fills.{after_read, input_ends, may_grow}

-- ---- one input changed

module _ (longer : List ℕ → List ℕ) (ends : Bool → Bool) (slot : ℕ) where
  abbrev after : InputView → InputView
  after x = record x { left = longer x.left; ended = ends x.ended }

  -- the first input of the slot is changed
  abbrev changed : List InputView → List InputView
  changed [] = []
  changed (x ∷ xs) = cond (x.slot == slot) (after x ∷ xs) (x ∷ changed xs)

  slots-stay : (inputs : List InputView) → input_slots (changed inputs) ≡ input_slots inputs
  slots-stay [] = refl
  slots-stay (x ∷ xs) = by (x.slot == slot) (slots-stay xs)
    where
      by : (h : Bool) → input_slots (changed xs) ≡ input_slots xs → input_slots (cond h (after x ∷ xs) (x ∷ changed xs)) ≡ x.slot ∷ input_slots xs
      by true rest = refl
      by false rest = ap (λ (slots : List ℕ). x.slot ∷ slots) rest

  module _ (s : ℕ) where
    bound-stays : (inputs : List InputView) → is_bound inputs s ≡ is_bound (changed inputs) s
    bound-stays [] = refl
    bound-stays (x ∷ xs) = by (x.slot == slot) (bound-stays xs)
      where
        by : (h : Bool) → is_bound xs s ≡ is_bound (changed xs) s → ((x.slot == s) || is_bound xs s) ≡ is_bound (cond h (after x ∷ xs) (x ∷ changed xs)) s
        by true rest = refl
        by false rest = ap (λ (b : Bool). (x.slot == s) || b) rest

    position-stays : (inputs : List InputView) → position_of (changed inputs) s ≡ position_of inputs s
    position-stays [] = refl
    position-stays (x ∷ xs) = by (x.slot == slot) (position-stays xs)
      where
        first : (k : Bool) → option_map_or (λ (y : InputView). y.position) (cond k (Some (after x)) (find (λ (y : InputView). y.slot == s) xs)) 0 ≡ option_map_or (λ (y : InputView). y.position) (cond k (Some x) (find (λ (y : InputView). y.slot == s) xs)) 0
        first true = refl
        first false = refl

        rest : (k : Bool) → position_of (changed xs) s ≡ position_of xs s → option_map_or (λ (y : InputView). y.position) (cond k (Some x) (find (λ (y : InputView). y.slot == s) (changed xs))) 0 ≡ option_map_or (λ (y : InputView). y.position) (cond k (Some x) (find (λ (y : InputView). y.slot == s) xs)) 0
        rest true same = refl
        rest false same = same

        by : (h : Bool) → position_of (changed xs) s ≡ position_of xs s → position_of (cond h (after x ∷ xs) (x ∷ changed xs)) s ≡ position_of (x ∷ xs) s
        by true same = first (x.slot == s)
        by false same = rest (x.slot == s) same

    -- what is left of a slot, by whether it is the one that changed
    abbrev left_by : Bool → List ℕ → List ℕ
    left_by h bytes = cond h (longer bytes) bytes

    left-changed : (inputs : List InputView) → is_among (input_slots inputs) slot ≡ true → left_of (changed inputs) s ≡ left_by (slot == s) (left_of inputs s)
    left-changed [] = λ there. absurd (true≢false (sym there))
    left-changed (x ∷ xs) = by (x.slot == slot) refl (left-changed xs)
      where
        first : (k : Bool) → (x.slot == s) ≡ k → x.slot ≡ slot → option_map_or (λ (y : InputView). y.left) (cond k (Some (after x)) (find (λ (y : InputView). y.slot == s) xs)) [] ≡ left_by (slot == s) (option_map_or (λ (y : InputView). y.left) (cond k (Some x) (find (λ (y : InputView). y.slot == s) xs)) [])
        first true is same = sym (ap (λ (b : Bool). left_by b x.left) (ap (λ (n : ℕ). n == s) (sym same) ∙ is))
        first false is same = sym (ap (λ (b : Bool). left_by b (left_of xs s)) (ap (λ (n : ℕ). n == s) (sym same) ∙ is))

        rest : (k : Bool) → (x.slot == s) ≡ k → (x.slot == slot) ≡ false → left_of (changed xs) s ≡ left_by (slot == s) (left_of xs s) → option_map_or (λ (y : InputView). y.left) (cond k (Some x) (find (λ (y : InputView). y.slot == s) (changed xs))) [] ≡ left_by (slot == s) (option_map_or (λ (y : InputView). y.left) (cond k (Some x) (find (λ (y : InputView). y.slot == s) xs)) [])
        rest true is other same =
            let apart : (slot == s) ≡ false = ne_eqb slot s (λ e. eqb-false x.slot slot other (eqb-true x.slot s is ∙ sym e)) in
            sym (ap (λ (b : Bool). left_by b x.left) apart)
        rest false is other same = same

        by : (h : Bool) → (x.slot == slot) ≡ h → (is_among (input_slots xs) slot ≡ true → left_of (changed xs) s ≡ left_by (slot == s) (left_of xs s)) → (h || is_among (input_slots xs) slot) ≡ true → left_of (cond h (after x ∷ xs) (x ∷ changed xs)) s ≡ left_by (slot == s) (left_of (x ∷ xs) s)
        by true is same there = first (x.slot == s) refl (eqb-true x.slot slot is)
        by false is same there = rest (x.slot == s) refl is (same there)

    grows-before : ((b : Bool) → not (ends b) ≡ true → not b ≡ true) → (inputs : List InputView) → may_grow s (changed inputs) ≡ true → may_grow s inputs ≡ true
    grows-before keeps [] = λ may. may
    grows-before keeps (x ∷ xs) = by (x.slot == slot) (grows-before keeps xs)
      where
        first : (k : Bool) → cond k (not (ends x.ended)) (may_grow s xs) ≡ true → cond k (not x.ended) (may_grow s xs) ≡ true
        first true may = keeps x.ended may
        first false may = may

        rest : (k : Bool) → (may_grow s (changed xs) ≡ true → may_grow s xs ≡ true) → cond k (not x.ended) (may_grow s (changed xs)) ≡ true → cond k (not x.ended) (may_grow s xs) ≡ true
        rest true before may = may
        rest false before may = before may

        by : (h : Bool) → (may_grow s (changed xs) ≡ true → may_grow s xs ≡ true) → may_grow s (cond h (after x ∷ xs) (x ∷ changed xs)) ≡ true → may_grow s (x ∷ xs) ≡ true
        by true before = first (x.slot == s)
        by false before = rest (x.slot == s) before

-- ---- a read

filled-changed : (slot : ℕ) (piece : List ℕ) (inputs : List InputView) → filled_at slot piece inputs ≡ changed (λ (bytes : List ℕ). bytes ++ piece) (λ (b : Bool). b) slot inputs
filled-changed slot piece [] = refl
filled-changed slot piece (x ∷ xs) = ap (λ (rest : List InputView). cond (x.slot == slot) (fuller_input piece x ∷ xs) (x ∷ rest)) (filled-changed slot piece xs)

ended-changed : (slot : ℕ) (inputs : List InputView) → ended_at slot inputs ≡ changed (λ (bytes : List ℕ). bytes) (λ (b : Bool). true) slot inputs
ended-changed slot [] = refl
ended-changed slot (x ∷ xs) = ap (λ (rest : List InputView). cond (x.slot == slot) (ended_input x ∷ xs) (x ∷ rest)) (ended-changed slot xs)

-- what a read leaves of the inputs
pub record IsRead (slot : ℕ) (bytes : List ℕ) (old new : List InputView) : Type 0 where
  pub slots : input_slots new ≡ input_slots old
  pub fills : is_among (input_slots old) slot ≡ true → Fills slot bytes old new
  pub grew : (s : ℕ) → may_grow s new ≡ true → may_grow s old ≡ true

filled-read : (slot : ℕ) (piece : List ℕ) (inputs : List InputView) → IsRead slot piece inputs (filled_at slot piece inputs)
filled-read slot piece inputs =
    let longer : List ℕ → List ℕ = λ bytes. bytes ++ piece in
    let ends : Bool → Bool = λ b. b in
    subst (IsRead slot piece inputs) (sym (filled-changed slot piece inputs)) (record {
      slots = slots-stay longer ends slot inputs;
      fills = λ there. record { bound = λ s. bound-stays longer ends slot s inputs; positions = λ s. position-stays longer ends slot s inputs; left = λ s. left-changed longer ends slot s inputs there };
      grew = λ s. grows-before longer ends slot s (λ b may. may) inputs;
    })

ended-read : (slot : ℕ) (inputs : List InputView) → IsRead slot [] inputs (ended_at slot inputs)
ended-read slot inputs =
    let longer : List ℕ → List ℕ = λ bytes. bytes in
    let ends : Bool → Bool = λ b. true in
    subst (IsRead slot [] inputs) (sym (ended-changed slot inputs)) (record {
      slots = slots-stay longer ends slot inputs;
      fills = λ there. record {
        bound = λ s. bound-stays longer ends slot s inputs;
        positions = λ s. position-stays longer ends slot s inputs;
        left = λ s. left-changed longer ends slot s inputs there ∙ none (slot == s) (left_of inputs s);
      };
      grew = λ s. grows-before longer ends slot s (λ b may. absurd (true≢false (sym may))) inputs;
    })
  where
    none : (h : Bool) (bytes : List ℕ) → cond h bytes bytes ≡ cond h (bytes ++ []) bytes
    none true bytes = sym (append-nil bytes)
    none false bytes = refl

pub is-read : (slot : ℕ) (bytes : List ℕ) (inputs : List InputView) → IsRead slot bytes inputs (after_read slot bytes inputs)
is-read slot [] inputs = ended-read slot inputs
is-read slot (byte ∷ bytes) inputs = filled-read slot (byte ∷ bytes) inputs

-- ---- which slot is read next

-- the slot that is missing is there, and may grow
pub record IsNext (slot : ℕ) (inputs : List InputView) : Type 0 where
  pub there : is_among (input_slots inputs) slot ≡ true
  pub grows : may_grow slot inputs ≡ true

-- an input apart from those of other slots
apart-head : (slot : ℕ) (x : InputView) (xs : List InputView) → AllByRecursion (λ (y : ℕ). nat_eq x.slot y ≡ false) (input_slots xs) → is_among (input_slots xs) slot ≡ true → (x.slot == slot) ≡ false
apart-head slot x [] all = λ there. absurd (true≢false (sym there))
apart-head slot x (y ∷ ys) all = by (y.slot == slot) refl (apart-head slot x ys all.1)
  where
    by : (h : Bool) → (y.slot == slot) ≡ h → (is_among (input_slots ys) slot ≡ true → (x.slot == slot) ≡ false) → (h || is_among (input_slots ys) slot) ≡ true → (x.slot == slot) ≡ false
    by true is rest there = ap (λ (n : ℕ). x.slot == n) (sym (eqb-true y.slot slot is)) ∙ all.0
    by false is rest there = rest there

pub next-there : (level slot : ℕ) (inputs : List InputView) → IsDistinct nat_eq (input_slots inputs) → wanting level inputs ≡ Some slot → IsNext slot inputs
unfolding IsDistinct
next-there level slot [] apart = λ is. absurd (cc is)
next-there level slot (x ∷ xs) apart = by (is_wanting level x) refl (next-there level slot xs apart.1)
  where
    by : (h : Bool) → is_wanting level x ≡ h → (wanting level xs ≡ Some slot → IsNext slot xs) → cond h (Some x.slot) (wanting level xs) ≡ Some slot → IsNext slot (x ∷ xs)
    by true wants later same =
        let here : x.slot ≡ slot = cc same in
        let open_now : not x.ended ≡ true = (and_parts (nat_lt (length x.left) level) (not x.ended) wants).1 in
        let at : (x.slot == slot) ≡ true = eq-eqb x.slot slot here in
        record { there = ap (λ (b : Bool). b || is_among (input_slots xs) slot) at; grows = ap (λ (b : Bool). cond b (not x.ended) (may_grow slot xs)) at ∙ open_now }
    by false wants later same =
        let rest = later same in
        let at : (x.slot == slot) ≡ false = apart-head slot x xs apart.0 rest.there in
        record { there = ap (λ (b : Bool). b || is_among (input_slots xs) slot) at ∙ rest.there; grows = ap (λ (b : Bool). cond b (not x.ended) (may_grow slot xs)) at ∙ rest.grows }

-- where none is missing, an input that may grow holds as many bytes
held-enough : (n level : ℕ) (ended : Bool) → (nat_lt n level && not ended) ≡ false → not ended ≡ true → level ≤ n
held-enough n level true none may = absurd (true≢false (sym may))
held-enough n level false none may = by (nat_lt n level) refl none
  where
    by : (h : Bool) → nat_lt n level ≡ h → (h && true) ≡ false → level ≤ n
    by true is lacks = absurd (true≢false lacks)
    by false is lacks = let least = ltb-false n level is in omega (arith, least)

pub none-wanting : (level slot : ℕ) (inputs : List InputView) → wanting level inputs ≡ None → may_grow slot inputs ≡ true → level ≤ length (left_of inputs slot)
none-wanting level slot [] none may = absurd (true≢false (sym may))
none-wanting level slot (x ∷ xs) none may = by (is_wanting level x) refl (none-wanting level slot xs) none
  where
    at : (k : Bool) → is_wanting level x ≡ false → (may_grow slot xs ≡ true → level ≤ length (left_of xs slot)) → cond k (not x.ended) (may_grow slot xs) ≡ true → level ≤ length (option_map_or (λ (y : InputView). y.left) (cond k (Some x) (find (λ (y : InputView). y.slot == slot) xs)) [])
    at true enough rest grows = held-enough (length x.left) level x.ended enough grows
    at false enough rest grows = rest grows

    by : (h : Bool) → is_wanting level x ≡ h → (wanting level xs ≡ None → may_grow slot xs ≡ true → level ≤ length (left_of xs slot)) → cond h (Some x.slot) (wanting level xs) ≡ None → level ≤ length (left_of (x ∷ xs) slot)
    by true wants later same = absurd (cc same)
    by false wants later same = at (x.slot == slot) wants (later same) may

-- ---- a command keeps slots, and which inputs have ended

slots-by : (inputs : List InputView) → map (λ (x : ℕ × Bool). x.0) (input_ends inputs) ≡ input_slots inputs
slots-by [] = refl
slots-by (x ∷ xs) = ap (λ (slots : List ℕ). x.slot ∷ slots) (slots-by xs)

abbrev grows_by : ℕ → List (ℕ × Bool) → Bool
grows_by slot [] = false
grows_by slot (x ∷ xs) = cond (x.0 == slot) (not x.1) (grows_by slot xs)

grows-by : (slot : ℕ) (inputs : List InputView) → grows_by slot (input_ends inputs) ≡ may_grow slot inputs
grows-by slot [] = refl
grows-by slot (x ∷ xs) = ap (λ (b : Bool). cond (x.slot == slot) (not x.ended) b) (grows-by slot xs)

module _ (old new : List InputView) (same : input_ends new ≡ input_ends old) where
  pub bound-slots : input_slots new ≡ input_slots old
  bound-slots = sym (slots-by new) ∙ ap (map (λ (x : ℕ × Bool). x.0)) same ∙ slots-by old

  pub bound-grows : (slot : ℕ) → may_grow slot new ≡ may_grow slot old
  bound-grows slot = sym (grows-by slot new) ∙ ap (grows_by slot) same ∙ grows-by slot old
