-- Moments over more bytes of the inputs: where no input went past its bytes, they lead to the same past.
use Rattle.std.proofs.Common.{◌≡◌, refl, sym, ap, ◌∙◌, subst, ℕ, ◌≤◌, ◌-◌, List, [], ◌∷◌, ◌++◌, length, Bool, true, false, not, cond, ◌==◌, ◌||◌, inl, inr, append_assoc}
use Rattle.std.specs.Option.{option_map_or}
use Rattle.std.proofs.lemmas.Bool.{cases_Bool, eqb-true, true≢false}
use Rattle.std.proofs.lemmas.List.{append-nil}
use Rattle.sof_base.specs.Ports.{InputView}
use Rattle.sof_io.specs.Takes.{input_slots}
use Rattle.stream_law.specs.Table.{list_of, number_of, updated}
use Rattle.stream_law.specs.Ways.{buffers, source_of}
use Rattle.stream_law.specs.Order.{is_among}
use Rattle.stream_law.specs.Moves.{fed}
use Rattle.stream_law.specs.Made.{frames_made, frames_for}
use Rattle.stream_law.specs.Ramps.{ramped_frames}
use Rattle.stream_law.specs.Seen.{ramp_length}
use Rattle.stream_law.specs.Past.{Moment, Tick, Past, Ticks, Follows, Leads, frames_now, frames_read, slices, equalised_after}
use Rattle.stream_law.proofs.Among.{value_of-updated_among, value_of-updated_apart}
use Rattle.stream_law.proofs.Filled.{filled, leads-filled}
use Rattle.sof_session.specs.Fills.{AreWhole, may_grow}

abbrev pub Whole : Type 0
Whole = List (ℕ × List ℕ)

-- ---- the same bytes

-- every slot has the same bytes in both
abbrev pub SameBytes : Whole → Whole → Type 0
SameBytes one two = (slot : ℕ) → list_of one slot ≡ list_of two slot

module _ (one two : Whole) (same : SameBytes one two) where
  frames-same : (old new : Past) (n : List (ℕ × ℕ)) (c : ℕ) → frames_now one old n new.counts.put new.made c ≡ frames_now two old n new.counts.put new.made c
  frames-same old new n c =
      ap (λ bytes. frames_made old.view c (number_of n c) (frames_read old.view c bytes (number_of old.positions c) (number_of n c)) (slices one old n new.counts.put new.made c) (equalised_after (list_of old.epochs c)) (ramped_frames (list_of old.from c) (ramp_length old.view c) (length (list_of old.epochs c)))) (same c)

  tick-same : (old new : Past) (n : List (ℕ × ℕ)) → Ticks one old n new → Ticks two old n new
  tick-same old new n ticks = record {
    on = ticks.on;
    view = ticks.view;
    clock = ticks.clock;
    counts = ticks.counts;
    made = ticks.made ∙ ap (λ f. updated (buffers old.view.graph) f old.made) (λ i b. list_of old.made b ++ cond (fed old.view b) (option_map_or (λ c. frames_for old.view c b (frames-same old new n c i)) (source_of old.view.graph b) []) []);
    epochs = ticks.epochs;
    from = ticks.from;
    positions = ticks.positions;
    bytes = ticks.bytes;
  }

  follows-same : (m : Moment) (old new : Past) → Follows one old m new → Follows two old m new
  follows-same Tick old new follows = (follows.0, tick-same old new follows.0 follows.1)
  follows-same m old new follows = follows

  pub leads-same : (ms : List Moment) (old new : Past) → Leads one old ms new → Leads two old ms new
  leads-same [] old new led = led
  leads-same (m ∷ ms) old new led = (led.0, follows-same m old led.0 led.1, leads-same ms led.0 new led.2)

-- ---- bytes of which others are a front

-- the bytes of a slot with more after them
pub filled-is : (whole : Whole) (slot : ℕ) (more : List ℕ) (s : ℕ) → list_of (filled whole slot more) s ≡ cond (slot == s) (list_of whole slot ++ more) (list_of whole s)
filled-is whole slot more s = refl

-- an input that may grow is there
pub grows-there : (slot : ℕ) (inputs : List InputView) → is_among (input_slots inputs) slot ≡ false → may_grow slot inputs ≡ false
grows-there slot [] = λ apart. refl
grows-there slot (x ∷ xs) = by (x.slot == slot) (grows-there slot xs)
  where
    by : (b : Bool) → (is_among (input_slots xs) slot ≡ false → may_grow slot xs ≡ false) → (b || is_among (input_slots xs) slot) ≡ false → cond b (not x.ended) (may_grow slot xs) ≡ false
    by true rest apart = absurd (true≢false apart)
    by false rest apart = rest apart

module _ (inputs : List InputView) (part whole : Whole) (are : AreWhole inputs part whole) where
  -- the bytes of these slots in place of their fronts
  abbrev grown : List ℕ → Whole
  grown slots = updated slots (list_of whole) part

  among-is : (slots : List ℕ) (s : ℕ) → is_among slots s ≡ true → list_of (grown slots) s ≡ list_of whole s
  among-is slots s = value_of-updated_among [] slots (list_of whole) part s

  apart-is : (slots : List ℕ) (s : ℕ) → is_among slots s ≡ false → list_of (grown slots) s ≡ list_of part s
  apart-is slots s = value_of-updated_apart [] slots (list_of whole) part s

  -- one slot more: the others stay
  grown-by : (slots : List ℕ) (slot : ℕ) (bytes : List ℕ) (other : Whole) → list_of whole slot ≡ bytes → ((s : ℕ) → list_of other s ≡ cond (slot == s) bytes (list_of (grown slots) s)) → SameBytes other (grown (slot ∷ slots))
  grown-by slots slot bytes other is each s = each s ∙ ap (λ (bs : List ℕ). cond (slot == s) bs (list_of (grown slots) s)) (sym is)

  -- a slot whose bytes are there already
  grown-same : (slots : List ℕ) (slot : ℕ) → list_of (grown slots) slot ≡ list_of whole slot → SameBytes (grown slots) (grown (slot ∷ slots))
  grown-same slots slot is s = by (slot == s) refl
    where
      by : (b : Bool) → (slot == s) ≡ b → list_of (grown slots) s ≡ cond b (list_of whole slot) (list_of (grown slots) s)
      by true e = let same : slot ≡ s = eqb-true slot s e in subst (λ (x : ℕ). list_of (grown slots) x ≡ list_of whole slot) same is
      by false e = refl

  module _ (ms : List Moment) (old new : Past) (within : (slot : ℕ) → may_grow slot inputs ≡ true → number_of new.positions slot ≤ length (list_of part slot)) where
    one-more : (slots : List ℕ) (slot : ℕ) (among grows : Bool) → is_among slots slot ≡ among → may_grow slot inputs ≡ grows → Leads (grown slots) old ms new → Leads (grown (slot ∷ slots)) old ms new
    one-more slots slot true grows there may led = leads-same (grown slots) (grown (slot ∷ slots)) (grown-same slots slot (among-is slots slot there)) ms old new led
    one-more slots slot false false apart may led = leads-same (grown slots) (grown (slot ∷ slots)) (grown-same slots slot (apart-is slots slot apart ∙ sym (are.all slot may))) ms old new led
    one-more slots slot false true apart may led =
        let front = are.front slot in
        let is = apart-is slots slot apart in
        let bytes : list_of whole slot ≡ list_of (grown slots) slot ++ front.0 = front.1 ∙ ap (λ (bs : List ℕ). bs ++ front.0) (sym is) in
        let fits : number_of new.positions slot ≤ length (list_of (grown slots) slot) = subst (λ (bs : List ℕ). number_of new.positions slot ≤ length bs) (sym is) (within slot may) in
        leads-same (filled (grown slots) slot front.0) (grown (slot ∷ slots))
        (grown-by slots slot (list_of (grown slots) slot ++ front.0) (filled (grown slots) slot front.0) bytes (filled-is (grown slots) slot front.0)) ms old new
        (leads-filled (grown slots) slot front.0 ms old new led fits)

    all-more : (slots : List ℕ) → Leads part old ms new → Leads (grown slots) old ms new
    all-more [] led = led
    all-more (slot ∷ slots) led = one-more slots slot (is_among slots slot) (may_grow slot inputs) refl refl (all-more slots led)

    -- the inputs' bytes in place of their fronts are the whole
    grown-whole : SameBytes (grown (input_slots inputs)) whole
    grown-whole s = elim (cases_Bool (is_among (input_slots inputs) s)) [
      | inl there ↦ among-is (input_slots inputs) s there
      | inr apart ↦ apart-is (input_slots inputs) s apart ∙ sym (are.all s (grows-there s inputs apart))
    ]

    pub leads-whole : Leads part old ms new → Leads whole old ms new
    leads-whole led = leads-same (grown (input_slots inputs)) whole grown-whole ms old new (all-more (input_slots inputs) led)

-- ---- fronts of fronts

pub whole-same : (inputs : List InputView) (whole : Whole) → AreWhole inputs whole whole
whole-same inputs whole = record { front = λ slot. ([], sym (append-nil (list_of whole slot))); all = λ slot closed. refl }

pub whole-trans : (inputs later : List InputView) (part mid whole : Whole) → ((slot : ℕ) → may_grow slot inputs ≡ false → may_grow slot later ≡ false) → AreWhole inputs part mid → AreWhole later mid whole → AreWhole inputs part whole
whole-trans inputs later part mid whole closes first rest = record {
  front = λ slot. (
    (first.front slot).0 ++ (rest.front slot).0,
    (rest.front slot).1 ∙ ap (λ (bs : List ℕ). bs ++ (rest.front slot).0) (first.front slot).1 ∙ append_assoc (list_of part slot) (first.front slot).0 (rest.front slot).0,
  );
  all = λ slot closed. rest.all slot (closes slot closed) ∙ first.all slot closed;
}

-- a slot that may grow with more after its bytes
pub whole-filled : (inputs : List InputView) (whole : Whole) (slot : ℕ) (more : List ℕ) → may_grow slot inputs ≡ true → AreWhole inputs whole (filled whole slot more)
whole-filled inputs whole slot more may = record { front = λ s. by s (slot == s) refl; all = λ s closed. same s (slot == s) refl closed }
  where
    by : (s : ℕ) (b : Bool) → (slot == s) ≡ b → (m : List ℕ) × (cond b (list_of whole slot ++ more) (list_of whole s) ≡ list_of whole s ++ m)
    by s true is = (more, ap (λ (x : ℕ). list_of whole x ++ more) (eqb-true slot s is))
    by s false is = ([], sym (append-nil (list_of whole s)))

    same : (s : ℕ) (b : Bool) → (slot == s) ≡ b → may_grow s inputs ≡ false → cond b (list_of whole slot ++ more) (list_of whole s) ≡ list_of whole s
    same s true is closed = absurd (true≢false (sym (subst (λ (x : ℕ). may_grow x inputs ≡ true) (eqb-true slot s is) may) ∙ closed))
    same s false is closed = refl
