-- More bytes after what an input has given change nothing of the past.
use Rattle.std.proofs.Common.{◌≡◌, refl, sym, ap, ◌∙◌, subst, ℕ, ◌+◌, ◌≤◌, List, [], ◌∷◌, ◌++◌, drop, length, Option, Some, None, Bool, true, false, cond, ◌==◌, inl, inr, ◌⊎◌, arith}
use Rattle.std.proofs.lemmas.Bool.{true≢false, eqb-true, true_from_ne_false}
use Rattle.std.proofs.lemmas.List.{drop-append-le}
use Rattle.std.specs.Option.{option_map_or}
use Rattle.stream_law.specs.declared.graph.Kind.{Kind}
use Rattle.stream_law.specs.declared.graph.Kind.TheVariants.{HostPlay, DaiCapture}
use Rattle.stream_law.specs.declared.graph.Setting.{Setting}
use Rattle.stream_law.specs.declared.graph.Comp.{Comp}
use Rattle.stream_law.specs.Table.{number_of, list_of, updated}
use Rattle.sof_base.specs.Samples.{Frame}
use Rattle.stream_law.specs.State.{View, FwState}
use Rattle.stream_law.specs.Ways.{comp_of, components, buffers, source_of, channels_of}
use Rattle.stream_law.specs.Made.{Passing, frames_made, frames_by, frames_for}
use Rattle.stream_law.specs.Ramps.{ramped_frames}
use Rattle.stream_law.specs.Seen.{ramp_length}
use Rattle.stream_law.specs.Endpoints.{format_of, reads, is_input, bytes_of_frames}
use Rattle.stream_law.specs.Past.{frames_read, start, Moment, Boot, Cut, Now, Tick, Past, Ticks, Leads, Follows, frames_now, position_after, slices, equalised_after}
use Rattle.stream_law.specs.Order.{is_among}
use Rattle.stream_law.specs.Moves.{fed}
use Rattle.sof_base.specs.Ports.{InputView}
use Rattle.stream_law.specs.Stands.{left_of, Stands}
use Rattle.stream_law.specs.Viewing.{Fills}
use Rattle.stream_law.proofs.Among.{value_of-updated_among, value_of-updated_apart}
use Rattle.stream_law.proofs.Standing.{comp-absent}
use Rattle.sof_base.proofs.SampleLaws.{frames_in-append}

-- what reads no input makes its frames without it
frames_made-unread : (v : View) (c n : ℕ) (read other : List Frame) (s : List (ℕ × List Frame)) (f g : Passing) → reads v c ≡ false → frames_made v c n read s f g ≡ frames_made v c n other s f g
unfolding frames_made
frames_made-unread v c n read other s f g unread = by_comp (comp_of v.graph c) unread
  where
    by_kind : (k : Kind) (setting : Setting) → is_input k ≡ false → frames_by k setting v c n read s f g ≡ frames_by k setting v c n other s f g
    by_kind HostPlay setting h = absurd (true≢false h)
    by_kind (DaiCapture format) setting h = absurd (true≢false h)
    by_kind kind setting h = refl

    by_comp : (o : Option Comp) → option_map_or (λ x. is_input x.kind) o false ≡ false → option_map_or (λ x. frames_by x.kind x.setting v c n read s f g) o [] ≡ option_map_or (λ x. frames_by x.kind x.setting v c n other s f g) o []
    by_comp None h = refl
    by_comp (Some x) h = by_kind x.kind x.setting h

module _ (whole : List (ℕ × List ℕ)) (slot : ℕ) (more : List ℕ) where
  -- the whole bytes with more after those of the slot
  abbrev pub filled : List (ℕ × List ℕ)
  filled = updated (slot ∷ []) (λ s. list_of whole s ++ more) whole

  read-filled : (old : Past) (c n : ℕ) → number_of old.positions slot + bytes_of_frames old.view slot n ≤ length (list_of whole slot) ⊎ ((slot == c) ≡ false) → frames_read old.view c (list_of filled c) (number_of old.positions c) n ≡ frames_read old.view c (list_of whole c) (number_of old.positions c) n
  read-filled old c n within = by_equal (slot == c) refl within
    where
      by_equal : (h : Bool) → (slot == c) ≡ h → number_of old.positions slot + bytes_of_frames old.view slot n ≤ length (list_of whole slot) ⊎ ((slot == c) ≡ false) → frames_read old.view c (cond h (list_of whole slot ++ more) (list_of whole c)) (number_of old.positions c) n ≡ frames_read old.view c (list_of whole c) (number_of old.positions c) n
      by_equal true h (inl fits) = let same : slot ≡ c = eqb-true slot c h in
          ap (λ x. frames_read old.view c (list_of whole x ++ more) (number_of old.positions c) n) same
          ∙ frames_in-append (format_of old.view c) (channels_of old.view c) (list_of whole c) more (number_of old.positions c) n (subst (λ x. number_of old.positions x + bytes_of_frames old.view x n ≤ length (list_of whole x)) same fits)
      by_equal true h (inr apart) = absurd (true≢false (sym h ∙ apart))
      by_equal false h within = refl

  -- what the slot reads at a tick lies below its position after it
  position-tick : (old new : Past) (n : List (ℕ × ℕ)) → Ticks whole old n new → (is_among (components old.view.graph) slot ≡ true → number_of new.positions slot ≡ position_after whole old n new.counts.put new.made slot) × (number_of old.positions slot ≤ number_of new.positions slot)
  position-tick old new n ticks = (at, by_place (is_among (components old.view.graph) slot) refl)
    where
      at : is_among (components old.view.graph) slot ≡ true → number_of new.positions slot ≡ position_after whole old n new.counts.put new.made slot
      at h = ap (λ l. number_of l slot) ticks.positions ∙ value_of-updated_among 0 (components old.view.graph) (position_after whole old n new.counts.put new.made) old.positions slot h

      by_place : (h : Bool) → is_among (components old.view.graph) slot ≡ h → number_of old.positions slot ≤ number_of new.positions slot
      by_place true h = let is : number_of new.positions slot ≡ position_after whole old n new.counts.put new.made slot = at h in omega arith
      by_place false h = let is : number_of new.positions slot ≡ number_of old.positions slot = ap (λ l. number_of l slot) ticks.positions ∙ value_of-updated_apart 0 (components old.view.graph) (position_after whole old n new.counts.put new.made) old.positions slot h in omega arith

  frames-filled : (old new : Past) (n : List (ℕ × ℕ)) → Ticks whole old n new → number_of new.positions slot ≤ length (list_of whole slot) → (c : ℕ) → frames_now whole old n new.counts.put new.made c ≡ frames_now filled old n new.counts.put new.made c
  frames-filled old new n ticks within c = by_reads (reads old.view c) refl
    where
      by_reads : (h : Bool) → reads old.view c ≡ h → frames_now whole old n new.counts.put new.made c ≡ frames_now filled old n new.counts.put new.made c
      by_reads true h = ap (λ read. frames_made old.view c (number_of n c) read (slices whole old n new.counts.put new.made c) (equalised_after (list_of old.epochs c)) (ramped_frames (list_of old.from c) (ramp_length old.view c) (length (list_of old.epochs c)))) (sym (read-filled old c (number_of n c) (inside (slot == c) refl)))
        where
          there : (slot == c) ≡ true → is_among (components old.view.graph) slot ≡ true
          there e = true_from_ne_false (is_among (components old.view.graph) slot) (λ gone.
              true≢false (sym (ap (reads old.view) (eqb-true slot c e) ∙ h) ∙ ap (λ o. option_map_or (λ (x : Comp). is_input x.kind) o false) (comp-absent old.view.graph.comps slot gone)))

          inside : (k : Bool) → (slot == c) ≡ k → number_of old.positions slot + bytes_of_frames old.view slot (number_of n c) ≤ length (list_of whole slot) ⊎ ((slot == c) ≡ false)
          inside true e = inl (
              let same : slot ≡ c = eqb-true slot c e in
              let is : number_of new.positions slot ≡ number_of old.positions slot + bytes_of_frames old.view slot (number_of n c) = (position-tick old new n ticks).0 (there e) ∙ ap (λ r. number_of old.positions slot + cond r (bytes_of_frames old.view slot (number_of n slot)) 0) (ap (reads old.view) same ∙ h) ∙ ap (λ x. number_of old.positions slot + bytes_of_frames old.view slot (number_of n x)) same in
              subst (λ k. k ≤ length (list_of whole slot)) is within)
          inside false e = inr e
      by_reads false h = frames_made-unread old.view c (number_of n c) (frames_read old.view c (list_of whole c) (number_of old.positions c) (number_of n c)) (frames_read old.view c (list_of filled c) (number_of old.positions c) (number_of n c)) (slices whole old n new.counts.put new.made c) (equalised_after (list_of old.epochs c)) (ramped_frames (list_of old.from c) (ramp_length old.view c) (length (list_of old.epochs c))) h

  tick-filled : (old new : Past) (n : List (ℕ × ℕ)) → Ticks whole old n new → number_of new.positions slot ≤ length (list_of whole slot) → Ticks filled old n new
  tick-filled old new n ticks within = record {
    on = ticks.on;
    view = ticks.view;
    clock = ticks.clock;
    counts = ticks.counts;
    made = ticks.made ∙ ap (λ f. updated (buffers old.view.graph) f old.made) (λ i b. list_of old.made b ++ cond (fed old.view b) (option_map_or (λ c. frames_for old.view c b (frames-filled old new n ticks within c i)) (source_of old.view.graph b) []) []);
    epochs = ticks.epochs;
    from = ticks.from;
    positions = ticks.positions;
    bytes = ticks.bytes;
  }

  follows-rises : (m : Moment) (old new : Past) → Follows whole old m new → number_of old.positions slot ≤ number_of new.positions slot
  follows-rises Boot old new follows = let same : number_of new.positions slot ≡ number_of old.positions slot = ap (λ p. number_of p.positions slot) follows in omega arith
  follows-rises Cut old new follows = let same : number_of new.positions slot ≡ number_of old.positions slot = ap (λ p. number_of p.positions slot) follows in omega arith
  follows-rises (Now v fresh) old new follows = let same : number_of new.positions slot ≡ number_of old.positions slot = ap (λ p. number_of p.positions slot) follows in omega arith
  follows-rises Tick old new follows = (position-tick old new follows.0 follows.1).1

  leads-rises : (ms : List Moment) (old new : Past) → Leads whole old ms new → number_of old.positions slot ≤ number_of new.positions slot
  leads-rises [] old new led = let same : number_of old.positions slot ≡ number_of new.positions slot = ap (λ p. number_of p.positions slot) led in omega arith
  leads-rises (m ∷ ms) old new led = let first : number_of old.positions slot ≤ number_of led.0.positions slot = follows-rises m old led.0 led.1 in let rest : number_of led.0.positions slot ≤ number_of new.positions slot = leads-rises ms led.0 new led.2 in omega arith

  follows-filled : (m : Moment) (old new : Past) → Follows whole old m new → number_of new.positions slot ≤ length (list_of whole slot) → Follows filled old m new
  follows-filled Boot old new follows within = follows
  follows-filled Cut old new follows within = follows
  follows-filled (Now v fresh) old new follows within = follows
  follows-filled Tick old new follows within = (follows.0, tick-filled old new follows.0 follows.1 within)

  -- moments lead to the same past
  pub leads-filled : (ms : List Moment) (old new : Past) → Leads whole old ms new → number_of new.positions slot ≤ length (list_of whole slot) → Leads filled old ms new
  leads-filled [] old new led within = led
  leads-filled (m ∷ ms) old new led within =
      let rest : number_of led.0.positions slot ≤ number_of new.positions slot = leads-rises ms led.0 new led.2 in
      (led.0, follows-filled m old led.0 led.1 (omega arith), leads-filled ms led.0 new led.2 within)

-- What stands, with inputs that have not gone past their bytes, stands with more bytes after those of a slot.
unfoldable pub Stands-filled : (device : Option FwState) (whole : List (ℕ × List ℕ)) (inputs inputs' : List InputView) (moments : List Moment) (slot : ℕ) (more : List ℕ) (stands : Stands device whole inputs moments)
    → number_of stands.past.positions slot ≤ length (list_of whole slot) → Fills slot more inputs inputs' → Stands device (filled whole slot more) inputs' moments
Stands-filled device whole inputs inputs' moments slot more stands within fills = record {
  past = stands.past;
  led = leads-filled whole slot more moments start stands.past stands.led within;
  read = record {
    positions = λ s bound. fills.positions s ∙ stands.read.positions s (fills.bound s ∙ bound);
    left = λ s. fills.left s ∙ by_equal s (slot == s) refl;
  };
  kept = stands.kept;
  holds = stands.holds;
  agrees = stands.agrees;
}
  where
    by_equal : (s : ℕ) (h : Bool) → (slot == s) ≡ h → cond h (left_of inputs s ++ more) (left_of inputs s) ≡ drop (number_of stands.past.positions s) (cond h (list_of whole slot ++ more) (list_of whole s))
    by_equal s true h = let same : slot ≡ s = eqb-true slot s h in
        ap (λ l. l ++ more) (stands.read.left s)
        ∙ sym (drop-append-le (number_of stands.past.positions s) (list_of whole s) more (subst (λ x. number_of stands.past.positions x ≤ length (list_of whole x)) same within))
        ∙ ap (λ x. drop (number_of stands.past.positions s) (list_of whole x ++ more)) (sym same)
    by_equal s false h = stands.read.left s
