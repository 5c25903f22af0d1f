-- What a component has moved, and what it can still move.
use Rattle.std.proofs.Common.{◌≡◌, refl, sym, ap, ◌∙◌, subst, ℕ, ◌+◌, ◌≤◌, List, [], ◌∷◌, ◌++◌, map, take, drop, length, true, ◌==◌, Option, arith, ℤ, length-append}
use Rattle.std.proofs.lemmas.Bool.{eq-eqb, or_left, or_right}
use Rattle.std.specs.Prelude.{find}
use Rattle.std.specs.List.{AllByRecursion}
use Rattle.sof_base.specs.Samples.{Frame}
use Rattle.stream_law.specs.Order.{is_among}
use Rattle.stream_law.specs.Table.{table}
use Rattle.fw_units.specs.declared.component.Component.{Component}
use Rattle.fw_units.specs.Units.{numbers_by}
use Rattle.fw_units.specs.Frames.{kept_words, words_by, staged_by, buffer_frames}
use Rattle.fw_moves.specs.Processed.{IsInlet, IsOutlet, slices_in, made_frames, made_numbers, output_frames, fed_at, drained_at, run_unit, run_by}
use Rattle.fw_moves.specs.Moving.{CanMove, frames_now, outlet_frames, IsMoved}
use Rattle.fw_units.proofs.Ids.{all-by, all-with}
use Rattle.fw_units.proofs.Ids.{ascends-map}
use Rattle.fw_moves.proofs.MovedLaws.{run-twice, run-kind, run-feeds, run-level, run-output, output-more, output-length, drained-id, fed-id, tables-twice, table-same}
use Rattle.fw_moves.proofs.MovedLaws.{frames-left, inlet-left, outlet-left}
use Rattle.fw_moves.proofs.RunLaws.{made-more, numbers-more}

-- each of these is among them
pub own-among : (ids : List ℕ) → AllByRecursion (λ b. is_among ids b ≡ true) ids
own-among [] = tt
own-among (x ∷ xs) =
    (or_left (x == x) (is_among xs x) (eq-eqb x x refl), all-by (λ b. is_among xs b ≡ true) (λ b. is_among (x ∷ xs) b ≡ true) (λ b e. or_right (x == b) (is_among xs b) e) xs (own-among xs))

module _ (chosen : Option ℕ) (numbers : ℕ → ℕ) (looked fed : List ℕ) (a m : ℕ) (bs : List Component) (c : Component) (can : CanMove bs looked fed (a + m) c) where
  abbrev made : List Frame
  made = frames_now chosen bs looked a c

  -- what each buffer that is fed gets of them
  abbrev given : ℕ → List Frame
  given b = outlet_frames chosen numbers bs looked a c b

  -- the buffers once a frames were moved
  abbrev left : (ℕ → List ℤ) → List Component
  left v = map (fed_at fed given v) (map (drained_at looked a) bs)

  slices-left : (v : ℕ → List ℤ) → slices_in (left v) looked m ≡ table looked (λ b. take m (drop a (buffer_frames bs b)))
  slices-left v = table-same (λ b. take m (buffer_frames (left v) b)) (λ b. take m (drop a (buffer_frames bs b))) looked
      (all-by (λ b. is_among looked b ≡ true) (λ b. take m (buffer_frames (left v) b) ≡ take m (drop a (buffer_frames bs b))) (λ b among. ap (take m) (frames-left looked fed can.apart a given v bs b among)) looked (own-among looked))

  can-left : (v : ℕ → List ℤ) (w : List ℤ) → length made ≡ a → CanMove (left v) looked fed m (run_by w a c)
  can-left v w count = record {
    ascends = ascends-map (fed_at fed given v) (fed-id fed given v) (map (drained_at looked a) bs) (ascends-map (drained_at looked a) (drained-id looked fed can.apart a) bs can.ascends);
    kind = run-kind w a (length looked) c.unit ∙ can.kind;
    feeds = run-feeds w a (length fed) c.unit ∙ can.feeds;
    level = run-level w a c.unit can.level;
    few = can.few;
    distinct = can.distinct;
    single = can.single;
    apart = can.apart;
    inlets = all-with (λ b. is_among looked b ≡ true) (IsInlet bs c.channels (a + m)) (IsInlet (left v) c.channels m) (λ b among inlet. inlet-left looked fed can.apart a given v bs c.channels m b among inlet) looked (own-among looked) can.inlets;
    outlets = all-with (λ b. is_among fed b ≡ true) (IsOutlet bs c.channels (a + m)) (IsOutlet (left v) c.channels m) (λ b among outlet. outlet-left looked fed can.apart a given v bs c.channels m b among (output-length c.channels (numbers b) c.unit made ∙ count) outlet) fed (own-among fed) can.outlets;
  }

  -- two moves in a row
  again : (v : ℕ → List ℤ) (w : List ℤ) (bs' : List Component) (c' : Component) → numbers_by (run_unit w a c.unit) c.channels ≡ made_numbers c.unit c.channels (slices_in bs looked a) → staged_by (run_unit w a c.unit) ≡ staged_by c.unit → length made ≡ a → IsMoved chosen numbers looked fed m (left v) (run_by w a c) bs' c' → IsMoved chosen numbers looked fed (a + m) bs c bs' c'
  again v w bs' c' held staged count next =
      let rest = table looked (λ b. take m (drop a (buffer_frames bs b))) in
      let more : List Frame = frames_now chosen (left v) looked m (run_by w a c) in
      let behind : more ≡ made_frames (run_unit w a c.unit) c.channels m chosen rest = ap (made_frames (run_unit w a c.unit) c.channels m chosen) (slices-left v) in
      let all : frames_now chosen bs looked (a + m) c ≡ made ++ more =
      made-more (buffer_frames bs) a m c.unit w c.channels chosen looked held ∙ ap (λ (fs : List Frame). made ++ fs) (sym behind) in
      let words = λ (b : ℕ). words_by (find (λ x. x.id == b) bs') in
      let each : (b : ℕ) → given b ++ outlet_frames chosen numbers (left v) looked m (run_by w a c) b ≡ outlet_frames chosen numbers bs looked (a + m) c b =
      λ b. ap (λ (fs : List Frame). given b ++ fs) (run-output w a c.channels (numbers b) c.unit more)
      ∙ sym (output-more c.channels (numbers b) c.unit made more)
      ∙ ap (output_frames c.unit c.channels (numbers b)) (sym all) in
      record {
        component = next.component ∙ ap (λ u. record { id = c.id; pipe = c.pipe; channels = c.channels; unit = u }) (run-twice w (kept_words c') a m c.unit);
        numbers =
            next.numbers
            ∙ ap (made_numbers (run_unit w a c.unit) c.channels) (slices-left v)
            ∙ sym (numbers-more (buffer_frames bs) a m c.unit w c.channels looked held);
        staged = next.staged ∙ staged;
        count = ap length all ∙ length-append made more ∙ (λ i. count i + next.count i);
        table =
            next.table
            ∙ tables-twice looked fed can.apart a m given (outlet_frames chosen numbers (left v) looked m (run_by w a c)) v words bs
            ∙ (λ i. map (fed_at fed (λ b. each b i) words) (map (drained_at looked (a + m)) bs));
      }

  -- the same by what the first move left
  module _ (bs1 : List Component) (c1 : Component) (moved : IsMoved chosen numbers looked fed a bs c bs1 c1) where
    abbrev fed_words : ℕ → List ℤ
    fed_words b = words_by (find (λ x. x.id == b) bs1)

    pub can-again : CanMove bs1 looked fed m c1
    can-again = subst (λ (p : List Component × Component). CanMove p.0 looked fed m p.1) (λ i. (sym moved.table i, sym moved.component i)) (can-left fed_words (kept_words c1) moved.count)

    pub moved-again : (bs' : List Component) (c' : Component) → IsMoved chosen numbers looked fed m bs1 c1 bs' c' → IsMoved chosen numbers looked fed (a + m) bs c bs' c'
    moved-again bs' c' next =
        again fed_words (kept_words c1) bs' c'
        (ap (λ (x : Component). numbers_by x.unit x.channels) (sym moved.component) ∙ moved.numbers)
        (ap (λ (x : Component). staged_by x.unit) (sym moved.component) ∙ moved.staged)
        moved.count
        (subst (λ (p : List Component × Component). IsMoved chosen numbers looked fed m p.0 p.1 bs' c') (λ i. (moved.table i, moved.component i)) next)

-- fewer frames can be moved as well
pub can-less : (looked fed : List ℕ) (n m : ℕ) (bs : List Component) (c : Component) → m ≤ n → CanMove bs looked fed n c → CanMove bs looked fed m c
can-less looked fed n m bs c less can = record {
  ascends = can.ascends;
  kind = can.kind;
  feeds = can.feeds;
  level = can.level;
  few = can.few;
  distinct = can.distinct;
  single = can.single;
  apart = can.apart;
  inlets = all-by (IsInlet bs c.channels n) (IsInlet bs c.channels m) (λ b inlet. record { there = inlet.there; shape = inlet.shape; held = omega (arith, less, inlet.held) }) looked can.inlets;
  outlets = all-by (IsOutlet bs c.channels n) (IsOutlet bs c.channels m) (λ b outlet. record { there = outlet.there; shape = outlet.shape; room = omega (arith, less, outlet.room) }) fed can.outlets;
}
