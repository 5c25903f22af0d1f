-- The law of each kind of moment: where the state stood before it, and it lies between, the state stands after it.
use Rattle.std.proofs.Common.{◌≡◌, refl, sym, ap, ◌∙◌, subst, ℕ, ◌+◌, ◌-◌, ◌≤◌, List, [], ◌∷◌, ◌++◌, drop, take, length, Option, Some, None, Bool, true, false, cond, inl, inr, arith, ℤ}
use Rattle.std.proofs.lemmas.Bool.{false≢true, true_from_ne_false, or_parts, and_left, and_right, and_from, and_parts, cond-false, cond-true}
use Rattle.std.specs.Option.{option_map_or, option_and_then}
use Rattle.std.specs.List.{find, list_any}
use Rattle.std.specs.Prelude.{◌==◌, map, ◌&&◌}
use Rattle.stream_law.specs.declared.graph.Edge.{Edge}
use Rattle.stream_law.specs.declared.graph.Comp.{Comp}
use Rattle.stream_law.specs.Epochs.{history_of}
use Rattle.stream_law.proofs.Tables.{value_of-updated_cases}
use Rattle.stream_law.proofs.Beginning.{history_of-fresh}
use Rattle.stream_law.proofs.Ramping.{first-numbers, marked-numbers}
use Rattle.stream_law.proofs.Remembering.{is_of-kinds}
use Rattle.stream_law.specs.Table.{number_of, list_of}
use Rattle.stream_law.specs.State.{View, FwState, view_of}
use Rattle.stream_law.specs.Ways.{is_of, channels_of, live, live_end, agree, buffers, components, source_of, sink_of}
use Rattle.stream_law.specs.Moves.{capacity}
use Rattle.sof_base.specs.Ports.{InputView}
use Rattle.stream_law.specs.Seen.{numbers_in, flows, goes_on, remembers, keeps_numbers, is_volume, blob_in, gains_in, ramp_length, fresh_numbers, marked}
use Rattle.stream_law.specs.Ramps.{ramp_numbers, ramp_marked, last_gains}
use Rattle.sof_base.specs.Samples.{Frame}
use Rattle.stream_law.specs.Past.{Moment, Boot, Cut, Now, Past, Leads, Follows, start, new_life, after_now, taken_now, epoch_now, from_now, part_of}
use Rattle.stream_law.specs.Stands.{numbers_for, KeepsCounts, HasRead, lying, StandsBy, Stands}
use Rattle.stream_law.specs.InputsRead.{Reads}
use Rattle.stream_law.specs.Viewing.{Booted, Sees, StaysAsLive}

-- a list of moments goes on by one
pub Leads-push : (whole : List (ℕ × List ℕ)) (a b c : Past) (ms : List Moment) (m : Moment) → Leads whole a ms b → Follows whole b m c → Leads whole a (ms ++ m ∷ []) c
Leads-push whole a b c [] m led follows = (c, subst (λ x. Follows whole x m c) (sym led) follows, refl)
Leads-push whole a b c (n ∷ ms) m led follows = (led.0, led.1, Leads-push whole led.0 b c ms m led.2 follows)

-- before any moment the device that is off stands
pub Stands-start : (whole : List (ℕ × List ℕ)) (inputs : List InputView) → HasRead whole inputs start → Stands None whole inputs []
unfolding capacity flows agree live
Stands-start whole inputs read = record {
  past = start;
  led = refl;
  read = read;
  kept = record { length_made = λ b. refl; no_more_taken = λ b. omega arith; fits = λ b. omega arith; empty = λ b e. refl };
  holds = refl;
  agrees = refl;
}

-- whatever the state was, after a cut it is off and stands
unfoldable pub Stands-cut : (whole : List (ℕ × List ℕ)) (inputs : List InputView) (moments : List Moment) → Reads whole inputs moments → Stands None whole inputs (moments ++ Cut ∷ [])
unfolding capacity flows agree live
Stands-cut whole inputs moments reads = record {
  past = new_life false reads.past;
  led = Leads-push whole start reads.past (new_life false reads.past) moments Cut reads.led refl;
  read = record { positions = reads.read.positions; left = reads.read.left };
  kept = record { length_made = λ b. refl; no_more_taken = λ b. omega arith; fits = λ b. omega arith; empty = λ b e. refl };
  holds = refl;
  agrees = refl;
}

-- what stands has inputs that were read up to its past
pub Stands-reads : (Same : View → View → Type 0) (device : Option FwState) (whole : List (ℕ × List ℕ)) (inputs : List InputView) (moments : List Moment) (s : StandsBy Same device whole inputs moments) → (r : Reads whole inputs moments) × (r.past ≡ s.past)
Stands-reads Same device whole inputs moments s = (record { past = s.past; led = s.led; read = s.read }, refl)

-- a boot gives a state that stands, with nothing in it
unfoldable pub Stands-boot : (f : FwState) (whole : List (ℕ × List ℕ)) (inputs : List InputView) (moments : List Moment) → Reads whole inputs moments → Booted f → Stands (Some f) whole inputs (moments ++ Boot ∷ [])
unfolding capacity flows agree live
Stands-boot f whole inputs moments reads booted = record {
  past = new_life true reads.past;
  led = Leads-push whole start reads.past (new_life true reads.past) moments Boot reads.led refl;
  read = record { positions = reads.read.positions; left = reads.read.left };
  kept = record { length_made = λ b. refl; no_more_taken = λ b. omega arith; fits = λ b. omega arith; empty = λ b e. refl };
  holds = record {
    on = refl;
    clock = booted.clock;
    view = booted.view;
    buffers = ap (map (λ r. r.buffer)) booted.rings ∙ sym (ap (λ w. buffers w.graph) booted.view);
    remembered = λ c e. absurd (false≢true e);
    rings = λ b. ap (λ rs. option_map_or (λ r. r.frames) (find (λ r. r.buffer == b) rs) []) booted.rings;
    histories = λ c e. absurd (false≢true e);
  };
  agrees = refl;
}

-- ---- a new view

-- an edge that is not there is not found
pub find-absent : (edges : List Edge) (b : ℕ) → list_any (λ id. id == b) (map (λ e. e.buffer) edges) ≡ false → find (λ e. e.buffer == b) edges ≡ None
find-absent [] b none = refl
find-absent (e ∷ edges) b none = let parts = or_parts (e.buffer == b) (list_any (λ id. id == b) (map (λ e. e.buffer) edges)) none in
    cond-false (e.buffer == b) (Some e) (find (λ e. e.buffer == b) edges) parts.0 ∙ find-absent edges b parts.1

list_any-back : (p : ℕ → Bool) (xs ys : List ℕ) → list_any p (xs ++ ys) ≡ false → list_any p ys ≡ false
list_any-back p [] ys none = none
list_any-back p (x ∷ xs) ys none = list_any-back p xs ys (or_parts (p x) (list_any p (xs ++ ys)) none).1

-- so nothing flows in it
pub flows-absent : (v : View) (b : ℕ) → list_any (λ id. id == b) (buffers v.graph) ≡ false → flows v b ≡ false
unfolding flows
flows-absent v b none =
    let no_source : live_end v (source_of v.graph b) ≡ false = ap (λ o. live_end v (option_and_then (λ e. e.source) o)) (find-absent v.graph.edges b none) in
    and_left (live v b && live_end v (source_of v.graph b)) (live_end v (sink_of v.graph b)) (and_right (live v b) (live_end v (source_of v.graph b)) no_source)

-- what is taken after a new view: all, where none may lie
pub taken-seen : (v : View) (fresh : Option ℕ) (p : Past) (b : ℕ) → KeepsCounts p → number_of (after_now v fresh p).counts.taken b ≡ cond (flows v b) (number_of p.counts.taken b) (number_of p.counts.put b)
taken-seen v fresh p b kept =
    elim (value_of-updated_cases 0 (buffers v.graph ++ buffers p.view.graph) (taken_now v p.counts) p.counts.taken b) [
      | inl here ↦ here.1
      | inr gone ↦ gone.1 ∙ same (flows v b) (kept.empty b (flows-absent p.view b (list_any-back (λ id. id == b) (buffers v.graph) (buffers p.view.graph) gone.0)))
    ]
  where
    same : (t : Bool) → number_of p.counts.taken b ≡ number_of p.counts.put b → number_of p.counts.taken b ≡ cond t (number_of p.counts.taken b) (number_of p.counts.put b)
    same true e = refl
    same false e = e

-- counts that are kept are kept by a new view in which what stays Live keeps its room
pub KeepsCounts-seen : (v : View) (fresh : Option ℕ) (p : Past) → KeepsCounts p → StaysAsLive p.view v fresh → KeepsCounts (after_now v fresh p)
KeepsCounts-seen v fresh p kept stays = record {
  length_made = kept.length_made;
  no_more_taken = λ b. rw (taken-seen v fresh p b kept) (no_more b (flows v b));
  fits = λ b. rw (taken-seen v fresh p b kept) (fits b (flows v b) refl (flows p.view b) refl);
  empty = λ b e. taken-seen v fresh p b kept ∙ cond-false (flows v b) (number_of p.counts.taken b) (number_of p.counts.put b) e;
}
  where
    no_more : (b : ℕ) (t : Bool) → cond t (number_of p.counts.taken b) (number_of p.counts.put b) ≤ number_of p.counts.put b
    no_more b true = kept.no_more_taken b
    no_more b false = omega arith

    fits : (b : ℕ) (t : Bool) → flows v b ≡ t → (u : Bool) → flows p.view b ≡ u → number_of p.counts.put b ≤ cond t (number_of p.counts.taken b) (number_of p.counts.put b) + capacity v b
    fits b true e true h = rw (stays.room b h e) (kept.fits b)
    fits b true e false h = let full : number_of p.counts.taken b ≡ number_of p.counts.put b = kept.empty b h in omega arith
    fits b false e u h = omega arith

-- what lies in an edge after a new view
pub lying-seen : (v : View) (fresh : Option ℕ) (p : Past) (b : ℕ) → KeepsCounts p → lying (after_now v fresh p) b ≡ cond (flows v b) (lying p b) []
lying-seen v fresh p b kept = ap (λ k. part_of (list_of p.made b) k (number_of p.counts.put b - k)) (taken-seen v fresh p b kept) ∙ parts (flows v b)
  where
    parts : (t : Bool) → part_of (list_of p.made b) (cond t (number_of p.counts.taken b) (number_of p.counts.put b)) (number_of p.counts.put b - cond t (number_of p.counts.taken b) (number_of p.counts.put b)) ≡ cond t (lying p b) []
    parts true = refl
    parts false = let none : number_of p.counts.put b - number_of p.counts.put b ≡ 0 = omega arith in ap (λ n. take n (drop (number_of p.counts.put b) (list_of p.made b))) none

-- a component that is not there is not found
pub comp-absent : (comps : List Comp) (c : ℕ) → list_any (λ id. id == c) (map (λ x. x.id) comps) ≡ false → find (λ x. x.id == c) comps ≡ None
comp-absent [] c none = refl
comp-absent (x ∷ comps) c none = let parts = or_parts (x.id == c) (list_any (λ id. id == c) (map (λ x. x.id) comps)) none in
    cond-false (x.id == c) (Some x) (find (λ x. x.id == c) comps) parts.0 ∙ comp-absent comps c parts.1

-- and remembers nothing
remembers-absent : (v : View) (c : ℕ) → list_any (λ id. id == c) (components v.graph) ≡ false → remembers v c ≡ false
remembers-absent v c none = and_right (live v c) (is_of v.graph keeps_numbers c) (ap (λ o. option_map_or (λ (x : Comp). keeps_numbers x.kind) o false) (comp-absent v.graph.comps c none))

-- a Live equaliser or volume is a component
pub remembers-there : (v : View) (c : ℕ) → remembers v c ≡ true → list_any (λ id. id == c) (components v.graph) ≡ true
remembers-there v c there = true_from_ne_false (list_any (λ id. id == c) (components v.graph)) (λ gone. false≢true (sym (remembers-absent v c gone) ∙ there))

-- the frames since the last mark, and the gains from which a ramp goes
pub epochs-seen : (v : View) (fresh : Option ℕ) (p : Past) (c : ℕ) → remembers v c ≡ true → list_of (after_now v fresh p).epochs c ≡ epoch_now v p fresh c
epochs-seen v fresh p c there =
    elim (value_of-updated_cases [] (components v.graph) (epoch_now v p fresh) p.epochs c) [
      | inl here ↦ here.1
      | inr gone ↦ absurd (false≢true (sym (remembers-absent v c gone.0) ∙ there))
    ]

pub from-seen : (v : View) (fresh : Option ℕ) (p : Past) (c : ℕ) → remembers v c ≡ true → list_of (after_now v fresh p).from c ≡ from_now v p fresh c
from-seen v fresh p c there =
    elim (value_of-updated_cases [] (components v.graph) (from_now v p fresh) p.from c) [
      | inl here ↦ here.1
      | inr gone ↦ absurd (false≢true (sym (remembers-absent v c gone.0) ∙ there))
    ]

-- the numbers that stand for frames since a mark, in a view
abbrev numbers_by : View → ℕ → List ℕ → List Frame → List ℤ
numbers_by v c from epoch = cond (is_of v.graph is_volume c) (ramp_numbers from (ramp_length v c) (length epoch)) (history_of (blob_in v c) (channels_of v c) epoch)

module _ (f : FwState) (p : Past) (v : View) (fresh : Option ℕ) (lives : StaysAsLive p.view v fresh)
    (holds : (c : ℕ) → remembers p.view c ≡ true → numbers_in f c ≡ numbers_for p c (list_of p.epochs c)) (c : ℕ) (there : remembers v c ≡ true) where
  -- what was Live had its numbers before
  had : live p.view c ≡ true → numbers_in f c ≡ numbers_for p c (list_of p.epochs c)
  had l = holds c (and_from (live p.view c) (is_of p.view.graph keeps_numbers c) l (is_of-kinds keeps_numbers p.view.graph v.graph c (lives.kinds c there l) ∙ (and_parts (live v c) (is_of v.graph keeps_numbers c) there).1))

  -- where nothing is marked they go on
  numbers-on : goes_on p.view v fresh c ≡ true → numbers_in f c ≡ numbers_by v c (list_of p.from c) (list_of p.epochs c)
  numbers-on goes =
      let l = (and_parts (live p.view c) (live v c) (and_parts (live p.view c && live v c) _ goes).0).0 in
      let same = lives.on c there goes in
      had l ∙ ap (λ (q : (Bool × ℕ) × (List ℕ × ℕ)). cond q.0.0 (ramp_numbers (list_of p.from c) q.0.1 (length (list_of p.epochs c))) (history_of q.1.0 q.1.1 (list_of p.epochs c)))
      (λ i. ((is_of-kinds is_volume p.view.graph v.graph c (lives.kinds c there l) i, sym same.2 i), (sym same.0 i, sym same.1 i)))

  -- at a mark they begin
  numbers-marked : (l : Bool) → live p.view c ≡ l → (b : Bool) → is_of v.graph is_volume c ≡ b →
      cond b (cond l (ramp_marked (ramp_length p.view c) (gains_in p.view c) (numbers_in f c)) (ramp_numbers (gains_in v c) 0 0)) (fresh_numbers (blob_in v c) (channels_of v c))
      ≡ cond b (ramp_numbers (cond l (last_gains (list_of p.from c) (gains_in p.view c) (ramp_length p.view c) (length (list_of p.epochs c))) (gains_in v c)) (ramp_length v c) 0) (history_of (blob_in v c) (channels_of v c) [])
  numbers-marked true l true b =
      ap (ramp_marked (ramp_length p.view c) (gains_in p.view c)) (had l ∙ cond-true (is_of p.view.graph is_volume c) (ramp_numbers (list_of p.from c) (ramp_length p.view c) (length (list_of p.epochs c))) (history_of (blob_in p.view c) (channels_of p.view c) (list_of p.epochs c)) (is_of-kinds is_volume p.view.graph v.graph c (lives.kinds c there l) ∙ b))
      ∙ marked-numbers (list_of p.from c) (ramp_length p.view c) (length (list_of p.epochs c)) (ramp_length v c) (gains_in p.view c)
  numbers-marked false l true b = first-numbers (gains_in v c) 0 (ramp_length v c)
  numbers-marked true l false b = sym (history_of-fresh (blob_in v c) (channels_of v c))
  numbers-marked false l false b = sym (history_of-fresh (blob_in v c) (channels_of v c))

  -- so they stand for the frames since the last mark in the new view
  numbers-now : (g : Bool) → goes_on p.view v fresh c ≡ g → cond g (numbers_in f c) (marked p.view v c (numbers_in f c))
      ≡ numbers_by v c (cond g (list_of p.from c) (cond (live p.view c) (last_gains (list_of p.from c) (gains_in p.view c) (ramp_length p.view c) (length (list_of p.epochs c))) (gains_in v c))) (cond g (list_of p.epochs c) [])
  numbers-now true goes = numbers-on goes
  numbers-now false goes = numbers-marked (live p.view c) refl (is_of v.graph is_volume c) refl

  pub numbers-seen : cond (goes_on p.view v fresh c) (numbers_in f c) (marked p.view v c (numbers_in f c)) ≡ numbers_for (after_now v fresh p) c (list_of (after_now v fresh p).epochs c)
  numbers-seen = numbers-now (goes_on p.view v fresh c) refl ∙ sym (ap (λ (q : List ℕ × List Frame). numbers_by v c q.0 q.1) (λ i. (from-seen v fresh p c there i, epochs-seen v fresh p c there i)))

-- an act that passes keeps what stands
unfoldable pub Stands-now : (f f' : FwState) (v : View) (fresh : Option ℕ) (whole : List (ℕ × List ℕ)) (inputs : List InputView) (moments : List Moment) → Stands (Some f) whole inputs moments → Sees f v fresh f' → agree v ≡ true → StaysAsLive (view_of f) v fresh → Stands (Some f') whole inputs (moments ++ Now v fresh ∷ [])
Stands-now f f' v fresh whole inputs moments stands sees agrees stays = record {
  past = after_now v fresh stands.past;
  led = Leads-push whole start stands.past (after_now v fresh stands.past) moments (Now v fresh) stands.led refl;
  read = record { positions = stands.read.positions; left = stands.read.left };
  kept = KeepsCounts-seen v fresh stands.past stands.kept lives;
  holds = record {
    on = stands.holds.on;
    clock = sees.clock ∙ stands.holds.clock;
    view = sees.view;
    buffers = sees.buffers;
    remembered = sees.remembered;
    rings = λ b. sees.rings b ∙ ap (λ r. cond (flows v b) r []) (stands.holds.rings b) ∙ sym (lying-seen v fresh stands.past b stands.kept);
    histories = λ c there. sees.histories c there
        ∙ ap (λ w. cond (goes_on w v fresh c) (numbers_in f c) (marked w v c (numbers_in f c))) stands.holds.view
        ∙ numbers-seen f stands.past v fresh lives stands.holds.histories c there;
  };
  agrees = agrees;
}
  where
    lives : StaysAsLive stands.past.view v fresh
    lives = subst (λ w. StaysAsLive w v fresh) stands.holds.view stays

-- the view after a last act is its view
pub Leads-now_view : (whole : List (ℕ × List ℕ)) (a b : Past) (moments : List Moment) (v : View) (fresh : Option ℕ) → Leads whole a (moments ++ Now v fresh ∷ []) b → b.view ≡ v
Leads-now_view whole a b [] v fresh led = sym (ap (λ p. p.view) led.2) ∙ ap (λ p. p.view) led.1
Leads-now_view whole a b (m ∷ ms) v fresh led = Leads-now_view whole led.0 b ms v fresh led.2
