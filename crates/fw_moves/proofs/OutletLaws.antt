-- Buffers get frames one after another, and what a demux keeps of samples.
use Rattle.std.proofs.Common.{◌≡◌, refl, sym, ap, ◌∙◌, subst, ℕ, ◌+◌, ◌*◌, ◌%◌, ◌<◌, ◌≤◌, List, [], ◌∷◌, ◌++◌, map, filter, length, get_or, Bool, true, false, cond, not, ◌==◌, ◌||◌, Option, Some, arith, ℤ}
use Rattle.std.proofs.lemmas.Bool.{eqb-true, eq-eqb, true≢false}
use Rattle.std.proofs.lemmas.List.{take_all, length-map}
use Rattle.std.proofs.lemmas.List.Folds.{list_any-append}
use Rattle.std.proofs.lemmas.List.FromFn.{length-map-range_with_len}
use Rattle.std.proofs.Math.Nat.{mod_self, mod-eq_of_lt}
use Rattle.std.specs.Prelude.{find}
use Rattle.std.specs.List.{position_or_len, range_with_len}
use Rattle.std.specs.Option.{option_map_or}
use Rattle.sof_base.specs.Samples.{Frame, sample_of}
use Rattle.sof_base.specs.FrameLists.{AreFrames, frames_of, samples_of}
use Rattle.sof_base.specs.Masks.{kept_sample, kept_of}
use Rattle.sof_base.proofs.SampleLaws.{map-range_same}
use Rattle.stream_law.specs.declared.graph.Join.{Join}
use Rattle.stream_law.specs.Order.{is_among}
use Rattle.fw_demux.specs.Splits.{all_kept}
use Rattle.fw_demux.proofs.KeepLaws.{kept-append}
use Rattle.fw_ring.proofs.FrameLaws.{length-frames, frames-whole}
use Rattle.fw_ring.proofs.Flat.{samples-frames}
use Rattle.fw_units.specs.declared.component.Component.{Component}
use Rattle.fw_units.specs.declared.component.Unit as units
use Rattle.fw_units.specs.declared.component.Unit.TheVariants.{Demux}
use Rattle.stream_law.specs.Ways.{splits}
use Rattle.fw_units.specs.Units.{kind_by, unit_frames, capacity_by}
use Rattle.fw_units.specs.Changes.{has_id}
use Rattle.fw_units.specs.Frames.{channels_by, pushed_by, pushed_at}
use Rattle.fw_moves.specs.Processed.{IsOutlet, feeds_of, output_number, output_frames, fed_at}
use Rattle.fw_moves.specs.Moving.{output_samples}
use Rattle.fw_moves.proofs.FrameLaws.{frames-back}
use Rattle.fw_units.proofs.Ids.{other-way, has-map}
use Rattle.fw_moves.proofs.MovedLaws.{fed-id}

-- ---- what is found

-- a change that leaves ids, and the one of an id
find-same : (f : Component → Component) → ((c : Component) → (f c).id ≡ c.id) → (b : ℕ) → ((c : Component) → (c.id == b) ≡ true → f c ≡ c) → (cs : List Component) → find (λ c. c.id == b) (map f cs) ≡ find (λ c. c.id == b) cs
find-same f same b own [] = refl
find-same f same b own (c ∷ cs) = by (c.id == b) refl (find-same f same b own cs)
  where
    by : (h : Bool) → (c.id == b) ≡ h → find (λ c. c.id == b) (map f cs) ≡ find (λ c. c.id == b) cs → find (λ c. c.id == b) (map f (c ∷ cs)) ≡ find (λ c. c.id == b) (c ∷ cs)
    by true is rest = (λ i. cond ((own c is i).id == b) (Some (own c is i)) (rest i))
    by false is rest =
        ap (λ k. cond (k == b) (Some (f c)) (find (λ c. c.id == b) (map f cs))) (same c)
        ∙ ap (λ h. cond h (Some (f c)) (find (λ c. c.id == b) (map f cs))) is
        ∙ rest
        ∙ sym (ap (λ h. cond h (Some c) (find (λ c. c.id == b) cs)) is)

pub find-unfed : (fed : List ℕ) (fs : ℕ → List Frame) (w : ℕ → List ℤ) (b : ℕ) (cs : List Component) → is_among fed b ≡ false → find (λ c. c.id == b) (map (fed_at fed fs w) cs) ≡ find (λ c. c.id == b) cs
find-unfed fed fs w b cs apart =
    find-same (fed_at fed fs w) (fed-id fed fs w) b
    (λ c is. ap (λ h. cond {A = Component} h (pushed_by (fs c.id) (w c.id) c) c) (ap (is_among fed) (eqb-true c.id b is) ∙ apart)) cs

pub pushed-id : (b : ℕ) (fs : List Frame) (w : List ℤ) (c : Component) → (pushed_at b fs w c).id ≡ c.id
pushed-id b fs w c = by (c.id == b)
  where
    by : (h : Bool) → (cond {A = Component} h (pushed_by fs w c) c).id ≡ c.id
    by true = refl
    by false = refl

pub find-unpushed : (b : ℕ) (fs : List Frame) (w : List ℤ) (x : ℕ) (cs : List Component) → (x == b) ≡ false → find (λ c. c.id == x) (map (pushed_at b fs w) cs) ≡ find (λ c. c.id == x) cs
find-unpushed b fs w x cs other =
    find-same (pushed_at b fs w) (pushed-id b fs w) x
    (λ c is. ap (λ h. cond {A = Component} h (pushed_by fs w c) c) (ap (λ n. n == b) (eqb-true c.id x is) ∙ other)) cs

-- a buffer that is not fed has the room that it had
pub outlet-still : (fed : List ℕ) (fs : ℕ → List Frame) (w : ℕ → List ℤ) (cs bs : List Component) (channels n b : ℕ) → bs ≡ map (fed_at fed fs w) cs → is_among fed b ≡ false → IsOutlet cs channels n b → IsOutlet bs channels n b
outlet-still fed fs w cs bs channels n b is apart outlet =
    let found : find (λ x. x.id == b) bs ≡ find (λ x. x.id == b) cs = ap (find (λ (x : Component). x.id == b)) is ∙ find-unfed fed fs w b cs apart in
    record {
      there = ap (λ (xs : List Component). has_id xs b) is ∙ has-map (fed_at fed fs w) (fed-id fed fs w) b cs ∙ outlet.there;
      shape = ap (λ (o : Option Component). option_map_or (λ x. channels_by x.unit) o 1) found ∙ outlet.shape;
      room = subst (λ (o : Option Component). length (option_map_or (λ x. unit_frames x.unit) o []) + n ≤ option_map_or (λ x. capacity_by x.unit) o 0) (sym found) outlet.room;
    }

-- ---- one buffer more

pub fed-none : (fs : ℕ → List Frame) (w : ℕ → List ℤ) (cs : List Component) → cs ≡ map (fed_at [] fs w) cs
fed-none fs w [] = refl
fed-none fs w (c ∷ cs) = ap (λ (xs : List Component). c ∷ xs) (fed-none fs w cs)

module _ (seen : List ℕ) (b : ℕ) (fs : ℕ → List Frame) (v w : ℕ → List ℤ) (apart : is_among seen b ≡ false) (same : (x : ℕ) → (x == b) ≡ false → w x ≡ v x) where
  fed-one : (c : Component) → pushed_at b (fs b) (w b) (fed_at seen fs v c) ≡ fed_at (seen ++ b ∷ []) fs w c
  fed-one c = by (is_among seen c.id) refl (c.id == b) refl
    where
      more : is_among (seen ++ b ∷ []) c.id ≡ (is_among seen c.id || (b == c.id || false))
      more = list_any-append (λ id. id == c.id) seen (b ∷ [])

      now : (h : Bool) → is_among (seen ++ b ∷ []) c.id ≡ h → fed_at (seen ++ b ∷ []) fs w c ≡ cond {A = Component} h (pushed_by (fs c.id) (w c.id) c) c
      now h is = ap (λ h. cond {A = Component} h (pushed_by (fs c.id) (w c.id) c) c) is

      by : (h : Bool) → is_among seen c.id ≡ h → (k : Bool) → (c.id == b) ≡ k → pushed_at b (fs b) (w b) (fed_at seen fs v c) ≡ fed_at (seen ++ b ∷ []) fs w c
      by true before true it = absurd (true≢false (sym before ∙ ap (is_among seen) (eqb-true c.id b it) ∙ apart))
      by true before false it =
          ap (pushed_at b (fs b) (w b)) (ap (λ h. cond {A = Component} h (pushed_by (fs c.id) (v c.id) c) c) before)
          ∙ ap (λ h. cond {A = Component} h (pushed_by (fs b) (w b) (pushed_by (fs c.id) (v c.id) c)) (pushed_by (fs c.id) (v c.id) c)) it
          ∙ ap (λ (words : List ℤ). pushed_by (fs c.id) words c) (sym (same c.id it))
          ∙ sym (now true (more ∙ ap (λ h. h || (b == c.id || false)) before))
      by false before true it =
          let turned : (b == c.id) ≡ true = eq-eqb b c.id (sym (eqb-true c.id b it)) in
          ap (pushed_at b (fs b) (w b)) (ap (λ h. cond {A = Component} h (pushed_by (fs c.id) (v c.id) c) c) before)
          ∙ ap (λ h. cond {A = Component} h (pushed_by (fs b) (w b) c) c) it
          ∙ (λ i. pushed_by (fs (sym (eqb-true c.id b it) i)) (w (sym (eqb-true c.id b it) i)) c)
          ∙ sym (now true (more ∙ (λ i. before i || (turned i || false))))
      by false before false it =
          ap (pushed_at b (fs b) (w b)) (ap (λ h. cond {A = Component} h (pushed_by (fs c.id) (v c.id) c) c) before)
          ∙ ap (λ h. cond {A = Component} h (pushed_by (fs b) (w b) c) c) it
          ∙ sym (now false (more ∙ (λ i. before i || (other-way c.id b it i || false))))

  pub fed-more : (cs : List Component) → map (pushed_at b (fs b) (w b)) (map (fed_at seen fs v) cs) ≡ map (fed_at (seen ++ b ∷ []) fs w) cs
  fed-more [] = refl
  fed-more (c ∷ cs) = (λ i. fed-one c i ∷ fed-more cs i)

-- a component feeds some
pub fed-some : (u : units.Unit) (fed : List ℕ) → feeds_of u (length fed) ≡ true → 0 < length fed
fed-some u [] feeds = absurd (true≢false (sym feeds ∙ none u))
  where
    none : (u : units.Unit) → feeds_of u 0 ≡ false
    none (Demux masks piece) = refl
    none u = refl
fed-some u (b ∷ fed) feeds = omega arith

-- one that splits nothing feeds one, which gets all
one-fed : (u : units.Unit) (n : ℕ) → splits (kind_by u) ≡ false → feeds_of u n ≡ true → n ≡ 1
one-fed (Demux masks piece) n whole feeds = absurd (true≢false whole)
one-fed u n whole feeds = eqb-true n 1 feeds

all-given : (u : units.Unit) (channels k : ℕ) (fs : List Frame) → splits (kind_by u) ≡ false → output_frames u channels k fs ≡ fs
all-given (Demux masks piece) channels k fs whole = absurd (true≢false whole)
all-given u channels k fs whole = refl

pub given-one : (u : units.Unit) (channels : ℕ) (numbers : ℕ → ℕ) (fs : List Frame) (w : ℕ → List ℤ) (fed : List ℕ) (cs : List Component) → splits (kind_by u) ≡ false → feeds_of u (length fed) ≡ true
    → map (pushed_at (get_or fed 0 0) fs (w (get_or fed 0 0))) cs ≡ map (fed_at fed (λ b. output_frames u channels (numbers b) fs) w) cs
given-one u channels numbers fs w fed cs whole feeds = by fed (one-fed u (length fed) whole feeds)
  where
    gets : ℕ → List Frame
    gets b = output_frames u channels (numbers b) fs

    by : (bs : List ℕ) → length bs ≡ 1 → map (pushed_at (get_or bs 0 0) fs (w (get_or bs 0 0))) cs ≡ map (fed_at bs gets w) cs
    by [] one = absurd (omega (arith, one))
    by (b ∷ []) one =
        ap (λ (xs : List Frame). map (pushed_at b xs (w b)) cs) (sym (all-given u channels (numbers b) fs whole))
        ∙ ap (map (pushed_at b (gets b) (w b))) (fed-none gets w cs)
        ∙ fed-more [] b gets w w refl (λ x other. refl) cs
    by (b ∷ d ∷ bs) one = absurd (omega (arith, one))

-- ---- what a demux keeps

kept-frame : (channels mask : ℕ) (f : Frame) → length f ≡ channels → all_kept channels mask f ≡ kept_of channels mask f
kept-frame channels mask f long =
    ap (λ n. map (λ i. kept_sample mask (i % channels) (sample_of f i)) (range_with_len 0 n)) long
    ∙ map-range_same (λ i. kept_sample mask (i % channels) (sample_of f i)) (λ c. kept_sample mask c (sample_of f c)) 0 channels
    (λ k low. ap (λ c. kept_sample mask c (sample_of f k)) (mod-eq_of_lt (let l : k < channels = omega arith in l)))

-- of the samples of frames those of what it keeps of the frames
kept-samples : (channels mask : ℕ) (fs : List Frame) → 1 ≤ channels → AreFrames channels fs → all_kept channels mask (samples_of fs) ≡ samples_of (map (kept_of channels mask) fs)
kept-samples channels mask [] some are = refl
kept-samples channels mask (f ∷ fs) some are =
    kept-append channels mask f (samples_of fs) some (ap (λ n. n % channels) are.0 ∙ mod_self channels)
    ∙ (λ i. kept-frame channels mask f are.0 i ++ kept-samples channels mask fs some are.1 i)

kept-whole : (channels mask : ℕ) (fs : List Frame) → AreFrames channels (map (kept_of channels mask) fs)
kept-whole channels mask [] = tt
kept-whole channels mask (f ∷ fs) = (length-map-range_with_len (λ c. kept_sample mask c (sample_of f c)) 0 channels, kept-whole channels mask fs)

pub kept-frames : (channels n mask : ℕ) (xs : List ℤ) → 1 ≤ channels → length xs ≡ n * channels → frames_of channels n (all_kept channels mask xs) ≡ map (kept_of channels mask) (frames_of channels n xs)
kept-frames channels n mask xs some long =
    let fs = frames_of channels n xs in
    let back : samples_of fs ≡ xs = samples-frames channels n xs ∙ take_all (n * channels) xs (omega (arith, long)) in
    ap (λ (ys : List ℤ). frames_of channels n (all_kept channels mask ys)) (sym back)
    ∙ ap (frames_of channels n) (kept-samples channels mask fs some (frames-whole channels n xs (omega (arith, long))))
    ∙ frames-back channels n (map (kept_of channels mask) fs) (kept-whole channels mask fs) (length-map fs (kept_of channels mask) ∙ length-frames channels n xs)

pub length-kept : (channels mask : ℕ) (xs : List ℤ) → length (all_kept channels mask xs) ≡ length xs
length-kept channels mask xs = length-map-range_with_len (λ i. kept_sample mask (i % channels) (sample_of xs i)) 0 (length xs)

-- what an output gets of samples is what it gets of their frames
pub output-frames : (channels n k : ℕ) (u : units.Unit) (xs : List ℤ) → 1 ≤ channels → length xs ≡ n * channels → frames_of channels n (output_samples u channels k xs) ≡ output_frames u channels k (frames_of channels n xs)
output-frames channels n k (Demux masks piece) xs some long = kept-frames channels n (get_or masks k 0) xs some long
output-frames channels n k u xs some long = refl

pub output-long : (channels k : ℕ) (u : units.Unit) (xs : List ℤ) → length (output_samples u channels k xs) ≡ length xs
output-long channels k (Demux masks piece) xs = length-kept channels (get_or masks k 0) xs
output-long channels k u xs = refl

-- ---- the number of an output, join by join

pub output-here : (j : Join) (js : List Join) (id b : ℕ) → (j.source == id) ≡ true → (j.sink == b) ≡ true → output_number (j ∷ js) id b ≡ 0
output-here j js id b from is =
    ap (λ h. position_or_len (λ x. x == b) (map (λ j. j.sink) (cond h (j ∷ filter (λ j. j.source == id) js) (filter (λ j. j.source == id) js)))) from
    ∙ ap (λ h. cond (not h) (1 + output_number js id b) 0) is

pub output-past : (j : Join) (js : List Join) (id b : ℕ) → (j.source == id) ≡ true → (j.sink == b) ≡ false → output_number (j ∷ js) id b ≡ 1 + output_number js id b
output-past j js id b from is =
    ap (λ h. position_or_len (λ x. x == b) (map (λ j. j.sink) (cond h (j ∷ filter (λ j. j.source == id) js) (filter (λ j. j.source == id) js)))) from
    ∙ ap (λ h. cond (not h) (1 + output_number js id b) 0) is

pub output-other : (j : Join) (js : List Join) (id b : ℕ) → (j.source == id) ≡ false → output_number (j ∷ js) id b ≡ output_number js id b
output-other j js id b from =
    ap (λ h. position_or_len (λ x. x == b) (map (λ j. j.sink) (cond h (j ∷ filter (λ j. j.source == id) js) (filter (λ j. j.source == id) js)))) from
