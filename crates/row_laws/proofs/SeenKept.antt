-- The histories of a state once it has another view.
use Rattle.std.proofs.Common.{◌≡◌, refl, sym, ap, ◌∙◌, subst, ℕ, zero, suc, ◌+◌, ◌-◌, ◌≤◌, List, [], ◌∷◌, map, filter, length, take, get_or, Option, Some, None, Bool, true, false, cond, not, ◌==◌, ◌&&◌, ◌||◌, ℤ, pos, nat_abs, arith, length-append, length-take}
use Rattle.std.proofs.lemmas.Bool.{false≢true, and_parts, and_from, eqb-true, eq-eqb, cond-true}
use Rattle.std.proofs.lemmas.List.{length-map}
use Rattle.std.proofs.lemmas.List.FromFn.{length-map-range_with_len}
use Rattle.std.specs.Prelude.{find, max}
use Rattle.std.specs.Option.{option_map_or}
use Rattle.std.specs.List.{AllByRecursion, range_with_len}
use Rattle.sof_base.specs.Ramps.{ramp_gain}
use Rattle.sof_base.proofs.RampLaws.{between}
use Rattle.stream_law.specs.declared.graph.Kind.{Kind}
use Rattle.stream_law.specs.declared.graph.Kind.TheVariants.{Volume}
use Rattle.stream_law.specs.declared.graph.Setting.{Setting}
use Rattle.stream_law.specs.declared.graph.Setting.TheVariants.{Nothing, Gains, Choice, Blob, Masks}
use Rattle.stream_law.specs.declared.graph.Comp.{Comp}
use Rattle.stream_law.specs.declared.graph.Graph.{Graph}
use Rattle.stream_law.specs.State.{FwState, View, History, view_of}
use Rattle.stream_law.specs.Ways.{comp_of, components, is_of, live, channels_of}
use Rattle.stream_law.specs.Made.{gains}
use Rattle.stream_law.specs.Order.{is_among}
use Rattle.stream_law.specs.Ramps.{last_gains, ramp_place, ramp_numbers, numbers_from, numbers_place, ramp_marked}
use Rattle.stream_law.specs.Seen.{is_volume, keeps_numbers, remembers, goes_on, blob_in, gains_in, ramp_length, fresh_numbers, numbers_in, marked, history_seen}
use Rattle.stream_law.proofs.Among.{is_among-filter}
use Rattle.stream_law.proofs.Members.{IsIn, in-each, in-all, find-in, in-any, kept-in}
use Rattle.stream_law.proofs.Ramping.{from-numbers, place-numbers}
use Rattle.stream_law.proofs.Remembering.{is_of-kinds}
use Rattle.mbox_link.specs.Step.{kind_at}
use Rattle.row_laws.specs.Kept.{FirmwareInvariant, IsSettingOf, AreHistories, AreRampNumbers, numbers_held}
use Rattle.row_laws.proofs.Fewer.{all-both}
use Rattle.row_laws.proofs.Histories.{IsAlike, held-alike, ramps-alike}

-- ---- lists of gains

abbrev pub AreLow : List ℕ → Type 0
AreLow gains = AllByRecursion (λ n. n ≤ 16777216) gains

low-at : (gains : List ℕ) → AreLow gains → (k : ℕ) → get_or gains k 0 ≤ 16777216
low-at [] low k = omega arith
low-at (g ∷ gains) low zero = low.0
low-at (g ∷ gains) low (suc k) = low-at gains low.1 k

low-map : (f : ℕ → ℕ) → ((k : ℕ) → f k ≤ 16777216) → (ks : List ℕ) → AreLow (map f ks)
low-map f low [] = tt
low-map f low (k ∷ ks) = (low k, low-map f low ks)

-- those at the last frame of a ramp are no higher than both ends of it
low-last : (from to : List ℕ) (over place : ℕ) → AreLow from → AreLow to → AreLow (last_gains from to over place)
low-last from to over zero low_from low_to = low_from
low-last from to over (suc j) low_from low_to = low-map (λ k. ramp_gain (get_or from k 0) (get_or to k 0) over j) (λ k. between (get_or from k 0) (get_or to k 0) over j 16777216 (low-at from low_from k) (low-at to low_to k)) (range_with_len 0 (length to))

-- and as many
length-last : (from to : List ℕ) (over place : ℕ) → length from ≡ length to → length (last_gains from to over place) ≡ length to
length-last from to over zero same = same
length-last from to over (suc j) same = length-map-range_with_len (λ k. ramp_gain (get_or from k 0) (get_or to k 0) over j) 0 (length to)

-- the gains of a volume
low-set : (g : Graph) → AllByRecursion (λ c. IsSettingOf c.kind c.setting) g.comps → (c : ℕ) → is_of g is_volume c ≡ true → AreLow (option_map_or (λ x. gains x.setting) (comp_of g c) [])
low-set g settings c volume = by_comp (comp_of g c) refl volume
  where
    by_kind : (kind : Kind) (setting : Setting) → is_volume kind ≡ true → IsSettingOf kind setting → AreLow (gains setting)
    by_kind Volume (Gains list) is fits = fits.1
    by_kind Volume Nothing is fits = tt
    by_kind Volume (Choice k) is fits = tt
    by_kind Volume (Blob bytes) is fits = tt
    by_kind Volume (Masks masks) is fits = tt
    by_kind kind setting is fits = absurd (false≢true is)

    by_comp : (o : Option Comp) → comp_of g c ≡ o → option_map_or (λ x. is_volume x.kind) o false ≡ true → AreLow (option_map_or (λ x. gains x.setting) o [])
    by_comp None found is = tt
    by_comp (Some x) found is = by_kind x.kind x.setting is (in-all (λ (y : Comp). IsSettingOf y.kind y.setting) g.comps x settings (find-in (λ y. y.id == c) g.comps x found).0)

-- ---- a volume's numbers

pub length-numbers : (from : List ℕ) (over j : ℕ) → length (ramp_numbers from over j) ≡ length from + 1
unfolding ramp_numbers
length-numbers from over j = length-append (map pos from) (pos (ramp_place over j) ∷ []) ∙ ap (λ n. n + 1) (length-map from pos)

pub length-from : (numbers : List ℤ) → length (numbers_from numbers) ≡ length numbers - 1
unfolding numbers_from
length-from numbers =
    length-map (take (length numbers - 1) numbers) nat_abs
    ∙ (let e : length (take (length numbers - 1) numbers) ≡ length numbers - 1 = omega (arith, length-take (length numbers - 1) numbers) in e)

-- gains of at most 16777216, and a place that is not past the end
abbrev pub AreWithin : ℕ → List ℤ → Type 0
AreWithin over numbers = AreLow (numbers_from numbers) × (numbers_place numbers ≤ max over 1)

pub within-first : (from : List ℕ) (over most : ℕ) → AreLow from → AreWithin most (ramp_numbers from over 0)
within-first from over most low = (subst AreLow (sym (from-numbers from over 0)) low, (let e : numbers_place (ramp_numbers from over 0) ≡ ramp_place over 0 = place-numbers from over 0 in omega (arith, e)))

-- ---- the numbers of one component

-- they are as many as they should be, and a volume's are within their limits
abbrev pub AreHeld : View → ℕ → List ℤ → Type 0
AreHeld v c numbers = (length numbers ≡ numbers_held v c) × (is_of v.graph is_volume c ≡ true → AreWithin (ramp_length v c) numbers)

-- a member of a list of ids is among them
pub in-among : (ids : List ℕ) (n : ℕ) → IsIn n ids → is_among ids n ≡ true
in-among ids n there = in-any (λ id. id == n) ids n there (eq-eqb n n refl)

found-held : (v : View) (c : ℕ) (hs : List History) → AllByRecursion (λ h. AreHeld v h.comp h.numbers) hs → is_among (map (λ (h : History). h.comp) hs) c ≡ true → AreHeld v c (option_map_or (λ (h : History). h.numbers) (find (λ h. h.comp == c) hs) [])
found-held v c [] all there = absurd (false≢true there)
found-held v c (h ∷ hs) all there = by (h.comp == c) refl there (found-held v c hs all.1)
  where
    by : (t : Bool) → (h.comp == c) ≡ t → (t || is_among (map (λ (h : History). h.comp) hs) c) ≡ true → (is_among (map (λ (h : History). h.comp) hs) c ≡ true → AreHeld v c (option_map_or (λ (h : History). h.numbers) (find (λ h. h.comp == c) hs) [])) → AreHeld v c (option_map_or (λ (h : History). h.numbers) (cond t (Some h) (find (λ h. h.comp == c) hs)) [])
    by true e is rest = subst (λ n. AreHeld v n h.numbers) (eqb-true h.comp c e) all.0
    by false e is rest = rest is

-- all of a state's are
pub all-held : (f : FwState) → FirmwareInvariant f → AllByRecursion (λ h. AreHeld (view_of f) h.comp h.numbers) f.histories
all-held f kept = all-both (λ (h : History). length h.numbers ≡ numbers_held (view_of f) h.comp) (AreRampNumbers (view_of f)) f.histories kept.histories.numbers kept.histories.ramps

-- a Live equaliser or volume has its numbers
pub numbers-now : (f : FwState) → FirmwareInvariant f → (c : ℕ) → is_among (components f.graph) c ≡ true → remembers (view_of f) c ≡ true → AreHeld (view_of f) c (numbers_in f c)
numbers-now f kept c there is = found-held (view_of f) c f.histories (all-held f kept)
    (ap (λ (ns : List ℕ). is_among ns c) kept.histories.comps ∙ is_among-filter (remembers (view_of f)) (components f.graph) c ∙ and_from (remembers (view_of f) c) (is_among (components f.graph) c) is there)

-- ---- histories that are made anew for ids

comps-seen : (f : FwState) (v : View) (fresh : Option ℕ) (ids : List ℕ) → map (λ (h : History). h.comp) (map (history_seen f v fresh) ids) ≡ ids
comps-seen f v fresh [] = refl
comps-seen f v fresh (c ∷ ids) = ap (λ (ns : List ℕ). c ∷ ns) (comps-seen f v fresh ids)

all-seen : (P : History → Type 0) (f : FwState) (v : View) (fresh : Option ℕ) (ids : List ℕ) → ((c : ℕ) → IsIn c ids → P (history_seen f v fresh c)) → AllByRecursion P (map (history_seen f v fresh) ids)
all-seen P f v fresh ids each = over ids (in-each (λ c. P (history_seen f v fresh c)) ids each)
  where
    over : (ids : List ℕ) → AllByRecursion (λ c. P (history_seen f v fresh c)) ids → AllByRecursion P (map (history_seen f v fresh) ids)
    over [] all = tt
    over (c ∷ ids) all = (all.0, over ids all.1)

-- In a new view of the same components: settings are as they should be, kinds and the numbers of gains stay, and what goes on is alike.
pub record IsNext (f : FwState) (new : View) (fresh : Option ℕ) : Type 0 where
  pub settings : AllByRecursion (λ c. IsSettingOf c.kind c.setting) new.graph.comps
  pub there : (c : ℕ) → is_among (components new.graph) c ≡ true → is_among (components f.graph) c ≡ true
  pub kinds : (c : ℕ) → kind_at new.graph c ≡ kind_at f.graph c
  pub sizes : (c : ℕ) → is_of new.graph is_volume c ≡ true → length (gains_in new c) ≡ length (gains_in (view_of f) c)
  pub on : (c : ℕ) → is_among (components f.graph) c ≡ true → goes_on (view_of f) new fresh c ≡ true → IsAlike (view_of f) new c

module _ (f : FwState) (kept : FirmwareInvariant f) (new : View) (fresh : Option ℕ) (next : IsNext f new fresh) where
  abbrev old : View
  old = view_of f

  abbrev ids : List ℕ
  ids = filter (remembers new) (components new.graph)

  -- what was Live had its numbers
  had : (c : ℕ) → is_among (components f.graph) c ≡ true → is_of new.graph keeps_numbers c ≡ true → live old c ≡ true → AreHeld old c (numbers_in f c)
  had c here keeps was = numbers-now f kept c here (and_from (live old c) (is_of f.graph keeps_numbers c) was (is_of-kinds keeps_numbers f.graph new.graph c (sym (next.kinds c)) ∙ keeps))

  -- the numbers at a mark
  marked-held : (c : ℕ) → is_among (components f.graph) c ≡ true → is_of new.graph keeps_numbers c ≡ true → AreHeld new c (marked old new c (numbers_in f c))
  marked-held c here keeps = (long (is_of new.graph is_volume c) refl (live old c) refl, low)
    where
      numbers : List ℤ
      numbers = numbers_in f c

      was-volume : is_of new.graph is_volume c ≡ true → is_of f.graph is_volume c ≡ true
      was-volume volume = is_of-kinds is_volume f.graph new.graph c (sym (next.kinds c)) ∙ volume

      from : List ℕ
      from = last_gains (numbers_from numbers) (gains_in old c) (ramp_length old c) (numbers_place numbers)

      as-many : is_of new.graph is_volume c ≡ true → live old c ≡ true → length (numbers_from numbers) ≡ length (gains_in old c)
      as-many volume was =
          let count : length numbers ≡ length (gains_in old c) + 1 = (had c here keeps was).0 ∙ cond-true (is_of f.graph is_volume c) (length (gains_in old c) + 1) (length (fresh_numbers (blob_in old c) (channels_of old c))) (was-volume volume) in
          omega (arith, count, length-from numbers)

      long : (t : Bool) → is_of new.graph is_volume c ≡ t → (l : Bool) → live old c ≡ l
          → length (cond t (cond l (ramp_marked (ramp_length old c) (gains_in old c) numbers) (ramp_numbers (gains_in new c) 0 0)) (fresh_numbers (blob_in new c) (channels_of new c)))
          ≡ cond t (length (gains_in new c) + 1) (length (fresh_numbers (blob_in new c) (channels_of new c)))
      long false volume l was = refl
      long true volume false was = length-numbers (gains_in new c) 0 0
      long true volume true was =
          length-numbers from (ramp_length old c) 0
          ∙ ap (λ n. n + 1) (length-last (numbers_from numbers) (gains_in old c) (ramp_length old c) (numbers_place numbers) (as-many volume was) ∙ sym (next.sizes c volume))

      by : is_of new.graph is_volume c ≡ true → (l : Bool) → live old c ≡ l → AreWithin (ramp_length new c) (cond l (ramp_marked (ramp_length old c) (gains_in old c) numbers) (ramp_numbers (gains_in new c) 0 0))
      by volume true was = within-first from (ramp_length old c) (ramp_length new c) (low-last (numbers_from numbers) (gains_in old c) (ramp_length old c) (numbers_place numbers) ((had c here keeps was).1 (was-volume volume)).0 (low-set f.graph kept.settings c (was-volume volume)))
      by volume false was = within-first (gains_in new c) 0 (ramp_length new c) (low-set new.graph next.settings c volume)

      low : is_of new.graph is_volume c ≡ true → AreWithin (ramp_length new c) (marked old new c numbers)
      low volume = subst (AreWithin (ramp_length new c)) (sym (cond-true (is_of new.graph is_volume c) (cond (live old c) (ramp_marked (ramp_length old c) (gains_in old c) numbers) (ramp_numbers (gains_in new c) 0 0)) (fresh_numbers (blob_in new c) (channels_of new c)) volume)) (by volume (live old c) refl)

  -- the numbers in the new view
  seen-held : (c : ℕ) → IsIn c ids → AreHeld new c (history_seen f new fresh c).numbers
  seen-held c inside = by (goes_on old new fresh c) refl
    where
      here : is_among (components f.graph) c ≡ true
      here = next.there c (in-among (components new.graph) c (kept-in (remembers new) (components new.graph) c inside).0)

      keeps : is_of new.graph keeps_numbers c ≡ true
      keeps = (and_parts (live new c) (is_of new.graph keeps_numbers c) (kept-in (remembers new) (components new.graph) c inside).1).1

      by : (h : Bool) → goes_on old new fresh c ≡ h → AreHeld new c (cond h (numbers_in f c) (marked old new c (numbers_in f c)))
      by true goes =
          let lives = and_parts (live old c && live new c) (not (option_map_or (λ x. x == c) fresh false)) goes in
          let was = had c here keeps (and_parts (live old c) (live new c) lives.0).0 in
          let alike : IsAlike old new c = next.on c here goes in
          (was.0 ∙ sym (held-alike old new c alike), ramps-alike old new (record { comp = c; numbers = numbers_in f c }) alike was.1)
      by false goes = marked-held c here keeps

  pub histories-seen : AreHistories new (map (history_seen f new fresh) ids)
  histories-seen = record {
    comps = comps-seen f new fresh ids;
    numbers = all-seen (λ h. length h.numbers ≡ numbers_held new h.comp) f new fresh ids (λ c inside. (seen-held c inside).0);
    ramps = all-seen (AreRampNumbers new) f new fresh ids (λ c inside. (seen-held c inside).1);
  }
