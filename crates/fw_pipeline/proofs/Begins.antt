-- What begins, one component after another.
use Rattle.std.proofs.Common.{◌≡◌, refl, sym, ap, ◌∙◌, subst, ℕ, zero, suc, ◌+◌, ◌<◌, List, [], ◌∷◌, ◌++◌, Bool, true, false, cond, map, length, take, get_or, ◌==◌, ◌&&◌, ◌||◌, inl, inr, Option, Some, option_map, ℤ, arith}
use Rattle.std.specs.Prelude.{find}
use Rattle.std.specs.List.{list_any}
use Rattle.std.proofs.lemmas.List.{take_more}
use Rattle.std.proofs.lemmas.List.Folds.{list_any-append}
use Rattle.std.proofs.lemmas.Bool.{true≢false, or_left, or_right, or_parts, eqb-true, eq-eqb, false_from_ne_true}
use Rattle.stream_law.specs.Placed.{Ascends}
use Rattle.stream_law.proofs.Members.{IsIn, in-all, in-any}
use Rattle.stream_law.proofs.Placing.{Ascends-distinct}
use Rattle.stream_law.specs.Order.{is_among}
use Rattle.row_laws.proofs.Found.{found-each}
use Rattle.fw_units.specs.declared.component.Component.{Component}
use Rattle.fw_units.specs.declared.component.Unit as units
use Rattle.fw_units.specs.declared.component.Unit.TheVariants.{Buffer}
use Rattle.fw_components.specs.Tables.{Tables, all_of}
use Rattle.fw_units.specs.Changes.{has_id}
use Rattle.fw_components.specs.Changes.{is_there, found}
use Rattle.fw_components.specs.Kept.{IsKept, AreIdsApart}
use Rattle.fw_units.specs.Frames.{begun_at, begun_by, kept_words, IsFreshBy, staged_of_one}
use Rattle.fw_components.specs.Frames.{begun, staged_at}
use Rattle.fw_components.specs.Tables.{ids_of}
use Rattle.fw_components.proofs.Listed.{listed-is}
use Rattle.fw_walks.proofs.Naming.{find-map}
use Rattle.fw_pipeline.specs.Triggers.{IsBegun, BecomeEach}
use Rattle.fw_pipeline.specs.Settling.{HaveBegun}

-- ---- each becomes one

pub become-same : (R : Component → Component → Type 0) → ((c : Component) → R c c) → (cs : List Component) → BecomeEach R cs cs
become-same R same [] = tt
become-same R same (c ∷ cs) = (same c, become-same R same cs)

pub become-next : (R S T : Component → Component → Type 0) → ((c d e : Component) → R c d → S d e → T c e) → (cs ds es : List Component) → BecomeEach R cs ds → BecomeEach S ds es → BecomeEach T cs es
become-next R S T join [] [] [] first second = tt
become-next R S T join [] [] (e ∷ es) first second = second
become-next R S T join [] (d ∷ ds) es first second = absurd first
become-next R S T join (c ∷ cs) [] es first second = absurd first
become-next R S T join (c ∷ cs) (d ∷ ds) [] first second = second
become-next R S T join (c ∷ cs) (d ∷ ds) (e ∷ es) first second = (join c d e first.0 second.0, become-next R S T join cs ds es first.1 second.1)

pub become-other : (R S : Component → Component → Type 0) (cs ds : List Component) → ((c d : Component) → IsIn c cs → R c d → S c d) → BecomeEach R cs ds → BecomeEach S cs ds
become-other R S [] [] turn each = tt
become-other R S [] (d ∷ ds) turn each = each
become-other R S (c ∷ cs) [] turn each = each
become-other R S (c ∷ cs) (d ∷ ds) turn each = (turn c d (inl refl) each.0, become-other R S cs ds (λ x y there. turn x y (inr there)) each.1)

-- what a change does to each is a list of what they become
pub become-map : (R : Component → Component → Type 0) (f : Component → Component) (cs : List Component) → ((c : Component) → IsIn c cs → R c (f c)) → BecomeEach R cs (map f cs)
become-map R f [] each = tt
become-map R f (c ∷ cs) each = (each c (inl refl), become-map R f cs (λ x there. each x (inr there)))

pub become-is : (R : Component → Component → Type 0) (f : Component → Component) (cs ds : List Component) → ((c d : Component) → IsIn c cs → R c d → d ≡ f c) → BecomeEach R cs ds → ds ≡ map f cs
become-is R f [] [] is each = refl
become-is R f [] (d ∷ ds) is each = absurd each
become-is R f (c ∷ cs) [] is each = absurd each
become-is R f (c ∷ cs) (d ∷ ds) is each = ap (λ (p : Component × List Component). p.0 ∷ p.1) (λ i. (is c d (inl refl) each.0 i, become-is R f cs ds (λ x y there. is x y (inr there)) each.1 i))

-- what is read of each, and stays, stays of all
pub become-read : {Y : Type 0} (R : Component → Component → Type 0) (f : Component → Y) (cs ds : List Component) → ((c d : Component) → R c d → f d ≡ f c) → BecomeEach R cs ds → map f ds ≡ map f cs
become-read R f [] [] same each = refl
become-read R f [] (d ∷ ds) same each = absurd each
become-read R f (c ∷ cs) [] same each = absurd each
become-read {Y} R f (c ∷ cs) (d ∷ ds) same each = ap (λ (p : Y × List Y). p.0 ∷ p.1) (λ i. (same c d each.0 i, become-read R f cs ds same each.1 i))

-- ---- one that begins

pub begun-id : (channels rate : ℕ) (h : Bool) (c d : Component) → IsBegun channels rate h c d → d.id ≡ c.id
begun-id channels rate true c d is = ap (λ (x : Component). x.id) is.0
begun-id channels rate false c d is = ap (λ (x : Component). x.id) is

-- it begins with its own words
own-words : (channels rate : ℕ) (words : List ℤ) (c : Component) → begun_by channels rate words c ≡ begun_by channels rate (kept_words (begun_by channels rate words c)) c
own-words channels rate words c = by c.unit
  where
    by : (u : units.Unit) → begun_by channels rate words (record { id = c.id; pipe = c.pipe; channels = c.channels; unit = u }) ≡ begun_by channels rate (kept_words (begun_by channels rate words (record { id = c.id; pipe = c.pipe; channels = c.channels; unit = u }))) (record { id = c.id; pipe = c.pipe; channels = c.channels; unit = u })
    by (Buffer size ring source sink) = refl
    by u = refl

-- one that begins again
begun-again : (channels rate : ℕ) (words before : List ℤ) (c : Component) → begun_by channels rate words (begun_by channels rate before c) ≡ begun_by channels rate words c
begun-again channels rate words before c = by c.unit
  where
    by : (u : units.Unit) → begun_by channels rate words (begun_by channels rate before (record { id = c.id; pipe = c.pipe; channels = c.channels; unit = u })) ≡ begun_by channels rate words (record { id = c.id; pipe = c.pipe; channels = c.channels; unit = u })
    by (Buffer size ring source sink) = refl
    by u = refl

pub begun-next : (channels rate : ℕ) (h k : Bool) (c d e : Component) → IsBegun channels rate h c d → IsBegun channels rate k d e → IsBegun channels rate (h || k) c e
begun-next channels rate false false c d e first second = second ∙ first
begun-next channels rate false true c d e first second = subst (λ (x : Component). IsBegun channels rate true x e) first second
begun-next channels rate true false c d e first second = subst (λ (x : Component). IsBegun channels rate true c x) (sym second) first
begun-next channels rate true true c d e first second =
    (second.0 ∙ ap (begun_by channels rate (kept_words e)) first.0 ∙ begun-again channels rate (kept_words e) (kept_words d) c, (second.1.0, second.1.1 ∙ first.1.1))

-- ---- what one call begins

find-same : (p q : Component → Bool) (cs : List Component) → ((c : Component) → p c ≡ q c) → find p cs ≡ find q cs
find-same p q [] same = refl
find-same p q (c ∷ cs) same = ap (λ (r : Bool × Option Component). cond r.0 (Some c) r.1) (λ i. (same c i, find-same p q cs same i))

find-front : (p : Component → Bool) (cs ds : List Component) (c : Component) → find p cs ≡ Some c → find p (cs ++ ds) ≡ Some c
find-front p [] ds c at = absurd (cc at)
find-front p (d ∷ cs) ds c at = by (p d) at (find-front p cs ds c)
  where
    by : (h : Bool) → cond h (Some d) (find p cs) ≡ Some c → (find p cs ≡ Some c → find p (cs ++ ds) ≡ Some c) → cond h (Some d) (find p (cs ++ ds)) ≡ Some c
    by true at rest = at
    by false at rest = rest at

find-behind : (p : Component → Bool) (cs ds : List Component) → list_any p cs ≡ false → find p (cs ++ ds) ≡ find p ds
find-behind p [] ds none = refl
find-behind p (d ∷ cs) ds none = let r = or_parts (p d) (list_any p cs) none in ap (λ h. cond h (Some d) (find p (cs ++ ds))) r.0 ∙ find-behind p cs ds r.1

module _ (t : Tables) (kept : IsKept t) where
  own : (cs : List Component) → Ascends (λ c. c.id) cs → (c : Component) → IsIn c cs → find (λ x. x.id == c.id) cs ≡ Some c
  own cs up c there = in-all (λ (c : Component). find (λ x. x.id == c.id) cs ≡ Some c) cs c (found-each (λ (c : Component). c.id) cs (Ascends-distinct (λ (c : Component). c.id) cs up)) there

  apart : (cs ds : List Component) → AreIdsApart cs ds → (d : Component) → IsIn d ds → has_id cs d.id ≡ false
  apart cs ds far d there = in-all (λ (d : Component). has_id cs d.id ≡ false) ds d far there

  pub own-comp : (c : Component) → IsIn c t.comps → found t c.id ≡ Some c
  own-comp c there = find-front (λ x. x.id == c.id) t.comps (t.buffers ++ t.pipes) c (own t.comps kept.named.comps c there)

  pub own-buffer : (c : Component) → IsIn c t.buffers → found t c.id ≡ Some c
  own-buffer c there =
      find-behind (λ x. x.id == c.id) t.comps (t.buffers ++ t.pipes) (apart t.comps t.buffers kept.named.comps_buffers c there)
      ∙ find-front (λ x. x.id == c.id) t.buffers t.pipes c (own t.buffers kept.named.buffers c there)

  pub own-pipe : (c : Component) → IsIn c t.pipes → found t c.id ≡ Some c
  own-pipe c there =
      find-behind (λ x. x.id == c.id) t.comps (t.buffers ++ t.pipes) (apart t.comps t.pipes kept.named.comps_pipes c there)
      ∙ find-behind (λ x. x.id == c.id) t.buffers t.pipes (apart t.buffers t.pipes kept.named.buffers_pipes c there)
      ∙ own t.pipes kept.named.pipes c there

-- the same id
begun-at_id : (id channels rate : ℕ) (words : List ℤ) (c : Component) → (begun_at id channels rate words c).id ≡ c.id
begun-at_id id channels rate words c = by (c.id == id)
  where
    by : (h : Bool) → (cond {A = Component} h (begun_by channels rate words c) c).id ≡ c.id
    by true = refl
    by false = refl

map-both : (f : Component → Component) (cs ds : List Component) → map f cs ++ map f ds ≡ map f (cs ++ ds)
map-both f [] ds = refl
map-both f (c ∷ cs) ds = ap (λ (xs : List Component). f c ∷ xs) (map-both f cs ds)

found-begun : (id channels rate : ℕ) (words : List ℤ) (t : Tables) → found (begun id channels rate words t) id ≡ option_map (begun_at id channels rate words) (found t id)
found-begun id channels rate words t =
    ap (find (λ c. c.id == id)) (ap (λ (cs : List Component). map f t.comps ++ cs) (map-both f t.buffers t.pipes) ∙ map-both f t.comps (t.buffers ++ t.pipes))
    ∙ find-map (λ (c : Component). c.id == id) f (all_of t)
    ∙ ap (option_map f) (find-same (λ c. (f c).id == id) (λ c. c.id == id) (all_of t) (λ c. ap (λ n. n == id) (begun-at_id id channels rate words c)))
  where
    f : Component → Component
    f c = begun_at id channels rate words c

module _ (t u : Tables) (kept : IsKept t) (id channels rate : ℕ) (words : List ℤ) (is : u ≡ begun id channels rate words t) (fresh : IsFreshBy (found u id)) (staged : staged_at u id ≡ staged_at t id) where
  at-one : (c : Component) → found t c.id ≡ Some c → IsBegun channels rate (c.id == id) c (begun_at id channels rate words c)
  at-one c at = by (c.id == id) refl
    where
      by : (h : Bool) → (c.id == id) ≡ h → IsBegun channels rate h c (cond h (begun_by channels rate words c) c)
      by false other = refl
      by true same =
          let here : found t id ≡ Some c = ap (found t) (sym (eqb-true c.id id same)) ∙ at in
          let there : found u id ≡ Some (begun_by channels rate words c) =
          ap (λ (v : Tables). found v id) is ∙ found-begun id channels rate words t ∙ ap (option_map (begun_at id channels rate words)) here
          ∙ ap (λ h. let r : Option Component = Some (cond h (begun_by channels rate words c) c) in r) same in
          (own-words channels rate words c, (subst IsFreshBy there fresh, sym (ap staged_of_one there) ∙ staged ∙ ap staged_of_one here))

  -- the one of its id begins, and all others stay as they are
  pub one-begun : HaveBegun channels rate (λ x. x == id) t u
  one-begun = subst (HaveBegun channels rate (λ x. x == id) t) (sym is) (
    become-map (λ c d. IsBegun channels rate (c.id == id) c d) (begun_at id channels rate words) t.comps (λ c there. at-one c (own-comp t kept c there)),
    (
      become-map (λ c d. IsBegun channels rate (c.id == id) c d) (begun_at id channels rate words) t.buffers (λ c there. at-one c (own-buffer t kept c there)),
      (become-map (λ c d. IsBegun channels rate (c.id == id) c d) (begun_at id channels rate words) t.pipes (λ c there. at-one c (own-pipe t kept c there)), refl),
    ),
  )

-- ---- those of more and more ids

module _ (channels rate : ℕ) (test : ℕ → Bool) where
  -- of all ids these begin that are among the first and pass
  abbrev pub AreBegun : List ℕ → List Component → List Component → Type 0
  AreBegun ids cs ds = BecomeEach (λ c d. IsBegun channels rate (is_among ids c.id && test c.id) c d) cs ds

  abbrev pub FirstBegun : List ℕ → Tables → Tables → Type 0
  FirstBegun ids t u = HaveBegun channels rate (λ x. is_among ids x && test x) t u

  pub none-begun : (t : Tables) → FirstBegun [] t t
  none-begun t = (become-same (λ c d. IsBegun channels rate false c d) (λ c. refl) t.comps, (become-same (λ c d. IsBegun channels rate false c d) (λ c. refl) t.buffers, (become-same (λ c d. IsBegun channels rate false c d) (λ c. refl) t.pipes, refl)))

  -- x is one of the first or the next, and passes
  more-pass : (ids : List ℕ) (i d x : ℕ) → i < length ids → (is_among (take (i + 1) ids) x && test x) ≡ ((is_among (take i ids) x && test x) || (get_or ids i d == x && test x))
  more-pass ids i d x low =
      ap (λ (xs : List ℕ). is_among xs x && test x) (take_more ids i d low)
      ∙ ap (λ h. h && test x) (list_any-append (λ y. y == x) (take i ids) (get_or ids i d ∷ []))
      ∙ by (is_among (take i ids) x) (get_or ids i d == x) (test x)
    where
      by : (a b c : Bool) → ((a || (b || false)) && c) ≡ ((a && c) || (b && c))
      by true true true = refl
      by true true false = refl
      by true false true = refl
      by true false false = refl
      by false true c = refl
      by false false c = refl

  module _ (ids : List ℕ) (i d : ℕ) (low : i < length ids) where
    begun-list : (pass : test (get_or ids i d) ≡ true) → (cs ds es : List Component) → AreBegun (take i ids) cs ds → BecomeEach (λ c d'. IsBegun channels rate (c.id == get_or ids i d) c d') ds es → AreBegun (take (i + 1) ids) cs es
    begun-list pass cs ds es so_far next =
        become-next (λ c d. IsBegun channels rate (is_among (take i ids) c.id && test c.id) c d) (λ c d'. IsBegun channels rate (c.id == get_or ids i d) c d') (λ c e. IsBegun channels rate (is_among (take (i + 1) ids) c.id && test c.id) c e) (λ c x e first second.
        subst (λ h. IsBegun channels rate h c e) (sym (more-pass ids i d c.id low ∙ ap (λ h. (is_among (take i ids) c.id && test c.id) || h) (turned c.id)))
        (begun-next channels rate (is_among (take i ids) c.id && test c.id) (c.id == get_or ids i d) c x e first (subst (λ n. IsBegun channels rate (n == get_or ids i d) x e) (begun-id channels rate _ c x first) second))) cs ds es so_far next
      where
        turned : (x : ℕ) → (get_or ids i d == x && test x) ≡ (x == get_or ids i d)
        turned x = by (x == get_or ids i d) refl
          where
            by : (h : Bool) → (x == get_or ids i d) ≡ h → (get_or ids i d == x && test x) ≡ h
            by true same = let e = eqb-true x (get_or ids i d) same in ap (λ (p : Bool × Bool). p.0 && p.1) (λ k. (eq-eqb (get_or ids i d) x (sym e) k, (ap test e ∙ pass) k))
            by false other = ap (λ h. h && test x) (false_from_ne_true (get_or ids i d == x) (λ e. true≢false (sym (eq-eqb x (get_or ids i d) (sym (eqb-true (get_or ids i d) x e))) ∙ other)))

    -- one more begins
    pub more-begun : (t u w : Tables) → FirstBegun (take i ids) t u → test (get_or ids i d) ≡ true → HaveBegun channels rate (λ x. x == get_or ids i d) u w → FirstBegun (take (i + 1) ids) t w
    more-begun t u w so_far pass one = (begun-list pass t.comps u.comps w.comps so_far.0 one.0, (begun-list pass t.buffers u.buffers w.buffers so_far.1.0 one.1.0, (begun-list pass t.pipes u.pipes w.pipes so_far.1.1.0 one.1.1.0, one.1.1.1 ∙ so_far.1.1.1)))

    passed-list : (fail : test (get_or ids i d) ≡ false) → (cs ds : List Component) → AreBegun (take i ids) cs ds → AreBegun (take (i + 1) ids) cs ds
    passed-list fail cs ds so_far = become-other (λ c d. IsBegun channels rate (is_among (take i ids) c.id && test c.id) c d) (λ c d. IsBegun channels rate (is_among (take (i + 1) ids) c.id && test c.id) c d) cs ds (λ c x there first. subst (λ h. IsBegun channels rate h c x) (sym (more-pass ids i d c.id low ∙ stays c.id)) first) so_far
      where
        stays : (x : ℕ) → ((is_among (take i ids) x && test x) || (get_or ids i d == x && test x)) ≡ (is_among (take i ids) x && test x)
        stays x = by (get_or ids i d == x) refl
          where
            last : (a b : Bool) → b ≡ false → (a || b) ≡ a
            last true b none = refl
            last false b none = none

            by : (h : Bool) → (get_or ids i d == x) ≡ h → ((is_among (take i ids) x && test x) || (h && test x)) ≡ (is_among (take i ids) x && test x)
            by true same = last (is_among (take i ids) x && test x) (test x) (ap test (sym (eqb-true (get_or ids i d) x same)) ∙ fail)
            by false other = last (is_among (take i ids) x && test x) false refl

    -- one more stays as it is
    pub more-passed : (t u : Tables) → FirstBegun (take i ids) t u → test (get_or ids i d) ≡ false → FirstBegun (take (i + 1) ids) t u
    more-passed t u so_far fail = (passed-list fail t.comps u.comps so_far.0, (passed-list fail t.buffers u.buffers so_far.1.0, (passed-list fail t.pipes u.pipes so_far.1.1.0, so_far.1.1.1)))

  -- all that are listed
  listed-begun : (ids : List ℕ) (cs ds : List Component) → ((c : Component) → IsIn c cs → is_among ids c.id ≡ true) → AreBegun ids cs ds → BecomeEach (λ c d. IsBegun channels rate (test c.id) c d) cs ds
  listed-begun ids cs ds listed each = become-other (λ c d. IsBegun channels rate (is_among ids c.id && test c.id) c d) (λ c d. IsBegun channels rate (test c.id) c d) cs ds (λ c d there first. subst (λ h. IsBegun channels rate (h && test c.id) c d) (listed c there) first) each

  module _ (t u : Tables) (kept : IsKept t) (ids : List ℕ) (are : ids ≡ ids_of t) (all : FirstBegun ids t u) where
    at-listed : (x : ℕ) → is_among ids x ≡ (has_id t.comps x || has_id t.buffers x)
    at-listed x = ap (λ (xs : List ℕ). is_among xs x) are ∙ listed-is t x

    pub comps-begun : BecomeEach (λ c d. IsBegun channels rate (test c.id) c d) t.comps u.comps
    comps-begun = listed-begun ids t.comps u.comps (λ c there. at-listed c.id ∙ or_left (has_id t.comps c.id) _ (in-any (λ d. d.id == c.id) t.comps c there (eq-eqb c.id c.id refl))) all.0

    pub buffers-begun : BecomeEach (λ c d. IsBegun channels rate (test c.id) c d) t.buffers u.buffers
    buffers-begun = listed-begun ids t.buffers u.buffers (λ c there. at-listed c.id ∙ or_right (has_id t.comps c.id) _ (in-any (λ d. d.id == c.id) t.buffers c there (eq-eqb c.id c.id refl))) all.1.0

    pub pipes-stay : u.pipes ≡ t.pipes
    pipes-stay = become-is (λ c d. IsBegun channels rate (is_among ids c.id && test c.id) c d) (λ c. c) t.pipes u.pipes (λ c d there first. subst (λ h. IsBegun channels rate (h && test c.id) c d) (unlisted c there) first) all.1.1.0 ∙ map-id t.pipes
      where
        unlisted : (c : Component) → IsIn c t.pipes → is_among ids c.id ≡ false
        unlisted c there = at-listed c.id ∙ ap (λ (p : Bool × Bool). p.0 || p.1) (λ i. (in-all (λ (d : Component). has_id t.comps d.id ≡ false) t.pipes c kept.named.comps_pipes there i, in-all (λ (d : Component). has_id t.buffers d.id ≡ false) t.pipes c kept.named.buffers_pipes there i))

        map-id : (cs : List Component) → map (λ (c : Component). c) cs ≡ cs
        map-id [] = refl
        map-id (c ∷ cs) = ap (λ (xs : List Component). c ∷ xs) (map-id cs)

  -- ids stay
  ids-begun : (ids : List ℕ) (cs ds : List Component) → AreBegun ids cs ds → (x : ℕ) → has_id ds x ≡ has_id cs x
  ids-begun ids [] [] each x = refl
  ids-begun ids [] (d ∷ ds) each x = absurd each
  ids-begun ids (c ∷ cs) [] each x = absurd each
  ids-begun ids (c ∷ cs) (d ∷ ds) each x = ap (λ (p : Bool × Bool). p.0 || p.1) (λ i. (ap (λ n. n == x) (begun-id channels rate _ c d each.0) i, ids-begun ids cs ds each.1 x i))

  pub begun-there : (ids : List ℕ) (t u : Tables) → FirstBegun ids t u → (x : ℕ) → is_there u x ≡ is_there t x
  begun-there ids t u all x =
      split u ∙ ap (λ (p : Bool × Bool × Bool). p.0 || (p.1 || p.2)) (λ i. (ids-begun ids t.comps u.comps all.0 x i, ids-begun ids t.buffers u.buffers all.1.0 x i, ids-begun ids t.pipes u.pipes all.1.1.0 x i)) ∙ sym (split t)
    where
      split : (t : Tables) → is_there t x ≡ (has_id t.comps x || (has_id t.buffers x || has_id t.pipes x))
      split t = list_any-append (λ c. c.id == x) t.comps (t.buffers ++ t.pipes) ∙ ap (λ h. has_id t.comps x || h) (list_any-append (λ c. c.id == x) t.buffers t.pipes)

-- each id of components and buffers is that of something
pub id-there : (t : Tables) (ids : List ℕ) → ids ≡ ids_of t → (i : ℕ) → i < length ids → is_there t (get_or ids i 0) ≡ true
id-there t ids are i low = by (has_id t.comps x) refl
  where
    x : ℕ
    x = get_or ids i 0

    in-at : (xs : List ℕ) (k : ℕ) → k < length xs → IsIn (get_or xs k 0) xs
    in-at [] k low = absurd (omega (arith, low))
    in-at (y ∷ xs) zero low = inl refl
    in-at (y ∷ xs) (suc k) low = inr (in-at xs k (omega (arith, low)))

    listed : (has_id t.comps x || has_id t.buffers x) ≡ true
    listed = sym (listed-is t x) ∙ ap (λ (xs : List ℕ). is_among xs x) (sym are) ∙ in-any (λ y. y == x) ids x (in-at ids i low) (eq-eqb x x refl)

    split : is_there t x ≡ (has_id t.comps x || (has_id t.buffers x || has_id t.pipes x))
    split = list_any-append (λ c. c.id == x) t.comps (t.buffers ++ t.pipes) ∙ ap (λ h. has_id t.comps x || h) (list_any-append (λ c. c.id == x) t.buffers t.pipes)

    by : (h : Bool) → has_id t.comps x ≡ h → is_there t x ≡ true
    by true is = split ∙ ap (λ h. h || (has_id t.buffers x || has_id t.pipes x)) is
    by false is =
        let other : has_id t.buffers x ≡ true = sym (ap (λ h. h || has_id t.buffers x) is) ∙ listed in
        split ∙ ap (λ (p : Bool × Bool). p.0 || (p.1 || has_id t.pipes x)) (λ i. (is i, other i))
