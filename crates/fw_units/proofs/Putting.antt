-- One component changed at its place.
use Rattle.std.proofs.Common.{◌≡◌, refl, sym, ap, ◌∙◌, subst, ℕ, suc, List, [], ◌∷◌, map, set, get_or, Bool, true, false, cond, ◌==◌, arith, Option, Some, None, ℤ}
use Rattle.std.proofs.lemmas.Bool.{eqb-true, false_from_ne_true}
use Rattle.std.specs.Prelude.{option_map, position, find}
use Rattle.sof_base.specs.Samples.{Frame}
use Rattle.stream_law.specs.Placed.{AreAbove, Ascends}
use Rattle.fw_units.specs.declared.component.Component.{Component}
use Rattle.fw_units.specs.Frames.{kept_words, words_by, taken_by, taken_at, pushed_by, pushed_at}
use Rattle.fw_units.proofs.Positions.{first, first-is}

some-is : {X : Type 0} (d x y : X) → Some x ≡ Some y → x ≡ y
some-is {X} d x y e = ap (λ (o : Option X). or d o) e
  where
    or : X → Option X → X
    or d (Some z) = z
    or d None = d

-- a change at one id
abbrev at_id : (Component → Component) → ℕ → Component → Component
at_id f id c = cond (c.id == id) (f c) c

-- no other has the id
none-changed : (f : Component → Component) (id : ℕ) (cs : List Component) → AreAbove (λ c. c.id) id cs → map (at_id f id) cs ≡ cs
unfolding AreAbove
none-changed f id [] all = refl
none-changed f id (c ∷ cs) all =
    let far : (c.id == id) ≡ false = false_from_ne_true (c.id == id) (λ e. omega (arith, all.0, eqb-true c.id id e)) in
    ap (λ h. cond {A = Component} h (f c) c ∷ map (at_id f id) cs) far ∙ ap (λ (xs : List Component). c ∷ xs) (none-changed f id cs all.1)

set-by : (f : Component → Component) (id : ℕ) (cs : List Component) (at : ℕ) (d : Component) → Ascends (λ c. c.id) cs → Some at ≡ first (λ c. c.id == id) cs → set cs at (f (get_or cs at d)) ≡ map (at_id f id) cs
unfolding Ascends
set-by f id [] at d all e = absurd (cc e)
set-by f id (c ∷ cs) at d all e = by (c.id == id) refl e (λ k. set-by f id cs k d all.1)
  where
    later : (o : Option ℕ) → Some at ≡ option_map suc o → ((k : ℕ) → Some k ≡ o → set cs k (f (get_or cs k d)) ≡ map (at_id f id) cs) → set (c ∷ cs) at (f (get_or (c ∷ cs) at d)) ≡ c ∷ map (at_id f id) cs
    later None e rest = absurd (cc e)
    later (Some k) e rest = ap (λ n. set (c ∷ cs) n (f (get_or (c ∷ cs) n d))) (some-is 0 at (suc k) e) ∙ ap (λ (xs : List Component). c ∷ xs) (rest k refl)

    by : (h : Bool) → (c.id == id) ≡ h → Some at ≡ cond h (Some 0) (option_map suc (first (λ x. x.id == id) cs)) → ((k : ℕ) → Some k ≡ first (λ x. x.id == id) cs → set cs k (f (get_or cs k d)) ≡ map (at_id f id) cs) → set (c ∷ cs) at (f (get_or (c ∷ cs) at d)) ≡ cond {A = Component} h (f c) c ∷ map (at_id f id) cs
    by true is e rest =
        ap (λ n. set (c ∷ cs) n (f (get_or (c ∷ cs) n d))) (some-is 0 at 0 e)
        ∙ ap (λ (xs : List Component). f c ∷ xs) (sym (none-changed f id cs (subst (λ n. AreAbove (λ x. x.id) n cs) (eqb-true c.id id is) all.0)))
    by false is e rest = later (first (λ x. x.id == id) cs) e rest

pub set-mapped : (f : Component → Component) (id : ℕ) (cs : List Component) (at : ℕ) (d : Component) → Ascends (λ c. c.id) cs → Some at ≡ position (λ c. c.id == id) cs → set cs at (f (get_or cs at d)) ≡ map (λ c. cond (c.id == id) (f c) c) cs
set-mapped f id cs at d all e = set-by f id cs at d all (e ∙ first-is (λ (c : Component). c.id == id) cs)

-- what stands at a place is found there, as is what is put there under the same id
set-found : (id : ℕ) (cs : List Component) (at : ℕ) (y d : Component) → y.id ≡ (get_or cs at d).id → Some at ≡ first (λ c. c.id == id) cs → Some y ≡ find (λ c. c.id == id) (set cs at y)
set-found id [] at y d same e = absurd (cc e)
set-found id (c ∷ cs) at y d same e = by (c.id == id) refl e (λ k s. set-found id cs k y d s)
  where
    later : (o : Option ℕ) → (c.id == id) ≡ false → Some at ≡ option_map suc o → ((k : ℕ) → y.id ≡ (get_or cs k d).id → Some k ≡ o → Some y ≡ find (λ x. x.id == id) (set cs k y)) → Some y ≡ find (λ x. x.id == id) (set (c ∷ cs) at y)
    later None is e rest = absurd (cc e)
    later (Some k) is e rest =
        let next : at ≡ suc k = some-is 0 at (suc k) e in
        rest k (same ∙ ap (λ n. (get_or (c ∷ cs) n d).id) next) refl
        ∙ ap (λ h. cond h (Some c) (find (λ x. x.id == id) (set cs k y))) (sym is)
        ∙ ap (λ n. find (λ x. x.id == id) (set (c ∷ cs) n y)) (sym next)

    by : (h : Bool) → (c.id == id) ≡ h → Some at ≡ cond h (Some 0) (option_map suc (first (λ x. x.id == id) cs)) → ((k : ℕ) → y.id ≡ (get_or cs k d).id → Some k ≡ first (λ x. x.id == id) cs → Some y ≡ find (λ x. x.id == id) (set cs k y)) → Some y ≡ find (λ x. x.id == id) (set (c ∷ cs) at y)
    by true is e rest =
        let here : at ≡ 0 = some-is 0 at 0 e in
        let it : (y.id == id) ≡ true = ap (λ n. n == id) (same ∙ ap (λ n. (get_or (c ∷ cs) n d).id) here) ∙ is in
        ap (λ h. cond h (Some y) (find (λ x. x.id == id) cs)) (sym it) ∙ ap (λ n. find (λ x. x.id == id) (set (c ∷ cs) n y)) (sym here)
    by false is e rest = later (first (λ x. x.id == id) cs) is e rest

-- a change that names the words of what it leaves
pub put-words : (g : List ℤ → Component → Component) → ((words : List ℤ) (c : Component) → (g words c).id ≡ c.id) → (id at : ℕ) (cs new : List Component) (y d : Component) → Ascends (λ c. c.id) cs → Some at ≡ position (λ c. c.id == id) cs → new ≡ set cs at y → y ≡ g (kept_words y) (get_or cs at d) → (Some y ≡ find (λ c. c.id == id) new) × (new ≡ map (λ c. cond (c.id == id) (g (words_by (find (λ x. x.id == id) new)) c) c) cs)
put-words g same id at cs new y d all e put is =
    let own : y.id ≡ (get_or cs at d).id = ap (λ (c : Component). c.id) is ∙ same (kept_words y) (get_or cs at d) in
    let found : Some y ≡ find (λ c. c.id == id) new = set-found id cs at y d own (e ∙ first-is (λ (c : Component). c.id == id) cs) ∙ ap (find (λ c. c.id == id)) (sym put) in
    (found, put ∙ ap (set cs at) is ∙ set-mapped (g (kept_words y)) id cs at d all e ∙ ap (λ (o : Option Component). map (λ c. cond (c.id == id) (g (words_by o) c) c) cs) found)

-- a ring changed at its place
module _ (id at : ℕ) (cs : List Component) (x y : Component) (ascends : Ascends (λ c. c.id) cs) (place : Some at ≡ position (λ c. c.id == id) cs) (is : x ≡ get_or cs at x) where
  pub taken-put : (n : ℕ) → y ≡ taken_by n x → set cs at y ≡ map (taken_at id n) cs
  taken-put n new = ap (set cs at) (new ∙ ap (taken_by n) is) ∙ set-mapped (taken_by n) id cs at x ascends place

  pub pushed-put : (frames : List Frame) → y ≡ pushed_by frames (kept_words y) x → set cs at y ≡ map (pushed_at id frames (words_by (find (λ c. c.id == id) (set cs at y)))) cs
  pushed-put frames new = (put-words (pushed_by frames) (λ words c. refl) id at cs (set cs at y) y x ascends place refl (new ∙ ap (pushed_by frames (kept_words y)) is)).1
