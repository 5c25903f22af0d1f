-- The tests of a topology tell the first rule that it breaks.
use Rattle.std.proofs.Common.{◌≡◌, refl, sym, ap, subst, ◌∙◌, ℕ, ◌<◌, List, [], ◌∷◌, length, Bool, true, false, not, ◌&&◌, Option, Some, None, ◌⊎◌, inl, inr}
use Rattle.std.proofs.lemmas.Bool.{false≢true, and_parts, and_from, cases_Bool}
use Rattle.stream_law.specs.declared.graph.Comp.{Comp}
use Rattle.stream_law.specs.declared.graph.Edge.{Edge}
use Rattle.tplg_model.specs.declared.block.Topology.{Topology}
use Rattle.tplg_widgets.specs.Entries.{entries_of, interpreted}
use Rattle.tplg_widgets.specs.Ends.{ends_in}
use Rattle.tplg_widgets.specs.PcmList.{pcms_of}
use Rattle.tplg_widgets.specs.GraphLists.{components_on, edges_on}
use Rattle.tplg_widgets.specs.Ends.{joins_of}
use Rattle.tplg_widgets.specs.WiringValue.{WiringValue, wiring_of}
use Rattle.tplg_walks.specs.Rules.{Rule, item_test, AllHold, BreaksOf}
use Rattle.tplg_walks.specs.FirstFailing.{IsFirstFailing}
use Rattle.tplg_walks.specs.Cycles.{Reaches, ReachesCapture, plays_at, cycles_rule, captures_rule}
use Rattle.tplg_rules.specs.WellFormed.{IsWellFormed, Breaks, rules_on}
use Rattle.tplg_walks.specs.Echoes.{reaches, plain_edges}
use Rattle.tplg_rules.specs.RuleTest.{leads_to_capture, Test, first_failing, ruled, ruling, tests_on, ruling_of}
use Rattle.tplg_rules.proofs.RuleLaws.{none_breaks, one_breaks, first-found}
use Rattle.tplg_walks.proofs.Leading.{reaches-from, reaches-to, capture-reached, reached-capture}

-- a test says at each item what a rule says there
pub record Same (r : Rule) (x : Test) : Type 0 where
  pub number : r.number ≡ x.number
  pub items : r.items ≡ x.items
  pub holds : (i : ℕ) → x.holds i ≡ true → r.Holds i
  pub kept : (i : ℕ) → r.Holds i → x.holds i ≡ true

abbrev pub AllSame : List Rule → List Test → Type 0
AllSame [] [] = Unit {0}
AllSame (r ∷ rs) (x ∷ xs) = Same r x × AllSame rs xs
AllSame _ _ = ⊥

-- what is told of the rules
abbrev pub Told : List Rule → Option (ℕ × ℕ) → Type 0
Told rs None = AllHold rs
Told rs (Some at) = BreaksOf rs at.0 at.1

one-told : (r : Rule) (x : Test) (o : Option ℕ) → Same r x → IsFirstFailing (item_test x.number x.items x.holds) o → IsFirstFailing r o
one-told r x None s f = λ i within. s.holds i (f i (subst (λ n. i < n) s.items within))
one-told r x (Some item) s f =
    record { within = subst (λ n. item < n) (sym s.items) f.within; fails = λ h. f.fails (s.kept item h); before = λ i low. s.holds i (f.before i low) }

all-told : (rs : List Rule) (xs : List Test) → AllSame rs xs → Told rs (ruling xs)
all-told [] [] s = tt
all-told [] (x ∷ xs) s = absurd s
all-told (r ∷ rs) [] s = absurd s
all-told (r ∷ rs) (x ∷ xs) s =
    by_first (first_failing x) (one-told r x (first_failing x) s.0 (first-found x.number x.items x.holds (first_failing x) refl)) (ruling xs) (all-told rs xs s.1)
  where
    by_first : (o : Option ℕ) → IsFirstFailing r o → (later : Option (ℕ × ℕ)) → Told rs later → Told (r ∷ rs) (ruled x.number o later)
    by_first (Some item) f later t = inl (s.0.number, f)
    by_first None f None t = (f, t)
    by_first None f (Some at) t = inr (f, t)

same : (number items : ℕ) (test : ℕ → Bool) → Same (item_test number items test) (record { number = number; items = items; holds = test })
same number items test = record { number = refl; items = refl; holds = λ i h. h; kept = λ i h. h }

-- ---- rule 14

cycle-same : (ids : ℕ) (edges : List Edge) → Same (cycles_rule ids edges) (record { number = 14; items = ids; holds = λ id. not (reaches edges id id) })
cycle-same ids edges = record { number = refl; items = refl; holds = λ i h r. none i h r; kept = λ i r. kept i r (cases_Bool (reaches edges i i)) }
  where
    none : (i : ℕ) → not (reaches edges i i) ≡ true → Reaches edges i i → ⊥
    none i h r = false≢true (ap not (sym (reaches-to edges i i r)) ∙ h)

    kept : (i : ℕ) → (Reaches edges i i → ⊥) → (reaches edges i i ≡ true) ⊎ (reaches edges i i ≡ false) → not (reaches edges i i) ≡ true
    kept i r (inl h) = absurd (r (reaches-from edges i i h))
    kept i r (inr h) = ap not h

way-same : (ids : ℕ) (comps : List Comp) (edges : List Edge) → Same (captures_rule ids comps edges) (record { number = 14; items = ids; holds = λ id. not (plays_at comps id && leads_to_capture comps edges id) })
way-same ids comps edges = record { number = refl; items = refl; holds = λ i h p r. none i h p r; kept = λ i r. kept i r (cases_Bool (plays_at comps i && leads_to_capture comps edges i)) }
  where
    none : (i : ℕ) → not (plays_at comps i && leads_to_capture comps edges i) ≡ true → plays_at comps i ≡ true → ReachesCapture comps edges i → ⊥
    none i h p r = false≢true (ap not (sym (and_from (plays_at comps i) (leads_to_capture comps edges i) p (reached-capture comps edges i r))) ∙ h)

    kept : (i : ℕ) → (plays_at comps i ≡ true → ReachesCapture comps edges i → ⊥) → ((plays_at comps i && leads_to_capture comps edges i) ≡ true) ⊎ ((plays_at comps i && leads_to_capture comps edges i) ≡ false) → not (plays_at comps i && leads_to_capture comps edges i) ≡ true
    kept i r (inl h) = let parts = and_parts (plays_at comps i) (leads_to_capture comps edges i) h in absurd (r parts.0 (capture-reached comps edges i parts.1))
    kept i r (inr h) = ap not h

-- ---- all rules of a topology

all-same : (w : WiringValue) → AllSame (rules_on w.widgets (interpreted w.widgets) w.pcms w.ends w.joins) (tests_on w)
all-same w =
    (same _ _ _, (same _ _ _, (same _ _ _, (same _ _ _, (same _ _ _, (same _ _ _, (same _ _ _, (same _ _ _, (same _ _ _, (same _ _ _, (same _ _ _, (same _ _ _, (same _ _ _, (cycle-same (length (interpreted w.widgets)) (edges_on (interpreted w.widgets) w.joins), (way-same (length (interpreted w.widgets)) (components_on (interpreted w.widgets) w.joins) (plain_edges (components_on (interpreted w.widgets) w.joins) (edges_on (interpreted w.widgets) w.joins)), tt)))))))))))))))

told : (t : Topology) (o : Option (ℕ × ℕ)) → ruling_of t ≡ o → (IsWellFormed t × (o ≡ None)) ⊎ ((rule : ℕ) × (item : ℕ) × Breaks t rule item × (o ≡ Some (rule, item)))
unfolding ruling_of
told t o is = by_told (ruling_of t) (all-told (rules_on (entries_of t) (interpreted (entries_of t)) (pcms_of t) (ends_in t) (joins_of t)) (tests_on (wiring_of t)) (all-same (wiring_of t))) is
  where
    by_told : (r : Option (ℕ × ℕ)) → Told (rules_on (entries_of t) (interpreted (entries_of t)) (pcms_of t) (ends_in t) (joins_of t)) r → r ≡ o → (IsWellFormed t × (o ≡ None)) ⊎ ((rule : ℕ) × (item : ℕ) × Breaks t rule item × (o ≡ Some (rule, item)))
    by_told None w e = inl (w, sym e)
    by_told (Some at) w e = inr (at.0, at.1, w, sym e)

-- a topology is well-formed exactly where none is told
pub whole_none : (t : Topology) → IsWellFormed t → ruling_of t ≡ None
whole_none t whole = by_told (told t (ruling_of t) refl)
  where
    by_told : (IsWellFormed t × (ruling_of t ≡ None)) ⊎ ((rule : ℕ) × (item : ℕ) × Breaks t rule item × (ruling_of t ≡ Some (rule, item))) → ruling_of t ≡ None
    by_told (inl w) = w.1
    by_told (inr w) = absurd (none_breaks (rules_on (entries_of t) (interpreted (entries_of t)) (pcms_of t) (ends_in t) (joins_of t)) w.0 w.1 whole w.2)

pub none_whole : (t : Topology) → ruling_of t ≡ None → IsWellFormed t
none_whole t none = by_told (told t (ruling_of t) refl)
  where
    by_told : (IsWellFormed t × (ruling_of t ≡ None)) ⊎ ((rule : ℕ) × (item : ℕ) × Breaks t rule item × (ruling_of t ≡ Some (rule, item))) → IsWellFormed t
    by_told (inl w) = w.0
    by_told (inr w) = absurd (cc (sym none ∙ w.3))

-- and breaks a rule first at an item exactly where these are told
pub breaks_some : (t : Topology) (rule item : ℕ) → Breaks t rule item → ruling_of t ≡ Some (rule, item)
breaks_some t rule item breaks = by_told (told t (ruling_of t) refl)
  where
    by_told : (IsWellFormed t × (ruling_of t ≡ None)) ⊎ ((rule : ℕ) × (item : ℕ) × Breaks t rule item × (ruling_of t ≡ Some (rule, item))) → ruling_of t ≡ Some (rule, item)
    by_told (inl w) = absurd (none_breaks (rules_on (entries_of t) (interpreted (entries_of t)) (pcms_of t) (ends_in t) (joins_of t)) rule item w.0 breaks)
    by_told (inr w) =
        let one = one_breaks (rules_on (entries_of t) (interpreted (entries_of t)) (pcms_of t) (ends_in t) (joins_of t)) w.0 w.1 rule item w.2 breaks in
        w.3 ∙ (λ i. Some (one.0 i, one.1 i))

pub some_breaks : (t : Topology) (rule item : ℕ) → ruling_of t ≡ Some (rule, item) → Breaks t rule item
some_breaks t rule item is = by_told (told t (ruling_of t) refl)
  where
    by_told : (IsWellFormed t × (ruling_of t ≡ None)) ⊎ ((rule : ℕ) × (item : ℕ) × Breaks t rule item × (ruling_of t ≡ Some (rule, item))) → Breaks t rule item
    by_told (inl w) = absurd (cc (sym w.1 ∙ is))
    by_told (inr w) =
        let pair : (w.0, w.1) ≡ (rule, item) = cc (sym w.3 ∙ is) in
        subst (λ (p : ℕ × ℕ). Breaks t p.0 p.1) pair w.2
