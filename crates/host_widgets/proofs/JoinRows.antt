-- When a firmware takes a join, and what its ends have room for.
use Rattle.std.proofs.Common.{◌≡◌, refl, sym, ap, ◌∙◌, ℕ, ◌≤◌, List, [], ◌∷◌, Bool, true, false, not, cond, ◌&&◌, ◌||◌, Option, Some, Ok, Err}
use Rattle.std.specs.List.{find, list_all}
use Rattle.std.proofs.lemmas.Bool.{eq-eqb, and_parts}
use Rattle.stream_law.specs.declared.graph.Kind.{Kind}
use Rattle.stream_law.specs.State.{FwState, view_of}
use Rattle.stream_law.specs.Ways.{is_end}
use Rattle.stream_law.specs.Joins.{kind_ins, kind_outs, fits_kind, with_join, would_cycle, would_stay}
use Rattle.stream_law.proofs.EdgeNumbers.{right-most, right-ins, right-outs}
use Rattle.mbox_link.specs.Step.{is_used, is_joined, takes_join, connect, no_device, busy, invalid}

-- ---- a join is made where no test refuses it

connect-by : (done : FwState) (a b c d e h : Bool) → a ≡ true → b ≡ true → c ≡ false → d ≡ true → e ≡ false → h ≡ true → cond (not (a && b)) (Err no_device) (cond c (Err busy) (cond (not d || e || not h) (Err invalid) (Ok done))) ≡ Ok done
connect-by done a b c d e h is_a is_b is_c is_d is_e is_h = rw (is_a, is_b, is_c, is_d, is_e, is_h) refl

pub connects : (f : FwState) (source sink : ℕ) → is_used f.graph source ≡ true → is_used f.graph sink ≡ true → is_joined f.graph source sink ≡ false → takes_join f.graph source sink ≡ true → would_cycle f.graph source sink ≡ false → would_stay (view_of f) source sink ≡ true → connect f source sink ≡ Ok (record f { graph = with_join f.graph (record { source = source; sink = sink }) })
connects f source sink from to free takes cycle stay =
    connect-by (record f { graph = with_join f.graph (record { source = source; sink = sink }) }) (is_used f.graph source) (is_used f.graph sink) (is_joined f.graph source sink) (takes_join f.graph source sink) (would_cycle f.graph source sink) (would_stay (view_of f) source sink) from to free takes cycle stay

-- ---- what a kind has room for

pub within-outs : (kind : Kind) (m n : ℕ) → fits_kind kind m n ≡ true → n ≤ kind_outs kind
within-outs kind m n fits = right-most (kind_outs kind) n (right-outs kind m n fits)

pub within-ins : (kind : Kind) (m n : ℕ) → fits_kind kind m n ≡ true → m ≤ kind_ins kind
within-ins kind m n fits = right-most (kind_ins kind) m (right-ins kind m n fits)

-- what is so of each component that is found
pub list_all-found : {X : Type 0} (test p : X → Bool) (xs : List X) (x : X) → list_all test xs ≡ true → find p xs ≡ Some x → test x ≡ true
list_all-found test p [] x all found = absurd (cc found)
list_all-found {X} test p (y ∷ ys) x all found = by (p y) found (list_all-found test p ys x (and_parts (test y) (list_all test ys) all).1)
  where
    by : (h : Bool) → cond h (Some y) (find p ys) ≡ Some x → (find p ys ≡ Some x → test x ≡ true) → test x ≡ true
    by true found rest = let same : y ≡ x = cc found in ap test (sym same) ∙ (and_parts (test y) (list_all test ys) all).0
    by false found rest = rest found

pub end-at : (o : Option ℕ) (c : ℕ) → o ≡ Some c → is_end o c ≡ true
end-at o c e = ap (λ (x : Option ℕ). is_end x c) e ∙ eq-eqb c c refl
