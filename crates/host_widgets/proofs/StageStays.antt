-- From one stage to another, with all that is up there, the ways of streams that have parameters stay, and streams agree.
use Rattle.std.proofs.Common.{◌≡◌, refl, sym, ap, subst, ◌∙◌, ℕ, List, [], ◌∷◌, ◌++◌, map, filter, Bool, true, false, not, inl, inr, ◌||◌, ◌&&◌, Some, None, is_some}
use Rattle.std.specs.Prelude.{Option}
use Rattle.std.specs.List.{zip, list_any, list_all}
use Rattle.std.proofs.lemmas.Bool.{true≢false, and_parts, and_from, or_right, false_from_ne_true}
use Rattle.sof_base.specs.declared.format.Params.{Params}
use Rattle.stream_law.specs.declared.graph.Comp.{Comp}
use Rattle.stream_law.specs.declared.graph.Graph.{Graph}
use Rattle.stream_law.specs.declared.stream.StreamView.{StreamView}
use Rattle.stream_law.specs.Ways.{components, buffers, on_way, touch, same_shape, agree}
use Rattle.stream_law.specs.Joins.{same_test, has_stayed, stays}
use Rattle.stream_law.specs.Order.{is_among}
use Rattle.stream_law.proofs.Members.{IsIn, kept-in}
use Rattle.tplg_plan.specs.declared.plans.Plan.{Plan}
use Rattle.tplg_plan.specs.Sound.{IsSound}
use Rattle.host_widgets.specs.declared.kept.Record.{Record}
use Rattle.host_widgets.specs.Kept.{control_at}
use Rattle.host_widgets.specs.Expected.{stream_view}
use Rattle.host_widgets.specs.ViewOf.{graph_by, record_setting, record_view}
use Rattle.host_widgets.proofs.ReadyWays.{touch-set}
use Rattle.host_widgets.specs.Need.{IsEnough}
use Rattle.host_widgets.proofs.Needs.{in-map, has-at}
use Rattle.host_widgets.proofs.Between.{IsBetween}
use Rattle.host_widgets.proofs.BetweenWays.{way-stays}
use Rattle.host_widgets.proofs.BetweenTouches.{touch-stays}
use Rattle.host_widgets.proofs.UpStages.{StreamPair}
use Rattle.host_widgets.specs.Indices.{index_at}

-- a test that each member passes
pub all-pass : {X : Type 0} (test : X → Bool) (xs : List X) → ((x : X) → IsIn x xs → test x ≡ true) → list_all test xs ≡ true
all-pass test [] each = refl
all-pass test (x ∷ xs) each = and_from (test x) (list_all test xs) (each x (inl refl)) (all-pass test xs (λ y there. each y (inr there)))

pub pass-each : {X : Type 0} (test : X → Bool) (xs : List X) (x : X) → list_all test xs ≡ true → IsIn x xs → test x ≡ true
pass-each test [] x all none = absurd none
pass-each test (y ∷ ys) x all (inl same) = ap test same ∙ (and_parts (test y) (list_all test ys) all).0
pass-each test (y ∷ ys) x all (inr more) = pass-each test ys x (and_parts (test y) (list_all test ys) all).1 more

-- what a member of a map comes from
pub from-map : {X Y : Type 0} (f : X → Y) (xs : List X) (y : Y) → IsIn y (map f xs) → (x : X) × IsIn x xs × (y ≡ f x)
from-map f [] y none = absurd none
from-map f (x ∷ xs) y (inl same) = (x, inl refl, same)
from-map f (x ∷ xs) y (inr more) = let r = from-map f xs y more in (r.0, inr r.1, r.2)

same-tests : (a b : Bool) → a ≡ b → same_test a b ≡ true
same-tests true b e = sym e
same-tests false b e = ap not (sym e)

-- the streams that have parameters have what they need
abbrev pub AreHeldUp : Plan → Record → List ℕ → Type 0
AreHeldUp plan kept up = (p : StreamPair) → IsIn p (zip plan.streams kept.streams) → is_some p.1.params ≡ true → IsEnough plan.graph p.0.host (is_among up)

module _ (plan : Plan) (sound : IsSound plan) (kept : Record) (up : List ℕ) (held : AreHeldUp plan kept up) (shapes : agree (record_view plan kept) ≡ true) (left : StreamPair → Bool) where
  abbrev g : Graph
  g = plan.graph

  abbrev pairs : List StreamPair
  pairs = filter left (zip plan.streams kept.streams)

  abbrev streams : List StreamView
  streams = map stream_view pairs

  -- a stream of these, with its record
  from-pair : (s : StreamView) → IsIn s streams → (p : StreamPair) × IsIn p (zip plan.streams kept.streams) × (s ≡ stream_view p)
  from-pair s there = let r = from-map stream_view pairs s there in (r.0, (kept-in left (zip plan.streams kept.streams) r.0 r.1).0, r.2)

  pub held-stream : (s : StreamView) → IsIn s streams → is_some s.params ≡ true → IsEnough g s.host (is_among up)
  held-stream s there some =
      let r = from-pair s there in
      subst (λ (h : ℕ). IsEnough g h (is_among up)) (ap (λ (x : StreamView). x.host) (sym r.2)) (held r.0 r.1 (ap (λ (x : StreamView). is_some x.params) (sym r.2) ∙ some))

  in-whole : (s : StreamView) → IsIn s streams → IsIn s (record_view plan kept).streams
  in-whole s there =
      let r = from-pair s there in
      subst (λ (x : StreamView). IsIn x (map stream_view (zip plan.streams kept.streams))) (sym r.2) (in-map stream_view (zip plan.streams kept.streams) r.0 r.1)

  -- two of them touch as in the whole
  fair : (m : Graph) → IsBetween g up m → (s t : StreamView) → IsIn s streams → IsIn t streams → (not (touch m s.host t.host) || same_shape s.params t.params) ≡ true
  unfolding agree
  fair m between s t s_in t_in = by (is_some s.params) refl (is_some t.params) refl
    where
      none-first : (o p : Option Params) → is_some o ≡ false → same_shape o p ≡ true
      none-first None p e = refl
      none-first (Some x) p e = absurd (true≢false e)

      none-second : (o p : Option Params) → is_some p ≡ false → same_shape o p ≡ true
      none-second None p e = refl
      none-second (Some x) None e = refl
      none-second (Some x) (Some y) e = absurd (true≢false e)

      whole : (not (touch (graph_by plan kept) s.host t.host) || same_shape s.params t.params) ≡ true
      whole =
          let views = (record_view plan kept).streams in
          pass-each (λ (u : StreamView). not (touch (graph_by plan kept) s.host u.host) || same_shape s.params u.params) views t
          (pass-each (λ (v : StreamView). list_all (λ (u : StreamView). not (touch (graph_by plan kept) v.host u.host) || same_shape v.params u.params) views) views s shapes (in-whole s s_in)) (in-whole t t_in)

      by : (a : Bool) → is_some s.params ≡ a → (b : Bool) → is_some t.params ≡ b → (not (touch m s.host t.host) || same_shape s.params t.params) ≡ true
      by true a true b =
          let same = touch-stays plan sound up m between s.host t.host (held-stream s s_in a) (held-stream t t_in b) in
          let set = touch-set g (λ (c : Comp). record_setting c.kind (control_at plan kept c.id)) s.host t.host in
          ap (λ (h : Bool). not h || same_shape s.params t.params) (same ∙ sym set) ∙ whole
      by true a false b = or_right (not (touch m s.host t.host)) (same_shape s.params t.params) (none-second s.params t.params b)
      by false a b' b = or_right (not (touch m s.host t.host)) (same_shape s.params t.params) (none-first s.params t.params a)

  pub streams-agree : (m : Graph) → IsBetween g up m → agree (record { graph = m; streams = streams }) ≡ true
  unfolding agree
  streams-agree m between = all-pass (λ (s : StreamView). list_all (λ (t : StreamView). not (touch m s.host t.host) || same_shape s.params t.params) streams) streams (λ s s_in.
      all-pass (λ (t : StreamView). not (touch m s.host t.host) || same_shape s.params t.params) streams (λ t t_in. fair m between s t s_in t_in))

  -- the way of each that has parameters is what it was
  pub ways-stay : (m l : Graph) → IsBetween g up m → IsBetween g up l → stays (record { graph = m; streams = streams }) l ≡ true
  unfolding stays
  ways-stay m l first second =
      and_from (list_all (λ (s : StreamView). not (is_some s.params) || has_stayed m l s.host) streams) (agree (record { graph = l; streams = streams }))
      (all-pass (λ (s : StreamView). not (is_some s.params) || has_stayed m l s.host) streams one) (streams-agree l second)
    where
      one : (s : StreamView) → IsIn s streams → (not (is_some s.params) || has_stayed m l s.host) ≡ true
      one s there = by (is_some s.params) refl
        where
          by : (h : Bool) → is_some s.params ≡ h → (not h || has_stayed m l s.host) ≡ true
          by false e = refl
          by true e =
              all-pass (λ (x : ℕ). same_test (on_way m s.host x) (on_way l s.host x)) ((components m ++ buffers m) ++ (components l ++ buffers l)) (λ x here.
              same-tests (on_way m s.host x) (on_way l s.host x) (way-stays plan sound up m first s.host (held-stream s there e) x ∙ sym (way-stays plan sound up l second s.host (held-stream s there e) x)))

  -- what is not up is on the way of none that has parameters
  pub not-held : (m : Graph) → IsBetween g up m → (x i : ℕ) → index_at g x ≡ Some i → is_among up i ≡ false → list_any (λ (s : StreamView). is_some s.params && on_way m s.host x) streams ≡ false
  not-held m between x i at apart = none streams (λ s there. there)
    where
      one : (s : StreamView) → IsIn s streams → (is_some s.params && on_way m s.host x) ≡ false
      one s there = false_from_ne_true (is_some s.params && on_way m s.host x) (λ is.
          let p = and_parts (is_some s.params) (on_way m s.host x) is in
          let enough = held-stream s there p.0 in
          true≢false (sym (has-at (is_among up) (index_at g x) i at (enough.way x (sym (way-stays plan sound up m between s.host enough x) ∙ p.1))) ∙ apart))

      none : (ss : List StreamView) → ((s : StreamView) → IsIn s ss → IsIn s streams) → list_any (λ (s : StreamView). is_some s.params && on_way m s.host x) ss ≡ false
      none [] within = refl
      none (s ∷ ss) within = or_none (is_some s.params && on_way m s.host x) (one s (within s (inl refl))) (none ss (λ t there. within t (inr there)))
        where
          or_none : (b : Bool) → b ≡ false → list_any (λ (s : StreamView). is_some s.params && on_way m s.host x) ss ≡ false → (b || list_any (λ (s : StreamView). is_some s.params && on_way m s.host x) ss) ≡ false
          or_none true e rest = absurd (true≢false e)
          or_none false e rest = rest
