-- What is up is itself between what is up and the whole.
use Rattle.std.proofs.Common.{◌≡◌, refl, sym, ap, ◌∙◌, ℕ, List, [], ◌∷◌, filter, Bool, true, false, cond, ◌==◌, Some, None}
use Rattle.std.specs.Prelude.{Option, find}
use Rattle.std.specs.Option.{option_map_or}
use Rattle.std.proofs.lemmas.Bool.{false≢true, eqb-true, eq-eqb}
use Rattle.stream_law.specs.declared.graph.Comp.{Comp}
use Rattle.stream_law.specs.declared.graph.Edge.{Edge}
use Rattle.stream_law.specs.declared.graph.Graph.{Graph}
use Rattle.stream_law.specs.Ways.{comp_of, edge_of, is_echo, on_way, touch}
use Rattle.stream_law.specs.Order.{is_among}
use Rattle.stream_law.proofs.Members.{in-all, find-in, in-kept, kept-in}
use Rattle.tplg_plan.specs.declared.plans.Plan.{Plan}
use Rattle.tplg_plan.specs.Sound.{IsSound}
use Rattle.host_widgets.proofs.NamedIds.{each-comp, each-edge}
use Rattle.host_widgets.specs.Need.{HasBrought, IsEnough}
use Rattle.host_widgets.specs.Up.{is_join_at, buffer_joins, graph_of_up}
use Rattle.host_widgets.proofs.Needs.{in-flat, flat-in, among-in}
use Rattle.host_widgets.proofs.Between.{IsBetween, none-echo, never-echo, up-named, edge-named, echo-stays}
use Rattle.host_widgets.proofs.BetweenWays.{way-stays}
use Rattle.host_widgets.proofs.BetweenTouches.{touch-stays}
use Rattle.host_widgets.specs.Indices.{is_up}

pub found-left : {X : Type 0} (p q : X → Bool) (xs : List X) (x : X) → find p xs ≡ Some x → q x ≡ true → find p (filter q xs) ≡ Some x
found-left p q [] x found is = absurd (cc found)
found-left {X} p q (y ∷ ys) x found is = by (p y) refl found (q y) refl (found-left p q ys x)
  where
    by : (h : Bool) → p y ≡ h → cond h (Some y) (find p ys) ≡ Some x → (k : Bool) → q y ≡ k → (find p ys ≡ Some x → q x ≡ true → find p (filter q ys) ≡ Some x) → find p (cond k (y ∷ filter q ys) (filter q ys)) ≡ Some x
    by true at found true keep rest = ap (λ (b : Bool). cond b (Some y) (find p (filter q ys))) at ∙ found
    by true at found false keep rest = let one : y ≡ x = cc found in absurd (false≢true (sym keep ∙ ap q one ∙ is))
    by false at found true keep rest = ap (λ (b : Bool). cond b (Some y) (find p (filter q ys))) at ∙ rest found is
    by false at found false keep rest = rest found is

module _ (plan : Plan) (sound : IsSound plan) (up : List ℕ) where
  abbrev g : Graph
  g = plan.graph

  abbrev h : Graph
  h = graph_of_up g up

  abbrev has : ℕ → Bool
  has i = is_among up i

  up-comp : (a : ℕ) (c : Comp) → comp_of h a ≡ Some c → comp_of g a ≡ Some c
  up-comp a c found =
      let r = find-in (λ (x : Comp). x.id == a) h.comps c found in
      let k = kept-in (λ (x : Comp). has x.pipe) g.comps c r.0 in
      ap (comp_of g) (sym (eqb-true c.id a r.1)) ∙ in-all (λ (x : Comp). comp_of g x.id ≡ Some x) g.comps c (each-comp plan sound) k.0

  up-edge : (b : ℕ) (e : Edge) → edge_of h b ≡ Some e → edge_of g b ≡ Some e
  up-edge b e found =
      let r = find-in (λ (x : Edge). x.buffer == b) h.edges e found in
      let k = kept-in (λ (x : Edge). has x.pipe) g.edges e r.0 in
      ap (edge_of g) (sym (eqb-true e.buffer b r.1)) ∙ in-all (λ (x : Edge). edge_of g x.buffer ≡ Some x) g.edges e (each-edge plan sound) k.0

  pub part-between : IsBetween g up h
  part-between = record {
    comp_whole = λ a c found. (c, up-comp a c found, refl);
    comp_up = λ a d found there. (d, found-left (λ (x : Comp). x.id == a) (λ (x : Comp). has x.pipe) g.comps d found there, refl);
    edge_whole = λ b e found. (e, up-edge b e found, λ c is. is, λ c is. is);
    edge_up = λ b f found there. found-left (λ (x : Edge). x.buffer == b) (λ (x : Edge). has x.pipe) g.edges f found there;
    join_whole = λ j there. let r = flat-in (buffer_joins g) up j there in (kept-in (is_join_at g r.0) g.joins j r.2).0;
    join_up = λ j i there at in_up. in-flat (buffer_joins g) up i j (among-in up i in_up)
        (in-kept (is_join_at g i) g.joins j there (ap (λ (o : Option ℕ). option_map_or (λ k. k == i) o false) at ∙ eq-eqb i i refl));
  }

  -- ---- the laws of the part

  pub part-echo : HasBrought g (is_among up) → (b : ℕ) → is_up g up b ≡ true → is_echo h b ≡ is_echo g b
  part-echo brought b there = by (edge_of g b) refl
    where
      by : (o : Option Edge) → edge_of g b ≡ o → is_echo h b ≡ is_echo g b
      by None at = none-echo plan sound up h part-between b at ∙ sym (never-echo g b at)
      by (Some e) at = echo-stays plan sound up h part-between brought b e at (up-named plan sound up b e.pipe (edge-named plan sound up b e at) there)

  pub part-way : (host : ℕ) → IsEnough g host (is_among up) → (x : ℕ) → on_way h host x ≡ on_way g host x
  part-way host enough x = way-stays plan sound up h part-between host enough x

  pub part-touch : (a b : ℕ) → IsEnough g a (is_among up) → IsEnough g b (is_among up) → touch h a b ≡ touch g a b
  part-touch a b first second = touch-stays plan sound up h part-between a b first second
