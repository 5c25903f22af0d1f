-- In a graph between what is up and the whole, two streams that have what they need touch where they touch in the whole.
use Rattle.std.proofs.Common.{◌≡◌, refl, sym, ap, ◌∙◌, ℕ, List, ◌++◌, Bool, true, false, inl, inr, ◌⊎◌, ◌||◌, ◌&&◌, Some, None}
use Rattle.std.specs.Prelude.{Option}
use Rattle.std.specs.Option.{option_and_then}
use Rattle.std.proofs.lemmas.Bool.{false≢true, and_parts}
use Rattle.stream_law.specs.declared.graph.Comp.{Comp}
use Rattle.stream_law.specs.declared.graph.Edge.{Edge}
use Rattle.stream_law.specs.declared.graph.Graph.{Graph}
use Rattle.stream_law.specs.Ways.{edge_of, components, buffers, source_of, sink_of, is_of, splits, is_echo, on_way, share, is_end_on_way, echoes, touch}
use Rattle.stream_law.specs.Order.{is_among}
use Rattle.stream_law.proofs.Members.{IsIn, any-in, in-any}
use Rattle.tplg_plan.specs.declared.plans.Plan.{Plan}
use Rattle.tplg_plan.specs.Sound.{IsSound}
use Rattle.host_widgets.specs.Need.{HasAt, IsEnough}
use Rattle.host_widgets.proofs.Needs.{in-left, in-right, in-either, has-at}
use Rattle.host_widgets.proofs.Between.{IsBetween, same-bools, member-found, found-member, kind-at, comp-named, edge-named, up-named, behind-up, source-walk, whole-kind, echo-stays}
use Rattle.host_widgets.proofs.BetweenWays.{echo-splits, way-stays}
use Rattle.host_widgets.specs.Indices.{index_at}

module _ (plan : Plan) (sound : IsSound plan) (up : List ℕ) (k : Graph) (between : IsBetween plan.graph up k) where
  abbrev g : Graph
  g = plan.graph

  abbrev has : ℕ → Bool
  has i = is_among up i

  -- ---- ids

  whole-ids : (x : ℕ) → IsIn x (components k ++ buffers k) → IsIn x (components g ++ buffers g)
  whole-ids x there = by (in-either (components k) (buffers k) x there)
    where
      by : IsIn x (components k) ⊎ IsIn x (buffers k) → IsIn x (components g ++ buffers g)
      by (inl c) =
          let r = member-found (λ (c : Comp). c.id) k.comps x c in
          let w = between.comp_whole x r.0 r.1 in
          in-left (components g) (buffers g) x (found-member (λ (c : Comp). c.id) g.comps x w.0 w.1)
      by (inr e) =
          let r = member-found (λ (e : Edge). e.buffer) k.edges x e in
          let w = between.edge_whole x r.0 r.1 in
          in-right (components g) (buffers g) x (found-member (λ (e : Edge). e.buffer) g.edges x w.0 w.1)

  edge-in : (x : ℕ) (e : Edge) → edge_of g x ≡ Some e → has e.pipe ≡ true → IsIn x (buffers k)
  edge-in x e at keeps = found-member (λ (f : Edge). f.buffer) k.edges x e (between.edge_up x e at keeps)

  ids-up : (x : ℕ) → IsIn x (components g ++ buffers g) → HasAt has (index_at g x) → IsIn x (components k ++ buffers k)
  ids-up x there at = by (in-either (components g) (buffers g) x there)
    where
      by : IsIn x (components g) ⊎ IsIn x (buffers g) → IsIn x (components k ++ buffers k)
      by (inl c) =
          let r = member-found (λ (c : Comp). c.id) g.comps x c in
          let u = between.comp_up x r.0 r.1 (has-at has (index_at g x) r.0.pipe (comp-named plan sound up x r.0 r.1) at) in
          in-left (components k) (buffers k) x (found-member (λ (c : Comp). c.id) k.comps x u.0 u.1)
      by (inr e) =
          let r = member-found (λ (e : Edge). e.buffer) g.edges x e in
          in-right (components k) (buffers k) x (edge-in x r.0 r.1 (has-at has (index_at g x) r.0.pipe (edge-named plan sound up x r.0 r.1) at))

  module _ (a b : ℕ) (first : IsEnough g a (is_among up)) (second : IsEnough g b (is_among up)) where
    abbrev is_shared : Graph → ℕ → Bool
    is_shared m x = on_way m a x && on_way m b x

    first-way : (x : ℕ) → on_way k a x ≡ on_way g a x
    first-way x = way-stays plan sound up k between a first x

    second-way : (x : ℕ) → on_way k b x ≡ on_way g b x
    second-way x = way-stays plan sound up k between b second x

    shared-stays : (x : ℕ) → is_shared k x ≡ is_shared g x
    shared-stays x = λ i. first-way x i && second-way x i

    shares-stay : share k a b ≡ share g a b
    shares-stay = same-bools (share k a b) (share g a b) one other
      where
        one : share k a b ≡ true → share g a b ≡ true
        one is =
            let r = any-in (is_shared k) (components k ++ buffers k) is in
            in-any (is_shared g) (components g ++ buffers g) r.0 (whole-ids r.0 r.1) (sym (shared-stays r.0) ∙ r.2)

        other : share g a b ≡ true → share k a b ≡ true
        other is =
            let r = any-in (is_shared g) (components g ++ buffers g) is in
            let on = (and_parts (on_way g a r.0) (on_way g b r.0) r.2).0 in
            in-any (is_shared k) (components k ++ buffers k) r.0 (ids-up r.0 r.1 (first.way r.0 on)) (shared-stays r.0 ∙ r.2)

    -- ---- echo edges from one to the other

    abbrev is_echoed : Graph → ℕ → Bool
    is_echoed m x = is_echo m x && is_end_on_way m a (source_of m x) && is_end_on_way m b (sink_of m x)

    first-end : (o : Option ℕ) → is_end_on_way k a o ≡ is_end_on_way g a o
    first-end None = refl
    first-end (Some y) = first-way y

    second-end : (o : Option ℕ) → is_end_on_way k b o ≡ is_end_on_way g b o
    second-end None = refl
    second-end (Some y) = second-way y

    echoed-stays : (x : ℕ) (e : Edge) → edge_of g x ≡ Some e → has e.pipe ≡ true → is_echoed k x ≡ is_echoed g x
    echoed-stays x e at keeps =
        let echo = echo-stays plan sound up k between first.closed x e at keeps in
        let same : edge_of k x ≡ edge_of g x = between.edge_up x e at keeps ∙ sym at in
        let source : is_end_on_way k a (source_of k x) ≡ is_end_on_way g a (source_of g x) = ap (λ (o : Option Edge). is_end_on_way k a (option_and_then (λ (f : Edge). f.source) o)) same ∙ first-end (source_of g x) in
        let sink : is_end_on_way k b (sink_of k x) ≡ is_end_on_way g b (sink_of g x) = ap (λ (o : Option Edge). is_end_on_way k b (option_and_then (λ (f : Edge). f.sink) o)) same ∙ second-end (sink_of g x) in
        λ i. echo i && source i && sink i

    -- an edge out of a component that splits on the way of the first is up
    behind-way : (x s : ℕ) (e : Edge) → edge_of g x ≡ Some e → e.source ≡ Some s → is_of g splits s ≡ true → on_way g a s ≡ true → has e.pipe ≡ true
    behind-way x s e at from split on =
        let r = kind-at g splits s split in
        let there : has r.0.pipe ≡ true = has-at has (index_at g s) r.0.pipe (comp-named plan sound up s r.0 r.1) (first.way s on) in
        up-named plan sound up x e.pipe (edge-named plan sound up x e at) (behind-up plan sound up first.closed s r.0 r.1 there r.2 x (source-walk plan sound up x s e at from))

    some-end : (m : Graph) (o : Option ℕ) → is_end_on_way m a o ≡ true → (s : ℕ) × (o ≡ Some s) × (on_way m a s ≡ true)
    some-end m None is = absurd (false≢true is)
    some-end m (Some s) is = (s, refl, is)

    abbrev IsEdgeUp : ℕ → Type 0
    IsEdgeUp x = (e : Edge) × (edge_of g x ≡ Some e) × (has e.pipe ≡ true)

    parts : (m : Graph) (x : ℕ) → is_echoed m x ≡ true → (is_echo m x ≡ true) × (is_end_on_way m a (source_of m x) ≡ true)
    parts m x is = and_parts (is_echo m x) (is_end_on_way m a (source_of m x)) (and_parts (is_echo m x && is_end_on_way m a (source_of m x)) (is_end_on_way m b (sink_of m x)) is).0

    from-between : (x : ℕ) → IsIn x (buffers k) → is_echoed k x ≡ true → IsEdgeUp x
    from-between x there is =
        let p = parts k x is in
        let r = member-found (λ (e : Edge). e.buffer) k.edges x there in
        let w = between.edge_whole x r.0 r.1 in
        let s = some-end k (source_of k x) p.1 in
        let from : r.0.source ≡ Some s.0 = sym (ap (option_and_then (λ (f : Edge). f.source)) r.1) ∙ s.1 in
        let split = whole-kind plan sound up k between splits s.0 (echo-splits k x s.0 p.0 s.1) in
        (w.0, w.1, behind-way x s.0 w.0 w.1 (w.2 s.0 from) split (sym (first-way s.0) ∙ s.2))

    from-whole : (x : ℕ) → IsIn x (buffers g) → is_echoed g x ≡ true → IsEdgeUp x
    from-whole x there is =
        let p = parts g x is in
        let r = member-found (λ (e : Edge). e.buffer) g.edges x there in
        let s = some-end g (source_of g x) p.1 in
        let from : r.0.source ≡ Some s.0 = sym (ap (option_and_then (λ (f : Edge). f.source)) r.1) ∙ s.1 in
        (r.0, r.1, behind-way x s.0 r.0 r.1 from (echo-splits g x s.0 p.0 s.1) s.2)

    echoes-stay : echoes k a b ≡ echoes g a b
    echoes-stay = same-bools (echoes k a b) (echoes g a b) one other
      where
        one : echoes k a b ≡ true → echoes g a b ≡ true
        one is =
            let r = any-in (is_echoed k) (buffers k) is in
            let e = from-between r.0 r.1 r.2 in
            in-any (is_echoed g) (buffers g) r.0 (found-member (λ (f : Edge). f.buffer) g.edges r.0 e.0 e.1) (sym (echoed-stays r.0 e.0 e.1 e.2) ∙ r.2)

        other : echoes g a b ≡ true → echoes k a b ≡ true
        other is =
            let r = any-in (is_echoed g) (buffers g) is in
            let e = from-whole r.0 r.1 r.2 in
            in-any (is_echoed k) (buffers k) r.0 (edge-in r.0 e.0 e.1 e.2) (echoed-stays r.0 e.0 e.1 e.2 ∙ r.2)

  pub touch-stays : (a b : ℕ) → IsEnough g a (is_among up) → IsEnough g b (is_among up) → touch k a b ≡ touch g a b
  touch-stays a b first second = λ i. shares-stay a b first second i || echoes-stay a b first second i || echoes-stay b a second first i
