-- A walk without an echo edge from a playback's host to a capture's, by what is marked.
use Rattle.std.proofs.Common.{◌≡◌, refl, sym, ap, ◌∙◌, ℕ, List, [], ◌∷◌, filter, map, Bool, true, false, cond, not, ◌&&◌, ◌||◌, inl, inr}
use Rattle.std.specs.List.{list_any}
use Rattle.std.specs.Option.{option_map_or}
use Rattle.std.specs.Prelude.{Option}
use Rattle.std.proofs.lemmas.Bool.{false≢true, and_parts, and_from}
use Rattle.stream_law.specs.declared.graph.Kind.{Kind}
use Rattle.stream_law.specs.declared.graph.Comp.{Comp}
use Rattle.stream_law.specs.declared.graph.Graph.{Graph}
use Rattle.stream_law.specs.Ways.{components, is_of, is_play, is_capture, ways_to, echoes_to, on_way}
use Rattle.stream_law.specs.Joins.{crosses}
use Rattle.stream_law.specs.Placed.{Ascends}
use Rattle.stream_law.proofs.Members.{IsIn, any-in, in-any}
use Rattle.fw_units.specs.declared.component.Component.{Component}
use Rattle.fw_units.specs.declared.component.Unit as units
use Rattle.fw_units.specs.declared.component.Unit.TheVariants.{Host, Dai, Buffer}
use Rattle.fw_units.specs.Units.{kind_by, comp_by}
use Rattle.fw_components.specs.Tables.{Tables, graph_of}
use Rattle.fw_components.proofs.HostWays.{find-own}
use Rattle.fw_places.proofs.Reaching.{both-true}
use Rattle.fw_places.proofs.WayWalks.{any-each}
use Rattle.fw_walks.specs.declared.streams.Sort.TheVariants as sorts
use Rattle.fw_walks.specs.Streams.{is_sort, any_stream, is_host_of}

plays-are : (unit : units.Unit) → (any_stream (is_sort sorts.All) 0 unit && not (is_capture (kind_by unit))) ≡ is_play (kind_by unit)
plays-are (Buffer size ring source sink) = refl
plays-are (Host true phase params piece) = refl
plays-are (Host false phase params piece) = refl
plays-are (Dai true format piece) = refl
plays-are (Dai false format piece) = refl
plays-are u = refl

-- what is a playback's host is no capture's
plays-only : (unit : units.Unit) → is_play (kind_by unit) ≡ true → is_capture (kind_by unit) ≡ false
plays-only (Host false phase params piece) plays = refl
plays-only (Host true phase params piece) plays = absurd (false≢true plays)
plays-only (Dai true format piece) plays = absurd (false≢true plays)
plays-only (Dai false format piece) plays = absurd (false≢true plays)
plays-only u plays = absurd (false≢true plays)

-- of two that are related one may be sought first
turned : {X : Type 0} (p q : X → Bool) (r : X → X → Bool) (xs : List X) → list_any (λ b. q b && list_any (λ a. p a && r a b) xs) xs ≡ list_any (λ a. p a && list_any (λ b. q b && r a b) xs) xs
turned {X} p q r xs = both-true _ _ (once p q r) (once q p (λ a b. r b a))
  where
    once : (p q : X → Bool) (r : X → X → Bool) → list_any (λ b. q b && list_any (λ a. p a && r a b) xs) xs ≡ true → list_any (λ a. p a && list_any (λ b. q b && r a b) xs) xs ≡ true
    once p q r e =
        let b = any-in (λ b. q b && list_any (λ a. p a && r a b) xs) xs e in
        let pb = and_parts (q b.0) _ b.2 in
        let a = any-in (λ a. p a && r a b.0) xs pb.1 in
        let pa = and_parts (p a.0) _ a.2 in
        in-any (λ a. p a && list_any (λ b. q b && r a b) xs) xs a.0 a.1 (and_from (p a.0) _ pa.0 (in-any (λ b. q b && r a.0 b) xs b.0 b.1 (and_from (q b.0) _ pb.0 pa.1)))

module _ (t : Tables) (up : Ascends (λ c. c.id) t.comps) where
  abbrev g : Graph
  g = graph_of t

  -- the component of an id is of its own kind
  pub kind-own : (p : Kind → Bool) (c : Component) → IsIn c t.comps → is_of g p c.id ≡ p (kind_by c.unit)
  kind-own p c here = ap (λ (o : Option Comp). option_map_or (λ x. p x.kind) o false) (find-own t.comps c up here)

  -- among the ids of a kind
  any-of : (p : Kind → Bool) (q : ℕ → Bool) → list_any q (filter (is_of g p) (components g)) ≡ list_any (λ c. p (kind_by c.unit) && q c.id) t.comps
  any-of p q = each t.comps (λ c here. kind-own p c here)
    where
      each : (cs : List Component) → ((c : Component) → IsIn c cs → is_of g p c.id ≡ p (kind_by c.unit)) → list_any q (filter (is_of g p) (map (λ (x : Comp). x.id) (map comp_by cs))) ≡ list_any (λ c. p (kind_by c.unit) && q c.id) cs
      each [] own = refl
      each (c ∷ cs) own =
          ap (λ h. list_any q (cond h (c.id ∷ filter (is_of g p) (map (λ (x : Comp). x.id) (map comp_by cs))) (filter (is_of g p) (map (λ (x : Comp). x.id) (map comp_by cs))))) (own c (inl refl))
          ∙ by (p (kind_by c.unit)) (each cs (λ d here. own d (inr here)))
        where
          by : (h : Bool) → list_any q (filter (is_of g p) (map (λ (x : Comp). x.id) (map comp_by cs))) ≡ list_any (λ c. p (kind_by c.unit) && q c.id) cs
              → list_any q (cond h (c.id ∷ filter (is_of g p) (map (λ (x : Comp). x.id) (map comp_by cs))) (filter (is_of g p) (map (λ (x : Comp). x.id) (map comp_by cs)))) ≡ ((h && q c.id) || list_any (λ c. p (kind_by c.unit) && q c.id) cs)
          by true rest = ap (λ k. q c.id || k) rest
          by false rest = rest

  -- the way of a playback's host goes on from it
  plays-way : (a : Component) → IsIn a t.comps → is_play (kind_by a.unit) ≡ true → (x : ℕ) → on_way g a.id x ≡ ways_to g a.id x
  unfolding on_way
  plays-way a here plays x = ap (λ h. cond h (ways_to g x a.id || echoes_to g a.id x) (ways_to g a.id x)) (kind-own is_capture a here ∙ plays-only a.unit plays)

  pub crosses-are : list_any (λ b. is_capture (kind_by b.unit) && list_any (λ a. is_host_of sorts.All false a && on_way g a.id b.id) t.comps) t.comps ≡ crosses g
  unfolding crosses
  crosses-are =
      any-each (λ b. is_capture (kind_by b.unit) && list_any (λ a. is_host_of sorts.All false a && on_way g a.id b.id) t.comps) (λ b. is_capture (kind_by b.unit) && list_any (λ a. is_play (kind_by a.unit) && ways_to g a.id b.id) t.comps) t.comps
      (λ b there. ap (λ h. is_capture (kind_by b.unit) && h) (any-each (λ a. is_host_of sorts.All false a && on_way g a.id b.id) (λ a. is_play (kind_by a.unit) && ways_to g a.id b.id) t.comps (λ a here.
      ap (λ h. h && on_way g a.id b.id) (plays-are a.unit) ∙ with-way a here b.id (is_play (kind_by a.unit)) refl)))
      ∙ turned (λ (a : Component). is_play (kind_by a.unit)) (λ (b : Component). is_capture (kind_by b.unit)) (λ (a b : Component). ways_to g a.id b.id) t.comps
      ∙ any-each (λ a. is_play (kind_by a.unit) && list_any (λ b. is_capture (kind_by b.unit) && ways_to g a.id b.id) t.comps) (λ a. is_play (kind_by a.unit) && list_any (λ b. ways_to g a.id b) (filter (is_of g is_capture) (components g))) t.comps
      (λ a here. ap (λ h. is_play (kind_by a.unit) && h) (sym (any-of is_capture (λ b. ways_to g a.id b))))
      ∙ sym (any-of is_play (λ a. list_any (λ b. ways_to g a b) (filter (is_of g is_capture) (components g))))
    where
      with-way : (a : Component) → IsIn a t.comps → (x : ℕ) (h : Bool) → is_play (kind_by a.unit) ≡ h → (is_play (kind_by a.unit) && on_way g a.id x) ≡ (is_play (kind_by a.unit) && ways_to g a.id x)
      with-way a here x true plays = ap (λ h. is_play (kind_by a.unit) && h) (plays-way a here plays x)
      with-way a here x false none = ap (λ h. h && on_way g a.id x) none ∙ sym (ap (λ h. h && ways_to g a.id x) none)
