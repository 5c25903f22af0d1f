-- Where no component splits there is no echo edge.
use Rattle.std.proofs.Common.{◌≡◌, refl, ap, ◌∙◌, ℕ, List, [], ◌∷◌, filter, length, Option, Some, None, Bool, true, false, cond, not, ◌&&◌, ◌||◌}
use Rattle.std.proofs.lemmas.Bool.{or_from}
use Rattle.std.proofs.Math.Bool.{or-false}
use Rattle.std.specs.Option.{option_map_or}
use Rattle.std.specs.List.{list_any}
use Rattle.stream_law.specs.declared.graph.Graph.{Graph}
use Rattle.stream_law.specs.declared.graph.Join.{Join}
use Rattle.stream_law.specs.Ways.{buffers, source_of, sink_of, reaches, leads, is_of, splits, is_play, is_dai_play, is_capture, reached_by_some, reaches_some, leaves_split, enters_capture, is_echo, way_joins, ways_to, on_way, is_end_on_way, share, echoes, touch}

-- a list of which each passes keeps all
all-kept : (p : Join → Bool) → ((j : Join) → p j ≡ true) → (js : List Join) → filter p js ≡ js
all-kept p each [] = refl
all-kept p each (j ∷ js) = ap (λ h. cond h (j ∷ filter p js) (filter p js)) (each j) ∙ ap (λ l. j ∷ l) (all-kept p each js)

none-any : (p : ℕ → Bool) → ((x : ℕ) → p x ≡ false) → (xs : List ℕ) → list_any p xs ≡ false
none-any p each [] = refl
none-any p each (x ∷ xs) = or_from (p x) (list_any p xs) (each x) (none-any p each xs)

module _ (g : Graph) (none : (c : ℕ) → is_of g splits c ≡ false) where
  pub no-echo : (b : ℕ) → is_echo g b ≡ false
  unfolding is_echo
  no-echo b = ap (λ h. h && option_map_or (enters_capture g) (sink_of g b) false) (by_source (source_of g b))
    where
      by_source : (o : Option ℕ) → option_map_or (leaves_split g) o false ≡ false
      by_source None = refl
      by_source (Some a) = ap (λ h. h && reached_by_some g is_play a && reaches_some g is_dai_play a) (none a)

  joins-all : way_joins g ≡ g.joins
  unfolding way_joins
  joins-all = all-kept (λ j. not (is_echo g j.source) && not (is_echo g j.sink)) (λ j i. not (no-echo j.source i) && not (no-echo j.sink i)) g.joins

  ways-reach : (a b : ℕ) → ways_to g a b ≡ reaches g a b
  unfolding ways_to reaches
  ways-reach a b = ap (λ joins. leads joins (length joins) a b) joins-all

  pub on_way-plain : (host x : ℕ) → on_way g host x ≡ cond (is_of g is_capture host) (reaches g x host) (reaches g host x)
  unfolding on_way
  on_way-plain host x =
      (λ i. cond (is_of g is_capture host) (ways-reach x host i || (no-echo x i && option_map_or (λ c. ways_to g c host) (sink_of g x) false)) (ways-reach host x i))
      ∙ ap (λ h. cond (is_of g is_capture host) h (reaches g host x)) (or-false (reaches g x host))

  echoes-none : (a b : ℕ) → echoes g a b ≡ false
  echoes-none a b = none-any (λ x. is_echo g x && is_end_on_way g a (source_of g x) && is_end_on_way g b (sink_of g x)) (λ x. ap (λ h. h && is_end_on_way g a (source_of g x) && is_end_on_way g b (sink_of g x)) (no-echo x)) (buffers g)

  pub touch-plain : (a b : ℕ) → touch g a b ≡ share g a b
  touch-plain a b = (λ i. share g a b || echoes-none a b i || echoes-none b a i) ∙ last (share g a b)
    where
      last : (h : Bool) → (h || false || false) ≡ h
      last true = refl
      last false = refl
