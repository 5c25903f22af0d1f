-- Views in which streams without parameters are gone, and the ways of those with parameters are the same.
use Rattle.std.proofs.Common.{◌≡◌, refl, sym, ap, ◌∙◌, ℕ, List, [], ◌∷◌, ◌++◌, filter, Option, Some, None, Bool, true, false, cond, not, inl, inr, ◌⊎◌, ◌&&◌, ◌||◌}
use Rattle.std.proofs.lemmas.Bool.{true≢false, and_from}
use Rattle.std.specs.Prelude.{is_some, option_and_then}
use Rattle.std.specs.Option.{option_map_or}
use Rattle.std.specs.List.{list_all, AllByRecursion}
use Rattle.sof_base.specs.declared.format.Params.{Params}
use Rattle.stream_law.specs.declared.graph.Graph.{Graph}
use Rattle.stream_law.specs.declared.stream.StreamView.{StreamView}
use Rattle.stream_law.specs.State.{View}
use Rattle.stream_law.specs.Ways.{components, buffers, source_of, sink_of, is_echo, on_way, is_live_phase, live, live_end, rate_of, channels_of, touch, same_shape, agree}
use Rattle.stream_law.specs.Seen.{flows}
use Rattle.stream_law.specs.Order.{is_among}
use Rattle.mbox_link.specs.Step.{has_kind, is_host, kind_at, is_way_ready}
use Rattle.row_laws.specs.Played.{AreStreamsPlayable, IsStreamSet, IsSetBy, is_idle}
use Rattle.row_laws.proofs.Stays.{IsOf, all-of, touching, live-idle, given}
use Rattle.row_laws.proofs.Touching.{touch-by}
use Rattle.row_laws.proofs.Fewer.{all-kept, all-both, any-kept, find-kept, distinct-filter}

-- ---- members of lists

of-kept : (keep : StreamView → Bool) (ss : List StreamView) (s : StreamView) → IsOf s (filter keep ss) → (keep s ≡ true) × IsOf s ss
of-kept keep [] s here = absurd here
of-kept keep (t ∷ ts) s here = by (keep t) refl here (of-kept keep ts s)
  where
    first : keep t ≡ true → (s ≡ t) ⊎ IsOf s (filter keep ts) → (IsOf s (filter keep ts) → (keep s ≡ true) × IsOf s ts) → (keep s ≡ true) × IsOf s (t ∷ ts)
    first e (inl same) rest = (ap keep same ∙ e, inl same)
    first e (inr more) rest = let r = rest more in (r.0, inr r.1)

    by : (h : Bool) → keep t ≡ h → IsOf s (cond h (t ∷ filter keep ts) (filter keep ts)) → (IsOf s (filter keep ts) → (keep s ≡ true) × IsOf s ts) → (keep s ≡ true) × IsOf s (t ∷ ts)
    by true e there rest = first e there rest
    by false e there rest = let r = rest there in (r.0, inr r.1)

each-of : (p : StreamView → Bool) (ss : List StreamView) → ((s : StreamView) → IsOf s ss → p s ≡ true) → list_all p ss ≡ true
each-of p [] f = refl
each-of p (s ∷ ss) f = and_from (p s) (list_all p ss) (f s (inl refl)) (each-of p ss (λ t there. f t (inr there)))

-- a stream that is set and Live has parameters
pub live-some : (g : Graph) (s : StreamView) → is_live_phase s.phase ≡ true → IsStreamSet g s → is_some s.params ≡ true
live-some g s lives is_set = let p = given g s (live-idle s.phase lives) is_set in ap (λ o. is_some o) p.1

-- ---- what is Live

module _ (g g' : Graph) (keep : StreamView → Bool) (ss : List StreamView) (played : AreStreamsPlayable (record { graph = g; streams = ss })) (bare : AllByRecursion (λ s. keep s ≡ false → is_some s.params ≡ false) ss) (ways : AllByRecursion (λ s. keep s ≡ true → is_some s.params ≡ true → (x : ℕ) → on_way g' s.host x ≡ on_way g s.host x) ss) where
  abbrev old : View
  old = record { graph = g; streams = ss }

  abbrev new : View
  new = record { graph = g'; streams = filter keep ss }

  abbrev Holds : StreamView → Type 0
  Holds s = keep s ≡ true → is_some s.params ≡ true → (x : ℕ) → on_way g' s.host x ≡ on_way g s.host x

  live-tests : (x : ℕ) (xs : List StreamView) → AllByRecursion (λ s. keep s ≡ false → is_some s.params ≡ false) xs → AllByRecursion Holds xs → AllByRecursion (IsStreamSet g) xs → AllByRecursion (λ s. (keep s ≡ true → (is_live_phase s.phase && on_way g' s.host x) ≡ (is_live_phase s.phase && on_way g s.host x)) × (keep s ≡ false → (is_live_phase s.phase && on_way g s.host x) ≡ false)) xs
  live-tests x [] none hold sets = tt
  live-tests x (s ∷ xs) none hold sets = ((stays (is_live_phase s.phase) refl, goes (is_live_phase s.phase) refl), live-tests x xs none.1 hold.1 sets.1)
    where
      stays : (h : Bool) → is_live_phase s.phase ≡ h → keep s ≡ true → (h && on_way g' s.host x) ≡ (h && on_way g s.host x)
      stays true e kept = hold.0 kept (live-some g s e sets.0) x
      stays false e kept = refl

      goes : (h : Bool) → is_live_phase s.phase ≡ h → keep s ≡ false → (h && on_way g s.host x) ≡ false
      goes true e gone = absurd (true≢false (sym (live-some g s e sets.0) ∙ none.0 gone))
      goes false e gone = refl

  pub live-same : (x : ℕ) → live new x ≡ live old x
  unfolding live
  live-same x = any-kept keep (λ s. is_live_phase s.phase && on_way g' s.host x) (λ s. is_live_phase s.phase && on_way g s.host x) ss (live-tests x ss bare ways played.each)

  pub channels-same : (x : ℕ) → channels_of new x ≡ channels_of old x
  unfolding channels_of
  channels-same x =
      ap (λ (o : Option StreamView). option_map_or (λ (p : Params). p.channels) (option_and_then (λ s. s.params) o) 0)
      (find-kept keep (λ s. is_live_phase s.phase && on_way g' s.host x) (λ s. is_live_phase s.phase && on_way g s.host x) ss (live-tests x ss bare ways played.each))

  pub rate-same : (x : ℕ) → rate_of new x ≡ rate_of old x
  unfolding rate_of
  rate-same x =
      ap (λ (o : Option StreamView). option_map_or (λ (p : Params). p.rate) (option_and_then (λ s. s.params) o) 0)
      (find-kept keep (λ s. is_live_phase s.phase && on_way g' s.host x) (λ s. is_live_phase s.phase && on_way g s.host x) ss (live-tests x ss bare ways played.each))

  end-same : (o : Option ℕ) → live_end new o ≡ live_end old o
  end-same None = refl
  end-same (Some n) = live-same n

  -- where an edge's sides are as they were, its frames flow as they did
  pub flows-same : (b : ℕ) → source_of g' b ≡ source_of g b → sink_of g' b ≡ sink_of g b → flows new b ≡ flows old b
  unfolding flows
  flows-same b from to =
      ap (λ (p : Option ℕ × Option ℕ). (live new b && live_end new p.0) && live_end new p.1) (λ i. (from i, to i))
      ∙ ap (λ (p : Bool × Bool × Bool). (p.0 && p.1) && p.2) (λ i. (live-same b i, end-same (source_of g b) i, end-same (sink_of g b) i))

  -- ---- and the streams agree

  shape-none : (o q : Option Params) → is_some o ≡ false → same_shape o q ≡ true
  shape-none None q e = none-left q
    where
      none-left : (q : Option Params) → same_shape None q ≡ true
      none-left None = refl
      none-left (Some p) = refl
  shape-none (Some p) q e = absurd (true≢false e)

  shape-none_right : (o q : Option Params) → is_some q ≡ false → same_shape o q ≡ true
  shape-none_right o None e = none-right o
    where
      none-right : (o : Option Params) → same_shape o None ≡ true
      none-right None = refl
      none-right (Some p) = refl
  shape-none_right o (Some p) e = absurd (true≢false e)

  module _ (nodes : (x : ℕ) → is_among (components g' ++ buffers g') x ≡ true → is_among (components g ++ buffers g) x ≡ true) (echoes : (x : ℕ) → is_echo g' x ≡ true → (is_echo g x ≡ true) × (source_of g' x ≡ source_of g x) × (sink_of g' x ≡ sink_of g x)) where
    touches : (s t : StreamView) → ((x : ℕ) → on_way g' s.host x ≡ on_way g s.host x) → ((x : ℕ) → on_way g' t.host x ≡ on_way g t.host x) → touch g' s.host t.host ≡ true → touch g s.host t.host ≡ true
    touches s t s-way t-way e = touch-by g g' echoes s.host t.host (λ x there on. nodes x there) s-way t-way e

    cell : (s t : StreamView) → IsOf s (filter keep ss) → IsOf t (filter keep ss) → (not (touch g' s.host t.host) || same_shape s.params t.params) ≡ true
    cell s t in_s in_t =
        let a = of-kept keep ss s in_s in
        let b = of-kept keep ss t in_t in
        let s-holds : Holds s = all-of Holds ss s ways a.1 in
        let t-holds : Holds t = all-of Holds ss t ways b.1 in
        by (is_some s.params) refl (is_some t.params) refl (touch g' s.host t.host) refl (s-holds a.0) (t-holds b.0) a.1 b.1
      where
        by : (p : Bool) → is_some s.params ≡ p → (q : Bool) → is_some t.params ≡ q → (h : Bool) → touch g' s.host t.host ≡ h → (is_some s.params ≡ true → (x : ℕ) → on_way g' s.host x ≡ on_way g s.host x) → (is_some t.params ≡ true → (x : ℕ) → on_way g' t.host x ≡ on_way g t.host x) → IsOf s ss → IsOf t ss → (not h || same_shape s.params t.params) ≡ true
        by p p-is q q-is false e s-way t-way s-of t-of = refl
        by false p-is q q-is true e s-way t-way s-of t-of = shape-none s.params t.params p-is
        by true p-is false q-is true e s-way t-way s-of t-of = shape-none_right s.params t.params q-is
        by true p-is true q-is true e s-way t-way s-of t-of = touching old played.agreed s t s-of t-of (touches s t (s-way p-is) (t-way q-is) e)

    pub agree-same : agree new ≡ true
    unfolding agree
    agree-same = each-of (λ s. list_all (λ t. not (touch g' s.host t.host) || same_shape s.params t.params) (filter keep ss)) (filter keep ss) (λ s in_s. each-of (λ t. not (touch g' s.host t.host) || same_shape s.params t.params) (filter keep ss) (λ t in_t. cell s t in_s in_t))

  set-same : (s : StreamView) → (is_some s.params ≡ true → is_way_ready g' s.host ≡ true) → IsStreamSet g s → IsStreamSet g' s
  set-same s ready is_set = by (is_idle s.phase) s.params ready is_set
    where
      by : (idle : Bool) (o : Option Params) → (is_some o ≡ true → is_way_ready g' s.host ≡ true) → IsSetBy g s.host idle o → IsSetBy g' s.host idle o
      by idle None ready is_set = is_set
      by idle (Some p) ready is_set = (is_set.0, is_set.1, is_set.2, ready refl)

  pub played-same : agree new ≡ true → AllByRecursion (λ s. keep s ≡ true → has_kind is_host (kind_at g' s.host) ≡ true) ss → AllByRecursion (λ s. keep s ≡ true → is_some s.params ≡ true → is_way_ready g' s.host ≡ true) ss → AreStreamsPlayable new
  played-same agreed owned ready = record {
    hosts = distinct-filter (λ (s : StreamView). s.host) keep ss played.hosts;
    owned = all-kept keep (λ s. keep s ≡ true → has_kind is_host (kind_at g' s.host) ≡ true) (λ s. has_kind is_host (kind_at g' s.host) ≡ true) (λ s e f. f e) ss owned;
    each = all-kept keep (λ s. (keep s ≡ true → is_some s.params ≡ true → is_way_ready g' s.host ≡ true) × IsStreamSet g s) (IsStreamSet g') (λ s e both. set-same s (both.0 e) both.1) ss (all-both (λ s. keep s ≡ true → is_some s.params ≡ true → is_way_ready g' s.host ≡ true) (IsStreamSet g) ss ready played.each);
    agreed = agreed;
  }
