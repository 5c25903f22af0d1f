-- The streams of a registry's hosts, and what is on their ways.
use Rattle.std.proofs.Common.{◌≡◌, refl, ap, ◌∙◌, ℕ, List, [], ◌∷◌, Bool, true, false, map, ◌&&◌, ◌||◌}
use Rattle.std.specs.List.{list_any}
use Rattle.stream_law.specs.declared.stream.StreamView.{StreamView}
use Rattle.fw_units.specs.declared.component.Component.{Component}
use Rattle.fw_units.specs.declared.component.Unit as units
use Rattle.fw_units.specs.declared.component.Unit.TheVariants.{Host, Buffer}
use Rattle.fw_units.specs.Units.{streams_by, with_stream_by}
use Rattle.fw_walks.specs.declared.streams.Sort.{Sort}
use Rattle.fw_walks.specs.declared.streams.Sort.TheVariants.{All, Live, Set}
use Rattle.fw_walks.specs.Streams.{is_sort, any_stream}

-- ---- tests of lists

pub any-map : {X Y : Type 0} (p : Y → Bool) (f : X → Y) (xs : List X) → list_any p (map f xs) ≡ list_any (λ x. p (f x)) xs
any-map p f [] = refl
any-map p f (x ∷ xs) = ap (λ h. p (f x) || h) (any-map p f xs)

pub any-or : {X : Type 0} (p q : X → Bool) (xs : List X) → (list_any p xs || list_any q xs) ≡ list_any (λ x. p x || q x) xs
any-or p q [] = refl
any-or p q (x ∷ xs) = by (p x) (list_any p xs) (q x) (list_any q xs) ∙ ap (λ h. (p x || q x) || h) (any-or p q xs)
  where
    by : (a b c d : Bool) → ((a || b) || (c || d)) ≡ ((a || c) || (b || d))
    by true b c d = refl
    by false true true d = refl
    by false true false d = refl
    by false false c d = refl

-- ---- streams

stream-more : (p : StreamView → Bool) (id : ℕ) (unit : units.Unit) (ss : List StreamView) → list_any p (with_stream_by id unit ss) ≡ (any_stream p id unit || list_any p ss)
stream-more p id (Buffer size ring source sink) ss = refl
stream-more p id u ss = refl

pub any-streams : (p : StreamView → Bool) (cs : List Component) → list_any p (streams_by cs) ≡ list_any (λ c. any_stream p c.id c.unit) cs
any-streams p [] = refl
any-streams p (c ∷ cs) = stream-more p c.id c.unit (streams_by cs) ∙ ap (λ h. any_stream p c.id c.unit || h) (any-streams p cs)

module _ (sort : Sort) (q : ℕ → Bool) where
  -- a host's stream is of a sort and passes
  pub stream-of : (id : ℕ) (unit : units.Unit) → any_stream (λ s. is_sort sort s && q s.host) id unit ≡ (any_stream (is_sort sort) 0 unit && q id)
  stream-of id (Host capture phase params piece) = by sort
    where
      by : (k : Sort) → (is_sort k (record { host = id; phase = phase; params = params }) && q id) ≡ (is_sort k (record { host = 0; phase = phase; params = params }) && q id)
      by All = refl
      by Live = refl
      by Set = refl
  stream-of id u = refl
