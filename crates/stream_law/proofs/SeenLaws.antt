-- A state in a new view sees that view.
use Rattle.std.proofs.Common.{◌≡◌, refl, ap, ◌∙◌, ℕ, List, [], ◌∷◌, map, filter, Option, Some, Bool, true, false, cond, ◌==◌, ◌||◌, ℤ}
use Rattle.std.proofs.lemmas.Bool.{false≢true, and_from, eqb-true, cond-false}
use Rattle.std.specs.Prelude.{IsTrue}
use Rattle.std.specs.Option.{option_map_or}
use Rattle.std.specs.List.{find}
use Rattle.sof_base.specs.Samples.{Frame}
use Rattle.stream_law.specs.State.{FwState, View, RingView, History}
use Rattle.stream_law.specs.Ways.{components, buffers}
use Rattle.stream_law.specs.Silence.{is_silent}
use Rattle.stream_law.specs.Order.{is_among}
use Rattle.stream_law.specs.Seen.{flows, remembers, numbers_seen, ring_seen, seen}
use Rattle.stream_law.specs.Stands.{ring_frames}
use Rattle.stream_law.specs.Viewing.{Sees, SeesSilent}
use Rattle.stream_law.proofs.Among.{is_among-filter}
use Rattle.stream_law.proofs.Keyed.{keys-remade}
use Rattle.stream_law.proofs.Standing.{remembers-there}
use Rattle.stream_law.proofs.Building.{silent-flows}

-- a ring that is there keeps its frames where they may lie in it
ring_frames-seen : (v : View) (rings : List RingView) (b : ℕ) → option_map_or (λ (r : RingView). r.frames) (find (λ (r : RingView). r.buffer == b) (map (ring_seen v) rings)) [] ≡ cond (flows v b) (option_map_or (λ (r : RingView). r.frames) (find (λ (r : RingView). r.buffer == b) rings) []) []
ring_frames-seen v [] b = either (flows v b)
  where
    either : (h : Bool) → ◌≡◌ {A = List Frame} [] (cond h [] [])
    either true = refl
    either false = refl
ring_frames-seen v (r ∷ rings) b = by_equal (r.buffer == b) refl (ring_frames-seen v rings b)
  where
    by_equal : (h : Bool) → (r.buffer == b) ≡ h → option_map_or (λ (r : RingView). r.frames) (find (λ (r : RingView). r.buffer == b) (map (ring_seen v) rings)) [] ≡ cond (flows v b) (option_map_or (λ (r : RingView). r.frames) (find (λ (r : RingView). r.buffer == b) rings) []) []
        → option_map_or (λ (r : RingView). r.frames) (cond h (Some (ring_seen v r)) (find (λ (r : RingView). r.buffer == b) (map (ring_seen v) rings))) [] ≡ cond (flows v b) (option_map_or (λ (r : RingView). r.frames) (cond h (Some r) (find (λ (r : RingView). r.buffer == b) rings)) []) []
    by_equal true e rest = ap (λ x. cond (flows v x) r.frames []) (eqb-true r.buffer b e)
    by_equal false e rest = rest

-- the history that is made of an id
abbrev pub history-made : (ℕ → List ℤ) → ℕ → History
history-made make c = record { comp = c; numbers = make c }

-- a history that is there was made for its component
history-found : (make : ℕ → List ℤ) (ids : List ℕ) (c : ℕ) → is_among ids c ≡ true → option_map_or (λ (h : History). h.numbers) (find (λ (h : History). h.comp == c) (map (history-made make) ids)) [] ≡ make c
history-found make [] c there = absurd (false≢true there)
history-found make (i ∷ ids) c there = by_equal (i == c) refl there (history-found make ids c)
  where
    by_equal : (h : Bool) → (i == c) ≡ h → (h || is_among ids c) ≡ true → (is_among ids c ≡ true → option_map_or (λ (h : History). h.numbers) (find (λ (h : History). h.comp == c) (map (history-made make) ids)) [] ≡ make c)
        → option_map_or (λ (h : History). h.numbers) (cond h (Some (history-made make i)) (find (λ (h : History). h.comp == c) (map (history-made make) ids))) [] ≡ make c
    by_equal true e there rest = ap make (eqb-true i c e)
    by_equal false e there rest = rest there

map-comps : (make : ℕ → List ℤ) (ids : List ℕ) → map (λ (h : History). h.comp) (map (history-made make) ids) ≡ ids
map-comps make [] = refl
map-comps make (i ∷ ids) = ap (λ l. i ∷ l) (map-comps make ids)

module _ (f : FwState) (v : View) (fresh : Option ℕ) where
  -- a Live equaliser or volume has its numbers
  there-among : (c : ℕ) → remembers v c ≡ true → is_among (filter (remembers v) (components v.graph)) c ≡ true
  there-among c there = is_among-filter (remembers v) (components v.graph) c ∙ and_from (remembers v c) (is_among (components v.graph) c) there (remembers-there v c there)

  rings-named : map (λ r. r.buffer) (map (ring_seen v) f.rings) ≡ map (λ r. r.buffer) f.rings
  rings-named = keys-remade (λ (r : RingView). r.buffer) (ring_seen v) (λ r. refl) f.rings

  pub seen-sees : map (λ r. r.buffer) f.rings ≡ buffers v.graph → Sees f v fresh (seen v fresh f)
  seen-sees named = record {
    clock = refl;
    view = refl;
    buffers = rings-named ∙ named;
    rings = ring_frames-seen v f.rings;
    remembered = λ c there. ap (λ l. is_among l c) (map-comps (numbers_seen f v fresh) (filter (remembers v) (components v.graph))) ∙ there-among c there;
    histories = λ c there. history-found (numbers_seen f v fresh) (filter (remembers v) (components v.graph)) c (there-among c there);
  }

  pub seen-silent : map (λ r. r.buffer) f.rings ≡ buffers v.graph → IsTrue (is_silent v) → SeesSilent f (seen v fresh f)
  seen-silent named silent = record {
    clock = refl;
    silent = silent;
    buffers = rings-named ∙ named;
    rings = λ b. ring_frames-seen v f.rings b ∙ cond-false (flows v b) (ring_frames f b) [] (silent-flows v b silent);
  }
