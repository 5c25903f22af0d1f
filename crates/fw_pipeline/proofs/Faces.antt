-- What the firmware's state has of a component beside its stream, its frames and its numbers, and which changes leave it.
use Rattle.std.proofs.Common.{◌≡◌, refl, sym, ap, ◌∙◌, subst, ℕ, ◌+◌, ◌*◌, List, [], ◌∷◌, ◌++◌, Bool, true, false, cond, map, take, ◌==◌, Option, Some, None, ℤ}
use Rattle.sof_base.specs.declared.format.Params.{Params}
use Rattle.stream_law.specs.declared.graph.Comp.{Comp}
use Rattle.stream_law.specs.declared.graph.Edge.{Edge}
use Rattle.stream_law.specs.declared.stream.Phase.{Phase}
use Rattle.stream_law.specs.declared.stream.StreamView.{StreamView}
use Rattle.stream_law.specs.State.{PieceView, Staging}
use Rattle.stream_law.specs.Placed.{placed}
use Rattle.fw_units.specs.declared.component.Component.{Component}
use Rattle.fw_units.specs.declared.component.Unit as units
use Rattle.fw_units.specs.declared.component.Unit.TheVariants.{Eq, Buffer}
use Rattle.fw_units.specs.Units.{piece_of, comp_by, edge_by, piece_by, pieces_by, staging_by, with_staging_by, streams_by, with_stream_by}
use Rattle.fw_components.specs.Tables.{Tables, all_of}
use Rattle.fw_units.specs.Changes.{IsOfHome, set_at, set_unit, ended_unit}
use Rattle.fw_heap.specs.declared.run.Home.{Home}
use Rattle.std.specs.List.{AllByRecursion}
use Rattle.fw_units.specs.Frames.{begun_unit, kept_words, staged_by}
use Rattle.fw_pipeline.specs.Triggers.{IsBegun, BecomeEach}

-- what is staged of an equaliser, the number of the part that is next, and how many bytes remain
abbrev pub staged_in : units.Unit → Option (List ℕ × (ℕ × ℕ))
staged_in (Eq eq next remaining) = Some (staged_by (Eq eq next remaining), (next, remaining))
staged_in unit = None

pub record Face : Type 0 where
  pub comp : Comp
  pub edge : Edge
  pub piece : PieceView
  pub home : Home
  pub staged : Option (List ℕ × (ℕ × ℕ))

abbrev pub face : Component → Face
face c = record { comp = comp_by c; edge = edge_by c; piece = piece_by c; home = (piece_of c.unit).home; staged = staged_in c.unit }

-- ---- what is read off faces

with_staged : ℕ → Option (List ℕ × (ℕ × ℕ)) → List Staging → List Staging
with_staged id None staging = staging
with_staged id (Some s) staging = cond (s.1.1 == 0) staging (record { eq = id; bytes = take (32 + 260 * s.1.0) s.0; next = s.1.0; remaining = s.1.1 } ∷ staging)

staging_from : List Face → List Staging
staging_from [] = []
staging_from (f ∷ fs) = with_staged f.comp.id f.staged (staging_from fs)

pieces_from : List Face → List PieceView
pieces_from [] = []
pieces_from (f ∷ fs) = placed (λ p. p.id) f.piece (pieces_from fs)

staging-read : (cs : List Component) → staging_by cs ≡ staging_from (map face cs)
unfolding staging_from with_staged
staging-read [] = refl
staging-read (c ∷ cs) = by c.unit (staging_by cs) ∙ ap (with_staged c.id (staged_in c.unit)) (staging-read cs)
  where
    by : (u : units.Unit) (ss : List Staging) → with_staging_by c.id u ss ≡ with_staged c.id (staged_in u) ss
    by (Buffer size ring source sink) ss = refl
    by u ss = refl

pieces-read : (cs : List Component) → pieces_by cs ≡ pieces_from (map face cs)
unfolding pieces_from
pieces-read [] = refl
pieces-read (c ∷ cs) = ap (placed (λ (p : PieceView). p.id) (piece_by c)) (pieces-read cs)

map-both : {X Y : Type 0} (f : X → Y) (xs ys : List X) → map f (xs ++ ys) ≡ map f xs ++ map f ys
map-both f [] ys = refl
map-both {X} {Y} f (x ∷ xs) ys = ap (λ (zs : List Y). f x ∷ zs) (map-both f xs ys)

map-face : {Y : Type 0} (g : Face → Y) (cs : List Component) → map (λ c. g (face c)) cs ≡ map g (map face cs)
map-face g [] = refl
map-face {Y} g (c ∷ cs) = ap (λ (ys : List Y). g (face c) ∷ ys) (map-face g cs)

module _ (cs ds : List Component) (same : map face ds ≡ map face cs) where
  pub comps-same : map comp_by ds ≡ map comp_by cs
  comps-same = map-face (λ f. f.comp) ds ∙ ap (map (λ (f : Face). f.comp)) same ∙ sym (map-face (λ f. f.comp) cs)

  pub edges-same : map edge_by ds ≡ map edge_by cs
  edges-same = map-face (λ f. f.edge) ds ∙ ap (map (λ (f : Face). f.edge)) same ∙ sym (map-face (λ f. f.edge) cs)

  pub staging-same : staging_by ds ≡ staging_by cs
  staging-same = staging-read ds ∙ ap staging_from same ∙ sym (staging-read cs)

pub pieces-same : (cs ds : List Component) → map face ds ≡ map face cs → pieces_by ds ≡ pieces_by cs
pieces-same cs ds same = pieces-read ds ∙ ap pieces_from same ∙ sym (pieces-read cs)

-- pieces stay those of a region
pub homes-same : (home : Home) (cs ds : List Component) → map face ds ≡ map face cs → AllByRecursion (IsOfHome home) cs → AllByRecursion (IsOfHome home) ds
homes-same home cs ds same all = off ds (subst (AllByRecursion (λ (f : Face). f.home ≡ home)) (sym same) (on cs all))
  where
    on : (cs : List Component) → AllByRecursion (IsOfHome home) cs → AllByRecursion (λ (f : Face). f.home ≡ home) (map face cs)
    on [] all = tt
    on (c ∷ cs) all = (all.0, on cs all.1)

    off : (cs : List Component) → AllByRecursion (λ (f : Face). f.home ≡ home) (map face cs) → AllByRecursion (IsOfHome home) cs
    off [] all = tt
    off (c ∷ cs) all = (all.0, off cs all.1)

pub faces-all : (t u : Tables) → map face u.comps ≡ map face t.comps → map face u.buffers ≡ map face t.buffers → u.pipes ≡ t.pipes → map face (all_of u) ≡ map face (all_of t)
faces-all t u comps buffers pipes =
    split u ∙ ap (λ (p : List Face × (List Face × List Component)). p.0 ++ (p.1.0 ++ map face p.1.1)) (λ i. (comps i, (buffers i, pipes i))) ∙ sym (split t)
  where
    split : (t : Tables) → map face (all_of t) ≡ map face t.comps ++ (map face t.buffers ++ map face t.pipes)
    split t = map-both face t.comps (t.buffers ++ t.pipes) ∙ ap (λ (fs : List Face). map face t.comps ++ fs) (map-both face t.buffers t.pipes)

-- ---- what leaves them

pub face-begun : (channels rate : ℕ) (h : Bool) (c d : Component) → IsBegun channels rate h c d → face d ≡ face c
face-begun channels rate false c d is = ap face is
face-begun channels rate true c d is = ap face is.0 ∙ by c.unit (sym (ap (λ (x : Component). staged_by x.unit) is.0) ∙ is.1.1)
  where
    words : List ℤ
    words = kept_words d

    at : ℕ → units.Unit → Component
    at n u = record { id = c.id; pipe = c.pipe; channels = n; unit = u }

    by : (u : units.Unit) → staged_by (begun_unit channels rate words u) ≡ staged_by u → face (at channels (begun_unit channels rate words u)) ≡ face (at c.channels u)
    by (Eq eq next remaining) same = ap (λ (bytes : List ℕ). let f : Face = record { comp = comp_by (at c.channels (Eq eq next remaining)); edge = edge_by (at c.channels (Eq eq next remaining)); piece = piece_by (at c.channels (Eq eq next remaining)); home = eq.piece.home; staged = Some (bytes, (next, remaining)) } in f) same
    by u same = refl

pub face-ended : (c : Component) → face (record { id = c.id; pipe = c.pipe; channels = c.channels; unit = ended_unit c.unit }) ≡ face c
face-ended c = by c.unit
  where
    by : (u : units.Unit) → face (record { id = c.id; pipe = c.pipe; channels = c.channels; unit = ended_unit u }) ≡ face (record { id = c.id; pipe = c.pipe; channels = c.channels; unit = u })
    by (Buffer size ring source sink) = refl
    by u = refl

module _ (host : ℕ) (phase : Phase) (params : Option Params) where
  pub face-set : (c : Component) → face (set_at host phase params c) ≡ face c
  face-set c = by (c.id == host) c.unit
    where
      by : (h : Bool) (u : units.Unit) → face (cond h (record { id = c.id; pipe = c.pipe; channels = c.channels; unit = set_unit phase params u }) (record { id = c.id; pipe = c.pipe; channels = c.channels; unit = u })) ≡ face (record { id = c.id; pipe = c.pipe; channels = c.channels; unit = u })
      by false u = refl
      by true (Buffer size ring source sink) = refl
      by true u = refl

  pub faces-set : (cs : List Component) → map face (map (set_at host phase params) cs) ≡ map face cs
  faces-set [] = refl
  faces-set (c ∷ cs) = ap (λ (p : Face × List Face). p.0 ∷ p.1) (λ i. (face-set c i, faces-set cs i))

-- ---- streams

stream-begun : (channels rate : ℕ) (h : Bool) (c d : Component) → IsBegun channels rate h c d → (ss : List StreamView) → with_stream_by d.id d.unit ss ≡ with_stream_by c.id c.unit ss
stream-begun channels rate false c d is ss = ap (λ (x : Component). with_stream_by x.id x.unit ss) is
stream-begun channels rate true c d is ss = ap (λ (x : Component). with_stream_by x.id x.unit ss) is.0 ∙ by c.unit
  where
    by : (u : units.Unit) → with_stream_by c.id (begun_unit channels rate (kept_words d) u) ss ≡ with_stream_by c.id u ss
    by (Buffer size ring source sink) = refl
    by u = refl

pub streams-begun : (channels rate : ℕ) (test : Component → Bool) (cs ds : List Component) → BecomeEach (λ c d. IsBegun channels rate (test c) c d) cs ds → streams_by ds ≡ streams_by cs
streams-begun channels rate test [] [] each = refl
streams-begun channels rate test [] (d ∷ ds) each = absurd each
streams-begun channels rate test (c ∷ cs) [] each = absurd each
streams-begun channels rate test (c ∷ cs) (d ∷ ds) each = stream-begun channels rate (test c) c d each.0 (streams_by ds) ∙ ap (with_stream_by c.id c.unit) (streams-begun channels rate test cs ds each.1)
