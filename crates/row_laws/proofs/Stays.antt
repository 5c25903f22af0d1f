-- What stays Live keeps its channels, since streams that touch agree.
use Rattle.std.proofs.Common.{◌≡◌, refl, sym, ap, ◌∙◌, ℕ, ◌≤◌, List, [], ◌∷◌, ◌++◌, map, Option, Some, None, Bool, true, false, cond, not, inl, inr, ◌⊎◌, ◌==◌, ◌&&◌, ◌||◌, arith}
use Rattle.std.proofs.lemmas.Bool.{false≢true, true≢false, and_parts, eqb-true}
use Rattle.std.specs.Option.{option_map_or, option_and_then}
use Rattle.std.specs.Prelude.{find}
use Rattle.std.specs.List.{list_any, list_all, AllByRecursion}
use Rattle.sof_base.specs.declared.format.Params.{Params}
use Rattle.stream_law.specs.declared.graph.Graph.{Graph}
use Rattle.stream_law.specs.declared.stream.Phase.{Phase}
use Rattle.stream_law.specs.declared.stream.Phase.TheVariants.{Idle, Prepared, Running, Paused}
use Rattle.stream_law.specs.declared.stream.StreamView.{StreamView}
use Rattle.stream_law.specs.State.{View}
use Rattle.stream_law.specs.Ways.{components, buffers, on_way, live, rate_of, channels_of, is_live_phase, touch, same_shape, agree}
use Rattle.stream_law.specs.Order.{is_among}
use Rattle.row_laws.specs.Played.{IsStreamSet, IsSetBy, AreStreamsPlayable, KeepsLive, is_idle}
use Rattle.row_laws.proofs.Touching.{touch-at}

-- a stream is one of these
abbrev pub IsOf : StreamView → List StreamView → Type 0
IsOf s [] = ⊥
IsOf s (t ∷ ts) = (s ≡ t) ⊎ IsOf s ts

pub IsOf-map : (to : StreamView → StreamView) (s : StreamView) (ss : List StreamView) → IsOf s ss → IsOf (to s) (map to ss)
IsOf-map to s [] here = absurd here
IsOf-map to s (t ∷ ts) (inl e) = inl (ap to e)
IsOf-map to s (t ∷ ts) (inr more) = inr (IsOf-map to s ts more)

pub all-of : (P : StreamView → Type 0) (ss : List StreamView) (s : StreamView) → AllByRecursion P ss → IsOf s ss → P s
all-of P [] s all here = absurd here
all-of P (t ∷ ts) s all (inl e) = rw e all.0
all-of P (t ∷ ts) s all (inr more) = all-of P ts s all.1 more

-- what is found passes the test, and is one of the list
pub find-some : (p : StreamView → Bool) (ss : List StreamView) (s : StreamView) → find p ss ≡ Some s → (p s ≡ true) × IsOf s ss
find-some p [] s e = absurd (cc e)
find-some p (t ∷ ts) s e = by_test (p t) refl e (find-some p ts s)
  where
    by_test : (h : Bool) → p t ≡ h → cond h (Some t) (find p ts) ≡ Some s → (find p ts ≡ Some s → (p s ≡ true) × IsOf s ts) → (p s ≡ true) × IsOf s (t ∷ ts)
    by_test true h k rest = let same : t ≡ s = cc k in (ap p (sym same) ∙ h, inl (sym same))
    by_test false h k rest = let more = rest k in (more.0, inr more.1)

pub find-any : (p : StreamView → Bool) (ss : List StreamView) → list_any p ss ≡ true → (s : StreamView) × (find p ss ≡ Some s)
find-any p [] h = absurd (false≢true h)
find-any p (t ∷ ts) h = by_test (p t) h (find-any p ts)
  where
    by_test : (k : Bool) → (k || list_any p ts) ≡ true → (list_any p ts ≡ true → (s : StreamView) × (find p ts ≡ Some s)) → (s : StreamView) × (cond k (Some t) (find p ts) ≡ Some s)
    by_test true h rest = (t, refl)
    by_test false h rest = rest h

list_all-of : (p : StreamView → Bool) (ss : List StreamView) (s : StreamView) → list_all p ss ≡ true → IsOf s ss → p s ≡ true
list_all-of p [] s all here = absurd here
list_all-of p (t ∷ ts) s all (inl e) = ap p e ∙ (and_parts (p t) (list_all p ts) all).0
list_all-of p (t ∷ ts) s all (inr more) = list_all-of p ts s (and_parts (p t) (list_all p ts) all).1 more

-- streams that touch have one number of channels
pub touching : (v : View) → agree v ≡ true → (s t : StreamView) → IsOf s v.streams → IsOf t v.streams → touch v.graph s.host t.host ≡ true → same_shape s.params t.params ≡ true
unfolding agree
touching v agrees s t in_s in_t touches =
    let row = list_all-of (λ s. list_all (λ t. not (touch v.graph s.host t.host) || same_shape s.params t.params) v.streams) v.streams s agrees in_s in
    let cell = list_all-of (λ t. not (touch v.graph s.host t.host) || same_shape s.params t.params) v.streams t row in_t in
    sym (ap (λ h. not h || same_shape s.params t.params) touches) ∙ cell

pub live-idle : (phase : Phase) → is_live_phase phase ≡ true → is_idle phase ≡ false
live-idle Running e = refl
live-idle Paused e = refl
live-idle Idle e = absurd (false≢true e)
live-idle Prepared e = absurd (false≢true e)

-- a stream that is not Idle has parameters of 1 to 8 channels
pub given : (g : Graph) (s : StreamView) → is_idle s.phase ≡ false → IsStreamSet g s → (p : Params) × (s.params ≡ Some p) × ((1 ≤ p.channels) × (p.channels ≤ 8))
given g s awake is_set = by s.params is_set
  where
    by : (o : Option Params) → IsSetBy g s.host (is_idle s.phase) o → (p : Params) × (o ≡ Some p) × ((1 ≤ p.channels) × (p.channels ≤ 8))
    by None e = absurd (true≢false (sym e ∙ awake))
    by (Some p) e = (p, refl, e.1)

-- a Live stream on whose way x is, its parameters, and the channels and the rate there
pub record IsHeard (v : View) (x : ℕ) : Type 0 where
  pub stream : StreamView
  pub params : Params
  pub among : IsOf stream v.streams
  pub phase : is_live_phase stream.phase ≡ true
  pub way : on_way v.graph stream.host x ≡ true
  pub has : stream.params ≡ Some params
  pub bounds : (1 ≤ params.channels) × (params.channels ≤ 8)
  pub channels : channels_of v x ≡ params.channels
  pub rate : rate_of v x ≡ params.rate

pub heard : (v : View) (x : ℕ) → AreStreamsPlayable v → live v x ≡ true → IsHeard v x
unfolding live rate_of channels_of
heard v x played now =
    let found = find-any (λ s. is_live_phase s.phase && on_way v.graph s.host x) v.streams now in
    let s : StreamView = found.0 in
    let of = find-some (λ s. is_live_phase s.phase && on_way v.graph s.host x) v.streams s found.1 in
    let lives = and_parts (is_live_phase s.phase) (on_way v.graph s.host x) of.0 in
    let p = given v.graph s (live-idle s.phase lives.0) (all-of (IsStreamSet v.graph) v.streams s played.each of.1) in
    record {
      stream = s;
      params = p.0;
      among = of.1;
      phase = lives.0;
      way = lives.1;
      has = p.1;
      bounds = p.2;
      channels = ap (λ (o : Option StreamView). option_map_or (λ (p : Params). p.channels) (option_and_then (λ s. s.params) o) 0) found.1 ∙ ap (λ (o : Option Params). option_map_or (λ p. p.channels) o 0) p.1;
      rate = ap (λ (o : Option StreamView). option_map_or (λ (p : Params). p.rate) (option_and_then (λ s. s.params) o) 0) found.1 ∙ ap (λ (o : Option Params). option_map_or (λ p. p.rate) o 0) p.1;
    }

-- no more than 8 channels are anywhere
pub channels-most : (v : View) (x : ℕ) → AreStreamsPlayable v → channels_of v x ≤ 8
unfolding channels_of
channels-most v x played = by (find (λ s. is_live_phase s.phase && on_way v.graph s.host x) v.streams) refl
  where
    most : (o : Option Params) (s : StreamView) → s.params ≡ o → IsSetBy v.graph s.host (is_idle s.phase) o → option_map_or (λ p. p.channels) o 0 ≤ 8
    most None s e is_set = omega arith
    most (Some p) s e is_set = is_set.1.1

    by : (o : Option StreamView) → find (λ s. is_live_phase s.phase && on_way v.graph s.host x) v.streams ≡ o → option_map_or (λ (p : Params). p.channels) (option_and_then (λ s. s.params) o) 0 ≤ 8
    by None e = omega arith
    by (Some s) e = most s.params s refl (all-of (IsStreamSet v.graph) v.streams s played.each (find-some (λ s. is_live_phase s.phase && on_way v.graph s.host x) v.streams s e).1)

-- streams of one shape have one rate and one number of channels
shape-parts : (p q : Params) (a b : Option Params) → a ≡ Some p → b ≡ Some q → same_shape a b ≡ true → (p.rate ≡ q.rate) × (p.channels ≡ q.channels)
shape-parts p q a b is_a is_b same =
    let both : (p.rate == q.rate && p.channels == q.channels) ≡ true = sym (ap (λ (o : Option Params × Option Params). same_shape o.0 o.1) (λ i. (is_a i, is_b i))) ∙ same in
    let parts = and_parts (p.rate == q.rate) (p.channels == q.channels) both in
    (eqb-true p.rate q.rate parts.0, eqb-true p.channels q.channels parts.1)

pub one-shape : (p q : Params) (a b : Option Params) → a ≡ Some p → b ≡ Some q → same_shape a b ≡ true → p.channels ≡ q.channels
one-shape p q a b is_a is_b same = (shape-parts p q a b is_a is_b same).1

-- Where streams change and each that is Live keeps its parameters, what is Live before and after has the same rate and the same channels.
pub shape-stays : (g : Graph) (streams : List StreamView) (to : StreamView → StreamView) → KeepsLive to streams → AreStreamsPlayable (record { graph = g; streams = streams }) → AreStreamsPlayable (record { graph = g; streams = map to streams })
    → (x : ℕ) → is_among (components g ++ buffers g) x ≡ true → live (record { graph = g; streams = streams }) x ≡ true → live (record { graph = g; streams = map to streams }) x ≡ true
    → (rate_of (record { graph = g; streams = map to streams }) x ≡ rate_of (record { graph = g; streams = streams }) x) × (channels_of (record { graph = g; streams = map to streams }) x ≡ channels_of (record { graph = g; streams = streams }) x)
shape-stays g streams to keeps was played x there before after =
    let old : View = record { graph = g; streams = streams } in
    let new : View = record { graph = g; streams = map to streams } in
    let a = heard old x was before in
    let b = heard new x played after in
    let stay = all-of (λ s. ((to s).host ≡ s.host) × (is_live_phase s.phase ≡ true → (to s).params ≡ s.params)) streams a.stream keeps a.among in
    let touches = touch-at g (to a.stream).host b.stream.host x there (ap (λ host. on_way g host x) stay.0 ∙ a.way) b.way in
    let shape = touching new played.agreed (to a.stream) b.stream (IsOf-map to a.stream streams a.among) b.among touches in
    let same = shape-parts a.params b.params (to a.stream).params b.stream.params (stay.1 a.phase ∙ a.has) b.has shape in
    (b.rate ∙ sym same.0 ∙ sym a.rate, b.channels ∙ sym same.1 ∙ sym a.channels)

pub channels-stay : (g : Graph) (streams : List StreamView) (to : StreamView → StreamView) → KeepsLive to streams → AreStreamsPlayable (record { graph = g; streams = streams }) → AreStreamsPlayable (record { graph = g; streams = map to streams })
    → (x : ℕ) → is_among (components g ++ buffers g) x ≡ true → live (record { graph = g; streams = streams }) x ≡ true → live (record { graph = g; streams = map to streams }) x ≡ true
    → channels_of (record { graph = g; streams = map to streams }) x ≡ channels_of (record { graph = g; streams = streams }) x
channels-stay g streams to keeps was played x there before after = (shape-stays g streams to keeps was played x there before after).1
