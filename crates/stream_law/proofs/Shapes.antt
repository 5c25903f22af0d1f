-- What stays Live keeps its channels and its rate, since streams that touch agree.
use Rattle.std.proofs.Common.{◌≡◌, refl, sym, ap, ◌∙◌, ℕ, zero, suc, ◌*◌, ◌/◌, List, [], ◌∷◌, ◌++◌, length, filter, Option, Some, None, is_some, Bool, true, false, cond, not, inl, inr, ◌⊎◌, ◌==◌, ◌&&◌, ◌||◌, Contains, arith}
use Rattle.std.proofs.lemmas.Bool.{false≢true, and_parts, and_from, or_left, or_right, or_cases, eqb-true, not-true, true_from_ne_false}
use Rattle.std.proofs.lemmas.List.Folds.{list_any-append}
use Rattle.std.specs.Option.{option_map_or, option_and_then}
use Rattle.std.specs.List.{find, list_any, list_all}
use Rattle.sof_base.specs.declared.format.Params.{Params}
use Rattle.stream_law.specs.declared.graph.Kind.{Kind}
use Rattle.stream_law.specs.declared.graph.Edge.{Edge}
use Rattle.stream_law.specs.declared.graph.Graph.{Graph}
use Rattle.stream_law.specs.declared.stream.StreamView.{StreamView}
use Rattle.stream_law.specs.State.{View}
use Rattle.stream_law.specs.Ways.{components, buffers, source_of, sink_of, is_of, reaches, leads, is_play, is_capture, is_dai_play, splits, reached_by_some, reaches_some, leaves_split, enters_capture, is_echo, way_joins, ways_to, on_way, live, live_end, live_params, channels_of, rate_of, is_live_phase, share, echoes, touch, same_shape, agree}
use Rattle.stream_law.specs.Moves.{capacity}
use Rattle.stream_law.specs.Order.{is_among}
use Rattle.stream_law.specs.Seen.{flows, ramp_length}
use Rattle.stream_law.specs.Viewing.{StaysAsLive}
use Rattle.stream_law.specs.Stays.{SameWays, KeepsWays, KeepsShape}
use Rattle.stream_law.proofs.Standing.{flows-absent, remembers-there}
use Rattle.stream_law.proofs.Remembering.{is_of-kinds}

module _ (g h : Graph) (same : SameWays g h) where
  of_same : (sort : Kind → Bool) (c : ℕ) → is_of g sort c ≡ is_of h sort c
  of_same sort c = is_of-kinds sort g h c (same.kinds c)

  reaches_same : (a b : ℕ) → reaches g a b ≡ reaches h a b
  unfolding reaches
  reaches_same a b = ap (λ joins. leads joins (length joins) a b) same.joins

  source_same : (b : ℕ) → source_of g b ≡ source_of h b
  source_same b = ap (λ edges. option_and_then (λ (e : Edge). e.source) (find (λ e. e.buffer == b) edges)) same.edges

  sink_same : (b : ℕ) → sink_of g b ≡ sink_of h b
  sink_same b = ap (λ edges. option_and_then (λ (e : Edge). e.sink) (find (λ e. e.buffer == b) edges)) same.edges

  by_some_same : (sort : Kind → Bool) (x : ℕ) → reached_by_some g sort x ≡ reached_by_some h sort x
  by_some_same sort x = λ i. list_any (λ c. reaches_same c x i) (filter (λ c. of_same sort c i) (same.ids i))

  some_same : (sort : Kind → Bool) (x : ℕ) → reaches_some g sort x ≡ reaches_some h sort x
  some_same sort x = λ i. list_any (λ c. reaches_same x c i) (filter (λ c. of_same sort c i) (same.ids i))

  leaves_same : (a : ℕ) → leaves_split g a ≡ leaves_split h a
  leaves_same a = λ i. of_same splits a i && by_some_same is_play a i && some_same is_dai_play a i

  enters_same : (c : ℕ) → enters_capture g c ≡ enters_capture h c
  enters_same c = λ i. some_same is_capture c i && not (some_same is_dai_play c i)

  pub echo_same : (b : ℕ) → is_echo g b ≡ is_echo h b
  unfolding is_echo
  echo_same b = λ i. option_map_or (λ a. leaves_same a i) (source_same b i) false && option_map_or (λ c. enters_same c i) (sink_same b i) false

  joins_same : way_joins g ≡ way_joins h
  unfolding way_joins
  joins_same = λ i. filter (λ j. not (echo_same j.source i) && not (echo_same j.sink i)) (same.joins i)

  ways_same : (a b : ℕ) → ways_to g a b ≡ ways_to h a b
  unfolding ways_to
  ways_same a b = ap (λ joins. leads joins (length joins) a b) joins_same

  pub on_way_same : (host x : ℕ) → on_way g host x ≡ on_way h host x
  unfolding on_way
  on_way_same host x = λ i. cond (of_same is_capture host i) (ways_same x host i || (echo_same x i && option_map_or (λ c. ways_same c host i) (sink_same x i) false)) (ways_same host x i)

-- what is found passes the test, and is one of the list
find-some : (p : StreamView → Bool) (ss : List StreamView) (s : StreamView) → find p ss ≡ Some s → (p s ≡ true) × Contains ss s
find-some p [] s e = absurd (none_some e)
  where
    none_some : {t : StreamView} → None ≡ Some t → ⊥
    none_some h = cc
find-some p (t ∷ ts) s e = by_test (p t) refl e (find-some p ts s)
  where
    by_test : (h : Bool) → p t ≡ h → cond h (Some t) (find p ts) ≡ Some s → (find p ts ≡ Some s → (p s ≡ true) × Contains ts s) → (p s ≡ true) × Contains (t ∷ ts) s
    by_test true h k rest = let same : t ≡ s = cc in (ap p (sym same) ∙ h, (0, omega arith, same))
    by_test false h k rest = let more = rest k in let low = more.1.1 in (more.0, (suc more.1.0, omega (arith, low), more.1.2))

-- a list in which some pass has one that is found
pub find-any : (p : StreamView → Bool) (ss : List StreamView) → list_any p ss ≡ true → (s : StreamView) × (find p ss ≡ Some s)
find-any p [] h = absurd (false≢true h)
find-any p (t ∷ ts) h = by_test (p t) refl h (find-any p ts)
  where
    by_test : (k : Bool) → p t ≡ k → (k || list_any p ts) ≡ true → (list_any p ts ≡ true → (s : StreamView) × (find p ts ≡ Some s)) → (s : StreamView) × (cond k (Some t) (find p ts) ≡ Some s)
    by_test true k h rest = (t, refl)
    by_test false k h rest = rest h

contains_cases : (t s : StreamView) (ts : List StreamView) → Contains (t ∷ ts) s → (t ≡ s) ⊎ Contains ts s
contains_cases t s ts (zero, low, e) = inl e
contains_cases t s ts (suc k, low, e) = inr (k, omega (arith, low), e)

-- a test that all pass is passed by each
list_all-of : (p : StreamView → Bool) (ss : List StreamView) (s : StreamView) → list_all p ss ≡ true → Contains ss s → p s ≡ true
list_all-of p [] s all here = let low = here.1 in absurd (omega (arith, low))
list_all-of p (t ∷ ts) s all here = by_case (contains_cases t s ts here) (list_all-of p ts s)
  where
    by_case : (t ≡ s) ⊎ Contains ts s → (list_all p ts ≡ true → Contains ts s → p s ≡ true) → p s ≡ true
    by_case (inl e) rest = ap p (sym e) ∙ (and_parts (p t) (list_all p ts) all).0
    by_case (inr more) rest = rest (and_parts (p t) (list_all p ts) all).1 more

-- some id of a list passes a test where one does
pub list_any-at : (p : ℕ → Bool) (ids : List ℕ) (x : ℕ) → is_among ids x ≡ true → p x ≡ true → list_any p ids ≡ true
list_any-at p [] x there h = absurd (false≢true there)
list_any-at p (i ∷ ids) x there h = by_place (or_cases (i == x) (is_among ids x) there) (list_any-at p ids x)
  where
    by_place : ((i == x) ≡ true) ⊎ (is_among ids x ≡ true) → (is_among ids x ≡ true → p x ≡ true → list_any p ids ≡ true) → (p i || list_any p ids) ≡ true
    by_place (inl e) rest = or_left (p i) (list_any p ids) (ap p (eqb-true i x e) ∙ h)
    by_place (inr e) rest = or_right (p i) (list_any p ids) (rest e h)

-- streams that touch have one number of channels
touching : (v : View) → agree v ≡ true → (s t : StreamView) → Contains v.streams s → Contains v.streams t → touch v.graph s.host t.host ≡ true → same_shape s.params t.params ≡ true
unfolding agree
touching v agrees s t in_s in_t touches =
    let row = list_all-of (λ s. list_all (λ t. not (touch v.graph s.host t.host) || same_shape s.params t.params) v.streams) v.streams s agrees in_s in
    let cell = list_all-of (λ t. not (touch v.graph s.host t.host) || same_shape s.params t.params) v.streams t row in_t in
    sym (ap (λ h. not h || same_shape s.params t.params) touches) ∙ cell

-- what is there has a value
is_some-value : {X : Type 0} (o : Option X) → is_some o ≡ true → (x : X) × (o ≡ Some x)
is_some-value None h = absurd (false≢true h)
is_some-value (Some x) h = (x, refl)

module _ (old new : View) (keeps : KeepsWays old new) (x : ℕ) (there : is_among (components new.graph ++ buffers new.graph) x ≡ true) (was : live old x ≡ true) (now : live new x ≡ true) where
  -- the streams that give x its parameters, before and after
  found_old : (s : StreamView) × (find (λ s. is_live_phase s.phase && on_way old.graph s.host x) old.streams ≡ Some s)
  unfolding live
  found_old = find-any (λ s. is_live_phase s.phase && on_way old.graph s.host x) old.streams was

  found_new : (s : StreamView) × (find (λ s. is_live_phase s.phase && on_way new.graph s.host x) new.streams ≡ Some s)
  unfolding live
  found_new = find-any (λ s. is_live_phase s.phase && on_way new.graph s.host x) new.streams now

  -- they have parameters
  given_old : (p : Params) × (live_params old x ≡ Some p) × (found_old.0.params ≡ Some p)
  given_old =
      let s = found_old.0 in
      let of_old = find-some (λ s. is_live_phase s.phase && on_way old.graph s.host x) old.streams s found_old.1 in
      let p = is_some-value s.params (keeps.old_have s of_old.1 (and_parts (is_live_phase s.phase) (on_way old.graph s.host x) of_old.0).0) in
      (p.0, ap (option_and_then (λ s. s.params)) found_old.1 ∙ p.1, p.1)

  given_new : (p : Params) × (live_params new x ≡ Some p) × (found_new.0.params ≡ Some p)
  given_new =
      let s = found_new.0 in
      let of_new = find-some (λ s. is_live_phase s.phase && on_way new.graph s.host x) new.streams s found_new.1 in
      let p = is_some-value s.params (keeps.new_have s of_new.1 (and_parts (is_live_phase s.phase) (on_way new.graph s.host x) of_new.0).0) in
      (p.0, ap (option_and_then (λ s. s.params)) found_new.1 ∙ p.1, p.1)

  -- the old one is there still, and both touch at x
  one_shape : (given_old.0.rate == given_new.0.rate && given_old.0.channels == given_new.0.channels) ≡ true
  one_shape = sym (ap (λ (o : Option Params × Option Params). same_shape o.0 o.1) (λ i. ((kept.3 ∙ given_old.2) i, given_new.2 i))) ∙ touching new keeps.agrees kept.0 u kept.1 of_new.1 touches
    where
      s : StreamView
      s = found_old.0

      u : StreamView
      u = found_new.0

      of_old : ((is_live_phase s.phase && on_way old.graph s.host x) ≡ true) × Contains old.streams s
      of_old = find-some (λ s. is_live_phase s.phase && on_way old.graph s.host x) old.streams s found_old.1

      of_new : ((is_live_phase u.phase && on_way new.graph u.host x) ≡ true) × Contains new.streams u
      of_new = find-some (λ s. is_live_phase s.phase && on_way new.graph s.host x) new.streams u found_new.1

      lives : (is_live_phase s.phase ≡ true) × (on_way old.graph s.host x ≡ true)
      lives = and_parts (is_live_phase s.phase) (on_way old.graph s.host x) of_old.0

      lives_new : (is_live_phase u.phase ≡ true) × (on_way new.graph u.host x ≡ true)
      lives_new = and_parts (is_live_phase u.phase) (on_way new.graph u.host x) of_new.0

      kept : (t : StreamView) × Contains new.streams t × (t.host ≡ s.host) × (t.params ≡ s.params)
      kept = keeps.params s of_old.1 lives.0

      touches : touch new.graph kept.0.host u.host ≡ true
      touches = ap (λ h. h || echoes new.graph kept.0.host u.host || echoes new.graph u.host kept.0.host) shared
        where
          shared : share new.graph kept.0.host u.host ≡ true
          shared = list_any-at (λ y. on_way new.graph kept.0.host y && on_way new.graph u.host y) (components new.graph ++ buffers new.graph) x there
              (and_from (on_way new.graph kept.0.host x) (on_way new.graph u.host x) (ap (λ host. on_way new.graph host x) kept.2 ∙ sym (on_way_same old.graph new.graph keeps.ways s.host x) ∙ lives.1) lives_new.1)

  -- so what is Live before and after has the same channels and the same rate
  pub shapes-stay : (channels_of new x ≡ channels_of old x) × (rate_of new x ≡ rate_of old x)
  unfolding channels_of rate_of
  shapes-stay =
      let parts = and_parts (given_old.0.rate == given_new.0.rate) (given_old.0.channels == given_new.0.channels) one_shape in (
        ap (λ (o : Option Params). option_map_or (λ p. p.channels) o 0) given_new.1 ∙ sym (eqb-true given_old.0.channels given_new.0.channels parts.1) ∙ sym (ap (λ (o : Option Params). option_map_or (λ p. p.channels) o 0) given_old.1),
        ap (λ (o : Option Params). option_map_or (λ p. p.rate) o 0) given_new.1 ∙ sym (eqb-true given_old.0.rate given_new.0.rate parts.0) ∙ sym (ap (λ (o : Option Params). option_map_or (λ p. p.rate) o 0) given_old.1),
      )

-- ---- what stays as it is while Live

among-left : (xs ys : List ℕ) (x : ℕ) → is_among xs x ≡ true → is_among (xs ++ ys) x ≡ true
among-left xs ys x h = list_any-append (λ id. id == x) xs ys ∙ or_left (is_among xs x) (is_among ys x) h

among-right : (xs ys : List ℕ) (x : ℕ) → is_among ys x ≡ true → is_among (xs ++ ys) x ≡ true
among-right xs ys x h = list_any-append (λ id. id == x) xs ys ∙ or_right (is_among xs x) (is_among ys x) h

-- where frames may lie there is an edge
flows-there : (v : View) (b : ℕ) → flows v b ≡ true → is_among (buffers v.graph) b ≡ true
flows-there v b f = true_from_ne_false (is_among (buffers v.graph) b) (λ gone. false≢true (sym (flows-absent v b gone) ∙ f))

pub flows-live : (v : View) (b : ℕ) → flows v b ≡ true → live v b ≡ true
unfolding flows
flows-live v b f = (and_parts (live v b) (live_end v (source_of v.graph b)) (and_parts (live v b && live_end v (source_of v.graph b)) (live_end v (sink_of v.graph b)) f).0).0

pub live-stays : (old new : View) (fresh : Option ℕ) → KeepsShape old new fresh → StaysAsLive old new fresh
unfolding capacity ramp_length
live-stays old new fresh keeps = record {
  room = λ b was now. ap (λ (q : List Edge × ℕ). option_map_or (λ e. e.size) (find (λ e. e.buffer == b) q.0) 0 / 4 / q.1) (λ i. (
    sym keeps.keeps.ways.edges i,
    (shapes-stay old new keeps.keeps b (among-right (components new.graph) (buffers new.graph) b (flows-there new b now)) (flows-live old b was) (flows-live new b now)).0 i,
  ));
  kinds = λ c there was. keeps.keeps.ways.kinds c;
  on = λ c there goes.
      let outer = and_parts (live old c && live new c) (not (option_map_or (λ x. x == c) fresh false)) goes in
      let lives = and_parts (live old c) (live new c) outer.0 in
      let shape = shapes-stay old new keeps.keeps c (among-left (components new.graph) (buffers new.graph) c (remembers-there new c there)) lives.0 lives.1 in (
        keeps.blobs c (not-true (option_map_or (λ x. x == c) fresh false) outer.1),
        shape.0,
        ap (λ (q : ℕ × ℕ). q.0 * q.1 / 1000) (λ i. (keeps.ramps c i, shape.1 i)),
      );
}
