-- What components that are Active find at their edges.
use Rattle.std.proofs.Common.{◌≡◌, refl, sym, ap, ◌∙◌, subst, ℕ, ◌/◌, ◌≤◌, List, [], ◌∷◌, ◌++◌, filter, length, Option, Some, None, Bool, true, false, cond, not, inl, inr, ◌⊎◌, ◌==◌, ◌&&◌, ◌||◌, arith}
use Rattle.std.proofs.lemmas.Bool.{true≢false, false≢true, or_left, or_right, or_cases, and_parts, and_from, eqb-true, eq-eqb, leb-true}
use Rattle.std.specs.Prelude.{find, option_map, option_and_then, nat_le}
use Rattle.std.specs.Option.{option_map_or}
use Rattle.std.specs.List.{list_any, AllByRecursion}
use Rattle.sof_base.specs.declared.format.Params.{Params}
use Rattle.stream_law.specs.declared.graph.Comp.{Comp}
use Rattle.stream_law.specs.declared.graph.Edge.{Edge}
use Rattle.stream_law.specs.declared.graph.Join.{Join}
use Rattle.stream_law.specs.declared.graph.Pipe.{Pipe}
use Rattle.stream_law.specs.declared.graph.Graph.{Graph}
use Rattle.stream_law.specs.declared.stream.Phase.{Phase}
use Rattle.stream_law.specs.declared.stream.Phase.TheVariants.{Idle, Prepared, Running, Paused}
use Rattle.stream_law.specs.declared.stream.StreamView.{StreamView}
use Rattle.stream_law.specs.State.{View}
use Rattle.stream_law.specs.Ways.{comp_of, pipe_of, source_of, sink_of, ins, outs, components, buffers, is_end, is_of, is_capture, enters_capture, is_echo, way_joins, ways_to, on_way, is_end_on_way, is_live_phase, is_running_phase, live, active, channels_of}
use Rattle.stream_law.specs.Joins.{fits_kind}
use Rattle.stream_law.specs.Moves.{period, skips_idle_inputs, chooses}
use Rattle.stream_law.specs.Order.{is_among}
use Rattle.ipc3_model.specs.Allowed.{is_period_allowed}
use Rattle.mbox_link.specs.Step.{has_comp, has_kind, kind_at, is_host, is_ready_comp, is_way_ready}
use Rattle.row_laws.specs.Wired.{IsWired, HasJoinedSides}
use Rattle.row_laws.specs.Played.{AreStreamsPlayable, IsStreamSet, IsSetBy, is_idle}
use Rattle.row_laws.proofs.Fewer.{not-true}
use Rattle.row_laws.proofs.Found.{found-each}
use Rattle.row_laws.proofs.Growing.{some-found}
use Rattle.row_laws.proofs.Joined.{among-left, among-right}
use Rattle.stream_law.proofs.Members.{IsIn, in-all, in-any, any-in, kept-in}
use Rattle.row_laws.proofs.Stays.{IsOf, IsHeard, heard, all-of, find-some, find-any, live-idle, touching, one-shape}
use Rattle.row_laws.proofs.Touching.{echo-sides, touch-at, touch-echo}
use Rattle.row_laws.proofs.Trips.{goes_from, Trip, trip-first, trip-last, trip-end, trip-start, trip-ways, ways-trip, way-goes, goes-way}
use Rattle.row_laws.proofs.Near.{end-some, complete-comp, fits-comp, ready-comp, no-id, fits-in, play-in, in-buffers, in-comps, no-comp, plain-comp, at-buffer, source-comp, sink-comp, in-ins, one-in, source-goes, sink-goes, edge-into, goes-source, goes-sink}

running-live : (phase : Phase) → is_running_phase phase ≡ true → is_live_phase phase ≡ true
running-live Running e = refl
running-live Paused e = refl
running-live Idle e = absurd (false≢true e)
running-live Prepared e = absurd (false≢true e)

-- a Running stream on whose way x is
pub record IsRun (v : View) (x : ℕ) : Type 0 where
  pub stream : StreamView
  pub among : IsOf stream v.streams
  pub phase : is_running_phase stream.phase ≡ true
  pub way : on_way v.graph stream.host x ≡ true

pub run : (v : View) (x : ℕ) → active v x ≡ true → IsRun v x
unfolding active
run v x now =
    let found = find-any (λ s. is_running_phase s.phase && on_way v.graph s.host x) v.streams now in
    let s : StreamView = found.0 in
    let of = find-some (λ s. is_running_phase s.phase && on_way v.graph s.host x) v.streams s found.1 in
    let p = and_parts (is_running_phase s.phase) (on_way v.graph s.host x) of.0 in
    record { stream = s; among = of.1; phase = p.0; way = p.1 }

pub set-way : (g : Graph) (s : StreamView) → is_idle s.phase ≡ false → IsStreamSet g s → is_way_ready g s.host ≡ true
set-way g s awake is_set = by s.params is_set
  where
    by : (o : Option Params) → IsSetBy g s.host (is_idle s.phase) o → is_way_ready g s.host ≡ true
    by None e = absurd (true≢false (sym e ∙ awake))
    by (Some p) e = e.3

module _ (v : View) (wired : IsWired v.graph) (linked : HasJoinedSides v.graph) (played : AreStreamsPlayable v) where
  -- ---- the way of a host

  host-kind : (s : StreamView) → IsOf s v.streams → has_kind is_host (kind_at v.graph s.host) ≡ true
  host-kind s among = all-of (λ s. has_kind is_host (kind_at v.graph s.host) ≡ true) v.streams s played.owned among

  same-end : (o : Option ℕ) (a b : ℕ) → is_end o a ≡ true → is_end o b ≡ true → a ≡ b
  same-end o a b is_a is_b = let both : Some a ≡ Some b = sym (end-some o a is_a) ∙ end-some o b is_b in cc both

  is-comp : (c : Comp) → IsIn c v.graph.comps → has_comp v.graph c.id ≡ true
  is-comp c there = in-any (λ x. x.id == c.id) v.graph.comps c there (eq-eqb c.id c.id refl)

  pub comp-at : (c : Comp) → IsIn c v.graph.comps → comp_of v.graph c.id ≡ Some c
  comp-at c there = in-all (λ x. find (λ y. y.id == x.id) v.graph.comps ≡ Some x) v.graph.comps c (found-each (λ (x : Comp). x.id) v.graph.comps wired.ids) there

  -- no host is a buffer
  host-apart : (h : ℕ) → has_kind is_host (kind_at v.graph h) ≡ true → (e : Edge) → IsIn e v.graph.edges → h ≡ e.buffer → ⊥
  host-apart h host e there same = no-comp v.graph wired linked e there (ap (has_comp v.graph) (sym same) ∙ some-found is_host v.graph.comps h host)

  -- what is at a side of the edge is there, and it is one
  at-side : (f : ℕ → Bool) (o : Option ℕ) (c : ℕ) → is_end o c ≡ true → option_map_or f o false ≡ f c
  at-side f None c is = absurd (false≢true is)
  at-side f (Some n) c is = ap f (eqb-true n c is)

  -- a join of a way is between what is no echo edge
  way-plain : (a b : ℕ) → goes_from (way_joins v.graph) a b ≡ true → (is_echo v.graph a ≡ false) × (is_echo v.graph b ≡ false)
  unfolding way_joins
  way-plain a b goes =
      let found = any-in (λ (j : Join). j.source == a && j.sink == b) (filter (λ j. not (is_echo v.graph j.source) && not (is_echo v.graph j.sink)) v.graph.joins) goes in
      let j : Join = found.0 in
      let ends = and_parts (j.source == a) (j.sink == b) found.2 in
      let plain = and_parts (not (is_echo v.graph j.source)) (not (is_echo v.graph j.sink)) (kept-in (λ (k : Join). not (is_echo v.graph k.source) && not (is_echo v.graph k.sink)) v.graph.joins j found.1).1 in
      (ap (is_echo v.graph) (sym (eqb-true j.source a ends.0)) ∙ not-true (is_echo v.graph j.source) plain.0, ap (is_echo v.graph) (sym (eqb-true j.sink b ends.1)) ∙ not-true (is_echo v.graph j.sink) plain.1)

  -- the way of a host whose stream is a capture's or not
  module _ (h : ℕ) (host : has_kind is_host (kind_at v.graph h) ≡ true) (e : Edge) (at : IsIn e v.graph.edges) where
    split : (t : Bool) → is_of v.graph is_capture h ≡ t → (x : ℕ) → on_way v.graph h x ≡ cond t (ways_to v.graph x h || (is_echo v.graph x && option_map_or (λ c. ways_to v.graph c h) (sink_of v.graph x) false)) (ways_to v.graph h x)
    unfolding on_way
    split t is x = ap (λ k. cond k (ways_to v.graph x h || (is_echo v.graph x && option_map_or (λ c. ways_to v.graph c h) (sink_of v.graph x) false)) (ways_to v.graph h x)) is

    -- from the way by walks without an echo edge
    on-capture : is_of v.graph is_capture h ≡ true → (x : ℕ) → ways_to v.graph x h ≡ true → on_way v.graph h x ≡ true
    on-capture is x to = split true is x ∙ or_left (ways_to v.graph x h) _ to

    on-play : is_of v.graph is_capture h ≡ false → (x : ℕ) → ways_to v.graph h x ≡ true → on_way v.graph h x ≡ true
    on-play is x from = split false is x ∙ from

    -- and of an echo edge
    on-echo : is_of v.graph is_capture h ≡ true → is_echo v.graph e.buffer ≡ true → (c : ℕ) → is_end e.sink c ≡ true → ways_to v.graph c h ≡ true → on_way v.graph h e.buffer ≡ true
    on-echo is echo c to on =
        split true is e.buffer
        ∙ or_right (ways_to v.graph e.buffer h) _ (and_from (is_echo v.graph e.buffer) _ echo (at-side (λ c. ways_to v.graph c h) (sink_of v.graph e.buffer) c (ap (λ (o : Option Edge). is_end (option_and_then (λ e. e.sink) o) c) (at-buffer v.graph wired linked e at) ∙ to) ∙ on))

    -- a component is on it by such a walk
    comp-to : is_of v.graph is_capture h ≡ true → (c : ℕ) → has_comp v.graph c ≡ true → on_way v.graph h c ≡ true → ways_to v.graph c h ≡ true
    comp-to is c comp on = by (or_cases (ways_to v.graph c h) (is_echo v.graph c && option_map_or (λ c. ways_to v.graph c h) (sink_of v.graph c) false) (sym (split true is c) ∙ on))
      where
        by : (ways_to v.graph c h ≡ true) ⊎ ((is_echo v.graph c && option_map_or (λ c. ways_to v.graph c h) (sink_of v.graph c) false) ≡ true) → ways_to v.graph c h ≡ true
        by (inl e) = e
        by (inr e) = absurd (true≢false (sym (and_parts (is_echo v.graph c) _ e).0 ∙ plain-comp v.graph wired linked c comp))

    -- where an edge is on the way, so is what it goes to
    pub on-sink : on_way v.graph h e.buffer ≡ true → (x : ℕ) → is_end e.sink x ≡ true → on_way v.graph h x ≡ true
    on-sink on x to = by (is_of v.graph is_capture h) refl
      where
        next : is_of v.graph is_capture h ≡ true → (e.buffer ≡ h) ⊎ ((y : ℕ) × (goes_from (way_joins v.graph) e.buffer y ≡ true) × Trip (way_joins v.graph) y h) → on_way v.graph h x ≡ true
        next is (inl same) = absurd (host-apart h host e at (sym same))
        next is (inr r) = on-capture is x (ways-trip v.graph x h (subst (λ n. Trip (way_joins v.graph) n h) (same-end e.sink r.0 x (goes-sink v.graph wired linked e at r.0 (way-goes v.graph e.buffer r.0 r.1)) to) r.2))

        capture : is_of v.graph is_capture h ≡ true → (ways_to v.graph e.buffer h ≡ true) ⊎ ((is_echo v.graph e.buffer && option_map_or (λ c. ways_to v.graph c h) (sink_of v.graph e.buffer) false) ≡ true) → on_way v.graph h x ≡ true
        capture is (inl walks) = next is (trip-start (way_joins v.graph) e.buffer h (trip-ways v.graph e.buffer h walks))
        capture is (inr echoes) =
            on-capture is x (sym (at-side (λ c. ways_to v.graph c h) (sink_of v.graph e.buffer) x (ap (λ (o : Option Edge). is_end (option_and_then (λ e. e.sink) o) x) (at-buffer v.graph wired linked e at) ∙ to)) ∙ (and_parts (is_echo v.graph e.buffer) _ echoes).1)

        play : is_of v.graph is_capture h ≡ false → (h ≡ e.buffer) ⊎ ((a : ℕ) × Trip (way_joins v.graph) h a × (goes_from (way_joins v.graph) a e.buffer ≡ true)) → Trip (way_joins v.graph) h e.buffer → on_way v.graph h x ≡ true
        play is (inl same) trip = absurd (host-apart h host e at same)
        play is (inr r) trip =
            on-play is x (ways-trip v.graph h x (trip-last (way_joins v.graph) h e.buffer x trip (goes-way v.graph e.buffer x (way-plain r.0 e.buffer r.2).1 (plain-comp v.graph wired linked x (sink-comp v.graph wired linked e x at to)) (sink-goes v.graph wired linked e at x to))))

        by : (t : Bool) → is_of v.graph is_capture h ≡ t → on_way v.graph h x ≡ true
        by true is = capture is (or_cases (ways_to v.graph e.buffer h) _ (sym (split true is e.buffer) ∙ on))
        by false is = let trip = trip-ways v.graph h e.buffer (sym (split false is e.buffer) ∙ on) in play is (trip-end (way_joins v.graph) h e.buffer trip) trip

    -- and what it comes from, or it is an echo edge
    pub on-source : on_way v.graph h e.buffer ≡ true → (x : ℕ) → is_end e.source x ≡ true → (on_way v.graph h x ≡ true) ⊎ (is_echo v.graph e.buffer ≡ true)
    on-source on x from = by (is_of v.graph is_capture h) refl
      where
        next : is_of v.graph is_capture h ≡ true → (e.buffer ≡ h) ⊎ ((y : ℕ) × (goes_from (way_joins v.graph) e.buffer y ≡ true) × Trip (way_joins v.graph) y h) → Trip (way_joins v.graph) e.buffer h → on_way v.graph h x ≡ true
        next is (inl same) trip = absurd (host-apart h host e at (sym same))
        next is (inr r) trip =
            on-capture is x (ways-trip v.graph x h (trip-first (way_joins v.graph) x e.buffer h (goes-way v.graph x e.buffer (plain-comp v.graph wired linked x (source-comp v.graph wired linked e x at from)) (way-plain e.buffer r.0 r.1).0 (source-goes v.graph wired linked e at x from)) trip))

        capture : is_of v.graph is_capture h ≡ true → (ways_to v.graph e.buffer h ≡ true) ⊎ ((is_echo v.graph e.buffer && option_map_or (λ c. ways_to v.graph c h) (sink_of v.graph e.buffer) false) ≡ true) → (on_way v.graph h x ≡ true) ⊎ (is_echo v.graph e.buffer ≡ true)
        capture is (inl walks) = let trip = trip-ways v.graph e.buffer h walks in inl (next is (trip-start (way_joins v.graph) e.buffer h trip) trip)
        capture is (inr echoes) = inr (and_parts (is_echo v.graph e.buffer) _ echoes).0

        play : is_of v.graph is_capture h ≡ false → (h ≡ e.buffer) ⊎ ((a : ℕ) × Trip (way_joins v.graph) h a × (goes_from (way_joins v.graph) a e.buffer ≡ true)) → on_way v.graph h x ≡ true
        play is (inl same) = absurd (host-apart h host e at same)
        play is (inr r) = on-play is x (ways-trip v.graph h x (subst (Trip (way_joins v.graph) h) (same-end e.source r.0 x (goes-source v.graph wired linked e at r.0 (way-goes v.graph r.0 e.buffer r.2)) from) r.1))

        by : (t : Bool) → is_of v.graph is_capture h ≡ t → (on_way v.graph h x ≡ true) ⊎ (is_echo v.graph e.buffer ≡ true)
        by true is = capture is (or_cases (ways_to v.graph e.buffer h) _ (sym (split true is e.buffer) ∙ on))
        by false is = inl (play is (trip-end (way_joins v.graph) h e.buffer (trip-ways v.graph h e.buffer (sym (split false is e.buffer) ∙ on))))

    -- where a component with one edge in is on the way, so is that edge
    on-in : (c : Comp) → IsIn c v.graph.comps → is_ready_comp v.graph c ≡ true → skips_idle_inputs c.kind ≡ false → is_end e.sink c.id ≡ true → on_way v.graph h c.id ≡ true → on_way v.graph h e.buffer ≡ true
    on-in c there ready plain to on = by (is_of v.graph is_capture h) refl
      where
        fits : fits_kind c.kind (length (ins v.graph c.id)) (length (outs v.graph c.id)) ≡ true
        fits = fits-comp v.graph c ready

        -- the host's own kind, where it is the component
        own : h ≡ c.id → comp_of v.graph h ≡ Some c
        own same = ap (comp_of v.graph) same ∙ comp-at c there

        own-host : h ≡ c.id → is_host c.kind ≡ true
        own-host same = ap (λ (o : Option Comp). has_kind is_host (option_map (λ c. c.kind) o)) (sym (own same)) ∙ host

        own-side : is_of v.graph is_capture h ≡ false → h ≡ c.id → is_capture c.kind ≡ false
        own-side is same = ap (λ (o : Option Comp). option_map_or (λ c. is_capture c.kind) o false) (sym (own same)) ∙ is

        capture : is_of v.graph is_capture h ≡ true → (k : Bool) → is_echo v.graph e.buffer ≡ k → ways_to v.graph c.id h ≡ true → on_way v.graph h e.buffer ≡ true
        capture is true echo walks = on-echo is echo c.id to walks
        capture is false flat walks =
            on-capture is e.buffer (ways-trip v.graph e.buffer h (trip-first (way_joins v.graph) e.buffer c.id h (goes-way v.graph e.buffer c.id flat (plain-comp v.graph wired linked c.id (is-comp c there)) (sink-goes v.graph wired linked e at c.id to)) (trip-ways v.graph c.id h walks)))

        play : is_of v.graph is_capture h ≡ false → (h ≡ c.id) ⊎ ((b : ℕ) × Trip (way_joins v.graph) h b × (goes_from (way_joins v.graph) b c.id ≡ true)) → on_way v.graph h e.buffer ≡ true
        play is (inl same) = absurd (no-id (ins v.graph c.id) e.buffer (play-in c.kind (length (ins v.graph c.id)) (length (outs v.graph c.id)) (own-host same) (own-side is same) fits) (in-ins v.graph wired linked e c.id at to))
        play is (inr r) =
            let f = edge-into v.graph wired linked r.0 c.id (is-comp c there) (way-goes v.graph r.0 c.id r.2) in
            let only = one-in v.graph wired linked c.id (fits-in c.kind (length (ins v.graph c.id)) (length (outs v.graph c.id)) plain fits) f.0 e f.1 at f.3 to in
            on-play is e.buffer (ways-trip v.graph h e.buffer (subst (Trip (way_joins v.graph) h) (sym f.2 ∙ ap (λ (y : Edge). y.buffer) only) r.1))

        by : (t : Bool) → is_of v.graph is_capture h ≡ t → on_way v.graph h e.buffer ≡ true
        by true is = capture is (is_echo v.graph e.buffer) refl (comp-to is c.id (is-comp c there) on)
        by false is = play is (trip-end (way_joins v.graph) h c.id (trip-ways v.graph h c.id (sym (split false is c.id) ∙ on)))

  -- ---- what is Active

  any-of : (p : StreamView → Bool) (xs : List StreamView) (s : StreamView) → IsOf s xs → p s ≡ true → list_any p xs ≡ true
  any-of p [] s here e = absurd here
  any-of p (t ∷ ts) s (inl same) e = or_left (p t) _ (ap p (sym same) ∙ e)
  any-of p (t ∷ ts) s (inr more) e = or_right (p t) _ (any-of p ts s more e)

  -- what is on a Live stream's way is Live, and has its channels
  live-by : (s : StreamView) → IsOf s v.streams → is_live_phase s.phase ≡ true → (x : ℕ) → on_way v.graph s.host x ≡ true → live v x ≡ true
  unfolding live
  live-by s among lives x on = any-of (λ s. is_live_phase s.phase && on_way v.graph s.host x) v.streams s among (and_from (is_live_phase s.phase) (on_way v.graph s.host x) lives on)

  channels-by : (s : StreamView) → IsOf s v.streams → is_live_phase s.phase ≡ true → (p : Params) → s.params ≡ Some p → (x : ℕ) → is_among (components v.graph ++ buffers v.graph) x ≡ true → on_way v.graph s.host x ≡ true → channels_of v x ≡ p.channels
  channels-by s among lives p has x there on =
      let b = heard v x played (live-by s among lives x on) in
      let touches = touch-at v.graph s.host b.stream.host x there on b.way in
      b.channels ∙ sym (one-shape p b.params s.params b.stream.params has b.has (touching v played.agreed s b.stream among b.among touches))

  awake : (s : StreamView) → is_running_phase s.phase ≡ true → is_idle s.phase ≡ false
  awake s running = live-idle s.phase (running-live s.phase running)

  -- a component that is Active is ready
  pub active-ready : (c : Comp) → IsIn c v.graph.comps → active v c.id ≡ true → is_ready_comp v.graph c ≡ true
  active-ready c there now =
      let r = run v c.id now in
      ready-comp v.graph r.stream.host (set-way v.graph r.stream (awake r.stream r.phase) (all-of (IsStreamSet v.graph) v.streams r.stream played.each r.among)) c there r.way

  pub active-live : (x : ℕ) → active v x ≡ true → live v x ≡ true
  active-live x now = let r = run v x now in live-by r.stream r.among (running-live r.stream.phase r.phase) x r.way

  is-node : (c : Comp) → IsIn c v.graph.comps → is_among (components v.graph ++ buffers v.graph) c.id ≡ true
  is-node c there = among-left (components v.graph) (buffers v.graph) c.id (in-comps v.graph.comps c there)

  is-buffer : (e : Edge) → IsIn e v.graph.edges → is_among (components v.graph ++ buffers v.graph) e.buffer ≡ true
  is-buffer e at = among-right (components v.graph) (buffers v.graph) e.buffer (in-buffers v.graph.edges e at)

  -- what a component that is Active finds at an edge: it is Live, in the channels of the component
  pub record IsAlong (c b : ℕ) : Type 0 where
    pub edge : Edge
    pub among : IsIn edge v.graph.edges
    pub is : b ≡ edge.buffer
    pub lives : live v edge.buffer ≡ true
    pub channels : channels_of v edge.buffer ≡ channels_of v c

  -- at an edge out of it that is Live: on the way of whose stream the edge is, that is on it too, or the edge is an echo edge between two
  -- ways, and their streams touch
  pub along-out : (c : Comp) → IsIn c v.graph.comps → active v c.id ≡ true → (e : Edge) → IsIn e v.graph.edges → is_end e.source c.id ≡ true → live v e.buffer ≡ true → IsAlong c.id e.buffer
  along-out c there now e at from lives =
      record { edge = e; among = at; is = refl; lives = lives; channels = by (on-source b.stream.host (host-kind b.stream b.among) e at b.way c.id from) }
    where
      b : IsHeard v e.buffer
      b = heard v e.buffer played lives

      own : IsHeard v c.id
      own = heard v c.id played (active-live c.id now)

      side : source_of v.graph e.buffer ≡ e.source
      side = ap (λ (o : Option Edge). option_and_then (λ e. e.source) o) (at-buffer v.graph wired linked e at)

      goal : sink_of v.graph e.buffer ≡ e.sink
      goal = ap (λ (o : Option Edge). option_and_then (λ e. e.sink) o) (at-buffer v.graph wired linked e at)

      on-end : (o : Option ℕ) → ((x : ℕ) → is_end o x ≡ true → on_way v.graph b.stream.host x ≡ true) → option_map_or (enters_capture v.graph) o false ≡ true → is_end_on_way v.graph b.stream.host o ≡ true
      on-end None on enters = absurd (false≢true enters)
      on-end (Some x) on enters = on x (eq-eqb x x refl)

      by : (on_way v.graph b.stream.host c.id ≡ true) ⊎ (is_echo v.graph e.buffer ≡ true) → channels_of v e.buffer ≡ channels_of v c.id
      by (inl on) =
          channels-by b.stream b.among b.phase b.params b.has e.buffer (is-buffer e at) b.way
          ∙ sym (channels-by b.stream b.among b.phase b.params b.has c.id (is-node c there) on)
      by (inr echo) =
          let starts : is_end_on_way v.graph own.stream.host (source_of v.graph e.buffer) ≡ true = ap (is_end_on_way v.graph own.stream.host) side ∙ at-side (on_way v.graph own.stream.host) e.source c.id from ∙ own.way in
          let ends = on-end (sink_of v.graph e.buffer) (λ x to. on-sink b.stream.host (host-kind b.stream b.among) e at b.way x (ap (λ o. is_end o x) (sym goal) ∙ to)) (echo-sides v.graph e.buffer echo).1 in
          let touches = touch-echo v.graph own.stream.host b.stream.host e.buffer echo starts ends in
          b.channels ∙ sym (one-shape own.params b.params own.stream.params b.stream.params own.has b.has (touching v played.agreed own.stream b.stream own.among b.among touches)) ∙ sym own.channels

  pub chooses-kind : (c : Comp) → IsIn c v.graph.comps → chooses v c.id ≡ skips_idle_inputs c.kind
  unfolding chooses
  chooses-kind c there = ap (λ (o : Option Comp). option_map_or (λ x. skips_idle_inputs x.kind) o false) (comp-at c there)

  -- the one edge into a component that does not choose is Live
  live-in : (c : Comp) → IsIn c v.graph.comps → active v c.id ≡ true → skips_idle_inputs c.kind ≡ false → (e : Edge) → IsIn e v.graph.edges → is_end e.sink c.id ≡ true → live v e.buffer ≡ true
  live-in c there now plain e at to =
      let r = run v c.id now in
      live-by r.stream r.among (running-live r.stream.phase r.phase) e.buffer (on-in r.stream.host (host-kind r.stream r.among) e at c there (active-ready c there now) plain to r.way)

  -- and at such an edge, or at any edge into it that is Live
  pub along-in : (c : Comp) → IsIn c v.graph.comps → active v c.id ≡ true → (e : Edge) → IsIn e v.graph.edges → is_end e.sink c.id ≡ true → (not (chooses v c.id) || live v e.buffer) ≡ true → IsAlong c.id e.buffer
  along-in c there now e at to takes =
      record {
        edge = e;
        among = at;
        is = refl;
        lives = lives;
        channels =
            let b = heard v e.buffer played lives in
            channels-by b.stream b.among b.phase b.params b.has e.buffer (is-buffer e at) b.way
            ∙ sym (channels-by b.stream b.among b.phase b.params b.has c.id (is-node c there) (on-sink b.stream.host (host-kind b.stream b.among) e at b.way c.id to));
      }
    where
      by : (h : Bool) → skips_idle_inputs c.kind ≡ h → (not h || live v e.buffer) ≡ true → live v e.buffer ≡ true
      by false plain is = live-in c there now plain e at to
      by true some is = is

      lives : live v e.buffer ≡ true
      lives = by (skips_idle_inputs c.kind) refl (sym (ap (λ h. not h || live v e.buffer) (chooses-kind c there)) ∙ takes)

  -- its pipeline has a period
  pub active-period : AllByRecursion (λ p. is_period_allowed p.period ≡ true) v.graph.pipes → (c : Comp) → IsIn c v.graph.comps → active v c.id ≡ true → 1 ≤ period v c.id
  active-period periods c there now =
      let ready = active-ready c there now in
      let complete = complete-comp v.graph c ready in
      let found = at v.graph.pipes periods complete in
      let p : Pipe = found.0 in
      let long : 1000 ≤ p.period = leb-true 1000 p.period (and_parts (nat_le 1000 p.period) (nat_le p.period 10000) (and_parts (nat_le 1000 p.period && nat_le p.period 10000) _ found.2).0).0 in
      let is : period v c.id ≡ p.period / 1000 =
      ap (λ (o : Option Comp). option_map_or (λ x. option_map_or (λ p. p.period) (pipe_of v.graph x.pipe) 0) o 0 / 1000) (comp-at c there)
      ∙ ap (λ (o : Option Pipe). option_map_or (λ p. p.period) o 0 / 1000) found.1 in
      omega (arith, is, long)
    where
      at : (ps : List Pipe) → AllByRecursion (λ p. is_period_allowed p.period ≡ true) ps → list_any (λ p. p.index == c.pipe && p.complete) ps ≡ true → (p : Pipe) × (find (λ p. p.index == c.pipe) ps ≡ Some p) × (is_period_allowed p.period ≡ true)
      at [] all is = absurd (false≢true is)
      at (p ∷ ps) all is = by (p.index == c.pipe) is (at ps all.1)
        where
          by : (h : Bool) → ((h && p.complete) || list_any (λ p. p.index == c.pipe && p.complete) ps) ≡ true → (list_any (λ p. p.index == c.pipe && p.complete) ps ≡ true → (q : Pipe) × (find (λ p. p.index == c.pipe) ps ≡ Some q) × (is_period_allowed q.period ≡ true)) → (q : Pipe) × (cond h (Some p) (find (λ p. p.index == c.pipe) ps) ≡ Some q) × (is_period_allowed q.period ≡ true)
          by true is rest = (p, refl, all.0)
          by false is rest = rest is
