-- What one component or one buffer more keeps of views.
use Rattle.std.proofs.Common.{◌≡◌, refl, sym, ap, ◌∙◌, ℕ, List, [], ◌∷◌, ◌++◌, Option, Some, None, Bool, true, false, cond, not, ◌==◌, ◌&&◌, ◌||◌}
use Rattle.std.proofs.lemmas.Bool.{true≢false, false≢true, false_from_ne_true, or_from, or_parts, or_left, or_right, and_parts, and_from, eqb-true, eq-eqb}
use Rattle.std.specs.Prelude.{find, option_map, nat_lt}
use Rattle.std.specs.Option.{option_map_or, option_and_then}
use Rattle.std.specs.List.{list_any, list_all, AllByRecursion}
use Rattle.sof_base.specs.declared.format.Params.{Params}
use Rattle.stream_law.specs.declared.graph.Kind.{Kind}
use Rattle.stream_law.specs.declared.graph.Kind.TheVariants.{HostPlay, HostCapture}
use Rattle.stream_law.specs.declared.graph.Comp.{Comp}
use Rattle.stream_law.specs.declared.graph.Edge.{Edge}
use Rattle.stream_law.specs.declared.graph.Pipe.{Pipe}
use Rattle.stream_law.specs.declared.graph.Graph.{Graph}
use Rattle.stream_law.specs.declared.stream.Phase.TheVariants.{Idle}
use Rattle.stream_law.specs.declared.stream.StreamView.{StreamView}
use Rattle.stream_law.specs.Placed.{placed, HasDistinct}
use Rattle.stream_law.specs.State.{View}
use Rattle.stream_law.specs.Ways.{comp_of, components, buffers, source_of, sink_of, is_end, is_of, is_echo, on_way, is_live_phase, live, live_end, rate_of, channels_of, touch, same_shape, agree}
use Rattle.stream_law.specs.Order.{is_among}
use Rattle.stream_law.specs.Seen.{flows}
use Rattle.stream_law.proofs.Placing.{list_any-placed, find-placed_apart, find-placed_there, HasDistinct-placed}
use Rattle.mbox_link.specs.Step.{has_comp, has_edge, has_pipe, has_kind, kind_at, is_host, is_ready_comp, is_ready_edge, is_way_ready, with_host_stream}
use Rattle.row_laws.specs.Wired.{IsWired, IsSide, IsBetween, is_node}
use Rattle.row_laws.specs.Played.{AreStreamsPlayable, IsStreamSet, IsSetBy, is_idle}
use Rattle.row_laws.proofs.Ids.{any-ids}
use Rattle.row_laws.proofs.Unreached.{eqb-turned, IsApart, apart, off-way}
use Rattle.row_laws.proofs.Echoes.{ends-apart, echo-same, way-same}
use Rattle.row_laws.proofs.Touching.{touch-by, test-kept}

-- ---- records put into a list

pub all-placed : {X : Type 0} (P : X → Type 0) (key : X → ℕ) (x : X) (xs : List X) → P x → AllByRecursion P xs → AllByRecursion P (placed key x xs)
all-placed P key x [] one all = (one, tt)
all-placed {X} P key x (y ∷ ys) one all = by (nat_lt (key x) (key y)) (all-placed P key x ys one all.1)
  where
    by : (h : Bool) → AllByRecursion P (placed key x ys) → AllByRecursion P (cond h (x ∷ y ∷ ys) (y ∷ placed key x ys))
    by true rest = (one, all)
    by false rest = (all.0, rest)

pub list_all-placed : {X : Type 0} (p : X → Bool) (key : X → ℕ) (x : X) (xs : List X) → list_all p (placed key x xs) ≡ (p x && list_all p xs)
list_all-placed p key x [] = refl
list_all-placed {X} p key x (y ∷ ys) = by (nat_lt (key x) (key y)) (list_all-placed p key x ys)
  where
    swapped : (a b c : Bool) → (a && (b && c)) ≡ (b && (a && c))
    swapped true b c = refl
    swapped false true c = refl
    swapped false false c = refl

    by : (h : Bool) → list_all p (placed key x ys) ≡ (p x && list_all p ys) → list_all p (cond h (x ∷ y ∷ ys) (y ∷ placed key x ys)) ≡ (p x && (p y && list_all p ys))
    by true rest = refl
    by false rest = ap (λ t. p y && t) rest ∙ swapped (p y) (p x) (list_all p ys)

pub all-by : {X : Type 0} (P Q : X → Type 0) → ((x : X) → P x → Q x) → (xs : List X) → AllByRecursion P xs → AllByRecursion Q xs
all-by P Q f [] all = tt
all-by P Q f (x ∷ xs) all = (f x all.0, all-by P Q f xs all.1)

-- tests that agree on each record agree on the list
pub any-same : {X : Type 0} (p q : X → Bool) (xs : List X) → AllByRecursion (λ x. p x ≡ q x) xs → list_any p xs ≡ list_any q xs
any-same p q [] all = refl
any-same p q (x ∷ xs) all = ap (λ (h : Bool × Bool). h.0 || h.1) (λ i. (all.0 i, any-same p q xs all.1 i))

pub find-same : {X : Type 0} (p q : X → Bool) (xs : List X) → AllByRecursion (λ x. p x ≡ q x) xs → find p xs ≡ find q xs
find-same p q [] all = refl
find-same {X} p q (x ∷ xs) all = ap (λ (h : Bool × Option X). cond h.0 (Some x) h.1) (λ i. (all.0 i, find-same p q xs all.1 i))

pub all-same : {X : Type 0} (p q : X → Bool) (xs : List X) → AllByRecursion (λ x. p x ≡ q x) xs → list_all p xs ≡ list_all q xs
all-same p q [] all = refl
all-same p q (x ∷ xs) all = ap (λ (h : Bool × Bool). h.0 && h.1) (λ i. (all.0 i, all-same p q xs all.1 i))

-- ---- a component more

pub some-found : (test : Kind → Bool) (xs : List Comp) (n : ℕ) → has_kind test (option_map (λ c. c.kind) (find (λ c. c.id == n) xs)) ≡ true → list_any (λ c. c.id == n) xs ≡ true
some-found test [] n e = absurd (false≢true e)
some-found test (x ∷ xs) n e = by (x.id == n) e (some-found test xs n)
  where
    by : (h : Bool) → has_kind test (option_map (λ c. c.kind) (cond h (Some x) (find (λ c. c.id == n) xs))) ≡ true → (has_kind test (option_map (λ c. c.kind) (find (λ c. c.id == n) xs)) ≡ true → list_any (λ c. c.id == n) xs ≡ true) → (h || list_any (λ c. c.id == n) xs) ≡ true
    by true e rest = refl
    by false e rest = rest e

-- hosts are other ids than one that is no component's
pub hosts-apart : (g : Graph) (id : ℕ) → has_comp g id ≡ false → (ss : List StreamView) → AllByRecursion (λ s. has_kind is_host (kind_at g s.host) ≡ true) ss → AllByRecursion (λ s. (s.host == id) ≡ false) ss
hosts-apart g id gone ss owned = all-by (λ s. has_kind is_host (kind_at g s.host) ≡ true) (λ s. (s.host == id) ≡ false) (λ s e. false_from_ne_true (s.host == id) (λ same. true≢false (sym (some-found is_host g.comps s.host e) ∙ ap (has_comp g) (eqb-true s.host id same) ∙ gone))) ss owned

-- no stream is of such an id
pub no-host : (id : ℕ) (ss : List StreamView) → AllByRecursion (λ s. (s.host == id) ≡ false) ss → list_any (λ s. s.host == id) ss ≡ false
no-host id [] all = refl
no-host id (s ∷ ss) all = or_from (s.host == id) _ all.0 (no-host id ss all.1)

-- the stream that a host brings
abbrev pub fresh_stream : ℕ → StreamView
fresh_stream id = record { host = id; phase = Idle; params = None }

-- a list of streams, or one with a fresh stream more
pub brought : (P : List StreamView → Type 0) (id : ℕ) (kind : Kind) (ss : List StreamView) → P ss → (is_host kind ≡ true → P (placed (λ s. s.host) (fresh_stream id) ss)) → P (with_host_stream id kind ss)
brought P id HostPlay ss old new = new refl
brought P id HostCapture ss old new = new refl
brought P id kind ss old new = old

module _ (g : Graph) (c : Comp) (gone : is_node g c.id ≡ false) (wired : IsWired g) (ss : List StreamView) (played : AreStreamsPlayable (record { graph = g; streams = ss })) where
  abbrev wider : Graph
  wider = record { comps = placed (λ x. x.id) c g.comps; edges = g.edges; pipes = g.pipes; joins = g.joins }

  abbrev more : List StreamView
  more = with_host_stream c.id c.kind ss

  abbrev old : View
  old = record { graph = g; streams = ss }

  abbrev new : View
  new = record { graph = wider; streams = more }

  no-comp : has_comp g c.id ≡ false
  no-comp = (or_parts (has_comp g c.id) (has_edge g c.id) gone).0

  far : AllByRecursion (λ s. (s.host == c.id) ≡ false) ss
  far = hosts-apart g c.id no-comp ss played.owned

  clear : IsApart c.id g.joins
  clear = apart g c.id gone g.joins wired.ends

  comp-other : (n : ℕ) → (n == c.id) ≡ false → comp_of wider n ≡ comp_of g n
  comp-other n other = find-placed_apart (λ x. x.id == n) (λ x. x.id) c g.comps (eqb-turned n c.id other)

  no-buffer : has_edge g c.id ≡ false
  no-buffer = (or_parts (has_comp g c.id) (has_edge g c.id) gone).1

  -- nothing is at the new id, so echo edges and ways are what they were
  ends : (b : ℕ) → (is_end (source_of g b) c.id ≡ false) × (is_end (sink_of g b) c.id ≡ false)
  ends = ends-apart g c.id no-comp wired.sides

  kinds-other : (sort : Kind → Bool) (n : ℕ) → (n == c.id) ≡ false → is_of g sort n ≡ is_of wider sort n
  kinds-other sort n other = ap (λ (o : Option Comp). option_map_or (λ x. sort x.kind) o false) (sym (comp-other n other))

  echo-wider : (b : ℕ) → is_echo wider b ≡ true → (is_echo g b ≡ true) × (source_of wider b ≡ source_of g b) × (sink_of wider b ≡ sink_of g b)
  echo-wider b is = (echo-same g wider c.id refl clear (λ b. refl) (λ b. refl) ends kinds-other b ∙ is, refl, refl)

  way-other : (n x : ℕ) → (n == c.id) ≡ false → on_way wider n x ≡ on_way g n x
  way-other n x other = sym (way-same g wider c.id refl clear (λ b. refl) (λ b. refl) ends kinds-other n x other)

  off-new : (n : ℕ) → (n == c.id) ≡ false → on_way g n c.id ≡ false
  off-new n other = off-way g n c.id other no-buffer clear

  way-new : (n : ℕ) → (n == c.id) ≡ false → on_way wider n c.id ≡ false
  way-new n other = way-other n c.id other ∙ off-new n other

  pub live-wider : (x : ℕ) → live new x ≡ live old x
  unfolding live
  live-wider x =
      brought (λ xs. list_any (λ s. is_live_phase s.phase && on_way wider s.host x) xs ≡ list_any (λ s. is_live_phase s.phase && on_way wider s.host x) ss) c.id c.kind ss refl (λ host. list_any-placed (λ s. is_live_phase s.phase && on_way wider s.host x) (λ s. s.host) (fresh_stream c.id) ss)
      ∙ any-same (λ s. is_live_phase s.phase && on_way wider s.host x) (λ s. is_live_phase s.phase && on_way g s.host x) ss (all-by (λ s. (s.host == c.id) ≡ false) (λ s. (is_live_phase s.phase && on_way wider s.host x) ≡ (is_live_phase s.phase && on_way g s.host x)) (λ s e. ap (λ h. is_live_phase s.phase && h) (way-other s.host x e)) ss far)

  pub channels-wider : (x : ℕ) → channels_of new x ≡ channels_of old x
  unfolding channels_of
  channels-wider x =
      ap (λ (o : Option StreamView). option_map_or (λ (p : Params). p.channels) (option_and_then (λ s. s.params) o) 0)
      (brought (λ xs. find (λ s. is_live_phase s.phase && on_way wider s.host x) xs ≡ find (λ s. is_live_phase s.phase && on_way wider s.host x) ss) c.id c.kind ss refl (λ host. find-placed_apart (λ s. is_live_phase s.phase && on_way wider s.host x) (λ s. s.host) (fresh_stream c.id) ss refl)
      ∙ find-same (λ s. is_live_phase s.phase && on_way wider s.host x) (λ s. is_live_phase s.phase && on_way g s.host x) ss (all-by (λ s. (s.host == c.id) ≡ false) (λ s. (is_live_phase s.phase && on_way wider s.host x) ≡ (is_live_phase s.phase && on_way g s.host x)) (λ s e. ap (λ h. is_live_phase s.phase && h) (way-other s.host x e)) ss far))

  pub rate-wider : (x : ℕ) → rate_of new x ≡ rate_of old x
  unfolding rate_of
  rate-wider x =
      ap (λ (o : Option StreamView). option_map_or (λ (p : Params). p.rate) (option_and_then (λ s. s.params) o) 0)
      (brought (λ xs. find (λ s. is_live_phase s.phase && on_way wider s.host x) xs ≡ find (λ s. is_live_phase s.phase && on_way wider s.host x) ss) c.id c.kind ss refl (λ host. find-placed_apart (λ s. is_live_phase s.phase && on_way wider s.host x) (λ s. s.host) (fresh_stream c.id) ss refl)
      ∙ find-same (λ s. is_live_phase s.phase && on_way wider s.host x) (λ s. is_live_phase s.phase && on_way g s.host x) ss (all-by (λ s. (s.host == c.id) ≡ false) (λ s. (is_live_phase s.phase && on_way wider s.host x) ≡ (is_live_phase s.phase && on_way g s.host x)) (λ s e. ap (λ h. is_live_phase s.phase && h) (way-other s.host x e)) ss far))

  end-wider : (o : Option ℕ) → live_end new o ≡ live_end old o
  end-wider None = refl
  end-wider (Some n) = live-wider n

  pub flows-wider : (b : ℕ) → flows new b ≡ flows old b
  unfolding flows
  flows-wider b = ap (λ (p : Bool × Bool × Bool). (p.0 && p.1) && p.2) (λ i. (live-wider b i, end-wider (source_of g b) i, end-wider (sink_of g b) i))

  ready-wider : (n : ℕ) → (n == c.id) ≡ false → is_way_ready g n ≡ true → is_way_ready wider n ≡ true
  unfolding is_way_ready
  ready-wider n other ready =
      let parts = and_parts (list_all (λ x. not (on_way g n x.id) || is_ready_comp g x) g.comps) (list_all (λ e. not (on_way g n e.buffer) || is_ready_edge g e) g.edges) ready in
      and_from _ _
      (list_all-placed (λ x. not (on_way wider n x.id) || is_ready_comp g x) (λ x. x.id) c g.comps
      ∙ and_from _ _ (ap (λ h. not h || is_ready_comp g c) (way-new n other)) (all-same (λ x. not (on_way wider n x.id) || is_ready_comp g x) (λ x. not (on_way g n x.id) || is_ready_comp g x) g.comps (each-comp g.comps) ∙ parts.0))
      (all-same (λ e. not (on_way wider n e.buffer) || is_ready_edge g e) (λ e. not (on_way g n e.buffer) || is_ready_edge g e) g.edges (each-edge g.edges) ∙ parts.1)
    where
      each-comp : (xs : List Comp) → AllByRecursion (λ x. (not (on_way wider n x.id) || is_ready_comp g x) ≡ (not (on_way g n x.id) || is_ready_comp g x)) xs
      each-comp [] = tt
      each-comp (x ∷ xs) = (ap (λ h. not h || is_ready_comp g x) (way-other n x.id other), each-comp xs)

      each-edge : (es : List Edge) → AllByRecursion (λ e. (not (on_way wider n e.buffer) || is_ready_edge g e) ≡ (not (on_way g n e.buffer) || is_ready_edge g e)) es
      each-edge [] = tt
      each-edge (e ∷ es) = (ap (λ h. not h || is_ready_edge g e) (way-other n e.buffer other), each-edge es)

  set-wider : (n : ℕ) (idle : Bool) (o : Option Params) → (n == c.id) ≡ false → IsSetBy g n idle o → IsSetBy wider n idle o
  set-wider n idle None other is_set = is_set
  set-wider n idle (Some p) other is_set = (is_set.0, is_set.1, is_set.2, ready-wider n other is_set.3)

  sets-wider : (xs : List StreamView) → AllByRecursion (λ s. (s.host == c.id) ≡ false) xs → AllByRecursion (IsStreamSet g) xs → AllByRecursion (IsStreamSet wider) xs
  sets-wider [] apart sets = tt
  sets-wider (s ∷ xs) apart sets = (set-wider s.host (is_idle s.phase) s.params apart.0 sets.0, sets-wider xs apart.1 sets.1)

  owned-wider : (xs : List StreamView) → AllByRecursion (λ s. (s.host == c.id) ≡ false) xs → AllByRecursion (λ s. has_kind is_host (kind_at g s.host) ≡ true) xs → AllByRecursion (λ s. has_kind is_host (kind_at wider s.host) ≡ true) xs
  owned-wider [] apart owned = tt
  owned-wider (s ∷ xs) apart owned = (ap (λ (o : Option Comp). has_kind is_host (option_map (λ c. c.kind) o)) (comp-other s.host apart.0) ∙ owned.0, owned-wider xs apart.1 owned.1)

  new-kind : kind_at wider c.id ≡ Some c.kind
  new-kind = ap (λ (o : Option Comp). option_map (λ (x : Comp). x.kind) o) (find-placed_there (λ x. x.id == c.id) (λ x. x.id) c g.comps (eq-eqb c.id c.id refl) no-comp)

  -- all but the new component was there
  node-was : (a x : ℕ) → (a == c.id) ≡ false → is_among (components wider ++ buffers wider) x ≡ true → on_way g a x ≡ true → is_among (components g ++ buffers g) x ≡ true
  node-was a x far there on = any-ids (λ n. n == x) g.comps g.edges ∙ by (c.id == x) refl (sym (ap (λ h. h || has_edge g x) (list_any-placed (λ y. y.id == x) (λ y. y.id) c g.comps)) ∙ sym (any-ids (λ n. n == x) (placed (λ y. y.id) c g.comps) g.edges) ∙ there)
    where
      by : (h : Bool) → (c.id == x) ≡ h → ((h || has_comp g x) || has_edge g x) ≡ true → is_node g x ≡ true
      by true same is = absurd (true≢false (sym on ∙ ap (on_way g a) (sym (eqb-true c.id x same)) ∙ off-new a far))
      by false other is = is

  touch-wider : (s t : StreamView) → (s.host == c.id) ≡ false → (t.host == c.id) ≡ false → touch wider s.host t.host ≡ true → touch g s.host t.host ≡ true
  touch-wider s t s-far t-far = touch-by g wider echo-wider s.host t.host (λ x. node-was s.host x s-far) (λ x. way-other s.host x s-far) (λ x. way-other t.host x t-far)

  none-right : (o : Option Params) → same_shape o None ≡ true
  none-right None = refl
  none-right (Some p) = refl

  cells : (s : StreamView) → (s.host == c.id) ≡ false → (ts : List StreamView) → AllByRecursion (λ t. (t.host == c.id) ≡ false) ts → list_all (λ t. not (touch g s.host t.host) || same_shape s.params t.params) ts ≡ true → list_all (λ t. not (touch wider s.host t.host) || same_shape s.params t.params) ts ≡ true
  cells s s-far [] apart is = refl
  cells s s-far (t ∷ ts) apart is =
      let parts = and_parts (not (touch g s.host t.host) || same_shape s.params t.params) (list_all (λ t. not (touch g s.host t.host) || same_shape s.params t.params) ts) is in
      and_from _ _ (test-kept (touch wider s.host t.host) (touch g s.host t.host) (same_shape s.params t.params) (touch-wider s t s-far apart.0) parts.0) (cells s s-far ts apart.1 parts.1)

  rows : (xs : List StreamView) → AllByRecursion (λ s. (s.host == c.id) ≡ false) xs → list_all (λ s. list_all (λ t. not (touch g s.host t.host) || same_shape s.params t.params) ss) xs ≡ true → list_all (λ s. list_all (λ t. not (touch wider s.host t.host) || same_shape s.params t.params) ss) xs ≡ true
  rows [] apart is = refl
  rows (s ∷ xs) apart is =
      let parts = and_parts (list_all (λ t. not (touch g s.host t.host) || same_shape s.params t.params) ss) (list_all (λ s. list_all (λ t. not (touch g s.host t.host) || same_shape s.params t.params) ss) xs) is in
      and_from _ _ (cells s apart.0 ss far parts.0) (rows xs apart.1 parts.1)

  rows-more : (xs : List StreamView) → list_all (λ s. list_all (λ t. not (touch wider s.host t.host) || same_shape s.params t.params) ss) xs ≡ true → list_all (λ s. list_all (λ t. not (touch wider s.host t.host) || same_shape s.params t.params) (placed (λ s. s.host) (fresh_stream c.id) ss)) xs ≡ true
  rows-more [] is = refl
  rows-more (s ∷ xs) is =
      let parts = and_parts (list_all (λ t. not (touch wider s.host t.host) || same_shape s.params t.params) ss) (list_all (λ s. list_all (λ t. not (touch wider s.host t.host) || same_shape s.params t.params) ss) xs) is in
      and_from _ _
      (list_all-placed (λ t. not (touch wider s.host t.host) || same_shape s.params t.params) (λ s. s.host) (fresh_stream c.id) ss ∙ and_from _ _ (or_right (not (touch wider s.host c.id)) _ (none-right s.params)) parts.0)
      (rows-more xs parts.1)

  row-fresh : (ts : List StreamView) → list_all (λ t. not (touch wider c.id t.host) || same_shape None t.params) ts ≡ true
  row-fresh [] = refl
  row-fresh (t ∷ ts) = and_from _ _ (or_right (not (touch wider c.id t.host)) _ (none-left t.params)) (row-fresh ts)
    where
      none-left : (o : Option Params) → same_shape None o ≡ true
      none-left None = refl
      none-left (Some p) = refl

  agree-wider : agree new ≡ true
  unfolding agree
  agree-wider =
      let plain = rows ss far played.agreed in
      brought (λ xs. list_all (λ s. list_all (λ t. not (touch wider s.host t.host) || same_shape s.params t.params) xs) xs ≡ true) c.id c.kind ss plain
      (λ host. list_all-placed (λ s. list_all (λ t. not (touch wider s.host t.host) || same_shape s.params t.params) (placed (λ s. s.host) (fresh_stream c.id) ss)) (λ s. s.host) (fresh_stream c.id) ss
      ∙ and_from _ _ (row-fresh (placed (λ s. s.host) (fresh_stream c.id) ss)) (rows-more ss plain))

  pub played-wider : AreStreamsPlayable new
  played-wider = record {
    hosts = brought (HasDistinct (λ s. s.host)) c.id c.kind ss played.hosts (λ host. HasDistinct-placed (λ s. s.host) (fresh_stream c.id) ss (no-host c.id ss far) played.hosts);
    owned = brought (AllByRecursion (λ s. has_kind is_host (kind_at wider s.host) ≡ true)) c.id c.kind ss (owned-wider ss far played.owned) (λ host. all-placed (λ s. has_kind is_host (kind_at wider s.host) ≡ true) (λ s. s.host) (fresh_stream c.id) ss (ap (has_kind is_host) new-kind ∙ host) (owned-wider ss far played.owned));
    each = brought (AllByRecursion (IsStreamSet wider)) c.id c.kind ss (sets-wider ss far played.each) (λ host. all-placed (IsStreamSet wider) (λ s. s.host) (fresh_stream c.id) ss refl (sets-wider ss far played.each));
    agreed = agree-wider;
  }

  has-wider : (n : ℕ) → has_comp g n ≡ true → has_comp wider n ≡ true
  has-wider n there = list_any-placed (λ x. x.id == n) (λ x. x.id) c g.comps ∙ or_right (c.id == n) (has_comp g n) there

  node-wider : (n : ℕ) → is_node g n ≡ true → is_node wider n ≡ true
  node-wider n there = by (has_comp g n) refl there
    where
      by : (h : Bool) → has_comp g n ≡ h → (h || has_edge g n) ≡ true → is_node wider n ≡ true
      by true e any = or_left (has_comp wider n) (has_edge g n) (has-wider n e)
      by false e any = or_right (has_comp wider n) (has_edge g n) any

  side-wider : (o : Option ℕ) → IsSide g o → IsSide wider o
  side-wider None is = tt
  side-wider (Some n) is = has-wider n is

  edges-apart : (es : List Edge) → list_any (λ e. e.buffer == c.id) es ≡ false → AllByRecursion (λ e. has_comp g e.buffer ≡ false) es → AllByRecursion (λ e. has_comp wider e.buffer ≡ false) es
  edges-apart [] none apart = tt
  edges-apart (e ∷ es) none apart =
      let parts = or_parts (e.buffer == c.id) (list_any (λ e. e.buffer == c.id) es) none in
      (list_any-placed (λ x. x.id == e.buffer) (λ x. x.id) c g.comps ∙ or_from (c.id == e.buffer) (has_comp g e.buffer) (eqb-turned e.buffer c.id parts.0) apart.0, edges-apart es parts.1 apart.1)

  -- pipelines have other ids
  pipes-apart : (ps : List Pipe) → list_any (λ p. p.id == c.id) ps ≡ false → AllByRecursion (λ p. is_node g p.id ≡ false) ps → AllByRecursion (λ p. is_node wider p.id ≡ false) ps
  pipes-apart [] none alone = tt
  pipes-apart (p ∷ ps) none alone =
      let parts = or_parts (p.id == c.id) (list_any (λ p. p.id == c.id) ps) none in
      let was = or_parts (has_comp g p.id) (has_edge g p.id) alone.0 in
      (or_from (has_comp wider p.id) (has_edge g p.id) (list_any-placed (λ x. x.id == p.id) (λ x. x.id) c g.comps ∙ or_from (c.id == p.id) (has_comp g p.id) (eqb-turned p.id c.id parts.0) was.0) was.1, pipes-apart ps parts.1 alone.1)

  pub wired-wider : has_pipe g c.id ≡ false → IsWired wider
  wired-wider no_pipe = record {
    ids = HasDistinct-placed (λ x. x.id) c g.comps no-comp wired.ids;
    buffers = wired.buffers;
    names = wired.names;
    alone = pipes-apart g.pipes no_pipe wired.alone;
    apart = edges-apart g.edges no-buffer wired.apart;
    ends = all-by (IsBetween g) (IsBetween wider) (λ j e. (node-wider j.source e.0, node-wider j.sink e.1)) g.joins wired.ends;
    sides = all-by (λ e. IsSide g e.source × IsSide g e.sink) (λ e. IsSide wider e.source × IsSide wider e.sink) (λ e is. (side-wider e.source is.0, side-wider e.sink is.1)) g.edges wired.sides;
    periods = wired.periods;
  }
