-- Streams of which one is changed.
use Rattle.std.proofs.Common.{◌≡◌, refl, sym, ap, ◌∙◌, subst, ℕ, ◌≤◌, List, [], ◌∷◌, map, Option, Some, None, Bool, true, false, cond, not, ◌==◌, ◌&&◌, ◌||◌}
use Rattle.std.proofs.lemmas.Bool.{true≢false, false≢true, and_parts, and_from, eqb-true}
use Rattle.std.proofs.lemmas.List.Folds.{list_all-map}
use Rattle.std.specs.Prelude.{find, option_map}
use Rattle.std.specs.List.{list_all, AllByRecursion, IsDistinct}
use Rattle.sof_base.specs.declared.format.Params.{Params}
use Rattle.stream_law.specs.declared.graph.Graph.{Graph}
use Rattle.stream_law.specs.declared.stream.Phase.{Phase}
use Rattle.stream_law.specs.declared.stream.Phase.TheVariants.{Idle, Prepared, Running, Paused}
use Rattle.stream_law.specs.declared.stream.StreamView.{StreamView}
use Rattle.stream_law.specs.Placed.{HasDistinct}
use Rattle.stream_law.specs.Ways.{touch, same_shape, agree, is_live_phase}
use Rattle.mbox_link.specs.Step.{has_kind, is_host, kind_at, is_stream_phase, set_stream, set_phase, is_rate, is_way_ready, is_prepared}
use Rattle.row_laws.specs.Played.{IsStreamSet, IsSetBy, AreStreamsPlayable, KeepsLive, is_idle}
use Rattle.row_laws.proofs.Found.{found-each}

-- ---- streams that are changed

pub host-set_stream : (host : ℕ) (phase : Phase) (params : Option Params) (s : StreamView) → (set_stream host phase params s).host ≡ s.host
host-set_stream host phase params s = by (s.host == host)
  where
    by : (h : Bool) → (cond h (record { host = s.host; phase = phase; params = params }) s).host ≡ s.host
    by true = refl
    by false = refl

-- the tests over the streams that were, by the parameters that they have then
pub agree-changed : (g : Graph) (to : StreamView → StreamView) (pick : StreamView → Option Params) (streams : List StreamView) → ((s : StreamView) → (to s).host ≡ s.host) → ((s : StreamView) → (to s).params ≡ pick s) → agree (record { graph = g; streams = map to streams }) ≡ list_all (λ s. list_all (λ t. not (touch g s.host t.host) || same_shape (pick s) (pick t)) streams) streams
unfolding agree
agree-changed g to pick streams same has =
    list_all-map (λ s. list_all (λ t. not (touch g s.host t.host) || same_shape s.params t.params) (map to streams)) to streams
    ∙ each streams
  where
    row : (s : StreamView) (ts : List StreamView) → list_all (λ t. not (touch g (to s).host t.host) || same_shape (to s).params t.params) (map to ts) ≡ list_all (λ t. not (touch g s.host t.host) || same_shape (pick s) (pick t)) ts
    row s [] = refl
    row s (t ∷ ts) =
        ap (λ (p : ℕ × ℕ × Option Params × Option Params × Bool). (not (touch g p.0 p.1) || same_shape p.2 p.3) && p.4) (λ i. (same s i, same t i, has s i, has t i, row s ts i))

    each : (ss : List StreamView) → list_all (λ s. list_all (λ t. not (touch g (to s).host t.host) || same_shape (to s).params t.params) (map to streams)) ss ≡ list_all (λ s. list_all (λ t. not (touch g s.host t.host) || same_shape (pick s) (pick t)) streams) ss
    each [] = refl
    each (s ∷ ss) = ap (λ (p : Bool × Bool). p.0 && p.1) (λ i. (row s streams i, each ss i))

-- the phase of what is found
abbrev phase_in : List StreamView → ℕ → Option Phase
phase_in streams host = option_map (λ s. s.phase) (find (λ s. s.host == host) streams)

-- the stream of a host is the one that is found
each-found : (host : ℕ) (streams : List StreamView) → HasDistinct (λ s. s.host) streams → AllByRecursion (λ s. (s.host == host) ≡ true → find (λ t. t.host == host) streams ≡ Some s) streams
each-found host streams apart = all streams (found-each (λ (s : StreamView). s.host) streams apart)
  where
    all : (ss : List StreamView) → AllByRecursion (λ s. find (λ t. t.host == s.host) streams ≡ Some s) ss → AllByRecursion (λ s. (s.host == host) ≡ true → find (λ t. t.host == host) streams ≡ Some s) ss
    all [] found = tt
    all (s ∷ ss) found = (λ e. ap (λ (n : ℕ). find (λ t. t.host == n) streams) (sym (eqb-true s.host host e)) ∙ found.0, all ss found.1)

-- so its phase is as the phase that is found
pub each-phase : (test : Phase → Bool) (h : Bool) (host : ℕ) (streams : List StreamView) → HasDistinct (λ s. s.host) streams → is_stream_phase test (phase_in streams host) ≡ true → AllByRecursion (λ s. (s.host == host) ≡ true → test s.phase ≡ true) streams
each-phase test h host streams apart is = all streams (each-found host streams apart)
  where
    all : (ss : List StreamView) → AllByRecursion (λ s. (s.host == host) ≡ true → find (λ t. t.host == host) streams ≡ Some s) ss → AllByRecursion (λ s. (s.host == host) ≡ true → test s.phase ≡ true) ss
    all [] found = tt
    all (s ∷ ss) found = (λ e. ap (λ (o : Option StreamView). is_stream_phase test (option_map (λ s. s.phase) o)) (sym (found.0 e)) ∙ is, all ss found.1)

pub each-other : (test : Phase → Bool) (host : ℕ) (streams : List StreamView) → HasDistinct (λ s. s.host) streams → is_stream_phase test (phase_in streams host) ≡ false → AllByRecursion (λ s. (s.host == host) ≡ true → test s.phase ≡ false) streams
each-other test host streams apart is = all streams (each-found host streams apart)
  where
    all : (ss : List StreamView) → AllByRecursion (λ s. (s.host == host) ≡ true → find (λ t. t.host == host) streams ≡ Some s) ss → AllByRecursion (λ s. (s.host == host) ≡ true → test s.phase ≡ false) ss
    all [] found = tt
    all (s ∷ ss) found = (λ e. ap (λ (o : Option StreamView). is_stream_phase test (option_map (λ s. s.phase) o)) (sym (found.0 e)) ∙ is, all ss found.1)

-- ---- what a change keeps

module _ (to : StreamView → StreamView) (same : (s : StreamView) → (to s).host ≡ s.host) where
  hosts-map : (ss : List StreamView) → map (λ s. s.host) (map to ss) ≡ map (λ s. s.host) ss
  hosts-map [] = refl
  hosts-map (s ∷ ss) = ap (λ (p : ℕ × List ℕ). p.0 ∷ p.1) (λ i. (same s i, hosts-map ss i))

  owned-map : (g : Graph) (ss : List StreamView) → AllByRecursion (λ s. has_kind is_host (kind_at g s.host) ≡ true) ss → AllByRecursion (λ s. has_kind is_host (kind_at g s.host) ≡ true) (map to ss)
  owned-map g [] all = tt
  owned-map g (s ∷ ss) all = (ap (λ n. has_kind is_host (kind_at g n)) (same s) ∙ all.0, owned-map g ss all.1)

  set-map : (g : Graph) (ss : List StreamView) → AllByRecursion (λ s. IsStreamSet g (to s)) ss → AllByRecursion (IsStreamSet g) (map to ss)
  set-map g [] all = tt
  set-map g (s ∷ ss) all = (all.0, set-map g ss all.1)

  -- streams that are set anew, and agree
  pub played-map : (g : Graph) (ss : List StreamView) → AreStreamsPlayable (record { graph = g; streams = ss }) → AllByRecursion (λ s. IsStreamSet g (to s)) ss → agree (record { graph = g; streams = map to ss }) ≡ true → AreStreamsPlayable (record { graph = g; streams = map to ss })
  played-map g ss was sets agrees = record {
    hosts = subst (λ (ns : List ℕ). IsDistinct (λ m n. m == n) ns) (sym (hosts-map ss)) was.hosts;
    owned = owned-map g ss was.owned;
    each = set-map g ss sets;
    agreed = agrees;
  }

-- ---- a phase

pub host-set_phase : (host : ℕ) (phase : Phase) (s : StreamView) → (set_phase host phase s).host ≡ s.host
host-set_phase host phase s = by (s.host == host)
  where
    by : (h : Bool) → (cond h (record { host = s.host; phase = phase; params = s.params }) s).host ≡ s.host
    by true = refl
    by false = refl

pub params-set_phase : (host : ℕ) (phase : Phase) (s : StreamView) → (set_phase host phase s).params ≡ s.params
params-set_phase host phase s = by (s.host == host)
  where
    by : (h : Bool) → (cond h (record { host = s.host; phase = phase; params = s.params }) s).params ≡ s.params
    by true = refl
    by false = refl

pub keeps-phase : (host : ℕ) (phase : Phase) (ss : List StreamView) → KeepsLive (set_phase host phase) ss
keeps-phase host phase [] = tt
keeps-phase host phase (s ∷ ss) = ((host-set_phase host phase s, λ e. params-set_phase host phase s), keeps-phase host phase ss)

-- a stream with parameters still has its own
moved : (g : Graph) (host : ℕ) (idle : Bool) (o : Option Params) → idle ≡ false → IsSetBy g host idle o → IsSetBy g host false o
moved g host idle None awake is_set = absurd (true≢false (sym is_set ∙ awake))
moved g host idle (Some p) awake is_set = (refl, is_set.1, is_set.2, is_set.3)

pub played-phase : (g : Graph) (host : ℕ) (phase : Phase) (ss : List StreamView) → is_idle phase ≡ false → is_stream_phase (λ p. not (is_idle p)) (phase_in ss host) ≡ true → AreStreamsPlayable (record { graph = g; streams = ss }) → AreStreamsPlayable (record { graph = g; streams = map (set_phase host phase) ss })
unfolding agree
played-phase g host phase ss stays leaves was =
    played-map (set_phase host phase) (host-set_phase host phase) g ss was
    (all ss was.each (each-phase (λ p. not (is_idle p)) true host ss was.hosts leaves))
    (agree-changed g (set_phase host phase) (λ s. s.params) ss (host-set_phase host phase) (params-set_phase host phase) ∙ was.agreed)
  where
    one : (s : StreamView) (h : Bool) → (s.host == host) ≡ h → IsStreamSet g s → ((s.host == host) ≡ true → not (is_idle s.phase) ≡ true) → IsStreamSet g (cond h (record { host = s.host; phase = phase; params = s.params }) s)
    one s true e is_set awake = subst (λ h. IsSetBy g s.host h s.params) (sym stays) (moved g s.host (is_idle s.phase) s.params (not-false (is_idle s.phase) (awake e)) is_set)
      where
        not-false : (h : Bool) → not h ≡ true → h ≡ false
        not-false true e = sym e
        not-false false e = refl
    one s false e is_set awake = is_set

    all : (xs : List StreamView) → AllByRecursion (IsStreamSet g) xs → AllByRecursion (λ s. (s.host == host) ≡ true → not (is_idle s.phase) ≡ true) xs → AllByRecursion (λ s. IsStreamSet g (set_phase host phase s)) xs
    all [] sets awake = tt
    all (s ∷ xs) sets awake = (one s (s.host == host) refl sets.0 awake.0, all xs sets.1 awake.1)

-- ---- parameters

-- a stream that is not Live gets others
keeps-stream : (host : ℕ) (phase : Phase) (o : Option Params) (ss : List StreamView) → AllByRecursion (λ s. (s.host == host) ≡ true → is_live_phase s.phase ≡ false) ss → KeepsLive (set_stream host phase o) ss
keeps-stream host phase o [] still = tt
keeps-stream host phase o (s ∷ ss) still = ((host-set_stream host phase o s, λ e. by (s.host == host) refl e), keeps-stream host phase o ss still.1)
  where
    by : (h : Bool) → (s.host == host) ≡ h → is_live_phase s.phase ≡ true → (cond h (record { host = s.host; phase = phase; params = o }) s).params ≡ s.params
    by true e lives = absurd (true≢false (sym lives ∙ still.0 e))
    by false e lives = refl

prepared-still : (phase : Phase) → is_prepared phase ≡ true → is_live_phase phase ≡ false
prepared-still Prepared e = refl
prepared-still Idle e = refl
prepared-still Running e = absurd (false≢true e)
prepared-still Paused e = absurd (false≢true e)

moving-live : (phase : Phase) → is_live_phase phase ≡ false → is_live_phase phase ≡ false
moving-live Prepared e = refl
moving-live Idle e = refl
moving-live Running e = e
moving-live Paused e = e

all-by : {P Q : StreamView → Type 0} → ((s : StreamView) → P s → Q s) → (ss : List StreamView) → AllByRecursion P ss → AllByRecursion Q ss
all-by f [] all = tt
all-by f (s ∷ ss) all = (f s all.0, all-by f ss all.1)

pub keeps-free : (host : ℕ) (ss : List StreamView) → HasDistinct (λ s. s.host) ss → is_stream_phase is_prepared (phase_in ss host) ≡ true → KeepsLive (set_stream host Idle None) ss
keeps-free host ss apart is = keeps-stream host Idle None ss (all-by (λ s f e. prepared-still s.phase (f e)) ss (each-phase is_prepared true host ss apart is))

pub keeps-params : (host : ℕ) (p : Params) (ss : List StreamView) → HasDistinct (λ s. s.host) ss → is_stream_phase is_live_phase (phase_in ss host) ≡ false → KeepsLive (set_stream host Prepared (Some p)) ss
keeps-params host p ss apart is = keeps-stream host Prepared (Some p) ss (all-by (λ s f e. moving-live s.phase (f e)) ss (each-other is_live_phase host ss apart is))

pub played-params : (g : Graph) (host : ℕ) (p : Params) (ss : List StreamView) → (1 ≤ p.channels) × (p.channels ≤ 8) → is_rate p.rate ≡ true → is_way_ready g host ≡ true → agree (record { graph = g; streams = map (set_stream host Prepared (Some p)) ss }) ≡ true → AreStreamsPlayable (record { graph = g; streams = ss }) → AreStreamsPlayable (record { graph = g; streams = map (set_stream host Prepared (Some p)) ss })
played-params g host p ss few rate ready agrees was =
    played-map (set_stream host Prepared (Some p)) (host-set_stream host Prepared (Some p)) g ss was (all ss was.each) agrees
  where
    one : (s : StreamView) (h : Bool) → (s.host == host) ≡ h → IsStreamSet g s → IsStreamSet g (cond h (record { host = s.host; phase = Prepared; params = Some p }) s)
    one s true e is_set = (refl, few, rate, ap (is_way_ready g) (eqb-true s.host host e) ∙ ready)
    one s false e is_set = is_set

    all : (xs : List StreamView) → AllByRecursion (IsStreamSet g) xs → AllByRecursion (λ s. IsStreamSet g (set_stream host Prepared (Some p) s)) xs
    all [] sets = tt
    all (s ∷ xs) sets = (one s (s.host == host) refl sets.0, all xs sets.1)

-- fewer parameters agree where more did
pub agree-fewer : (g : Graph) (to : StreamView → StreamView) (ss : List StreamView) → ((s : StreamView) → (to s).host ≡ s.host) → ((s t : StreamView) → same_shape s.params t.params ≡ true → same_shape (to s).params (to t).params ≡ true) → agree (record { graph = g; streams = ss }) ≡ true → agree (record { graph = g; streams = map to ss }) ≡ true
unfolding agree
agree-fewer g to ss same shapes agrees =
    agree-changed g to (λ s. (to s).params) ss same (λ s. refl) ∙ rows ss agrees
  where
    cell : (s t : StreamView) (h k : Bool) → same_shape s.params t.params ≡ h → (not k || h) ≡ true → (not k || same_shape (to s).params (to t).params) ≡ true
    cell s t h false e is = refl
    cell s t true true e is = shapes s t e
    cell s t false true e is = absurd (false≢true is)

    row : (s : StreamView) (ts : List StreamView) → list_all (λ t. not (touch g s.host t.host) || same_shape s.params t.params) ts ≡ true → list_all (λ t. not (touch g s.host t.host) || same_shape (to s).params (to t).params) ts ≡ true
    row s [] is = refl
    row s (t ∷ ts) is =
        let parts = and_parts (not (touch g s.host t.host) || same_shape s.params t.params) (list_all (λ t. not (touch g s.host t.host) || same_shape s.params t.params) ts) is in
        and_from _ _ (cell s t (same_shape s.params t.params) (touch g s.host t.host) refl parts.0) (row s ts parts.1)

    rows : (xs : List StreamView) → list_all (λ s. list_all (λ t. not (touch g s.host t.host) || same_shape s.params t.params) ss) xs ≡ true → list_all (λ s. list_all (λ t. not (touch g s.host t.host) || same_shape (to s).params (to t).params) ss) xs ≡ true
    rows [] is = refl
    rows (s ∷ xs) is =
        let parts = and_parts (list_all (λ t. not (touch g s.host t.host) || same_shape s.params t.params) ss) (list_all (λ s. list_all (λ t. not (touch g s.host t.host) || same_shape s.params t.params) ss) xs) is in
        and_from _ _ (row s ss parts.0) (rows xs parts.1)

pub played-free : (g : Graph) (host : ℕ) (ss : List StreamView) → AreStreamsPlayable (record { graph = g; streams = ss }) → AreStreamsPlayable (record { graph = g; streams = map (set_stream host Idle None) ss })
played-free g host ss was =
    played-map (set_stream host Idle None) (host-set_stream host Idle None) g ss was (all ss was.each)
    (agree-fewer g (set_stream host Idle None) ss (host-set_stream host Idle None) shapes was.agreed)
  where
    none-left : (o : Option Params) → same_shape None o ≡ true
    none-left None = refl
    none-left (Some p) = refl

    none-right : (o : Option Params) → same_shape o None ≡ true
    none-right None = refl
    none-right (Some p) = refl

    by : (s t : StreamView) (h k : Bool) → same_shape s.params t.params ≡ true → same_shape (cond h (record { host = s.host; phase = Idle; params = None }) s).params (cond k (record { host = t.host; phase = Idle; params = None }) t).params ≡ true
    by s t true true is = refl
    by s t true false is = none-left t.params
    by s t false true is = none-right s.params
    by s t false false is = is

    shapes : (s t : StreamView) → same_shape s.params t.params ≡ true → same_shape (set_stream host Idle None s).params (set_stream host Idle None t).params ≡ true
    shapes s t is = by s t (s.host == host) (t.host == host) is

    one : (s : StreamView) (h : Bool) → IsStreamSet g s → IsStreamSet g (cond h (record { host = s.host; phase = Idle; params = None }) s)
    one s true is_set = refl
    one s false is_set = is_set

    all : (xs : List StreamView) → AllByRecursion (IsStreamSet g) xs → AllByRecursion (λ s. IsStreamSet g (set_stream host Idle None s)) xs
    all [] sets = tt
    all (s ∷ xs) sets = (one s (s.host == host) sets.0, all xs sets.1)

-- what is not refused passes each test
pub params-pass : (a m r w k g : Bool) → (((((not a || m) || not r) || not w) || k) || not g) ≡ false → (a ≡ true) × (m ≡ false) × (r ≡ true) × (w ≡ true) × (g ≡ true)
params-pass true false true true false true e = (refl, refl, refl, refl, refl)
params-pass false m r w k g e = absurd (true≢false e)
params-pass true true r w k g e = absurd (true≢false e)
params-pass true false false w k g e = absurd (true≢false e)
params-pass true false true false k g e = absurd (true≢false e)
params-pass true false true true true g e = absurd (true≢false e)
params-pass true false true true false false e = absurd (true≢false e)
