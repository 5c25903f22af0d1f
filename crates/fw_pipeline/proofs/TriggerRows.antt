-- The rows of messages that start, stop, pause, release and free streams.
use Rattle.std.proofs.Common.{◌≡◌, refl, sym, ap, ◌∙◌, subst, ℕ, ◌<◌, ◌≤◌, List, [], ◌∷◌, Bool, true, false, cond, not, map, ◌==◌, ◌&&◌, inl, inr, Option, Some, None, option_map, Result, Ok, Err, ℤ, arith}
use Rattle.std.specs.Prelude.{find, option_and_then, is_some, IfSome}
use Rattle.std.specs.List.{list_any, AllByRecursion}
use Rattle.std.proofs.lemmas.Bool.{false≢true, false_from_ne_true, eqb-true}
use Rattle.sof_base.specs.declared.format.Params.{Params}
use Rattle.sof_base.specs.Rates.{is_rate}
use Rattle.stream_law.specs.declared.graph.Kind.{Kind}
use Rattle.stream_law.specs.declared.graph.Comp.{Comp}
use Rattle.stream_law.specs.declared.stream.Phase.{Phase}
use Rattle.stream_law.specs.declared.stream.StreamView.{StreamView}
use Rattle.stream_law.specs.declared.stream.Phase.TheVariants.{Idle, Prepared, Running, Paused}
use Rattle.stream_law.specs.Placed.{Ascends, AreAbove, HasDistinct}
use Rattle.stream_law.specs.State.{FwState}
use Rattle.stream_law.specs.Seen.{seen}
use Rattle.stream_law.proofs.Members.{IsIn, in-all, in-any, find-in}
use Rattle.row_laws.proofs.Found.{found-each}
use Rattle.mbox_link.specs.Step.{no_device, invalid, is_used, has_kind, is_host, kind_at, is_stream_phase, phase_at, stream_changed, set_phase, set_stream}
use Rattle.fw_units.specs.declared.component.Component.{Component}
use Rattle.fw_units.specs.declared.component.Unit as units
use Rattle.fw_units.specs.declared.component.Unit.TheVariants.{Host, Dai}
use Rattle.fw_units.specs.Units.{comp_by, streams_by, with_stream_by, kind_by, is_host_unit}
use Rattle.fw_components.specs.Tables.{Tables, graph_of, view_by, streams_of}
use Rattle.fw_components.specs.Changes.{is_idle_phase}
use Rattle.fw_components.specs.Kept.{IsKept, IsStreamOf, IsStreaming}
use Rattle.fw_walks.specs.Streams.{any_stream}
use Rattle.fw_places.proofs.WayWalks.{any-each}
use Rattle.fw_walks.proofs.OnWays.{any-streams}
use Rattle.fw_walks.proofs.Naming.{found-shown}
use Rattle.fw_pipeline.specs.declared.phases.Trigger.{Trigger}
use Rattle.fw_pipeline.specs.declared.phases.Trigger.TheVariants.{Start, Stop, Pause, Release, Free}
use Rattle.fw_pipeline.specs.Triggers.{triggered, leaves, phase_after, params_after, params_of, left_by}

-- ---- rows

-- what becomes of a host's stream
abbrev pub changed_by : Trigger → ℕ → StreamView → StreamView
changed_by Start host = set_phase host Running
changed_by Stop host = set_phase host Prepared
changed_by Pause host = set_phase host Paused
changed_by Release host = set_phase host Running
changed_by Free host = set_stream host Idle None

pub row-is : (what : Trigger) (f : FwState) (host : ℕ) → triggered what f host ≡ stream_changed f host (leaves what) (changed_by what host)
row-is Start f host = refl
row-is Stop f host = refl
row-is Pause f host = refl
row-is Release f host = refl
row-is Free f host = refl

pub trigger-unused : (what : Trigger) (f : FwState) (host : ℕ) → is_used f.graph host ≡ false → triggered what f host ≡ Err no_device
trigger-unused what f host none = row-is what f host ∙ ap (λ h. let r : Result FwState ℤ = cond (not h) (Err no_device) (cond (not (has_kind is_host (kind_at f.graph host) && is_stream_phase (leaves what) (phase_at f host))) (Err invalid) (Ok (seen (record { graph = f.graph; streams = map (changed_by what host) f.streams }) None f))) in r) none

module _ (what : Trigger) (f : FwState) (host : ℕ) (used : is_used f.graph host ≡ true) where
  by-test : (h : Bool) → (has_kind is_host (kind_at f.graph host) && is_stream_phase (leaves what) (phase_at f host)) ≡ h → triggered what f host ≡ cond (not h) (Err invalid) (Ok (seen (record { graph = f.graph; streams = map (changed_by what host) f.streams }) None f))
  by-test h is =
      row-is what f host
      ∙ ap (λ (q : Bool × Bool). let r : Result FwState ℤ = cond (not q.0) (Err no_device) (cond (not q.1) (Err invalid) (Ok (seen (record { graph = f.graph; streams = map (changed_by what host) f.streams }) None f))) in r) (λ i. (used i, is i))

  pub trigger-refused : (has_kind is_host (kind_at f.graph host) && is_stream_phase (leaves what) (phase_at f host)) ≡ false → triggered what f host ≡ Err invalid
  trigger-refused is = by-test false is

  pub trigger-done : (has_kind is_host (kind_at f.graph host) && is_stream_phase (leaves what) (phase_at f host)) ≡ true → triggered what f host ≡ Ok (seen (record { graph = f.graph; streams = map (changed_by what host) f.streams }) None f)
  trigger-done is = by-test true is

-- ---- the stream of a host

-- the phase and the parameters of a stream, and those of a host's unit; no other unit has a stream
abbrev pub terms_of : StreamView → Phase × Option Params
terms_of s = (s.phase, s.params)

abbrev pub stream_in : units.Unit → Option (Phase × Option Params)
stream_in (Host capture phase params piece) = Some (phase, params)
stream_in unit = None

none-above : (cs : List Component) (n host : ℕ) → host ≤ n → AreAbove (λ c. c.id) n cs → find (λ c. c.id == host) cs ≡ None
unfolding AreAbove
none-above [] n host le up = refl
none-above (c ∷ cs) n host le up =
    let other : (c.id == host) ≡ false = false_from_ne_true _ (λ e. let same = eqb-true c.id host e in absurd (omega (arith, same, le, up.0))) in
    ap (λ h. cond h (Some c) (find (λ c. c.id == host) cs)) other ∙ none-above cs n host le up.1

told : (id host : ℕ) (unit : units.Unit) (h : Bool) → (id == host) ≡ h → (rest : Option (Phase × Option Params)) → (h ≡ true → rest ≡ None) → (ss : List StreamView) → rest ≡ option_map terms_of (find (λ s. s.host == host) ss) → cond h (stream_in unit) rest ≡ option_map terms_of (find (λ s. s.host == host) (with_stream_by id unit ss))
told id host (Host capture phase params piece) true is rest none ss so = sym (ap (λ h. option_map terms_of (cond h (Some (record { host = id; phase = phase; params = params })) (find (λ s. s.host == host) ss))) is)
told id host (Host capture phase params piece) false is rest none ss so = so ∙ sym (ap (λ h. option_map terms_of (cond h (Some (record { host = id; phase = phase; params = params })) (find (λ s. s.host == host) ss))) is)
told id host u true is rest none ss so = sym (none refl) ∙ so
told id host u false is rest none ss so = so

abbrev pub stream_of_one : Option Component → Option (Phase × Option Params)
stream_of_one o = option_and_then (λ c. stream_in c.unit) o

pub found-stream : (cs : List Component) (host : ℕ) → Ascends (λ c. c.id) cs → stream_of_one (find (λ c. c.id == host) cs) ≡ option_map terms_of (find (λ s. s.host == host) (streams_by cs))
unfolding Ascends
found-stream [] host up = refl
found-stream (c ∷ cs) host up =
    either (c.id == host)
    ∙ told c.id host c.unit (c.id == host) refl (stream_of_one (find (λ c. c.id == host) cs)) (λ e. let same = eqb-true c.id host e in ap stream_of_one (none-above cs c.id host (omega (arith, same)) up.0)) (streams_by cs) (found-stream cs host up.1)
  where
    either : (h : Bool) → stream_of_one (cond h (Some c) (find (λ c. c.id == host) cs)) ≡ cond h (stream_in c.unit) (stream_of_one (find (λ c. c.id == host) cs))
    either true = refl
    either false = refl

-- its phase and its parameters
module _ (cs : List Component) (up : Ascends (λ c. c.id) cs) (host : ℕ) (what : Trigger) where
  phase-told : (o : Option Component) → find (λ c. c.id == host) cs ≡ o → option_map (λ (p : Phase × Option Params). p.0) (stream_of_one o) ≡ option_map (λ s. s.phase) (find (λ s. s.host == host) (streams_by cs))
  phase-told o at = ap (λ (o : Option Component). option_map (λ (p : Phase × Option Params). p.0) (stream_of_one o)) (sym at) ∙ ap (option_map (λ (p : Phase × Option Params). p.0)) (found-stream cs host up) ∙ by (find (λ s. s.host == host) (streams_by cs))
    where
      by : (o : Option StreamView) → option_map (λ (p : Phase × Option Params). p.0) (option_map terms_of o) ≡ option_map (λ s. s.phase) o
      by None = refl
      by (Some s) = refl

  params-told : (o : Option Component) → find (λ c. c.id == host) cs ≡ o → option_and_then (λ (p : Phase × Option Params). p.1) (stream_of_one o) ≡ option_and_then (λ s. s.params) (find (λ s. s.host == host) (streams_by cs))
  params-told o at = ap (λ (o : Option Component). option_and_then (λ (p : Phase × Option Params). p.1) (stream_of_one o)) (sym at) ∙ ap (option_and_then (λ (p : Phase × Option Params). p.1)) (found-stream cs host up) ∙ by (find (λ s. s.host == host) (streams_by cs))
    where
      by : (o : Option StreamView) → option_and_then (λ (p : Phase × Option Params). p.1) (option_map terms_of o) ≡ option_and_then (λ s. s.params) o
      by None = refl
      by (Some s) = refl

  -- a phase to leave has parameters
  has-params : (phase : Phase) (params : Option Params) → IsStreamOf (is_idle_phase phase) params → is_some (cond (leaves what phase) params None) ≡ leaves what phase
  has-params phase params right = by (leaves what phase) refl params right
    where
      moves : (what : Trigger) (phase : Phase) → leaves what phase ≡ true → is_idle_phase phase ≡ false
      moves Start Prepared e = refl
      moves Start Idle e = absurd (false≢true e)
      moves Start Running e = absurd (false≢true e)
      moves Start Paused e = absurd (false≢true e)
      moves Stop Running e = refl
      moves Stop Paused e = refl
      moves Stop Idle e = absurd (false≢true e)
      moves Stop Prepared e = absurd (false≢true e)
      moves Pause Running e = refl
      moves Pause Idle e = absurd (false≢true e)
      moves Pause Prepared e = absurd (false≢true e)
      moves Pause Paused e = absurd (false≢true e)
      moves Release Paused e = refl
      moves Release Idle e = absurd (false≢true e)
      moves Release Prepared e = absurd (false≢true e)
      moves Release Running e = absurd (false≢true e)
      moves Free Prepared e = refl
      moves Free Idle e = absurd (false≢true e)
      moves Free Running e = absurd (false≢true e)
      moves Free Paused e = absurd (false≢true e)

      by : (h : Bool) → leaves what phase ≡ h → (params : Option Params) → IsStreamOf (is_idle_phase phase) params → is_some (cond h params None) ≡ h
      by false is params right = refl
      by true is (Some p) right = refl
      by true is None idle = absurd (false≢true (sym (moves what phase is) ∙ idle))

  -- what is left of a component that is found
  abbrev pub left_of : Option Component → Option Params
  left_of o = option_and_then (λ c. left_by what c.unit) o

  pub left-is : AllByRecursion (λ c. IsStreaming c.unit) cs → (o : Option Component) → find (λ c. c.id == host) cs ≡ o → is_some (left_of o) ≡ (has_kind is_host (option_map (λ c. kind_by c.unit) o) && is_stream_phase (leaves what) (option_map (λ s. s.phase) (find (λ s. s.host == host) (streams_by cs))))
  left-is each o at = by o at ∙ ap (λ (q : Option Phase). has_kind is_host (option_map (λ (c : Component). kind_by c.unit) o) && is_stream_phase (leaves what) q) (phase-told o at)
    where
      none : (h : Bool) → false ≡ (h && false)
      none true = refl
      none false = refl

      unit-by : (u : units.Unit) → IsStreaming u → is_some (left_by what u) ≡ (is_host (kind_by u) && is_stream_phase (leaves what) (option_map (λ (p : Phase × Option Params). p.0) (stream_in u)))
      unit-by (Host true phase params piece) right = has-params phase params right
      unit-by (Host false phase params piece) right = has-params phase params right
      unit-by (Dai capture format piece) right = none (is_host (kind_by (Dai capture format piece)))
      unit-by u right = refl

      by : (o : Option Component) → find (λ c. c.id == host) cs ≡ o → is_some (left_of o) ≡ (has_kind is_host (option_map (λ c. kind_by c.unit) o) && is_stream_phase (leaves what) (option_map (λ (p : Phase × Option Params). p.0) (stream_of_one o)))
      by None at = refl
      by (Some c) at = unit-by c.unit (in-all (λ (c : Component). IsStreaming c.unit) cs c each (find-in (λ c. c.id == host) cs c at).0)

  pub left-params : AllByRecursion (λ c. IsStreaming c.unit) cs → (o : Option Component) → find (λ c. c.id == host) cs ≡ o → (p : Params) → left_of o ≡ Some p → (Some p ≡ option_and_then (λ s. s.params) (find (λ s. s.host == host) (streams_by cs))) × (((1 ≤ p.channels) × (p.channels ≤ 8)) × (is_rate p.rate ≡ true))
  left-params each None at p is = absurd (cc is)
  left-params each (Some c) at p is =
      let r = by c.unit (in-all (λ (c : Component). IsStreaming c.unit) cs c each (find-in (λ c. c.id == host) cs c at).0) is in
      (sym r.0 ∙ params-told (Some c) at, r.1)
    where
      right : (h : Bool) (params : Option Params) → IsStreamOf h params → params ≡ Some p → ((1 ≤ p.channels) × (p.channels ≤ 8)) × (is_rate p.rate ≡ true)
      right h None e is = absurd (cc is)
      right h (Some q) e is = let same : q ≡ p = cc is in subst (λ (r : Params). ((1 ≤ r.channels) × (r.channels ≤ 8)) × (is_rate r.rate ≡ true)) same (e.1, e.2)

      kept : (h : Bool) (params : Option Params) → cond h params None ≡ Some p → params ≡ Some p
      kept true params is = is
      kept false params is = absurd (cc is)

      by : (u : units.Unit) → IsStreaming u → left_by what u ≡ Some p → (option_and_then (λ (p : Phase × Option Params). p.1) (stream_in u) ≡ Some p) × (((1 ≤ p.channels) × (p.channels ≤ 8)) × (is_rate p.rate ≡ true))
      by (Host capture phase params piece) e is = let same = kept (leaves what phase) params is in (same, right (is_idle_phase phase) params e same)
      by u e is = absurd (cc is)

-- and of what is found
module _ (t : Tables) (kept : IsKept t) (host : ℕ) (what : Trigger) (o : Option Component) (at : find (λ c. c.id == host) t.comps ≡ o) where
  pub left-tested : is_some (left_of t.comps kept.named.comps host what o) ≡ (has_kind is_host (kind_at (graph_of t) host) && is_stream_phase (leaves what) (option_map (λ s. s.phase) (find (λ s. s.host == host) (streams_of t))))
  left-tested =
      left-is t.comps kept.named.comps host what kept.streaming o at
      ∙ ap (λ (k : Option Kind). has_kind is_host k && is_stream_phase (leaves what) (option_map (λ s. s.phase) (find (λ s. s.host == host) (streams_of t))))
      (ap (option_map (λ (c : Component). kind_by c.unit)) (sym at) ∙ found-shown (λ (x : Comp). x.id == host) comp_by (λ (x : Comp). x.kind) t.comps)

  pub left-given : (r : Option Params) → r ≡ left_of t.comps kept.named.comps host what o → IfSome r (λ p. (Some p ≡ params_of (view_by t) host) × (((1 ≤ p.channels) × (p.channels ≤ 8)) × (is_rate p.rate ≡ true)))
  left-given None is = tt
  left-given (Some p) is = left-params t.comps kept.named.comps host what kept.streaming o at p (sym is)

-- a stream that is there is that of a host
pub host-unit : (cs : List Component) (host : ℕ) → list_any (λ s. s.host == host) (streams_by cs) ≡ true → list_any (λ c. c.id == host && is_host_unit c.unit) cs ≡ true
host-unit cs host there = any-each (λ c. c.id == host && is_host_unit c.unit) (λ c. any_stream (λ s. s.host == host) c.id c.unit) cs (λ c in_cs. by c.id c.unit) ∙ sym (any-streams (λ s. s.host == host) cs) ∙ there
  where
    last : (h : Bool) → (h && true) ≡ h
    last true = refl
    last false = refl

    none : (h : Bool) → (h && false) ≡ false
    none true = refl
    none false = refl

    by : (id : ℕ) (unit : units.Unit) → (id == host && is_host_unit unit) ≡ any_stream (λ s. s.host == host) id unit
    by id (Host capture phase params piece) = last (id == host)
    by id u = none (id == host)

pub stream-there : (test : Phase → Bool) (host : ℕ) (ss : List StreamView) → is_stream_phase test (option_map (λ (s : StreamView). s.phase) (find (λ s. s.host == host) ss)) ≡ true → list_any (λ s. s.host == host) ss ≡ true
stream-there test host ss is = by (find (λ s. s.host == host) ss) refl is
  where
    by : (o : Option StreamView) → find (λ s. s.host == host) ss ≡ o → is_stream_phase test (option_map (λ (s : StreamView). s.phase) o) ≡ true → list_any (λ s. s.host == host) ss ≡ true
    by None at e = absurd (false≢true e)
    by (Some s) at e = let r = find-in (λ s. s.host == host) ss s at in in-any (λ s. s.host == host) ss s r.0 r.1

-- ---- hosts are distinct

stream-above : (n id : ℕ) (unit : units.Unit) (ss : List StreamView) → n < id → AreAbove (λ s. s.host) n ss → AreAbove (λ s. s.host) n (with_stream_by id unit ss)
unfolding AreAbove
stream-above n id (Host capture phase params piece) ss lt up = (lt, up)
stream-above n id u ss lt up = up

streams-above : (n : ℕ) (cs : List Component) → AreAbove (λ c. c.id) n cs → AreAbove (λ s. s.host) n (streams_by cs)
unfolding AreAbove
streams-above n [] up = tt
streams-above n (c ∷ cs) up = stream-above n c.id c.unit (streams_by cs) up.0 (streams-above n cs up.1)

stream-ascends : (id : ℕ) (unit : units.Unit) (ss : List StreamView) → AreAbove (λ s. s.host) id ss → Ascends (λ s. s.host) ss → Ascends (λ s. s.host) (with_stream_by id unit ss)
unfolding Ascends
stream-ascends id (Host capture phase params piece) ss up rest = (up, rest)
stream-ascends id u ss up rest = rest

pub streams-ascend : (cs : List Component) → Ascends (λ c. c.id) cs → Ascends (λ s. s.host) (streams_by cs)
unfolding Ascends
streams-ascend [] up = tt
streams-ascend (c ∷ cs) up = stream-ascends c.id c.unit (streams_by cs) (streams-above c.id cs up.0) (streams-ascend cs up.1)

-- ---- what is set at a stream

map-each : (f g : StreamView → StreamView) (ss : List StreamView) → ((s : StreamView) → IsIn s ss → f s ≡ g s) → map f ss ≡ map g ss
map-each f g [] same = refl
map-each f g (s ∷ ss) same = ap (λ (p : StreamView × List StreamView). p.0 ∷ p.1) (λ i. (same s (inl refl) i, map-each f g ss (λ t there. same t (inr there)) i))

module _ (ss : List StreamView) (distinct : HasDistinct (λ s. s.host) ss) (host : ℕ) where
  -- a phase is set with the parameters that are there
  phase-set : (phase : Phase) (params : Option Params) → params ≡ option_and_then (λ s. s.params) (find (λ s. s.host == host) ss) → map (set_stream host phase params) ss ≡ map (set_phase host phase) ss
  phase-set phase params is = map-each (set_stream host phase params) (set_phase host phase) ss (λ s there. by s there (s.host == host) refl)
    where
      own : (s : StreamView) → IsIn s ss → find (λ t. t.host == s.host) ss ≡ Some s
      own s there = in-all (λ (s : StreamView). find (λ t. t.host == s.host) ss ≡ Some s) ss s (found-each (λ (s : StreamView). s.host) ss distinct) there

      by : (s : StreamView) → IsIn s ss → (h : Bool) → (s.host == host) ≡ h → set_stream host phase params s ≡ set_phase host phase s
      by s there true same =
          let at : find (λ t. t.host == host) ss ≡ Some s = ap (λ n. find (λ t. t.host == n) ss) (sym (eqb-true s.host host same)) ∙ own s there in
          let kept : params ≡ s.params = is ∙ ap (λ (o : Option StreamView). option_and_then (λ s. s.params) o) at in
          ap (λ (q : Option Params). let r : StreamView = cond (s.host == host) (record { host = s.host; phase = phase; params = q }) s in r) kept
      by s there false other = ap (λ h. cond h (record { host = s.host; phase = phase; params = params }) s) other ∙ sym (ap (λ h. cond h (record { host = s.host; phase = phase; params = s.params }) s) other)

  pub streams-changed : (what : Trigger) (params : Option Params) → params ≡ option_and_then (λ s. s.params) (find (λ s. s.host == host) ss) → map (set_stream host (phase_after what) (params_after what params)) ss ≡ map (changed_by what host) ss
  streams-changed Start params is = phase-set Running params is
  streams-changed Stop params is = phase-set Prepared params is
  streams-changed Pause params is = phase-set Paused params is
  streams-changed Release params is = phase-set Running params is
  streams-changed Free params is = refl
