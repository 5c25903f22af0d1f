-- Streams counted host by host.
use Rattle.std.proofs.Common.{◌≡◌, refl, sym, ap, subst, ◌∙◌, ℕ, zero, suc, ◌+◌, List, [], ◌∷◌, ◌++◌, Bool, true, false, cond, ◌==◌, length, map, filter, get_or, replicate, ◌&&◌, ◌||◌, Option, None, Some, inl, inr, arith}
use Rattle.std.proofs.lemmas.Bool.{true≢false, false≢true, or_left, or_parts, false_from_ne_true, eq-eqb}
use Rattle.std.specs.Prelude.{find, option_and_then}
use Rattle.std.specs.List.{list_any, AllByRecursion}
use Rattle.sof_base.specs.declared.format.Params.{Params}
use Rattle.stream_law.specs.declared.graph.Join.{Join}
use Rattle.stream_law.specs.declared.stream.Phase.{Phase}
use Rattle.stream_law.specs.declared.stream.Phase.TheVariants as phases
use Rattle.stream_law.specs.declared.stream.StreamView.{StreamView}
use Rattle.stream_law.specs.Ways.{reaches, is_echo, way_joins, ways_to, on_way, is_running_phase, is_live_phase}
use Rattle.stream_law.proofs.Members.{IsIn, in-any}
use Rattle.stream_law.specs.Order.{is_among}
use Rattle.fw_places.specs.Walks.{place_in}
use Rattle.fw_places.proofs.WayWalks.{way-listed}
use Rattle.fw_units.specs.declared.component.Component.{Component}
use Rattle.fw_units.specs.declared.component.Unit as units
use Rattle.fw_units.specs.declared.component.Unit.TheVariants.{Host, Buffer}
use Rattle.fw_components.specs.declared.tallies.Tallies.{Tallies}
use Rattle.fw_units.specs.Changes.{has_id}
use Rattle.fw_components.specs.Kept.{IsKept}
use Rattle.fw_components.specs.Tables.{Tables, ids_of, graph_of, streams_of}
use Rattle.fw_units.specs.Units.{streams_by, with_stream_by, edge_by, kind_by}
use Rattle.fw_components.specs.Tally.{passes, AreTold, IsTallied, AreBare, has_phase, params_in}
use Rattle.fw_components.proofs.HostWays.{changed-ways, held-ways}
use Rattle.fw_components.proofs.Listed.{ids-are, listed-is, joins-listed}

-- what is Running is Live
pub phase-live : (phase : Phase) → is_live_phase phase ≡ false → is_running_phase phase ≡ false
phase-live phases.Idle none = refl
phase-live phases.Prepared none = refl
phase-live phases.Running none = none
phase-live phases.Paused none = refl

pub runs-live : (unit : units.Unit) → has_phase is_live_phase unit ≡ false → has_phase is_running_phase unit ≡ false
runs-live (Host capture phase params piece) none = phase-live phase none
runs-live u none = refl

-- ---- how many streams pass, and the parameters of the first

module _ (p : StreamView → Bool) where
  abbrev pub told : List StreamView → ℕ × Option Params
  told ss = (length (filter p ss), option_and_then (λ s. s.params) (find p ss))

  -- with one ahead
  abbrev pub ahead : Bool → Option Params → ℕ × Option Params → ℕ × Option Params
  ahead h params a = (cond h (a.0 + 1) a.0, cond h params a.1)

  told-more : (s : StreamView) (ss : List StreamView) → told (s ∷ ss) ≡ ahead (p s) s.params (told ss)
  told-more s ss = by (p s)
    where
      by : (h : Bool) → (length (cond h (s ∷ filter p ss) (filter p ss)), option_and_then (λ s. s.params) (cond h (Some s) (find p ss))) ≡ ahead h s.params (told ss)
      by true = let e : suc (length (filter p ss)) ≡ length (filter p ss) + 1 = omega arith in (λ i. (e i, s.params))
      by false = refl

  -- where none passes
  pub told-none : (ss : List StreamView) → AllByRecursion (λ s. p s ≡ false) ss → told ss ≡ (0, None)
  told-none [] none = refl
  told-none (s ∷ ss) none = told-more s ss ∙ (λ i. ahead (none.0 i) s.params (told-none ss none.1 i))

module _ (is : Phase → Bool) (way : ℕ → ℕ → Bool) (x : ℕ) where
  -- with the stream of a host ahead
  pub host-told : (id : ℕ) (unit : units.Unit) (ss : List StreamView) → told (passes is way x) (with_stream_by id unit ss) ≡ ahead (passes is way x) (has_phase is unit && way id x) (params_in unit) (told (passes is way x) ss)
  host-told id (Host capture phase params piece) ss = told-more (passes is way x) (record { host = id; phase = phase; params = params }) ss
  host-told id (Buffer size ring source sink) ss = refl
  host-told id u ss = refl

-- what is stated of streams is stated of one more, host by host
module _ (way : ℕ → ℕ → Bool) (ids : List ℕ) (ss : List StreamView) (id : ℕ) (unit : units.Unit) (old new : Tallies) (told_of : AreTold way ids ss old) where
  pub one-more : ((x : ℕ) → is_among ids x ≡ true → get_or new.running (place_in ids x) 0 ≡ cond (has_phase is_running_phase unit && way id x) (get_or old.running (place_in ids x) 0 + 1) (get_or old.running (place_in ids x) 0))
      → ((x : ℕ) → is_among ids x ≡ true → get_or new.live (place_in ids x) 0 ≡ cond (has_phase is_live_phase unit && way id x) (get_or old.live (place_in ids x) 0 + 1) (get_or old.live (place_in ids x) 0))
      → ((x : ℕ) → is_among ids x ≡ true → get_or new.params (place_in ids x) None ≡ cond (has_phase is_live_phase unit && way id x) (params_in unit) (get_or old.params (place_in ids x) None))
      → AreTold way ids (with_stream_by id unit ss) new
  one-more runs lives firsts = record {
    runs = λ x there. runs x there ∙ ap (λ n. cond (has_phase is_running_phase unit && way id x) (n + 1) n) (told_of.runs x there) ∙ sym (ap (λ (a : ℕ × Option Params). a.0) (host-told is_running_phase way x id unit ss));
    lives = λ x there. lives x there ∙ ap (λ n. cond (has_phase is_live_phase unit && way id x) (n + 1) n) (told_of.lives x there) ∙ sym (ap (λ (a : ℕ × Option Params). a.0) (host-told is_live_phase way x id unit ss));
    firsts = λ x there. firsts x there ∙ ap (λ (o : Option Params). cond (has_phase is_live_phase unit && way id x) (params_in unit) o) (told_of.firsts x there) ∙ sym (ap (λ (a : ℕ × Option Params). a.1) (host-told is_live_phase way x id unit ss));
  }

-- a mark is that of a stream in such a phase; and where none is, nothing is marked
pub marked-on : {Y : Type 0} (m on held : Bool) (a b : Y) → m ≡ on → held ≡ true → cond m a b ≡ cond (held && on) a b
marked-on m on held a b same so = ap (λ h. cond h a b) same ∙ ap (λ h. cond (h && on) a b) (sym so)

pub none-on : {Y : Type 0} (on held : Bool) (a b : Y) → held ≡ false → b ≡ cond (held && on) a b
none-on on held a b none = ap (λ h. cond (h && on) a b) (sym none)

-- ---- no host

streams-each : (P : ℕ → Phase → Type 0) (cs : List Component) → AllByRecursion (λ c. (phase : Phase) → P c.id phase) cs → AllByRecursion (λ s. P s.host s.phase) (streams_by cs)
streams-each P [] all = tt
streams-each P (c ∷ cs) all = one P c.id c.unit (streams_by cs) all.0 (streams-each P cs all.1)
  where
    one : (P : ℕ → Phase → Type 0) (id : ℕ) (u : units.Unit) (ss : List StreamView) → ((phase : Phase) → P id phase) → AllByRecursion (λ s. P s.host s.phase) ss → AllByRecursion (λ s. P s.host s.phase) (with_stream_by id u ss)
    one P id (Host capture phase params piece) ss own rest = (own phase, rest)
    one P id (Buffer size ring source sink) ss own rest = rest
    one P id u ss own rest = rest

-- where no stream is in such a phase
idle-told : (is : Phase → Bool) (way : ℕ → ℕ → Bool) (x : ℕ) (cs : List Component) → list_any (λ c. has_phase is c.unit) cs ≡ false → told (passes is way x) (streams_by cs) ≡ (0, None)
idle-told is way x [] none = refl
idle-told is way x (c ∷ cs) none =
    let both = or_parts (has_phase is c.unit) (list_any (λ d. has_phase is d.unit) cs) none in
    host-told is way x c.id c.unit (streams_by cs)
    ∙ (λ i. ahead (passes is way x) (both.0 i && way c.id x) (params_in c.unit) (idle-told is way x cs both.1 i))

none-runs : (cs : List Component) → list_any (λ c. has_phase is_live_phase c.unit) cs ≡ false → list_any (λ c. has_phase is_running_phase c.unit) cs ≡ false
none-runs [] none = refl
none-runs (c ∷ cs) none =
    let both = or_parts (has_phase is_live_phase c.unit) (list_any (λ d. has_phase is_live_phase d.unit) cs) none in
    (λ i. runs-live c.unit both.0 i || none-runs cs both.1 i)

pub idle-tallied : (t : Tables) → list_any (λ c. has_phase is_live_phase c.unit) t.comps ≡ false → (s : Tallies) → AreBare s → IsTallied t s
idle-tallied t none s bare = record {
  runs = λ x there. bare.running _ ∙ sym (ap (λ (a : ℕ × Option Params). a.0) (idle-told is_running_phase (on_way (graph_of t)) x t.comps (none-runs t.comps none)));
  lives = λ x there. bare.live _ ∙ sym (ap (λ (a : ℕ × Option Params). a.0) (idle-told is_live_phase (on_way (graph_of t)) x t.comps none));
  firsts = λ x there. bare.params _ ∙ sym (ap (λ (a : ℕ × Option Params). a.1) (idle-told is_live_phase (on_way (graph_of t)) x t.comps none));
}

pub bare-told : (way : ℕ → ℕ → Bool) (ids : List ℕ) (s : Tallies) → AreBare s → AreTold way ids [] s
bare-told way ids s bare = record { runs = λ x there. bare.running _; lives = λ x there. bare.live _; firsts = λ x there. bare.params _ }

-- what is not listed is on no way
pub nowhere-told : (t : Tables) → IsKept t → (x : ℕ) → is_among (ids_of t) x ≡ false → (is : Phase → Bool) → told (passes is (on_way (graph_of t)) x) (streams_of t) ≡ (0, None)
nowhere-told t kept x none is = told-none _ (streams_of t) (streams-each (λ host phase. (is phase && on_way (graph_of t) host x) ≡ false) t.comps (in-hosts t.comps (λ c there. there)))
  where
    off : (c : Component) → IsIn c t.comps → on_way (graph_of t) c.id x ≡ false
    off c there = false_from_ne_true _ (λ on. true≢false (sym (way-listed (graph_of t) (ids_of t) refl (joins-listed t kept) c.id x (listed-is t c.id ∙ or_left (has_id t.comps c.id) _ (in-any (λ d. d.id == c.id) t.comps c there (eq-eqb c.id c.id refl))) on) ∙ none))

    none-passes : (h on : Bool) → on ≡ false → (h && on) ≡ false
    none-passes true on is = is
    none-passes false on is = refl

    in-hosts : (cs : List Component) → ((c : Component) → IsIn c cs → IsIn c t.comps) → AllByRecursion (λ c. (phase : Phase) → (is phase && on_way (graph_of t) c.id x) ≡ false) cs
    in-hosts [] within = tt
    in-hosts (c ∷ cs) within = ((λ phase. none-passes (is phase) _ (off c (within c (inl refl)))), in-hosts cs (λ d there. within d (inr there)))

-- ---- what keeps the numbers

-- the same ids, streams and ways
pub told-same : (t u : Tables) (s : Tallies) → ids_of u ≡ ids_of t → streams_of u ≡ streams_of t → ((host x : ℕ) → on_way (graph_of u) host x ≡ on_way (graph_of t) host x) → IsTallied t s → IsTallied u s
told-same t u s ids streams ways = subst (λ (p : (ℕ → ℕ → Bool) × List ℕ × List StreamView). AreTold p.0 p.1 p.2 s) (λ i. ((λ host x. sym (ways host x) i), sym ids i, sym streams i))

pub map-ids : (change : Component → Component) → ((c : Component) → (change c).id ≡ c.id) → (cs : List Component) → map (λ c. c.id) (map change cs) ≡ map (λ (c : Component). c.id) cs
map-ids change same [] = refl
map-ids change same (c ∷ cs) = ap (λ (a : ℕ × List ℕ). a.0 ∷ a.1) (λ i. (same c i, map-ids change same cs i))

pub same-ids : (t u : Tables) → map (λ c. c.id) u.comps ≡ map (λ c. c.id) t.comps → map (λ c. c.id) u.buffers ≡ map (λ c. c.id) t.buffers → ids_of u ≡ ids_of t
same-ids t u comps buffers = sym (ids-are u _ refl) ∙ ap (λ (a : List ℕ × List ℕ). a.0 ++ a.1) (λ i. (comps i, buffers i)) ∙ ids-are t _ refl

map-streams : (change : Component → Component) → ((c : Component) (ss : List StreamView) → with_stream_by (change c).id (change c).unit ss ≡ with_stream_by c.id c.unit ss) → (cs : List Component) → streams_by (map change cs) ≡ streams_by cs
map-streams change same [] = refl
map-streams change same (c ∷ cs) = same c _ ∙ ap (with_stream_by c.id c.unit) (map-streams change same cs)

module _ (t : Tables) (s : Tallies) (tied : IsTallied t s) where
  -- components that keep their ids, their kinds and their streams
  pub comps-tallied : (change : Component → Component) (new : List Component) → new ≡ map change t.comps
      → ((c : Component) → (change c).id ≡ c.id) → ((c : Component) (ss : List StreamView) → with_stream_by (change c).id (change c).unit ss ≡ with_stream_by c.id c.unit ss) → ((c : Component) → kind_by (change c).unit ≡ kind_by c.unit)
      → IsTallied (record { comps = new; buffers = t.buffers; pipes = t.pipes; joins = t.joins }) s
  comps-tallied change new is ids streams kinds = told-same t (record { comps = new; buffers = t.buffers; pipes = t.pipes; joins = t.joins }) s
      (same-ids t (record { comps = new; buffers = t.buffers; pipes = t.pipes; joins = t.joins }) (ap (map (λ c. c.id)) is ∙ map-ids change ids t.comps) refl)
      (ap streams_by is ∙ map-streams change streams t.comps)
      (changed-ways t change new is ids kinds)
      tied

  -- buffers that keep their ids and their edges
  pub buffers-tallied : (change : Component → Component) (new : List Component) → new ≡ map change t.buffers → ((c : Component) → (change c).id ≡ c.id) → map edge_by (map change t.buffers) ≡ map edge_by t.buffers
      → IsTallied (record { comps = t.comps; buffers = new; pipes = t.pipes; joins = t.joins }) s
  buffers-tallied change new is ids edges = told-same t (record { comps = t.comps; buffers = new; pipes = t.pipes; joins = t.joins }) s
      (same-ids t (record { comps = t.comps; buffers = new; pipes = t.pipes; joins = t.joins }) refl (ap (map (λ c. c.id)) is ∙ map-ids change ids t.buffers))
      refl
      (held-ways t new (ap (map edge_by) is ∙ edges))
      tied

  pub pipes-tallied : (new : List Component) → IsTallied (record { comps = t.comps; buffers = t.buffers; pipes = new; joins = t.joins }) s
  unfolding on_way ways_to is_echo way_joins reaches
  pipes-tallied new = told-same t (record { comps = t.comps; buffers = t.buffers; pipes = new; joins = t.joins }) s refl refl (λ host x. refl) tied

-- what is counted of equal lists
pub lists-tallied : (t : Tables) (comps buffers : List Component) (joins : List Join) (s : Tallies) → comps ≡ t.comps → buffers ≡ t.buffers → joins ≡ t.joins
    → ((pipes : List Component) → IsTallied (record { comps = comps; buffers = buffers; pipes = pipes; joins = joins }) s) → IsTallied t s
lists-tallied t comps buffers joins s ours theirs along tied = subst (λ (p : List Component × List Component × List Join). IsTallied (record { comps = p.0; buffers = p.1; pipes = t.pipes; joins = p.2 }) s) (λ i. (ours i, theirs i, along i)) (tied t.pipes)

-- nothing is listed where nothing is there
pub none-tallied : (s : Tallies) → IsTallied (record { comps = []; buffers = []; pipes = []; joins = [] }) s
none-tallied s = record { runs = λ x there. absurd (false≢true there); lives = λ x there. absurd (false≢true there); firsts = λ x there. absurd (false≢true there) }

pub no-params : (n k : ℕ) (o : Option Params) → get_or (replicate n o) k o ≡ o
no-params zero k o = refl
no-params (suc n) zero o = refl
no-params (suc n) (suc k) o = no-params n k o
