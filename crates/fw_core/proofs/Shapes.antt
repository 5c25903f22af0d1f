-- What is Live has the channels and the rate of its stream: each row leaves it so.
use Rattle.std.proofs.Common.{◌≡◌, refl, sym, ap, ◌∙◌, subst, ℕ, List, [], ◌∷◌, ◌++◌, map, length, Bool, true, false, cond, not, ◌&&◌, ◌||◌, ◌==◌, Some, None, Ok, Err, inl, inr}
use Rattle.std.specs.Prelude.{nat_le, ◌⊎◌}
use Rattle.std.specs.List.{AllByRecursion, list_any}
use Rattle.std.proofs.lemmas.Bool.{false≢true, and_parts, and_from, or_parts, or_left, or_right, or_cases, eq-eqb}
use Rattle.sof_base.specs.declared.format.Params.{Params}
use Rattle.sof_base.specs.Ramps.{ramp_frames}
use Rattle.stream_law.specs.declared.graph.Comp.{Comp}
use Rattle.stream_law.specs.declared.graph.Edge.{Edge}
use Rattle.stream_law.specs.declared.graph.Pipe.{Pipe}
use Rattle.stream_law.specs.declared.graph.Join.{Join}
use Rattle.stream_law.specs.declared.graph.Graph.{Graph}
use Rattle.stream_law.specs.declared.graph.Kind.{Kind}
use Rattle.stream_law.specs.declared.graph.Setting.{Setting}
use Rattle.stream_law.specs.declared.stream.StreamView.{StreamView}
use Rattle.stream_law.specs.declared.stream.Phase.{Phase}
use Rattle.stream_law.specs.declared.stream.Phase.TheVariants.{Idle, Prepared, Running, Paused}
use Rattle.stream_law.specs.State.{FwState, View, view_of}
use Rattle.stream_law.specs.Ways.{components, buffers, live, rate_of, channels_of, is_live_phase, on_way, agree, is_running_phase}
use Rattle.stream_law.specs.Order.{is_among}
use Rattle.stream_law.specs.Joins.{would_cycle, stays, would_stay, crosses, with_join}
use Rattle.stream_law.specs.Seen.{seen}
use Rattle.stream_law.proofs.Members.{IsIn, in-all, in-each}
use Rattle.mbox_link.specs.Step as rows
use Rattle.row_laws.specs.Wired.{is_node}
use Rattle.row_laws.specs.Played.{AreStreamsPlayable, KeepsLive}
use Rattle.row_laws.specs.Kept.{FirmwareInvariant}
use Rattle.row_laws.proofs.Fewer.{filter-every}
use Rattle.row_laws.proofs.FreeKept.{comp_free-live, comp_free-rate, comp_free-channels, buffer_free-live, buffer_free-rate, buffer_free-channels}
use Rattle.row_laws.proofs.Growing.{hosts-apart, live-wider, rate-wider, channels-wider}
use Rattle.row_laws.proofs.Joined.{among-left, among-right}
use Rattle.row_laws.proofs.Joining.{live-joined, rate-joined, channels-joined}
use Rattle.row_laws.proofs.Longer.{live-longer, rate-longer, channels-longer, live-other, rate-other, channels-other}
use Rattle.row_laws.proofs.NewKept.{unused-node}
use Rattle.row_laws.proofs.SameWays.{live-same, rate-same, channels-same}
use Rattle.row_laws.proofs.Settings.{ways-set, bare-set}
use Rattle.row_laws.proofs.Stays.{shape-stays}
use Rattle.row_laws.proofs.StreamLaws.{keeps-phase, keeps-free, keeps-params}
use Rattle.row_laws.proofs.Unreached.{apart, off-way}
use Rattle.fw_units.specs.declared.component.Component.{Component}
use Rattle.fw_units.specs.declared.component.Unit as units
use Rattle.fw_units.specs.Units.{comp_by, edge_by, ramp_by}
use Rattle.fw_components.specs.Tables.{Tables, view_by, graph_of}
use Rattle.fw_components.specs.Processed.{ramp_frames_by}
use Rattle.fw_units.specs.Frames.{channels_by}
use Rattle.fw_pipeline.specs.declared.phases.Trigger.{Trigger}
use Rattle.fw_pipeline.specs.declared.phases.Trigger.TheVariants as what
use Rattle.fw_pipeline.specs.Triggers.{triggered}
use Rattle.fw_schedule.specs.Ticks.{HasShapes}
use Rattle.fw_core.proofs.RowLaws.{pass, passed, same-ok, not-false, new-tests}

-- ---- lists that fit a view

abbrev pub Fits : View → (Component → ℕ) → Component → Type 0
Fits v size c = live v c.id ≡ true → size c ≡ channels_of v c.id

abbrev pub moves : Component → ℕ
moves c = c.channels

abbrev pub frames : Component → ℕ
frames c = channels_by c.unit

-- a volume's ramp is of the frames that its milliseconds have at the rate
abbrev pub HasRamp : View → Component → Type 0
HasRamp v c = live v c.id ≡ true → ramp_frames_by c.unit ≡ ramp_frames (ramp_by c.unit) (rate_of v c.id)

abbrev pub unit_lengths : units.Unit → ℕ × ℕ
unit_lengths u = (ramp_frames_by u, ramp_by u)

abbrev pub lengths : Component → ℕ × ℕ
lengths c = unit_lengths c.unit

-- an id is Live where it was, with the same rate and as many channels
pub record IsSame (v w : View) (x : ℕ) : Type 0 where
  pub lives : live w x ≡ live v x
  pub rates : rate_of w x ≡ rate_of v x
  pub channels : channels_of w x ≡ channels_of v x

same-fits : (v w : View) (size : Component → ℕ) (cs : List Component) → ((c : Component) → IsIn c cs → IsSame v w c.id) → AllByRecursion (Fits v size) cs → AllByRecursion (Fits w size) cs
same-fits v w size cs same fits = in-each (Fits w size) cs (λ c there on. let s = same c there in in-all (Fits v size) cs c fits there (sym s.lives ∙ on) ∙ sym s.channels)

same-ramps : (v w : View) (cs : List Component) → ((c : Component) → IsIn c cs → IsSame v w c.id) → AllByRecursion (HasRamp v) cs → AllByRecursion (HasRamp w) cs
same-ramps v w cs same fits = in-each (HasRamp w) cs (λ c there on. let s = same c there in in-all (HasRamp v) cs c fits there (sym s.lives ∙ on) ∙ ap (ramp_frames (ramp_by c.unit)) (sym s.rates))

pub shapes-are : (t u : Tables) → ((c : Component) → IsIn c u.comps → IsSame (view_by t) (view_by u) c.id) → ((c : Component) → IsIn c u.buffers → IsSame (view_by t) (view_by u) c.id) → AllByRecursion (Fits (view_by t) moves) u.comps → AllByRecursion (Fits (view_by t) frames) u.buffers → AllByRecursion (HasRamp (view_by t)) u.comps → HasShapes u
shapes-are t u same_comps same_buffers comps bufs ramps = record { comps = same-fits (view_by t) (view_by u) moves u.comps same_comps comps; buffers = same-fits (view_by t) (view_by u) frames u.buffers same_buffers bufs; ramps = same-ramps (view_by t) (view_by u) u.comps same_comps ramps }

pub fits-map : (v : View) (size : Component → ℕ) (to : Component → Component) → ((c : Component) → (to c).id ≡ c.id) → ((c : Component) → size (to c) ≡ size c) → (cs : List Component) → AllByRecursion (Fits v size) cs → AllByRecursion (Fits v size) (map to cs)
fits-map v size to ids sizes [] fits = tt
fits-map v size to ids sizes (c ∷ cs) fits = ((λ on. sizes c ∙ fits.0 (ap (live v) (sym (ids c)) ∙ on) ∙ ap (channels_of v) (sym (ids c))), fits-map v size to ids sizes cs fits.1)

pub ramps-map : (v : View) (to : Component → Component) → ((c : Component) → (to c).id ≡ c.id) → ((c : Component) → lengths (to c) ≡ lengths c) → (cs : List Component) → AllByRecursion (HasRamp v) cs → AllByRecursion (HasRamp v) (map to cs)
ramps-map v to ids same [] fits = tt
ramps-map v to ids same (c ∷ cs) fits = (
  (λ on. ap (λ (p : ℕ × ℕ). p.0) (same c) ∙ fits.0 (ap (live v) (sym (ids c)) ∙ on) ∙ (λ i. ramp_frames ((sym (same c) i).1) (rate_of v (sym (ids c) i)))),
  ramps-map v to ids same cs fits.1,
)

-- what no node names is not Live
pub unlit : (f : FwState) (id : ℕ) → FirmwareInvariant f → is_node f.graph id ≡ false → live (view_of f) id ≡ false
unfolding live
unlit f id kept gone = none f.streams (hosts-apart f.graph id (or_parts (rows.has_comp f.graph id) (rows.has_edge f.graph id) gone).0 f.streams kept.played.owned)
  where
    off : (h k : Bool) → k ≡ false → (h && k) ≡ false
    off true k e = e
    off false k e = refl

    none : (ss : List StreamView) → AllByRecursion (λ s. (s.host == id) ≡ false) ss → list_any (λ s. is_live_phase s.phase && on_way f.graph s.host id) ss ≡ false
    none [] far = refl
    none (s ∷ ss) far = ap (λ (p : Bool × Bool). p.0 || p.1) (λ i. (off (is_live_phase s.phase) (on_way f.graph s.host id) (off-way f.graph s.host id far.0 (or_parts (rows.has_comp f.graph id) (rows.has_edge f.graph id) gone).1 (apart f.graph id gone f.graph.joins kept.wired.ends)) i, none ss far.1 i))

-- ---- rows of the graph

pub comp_new-same : (id pipe : ℕ) (kind : Kind) (setting : Setting) (ramp : ℕ) (f g : FwState) → FirmwareInvariant f → rows.comp_new f id pipe kind setting ramp ≡ Ok g → (x : ℕ) → IsSame (view_of f) (view_of g) x
comp_new-same id pipe kind setting ramp f g kept is x =
    let tests = new-tests (rows.is_used f.graph id) (rows.is_complete f.graph pipe) (nat_le 128 (length f.graph.comps)) (rows.has_hole f (rows.comp_bytes kind)) (rows.with_comp id pipe kind setting ramp f) g is in
    let c : Comp = record { id = id; kind = kind; pipe = pipe; setting = setting; ramp = ramp } in
    let gone = unused-node f.graph id tests.0 in
    subst (λ (g : FwState). IsSame (view_of f) (view_of g) x) tests.2 record { lives = live-wider f.graph c gone kept.wired f.streams kept.played x; rates = rate-wider f.graph c gone kept.wired f.streams kept.played x; channels = channels-wider f.graph c gone kept.wired f.streams kept.played x }

pub buffer_new-same : (id pipe size : ℕ) (f g : FwState) → FirmwareInvariant f → rows.buffer_new f id pipe size ≡ Ok g → (x : ℕ) → IsSame (view_of f) (view_of g) x
buffer_new-same id pipe size f g kept is x =
    let tests = new-tests (rows.is_used f.graph id) (rows.is_complete f.graph pipe) (nat_le 128 (length f.graph.edges)) (rows.has_hole f (rows.buffer_bytes size)) (rows.with_buffer id pipe size f) g is in
    let gone = unused-node f.graph id tests.0 in
    subst (λ (g : FwState). IsSame (view_of f) (view_of g) x) tests.2 record { lives = live-longer f.graph id pipe size gone kept.wired f.streams kept.played x; rates = rate-longer f.graph id pipe size gone kept.wired f.streams kept.played x; channels = channels-longer f.graph id pipe size gone kept.wired f.streams kept.played x }

-- other pipelines change nothing
pub pipes-same : (f g : FwState) (pipes : List Pipe) → FirmwareInvariant f → view_of g ≡ record { graph = rows.with_pipes pipes f.graph; streams = f.streams } → (x : ℕ) → IsSame (view_of f) (view_of g) x
pipes-same f g pipes kept is x = subst (λ (v : View). IsSame (view_of f) v x) (sym is) record { lives = live-other f.graph pipes f.streams kept.played x; rates = rate-other f.graph pipes f.streams kept.played x; channels = channels-other f.graph pipes f.streams kept.played x }

pub comp_free-same : (id : ℕ) (f g : FwState) → FirmwareInvariant f → list_any (rows.touches id) f.graph.joins ≡ false → rows.has_comp f.graph id ≡ true → rows.without_comp id f ≡ g → (x : ℕ) → IsSame (view_of f) (view_of g) x
comp_free-same id f g kept free there is x = subst (λ (g : FwState). IsSame (view_of f) (view_of g) x) is record { lives = comp_free-live f kept id there free x; rates = comp_free-rate f kept id there free x; channels = comp_free-channels f kept id there free x }

pub buffer_free-same : (id : ℕ) (f g : FwState) → FirmwareInvariant f → rows.has_edge f.graph id ≡ true → rows.is_held f.graph f.streams id ≡ false → stays (view_of f) (rows.without_edge id f.graph) ≡ true → rows.without_buffer id f ≡ g → (x : ℕ) → IsSame (view_of f) (view_of g) x
buffer_free-same id f g kept there free stay is x = subst (λ (g : FwState). IsSame (view_of f) (view_of g) x) is record { lives = buffer_free-live f kept id there free stay x; rates = buffer_free-rate f kept id there free stay x; channels = buffer_free-channels f kept id there free stay x }

pub set_value-same : (id : ℕ) (setting : Setting) (f : FwState) → FirmwareInvariant f → (x : ℕ) → IsSame (view_of f) (rows.with_setting_at f id setting) x
set_value-same id setting f kept x =
    record {
      lives = subst (λ ss. live (record { graph = after; streams = ss }) x ≡ live (view_of f) x) (filter-every f.streams) (live-same f.graph after (λ s. true) f.streams kept.played (bare-set id setting f.graph f.streams) (ways-set id setting f.graph f.streams) x);
      rates = subst (λ ss. rate_of (record { graph = after; streams = ss }) x ≡ rate_of (view_of f) x) (filter-every f.streams) (rate-same f.graph after (λ s. true) f.streams kept.played (bare-set id setting f.graph f.streams) (ways-set id setting f.graph f.streams) x);
      channels = subst (λ ss. channels_of (record { graph = after; streams = ss }) x ≡ channels_of (view_of f) x) (filter-every f.streams) (channels-same f.graph after (λ s. true) f.streams kept.played (bare-set id setting f.graph f.streams) (ways-set id setting f.graph f.streams) x);
    }
  where
    after : Graph
    after = rows.with_comps (map (rows.with_setting id setting) f.graph.comps) f.graph

-- a join leaves what is there
pub connect-same : (source sink : ℕ) (f g : FwState) → FirmwareInvariant f → rows.connect f source sink ≡ Ok g → (x : ℕ) → is_among (components f.graph ++ buffers f.graph) x ≡ true → IsSame (view_of f) (view_of g) x
connect-same source sink f g kept is x there =
    let j : Join = record { source = source; sink = sink } in
    let new : FwState = record f { graph = with_join f.graph j } in
    let used : Bool = not (rows.is_used f.graph source && rows.is_used f.graph sink) in
    let a = pass used rows.no_device (cond (rows.is_joined f.graph source sink) (Err rows.busy) (cond (rows.is_refused_join f source sink) (Err rows.invalid) (Ok new))) g is in
    let free = passed (rows.is_joined f.graph source sink) rows.busy (cond (rows.is_refused_join f source sink) (Err rows.invalid) (Ok new)) g a in
    let b = pass (rows.is_joined f.graph source sink) rows.busy (cond (rows.is_refused_join f source sink) (Err rows.invalid) (Ok new)) g a in
    let right = passed (rows.is_refused_join f source sink) rows.invalid (Ok new) g b in
    let own = same-ok new g (pass (rows.is_refused_join f source sink) rows.invalid (Ok new) g b) in
    let both = or_parts (not (rows.takes_join f.graph source sink) || would_cycle f.graph source sink) (not (would_stay (view_of f) source sink)) right in
    let stay = not-false (would_stay (view_of f) source sink) both.1 in
    let cycle = or_parts (not (rows.takes_join f.graph source sink)) (would_cycle f.graph source sink) both.0 in
    let takes = not-false (rows.takes_join f.graph source sink) cycle.0 in
    subst (λ (g : FwState). IsSame (view_of f) (view_of g) x) own record { lives = live-joined f.graph j kept.wired free takes f.streams kept.played stay x there; rates = rate-joined f.graph j kept.wired free takes f.streams kept.played stay x there; channels = channels-joined f.graph j kept.wired free takes f.streams kept.played stay x there }

-- ---- rows of streams

-- What a row of streams does: it changes each stream, leaves its host, and keeps the parameters of those that are Live.
pub record IsChange (f g : FwState) (to : StreamView → StreamView) : Type 0 where
  pub view : view_of g ≡ record { graph = f.graph; streams = map to f.streams }
  pub keeps : KeepsLive to f.streams

-- what is Live before and after has the same rate and the same channels
pub change-shape : (f g : FwState) (to : StreamView → StreamView) → FirmwareInvariant f → FirmwareInvariant g → IsChange f g to → (x : ℕ) → is_among (components f.graph ++ buffers f.graph) x ≡ true → live (view_of f) x ≡ true → live (view_of g) x ≡ true → (rate_of (view_of g) x ≡ rate_of (view_of f) x) × (channels_of (view_of g) x ≡ channels_of (view_of f) x)
change-shape f g to kept after change x there was now =
    let stays = shape-stays f.graph f.streams to change.keeps kept.played (subst AreStreamsPlayable change.view after.played) x there was (ap (λ (v : View). live v x) (sym change.view) ∙ now) in
    (ap (λ (v : View). rate_of v x) change.view ∙ stays.0, ap (λ (v : View). channels_of v x) change.view ∙ stays.1)

-- where none becomes Live
pub change-lives : (f g : FwState) (to : StreamView → StreamView) → IsChange f g to → ((s : StreamView) → is_live_phase (to s).phase ≡ true → ((to s).host ≡ s.host) × (is_live_phase s.phase ≡ true)) → (x : ℕ) → live (view_of g) x ≡ true → live (view_of f) x ≡ true
unfolding live
change-lives f g to change less x now = back f.streams (sym (ap (λ (v : View). list_any (λ s. is_live_phase s.phase && on_way v.graph s.host x) v.streams) change.view) ∙ now)
  where
    one : (s : StreamView) → (is_live_phase (to s).phase && on_way f.graph (to s).host x) ≡ true → (is_live_phase s.phase && on_way f.graph s.host x) ≡ true
    one s e =
        let parts = and_parts (is_live_phase (to s).phase) (on_way f.graph (to s).host x) e in
        let l = less s parts.0 in
        and_from (is_live_phase s.phase) (on_way f.graph s.host x) l.1 (ap (λ n. on_way f.graph n x) (sym l.0) ∙ parts.1)

    back : (ss : List StreamView) → list_any (λ s. is_live_phase s.phase && on_way f.graph s.host x) (map to ss) ≡ true → list_any (λ s. is_live_phase s.phase && on_way f.graph s.host x) ss ≡ true
    back [] e = e
    back (s ∷ ss) e = by (or_cases (is_live_phase (to s).phase && on_way f.graph (to s).host x) (list_any (λ s. is_live_phase s.phase && on_way f.graph s.host x) (map to ss)) e) (back ss)
      where
        by : ((is_live_phase (to s).phase && on_way f.graph (to s).host x) ≡ true) ⊎ (list_any (λ s. is_live_phase s.phase && on_way f.graph s.host x) (map to ss) ≡ true) → (list_any (λ s. is_live_phase s.phase && on_way f.graph s.host x) (map to ss) ≡ true → list_any (λ s. is_live_phase s.phase && on_way f.graph s.host x) ss ≡ true) → list_any (λ s. is_live_phase s.phase && on_way f.graph s.host x) (s ∷ ss) ≡ true
        by (inl e) rest = or_left (is_live_phase s.phase && on_way f.graph s.host x) (list_any (λ s. is_live_phase s.phase && on_way f.graph s.host x) ss) (one s e)
        by (inr e) rest = or_right (is_live_phase s.phase && on_way f.graph s.host x) (list_any (λ s. is_live_phase s.phase && on_way f.graph s.host x) ss) (rest e)

-- PCM_PARAMS
pub params-change : (host direction : ℕ) (p : Params) (f g : FwState) → FirmwareInvariant f → rows.pcm_params f host direction p ≡ Ok g → IsChange f g (rows.set_stream host Prepared (Some p))
params-change host direction p f g kept is =
    let new : FwState = seen (rows.with_params f host p) None f in
    let moving : Bool = rows.is_stream_phase is_live_phase (rows.phase_at f host) in
    let kind : Bool = not (rows.has_kind (λ kind. rows.goes kind direction) (rows.kind_at f.graph host)) in
    let wrong : Bool = ((((kind || moving) || not (rows.is_rate p.rate)) || not (rows.is_way_ready f.graph host)) || crosses f.graph) || not (agree (rows.with_params f host p)) in
    let a = pass (not (rows.is_used f.graph host)) rows.no_device (cond wrong (Err rows.invalid) (Ok new)) g is in
    let right = passed wrong rows.invalid (Ok new) g a in
    let own = same-ok new g (pass wrong rows.invalid (Ok new) g a) in
    let b = or_parts ((((kind || moving) || not (rows.is_rate p.rate)) || not (rows.is_way_ready f.graph host)) || crosses f.graph) (not (agree (rows.with_params f host p))) right in
    let c = or_parts (((kind || moving) || not (rows.is_rate p.rate)) || not (rows.is_way_ready f.graph host)) (crosses f.graph) b.0 in
    let d = or_parts ((kind || moving) || not (rows.is_rate p.rate)) (not (rows.is_way_ready f.graph host)) c.0 in
    let e = or_parts (kind || moving) (not (rows.is_rate p.rate)) d.0 in
    record { view = ap view_of (sym own); keeps = keeps-params host p f.streams kept.played.hosts (or_parts kind moving e.0).1 }

pub params-less : (host : ℕ) (p : Params) (s : StreamView) → is_live_phase (rows.set_stream host Prepared (Some p) s).phase ≡ true → ((rows.set_stream host Prepared (Some p) s).host ≡ s.host) × (is_live_phase s.phase ≡ true)
params-less host p s e = by (s.host == host) e
  where
    by : (h : Bool) → is_live_phase (cond {A = StreamView} h (record { host = s.host; phase = Prepared; params = Some p }) s).phase ≡ true → ((cond {A = StreamView} h (record { host = s.host; phase = Prepared; params = Some p }) s).host ≡ s.host) × (is_live_phase s.phase ≡ true)
    by true e = absurd (false≢true e)
    by false e = (refl, e)

-- the triggers
changed-is : (f g : FwState) (host : ℕ) (from : Phase → Bool) (to : StreamView → StreamView) → rows.stream_changed f host from to ≡ Ok g → (view_of g ≡ record { graph = f.graph; streams = map to f.streams }) × (rows.is_stream_phase from (rows.phase_at f host) ≡ true)
changed-is f g host from to is =
    let new : FwState = seen (record { graph = f.graph; streams = map to f.streams }) None f in
    let kind : Bool = rows.has_kind rows.is_host (rows.kind_at f.graph host) in
    let phase : Bool = rows.is_stream_phase from (rows.phase_at f host) in
    let a = pass (not (rows.is_used f.graph host)) rows.no_device (cond (not (kind && phase)) (Err rows.invalid) (Ok new)) g is in
    let right = not-false (kind && phase) (passed (not (kind && phase)) rows.invalid (Ok new) g a) in
    (ap view_of (sym (same-ok new g (pass (not (kind && phase)) rows.invalid (Ok new) g a))), (and_parts kind phase right).1)

pub triggered-change : (t : Trigger) (host : ℕ) (f g : FwState) → FirmwareInvariant f → triggered t f host ≡ Ok g → (to : StreamView → StreamView) × IsChange f g to
triggered-change what.Start host f g kept is = (rows.set_phase host Running, record { view = (changed-is f g host rows.is_prepared (rows.set_phase host Running) is).0; keeps = keeps-phase host Running f.streams })
triggered-change what.Stop host f g kept is = (rows.set_phase host Prepared, record { view = (changed-is f g host is_live_phase (rows.set_phase host Prepared) is).0; keeps = keeps-phase host Prepared f.streams })
triggered-change what.Pause host f g kept is = (rows.set_phase host Paused, record { view = (changed-is f g host is_running_phase (rows.set_phase host Paused) is).0; keeps = keeps-phase host Paused f.streams })
triggered-change what.Release host f g kept is = (rows.set_phase host Running, record { view = (changed-is f g host rows.is_paused (rows.set_phase host Running) is).0; keeps = keeps-phase host Running f.streams })
triggered-change what.Free host f g kept is =
    let c = changed-is f g host rows.is_prepared (rows.set_stream host Idle None) is in
    (rows.set_stream host Idle None, record { view = c.0; keeps = keeps-free host f.streams kept.played.hosts c.1 })

-- ---- ids of tables

pub comp-among : (t : Tables) (c : Component) → IsIn c t.comps → is_among (components (graph_of t) ++ buffers (graph_of t)) c.id ≡ true
comp-among t c there = among-left (components (graph_of t)) (buffers (graph_of t)) c.id (listed t.comps there)
  where
    listed : (cs : List Component) → IsIn c cs → is_among (map (λ (x : Comp). x.id) (map comp_by cs)) c.id ≡ true
    listed [] there = absurd there
    listed (d ∷ cs) (inl same) = or_left (d.id == c.id) _ (eq-eqb d.id c.id (ap (λ (x : Component). x.id) (sym same)))
    listed (d ∷ cs) (inr more) = or_right (d.id == c.id) _ (listed cs more)

pub buffer-among : (t : Tables) (c : Component) → IsIn c t.buffers → is_among (components (graph_of t) ++ buffers (graph_of t)) c.id ≡ true
buffer-among t c there = among-right (components (graph_of t)) (buffers (graph_of t)) c.id (listed t.buffers there)
  where
    listed : (cs : List Component) → IsIn c cs → is_among (map (λ (e : Edge). e.buffer) (map edge_by cs)) c.id ≡ true
    listed [] there = absurd there
    listed (d ∷ cs) (inl same) = or_left (d.id == c.id) _ (eq-eqb d.id c.id (ap (λ (x : Component). x.id) (sym same)))
    listed (d ∷ cs) (inr more) = or_right (d.id == c.id) _ (listed cs more)
