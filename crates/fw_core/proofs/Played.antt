-- What is Live has the channels and the rate of its stream after a row of streams.
use Rattle.std.proofs.Common.{◌≡◌, refl, sym, ap, ◌∙◌, subst, ℕ, List, [], ◌∷◌, ◌++◌, map, Bool, true, false, cond, not, ◌&&◌, ◌==◌, Option, Some, Ok, inl, inr, ℤ, arith}
use Rattle.std.specs.List.{AllByRecursion}
use Rattle.std.proofs.lemmas.Bool.{true≢false, false≢true}
use Rattle.sof_base.specs.declared.format.Params.{Params}
use Rattle.sof_base.specs.Ramps.{ramp_frames}
use Rattle.stream_law.specs.declared.stream.StreamView.{StreamView}
use Rattle.stream_law.specs.declared.stream.Phase.{Phase}
use Rattle.stream_law.specs.declared.stream.Phase.TheVariants.{Prepared}
use Rattle.stream_law.specs.State.{View}
use Rattle.stream_law.specs.Ways.{components, buffers, live, rate_of, channels_of}
use Rattle.stream_law.specs.Order.{is_among}
use Rattle.stream_law.specs.Seen.{flows}
use Rattle.stream_law.proofs.Members.{IsIn, in-all, in-each}
use Rattle.mbox_link.specs.Step as rows
use Rattle.row_laws.specs.Kept.{FirmwareInvariant}
use Rattle.fw_heap.specs.Regions.{RegionState}
use Rattle.fw_units.specs.declared.component.Component.{Component}
use Rattle.fw_units.specs.declared.component.Unit as units
use Rattle.fw_units.specs.declared.component.Unit.TheVariants.{Host, Dai, Volume, Mixer, Mux, Eq, Demux, Buffer, Pipeline}
use Rattle.fw_units.specs.Units.{is_buffer, ramp_by}
use Rattle.fw_components.specs.Tables.{Tables, view_by, graph_of}
use Rattle.fw_components.specs.Processed.{ramp_frames_by}
use Rattle.fw_units.specs.Changes.{set_at, set_unit, ended_unit}
use Rattle.fw_components.specs.Kept as tables
use Rattle.fw_units.specs.Frames.{channels_by, begun_by, begun_unit, kept_words}
use Rattle.fw_pipeline.specs.declared.phases.Trigger.{Trigger}
use Rattle.fw_pipeline.specs.Triggers.{triggered, phase_after, params_after, params_of, begins, begun_in, settled_in, IsBegun, BecomeEach, IsTriggered}
use Rattle.fw_pipeline.proofs.StateAfter.{set-id}
use Rattle.fw_schedule.specs.Ticks.{HasShapes}
use Rattle.fw_core.specs.Held.{state_in, IsPieceHeld}
use Rattle.fw_core.proofs.Seats.{in-map}
use Rattle.fw_core.proofs.Shapes.{Fits, moves, frames, HasRamp, unit_lengths, lengths, fits-map, ramps-map, IsChange, change-shape, change-lives, params-change, params-less, triggered-change, comp-among, buffer-among}

set-moves : (host : ℕ) (phase : Phase) (params : Option Params) (c : Component) → moves (set_at host phase params c) ≡ moves c
set-moves host phase params c = by (c.id == host)
  where
    by : (h : Bool) → moves (cond h (record { id = c.id; pipe = c.pipe; channels = c.channels; unit = set_unit phase params c.unit }) c) ≡ moves c
    by true = refl
    by false = refl

set-lengths : (host : ℕ) (phase : Phase) (params : Option Params) (c : Component) → lengths (set_at host phase params c) ≡ lengths c
set-lengths host phase params c = by (c.id == host)
  where
    unit : (u : units.Unit) → unit_lengths (set_unit phase params u) ≡ unit_lengths u
    unit (Host capture was before piece) = refl
    unit (Volume gains ramp from done over piece) = refl
    unit u = refl

    by : (h : Bool) → lengths (cond h (record { id = c.id; pipe = c.pipe; channels = c.channels; unit = set_unit phase params c.unit }) c) ≡ lengths c
    by true = unit c.unit
    by false = refl

module _ (t u : Tables) (r : RegionState) (held : IsPieceHeld t r) (after : FirmwareInvariant (state_in u r 0)) (to : StreamView → StreamView) (change : IsChange (state_in t r 0) (state_in u r 0) to) where
  -- what was Live and still is
  still-fits : (size : Component → ℕ) (c : Component) → is_among (components (graph_of t) ++ buffers (graph_of t)) c.id ≡ true → Fits (view_by t) size c → live (view_by t) c.id ≡ true → live (view_by u) c.id ≡ true → size c ≡ channels_of (view_by u) c.id
  still-fits size c there fits was now = fits was ∙ sym (change-shape (state_in t r 0) (state_in u r 0) to (held.kept 0) after change c.id there was now).1

  still-ramp : (c : Component) → is_among (components (graph_of t) ++ buffers (graph_of t)) c.id ≡ true → HasRamp (view_by t) c → live (view_by t) c.id ≡ true → live (view_by u) c.id ≡ true → ramp_frames_by c.unit ≡ ramp_frames (ramp_by c.unit) (rate_of (view_by u) c.id)
  still-ramp c there fits was now = fits was ∙ ap (ramp_frames (ramp_by c.unit)) (sym (change-shape (state_in t r 0) (state_in u r 0) to (held.kept 0) after change c.id there was now).0)

-- ---- PCM_PARAMS

module _ (t u : Tables) (r : RegionState) (host direction : ℕ) (p : Params) (held : IsPieceHeld t r) (after : FirmwareInvariant (state_in u r 0)) where
  pub params-shapes : u ≡ record { comps = map (set_at host Prepared (Some p)) t.comps; buffers = t.buffers; pipes = t.pipes; joins = t.joins } → rows.pcm_params (state_in t r 0) host direction p ≡ Ok (state_in u r 0) → HasShapes u
  params-shapes done row = record {
    comps = in-each (Fits (view_by u) moves) u.comps (λ d there on.
        let from = in-map (set_at host Prepared (Some p)) t.comps d (subst (λ (x : Tables). IsIn d x.comps) done there) in
        let id = ap (λ (x : Component). x.id) from.2 ∙ set-id host Prepared (Some p) from.0 in
        ap moves from.2 ∙ set-moves host Prepared (Some p) from.0 ∙ one moves from.0 (comp-among t from.0 from.1) (in-all (Fits (view_by t) moves) t.comps from.0 held.shapes.comps from.1) (ap (live (view_by u)) (sym id) ∙ on) ∙ ap (channels_of (view_by u)) (sym id));
    buffers = in-each (Fits (view_by u) frames) u.buffers (λ d there on.
        let within = subst (λ (x : Tables). IsIn d x.buffers) done there in
        one frames d (buffer-among t d within) (in-all (Fits (view_by t) frames) t.buffers d held.shapes.buffers within) on);
    ramps = in-each (HasRamp (view_by u)) u.comps (λ d there on.
        let from = in-map (set_at host Prepared (Some p)) t.comps d (subst (λ (x : Tables). IsIn d x.comps) done there) in
        let id = ap (λ (x : Component). x.id) from.2 ∙ set-id host Prepared (Some p) from.0 in
        let same : lengths d ≡ lengths from.0 = ap lengths from.2 ∙ set-lengths host Prepared (Some p) from.0 in
        let now : live (view_by u) from.0.id ≡ true = ap (live (view_by u)) (sym id) ∙ on in
        let was = change-lives (state_in t r 0) (state_in u r 0) (rows.set_stream host Prepared (Some p)) change (params-less host p) from.0.id now in
        ap (λ (q : ℕ × ℕ). q.0) same
        ∙ still-ramp t u r held after (rows.set_stream host Prepared (Some p)) change from.0 (comp-among t from.0 from.1) (in-all (HasRamp (view_by t)) t.comps from.0 held.shapes.ramps from.1) was now
        ∙ (λ i. ramp_frames ((sym same i).1) (rate_of (view_by u) (sym id i))));
  }
    where
      change : IsChange (state_in t r 0) (state_in u r 0) (rows.set_stream host Prepared (Some p))
      change = params-change host direction p (state_in t r 0) (state_in u r 0) (held.kept 0) row

      one : (size : Component → ℕ) (c : Component) → is_among (components (graph_of t) ++ buffers (graph_of t)) c.id ≡ true → Fits (view_by t) size c → live (view_by u) c.id ≡ true → size c ≡ channels_of (view_by u) c.id
      one size c there fits now = still-fits t u r held after (rows.set_stream host Prepared (Some p)) change size c there fits (change-lives (state_in t r 0) (state_in u r 0) (rows.set_stream host Prepared (Some p)) change (params-less host p) c.id now) now

-- ---- the triggers

no-ramp : (rate : ℕ) → 0 ≡ ramp_frames 0 rate
no-ramp rate = omega arith

-- one of a buffer that begins has the channels that it begins with
begun-frames : (channels rate : ℕ) (u : units.Unit) → is_buffer u ≡ true → channels_by (begun_unit channels rate [] u) ≡ channels
begun-frames channels rate (Buffer size ring source sink) is = refl
begun-frames channels rate u is = cc

-- and one of a volume has the ramp of the rate that it begins with
begun-ramp : (channels rate : ℕ) (words : List ℤ) (u : units.Unit) → ramp_frames_by (begun_unit channels rate words u) ≡ ramp_frames (ramp_by (begun_unit channels rate words u)) rate
begun-ramp channels rate words (Volume gains ramp from done over piece) = refl
begun-ramp channels rate words (Eq eq next remaining) = no-ramp rate
begun-ramp channels rate words (Buffer size ring source sink) = no-ramp rate
begun-ramp channels rate words (Host capture phase params piece) = no-ramp rate
begun-ramp channels rate words (Dai capture format piece) = no-ramp rate
begun-ramp channels rate words (Mixer piece) = no-ramp rate
begun-ramp channels rate words (Mux choice piece) = no-ramp rate
begun-ramp channels rate words (Demux masks piece) = no-ramp rate
begun-ramp channels rate words (Pipeline sched period complete piece) = no-ramp rate

ended-frames : (u : units.Unit) → channels_by (ended_unit u) ≡ channels_by u
ended-frames (Buffer size ring source sink) = refl
ended-frames u = refl

settled-frames : (w : View) (c : Component) → frames (settled_in w c) ≡ frames c
settled-frames w c = by (flows w c.id)
  where
    by : (h : Bool) → frames (cond h c (record { id = c.id; pipe = c.pipe; channels = c.channels; unit = ended_unit c.unit })) ≡ frames c
    by true = refl
    by false = ended-frames c.unit

settled-id : (w : View) (c : Component) → (settled_in w c).id ≡ c.id
settled-id w c = by (flows w c.id)
  where
    by : (h : Bool) → (cond {A = Component} h c (record { id = c.id; pipe = c.pipe; channels = c.channels; unit = ended_unit c.unit })).id ≡ c.id
    by true = refl
    by false = refl

module _ (t u : Tables) (r : RegionState) (what : Trigger) (host : ℕ) (held : IsPieceHeld t r) (after : FirmwareInvariant (state_in u r 0)) (own : tables.IsKept t) where
  pub triggered-shapes : IsTriggered what host t u → triggered what (state_in t r 0) host ≡ Ok (state_in u r 0) → HasShapes u
  triggered-shapes done row = record {
    comps = each (map to t.comps) u.comps (fits-map (view_by t) moves to (set-id host phase params) (set-moves host phase params) t.comps held.shapes.comps) among done.comps;
    buffers = in-each (Fits (view_by u) frames) u.buffers (λ d there on.
        let from = in-map (λ c. settled_in (view_by u) (begun_in (view_by t) (view_by u) c)) t.buffers d (subst (λ (ds : List Component). IsIn d ds) done.buffers there) in
        let x = begun_in (view_by t) (view_by u) from.0 in
        let id = ap (λ (x : Component). x.id) from.2 ∙ settled-id (view_by u) x ∙ begun-id from.0 in
        ap frames from.2 ∙ settled-frames (view_by u) x ∙ buffer from.0 from.1 (ap (live (view_by u)) (sym id) ∙ on) ∙ ap (channels_of (view_by u)) (sym id));
    ramps = each-ramp (map to t.comps) u.comps (ramps-map (view_by t) to (set-id host phase params) (set-lengths host phase params) t.comps held.shapes.ramps) among done.comps;
  }
    where
      phase : Phase
      phase = phase_after what

      params : Option Params
      params = params_after what (params_of (view_by t) host)

      to : Component → Component
      to = set_at host phase params

      change : (k : StreamView → StreamView) × IsChange (state_in t r 0) (state_in u r 0) k
      change = triggered-change what host (state_in t r 0) (state_in u r 0) (held.kept 0) row

      still : (size : Component → ℕ) (c : Component) → is_among (components (graph_of t) ++ buffers (graph_of t)) c.id ≡ true → Fits (view_by t) size c → live (view_by t) c.id ≡ true → live (view_by u) c.id ≡ true → size c ≡ channels_of (view_by u) c.id
      still size c there fits was now = still-fits t u r held after change.0 change.1 size c there fits was now

      -- what is Live and does not begin was Live
      stayed : (a b : Bool) → a ≡ true → (a && not b) ≡ false → b ≡ true
      stayed true true is e = refl
      stayed true false is e = absurd (true≢false e)
      stayed false b is e = absurd (false≢true is)

      among : (c : Component) → IsIn c (map to t.comps) → is_among (components (graph_of t) ++ buffers (graph_of t)) c.id ≡ true
      among c there = let from = in-map to t.comps c there in ap (is_among (components (graph_of t) ++ buffers (graph_of t))) (ap (λ (x : Component). x.id) from.2 ∙ set-id host phase params from.0) ∙ comp-among t from.0 from.1

      one : (c d : Component) (h : Bool) → begins (view_by t) (view_by u) c.id ≡ h → IsBegun (channels_of (view_by u) c.id) (rate_of (view_by u) c.id) h c d → is_among (components (graph_of t) ++ buffers (graph_of t)) c.id ≡ true → Fits (view_by t) moves c → Fits (view_by u) moves d
      one c d true e is there fits on = ap (λ (x : Component). x.channels) is.0 ∙ ap (channels_of (view_by u)) (sym (ap (λ (x : Component). x.id) is.0))
      one c d false e is there fits on =
          let id = ap (λ (x : Component). x.id) is in
          let now : live (view_by u) c.id ≡ true = ap (live (view_by u)) (sym id) ∙ on in
          ap moves is ∙ still moves c there fits (stayed (live (view_by u) c.id) (live (view_by t) c.id) now e) now ∙ ap (channels_of (view_by u)) (sym id)

      each : (cs ds : List Component) → AllByRecursion (Fits (view_by t) moves) cs → ((c : Component) → IsIn c cs → is_among (components (graph_of t) ++ buffers (graph_of t)) c.id ≡ true) → BecomeEach (λ c d. IsBegun (channels_of (view_by u) c.id) (rate_of (view_by u) c.id) (begins (view_by t) (view_by u) c.id) c d) cs ds → AllByRecursion (Fits (view_by u) moves) ds
      each [] [] fits there become = tt
      each [] (d ∷ ds) fits there become = absurd become
      each (c ∷ cs) [] fits there become = absurd become
      each (c ∷ cs) (d ∷ ds) fits there become = (one c d (begins (view_by t) (view_by u) c.id) refl become.0 (there c (inl refl)) fits.0, each cs ds fits.1 (λ x in_x. there x (inr in_x)) become.1)

      one-ramp : (c d : Component) (h : Bool) → begins (view_by t) (view_by u) c.id ≡ h → IsBegun (channels_of (view_by u) c.id) (rate_of (view_by u) c.id) h c d → is_among (components (graph_of t) ++ buffers (graph_of t)) c.id ≡ true → HasRamp (view_by t) c → HasRamp (view_by u) d
      one-ramp c d true e is there fits on =
          ap (λ (x : Component). ramp_frames_by x.unit) is.0 ∙ begun-ramp (channels_of (view_by u) c.id) (rate_of (view_by u) c.id) (kept_words d) c.unit
          ∙ (λ i. ramp_frames (ramp_by (sym is.0 i).unit) (rate_of (view_by u) (sym is.0 i).id))
      one-ramp c d false e is there fits on =
          let id = ap (λ (x : Component). x.id) is in
          let now : live (view_by u) c.id ≡ true = ap (live (view_by u)) (sym id) ∙ on in
          ap (λ (x : Component). ramp_frames_by x.unit) is
          ∙ still-ramp t u r held after change.0 change.1 c there fits (stayed (live (view_by u) c.id) (live (view_by t) c.id) now e) now
          ∙ (λ i. ramp_frames (ramp_by (sym is i).unit) (rate_of (view_by u) (sym is i).id))

      each-ramp : (cs ds : List Component) → AllByRecursion (HasRamp (view_by t)) cs → ((c : Component) → IsIn c cs → is_among (components (graph_of t) ++ buffers (graph_of t)) c.id ≡ true) → BecomeEach (λ c d. IsBegun (channels_of (view_by u) c.id) (rate_of (view_by u) c.id) (begins (view_by t) (view_by u) c.id) c d) cs ds → AllByRecursion (HasRamp (view_by u)) ds
      each-ramp [] [] fits there become = tt
      each-ramp [] (d ∷ ds) fits there become = absurd become
      each-ramp (c ∷ cs) [] fits there become = absurd become
      each-ramp (c ∷ cs) (d ∷ ds) fits there become = (one-ramp c d (begins (view_by t) (view_by u) c.id) refl become.0 (there c (inl refl)) fits.0, each-ramp cs ds fits.1 (λ x in_x. there x (inr in_x)) become.1)

      begun-id : (c : Component) → (begun_in (view_by t) (view_by u) c).id ≡ c.id
      begun-id c = by (begins (view_by t) (view_by u) c.id)
        where
          by : (h : Bool) → (cond {A = Component} h (begun_by (channels_of (view_by u) c.id) (rate_of (view_by u) c.id) [] c) c).id ≡ c.id
          by true = refl
          by false = refl

      buffer : (c : Component) → IsIn c t.buffers → live (view_by u) c.id ≡ true → frames (begun_in (view_by t) (view_by u) c) ≡ channels_of (view_by u) c.id
      buffer c there now = by (begins (view_by t) (view_by u) c.id) refl
        where
          by : (h : Bool) → begins (view_by t) (view_by u) c.id ≡ h → frames (cond h (begun_by (channels_of (view_by u) c.id) (rate_of (view_by u) c.id) [] c) c) ≡ channels_of (view_by u) c.id
          by true e = begun-frames (channels_of (view_by u) c.id) (rate_of (view_by u) c.id) c.unit (in-all (λ (x : Component). tables.IsBuffering x.unit) t.buffers c own.buffering there).0
          by false e = still frames c (buffer-among t c there) (in-all (Fits (view_by t) frames) t.buffers c held.shapes.buffers there) (stayed (live (view_by u) c.id) (live (view_by t) c.id) now e) now
