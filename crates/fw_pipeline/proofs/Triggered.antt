-- What a trigger leaves of the tables of a registry.
use Rattle.std.proofs.Common.{◌≡◌, refl, sym, ap, ◌∙◌, subst, ℕ, List, [], ◌∷◌, ◌++◌, Bool, true, false, cond, not, map, ◌==◌, ◌&&◌, ◌||◌, inl, inr, Option, Some, ℤ}
use Rattle.std.specs.Prelude.{find, option_and_then}
use Rattle.std.specs.Option.{option_map_or}
use Rattle.std.specs.List.{list_any}
use Rattle.std.proofs.lemmas.Bool.{true≢false, false≢true, and_parts, and_from}
use Rattle.sof_base.specs.declared.format.Params.{Params}
use Rattle.stream_law.specs.declared.graph.Comp.{Comp}
use Rattle.stream_law.specs.declared.graph.Edge.{Edge}
use Rattle.stream_law.specs.declared.graph.Graph.{Graph}
use Rattle.stream_law.specs.declared.stream.StreamView.{StreamView}
use Rattle.stream_law.specs.State.{View}
use Rattle.stream_law.specs.Seen.{flows}
use Rattle.stream_law.specs.Ways.{live, live_params, on_way, is_live_phase, rate_of, channels_of, components, buffers}
use Rattle.stream_law.proofs.Members.{IsIn, in-all, in-any}
use Rattle.mbox_link.specs.Step.{set_stream}
use Rattle.fw_units.specs.declared.component.Component.{Component}
use Rattle.fw_units.specs.declared.component.Unit as units
use Rattle.fw_units.specs.declared.component.Unit.TheVariants.{Buffer}
use Rattle.fw_units.specs.Units.{streams_by, comp_by, edge_by, pipe_by, is_buffer}
use Rattle.fw_components.specs.Tables.{Tables, view_by, graph_of, streams_of}
use Rattle.fw_units.specs.Changes.{set_at, ended_unit}
use Rattle.fw_components.specs.Kept.{IsKept, IsBuffering}
use Rattle.fw_units.specs.Frames.{begun_by, kept_words}
use Rattle.fw_components.specs.Tables.{ids_of}
use Rattle.fw_pipeline.specs.declared.phases.Trigger.{Trigger}
use Rattle.fw_pipeline.specs.declared.phases.Trigger.TheVariants.{Start, Stop, Pause, Release, Free}
use Rattle.fw_pipeline.specs.Triggers.{phase_after, params_after, params_of, begins, begun_in, settled_in, IsBegun, BecomeEach, IsTriggered}
use Rattle.fw_pipeline.proofs.Begins.{become-other, become-is, become-read}
use Rattle.fw_pipeline.proofs.Faces.{face, face-begun, face-ended, faces-set, comps-same, edges-same, streams-begun}

-- ---- streams that are Live

found-there : (p : StreamView → Bool) (ss : List StreamView) → list_any p ss ≡ true → (s : StreamView) × ((find p ss ≡ Some s) × (IsIn s ss × (p s ≡ true)))
found-there p [] e = absurd (false≢true e)
found-there p (s ∷ ss) e = by (p s) refl e (found-there p ss)
  where
    by : (h : Bool) → p s ≡ h → list_any p (s ∷ ss) ≡ true → (list_any p ss ≡ true → (r : StreamView) × ((find p ss ≡ Some r) × (IsIn r ss × (p r ≡ true)))) → (r : StreamView) × ((find p (s ∷ ss) ≡ Some r) × (IsIn r (s ∷ ss) × (p r ≡ true)))
    by true is e rest = (s, (ap (λ h. let o : Option StreamView = cond h (Some s) (find p ss) in o) is, (inl refl, is)))
    by false is e rest =
        let r = rest (ap (λ h. h || list_any p ss) (sym is) ∙ e) in
        (r.0, (ap (λ h. let o : Option StreamView = cond h (Some s) (find p ss) in o) is ∙ r.1.0, (inr r.1.1.0, r.1.1.1)))

in-map : (f : StreamView → StreamView) (ss : List StreamView) (r : StreamView) → IsIn r (map f ss) → (s : StreamView) × (IsIn s ss × (r ≡ f s))
in-map f [] r there = absurd there
in-map f (s ∷ ss) r (inl same) = (s, (inl refl, same))
in-map f (s ∷ ss) r (inr more) = let x = in-map f ss r more in (x.0, (inr x.1.0, x.1.1))

-- a stream that is Live keeps its parameters
live-params : (what : Trigger) (p : Params) → is_live_phase (phase_after what) ≡ true → params_after what (Some p) ≡ Some p
live-params Start p e = refl
live-params Stop p e = refl
live-params Pause p e = refl
live-params Release p e = refl
live-params Free p e = absurd (false≢true e)

module _ (what : Trigger) (host : ℕ) (p : Params) (g : Graph) (ss : List StreamView) where
  abbrev old : View
  old = record { graph = g; streams = ss }

  abbrev set : StreamView → StreamView
  set = set_stream host (phase_after what) (params_after what (Some p))

  abbrev pub new : View
  new = record { graph = g; streams = map set ss }

  -- what becomes Live is on the way of this host's stream alone
  pub begins-with : (x : ℕ) → begins old new x ≡ true → (channels_of new x ≡ p.channels) × (rate_of new x ≡ p.rate)
  unfolding live rate_of channels_of
  begins-with x e =
      let both = and_parts (live new x) (not (live old x)) e in
      let r = found-there (λ s. is_live_phase s.phase && on_way g s.host x) (map set ss) both.0 in
      let s = in-map set ss r.0 r.1.1.0 in
      let given : live_params new x ≡ Some p =
      ap (λ (o : Option StreamView). option_and_then (λ (s : StreamView). s.params) o) r.1.0
      ∙ by s.0 s.1.0 r.0 s.1.1 (and_parts (is_live_phase r.0.phase) (on_way g r.0.host x) r.1.1.1) both.1 (s.0.host == host) refl in (
        ap (λ (o : Option Params). option_map_or (λ (p : Params). p.channels) o 0) given,
        ap (λ (o : Option Params). option_map_or (λ (p : Params). p.rate) o 0) given,
      )
    where
      by : (s : StreamView) → IsIn s ss → (r : StreamView) → r ≡ set s → (is_live_phase r.phase ≡ true) × (on_way g r.host x ≡ true) → not (live old x) ≡ true → (h : Bool) → (s.host == host) ≡ h → r.params ≡ Some p
      by s there r is passes gone true same =
          let now : r ≡ record { host = s.host; phase = phase_after what; params = params_after what (Some p) } = is ∙ ap (λ h. let q : StreamView = cond h (record { host = s.host; phase = phase_after what; params = params_after what (Some p) }) s in q) same in
          ap (λ (q : StreamView). q.params) now ∙ live-params what p (sym (ap (λ (q : StreamView). is_live_phase q.phase) now) ∙ passes.0)
      by s there r is passes gone false other =
          let now : r ≡ s = is ∙ ap (λ h. let q : StreamView = cond h (record { host = s.host; phase = phase_after what; params = params_after what (Some p) }) s in q) other in
          let was : live old x ≡ true = in-any (λ s. is_live_phase s.phase && on_way g s.host x) ss s there (and_from (is_live_phase s.phase) (on_way g s.host x) (sym (ap (λ (q : StreamView). is_live_phase q.phase) now) ∙ passes.0) (sym (ap (λ (q : StreamView). on_way g q.host x) now) ∙ passes.1)) in
          absurd (true≢false (sym gone ∙ ap not was))

-- ---- a buffer that begins

begun-buffer : (channels rate : ℕ) (words : List ℤ) (c : Component) → is_buffer c.unit ≡ true → begun_by channels rate words c ≡ begun_by channels rate [] c
begun-buffer channels rate words c buffer = by c.unit buffer
  where
    by : (u : units.Unit) → is_buffer u ≡ true → begun_by channels rate words (record { id = c.id; pipe = c.pipe; channels = c.channels; unit = u }) ≡ begun_by channels rate [] (record { id = c.id; pipe = c.pipe; channels = c.channels; unit = u })
    by (Buffer size ring source sink) e = refl
    by u e = absurd (false≢true e)

map-twice : (f g h : Component → Component) (cs : List Component) → ((c : Component) → f (g c) ≡ h c) → map f (map g cs) ≡ map h cs
map-twice f g h [] same = refl
map-twice f g h (c ∷ cs) same = ap (λ (p : Component × List Component). p.0 ∷ p.1) (λ i. (same c i, map-twice f g h cs same i))

map-read : {Y : Type 0} (f : Component → Y) (g : Component → Component) (cs : List Component) → ((c : Component) → f (g c) ≡ f c) → map f (map g cs) ≡ map f cs
map-read f g [] same = refl
map-read {Y} f g (c ∷ cs) same = ap (λ (p : Y × List Y). p.0 ∷ p.1) (λ i. (same c i, map-read f g cs same i))

pub face-settled : (v : View) (c : Component) → face (settled_in v c) ≡ face c
face-settled v c = by (flows v c.id)
  where
    by : (h : Bool) → face (cond h c (record { id = c.id; pipe = c.pipe; channels = c.channels; unit = ended_unit c.unit })) ≡ face c
    by true = refl
    by false = face-ended c

-- ---- all of it

module _ (channels rate : ℕ) (test : Component → Bool) (t u : Tables) (comps : BecomeEach (λ c d. IsBegun channels rate (test c) c d) t.comps u.comps) (buffers : BecomeEach (λ c d. IsBegun channels rate (test c) c d) t.buffers u.buffers) (pipes : u.pipes ≡ t.pipes) (joins : u.joins ≡ t.joins) where
  abbrev Begins : Component → Component → Type 0
  Begins c d = IsBegun channels rate (test c) c d

  -- what begins is seen as it was
  pub seen-begun : view_by u ≡ view_by t
  seen-begun = ap (λ (q : (List Comp × List Edge) × (Tables × List StreamView)). let v : View = record { graph = record { comps = q.0.0; edges = q.0.1; pipes = map pipe_by q.1.0.pipes; joins = q.1.0.joins }; streams = q.1.1 } in v) (λ i. (
    (
      comps-same t.comps u.comps (become-read Begins face t.comps u.comps (λ c d. face-begun channels rate (test c) c d) comps) i,
      edges-same t.buffers u.buffers (become-read Begins face t.buffers u.buffers (λ c d. face-begun channels rate (test c) c d) buffers) i,
    ),
    (record { comps = t.comps; buffers = t.buffers; pipes = pipes i; joins = joins i }, streams-begun channels rate test t.comps u.comps comps i),
  ))

module _ (what : Trigger) (host : ℕ) (p : Params) (t t1 : Tables) (set : t1 ≡ record { comps = map (set_at host (phase_after what) (params_after what (Some p))) t.comps; buffers = t.buffers; pipes = t.pipes; joins = t.joins })
    (streams : streams_by (map (set_at host (phase_after what) (params_after what (Some p))) t.comps) ≡ map (set_stream host (phase_after what) (params_after what (Some p))) (streams_by t.comps)) where
  -- the host has its phase and its parameters
  pub seen-set : view_by t1 ≡ new what host p (graph_of t) (streams_of t)
  seen-set = ap view_by set ∙ ap (λ (q : List Comp × List StreamView). let v : View = record { graph = record { comps = q.0; edges = map edge_by t.buffers; pipes = map pipe_by t.pipes; joins = t.joins }; streams = q.1 } in v) (λ i. (
    comps-same t.comps (map (set_at host (phase_after what) (params_after what (Some p))) t.comps) (faces-set host (phase_after what) (params_after what (Some p)) t.comps) i,
    streams i,
  ))

  pub ids-set : ids_of t1 ≡ ids_of t
  ids-set = ap (λ (v : View). components v.graph ++ buffers v.graph) seen-set

module _ (what : Trigger) (host : ℕ) (p : Params) (t t1 t2 t3 : Tables) (kept : IsKept t)
    (given : Some p ≡ params_of (view_by t) host)
    (set : t1 ≡ record { comps = map (set_at host (phase_after what) (params_after what (Some p))) t.comps; buffers = t.buffers; pipes = t.pipes; joins = t.joins })
    (seen : view_by t1 ≡ new what host p (graph_of t) (streams_of t))
    (test : ℕ → Bool) (tests : (x : ℕ) → test x ≡ begins (view_by t) (view_by t1) x)
    (comps : BecomeEach (λ c d. IsBegun p.channels p.rate (test c.id) c d) t1.comps t2.comps)
    (buffers : BecomeEach (λ c d. IsBegun p.channels p.rate (test c.id) c d) t1.buffers t2.buffers)
    (pipes : t2.pipes ≡ t1.pipes) (joins : t2.joins ≡ t1.joins)
    (ended : t3 ≡ record { comps = t2.comps; buffers = map (settled_in (view_by t2)) t2.buffers; pipes = t2.pipes; joins = t2.joins }) where
  abbrev IsFace : (ℕ → Bool) → Component → Component → Type 0
  IsFace test c d = IsBegun p.channels p.rate (test c.id) c d

  seen-begun2 : view_by t2 ≡ view_by t1
  seen-begun2 = seen-begun p.channels p.rate (λ c. test c.id) t1 t2 comps buffers pipes joins

  -- and so is what ends
  pub seen-ended : view_by t3 ≡ view_by t2
  seen-ended = ap view_by ended ∙ ap (λ (es : List Edge). let v : View = record { graph = record { comps = map comp_by t2.comps; edges = es; pipes = map pipe_by t2.pipes; joins = t2.joins }; streams = streams_of t2 } in v)
      (edges-same t2.buffers (map (settled_in (view_by t2)) t2.buffers) (map-read face (settled_in (view_by t2)) t2.buffers (face-settled (view_by t2))))

  pub seen-last : view_by t3 ≡ new what host p (graph_of t) (streams_of t)
  seen-last = seen-ended ∙ seen-begun2 ∙ seen

  -- what begins has the channels and the rate of its stream
  begins-right : (x : ℕ) → test x ≡ begins (view_by t) (view_by t3) x
  begins-right x = tests x ∙ ap (λ (w : View). begins (view_by t) w x) (sym (seen-ended ∙ seen-begun2))

  channels-right : (x : ℕ) → begins (view_by t) (view_by t3) x ≡ true → p.channels ≡ channels_of (view_by t3) x
  channels-right x e = sym (ap (λ (w : View). channels_of w x) seen-last ∙ (begins-with what host p (graph_of t) (streams_of t) x (ap (λ (w : View). begins (view_by t) w x) (sym seen-last) ∙ e)).0)

  rate-right : (x : ℕ) → begins (view_by t) (view_by t3) x ≡ true → p.rate ≡ rate_of (view_by t3) x
  rate-right x e = sym (ap (λ (w : View). rate_of w x) seen-last ∙ (begins-with what host p (graph_of t) (streams_of t) x (ap (λ (w : View). begins (view_by t) w x) (sym seen-last) ∙ e)).1)

  begun-right : (c d : Component) → IsBegun p.channels p.rate (test c.id) c d → IsBegun (channels_of (view_by t3) c.id) (rate_of (view_by t3) c.id) (begins (view_by t) (view_by t3) c.id) c d
  begun-right c d is = by (begins (view_by t) (view_by t3) c.id) refl (subst (λ h. IsBegun p.channels p.rate h c d) (begins-right c.id) is)
    where
      by : (h : Bool) → begins (view_by t) (view_by t3) c.id ≡ h → IsBegun p.channels p.rate h c d → IsBegun (channels_of (view_by t3) c.id) (rate_of (view_by t3) c.id) h c d
      by true e is = subst (λ (q : ℕ × ℕ). IsBegun q.0 q.1 true c d) (λ i. (channels-right c.id e i, rate-right c.id e i)) is
      by false e is = is

  begun-buffers : t2.buffers ≡ map (begun_in (view_by t) (view_by t3)) t.buffers
  begun-buffers = become-is (IsFace test) (begun_in (view_by t) (view_by t3)) t.buffers t2.buffers (λ c d there is. by c d (in-all (λ (c : Component). IsBuffering c.unit) t.buffers c kept.buffering there).0 (begins (view_by t) (view_by t3) c.id) (begun-right c d is)) (subst (λ (u : Tables). BecomeEach (IsFace test) u.buffers t2.buffers) set buffers)
    where
      by : (c d : Component) → is_buffer c.unit ≡ true → (h : Bool) → IsBegun (channels_of (view_by t3) c.id) (rate_of (view_by t3) c.id) h c d → d ≡ cond h (begun_by (channels_of (view_by t3) c.id) (rate_of (view_by t3) c.id) [] c) c
      by c d buffer true is = is.0 ∙ begun-buffer (channels_of (view_by t3) c.id) (rate_of (view_by t3) c.id) (kept_words d) c buffer
      by c d buffer false is = is

  pub is-triggered : IsTriggered what host t t3
  is-triggered = record {
    comps = subst (λ (q : List Component × List Component). BecomeEach (λ c d. IsBegun (channels_of (view_by t3) c.id) (rate_of (view_by t3) c.id) (begins (view_by t) (view_by t3) c.id) c d) q.0 q.1) (λ i. (
      (ap (λ (u : Tables). u.comps) set ∙ ap (λ (o : Option Params). map (set_at host (phase_after what) (params_after what o)) t.comps) given) i,
      sym (ap (λ (u : Tables). u.comps) ended) i,
    ))
        (become-other (IsFace test) (λ c d. IsBegun (channels_of (view_by t3) c.id) (rate_of (view_by t3) c.id) (begins (view_by t) (view_by t3) c.id) c d) t1.comps t2.comps (λ c d there is. begun-right c d is) comps);
    buffers =
        ap (λ (u : Tables). u.buffers) ended
        ∙ ap (λ (q : View × List Component). map (settled_in q.0) q.1) (λ i. (sym seen-ended i, begun-buffers i))
        ∙ map-twice (settled_in (view_by t3)) (begun_in (view_by t) (view_by t3)) (λ c. settled_in (view_by t3) (begun_in (view_by t) (view_by t3) c)) t.buffers (λ c. refl);
    pipes = ap (λ (u : Tables). u.pipes) ended ∙ pipes ∙ ap (λ (u : Tables). u.pipes) set;
    joins = ap (λ (u : Tables). u.joins) ended ∙ joins ∙ ap (λ (u : Tables). u.joins) set;
  }
