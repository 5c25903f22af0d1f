-- What of tables stays when frames move, and what is read of it.
use Rattle.std.proofs.Common.{◌≡◌, refl, sym, ap, ◌∙◌, subst, ℕ, List, [], ◌∷◌, ◌++◌, map, drop, Bool, true, false, cond, ◌==◌, ◌||◌, Some, ℤ}
use Rattle.std.proofs.lemmas.Bool.{eqb-true, false≢true}
use Rattle.std.specs.Prelude.{find}
use Rattle.std.specs.List.{AllByRecursion}
use Rattle.std.specs.Option.{option_map_or}
use Rattle.sof_base.specs.Samples.{Frame}
use Rattle.sof_base.specs.Ramps.{ramp_frames}
use Rattle.fw_heap.specs.declared.run.Home.{Home}
use Rattle.stream_law.specs.declared.stream.StreamView.{StreamView}
use Rattle.stream_law.specs.State.{RingView, View}
use Rattle.stream_law.specs.Table.{list_of}
use Rattle.stream_law.specs.Order.{is_among}
use Rattle.stream_law.specs.Placed.{placed}
use Rattle.stream_law.specs.Ways.{live, rate_of, channels_of}
use Rattle.stream_law.specs.Seen.{flows}
use Rattle.stream_law.specs.Move.{Audio}
use Rattle.row_laws.specs.Wired.{IsWired, HasJoinedSides}
use Rattle.row_laws.specs.Played.{AreStreamsPlayable}
use Rattle.fw_units.specs.declared.component.Unit as units
use Rattle.fw_units.specs.declared.component.Unit.TheVariants.{Volume, Buffer}
use Rattle.fw_units.specs.declared.component.Component.{Component}
use Rattle.fw_units.specs.Units.{piece_of, comp_by, edge_by, kind_by, setting_by, ramp_by, streams_by, with_stream_by, ring_by, unit_frames, piece_by, pieces_by}
use Rattle.fw_components.specs.Tables.{Tables, graph_of, view_by, streams_of, rings_of, held_frames, carved_pieces}
use Rattle.fw_units.specs.Changes.{has_id, IsOfHome}
use Rattle.fw_components.specs.Kept.{IsKept, IsBuffering}
use Rattle.fw_units.specs.Frames.{channels_by, taken_unit, taken_at, pushed_unit, pushed_at}
use Rattle.fw_components.specs.Frames.{with_taken, pushed, with_frames}
use Rattle.fw_moves.specs.Processed.{fed_at, drained_at, run_unit, run_at}
use Rattle.fw_components.specs.Processed.{processed, ramp_frames_by}
use Rattle.fw_components.specs.States.{AreOf}
use Rattle.fw_schedule.specs.Ticks.{CanTick}
use Rattle.fw_schedule.specs.Stages.{bare_unit, bare_by, bare_of, heard_ring}
use Rattle.fw_units.proofs.Units.{taken-frames, pushed-frames}

map-same : {Y : Type 0} (view : Component → Y) (change : Component → Component) → ((c : Component) → view (change c) ≡ view c) → (cs : List Component) → map view (map change cs) ≡ map view cs
map-same view change same [] = refl
map-same view change same (c ∷ cs) = λ i. same c i ∷ map-same view change same cs i

-- ---- what changes of a unit is what is bare of it

taken-bare : (n : ℕ) (u : units.Unit) → bare_unit (taken_unit n u) ≡ bare_unit u
taken-bare n (Buffer size ring source sink) = refl
taken-bare n (Volume gains ramp from done frames piece) = refl
taken-bare n u = refl

pushed-bare : (fs : List Frame) (w : List ℤ) (u : units.Unit) → bare_unit (pushed_unit fs w u) ≡ bare_unit u
pushed-bare fs w (Buffer size ring source sink) = refl
pushed-bare fs w (Volume gains ramp from done frames piece) = refl
pushed-bare fs w u = refl

run-bare : (w : List ℤ) (n : ℕ) (u : units.Unit) → bare_unit (run_unit w n u) ≡ bare_unit u
run-bare w n (Buffer size ring source sink) = refl
run-bare w n (Volume gains ramp from done frames piece) = refl
run-bare w n u = refl

-- a component whose unit changes where a test holds
where-bare : (f : units.Unit → units.Unit) → ((u : units.Unit) → bare_unit (f u) ≡ bare_unit u) → (h : Bool) (c : Component) → bare_by (cond h (record { id = c.id; pipe = c.pipe; channels = c.channels; unit = f c.unit }) c) ≡ bare_by c
where-bare f same true c = ap (λ u. record { id = c.id; pipe = c.pipe; channels = c.channels; unit = u }) (same c.unit)
where-bare f same false c = refl

bare-changed : (t : Tables) (comps buffers : List Component) → map bare_by comps ≡ map bare_by t.comps → map bare_by buffers ≡ map bare_by t.buffers → bare_of (record { comps = comps; buffers = buffers; pipes = t.pipes; joins = t.joins }) ≡ bare_of t
bare-changed t comps buffers cs bs = λ i. record { comps = cs i; buffers = bs i; pipes = t.pipes; joins = t.joins }

pub bare-taken : (b n : ℕ) (t : Tables) → bare_of (with_taken b n t) ≡ bare_of t
bare-taken b n t = bare-changed t t.comps (map (taken_at b n) t.buffers) refl (map-same bare_by (taken_at b n) (λ c. where-bare (taken_unit n) (taken-bare n) (c.id == b) c) t.buffers)

pub bare-pushed : (b : ℕ) (fs : List Frame) (w : List ℤ) (t : Tables) → bare_of (pushed b fs w t) ≡ bare_of t
bare-pushed b fs w t = bare-changed t t.comps (map (pushed_at b fs w) t.buffers) refl (map-same bare_by (pushed_at b fs w) (λ c. where-bare (pushed_unit fs w) (pushed-bare fs w) (c.id == b) c) t.buffers)

pub bare-processed : (id n : ℕ) (looked fed : List ℕ) (fs : ℕ → List Frame) (v : ℕ → List ℤ) (w : List ℤ) (t : Tables) → bare_of (processed id looked n fed fs v w t) ≡ bare_of t
bare-processed id n looked fed fs v w t =
    bare-changed t (map (run_at id w n) t.comps) (map (fed_at fed fs v) (map (drained_at looked n) t.buffers))
    (map-same bare_by (run_at id w n) (λ c. where-bare (run_unit w n) (run-bare w n) (c.id == id) c) t.comps)
    (map-same bare_by (fed_at fed fs v) (λ c. where-bare (pushed_unit (fs c.id) (v c.id)) (pushed-bare (fs c.id) (v c.id)) (is_among fed c.id) c) (map (drained_at looked n) t.buffers)
    ∙ map-same bare_by (drained_at looked n) (λ c. where-bare (taken_unit n) (taken-bare n) (is_among looked c.id) c) t.buffers)

-- ---- what is read of what is bare

ramp-bare : (u : units.Unit) → ramp_by (bare_unit u) ≡ ramp_by u
ramp-bare (Buffer size ring source sink) = refl
ramp-bare (Volume gains ramp from done frames piece) = refl
ramp-bare u = refl

bare-comp : (c : Component) → comp_by (bare_by c) ≡ comp_by c
bare-comp c = λ i. record { id = c.id; kind = kind c.unit i; pipe = c.pipe; setting = setting c.unit i; ramp = ramp-bare c.unit i }
  where
    kind : (u : units.Unit) → kind_by (bare_unit u) ≡ kind_by u
    kind (Buffer size ring source sink) = refl
    kind (Volume gains ramp from done frames piece) = refl
    kind u = refl

    setting : (u : units.Unit) → setting_by (bare_unit u) ≡ setting_by u
    setting (Buffer size ring source sink) = refl
    setting (Volume gains ramp from done frames piece) = refl
    setting u = refl

bare-edge : (c : Component) → edge_by (bare_by c) ≡ edge_by c
bare-edge c = by c.unit
  where
    by : (u : units.Unit) → edge_by (record { id = c.id; pipe = c.pipe; channels = c.channels; unit = bare_unit u }) ≡ edge_by (record { id = c.id; pipe = c.pipe; channels = c.channels; unit = u })
    by (Buffer size ring source sink) = refl
    by (Volume gains ramp from done frames piece) = refl
    by u = refl

graph-bare : (t : Tables) → graph_of (bare_of t) ≡ graph_of t
graph-bare t = λ i. record { comps = map-same comp_by bare_by bare-comp t.comps i; edges = map-same edge_by bare_by bare-edge t.buffers i; pipes = (graph_of t).pipes; joins = t.joins }

bare-stream : (id : ℕ) (u : units.Unit) (ss : List StreamView) → with_stream_by id (bare_unit u) ss ≡ with_stream_by id u ss
bare-stream id (Buffer size ring source sink) ss = refl
bare-stream id (Volume gains ramp from done frames piece) ss = refl
bare-stream id u ss = refl

streams-bare : (cs : List Component) → streams_by (map bare_by cs) ≡ streams_by cs
streams-bare [] = refl
streams-bare (c ∷ cs) = bare-stream c.id c.unit (streams_by (map bare_by cs)) ∙ ap (with_stream_by c.id c.unit) (streams-bare cs)

pub graph-still : (t u : Tables) → bare_of t ≡ bare_of u → graph_of t ≡ graph_of u
graph-still t u same = sym (graph-bare t) ∙ ap graph_of same ∙ graph-bare u

pub streams-still : (t u : Tables) → bare_of t ≡ bare_of u → streams_of t ≡ streams_of u
streams-still t u same = sym (streams-bare t.comps) ∙ ap (λ (t : Tables). streams_by t.comps) same ∙ streams-bare u.comps

pub view-still : (t u : Tables) → bare_of t ≡ bare_of u → view_by t ≡ view_by u
view-still t u same = λ i. record { graph = graph-still t u same i; streams = streams-still t u same i }

-- ---- pieces

bare-piece : (c : Component) → piece_by (bare_by c) ≡ piece_by c
bare-piece c = by c.unit
  where
    by : (u : units.Unit) → piece_by (record { id = c.id; pipe = c.pipe; channels = c.channels; unit = bare_unit u }) ≡ piece_by (record { id = c.id; pipe = c.pipe; channels = c.channels; unit = u })
    by (Buffer size ring source sink) = refl
    by (Volume gains ramp from done frames piece) = refl
    by u = refl

pieces-front : (cs ds es : List Component) → pieces_by ds ≡ pieces_by es → pieces_by (map bare_by cs ++ ds) ≡ pieces_by (cs ++ es)
pieces-front [] ds es same = same
pieces-front (c ∷ cs) ds es same = λ i. placed (λ p. p.id) (bare-piece c i) (pieces-front cs ds es same i)

pieces-bare : (t : Tables) → carved_pieces (bare_of t) ≡ carved_pieces t
pieces-bare t = pieces-front t.comps (map bare_by t.buffers ++ t.pipes) (t.buffers ++ t.pipes) (pieces-front t.buffers t.pipes t.pipes refl)

pub pieces-still : (t u : Tables) → bare_of t ≡ bare_of u → carved_pieces t ≡ carved_pieces u
pieces-still t u same = sym (pieces-bare t) ∙ ap carved_pieces same ∙ pieces-bare u

home-bare : (u : units.Unit) → (piece_of (bare_unit u)).home ≡ (piece_of u).home
home-bare (Buffer size ring source sink) = refl
home-bare (Volume gains ramp from done frames piece) = refl
home-bare u = refl

module _ (home : Home) where
  homes-in : (cs ds es : List Component) → (AllByRecursion (IsOfHome home) ds → AllByRecursion (IsOfHome home) es) → AllByRecursion (IsOfHome home) (cs ++ ds) → AllByRecursion (IsOfHome home) (map bare_by cs ++ es)
  homes-in [] ds es rest all = rest all
  homes-in (c ∷ cs) ds es rest all = (home-bare c.unit ∙ all.0, homes-in cs ds es rest all.1)

  homes-out : (cs ds es : List Component) → (AllByRecursion (IsOfHome home) ds → AllByRecursion (IsOfHome home) es) → AllByRecursion (IsOfHome home) (map bare_by cs ++ ds) → AllByRecursion (IsOfHome home) (cs ++ es)
  homes-out [] ds es rest all = rest all
  homes-out (c ∷ cs) ds es rest all = (sym (home-bare c.unit) ∙ all.0, homes-out cs ds es rest all.1)

  pub homes-still : (t u : Tables) → bare_of t ≡ bare_of u → AreOf home t → AreOf home u
  homes-still t u same all =
      let bare : AreOf home (bare_of t) = homes-in t.comps (t.buffers ++ t.pipes) (map bare_by t.buffers ++ t.pipes) (homes-in t.buffers t.pipes t.pipes (λ rest. rest)) all in
      let moved : AreOf home (bare_of u) = subst (AreOf home) same bare in
      homes-out u.comps (map bare_by u.buffers ++ u.pipes) (u.buffers ++ u.pipes) (homes-out u.buffers u.pipes u.pipes (λ rest. rest)) moved

-- ---- when a tick can be made

channels-bare : (u : units.Unit) → channels_by (bare_unit u) ≡ channels_by u
channels-bare (Buffer size ring source sink) = refl
channels-bare (Volume gains ramp from done frames piece) = refl
channels-bare u = refl

length-bare : (u : units.Unit) → ramp_frames_by (bare_unit u) ≡ ramp_frames_by u
length-bare (Buffer size ring source sink) = refl
length-bare (Volume gains ramp from done frames piece) = refl
length-bare u = refl

module _ (v : View) where
  abbrev AreWide : List Component → Type 0
  AreWide cs = AllByRecursion (λ c. live v c.id ≡ true → c.channels ≡ channels_of v c.id) cs

  abbrev AreFramed : List Component → Type 0
  AreFramed cs = AllByRecursion (λ c. live v c.id ≡ true → channels_by c.unit ≡ channels_of v c.id) cs

  abbrev AreTied : List Component → Type 0
  AreTied cs = AllByRecursion (λ c. live v c.id ≡ true → ramp_frames_by c.unit ≡ ramp_frames (ramp_by c.unit) (rate_of v c.id)) cs

  wide-in : (cs : List Component) → AreWide cs → AreWide (map bare_by cs)
  wide-in [] all = tt
  wide-in (c ∷ cs) all = (all.0, wide-in cs all.1)

  wide-out : (cs : List Component) → AreWide (map bare_by cs) → AreWide cs
  wide-out [] all = tt
  wide-out (c ∷ cs) all = (all.0, wide-out cs all.1)

  framed-in : (cs : List Component) → AreFramed cs → AreFramed (map bare_by cs)
  framed-in [] all = tt
  framed-in (c ∷ cs) all = (λ now. channels-bare c.unit ∙ all.0 now, framed-in cs all.1)

  framed-out : (cs : List Component) → AreFramed (map bare_by cs) → AreFramed cs
  framed-out [] all = tt
  framed-out (c ∷ cs) all = (λ now. sym (channels-bare c.unit) ∙ all.0 now, framed-out cs all.1)

  tied-in : (cs : List Component) → AreTied cs → AreTied (map bare_by cs)
  tied-in [] all = tt
  tied-in (c ∷ cs) all = (λ now. length-bare c.unit ∙ all.0 now ∙ ap (λ r. ramp_frames r (rate_of v c.id)) (sym (ramp-bare c.unit)), tied-in cs all.1)

  tied-out : (cs : List Component) → AreTied (map bare_by cs) → AreTied cs
  tied-out [] all = tt
  tied-out (c ∷ cs) all = (λ now. sym (length-bare c.unit) ∙ all.0 now ∙ ap (λ r. ramp_frames r (rate_of v c.id)) (ramp-bare c.unit), tied-out cs all.1)

-- what CanTick says of a view and tables
abbrev CanBy : View → Tables → Type 0
CanBy v t = AreWide v t.comps × AreFramed v t.buffers × AreTied v t.comps

pub can-still : (t u : Tables) → bare_of t ≡ bare_of u → ((b : ℕ) → flows (view_by u) b ≡ false → held_frames u b ≡ []) → CanTick t → CanTick u
can-still t u same none can =
    let view = view-still t u same in
    let bare : CanBy (view_by t) (bare_of t) = (wide-in (view_by t) t.comps can.shapes.comps, framed-in (view_by t) t.buffers can.shapes.buffers, tied-in (view_by t) t.comps can.shapes.ramps) in
    let moved : CanBy (view_by u) (bare_of u) = subst (λ (p : View × Tables). CanBy p.0 p.1) (λ i. (view i, same i)) bare in
    record {
      wired = subst (λ (v : View). IsWired v.graph) view can.wired;
      linked = subst (λ (v : View). HasJoinedSides v.graph) view can.linked;
      played = subst AreStreamsPlayable view can.played;
      shapes = record { comps = wide-out (view_by u) u.comps moved.0; buffers = framed-out (view_by u) u.buffers moved.1; ramps = tied-out (view_by u) u.comps moved.2 };
      empty = none;
    }

-- ---- rings

-- a ring of a buffer alone has other frames
where-frames : (f : List Frame → List Frame) (g : units.Unit → units.Unit) (b : ℕ) (c : Component) → unit_frames (g c.unit) ≡ f (unit_frames c.unit) → ring_by (cond (c.id == b) (record { id = c.id; pipe = c.pipe; channels = c.channels; unit = g c.unit }) c) ≡ with_frames f b (ring_by c)
where-frames f g b c is = by (c.id == b)
  where
    by : (h : Bool) → ring_by (cond h (record { id = c.id; pipe = c.pipe; channels = c.channels; unit = g c.unit }) c) ≡ cond h (record { buffer = c.id; frames = f (unit_frames c.unit) }) (ring_by c)
    by true = ap (λ (fs : List Frame). record { buffer = c.id; frames = fs }) is
    by false = refl

pub rings-taken : (b n : ℕ) (t : Tables) → rings_of (with_taken b n t) ≡ map (with_frames (drop n) b) (rings_of t)
rings-taken b n t = all t.buffers
  where
    all : (cs : List Component) → map ring_by (map (taken_at b n) cs) ≡ map (with_frames (drop n) b) (map ring_by cs)
    all [] = refl
    all (c ∷ cs) = λ i. where-frames (drop n) (taken_unit n) b c (taken-frames n c.unit) i ∷ all cs i

pub rings-pushed : (b : ℕ) (fs : List Frame) (w : List ℤ) (t : Tables) → IsKept t → rings_of (pushed b fs w t) ≡ map (with_frames (λ own. own ++ fs) b) (rings_of t)
rings-pushed b fs w t kept = all t.buffers kept.buffering
  where
    all : (cs : List Component) → AllByRecursion (λ c. IsBuffering c.unit) cs → map ring_by (map (pushed_at b fs w) cs) ≡ map (with_frames (λ own. own ++ fs) b) (map ring_by cs)
    all [] are = refl
    all (c ∷ cs) are = λ i. where-frames (λ own. own ++ fs) (pushed_unit fs w) b c (pushed-frames fs w c.unit are.0.0) i ∷ all cs are.1 i

-- a buffer holds none where the audio has none
pub frames-none : (a : Audio) (cs : List Component) (rs : List RingView) → map ring_by cs ≡ map (heard_ring a) rs → (b : ℕ) → list_of a.rings b ≡ [] → option_map_or (λ c. unit_frames c.unit) (find (λ c. c.id == b) cs) [] ≡ []
frames-none a [] rs same b none = refl
frames-none a (c ∷ cs) [] same b none = absurd (cc same)
frames-none a (c ∷ cs) (r ∷ rs) same b none = by (c.id == b) refl (frames-none a cs rs (cc same) b none)
  where
    first : ring_by c ≡ heard_ring a r
    first = cc same

    by : (h : Bool) → (c.id == b) ≡ h → option_map_or (λ c. unit_frames c.unit) (find (λ c. c.id == b) cs) [] ≡ [] → option_map_or (λ c. unit_frames c.unit) (cond h (Some c) (find (λ c. c.id == b) cs)) [] ≡ []
    by true is rest =
        ap (λ (r : RingView). r.frames) first ∙ ap (list_of a.rings) (sym (ap (λ (r : RingView). r.buffer) first) ∙ eqb-true c.id b is) ∙ none
    by false is rest = rest

-- what a list of rings has of a buffer is what it holds
pub frames-listed : (cs : List Component) (b : ℕ) → list_of (map (λ (r : RingView). (r.buffer, r.frames)) (map ring_by cs)) b ≡ option_map_or (λ c. unit_frames c.unit) (find (λ c. c.id == b) cs) []
frames-listed [] b = refl
frames-listed (c ∷ cs) b = by (c.id == b) (frames-listed cs b)
  where
    by : (h : Bool) → list_of (map (λ (r : RingView). (r.buffer, r.frames)) (map ring_by cs)) b ≡ option_map_or (λ c. unit_frames c.unit) (find (λ c. c.id == b) cs) [] → cond h (unit_frames c.unit) (list_of (map (λ (r : RingView). (r.buffer, r.frames)) (map ring_by cs)) b) ≡ option_map_or (λ c. unit_frames c.unit) (cond h (Some c) (find (λ c. c.id == b) cs)) []
    by true rest = refl
    by false rest = rest

-- the frames of a buffer that is there are those of the audio
pub frames-heard : (a : Audio) (cs : List Component) (rs : List RingView) → map ring_by cs ≡ map (heard_ring a) rs → (b : ℕ) → has_id cs b ≡ true → option_map_or (λ c. unit_frames c.unit) (find (λ c. c.id == b) cs) [] ≡ list_of a.rings b
frames-heard a [] rs same b there = absurd (false≢true there)
frames-heard a (c ∷ cs) [] same b there = absurd (cc same)
frames-heard a (c ∷ cs) (r ∷ rs) same b there = by (c.id == b) refl there (frames-heard a cs rs (cc same) b)
  where
    first : ring_by c ≡ heard_ring a r
    first = cc same

    by : (h : Bool) → (c.id == b) ≡ h → (h || has_id cs b) ≡ true → (has_id cs b ≡ true → option_map_or (λ c. unit_frames c.unit) (find (λ c. c.id == b) cs) [] ≡ list_of a.rings b) → option_map_or (λ c. unit_frames c.unit) (cond h (Some c) (find (λ c. c.id == b) cs)) [] ≡ list_of a.rings b
    by true is there rest =
        ap (λ (r : RingView). r.frames) first ∙ ap (list_of a.rings) (sym (ap (λ (r : RingView). r.buffer) first) ∙ eqb-true c.id b is)
    by false is there rest = rest there
