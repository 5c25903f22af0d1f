-- A firmware in which nothing moves and no audio was moved: what messages that make pipelines or give a stream its parameters leave of it.
use Rattle.std.proofs.Common.{◌≡◌, refl, sym, ap, subst, ◌∙◌, ℕ, List, [], ◌∷◌, map, filter, Bool, true, false, cond, not, ◌==◌, ◌||◌, ◌&&◌, Some, None, Ok, Err}
use Rattle.std.specs.Prelude.{IsTrue, Option, Result, ℤ, find, nat_le, length, option_and_then}
use Rattle.std.specs.List.{list_any, IsDistinct}
use Rattle.std.proofs.lemmas.Bool.{not-true, or_parts}
use Rattle.sof_base.specs.BlobFaults.{is_blob}
use Rattle.sof_base.specs.declared.format.Params.{Params}
use Rattle.sof_base.specs.declared.part.Part.{Part as Carried}
use Rattle.stream_law.specs.declared.graph.Kind.{Kind}
use Rattle.stream_law.specs.declared.graph.Kind.TheVariants.{HostPlay, HostCapture}
use Rattle.stream_law.specs.declared.graph.Setting.{Setting}
use Rattle.stream_law.specs.declared.graph.Setting.TheVariants as settings
use Rattle.stream_law.specs.declared.graph.Comp.{Comp}
use Rattle.stream_law.specs.declared.graph.Edge.{Edge}
use Rattle.stream_law.specs.declared.graph.Pipe.{Pipe}
use Rattle.stream_law.specs.declared.graph.Join.{Join}
use Rattle.stream_law.specs.declared.stream.Phase.TheVariants as phases
use Rattle.stream_law.specs.declared.stream.StreamView.{StreamView}
use Rattle.stream_law.specs.State.{FwState, History, RingView, View, view_of}
use Rattle.stream_law.specs.Placed.{HasDistinct, placed}
use Rattle.stream_law.specs.Joins.{crosses, joined_edge}
use Rattle.stream_law.specs.Seen.{flows, history_seen, is_equaliser, is_volume, keeps_numbers, remembers, ring_seen, seen}
use Rattle.stream_law.specs.Silence.{is_silent}
use Rattle.stream_law.specs.Ways.{agree, comp_of, components, is_complete, is_live_phase, is_of}
use Rattle.stream_law.proofs.Placing.{list_any-placed, map-placed, HasDistinct-placed}
use Rattle.stream_law.proofs.Silent.{silent-dead}
use Rattle.ipc3_model.specs.declared.message.Message.{Message}
use Rattle.ipc3_model.specs.declared.message.Message.TheVariants.{BufferNew, CompNew, Connect, PcmParams, PipeComplete, PipeNew, SetData, SetValue}
use Rattle.mbox_link.specs.Step.{blob_installed, buffer_bytes, busy, comp_bytes, complete_pipe, completed, has_comp, has_edge, has_hole, has_index, has_kind, has_pipe, invalid, is_joined, is_refused_join, is_used, keeps_order, kind_at, kind_of, new_setting, no_device, no_memory, goes, is_rate, is_stream_phase, is_way_ready, part_staged, phase_at, pipe_bytes, row, set_stream, staged_bytes, staging_at, value_set, with_comps, with_host_stream, with_params, with_pipes, with_setting, with_setting_at, with_staged}
use Rattle.host_widgets.specs.IdleStreams.{idle_view}
use Rattle.host_widgets.specs.StateOf.{empty_rings}
use Rattle.host_widgets.proofs.Effects.{effect, value_effect}
use Rattle.host_widgets.proofs.LookedUp.{all-of, map-twice}
use Rattle.host_widgets.proofs.PartRows.{part_effect}
use Rattle.host_widgets.proofs.SilentTicks.{IsStill}
use Rattle.host_widgets.proofs.TakenActs.{last-test}

-- ---- such a message has its effect where it is taken

abbrev pub IsBuild : Message → Type 0
IsBuild (CompNew id pipe periods_sink periods_source frame_fmt kind) = Unit {0}
IsBuild (BufferNew id pipe size caps) = Unit {0}
IsBuild (PipeNew id pipe sched period priority mips frames time_domain) = Unit {0}
IsBuild (Connect source sink) = Unit {0}
IsBuild (SetValue id command values) = Unit {0}
IsBuild (SetData id part) = Unit {0}
IsBuild (PipeComplete id) = Unit {0}
IsBuild (PcmParams host direction params) = Unit {0}
IsBuild m = ⊥

-- what is taken has passed each test
past : (b : Bool) (e : ℤ) (r : Result FwState ℤ) (g : FwState) → cond b (Err e) r ≡ Ok g → (b ≡ false) × (r ≡ Ok g)
past true e r g is = absurd (cc is)
past false e r g is = (refl, is)

left-is : (f g : FwState) → ◌≡◌ {A = Result FwState ℤ} (Ok f) (Ok g) → f ≡ g
left-is f g is = cc is

value-taken : (id : ℕ) (o : Option Setting) (f g : FwState) → value_set f id o ≡ Ok g → value_effect id o f ≡ g
value-taken id None f g is = absurd (cc is)
value-taken id (Some setting) f g is = left-is (value_effect id (Some setting) f) g is

part-taken : (id : ℕ) (bytes : List ℕ) (part : Carried) (f g : FwState) → part_staged f id bytes part ≡ Ok g → part_effect id bytes part f ≡ g
part-taken id bytes part f g = by (part.remaining == 0) (is_blob bytes)
  where
    by : (b c : Bool) → cond (not b) (Ok (with_staged id bytes part f)) (cond (not c) (Err invalid) (Ok (blob_installed id bytes f))) ≡ Ok g → cond b (blob_installed id bytes f) (with_staged id bytes part f) ≡ g
    by true true is = left-is (blob_installed id bytes f) g is
    by true false is = absurd (cc is)
    by false c is = left-is (with_staged id bytes part f) g is

complete-taken : (id : ℕ) (o : Option Pipe) (f g : FwState) → complete_pipe f id o ≡ Ok g → record f { graph = with_pipes (map (completed id) f.graph.pipes) f.graph } ≡ g
complete-taken id None f g is = absurd (cc is)
complete-taken id (Some p) f g is =
    let a = past (not (is_used f.graph p.sched)) no_device _ g is in
    let b = past p.complete busy _ g a.1 in
    let c = past (not (has_comp f.graph p.sched)) invalid _ g b.1 in
    left-is (record f { graph = with_pipes (map (completed id) f.graph.pipes) f.graph }) g c.1

pub row-effect : (m : Message) (f g : FwState) → IsBuild m → row f m ≡ Ok g → effect m f ≡ g
row-effect (CompNew id pipe periods_sink periods_source frame_fmt kind) f g builds is =
    let a = past (is_used f.graph id || is_complete f.graph pipe) busy _ g is in
    let b = past (nat_le 128 (length f.graph.comps) || not (has_hole f (comp_bytes (kind_of kind frame_fmt)))) no_memory _ g a.1 in
    left-is (effect (CompNew id pipe periods_sink periods_source frame_fmt kind) f) g b.1
row-effect (BufferNew id pipe size caps) f g builds is =
    let a = past (is_used f.graph id || is_complete f.graph pipe) busy _ g is in
    let b = past (nat_le 128 (length f.graph.edges) || not (has_hole f (buffer_bytes size))) no_memory _ g a.1 in
    left-is (effect (BufferNew id pipe size caps) f) g b.1
row-effect (PipeNew id pipe sched period priority mips frames time_domain) f g builds is =
    let a = past (is_used f.graph id || has_index f.graph pipe) busy _ g is in
    let b = past (nat_le 32 (length f.graph.pipes) || not (has_hole f pipe_bytes)) no_memory _ g a.1 in
    left-is (effect (PipeNew id pipe sched period priority mips frames time_domain) f) g b.1
row-effect (Connect source sink) f g builds is =
    let a = past (not (is_used f.graph source && is_used f.graph sink)) no_device _ g is in
    let b = past (is_joined f.graph source sink) busy _ g a.1 in
    let c = past (is_refused_join f source sink) invalid _ g b.1 in
    left-is (effect (Connect source sink) f) g c.1
row-effect (SetValue id command values) f g builds is =
    let a = past (not (is_used f.graph id)) no_device _ g is in value-taken id (option_and_then (λ (c : Comp). new_setting c.kind c.setting command values) (comp_of f.graph id)) f g a.1
row-effect (SetData id part) f g builds is =
    let a = past (not (is_used f.graph id)) no_device _ g is in
    let b = past (not (has_kind is_equaliser (kind_at f.graph id)) || not (keeps_order (staging_at f id) part)) invalid _ g a.1 in
    part-taken id (staged_bytes (staging_at f id) part) part f g b.1
row-effect (PipeComplete id) f g builds is =
    let a = past (not (is_used f.graph id)) no_device _ g is in complete-taken id (find (λ (p : Pipe). p.id == id) f.graph.pipes) f g a.1
row-effect (PcmParams host direction params) f g builds is =
    (last-test (not (is_used f.graph host)) (not (has_kind (λ kind. goes kind direction) (kind_at f.graph host))) (is_stream_phase is_live_phase (phase_at f host)) (not (is_rate params.rate)) (not (is_way_ready f.graph host)) (crosses f.graph)
    (agree (with_params f host params)) no_device invalid (effect (PcmParams host direction params) f) g is).1
row-effect m f g builds is = absurd builds

-- ---- rings without frames stay so, and where nothing is Live there are no numbers

abbrev empty_ring : Edge → RingView
empty_ring e = record { buffer = e.buffer; frames = [] }

pub rings-empty : (v : View) (es : List Edge) → map (ring_seen v) (map empty_ring es) ≡ map empty_ring es
rings-empty v [] = refl
rings-empty v (e ∷ es) = λ i. by (flows v e.buffer) i ∷ rings-empty v es i
  where
    by : (b : Bool) → ◌≡◌ {A = RingView} (record { buffer = e.buffer; frames = cond b [] [] }) (record { buffer = e.buffer; frames = [] })
    by true = refl
    by false = refl

pub none-remembers : (v : View) → IsTrue (is_silent v) → (ids : List ℕ) → filter (remembers v) ids ≡ []
none-remembers v silent [] = refl
none-remembers v silent (c ∷ cs) =
    ap (λ (b : Bool). cond b (c ∷ filter (remembers v) cs) (filter (remembers v) cs)) (ap (λ (b : Bool). b && is_of v.graph keeps_numbers c) (silent-dead v c silent))
    ∙ none-remembers v silent cs

any-ring : (id : ℕ) (es : List Edge) → list_any (λ (r : RingView). r.buffer == id) (map empty_ring es) ≡ list_any (λ (e : Edge). e.buffer == id) es
any-ring id [] = refl
any-ring id (e ∷ es) = ap (λ (b : Bool). (e.buffer == id) || b) (any-ring id es)

-- ---- no audio was moved

-- nothing is Live, the rings are those of its buffers and have no frames, and neither the clock nor a history has begun
pub record IsQuiet (f : FwState) : Type 0 where
  pub silent : IsTrue (is_silent (view_of f))
  pub rings : f.rings ≡ empty_rings f.graph
  pub distinct : HasDistinct (λ (r : RingView). r.buffer) f.rings
  pub histories : f.histories ≡ []
  pub clock : f.clock ≡ 0

module _ (f : FwState) (quiet : IsQuiet f) where
  pub quiet-still : IsStill f
  unfolding IsDistinct
  quiet-still = record {
    silent = quiet.silent;
    rings = quiet.distinct;
    histories = subst (HasDistinct (λ (h : History). h.comp)) (sym quiet.histories) tt;
  }

  -- with other settings, or with other streams of which none is Live
  seen-quiet : (v : View) (fresh : Option ℕ) → v.graph.edges ≡ f.graph.edges → IsTrue (is_silent v) → IsQuiet (seen v fresh f)
  seen-quiet v fresh edges silent = record {
    silent = silent;
    rings = same ∙ ap (map empty_ring) (sym edges);
    distinct = subst (HasDistinct (λ (r : RingView). r.buffer)) (quiet.rings ∙ sym same) quiet.distinct;
    histories = ap (map (history_seen f v fresh)) (none-remembers v silent (components v.graph));
    clock = quiet.clock;
  }
    where
      same : map (ring_seen v) f.rings ≡ empty_rings f.graph
      same = ap (map (ring_seen v)) quiet.rings ∙ rings-empty v f.graph.edges

  set-quiet : (comps : List Comp) (fresh : Option ℕ) → IsQuiet (seen (record { graph = with_comps comps f.graph; streams = f.streams }) fresh f)
  set-quiet comps fresh = seen-quiet (record { graph = with_comps comps f.graph; streams = f.streams }) fresh refl quiet.silent

  params-silent : (host : ℕ) (p : Params) (ss : List StreamView) → list_any (λ (s : StreamView). is_live_phase s.phase) ss ≡ false → list_any (λ (s : StreamView). is_live_phase s.phase) (map (set_stream host phases.Prepared (Some p)) ss) ≡ false
  params-silent host p [] none = refl
  params-silent host p (s ∷ ss) none =
      let parts = or_parts (is_live_phase s.phase) (list_any (λ (x : StreamView). is_live_phase x.phase) ss) none in
      ap (λ (b : Bool). b || list_any (λ (x : StreamView). is_live_phase x.phase) (map (set_stream host phases.Prepared (Some p)) ss)) (by (s.host == host) parts.0) ∙ params-silent host p ss parts.1
    where
      by : (b : Bool) → is_live_phase s.phase ≡ false → is_live_phase (cond b (record { host = s.host; phase = phases.Prepared; params = Some p }) s).phase ≡ false
      by true is = refl
      by false is = is

  value-quiet : (id : ℕ) (o : Option Setting) → IsQuiet (value_effect id o f)
  value-quiet id None = quiet
  value-quiet id (Some setting) = by (is_of f.graph is_volume id)
    where
      by : (b : Bool) → IsQuiet (cond b (seen (with_setting_at f id setting) (Some id) f) (record f { graph = (with_setting_at f id setting).graph }))
      by true = set-quiet (map (with_setting id setting) f.graph.comps) (Some id)
      by false = record { silent = quiet.silent; rings = quiet.rings; distinct = quiet.distinct; histories = quiet.histories; clock = quiet.clock }

  part-quiet : (id : ℕ) (bytes : List ℕ) (part : Carried) → IsQuiet (part_effect id bytes part f)
  part-quiet id bytes part = by (part.remaining == 0)
    where
      by : (b : Bool) → IsQuiet (cond b (blob_installed id bytes f) (with_staged id bytes part f))
      by true =
          let set = set-quiet (map (with_setting id (settings.Blob bytes)) f.graph.comps) (Some id) in
          record { silent = set.silent; rings = set.rings; distinct = set.distinct; histories = set.histories; clock = set.clock }
      by false = record { silent = quiet.silent; rings = quiet.rings; distinct = quiet.distinct; histories = quiet.histories; clock = quiet.clock }

  -- with one more component
  hosts-silent : (id : ℕ) (kind : Kind) (ss : List StreamView) → list_any (λ (s : StreamView). is_live_phase s.phase) ss ≡ false → list_any (λ (s : StreamView). is_live_phase s.phase) (with_host_stream id kind ss) ≡ false
  hosts-silent id HostPlay ss none = list_any-placed (λ (s : StreamView). is_live_phase s.phase) (λ (s : StreamView). s.host) (idle_view id) ss ∙ none
  hosts-silent id HostCapture ss none = list_any-placed (λ (s : StreamView). is_live_phase s.phase) (λ (s : StreamView). s.host) (idle_view id) ss ∙ none
  hosts-silent id kind ss none = none

  -- with one more buffer, of a new id
  module _ (id pipe size caps : ℕ) (new : is_used f.graph id ≡ false) where
    abbrev ring : RingView
    ring = record { buffer = id; frames = [] }

    abbrev edge : Edge
    edge = record { buffer = id; pipe = pipe; size = size; source = None; sink = None }

    no-ring : list_any (λ (r : RingView). r.buffer == id) f.rings ≡ false
    no-ring =
        ap (list_any (λ (r : RingView). r.buffer == id)) quiet.rings ∙ any-ring id f.graph.edges
        ∙ (or_parts (has_comp f.graph id) (has_edge f.graph id) (or_parts (has_comp f.graph id || has_edge f.graph id) (has_pipe f.graph id) new).0).1

    buffer-quiet : IsQuiet (effect (BufferNew id pipe size caps) f)
    buffer-quiet = record {
      silent = quiet.silent;
      rings = ap (placed (λ (r : RingView). r.buffer) ring) quiet.rings ∙ sym (map-placed empty_ring (λ (e : Edge). e.buffer) (λ (r : RingView). r.buffer) (λ (e : Edge). refl) edge f.graph.edges);
      distinct = HasDistinct-placed (λ (r : RingView). r.buffer) ring f.rings no-ring quiet.distinct;
      histories = quiet.histories;
      clock = quiet.clock;
    }

  -- with one more join
  module _ (j : Join) where
    one-ring : (e : Edge) → empty_ring (joined_edge j e) ≡ empty_ring e
    one-ring e = by (e.buffer == j.source) (e.buffer == j.sink)
      where
        by : (a b : Bool) → empty_ring (cond a (record { buffer = e.buffer; pipe = e.pipe; size = e.size; source = e.source; sink = Some j.sink }) (cond b (record { buffer = e.buffer; pipe = e.pipe; size = e.size; source = Some j.source; sink = e.sink }) e)) ≡ empty_ring e
        by true b = refl
        by false true = refl
        by false false = refl

    same-rings : f.rings ≡ map empty_ring (map (joined_edge j) f.graph.edges)
    same-rings = quiet.rings ∙ sym (map-twice empty_ring (joined_edge j) empty_ring f.graph.edges (all-of (λ (e : Edge). empty_ring (joined_edge j e) ≡ empty_ring e) one-ring f.graph.edges))

  -- a message that is taken leaves it so
  pub effect-quiet : (m : Message) (g : FwState) → IsBuild m → row f m ≡ Ok g → IsQuiet (effect m f)
  effect-quiet (CompNew id pipe periods_sink periods_source frame_fmt kind) g builds is = record {
    silent = ap not (hosts-silent id (kind_of kind frame_fmt) f.streams (not-true (list_any (λ (s : StreamView). is_live_phase s.phase) f.streams) quiet.silent));
    rings = quiet.rings;
    distinct = quiet.distinct;
    histories = quiet.histories;
    clock = quiet.clock;
  }
  effect-quiet (BufferNew id pipe size caps) g builds is =
      let a = past (is_used f.graph id || is_complete f.graph pipe) busy _ g is in
      buffer-quiet id pipe size caps (or_parts (is_used f.graph id) (is_complete f.graph pipe) a.0).0
  effect-quiet (PipeNew id pipe sched period priority mips frames time_domain) g builds is =
      record { silent = quiet.silent; rings = quiet.rings; distinct = quiet.distinct; histories = quiet.histories; clock = quiet.clock }
  effect-quiet (Connect source sink) g builds is =
      record { silent = quiet.silent; rings = same-rings (record { source = source; sink = sink }); distinct = quiet.distinct; histories = quiet.histories; clock = quiet.clock }
  effect-quiet (SetValue id command values) g builds is = value-quiet id (option_and_then (λ (c : Comp). new_setting c.kind c.setting command values) (comp_of f.graph id))
  effect-quiet (SetData id part) g builds is = part-quiet id (staged_bytes (staging_at f id) part) part
  effect-quiet (PipeComplete id) g builds is =
      record { silent = quiet.silent; rings = quiet.rings; distinct = quiet.distinct; histories = quiet.histories; clock = quiet.clock }
  effect-quiet (PcmParams host direction params) g builds is =
      seen-quiet (with_params f host params) None refl (ap not (params-silent host params f.streams (not-true (list_any (λ (s : StreamView). is_live_phase s.phase) f.streams) quiet.silent)))
  effect-quiet m g builds is = absurd builds
