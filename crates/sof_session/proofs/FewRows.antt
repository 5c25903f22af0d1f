-- Rows that are done leave periods and parameters in range, where those of their messages are.
use Rattle.std.proofs.Common.{◌≡◌, refl, ℕ, ◌≤◌, ◌%◌, not, Bool, true, false, ◌&&◌, ◌||◌, cond, ◌==◌, List, [], ◌∷◌, map, length, Option, Some, None, Result, Ok, Err, ℤ, is_some}
use Rattle.std.specs.Prelude.{nat_le, find, option_and_then}
use Rattle.std.specs.List.{AllByRecursion, list_any}
use Rattle.std.proofs.lemmas.Bool.{and_parts, or_parts, leb-true, not-false}
use Rattle.sof_base.specs.BlobFaults.{is_blob}
use Rattle.sof_base.specs.declared.format.Params.{Params}
use Rattle.sof_base.specs.declared.part.Part.{Part}
use Rattle.sof_base.proofs.RateLaws.{rate-most as is_rate-most}
use Rattle.stream_law.specs.declared.graph.Comp.{Comp}
use Rattle.stream_law.specs.declared.graph.Graph.{Graph}
use Rattle.stream_law.specs.declared.graph.Kind.{Kind}
use Rattle.stream_law.specs.declared.graph.Kind.TheVariants as kinds
use Rattle.stream_law.specs.declared.graph.Pipe.{Pipe}
use Rattle.stream_law.specs.declared.graph.Setting.{Setting}
use Rattle.stream_law.specs.declared.stream.Phase.{Phase}
use Rattle.stream_law.specs.declared.stream.Phase.TheVariants as phases
use Rattle.stream_law.specs.declared.stream.StreamView.{StreamView}
use Rattle.stream_law.specs.State.{FwState, view_of}
use Rattle.stream_law.specs.Joins.{crosses, stays, with_join}
use Rattle.stream_law.specs.Ways.{comp_of, is_of, is_live_phase, is_running_phase, agree}
use Rattle.stream_law.specs.Seen.{is_volume, is_equaliser, seen}
use Rattle.ipc3_model.specs.declared.message.Message.{Message}
use Rattle.ipc3_model.specs.declared.message.Message.TheVariants as messages
use Rattle.ipc3_model.specs.Meanings.{IsAllowed}
use Rattle.mbox_link.specs.Step.{no_memory, busy, no_device, invalid, has_comp, has_edge, is_used, has_index, kind_at, has_kind, comp_bytes, buffer_bytes, pipe_bytes, has_hole, is_complete, kind_of, first_setting, first_ramp, with_host_stream, with_comp, with_buffer, with_pipe, with_pipes, is_joined, is_refused_join, completed, complete_pipe, has_complete_pipe, touches, without_comp, is_held, without_edge, without_buffer, is_index_held, without_pipe, free_pipe, new_setting, with_setting_at, value_set, control_values_at, staging_at, keeps_order, staged_bytes, with_staged, blob_installed, part_staged, part_at, is_host, goes, is_way_ready, is_rate, phase_at, set_stream, with_params, is_stream_phase, is_refused_params, set_phase, is_prepared, is_paused, stream_changed, row}
use Rattle.host_widgets.specs.There.{There, there_in, row_left, silent_state}
use Rattle.sof_session.proofs.CommandMoves.{AreFew}
use Rattle.host_widgets.proofs.Sublists.{all-filter, all-placed}

-- ---- lists

all-changed : {X : Type 0} (P : X → Type 0) (f : X → X) → ((x : X) → P x → P (f x)) → (xs : List X) → AllByRecursion P xs → AllByRecursion P (map f xs)
all-changed P f each [] all = tt
all-changed P f each (x ∷ xs) all = (each x all.0, all-changed P f each xs all.1)

-- ---- what is there

abbrev pub HasFewPeriod : Pipe → Type 0
HasFewPeriod p = p.period ≤ 10000

abbrev pub HasFewParams : StreamView → Type 0
HasFewParams s = AreFew s.params

-- periods and parameters are in range
pub record AreFewThere (t : There) : Type 0 where
  pub pipes : AllByRecursion HasFewPeriod t.graph.pipes
  pub streams : AllByRecursion HasFewParams t.streams

-- those of a message
abbrev pub IsFewMessage : Message → Type 0
IsFewMessage (messages.PipeNew id pipe sched period priority mips frames time_domain) = period ≤ 10000
IsFewMessage (messages.PcmParams host direction params) = params.channels ≤ 8
IsFewMessage m = Unit {0}

-- ---- rows

abbrev IsFine : Result FwState ℤ → Type 0
IsFine (Ok g) = AreFewThere (there_in g)
IsFine (Err e) = Unit {0}

-- what a row leaves where it passes is in range
pub record Fine (r : Result FwState ℤ) : Type 0 where
  pub is : IsFine r

-- by a test of it
test : (b : Bool) (x y : Result FwState ℤ) → Fine x → Fine y → Fine (cond b x y)
test true x y first second = first
test false x y first second = second

-- one that is refused leaves what was there
refused : (e : ℤ) → Fine (Err e)
refused e = record { is = tt }

-- where the test is known to have failed
fine-when : (b : Bool) (e : ℤ) (r : Result FwState ℤ) → (b ≡ false → Fine r) → Fine (cond b (Err e) r)
fine-when true e r fine = refused e
fine-when false e r fine = fine refl

module _ (f : FwState) (few : AreFewThere (there_in f)) where
  abbrev g : Graph
  g = f.graph

  -- a state that has these pipelines and streams
  left : (next : FwState) → AllByRecursion HasFewPeriod next.graph.pipes → AllByRecursion HasFewParams next.streams → Fine (Ok next)
  left next pipes streams = record { is = record { pipes = pipes; streams = streams } }

  -- parameters that are not refused have a right rate
  right-rate : (host direction : ℕ) (p : Params) (moving : Bool) → is_refused_params (view_of f) host direction p moving ≡ false → is_rate p.rate ≡ true
  right-rate host direction p moving free =
      let a = not (has_kind (λ kind. goes kind direction) (kind_at f.graph host)) in
      let c = not (is_rate p.rate) in
      let d = not (is_way_ready f.graph host) in
      let e = crosses f.graph in
      let one = or_parts ((((a || moving) || c) || d) || e) (not (agree (record { graph = f.graph; streams = map (set_stream host phases.Prepared (Some p)) f.streams }))) free in
      let two = or_parts (((a || moving) || c) || d) e one.0 in
      let three = or_parts ((a || moving) || c) d two.0 in
      not-false (is_rate p.rate) (or_parts (a || moving) c three.0).1

  host-fine : (id : ℕ) (kind : Kind) → AllByRecursion HasFewParams (with_host_stream id kind f.streams)
  host-fine id kinds.HostPlay = all-placed HasFewParams (λ (s : StreamView). s.host) (record { host = id; phase = phases.Idle; params = None }) f.streams tt few.streams
  host-fine id kinds.HostCapture = all-placed HasFewParams (λ (s : StreamView). s.host) (record { host = id; phase = phases.Idle; params = None }) f.streams tt few.streams
  host-fine id kind = few.streams

  completed-few : (id : ℕ) (q : Pipe) → HasFewPeriod q → HasFewPeriod (completed id q)
  completed-few id q is = by (q.id == id)
    where
      by : (b : Bool) → HasFewPeriod (cond b (record q { complete = true }) q)
      by true = is
      by false = is

  complete-fine : (id : ℕ) (o : Option Pipe) → Fine (complete_pipe f id o)
  complete-fine id None = refused invalid
  complete-fine id (Some p) =
      test (not (is_used g p.sched)) _ _ (refused no_device)
      (test p.complete _ _ (refused busy)
      (test (not (has_comp g p.sched)) _ _ (refused invalid)
      (left (record f { graph = with_pipes (map (completed id) f.graph.pipes) f.graph }) (all-changed HasFewPeriod (completed id) (completed-few id) f.graph.pipes few.pipes) few.streams)))

  free-fine : (id : ℕ) (o : Option Pipe) → Fine (free_pipe f id o)
  free-fine id None = refused invalid
  free-fine id (Some p) =
      test (is_index_held g f.streams p.index) _ _ (refused invalid) (left (without_pipe id f) (all-filter HasFewPeriod (λ (q : Pipe). not (q.id == id)) f.graph.pipes few.pipes) few.streams)

  value-fine : (id : ℕ) (o : Option Setting) → Fine (value_set f id o)
  value-fine id None = refused invalid
  value-fine id (Some setting) = by (is_of f.graph is_volume id)
    where
      by : (b : Bool) → Fine (Ok (cond b (seen (with_setting_at f id setting) (Some id) f) (record f { graph = (with_setting_at f id setting).graph })))
      by true = left (seen (with_setting_at f id setting) (Some id) f) few.pipes few.streams
      by false = left (record f { graph = (with_setting_at f id setting).graph }) few.pipes few.streams

  set-few : (host : ℕ) (phase : Phase) (params : Option Params) → AreFew params → (s : StreamView) → HasFewParams s → HasFewParams (set_stream host phase params s)
  set-few host phase params new s old = by (s.host == host)
    where
      by : (b : Bool) → HasFewParams (cond b (record { host = s.host; phase = phase; params = params }) s)
      by true = new
      by false = old

  phase-few : (host : ℕ) (phase : Phase) (s : StreamView) → HasFewParams s → HasFewParams (set_phase host phase s)
  phase-few host phase s old = by (s.host == host)
    where
      by : (b : Bool) → HasFewParams (cond b (record { host = s.host; phase = phase; params = s.params }) s)
      by true = old
      by false = old

  changed-fine : (host : ℕ) (from : Phase → Bool) (to : StreamView → StreamView) → ((s : StreamView) → HasFewParams s → HasFewParams (to s)) → Fine (stream_changed f host from to)
  changed-fine host from to each =
      test (not (is_used g host)) _ _ (refused no_device)
      (test (not (has_kind is_host (kind_at g host) && is_stream_phase from (phase_at f host))) _ _ (refused invalid)
      (left (seen (record { graph = f.graph; streams = map to f.streams }) None f) few.pipes (all-changed HasFewParams to each f.streams few.streams)))

  staged-fine : (id : ℕ) (bytes : List ℕ) (part : Part) → Fine (part_staged f id bytes part)
  staged-fine id bytes part =
      test (not (part.remaining == 0)) _ _ (left (with_staged id bytes part f) few.pipes few.streams)
      (test (not (is_blob bytes)) _ _ (refused invalid) (left (blob_installed id bytes f) few.pipes few.streams))

  pub fine-row : (m : Message) → IsFewMessage m → Fine (row f m)
  fine-row (messages.CompNew id pipe periods_sink periods_source frame_fmt kind) is =
      test (is_used g id || is_complete g pipe) _ _ (refused busy)
      (test (nat_le 128 (length g.comps) || not (has_hole f (comp_bytes (kind_of kind frame_fmt)))) _ _ (refused no_memory)
      (left (with_comp id pipe (kind_of kind frame_fmt) (first_setting kind) (first_ramp kind) f) few.pipes (host-fine id (kind_of kind frame_fmt))))
  fine-row (messages.CompFree id) is =
      test (not (is_used g id)) _ _ (refused no_device)
      (test (has_complete_pipe g id) _ _ (refused busy)
      (test (not (has_comp g id) || list_any (touches id) g.joins) _ _ (refused invalid)
      (left (without_comp id f) few.pipes (all-filter HasFewParams (λ (s : StreamView). not (s.host == id)) f.streams few.streams))))
  fine-row (messages.BufferNew id pipe size caps) is =
      test (is_used g id || is_complete g pipe) _ _ (refused busy)
      (test (nat_le 128 (length g.edges) || not (has_hole f (buffer_bytes size))) _ _ (refused no_memory) (left (with_buffer id pipe size f) few.pipes few.streams))
  fine-row (messages.BufferFree id) is =
      test (not (is_used g id)) _ _ (refused no_device)
      (test (has_complete_pipe g id) _ _ (refused busy)
      (test (not (has_edge g id) || is_held g f.streams id || not (stays (view_of f) (without_edge id g))) _ _ (refused invalid) (left (without_buffer id f) few.pipes few.streams)))
  fine-row (messages.PipeNew id pipe sched period priority mips frames time_domain) is =
      test (is_used g id || has_index g pipe) _ _ (refused busy)
      (test (nat_le 32 (length g.pipes) || not (has_hole f pipe_bytes)) _ _ (refused no_memory)
      (left (with_pipe id pipe sched period f)
      (all-placed HasFewPeriod (λ (p : Pipe). p.id) (record { id = id; index = pipe; sched = sched; period = period; complete = false }) f.graph.pipes is few.pipes) few.streams))
  fine-row (messages.PipeFree id) is = test (not (is_used g id)) _ _ (refused no_device) (free-fine id (find (λ (p : Pipe). p.id == id) g.pipes))
  fine-row (messages.Connect source sink) is =
      test (not (is_used g source && is_used g sink)) _ _ (refused no_device)
      (test (is_joined g source sink) _ _ (refused busy)
      (test (is_refused_join f source sink) _ _ (refused invalid) (left (record f { graph = with_join f.graph (record { source = source; sink = sink }) }) few.pipes few.streams)))
  fine-row (messages.PipeComplete id) is = test (not (is_used g id)) _ _ (refused no_device) (complete-fine id (find (λ (p : Pipe). p.id == id) g.pipes))
  fine-row (messages.SetValue id command values) is =
      test (not (is_used g id)) _ _ (refused no_device) (value-fine id (option_and_then (λ (c : Comp). new_setting c.kind c.setting command values) (comp_of g id)))
  fine-row (messages.GetValue id command) is =
      test (not (is_used g id)) _ _ (refused no_device) (test (not (is_some (control_values_at g id command))) _ _ (refused invalid) (left f few.pipes few.streams))
  fine-row (messages.SetData id part) is =
      test (not (is_used g id)) _ _ (refused no_device)
      (test (not (has_kind is_equaliser (kind_at g id)) || not (keeps_order (staging_at f id) part)) _ _ (refused invalid) (staged-fine id (staged_bytes (staging_at f id) part) part))
  fine-row (messages.GetData id index) is =
      test (not (is_used g id)) _ _ (refused no_device) (test (not (is_some (part_at g id index))) _ _ (refused invalid) (left f few.pipes few.streams))
  fine-row (messages.PcmParams host direction params) is =
      let moving = is_stream_phase is_live_phase (phase_at f host) in
      test (not (is_used g host)) _ _ (refused no_device)
      (fine-when (is_refused_params (view_of f) host direction params moving) invalid (Ok (seen (with_params f host params) None f)) (λ free.
      left (seen (with_params f host params) None f) few.pipes
      (all-changed HasFewParams (set_stream host phases.Prepared (Some params)) (set-few host phases.Prepared (Some params) (is_rate-most params.rate (right-rate host direction params moving free), is)) f.streams few.streams)))
  fine-row (messages.PcmFree id) is = changed-fine id is_prepared (set_stream id phases.Idle None) (set-few id phases.Idle None tt)
  fine-row (messages.TrigStart id) is = changed-fine id is_prepared (set_phase id phases.Running) (phase-few id phases.Running)
  fine-row (messages.TrigStop id) is = changed-fine id is_live_phase (set_phase id phases.Prepared) (phase-few id phases.Prepared)
  fine-row (messages.TrigPause id) is = changed-fine id is_running_phase (set_phase id phases.Paused) (phase-few id phases.Paused)
  fine-row (messages.TrigRelease id) is = changed-fine id is_paused (set_phase id phases.Running) (phase-few id phases.Running)
  fine-row messages.CtxSave is = left f few.pipes few.streams

-- what is there after a row
left-fine : (t : There) (r : Result FwState ℤ) → AreFewThere t → IsFine r → AreFewThere (row_left t r)
left-fine t (Ok g) few fine = fine
left-fine t (Err e) few fine = few

pub row-few : (t : There) (m : Message) → AreFewThere t → IsFewMessage m → AreFewThere (row_left t (row (silent_state t) m))
row-few t m few is = left-fine t (row (silent_state t) m) few (fine-row (silent_state t) (record { pipes = few.pipes; streams = few.streams }) m is).is

-- ---- messages that are allowed

pub allowed-few : (m : Message) → IsAllowed m → IsFewMessage m
allowed-few (messages.PipeNew id pipe sched period priority mips frames time_domain) allowed =
    leb-true period 10000 (and_parts (nat_le 1000 period) (nat_le period 10000) (and_parts (nat_le 1000 period && nat_le period 10000) (period % 1000 == 0) allowed).0).1
allowed-few (messages.PcmParams host direction p) allowed = leb-true p.channels 8 (and_parts (nat_le 1 p.channels) (nat_le p.channels 8) allowed.1).1
allowed-few m allowed = tt
