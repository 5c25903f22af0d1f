-- A row that is done keeps what every state keeps.
use Rattle.std.proofs.Common.{◌≡◌, refl, sym, subst, ℕ, ◌+◌, List, map, length, Option, Some, None, Bool, true, false, cond, not, ◌==◌, ◌&&◌, ◌||◌, Result, Ok, Err, ℤ}
use Rattle.std.proofs.lemmas.Bool.{true≢false, and_parts, or_parts, leb-true, leb-false}
use Rattle.std.specs.Prelude.{nat_le, find, is_some, is_none, option_and_then}
use Rattle.std.specs.Option.{option_map_or}
use Rattle.std.specs.List.{list_any}
use Rattle.sof_base.specs.declared.format.Params.{Params}
use Rattle.sof_base.specs.declared.part.Part.{Part}
use Rattle.sof_base.specs.BlobFaults.{blob_fault, is_blob}
use Rattle.sof_base.proofs.BlobLaws.{blob-from_no_fault}
use Rattle.sof_base.proofs.FieldLaws.{IsBytes}
use Rattle.stream_law.specs.declared.graph.Kind.{Kind}
use Rattle.stream_law.specs.declared.graph.Kind.TheVariants.{Volume, Eq}
use Rattle.stream_law.specs.declared.graph.Setting.{Setting}
use Rattle.stream_law.specs.declared.graph.Comp.{Comp}
use Rattle.stream_law.specs.declared.graph.Pipe.{Pipe}
use Rattle.stream_law.specs.declared.graph.Join.{Join}
use Rattle.stream_law.specs.declared.stream.Phase.{Phase}
use Rattle.stream_law.specs.declared.stream.Phase.TheVariants.{Idle, Prepared, Running, Paused}
use Rattle.stream_law.specs.State.{FwState, Staging, view_of}
use Rattle.stream_law.specs.Ways.{comp_of, is_of, agree, is_live_phase, is_running_phase}
use Rattle.stream_law.specs.Joins.{crosses, stays, would_cycle, would_stay, with_join}
use Rattle.stream_law.specs.Seen.{is_equaliser, is_volume, keeps_numbers, seen}
use Rattle.ipc3_model.specs.Allowed.{is_buffer_size, is_period_allowed, is_channels}
use Rattle.ipc3_model.specs.declared.message.Message.{Message}
use Rattle.ipc3_model.specs.declared.message.Message.TheVariants as messages
use Rattle.ipc3_model.specs.declared.fault.CodecFault.{CodecFault}
use Rattle.ipc3_model.specs.Messages.{decoded}
use Rattle.ipc3_model.specs.Meanings.{IsMessage, IsAllowed, Means}
use Rattle.mbox_link.specs.Step.{row, row_of, body, body_of, replied, step, kind_of, first_setting, first_ramp, no_memory, busy, no_device, invalid, is_used, is_complete, has_index, has_comp, has_edge, has_hole, comp_bytes, buffer_bytes, pipe_bytes, with_comp, comp_new, with_buffer, buffer_new, with_pipe, pipe_new, with_pipes, completed, complete_pipe, pipe_complete, is_joined, takes_join, is_refused_join, connect, has_complete_pipe, touches, is_held, is_index_held, without_comp, comp_free, without_edge, without_buffer, buffer_free, without_pipe, free_pipe, pipe_free, new_setting, with_setting_at, value_set, set_value, control_values_at, get_value, staging_at, keeps_order, staged_bytes, with_staged, blob_installed, part_staged, set_data, part_at, get_data, has_kind, is_stream_phase, is_host, goes, is_rate, is_way_ready, kind_at, phase_at, is_prepared, is_paused, set_stream, set_phase, with_params, pcm_params, is_refused_params, pcm_free, trigger}
use Rattle.row_laws.specs.Played.{is_idle}
use Rattle.row_laws.specs.Kept.{FirmwareInvariant, IsSettingOf, IsRampOf, IsStaged}
use Rattle.row_laws.specs.RowLaws.{IsPart, HasBytes}
use Rattle.row_laws.proofs.Fewer.{not-false}
use Rattle.row_laws.proofs.Fitting.{first-fits, first-ramps, values-fit, values-many}
use Rattle.row_laws.proofs.StreamLaws.{keeps-phase, played-phase, keeps-free, played-free, keeps-params, played-params, params-pass}
use Rattle.row_laws.proofs.NewKept.{kept-comp, kept-buffer, kept-pipe, kept-complete}
use Rattle.row_laws.proofs.FreeKept.{kept-comp_free, kept-buffer_free, kept-pipe_free}
use Rattle.row_laws.proofs.ChangeKept.{kept-join, kept-setting, kept-marked}
use Rattle.row_laws.proofs.PartBytes.{means-bytes}
use Rattle.row_laws.proofs.PartKept.{kept-staged, kept-blob}
use Rattle.row_laws.proofs.Stagings.{staged-found, staged-bytes, staged-more}
use Rattle.row_laws.proofs.StreamsKept.{kept-streams}

-- ---- tests

-- a test that refuses has failed where the row is done
pass : (b : Bool) (e : ℤ) (rest : Result FwState ℤ) (g : FwState) → cond b (Err e) rest ≡ Ok g → (b ≡ false) × (rest ≡ Ok g)
pass true e rest g is = absurd (cc is)
pass false e rest g is = (refl, is)

-- and its state is the one that the row says
done : (f g : FwState) → ◌≡◌ {A = Result FwState ℤ} (Ok f) (Ok g) → FirmwareInvariant f → FirmwareInvariant g
done f g is kept = let same : f ≡ g = cc is in subst FirmwareInvariant same kept

not-both : (a b : Bool) → not (a && b) ≡ false → (a ≡ true) × (b ≡ true)
not-both a b e = and_parts a b (not-false (a && b) e)

-- ---- NEW

pub comp_new-kept : (id pipe : ℕ) (kind : Kind) (setting : Setting) (ramp : ℕ) → IsSettingOf kind setting → IsRampOf kind ramp → (f g : FwState) → FirmwareInvariant f → comp_new f id pipe kind setting ramp ≡ Ok g → FirmwareInvariant g
comp_new-kept id pipe kind setting ramp right ramps f g kept is =
    let new : FwState = with_comp id pipe kind setting ramp f in
    let full : Bool = nat_le 128 (length f.graph.comps) || not (has_hole f (comp_bytes kind)) in
    let free = pass (is_used f.graph id || is_complete f.graph pipe) busy (cond full (Err no_memory) (Ok new)) g is in
    let fits = pass full no_memory (Ok new) g free.1 in
    let parts = or_parts (nat_le 128 (length f.graph.comps)) (not (has_hole f (comp_bytes kind))) fits.0 in
    done new g fits.1 (kept-comp f kept id pipe kind setting ramp (leb-false 128 (length f.graph.comps) parts.0) (or_parts (is_used f.graph id) (is_complete f.graph pipe) free.0).0 (not-false (has_hole f (comp_bytes kind)) parts.1) right ramps)

pub buffer_new-kept : (id pipe size : ℕ) → is_buffer_size size ≡ true → (f g : FwState) → FirmwareInvariant f → buffer_new f id pipe size ≡ Ok g → FirmwareInvariant g
buffer_new-kept id pipe size right f g kept is =
    let new : FwState = with_buffer id pipe size f in
    let full : Bool = nat_le 128 (length f.graph.edges) || not (has_hole f (buffer_bytes size)) in
    let free = pass (is_used f.graph id || is_complete f.graph pipe) busy (cond full (Err no_memory) (Ok new)) g is in
    let fits = pass full no_memory (Ok new) g free.1 in
    let parts = or_parts (nat_le 128 (length f.graph.edges)) (not (has_hole f (buffer_bytes size))) fits.0 in
    done new g fits.1 (kept-buffer f kept id pipe size (leb-false 128 (length f.graph.edges) parts.0) (or_parts (is_used f.graph id) (is_complete f.graph pipe) free.0).0 (not-false (has_hole f (buffer_bytes size)) parts.1) right)

pub pipe_new-kept : (id index sched period : ℕ) → is_period_allowed period ≡ true → (f g : FwState) → FirmwareInvariant f → pipe_new f id index sched period ≡ Ok g → FirmwareInvariant g
pipe_new-kept id index sched period right f g kept is =
    let new : FwState = with_pipe id index sched period f in
    let full : Bool = nat_le 32 (length f.graph.pipes) || not (has_hole f pipe_bytes) in
    let free = pass (is_used f.graph id || has_index f.graph index) busy (cond full (Err no_memory) (Ok new)) g is in
    let fits = pass full no_memory (Ok new) g free.1 in
    let parts = or_parts (nat_le 32 (length f.graph.pipes)) (not (has_hole f pipe_bytes)) fits.0 in
    done new g fits.1 (kept-pipe f kept id index sched period (leb-false 32 (length f.graph.pipes) parts.0) right (or_parts (is_used f.graph id) (has_index f.graph index) free.0).1 (or_parts (is_used f.graph id) (has_index f.graph index) free.0).0 (not-false (has_hole f pipe_bytes) parts.1))

-- ---- CONNECT and PIPE_COMPLETE

pub connect-kept : (source sink : ℕ) (f g : FwState) → FirmwareInvariant f → connect f source sink ≡ Ok g → FirmwareInvariant g
connect-kept source sink f g kept is =
    let j : Join = record { source = source; sink = sink } in
    let new : FwState = record f { graph = with_join f.graph j } in
    let used = pass (not (is_used f.graph source && is_used f.graph sink)) no_device (cond (is_joined f.graph source sink) (Err busy) (cond (is_refused_join f source sink) (Err invalid) (Ok new))) g is in
    let free = pass (is_joined f.graph source sink) busy (cond (is_refused_join f source sink) (Err invalid) (Ok new)) g used.1 in
    let right = pass (is_refused_join f source sink) invalid (Ok new) g free.1 in
    let stay = or_parts (not (takes_join f.graph source sink) || would_cycle f.graph source sink) (not (would_stay (view_of f) source sink)) right.0 in
    let cycle = or_parts (not (takes_join f.graph source sink)) (would_cycle f.graph source sink) stay.0 in
    done new g right.1 (kept-join f kept j free.0 (not-false (takes_join f.graph source sink) cycle.0) cycle.1 (not-false (would_stay (view_of f) source sink) stay.1))

pub pipe_complete-kept : (id : ℕ) (f g : FwState) → FirmwareInvariant f → pipe_complete f id ≡ Ok g → FirmwareInvariant g
pipe_complete-kept id f g kept is =
    by (find (λ p. p.id == id) f.graph.pipes) (pass (not (is_used f.graph id)) no_device (complete_pipe f id (find (λ p. p.id == id) f.graph.pipes)) g is).1
  where
    new : FwState
    new = record f { graph = with_pipes (map (completed id) f.graph.pipes) f.graph }

    by : (o : Option Pipe) → complete_pipe f id o ≡ Ok g → FirmwareInvariant g
    by None e = absurd (cc e)
    by (Some p) e =
        let sched = pass (not (is_used f.graph p.sched)) no_device (cond p.complete (Err busy) (cond (not (has_comp f.graph p.sched)) (Err invalid) (Ok new))) g e in
        let still = pass p.complete busy (cond (not (has_comp f.graph p.sched)) (Err invalid) (Ok new)) g sched.1 in
        done new g (pass (not (has_comp f.graph p.sched)) invalid (Ok new) g still.1).1 (kept-complete f kept id)

-- ---- FREE

pub comp_free-kept : (id : ℕ) (f g : FwState) → FirmwareInvariant f → comp_free f id ≡ Ok g → FirmwareInvariant g
comp_free-kept id f g kept is =
    let new : FwState = without_comp id f in
    let wrong : Bool = not (has_comp f.graph id) || list_any (touches id) f.graph.joins in
    let used = pass (not (is_used f.graph id)) no_device (cond (has_complete_pipe f.graph id) (Err busy) (cond wrong (Err invalid) (Ok new))) g is in
    let still = pass (has_complete_pipe f.graph id) busy (cond wrong (Err invalid) (Ok new)) g used.1 in
    let right = pass wrong invalid (Ok new) g still.1 in
    let parts = or_parts (not (has_comp f.graph id)) (list_any (touches id) f.graph.joins) right.0 in
    done new g right.1 (kept-comp_free f kept id (not-false (has_comp f.graph id) parts.0) parts.1)

pub buffer_free-kept : (id : ℕ) (f g : FwState) → FirmwareInvariant f → buffer_free f id ≡ Ok g → FirmwareInvariant g
buffer_free-kept id f g kept is =
    let new : FwState = without_buffer id f in
    let wrong : Bool = (not (has_edge f.graph id) || is_held f.graph f.streams id) || not (stays (view_of f) (without_edge id f.graph)) in
    let used = pass (not (is_used f.graph id)) no_device (cond (has_complete_pipe f.graph id) (Err busy) (cond wrong (Err invalid) (Ok new))) g is in
    let still = pass (has_complete_pipe f.graph id) busy (cond wrong (Err invalid) (Ok new)) g used.1 in
    let right = pass wrong invalid (Ok new) g still.1 in
    let stay = or_parts (not (has_edge f.graph id) || is_held f.graph f.streams id) (not (stays (view_of f) (without_edge id f.graph))) right.0 in
    let parts = or_parts (not (has_edge f.graph id)) (is_held f.graph f.streams id) stay.0 in
    done new g right.1 (kept-buffer_free f kept id (not-false (has_edge f.graph id) parts.0) parts.1 (not-false (stays (view_of f) (without_edge id f.graph)) stay.1))

pub pipe_free-kept : (id : ℕ) (f g : FwState) → FirmwareInvariant f → pipe_free f id ≡ Ok g → FirmwareInvariant g
pipe_free-kept id f g kept is =
    by (find (λ p. p.id == id) f.graph.pipes) refl (pass (not (is_used f.graph id)) no_device (free_pipe f id (find (λ p. p.id == id) f.graph.pipes)) g is).1
  where
    by : (o : Option Pipe) → find (λ p. p.id == id) f.graph.pipes ≡ o → free_pipe f id o ≡ Ok g → FirmwareInvariant g
    by None found e = absurd (cc e)
    by (Some p) found e =
        let free = pass (is_index_held f.graph f.streams p.index) invalid (Ok (without_pipe id f)) g e in
        done (without_pipe id f) g free.1 (kept-pipe_free f kept id p found free.0)

-- ---- SET_VALUE and GET_VALUE, SET_DATA and GET_DATA

-- values set nothing at an equaliser, so what they set at no volume keeps no numbers
new-other : (kind : Kind) (old : Setting) (command : ℕ) (values : List ℕ) (setting : Setting) → new_setting kind old command values ≡ Some setting → is_volume kind ≡ false → keeps_numbers kind ≡ false
new-other Eq old command values setting is other = absurd (cc is)
new-other Volume old command values setting is other = absurd (true≢false other)
new-other kind old command values setting is other = refl

pub values-other : (found : Option Comp) (command : ℕ) (values : List ℕ) (setting : Setting) → option_and_then (λ (c : Comp). new_setting c.kind c.setting command values) found ≡ Some setting → option_map_or (λ (x : Comp). is_volume x.kind) found false ≡ false → option_map_or (λ (x : Comp). keeps_numbers x.kind) found false ≡ false
values-other None command values setting is other = absurd (cc is)
values-other (Some c) command values setting is other = new-other c.kind c.setting command values setting is other

pub set_value-kept : (id command : ℕ) (values : List ℕ) (f g : FwState) → FirmwareInvariant f → set_value f id command values ≡ Ok g → FirmwareInvariant g
set_value-kept id command values f g kept is =
    by (option_and_then (λ c. new_setting c.kind c.setting command values) (comp_of f.graph id)) refl
    (pass (not (is_used f.graph id)) no_device (value_set f id (option_and_then (λ c. new_setting c.kind c.setting command values) (comp_of f.graph id))) g is).1
  where
    by : (o : Option Setting) → option_and_then (λ c. new_setting c.kind c.setting command values) (comp_of f.graph id) ≡ o → value_set f id o ≡ Ok g → FirmwareInvariant g
    by None named e = absurd (cc e)
    by (Some setting) named e = by_kind (is_of f.graph is_volume id) refl e
      where
        right : (c : Comp) → comp_of f.graph id ≡ Some c → IsSettingOf c.kind setting
        right = values-fit f.graph id command values setting kept.settings named

        by_kind : (h : Bool) → is_of f.graph is_volume id ≡ h → ◌≡◌ {A = Result FwState ℤ} (Ok (cond h (seen (with_setting_at f id setting) (Some id) f) (record f { graph = (with_setting_at f id setting).graph }))) (Ok g) → FirmwareInvariant g
        by_kind true volume is = done (seen (with_setting_at f id setting) (Some id) f) g is (kept-marked f kept id setting right (values-many f.graph id command values setting kept.settings named))
        by_kind false other is = done (record f { graph = (with_setting_at f id setting).graph }) g is (kept-setting f kept id setting right (values-other (comp_of f.graph id) command values setting named other))

pub get_value-kept : (id command : ℕ) (f g : FwState) → FirmwareInvariant f → get_value f id command ≡ Ok g → FirmwareInvariant g
get_value-kept id command f g kept is =
    let used = pass (not (is_used f.graph id)) no_device (cond (not (is_some (control_values_at f.graph id command))) (Err invalid) (Ok f)) g is in
    done f g (pass (not (is_some (control_values_at f.graph id command))) invalid (Ok f) g used.1).1 kept

-- a last part whose bytes are a blob
none-of : {X : Type 0} (o : Option X) → is_none o ≡ true → o ≡ None
none-of None is = refl
none-of (Some x) is = absurd (true≢false (sym is))

pub part_staged-kept : (id : ℕ) (part : Part) → IsPart part → (f g : FwState) → FirmwareInvariant f → has_kind is_equaliser (kind_at f.graph id) ≡ true → keeps_order (staging_at f id) part ≡ true → part_staged f id (staged_bytes (staging_at f id) part) part ≡ Ok g → FirmwareInvariant g
part_staged-kept id part are f g kept equaliser order is = by (part.remaining == 0) refl is
  where
    found : (s : Staging) → staging_at f id ≡ Some s → IsStaged f.graph s
    found s is = staged-found f.graph id f.staging kept.staging s is

    by : (h : Bool) → (part.remaining == 0) ≡ h → cond (not h) (Ok (with_staged id (staged_bytes (staging_at f id) part) part f)) (cond (not (is_blob (staged_bytes (staging_at f id) part))) (Err invalid) (Ok (blob_installed id (staged_bytes (staging_at f id) part) f))) ≡ Ok g → FirmwareInvariant g
    by true last e =
        let whole = pass (not (is_blob (staged_bytes (staging_at f id) part))) invalid (Ok (blob_installed id (staged_bytes (staging_at f id) part) f)) g e in
        done (blob_installed id (staged_bytes (staging_at f id) part) f) g whole.1
        (kept-blob f kept id (staged_bytes (staging_at f id) part) equaliser
        (blob-from_no_fault (staged_bytes (staging_at f id) part) (staged-bytes f.graph id part are (staging_at f id) found) (none-of (blob_fault (staged_bytes (staging_at f id) part)) (not-false (is_blob (staged_bytes (staging_at f id) part)) whole.0))))
    by false more e = done (with_staged id (staged_bytes (staging_at f id) part) part f) g e (kept-staged f kept (record { eq = id; bytes = staged_bytes (staging_at f id) part; next = part.index + 1; remaining = part.remaining }) (staged-more f.graph id part are (staging_at f id) found equaliser order more))

pub set_data-kept : (id : ℕ) (part : Part) → IsPart part → (f g : FwState) → FirmwareInvariant f → set_data f id part ≡ Ok g → FirmwareInvariant g
set_data-kept id part are f g kept is =
    let rest : Result FwState ℤ = part_staged f id (staged_bytes (staging_at f id) part) part in
    let wrong : Bool = not (has_kind is_equaliser (kind_at f.graph id)) || not (keeps_order (staging_at f id) part) in
    let used = pass (not (is_used f.graph id)) no_device (cond wrong (Err invalid) rest) g is in
    let right = pass wrong invalid rest g used.1 in
    let tests = or_parts (not (has_kind is_equaliser (kind_at f.graph id))) (not (keeps_order (staging_at f id) part)) right.0 in
    part_staged-kept id part are f g kept (not-false (has_kind is_equaliser (kind_at f.graph id)) tests.0) (not-false (keeps_order (staging_at f id) part) tests.1) right.1

pub get_data-kept : (id index : ℕ) (f g : FwState) → FirmwareInvariant f → get_data f id index ≡ Ok g → FirmwareInvariant g
get_data-kept id index f g kept is =
    let used = pass (not (is_used f.graph id)) no_device (cond (not (is_some (part_at f.graph id index))) (Err invalid) (Ok f)) g is in
    done f g (pass (not (is_some (part_at f.graph id index))) invalid (Ok f) g used.1).1 kept

-- ---- PCM_PARAMS, PCM_FREE and the triggers

pub pcm_params-kept : (host direction : ℕ) (p : Params) → is_channels p.channels ≡ true → (f g : FwState) → FirmwareInvariant f → pcm_params f host direction p ≡ Ok g → FirmwareInvariant g
pcm_params-kept host direction p few f g kept is =
    let new : FwState = seen (with_params f host p) None f in
    let wrong : Bool = is_refused_params (view_of f) host direction p (is_stream_phase is_live_phase (phase_at f host)) in
    let used = pass (not (is_used f.graph host)) no_device (cond wrong (Err invalid) (Ok new)) g is in
    let right = pass wrong invalid (Ok new) g used.1 in
    let tests = params-pass (has_kind (λ kind. goes kind direction) (kind_at f.graph host)) (is_stream_phase is_live_phase (phase_at f host)) (is_rate p.rate) (is_way_ready f.graph host) (crosses f.graph) (agree (with_params f host p)) right.0 in
    let bounds = and_parts (nat_le 1 p.channels) (nat_le p.channels 8) few in
    done new g right.1 (kept-streams f kept (set_stream host Prepared (Some p)) (keeps-params host p f.streams kept.played.hosts tests.1)
    (played-params f.graph host p f.streams (leb-true 1 p.channels bounds.0, leb-true p.channels 8 bounds.1) tests.2 tests.3 tests.4 kept.played))

pub pcm_free-kept : (host : ℕ) (f g : FwState) → FirmwareInvariant f → pcm_free f host ≡ Ok g → FirmwareInvariant g
pcm_free-kept host f g kept is =
    let new : FwState = seen (record { graph = f.graph; streams = map (set_stream host Idle None) f.streams }) None f in
    let wrong : Bool = not (has_kind is_host (kind_at f.graph host) && is_stream_phase is_prepared (phase_at f host)) in
    let used = pass (not (is_used f.graph host)) no_device (cond wrong (Err invalid) (Ok new)) g is in
    let right = pass wrong invalid (Ok new) g used.1 in
    let tests = not-both (has_kind is_host (kind_at f.graph host)) (is_stream_phase is_prepared (phase_at f host)) right.0 in
    done new g right.1 (kept-streams f kept (set_stream host Idle None) (keeps-free host f.streams kept.played.hosts tests.1) (played-free f.graph host f.streams kept.played))

-- a stream that is moved on from a phase of those that have parameters
awake : (from : Phase → Bool) → ((p : Phase) → from p ≡ true → not (is_idle p) ≡ true) → (o : Option Phase) → is_stream_phase from o ≡ true → is_stream_phase (λ p. not (is_idle p)) o ≡ true
awake from leaves None e = e
awake from leaves (Some p) e = leaves p e

pub trigger-kept : (host : ℕ) (from : Phase → Bool) (to : Phase) → ((p : Phase) → from p ≡ true → not (is_idle p) ≡ true) → is_idle to ≡ false → (f g : FwState) → FirmwareInvariant f → trigger f host from to ≡ Ok g → FirmwareInvariant g
trigger-kept host from to leaves stays f g kept is =
    let new : FwState = seen (record { graph = f.graph; streams = map (set_phase host to) f.streams }) None f in
    let wrong : Bool = not (has_kind is_host (kind_at f.graph host) && is_stream_phase from (phase_at f host)) in
    let used = pass (not (is_used f.graph host)) no_device (cond wrong (Err invalid) (Ok new)) g is in
    let right = pass wrong invalid (Ok new) g used.1 in
    let tests = not-both (has_kind is_host (kind_at f.graph host)) (is_stream_phase from (phase_at f host)) right.0 in
    done new g right.1 (kept-streams f kept (set_phase host to) (keeps-phase host to f.streams) (played-phase f.graph host to f.streams stays (awake from leaves (phase_at f host) tests.1) kept.played))

pub leaves-prepared : (p : Phase) → is_prepared p ≡ true → not (is_idle p) ≡ true
leaves-prepared Idle e = absurd (true≢false (sym e))
leaves-prepared Prepared e = refl
leaves-prepared Running e = refl
leaves-prepared Paused e = refl

pub leaves-moving : (p : Phase) → is_live_phase p ≡ true → not (is_idle p) ≡ true
leaves-moving Idle e = absurd (true≢false (sym e))
leaves-moving Prepared e = refl
leaves-moving Running e = refl
leaves-moving Paused e = refl

pub leaves-running : (p : Phase) → is_running_phase p ≡ true → not (is_idle p) ≡ true
leaves-running Idle e = absurd (true≢false (sym e))
leaves-running Prepared e = refl
leaves-running Running e = refl
leaves-running Paused e = refl

pub leaves-paused : (p : Phase) → is_paused p ≡ true → not (is_idle p) ≡ true
leaves-paused Idle e = absurd (true≢false (sym e))
leaves-paused Prepared e = refl
leaves-paused Running e = refl
leaves-paused Paused e = refl

-- ---- all rows

pub ctx_save-kept : (f g : FwState) → FirmwareInvariant f → ◌≡◌ {A = Result FwState ℤ} (Ok f) (Ok g) → FirmwareInvariant g
ctx_save-kept f g kept is = done f g is kept

pub row-kept : (m : Message) → IsAllowed m → HasBytes m → (f g : FwState) → FirmwareInvariant f → row f m ≡ Ok g → FirmwareInvariant g
row-kept (messages.CompNew id pipe periods_sink periods_source frame_fmt kind) allowed bytes f g kept is = comp_new-kept id pipe (kind_of kind frame_fmt) (first_setting kind) (first_ramp kind) (first-fits kind frame_fmt allowed) (first-ramps kind frame_fmt) f g kept is
row-kept (messages.CompFree id) allowed bytes f g kept is = comp_free-kept id f g kept is
row-kept (messages.BufferNew id pipe size caps) allowed bytes f g kept is = buffer_new-kept id pipe size allowed f g kept is
row-kept (messages.BufferFree id) allowed bytes f g kept is = buffer_free-kept id f g kept is
row-kept (messages.PipeNew id pipe sched period priority mips frames time_domain) allowed bytes f g kept is = pipe_new-kept id pipe sched period allowed f g kept is
row-kept (messages.PipeFree id) allowed bytes f g kept is = pipe_free-kept id f g kept is
row-kept (messages.Connect source sink) allowed bytes f g kept is = connect-kept source sink f g kept is
row-kept (messages.PipeComplete id) allowed bytes f g kept is = pipe_complete-kept id f g kept is
row-kept (messages.SetValue id command values) allowed bytes f g kept is = set_value-kept id command values f g kept is
row-kept (messages.GetValue id command) allowed bytes f g kept is = get_value-kept id command f g kept is
row-kept (messages.SetData id part) allowed bytes f g kept is = set_data-kept id part (record { long = allowed.0; header = bytes.0; bytes = bytes.1 }) f g kept is
row-kept (messages.GetData id index) allowed bytes f g kept is = get_data-kept id index f g kept is
row-kept (messages.PcmParams host direction params) allowed bytes f g kept is = pcm_params-kept host direction params allowed.1 f g kept is
row-kept (messages.PcmFree id) allowed bytes f g kept is = pcm_free-kept id f g kept is
row-kept (messages.TrigStart id) allowed bytes f g kept is = trigger-kept id is_prepared Running leaves-prepared refl f g kept is
row-kept (messages.TrigStop id) allowed bytes f g kept is = trigger-kept id is_live_phase Prepared leaves-moving refl f g kept is
row-kept (messages.TrigPause id) allowed bytes f g kept is = trigger-kept id is_running_phase Paused leaves-running refl f g kept is
row-kept (messages.TrigRelease id) allowed bytes f g kept is = trigger-kept id is_paused Running leaves-paused refl f g kept is
row-kept messages.CtxSave allowed bytes f g kept is = ctx_save-kept f g kept is

-- the step of bytes that are decoded to messages none of whose words is refused
pub step-kept : (f : FwState) (request : List ℕ) → IsBytes request → ((m : Message) → decoded request ≡ Ok m → IsMessage m × Means request m) → FirmwareInvariant f → FirmwareInvariant (step f request).0
unfolding step
step-kept f request bytes means kept = by (decoded request) refl
  where
    after : (m : Message) → IsAllowed m → HasBytes m → (o : Result FwState ℤ) → row f m ≡ o → FirmwareInvariant (replied f (body f m) o).0
    after m allowed carried (Ok g) is = row-kept m allowed carried f g kept is
    after m allowed carried (Err e) is = kept

    by : (d : Result Message CodecFault) → decoded request ≡ d → FirmwareInvariant (replied f (body_of f d) (row_of f d)).0
    by (Ok m) is = after m (means m is).0.1 (means-bytes request m bytes (means m is).1) (row f m) refl
    by (Err fault) is = kept
