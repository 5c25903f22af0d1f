-- What the step of bytes leaves and answers depends on no audio: no row looks at the clock, at frames or at equalisers' numbers.
use Rattle.std.proofs.Common.{◌≡◌, ◌==◌, ℕ, Bool, true, false, List, Option, Some, None, Result, Ok, Err, cond, refl, ap, subst}
use Rattle.std.specs.Prelude.{find, ℤ, not, ◌||◌, option_and_then}
use Rattle.sof_base.specs.Ports.{Io}
use Rattle.sof_base.specs.declared.part.Part.{Part}
use Rattle.stream_law.specs.declared.graph.Pipe.{Pipe}
use Rattle.stream_law.specs.declared.graph.Setting.{Setting}
use Rattle.stream_law.specs.State.{FwState, View, RingView, History}
use Rattle.stream_law.specs.Ways.{comp_of, is_of}
use Rattle.ipc3_model.specs.declared.message.Message.{Message}
use Rattle.ipc3_model.specs.declared.message.Message.TheVariants as messages
use Rattle.ipc3_model.specs.declared.reply.Body.{Body}
use Rattle.ipc3_model.specs.declared.fault.CodecFault.{CodecFault}
use Rattle.ipc3_model.specs.Messages.{decoded}
use Rattle.mbox_link.specs.Step.{row, row_of, body, body_of, replied, step, no_device, invalid, is_used, has_kind, kind_at, complete_pipe, free_pipe, new_setting, with_setting_at, value_set, keeps_order, staging_at, staged_bytes, part_staged}
use Rattle.stream_law.specs.Seen.{seen, is_volume, is_equaliser}
use Rattle.mbox_link.specs.Exchange.{ticked}
use Rattle.ipc3_trace.specs.Steps.{Quiescent, quiescent}

-- a state with what its audio left
abbrev playing : Quiescent → ℕ → List RingView → List History → FwState
playing q clock rings histories = record { heap = q.heap; clock = clock; graph = q.graph; streams = q.streams; rings = rings; histories = histories; staging = q.staging }

-- the result of a row, without audio
unfoldable quieted : Result FwState ℤ → Result Quiescent ℤ
quieted (Ok f) = Ok (quiescent f)
quieted (Err e) = Err e

quieted-cond : (t : Bool) (a b : Result FwState ℤ) → quieted (cond t a b) ≡ cond t (quieted a) (quieted b)
quieted-cond true a b = refl
quieted-cond false a b = refl

quieted-ok : (f : FwState) → quieted (Ok f) ≡ Ok (quiescent f)
unfolding quieted
quieted-ok f = refl

quieted-err : (e : ℤ) → quieted (Err e) ≡ Err e
unfolding quieted
quieted-err e = refl

module _ (q : Quiescent) (c d : ℕ) (rs ss : List RingView) (hs ks : List History) where
  abbrev f : FwState
  f = playing q c rs hs

  abbrev g : FwState
  g = playing q d ss ks

  complete-same : (id : ℕ) (p : Option Pipe) → quieted (complete_pipe f id p) ≡ quieted (complete_pipe g id p)
  complete-same id None = refl
  complete-same id (Some p) = simp (quieted-cond, quieted-ok, quieted-err)

  free-same : (id : ℕ) (p : Option Pipe) → quieted (free_pipe f id p) ≡ quieted (free_pipe g id p)
  free-same id None = refl
  free-same id (Some p) = simp (quieted-cond, quieted-ok, quieted-err)

  -- gains come in force with a mark at a volume, and a choice without one: both leave one graph
  set-same : (t : Bool) (id : ℕ) (v : View) → quieted (Ok (cond t (seen v (Some id) f) (record f { graph = v.graph }))) ≡ quieted (Ok (cond t (seen v (Some id) g) (record g { graph = v.graph })))
  unfolding quieted
  set-same true id v = refl
  set-same false id v = refl

  value-same : (id : ℕ) (setting : Option Setting) → quieted (value_set f id setting) ≡ quieted (value_set g id setting)
  value-same id None = refl
  value-same id (Some setting) = set-same (is_of q.graph is_volume id) id (with_setting_at f id setting)

  part-same : (id : ℕ) (bytes : List ℕ) (part : Part) → quieted (part_staged f id bytes part) ≡ quieted (part_staged g id bytes part)
  part-same id bytes part = simp (quieted-cond, quieted-ok, quieted-err)

  -- after a test that is one for both
  behind : (t : Bool) (e : ℤ) (a b : Result FwState ℤ) → quieted a ≡ quieted b → quieted (cond t (Err e) a) ≡ quieted (cond t (Err e) b)
  behind true e a b h = refl
  behind false e a b h = h

  row-same : (m : Message) → quieted (row f m) ≡ quieted (row g m)
  row-same (messages.CompNew id pipe periods_sink periods_source frame_fmt kind) = simp (quieted-cond, quieted-ok, quieted-err)
  row-same (messages.CompFree id) = simp (quieted-cond, quieted-ok, quieted-err)
  row-same (messages.BufferNew id pipe size caps) = simp (quieted-cond, quieted-ok, quieted-err)
  row-same (messages.BufferFree id) = simp (quieted-cond, quieted-ok, quieted-err)
  row-same (messages.PipeNew id pipe sched period priority mips frames time_domain) = simp (quieted-cond, quieted-ok, quieted-err)
  row-same (messages.PipeFree id) =
      behind (not (is_used q.graph id)) no_device _ _ (free-same id (find (λ p. p.id == id) q.graph.pipes))
  row-same (messages.Connect source sink) = simp (quieted-cond, quieted-ok, quieted-err)
  row-same (messages.PipeComplete id) =
      behind (not (is_used q.graph id)) no_device _ _ (complete-same id (find (λ p. p.id == id) q.graph.pipes))
  row-same (messages.SetValue id command values) =
      behind (not (is_used q.graph id)) no_device _ _ (value-same id (option_and_then (λ c. new_setting c.kind c.setting command values) (comp_of q.graph id)))
  row-same (messages.GetValue id command) = simp (quieted-cond, quieted-ok, quieted-err)
  row-same (messages.SetData id part) =
      behind (not (is_used q.graph id)) no_device _ _
      (behind (not (has_kind is_equaliser (kind_at q.graph id)) || not (keeps_order (staging_at f id) part)) invalid _ _ (part-same id (staged_bytes (staging_at f id) part) part))
  row-same (messages.GetData id index) = simp (quieted-cond, quieted-ok, quieted-err)
  row-same (messages.PcmParams host direction params) = simp (quieted-cond, quieted-ok, quieted-err)
  row-same (messages.PcmFree id) = simp (quieted-cond, quieted-ok, quieted-err)
  row-same (messages.TrigStart id) = simp (quieted-cond, quieted-ok, quieted-err)
  row-same (messages.TrigStop id) = simp (quieted-cond, quieted-ok, quieted-err)
  row-same (messages.TrigPause id) = simp (quieted-cond, quieted-ok, quieted-err)
  row-same (messages.TrigRelease id) = simp (quieted-cond, quieted-ok, quieted-err)
  row-same messages.CtxSave = simp quieted-ok

  body-same : (m : Message) → body f m ≡ body g m
  body-same (messages.GetValue id command) = refl
  body-same (messages.GetData id index) = refl
  body-same m = refl

  rows-same : (m : Result Message CodecFault) → quieted (row_of f m) ≡ quieted (row_of g m)
  rows-same (Ok m) = row-same m
  rows-same (Err fault) = refl

  bodies-same : (m : Result Message CodecFault) → body_of f m ≡ body_of g m
  bodies-same (Ok m) = body-same m
  bodies-same (Err fault) = refl

-- what a step leaves without audio, and its reply
abbrev pub Ends : FwState × List ℕ → FwState × List ℕ → Type 0
Ends a b = (quiescent a.0 ≡ quiescent b.0) × (a.1 ≡ b.1)

replied-same : (f g : FwState) (said : Body) (a b : Result FwState ℤ) → quiescent f ≡ quiescent g → quieted a ≡ quieted b → Ends (replied f said a) (replied g said b)
unfolding quieted
replied-same f g said (Ok a) (Ok b) same e = (cc, refl)
replied-same f g said (Ok a) (Err e) same h = absurd (cc h)
replied-same f g said (Err e) (Ok b) same h = absurd (cc h)
replied-same f g said (Err d) (Err e) same h = let is : d ≡ e = cc in (same, ap (λ (x : ℤ). (replied f said (Err x)).1) is)

played-same : (q : Quiescent) (c d : ℕ) (rs ss : List RingView) (hs ks : List History) (request : List ℕ) → Ends (step (playing q c rs hs) request) (step (playing q d ss ks) request)
unfolding step
played-same q c d rs ss hs ks request =
    let f = playing q c rs hs in
    let g = playing q d ss ks in
    let m = decoded request in
    subst (λ (said : Body). Ends (replied f (body_of f m) (row_of f m)) (replied g said (row_of g m))) (bodies-same q c d rs ss hs ks m)
    (replied-same f g (body_of f m) (row_of f m) (row_of g m) refl (rows-same q c d rs ss hs ks m))

-- the step of bytes, from states that are alike
pub step-alike : (f g : FwState) (request : List ℕ) → quiescent f ≡ quiescent g → Ends (step f request) (step g request)
step-alike f g request e =
    subst (λ (q : Quiescent). Ends (step f request) (step (playing q g.clock g.rings g.histories) request)) e
    (played-same (quiescent f) f.clock g.clock f.rings g.rings f.histories g.histories request)

-- a tick leaves all but audio as it was, whatever the endpoints hold
pub tick-alike : (f g : FwState) (io jo : Io) → quiescent f ≡ quiescent g → quiescent (ticked (f, io)).0 ≡ quiescent (ticked (g, jo)).0
tick-alike f g io jo e = e
