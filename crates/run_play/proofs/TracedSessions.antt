-- A session over a tracer is a session over the tracer's device.
use Rattle.std.proofs.Common.{◌≡◌, refl, sym, subst, ap, ℕ, replicate, Bool, true, false, List, [], ◌∷◌, ◌++◌, Option, Some, None}
use Rattle.stream_law.specs.State.{View}
use Rattle.ipc3_model.specs.Messages.{message_spelling}
use Rattle.mbox_link.specs.declared.fates.Fate.{Fate}
use Rattle.mbox_link.specs.declared.fates.Fate.TheVariants.{Pass, Refuse, Drop, Lose}
use Rattle.mbox_link.specs.Calls as calls
use Rattle.mbox_link.specs.Calls.{World, Meaning, Call, Did, Led, Quiet, Steady, Exchanged, Tick}
use Rattle.mbox_link.specs.Meetings.{Meeting}
use Rattle.mbox_link.specs.Wire.{Wire}
use Rattle.mbox_link.specs.Link.{link, inner, Met, MetLate, next_fate, next_lag}
use Rattle.tplg_plan.specs.declared.plans.Plan.{Plan}
use Rattle.host_widgets.specs.declared.answers.Answer.{Answer}
use Rattle.host_widgets.specs.declared.answers.HostFault.{HostFault}
use Rattle.host_widgets.specs.declared.kept.Power.{Power}
use Rattle.host_widgets.specs.declared.kept.Power.TheVariants.{Unloaded}
use Rattle.host_widgets.specs.declared.kept.Record.{Record}
use Rattle.host_widgets.specs.Host.{Outcome, SidesBy}
use Rattle.host_widgets.specs.ActRules.{ActRules}
use Rattle.host_widgets.specs.OneAct.{one_act}
use Rattle.host_widgets.specs.Walk.{Walked, goes_past, walk}
use Rattle.host_widgets.specs.ActCalls.{ActDid, ActsDid, Counted, Onwards, calls_of, next_of}
use Rattle.host_widgets.specs.Routines.{Routine, Finished, Sending, Job, JobDone, RoutineDid}
use Rattle.ipc3_trace.specs.Tracing.{Traced, tracer, traced}
use Rattle.ipc3_trace.proofs.HeldLaws.{tracer-is-device}
use Rattle.sof_script.specs.declared.script.Command.{Command}
use Rattle.sof_session.specs.SessionView.{SessionView}
use Rattle.sof_session.specs.Agreement.{AreAgreed, Powered, PoweredBy, expected_in}
use Rattle.sof_session.specs.CommandRules.{CommandRules}
use Rattle.sof_session.specs.Commands.{command_rules, is_plan}
use Rattle.sof_session.specs.Modes.{made_at_load, CommandDoneIn, DoneWith, SteppedBy}
use Rattle.mbox_link.specs.Meetings.{Doing}
use Rattle.sof_session.specs.SessionStep.{Calm, CallsBy, CommandDone}
use Rattle.sof_session.specs.Lives.{Life, Bare, Seated}
use Rattle.run_play.specs.StepCalls.{met_calls, exchange_calls, calls_onwards, acts_calls, routine_calls, calls_by, command_calls, done_calls, step_calls}

-- ---- without the records

abbrev pub bare_wire : {P : Type 0} → Wire (Traced P) → Wire P
bare_wire l = record { device = l.device.device; entries = l.entries; sent = l.sent; dropped = l.dropped; refused = l.refused }

abbrev pub bare_world : {P : Type 0} → World (Wire (Traced P)) → World (Wire P)
bare_world w = record { device = bare_wire w.device; io = w.io }

abbrev pub bare_seat : {P : Type 0} → SessionView (Traced P) → SessionView P
bare_seat seat = record { link = bare_wire seat.link; kept = seat.kept; plan = seat.plan; heap = seat.heap; up = seat.up }

abbrev pub bare_life : {P : Type 0} → Life (Traced P) → Life P
bare_life (Bare dsp) = Bare dsp.device
bare_life (Seated seat inputs slots) = Seated (bare_seat seat) inputs slots

module _ {P : Type 0} (means : Meaning P) where
  -- ---- what calls keep

  quiet-bare : (a b : Wire (Traced P)) → Quiet (link (tracer means)) a b → Quiet (link means) (bare_wire a) (bare_wire b)
  quiet-bare a b q = record { faults = q.faults; refusals = q.refusals; pending = q.pending; most = q.most }

  steady-bare : (a b : Wire (Traced P)) → Steady (link (tracer means)) a b → Steady (link means) (bare_wire a) (bare_wire b)
  steady-bare a b s = record { faults = s.faults; refusals = s.refusals; boots = s.boots; pending = s.pending; most = s.most }

  pub calm-bare : (a b : Traced P) → Calm (tracer means) a b → Calm means a.device b.device
  calm-bare a b calm = record { faults = calm.faults; refusals = calm.refusals }

  pub calm-traced : (a b : Traced P) → Calm means a.device b.device → Calm (tracer means) a b
  calm-traced a b calm = record { faults = calm.faults; refusals = calm.refusals }

  -- ---- a message

  met-bare : (fate : Fate) (request : List ℕ) (answer : Option (List ℕ)) (w v : World (Traced P)) → Met (tracer means) fate request answer w v → Met means fate request answer (traced w) (traced v)
  met-bare Pass request answer w v met = met.did.0
  met-bare (Refuse e) request answer w v met = (met.0, ap (λ (x : World (Traced P)). traced x) met.1)
  met-bare Drop request answer w v met = (met.0, ap (λ (x : World (Traced P)). traced x) met.1)
  met-bare Lose request answer w v met = (met.0, met.1, met.2.did.0)

  late-bare : (lag : ℕ) (fate : Fate) (request : List ℕ) (answer : Option (List ℕ)) (w v : World (Traced P)) → MetLate (tracer means) lag fate request answer w v → MetLate means lag fate request answer (traced w) (traced v)
  late-bare lag fate request answer w v late =
      (traced late.0, (tracer-is-device means w late.0 (replicate lag Tick) late.1).0, met-bare fate request answer late.0 v late.2)

  exchange-bare : (request : List ℕ) (answer : Option (List ℕ)) (w v : World (Wire (Traced P))) → Exchanged (link (tracer means)) request answer w v → Exchanged (link means) request answer (bare_world w) (bare_world v)
  exchange-bare request answer w v x = record {
    did = (late-bare (next_lag w.device) (next_fate w.device) request answer (inner w) (inner v) x.did.0, ap bare_wire x.did.1);
    step = x.step;
    room = x.room;
    moves = x.moves;
    boots = x.boots;
    steady = steady-bare w.device v.device x.steady;
  }

  -- its calls on the device are the tracer's
  met-same : (fate : Fate) (request : List ℕ) (answer : Option (List ℕ)) (w v : World (Traced P)) (met : Met (tracer means) fate request answer w v) →
      met_calls means fate request answer (traced w) (traced v) (met-bare fate request answer w v met) ≡ met_calls (tracer means) fate request answer w v met
  unfolding met-bare
  met-same Pass request answer w v met = refl
  met-same (Refuse e) request answer w v met = refl
  met-same Drop request answer w v met = refl
  met-same Lose request answer w v met = refl

  exchange-same : (request : List ℕ) (answer : Option (List ℕ)) (w v : World (Wire (Traced P))) (x : Exchanged (link (tracer means)) request answer w v) →
      exchange_calls means request answer (bare_world w) (bare_world v) (exchange-bare request answer w v x) ≡ exchange_calls (tracer means) request answer w v x
  unfolding exchange-bare late-bare
  exchange-same request answer w v x =
      ap (λ (cs : List Call). replicate (next_lag w.device) Tick ++ cs) (met-same (next_fate w.device) request answer x.did.0.0 (inner v) x.did.0.2)

  -- ---- any call

  did-bare : (call : Call) (w v : World (Wire (Traced P))) → Did (link (tracer means)) call w v → Did (link means) call (bare_world w) (bare_world v)
  did-bare (calls.Boot heap) w v d = (
    record { did = (d.0.did.0.did.0, ap bare_wire d.0.did.1); on = d.0.on; boots = d.0.boots; no_fewer = d.0.no_fewer; quiet = quiet-bare w.device v.device d.0.quiet },
    d.1,
  )
  did-bare calls.Cut w v d = (
    record { did = (d.0.did.0.did.0, ap bare_wire d.0.did.1); on = d.0.on; boots = d.0.boots; quiet = quiet-bare w.device v.device d.0.quiet },
    d.1,
  )
  did-bare (calls.Exchange request answer) w v d = exchange-bare request answer w v d
  did-bare calls.Tick w v d = record {
    did = (d.did.0.did.0, ap bare_wire d.did.1);
    on = d.on;
    off = d.off;
    room = d.room;
    moves = d.moves;
    boots = d.boots;
    quiet = quiet-bare w.device v.device d.quiet;
  }

  led-bare : (cs : List Call) (w v : World (Wire (Traced P))) → Led (link (tracer means)) w cs v → Led (link means) (bare_world w) cs (bare_world v)
  led-bare [] w v led = ap (λ (x : World (Wire (Traced P))). bare_world x) led
  led-bare (call ∷ cs) w v led = (bare_world led.0, did-bare call w led.0 led.1, led-bare cs led.0 v led.2)

  -- ---- acts

  counted-bare : (fate : Fate) (a b : Wire (Traced P)) → Counted (link (tracer means)) fate a b → Counted (link means) fate (bare_wire a) (bare_wire b)
  counted-bare Pass a b c = tt
  counted-bare fate a b c = c

  module _ {S A : Type 0} (rules : ActRules S A) where
    act-bare : (kept : S) (act : A) (m : Meeting) (w v : World (Wire (Traced P))) → ActDid (link (tracer means)) rules kept act m w v → ActDid (link means) rules kept act m (bare_world w) (bare_world v)
    act-bare kept act m w v did = record {
      on = did.on;
      message = did.message;
      answer = did.answer;
      exchanged = exchange-bare (message_spelling (rules.message act)) did.answer w v did.exchanged;
      lag = did.lag;
      counted = counted-bare m.fate w.device v.device did.counted;
      came = did.came;
    }

    onwards-bare : (b : Bool) (ms : List Meeting) (w v : World (Wire (Traced P))) (R B : Type 0) → (R → B) → Onwards b ms w v R → Onwards b ms (bare_world w) (bare_world v) B
    onwards-bare true ms w v R B bare on = bare on
    onwards-bare false ms w v R B bare on = (on.0, ap (λ (x : World (Wire (Traced P))). bare_world x) on.1)

    acts-bare : (goes_on : Bool) (acts : List A) (ms : List Meeting) (kept : S) (w v : World (Wire (Traced P))) → ActsDid (link (tracer means)) rules goes_on kept acts ms w v → ActsDid (link means) rules goes_on kept acts ms (bare_world w) (bare_world v)
    acts-bare goes_on [] ms kept w v did = (did.0, ap (λ (x : World (Wire (Traced P))). bare_world x) did.1)
    acts-bare goes_on (act ∷ acts) [] kept w v did = absurd did
    acts-bare goes_on (act ∷ acts) (m ∷ ms) kept w v did =
        let a = one_act rules kept act m in (
          bare_world did.0,
          act-bare kept act m w did.0 did.1,
          onwards-bare (goes_past goes_on a.outcome) ms did.0 v (ActsDid (link (tracer means)) rules goes_on a.kept acts ms did.0 v)
              (ActsDid (link means) rules goes_on a.kept acts ms (bare_world did.0) (bare_world v)) (acts-bare goes_on acts ms a.kept did.0 v) did.2,
        )

    onwards-same : (b : Bool) (ms : List Meeting) (w v : World (Wire (Traced P))) (R B : Type 0) (bare : R → B) (mine : R → List Call) (its : B → List Call) → ((on : R) → its (bare on) ≡ mine on) → (on : Onwards b ms w v R) →
        calls_onwards b ms (bare_world w) (bare_world v) B its (onwards-bare b ms w v R B bare on) ≡ calls_onwards b ms w v R mine on
    unfolding onwards-bare
    onwards-same true ms w v R B bare mine its same on = same on
    onwards-same false ms w v R B bare mine its same on = refl

    acts-same : (goes_on : Bool) (acts : List A) (ms : List Meeting) (kept : S) (w v : World (Wire (Traced P))) (did : ActsDid (link (tracer means)) rules goes_on kept acts ms w v) →
        acts_calls means rules goes_on kept acts ms (bare_world w) (bare_world v) (acts-bare goes_on acts ms kept w v did) ≡ acts_calls (tracer means) rules goes_on kept acts ms w v did
    unfolding acts-bare act-bare
    acts-same goes_on [] ms kept w v did = refl
    acts-same goes_on (act ∷ acts) [] kept w v did = absurd did
    acts-same goes_on (act ∷ acts) (m ∷ ms) kept w v did =
        let a = one_act rules kept act m in
        let first = exchange-same (message_spelling (rules.message act)) did.1.answer w did.0 did.1.exchanged in
        let later = onwards-same (goes_past goes_on a.outcome) ms did.0 v (ActsDid (link (tracer means)) rules goes_on a.kept acts ms did.0 v)
        (ActsDid (link means) rules goes_on a.kept acts ms (bare_world did.0) (bare_world v)) (acts-bare goes_on acts ms a.kept did.0 v)
        (acts_calls (tracer means) rules goes_on a.kept acts ms did.0 v) (acts_calls means rules goes_on a.kept acts ms (bare_world did.0) (bare_world v)) (acts-same goes_on acts ms a.kept did.0 v) did.2 in
        λ i. first i ++ later i

    -- ---- a job

    routine-bare : (heap : ℕ) (routine : Routine S A) (kept : S) (ms : List Meeting) (w v : World (Wire (Traced P))) → RoutineDid (link (tracer means)) rules heap kept routine ms w v → RoutineDid (link means) rules heap kept routine ms (bare_world w) (bare_world v)
    routine-bare heap (Finished end moments) kept ms w v did = (did.0, led-bare _ w v did.1)
    routine-bare heap (Sending acts goes_on then) kept ms w v (early, late, mid, split, acts_did, rest_did) =
        let now : Walked S A (List Meeting) = walk rules goes_on next_of kept early acts in
        (early, late, bare_world mid, split, acts-bare goes_on acts early kept w mid acts_did, routine-bare heap (then now.kept now.outcome) now.kept late mid v rest_did)

    routine-same : (heap : ℕ) (routine : Routine S A) (kept : S) (ms : List Meeting) (w v : World (Wire (Traced P))) (did : RoutineDid (link (tracer means)) rules heap kept routine ms w v) →
        routine_calls means rules heap kept routine ms (bare_world w) (bare_world v) (routine-bare heap routine kept ms w v did) ≡ routine_calls (tracer means) rules heap kept routine ms w v did
    unfolding routine-bare
    routine-same heap (Finished end moments) kept ms w v did = refl
    routine-same heap (Sending acts goes_on then) kept ms w v (early, late, mid, split, acts_did, rest_did) =
        let now : Walked S A (List Meeting) = walk rules goes_on next_of kept early acts in
        let first = acts-same goes_on acts early kept w mid acts_did in
        let later = routine-same heap (then now.kept now.outcome) now.kept late mid v rest_did in
        λ i. first i ++ later i

    job-bare : (heap : ℕ) (job : Job S A) (kept' : S) (w v : World (Wire (Traced P))) (result : Outcome) → JobDone (link (tracer means)) rules heap job kept' w v result → JobDone (link means) rules heap job kept' (bare_world w) (bare_world v) result
    job-bare heap job kept' w v result j = record {
      meetings = j.meetings;
      begun = bare_world j.begun;
      first = led-bare _ w j.begun j.first;
      did = routine-bare heap job.routine job.from j.meetings j.begun v j.did;
      came = j.came;
      left = j.left;
    }

    calls-bare : (heap : ℕ) (doing : Doing) (job : Job S A) (kept' : S) (w v : World (Wire (Traced P))) (answer : Answer) (planned : Bool) (fault : Option HostFault) →
        CallsBy (tracer means) rules heap doing job kept' w v answer planned fault → CallsBy means rules heap doing job kept' (bare_world w) (bare_world v) answer planned fault
    unfolding job-bare
    calls-bare heap doing job kept' w v answer true fault by = (ap (λ (t : Traced P). t.device) by.0, by.1)
    calls-bare heap doing job kept' w v answer false (Some fault) by = ap (λ (x : World (Wire (Traced P))). bare_world x) by
    calls-bare heap doing job kept' w v answer false None by = (by.0, job-bare heap job kept' w v by.0 by.1, by.2, by.3)

    calls-same : (heap : ℕ) (doing : Doing) (job : Job S A) (kept' : S) (w v : World (Wire (Traced P))) (answer : Answer) (planned : Bool) (fault : Option HostFault)
        (by : CallsBy (tracer means) rules heap doing job kept' w v answer planned fault) →
        calls_by means rules heap doing job kept' (bare_world w) (bare_world v) answer planned fault (calls-bare heap doing job kept' w v answer planned fault by)
        ≡ calls_by (tracer means) rules heap doing job kept' w v answer planned fault by
    unfolding calls-bare job-bare
    calls-same heap doing job kept' w v answer true fault by = refl
    calls-same heap doing job kept' w v answer false (Some fault) by = refl
    calls-same heap doing job kept' w v answer false None by =
        ap (λ (cs : List Call). calls_of heap job.first ++ cs) (routine-same heap job.routine job.from by.1.meetings by.1.begun v by.1.did)

  -- ---- a command

  pub command-bare : {S A : Type 0} (rules : CommandRules S A) (heap : ℕ) (command : Command) (kept kept' : S) (w v : World (Wire (Traced P))) (answer : Answer) →
      CommandDone (tracer means) rules heap command kept kept' w v answer → CommandDone means rules heap command kept kept' (bare_world w) (bare_world v) answer
  command-bare rules heap command kept kept' w v answer c = record {
    doing = c.doing;
    none = λ calm. c.none (calm-traced w.device.device v.device.device calm);
    known_is = c.known_is;
    answer_is = c.answer_is;
    calls = calls-bare rules.acts heap c.doing (rules.job kept command) kept' w v answer (is_plan command) (rules.fault kept command) c.calls;
    stands = c.stands;
  }

  command-same : {S A : Type 0} (rules : CommandRules S A) (heap : ℕ) (command : Command) (kept kept' : S) (w v : World (Wire (Traced P))) (answer : Answer) (c : CommandDone (tracer means) rules heap command kept kept' w v answer) →
      command_calls means rules heap command kept kept' (bare_world w) (bare_world v) answer (command-bare rules heap command kept kept' w v answer c) ≡ command_calls (tracer means) rules heap command kept kept' w v answer c
  unfolding command-bare
  command-same rules heap command kept kept' w v answer c =
      calls-same rules.acts heap c.doing (rules.job kept command) kept' w v answer (is_plan command) (rules.fault kept command) c.calls

  -- a session's step where all pipelines are made at a load: its calls on the device are the tracer's
  pub stepped-bare : (command : Command) (old new : SessionView (Traced P)) (w v : World (Wire (Traced P))) (answer : Answer) → old.up ≡ None → (c : CommandDoneIn (tracer means) made_at_load command old new w v answer) →
      (s : SteppedBy means command (bare_seat old) (bare_seat new) (bare_world w) (bare_world v) answer)
      × (step_calls means command (bare_seat old) (bare_seat new) (bare_world w) (bare_world v) answer s ≡ command_calls (tracer means) (command_rules old.plan old.heap) old.heap command old.kept new.kept w v answer c.done)
  stepped-bare command old new w v answer none c =
      let did : CommandDoneIn means made_at_load command (bare_seat old) (bare_seat new) (bare_world w) (bare_world v) answer =
      record { done = command-bare (command_rules old.plan old.heap) old.heap command old.kept new.kept w v answer c.done; stays = c.stays } in
      let doing : Doing = did.done.doing in
      let cs : List Call = command_calls (tracer means) (command_rules old.plan old.heap) old.heap command old.kept new.kept w v answer c.done in
      let same : command_calls means (command_rules old.plan old.heap) old.heap command old.kept new.kept (bare_world w) (bare_world v) answer did.done ≡ cs =
      command-same (command_rules old.plan old.heap) old.heap command old.kept new.kept w v answer c.done in
      let moved = subst (λ (up : Option (List ℕ)). (d : DoneWith means doing up command (bare_seat old) (bare_seat new) (bare_world w) (bare_world v) answer)
      × (done_calls means doing up command (bare_seat old) (bare_seat new) (bare_world w) (bare_world v) answer d ≡ cs)) (sym none) ((did, refl), same) in
      (record { doing = doing; did = moved.0 }, moved.1)

  -- ---- both sides

  sides-bare : (plan : Plan) (view : View) (kept : Record) (dsp : Traced P) (power : Power) → SidesBy (tracer means) plan view kept dsp power → SidesBy means plan view kept dsp.device power
  sides-bare plan view kept dsp Unloaded sides = sides
  sides-bare plan view kept dsp power sides = sides

  powered-bare : (seat : SessionView (Traced P)) (power : Power) → Powered (tracer means) seat power → Powered means (bare_seat seat) power
  powered-bare seat Unloaded powered = powered
  powered-bare seat power powered = powered

  powered-by-bare : (seat : SessionView (Traced P)) (up : Option (List ℕ)) → PoweredBy (tracer means) seat up → PoweredBy means (bare_seat seat) up
  powered-by-bare seat None powered = powered-bare seat seat.kept.power powered
  powered-by-bare seat (Some up) powered = powered

  pub agreed-bare : (seat : SessionView (Traced P)) → AreAgreed (tracer means) seat → AreAgreed means (bare_seat seat)
  agreed-bare seat agreed = record {
    agree = record { record_is = agreed.agree.record_is; sides = sides-bare seat.plan (expected_in seat.up seat.plan seat.kept) seat.kept seat.link.device seat.kept.power agreed.agree.sides };
    powered = powered-by-bare seat seat.up agreed.powered;
    room = agreed.room;
    pending = agreed.pending;
    fated = record { held = agreed.fated.held; dropped = agreed.fated.dropped; refused = agreed.fated.refused; counted = agreed.fated.counted };
    sound = agreed.sound;
  }
