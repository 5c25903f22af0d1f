-- What `stress` did, put together from its session and its lines.
use Rattle.std.proofs.Common.{◌≡◌, ◌⊎◌, inl, inr, ℕ, Bool, List, [], ◌∷◌, map, Option, Some, refl, sym, ◌∙◌, subst, if◌then◌else◌}
use Rattle.sof_desk.specs.Desk.{DeskMeaning, DeskCall}
use Rattle.mbox_link.specs.Calls.{Meaning}
use Rattle.tplg_plan.specs.Sound.{IsSound}
use Rattle.sof_script.specs.Tasks.{Out, Turn, Carry}
use Rattle.sof_session.specs.Lives.{Life, Bare, Turned, Turns}
use Rattle.sof_stress.specs.declared.counts.Counts.{Counts}
use Rattle.sof_stress.specs.Draws.{stream_count}
use Rattle.sof_stress.specs.StressPorts.{dai_slot}
use Rattle.sof_stress.specs.CommandTurns.{CommandTurn, turn_counted, all_counted, no_counts}
use Rattle.sof_stress.specs.CarriedTurns.{tasks_of}
use Rattle.sof_stress.specs.GraphParts.{stress_plan}
use Rattle.sof_stress.specs.StressRun.{sent_in, stress_begins, stress_turns}
use Rattle.sof_stress.specs.DeviceStress.{Stresses}
use Rattle.run_words.specs.Words.{Form, trace_named}
use Rattle.run_play.specs.Keeping.{KeptRecords}
use Rattle.run_play.specs.KeptTurns.{GaveKept}
use Rattle.run_desk.specs.Lines.{no_memory_line}
use Rattle.run_desk.specs.Todo.{Todo, End, Stop, Step, DoneBy, RanOn, Played, DeskPhase}
use Rattle.run_desk.specs.LinesTodo.{lines_todo}
use Rattle.run_play.specs.Play.{play}
use Rattle.sof_run.specs.Stressing.{stress_lines}
use Rattle.sof_run.specs.StressTodo.{counted_todo, told_todo}
use Rattle.run_replay.specs.ReplayTodo.{replay}
use Rattle.run_words.specs.Requests.{Request, Play, Stress, Replay, request_of}
use Rattle.sof_run.specs.Forms.{todo_for, todo_of, GaveSent, StressGave}
use Rattle.run_desk.proofs.Steps.{free_off}
use Rattle.run_words.proofs.Requests.{stress_asked, replay_meant, play_meant, none_kept, kept_of}
use Rattle.run_desk.proofs.LinePhases.{lines_played}

-- turns of these tasks are made and counted, and then comes what is next
counted_on : (slot : ℕ) (todo : List CommandTurn) (counts : Counts) (next : Counts → Todo) (turns : List Turn) (calls : List DeskCall) (status : ℕ) → map (λ (turn : Turn). turn.task) turns ≡ tasks_of todo →
    DoneBy (next (all_counted slot todo (map (λ (turn : Turn). turn.out) turns) counts)) [] calls status → DoneBy (counted_todo slot todo counts next) turns calls status
counted_on slot [] counts next [] calls status same goes = goes
counted_on slot [] counts next (turn ∷ turns) calls status same goes = absurd (cc same)
counted_on slot (t ∷ todo) counts next [] calls status same goes = absurd (cc same)
counted_on slot (t ∷ todo) counts next (turn ∷ turns) calls status same goes =
    let first : turn.task ≡ Carry t.command = cc in
    let rest : map (λ (turn : Turn). turn.task) turns ≡ tasks_of todo = cc in
    (first, counted_on slot todo (turn_counted slot t turn.out counts) next turns calls status rest goes)

module _ {D P : Type 0} (means : DeskMeaning D) (dsp : Meaning P) where
  -- the session, and then the lines
  pub stressed : (seed : ℕ) (old new : D) (p q : P) (counts : Counts) (done : Bool) → Stresses dsp seed p counts q → DeskPhase means (lines_todo (stress_lines counts)) done old new → StressGave means dsp seed old p (if done then 0 else 3) new q
  stressed seed old new p q counts done s phase =
      let status : ℕ = if done then 0 else 3 in
      let sent = sent_in s.last in
      let slot = dai_slot (stream_count seed) in
      let outs : List Out = map (λ (turn : Turn). turn.out) s.turns in
      let said : Played means (told_todo sent (all_counted slot (stress_turns seed) outs no_counts)) old [] status new =
      subst (λ c. Played means (lines_todo (stress_lines c) End) old [] status new) s.numbers (lines_played means (stress_lines counts) done old new phase) in
      record {
        sent = sent;
        gave = record {
          last = s.last;
          is = s.is;
          exit = s.exit;
          ran = record {
            turns = record { task = stress_begins (dsp.most p) seed; out = s.begun } ∷ s.turns;
            turned = s.turned;
            played = record {
              calls = said.calls;
              led = said.led;
              goes = inl (refl, counted_on slot (stress_turns seed) no_counts (told_todo sent) s.turns said.calls status s.tasks said.goes);
            };
          };
        };
        is_sent = refl;
        sound = inr s.sound;
      }

  -- there was no memory
  pub unstressed : (seed : ℕ) (old new : D) (p q : P) (status : ℕ) → q ≡ p → Played means (Stop no_memory_line 7) old [] status new → StressGave means dsp seed old p status new q
  unstressed seed old new p q status same played = record {
    sent = 0;
    gave = record {
      last = Bare p;
      is = sym same;
      exit = refl;
      ran = record { turns = []; turned = refl; played = free_off means (Step (stress_begins (dsp.most p) seed) (λ out. counted_todo (dai_slot (stream_count seed)) (stress_turns seed) no_counts (told_todo 0))) status old new played };
    };
    is_sent = refl;
    sound = inl refl;
  }

  -- ---- by the words

  module _ (words : List (List ℕ)) (old new : D) (p q : P) (status : ℕ) where
    -- what was done is by what the words ask for
    gave_for : (r : Option Request) → request_of (dsp.most p) words ≡ r → GaveSent means dsp words (λ sent. todo_for (dsp.most p) sent r) old p status new q → GaveSent means dsp words (λ sent. todo_of (dsp.most p) sent words) old p status new q
    gave_for r is given = subst (λ r. GaveSent means dsp words (λ sent. todo_for (dsp.most p) sent r) old p status new q) (sym is) given

    -- no trace is kept of what is no play
    none_is : (r : Option Request) → request_of (dsp.most p) words ≡ r → ((form : Form) → r ≡ Some (Play form) → ⊥) → (turns : List Turn) (last : Life P) (turned : Turns dsp (Bare p) turns last) →
        KeptRecords dsp (trace_named (dsp.most p) words) (Bare p) turns last turned []
    none_is r is other turns last turned = subst (λ (trace : Option (List ℕ)). KeptRecords dsp trace (Bare p) turns last turned []) (sym (none_kept (dsp.most p) words r is other)) refl

    pub play_gave : (form : Form) → request_of (dsp.most p) words ≡ Some (Play form) → GaveKept means dsp form.trace (play form) old p status new q → GaveSent means dsp words (λ sent. todo_of (dsp.most p) sent words) old p status new q
    play_gave form is given = gave_for (Some (Play form)) is (record {
      sent = sent_in given.last;
      last = given.last;
      is = given.is;
      exit = λ none. given.exit;
      turns = given.turns;
      turned = given.turned;
      records = given.records;
      kept = subst (λ (trace : Option (List ℕ)). KeptRecords dsp trace (Bare p) given.turns given.last given.turned given.records) (sym (kept_of (dsp.most p) words form (play_meant (dsp.most p) words form is))) given.kept;
      played = given.played;
      is_sent = refl;
      sound = λ seed stress. absurd (cc (sym is ∙ stress_asked (dsp.most p) words seed stress));
    })

    pub stress_gave : (seed : ℕ) → request_of (dsp.most p) words ≡ Some (Stress seed) → StressGave means dsp seed old p status new q → GaveSent means dsp words (λ sent. todo_of (dsp.most p) sent words) old p status new q
    stress_gave seed is given = gave_for (Some (Stress seed)) is (record {
      sent = given.sent;
      last = given.gave.last;
      is = given.gave.is;
      exit = λ none. given.gave.exit;
      turns = given.gave.ran.turns;
      turned = given.gave.ran.turned;
      records = [];
      kept = none_is (Some (Stress seed)) is (λ form e. cc e) given.gave.ran.turns given.gave.last given.gave.ran.turned;
      played = given.gave.ran.played;
      is_sent = given.is_sent;
      sound = λ other stress.
          let same : seed ≡ other = cc (sym is ∙ stress_asked (dsp.most p) words other stress) in
          subst (λ n. (given.gave.ran.turns ≡ []) ⊎ IsSound (stress_plan n)) same given.sound;
    })

    pub replay_gave : (name : List ℕ) → request_of (dsp.most p) words ≡ Some (Replay name) → RanOn means (Turned dsp) (replay (dsp.most p) name) old (Bare p) status new (Bare q) → GaveSent means dsp words (λ sent. todo_of (dsp.most p) sent words) old p status new q
    replay_gave name is given = gave_for (Some (Replay name)) is (record {
      sent = 0;
      last = Bare q;
      is = refl;
      exit = λ none. absurd (cc (sym none ∙ replay_meant (dsp.most p) words name is));
      turns = given.turns;
      turned = given.turned;
      records = [];
      kept = none_is (Some (Replay name)) is (λ form e. cc e) given.turns (Bare q) given.turned;
      played = given.played;
      is_sent = refl;
      sound = λ seed stress. absurd (cc (sym is ∙ stress_asked (dsp.most p) words seed stress));
    })

  -- what was done on the desk alone
  pub alone_gave : (words : List (List ℕ)) (old new : D) (p : P) (status : ℕ) (r : Option Request) → request_of (dsp.most p) words ≡ r → ((form : Form) → r ≡ Some (Play form) → ⊥) → Played means (todo_for (dsp.most p) 0 r) old [] status new
      → GaveSent means dsp words (λ sent. todo_of (dsp.most p) sent words) old p status new p
  alone_gave words old new p status r is other played = gave_for words old new p p status r is (record {
    sent = 0;
    last = Bare p;
    is = refl;
    exit = λ none. refl;
    turns = [];
    turned = refl;
    records = [];
    kept = none_is words old new p p status r is other [] (Bare p) refl;
    played = played;
    is_sent = refl;
    sound = λ seed stress. inl refl;
  })
