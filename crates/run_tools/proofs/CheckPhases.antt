-- The phases of `check` and `graph`, one after another.
use Rattle.std.proofs.Common.{◌≡◌, ℕ, ◌+◌, ◌<◌, Bool, true, false, List, [], ◌∷◌, map, length, drop, get_or, Ok, Err, refl, sym, ◌∙◌, ap, subst, codes, if◌then◌else◌}
use Rattle.std.proofs.lemmas.List.{drop_more}
use Rattle.sof_desk.specs.Desk.{DeskMeaning, Put, Spoken, Loaded, Acted}
use Rattle.tplg_model.specs.declared.block.Topology.{Topology}
use Rattle.sof_script.specs.Tasks.{Turn}
use Rattle.run_desk.specs.declared.preparing.Halt.{Halt}
use Rattle.run_desk.specs.declared.preparing.Halt.TheVariants as halt
use Rattle.run_desk.specs.Todo.{Todo, End, Do, Stop, Free, Played, DeskPhase}
use Rattle.run_desk.specs.TopologyBytes.{AreBytes}
use Rattle.run_desk.specs.Lines.{with_newline, halt_line, halt_status}
use Rattle.run_desk.specs.LinesTodo.{lines_todo}
use Rattle.run_desk.specs.Halts.{HaltsAtCheck}
use Rattle.run_tools.specs.Checking.{counts_of, count_lines}
use Rattle.run_desk.specs.Prepared.{checked}
use Rattle.run_tools.specs.CheckTodo.{said_todo, checked_todo, check}
use Rattle.run_desk.proofs.Steps.{ask_on, free_on, free_off, do_on, do_off}

-- lines that get their newlines, as lines that have them
pub as_said : (lines : List (List ℕ)) (rest : Todo) → lines_todo lines rest ≡ said_todo (map with_newline lines) rest
as_said [] rest = refl
as_said (line ∷ lines) rest = ap (Do (Put Spoken (with_newline line))) (as_said lines rest)

module _ {D : Type 0} (means : DeskMeaning D) where
  -- ---- lines that have their newlines, one after another

  -- these are left
  abbrev pub Unsaid : (whole left : List (List ℕ)) → D → D → Type 0
  Unsaid whole left old new = (rest : Todo) (turns : List Turn) (status : ℕ) (end : D) → Played means (said_todo left rest) new turns status end → Played means (said_todo whole rest) old turns status end

  module _ (lines : List (List ℕ)) (i : ℕ) (line : List ℕ) (within : i < length lines) (is : line ≡ get_or lines i line) where
    here : drop i lines ≡ line ∷ drop (i + 1) lines
    here = drop_more lines i line within ∙ ap (λ (x : List ℕ). x ∷ drop (i + 1) lines) (sym is)

    -- a line more was said
    pub said_on : (old m new : D) → Unsaid lines (drop i lines) old m → Acted means (Put Spoken line) true m new → Unsaid lines (drop (i + 1) lines) old new
    said_on old m new so_far acted = λ rest turns status end played.
        so_far rest turns status end (subst (λ xs. Played means (said_todo xs rest) m turns status end) (sym here) (do_on means (Put Spoken line) (said_todo (drop (i + 1) lines) rest) turns status m new end acted played))

    -- it failed
    pub said_off : (old m new : D) → Unsaid lines (drop i lines) old m → Acted means (Put Spoken line) false m new → DeskPhase means (said_todo lines) false old new
    said_off old m new so_far acted = λ rest.
        so_far rest [] 3 new (subst (λ xs. Played means (said_todo xs rest) m [] 3 new) (sym here) (do_off means (Put Spoken line) (said_todo (drop (i + 1) lines) rest) m new acted))

  -- ---- all

  -- the same, whose lines get their newlines
  phase_said : (lines : List (List ℕ)) (done : Bool) (old new : D) → DeskPhase means (lines_todo lines) done old new → DeskPhase means (said_todo (map with_newline lines)) done old new
  phase_said lines true old new phase = λ rest turns status end played. subst (λ todo. Played means todo old turns status end) (as_said lines rest) (phase rest turns status end played)
  phase_said lines false old new phase = λ rest. subst (λ todo. Played means todo old [] 3 new) (as_said lines rest) (phase rest)

  lines_ended : (lines : List (List ℕ)) (done : Bool) (old new : D) → DeskPhase means (said_todo lines) done old new → Played means (said_todo lines End) old [] (if done then 0 else 3) new
  lines_ended lines true old new phase = phase End [] 0 new record { calls = []; led = refl; goes = (refl, refl, refl) }
  lines_ended lines false old new phase = phase End

  -- the file was loaded
  module _ (lines : Topology → List (List ℕ)) (name bytes : List ℕ) (old m new : D) (loaded : Loaded means name 1048576 (Ok bytes) old m) (are : AreBytes bytes) where
    after : (status : ℕ) → Played means (Free (checked_todo lines (checked bytes))) m [] status new → Played means (check lines name) old [] status new
    after status played = ask_on means name 1048576 (codes "too long topology\n") (λ bytes. Free (checked_todo lines (checked bytes))) bytes [] status old m new loaded are played

    -- its lines were said, or not all of them
    pub told : (t : Topology) (said : List (List ℕ)) (done : Bool) → checked bytes ≡ Ok t → said ≡ lines t → DeskPhase means (said_todo said) done m new → Played means (check lines name) old [] (if done then 0 else 3) new
    told t said done is same phase =
        after (if done then 0 else 3) (free_on means (checked_todo lines (checked bytes)) [] (if done then 0 else 3) m new
        (subst (λ r. Played means (checked_todo lines r) m [] (if done then 0 else 3) new) (sym is)
        (subst (λ xs. Played means (said_todo xs End) m [] (if done then 0 else 3) new) same (lines_ended said done m new phase))))

    stopped : (h : Halt) (status : ℕ) → checked bytes ≡ Err h → Played means (Stop (halt_line h) (halt_status h)) m [] status new → Played means (check lines name) old [] status new
    stopped h status is played =
        after status (free_on means (checked_todo lines (checked bytes)) [] status m new (subst (λ r. Played means (checked_todo lines r) m [] status new) (sym is) played))

    -- why it is not right was said
    pub halted : (h : Halt) (status : ℕ) → HaltsAtCheck h (checked bytes) → Played means (Stop (halt_line h) (halt_status h)) m [] status new → Played means (check lines name) old [] status new
    halted halt.OutOfMemory status is played = after status (free_off means (checked_todo lines (checked bytes)) status m new played)
    halted h status is played = stopped h status is played

  -- its counts were said, or not all of them
  pub counted : (name bytes : List ℕ) (old m new : D) → Loaded means name 1048576 (Ok bytes) old m → AreBytes bytes → (t : Topology) (counts : List (List ℕ)) (done : Bool) → checked bytes ≡ Ok t → counts ≡ counts_of t → DeskPhase means (lines_todo counts) done m new → Played means (check count_lines name) old [] (if done then 0 else 3) new
  counted name bytes old m new loaded are t counts done is same phase =
      told count_lines name bytes old m new loaded are t (map with_newline counts) done is (ap (λ (xs : List (List ℕ)). map with_newline xs) same) (phase_said counts done m new phase)
