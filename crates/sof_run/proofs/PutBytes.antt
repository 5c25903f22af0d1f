-- The bytes that the calls of a whole play put at a place are those of its pieces.
use Rattle.std.proofs.Common.{◌≡◌, inl, inr, refl, sym, ap, ◌∙◌, subst, ℕ, Bool, true, false, if◌then◌else◌, List, [], ◌∷◌, ◌++◌, Option, Some, None, MatchOption, Ok, Err, append_assoc, codes}
use Rattle.sof_desk.specs.declared.calls.LoadFault.TheVariants.{Failed, TooLong, OutOfMemory}
use Rattle.sof_desk.specs.Desk.{DeskPlace, DeskAct, Create, Put, Open, Heard, DeskCall, Load, Did, Read as ReadCall, same_place}
use Rattle.tplg_plan.specs.declared.plans.Plan.{Plan}
use Rattle.sof_script.specs.Commands.{Bound, Read}
use Rattle.sof_script.specs.Tasks.{Task, Begin, Fill, Carry, Turn}
use Rattle.sof_session.specs.Lives.{carried_outs, with_out}
use Rattle.run_words.specs.Words.{Form}
use Rattle.run_desk.specs.Bindings.{binding_act, bound_inputs, bound_slot, bound_slots}
use Rattle.run_desk.specs.DeskCalls.{heard_in, reading}
use Rattle.run_desk.specs.Lines.{no_memory_line}
use Rattle.run_desk.specs.LinesTodo.{lines_todo}
use Rattle.run_desk.specs.Prepared.{Ready, prepared}
use Rattle.run_desk.specs.Todo.{Todo, End, Ask, Do, Free, Says, Over, DoneBy}
use Rattle.run_play.specs.Pieces.{Piece, lines_after, pieces_of, bytes_of_pieces}
use Rattle.run_play.specs.Play.{flush_todo, unit_todo, rounds_todo, bindings_todo, traced_todo, session_todo, ready_todo, prepared_todo, play}
use Rattle.run_play.specs.Keeping.{trace_slot}
use Rattle.run_play.specs.LineParts.{slot_pieces, line_pieces}
use Rattle.run_play.specs.Rounds.{Round, rounds_of}
use Rattle.run_play.specs.Traces.{put_at}
use Rattle.run_play.proofs.WrittenPieces.{bytes-append, puts, puts_flush}
use Rattle.sof_run.proofs.OnePlay.{all_pieces}

module _ (place : DeskPlace) (turns : List Turn) where
  -- all of a front was done, which put these bytes, and then the rest
  record Behind (rest : Todo) (bytes : List ℕ) (calls : List DeskCall) : Type 0 where
    later : List DeskCall
    goes : DoneBy rest turns later 0
    put : put_at place calls ≡ bytes ++ put_at place later

  -- one call
  done-put : (act : DeskAct) (bytes : List ℕ) (rest : Todo) → ((calls : List DeskCall) → put_at place (Did act true ∷ calls) ≡ bytes ++ put_at place calls) → (calls : List DeskCall) → DoneBy (Do act rest) turns calls 0 → Behind rest bytes calls
  done-put act bytes rest is [] goes = absurd goes
  done-put act bytes rest is (Load name limit heard ∷ calls) goes = absurd goes
  done-put act bytes rest is (ReadCall slot size got ∷ calls) goes = absurd goes
  done-put act bytes rest is (Did a true ∷ calls) goes = record { later = calls; goes = goes.1; put = ap (λ (x : DeskAct). put_at place (Did x true ∷ calls)) goes.0 ∙ is calls }
  done-put act bytes rest is (Did a false ∷ calls) goes = absurd (cc goes.1.2)

  -- and what comes after it
  then-put : (rest last : Todo) (a b : List ℕ) (calls : List DeskCall) → Behind rest a calls → ((calls : List DeskCall) → DoneBy rest turns calls 0 → Behind last b calls) → Behind last (a ++ b) calls
  then-put rest last a b calls first on =
      let second = on first.later first.goes in
      record { later = second.later; goes = second.goes; put = first.put ∙ ap (λ (bytes : List ℕ). a ++ bytes) second.put ∙ sym (append_assoc a b (put_at place second.later)) }

  -- ---- pieces

  piece-put : (piece : Piece) (calls : List DeskCall) → put_at place (Did (Put piece.0 piece.1) true ∷ calls) ≡ (if same_place piece.0 place then piece.1 else []) ++ put_at place calls
  piece-put piece calls = by (same_place piece.0 place)
    where
      by : (t : Bool) → (if t then piece.1 ++ put_at place calls else put_at place calls) ≡ (if t then piece.1 else []) ++ put_at place calls
      by true = refl
      by false = refl

  pieces-put : (pieces : List Piece) (rest : Todo) (calls : List DeskCall) → DoneBy (puts pieces rest) turns calls 0 → Behind rest (bytes_of_pieces place pieces) calls
  pieces-put [] rest calls goes = record { later = calls; goes = goes; put = refl }
  pieces-put (piece ∷ pieces) rest calls goes =
      subst (λ (bytes : List ℕ). Behind rest bytes calls) (by (same_place piece.0 place))
      (then-put (puts pieces rest) rest (if same_place piece.0 place then piece.1 else []) (bytes_of_pieces place pieces) calls
      (done-put (Put piece.0 piece.1) (if same_place piece.0 place then piece.1 else []) (puts pieces rest) (piece-put piece) calls goes) (λ later more. pieces-put pieces rest later more))
    where
      by : (t : Bool) → (if t then piece.1 else []) ++ bytes_of_pieces place pieces ≡ (if t then piece.1 ++ bytes_of_pieces place pieces else bytes_of_pieces place pieces)
      by true = refl
      by false = refl

  -- ---- bindings and the trace's file

  bindings-put : (plan : Plan) (bs : List Bound) (rest : Todo) (calls : List DeskCall) → DoneBy (bindings_todo plan bs rest) turns calls 0 → Behind rest [] calls
  bindings-put plan [] rest calls goes = record { later = calls; goes = goes; put = refl }
  bindings-put plan (b ∷ bs) rest calls goes =
      then-put (bindings_todo plan bs rest) rest [] [] calls (done-put (binding_act plan b) [] (bindings_todo plan bs rest) (λ later. by b.input later) calls goes) (λ later more. bindings-put plan bs rest later more)
    where
      by : (input : Bool) (later : List DeskCall) → put_at place (Did (if input then Open (bound_slot plan b) b.file else Create (bound_slot plan b) b.file) true ∷ later) ≡ put_at place later
      by true later = refl
      by false later = refl

  traced-put : (trace : Option (List ℕ)) (rest : Todo) (calls : List DeskCall) → DoneBy (traced_todo trace rest) turns calls 0 → Behind rest [] calls
  traced-put None rest calls goes = record { later = calls; goes = goes; put = refl }
  traced-put (Some name) rest calls goes = done-put (Create trace_slot name) [] rest (λ later. refl) calls goes

-- ---- the units

module _ (place : DeskPlace) where
  -- reads put nothing
  read-put : (reads : List (ℕ × List ℕ)) (failed : Option ℕ) (later : List DeskCall) → put_at place (reading reads failed ++ later) ≡ put_at place later
  read-put [] None later = refl
  read-put [] (Some slot) later = refl
  read-put ((slot, bytes) ∷ reads) failed later = read-put reads failed later

  abbrev Units : List Round → Type 0
  Units rounds = (turns : List Turn) (calls : List DeskCall) → DoneBy (rounds_todo rounds End) turns calls 0 → put_at place calls ≡ bytes_of_pieces place (all_pieces rounds (carried_outs turns))

  module _ (round : Round) (rounds : List Round) (others : Units rounds) where
    abbrev rest : Todo
    rest = rounds_todo rounds End

    -- the turn of a unit, and its pieces
    unit-put : (turn : Turn) (turns : List Turn) (calls : List DeskCall) → turn.task ≡ Carry round.numbered.command → DoneBy (flush_todo turn.out.written (lines_todo (lines_after round turn.out) rest)) turns calls 0 →
        put_at place calls ≡ bytes_of_pieces place (all_pieces (round ∷ rounds) (carried_outs (turn ∷ turns)))
    unit-put turn turns calls is goes =
        let pieces : List Piece = pieces_of round turn.out in
        let b = pieces-put place turns pieces rest calls (subst (λ (todo : Todo). DoneBy todo turns calls 0) (puts_flush turn.out.written (lines_after round turn.out) rest) goes) in
        b.put ∙ ap (λ (bytes : List ℕ). bytes_of_pieces place pieces ++ bytes) (others turns b.later b.goes)
        ∙ sym (bytes-append place pieces (all_pieces rounds (carried_outs turns)))
        ∙ ap (λ (task : Task). bytes_of_pieces place (all_pieces (round ∷ rounds) (with_out task turn.out (carried_outs turns)))) (sym is)

    filled-put : (filling : Turn) (turns : List Turn) (reads : List (ℕ × List ℕ)) (failed : Option ℕ) (later : List DeskCall) → filling.task ≡ Fill reads failed → MatchOption failed (DoneBy (unit_todo round rest) turns later 0) (λ slot. Over 3 turns later 0) →
        put_at place later ≡ bytes_of_pieces place (all_pieces (round ∷ rounds) (carried_outs (filling ∷ turns)))
    filled-put filling turns reads (Some slot) later is over = absurd (cc over.2)
    filled-put filling [] reads None later is goes = absurd goes
    filled-put filling (turn ∷ turns) reads None later is goes =
        unit-put turn turns later goes.0 goes.1
        ∙ ap (λ (task : Task). bytes_of_pieces place (all_pieces (round ∷ rounds) (with_out task filling.out (carried_outs (turn ∷ turns))))) (sym is)

    round-put : Units (round ∷ rounds)
    round-put [] calls goes = absurd goes
    round-put (filling ∷ turns) calls goes =
        let f = goes.0 in
        ap (put_at place) f.calls_are ∙ read-put f.reads f.failed f.later ∙ filled-put filling turns f.reads f.failed f.later f.task goes.1

  units-put : (rounds : List Round) → Units rounds
  units-put [] turns calls goes = ap (put_at place) goes.1
  units-put (round ∷ rounds) turns calls goes = round-put round rounds (units-put rounds) turns calls goes

  -- ---- the whole

  never-said : (line : List ℕ) (turns : List Turn) (calls : List DeskCall) → Says line 7 turns calls 0 → ⊥
  never-said line turns [] says = says
  never-said line turns (Load name limit heard ∷ calls) says = says
  never-said line turns (ReadCall slot size got ∷ calls) says = says
  never-said line turns (Did act true ∷ calls) says = cc says.3
  never-said line turns (Did act false ∷ calls) says = cc says.3

  module _ (form : Form) (topology script : List ℕ) (plan : Plan) (read : Read) (ready : prepared topology script ≡ Ready plan read) (turns : List Turn) where
    abbrev HasPut : List DeskCall → Type 0
    HasPut calls = put_at place calls ≡ bytes_of_pieces place (all_pieces (rounds_of read.commands) (carried_outs turns))

    abbrev session : Todo
    session = session_todo form.on_use form.heap plan read.commands (bound_inputs plan [] read.bindings) (bound_slots plan read.bindings)

    session-put : (calls : List DeskCall) → DoneBy session turns calls 0 → HasPut calls
    session-put calls goes = by turns goes
      where
        by : (ts : List Turn) → DoneBy session ts calls 0 → put_at place calls ≡ bytes_of_pieces place (all_pieces (rounds_of read.commands) (carried_outs ts))
        by [] goes = absurd goes
        by (begins ∷ others) goes =
            units-put (rounds_of read.commands) others calls goes.1
            ∙ ap (λ (task : Task). bytes_of_pieces place (all_pieces (rounds_of read.commands) (with_out task begins.out (carried_outs others)))) (sym goes.0)

    ready-put : (calls : List DeskCall) → DoneBy (ready_todo form.on_use form.heap form.trace plan read) turns calls 0 → HasPut calls
    ready-put calls goes =
        let b = bindings-put place turns plan read.bindings (traced_todo form.trace session) calls goes in
        let t = traced-put place turns form.trace session b.later b.goes in
        b.put ∙ t.put ∙ session-put t.later t.goes

    files-put : (calls : List DeskCall) → DoneBy (Free (prepared_todo form.on_use form.heap form.trace (prepared topology script))) turns calls 0 → HasPut calls
    files-put calls (inl goes) = ready-put calls (subst (λ files. DoneBy (prepared_todo form.on_use form.heap form.trace files) turns calls 0) ready goes)
    files-put calls (inr says) = absurd (never-said no_memory_line turns calls says)

    -- a load that answered this, first of all that loads answered
    asked-put : (name line : List ℕ) (next : List ℕ → Todo) (bytes : List ℕ) (more : List Heard) (calls : List DeskCall) → heard_in calls ≡ Ok bytes ∷ more → DoneBy (Ask name 1048576 line next) turns calls 0 →
        ((later : List DeskCall) → heard_in later ≡ more → DoneBy (next bytes) turns later 0 → HasPut later) → HasPut calls
    asked-put name line next bytes more [] heard goes on = absurd goes
    asked-put name line next bytes more (Did act done ∷ calls) heard goes on = absurd goes
    asked-put name line next bytes more (ReadCall slot size got ∷ calls) heard goes on = absurd goes
    asked-put name line next bytes more (Load n l (Ok got) ∷ calls) heard goes on =
        let same : got ≡ bytes = cc heard in
        let rest : heard_in calls ≡ more = cc heard in
        on calls rest (subst (λ (xs : List ℕ). DoneBy (next xs) turns calls 0) same goes.2)
    asked-put name line next bytes more (Load n l (Err TooLong) ∷ calls) heard goes on = absurd (cc heard)
    asked-put name line next bytes more (Load n l (Err OutOfMemory) ∷ calls) heard goes on = absurd (cc heard)
    asked-put name line next bytes more (Load n l (Err Failed) ∷ calls) heard goes on = absurd (cc heard)

    pub play-put : (calls : List DeskCall) → heard_in calls ≡ Ok topology ∷ Ok script ∷ [] → DoneBy (play form) turns calls 0 → put_at place calls ≡ bytes_of_pieces place (all_pieces (rounds_of read.commands) (carried_outs turns))
    play-put calls heard goes =
        asked-put form.topology (codes "too long topology\n") (λ xs. Ask form.script 1048576 (codes "too long script\n") (λ ys. Free (prepared_todo form.on_use form.heap form.trace (prepared xs ys)))) topology (Ok script ∷ []) calls heard goes (λ later rest goes.
        asked-put form.script (codes "too long script\n") (λ ys. Free (prepared_todo form.on_use form.heap form.trace (prepared topology ys))) script [] later rest goes (λ last none goes.
        files-put last goes))
