-- The units that were carried out: the inputs filled before each, its turn, and its pieces.
use Rattle.std.proofs.Common.{◌≡◌, ◌⊎◌, inl, inr, ℕ, false, List, [], ◌∷◌, ◌++◌, take, length, Option, Some, None, MatchOption, refl, sym, ◌∙◌, ap, subst}
use Rattle.std.proofs.lemmas.List.{append-nil}
use Rattle.sof_base.specs.Ports.{InputView}
use Rattle.stream_law.specs.Table.{list_of}
use Rattle.sof_desk.specs.Desk.{DeskMeaning, DeskPlace, DeskCall, DeskLed, with_more}
use Rattle.mbox_link.specs.Calls.{Meaning}
use Rattle.sof_script.specs.declared.script.Command.{Command}
use Rattle.sof_session.specs.SessionView.{SessionView}
use Rattle.sof_script.specs.Tasks.{Out, Task, Fill, Carry, Turn, AreTurns}
use Rattle.sof_session.specs.Fills.{bytes_read, may_grow}
use Rattle.sof_session.specs.Lives.{Life, Bare, Seated, Turned, inputs_of, reads_in, carried_outs}
use Rattle.sof_session.proofs.FilledRuns.{AreFilled}
use Rattle.run_desk.specs.Todo.{End, FillTurn, Over, DoneBy}
use Rattle.run_play.specs.Rounds.{Round}
use Rattle.run_play.specs.Pieces.{lines_after, Piece, pieces_of, bytes_of_pieces, AreWritten}
use Rattle.run_play.specs.Play.{unit_todo, rounds_todo}
use Rattle.run_play.proofs.RecordedTurns.{Fronted}
use Rattle.run_play.proofs.WrittenPieces.{puts_flush, commands_of, more_none, Wrote, wrote-none, wrote-append, Through, Broke, puts_go}
use Rattle.run_play.proofs.UnreadBytes.{Unread, unread_ends, unread_same, ReadOn, reads_go, splits_on}

module _ {D P : Type 0} (means : DeskMeaning D) (dsp : Meaning P) where
  -- what was made of units, and what was read of the files for them
  pub record Carried (rounds : List Round) (turns : List Turn) (status : ℕ) (old new : D) (rest : ℕ → List ℕ) (last : Life P) : Type 0 where
    pub filled : AreFilled (take (length (carried_outs turns)) (commands_of rounds)) turns
    pub made : List Piece
    pub written : AreWritten rounds (carried_outs turns) made status
    pub wrote : Wrote means made old new
    pub more : ℕ → List ℕ
    pub splits : (slot : ℕ) → rest slot ≡ list_of (bytes_read (reads_in turns)) slot ++ more slot
    pub none : (slot : ℕ) → may_grow slot (inputs_of last) ≡ false → more slot ≡ []

  abbrev fills : List (ℕ × List ℕ) → Option ℕ → Out → Turn
  fills reads failed out = record { task = Fill reads failed; out = out }

  abbrev carries : Command → Out → Turn
  carries command out = record { task = Carry command; out = out }

  abbrev Goes : List Round → Type 0
  Goes rounds = (turns : List Turn) (calls : List DeskCall) (status : ℕ) (old new : D) (seat : SessionView P) (inputs : List InputView) (slots : List ℕ) (rest : ℕ → List ℕ) (last : Life P) →
      DoneBy (rounds_todo rounds End) turns calls status → DeskLed means old calls new → AreTurns (Fronted dsp) (Seated seat inputs slots) turns last → Unread means inputs rest old → Carried rounds turns status old new rest last

  -- from a desk where the same was written
  wrote_from : (made : List Piece) (a b e : D) → ((place : DeskPlace) → means.wrote b place ≡ means.wrote a place) → Wrote means made b e → Wrote means made a e
  wrote_from made a b e same wrote place = wrote place ∙ ap (λ o. with_more o (bytes_of_pieces place made)) (same place)

  -- no unit more
  nothing : (old new : D) (rest : ℕ → List ℕ) (inputs : List InputView) (last : Life P) → new ≡ old → inputs_of last ≡ inputs → Unread means inputs rest old → Carried [] [] 0 old new rest last
  nothing old new rest inputs last same is u = record {
    filled = tt;
    made = [];
    written = (refl, refl);
    wrote = wrote-none means old new same;
    more = rest;
    splits = λ slot. refl;
    none = λ slot none. u.none slot (ap (may_grow slot) (sym is) ∙ none);
  }

  module _ (round : Round) (rounds : List Round) (others : Goes rounds) (status : ℕ) (old new : D) (rest : ℕ → List ℕ) (last : Life P) where
    abbrev command : Command
    command = round.numbered.command

    -- ---- a read failed before the unit

    broke_off : (reads : List (ℕ × List ℕ)) (slot : ℕ) (out : Out) (inputs : List InputView) → inputs_of last ≡ inputs → ReadOn means reads (Some slot) [] inputs rest old new → Carried (round ∷ rounds) (fills reads (Some slot) out ∷ []) 3 old new rest last
    broke_off reads slot out inputs is on = record {
      filled = (Some slot, (reads, refl));
      made = [];
      written = (refl, refl);
      wrote = λ place. ap (λ d. means.wrote d place) on.led.2 ∙ on.led.1.wrote place ∙ on.wrote place ∙ more_none (means.wrote old place);
      more = on.last;
      splits = λ n. on.splits n ∙ ap (λ xs. list_of (bytes_read xs) n ++ on.last n) (sym (append-nil reads));
      none = λ n none. on.unread.none n (ap (may_grow n) (sym is) ∙ none);
    }

    -- ---- the unit's turn

    module _ (reads : List (ℕ × List ℕ)) (fill_out out : Out) (later : List DeskCall) (inputs : List InputView) (on : ReadOn means reads None later inputs rest old new) (inputs' : List InputView) (u : Unread means inputs' on.last on.mid) where
      -- all its pieces were written
      before_others : (turns : List Turn) (mid : D) → Wrote means (pieces_of round out) on.mid mid → Carried rounds turns status mid new on.last last → Carried (round ∷ rounds) (fills reads None fill_out ∷ carries command out ∷ turns) status old new rest last
      before_others turns mid wrote c = record {
        filled = ((reads, refl), refl, c.filled);
        made = pieces_of round out ++ c.made;
        written = inl (c.made, refl, c.written);
        wrote = wrote-append means (pieces_of round out) c.made old mid new (wrote_from (pieces_of round out) old on.mid mid on.wrote wrote) c.wrote;
        more = c.more;
        splits = splits_on means reads (reads_in turns) rest on.last c.more on.splits c.splits;
        none = c.none;
      }

      -- the desk failed at one of them
      last_one : (made : List Piece) → Wrote means made on.mid new → AreWritten (round ∷ rounds) (out ∷ []) made status → inputs_of last ≡ inputs' → Carried (round ∷ rounds) (fills reads None fill_out ∷ carries command out ∷ []) status old new rest last
      last_one made wrote written is = record {
        filled = ((reads, refl), refl, tt);
        made = made;
        written = written;
        wrote = wrote_from made old on.mid new on.wrote wrote;
        more = on.last;
        splits = λ n. on.splits n ∙ ap (λ xs. list_of (bytes_read xs) n ++ on.last n) (sym (append-nil reads));
        none = λ n none. u.none n (ap (may_grow n) (sym is) ∙ none);
      }

      by_pieces : (turns : List Turn) (seat' : SessionView P) (slots' : List ℕ) → AreTurns (Fronted dsp) (Seated seat' inputs' slots') turns last → Through means (pieces_of round out) (rounds_todo rounds End) turns status on.mid new ⊎ Broke means (pieces_of round out) turns status on.mid new → Carried (round ∷ rounds) (fills reads None fill_out ∷ carries command out ∷ turns) status old new rest last
      by_pieces turns seat' slots' turned (inl t) =
          before_others turns t.mid t.wrote (others turns t.calls status t.mid new seat' inputs' slots' on.last last t.goes t.led turned (unread_same means inputs' on.last on.mid t.mid t.unread u))
      by_pieces turns seat' slots' turned (inr b) =
          let is : last ≡ Seated seat' inputs' slots' = subst (λ ts. AreTurns (Fronted dsp) (Seated seat' inputs' slots') ts last) b.none turned in
          subst (λ ts. Carried (round ∷ rounds) (fills reads None fill_out ∷ carries command out ∷ ts) status old new rest last) (sym b.none)
          (last_one b.made b.wrote (inr (b.breaks, refl, b.three)) (ap inputs_of is))

    carried : (reads : List (ℕ × List ℕ)) (fill_out : Out) (turns : List Turn) (later : List DeskCall) (seat : SessionView P) (inputs : List InputView) (slots : List ℕ) → ReadOn means reads None later inputs rest old new → DoneBy (unit_todo round (rounds_todo rounds End)) turns later status → AreTurns (Fronted dsp) (Seated seat inputs slots) turns last → Carried (round ∷ rounds) (fills reads None fill_out ∷ turns) status old new rest last
    carried reads fill_out [] later seat inputs slots on goes turned = absurd goes
    carried reads fill_out (turn ∷ turns) later seat inputs slots on goes turned =
        let is : turn ≡ carries command turn.out = λ i. record { task = goes.0 i; out = turn.out } in
        let flushes = puts_flush turn.out.written (lines_after round turn.out) (rounds_todo rounds End) in
        let went = puts_go means (pieces_of round turn.out) (rounds_todo rounds End) turns later status on.mid new (subst (λ todo. DoneBy todo turns later status) flushes goes.1) on.led in
        (elim turned.0 as (λ (m : Life P). Turned dsp (Carry command) turned.1.0 (Seated seat inputs slots) m → AreTurns (Fronted dsp) m turns last → Carried (round ∷ rounds) (fills reads None fill_out ∷ turn ∷ turns) status old new rest last) [
          | Bare q ↦ λ step more. absurd step
          | Seated seat' inputs' slots' ↦ λ step more.
              subst (λ (t : Turn). Carried (round ∷ rounds) (fills reads None fill_out ∷ t ∷ turns) status old new rest last) (sym is)
              (by_pieces reads fill_out turn.out later inputs on inputs' (unread_ends means inputs inputs' on.last on.mid step.1.ends on.unread) turns seat' slots' more went)
        ]) (subst (λ (task : Task). Turned dsp task turned.1.0 (Seated seat inputs slots) turned.0) goes.0 turned.1.1) turned.2

    -- ---- after the reads

    stopped : (reads : List (ℕ × List ℕ)) (slot : ℕ) (out : Out) (turns : List Turn) (later : List DeskCall) (seat : SessionView P) (inputs : List InputView) (slots : List ℕ) → ReadOn means reads (Some slot) later inputs rest old new → Over 3 turns later status → AreTurns (Fronted dsp) (Seated seat inputs slots) turns last → Carried (round ∷ rounds) (fills reads (Some slot) out ∷ turns) status old new rest last
    stopped reads slot out turns later seat inputs slots on over turned =
        let is : last ≡ Seated seat inputs slots = subst (λ ts. AreTurns (Fronted dsp) (Seated seat inputs slots) ts last) over.0 turned in
        subst (λ n. Carried (round ∷ rounds) (fills reads (Some slot) out ∷ turns) n old new rest last) (sym over.2)
        (subst (λ ts. Carried (round ∷ rounds) (fills reads (Some slot) out ∷ ts) 3 old new rest last) (sym over.0)
        (broke_off reads slot out inputs (ap inputs_of is) (subst (λ cs. ReadOn means reads (Some slot) cs inputs rest old new) over.1 on)))

    filled_go : (turn : Turn) (turns : List Turn) (calls : List DeskCall) (seat : SessionView P) (inputs : List InputView) (slots : List ℕ) (f : FillTurn turn calls) → MatchOption f.failed (DoneBy (unit_todo round (rounds_todo rounds End)) turns f.later status) (λ slot. Over 3 turns f.later status) → DeskLed means old calls new → AreTurns (Fronted dsp) (Seated seat inputs slots) (turn ∷ turns) last → Unread means inputs rest old → Carried (round ∷ rounds) (turn ∷ turns) status old new rest last
    filled_go turn turns calls seat inputs slots f goes led turned u =
        let is : turn ≡ fills f.reads f.failed turn.out = λ i. record { task = f.task i; out = turn.out } in
        (elim turned.0 as (λ (m : Life P). Turned dsp (Fill f.reads f.failed) turned.1.0 (Seated seat inputs slots) m → AreTurns (Fronted dsp) m turns last → Carried (round ∷ rounds) (turn ∷ turns) status old new rest last) [
          | Bare q ↦ λ step more. absurd step
          | Seated seat' inputs' slots' ↦ λ step more.
              let on = reads_go means f.reads f.failed f.later inputs inputs' rest old new step.2 u (subst (λ cs. DeskLed means old cs new) f.calls_are led) in
              subst (λ (t : Turn). Carried (round ∷ rounds) (t ∷ turns) status old new rest last) (sym is)
              ((elim f.failed as (λ failed. ReadOn means f.reads failed f.later inputs' rest old new → MatchOption failed (DoneBy (unit_todo round (rounds_todo rounds End)) turns f.later status) (λ slot. Over 3 turns f.later status) → Carried (round ∷ rounds) (fills f.reads failed turn.out ∷ turns) status old new rest last) [
                | None ↦ λ on done. carried f.reads turn.out turns f.later seat' inputs' slots' on done more
                | Some slot ↦ λ on over. stopped f.reads slot turn.out turns f.later seat' inputs' slots' on over more
              ]) on goes)
        ]) (subst (λ (task : Task). Turned dsp task turned.1.0 (Seated seat inputs slots) turned.0) f.task turned.1.1) turned.2

  pub rounds_go : (rounds : List Round) → Goes rounds
  rounds_go [] turns calls status old new seat inputs slots rest last goes led turned u =
      let same : new ≡ old = subst (λ cs. DeskLed means old cs new) goes.1 led in
      let is : last ≡ Seated seat inputs slots = subst (λ ts. AreTurns (Fronted dsp) (Seated seat inputs slots) ts last) goes.0 turned in
      subst (λ n. Carried [] turns n old new rest last) (sym goes.2)
      (subst (λ ts. Carried [] ts 0 old new rest last) (sym goes.0) (nothing old new rest inputs last same (ap inputs_of is) u))
  rounds_go (round ∷ rounds) [] calls status old new seat inputs slots rest last goes led turned u = absurd goes
  rounds_go (round ∷ rounds) (turn ∷ turns) calls status old new seat inputs slots rest last goes led turned u =
      filled_go round rounds (rounds_go rounds) status old new rest last turn turns calls seat inputs slots goes.0 goes.1 led turned u
