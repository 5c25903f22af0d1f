-- The calls that write the pieces of a unit, and what they wrote.
use Rattle.std.proofs.Common.{◌≡◌, ◌⊎◌, inl, inr, ℕ, Bool, true, false, List, [], ◌∷◌, ◌++◌, map, Option, Some, None, refl, sym, ◌∙◌, ap, subst, append_assoc, if◌then◌else◌}
use Rattle.std.proofs.lemmas.List.{append-nil}
use Rattle.sof_desk.specs.Desk.{DeskMeaning, DeskPlace, DeskAct, Spoken, Slot, Put, DeskCall, Load, Did, Read, DeskLed, Acted, Part, Takes, same_place, with_more, written_after, unread_after}
use Rattle.sof_script.specs.declared.script.Command.{Command}
use Rattle.sof_script.specs.Tasks.{Written, Turn}
use Rattle.run_desk.specs.Todo.{Todo, Do, DoneBy}
use Rattle.run_play.specs.Rounds.{Round}
use Rattle.run_desk.specs.Lines.{with_newline}
use Rattle.run_play.specs.Play.{flush_todo}
use Rattle.run_desk.specs.LinesTodo.{lines_todo}
use Rattle.run_play.specs.Pieces.{Piece, bytes_of_pieces, BreaksOff}
use Rattle.run_play.specs.LineParts.{slot_pieces, line_pieces}

pub more_none : (o : Option (List ℕ)) → o ≡ with_more o []
more_none None = refl
more_none (Some bytes) = ap Some (sym (append-nil bytes))

pub more_more : (b : Bool) (o : Option (List ℕ)) (first rest : List ℕ) → with_more (if b then with_more o first else o) rest ≡ with_more o (if b then first ++ rest else rest)
more_more true None first rest = refl
more_more true (Some bytes) first rest = ap Some (append_assoc bytes first rest)
more_more false o first rest = refl

more_twice : (o : Option (List ℕ)) (first rest : List ℕ) → with_more (with_more o first) rest ≡ with_more o (first ++ rest)
more_twice None first rest = refl
more_twice (Some bytes) first rest = ap Some (append_assoc bytes first rest)

pub bytes-append : (place : DeskPlace) (a b : List Piece) → bytes_of_pieces place (a ++ b) ≡ bytes_of_pieces place a ++ bytes_of_pieces place b
bytes-append place [] b = refl
bytes-append place (piece ∷ a) b =
    ap (λ xs. if same_place piece.0 place then piece.1 ++ xs else xs) (bytes-append place a b) ∙ on (same_place piece.0 place) piece.1 (bytes_of_pieces place a) (bytes_of_pieces place b)
  where
    on : (t : Bool) (first xs ys : List ℕ) → (if t then first ++ (xs ++ ys) else (xs ++ ys)) ≡ (if t then first ++ xs else xs) ++ ys
    on true first xs ys = sym (append_assoc first xs ys)
    on false first xs ys = refl

-- ---- calls

-- a call for each piece
abbrev pub puts : List Piece → Todo → Todo
puts [] rest = rest
puts (piece ∷ pieces) rest = Do (Put piece.0 piece.1) (puts pieces rest)

puts_lines : (lines : List (List ℕ)) (rest : Todo) → lines_todo lines rest ≡ puts (line_pieces lines) rest
puts_lines [] rest = refl
puts_lines (line ∷ lines) rest = ap (Do (Put Spoken (with_newline line))) (puts_lines lines rest)

pub puts_flush : (written : List Written) (lines : List (List ℕ)) (rest : Todo) → flush_todo written (lines_todo lines rest) ≡ puts (slot_pieces written ++ line_pieces lines) rest
puts_flush [] lines rest = puts_lines lines rest
puts_flush ((slot, bytes) ∷ written) lines rest = ap (Do (Put (Slot slot) bytes)) (puts_flush written lines rest)

-- the commands of units
abbrev pub commands_of : List Round → List Command
commands_of rounds = map (λ (round : Round). round.numbered.command) rounds

-- ---- what they wrote

module _ {D : Type 0} (means : DeskMeaning D) where
  -- these pieces were written from one desk to another, and nothing else
  abbrev pub Wrote : List Piece → D → D → Type 0
  Wrote made old new = (place : DeskPlace) → means.wrote new place ≡ with_more (means.wrote old place) (bytes_of_pieces place made)

  -- and as much is still to be read of each file
  abbrev pub SameUnread : D → D → Type 0
  SameUnread old new = (slot : ℕ) → means.unread new slot ≡ means.unread old slot

  pub wrote-none : (old new : D) → new ≡ old → Wrote [] old new
  wrote-none old new same place = ap (λ d. means.wrote d place) same ∙ more_none (means.wrote old place)

  pub wrote-append : (a b : List Piece) (old m new : D) → Wrote a old m → Wrote b m new → Wrote (a ++ b) old new
  wrote-append a b old m new first rest place =
      rest place
      ∙ ap (λ o. with_more o (bytes_of_pieces place b)) (first place)
      ∙ more_twice (means.wrote old place) (bytes_of_pieces place a) (bytes_of_pieces place b)
      ∙ ap (with_more (means.wrote old place)) (sym (bytes-append place a b))

  pub put_part : (to : DeskPlace) (piece : List ℕ) (act : DeskAct) (done : Bool) (old new : D) → act ≡ Put to piece → (acted : Acted means act done old new) → (place : DeskPlace) → means.wrote new place ≡ (if same_place to place then with_more (means.wrote old place) acted.part else means.wrote old place)
  put_part to piece act done old new is acted place =
      acted.wrote place ∙ ap (λ a. written_after a done acted.part place (means.wrote old place)) is

  -- a call for a piece wrote it, or a front of it
  module _ (piece : Piece) (act : DeskAct) (done : Bool) (old new : D) (is : act ≡ Put piece.0 piece.1) (acted : Acted means act done old new) where
    part_is : Part done acted.part piece.1
    part_is = subst (λ a. Takes a done acted.part) is acted.takes

    wrote-part : Wrote ((piece.0, acted.part) ∷ []) old new
    wrote-part place =
        put_part piece.0 piece.1 act done old new is acted place
        ∙ more_none (if same_place piece.0 place then with_more (means.wrote old place) acted.part else means.wrote old place)
        ∙ more_more (same_place piece.0 place) (means.wrote old place) acted.part []

  -- all pieces were written, and what comes next was done; or the desk failed at one of them
  pub record Through (pieces : List Piece) (rest : Todo) (turns : List Turn) (status : ℕ) (old new : D) : Type 0 where
    pub mid : D
    pub calls : List DeskCall
    pub goes : DoneBy rest turns calls status
    pub led : DeskLed means mid calls new
    pub wrote : Wrote pieces old mid
    pub unread : SameUnread old mid

  pub record Broke (pieces : List Piece) (turns : List Turn) (status : ℕ) (old new : D) : Type 0 where
    pub made : List Piece
    pub breaks : BreaksOff made pieces
    pub wrote : Wrote made old new
    pub unread : SameUnread old new
    pub none : turns ≡ []
    pub three : status ≡ 3

  put_unread : (to : DeskPlace) (piece : List ℕ) (act : DeskAct) (done : Bool) (old new : D) → act ≡ Put to piece → Acted means act done old new → SameUnread old new
  put_unread to piece act done old new is acted slot = acted.unread slot ∙ ap (λ a. unread_after (means.holds old) a done slot (means.unread old slot)) is

  module _ (piece : Piece) (pieces : List Piece) (rest : Todo) (turns : List Turn) (status : ℕ) (old m new : D) (wrote : Wrote (piece ∷ []) old m) (unread : SameUnread old m) where
    one_more : Through pieces rest turns status m new ⊎ Broke pieces turns status m new → Through (piece ∷ pieces) rest turns status old new ⊎ Broke (piece ∷ pieces) turns status old new
    one_more (inl t) = inl record { mid = t.mid; calls = t.calls; goes = t.goes; led = t.led; wrote = wrote-append (piece ∷ []) pieces old m t.mid wrote t.wrote; unread = λ slot. t.unread slot ∙ unread slot }
    one_more (inr b) = inr record { made = piece ∷ b.made; breaks = inr (refl, b.breaks); wrote = wrote-append (piece ∷ []) b.made old m new wrote b.wrote; unread = λ slot. b.unread slot ∙ unread slot; none = b.none; three = b.three }

  pub puts_go : (pieces : List Piece) (rest : Todo) (turns : List Turn) (calls : List DeskCall) (status : ℕ) (old new : D) → DoneBy (puts pieces rest) turns calls status → DeskLed means old calls new → Through pieces rest turns status old new ⊎ Broke pieces turns status old new
  puts_go [] rest turns calls status old new goes led = inl record { mid = old; calls = calls; goes = goes; led = led; wrote = wrote-none old old refl; unread = λ slot. refl }
  puts_go (piece ∷ pieces) rest turns [] status old new goes led = absurd goes
  puts_go (piece ∷ pieces) rest turns (Load name limit heard ∷ calls) status old new goes led = absurd goes
  puts_go (piece ∷ pieces) rest turns (Read n size got ∷ calls) status old new goes led = absurd goes
  puts_go (piece ∷ pieces) rest turns (Did act true ∷ calls) status old new goes led =
      let acted : Acted means act true old led.0 = led.1 in
      let whole = subst (λ bytes. Wrote ((piece.0, bytes) ∷ []) old led.0) (part_is piece act true old led.0 goes.0 acted) (wrote-part piece act true old led.0 goes.0 acted) in
      one_more piece pieces rest turns status old led.0 new whole (put_unread piece.0 piece.1 act true old led.0 goes.0 acted) (puts_go pieces rest turns calls status led.0 new goes.1 led.2)
  puts_go (piece ∷ pieces) rest turns (Did act false ∷ calls) status old new goes led =
      let acted : Acted means act false old led.0 = led.1 in
      let last : new ≡ led.0 = subst (λ cs. DeskLed means led.0 cs new) goes.1.1 led.2 in
      inr record {
        made = (piece.0, acted.part) ∷ [];
        breaks = inl (refl, part_is piece act false old led.0 goes.0 acted, refl);
        wrote = subst (Wrote ((piece.0, acted.part) ∷ []) old) (sym last) (wrote-part piece act false old led.0 goes.0 acted);
        unread = subst (SameUnread old) (sym last) (put_unread piece.0 piece.1 act false old led.0 goes.0 acted);
        none = goes.1.0;
        three = goes.1.2;
      }
