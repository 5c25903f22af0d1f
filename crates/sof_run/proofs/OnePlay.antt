-- Two plays of the same words that end with status 0 wrote the same.
use Rattle.std.proofs.Common.{◌≡◌, ◌⊎◌, inl, inr, ℕ, Bool, true, false, List, [], ◌∷◌, ◌++◌, map, take, length, Option, Some, None, refl, sym, ap, ◌∙◌, subst, arith}
use Rattle.sof_desk.specs.Desk.{DeskMeaning, DeskPlace, with_more}
use Rattle.mbox_link.specs.declared.fates.Fate.TheVariants.{Pass}
use Rattle.mbox_link.specs.Calls.{Meaning}
use Rattle.mbox_link.specs.Meetings.{Doing}
use Rattle.tplg_plan.specs.Sound.{IsSound}
use Rattle.tplg_graph.specs.PlanOf.{plan_of}
use Rattle.tplg_plan.specs.declared.plans.Plan.{Plan}
use Rattle.ipc3_trace.specs.declared.entry.Entry.{Entry}
use Rattle.sof_script.specs.declared.script.Command.{Command}
use Rattle.sof_script.specs.Tasks.{Out, Turn}
use Rattle.sof_session.specs.Written.{Ground, Leg, IsRun, first_at, basis_of}
use Rattle.sof_session.specs.Lives.{Life, device_of}
use Rattle.sof_session.specs.Modes.{Mode, made_at_load, made_on_use, basis_in}
use Rattle.sof_session.specs.RunLaws.{IsOneRun}
use Rattle.sof_session.specs.SessionStep.{Calm}
use Rattle.sof_session.proofs.OneRun.{one-run}
use Rattle.sof_session.proofs.RankedRuns.{empty-ranks}
use Rattle.sof_session.proofs.UpOneRun.{up-one-run}
use Rattle.run_desk.specs.Bindings.{bound_files}
use Rattle.run_play.specs.Rounds.{Round, rounds_of}
use Rattle.run_play.specs.Pieces.{Piece, pieces_of, AreWritten, opened, bytes_of_pieces}
use Rattle.run_play.specs.Keeping.{trace_slots, recorded_outs}
use Rattle.run_play.specs.Plays.{AreMet, Plays, PlaysIn, Unbegun, ground_of}
use Rattle.sof_run.specs.PlayLaws.{PlaysAreOne}
use Rattle.run_play.proofs.PlanWords.{sound_plan}
use Rattle.run_play.proofs.RecordedTurns.{as_many_outs}

-- the pieces of all units
abbrev pub all_pieces : List Round → List Out → List Piece
all_pieces [] outs = []
all_pieces (round ∷ rounds) [] = []
all_pieces (round ∷ rounds) (out ∷ outs) = pieces_of round out ++ all_pieces rounds outs

pub all_made : (rounds : List Round) (outs : List Out) (made : List Piece) → AreWritten rounds outs made 0 → (length outs ≡ length rounds) × (made ≡ all_pieces rounds outs)
all_made [] [] made w = (refl, w.0)
all_made [] (out ∷ outs) made w = absurd w
all_made (round ∷ rounds) [] made w = absurd (cc w.1)
all_made (round ∷ rounds) (out ∷ outs) made (inl w) =
    let rest = all_made rounds outs w.0 w.2 in
    (omega (arith, rest.0), w.1 ∙ ap (λ xs. pieces_of round out ++ xs) rest.1)
all_made (round ∷ rounds) (out ∷ outs) made (inr w) = absurd (cc w.2)

outs-length : {S : Type 0} (legs : List (Leg S)) → length (map (λ (leg : Leg S). leg.out) legs) ≡ length legs
outs-length [] = refl
outs-length (leg ∷ legs) = omega (arith, outs-length legs)

calm_is : (a b : Doing) → ((n : ℕ) → a n ≡ Pass) → ((n : ℕ) → b n ≡ Pass) → a ≡ b
calm_is a b x y = λ i. λ n. (x n ∙ sym (y n)) i

-- the records that a run leaves are the same ones
met_one : (trace : Option (List ℕ)) (plan : Plan) (heap : ℕ) (commands : List Command) (xs ys : List (List Entry)) → AreMet trace plan heap commands xs → AreMet trace plan heap commands ys → xs ≡ ys
met_one None plan heap commands xs ys x y = x ∙ sym y
met_one (Some name) plan heap commands xs ys x y = x ∙ sym y

module _ {D P S A : Type 0} (means : DeskMeaning D) (dsp : Meaning P) (mode : Mode P S A) (is_one : IsOneRun (λ (g : Ground). basis_in mode g)) (trace : Option (List ℕ)) (g : Ground) (sound : IsSound g.plan) (rounds : List Round) (old : D) (p : P) where
  abbrev commands : List Command
  commands = map (λ (round : Round). round.numbered.command) rounds

  module _ (new other : D) (last end : Life P) (ts us : List Turn) (rs qs : List (List Entry)) (calm : Calm dsp p (device_of last)) (still : Calm dsp p (device_of end))
      (x : Plays means dsp mode trace g rounds old new 0 p last ts rs) (y : Plays means dsp mode trace g rounds old other 0 p end us qs) where
    abbrev outs_of : List (List Entry) → List (Leg S) → List Out
    outs_of records legs = recorded_outs records (map (λ (leg : Leg S). leg.out) legs)

    abbrev Whole_of : List (List Entry) → List (Leg S) → List Piece → Type 0
    Whole_of records legs made = (length (outs_of records legs) ≡ length rounds) × (made ≡ all_pieces rounds (outs_of records legs))

    left : Whole_of rs x.legs x.made
    left = all_made rounds (outs_of rs x.legs) x.made x.written

    right : Whole_of qs y.legs y.made
    right = all_made rounds (outs_of qs y.legs) y.made y.written

    as_many : (records : List (List Entry)) (legs : List (Leg S)) → length (outs_of records legs) ≡ length legs
    as_many records legs = as_many_outs records (map (λ (leg : Leg S). leg.out) legs) ∙ outs-length legs

    as_long : length y.legs ≡ length x.legs
    as_long = sym (as_many qs y.legs) ∙ right.0 ∙ sym left.0 ∙ as_many rs x.legs

    records_one : rs ≡ qs
    records_one =
        met_one trace g.plan g.heap (take (length x.legs) commands) rs qs (x.met calm)
        (subst (λ (n : ℕ). AreMet trace g.plan g.heap (take n commands) qs) as_long (y.met still))

    doings : y.over.doing ≡ x.over.doing
    doings = calm_is y.over.doing x.over.doing (y.over.none still) (x.over.none calm)

    one : x.legs ≡ y.legs
    one =
        is_one g sound x.over.doing (take (length x.legs) commands) x.legs y.legs x.run
        (subst (λ (n : ℕ). IsRun (basis_in mode g) x.over.doing (take n commands) (first_at (basis_in mode g)) y.legs) as_long
        (subst (λ (d : Doing). IsRun (basis_in mode g) d (take (length y.legs) commands) (first_at (basis_in mode g)) y.legs) doings y.run))

    pieces : x.made ≡ y.made
    pieces = left.1 ∙ (λ i. all_pieces rounds (outs_of (records_one i) (one i))) ∙ sym right.1

    pub wrote_same : (place : DeskPlace) → means.wrote new place ≡ means.wrote other place
    wrote_same place = x.wrote place ∙ ap (λ (made : List Piece). with_more (opened (trace_slots trace ++ g.slots) place (means.wrote old place)) (bytes_of_pieces place made)) pieces ∙ sym (y.wrote place)

module _ {D P : Type 0} (means : DeskMeaning D) (dsp : Meaning P) where
  not_begun : {X : Type 0} (status : ℕ) → status ≡ 0 → (status ≡ 3) ⊎ (status ≡ 7) → X
  not_begun status zero (inl is) = absurd (cc (sym zero ∙ is))
  not_begun status zero (inr is) = absurd (cc (sym zero ∙ is))

  module _ {S A : Type 0} (mode : Mode P S A) (is_one : IsOneRun (λ (g : Ground). basis_in mode g)) where
    by_mode : (trace : Option (List ℕ)) (g : Ground) → IsSound g.plan → (rounds : List Round) (old new other : D) (p : P) (last end : Life P) (ts us : List Turn) (rs qs : List (List Entry)) → Calm dsp p (device_of last) → Calm dsp p (device_of end) →
        Plays means dsp mode trace g rounds old new 0 p last ts rs ⊎ Unbegun means (trace_slots trace ++ g.slots) old new 0 p last → Plays means dsp mode trace g rounds old other 0 p end us qs ⊎ Unbegun means (trace_slots trace ++ g.slots) old other 0 p end →
        (place : DeskPlace) → means.wrote new place ≡ means.wrote other place
    by_mode trace g sound rounds old new other p last end ts us rs qs calm still (inl x) (inl y) place = wrote_same means dsp mode is_one trace g sound rounds old p new other last end ts us rs qs calm still x y place
    by_mode trace g sound rounds old new other p last end ts us rs qs calm still (inl x) (inr y) place = not_begun 0 refl y.ended
    by_mode trace g sound rounds old new other p last end ts us rs qs calm still (inr x) y place = not_begun 0 refl x.ended

  -- all pipelines are made at a load, or each on use
  by : (on_use : Bool) (trace : Option (List ℕ)) (g : Ground) → IsSound g.plan → (rounds : List Round) (old new other : D) (p : P) (last end : Life P) (ts us : List Turn) (rs qs : List (List Entry)) → Calm dsp p (device_of last) → Calm dsp p (device_of end) →
      PlaysIn on_use means dsp trace g rounds old new 0 p last ts rs ⊎ Unbegun means (trace_slots trace ++ g.slots) old new 0 p last → PlaysIn on_use means dsp trace g rounds old other 0 p end us qs ⊎ Unbegun means (trace_slots trace ++ g.slots) old other 0 p end →
      (place : DeskPlace) → means.wrote new place ≡ means.wrote other place
  by false trace g sound rounds old new other p last end ts us rs qs calm still x y place =
      by_mode made_at_load (λ g sound doing commands xs ys first second. one-run g sound doing commands (first_at (basis_of g)) xs ys empty-ranks first second)
      trace g sound rounds old new other p last end ts us rs qs calm still x y place
  by true trace g sound rounds old new other p last end ts us rs qs calm still x y place =
      by_mode (made_on_use dsp) up-one-run trace g sound rounds old new other p last end ts us rs qs calm still x y place

  pub plays_one : PlaysAreOne means dsp
  plays_one words old new other p q r play told a b calm still place =
      by play.form.on_use play.form.trace (ground_of play (bound_files (plan_of play.t) (means.holds old) [] play.read.bindings)) (sound_plan play.t play.make_run.file.0 play.make_run.whole) (rounds_of play.read.commands) old new other p a.last b.last a.called.turns b.called.turns a.called.records b.called.records
      (subst (λ (d : P). Calm dsp p d) (sym a.exit.is) calm) (subst (λ (d : P). Calm dsp p d) (sym b.exit.is) still) (a.run play told) (b.run play told) place
