-- The written run of a sound plan is one: commands, doings and inputs lead to one list of legs.
use Rattle.std.proofs.Common.{◌≡◌, sym, ap, ◌∙◌, subst, List, [], ◌∷◌}
use Rattle.stream_law.specs.Past.{Moment}
use Rattle.stream_law.specs.StreamLaws.{AreRanked}
use Rattle.stream_law.proofs.OnePast.{leads_same}
use Rattle.mbox_link.specs.Meetings.{Doing}
use Rattle.tplg_plan.specs.Sound.{IsSound}
use Rattle.host_widgets.specs.declared.kept.Record.{Record}
use Rattle.sof_script.specs.declared.script.Command.{Command}
use Rattle.sof_session.specs.Commands.{Known}
use Rattle.sof_session.specs.RunLaws.{HasRanks}
use Rattle.sof_session.specs.Written.{Basis, Ground, At, Leg, LegStep, IsLeg, IsRun, came_at, out_of, end_of, basis_of}
use Rattle.sof_session.proofs.RankedRuns.{AllRanks, are-ranked, leads-ranks, next-ranks}

-- ---- by any rules by which what is kept stays so, and each view that comes has ranks

module _ {S A : Type 0} (b : Basis S A) (doing : Doing) (Left : S → Type 0) where
  abbrev pub RanksStay : Type 0
  RanksStay = (command : Command) (old : At S) → Left old.known.kept → AllRanks (came_at b doing command old).moments × Left (came_at b doing command old).known.kept

  -- the view of a place has ranks, and what is kept is so
  abbrev pub IsRankedAt : At S → Type 0
  IsRankedAt at = HasRanks at.past.view × Left at.known.kept

  module _ (stay : RanksStay) where
    abbrev moments_at : Command → At S → List Moment
    moments_at command old = (came_at b doing command old).moments

    one-at : (command : Command) (old a c : At S) → AreRanked old.past.view (moments_at command old) → LegStep b doing command old a → LegStep b doing command old c → a ≡ c
    one-at command old a c ranked x y = λ i. record {
      known = (x.known ∙ sym y.known) i;
      past = leads_same b.whole (moments_at command old) old.past a.past c.past ranked x.led y.led i;
    }

    one-leg : (command : Command) (old : At S) (x y : Leg S) → IsRankedAt old → IsLeg b doing command old x → IsLeg b doing command old y → x ≡ y
    one-leg command old x y ranks is other =
        let at = one-at command old x.at y.at (are-ranked (moments_at command old) old.past.view ranks.0 (stay command old ranks.1).0) is.goes other.goes in
        λ i. record {
          command = (is.command_is ∙ sym other.command_is) i;
          out = (is.out_is ∙ ap (out_of b doing command old) at ∙ sym other.out_is) i;
          moments = (is.moments_are ∙ sym other.moments_are) i;
          at = at i;
        }

    -- after a leg
    leg-ranked : (command : Command) (old : At S) (leg : Leg S) → IsRankedAt old → IsLeg b doing command old leg → IsRankedAt leg.at
    leg-ranked command old leg ranks is =
        let later = stay command old ranks.1 in (
          leads-ranks b.whole (moments_at command old) old.past leg.at.past ranks.0 later.0 is.goes.led,
          subst (λ (k : Known S). Left k.kept) (sym is.goes.known) later.1,
        )

    pub run-from : (commands : List Command) (old : At S) (xs ys : List (Leg S)) → IsRankedAt old → IsRun b doing commands old xs → IsRun b doing commands old ys → xs ≡ ys
    run-from [] old xs ys ranks x y = x ∙ sym y
    run-from (command ∷ commands) old [] ys ranks x y = absurd x
    run-from (command ∷ commands) old (a ∷ xs) [] ranks x y = absurd y
    run-from (command ∷ commands) old (a ∷ xs) (c ∷ ys) ranks x y =
        let same = one-leg command old a c ranks x.0 y.0 in
        let rest = leg-ranked command old a ranks x.0 in
        λ i. same i ∷ run-from commands a.at xs ys rest x.1 (subst (λ (leg : Leg S). IsRun b doing commands leg.at ys) (sym same) y.1) i

    -- where it ends
    pub run-ranked : (commands : List Command) (old : At S) (legs : List (Leg S)) → IsRankedAt old → IsRun b doing commands old legs → IsRankedAt (end_of old legs)
    run-ranked [] old legs ranks run = subst (λ (xs : List (Leg S)). IsRankedAt (end_of old xs)) (sym run) ranks
    run-ranked (command ∷ commands) old [] ranks run = ranks
    run-ranked (command ∷ commands) old (leg ∷ legs) ranks run = run-ranked commands leg.at legs (leg-ranked command old leg ranks run.0) run.1

-- ---- where all pipelines are made at a load

module _ (g : Ground) (sound : IsSound g.plan) (doing : Doing) where
  abbrev Any : Record → Type 0
  Any kept = Unit {0}

  stay : RanksStay (basis_of g) doing Any
  stay command old any = (next-ranks g.plan sound g.heap doing old.known command, tt)

  pub one-run : (commands : List Command) (old : At Record) (xs ys : List (Leg Record)) → HasRanks old.past.view → IsRun (basis_of g) doing commands old xs → IsRun (basis_of g) doing commands old ys → xs ≡ ys
  one-run commands old xs ys ranks x y = run-from (basis_of g) doing Any stay commands old xs ys (ranks, tt) x y

  pub run-ranks : (commands : List Command) (old : At Record) (legs : List (Leg Record)) → HasRanks old.past.view → IsRun (basis_of g) doing commands old legs → HasRanks (end_of old legs).past.view
  run-ranks commands old legs ranks run = (run-ranked (basis_of g) doing Any stay commands old legs (ranks, tt) run).0
