-- Loops over the streams of a plan, each of which is sent at most one act.
use Rattle.std.proofs.Common.{◌≡◌, ℕ, zero, suc, ◌+◌, ◌<◌, ◌≤◌, List, [], ◌∷◌, ◌++◌, Bool, true, false, Option, Some, None, Ok, length, zip, get_or, drop, refl, sym, ap, subst, ◌∙◌, arith, append_assoc}
use Rattle.std.specs.List.{flat_map}
use Rattle.std.proofs.lemmas.List.{drop_more}
use Rattle.sof_base.specs.declared.format.Params.{Params}
use Rattle.mbox_link.specs.Calls.{World, Meaning}
use Rattle.tplg_plan.specs.declared.plans.Plan.{Plan}
use Rattle.tplg_plan.specs.declared.plans.StreamPlan.{StreamPlan}
use Rattle.host_widgets.specs.declared.kept.Found.{Found}
use Rattle.host_widgets.specs.declared.kept.Found.TheVariants.{Closed, Open, Prepared, Running, Paused, On as Found_On}
use Rattle.host_widgets.specs.declared.kept.StreamRec.{StreamRec}
use Rattle.host_widgets.specs.declared.kept.Record.{Record}
use Rattle.host_widgets.specs.HostActs.{Act}
use Rattle.host_widgets.specs.ActLists.{stop_by, prepare_by}
use Rattle.host_widgets.specs.Host.{Outcome}
use Rattle.host_widgets.specs.Walk.{goes_past, first_of}
use Rattle.host_pm.specs.InTurn.{InTurn}
use Rattle.host_pm.proofs.Turns.{Ready, Ahead, IsFew, turns-ready, both-past, ahead-more, ahead-ends}

abbrev pub Pair : Type 0
Pair = StreamPlan × StreamRec

zip-at : (ss : List StreamPlan) (rs : List StreamRec) → length rs ≡ length ss → (k : ℕ) → k < length ss → (s : StreamPlan) (r : StreamRec) → get_or (zip ss rs) k (s, r) ≡ (get_or ss k s, get_or rs k r)
zip-at [] rs same k low s r = absurd (omega (arith, low))
zip-at (x ∷ ss) [] same k low s r = absurd (cc same)
zip-at (x ∷ ss) (y ∷ rs) same zero low s r = refl
zip-at (x ∷ ss) (y ∷ rs) same (suc k) low s r = zip-at ss rs (let rest : length rs ≡ length ss = omega (arith, same) in rest) k (omega (arith, low)) s r

pub zip-long : (ss : List StreamPlan) (rs : List StreamRec) → length rs ≡ length ss → length (zip ss rs) ≡ length ss
zip-long [] rs same = refl
zip-long (x ∷ ss) [] same = absurd (cc same)
zip-long (x ∷ ss) (y ∷ rs) same = ap suc (zip-long ss rs (let rest : length rs ≡ length ss = omega (arith, same) in rest))

drop-past : {X : Type 0} (xs : List X) (k : ℕ) → length xs ≤ k → drop k xs ≡ []
drop-past [] zero low = refl
drop-past [] (suc k) low = refl
drop-past (x ∷ xs) zero low = absurd (omega (arith, low))
drop-past (x ∷ xs) (suc k) low = drop-past xs k (omega (arith, low))

module _ {D : Type 0} (means : Meaning D) (plan : Plan) (goes_on : Bool) where
  pub few-stops : (host : ℕ) (found : Found) → IsFew means plan goes_on (stop_by host found)
  few-stops host Running = tt
  few-stops host found = tt

  pub few-prepares : (host : ℕ) (found : Found) (params : Option Params) → IsFew means plan goes_on (prepare_by host found params)
  few-prepares host Prepared (Some p) = tt
  few-prepares host Prepared None = tt
  few-prepares host Running params = tt
  few-prepares host Paused params = tt
  few-prepares host Closed params = tt
  few-prepares host Open params = tt
  few-prepares host Found_On params = tt

  module _ (acts_of : Pair → List Act) (tail : List Act) (kept : Record) where
    -- what is still to be sent
    abbrev pub ahead_of : ℕ → List Act
    ahead_of i = flat_map acts_of (drop i (zip plan.streams kept.streams)) ++ tail

    pub record SoFar (i : ℕ) (w m : World D) (so_far : Outcome) : Type 0 where
      pub ready : Ready means plan goes_on m
      pub past : goes_past goes_on so_far ≡ true
      pub ahead : Ahead means plan goes_on (ahead_of 0) w (ahead_of i) m so_far

    pub at-first : (w : World D) → Ready means plan goes_on w → SoFar 0 w w (Ok tt)
    at-first w ready = record { ready = ready; past = refl; ahead = λ v o turn. turn }

    module _ (few : (p : Pair) → IsFew means plan goes_on (acts_of p)) (same : length kept.streams ≡ length plan.streams) where
      pub none-ahead : (i : ℕ) → length plan.streams ≤ i → ahead_of i ≡ tail
      none-ahead i past = ap (λ (ps : List Pair). flat_map acts_of ps ++ tail) (drop-past (zip plan.streams kept.streams) i (omega (arith, past, zip-long plan.streams kept.streams same)))

      module _ (i : ℕ) (low : i < length plan.streams) (xs : List StreamPlan) (xs-are : xs ≡ plan.streams) (d s : StreamPlan) (s-is : s ≡ get_or xs i d) (ys : List StreamRec) (ys-are : ys ≡ kept.streams) (e r : StreamRec) (r-is : r ≡ get_or ys i e)
          (w m v : World D) (so_far : Outcome) (before : SoFar i w m so_far) (o : Outcome) (turn : InTurn means plan goes_on (acts_of (s, r)) m v o) where
        here : get_or (zip plan.streams kept.streams) i (d, e) ≡ (s, r)
        here = zip-at plan.streams kept.streams same i low d e ∙ (λ j. (sym (s-is ∙ ap (λ (zs : List StreamPlan). get_or zs i d) xs-are) j, sym (r-is ∙ ap (λ (zs : List StreamRec). get_or zs i e) ys-are) j))

        next : ahead_of i ≡ acts_of (s, r) ++ ahead_of (i + 1)
        next =
            ap (λ (ps : List Pair). flat_map acts_of ps ++ tail) (drop_more (zip plan.streams kept.streams) i (d, e) (omega (arith, low, zip-long plan.streams kept.streams same)))
            ∙ ap (λ (p : Pair). flat_map acts_of (p ∷ drop (i + 1) (zip plan.streams kept.streams)) ++ tail) here
            ∙ append_assoc (acts_of (s, r)) (flat_map acts_of (drop (i + 1) (zip plan.streams kept.streams))) tail

        ahead-here : Ahead means plan goes_on (ahead_of 0) w (acts_of (s, r) ++ ahead_of (i + 1)) m so_far
        ahead-here = subst (λ (acts : List Act). Ahead means plan goes_on (ahead_of 0) w acts m so_far) next before.ahead

        pub one-more : goes_past goes_on o ≡ true → SoFar (i + 1) w v (first_of so_far o)
        one-more past = record {
          ready = turns-ready means plan goes_on (acts_of (s, r)) m v o turn before.ready;
          past = both-past goes_on so_far o before.past past;
          ahead = ahead-more means plan goes_on (ahead_of 0) w (ahead_of (i + 1)) m v so_far o (acts_of (s, r)) (few (s, r)) ahead-here turn before.past past;
        }

        pub one-ends : goes_past goes_on o ≡ false → InTurn means plan goes_on (ahead_of 0) w v (first_of so_far o)
        one-ends ends = ahead-ends means plan goes_on (ahead_of 0) w (ahead_of (i + 1)) m v so_far o (acts_of (s, r)) (few (s, r)) ahead-here turn ends
