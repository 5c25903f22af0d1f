-- A job that sends acts once, or twice, over any device.
use Rattle.std.proofs.Common.{◌≡◌, refl, sym, ap, subst, ◌∙◌, ℕ, List, [], ◌∷◌, ◌++◌, Bool, true, false, Ok}
use Rattle.stream_law.specs.Past.{Moment}
use Rattle.mbox_link.specs.Calls.{World, Meaning, Led}
use Rattle.mbox_link.specs.Meetings.{Meeting}
use Rattle.host_widgets.specs.ActCalls.{ActsDid, Onwards, next_of, calls_of}
use Rattle.host_widgets.specs.ActRules.{ActRules}
use Rattle.host_widgets.specs.Host.{Outcome}
use Rattle.host_widgets.specs.OneAct.{Performed, one_act}
use Rattle.host_widgets.specs.Routines.{Routine, Finished, Sending, Job, JobDone, RoutineDid, not_begun, followed, walk_on}
use Rattle.host_widgets.specs.Walk.{Walked, walk, followed_by, goes_past, first_of}

module _ {D S A : Type 0} (means : Meaning D) (rules : ActRules S A) where
  -- ---- more meetings than a walk takes

  record TakesSome (a b : Walked S A (List Meeting)) (late : List Meeting) : Type 0 where
    outcome : b.outcome ≡ a.outcome
    kept : b.kept ≡ a.kept
    queue : b.queue ≡ late

  walk-some : (goes_on : Bool) (acts : List A) (early late : List Meeting) (kept : S) (w v : World D) → ActsDid means rules goes_on kept acts early w v → TakesSome (walk rules goes_on next_of kept early acts) (walk rules goes_on next_of kept (early ++ late) acts) late
  walk-some goes_on [] early late kept w v did = record { outcome = refl; kept = refl; queue = ap (λ (ms : List Meeting). ms ++ late) did.0 }
  walk-some goes_on (act ∷ acts) [] late kept w v did = absurd did
  walk-some goes_on (act ∷ acts) (m ∷ ms) late kept w v (mid, d, on) = by (goes_past goes_on a.outcome) on (λ did. walk-some goes_on acts ms late a.kept mid v did)
    where
      a : Performed S
      a = one_act rules kept act m

      by : (b : Bool) → Onwards b ms mid v (ActsDid means rules goes_on a.kept acts ms mid v) →
          (ActsDid means rules goes_on a.kept acts ms mid v → TakesSome (walk rules goes_on next_of a.kept ms acts) (walk rules goes_on next_of a.kept (ms ++ late) acts) late) →
          TakesSome (followed_by act a ms b (walk rules goes_on next_of a.kept ms acts)) (followed_by act a (ms ++ late) b (walk rules goes_on next_of a.kept (ms ++ late) acts)) late
      by true rest go = let r = go rest in record { outcome = ap (first_of a.outcome) r.outcome; kept = r.kept; queue = r.queue }
      by false end go = record { outcome = refl; kept = refl; queue = ap (λ (xs : List Meeting). xs ++ late) end.0 }

  -- ---- what came before matters by its end alone

  record AreSame (a b : Walked S A (List Meeting)) : Type 0 where
    outcome : a.outcome ≡ b.outcome
    kept : a.kept ≡ b.kept

  on-same : (a b : Walked S A (List Meeting)) → a.outcome ≡ b.outcome → a.kept ≡ b.kept → a.queue ≡ b.queue → (r : Routine S A) → AreSame (walk_on rules next_of a r) (walk_on rules next_of b r)
  on-same a b o k q (Finished end moments) = record { outcome = o; kept = refl }
  on-same a b o k q (Sending acts goes_on then) =
      let x : Walked S A (List Meeting) = walk rules goes_on next_of a.kept a.queue acts in
      let y : Walked S A (List Meeting) = walk rules goes_on next_of b.kept b.queue acts in
      let same : x ≡ y = λ i. walk rules goes_on next_of (k i) (q i) acts in
      let r = on-same (followed a x) (followed b y) (λ i. first_of (o i) (same i).outcome) (λ i. (same i).kept) (λ i. (same i).queue) (then x.kept x.outcome) in
      record {
        outcome = r.outcome ∙ ap (λ (z : Walked S A (List Meeting)). (walk_on rules next_of (followed b y) (then z.kept z.outcome)).outcome) same;
        kept = r.kept ∙ ap (λ (z : Walked S A (List Meeting)). (walk_on rules next_of (followed b y) (then z.kept z.outcome)).kept) same;
      }

  -- ---- one leg

  abbrev behind : Walked S A (List Meeting) → Walked S A (List Meeting) → List Meeting → Walked S A (List Meeting)
  behind before now late = record { outcome = first_of before.outcome now.outcome; kept = now.kept; moments = []; sent = []; queue = late }

  one-leg : (before : Walked S A (List Meeting)) (acts : List A) (goes_on : Bool) (then : S → Outcome → Routine S A) (early late : List Meeting) (w v : World D) → before.queue ≡ early ++ late → ActsDid means rules goes_on before.kept acts early w v →
      (r : Routine S A) → (let now = walk rules goes_on next_of before.kept early acts in then now.kept now.outcome) ≡ r →
      AreSame (walk_on rules next_of before (Sending acts goes_on then)) (walk_on rules next_of (behind before (walk rules goes_on next_of before.kept early acts) late) r)
  one-leg before acts goes_on then early late w v queue did r is =
      let now : Walked S A (List Meeting) = walk rules goes_on next_of before.kept early acts in
      let long : Walked S A (List Meeting) = walk rules goes_on next_of before.kept before.queue acts in
      let t = walk-some goes_on acts early late before.kept w v did in
      let cut : long ≡ walk rules goes_on next_of before.kept (early ++ late) acts = ap (λ (ms : List Meeting). walk rules goes_on next_of before.kept ms acts) queue in
      let outcome : long.outcome ≡ now.outcome = ap (λ (z : Walked S A (List Meeting)). z.outcome) cut ∙ t.outcome in
      let kept : long.kept ≡ now.kept = ap (λ (z : Walked S A (List Meeting)). z.kept) cut ∙ t.kept in
      let left : long.queue ≡ late = ap (λ (z : Walked S A (List Meeting)). z.queue) cut ∙ t.queue in
      let at : then long.kept long.outcome ≡ r = (λ i. then (kept i) (outcome i)) ∙ is in
      let s = on-same (followed before long) (behind before now late) (ap (first_of before.outcome) outcome) kept left r in
      record {
        outcome = ap (λ (z : Routine S A). (walk_on rules next_of (followed before long) z).outcome) at ∙ s.outcome;
        kept = ap (λ (z : Routine S A). (walk_on rules next_of (followed before long) z).kept) at ∙ s.kept;
      }

  -- ---- jobs

  -- acts were sent from here, with this result
  pub record HasGone (kept : S) (acts : List A) (goes_on : Bool) (w v : World D) (left : S) (outcome : Outcome) : Type 0 where
    pub meetings : List Meeting
    pub did : ActsDid means rules goes_on kept acts meetings w v
    pub came : outcome ≡ (walk rules goes_on next_of kept meetings acts).outcome
    pub left_is : left ≡ (walk rules goes_on next_of kept meetings acts).kept

  module _ (heap : ℕ) (job : Job S A) (acts : List A) (goes_on : Bool) (then : S → Outcome → Routine S A) (sends : job.routine ≡ Sending acts goes_on then) (w begun mid v : World D) (first : Led means w (calls_of heap job.first) begun)
      (left : S) (outcome : Outcome) (gone : HasGone job.from acts goes_on begun mid left outcome) where
    abbrev now : Walked S A (List Meeting)
    now = walk rules goes_on next_of job.from gone.meetings acts

    same-then : then now.kept now.outcome ≡ then left outcome
    same-then i = then (sym gone.left_is i) (sym gone.came i)

    -- finished after them
    pub once-done : (end : S) (moments : List Moment) → then left outcome ≡ Finished end moments → Led means mid (calls_of heap moments) v → JobDone means rules heap job end w v outcome
    once-done end moments ends led =
        let s = one-leg (not_begun job.from (gone.meetings ++ [])) acts goes_on then gone.meetings [] begun mid refl gone.did (Finished end moments) (same-then ∙ ends) in
        record {
          meetings = gone.meetings ++ [];
          begun = begun;
          first = first;
          did = subst (λ (r : Routine S A). RoutineDid means rules heap job.from r (gone.meetings ++ []) begun v) (sym sends)
              (gone.meetings, [], mid, refl, gone.did, subst (λ (r : Routine S A). RoutineDid means rules heap now.kept r [] mid v) (sym (same-then ∙ ends)) (refl, led));
          came = gone.came ∙ sym s.outcome ∙ ap (λ (r : Routine S A). (walk_on rules next_of (not_begun job.from (gone.meetings ++ [])) r).outcome) (sym sends);
          left = sym s.kept ∙ ap (λ (r : Routine S A). (walk_on rules next_of (not_begun job.from (gone.meetings ++ [])) r).kept) (sym sends);
        }

    -- others were sent after them
    module _ (more : List A) (goes_on' : Bool) (last : S → Outcome → Routine S A) (again : then left outcome ≡ Sending more goes_on' last) (mid' : World D) (left' : S) (outcome' : Outcome) (gone' : HasGone left more goes_on' mid mid' left' outcome') where
      -- from what the first walk kept
      moved : HasGone now.kept more goes_on' mid mid' left' outcome'
      moved = subst (λ (k : S). HasGone k more goes_on' mid mid' left' outcome') gone.left_is gone'

      pub twice-done : (end : S) (moments : List Moment) → last left' outcome' ≡ Finished end moments → Led means mid' (calls_of heap moments) v → JobDone means rules heap job end w v (first_of outcome outcome')
      twice-done end moments ends led =
          let all : List Meeting = gone.meetings ++ (moved.meetings ++ []) in
          let later : Walked S A (List Meeting) = walk rules goes_on' next_of now.kept moved.meetings more in
          let finish : last later.kept later.outcome ≡ Finished end moments = (λ i. last (sym moved.left_is i) (sym moved.came i)) ∙ ends in
          let s = one-leg (not_begun job.from all) acts goes_on then gone.meetings (moved.meetings ++ []) begun mid refl gone.did (Sending more goes_on' last) (same-then ∙ again) in
          let t = one-leg (behind (not_begun job.from all) now (moved.meetings ++ [])) more goes_on' last moved.meetings [] mid mid' refl moved.did (Finished end moments) finish in
          record {
            meetings = all;
            begun = begun;
            first = first;
            did = subst (λ (r : Routine S A). RoutineDid means rules heap job.from r all begun v) (sym sends) (
              gone.meetings,
              moved.meetings ++ [],
              mid,
              refl,
              gone.did,
              subst (λ (r : Routine S A). RoutineDid means rules heap now.kept r (moved.meetings ++ []) mid v) (sym (same-then ∙ again))
                  (moved.meetings, [], mid', refl, moved.did, subst (λ (r : Routine S A). RoutineDid means rules heap later.kept r [] mid' v) (sym finish) (refl, led)),
            );
            came = (λ i. first_of (gone.came i) (moved.came i)) ∙ sym t.outcome ∙ sym s.outcome ∙ ap (λ (r : Routine S A). (walk_on rules next_of (not_begun job.from all) r).outcome) (sym sends);
            left = sym t.kept ∙ sym s.kept ∙ ap (λ (r : Routine S A). (walk_on rules next_of (not_begun job.from all) r).kept) (sym sends);
          }

  -- nothing was sent
  pub none-sent : (heap : ℕ) (job : Job S A) (end kept' : S) (w v : World D) → job.first ≡ [] → job.routine ≡ Finished end [] → kept' ≡ end → v ≡ w → JobDone means rules heap job kept' w v (Ok tt)
  none-sent heap job end kept' w v first routine left stays = record {
    meetings = [];
    begun = w;
    first = subst (λ (ms : List Moment). Led means w (calls_of heap ms) w) (sym first) refl;
    did = subst (λ (r : Routine S A). RoutineDid means rules heap job.from r [] w v) (sym routine) (refl, stays);
    came = sym (ap (λ (r : Routine S A). (walk_on rules next_of (not_begun job.from []) r).outcome) routine);
    left = left ∙ sym (ap (λ (r : Routine S A). (walk_on rules next_of (not_begun job.from []) r).kept) routine);
  }
