-- What a step says stays so as ids come after those that are there.
use Rattle.std.proofs.Common.{◌≡◌, ap, ◌∙◌, ℕ, ◌-◌, ◌≤◌, List, [], ◌∷◌, ◌++◌, length, length-append, take, drop, length-drop, arith}
use Rattle.std.proofs.lemmas.List.{drop-append-le, take-append-le, take_all}
use Rattle.std.proofs.Math.Seq.{drop-append_seam}
use Rattle.std.specs.List.{AllByRecursion}
use Rattle.stream_law.specs.State.{View}
use Rattle.fw_schedule.specs.declared.steps.Step.{Step}
use Rattle.fw_schedule.specs.Schedules.{IsStepOf}

-- ---- parts of lists

pub front-more : (ids more : List ℕ) (a b : ℕ) → a ≤ b → b ≤ length ids → take (b - a) (drop a (ids ++ more)) ≡ take (b - a) (drop a ids)
front-more ids more a b some low =
    ap (take (b - a)) (drop-append-le a ids more (omega (arith, some, low)))
    ∙ take-append-le (b - a) (drop a ids) more (omega (arith, some, low, length-drop a ids))

-- those after the others
pub behind : (ids more : List ℕ) (a b : ℕ) → a ≡ length ids → b ≡ length (ids ++ more) → take (b - a) (drop a (ids ++ more)) ≡ more
behind ids more a b first past =
    ap (λ n. take (b - a) (drop n (ids ++ more))) first
    ∙ ap (take (b - a)) (drop-append_seam ids more)
    ∙ take_all (b - a) more (omega (arith, first, past, length-append ids more))

-- ---- steps

step-more : (v : View) (ids more : List ℕ) (s : Step) → IsStepOf v ids s → IsStepOf v (ids ++ more) s
step-more v ids more s is = record {
  place = is.place;
  kind = is.kind;
  format = is.format;
  active = is.active;
  channels = is.channels;
  period = is.period;
  rate = is.rate;
  whole = is.whole;
  over = is.over;
  within = (is.within.0, is.within.1, omega (arith, is.within.2, length-append ids more));
  inlets = front-more ids more s.first s.past is.within.0 (omega (arith, is.within.1, is.within.2)) ∙ is.inlets;
  outlets = front-more ids more s.past s.end is.within.1 is.within.2 ∙ is.outlets;
}

pub steps-more : (v : View) (ids more : List ℕ) (ss : List Step) → AllByRecursion (IsStepOf v ids) ss → AllByRecursion (IsStepOf v (ids ++ more)) ss
steps-more v ids more [] all = tt
steps-more v ids more (s ∷ ss) all = (step-more v ids more s all.0, steps-more v ids more ss all.1)

pub steps-end : (v : View) (ids : List ℕ) (ss : List Step) (s : Step) → AllByRecursion (IsStepOf v ids) ss → IsStepOf v ids s → AllByRecursion (IsStepOf v ids) (ss ++ s ∷ [])
steps-end v ids [] s all is = (is, tt)
steps-end v ids (t ∷ ss) s all is = (all.0, steps-end v ids ss s all.1 is)
