-- What the plan says of the stream at a place, in every sound plan.
use Rattle.std.proofs.Common.{◌≡◌, ℕ, zero, suc, ◌<◌, List, [], ◌∷◌, length, map, get_or, Some, Bool, true, false, refl, sym, ap, subst, ◌∙◌, arith, if◌then◌else◌}
use Rattle.std.specs.List.{AllByRecursion, filter_map, cons_option}
use Rattle.stream_law.specs.declared.graph.Comp.{Comp}
use Rattle.stream_law.specs.declared.graph.Kind.{Kind}
use Rattle.stream_law.specs.declared.graph.Kind.TheVariants.{HostPlay, HostCapture}
use Rattle.stream_law.specs.Ways.{comp_of, is_capture}
use Rattle.tplg_plan.specs.declared.plans.Plan.{Plan}
use Rattle.tplg_plan.specs.declared.plans.StreamPlan.{StreamPlan}
use Rattle.tplg_plan.specs.Sound.{IsSound, host_by, host_of}
use Rattle.host_widgets.specs.HostRecord.{no_stream}
use Rattle.host_widgets.specs.Acts.{direction_by, direction_of}
use Rattle.host_widgets.proofs.NamedIds.{each-comp}

-- ---- a stream's direction

module _ (plan : Plan) (sound : IsSound plan) where
  abbrev GoesSo : ℕ × Bool → Type 0
  GoesSo p = direction_of plan p.0 ≡ (if p.1 then 1 else 0)

  each-goes : (cs : List Comp) → AllByRecursion (λ (c : Comp). comp_of plan.graph c.id ≡ Some c) cs → AllByRecursion GoesSo (filter_map host_of cs)
  each-goes [] there = tt
  each-goes (c ∷ cs) there = by c.kind refl (each-goes cs there.1)
    where
      here : (b : Bool) → is_capture c.kind ≡ b → GoesSo (c.id, b)
      here b is = ap direction_by there.0 ∙ ap (λ (x : Bool). if x then 1 else 0) is

      by : (kind : Kind) → c.kind ≡ kind → AllByRecursion GoesSo (filter_map host_of cs) → AllByRecursion GoesSo (cons_option (host_by kind c.id) (filter_map host_of cs))
      by HostPlay is rest = (here false (ap is_capture is), rest)
      by HostCapture is rest = (here true (ap is_capture is), rest)
      by kind is rest = rest

  at-place : (ss : List StreamPlan) → AllByRecursion GoesSo (map (λ (s : StreamPlan). (s.host, s.capture)) ss) → (k : ℕ) → k < length ss → GoesSo ((get_or ss k no_stream).host, (get_or ss k no_stream).capture)
  at-place [] all k low = absurd (omega (arith, low))
  at-place (s ∷ ss) all zero low = all.0
  at-place (s ∷ ss) all (suc k) low = at-place ss all.1 k (omega (arith, low))

  -- as the host writes it in messages
  pub place-goes : (k : ℕ) → k < length plan.streams → direction_of plan (get_or plan.streams k no_stream).host ≡ (if (get_or plan.streams k no_stream).capture then 1 else 0)
  place-goes k low = at-place plan.streams (subst (λ (ps : List (ℕ × Bool)). AllByRecursion GoesSo ps) (sym sound.hosts) (each-goes plan.graph.comps (each-comp plan sound))) k low

-- ---- the stream itself

same-there : (ss : List StreamPlan) (k : ℕ) (d : StreamPlan) → k < length ss → get_or ss k d ≡ get_or ss k no_stream
same-there [] k d low = absurd (omega (arith, low))
same-there (s ∷ ss) zero d low = refl
same-there (s ∷ ss) (suc k) d low = same-there ss k d (omega (arith, low))

-- as it is read from the plan's streams
pub place-stream : (plan : Plan) (k : ℕ) → k < length plan.streams → (xs : List StreamPlan) (d : StreamPlan) → xs ≡ plan.streams → get_or xs k d ≡ get_or plan.streams k no_stream
place-stream plan k low xs d is = ap (λ (ss : List StreamPlan). get_or ss k d) is ∙ same-there plan.streams k d low
