-- The streams of a sound plan ascend by host, so a place and its host name one stream.
use Rattle.std.proofs.Common.{◌≡◌, refl, sym, subst, ℕ, zero, suc, ◌<◌, List, [], ◌∷◌, map, length, get_or, Bool, true, ◌==◌, arith}
use Rattle.std.specs.List.{filter_map, cons_option}
use Rattle.std.proofs.lemmas.Bool.{eqb-true, eq-eqb, or_left, or_right}
use Rattle.stream_law.specs.declared.graph.Comp.{Comp}
use Rattle.stream_law.specs.declared.graph.Kind.{Kind}
use Rattle.stream_law.specs.declared.graph.Kind.TheVariants.{HostPlay, HostCapture}
use Rattle.stream_law.specs.Placed.{AreAbove, Ascends}
use Rattle.tplg_plan.specs.declared.plans.Plan.{Plan}
use Rattle.tplg_plan.specs.declared.plans.StreamPlan.{StreamPlan}
use Rattle.tplg_plan.specs.Sound.{IsSound, host_by, host_of}
use Rattle.host_widgets.specs.declared.kept.StreamRec.{StreamRec}
use Rattle.host_widgets.specs.HostRecord.{closed, no_stream}
use Rattle.host_widgets.proofs.ReadyWays.{has_host}
use Rattle.host_widgets.proofs.StreamRows.{AllAt}

abbrev host : StreamPlan → ℕ
host s = s.host

-- ---- hosts ascend

abbrev pair : StreamPlan → ℕ × Bool
pair s = (s.host, s.capture)

hosts-above : (n : ℕ) (cs : List Comp) → AreAbove (λ (c : Comp). c.id) n cs → AreAbove (λ (p : ℕ × Bool). p.0) n (filter_map host_of cs)
unfolding AreAbove
hosts-above n [] above = tt
hosts-above n (c ∷ cs) above = by c.kind (hosts-above n cs above.1)
  where
    by : (kind : Kind) → AreAbove (λ (p : ℕ × Bool). p.0) n (filter_map host_of cs) → AreAbove (λ (p : ℕ × Bool). p.0) n (cons_option (host_by kind c.id) (filter_map host_of cs))
    by HostPlay rest = (above.0, rest)
    by HostCapture rest = (above.0, rest)
    by kind rest = rest

hosts-ascend : (cs : List Comp) → Ascends (λ (c : Comp). c.id) cs → Ascends (λ (p : ℕ × Bool). p.0) (filter_map host_of cs)
unfolding Ascends
hosts-ascend [] up = tt
hosts-ascend (c ∷ cs) up = by c.kind (hosts-ascend cs up.1)
  where
    above : AreAbove (λ (p : ℕ × Bool). p.0) c.id (filter_map host_of cs)
    above = hosts-above c.id cs up.0

    by : (kind : Kind) → Ascends (λ (p : ℕ × Bool). p.0) (filter_map host_of cs) → Ascends (λ (p : ℕ × Bool). p.0) (cons_option (host_by kind c.id) (filter_map host_of cs))
    by HostPlay rest = (above, rest)
    by HostCapture rest = (above, rest)
    by kind rest = rest

pairs-above : (n : ℕ) (ss : List StreamPlan) → AreAbove (λ (p : ℕ × Bool). p.0) n (map pair ss) → AreAbove host n ss
unfolding AreAbove
pairs-above n [] above = tt
pairs-above n (s ∷ ss) above = (above.0, pairs-above n ss above.1)

pairs-ascend : (ss : List StreamPlan) → Ascends (λ (p : ℕ × Bool). p.0) (map pair ss) → Ascends host ss
unfolding Ascends
pairs-ascend [] up = tt
pairs-ascend (s ∷ ss) up = (pairs-above s.host ss up.0, pairs-ascend ss up.1)

pub streams-ascend : (plan : Plan) → IsSound plan → Ascends (λ (s : StreamPlan). s.host) plan.streams
streams-ascend plan sound = pairs-ascend plan.streams (subst (Ascends (λ (p : ℕ × Bool). p.0)) (sym sound.hosts) (hosts-ascend plan.graph.comps sound.comps_ascend))

-- ---- the stream at a place

above-at : (n : ℕ) (ss : List StreamPlan) → AreAbove host n ss → (k : ℕ) → k < length ss → n < (get_or ss k no_stream).host
unfolding AreAbove
above-at n [] above k low = absurd (omega (arith, low))
above-at n (s ∷ ss) above zero low = above.0
above-at n (s ∷ ss) above (suc k) low = above-at n ss above.1 k (omega (arith, low))

none-here : (So : StreamRec → Type 0) (n : ℕ) (ss : List StreamPlan) → AreAbove host n ss → (rs : List StreamRec) → AllAt So n ss rs
unfolding AreAbove
none-here So n [] above rs = tt
none-here So n (s ∷ ss) above [] = tt
none-here So n (s ∷ ss) above (r ∷ rs) = (λ here. absurd (let e : s.host ≡ n = eqb-true s.host n here in omega (arith, e, above.0)), none-here So n ss above.1 rs)

one-here : (So : StreamRec → Type 0) (ss : List StreamPlan) → Ascends host ss → (rs : List StreamRec) (k : ℕ) → k < length ss → So (get_or rs k closed) → AllAt So (get_or ss k no_stream).host ss rs
unfolding Ascends
one-here So [] up rs k low so = tt
one-here So (s ∷ ss) up [] k low so = tt
one-here So (s ∷ ss) up (r ∷ rs) zero low so = (λ here. so, none-here So s.host ss up.0 rs)
one-here So (s ∷ ss) up (r ∷ rs) (suc k) low so =
    let below : k < length ss = omega (arith, low) in
    let above = above-at s.host ss up.0 k below in
    (λ here. absurd (let e : s.host ≡ (get_or ss k no_stream).host = eqb-true s.host (get_or ss k no_stream).host here in omega (arith, e, above)), one-here So ss up.1 rs k below so)

has-here : (ss : List StreamPlan) (k : ℕ) → k < length ss → has_host ss (get_or ss k no_stream).host ≡ true
has-here [] k low = absurd (omega (arith, low))
has-here (s ∷ ss) zero low = or_left (s.host == s.host) (has_host ss s.host) (eq-eqb s.host s.host refl)
has-here (s ∷ ss) (suc k) low = or_right (s.host == (get_or ss k no_stream).host) (has_host ss (get_or ss k no_stream).host) (has-here ss k (omega (arith, low)))

module _ (plan : Plan) (sound : IsSound plan) (k : ℕ) (low : k < length plan.streams) where
  pub place-has : has_host plan.streams (get_or plan.streams k no_stream).host ≡ true
  place-has = has-here plan.streams k low

  -- what is so of the record at a place is so of each stream of the place's host
  pub place-all : (So : StreamRec → Type 0) (rs : List StreamRec) → So (get_or rs k closed) → AllAt So (get_or plan.streams k no_stream).host plan.streams rs
  place-all So rs so = one-here So plan.streams (streams-ascend plan sound) rs k low so
