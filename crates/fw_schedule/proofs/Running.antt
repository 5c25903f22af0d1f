-- When a component runs, and how many frames it may move then.
use Rattle.std.proofs.Common.{◌≡◌, refl, sym, ap, ◌∙◌, subst, ℕ, ◌+◌, ◌*◌, ◌/◌, ◌%◌, ◌≤◌, List, [], ◌∷◌, Bool, true, false, cond, ◌==◌, ◌&&◌, Option, Some, None, option_map, arith}
use Rattle.std.proofs.lemmas.Bool.{true≢false, and_parts, leb-true, eqb-true, le-ltb}
use Rattle.std.proofs.Math.Nat.{mul-le-mul_right}
use Rattle.std.proofs.lemmas.Nat.{mul-mod}
use Rattle.std.specs.Prelude.{find, option_and_then, nat_le, nat_lt}
use Rattle.std.specs.Option.{option_map_or}
use Rattle.std.specs.List.{AllByRecursion}
use Rattle.sof_base.specs.declared.format.Format.{Format}
use Rattle.sof_base.specs.declared.format.Params.{Params}
use Rattle.sof_base.specs.Samples.{width}
use Rattle.sof_base.proofs.RateLaws.{rate-most}
use Rattle.row_laws.specs.Wired.{IsWired, HasJoinedSides}
use Rattle.fw_schedule.proofs.Parts.{width-most}
use Rattle.stream_law.specs.declared.graph.Kind.{Kind}
use Rattle.stream_law.specs.declared.graph.Comp.{Comp}
use Rattle.stream_law.specs.declared.graph.Pipe.{Pipe}
use Rattle.stream_law.specs.declared.graph.Graph.{Graph}
use Rattle.stream_law.specs.declared.stream.StreamView.{StreamView}
use Rattle.stream_law.specs.State.{View}
use Rattle.stream_law.specs.Ways.{comp_of, pipe_of, live, active, live_params, channels_of, rate_of, on_way, is_live_phase}
use Rattle.stream_law.specs.Moves.{period, runs, quota}
use Rattle.stream_law.proofs.Members.{find-in}
use Rattle.stream_law.proofs.Quotas.{quota-few as few, quota-parts}
use Rattle.row_laws.specs.Played.{AreStreamsPlayable, IsStreamSet, IsSetBy, is_idle}
use Rattle.row_laws.proofs.Stays.{all-of, find-some, find-any, live-idle}
use Rattle.row_laws.proofs.Playing.{active-period}
use Rattle.ipc3_model.specs.Allowed.{is_period_allowed}

-- ---- bounds of streams and pipelines

-- 1 to 8 channels, and a right rate
pub record IsRight (p : Params) : Type 0 where
  pub some : 1 ≤ p.channels
  pub few : p.channels ≤ 8
  pub rate : p.rate ≤ 192000

module _ (v : View) (played : AreStreamsPlayable v) where
  right-by : (o : Option Params) (host : ℕ) (idle : Bool) → idle ≡ false → IsSetBy v.graph host idle o → (p : Params) × (o ≡ Some p) × IsRight p
  right-by None host idle awake is = absurd (true≢false (sym is ∙ awake))
  right-by (Some p) host idle awake is = (
    p,
    refl,
    record {
      some = is.1.0;
      few = is.1.1;
      rate = rate-most p.rate is.2;
    },
  )

  -- what is Live has parameters
  pub params-are : (x : ℕ) → live v x ≡ true → (p : Params) × (live_params v x ≡ Some p) × IsRight p
  unfolding live
  params-are x now =
      let found = find-any (λ s. is_live_phase s.phase && on_way v.graph s.host x) v.streams now in
      let s : StreamView = found.0 in
      let of = find-some (λ s. is_live_phase s.phase && on_way v.graph s.host x) v.streams s found.1 in
      let lives = (and_parts (is_live_phase s.phase) (on_way v.graph s.host x) of.0).0 in
      let p = right-by s.params s.host (is_idle s.phase) (live-idle s.phase lives) (all-of (IsStreamSet v.graph) v.streams s played.each of.1) in
      (p.0, ap (option_and_then (λ s. s.params)) found.1 ∙ p.1, p.2)

  pub channels-few : (x : ℕ) → live v x ≡ true → (1 ≤ channels_of v x) × (channels_of v x ≤ 8)
  unfolding channels_of
  channels-few x now =
      let p = params-are x now in
      let is : option_map_or (λ p. p.channels) (live_params v x) 0 ≡ p.0.channels = ap (λ (o : Option Params). option_map_or (λ p. p.channels) o 0) p.1 in
      (omega (arith, is, p.2.some), omega (arith, is, p.2.few))

  pub rate-few : (x : ℕ) → live v x ≡ true → rate_of v x ≤ 192000
  unfolding rate_of
  rate-few x now =
      let p = params-are x now in
      let is : option_map_or (λ p. p.rate) (live_params v x) 0 ≡ p.0.rate = ap (λ (o : Option Params). option_map_or (λ p. p.rate) o 0) p.1 in
      omega (arith, is, p.2.rate)

pub period-most : (g : Graph) (c : ℕ) → AllByRecursion (λ p. is_period_allowed p.period ≡ true) g.pipes → option_map_or (λ x. option_map_or (λ p. p.period) (pipe_of g x.pipe) 0) (comp_of g c) 0 / 1000 ≤ 10
period-most g c periods = by (comp_of g c)
  where
    pipe : (index : ℕ) (ps : List Pipe) → AllByRecursion (λ p. is_period_allowed p.period ≡ true) ps → option_map_or (λ p. p.period) (find (λ p. p.index == index) ps) 0 ≤ 10000
    pipe index [] all = omega arith
    pipe index (p ∷ ps) all = at (p.index == index) (pipe index ps all.1)
      where
        at : (h : Bool) → option_map_or (λ p. p.period) (find (λ p. p.index == index) ps) 0 ≤ 10000 → option_map_or (λ p. p.period) (cond h (Some p) (find (λ p. p.index == index) ps)) 0 ≤ 10000
        at true rest = leb-true p.period 10000 (and_parts (nat_le 1000 p.period) (nat_le p.period 10000) (and_parts (nat_le 1000 p.period && nat_le p.period 10000) _ all.0).0).1
        at false rest = rest

    by : (o : Option Comp) → option_map_or (λ x. option_map_or (λ p. p.period) (pipe_of g x.pipe) 0) o 0 / 1000 ≤ 10
    by None = omega arith
    by (Some x) = let most = pipe x.pipe g.pipes periods in omega (arith, most)

-- the quota, by where in its second a clock is: what a run leaves over is a frame more at the runs that complete one
module _ (v : View) (t c p r : ℕ) (short : p ≤ 10) (ticks : p ≡ period v c) (rate : r ≡ rate_of v c) where
  pub quota-over : (h : Bool) → nat_lt (t % 1000 * (r % 1000) % 1000) (p * r % 1000) ≡ h → p * r / 1000 + cond h 1 0 ≡ quota v t c
  quota-over h is =
      ap (λ h. p * r / 1000 + cond h 1 0) (sym is ∙ ap (λ n. nat_lt n (p * r % 1000)) (sym (mul-mod t r 1000)))
      ∙ (λ i. ticks i * rate i / 1000 + cond (nat_lt (t * rate i % 1000) (ticks i * rate i % 1000)) 1 0)
      ∙ sym (quota-parts v t c (subst (λ n. n ≤ 1000) ticks (omega (arith, short))))

  -- one that leaves nothing over
  pub quota-even : p * r % 1000 ≡ 0 → p * r / 1000 ≡ quota v t c
  quota-even is =
      let none : p * r / 1000 ≡ p * r / 1000 + 0 = omega arith in
      none ∙ quota-over false (le-ltb (t % 1000 * (r % 1000) % 1000) (p * r % 1000) (omega (arith, is)))

pub quota-few : (v : View) → IsWired v.graph → AreStreamsPlayable v → (clock x : ℕ) → live v x ≡ true → quota v clock x ≤ 1920
quota-few v wired played clock x now = few v clock x (period-most v.graph x wired.periods) (rate-few v played x now)

-- the bytes of so many frames
pub bytes-most : (q channels : ℕ) (format : Format) → q ≤ 1920 → channels ≤ 8 → q * (channels * width format) ≤ 61440
bytes-most q channels format few wide =
    let w = width-most format in
    let first : channels * width format ≤ 8 * width format = mul-le-mul_right (width format) wide in
    let frame : channels * width format ≤ 32 = omega (arith, first, w) in
    let all : q * (channels * width format) ≤ 1920 * (channels * width format) = mul-le-mul_right (channels * width format) few in
    omega (arith, all, frame)

-- ---- the component of an id

module _ (v : View) (wired : IsWired v.graph) (linked : HasJoinedSides v.graph) (played : AreStreamsPlayable v) (id : ℕ) (kind : Kind) (is : option_map (λ x. x.kind) (comp_of v.graph id) ≡ Some kind) where
  -- one that is Active has a pipeline with a period
  pub period-some : active v id ≡ true → 1 ≤ period v id
  period-some now = by (comp_of v.graph id) refl is
    where
      by : (o : Option Comp) → comp_of v.graph id ≡ o → option_map (λ x. x.kind) o ≡ Some kind → 1 ≤ period v id
      by None found e = absurd (cc e)
      by (Some x) found e =
          let at = find-in (λ (x : Comp). x.id == id) v.graph.comps x found in
          let same : x.id ≡ id = eqb-true x.id id at.1 in
          subst (λ n. 1 ≤ period v n) same (active-period v wired linked played wired.periods x at.0 (ap (active v) same ∙ now))

-- whether it runs, by what a step says
pub runs-is : (v : View) (clock id n : ℕ) (on : Bool) → on ≡ active v id → n ≡ period v id → (on && clock % n == 0) ≡ runs v clock id
unfolding runs
runs-is v clock id n on now is = λ i. now i && clock % is i == 0

-- a component that runs is Active
pub runs-active : (v : View) (clock c : ℕ) → runs v clock c ≡ true → active v c ≡ true
unfolding runs
runs-active v clock c is = (and_parts (active v c) _ is).0
