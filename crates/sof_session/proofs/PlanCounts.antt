-- How many streams and live controls a plan has together: a stream is a host component, and a live control belongs to another one.
use Rattle.std.proofs.Common.{◌≡◌, sym, ap, ◌∙◌, ℕ, suc, ◌+◌, ◌<◌, ◌≤◌, Bool, cond, List, [], ◌∷◌, length, Option, Some, None, ◌==◌, inl, inr, arith}
use Rattle.std.specs.Prelude.{find}
use Rattle.std.specs.List.{AllByRecursion, filter_map, cons_option}
use Rattle.std.proofs.lemmas.Bool.{cases_Bool, eqb-true}
use Rattle.std.proofs.lemmas.List.{length-map}
use Rattle.stream_law.specs.declared.graph.Comp.{Comp}
use Rattle.stream_law.specs.declared.graph.Kind.{Kind}
use Rattle.stream_law.specs.declared.graph.Graph.{Graph}
use Rattle.stream_law.specs.Placed.{Ascends, AreAbove}
use Rattle.tplg_plan.specs.declared.plans.Plan.{Plan}
use Rattle.tplg_plan.specs.declared.plans.ControlPlan.{ControlPlan}
use Rattle.tplg_plan.specs.declared.plans.ControlKind.{ControlKind}
use Rattle.tplg_plan.specs.declared.plans.ControlKind.TheVariants.{Volume}
use Rattle.tplg_plan.specs.declared.plans.StreamPlan.{StreamPlan}
use Rattle.tplg_plan.specs.Sound.{IsSound, IsControlOf, IsLive, host_by, host_of}

abbrev comp_in : List Comp → ℕ → Option Comp
comp_in cs id = find (λ c. c.id == id) cs

-- the component of a live control, which is no host
record IsOther (cs : List Comp) (k : ControlPlan) : Type 0 where
  comp : Comp
  there : comp_in cs k.comp ≡ Some comp
  no_host : host_of comp ≡ None

no-host : (kind : ControlKind) (of : Kind) (id : ℕ) → IsControlOf kind of → host_by of id ≡ None
no-host (Volume min max channels lowest step mute) of id is = ap (λ (k : Kind). host_by k id) is.0
no-host kind of id is = ap (λ (k : Kind). host_by k id) is.0

all-others : (g : Graph) (ks : List ControlPlan) → AllByRecursion (IsLive g) ks → AllByRecursion (IsOther g.comps) ks
all-others g [] live = tt
all-others g (k ∷ ks) live = (record { comp = live.0.comp; there = live.0.there; no_host = no-host k.kind live.0.comp.kind live.0.comp.id live.0.kind }, all-others g ks live.1)

-- ---- lists that ascend

-- what is found among greater keys has a greater key
above-found : (n : ℕ) (cs : List Comp) → AreAbove (λ c. c.id) n cs → (id : ℕ) (c : Comp) → comp_in cs id ≡ Some c → n < id
unfolding AreAbove
above-found n [] above id c is = absurd (cc is)
above-found n (x ∷ cs) above id c is =
    elim (cases_Bool (x.id == id)) [
      | inl same ↦ omega (arith, above.0, eqb-true x.id id same)
      | inr other ↦ above-found n cs above.1 id c (sym (ap (λ (b : Bool). cond b (Some x) (comp_in cs id)) other) ∙ is)
    ]

-- a key that is above another one is no less than what that is found as
all-above : (m n : ℕ) → m ≤ n → (ks : List ControlPlan) → AreAbove (λ k. k.comp) n ks → AreAbove (λ k. k.comp) m ks
unfolding AreAbove
all-above m n least [] above = tt
all-above m n least (k ∷ ks) above = (omega (arith, least, above.0), all-above m n least ks above.1)

-- after the first component stand those of greater keys
behind : (c : Comp) (cs : List Comp) (ks : List ControlPlan) → AreAbove (λ k. k.comp) c.id ks → AllByRecursion (IsOther (c ∷ cs)) ks → AllByRecursion (IsOther cs) ks
unfolding AreAbove
behind c cs [] above all = tt
behind c cs (k ∷ ks) above all =
    elim (cases_Bool (c.id == k.comp)) [
      | inl same ↦ absurd (omega (arith, above.0, eqb-true c.id k.comp same))
      | inr other ↦ (
        record { comp = all.0.comp; there = sym (ap (λ (b : Bool). cond b (Some c) (comp_in cs k.comp)) other) ∙ all.0.there; no_host = all.0.no_host },
        behind c cs ks above.1 all.1,
      )
    ]

one-option : {X : Type 0} (o : Option X) (xs : List X) → length (cons_option o xs) ≤ suc (length xs)
one-option (Some x) xs = omega arith
one-option None xs = omega arith

none-option : {X : Type 0} (o : Option X) (xs : List X) → o ≡ None → length (cons_option o xs) ≡ length xs
none-option o xs is = ap (λ (v : Option _). length (cons_option v xs)) is

few-both : (cs : List Comp) (ks : List ControlPlan) → Ascends (λ c. c.id) cs → Ascends (λ k. k.comp) ks → AllByRecursion (IsOther cs) ks → length (filter_map host_of cs) + length ks ≤ length cs
unfolding Ascends AreAbove
few-both [] [] up rises all = omega arith
few-both [] (k ∷ ks) up rises all = absurd (cc all.0.there)
few-both (c ∷ cs) [] up rises all = omega (arith, one-option (host_of c) (filter_map host_of cs), few-both cs [] up.1 tt tt)
few-both (c ∷ cs) (k ∷ ks) up rises all =
    elim (cases_Bool (c.id == k.comp)) [
      | inl same ↦
          let found : Some c ≡ Some all.0.comp = sym (ap (λ (b : Bool). cond b (Some c) (comp_in cs k.comp)) same) ∙ all.0.there in
          let this : all.0.comp ≡ c = cc found in
          let above = all-above c.id k.comp (omega (arith, eqb-true c.id k.comp same)) ks rises.0 in
          omega (arith, none-option (host_of c) (filter_map host_of cs) (ap host_of (sym this) ∙ all.0.no_host), few-both cs ks up.1 rises.1 (behind c cs ks above all.1))
      | inr other ↦
          let there : comp_in cs k.comp ≡ Some all.0.comp = sym (ap (λ (b : Bool). cond b (Some c) (comp_in cs k.comp)) other) ∙ all.0.there in
          let less = above-found c.id cs up.0 k.comp all.0.comp there in
          let above = all-above c.id k.comp (omega (arith, less)) ks rises.0 in
          omega (arith, one-option (host_of c) (filter_map host_of cs), few-both cs (k ∷ ks) up.1 rises (behind c cs (k ∷ ks) (less, above) all))
    ]

-- ---- of a plan

pub few-streams_and_controls : (plan : Plan) → IsSound plan → length plan.streams + length plan.controls ≤ 128
few-streams_and_controls plan sound =
    let pair : StreamPlan → ℕ × Bool = λ s. (s.host, s.capture) in
    omega (
      arith,
      length-map plan.streams pair,
      ap length sound.hosts,
      few-both plan.graph.comps plan.controls sound.comps_ascend sound.controls_ascend (all-others plan.graph plan.controls sound.live),
      sound.comps,
    )
