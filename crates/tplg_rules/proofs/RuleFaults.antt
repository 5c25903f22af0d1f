-- The fault of one rule, and of rules one after another.
use Rattle.std.proofs.Common.{◌≡◌, refl, sym, subst, ℕ, List, [], ◌∷◌, ◌++◌, Option, Some, None, Result, Ok, Err, OnOk, IfErr, IsOk, MatchOption, inl, inr}
use Rattle.tplg_rules.specs.declared.plan_fault.PlanFault.{PlanFault}
use Rattle.tplg_rules.specs.declared.plan_fault.PlanFault.TheVariants as fault
use Rattle.tplg_walks.specs.Rules.{Rule, AllHold, BreaksOf}
use Rattle.tplg_walks.specs.FirstFailing.{IsFirstFailing}
use Rattle.tplg_rules.specs.RuleFaults.{IsFaultOf}

pub told-ok : (r : Rule) (o : Option ℕ) (result : Result (Unit {0}) PlanFault) → IsFirstFailing r o → MatchOption o (IsOk result) (λ i. result ≡ Err (fault.Rule r.number i)) → OnOk result (AllHold (r ∷ []))
told-ok r None (Ok u) f t = (f, tt)
told-ok r None (Err e) f t = cc
told-ok r (Some i) (Ok u) f t = cc
told-ok r (Some i) (Err e) f t = tt

pub told-err : (r : Rule) (o : Option ℕ) (result : Result (Unit {0}) PlanFault) → IsFirstFailing r o → MatchOption o (IsOk result) (λ i. result ≡ Err (fault.Rule r.number i)) → IfErr result (IsFaultOf (r ∷ []))
told-err r None (Ok u) f t = tt
told-err r None (Err e) f t = cc
told-err r (Some i) (Ok u) f t = tt
told-err r (Some i) (Err e) f t = let same : e ≡ fault.Rule r.number i = cc in subst (IsFaultOf (r ∷ [])) (sym same) (inl (refl, f))

-- ---- rules one after another

pub all_hold-append : (rs ss : List Rule) → AllHold rs → AllHold ss → AllHold (rs ++ ss)
all_hold-append [] ss a b = b
all_hold-append (r ∷ rs) ss a b = (a.0, all_hold-append rs ss a.1 b)

breaks-front : (rs ss : List Rule) (number item : ℕ) → BreaksOf rs number item → BreaksOf (rs ++ ss) number item
breaks-front [] ss number item b = absurd b
breaks-front (r ∷ rs) ss number item (inl b) = inl b
breaks-front (r ∷ rs) ss number item (inr b) = inr (b.0, breaks-front rs ss number item b.1)

breaks-back : (rs ss : List Rule) (number item : ℕ) → AllHold rs → BreaksOf ss number item → BreaksOf (rs ++ ss) number item
breaks-back [] ss number item a b = b
breaks-back (r ∷ rs) ss number item a b = inr (a.0, breaks-back rs ss number item a.1 b)

pub fault-front : (rs ss : List Rule) (e : PlanFault) → IsFaultOf rs e → IsFaultOf (rs ++ ss) e
fault-front rs ss (fault.Rule rule item) f = breaks-front rs ss rule item f
fault-front rs ss fault.OutOfMemory f = tt

pub fault-back : (rs ss : List Rule) (e : PlanFault) → AllHold rs → IsFaultOf ss e → IsFaultOf (rs ++ ss) e
fault-back rs ss (fault.Rule rule item) a f = breaks-back rs ss rule item a f
fault-back rs ss fault.OutOfMemory a f = tt
