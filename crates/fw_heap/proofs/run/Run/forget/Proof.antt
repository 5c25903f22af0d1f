-- `forget` makes room of the words. Nothing happens to the memory.
use Rattle.fw_heap.proofs.Steps.{[], ◌∷◌, ◌≡◌, refl, proved, leaves, ftrue, fact, fact_i, emp, ‵, raw, ◌⊛◌, ◌$◌, ◌∵◌, !, qed, by, skip, move, keep, use0, use1, split, fsplit, fjoin, enter, agg, no_more, returns, alloc_all, pass_all, free_all, look_at, sets, plain, nothing, Stays, walk_of, stay_dropped}
use mathlib.Core.Bool.{false}
use Rattle.core.proofs.alloc.Calls.{Goes-blank}
use Rattle.fw_heap.specs.Owned.{run_owns}
use Rattle.fw_heap.proofs.Memory.{Bare, bare, bare_made, run_forgets}
use Rattle.fw_heap.specs.contracts.run.Run.forget as f
use Rattle.fw_heap.proofs.run.Run.forget.Statement.{statement}
use Rattle.fw_heap.proofs.run.Run.forget.Code as code
use Rattle.fw_heap.specs.contracts.run.Run.{the_row as R}
use Rattle.fw_heap.proofs.run.Run.TheLaws.{lowers}

abbrev stayed : Stays f.ended.signature.params f.ended.kept
stayed = (stay_dropped (plain (λ _. R)) f.ended.kept.0, tt)

pub forget_spec : {M : Type 1} → statement M
forget_spec 𝓤 𝓛 𝓜 𝓡 wired =
    let c = f.clauses 𝓛 𝓜.mem 𝓡.returns in let W = walk_of 𝓛 f.ended stayed c in
    proved 𝓛 f.ended stayed c 𝓜 𝓡 (Goes-blank 𝓛 0 (plain (λ _. R)) f.ended.kept.0 (λ κs x w. tt), tt)
    f.Key.name code.function (code.unfolded 𝓤 𝓛.H 𝓜 𝓡 wired)
    (λ κs. ((λ x. bare ∷ []), tt)) (λ κs. (lowers.val_is, tt)) (λ κs qs bounds a g are.
    let d = a.0 in let room : R.Denot = record { start = d.start; first = d.first; items = d.items; written = false } in
    let z : W.Ghost = ((κs, qs, bounds, a, (bare ∷ [], tt)), g) in
    let Told : Type 0 = (d.start ≡ d.start) × (d.first ≡ d.first) × (d.items ≡ d.items) × (false ≡ false) in
    qed 𝓛 ((‵ ftrue ⊛ ‵ (R.own_val d (bare ∷ [])) ⊛ ‵ ftrue) ∷ ‵ ftrue ∷ []) ∵
    split ! $ skip ! $ split ! $ keep ! (0 ∷ []) $
    enter ! _ _ _ _ _ $ alloc_all ! (λ l. pass_all ! refl ((tt, tt), tt) $
    fsplit ! $ skip ! $ use1 𝓛 (‵ (run_owns d.start d.first d.items false)) (run_forgets 𝓛 d.start d.first d.items d.written) $
    sets ! (agg ! (no_more !)) refl (tt, tt) $
    use0 𝓛 (‵ (Bare.own_val tt (bare ∷ []))) (bare_made 𝓛) $ fjoin ! $
    returns ! (look_at ! 0 refl) $ free_all ! refl $ keep ! (0 ∷ []) $
    use0 𝓛 (raw (fact 𝓤 Told)) (fact_i 𝓤 Told (emp 𝓤) (refl, refl, refl, refl)) $ nothing ! $ nothing ! $ fjoin ! $ nothing ! $ move ! (0 ∷ 1 ∷ 3 ∷ 2 ∷ []) $
    by ! (leaves 𝓛 f.ended stayed c z bare room (tt, tt) (tt, tt))))
