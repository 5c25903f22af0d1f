-- `rebase` counts the words of a run from another pointer. Nothing happens to the memory.
use Rattle.fw_heap.proofs.Steps.{List, [], ◌∷◌, ◌≡◌, ℕ, ◌^◌, ◌<◌, refl, w64, proved, leaves, ftrue, Val, fact, fact_i, emp, ‵, raw, ◌⊛◌, ◌$◌, ◌∵◌, !, qed, by, skip, move, keep, use0, use1, split, fsplit, fjoin, rewrite, enter, agg, no_more, returns, alloc_all, pass_all, free_all, look_at, sets, usize, yes, uint_vals, uint_Tells, Ptr, plain, nothing, heard, Stays, walk_of, stay_dropped, Goes-dropped, Bool}
use mathlib.Core.Bool.{true}
use Rattle.core.proofs.alloc.Calls.{Goes-blank}
use Rattle.fw_heap.specs.Owned.{run_owns, word_ptr}
use Rattle.fw_heap.proofs.Memory.{Bare, bare, bare_made, home_typed, run_rebased}
use Rattle.fw_heap.specs.contracts.run.Run.rebase as f
use Rattle.fw_heap.proofs.run.Run.rebase.Statement.{statement}
use Rattle.fw_heap.proofs.run.Run.rebase.Code as code
use Rattle.fw_heap.specs.contracts.run.Run.{the_row as R}
use Rattle.fw_heap.specs.contracts.run.Home.{the_row as Hr}
use Rattle.fw_heap.proofs.run.Run.TheLaws.{lowers}
use Rattle.fw_heap.proofs.run.Home.TheLaws as home-laws

abbrev stayed : Stays f.ended.signature.params f.ended.kept
stayed = (stay_dropped (plain (λ _. R)) f.ended.kept.0, (stay_dropped (plain (λ _. Hr)) f.ended.kept.1.0, (stay_dropped (plain (λ _. usize)) yes, tt)))

pub rebase_spec : {M : Type 1} → statement M
rebase_spec 𝓤 𝓛 𝓜 𝓡 wired =
    let c = f.clauses 𝓛 𝓜.mem 𝓡.returns in let W = walk_of 𝓛 f.ended stayed c in
    proved 𝓛 f.ended stayed c 𝓜 𝓡 (Goes-blank 𝓛 0 (plain (λ _. R)) f.ended.kept.0 (λ κs x w. tt), (Goes-dropped 𝓛 0 (plain (λ _. Hr)) f.ended.kept.1.0 (λ κs x w. refl), (Goes-dropped 𝓛 0 (plain (λ _. usize)) yes (λ κs x w. refl), tt)))
    f.Key.name code.function (code.unfolded 𝓤 𝓛.H 𝓜 𝓡 wired)
    (λ κs. ((λ x. bare ∷ []), ((λ x. home-laws.lowered x ∷ []), (uint_vals w64, tt)))) (λ κs. (lowers.val_is, (home-laws.lowers.val_is, (uint_Tells w64, tt)))) (λ κs qs bounds a g are.
    let d = a.0 in let home = a.1.0 in let at = a.1.1.0 in let size : ℕ = home.words in let low : size < 2 ^ 32 = are.1.0.1.1.1.0.1 in
    let run : R.Denot = record { start = home.start; first = at; items = d.items; written = true } in
    let v1 : List Val = home-laws.lowered home ∷ [] in let v2 : List Val = uint_vals w64 at in
    let z : W.Ghost = ((κs, qs, bounds, a, (bare ∷ [], (v1, (v2, tt)))), g) in
    let Asked : Type 0 = (d.start ≡ word_ptr home.start at) × (d.first ≡ 0) × (d.written ≡ true) in
    let Told : Type 0 = (home.start ≡ home.start) × (at ≡ at) × (d.items ≡ d.items) × (true ≡ true) in
    qed 𝓛 ((‵ ftrue ⊛ ‵ (R.own_val d (bare ∷ [])) ⊛ ‵ (Hr.own_val home v1) ⊛ ‵ (usize.own_val at v2) ⊛ ‵ ftrue) ∷ raw (fact 𝓤 Asked) ∷ []) ∵
    move ! (1 ∷ []) $ heard ! Asked (λ asked. split ! $ skip ! $ split ! $ keep ! (0 ∷ []) $
    enter ! _ _ _ _ _ $ alloc_all ! (λ l. pass_all ! refl ((tt, tt), (home_typed home.start size low, ((tt, record { fits = are.1.1.0.1 }), tt))) $
    fsplit ! $ skip ! $ rewrite ! 0 (λ (t : Bool). ‵ (run_owns d.start d.first d.items t)) asked.2 refl $ rewrite ! 0 (λ (k : ℕ). ‵ (run_owns d.start k d.items true)) asked.1 refl $
    rewrite ! 0 (λ (p : Ptr). ‵ (run_owns p 0 d.items true)) asked.0 refl $
    use1 𝓛 (‵ (run_owns home.start at d.items true)) (run_rebased 𝓛 home.start at d.items) $
    sets ! (agg ! (no_more !)) refl (tt, tt) $
    use0 𝓛 (‵ (Bare.own_val tt (bare ∷ []))) (bare_made 𝓛) $ fjoin ! $
    returns ! (look_at ! 0 refl) $ free_all ! refl $ keep ! (0 ∷ []) $
    use0 𝓛 (raw (fact 𝓤 Told)) (fact_i 𝓤 Told (emp 𝓤) (refl, refl, refl, refl)) $ nothing ! $ nothing ! $ fjoin ! $ nothing ! $ fjoin ! $ nothing ! $ fjoin ! $ nothing ! $ move ! (0 ∷ 1 ∷ 3 ∷ 2 ∷ []) $
    by ! (leaves 𝓛 f.ended stayed c z bare run (tt, (tt, (tt, tt))) (tt, (tt, (tt, tt)))))))
