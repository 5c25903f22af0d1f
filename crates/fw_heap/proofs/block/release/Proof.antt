-- `release` hands the room of the words back with the right to free it (after the kit's `release` of places). Assumes `Logic`.
use mathlib.Core.Path.{◌≡◌, refl, sym, subst, ap, ◌∙◌}
use Prim.Native.Nat.{ℕ, ◌*◌, ◌<◌, ◌^◌}
use native.Mathlib.Nat.{zero-add}
use native.Mathlib.Omega.{arith}
use mathlib.Core.List.{List, [], ◌∷◌, ◌++◌}
use lib.Dec.{T}
use lib.ListN.{length}
use mathlib.Core.Bool.{false}
use mir.Syntax.{Fn, w32, ty_unit, ty_array, ty_int}
use mir.Val.{Val, vunit, vptr, has_ty, WT}
use base.Logic.{id⊢, SProp, ent, never}
use base.Fml.{ftrue, froom, flft, Incl-trans}
use prog.Memory.{align, capped, Memory}
use prog.Capped.{capped_fits}
use seplogic.Ra.Ura.{Ura}
use mir.MapTy.{inst_fn}
use prog.Routine.{Routine}
use prog.Wp.{Env, WpFn, Tables}
use types.Logic.{Logic}
use contract.BorrowLft.{◌⊑◌}
use contract.Monad.{Fun, fact}
use contract.Running.{tables, tables_of}
use denote.RattleType.{owns}
use denote.Signature.{plain, types_at}
use denote.Steps.{heard, nothing}
use denote.Triple.Clauses.{Clauses, Ended, closing}
use denote.Triple.Spec.{Meets, triple_of}
use denote.Triple.Table.{entered}
use sound.WpLaws.{fm_of, WpFn-mono}
use types.Kit.{‵, raw, ◌⊛◌, later, given, at_ret, ◌$◌, ◌∵◌, !, qed, move, keep, use1, use3, learn, split, join, rewrite, fsplit, fsplit3, fjoin, fjoin3, feq_i, feq_l, suffices, await, done}
use types.Part.{whole, sub}
use types.Run.{stop, fld, lit, un, unit_lit, no_more, and_then, of_opd, bin, first, blocks, exec, returns, enter}
use types.ByLocal.{alloc_all, pass_all, free_all, look_at, get, get_in, sets, lands_last, env}
use denote.Exit.{yes}
use denote.Builtin.{RefOf}
use denote.RawPtr.{Ptr, block_ptr, in_a_block}
use denote.Triple.Call.{calls_at_last}
use denote.Triple.Statement.{Triple}
use denote.Triple.Walked.{Stays, stay_dropped, walk_of, ends_at, Goes-dropped, walk_Meets}
use Rattle.core.proofs.mem.Param.{elτ}
use Rattle.core.proofs.alloc.Calls.{Al, token, gives_key, Gives, at_gives, Gives-goes, Gives-Gives, Goes-blank}
use Rattle.core.proofs.slots.Bodies.{after}
use Rattle.core.proofs.slots.Leases.{block_ty, block_size, block_align}
use Rattle.fw_heap.specs.Owned.{run_owns}
use Rattle.fw_heap.proofs.Memory.{bare, run_forgets}
use Rattle.fw_heap.proofs.Rows.{El32}
use Rattle.fw_heap.proofs.Blocks.{block_val, args, P, Br, run_had, block_had}
use Rattle.fw_heap.specs.contracts.run.Run.{the_row as R}
use Rattle.fw_heap.specs.contracts.block.release as F
use Rattle.fw_heap.specs.contracts.block.release.Key.{name as #self}
use Rattle.fw_heap.proofs.block.release.Statement.{statement}
use Rattle.fw_heap.proofs.block.release.Code as code

module _ (Z : Al) where
  abbrev here : Fn
  here = inst_fn (args Z) code.function

  abbrev ended : Ended
  ended = F.ended Z.row Z.g Z.d Z.drops

  abbrev stayed : Stays ended.signature.params ended.kept
  stayed = (stay_dropped (RefOf (0 ∷ []) tt (plain (λ _. P Z)) (λ _. tt)) yes, (stay_dropped (plain (λ _. R)) ended.kept.1.0, (stay_dropped (plain (λ _. Br Z)) ended.kept.1.1.0, tt)))

  module _ {M : Type 1} {𝓤 : Ura M} (𝓛 : Logic 𝓤) (at_mem : Memory → SProp 𝓤) (run : Routine → Fun 𝓤) (𝓣 : Tables 𝓤 𝓛.H) (callee : Triple 𝓤 (𝓣.C (gives_key Z)) (Gives Z 𝓛 at_mem run)) where
    open 𝓛 use {H}

    abbrev held : Clauses 𝓤 ended
    held = F.clauses Z.row Z.g Z.d Z.drops 𝓛 at_mem run

    abbrev Bound : Type 0
    Bound = (walk_of 𝓛 ended stayed held).Ghost

    abbrev Goes : Bound → Type 1
    Goes y = ent 𝓤 ((walk_of 𝓛 ended stayed held).pre y) (WpFn 𝓤 H 𝓣.C 𝓣.Λ here ((walk_of 𝓛 ended stayed held).args y) ((walk_of 𝓛 ended stayed held).post y))

    walk : (z : Bound) → Goes z
    walk z =
        let κ = z.0.0.0 in let κ₁ = z.0.0.1.0 in let q = z.0.1.0 in let q₁ = z.0.1.1.0 in
        let hp : ℕ × ℕ = z.0.3.0.ref_ptr in let a : Z.row.Denot = z.0.3.0.now in let h : R.Denot = z.0.3.1.0 in let d : (Br Z).Denot = z.0.3.1.1.0 in let vss = z.0.4 in
        let Post : Val → SProp 𝓤 = (walk_of 𝓛 ended stayed held).post z in
        let Ok : Type 0 = (d.start ≡ h.start) × (h.first ≡ 0) × (d.words ≡ length h.items) × (d.alloc ≡ a) × (length h.items < 2 ^ 32) in
        let n : ℕ = d.words in let al : ℕ = capped (align (elτ El32)) in
        qed 𝓛 (((‵ (flft κ q) ⊛ ‵ (flft κ₁ q₁) ⊛ ‵ ftrue) ⊛ ‵ (owns (types_at ended.signature.params z.0.0) z.0.3 vss))
        ∷ (raw (fact 𝓤 (κ₁ ⊑ Z.row.lives)) ⊛ raw (fact 𝓤 Ok)) ∷ []) ∵
        move ! (1 ∷ []) $ split ! $ heard ! (κ₁ ⊑ Z.row.lives) (λ inZ. heard ! Ok (λ ok.
        split ! $ split ! $ move ! (2 ∷ []) $ fsplit3 ! $ fsplit ! $ feq_l ! (λ e₀. move ! (1 ∷ []) $ run_had ! h vss.1.0 (λ e₁.
        use1 𝓛 (‵ (run_owns h.start h.first h.items false)) (run_forgets 𝓛 h.start h.first h.items h.written) $
        in_a_block ! h.start (λ p. run_owns p h.first h.items false) (id⊢ 𝓤 (never 𝓤)) (λ b o at_b.
        let at_d : d.start ≡ block_ptr b o = ok.0 ∙ at_b in
        let fw : n < 2 ^ 32 = omega (arith, ok.2, ok.4) in let fn : n < 2 ^ 64 = omega arith in let fm : n * 4 < 2 ^ 64 = omega arith in
        rewrite ! 0 (λ (k : ℕ). ‵ (run_owns (block_ptr b o) k h.items false)) ok.1 refl $
        rewrite ! 0 (λ (k : ℕ). ‵ (froom (ty_array (ty_int w32) (length h.items)) b k)) (zero-add o) refl $
        rewrite ! 0 (λ (k : ℕ). ‵ (froom (ty_array (ty_int w32) k) b o)) (sym ok.2) refl $ use1 𝓛 (‵ (froom (block_ty El32 n) b o)) (𝓛.laws.room-raw (ty_array (elτ El32) n) b o) $
        move ! (2 ∷ []) $ fsplit ! $ block_had Z ! d vss.1.1.0 (λ e₂.
        rewrite ! 0 (λ (p : Ptr). ‵ (token Z d.alloc (block_ty El32 n) p)) at_d refl $ rewrite ! 0 (λ (c : Z.row.Denot). ‵ (token Z c (block_ty El32 n) (block_ptr b o))) ok.3 refl $ keep ! (2 ∷ 0 ∷ 3 ∷ 4 ∷ 5 ∷ []) $
        -- [the room; the right to free it; the handle; its token; the other tokens]
        let us : List Val = vptr hp.0 hp.1 ∷ bare ∷ block_val (block_ptr b o) n ∷ [] in
        let e₃ : vss.1.1.0 ≡ block_val (block_ptr b o) n ∷ [] = e₂ ∙ ap (λ (p : Ptr). block_val p n ∷ []) at_d in
        let Run : List Val → SProp 𝓤 = λ ws. WpFn 𝓤 H 𝓣.C 𝓣.Λ here ws Post in
        suffices ! (Run us) (subst (λ (ws : List Val). ent 𝓤 (Run us) (Run ws)) (sym (λ k. e₀ k ++ (e₁ k ++ (e₃ k ++ [])))) (id⊢ 𝓤 (Run us))) $
        enter ! 𝓣.C 𝓣.Λ here us Post $ alloc_all ! (λ l. pass_all ! refl ((tt, tt), ((tt, tt), ((tt, (tt, (record { fits = fw }, (tt, tt)))), tt))) $
        let En : Env 𝓤 H = env here.locals l in
        let y : (Gives Z 𝓛 at_mem run).Ghost = at_gives Z 𝓛 at_mem run κ q hp a b o (n * 4) al (block_ty El32 n) in
        sets ! (of_opd ! (get_in ! (fld ! refl (stop !)) (sub ! 0 refl (whole !)))) refl (tt, tt) $
        sets ! (of_opd ! (get_in ! (fld ! refl (stop !)) (sub ! 1 refl (whole !)))) refl (tt, record { fits = fw }) $ first ! $ blocks ! $ sets ! (of_opd ! (get ! refl)) refl (tt, tt) $
        sets ! (un ! (get ! refl) (record { fits = fn })) refl (tt, record { fits = fn }) $
        sets ! (bin ! (get ! refl) (lit ! tt) (record { fits = fm })) refl (tt, record { fits = fm }) $
        move ! (2 ∷ 3 ∷ []) $ join ! $ move ! (1 ∷ 2 ∷ 0 ∷ []) $ use3 𝓛 (raw ((Gives Z 𝓛 at_mem run).pre y))
        (Gives-goes Z 𝓛 at_mem run κ q hp a (Incl-trans z.0.2.0 inZ) b o (n * 4) al (block_ty El32 n) (block_size El32 n fm) (block_align El32 n) fm (capped_fits (align (elτ El32)))) $
        calls_at_last ! (fm_of 𝓤 H 𝓛.laws 𝓣) (Gives Z 𝓛 at_mem run) callee y (and_then ! (get ! refl) (and_then ! (get ! refl) (and_then ! (get ! refl) (and_then ! (lit ! tt) (no_more !))))) (λ v.
        use1 𝓛 (later (given (v ≡ vunit) (‵ (flft κ q)))) (Gives-Gives Z 𝓛 at_mem run κ q hp a b o (n * 4) al (block_ty El32 n) v) $ await ! tt $ learn ! (λ e.
        lands_last ! refl (subst (λ (u : Val). T (has_ty ty_unit u) × WT u) (sym e) (tt, tt)) $ exec ! 𝓣.C 𝓣.Λ En (after 3 here.body) (at_ret En Post) $
        sets ! (of_opd ! (unit_lit !)) refl (tt, tt) $ returns ! (look_at ! 0 refl) $ free_all ! refl $
        suffices ! _ (ends_at 𝓛 ended stayed held z vunit tt (tt, (tt, (tt, tt))) (tt, (tt, (tt, tt)))) $
        join ! $ feq_i ! (List Val) (vunit ∷ []) (vunit ∷ []) refl $ nothing ! $ nothing ! $ fjoin ! $ nothing ! $ nothing ! $ fjoin3 ! $ join ! $ move ! (1 ∷ 0 ∷ []) $ join ! $
        nothing ! $ keep ! (1 ∷ 0 ∷ []) $ done !)))))))))

    meets : Meets 𝓛 ended.signature (WpFn 𝓤 H 𝓣.C 𝓣.Λ here) (closing 𝓛 ended held)
    meets =
        walk_Meets 𝓛 ended stayed (
          Goes-dropped 𝓛 2 (RefOf (0 ∷ []) tt (plain (λ _. P Z)) (λ _. tt)) yes (λ κs x f. refl),
          (Goes-blank 𝓛 2 (plain (λ _. R)) ended.kept.1.0 (λ κs x w. tt), (Goes-dropped 𝓛 2 (plain (λ _. Br Z)) ended.kept.1.1.0 (λ κs x f. refl), tt)),
        ) held
        (WpFn 𝓤 H 𝓣.C 𝓣.Λ here) (WpFn-mono 𝓤 H 𝓛.laws 𝓣 here) walk

pub release_spec : {M : Type 1} → statement M
unfolding tables_of
release_spec 𝓤 𝓛 𝓜 𝓡 wired Y LY g d dd met md =
    let Z : Al = record { row = Y; laws = LY; g = g; d = d; drops = dd } in
    let 𝓣 : Tables 𝓤 𝓛.H = tables_of 𝓤 𝓛.H 𝓜 (tables 𝓤 𝓛.H 𝓜 𝓡 𝓡.env) in
    entered 𝓤 𝓛.H (triple_of 𝓛 (ended Z).signature (F.spec Y g d dd 𝓛 𝓜.mem 𝓡.returns)) 𝓣.C 𝓣.Λ (#self (args Z)) (here Z) (code.unfolded 𝓤 𝓛.H 𝓜 𝓡 wired (Y, tt) d dd)
    (meets Z 𝓛 𝓜.mem 𝓡.returns 𝓣 (met.deallocate dd))
