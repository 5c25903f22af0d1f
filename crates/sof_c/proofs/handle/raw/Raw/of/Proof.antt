-- `of` takes the box apart by `into_raw`, and what it owned goes with the pointer.
use Rattle.std.proofs.Common.{List, [], ◌∷◌, ◌++◌, refl, ap, ◌∙◌}
use Rattle.std.proofs.raw_atomic.Walks.{proved_at}
use base.Fraction.{full_share}
use base.Logic.{SProp, emp, id⊢, never, fst∗}
use base.Fml.{ftrue, fsep, flft}
use mir.Syntax.{Args, Fn, a_type, dcons, dnil}
use mir.MapTy.{inst_fn}
use mir.Raw.{raw as bare}
use mir.Val.{Val, vptr}
use contract.Monad.{fact, fact_i}
use contract.BorrowLft.{◌⊑◌, ⊑_static}
use contract.Running.{tables}
use prog.Wp.{WpFn}
use types.Logic.{sem}
use types.Kit.{Item, ‵, raw, some, later, prop, ◌⊛◌, ◌$◌, ◌∵◌, !, qed, move, drop, use0, use1, split, split3, join, fsplit, fjoin, feq_l, pick, await, regoal, suffices, done}
use types.Part.{agg}
use types.Run.{no_more, and_then, of_opd, returns, enter}
use types.ByLocal.{alloc_all, pass_all, free_all, look_at, get, sets, lands_as}
use denote.Exit.{no}
use denote.RattleType.{RattleType}
use denote.RawPtr.{Ptr, RawPtr, null_ptr, ptr_val, in_a_block}
use denote.Param.{param, bounded}
use denote.Param.NoDrop.{glues}
use denote.Signature.{plain}
use denote.Steps.{nothing, only}
use denote.Triple.Call.{calls_at}
use denote.Triple.Clauses.{Lasts, lasts}
use denote.Triple.Spec.{triple_of}
use denote.Triple.Walked.{Stays, says, stay_dropped, walk_of, ends_at}
use Rattle.core.proofs.alloc.Calls.{Goes-blank}
use Rattle.core.proofs.atomic.Steps.{fm}
use Rattle.std_alloc.specs.contracts.boxed.Box as Box
use Rattle.std_alloc.proofs.BoxSteps.Form as box
use Rattle.std_alloc.proofs.BoxSteps.Steps.{box_out, box_in}
use Rattle.std_alloc.specs.contracts.boxed.Box.into_raw as g
use Rattle.std_alloc.proofs.boxed.Box.into_raw.Met.{met}
use Rattle.std_heap.specs.contracts.GlobalAllocator.TheImpl.{ghosts, dict}
use Rattle.std_heap.proofs.GlobalAllocator.TheImpl.Met.{passed}
use Rattle.sof_c.specs.Owned.{c_heap, boxed_at}
use Rattle.sof_c.proofs.Heap.{global_row, global_arg, global_arg_laws, nothing_to_drop, c_allocator, raw_val, raw_at, raw_typed, raw_in}
use Rattle.sof_c.specs.contracts.handle.raw.Raw.of as f
use Rattle.sof_c.proofs.handle.raw.Raw.of.Statement.{statement}
use Rattle.sof_c.proofs.handle.raw.Raw.of.Code as code

pub of_spec : {M : Type 1} → statement M
unfolding Rattle.sof_c.proofs.Destruct++none.drop.Code.code
of_spec {M = M} 𝓤 𝓛 𝓜 𝓡 wired T L drops glue =
    let 𝓣 = tables 𝓤 𝓛.H 𝓜 𝓡 𝓡.env in let c = f.clauses T drops 𝓛 𝓜.mem 𝓡.returns in let En = f.ended T drops in
    let E : box.Bx = record { row = T; laws = L; al = c_allocator } in let R : RattleType = param 0 T in let From : RattleType = Box.the_row R global_row ghosts in
    let at_types : Args = bounded (a_type ∷ []) (T, tt) (dcons drops dnil) in let fn : Fn = inst_fn at_types code.function in
    let stayed : Stays En.signature.params En.kept = (stay_dropped (plain (λ _. From)) no, tt) in
    proved_at 𝓛 En stayed c 𝓜 𝓡 (Goes-blank 𝓛 1 (plain (λ _. From)) no (λ κs x w. tt), tt)
    (f.Key.name at_types) fn (code.unfolded 𝓤 𝓛.H 𝓜 𝓡 wired (T, tt) drops) (λ z are.
    let Post : Val → SProp 𝓤 = (walk_of 𝓛 En stayed c).post z in
    let κ = z.0.0.0 in let q = z.0.1.0 in let v = z.0.3.0 in
    let G = triple_of 𝓛 (g.signature T global_arg ghosts dict nothing_to_drop drops) (g.spec T global_arg ghosts dict nothing_to_drop drops 𝓛 𝓜.mem 𝓡.returns) in
    let tokens : Item 𝓤 = ‵ (flft κ q) ⊛ ‵ (flft [] full_share) ⊛ ‵ ftrue in
    qed 𝓛 (((‵ (flft κ q) ⊛ ‵ ftrue) ⊛ ‵ (fsep ((box.B E).own_val v z.0.4.0) ftrue)) ∷ (raw (fact 𝓤 (κ ⊑ T.lives)) ⊛ ‵ ftrue) ∷ []) ∵
    split ! $ move ! (1 ∷ []) $ fsplit ! $
    box_out E ! v z.0.4.0 (λ b o h e ws fits. box_in E ! v b o v.value e refl $
    let w = box.word E h b o in let typed = box.box_typed E h b o fits in
    let y : G.Ghost = (((κ, ([], tt)), (q, (full_share, tt)), tt, (v, tt), (w ∷ [], tt)), tt) in
    -- [the box; nothing; the token; what is known of its lifetime]
    move ! (3 ∷ []) $ split ! $ use0 𝓛 (raw (fact 𝓤 ([] ⊑ global_arg.lives))) (fact_i 𝓤 ([] ⊑ global_arg.lives) (emp 𝓤) (⊑_static [])) $
    move ! (0 ∷ 2 ∷ []) $ join ! $ move ! (1 ∷ 0 ∷ []) $ join ! $
    -- [what is asked; the box; nothing; the token]
    move ! (3 ∷ []) $ split ! $ use0 𝓛 (‵ (flft [] full_share)) (𝓛.lfts.lft-nil full_share) $ move ! (0 ∷ 2 ∷ []) $ join ! $ move ! (1 ∷ 0 ∷ []) $ join ! $
    -- [the tokens; what is asked; the box; nothing]
    move ! (2 ∷ 3 ∷ []) $ fjoin ! $ move ! (1 ∷ 0 ∷ []) $ join ! $ join ! $ use1 𝓛 (raw (G.pre y)) (id⊢ 𝓤 _) $
    regoal ! (λ (vs : List Val). prop (WpFn 𝓤 𝓛.H 𝓣.C 𝓣.Λ fn vs Post)) (ap (λ (vs : List Val). vs ++ []) ws) refl $
    enter ! 𝓣.C 𝓣.Λ fn (w ∷ []) Post $ alloc_all ! (λ l. pass_all ! refl (typed, tt) $
    sets ! (of_opd ! (get ! refl)) refl typed $
    calls_at ! (fm 𝓛 𝓜 𝓡) G (met 𝓤 𝓛 𝓜 𝓡 (code.calls-std_alloc::boxed::Box::into_raw 𝓡.env wired) T global_arg L global_arg_laws ghosts dict nothing_to_drop drops
    (passed 𝓡.env (code.calls-std_heap::GlobalAllocator::allocate 𝓡.env wired) (code.calls-std_heap::GlobalAllocator::deallocate 𝓡.env wired) (code.calls-std_heap::GlobalAllocator::grow 𝓡.env wired) (code.calls-std_heap::GlobalAllocator::shrink 𝓡.env wired) M 𝓤 𝓛 𝓜 𝓡)
    (glues "sof_c::Destruct++none::drop" 𝓡.env (code.calls-sof_c::Destruct++none::drop 𝓡.env wired) global_arg global_arg_laws M 𝓤 𝓛 𝓜 𝓡) glue)
    y (and_then ! (get ! refl) (no_more !)) (λ u.
    use1 𝓛 (later (some (λ (r : Ptr). (tokens ⊛ ‵ (RawPtr.own_val r (u ∷ []))) ⊛ some (λ (ls : Lasts (g.ended T global_arg ghosts dict nothing_to_drop drops) y.0.0 y.0.3).
    ‵ (lasts (g.ended T global_arg ghosts dict nothing_to_drop drops) y.0.0 y.0.3 ls) ⊛ ‵ (boxed_at R r v.value))))) (id⊢ 𝓤 _) $
    await ! tt $ pick ! (λ r. split ! $ move ! (1 ∷ []) $ pick ! (λ _. split ! $ drop ! $
    in_a_block ! r (λ p. boxed_at R p v.value) (fst∗ 𝓤 (never 𝓤) (sem 𝓛 (ghosts.dealloc_token c_heap (bare (box.τ E)) null_ptr))) (λ b' o' e'.
    move ! (1 ∷ []) $ split ! $ move ! (1 ∷ []) $ feq_l ! (λ is_r.
    lands_as ! (ap only (is_r ∙ ap (λ (p : Ptr). ptr_val p ∷ []) e')) refl (tt, tt) $
    sets ! (agg ! (and_then ! (get ! refl) (no_more !))) refl (raw_typed R b' o') $ returns ! (look_at ! 0 refl) $ free_all ! refl $
    -- [the tokens; what stands at the pointer]
    split3 ! $ move ! (1 ∷ []) $ drop ! $ join ! $ move ! (1 ∷ []) $ raw_in R ! b' o' v.value $
    suffices ! _ (ends_at 𝓛 En stayed c z (raw_val (vptr b' o')) (raw_at R b' o' v.value) (tt, tt) (tt, tt)) $ says ! refl $
    nothing ! $ nothing ! $ fjoin ! $ join ! $ move ! (1 ∷ 0 ∷ []) $ join ! $ done !))))))))
