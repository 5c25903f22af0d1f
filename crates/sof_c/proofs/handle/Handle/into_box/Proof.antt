-- `into_box` makes a box again of the pointer, by `from_raw`.
use Rattle.std.proofs.Common.{◌≡◌, List, [], ◌∷◌, ◌++◌, refl, sym, ap, subst, ◌∙◌}
use Rattle.std.proofs.raw_atomic.Walks.{proved_at}
use base.Fraction.{full_share}
use base.Logic.{SProp, emp, id⊢}
use base.Fml.{ftrue, fsep, flft}
use mir.Val.{Val, vptr}
use contract.Monad.{fact, fact_i}
use contract.BorrowLft.{◌⊑◌, ⊑_static}
use contract.Running.{tables}
use prog.Wp.{WpFn}
use types.Kit.{Item, ‵, raw, some, later, prop, at_ret, ◌⊛◌, ◌$◌, ◌∵◌, !, qed, move, drop, use0, use1, split, split3, join, fsplit, fjoin, feq_i, pick, await, rewrite, regoal, suffices, done}
use types.Part.{whole, sub}
use types.Run.{stop, fld, no_more, and_then, of_opd, first, blocks, exec, returns, enter}
use types.ByLocal.{alloc_all, pass_all, free_all, look_at, get, get_in, sets, lands_last, env}
use denote.Exit.{yes, no}
use denote.RattleType.{RattleType}
use denote.RawPtr.{block_ptr}
use denote.Signature.{plain}
use denote.Steps.{nothing, heard, only}
use denote.Param.{layout, arg}
use denote.Param.Laws.{Laws, arg_laws}
use mir.Raw.{raw as bare}
use denote.Triple.Call.{calls_at_last}
use denote.Triple.Clauses.{Lasts, lasts}
use denote.Triple.Spec.{triple_of}
use denote.Triple.Walked.{Stays, says, stay_dropped, Goes-dropped, walk_of, ends_at}
use denote.Param.NoDrop.{glues}
use Rattle.std.specs.Prelude.{Some, is_some, true}
use Rattle.core.proofs.alloc.Calls.{handle_tells}
use Rattle.core.proofs.alloc.Shapes.{after}
use Rattle.core.proofs.atomic.Steps.{fm}
use Rattle.core.proofs.cell.Inside.{Good}
use Rattle.std_alloc.proofs.BoxSteps.Form as box
use Rattle.std_alloc.proofs.BoxSteps.Steps.{box_out, box_in}
use Rattle.std_alloc.specs.contracts.boxed.Box.from_raw as g
use Rattle.std_alloc.proofs.boxed.Box.from_raw.Met.{met}
use Rattle.std_heap.specs.contracts.GlobalAllocator.TheImpl.{ghosts, dict}
use Rattle.std_heap.proofs.GlobalAllocator.TheImpl.Met.{passed}
use Rattle.sof_c.proofs.Heap.{global_row, global_arg, global_arg_laws, nothing_to_drop, c_allocator}
use Rattle.sof_c.proofs.Handles.{handle_row, handle_val, open_typed, open_out}
use Rattle.sof_c.specs.contracts.machine.Machine as Machine
use Rattle.sof_c.proofs.machine.Machine.TheLaws as machine
use Rattle.sof_c.specs.contracts.handle.Handle.into_box as f
use Rattle.sof_c.proofs.handle.Handle.into_box.Statement.{statement}
use Rattle.sof_c.proofs.handle.Handle.into_box.Code as code

abbrev stayed : Stays f.ended.signature.params f.ended.kept
stayed = (stay_dropped (plain (λ _. handle_row)) yes, (stay_dropped (plain (λ _. global_row)) yes, tt))

-- the machine as the argument of a call
abbrev machine_arg : RattleType
machine_arg = arg (bare (layout Machine.the_row)) no Machine.the_row

abbrev machine_arg_laws : Laws machine_arg
machine_arg_laws = arg_laws (bare (layout Machine.the_row)) no Machine.the_row machine.the_row_laws refl

abbrev boxed : box.Bx
boxed = record { row = machine_arg; laws = machine_arg_laws; al = c_allocator }

abbrev box_row : RattleType
box_row = box.B boxed

pub into_box_spec : {M : Type 1} → statement M
unfolding Rattle.sof_c.proofs.Destruct++none.drop.Code.code
into_box_spec {M = M} 𝓤 𝓛 𝓜 𝓡 wired =
    let c = f.clauses 𝓛 𝓜.mem 𝓡.returns in let 𝓣 = tables 𝓤 𝓛.H 𝓜 𝓡 𝓡.env in
    proved_at 𝓛 f.ended stayed c 𝓜 𝓡 (Goes-dropped 𝓛 0 (plain (λ _. handle_row)) yes (λ κs x w. refl), (Goes-dropped 𝓛 0 (plain (λ _. global_row)) yes (λ κs x w. refl), tt))
    f.Key.name code.function (code.unfolded 𝓤 𝓛.H 𝓜 𝓡 wired) (λ z are.
    let Post : Val → SProp 𝓤 = (walk_of 𝓛 f.ended stayed c).post z in
    let d = z.0.3.0 in let a = z.0.3.1.0 in let G = triple_of 𝓛 (g.signature machine_arg global_arg ghosts dict nothing_to_drop) (g.spec machine_arg global_arg ghosts dict nothing_to_drop 𝓛 𝓜.mem 𝓡.returns) in
    let tokens : Item 𝓤 = ‵ (flft [] full_share) ⊛ ‵ (flft [] full_share) ⊛ ‵ ftrue in
    qed 𝓛 ((‵ ftrue ⊛ ‵ (fsep (handle_row.own_val d z.0.4.0) (fsep (global_row.own_val a z.0.4.1.0) ftrue))) ∷ raw (fact 𝓤 (is_some d.machine ≡ true)) ∷ []) ∵
    move ! (1 ∷ []) $ heard ! (is_some d.machine ≡ true) (λ is. split ! $ drop ! $ fsplit ! $
    open_out ! d z.0.4.0 is (λ b o x e ex ws. move ! (1 ∷ []) $ fsplit ! $ handle_tells c_allocator ! a z.0.4.1.0 (λ h us fits. move ! (1 ∷ []) $ drop ! $
    -- [the allocator; the machine]
    let w = handle_val (vptr b o) d.held in
    let y : G.Ghost = ((([], ([], tt)), (full_share, (full_share, tt)), tt, (a, (block_ptr b o, tt)), (h ∷ [], (vptr b o ∷ [], tt))), x) in
    nothing ! $ use0 𝓛 (‵ (flft [] full_share)) (𝓛.lfts.lft-nil full_share) $ join ! $ use0 𝓛 (‵ (flft [] full_share)) (𝓛.lfts.lft-nil full_share) $ join ! $
    move ! (2 ∷ []) $ use0 𝓛 (raw (fact 𝓤 ([] ⊑ global_arg.lives))) (fact_i 𝓤 ([] ⊑ global_arg.lives) (emp 𝓤) (⊑_static [])) $ join ! $
    use0 𝓛 (raw (fact 𝓤 ([] ⊑ machine_arg.lives))) (fact_i 𝓤 ([] ⊑ machine_arg.lives) (emp 𝓤) (⊑_static [])) $ join ! $
    -- [what is asked; the tokens; the allocator]
    nothing ! $ feq_i ! (List Val) (vptr b o ∷ []) (vptr b o ∷ []) refl $ fjoin ! $ move ! (3 ∷ 0 ∷ []) $ fjoin ! $ move ! (2 ∷ 0 ∷ []) $ join ! $ join ! $
    use1 𝓛 (raw (G.pre y)) (id⊢ 𝓤 _) $
    regoal ! (λ (vs : List Val). prop (WpFn 𝓤 𝓛.H 𝓣.C 𝓣.Λ code.function vs Post)) (ap (λ (vs : List Val). vs ++ (z.0.4.1.0 ++ [])) ws ∙ ap (λ (vs : List Val). w ∷ (vs ++ [])) us) refl $
    enter ! 𝓣.C 𝓣.Λ code.function (w ∷ h ∷ []) Post $ alloc_all ! (λ l. pass_all ! refl (open_typed b o d.held, (fits, tt)) $
    sets ! (of_opd ! (get_in ! (fld ! refl (stop !)) (sub ! 0 refl (whole !)))) refl (tt, tt) $
    first ! $ blocks ! $ sets ! (of_opd ! (get ! refl)) refl (tt, tt) $
    calls_at_last ! (fm 𝓛 𝓜 𝓡) G (met 𝓤 𝓛 𝓜 𝓡 (code.calls-std_alloc::boxed::Box::from_raw 𝓡.env wired) machine_arg global_arg machine_arg_laws global_arg_laws ghosts dict nothing_to_drop
    (passed 𝓡.env (code.calls-std_heap::GlobalAllocator::allocate 𝓡.env wired) (code.calls-std_heap::GlobalAllocator::deallocate 𝓡.env wired) (code.calls-std_heap::GlobalAllocator::grow 𝓡.env wired) (code.calls-std_heap::GlobalAllocator::shrink 𝓡.env wired) M 𝓤 𝓛 𝓜 𝓡)
    (glues "sof_c::Destruct++none::drop" 𝓡.env (code.calls-sof_c::Destruct++none::drop 𝓡.env wired) global_arg global_arg_laws M 𝓤 𝓛 𝓜 𝓡))
    y (and_then ! (get ! refl) (and_then ! (get ! refl) (no_more !))) (λ u.
    use1 𝓛 (later (some (λ (r : box_row.Denot). (tokens ⊛ ‵ (box_row.own_val r (u ∷ []))) ⊛ some (λ (ls : Lasts (g.ended machine_arg global_arg ghosts dict nothing_to_drop) y.0.0 y.0.3).
    ‵ (lasts (g.ended machine_arg global_arg ghosts dict nothing_to_drop) y.0.0 y.0.3 ls) ⊛ (raw (fact 𝓤 (r.value ≡ x)) ⊛ raw (fact 𝓤 (r.alloc ≡ a))))))) (id⊢ 𝓤 _) $
    await ! tt $ pick ! (λ r. split ! $ move ! (1 ∷ []) $ pick ! (λ _. split3 ! $ drop ! $ heard ! (r.value ≡ x) (λ is_x. drop ! $ split ! $ drop ! $
    box_out boxed ! r (u ∷ []) (λ b' o' h' e' us' fits'. box_in boxed ! r b' o' r.value e' refl $ rewrite ! 0 (λ (vs : List Val). ‵ (box_row.own_val r vs)) (sym us') refl $
    let good : Good (layout box_row) u = subst (Good (layout box_row)) (sym (ap only us')) (box.box_typed boxed h' b' o' fits') in
    lands_last ! refl good $ exec ! 𝓣.C 𝓣.Λ (env code.Mir.locals l) (after 2 (code.function).body) (at_ret (env code.Mir.locals l) Post) $
    sets ! (of_opd ! (get ! refl)) refl good $ returns ! (look_at ! 0 refl) $ free_all ! refl $
    suffices ! _ (ends_at 𝓛 f.ended stayed c z u r (tt, (tt, tt)) (tt, (tt, tt))) $ says ! (ap Some is_x ∙ sym ex) $
    nothing ! $ nothing ! $ fjoin ! $ nothing ! $ fjoin ! $ join ! $ nothing ! $ join ! $ done !))))))))))
