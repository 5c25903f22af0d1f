-- `of_raw` moves the pointer, and what stands there goes with it.
use Rattle.std.proofs.Common.{List, [], ◌∷◌, ◌++◌, refl, ap, true}
use Rattle.std.proofs.raw_atomic.Walks.{proved_at}
use base.Logic.{SProp, emp}
use base.Fml.{ftrue, fsep}
use mir.Val.{Val, vptr}
use contract.Running.{tables}
use prog.Wp.{WpFn}
use types.Kit.{‵, raw, prop, ◌⊛◌, ◌$◌, ◌∵◌, !, qed, keep, drop, split, join, fsplit, fjoin, regoal, suffices, done}
use types.Part.{whole, sub, agg}
use types.Run.{stop, fld, no_more, and_then, of_opd, true_lit, returns, enter}
use types.ByLocal.{alloc_all, pass_all, free_all, look_at, get, get_in, sets}
use denote.Exit.{yes}
use denote.RattleType.{RattleType}
use denote.Signature.{plain}
use denote.Steps.{nothing}
use denote.Triple.Walked.{Stays, says, stay_dropped, Goes-dropped, walk_of, ends_at}
use Rattle.sof_c.proofs.Heap.{raw_row, raw_val, raw_typed, raw_out}
use Rattle.sof_c.proofs.Handles.{handle_val, open_handle, open_typed, open_in}
use Rattle.sof_c.specs.contracts.machine.Machine as Machine
use Rattle.sof_c.specs.contracts.handle.Handle.of_raw as f
use Rattle.sof_c.proofs.handle.Handle.of_raw.Statement.{statement}
use Rattle.sof_c.proofs.handle.Handle.of_raw.Code as code

abbrev From : RattleType
From = raw_row Machine.the_row

abbrev stayed : Stays f.ended.signature.params f.ended.kept
stayed = (stay_dropped (plain (λ _. From)) yes, tt)

pub of_raw_spec : {M : Type 1} → statement M
of_raw_spec 𝓤 𝓛 𝓜 𝓡 wired =
    let c = f.clauses 𝓛 𝓜.mem 𝓡.returns in let 𝓣 = tables 𝓤 𝓛.H 𝓜 𝓡 𝓡.env in
    proved_at 𝓛 f.ended stayed c 𝓜 𝓡 (Goes-dropped 𝓛 0 (plain (λ _. From)) yes (λ κs x w. refl), tt)
    f.Key.name code.function (code.unfolded 𝓤 𝓛.H 𝓜 𝓡 wired) (λ z are.
    let Post : Val → SProp 𝓤 = (walk_of 𝓛 f.ended stayed c).post z in let v = z.0.3.0 in
    qed 𝓛 ((‵ ftrue ⊛ ‵ (fsep (From.own_val v z.0.4.0) ftrue)) ∷ raw (emp 𝓤) ∷ []) ∵ split ! $ drop ! $ fsplit ! $
    raw_out Machine.the_row ! v z.0.4.0 (λ b o e ws. keep ! (0 ∷ []) $
    regoal ! (λ (us : List Val). prop (WpFn 𝓤 𝓛.H 𝓣.C 𝓣.Λ code.function us Post)) (ap (λ (us : List Val). us ++ []) ws) refl $
    enter ! 𝓣.C 𝓣.Λ code.function (raw_val (vptr b o) ∷ []) Post $ alloc_all ! (λ l. pass_all ! refl (raw_typed Machine.the_row b o, tt) $
    sets ! (of_opd ! (get_in ! (fld ! refl (stop !)) (sub ! 0 refl (whole !)))) refl (tt, tt) $
    sets ! (of_opd ! (get ! refl)) refl (tt, tt) $
    sets ! (agg ! (and_then ! (get ! refl) (and_then ! (true_lit !) (no_more !)))) refl (open_typed b o true) $
    returns ! (look_at ! 0 refl) $ free_all ! refl $ open_in ! b o v.value $
    suffices ! _ (ends_at 𝓛 f.ended stayed c z (handle_val (vptr b o) true) (open_handle b o v.value) (tt, tt) (tt, tt)) $ says ! refl $
    nothing ! $ nothing ! $ fjoin ! $ join ! $ nothing ! $ join ! $ done !)))
