-- `closed` puts the fields together, and owns nothing besides.
use Rattle.std.proofs.Common.{[], ◌∷◌, refl, false}
use Rattle.std.proofs.raw_atomic.Walks.{proved_at}
use base.Logic.{SProp, emp}
use base.Fml.{ftrue}
use mir.Val.{Val}
use contract.Running.{tables}
use types.Kit.{‵, raw, ◌⊛◌, ◌$◌, ◌∵◌, !, qed, keep, join, suffices, done}
use types.Part.{agg}
use types.Run.{no_more, and_then, lit, false_lit, returns, enter}
use types.ByLocal.{alloc_all, pass_all, free_all, look_at, sets}
use denote.RawPtr.{null_ptr, ptr_val}
use denote.Steps.{nothing}
use denote.Triple.Walked.{says, walk_of, ends_at}
use Rattle.sof_c.proofs.Handles.{handle_val, closed_handle, closed_typed, closed_in}
use Rattle.sof_c.specs.contracts.handle.Handle.closed as f
use Rattle.sof_c.proofs.handle.Handle.closed.Statement.{statement}
use Rattle.sof_c.proofs.handle.Handle.closed.Code as code

pub closed_spec : {M : Type 1} → statement M
closed_spec 𝓤 𝓛 𝓜 𝓡 wired =
    let c = f.clauses 𝓛 𝓜.mem 𝓡.returns in let 𝓣 = tables 𝓤 𝓛.H 𝓜 𝓡 𝓡.env in
    proved_at 𝓛 f.ended tt c 𝓜 𝓡 tt f.Key.name code.function (code.unfolded 𝓤 𝓛.H 𝓜 𝓡 wired) (λ z are.
    let Post : Val → SProp 𝓤 = (walk_of 𝓛 f.ended tt c).post z in
    qed 𝓛 ((‵ ftrue ⊛ ‵ ftrue) ∷ raw (emp 𝓤) ∷ []) ∵ keep ! [] $
    enter ! 𝓣.C 𝓣.Λ code.function [] Post $ alloc_all ! (λ l. pass_all ! refl tt $
    sets ! (agg ! (and_then ! (lit ! tt) (and_then ! (false_lit !) (no_more !)))) refl closed_typed $
    returns ! (look_at ! 0 refl) $ free_all ! refl $ closed_in ! $
    suffices ! _ (ends_at 𝓛 f.ended tt c z (handle_val (ptr_val null_ptr) false) closed_handle tt tt) $ says ! refl $
    nothing ! $ join ! $ nothing ! $ join ! $ done !))
