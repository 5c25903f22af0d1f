-- The allocator of the C library at a call of a function of boxes, and a box's pointer as a struct. Assumes `Logic`.
--     global_row, global_arg, nothing_to_drop, c_allocator      the allocator's row, the same as an argument, what drops its handle, and it as an allocator of `alloc.Calls`
--     raw_val, raw_typed, raw_in, raw_out      the machine value of a `Raw`, put together over a block and taken apart
use mathlib.Core.Path.{◌≡◌, refl, subst}
use mathlib.Core.List.{List, [], ◌∷◌, ◌++◌}
use Prim.Native.Nat.{ℕ}
use lib.Dec.{T}
use seplogic.Ra.Ura.{Ura}
use mir.Syntax.{Dict, impl, tnil, tcons, dnil}
use mir.Raw.{raw as bare}
use mir.Val.{Val, vptr, vstruct, vcons, vnil, of_list, has_ty, WT}
use base.Logic.{never, fst∗}
use types.Logic.{Logic, sem}
use types.Kit.{Item, Goal, Seq, Step, step, ‵, ◌$◌, drop, fsplit, fjoin, fpick, fpack, feq_i, feq_l}
use denote.RattleType.{RattleType, Valss}
use denote.Memory.{lone}
use denote.Exit.{no}
use denote.Param.{layout, arg}
use denote.Param.Laws.{Laws, arg_laws}
use denote.RawPtr.{Ptr, RawPtr, block_ptr, null_ptr, ptr_val, in_a_block}
use denote.Steps.{nothing}
use denote.Struct.Struct.{within}
use denote.Struct.Owning.{shape, to}
use Rattle.core.proofs.alloc.Calls.{Al}
use Rattle.std_heap.specs.contracts.Global as Heap
use Rattle.std_heap.specs.contracts.GlobalAllocator.TheImpl.{ghosts, dict}
use Rattle.std_heap.proofs.Global.TheLaws as heap
use Rattle.sof_c.specs.Owned.{c_heap, boxed_at}
use Rattle.sof_c.specs.contracts.handle.raw.Raw as Raw

abbrev pub global_row : RattleType
global_row = Heap.the_row

-- the allocator as the argument of a call
abbrev pub global_arg : RattleType
global_arg = arg (bare (layout global_row)) no global_row

abbrev pub global_arg_laws : Laws global_arg
global_arg_laws = arg_laws (bare (layout global_row)) no global_row heap.the_row_laws refl

abbrev pub nothing_to_drop : Dict
nothing_to_drop = impl ("sof_c::Destruct++none::drop" ∷ []) (tcons (layout global_arg) tnil) dnil

abbrev pub c_allocator : Al
c_allocator = record { row = global_arg; laws = global_arg_laws; g = ghosts; d = dict; drops = nothing_to_drop }

abbrev pub raw_val : Val → Val
raw_val p = vstruct (vcons p vnil)

module _ (R : RattleType) where
  abbrev pub raw_row : RattleType
  raw_row = Raw.the_row R

  abbrev pub raw_at : ℕ → ℕ → R.Denot → raw_row.Denot
  raw_at b o x = record { at = block_ptr b o; value = x }

  pub raw_typed : (b o : ℕ) → T (has_ty (layout raw_row) (raw_val (vptr b o))) × WT (raw_val (vptr b o))
  raw_typed b o = (tt, (tt, tt))

  module _ {M : Type 1} {𝓤 : Ura M} {𝓛 : Logic 𝓤} {K : Type 0} {Γ : List (Item 𝓤)} {G : Goal 𝓤 𝓛.H} where
    pub raw_in : K → (b o : ℕ) (x : R.Denot)
        → Step K 𝓛 (‵ (raw_row.own_val (raw_at b o x) (raw_val (vptr b o) ∷ [])) ∷ Γ) G (‵ (boxed_at R (block_ptr b o) x) ∷ Γ) G
    raw_in t b o x = step (λ s. let p = vptr b o in let w = raw_val p in
        nothing t $ feq_i t (List Val) (p ∷ []) (p ∷ []) refl $ fjoin t $ feq_i t (List Val) (w ∷ []) (w ∷ []) refl $ fjoin t $
        fpack t (Valss (RawPtr ∷ [])) (within (shape (Raw.the_type R)) (to (Raw.the_type R) (raw_at b o x)) (w ∷ [])) (p ∷ [], tt) $ fjoin t $ s)

    pub raw_out : K → (d : raw_row.Denot) (vs : List Val)
        → ((b o : ℕ) → d.at ≡ block_ptr b o → vs ≡ raw_val (vptr b o) ∷ [] → Seq K 𝓛 (‵ (boxed_at R (block_ptr b o) d.value) ∷ Γ) G)
        → Seq K 𝓛 (‵ (raw_row.own_val d vs) ∷ Γ) G
    raw_out t d vs k =
        fsplit t $ fpick t (λ vss. fsplit t $ feq_l t (λ ev. fsplit t $ feq_l t (λ ep. drop t $
        in_a_block t d.at (λ p. boxed_at R p d.value) (fst∗ 𝓤 (never 𝓤) (sem 𝓛 (ghosts.dealloc_token c_heap (bare (lone R.mir)) null_ptr))) (λ b o e. k b o e
        (subst (λ (p : Ptr). vs ≡ vstruct (of_list (ptr_val p ∷ [])) ∷ []) e
        (subst (λ (ps : List Val). vs ≡ vstruct (of_list (ps ++ [])) ∷ []) ep ev))))))
