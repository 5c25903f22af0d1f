-- A handle by value: put together over nothing, or over the block of a machine, and taken apart. Assumes `Logic`.
use mathlib.Core.Path.{◌≡◌, refl, sym, subst}
use mathlib.Core.Bool.{Bool, true, false}
use mathlib.Core.List.{List, [], ◌∷◌, ◌++◌}
use Prim.Native.Nat.{ℕ}
use lib.Dec.{T, lit<}
use seplogic.Ra.Ura.{Ura}
use mir.Raw.{raw as bare}
use mir.Val.{Val, vptr, vbool, vstruct, vcons, vnil, of_list, has_ty, WT}
use base.Logic.{never, fst∗}
use types.Logic.{Logic, sem}
use types.Kit.{Item, Goal, Seq, Step, step, ‵, ◌$◌, drop, fsplit, fjoin, fpick, fpack, feq_i, feq_l}
use denote.RattleType.{RattleType, Valss}
use denote.Builtin.{bool}
use denote.Memory.{lone}
use denote.Param.{layout}
use denote.RawPtr.{Ptr, RawPtr, block_ptr, null_ptr, ptr_val, in_a_block}
use denote.Steps.{nothing}
use denote.Struct.Struct.{within}
use denote.Struct.Owning.{shape, to}
use Rattle.std.specs.Prelude.{Option, Some, None, is_some}
use Rattle.std_heap.specs.contracts.GlobalAllocator.TheImpl.{ghosts}
use Rattle.sof_c.specs.Owned.{c_heap, boxed_at, owned_by}
use Rattle.sof_c.specs.declared.machine.Machine.{Machine}
use Rattle.sof_c.specs.contracts.machine.Machine as Machine'
use Rattle.sof_c.specs.contracts.handle.Handle as Handle

abbrev pub handle_row : RattleType
handle_row = Handle.the_row

abbrev pub handle_val : Val → Bool → Val
handle_val p f = vstruct (vcons p (vcons (vbool f) vnil))

abbrev pub closed_handle : handle_row.Denot
closed_handle = record { at = null_ptr; held = false; machine = None; known = refl }

abbrev pub open_handle : ℕ → ℕ → Machine → handle_row.Denot
open_handle b o x = record { at = block_ptr b o; held = true; machine = Some x; known = refl }

pub closed_typed : T (has_ty (layout handle_row) (handle_val (ptr_val null_ptr) false)) × WT (handle_val (ptr_val null_ptr) false)
closed_typed = (tt, (record { fits = lit< tt }, (tt, tt)))

pub open_typed : (b o : ℕ) (f : Bool) → T (has_ty (layout handle_row) (handle_val (vptr b o) f)) × WT (handle_val (vptr b o) f)
open_typed b o f = (tt, (tt, (tt, tt)))

module _ {M : Type 1} {𝓤 : Ura M} {𝓛 : Logic 𝓤} {K : Type 0} {Γ : List (Item 𝓤)} {G : Goal 𝓤 𝓛.H} where
  pub closed_in : K → Step K 𝓛 (‵ (handle_row.own_val closed_handle (handle_val (ptr_val null_ptr) false ∷ [])) ∷ Γ) G Γ G
  closed_in t = step (λ s. let p = ptr_val null_ptr in let w = handle_val p false in
      nothing t $ nothing t $ feq_i t (List Val) (vbool false ∷ []) (vbool false ∷ []) refl $ fjoin t $
      feq_i t (List Val) (p ∷ []) (p ∷ []) refl $ fjoin t $ feq_i t (List Val) (w ∷ []) (w ∷ []) refl $ fjoin t $
      fpack t (Valss (RawPtr ∷ bool ∷ [])) (within (shape Handle.the_type) (to Handle.the_type closed_handle) (w ∷ [])) (p ∷ [], (vbool false ∷ [], tt)) $ fjoin t $ s)

  pub open_in : K → (b o : ℕ) (x : Machine)
      → Step K 𝓛 (‵ (handle_row.own_val (open_handle b o x) (handle_val (vptr b o) true ∷ [])) ∷ Γ) G (‵ (boxed_at Machine'.the_row (block_ptr b o) x) ∷ Γ) G
  open_in t b o x = step (λ s. let p = vptr b o in let w = handle_val p true in
      nothing t $ feq_i t (List Val) (vbool true ∷ []) (vbool true ∷ []) refl $ fjoin t $
      feq_i t (List Val) (p ∷ []) (p ∷ []) refl $ fjoin t $ feq_i t (List Val) (w ∷ []) (w ∷ []) refl $ fjoin t $
      fpack t (Valss (RawPtr ∷ bool ∷ [])) (within (shape Handle.the_type) (to Handle.the_type (open_handle b o x)) (w ∷ [])) (p ∷ [], (vbool true ∷ [], tt)) $ fjoin t $ s)

  -- what is there, where something is
  there : K → (p : Ptr) (v : Option Machine) → is_some v ≡ true
      → ((b o : ℕ) (x : Machine) → p ≡ block_ptr b o → v ≡ Some x → Seq K 𝓛 (‵ (boxed_at Machine'.the_row (block_ptr b o) x) ∷ Γ) G)
      → Seq K 𝓛 (‵ (owned_by p v) ∷ Γ) G
  there t p None is k = absurd (subst T (sym is) tt)
  there t p (Some x) is k =
      in_a_block t p (λ q. boxed_at Machine'.the_row q x) (fst∗ 𝓤 (never 𝓤) (sem 𝓛 (ghosts.dealloc_token c_heap (bare (lone Machine'.the_row.mir)) null_ptr))) (λ b o e. k b o x e refl)

module _ {M : Type 1} {𝓤 : Ura M} {𝓛 : Logic 𝓤} {K : Type 0} {Γ : List (Item 𝓤)} {G : Goal 𝓤 𝓛.H} where
  -- the machine of an open handle
  pub open_out : K → (d : handle_row.Denot) (vs : List Val) → is_some d.machine ≡ true
      → ((b o : ℕ) (x : Machine) → d.at ≡ block_ptr b o → d.machine ≡ Some x → vs ≡ handle_val (vptr b o) d.held ∷ []
      → Seq K 𝓛 (‵ (boxed_at Machine'.the_row (block_ptr b o) x) ∷ Γ) G)
      → Seq K 𝓛 (‵ (handle_row.own_val d vs) ∷ Γ) G
  open_out t d vs is k =
      fsplit t $ fpick t (λ vss. fsplit t $ feq_l t (λ ev. fsplit t $ feq_l t (λ ep. fsplit t $ feq_l t (λ eb. drop t $
      there t d.at d.machine is (λ b o x e ex. k b o x e ex
      (subst (λ (p : Ptr). vs ≡ vstruct (of_list (ptr_val p ∷ vbool d.held ∷ [])) ∷ []) e
      (subst (λ (bs : List Val). vs ≡ vstruct (of_list (ptr_val d.at ∷ (bs ++ []))) ∷ []) eb
      (subst (λ (ps : List Val). vs ≡ vstruct (of_list (ps ++ (vss.1.0 ++ []))) ∷ []) ep ev))))))))
