-- What a `Block` owns is taken apart and made, and the layout of its words (after `Lease` of the kit). Assumes `Logic`.
use mathlib.Core.Path.{◌≡◌, refl, ◌∙◌}
use Prim.Native.Nat.{ℕ, ◌<◌, ◌^◌}
use mathlib.Core.List.{List, [], ◌∷◌, ◌++◌}
use seplogic.Ra.Ura.{Ura}
use mir.Syntax.{Args, w32, a_type, dcons, dnil}
use mir.Val.{Val, vint, vptr, vstruct, vcons, vnil, of_list}
use types.Logic.{Logic}
use types.Kit.{Goal, Step, step, Seq, Item, ‵, ◌$◌, drop, fsplit, fjoin, fpick, feq_l}
use denote.RattleType.{RattleType}
use denote.Param.{param, bounded}
use denote.RawPtr.{Ptr, block_ptr, ptr_val}
use denote.Shadow.{pure_i}
use denote.Struct.Struct.{Struct}
use denote.Struct.Owning.{shape}
use Rattle.core.proofs.alloc.Calls.{Al, token}
use Rattle.core.proofs.slots.Leases.{block_ty}
use Rattle.fw_heap.specs.Owned.{run_owns}
use Rattle.fw_heap.proofs.Memory.{bare}
use Rattle.fw_heap.proofs.Rows.{El32}
use Rattle.fw_heap.specs.contracts.run.Run.{the_row as R}
use Rattle.fw_heap.specs.contracts.block.Block as L

abbrev pub block_val : Ptr → ℕ → Val
block_val p n = vstruct (vcons (ptr_val p) (vcons (vint w32 n) (vcons (vstruct vnil) vnil)))

module _ (Z : Al) where
  abbrev pub args : Args
  args = bounded (a_type ∷ []) (Z.row, tt) (dcons Z.d (dcons Z.drops dnil))

  abbrev pub P : RattleType
  P = param 0 Z.row

  abbrev pub Br : RattleType
  Br = L.the_row P Z.g

  abbrev pub made : Z.row.Denot → ℕ → ℕ → ℕ → Br.Denot
  made a b o n = record { start = block_ptr b o; words = n; by = record {}; alloc = a }

module _ {M : Type 1} {𝓤 : Ura M} {𝓛 : Logic 𝓤} {K : Type 0} {Γ : List (Item 𝓤)} {G : Goal 𝓤 𝓛.H} where
  -- the words of a run are taken out
  pub run_had : K → (d : R.Denot) (vs : List Val) → (vs ≡ bare ∷ [] → Seq K 𝓛 (‵ (run_owns d.start d.first d.items d.written) ∷ Γ) G) → Seq K 𝓛 (‵ (R.own_val d vs) ∷ Γ) G
  run_had t d vs k = fsplit t $ fpick t (λ vss. fsplit t $ feq_l t (λ all. drop t $ k all))

module _ (Z : Al) {M : Type 1} {𝓤 : Ura M} {𝓛 : Logic 𝓤} {K : Type 0} {Γ : List (Item 𝓤)} {G : Goal 𝓤 𝓛.H} where
  pub block_had : K → (d : (Br Z).Denot) (vs : List Val)
      → (vs ≡ block_val d.start d.words ∷ [] → Seq K 𝓛 (‵ (token Z d.alloc (block_ty El32 d.words) d.start) ∷ Γ) G) → Seq K 𝓛 (‵ ((Br Z).own_val d vs) ∷ Γ) G
  block_had t d vs k =
      fsplit t $ fpick t (λ vss. fsplit t $ feq_l t (λ all. fsplit t $ feq_l t (λ e₀. fsplit t $ fsplit t $ feq_l t (λ e₁. drop t $ fsplit t $ fpick t (λ none. fsplit t $ feq_l t (λ e₂. drop t $ drop t $
      k (all ∙ (λ i. vstruct (of_list (e₀ i ++ (e₁ i ++ (e₂ i ++ [])))) ∷ []))))))))

  pub block_made : K → (a : Z.row.Denot) (b o n : ℕ) → n < 2 ^ 32
      → Step K 𝓛 (‵ ((Br Z).own_val (made Z a b o n) (block_val (block_ptr b o) n ∷ [])) ∷ Γ) G (‵ (token Z a (block_ty El32 n) (block_ptr b o)) ∷ Γ) G
  block_made t a b o n fn = step (λ s.
      pure_i t ((Struct (shape (L.the_type (P Z) Z.g))).own_val (block_ptr b o, (n, (tt, tt))) (block_val (block_ptr b o) n ∷ [])) (λ vss. (tt, (tt, ((tt, tt), ((λ uss. (tt, tt)), tt)))))
      ((vptr b o ∷ [], (vint w32 n ∷ [], (vstruct vnil ∷ [], tt))), (refl, (refl, ((refl, fn), ((tt, (refl, tt)), tt))))) $ fjoin t $ s)
