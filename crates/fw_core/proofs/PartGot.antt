-- What GET_DATA tells is the part of the row.
use Rattle.std.proofs.Common.{◌≡◌, refl, sym, ap, ◌∙◌, subst, ℕ, List, Bool, true, false, cond, not, Option, Some, None, Result, Ok, Err, ℤ, negsuc}
use Rattle.std.specs.Prelude.{is_some}
use Rattle.sof_base.specs.declared.hole.Hole.{Hole}
use Rattle.sof_base.specs.declared.part.Part.{Part}
use Rattle.stream_law.specs.State.{FwState}
use Rattle.mbox_link.specs.Step as rows
use Rattle.fw_components.specs.Tables.{Tables, graph_of}
use Rattle.fw_components.specs.Parts.{part_or, part_got}
use Rattle.fw_components.specs.States.{state_over}
use Rattle.fw_core.proofs.Values.{there-used}

-- what a call gave is what the row answers, and the part is that of the row
pub record IsPartGot (f : FwState) (id index : ℕ) (o : Result Part ℤ) : Type 0 where
  pub done : (part : Part) → o ≡ Ok part → (rows.get_data f id index ≡ Ok f) × (rows.part_at f.graph id index ≡ Some part)
  pub refused : (e : ℤ) → o ≡ Err e → rows.get_data f id index ≡ Err e

pub part-got : (t : Tables) (holes : List Hole) (clock id index : ℕ) → IsPartGot (state_over t holes clock) id index (part_got t id index)
part-got t holes clock id index = subst (λ (h : Bool). IsPartGot (state_over t holes clock) id index (cond (not h) (Err (negsuc 18)) (part_or (rows.part_at (graph_of t) id index)))) (sym (there-used t id)) (by (rows.is_used (graph_of t) id) refl (rows.part_at (graph_of t) id index) refl)
  where
    f : FwState
    f = state_over t holes clock

    row_by : Bool → Option Part → Result FwState ℤ
    row_by used o = cond (not used) (Err rows.no_device) (cond (not (is_some o)) (Err rows.invalid) (Ok (state_over t holes clock)))

    by : (used : Bool) → rows.is_used (graph_of t) id ≡ used → (o : Option Part) → rows.part_at (graph_of t) id index ≡ o → IsPartGot (state_over t holes clock) id index (cond (not used) (Err (negsuc 18)) (part_or o))
    by false is o at = record {
      done = λ part e. cc e;
      refused = λ e same. ap (λ h. row_by h (rows.part_at (graph_of t) id index)) is ∙ out e same;
    }
      where
        out : (e : ℤ) → ◌≡◌ {A = Result Part ℤ} (Err (negsuc 18)) (Err e) → ◌≡◌ {A = Result FwState ℤ} (Err rows.no_device) (Err e)
        out e same = cc
    by true is None at = record {
      done = λ part e. cc e;
      refused = λ e same. (λ i. row_by (is i) (at i)) ∙ out e same;
    }
      where
        out : (e : ℤ) → ◌≡◌ {A = Result Part ℤ} (Err (negsuc 21)) (Err e) → ◌≡◌ {A = Result FwState ℤ} (Err rows.invalid) (Err e)
        out e same = cc
    by true is (Some x) at = record {
      done = λ part e. ((λ i. row_by (is i) (at i)), at ∙ some part e);
      refused = λ e same. cc same;
    }
      where
        some : (part : Part) → ◌≡◌ {A = Result Part ℤ} (Ok x) (Ok part) → Some x ≡ Some part
        some part e = cc
