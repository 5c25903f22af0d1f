-- First values, and the acts that set a control.
use Rattle.std.proofs.Common.{◌≡◌, refl, sym, ap, ℕ, List, [], ◌∷◌, length, replicate, Some}
use Rattle.std.proofs.lemmas.List.{length-replicate}
use Rattle.tplg_plan.specs.declared.plans.Plan.{Plan}
use Rattle.tplg_plan.specs.declared.plans.ControlPlan.{ControlPlan}
use Rattle.tplg_plan.specs.declared.plans.ControlKind.{ControlKind}
use Rattle.tplg_plan.specs.declared.plans.ControlKind.TheVariants.{Volume, Choice, Blob, Masks}
use Rattle.host_widgets.specs.declared.kept.ControlRec.{ControlRec}
use Rattle.host_widgets.specs.Controls.{control_of, first_value, first_values}
use Rattle.host_widgets.specs.HostActs.{Put}
use Rattle.host_widgets.specs.ActLists.{part_acts, control_acts, control_acts_by}
use Rattle.host_widgets.specs.ActMessages.{put_message, set_message, act_message}

pub values-are : (kind : ControlKind) → replicate (length (first_values kind)) (first_value kind) ≡ first_values kind
unfolding first_value
values-are (Volume min max channels lowest step mute) =
    ap (λ (n : ℕ). replicate n (first_value (Volume min max channels lowest step mute))) (length-replicate channels (first_value (Volume min max channels lowest step mute)))
values-are (Choice items) = refl
values-are (Blob most initial) = refl
values-are (Masks min max channels) = ap (λ (n : ℕ). replicate n max) (length-replicate channels max)

-- a control that is no blob is set by one message
one-put : (kind : ControlKind) (comp : ℕ) (r : ControlRec) → ((most : ℕ) (initial : List ℕ) → kind ≡ Blob most initial → ⊥) → control_acts_by comp kind r ≡ Put comp r.values ∷ []
one-put (Blob most initial) comp r other = absurd (other most initial refl)
one-put kind comp r other = refl

pub put-acts : (k : ControlPlan) (r : ControlRec) → ((most : ℕ) (initial : List ℕ) → k.kind ≡ Blob most initial → ⊥) → control_acts (k, r) ≡ Put k.comp r.values ∷ []
put-acts k r other = one-put k.kind k.comp r other

-- one that is by the parts of its blob
blob-put : (kind : ControlKind) (comp : ℕ) (r : ControlRec) (most : ℕ) (initial : List ℕ) → kind ≡ Blob most initial → control_acts_by comp kind r ≡ part_acts comp r.blob
blob-put kind comp r most initial is = ap (λ (q : ControlKind). control_acts_by comp q r) is

pub blob-acts : (k : ControlPlan) (r : ControlRec) (most : ℕ) (initial : List ℕ) → k.kind ≡ Blob most initial → control_acts (k, r) ≡ part_acts k.comp r.blob
blob-acts k r most initial is = blob-put k.kind k.comp r most initial is

pub put-message : (plan : Plan) (k : ControlPlan) (values : List ℕ) → control_of plan k.comp ≡ Some k → set_message k.comp values k.kind ≡ act_message plan (Put k.comp values)
put-message plan k values first = ap (put_message k.comp values) (sym first)
