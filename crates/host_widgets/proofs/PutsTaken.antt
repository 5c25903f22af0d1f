-- A firmware in which a sound plan is made and joined takes what a record sets at all live controls, one after the other.
use Rattle.std.proofs.Common.{◌≡◌, refl, sym, ap, subst, ◌∙◌, ℕ, List, ◌∷◌, map, length, get_or, replicate, Bool, true, false, cond, ◌==◌, ◌||◌, Option, Some, None}
use Rattle.std.specs.Prelude.{nat_le}
use Rattle.std.specs.List.{list_any, list_all}
use Rattle.std.proofs.lemmas.Bool.{eqb-true, eq-eqb, and_from}
use Rattle.std.proofs.lemmas.List.{length-replicate}
use Rattle.stream_law.specs.declared.graph.Kind.{Kind}
use Rattle.stream_law.specs.declared.graph.Kind.TheVariants as kinds
use Rattle.stream_law.specs.declared.graph.Setting.{Setting}
use Rattle.stream_law.specs.declared.graph.Setting.TheVariants as settings
use Rattle.stream_law.specs.declared.graph.Comp.{Comp}
use Rattle.stream_law.specs.Ways.{comp_of}
use Rattle.stream_law.proofs.Waits.{eqb_turned}
use Rattle.mbox_link.specs.Step.{first_setting, new_setting, with_setting}
use Rattle.tplg_plan.specs.declared.plans.Plan.{Plan}
use Rattle.tplg_plan.specs.declared.plans.WidgetPlan.{WidgetPlan}
use Rattle.tplg_plan.specs.declared.plans.ControlPlan.{ControlPlan}
use Rattle.tplg_plan.specs.declared.plans.ControlKind.{ControlKind}
use Rattle.tplg_plan.specs.declared.plans.ControlKind.TheVariants.{Volume, Choice, Blob, Masks}
use Rattle.tplg_plan.specs.GainOf.{control_gain}
use Rattle.tplg_plan.specs.Sound.{IsControlOf, IsLive, IsSound}
use Rattle.host_widgets.specs.declared.kept.Record.{Record}
use Rattle.host_widgets.specs.Controls.{control_of, eight_masks}
use Rattle.host_widgets.specs.ViewOf.{record_setting}
use Rattle.host_widgets.specs.Acts.{widget_words, component_words}
use Rattle.host_widgets.specs.declared.kept.ControlRec.{ControlRec}
use Rattle.host_widgets.specs.Kept.{control_at}
use Rattle.host_widgets.proofs.ControlLists.{Pair}
use Rattle.host_widgets.proofs.GreatestGains.{AreGains, gains-pass}

-- ---- settings while some live controls are still to be set

abbrev pub setting_while : Plan → Record → List Pair → Comp → Setting
setting_while plan kept todo c = cond (list_any (λ p. p.0.comp == c.id) todo) (first_setting (component_words c.kind (control_of plan c.id) (widget_words plan c.id))) (record_setting c.kind (control_at plan kept c.id))

abbrev pub comp_while : Plan → Record → List Pair → Comp → Comp
comp_while plan kept todo c = record { id = c.id; kind = c.kind; pipe = c.pipe; setting = setting_while plan kept todo c; ramp = c.ramp }

-- what a component without a live control begins with is what is set at it
pub bare-setting : (kind : Kind) (w : WidgetPlan) → first_setting (component_words kind None w) ≡ record_setting kind None
bare-setting kinds.HostPlay w = refl
bare-setting kind w = refl

-- ---- what a control sets

abbrev pub wanted : ControlKind → ControlRec → Setting
wanted (Volume min max channels lowest step mute) r = settings.Gains (map (control_gain (Volume min max channels lowest step mute)) r.values)
wanted (Choice items) r = settings.Choice (get_or r.values 0 0)
wanted (Blob most initial) r = settings.Blob r.blob
wanted (Masks min max channels) r = settings.Masks (eight_masks r.values)

abbrev pub with_kind : ℕ → ControlKind → ControlPlan
with_kind id q = record { comp = id; kind = q }

pub set-is : (id : ℕ) (q : ControlKind) (r : ControlRec) (kind : Kind) → IsControlOf q kind → record_setting kind (Some (with_kind id q, r)) ≡ wanted q r
set-is id (Volume min max channels lowest step mute) r kind is = ap (λ (x : Kind). record_setting x (Some (with_kind id (Volume min max channels lowest step mute), r))) is.0
set-is id (Choice items) r kind is = ap (λ (x : Kind). record_setting x (Some (with_kind id (Choice items), r))) is.0
set-is id (Blob most initial) r kind is = ap (λ (x : Kind). record_setting x (Some (with_kind id (Blob most initial), r))) is.0
set-is id (Masks min max channels) r kind is = ap (λ (x : Kind). record_setting x (Some (with_kind id (Masks min max channels), r))) is.0

-- a component of a plan with a live control has it set to that
module _ (plan : Plan) (sound : IsSound plan) (kept : Record) (id : ℕ) (q : ControlKind) (r : ControlRec) (live : IsLive plan.graph (with_kind id q)) (there : control_of plan id ≡ Some (with_kind id q)) (set : control_at plan kept id ≡ Some (with_kind id q, r)) (ks : List Pair) (apart : list_any (λ (p : Pair). p.0.comp == id) ks ≡ false) where
  abbrev first : Comp → Setting
  first c = first_setting (component_words c.kind (control_of plan c.id) (widget_words plan c.id))

  module _ (c : Comp) (found : comp_of plan.graph c.id ≡ Some c) where
    kind-is : c.id ≡ id → IsControlOf q c.kind
    kind-is same = let one : live.comp ≡ c = cc (sym live.there ∙ ap (comp_of plan.graph) (sym same) ∙ found) in subst (λ (x : Comp). IsControlOf q x.kind) one live.kind

    rest-apart : c.id ≡ id → list_any (λ (p : Pair). p.0.comp == c.id) ks ≡ false
    rest-apart same = ap (λ (n : ℕ). list_any (λ (p : Pair). p.0.comp == n) ks) same ∙ apart

    by-set : c.id ≡ id → record_setting c.kind (control_at plan kept c.id) ≡ wanted q r
    by-set same = ap (record_setting c.kind) (ap (control_at plan kept) same ∙ set) ∙ set-is id q r c.kind (kind-is same)

    abbrev comp_by : Setting → Comp
    comp_by s = record { id = c.id; kind = c.kind; pipe = c.pipe; setting = s; ramp = c.ramp }

    pub put-comp : with_setting id (wanted q r) (comp_while plan kept ((with_kind id q, r) ∷ ks) c) ≡ comp_while plan kept ks c
    put-comp = ap (λ (h : Bool). cond (c.id == id) (comp_by (wanted q r)) (comp_by (cond (h || list_any (λ (p : Pair). p.0.comp == c.id) ks) (first c) (record_setting c.kind (control_at plan kept c.id))))) (eqb_turned id c.id) ∙ by (c.id == id) refl
      where
        by : (h : Bool) → (c.id == id) ≡ h → cond h (comp_by (wanted q r)) (comp_by (cond (h || list_any (λ (p : Pair). p.0.comp == c.id) ks) (first c) (record_setting c.kind (control_at plan kept c.id)))) ≡ comp_while plan kept ks c
        by true e = let same : c.id ≡ id = eqb-true c.id id e in ap comp_by (sym (by-set same)) ∙ ap (λ (h : Bool). comp_by (cond h (first c) (record_setting c.kind (control_at plan kept c.id)))) (sym (rest-apart same))
        by false e = refl

    pub kept-comp : ((w : WidgetPlan) (kind : Kind) → IsControlOf q kind → first_setting (component_words kind (Some (with_kind id q)) w) ≡ wanted q r) → comp_while plan kept ((with_kind id q, r) ∷ ks) c ≡ comp_while plan kept ks c
    kept-comp stays = ap (λ (h : Bool). comp_by (cond (h || list_any (λ (p : Pair). p.0.comp == c.id) ks) (first c) (record_setting c.kind (control_at plan kept c.id)))) (eqb_turned id c.id) ∙ by (c.id == id) refl
      where
        by : (h : Bool) → (c.id == id) ≡ h → comp_by (cond (h || list_any (λ (p : Pair). p.0.comp == c.id) ks) (first c) (record_setting c.kind (control_at plan kept c.id))) ≡ comp_while plan kept ks c
        by true e =
            let same : c.id ≡ id = eqb-true c.id id e in
            let now : first c ≡ wanted q r = ap (λ (o : Option ControlPlan). first_setting (component_words c.kind o (widget_words plan c.id))) (ap (control_of plan) same ∙ there) ∙ stays (widget_words plan c.id) c.kind (kind-is same) in
            ap comp_by (now ∙ sym (by-set same)) ∙ ap (λ (h : Bool). comp_by (cond h (first c) (record_setting c.kind (control_at plan kept c.id)))) (sym (rest-apart same))
        by false e = refl

-- the gains of a volume, where it takes so many
pub volume-new : (n : ℕ) (values : List ℕ) → length values ≡ n → AreGains values → new_setting kinds.Volume (settings.Gains (replicate n 65536)) 0 values ≡ Some (settings.Gains values)
volume-new n values same are =
    let long : length (replicate n 65536) ≡ n = length-replicate n 65536 in
    let lengths : (length values == length (replicate n 65536)) ≡ true = eq-eqb (length values) (length (replicate n 65536)) (same ∙ sym long) in
    ap (λ (h : Bool). cond h (Some (settings.Gains values)) None) (and_from (length values == length (replicate n 65536)) (list_all (λ v. nat_le v 16777216) values) lengths (gains-pass values are))
