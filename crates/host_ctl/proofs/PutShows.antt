-- An act on a control that the firmware takes leaves it showing what the record says then.
use Rattle.std.proofs.Common.{◌≡◌, refl, sym, ap, ◌∙◌, subst, ℕ, Bool, true, false, List, [], ◌∷◌, Option, Some, None, Ok, Err, map, length, ◌==◌, ◌&&◌, find, zip, get_or, option_map, option_and_then}
use Rattle.std.specs.Prelude.{if◌then◌else◌, not, nat_le}
use Rattle.std.specs.List.{list_all, AllByRecursion}
use Rattle.std.specs.Option.{option_map_or}
use Rattle.std.specs.Cmp.{nat_eq_equiv}
use Rattle.std.proofs.lemmas.Bool.{false≢true, eqb-true}
use Rattle.stream_law.specs.declared.graph.Kind.{Kind}
use Rattle.stream_law.specs.declared.graph.Kind.TheVariants as kinds
use Rattle.stream_law.specs.declared.graph.Setting.{Setting}
use Rattle.stream_law.specs.declared.graph.Setting.TheVariants as settings
use Rattle.stream_law.specs.declared.graph.Comp.{Comp}
use Rattle.stream_law.specs.State.{FwState, View, view_of}
use Rattle.stream_law.specs.Ways.{comp_of, is_of}
use Rattle.stream_law.specs.Seen.{seen, is_volume}
use Rattle.mbox_link.specs.Step as fw
use Rattle.mbox_link.specs.Step.{row, with_setting, with_setting_at, with_comps, no_device}
use Rattle.tplg_plan.specs.declared.plans.Plan.{Plan}
use Rattle.tplg_plan.specs.declared.plans.ControlPlan.{ControlPlan}
use Rattle.tplg_plan.specs.declared.plans.ControlKind.{ControlKind}
use Rattle.tplg_plan.specs.declared.plans.ControlKind.TheVariants as controls
use Rattle.tplg_plan.specs.GainOf.{control_gain}
use Rattle.tplg_plan.specs.Sound.{IsControlOf}
use Rattle.ipc3_model.specs.declared.message.Message.TheVariants.{SetValue}
use Rattle.host_widgets.specs.Controls.{control_of, eight_masks}
use Rattle.host_widgets.specs.declared.kept.Record.{Record}
use Rattle.host_widgets.specs.declared.kept.ControlRec.{ControlRec}
use Rattle.host_widgets.specs.Kept.{changed, control_at, with_control}
use Rattle.host_widgets.specs.HostActs.{Put, after, with_values}
use Rattle.host_widgets.specs.ActMessages.{act_message, set_message, put_message}
use Rattle.host_widgets.specs.ViewOf.{record_view, set_comp, record_setting}

-- ---- controls, by component

-- what is looked up after a change
module _ (comp : ℕ) (g : ControlRec → ControlRec) where
  abbrev Pair : Type 0
  Pair = ControlPlan × ControlRec

  abbrev changed_pair : Pair → Pair
  changed_pair p = (p.0, g p.1)

  abbrev rest : List ControlPlan → List ControlRec → List ControlRec
  rest ks cs = changed (λ (k : ControlPlan). k.comp) comp g ks cs

  pub there-at : (ks : List ControlPlan) (cs : List ControlRec) → find (λ p. p.0.comp == comp) (zip ks (rest ks cs)) ≡ option_map changed_pair (find (λ p. p.0.comp == comp) (zip ks cs))
  there-at [] cs = refl
  there-at (k ∷ ks) [] = refl
  there-at (k ∷ ks) (c ∷ cs) = by (k.comp == comp) (there-at ks cs)
    where
      by : (b : Bool) → find (λ p. p.0.comp == comp) (zip ks (rest ks cs)) ≡ option_map changed_pair (find (λ p. p.0.comp == comp) (zip ks cs)) →
          (if b then Some (k, (if b then g c else c)) else find (λ p. p.0.comp == comp) (zip ks (rest ks cs))) ≡ option_map changed_pair (if b then Some (k, c) else find (λ p. p.0.comp == comp) (zip ks cs))
      by true others = refl
      by false others = others

  pub elsewhere-at : (id : ℕ) → (id == comp) ≡ false → (ks : List ControlPlan) (cs : List ControlRec) → find (λ p. p.0.comp == id) (zip ks (rest ks cs)) ≡ find (λ p. p.0.comp == id) (zip ks cs)
  elsewhere-at id other [] cs = refl
  elsewhere-at id other (k ∷ ks) [] = refl
  elsewhere-at id other (k ∷ ks) (c ∷ cs) = by (k.comp == id) (k.comp == comp) (elsewhere-at id other ks cs) refl refl
    where
      by : (b d : Bool) → find (λ p. p.0.comp == id) (zip ks (rest ks cs)) ≡ find (λ p. p.0.comp == id) (zip ks cs) → (k.comp == id) ≡ b → (k.comp == comp) ≡ d →
          (if b then Some (k, (if d then g c else c)) else find (λ p. p.0.comp == id) (zip ks (rest ks cs))) ≡ (if b then Some (k, c) else find (λ p. p.0.comp == id) (zip ks cs))
      by true true others same hit = absurd (false≢true (sym other ∙ nat_eq_equiv.congr id k.comp comp (nat_eq_equiv.symm id k.comp ∙ same) ∙ hit))
      by true false others same hit = refl
      by false d others same hit = others

-- ---- components, by the setting of one

-- each component of this id is of this kind
abbrev pub AreKind : ℕ → Kind → List Comp → Type 0
AreKind comp kind comps = AllByRecursion (λ (c : Comp). (c.id == comp) ≡ true → c.kind ≡ kind) comps

module _ (plan : Plan) (kept : Record) (comp : ℕ) (g : ControlRec → ControlRec) (kind : Kind) (setting : Setting)
    (at : record_setting kind (control_at plan (with_control plan comp g kept) comp) ≡ setting) where
  abbrev now : Record
  now = with_control plan comp g kept

  one-set : (c : Comp) → ((c.id == comp) ≡ true → c.kind ≡ kind) → (b : Bool) → (c.id == comp) ≡ b → (if b then record (set_comp plan kept c) { setting = setting } else set_comp plan kept c) ≡ set_comp plan now c
  one-set c is_kind true same = λ i. record { id = c.id; kind = c.kind; pipe = c.pipe; setting = of_it i; ramp = c.ramp }
    where
      of_it : setting ≡ record_setting c.kind (control_at plan now c.id)
      of_it = sym at ∙ (λ i. record_setting (sym (is_kind same) i) (control_at plan now (same_id i)))
        where
          same_id : comp ≡ c.id
          same_id = sym (eqb-true c.id comp same)
  one-set c is_kind false other = λ i. record { id = c.id; kind = c.kind; pipe = c.pipe; setting = record_setting c.kind (sym (elsewhere-at comp g c.id other plan.controls kept.controls) i); ramp = c.ramp }

  pub all-set : (comps : List Comp) → AreKind comp kind comps → map (with_setting comp setting) (map (set_comp plan kept) comps) ≡ map (set_comp plan now) comps
  all-set [] are = refl
  all-set (c ∷ comps) are = λ i. one-set c are.0 (c.id == comp) refl i ∷ all-set comps are.1 i

-- ---- the row of values

volume-setting : (s : Setting) (vs : List ℕ) (setting : Setting) → fw.new_setting kinds.Volume s 0 vs ≡ Some setting → setting ≡ settings.Gains vs
volume-setting (settings.Gains gs) vs setting is = by (length vs == length gs && list_all (λ v. nat_le v 16777216) vs) is
  where
    by : (b : Bool) → (if b then Some (settings.Gains vs) else None) ≡ Some setting → setting ≡ settings.Gains vs
    by true is = let same : settings.Gains vs ≡ setting = cc is in sym same
    by false is = absurd (cc is)
volume-setting settings.Nothing vs setting is = absurd (cc is)
volume-setting other vs setting is = absurd (cc is)

mux-setting : (s : Setting) (vs : List ℕ) (setting : Setting) → fw.new_setting kinds.Mux s 1 vs ≡ Some setting → setting ≡ settings.Choice (get_or vs 0 0)
mux-setting s [] setting is = absurd (cc is)
mux-setting s (v ∷ []) setting is = let same : settings.Choice v ≡ setting = cc is in sym same
mux-setting s (v ∷ w ∷ vs) setting is = absurd (cc is)

demux-setting : (s : Setting) (vs : List ℕ) (setting : Setting) → fw.new_setting kinds.Demux s 2 vs ≡ Some setting → setting ≡ settings.Masks vs
demux-setting s vs setting is = by (length vs == 8 && list_all (λ v. nat_le v 255) vs) is
  where
    by : (b : Bool) → (if b then Some (settings.Masks vs) else None) ≡ Some setting → setting ≡ settings.Masks vs
    by true is = let same : settings.Masks vs ≡ setting = cc is in sym same
    by false is = absurd (cc is)

-- a state once values are in force at a component: at a volume a ramp begins, and of others all but the view is as it was
abbrev pub put_state : FwState → View → ℕ → Bool → FwState
put_state f v id volume = if volume then seen v (Some id) f else record f { graph = v.graph; streams = v.streams }

pub put_state-view : (f : FwState) (v : View) (id : ℕ) (volume : Bool) → view_of (put_state f v id volume) ≡ v
put_state-view f v id true = refl
put_state-view f v id false = refl

-- what a row of values that was done set
pub set-done : (used : Bool) (f f' : FwState) (id : ℕ) (o : Option Setting) → (if not used then Err no_device else fw.value_set f id o) ≡ Ok f' →
    (setting : Setting) × (o ≡ Some setting) × (f' ≡ put_state f (with_setting_at f id setting) id (is_of f.graph is_volume id))
set-done false f f' id o is = absurd (cc is)
set-done true f f' id None is = absurd (cc is)
set-done true f f' id (Some setting) is = (setting, refl, (let same : f' ≡ put_state f (with_setting_at f id setting) id (is_of f.graph is_volume id) = cc (sym is) in same))

-- the component of an id, with what the record sets
pub found-set : (plan : Plan) (kept : Record) (id : ℕ) (comps : List Comp) → find (λ (c : Comp). c.id == id) (map (set_comp plan kept) comps) ≡ option_map (set_comp plan kept) (find (λ (c : Comp). c.id == id) comps)
found-set plan kept id [] = refl
found-set plan kept id (c ∷ comps) = by (c.id == id) (found-set plan kept id comps)
  where
    by : (b : Bool) → find (λ (c : Comp). c.id == id) (map (set_comp plan kept) comps) ≡ option_map (set_comp plan kept) (find (λ (c : Comp). c.id == id) comps) →
        (if b then Some (set_comp plan kept c) else find (λ (c : Comp). c.id == id) (map (set_comp plan kept) comps)) ≡ option_map (set_comp plan kept) (if b then Some c else find (λ (c : Comp). c.id == id) comps)
    by true rest = refl
    by false rest = rest

module _ (plan : Plan) (kept : Record) (f f' : FwState) (shows : view_of f ≡ record_view plan kept) (comp : ℕ) (values : List ℕ) (x : Comp) (there : comp_of plan.graph comp ≡ Some x) where
  pub found : comp_of f.graph comp ≡ Some (set_comp plan kept x)
  found = ap (λ (v : View). comp_of v.graph comp) shows ∙ found-set plan kept comp plan.graph.comps ∙ ap (option_map (set_comp plan kept)) there

  abbrev pub now_put : Record
  now_put = after plan (Put comp values) kept

  -- it is a volume in the firmware where it is one in the plan
  volume-same : is_of f.graph is_volume comp ≡ is_of plan.graph is_volume comp
  volume-same =
      ap (λ (o : Option Comp). option_map_or (λ (c : Comp). is_volume c.kind) o false) found
      ∙ sym (ap (λ (o : Option Comp). option_map_or (λ (c : Comp). is_volume c.kind) o false) there)

  -- the firmware with what the record says then
  abbrev pub state_put : FwState
  state_put = put_state f (record_view plan now_put) comp (is_of plan.graph is_volume comp)

  put-by : (command : ℕ) (vs : List ℕ) (kind : Kind) (want : Setting) → AreKind comp kind plan.graph.comps → x.kind ≡ kind → record_setting kind (control_at plan now_put comp) ≡ want →
      ((s setting : Setting) → fw.new_setting kind s command vs ≡ Some setting → setting ≡ want) →
      row f (SetValue comp command vs) ≡ Ok f' → f' ≡ state_put
  put-by command vs kind want are kind_is at only done =
      let d = set-done (fw.is_used f.graph comp) f f' comp (option_and_then (λ (c : Comp). fw.new_setting c.kind c.setting command vs) (comp_of f.graph comp)) done in
      let s = (set_comp plan kept x).setting in
      let is : fw.new_setting x.kind s command vs ≡ Some d.0 = sym (ap (option_and_then (λ (c : Comp). fw.new_setting c.kind c.setting command vs)) found) ∙ d.1 in
      let want_is : d.0 ≡ want = only s d.0 (ap (λ (k : Kind). fw.new_setting k s command vs) (sym kind_is) ∙ is) in
      let view : with_setting_at f comp d.0 ≡ record_view plan now_put =
      (λ i. record { graph = with_comps (map (with_setting comp (want_is i)) (shows i).graph.comps) (shows i).graph; streams = (shows i).streams })
      ∙ (λ i. record { graph = with_comps (all-set plan kept comp (with_values values) kind want at plan.graph.comps are i) plan.graph; streams = (record_view plan kept).streams }) in
      d.2 ∙ (λ i. put_state f (view i) comp (volume-same i))

  -- the record of the control, once it has the values
  at-now : (kind : Kind) (k : ControlPlan) (c : ControlRec) → control_at plan kept comp ≡ Some (k, c) → record_setting kind (control_at plan now_put comp) ≡ record_setting kind (Some (k, with_values values c))
  at-now kind k c at = ap (record_setting kind) (there-at comp (with_values values) plan.controls kept.controls ∙ ap (option_map (changed_pair comp (with_values values))) at)

  -- values that the firmware takes are in force as the record says
  put-kind : (k : ControlKind) (c : ControlRec) → control_at plan kept comp ≡ Some (record { comp = comp; kind = k }, c) → AreKind comp x.kind plan.graph.comps → IsControlOf k x.kind →
      row f (set_message comp values k) ≡ Ok f' → f' ≡ state_put
  put-kind (controls.Volume min max channels lowest step mute) c at are live done =
      let k : ControlKind = controls.Volume min max channels lowest step mute in
      put-by 0 (map (control_gain k) values) kinds.Volume (settings.Gains (map (control_gain k) values))
      (subst (λ (kind : Kind). AreKind comp kind plan.graph.comps) live.0 are) live.0 (at-now kinds.Volume (record { comp = comp; kind = k }) c at)
      (λ s setting is. volume-setting s (map (control_gain k) values) setting is) done
  put-kind (controls.Choice items) c at are live done =
      put-by 1 values kinds.Mux (settings.Choice (get_or values 0 0))
      (subst (λ (kind : Kind). AreKind comp kind plan.graph.comps) live.0 are) live.0 (at-now kinds.Mux (record { comp = comp; kind = controls.Choice items }) c at)
      (λ s setting is. mux-setting s values setting is) done
  put-kind (controls.Masks min max channels) c at are live done =
      put-by 2 (eight_masks values) kinds.Demux (settings.Masks (eight_masks values))
      (subst (λ (kind : Kind). AreKind comp kind plan.graph.comps) live.0 are) live.0 (at-now kinds.Demux (record { comp = comp; kind = controls.Masks min max channels }) c at)
      (λ s setting is. demux-setting s (eight_masks values) setting is) done
  put-kind (controls.Blob most initial) c at are live done =
      put-by 0 (map (control_gain (controls.Blob most initial)) values) kinds.Eq (record_setting kinds.Eq (control_at plan now_put comp))
      (subst (λ (kind : Kind). AreKind comp kind plan.graph.comps) live.0 are) live.0 refl (λ s setting is. absurd (cc is)) done

  pub put-made : (k : ControlKind) (c : ControlRec) → control_at plan kept comp ≡ Some (record { comp = comp; kind = k }, c) → control_of plan comp ≡ Some (record { comp = comp; kind = k }) →
      AreKind comp x.kind plan.graph.comps → IsControlOf k x.kind → row f (act_message plan (Put comp values)) ≡ Ok f' → f' ≡ state_put
  put-made k c at of are live done = put-kind k c at are live (ap (λ (o : Option ControlPlan). row f (put_message comp values o)) (sym of) ∙ done)

  -- and shown so
  pub put-shows : (k : ControlKind) (c : ControlRec) → control_at plan kept comp ≡ Some (record { comp = comp; kind = k }, c) → control_of plan comp ≡ Some (record { comp = comp; kind = k }) →
      AreKind comp x.kind plan.graph.comps → IsControlOf k x.kind → row f (act_message plan (Put comp values)) ≡ Ok f' → view_of f' ≡ record_view plan now_put
  put-shows k c at of are live done = ap view_of (put-made k c at of are live done) ∙ put_state-view f (record_view plan now_put) comp (is_of plan.graph is_volume comp)
