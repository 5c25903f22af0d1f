-- The firmware's answer to values that are put at a control, and to one that asks for them, by the record that it shows.
use Rattle.std.proofs.Common.{◌≡◌, refl, sym, ap, subst, ◌∙◌, ℕ, ◌≤◌, Bool, true, not, cond, List, [], ◌∷◌, map, length, get_or, Option, Some, None, Ok, Err, ◌==◌, ◌||◌, arith}
use Rattle.std.specs.Prelude.{nat_le, option_and_then, is_some}
use Rattle.std.specs.List.{list_all}
use Rattle.std.proofs.lemmas.Bool.{eq-eqb, or_left, and_from}
use Rattle.std.proofs.lemmas.List.{length-map}
use Rattle.stream_law.specs.declared.graph.Comp.{Comp}
use Rattle.stream_law.specs.declared.graph.Graph.{Graph}
use Rattle.stream_law.specs.declared.graph.Kind.{Kind}
use Rattle.stream_law.specs.declared.graph.Kind.TheVariants as kinds
use Rattle.stream_law.specs.declared.graph.Setting.{Setting}
use Rattle.stream_law.specs.declared.graph.Setting.TheVariants as settings
use Rattle.stream_law.specs.State.{FwState}
use Rattle.stream_law.specs.Ways.{comp_of, is_of}
use Rattle.stream_law.specs.Seen.{is_volume}
use Rattle.ipc3_model.specs.declared.message.Message.TheVariants.{SetValue, GetValue}
use Rattle.mbox_link.specs.Step as fw
use Rattle.mbox_link.specs.Step.{row, is_used, has_comp, has_edge, has_pipe, with_setting_at, no_device, invalid}
use Rattle.tplg_plan.specs.declared.plans.ControlPlan.{ControlPlan}
use Rattle.tplg_plan.specs.declared.plans.ControlKind.{ControlKind}
use Rattle.tplg_plan.specs.declared.plans.ControlKind.TheVariants.{Volume, Choice, Blob, Masks}
use Rattle.tplg_plan.specs.GainOf.{control_gain}
use Rattle.tplg_plan.specs.Sound.{IsControlOf}
use Rattle.host_widgets.specs.declared.answers.Answer.TheVariants as answers
use Rattle.host_widgets.specs.declared.kept.ControlRec.{ControlRec}
use Rattle.host_widgets.specs.ActMessages.{set_message}
use Rattle.host_widgets.specs.ViewOf.{record_setting}
use Rattle.host_widgets.proofs.ControlLists.{takes-by}
use Rattle.host_widgets.proofs.GreatestGains.{AreGains, gains-are, gains-pass}
use Rattle.host_widgets.proofs.EightMasks.{is_mask, eight, few-masks, masks-few, ranged-masks}
use Rattle.host_widgets.specs.Controls.{eight_masks}
use Rattle.host_widgets.proofs.LookedUp.{any-found}
use Rattle.host_widgets.proofs.PartFacts.{none-empty}
use Rattle.host_ctl.specs.ControlOrders.{control_answer}
use Rattle.host_ctl.specs.ControlAnswers.{MaySet, value_command, setting_answer}
use Rattle.host_ctl.proofs.ControlsThere.{Was}
use Rattle.host_ctl.proofs.PutShows.{put_state}

-- a control of an id
abbrev pub control : ℕ → ControlKind → ControlPlan
control id q = record { comp = id; kind = q }

pub used-comp : (g : Graph) (id : ℕ) (x : Comp) → comp_of g id ≡ Some x → is_used g id ≡ true
used-comp g id x there = or_left (has_comp g id || has_edge g id) (has_pipe g id) (or_left (has_comp g id) (has_edge g id) (any-found (λ (c : Comp). c.id == id) g.comps x there))

-- what is read of a volume, a mux or a demux
abbrev pub values_by : ControlRec → ControlKind → List ℕ
values_by c (Volume min max channels lowest step mute) = map (control_gain (Volume min max channels lowest step mute)) c.values
values_by c (Choice items) = c.values
values_by c (Blob most initial) = []
values_by c (Masks min max channels) = eight_masks c.values

-- ---- SET_VALUE

-- values that a component takes are set
set-answers : (f : FwState) (id command : ℕ) (vs : List ℕ) (x : Comp) (s : Setting) → comp_of f.graph id ≡ Some x → fw.new_setting x.kind x.setting command vs ≡ Some s →
    row f (SetValue id command vs) ≡ Ok (put_state f (with_setting_at f id s) id (is_of f.graph is_volume id))
set-answers f id command vs x s there new =
    by (is_used f.graph id) (option_and_then (λ (c : Comp). fw.new_setting c.kind c.setting command vs) (comp_of f.graph id)) (used-comp f.graph id x there)
    (ap (option_and_then (λ (c : Comp). fw.new_setting c.kind c.setting command vs)) there ∙ new)
  where
    by : (b : Bool) (o : Option Setting) → b ≡ true → o ≡ Some s → cond (not b) (Err no_device) (fw.value_set f id o) ≡ Ok (put_state f (with_setting_at f id s) id (is_of f.graph is_volume id))
    by b o used is = rw (used, is) refl

pub gains-new : (gs vs : List ℕ) → length vs ≡ length gs → AreGains vs → fw.new_setting kinds.Volume (settings.Gains gs) 0 vs ≡ Some (settings.Gains vs)
gains-new gs vs same are =
    ap (λ (h : Bool). cond h (Some (settings.Gains vs)) None)
    (and_from (length vs == length gs) (list_all (λ v. nat_le v 16777216) vs) (eq-eqb (length vs) (length gs) same) (gains-pass vs are))

module _ (f : FwState) (id : ℕ) (x : Comp) (there : comp_of f.graph id ≡ Some x) (c : ControlRec) where
  -- the component of a control that the record is of
  abbrev Shown : ControlKind → Type 0
  Shown q = IsControlOf q x.kind × (x.setting ≡ record_setting x.kind (Some (control id q, c))) × Was (control id q) c

  -- values that may be set are taken
  pub put-answers : (q : ControlKind) (values : List ℕ) → Shown q → MaySet q values → (next : FwState) × (row f (set_message id values q) ≡ Ok next)
  put-answers (Volume min max channels lowest step mute) values (of, is, was) may = (_, set-answers f id 0 gains x (settings.Gains gains) there new)
    where
      q : ControlKind
      q = Volume min max channels lowest step mute

      gains : List ℕ
      gains = map (control_gain q) values

      old : List ℕ
      old = map (control_gain q) c.values

      long : length gains ≡ length old
      long = length-map values (control_gain q) ∙ (may [] refl).0 ∙ sym (takes-by q x.kind c of was) ∙ sym (length-map c.values (control_gain q))

      new : fw.new_setting x.kind x.setting 0 gains ≡ Some (settings.Gains gains)
      new =
          ap (λ (s : Setting). fw.new_setting x.kind s 0 gains) is
          ∙ ap (λ (kind : Kind). fw.new_setting kind (record_setting kind (Some (control id q, c))) 0 gains) of.0
          ∙ gains-new old gains long (gains-are q values)
  put-answers (Choice items) values (of, is, was) may =
      let v = (may [] refl).0 in
      let one : values ≡ v ∷ [] = (may [] refl).1 in (
        _,
        set-answers f id 1 values x (settings.Choice v) there
            (ap (λ (kind : Kind). fw.new_setting kind x.setting 1 values) of.0 ∙ ap (λ (vs : List ℕ). fw.new_setting kinds.Mux x.setting 1 vs) one),
      )
  put-answers (Blob most initial) values shown may = absurd (none-empty (may [] refl).2)
  put-answers (Masks min max channels) values (of, is, was) may =
      let few : list_all is_mask (eight_masks values) ≡ true = few-masks values (ranged-masks min max of.2 values (may [] refl).1) in (
        _,
        set-answers f id 2 (eight_masks values) x (settings.Masks (eight_masks values)) there
            (ap (λ (kind : Kind). fw.new_setting kind x.setting 2 (eight_masks values)) of.0
            ∙ ap (λ (h : Bool). cond h (Some (settings.Masks (eight_masks values))) None)
            (and_from (length (eight_masks values) == 8) (list_all is_mask (eight_masks values)) (eq-eqb (length (eight_masks values)) 8 (eight values)) few)),
      )

  -- ---- GET_VALUE

  read-by : (command : ℕ) (vs : List ℕ) → fw.control_values x.kind x.setting command ≡ Some vs → fw.control_values_at f.graph id command ≡ Some vs
  read-by command vs is = ap (option_and_then (λ (c : Comp). fw.control_values c.kind c.setting command)) there ∙ is

  one-value : (values : List ℕ) → (v : ℕ) × (values ≡ v ∷ []) × (v ≤ 16777216) → get_or values 0 0 ∷ [] ≡ values
  one-value values (v, is, low) = ap (λ (vs : List ℕ). get_or vs 0 0 ∷ []) is ∙ sym is

  pub values-at : (q : ControlKind) (command : ℕ) → Shown q → value_command q ≡ Some command → fw.control_values_at f.graph id command ≡ Some (values_by c q)
  values-at (Volume min max channels lowest step mute) command (of, is, was) at =
      let zero_is : 0 ≡ command = cc at in
      let q : ControlKind = Volume min max channels lowest step mute in
      subst (λ (n : ℕ). fw.control_values_at f.graph id n ≡ Some (values_by c q)) zero_is
      (read-by 0 (values_by c q) (ap (λ (s : Setting). fw.control_values x.kind s 0) is ∙ ap (λ (kind : Kind). fw.control_values kind (record_setting kind (Some (control id q, c))) 0) of.0))
  values-at (Choice items) command (of, is, was) at =
      let one_is : 1 ≡ command = cc at in
      subst (λ (n : ℕ). fw.control_values_at f.graph id n ≡ Some c.values) one_is
      (read-by 1 c.values
      (ap (λ (s : Setting). fw.control_values x.kind s 1) is ∙ ap (λ (kind : Kind). fw.control_values kind (record_setting kind (Some (control id (Choice items), c))) 1) of.0 ∙ ap Some (one-value c.values (takes-by (Choice items) x.kind c of was))))
  values-at (Blob most initial) command shown at = absurd (cc at)
  values-at (Masks min max channels) command (of, is, was) at =
      let two_is : 2 ≡ command = cc at in
      let q : ControlKind = Masks min max channels in
      subst (λ (n : ℕ). fw.control_values_at f.graph id n ≡ Some (values_by c q)) two_is
      (read-by 2 (values_by c q) (ap (λ (s : Setting). fw.control_values x.kind s 2) is ∙ ap (λ (kind : Kind). fw.control_values kind (record_setting kind (Some (control id q, c))) 2) of.0))

  -- one that asks leaves the state
  pub asked-answers : (command : ℕ) (vs : List ℕ) → fw.control_values_at f.graph id command ≡ Some vs → row f (GetValue id command) ≡ Ok f
  asked-answers command vs at = by (is_used f.graph id) (fw.control_values_at f.graph id command) (used-comp f.graph id x there) at
    where
      by : (b : Bool) (o : Option (List ℕ)) → b ≡ true → o ≡ Some vs → cond (not b) (Err no_device) (cond (not (is_some o)) (Err invalid) (Ok f)) ≡ Ok f
      by b o used is = rw (used, is) refl

  -- the values are gains, choices or masks, as many as a reply takes
  pub values-fit : (q : ControlKind) (command : ℕ) → Shown q → value_command q ≡ Some command → AreGains (values_by c q) × (1 ≤ length (values_by c q)) × (length (values_by c q) ≤ 8)
  values-fit (Volume min max channels lowest step mute) command (of, is, was) at =
      let q : ControlKind = Volume min max channels lowest step mute in
      let long : length (values_by c q) ≡ channels = length-map c.values (control_gain q) ∙ takes-by q x.kind c of was in
      (gains-are q c.values, omega (arith, long, of.3), omega (arith, long, of.4))
  values-fit (Choice items) command (of, is, was) at =
      let t = takes-by (Choice items) x.kind c of was in
      let long : length c.values ≡ 1 = ap length t.1 in
      (subst AreGains (sym t.1) (t.2, tt), omega (arith, long), omega (arith, long))
  values-fit (Blob most initial) command shown at = absurd (cc at)
  values-fit (Masks min max channels) command (of, is, was) at =
      let long : length (eight_masks c.values) ≡ 8 = eight c.values in
      (masks-few (eight_masks c.values) (few-masks c.values (takes-by (Masks min max channels) x.kind c of was)), omega (arith, long), omega (arith, long))

  -- what is set there is what is said of it
  pub set-said : (q : ControlKind) → Shown q → setting_answer x.setting ≡ control_answer q c
  set-said (Choice items) (of, is, was) =
      ap setting_answer (is ∙ ap (λ (kind : Kind). record_setting kind (Some (control id (Choice items), c))) of.0)
      ∙ ap answers.Values (one-value c.values (takes-by (Choice items) x.kind c of was))
  set-said q (of, is, was) = ap setting_answer (is ∙ ap (λ (kind : Kind). record_setting kind (Some (control id q, c))) of.0)
