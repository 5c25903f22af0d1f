-- What a message that sets something leaves of a schedule's steps.
use Rattle.std.proofs.Common.{◌≡◌, refl, sym, ap, ◌∙◌, subst, ℕ, List, map, Bool, true, false, cond, not, ◌==◌, ◌||◌, Option, Some, None, Result, Ok, Err, ℤ, option_map}
use Rattle.std.proofs.lemmas.Bool.{false≢true}
use Rattle.std.specs.Prelude.{option_and_then}
use Rattle.sof_base.specs.declared.part.Part.{Part}
use Rattle.sof_base.specs.BlobFaults.{is_blob}
use Rattle.stream_law.specs.declared.graph.Comp.{Comp}
use Rattle.stream_law.specs.declared.graph.Setting.{Setting}
use Rattle.stream_law.specs.declared.graph.Setting.TheVariants.{Blob}
use Rattle.stream_law.specs.State.{FwState, View, view_of}
use Rattle.stream_law.specs.Ways.{comp_of, is_of}
use Rattle.stream_law.specs.Seen.{seen, is_volume, is_equaliser}
use Rattle.stream_law.specs.Stays.{SameWays}
use Rattle.ipc3_model.specs.declared.message.Message.{Message}
use Rattle.ipc3_model.specs.declared.message.Message.TheVariants.{SetValue, SetData, CtxSave}
use Rattle.ipc3_model.specs.declared.fault.CodecFault.{CodecFault}
use Rattle.mbox_link.specs.Step as rows
use Rattle.row_laws.proofs.Settings.{ids-set, comp-set, kind-set}
use Rattle.fw_schedule.proofs.ScheduleLaws.{KeepsSteps}
use Rattle.fw_core.specs.Unchanged.{keeps_steps}
use Rattle.fw_core.proofs.RowLaws.{pass, same-ok}

keeps-all : (v : View) → KeepsSteps v v
keeps-all v = record { ways = record { joins = refl; edges = refl; ids = refl; kinds = λ c. refl }; pipes = refl; homes = λ c. refl; streams = refl }

-- a setting is of no way
keeps-set : (v : View) (id : ℕ) (setting : Setting) → KeepsSteps v (record { graph = rows.with_comps (map (rows.with_setting id setting) v.graph.comps) v.graph; streams = v.streams })
keeps-set v id setting = record {
  ways = record { joins = refl; edges = refl; ids = sym (ids-set id setting v.graph.comps); kinds = λ c. sym (kind-set id setting v.graph c) };
  pipes = refl;
  homes = λ c. sym (ap (λ (o : Option Comp). option_map (λ x. x.pipe) o) (comp-set id setting v.graph c) ∙ home (comp_of v.graph c));
  streams = refl;
}
  where
    home : (o : Option Comp) → option_map (λ x. x.pipe) (option_map (rows.with_setting id setting) o) ≡ option_map (λ x. x.pipe) o
    home None = refl
    home (Some c) = by (c.id == id)
      where
        by : (h : Bool) → Some (cond h (record c { setting = setting }) c).pipe ≡ Some c.pipe
        by true = refl
        by false = refl

keeps-value : (f g : FwState) (id : ℕ) (o : Option Setting) → rows.value_set f id o ≡ Ok g → KeepsSteps (view_of f) (view_of g)
keeps-value f g id None is = absurd (cc is)
keeps-value f g id (Some setting) is = by (is_of f.graph is_volume id) is
  where
    by : (h : Bool) → ◌≡◌ {A = Result FwState ℤ} (Ok (cond h (seen (rows.with_setting_at f id setting) (Some id) f) (record f { graph = (rows.with_setting_at f id setting).graph }))) (Ok g) → KeepsSteps (view_of f) (view_of g)
    by true e = subst (λ (h : FwState). KeepsSteps (view_of f) (view_of h)) (same-ok (seen (rows.with_setting_at f id setting) (Some id) f) g e) (keeps-set (view_of f) id setting)
    by false e = subst (λ (h : FwState). KeepsSteps (view_of f) (view_of h)) (same-ok (record f { graph = (rows.with_setting_at f id setting).graph }) g e) (keeps-set (view_of f) id setting)

keeps-staged : (f g : FwState) (id : ℕ) (bytes : List ℕ) (part : Part) → rows.part_staged f id bytes part ≡ Ok g → KeepsSteps (view_of f) (view_of g)
keeps-staged f g id bytes part is = by (not (part.remaining == 0)) (not (is_blob bytes)) is
  where
    by : (h k : Bool) → cond h (Ok (rows.with_staged id bytes part f)) (cond k (Err rows.invalid) (Ok (rows.blob_installed id bytes f))) ≡ Ok g → KeepsSteps (view_of f) (view_of g)
    by true k e = subst (λ (h : FwState). KeepsSteps (view_of f) (view_of h)) (same-ok (rows.with_staged id bytes part f) g e) (keeps-all (view_of f))
    by false true e = absurd (cc e)
    by false false e = subst (λ (h : FwState). KeepsSteps (view_of f) (view_of h)) (same-ok (rows.blob_installed id bytes f) g e) (keeps-set (view_of f) id (Blob bytes))

keeps-message : (f g : FwState) (m : Message) → keeps_steps (Ok m) ≡ true → rows.row f m ≡ Ok g → KeepsSteps (view_of f) (view_of g)
keeps-message f g (SetValue id command values) sets is =
    let o = option_and_then (λ c. rows.new_setting c.kind c.setting command values) (comp_of f.graph id) in
    keeps-value f g id o (pass (not (rows.is_used f.graph id)) rows.no_device (rows.value_set f id o) g is)
keeps-message f g (SetData id part) sets is =
    let bytes = rows.staged_bytes (rows.staging_at f id) part in
    let wrong = not (rows.has_kind is_equaliser (rows.kind_at f.graph id)) || not (rows.keeps_order (rows.staging_at f id) part) in
    keeps-staged f g id bytes part
    (pass wrong rows.invalid (rows.part_staged f id bytes part) g
    (pass (not (rows.is_used f.graph id)) rows.no_device (cond wrong (Err rows.invalid) (rows.part_staged f id bytes part)) g is))
keeps-message f g CtxSave sets is = subst (λ (h : FwState). KeepsSteps (view_of f) (view_of h)) (same-ok f g is) (keeps-all (view_of f))
keeps-message f g m sets is = absurd (false≢true sets)

-- a message that changes at most what is set leaves what steps are made of
pub keeps-row : (f g : FwState) (d : Result Message CodecFault) → keeps_steps d ≡ true → rows.row_of f d ≡ Ok g → KeepsSteps (view_of f) (view_of g)
keeps-row f g (Ok m) sets is = keeps-message f g m sets is
keeps-row f g (Err fault) sets is = absurd (false≢true sets)
