-- What is staged while acts make pipelines: parts of a blob alone, and nothing once its last part has come.
use Rattle.std.proofs.Common.{◌≡◌, refl, sym, ap, subst, ◌∙◌, ℕ, zero, suc, ◌+◌, ◌<◌, List, [], ◌∷◌, ◌++◌, map, Bool, true, false, cond, not, ◌==◌, arith}
use Rattle.std.specs.Prelude.{Option, Some, None, option_and_then}
use Rattle.std.specs.List.{range_with_len, AllByRecursion}
use Rattle.std.proofs.lemmas.Bool.{eq-eqb}
use Rattle.sof_base.specs.BlobFaults.{is_blob}
use Rattle.sof_base.specs.declared.part.Part.{Part as Carried}
use Rattle.stream_law.specs.declared.graph.Comp.{Comp}
use Rattle.stream_law.specs.declared.graph.Setting.{Setting}
use Rattle.stream_law.specs.State.{FwState, Staging}
use Rattle.stream_law.specs.Placed.{placed}
use Rattle.stream_law.specs.Seen.{is_volume, seen}
use Rattle.stream_law.specs.Ways.{comp_of, is_of}
use Rattle.ipc3_model.specs.declared.message.Message.{Message}
use Rattle.ipc3_model.specs.declared.message.Message.TheVariants as messages
use Rattle.mbox_link.specs.BlobParts.{blob_part, parts}
use Rattle.mbox_link.specs.Step.{blob_installed, new_setting, staged_bytes, staging_at, unstaged, with_setting_at, with_staged}
use Rattle.tplg_plan.specs.Ranges.{is_initial}
use Rattle.tplg_plan.specs.declared.plans.ControlKind.{ControlKind}
use Rattle.tplg_plan.specs.declared.plans.ControlKind.TheVariants.{Volume, Choice, Blob, Masks}
use Rattle.host_widgets.specs.declared.kept.ControlRec.{ControlRec}
use Rattle.host_widgets.specs.ActLists.{control_acts_by, part_acts}
use Rattle.host_widgets.specs.HostActs.{Act, Part}
use Rattle.host_widgets.proofs.ControlLists.{Takes}
use Rattle.host_widgets.proofs.Effects.{effect, value_effect}
use Rattle.host_widgets.proofs.PartFacts.{more-behind, none-left}
use Rattle.host_widgets.proofs.RowsThere.{IsNoPart}

-- ---- blobs come whole

-- another part for this equaliser comes next
abbrev pub GoesOn : ℕ → List Act → Type 0
GoesOn id (Part x blob k ∷ acts) = x ≡ id
GoesOn id acts = ⊥

-- so it is after each part that is not the last
abbrev pub ArePartsWhole : List Act → Type 0
ArePartsWhole [] = Unit {0}
ArePartsWhole (Part id blob k ∷ acts) = (((blob_part blob k).remaining == 0) ≡ false → GoesOn id acts) × ArePartsWhole acts
ArePartsWhole (act ∷ acts) = ArePartsWhole acts

-- all parts of a blob
parts-whole : (id : ℕ) (blob : List ℕ) → is_blob blob ≡ true → (n k : ℕ) → k + n ≡ parts blob → (rest : List Act) → ArePartsWhole rest → ArePartsWhole (map (Part id blob) (range_with_len k n) ++ rest)
parts-whole id blob is zero k all rest whole = whole
parts-whole id blob is (suc n) k all rest whole = (next n all, parts-whole id blob is n (k + 1) (omega (arith, all)) rest whole)
  where
    next : (n : ℕ) → k + suc n ≡ parts blob → ((blob_part blob k).remaining == 0) ≡ false → GoesOn id (map (Part id blob) (range_with_len (k + 1) n) ++ rest)
    next zero all more =
        let low : k < parts blob = omega (arith, all) in
        let later = (more-behind blob is k low (sym (none-left blob is k low) ∙ more)).0 in absurd (omega (arith, all, later))
    next (suc n) all more = refl

pub control-whole : (id : ℕ) (kind : ControlKind) (r : ControlRec) → Takes kind r → (rest : List Act) → ArePartsWhole rest → ArePartsWhole (control_acts_by id kind r ++ rest)
control-whole id (Volume min max channels lowest step mute) r takes rest whole = whole
control-whole id (Choice items) r takes rest whole = whole
control-whole id (Masks min max channels) r takes rest whole = whole
control-whole id (Blob most initial) r takes rest whole = by r.blob takes
  where
    by : (blob : List ℕ) → is_initial blob ≡ true → ArePartsWhole (part_acts id blob ++ rest)
    by [] is = whole
    by (b ∷ bytes) is = parts-whole id (b ∷ bytes) is (parts (b ∷ bytes)) 0 (omega arith) rest whole

-- ---- what is staged

-- before these acts: parts for the equaliser of the first of them alone
abbrev pub IsLoose : List Act → List Staging → Type 0
IsLoose (Part id blob k ∷ acts) ss = AllByRecursion (λ (s : Staging). s.eq ≡ id) ss
IsLoose acts ss = ss ≡ []

pub none-loose : (acts : List Act) → IsLoose acts []
none-loose (Part id blob k ∷ acts) = tt
none-loose acts = refl

one-loose : (id : ℕ) (acts : List Act) (s : Staging) → s.eq ≡ id → GoesOn id acts → IsLoose acts (s ∷ [])
one-loose id (Part x blob k ∷ acts) s same on = (same ∙ sym on, tt)
one-loose id acts s same on = absurd on

unstaged-none : (id : ℕ) (ss : List Staging) → AllByRecursion (λ (s : Staging). s.eq ≡ id) ss → unstaged id ss ≡ []
unstaged-none id [] all = refl
unstaged-none id (s ∷ ss) all = ap (λ (b : Bool). cond (not b) (s ∷ unstaged id ss) (unstaged id ss)) (eq-eqb s.eq id all.0) ∙ unstaged-none id ss all.1

-- after a part
pub part-loose : (id : ℕ) (blob : List ℕ) (k : ℕ) (acts : List Act) (f : FwState) → ArePartsWhole (Part id blob k ∷ acts) → IsLoose (Part id blob k ∷ acts) f.staging → IsLoose acts (effect (messages.SetData id (blob_part blob k)) f).staging
part-loose id blob k acts f whole loose = by ((blob_part blob k).remaining == 0) refl
  where
    part : Carried
    part = blob_part blob k

    staged : Staging
    staged = record { eq = id; bytes = staged_bytes (staging_at f id) part; next = part.index + 1; remaining = part.remaining }

    bytes : List ℕ
    bytes = staged_bytes (staging_at f id) part

    by : (b : Bool) → (part.remaining == 0) ≡ b → IsLoose acts (cond b (blob_installed id bytes f) (with_staged id bytes part f)).staging
    by true e = subst (IsLoose acts) (sym (unstaged-none id f.staging loose)) (none-loose acts)
    by false e = subst (λ (ss : List Staging). IsLoose acts (placed (λ (s : Staging). s.eq) staged ss)) (sym (unstaged-none id f.staging loose)) (one-loose id acts staged refl (whole.0 e))

-- any other message leaves it
value-stays : (id : ℕ) (o : Option Setting) (f : FwState) → (value_effect id o f).staging ≡ f.staging
value-stays id None f = refl
value-stays id (Some setting) f = by (is_of f.graph is_volume id)
  where
    by : (b : Bool) → (cond b (seen (with_setting_at f id setting) (Some id) f) (record f { graph = (with_setting_at f id setting).graph })).staging ≡ f.staging
    by true = refl
    by false = refl

pub other-loose : (m : Message) → IsNoPart m → (acts : List Act) (f : FwState) → f.staging ≡ [] → IsLoose acts (effect m f).staging
other-loose m no_part acts f none = subst (IsLoose acts) (sym (stays m no_part ∙ none)) (none-loose acts)
  where
    stays : (m : Message) → IsNoPart m → (effect m f).staging ≡ f.staging
    stays (messages.SetValue id command values) no_part = value-stays id (option_and_then (λ (c : Comp). new_setting c.kind c.setting command values) (comp_of f.graph id)) f
    stays (messages.SetData id part) no_part = absurd no_part
    stays m no_part = refl
