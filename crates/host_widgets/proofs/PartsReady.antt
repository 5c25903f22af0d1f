-- Each part of a blob finds staged those before it, whatever was staged before the first.
use Rattle.std.proofs.Common.{◌≡◌, refl, sym, ap, subst, ◌∙◌, ℕ, zero, suc, ◌+◌, ◌<◌, Bool, true, false, not, cond, ◌==◌, ◌||◌, List, map, Ok, Err, arith}
use Rattle.std.specs.Prelude.{find}
use Rattle.std.specs.List.{range_with_len}
use Rattle.sof_base.specs.BlobFaults.{is_blob}
use Rattle.sof_base.specs.declared.part.Part.{Part as Carried}
use Rattle.stream_law.specs.State.{FwState, Staging}
use Rattle.stream_law.specs.Seen.{is_equaliser}
use Rattle.ipc3_model.specs.declared.message.Message.TheVariants.{SetData}
use Rattle.mbox_link.specs.BlobParts.{blob_part, is_last, parts}
use Rattle.mbox_link.specs.Step.{row, is_used, has_kind, kind_at, staging_at, keeps_order, staged_bytes, part_staged, with_staged, blob_installed, no_device, invalid}
use Rattle.tplg_plan.specs.declared.plans.Plan.{Plan}
use Rattle.host_widgets.specs.HostActs.{Part}
use Rattle.host_widgets.specs.ActLists.{part_acts}
use Rattle.host_widgets.proofs.OneActLaws.{AreReady}
use Rattle.host_widgets.proofs.PartFacts.{front, last-front, none-behind, none-left}
use Rattle.host_widgets.proofs.PartRows.{HasStaged, bytes-so-far, part_effect, staged-then}

-- what a row that was done made of the state
pub part-took : (id : ℕ) (p : Carried) (f f' : FwState) → row f (SetData id p) ≡ Ok f' → f' ≡ part_effect id (staged_bytes (staging_at f id) p) p f
part-took id p f f' is = by (is_used f.graph id) (has_kind is_equaliser (kind_at f.graph id)) (keeps_order (staging_at f id) p) is
  where
    bytes : List ℕ
    bytes = staged_bytes (staging_at f id) p

    staged : (b c : Bool) → cond (not b) (Ok (with_staged id bytes p f)) (cond (not c) (Err invalid) (Ok (blob_installed id bytes f))) ≡ Ok f' → f' ≡ cond b (blob_installed id bytes f) (with_staged id bytes p f)
    staged true true is = cc (sym is)
    staged true false is = absurd (cc is)
    staged false c is = cc (sym is)

    by : (a b c : Bool) → cond (not a) (Err no_device) (cond (not b || not c) (Err invalid) (part_staged f id bytes p)) ≡ Ok f' → f' ≡ part_effect id bytes p f
    by false b c is = absurd (cc is)
    by true false c is = absurd (cc is)
    by true true false is = absurd (cc is)
    by true true true is = staged (p.remaining == 0) (is_blob bytes) is

module _ (id : ℕ) (blob : List ℕ) (is : is_blob blob ≡ true) where
  -- of a part of the blob
  pub part-made : (k : ℕ) (low : k < parts blob) (f f' : FwState) → HasStaged id blob k f → row f (SetData id (blob_part blob k)) ≡ Ok f' → f' ≡ cond (is_last blob k) (blob_installed id (front blob (k + 1)) f) (with_staged id (front blob (k + 1)) (blob_part blob k) f)
  part-made k low f f' staged done =
      part-took id (blob_part blob k) f f' done
      ∙ ap (λ (bytes : List ℕ). part_effect id bytes (blob_part blob k) f) (bytes-so-far id blob is k low f staged)
      ∙ ap (λ (b : Bool). cond b (blob_installed id (front blob (k + 1)) f) (with_staged id (front blob (k + 1)) (blob_part blob k) f)) (none-left blob is k low)

  pub made-more : (k : ℕ) (low : k < parts blob) (f f' : FwState) → HasStaged id blob k f → is_last blob k ≡ false → row f (SetData id (blob_part blob k)) ≡ Ok f' → f' ≡ with_staged id (front blob (k + 1)) (blob_part blob k) f
  made-more k low f f' staged more done = part-made k low f f' staged done ∙ ap (λ (b : Bool). cond b (blob_installed id (front blob (k + 1)) f) (with_staged id (front blob (k + 1)) (blob_part blob k) f)) more

  pub made-last : (k : ℕ) (low : k < parts blob) (f f' : FwState) → HasStaged id blob k f → is_last blob k ≡ true → row f (SetData id (blob_part blob k)) ≡ Ok f' → f' ≡ blob_installed id blob f
  made-last k low f f' staged last done =
      part-made k low f f' staged done ∙ ap (λ (b : Bool). cond b (blob_installed id (front blob (k + 1)) f) (with_staged id (front blob (k + 1)) (blob_part blob k) f)) last
      ∙ ap (λ (bytes : List ℕ). blob_installed id bytes f) (last-front blob is k low last)

  module _ (plan : Plan) where
    ready-from : (n k : ℕ) → k + n ≡ parts blob → (f : FwState) → HasStaged id blob k f → AreReady plan false (map (Part id blob) (range_with_len k n)) f
    ready-from zero k all f staged = tt
    ready-from (suc n) k all f staged = λ g same.
        let there = has-staged f g same staged in
        (there, (λ f' done. by g there (is_last blob k) refl (omega (arith, all)) f' done (ready-from n (k + 1) (omega (arith, all)) f')), λ on. absurd (cc on))
      where
        -- what is staged at one state is staged at another that has the same staged
        has-staged : (f g : FwState) → g.staging ≡ f.staging → HasStaged id blob k f → HasStaged id blob k g
        has-staged f g same staged some = ap (λ (all : List Staging). find (λ (s : Staging). s.eq == id) all) same ∙ staged some

        by : (g : FwState) → HasStaged id blob k g → (b : Bool) → is_last blob k ≡ b → k < parts blob → (f' : FwState) → row g (SetData id (blob_part blob k)) ≡ Ok f' →
            (HasStaged id blob (k + 1) f' → AreReady plan false (map (Part id blob) (range_with_len (k + 1) n)) f') → AreReady plan false (map (Part id blob) (range_with_len (k + 1) n)) f'
        by g there true last low f' done go =
            let none : 0 ≡ n = (let end = none-behind blob is k low last in omega (arith, all, end)) in
            subst (λ (m : ℕ). AreReady plan false (map (Part id blob) (range_with_len (k + 1) m)) f') none tt
        by g there false more low f' done go = go (subst (HasStaged id blob (k + 1)) (sym (made-more k low g f' there more done)) (staged-then id blob k g))

    pub parts-ready : (f : FwState) → AreReady plan false (part_acts id blob) f
    parts-ready f = ready-from (parts blob) 0 (let all : 0 + parts blob ≡ parts blob = omega arith in all) f (λ some. absurd (cc some))
