-- What a file that is taken makes of the uses of all files.
use Rattle.std.proofs.Common.{◌≡◌, inl, inr, ℕ, Bool, true, false, nat_eq, ◌&&◌, List, [], ◌∷◌, ◌++◌, find, Option, Some, None, option_map, refl, sym, ◌∙◌, ap, arith}
use Rattle.sof_desk.specs.declared.calls.FileUse.{FileUse}
use Rattle.sof_desk.specs.declared.calls.FileUse.TheVariants.{ToRead, ToWrite, ToTell}
use Rattle.sof_files.specs.declared.file_use.FileId.{FileId}
use Rattle.sof_files.specs.declared.file_use.UsedFile.{UsedFile}
use Rattle.sof_desk.specs.Desk.{DeskAct, Create, Put, Open, SameUses, Took, TookFor}
use Rattle.sof_desk.specs.FileUses.{may_use}
use Rattle.sof_files.specs.RealDesk.{RealDesk, real}
use Rattle.sof_files.specs.UsedFiles.{is_same_file, use_in, used_with, MayTake, TakesFile, TakesForCall}
use Rattle.sof_desk.proofs.First.{find-push}
use Rattle.sof_desk.proofs.CountLaws.{same_number}

-- an item that passes, after others that do not
find-push-new : {X : Type 0} (q : X → Bool) (xs : List X) (y : X) → find q xs ≡ None → q y ≡ true → find q (xs ++ y ∷ []) ≡ Some y
find-push-new q [] y none is = rw is refl
find-push-new {X} q (x ∷ xs) y none is = by_test (q x) refl (λ rest. find-push-new q xs y rest is)
  where
    by_test : (b : Bool) → q x ≡ b → (find q xs ≡ None → find q (xs ++ y ∷ []) ≡ Some y) → find q ((x ∷ xs) ++ y ∷ []) ≡ Some y
    by_test true passes rest = let no : Some x ≡ None = rw passes at none in cc
    by_test false fails rest = rw fails (rest (rw fails at none))

no_use : (found : Option UsedFile) → option_map (λ used. used.usage) found ≡ None → found ≡ None
no_use None none = refl
no_use (Some used) none = cc

itself : (n : ℕ) → nat_eq n n ≡ true
itself n = grind arith

-- a file that is taken anew is used so
pub used-push : (usage : FileUse) (file : FileId) (files : List UsedFile) → use_in files file ≡ None → use_in (files ++ record { file = file; usage = usage } ∷ []) file ≡ Some usage
used-push usage file files none =
    let new : UsedFile = record { file = file; usage = usage } in
    ap (λ found. option_map (λ used. used.usage) found) (find-push-new (is_same_file file) files new (no_use (find (is_same_file file) files) none) (rw (itself file.device, itself file.number) refl))

apart_files : (file other : FileId) → (other ≡ file → ⊥) → (a b : Bool) → nat_eq file.device other.device ≡ a → nat_eq file.number other.number ≡ b → (a && b) ≡ false
apart_files file other apart true true devices numbers =
    let device : file.device ≡ other.device = same_number file.device other.device devices in
    let number : file.number ≡ other.number = same_number file.number other.number numbers in
    absurd (apart (sym (ap (λ n. record { device = n; number = file.number }) device ∙ ap (λ n. record { device = other.device; number = n }) number)))
apart_files file other apart true false devices numbers = refl
apart_files file other apart false b devices numbers = refl

-- and no other file is used otherwise
pub others-push : (usage : FileUse) (file other : FileId) (files : List UsedFile) → (other ≡ file → ⊥) → use_in (files ++ record { file = file; usage = usage } ∷ []) other ≡ use_in files other
others-push usage file other files apart =
    let new : UsedFile = record { file = file; usage = usage } in
    ap (λ found. option_map (λ used. used.usage) found) (find-push (is_same_file other) files new (apart_files file other apart (nat_eq file.device other.device) (nat_eq file.number other.number) refl refl))

-- a use that another one allows is the same
allowed_same : (usage had : FileUse) → may_use usage (Some had) ≡ true → had ≡ usage
allowed_same ToRead ToRead may = refl
allowed_same ToRead ToWrite may = cc
allowed_same ToRead ToTell may = cc
allowed_same ToWrite ToRead may = cc
allowed_same ToWrite ToWrite may = cc
allowed_same ToWrite ToTell may = cc
allowed_same ToTell ToRead may = cc
allowed_same ToTell ToWrite may = cc
allowed_same ToTell ToTell may = cc

module _ (usage : FileUse) (old new : RealDesk) where
  took_file : (file : FileId) (had : Option FileUse) → use_in old.uses file ≡ had → may_use usage (use_in old.uses file) ≡ true → new.uses ≡ used_with usage (Some file) old.uses → Took real usage old new
  took_file file None none may is =
      let pushed : new.uses ≡ old.uses ++ record { file = file; usage = usage } ∷ [] = rw none at is in
      inl (record {
        file = file;
        may = may;
        used = ap (λ files. use_in files file) pushed ∙ used-push usage file old.uses none;
        others = λ other apart. ap (λ files. use_in files other) pushed ∙ others-push usage file other old.uses apart;
      })
  took_file file (Some had) has may is =
      let same : new.uses ≡ old.uses = rw has at is in
      let is_usage : had ≡ usage = allowed_same usage had (rw has at may) in
      inl (record {
        file = file;
        may = may;
        used = ap (λ files. use_in files file) same ∙ (has ∙ ap (λ u. Some u) is_usage);
        others = λ other apart. ap (λ files. use_in files other) same;
      })

  by_file : (file : Option FileId) → MayTake usage file old.uses → new.uses ≡ used_with usage file old.uses → Took real usage old new
  by_file None may is = inr (λ other. ap (λ files. use_in files other) is)
  by_file (Some file) may is = took_file file (use_in old.uses file) refl may is

  -- a file that is taken over real files is taken
  pub took_one : TakesFile usage old.uses new.uses → Took real usage old new
  took_one takes = by_file takes.0 takes.1.0 takes.1.1

same_uses : (old new : RealDesk) → new.uses ≡ old.uses → SameUses real old new
same_uses old new same file = ap (λ files. use_in files file) same

pub took_for : (act : DeskAct) (done : Bool) (old new : RealDesk) → TakesForCall act done old.uses new.uses → TookFor real act done old new
took_for (Create slot name) true old new takes = took_one ToWrite old new takes
took_for (Create slot name) false old new same = same_uses old new same
took_for (Put place piece) done old new same = same_uses old new same
took_for (Open slot name) true old new takes = took_one ToRead old new takes
took_for (Open slot name) false old new same = same_uses old new same
