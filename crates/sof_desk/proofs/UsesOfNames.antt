-- How the files of a desk in memory are used, after a call.
use Rattle.std.proofs.Common.{◌≡◌, ◌≢◌, ℕ, Bool, true, false, nat_eq, List, find, map, Option, Some, None, is_some, option_map, bytes_eq, refl, sym, ◌∙◌, ap, if◌then◌else◌}
use Rattle.std.proofs.lemmas.Slice.Eq.{bytes_eq-Decides}
use Rattle.sof_desk.specs.declared.calls.FileUse.TheVariants.{ToRead, ToWrite}
use Rattle.sof_desk.specs.declared.file.Role.{Role}
use Rattle.sof_desk.specs.declared.file.Role.TheVariants.{Input, Output, Tied, Left}
use Rattle.sof_desk.specs.Edits.{changed_first}
use Rattle.sof_desk.specs.FileUses.{may_use}
use Rattle.sof_desk.specs.HeldFiles.{HeldFile, named, is_tied, tied, use_in_role, use_of_file, loaded_of, bytes_in_role, is_output, can_create, role_without, without_slot, file_with_slot, files_with_slot, file_with_piece}
use Rattle.sof_desk.proofs.FoundAfter.{SeenAs, seen_itself, seen_alike, seen_past, find-map-seen, find-map-same, find-changed_first-seen, find-changed_first-same, found_passes}

-- a piece changes the use of no file
pub uses_after_piece : (name : List ℕ) (slot : ℕ) (planned : Option ℕ) (piece : List ℕ) (files : List HeldFile) → use_of_file (find (named name) (changed_first (tied slot) (file_with_piece planned piece) files)) ≡ use_of_file (find (named name) files)
uses_after_piece name slot planned piece files =
    find-changed_first-seen (named name) (tied slot) use_of_file (file_with_piece planned piece) files
    (λ file found. seen_alike (named name) use_of_file (file_with_piece planned piece file) file refl refl)

-- nor does taking a slot from it
uses_without : (slot : ℕ) (role : Role) → use_in_role (role_without slot role) ≡ use_in_role role
uses_without slot Input = refl
uses_without slot Output = refl
uses_without slot (Tied other) =
    elim (nat_eq other slot) as (λ b. use_in_role (if b then Left else Tied other) ≡ Some ToWrite) [ true ↦ refl | false ↦ refl ]
uses_without slot Left = refl

output_unused : (role : Role) → is_output role ≡ true → may_use ToWrite (use_in_role role) ≡ true
output_unused Input out = cc
output_unused Output out = refl
output_unused (Tied slot) out = cc
output_unused Left out = cc

-- a slot is created for a file that has no use
pub creatable : (found : Option HeldFile) → can_create found ≡ true → may_use ToWrite (use_of_file found) ≡ true
creatable None can = cc
creatable (Some file) can = output_unused file.role can

-- and is used to be written then
pub written_after_create : (slot : ℕ) (name : List ℕ) (files : List HeldFile) → can_create (find (named name) files) ≡ true → use_of_file (find (named name) (files_with_slot slot name files)) ≡ Some ToWrite
written_after_create slot name files can =
    ap use_of_file (find-changed_first-same (named name) (file_with_slot slot) (λ file. refl) (map (without_slot slot) files))
    ∙ (ap (λ found. use_of_file (option_map (file_with_slot slot) found)) (find-map-same (named name) (without_slot slot) (λ file. refl) files)
    ∙ tied_now (find (named name) files) can)
  where
    tied_now : (found : Option HeldFile) → can_create found ≡ true → use_of_file (option_map (file_with_slot slot) (option_map (without_slot slot) found)) ≡ Some ToWrite
    tied_now None can' = cc
    tied_now (Some file) can' = refl

-- two names are not those of one file
other_name : (name other own : List ℕ) → (other ≡ name → ⊥) → bytes_eq own name ≡ true → (b : Bool) → bytes_eq own other ≡ b → b ≡ false
other_name name other own apart is true same =
    absurd (apart (sym ((bytes_eq-Decides own other).0 same) ∙ (bytes_eq-Decides own name).0 is))
other_name name other own apart is false differs = refl

-- the file of each other name is used as before
pub others_after_create : (slot : ℕ) (name other : List ℕ) (files : List HeldFile) → (other ≡ name → ⊥) → use_of_file (find (named other) (files_with_slot slot name files)) ≡ use_of_file (find (named other) files)
others_after_create slot name other files apart =
    find-changed_first-seen (named other) (named name) use_of_file (file_with_slot slot) (map (without_slot slot) files) (λ file found. seen file (found_passes (named name) (map (without_slot slot) files) file found))
    ∙ find-map-seen (named other) use_of_file (without_slot slot) (λ file. seen_alike (named other) use_of_file (without_slot slot file) file refl (uses_without slot file.role)) files
  where
    seen : (file : HeldFile) → named name file ≡ true → SeenAs (named other) use_of_file (file_with_slot slot file) file
    seen file is =
        let past : named other file ≡ false = other_name name other file.name apart is (named other file) refl in
        seen_past (named other) use_of_file (file_with_slot slot file) file past past

-- a file that is loaded is used to be read
input_read : (role : Role) (bytes : List ℕ) → is_some (bytes_in_role role bytes) ≡ true → use_in_role role ≡ Some ToRead
input_read Input bytes some = refl
input_read Output bytes some = cc
input_read (Tied slot) bytes some = cc
input_read Left bytes some = cc

pub loaded_read : (found : Option HeldFile) → is_some (loaded_of found) ≡ true → use_of_file found ≡ Some ToRead
loaded_read None some = cc
loaded_read (Some file) some = input_read file.role file.room.bytes some
