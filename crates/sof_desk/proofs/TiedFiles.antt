-- The files of slots.
use Rattle.std.proofs.Common.{◌≡◌, ℕ, Bool, true, false, nat_eq, List, [], map, find, Option, Some, None, is_some, refl, sym, ◌∙◌, ap, arith, if◌then◌else◌}
use Rattle.std.specs.Option.{option_map}
use Rattle.sof_desk.specs.declared.file.Role.{Role}
use Rattle.sof_desk.specs.declared.file.Role.TheVariants.{Input, Output, Tied, Left}
use Rattle.sof_desk.specs.HeldFiles.{HeldFile, named, is_tied, tied, bytes_in_role, loaded_of, appended_of, is_output, can_create, role_without, without_slot, file_with_slot, files_with_slot, file_with_piece}
use Rattle.sof_desk.specs.Edits.{changed_first}
use Rattle.sof_desk.specs.Room.{Room}
use Rattle.sof_desk.proofs.FoundAfter.{SeenAs, seen_itself, seen_alike, seen_past, find-map-seen, find-map-same, find-changed_first-seen, find-changed_first-same, find-changed_first-new, found_passes}

-- a file of a slot is not loaded
tied_not_loaded : (slot : ℕ) (role : Role) (bytes : List ℕ) → is_tied slot role ≡ true → bytes_in_role role bytes ≡ None
tied_not_loaded slot Input bytes ties = cc
tied_not_loaded slot Output bytes ties = refl
tied_not_loaded slot (Tied other) bytes ties = refl
tied_not_loaded slot Left bytes ties = refl

-- nor is an output
output_not_loaded : (role : Role) (bytes : List ℕ) → is_output role ≡ true → bytes_in_role role bytes ≡ None
output_not_loaded Input bytes out = cc
output_not_loaded Output bytes out = refl
output_not_loaded (Tied other) bytes out = refl
output_not_loaded Left bytes out = refl

output_not_tied : (slot : ℕ) (role : Role) → is_output role ≡ true → is_tied slot role ≡ false
output_not_tied slot Input out = refl
output_not_tied slot Output out = refl
output_not_tied slot (Tied other) out = cc
output_not_tied slot Left out = refl

-- a piece changes no file that is loaded
pub loaded_after_piece : (name : List ℕ) (slot : ℕ) (planned : Option ℕ) (piece : List ℕ) (files : List HeldFile) → loaded_of (find (named name) (changed_first (tied slot) (file_with_piece planned piece) files)) ≡ loaded_of (find (named name) files)
loaded_after_piece name slot planned piece files =
    find-changed_first-seen (named name) (tied slot) loaded_of (file_with_piece planned piece) files (λ file found. seen file (found_passes (tied slot) files file found))
  where
    seen : (file : HeldFile) → tied slot file ≡ true → SeenAs (named name) loaded_of (file_with_piece planned piece file) file
    seen file ties =
        seen_alike (named name) loaded_of (file_with_piece planned piece file) file refl (tied_not_loaded slot file.role _ ties ∙ sym (tied_not_loaded slot file.role _ ties))

other_slot : (slot other role_slot : ℕ) → nat_eq slot other ≡ false → nat_eq role_slot slot ≡ true → nat_eq role_slot other ≡ false
other_slot slot other role_slot differ same = grind arith

-- a piece changes the file of no other slot
pub other_after_piece : (slot other : ℕ) (planned : Option ℕ) (piece : List ℕ) (files : List HeldFile) → nat_eq slot other ≡ false → find (tied other) (changed_first (tied slot) (file_with_piece planned piece) files) ≡ find (tied other) files
other_after_piece slot other planned piece files differ =
    find-changed_first-seen (tied other) (tied slot) (λ found. found) (file_with_piece planned piece) files (λ file found. seen file (found_passes (tied slot) files file found))
  where
    past : (role : Role) → is_tied slot role ≡ true → is_tied other role ≡ false
    past Input ties = refl
    past Output ties = refl
    past (Tied n) ties = other_slot slot other n differ ties
    past Left ties = refl

    seen : (file : HeldFile) → tied slot file ≡ true → SeenAs (tied other) (λ found. found) (file_with_piece planned piece file) file
    seen file ties = seen_past (tied other) (λ found. found) (file_with_piece planned piece file) file (past file.role ties) (past file.role ties)

pub file_after_piece : (slot : ℕ) (planned : Option ℕ) (piece : List ℕ) (files : List HeldFile) → find (tied slot) (changed_first (tied slot) (file_with_piece planned piece) files) ≡ option_map (file_with_piece planned piece) (find (tied slot) files)
file_after_piece slot planned piece files = find-changed_first-same (tied slot) (file_with_piece planned piece) (λ file. refl) files

-- the file of a name, once a slot was taken from every file
named_without : (slot : ℕ) (name : List ℕ) (files : List HeldFile) → find (named name) (map (without_slot slot) files) ≡ option_map (without_slot slot) (find (named name) files)
named_without slot name files = find-map-same (named name) (without_slot slot) (λ file. refl) files

output_without : (slot : ℕ) (role : Role) → is_output (role_without slot role) ≡ is_output role
output_without slot Input = refl
output_without slot Output = refl
output_without slot (Tied other) =
    elim (nat_eq other slot) as (λ b. is_output (if b then Left else Tied other) ≡ false) [ true ↦ refl | false ↦ refl ]
output_without slot Left = refl

can_create_without : (slot : ℕ) (found : Option HeldFile) → can_create (option_map (without_slot slot) found) ≡ can_create found
can_create_without slot None = refl
can_create_without slot (Some file) = output_without slot file.role

-- the file that a slot is created for is an output
output_named : (slot : ℕ) (name : List ℕ) (files : List HeldFile) (file : HeldFile) → can_create (find (named name) files) ≡ true → find (named name) (map (without_slot slot) files) ≡ Some file → is_output file.role ≡ true
output_named slot name files file can found =
    let at : can_create (Some file) ≡ can_create (find (named name) files) =
    ap can_create (sym found ∙ named_without slot name files) ∙ can_create_without slot (find (named name) files)
    in
    at ∙ can

loaded_without : (slot : ℕ) (role : Role) (bytes : List ℕ) → bytes_in_role (role_without slot role) bytes ≡ bytes_in_role role bytes
loaded_without slot Input bytes = refl
loaded_without slot Output bytes = refl
loaded_without slot (Tied other) bytes =
    elim (nat_eq other slot) as (λ b. bytes_in_role (if b then Left else Tied other) bytes ≡ None) [ true ↦ refl | false ↦ refl ]
loaded_without slot Left bytes = refl

-- a create changes no file that is loaded
pub loaded_after_create : (slot : ℕ) (name other : List ℕ) (files : List HeldFile) → can_create (find (named name) files) ≡ true → loaded_of (find (named other) (files_with_slot slot name files)) ≡ loaded_of (find (named other) files)
loaded_after_create slot name other files can =
    find-changed_first-seen (named other) (named name) loaded_of (file_with_slot slot) (map (without_slot slot) files) (λ file found. seen file (output_named slot name files file can found))
    ∙ find-map-seen (named other) loaded_of (without_slot slot) (λ file. seen_alike (named other) loaded_of (without_slot slot file) file refl (loaded_without slot file.role file.room.bytes)) files
  where
    seen : (file : HeldFile) → is_output file.role ≡ true → SeenAs (named other) loaded_of (file_with_slot slot file) file
    seen file out = seen_alike (named other) loaded_of (file_with_slot slot file) file refl (sym (output_not_loaded file.role file.room.bytes out))

-- a file that a slot is taken from is the file of no other slot
left_tied : (slot other n : ℕ) (name : List ℕ) (room : Room) → nat_eq slot other ≡ false → (b : Bool) → nat_eq n slot ≡ b → SeenAs (tied other) (λ found. found) (record { name = name; room = room; role = if nat_eq n slot then Left else Tied n }) (record { name = name; room = room; role = Tied n })
left_tied slot other n name room differ true same =
    rw same (seen_past (tied other) (λ found. found) (record { name = name; room = room; role = Left }) (record { name = name; room = room; role = Tied n }) refl (other_slot slot other n differ same))
left_tied slot other n name room differ false differs =
    rw differs (seen_itself (tied other) (λ found. found) (record { name = name; room = room; role = Tied n }))

-- a create changes the file of no other slot
pub other_after_create : (slot other : ℕ) (name : List ℕ) (files : List HeldFile) → nat_eq slot other ≡ false → can_create (find (named name) files) ≡ true → find (tied other) (files_with_slot slot name files) ≡ find (tied other) files
other_after_create slot other name files differ can =
    find-changed_first-seen (tied other) (named name) (λ found. found) (file_with_slot slot) (map (without_slot slot) files) (λ file found. seen file (output_named slot name files file can found))
    ∙ find-map-seen (tied other) (λ found. found) (without_slot slot) (λ file. left file.name file.room file.role) files
  where
    seen : (file : HeldFile) → is_output file.role ≡ true → SeenAs (tied other) (λ found. found) (file_with_slot slot file) file
    seen file out = seen_past (tied other) (λ found. found) (file_with_slot slot file) file differ (output_not_tied other file.role out)

    left : (name' : List ℕ) (room : Room) (role : Role) → SeenAs (tied other) (λ found. found) (record { name = name'; room = room; role = role_without slot role }) (record { name = name'; room = room; role = role })
    left name' room Input = seen_itself (tied other) (λ found. found) (record { name = name'; room = room; role = Input })
    left name' room Output = seen_itself (tied other) (λ found. found) (record { name = name'; room = room; role = Output })
    left name' room Left = seen_itself (tied other) (λ found. found) (record { name = name'; room = room; role = Left })
    left name' room (Tied n) = left_tied slot other n name' room differ (nat_eq n slot) refl

not_tied_without : (slot : ℕ) (role : Role) → is_tied slot (role_without slot role) ≡ false
not_tied_without slot Input = refl
not_tied_without slot Output = refl
not_tied_without slot Left = refl
not_tied_without slot (Tied n) = by_test (nat_eq n slot) refl
  where
    by_test : (b : Bool) → nat_eq n slot ≡ b → is_tied slot (role_without slot (Tied n)) ≡ false
    by_test true same = rw same refl
    by_test false differs = rw differs differs

-- a slot's file after its create is the one of the name, and it is empty
file_after_create : (slot : ℕ) (name : List ℕ) (files : List HeldFile) → find (tied slot) (files_with_slot slot name files) ≡ option_map (file_with_slot slot) (option_map (without_slot slot) (find (named name) files))
file_after_create slot name files =
    find-changed_first-new (tied slot) (named name) (without_slot slot) (file_with_slot slot) (λ file. not_tied_without slot file.role) (λ file. itself slot) files
    ∙ ap (option_map (file_with_slot slot)) (named_without slot name files)
  where
    itself : (n : ℕ) → nat_eq n n ≡ true
    itself n = grind arith

pub bytes_after_create : (slot : ℕ) (name : List ℕ) (files : List HeldFile) → can_create (find (named name) files) ≡ true → appended_of (find (tied slot) (files_with_slot slot name files)) ≡ []
bytes_after_create slot name files can = ap appended_of (file_after_create slot name files) ∙ empty (find (named name) files) can
  where
    empty : (found : Option HeldFile) → can_create found ≡ true → appended_of (option_map (file_with_slot slot) (option_map (without_slot slot) found)) ≡ []
    empty None can' = cc
    empty (Some file) can' = refl

pub tied_after_create : (slot : ℕ) (name : List ℕ) (files : List HeldFile) → can_create (find (named name) files) ≡ true → is_some (find (tied slot) (files_with_slot slot name files)) ≡ true
tied_after_create slot name files can = ap is_some (file_after_create slot name files) ∙ some (find (named name) files) can
  where
    some : (found : Option HeldFile) → can_create found ≡ true → is_some (option_map (file_with_slot slot) (option_map (without_slot slot) found)) ≡ true
    some None can' = cc
    some (Some file) can' = refl

-- a file that takes a piece, gets a slot or leaves one is loaded as before
pub loaded_by_piece : (slot : ℕ) (planned : Option ℕ) (piece : List ℕ) (file : HeldFile) → tied slot file ≡ true → loaded_of (Some (file_with_piece planned piece file)) ≡ loaded_of (Some file)
loaded_by_piece slot planned piece file ties =
    tied_not_loaded slot file.role _ ties ∙ sym (tied_not_loaded slot file.role _ ties)

pub loaded_by_create : (slot : ℕ) (name : List ℕ) (files : List HeldFile) (file : HeldFile) → can_create (find (named name) files) ≡ true → find (named name) (map (without_slot slot) files) ≡ Some file → loaded_of (Some (file_with_slot slot file)) ≡ loaded_of (Some file)
loaded_by_create slot name files file can found =
    sym (output_not_loaded file.role file.room.bytes (output_named slot name files file can found))

pub loaded_by_leave : (slot : ℕ) (file : HeldFile) → loaded_of (Some (without_slot slot file)) ≡ loaded_of (Some file)
loaded_by_leave slot file = loaded_without slot file.role file.room.bytes
