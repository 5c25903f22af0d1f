-- What is still to be read of the open slots of a desk in memory, after its files or its slots have changed.
use Rattle.std.proofs.Common.{◌≡◌, ◌≤◌, ℕ, zero, suc, min, Bool, true, false, nat_eq, nat_lt, List, [], ◌∷◌, length, take, drop, find, map, get_or, set, slice_get, position, Option, Some, None, is_some, option_map, refl, sym, ◌∙◌, ap, subst, arith, if◌then◌else◌, drop-drop, length-take}
use Rattle.std.specs.Option.{unwrap_or}
use Rattle.std.specs.List.{position_or_len}
use Rattle.std.proofs.lemmas.List.{take_min, drop_min}
use Rattle.sof_desk.specs.declared.calls.TheConstants.{SLOTS}
use Rattle.sof_desk.specs.declared.open_slot.OpenSlot.{OpenSlot}
use Rattle.sof_desk.specs.Desk.{FrontOf, Gets, unread_past}
use Rattle.sof_desk.specs.Edits.{changed_first}
use Rattle.sof_desk.specs.HeldFiles.{HeldFile, named, tied, loaded_of, can_create, files_with_slot, file_with_piece, file_with_slot, without_slot}
use Rattle.sof_desk.specs.OpenSlots.{is_under, is_opened, can_open, with_opened, with_read, read_on, read_of, rest_after, left_under}
use Rattle.sof_desk.proofs.First.{is_first, find-at, find-none, changed_first-at, slice_get-first, find-put_first, find-put_first-beside}
use Rattle.sof_desk.proofs.FoundAfter.{seen_past, find-changed_first-same, find-changed_first-seen, found_passes}
use Rattle.sof_desk.proofs.CountLaws.{same_number}
use Rattle.sof_desk.proofs.TiedFiles.{loaded_by_piece, loaded_by_create, loaded_by_leave}

-- the file at each place is loaded as before
abbrev pub SameLoaded : List HeldFile → List HeldFile → Type 0
SameLoaded old new = (k : ℕ) → loaded_of (slice_get new k) ≡ loaded_of (slice_get old k)

same_loaded-map : (f : HeldFile → HeldFile) → ((file : HeldFile) → loaded_of (Some (f file)) ≡ loaded_of (Some file)) → (files : List HeldFile) → SameLoaded files (map f files)
same_loaded-map f same [] k = refl
same_loaded-map f same (x ∷ xs) zero = same x
same_loaded-map f same (x ∷ xs) (suc k) = same_loaded-map f same xs k

same_loaded-changed : (p : HeldFile → Bool) (change : HeldFile → HeldFile) (files : List HeldFile) → ((file : HeldFile) → find p files ≡ Some file → loaded_of (Some (change file)) ≡ loaded_of (Some file)) → SameLoaded files (changed_first p change files)
same_loaded-changed p change [] same k = refl
same_loaded-changed p change (x ∷ xs) same k =
    by_test (p x) refl (λ fails. same_loaded-changed p change xs (λ file found. same file (rw fails found))) k
  where
    by_test : (b : Bool) → p x ≡ b → (p x ≡ false → SameLoaded xs (changed_first p change xs)) → (k : ℕ) → loaded_of (slice_get (changed_first p change (x ∷ xs)) k) ≡ loaded_of (slice_get (x ∷ xs) k)
    by_test true passes rest zero = rw passes (same x (rw passes refl))
    by_test true passes rest (suc k) = rw passes refl
    by_test false fails rest zero = rw fails refl
    by_test false fails rest (suc k) = rw fails (rest fails k)

pub same_loaded-piece : (slot : ℕ) (planned : Option ℕ) (piece : List ℕ) (files : List HeldFile) → SameLoaded files (changed_first (tied slot) (file_with_piece planned piece) files)
same_loaded-piece slot planned piece files =
    same_loaded-changed (tied slot) (file_with_piece planned piece) files (λ file found. loaded_by_piece slot planned piece file (found_passes (tied slot) files file found))

pub same_loaded-create : (slot : ℕ) (name : List ℕ) (files : List HeldFile) → can_create (find (named name) files) ≡ true → SameLoaded files (files_with_slot slot name files)
same_loaded-create slot name files can k =
    same_loaded-changed (named name) (file_with_slot slot) (map (without_slot slot) files) (λ file found. loaded_by_create slot name files file can found) k
    ∙ same_loaded-map (without_slot slot) (loaded_by_leave slot) files k

-- where each file is loaded as before, the same is still to be read
pub left_same : (slot : ℕ) (opens : List OpenSlot) (old new : List HeldFile) → SameLoaded old new → left_under slot opens new ≡ left_under slot opens old
left_same slot opens old new same = by_found (find (is_under slot) opens)
  where
    by_found : (found : Option OpenSlot) → option_map (rest_after new) found ≡ option_map (rest_after old) found
    by_found None = refl
    by_found (Some o) = ap (λ loaded. Some (drop o.position (unwrap_or loaded []))) (same o.place)

itself : (n : ℕ) → nat_eq n n ≡ true
itself n = grind arith

other_number : (slot other n : ℕ) → nat_eq slot other ≡ false → nat_eq n slot ≡ true → nat_eq n other ≡ false
other_number slot other n differ same = grind arith

-- what is found under a slot, once a slot was opened
abbrev pub found_opened : ℕ → ℕ → ℕ → List OpenSlot → Option OpenSlot
found_opened slot place other opens = find (is_under other) (with_opened slot place opens)

opened_itself : (slot place : ℕ) (opens : List OpenSlot) → found_opened slot place slot opens ≡ Some (record { slot = slot; place = place; position = 0 })
opened_itself slot place opens = find-put_first (is_under slot) _ opens (itself slot)

opened_beside : (slot place other : ℕ) (opens : List OpenSlot) → nat_eq slot other ≡ false → found_opened slot place other opens ≡ find (is_under other) opens
opened_beside slot place other opens differ =
    find-put_first-beside (is_under other) (is_under slot) _ opens differ (λ o same. other_number slot other o.slot differ same)

pub is_opened-opened : (slot place : ℕ) (opens : List OpenSlot) (other : ℕ) → is_opened other (with_opened slot place opens) ≡ (if nat_eq slot other then true else is_opened other opens)
is_opened-opened slot place opens other = by_test (nat_eq slot other) refl
  where
    by_test : (b : Bool) → nat_eq slot other ≡ b → is_opened other (with_opened slot place opens) ≡ (if b then true else is_opened other opens)
    by_test true same =
        subst (λ n. is_opened n (with_opened slot place opens) ≡ true) (same_number slot other same) (ap is_some (opened_itself slot place opens))
    by_test false differ = ap is_some (opened_beside slot place other opens differ)

some_loaded : (loaded : Option (List ℕ)) → is_some loaded ≡ true → Some (unwrap_or loaded []) ≡ loaded
some_loaded None is = cc
some_loaded (Some bytes) is = refl

-- of a slot that was opened all that its name gives is still to be read
pub left-opened : (slot : ℕ) (name : List ℕ) (opens : List OpenSlot) (files : List HeldFile) → is_some (loaded_of (find (named name) files)) ≡ true → (other : ℕ) → left_under other (with_opened slot (position_or_len (named name) files) opens) files ≡ (if nat_eq slot other then loaded_of (find (named name) files) else left_under other opens files)
left-opened slot name opens files is other = by_test (nat_eq slot other) refl
  where
    place : ℕ
    place = position_or_len (named name) files

    by_test : (b : Bool) → nat_eq slot other ≡ b → left_under other (with_opened slot place opens) files ≡ (if b then loaded_of (find (named name) files) else left_under other opens files)
    by_test true same =
        subst (λ n. left_under n (with_opened slot place opens) files ≡ loaded_of (find (named name) files)) (same_number slot other same)
        (ap (option_map (rest_after files)) (opened_itself slot place opens)
        ∙ ap (λ found. Some (read_of found)) (slice_get-first (named name) files)
        ∙ some_loaded (loaded_of (find (named name) files)) is)
    by_test false differ = ap (option_map (rest_after files)) (opened_beside slot place other opens differ)

-- what is found under a slot, once a slot was read on
read_itself : (slot count : ℕ) (opens : List OpenSlot) → find (is_under slot) (with_read slot count opens) ≡ option_map (read_on count) (find (is_under slot) opens)
read_itself slot count opens = find-changed_first-same (is_under slot) (read_on count) (λ o. refl) opens

read_beside : (slot count other : ℕ) (opens : List OpenSlot) → nat_eq slot other ≡ false → find (is_under other) (with_read slot count opens) ≡ find (is_under other) opens
read_beside slot count other opens differ =
    find-changed_first-seen (is_under other) (is_under slot) (λ found. found) (read_on count) opens (λ o found.
    let apart = other_number slot other o.slot differ (found_passes (is_under slot) opens o found) in
    seen_past (is_under other) (λ found'. found') (read_on count o) o apart apart)

some_read : (count : ℕ) (found : Option OpenSlot) → is_some (option_map (read_on count) found) ≡ is_some found
some_read count None = refl
some_read count (Some o) = refl

pub is_opened-read : (slot count : ℕ) (opens : List OpenSlot) (other : ℕ) → is_opened other (with_read slot count opens) ≡ is_opened other opens
is_opened-read slot count opens other = by_test (nat_eq slot other) refl
  where
    by_test : (b : Bool) → nat_eq slot other ≡ b → is_opened other (with_read slot count opens) ≡ is_opened other opens
    by_test true same =
        subst (λ n. is_opened n (with_read slot count opens) ≡ is_opened n opens) (same_number slot other same)
        (ap is_some (read_itself slot count opens) ∙ some_read count (find (is_under slot) opens))
    by_test false differ = ap is_some (read_beside slot count other opens differ)

left_on : (count : ℕ) (files : List HeldFile) (found : Option OpenSlot) → option_map (rest_after files) (option_map (read_on count) found) ≡ option_map (drop count) (option_map (rest_after files) found)
left_on count files None = refl
left_on count files (Some o) =
    ap (λ (bytes : List ℕ). Some bytes) (sym (drop-drop count o.position (read_of (slice_get files o.place))))

pub left-read : (slot : ℕ) (bytes : List ℕ) (opens : List OpenSlot) (files : List HeldFile) (other : ℕ) → left_under other (with_read slot (length bytes) opens) files ≡ unread_past slot (Some bytes) other (left_under other opens files)
left-read slot bytes opens files other = by_test (nat_eq slot other) refl
  where
    by_test : (b : Bool) → nat_eq slot other ≡ b → left_under other (with_read slot (length bytes) opens) files ≡ (if b then option_map (drop (length bytes)) (left_under other opens files) else left_under other opens files)
    by_test true same =
        subst (λ n. left_under n (with_read slot (length bytes) opens) files ≡ option_map (drop (length bytes)) (left_under n opens files)) (same_number slot other same)
        (ap (option_map (rest_after files)) (read_itself slot (length bytes) opens) ∙ left_on (length bytes) files (find (is_under slot) opens))
    by_test false differ = ap (option_map (rest_after files)) (read_beside slot (length bytes) other opens differ)

-- a front of at least one byte, where there is one
front_of : (n : ℕ) (all : List ℕ) → 1 ≤ n → FrontOf all (take n all)
front_of n all some =
    record {
      front = sym (ap (λ k. take k all) (length-take n all) ∙ take_min n all);
      ends = λ none. at_end n all some none;
      ended = λ none. rw none (nothing n);
    }
  where
    nothing : (n : ℕ) → take n (let none : List ℕ = [] in none) ≡ []
    nothing zero = refl
    nothing (suc n) = refl

    at_end : (n : ℕ) (all : List ℕ) → 1 ≤ n → take n all ≡ [] → all ≡ []
    at_end zero all some none = absurd (omega (arith, some))
    at_end (suc n) [] some none = refl
    at_end (suc n) (x ∷ xs) some none = cc

-- what a read gets is the front of what is still to be read
pub gets_front : (planned : Option ℕ) (told : Option (List ℕ)) (size most : ℕ) → 1 ≤ size → 1 ≤ most → Gets told size (if is_some planned then None else option_map (take (min size most)) told)
gets_front (Some passes) told size most one room = tt
gets_front None None size most one room = tt
gets_front None (Some bytes) size most one room =
    (omega (arith, length-take (min size most) bytes), λ all is. let same : bytes ≡ all = cc in subst (λ l. FrontOf l (take (min size most) bytes)) same (front_of (min size most) bytes (omega (arith, one, room))))

-- whether a slot can be opened, by where it stands among those that are open
pub can_open-at : (slot : ℕ) (opens : List OpenSlot) (i : ℕ) (d : OpenSlot) → position (is_under slot) opens ≡ Some i → can_open slot opens ≡ true
can_open-at slot opens i d found = rw (find-at (is_under slot) opens i d (is_first (is_under slot) opens i d found)) refl

pub can_open-new : (slot : ℕ) (opens : List OpenSlot) → position (is_under slot) opens ≡ None → can_open slot opens ≡ nat_lt (length opens) SLOTS
can_open-new slot opens nowhere = rw (find-none (is_under slot) opens nowhere) refl

-- the front that is copied of the bytes that are left is what a read gets
pub copied_front : (slot i : ℕ) (opens : List OpenSlot) (files : List HeldFile) (o : OpenSlot) (bytes out new : List ℕ) (n most count : ℕ) → position (is_under slot) opens ≡ Some i → o ≡ get_or opens i o → bytes ≡ read_of (slice_get files o.place) → n ≡ min o.position (length bytes) → count ≡ min (length (drop n bytes)) (min (length out) most) → take count new ≡ take count (drop n bytes) → option_map (take (min (length out) most)) (left_under slot opens files) ≡ Some (take count new)
copied_front slot i opens files o bytes out new n most count found is bytes_is n_is count_is copied =
    let at : find (is_under slot) opens ≡ Some o =
    find-at (is_under slot) opens i o (is_first (is_under slot) opens i o found) ∙ ap (λ (x : OpenSlot). Some x) (sym is)
    in
    let left : rest_after files o ≡ drop n bytes =
    ap (drop o.position) (sym bytes_is) ∙ sym (drop_min o.position bytes) ∙ ap (λ k. drop k bytes) (sym n_is)
    in
    let count_as : min (min (length out) most) (length (drop n bytes)) ≡ count = omega (arith, count_is) in
    ap (λ found'. option_map (take (min (length out) most)) (option_map (rest_after files) found')) at
    ∙ ap (λ l. Some (take (min (length out) most) l)) left
    ∙ ap (λ (l : List ℕ). Some l) (sym (take_min (min (length out) most) (drop n bytes)) ∙ ap (λ k. take k (drop n bytes)) count_as ∙ sym copied)

pub with_read-at : (slot i count : ℕ) (opens : List OpenSlot) (o : OpenSlot) → position (is_under slot) opens ≡ Some i → o ≡ get_or opens i o → set opens i (read_on count o) ≡ with_read slot count opens
with_read-at slot i count opens o found is =
    ap (λ x. set opens i (read_on count x)) is
    ∙ sym (changed_first-at (is_under slot) (read_on count) opens i o (is_first (is_under slot) opens i o found))
