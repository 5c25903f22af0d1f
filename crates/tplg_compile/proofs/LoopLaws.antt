-- What a loop has found so far, and what is found after it.
use Rattle.std.proofs.Common.{◌≡◌, ℕ, ◌+◌, List, [], ◌∷◌, ◌++◌, Option, Some, None, Result, Ok, Err, refl, sym, ap, append_assoc, append-nil}
use Rattle.std.specs.Option.{option_to_list}
use Rattle.std.specs.Prelude.{bit_or, true, false, is_some}
use Rattle.toml.specs.Data.{Data, Members, get_member, as_table}
use Rattle.tplg_compile.specs.declared.entry_fault.EntryFault.{EntryFault}
use Rattle.tplg_compile.specs.declared.entry_fault.EntryFault.TheVariants.{Misfit, OutOfMemory}
use Rattle.tplg_compile.specs.declared.source_fault.List.{List as SourceList}
use Rattle.tplg_compile.specs.declared.source_fault.SourceFault.{SourceFault}
use Rattle.tplg_compile.specs.declared.source_fault.SourceFault.TheVariants.{Shape}
use Rattle.tplg_compile.specs.Outcomes as found
use Rattle.tplg_compile.specs.EntryOutcomes.{Lacks}
use Rattle.tplg_compile.specs.DocumentLists.{are_tables}
use Rattle.tplg_compile.specs.Results as told
use Rattle.tplg_compile.specs.ValueForm.{each, optional_at}
use Rattle.tplg_compile.specs.ProgramValues.{perhaps}
use Rattle.tplg_compile.specs.KeyTables.{Keyed}
use Rattle.tplg_compile.specs.Entries.{tuples_at, bit_of, bits_with}
use Rattle.tplg_compile.specs.InOrder.{entries_read, entry_fault_at as told_of}

-- ---- of an entry

-- what is found, with things in front
abbrev pub behind : {A : Type 0} → List A → Option (List A) → Option (List A)
behind done None = None
behind done (Some more) = Some (done ++ more)

pub behind-nothing : {A : Type 0} (o : Option (List A)) → behind [] o ≡ o
behind-nothing None = refl
behind-nothing (Some more) = refl

pub behind-all : {A : Type 0} (done : List A) → behind done (Some []) ≡ Some done
behind-all done = ap Some (append-nil done)

-- one more
next : {A : Type 0} (done : List A) (x : A) (o : Option (List A)) → behind done (found.◌>>=◌ o (λ more. Some (x ∷ more))) ≡ behind (done ++ x ∷ []) o
next done x None = refl
next done x (Some more) = ap Some (sym (append_assoc done (x ∷ []) more))

module _ {A : Type 0} (read : Data → Option A) where
  pub each-more : (done : List A) (d : Data) (ds : List Data) (x : A) → read d ≡ Some x → behind done (each read (d ∷ ds)) ≡ behind (done ++ x ∷ []) (each read ds)
  unfolding each
  each-more done d ds x is = rw is (next done x (each read ds))

  pub each-lacks : (done : List A) (d : Data) (ds : List Data) → read d ≡ None → behind done (each read (d ∷ ds)) ≡ None
  unfolding each
  each-lacks done d ds is = rw is refl

  pub each-end : (done : List A) → behind done (each read []) ≡ Some done
  unfolding each
  each-end done = behind-all done

module _ {A : Type 0} (tuple : ℕ → Data → Option A) (entry : Members) where
  step : (done : List A) (r : Option A) (o : Option (List A)) → behind done (found.◌>>=◌ o (λ more. Some (option_to_list r ++ more))) ≡ behind (done ++ option_to_list r) o
  step done None None = refl
  step done None (Some more) = rw (append-nil done) refl
  step done (Some x) o = next done x o

  pub tuples-more : (done : List A) (k : Keyed) (ks : List Keyed) (r : Option A) → perhaps (tuple k.1) (get_member k.0 entry) ≡ Some r → behind done (tuples_at tuple (k ∷ ks) entry) ≡ behind (done ++ option_to_list r) (tuples_at tuple ks entry)
  unfolding tuples_at optional_at
  tuples-more done k ks r is = rw is (step done r (tuples_at tuple ks entry))

  pub tuples-lack : (done : List A) (k : Keyed) (ks : List Keyed) → perhaps (tuple k.1) (get_member k.0 entry) ≡ None → behind done (tuples_at tuple (k ∷ ks) entry) ≡ None
  unfolding tuples_at optional_at
  tuples-lack done k ks is = rw is refl

  pub tuples-end : (done : List A) → behind done (tuples_at tuple [] entry) ≡ Some done
  unfolding tuples_at
  tuples-end done = behind-all done

pub bits-more : (bits : ℕ) (d : Data) (ds : List Data) (b : ℕ) → bit_of d ≡ Some b → bits_with bits (d ∷ ds) ≡ bits_with (bit_or bits b) ds
unfolding bits_with
bits-more bits d ds b is = rw is refl

pub bits-lack : (bits : ℕ) (d : Data) (ds : List Data) → bit_of d ≡ None → bits_with bits (d ∷ ds) ≡ None
unfolding bits_with
bits-lack bits d ds is = rw is refl

pub bits-end : (bits : ℕ) → bits_with bits [] ≡ Some bits
unfolding bits_with
bits-end bits = refl

pub tables-no : (d : Data) (ds : List Data) → is_some (as_table d) ≡ false → are_tables (d ∷ ds) ≡ false
unfolding are_tables
tables-no d ds is = rw is refl

pub tables-yes : (d : Data) (ds : List Data) → is_some (as_table d) ≡ true → are_tables (d ∷ ds) ≡ are_tables ds
unfolding are_tables
tables-yes d ds is = rw is refl

pub tables-end : are_tables [] ≡ true
unfolding are_tables
tables-end = refl

-- a fault of a part is one of the whole, where the whole is nothing without the part
pub through : {A B : Type 0} (f : EntryFault) (part : Option A) (whole : Option B) → (part ≡ None → whole ≡ None) → Lacks f part → Lacks f whole
through Misfit part whole none lacks = none lacks
through OutOfMemory part whole none lacks = tt

-- ---- of a list of entries

-- what is told, with records in front
abbrev pub after : {A : Type 0} → List A → Result (List A) SourceFault → Result (List A) SourceFault
after done (Err fault) = Err fault
after done (Ok more) = Ok (done ++ more)

pub after-nothing : {A : Type 0} (r : Result (List A) SourceFault) → after [] r ≡ r
after-nothing (Err fault) = refl
after-nothing (Ok more) = refl

further : {A : Type 0} (done : List A) (x : A) (r : Result (List A) SourceFault) → after done (told.◌>>=◌ r (λ more. Ok (x ∷ more))) ≡ after (done ++ x ∷ []) r
further done x (Err fault) = refl
further done x (Ok more) = ap Ok (sym (append_assoc done (x ∷ []) more))

module _ {A : Type 0} (list : SourceList) (read : Data → Option A) where
  pub told-more : (done : List A) (place : ℕ) (d : Data) (ds : List Data) (x : A) → read d ≡ Some x → after done (entries_read list read place (d ∷ ds)) ≡ after (done ++ x ∷ []) (entries_read list read (place + 1) ds)
  unfolding entries_read
  told-more done place d ds x is = rw is (further done x (entries_read list read (place + 1) ds))

  pub told-lacks : (done : List A) (place : ℕ) (d : Data) (ds : List Data) → read d ≡ None → after done (entries_read list read place (d ∷ ds)) ≡ Err (Shape list place)
  unfolding entries_read
  told-lacks done place d ds is = rw is refl

  pub told-end : (done : List A) (place : ℕ) → after done (entries_read list read place []) ≡ Ok done
  unfolding entries_read
  told-end done place = ap Ok (append-nil done)

-- a fault of an entry is told of its list, where the list is at fault there
pub told_fault : {A B : Type 0} (f : EntryFault) (list : SourceList) (place : ℕ) (part : Option A) (whole : Result B SourceFault) → (part ≡ None → whole ≡ Err (Shape list place)) → Lacks f part → told.FaultIs (told_of f list place) whole
told_fault Misfit list place part whole none lacks = none lacks
told_fault OutOfMemory list place part whole none lacks = tt
