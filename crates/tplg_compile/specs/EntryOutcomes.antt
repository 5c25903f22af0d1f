-- What a function over an entry answered, against what is to be found there: something, or nothing where it does not fit.
use Rattle.std.specs.Prelude.{◌≡◌, Option, Some, None, Result, Ok, Err}
use Rattle.tplg_compile.specs.declared.entry_fault.EntryFault.{EntryFault}
use Rattle.tplg_compile.specs.declared.entry_fault.EntryFault.TheVariants.{Misfit, OutOfMemory}

-- a fault is want of memory, or there is nothing to be found
abbrev pub Lacks : {Y : Type 0} → EntryFault → Option Y → Type 0
Lacks OutOfMemory found = Unit {0}
Lacks Misfit found = found ≡ None

-- what a function answered, seen by view, is what is to be found, unless memory ran out
abbrev pub Finds : {X Y : Type 0} → (X → Y) → Result X EntryFault → Option Y → Type 0
Finds view (Ok x) found = found ≡ Some (view x)
Finds view (Err f) found = Lacks f found
