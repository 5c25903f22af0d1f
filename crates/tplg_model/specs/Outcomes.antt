-- What a reader answered, against what reading is to give.
use Rattle.std.specs.Prelude.{◌≡◌, Result, Ok, Err}
use Rattle.tplg_model.specs.declared.fault.TplgFault.{TplgFault}
use Rattle.tplg_model.specs.declared.fault.TplgFault.TheVariants.{OutOfMemory}

-- a fault is want of memory, or the one that reading gives
abbrev pub Fails : {X : Type 0} → TplgFault → Result X TplgFault → Type 0
Fails OutOfMemory read = Unit {0}
Fails f read = read ≡ Err f

-- what a function answered, seen by view, is what reading gives, unless memory ran out
abbrev pub Gives : {X Y : Type 0} → (X → Y) → Result X TplgFault → Result Y TplgFault → Type 0
Gives view (Ok x) read = read ≡ Ok (view x)
Gives view (Err f) read = Fails f read

-- a step, and then another of what it gave; the first fault ends both
infixl 10 ◌>>=◌
abbrev pub ◌>>=◌ : {A B : Type 0} → Result A TplgFault → (A → Result B TplgFault) → Result B TplgFault
(Ok x) >>= f = f x
(Err e) >>= f = Err e
