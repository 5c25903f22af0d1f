-- The ticks of a script, and the rounds that its commands make.
use Rattle.std.specs.Prelude.{ℕ, zero, suc, ◌-◌, Bool, true, false, List, [], ◌∷◌}
use Rattle.sof_script.specs.declared.script.Command.{Command}
use Rattle.sof_script.specs.declared.script.Command.TheVariants.{Tick, Lag}

-- the ticks of `tick` and of `lag`
abbrev pub command_ticks : Command → ℕ
command_ticks (Tick ticks) = ticks
command_ticks (Lag message ticks) = ticks
command_ticks _ = 0

-- how many rounds of a command come before its last: a `tick` of n makes n ticks
abbrev pub earlier : Command → ℕ
earlier (Tick n) = n - 1
earlier command = 0

-- rounds that are not the last, so many, and then the last
abbrev pub rounds_with : {A : Type 0} → (Bool → A) → ℕ → List A
rounds_with round zero = round true ∷ []
rounds_with round (suc n) = round false ∷ rounds_with round n
