-- The files of bindings, as they are opened one after another.
use Rattle.std.specs.Prelude.{◌≡◌, ℕ, true, List}
use Rattle.std.specs.List.{AllByRecursion}
use Rattle.sof_base.specs.Ports.{InputView, OutputView}
use Rattle.sof_io.specs.Bound.{output_slots}
use Rattle.sof_io.specs.Takes.{input_slots}
use Rattle.sof_desk.specs.Desk.{DeskMeaning}

-- the files of these slots are open to be read
abbrev pub AreOpened : {D : Type 0} → DeskMeaning D → List ℕ → D → Type 0
AreOpened means slots d = AllByRecursion (λ (slot : ℕ). means.opened d slot ≡ true) slots

-- the files of these slots are created
abbrev pub AreCreated : {D : Type 0} → DeskMeaning D → List ℕ → D → Type 0
AreCreated means slots d = AllByRecursion (λ (slot : ℕ). means.created d slot ≡ true) slots

-- the files of these inputs are open, and those of these outputs are created
pub record HaveFiles {D : Type 0} (means : DeskMeaning D) (inputs : List InputView) (outputs : List OutputView) (d : D) : Type 0 where
  pub opened : AreOpened means (input_slots inputs) d
  pub created : AreCreated means (output_slots outputs) d

-- the same files are open, and the same are created
pub record SameFiles {D : Type 0} (means : DeskMeaning D) (old new : D) : Type 0 where
  pub opened : (slot : ℕ) → means.opened new slot ≡ means.opened old slot
  pub created : (slot : ℕ) → means.created new slot ≡ means.created old slot
