-- What a command is, by the arm of a step that it comes to.
use Rattle.std.proofs.Common.{◌≡◌, ◌≤◌, ℕ, ℤ, to_z, of_z, true, subst, sym}
use Rattle.std.specs.Prelude.{nat_le}
use Rattle.std.specs.Int.{w32}
use Rattle.std.specs.Int.RustNames.{FitsSigned}
use Rattle.std.proofs.lemmas.Int.{to_z-of_z}
use Rattle.std.proofs.lemmas.Bool.{leb-true, and_parts}
use Rattle.mbox_link.specs.Fates.{IsError}
use Rattle.host_widgets.proofs.ReplyErrors.{negative-fits}
use Rattle.sof_script.specs.declared.script.Command.{Command}
use Rattle.sof_script.specs.declared.script.Command.TheVariants as commands
use Rattle.sof_session.specs.CommandRanges.{is_ahead, is_lag, is_refusal, is_in_range}

-- a command in range, by what it is
pub in-range-of : (command other : Command) → command ≡ other → is_in_range command ≡ true → is_in_range other ≡ true
in-range-of command other is range = subst (λ (c : Command). is_in_range c ≡ true) is range

pub ahead-in : (k : ℕ) → is_ahead k ≡ true → 1 ≤ k
ahead-in k is = leb-true 1 k (and_parts (nat_le 1 k) (nat_le k 100000) is).0

pub refuse-in : (k : ℕ) (e : ℤ) → is_in_range (commands.Refuse k e) ≡ true → (is_ahead k ≡ true) × (is_refusal e ≡ true)
refuse-in k e is = and_parts (is_ahead k) (is_refusal e) is

-- an error number is what its 32 bits say
pub as-is : (e : ℤ) → IsError e → to_z w32 (of_z w32 e) ≡ e
as-is e meant = to_z-of_z w32 e (subst (FitsSigned w32) (sym meant.is) (negative-fits meant.code meant.small))

pub lag-in : (k ticks : ℕ) → is_in_range (commands.Lag k ticks) ≡ true → (1 ≤ k) × (ticks ≤ 16)
lag-in k ticks is =
    let both = and_parts (is_ahead k) (is_lag ticks) is in
    (ahead-in k both.0, leb-true ticks 16 (and_parts (nat_le 1 ticks) (nat_le ticks 16) both.1).1)
