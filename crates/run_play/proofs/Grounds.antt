-- The commands of a run send few messages.
use Rattle.std.proofs.Common.{◌≡◌, ap, ◌∙◌, ℕ, ◌+◌, ◌*◌, ◌<◌, ◌≤◌, ◌^◌, zero, suc, List, [], ◌∷◌, ◌++◌, take, length, arith}
use Rattle.sof_script.specs.declared.script.Command.{Command}
use Rattle.sof_script.specs.declared.script.Command.TheVariants as commands
use Rattle.sof_script.specs.declared.script.Numbered.{Numbered}
use Rattle.sof_session.proofs.RunLegs.{messages}
use Rattle.sof_script.specs.Ticks.{earlier}
use Rattle.run_play.specs.Rounds.{Round, rounds_of}
use Rattle.run_play.specs.Play.{rounds_after}
use Rattle.run_play.proofs.WrittenPieces.{commands_of}
use Rattle.run_play.proofs.FewMessages.{tick_before}

-- where a command sends at most 1200 messages, and a tick none
module _ (most : Command → ℕ) (few : (command : Command) → most command ≤ 1200) (tick : (ticks : ℕ) → most (commands.Tick ticks) ≡ 0) where
  messages_front : (k : ℕ) (commands : List Command) → messages most (take k commands) ≤ messages most commands
  messages_front zero commands = omega arith
  messages_front (suc k) [] = omega arith
  messages_front (suc k) (command ∷ commands) = omega (arith, messages_front k commands)

  messages_after : (n : ℕ) (numbered : Numbered) (rest : List Round) → ((k : ℕ) → k < n → most numbered.command ≡ 0) → messages most (commands_of (rounds_after n numbered ++ rest)) ≤ 1200 + messages most (commands_of rest)
  messages_after zero numbered rest none = omega (arith, few numbered.command)
  messages_after (suc n) numbered rest none = omega (arith, none 0 (omega arith), messages_after n numbered rest (λ k below. none k (omega (arith, below))))

  none_before : (command : Command) (n : ℕ) → n < earlier command → most command ≡ 0
  none_before command n below = let t = tick_before command n below in ap most t.1 ∙ tick t.0

  messages_all : (commands : List Numbered) → messages most (commands_of (rounds_of commands)) ≤ 1200 * length commands
  messages_all [] = omega arith
  messages_all (numbered ∷ commands) =
      omega (arith, messages_after (earlier numbered.command) numbered (rounds_of commands) (none_before numbered.command), messages_all commands)

  -- a front of the units sends few together
  pub messages_few : (commands : List Numbered) (k : ℕ) → length commands < 2 ^ 32 → messages most (take k (commands_of (rounds_of commands))) < 2 ^ 63
  messages_few commands k short = omega (arith, messages_front k (commands_of (rounds_of commands)), messages_all commands, short)
