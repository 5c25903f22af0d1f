-- What was done for a message, and what its reply tells.
use Rattle.std.proofs.Common.{◌≡◌, sym, ◌∙◌, subst, ℕ, Result, Ok, Err}
use Rattle.std.specs.Prelude.{IfOk}
use Rattle.sof_base.specs.declared.errno.Errno.{Errno}
use Rattle.ipc3_model.specs.declared.message.Message.{Message}
use Rattle.ipc3_model.specs.declared.reply.Body.{Body}
use Rattle.ipc3_model.specs.declared.reply.Body.TheVariants.{Nothing}
use Rattle.stream_law.specs.State.{FwState}
use Rattle.mbox_link.specs.Step.{row, body}
use Rattle.fw_heap.specs.Regions.{RegionState}
use Rattle.fw_components.specs.Tables.{Tables}
use Rattle.fw_core.specs.Held.{state_in}
use Rattle.fw_core.specs.Answers.{bare_answer, IsRow}

-- what a message did is what its row says
pub bare-row : (m n : Message) (t u : Tables) (r s : RegionState) (answer : Result Unit Errno) (bare : Result Body Errno) → m ≡ n → bare ≡ bare_answer answer → IsRow (λ f. row f n) t u r s answer → IsRow (λ f. row f m) t u r s bare
bare-row m n t u r s answer bare same is done = subst (λ (m : Message). IsRow (λ f. row f m) t u r s bare) (sym same) (subst (IsRow (λ f. row f n) t u r s) (sym is) (by answer done))
  where
    by : (answer : Result Unit Errno) → IsRow (λ f. row f n) t u r s answer → IsRow (λ f. row f n) t u r s (bare_answer answer)
    by (Ok tt) done = record { told = done.told; held = done.held; same = done.same; kept = tt }
    by (Err error) done = record { told = done.told; held = done.held; same = done.same; kept = done.kept }

-- and its reply has no body
pub bare-body : (m n : Message) (t : Tables) (r : RegionState) (answer : Result Unit Errno) (bare : Result Body Errno) → m ≡ n → ((f : FwState) → body f n ≡ Nothing) → bare ≡ bare_answer answer → IfOk bare (λ said. (clock : ℕ) → said ≡ body (state_in t r clock) m)
bare-body m n t r answer bare same none is = subst (λ (m : Message). IfOk bare (λ said. (clock : ℕ) → said ≡ body (state_in t r clock) m)) (sym same) (subst (λ (a : Result Body Errno). IfOk a (λ said. (clock : ℕ) → said ≡ body (state_in t r clock) n)) (sym is) (by answer))
  where
    by : (answer : Result Unit Errno) → IfOk (bare_answer answer) (λ said. (clock : ℕ) → said ≡ body (state_in t r clock) n)
    by (Ok tt) = λ clock. sym (none (state_in t r clock))
    by (Err error) = tt

-- a message of this form did what its row says
pub told-row : (m n : Message) (t u : Tables) (r s : RegionState) (answer : Result Body Errno) → m ≡ n → IsRow (λ f. row f n) t u r s answer → IsRow (λ f. row f m) t u r s answer
told-row m n t u r s answer same done = subst (λ (m : Message). IsRow (λ f. row f m) t u r s answer) (sym same) done

-- and its reply has this body
pub told-body : (m n : Message) (t : Tables) (r : RegionState) (told : Body) (answer : Result Body Errno) → m ≡ n → ((clock : ℕ) → body (state_in t r clock) n ≡ told) → IfOk answer (λ said. said ≡ told) → IfOk answer (λ said. (clock : ℕ) → said ≡ body (state_in t r clock) m)
told-body m n t r told answer same is said = subst (λ (m : Message). IfOk answer (λ said. (clock : ℕ) → said ≡ body (state_in t r clock) m)) (sym same) (by answer said)
  where
    by : (answer : Result Body Errno) → IfOk answer (λ said. said ≡ told) → IfOk answer (λ said. (clock : ℕ) → said ≡ body (state_in t r clock) n)
    by (Ok said) e = λ clock. e ∙ sym (is clock)
    by (Err error) e = tt
