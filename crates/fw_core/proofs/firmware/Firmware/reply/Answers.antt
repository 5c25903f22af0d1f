use Rattle.std.proofs.Common.{◌≡◌, ◌∙◌, sym, ap, subst, ℕ, Some, true, Result, Ok, Err, arith}
use Rattle.std.specs.Prelude.{IfOk}
use Rattle.std.proofs.lemmas.Bool.{true≢false}
use Rattle.ipc3_model.specs.Messages.{decoded}
use Rattle.ipc3_model.specs.Meanings.{IsMessage, IsAllowed, Means}
use Rattle.ipc3_model.specs.declared.message.Message.{Message}
use Rattle.ipc3_model.specs.declared.fault.CodecFault.{CodecFault}
use Rattle.ipc3_model.specs.declared.reply.Body.{Body}
use Rattle.ipc3_model.specs.declared.reply.Reply.{Reply}
use Rattle.ipc3_model.specs.Replies.{reply_spelling}
use Rattle.mbox_link.specs.Step.{row_of, body_of}
use Rattle.row_laws.specs.RowLaws.{HasBytes}
use Rattle.row_laws.proofs.PartBytes.{means-bytes}
use Rattle.fw_core.specs.Held.{state_in}
use Rattle.fw_core.specs.Answers.{IsRow}
use Rattle.fw_core.proofs.Calls.{step-answered}
use Rattle.fw_core.proofs.Laid.{is-on}
use Rattle.fw_core.proofs.Scheduled.{still-scheduled}
use Rattle.fw_core.proofs.firmware.Firmware.reply.Goals as goal

-- what was decoded is a message
pub answer-answer-requires-clause-message : goal.answer-answer-requires-clause-message
answer-answer-requires-clause-message c = by c.decode-message.result c.decode-message.ensures.found
  where
    by : (d : Result Message CodecFault) → IfOk d (λ m. IsMessage m × Means c.args.request.now m) → IfOk d (λ m. IsAllowed m × HasBytes m)
    by (Ok m) found = (found.0.1, means-bytes c.args.request.now m (λ i. omega (arith, c.type_inv.request i)) found.1)
    by (Err fault) found = tt

pub invariant_of-self : goal.invariant_of-self
invariant_of-self c =
    let f = c.self.inside in
    let on : f.on ≡ true = is-on f c.args.self.now c.self.view_is c.requires in
    record {
      on = λ e. c.answer-answer.ensures.row.held;
      off = λ e. absurd (true≢false (sym on ∙ e));
      schedule = λ e. still-scheduled f.registry c.answer-answer.new.registry f.region c.answer-answer.new.region c.answer-answer.result c.decode-message.result f.schedule f.current c.self.invariant.schedule c.answer-answer.ensures.row c.answer-answer.ensures.body (sym c.is_still_current-self-inside.ensures ∙ e);
    }

pub returns-clause-step : goal.returns-clause-step
returns-clause-step c =
    let f = c.self.inside in let answer = c.answer-answer.result in let t = c.answer-answer.new.registry in let s = c.answer-answer.new.region in
    let row : IsRow (λ g. row_of g (decoded c.args.request.now)) f.registry t f.region s answer = subst (λ (d : Result Message CodecFault). IsRow (λ g. row_of g d) f.registry t f.region s answer) c.decode-message.ensures.exact c.answer-answer.ensures.row in
    let said = subst (λ (d : Result Message CodecFault). IfOk answer (λ (b : Body). (clock : ℕ) → b ≡ body_of (state_in f.registry f.region clock) d)) c.decode-message.ensures.exact c.answer-answer.ensures.body in
    (step-answered f.on f.boots f.clock f.registry t f.region s answer c.args.request.now c.args.self.now c.self.view_is c.requires row said).0

pub returns-clause-reply : goal.returns-clause-reply
returns-clause-reply c =
    let f = c.self.inside in let answer = c.answer-answer.result in let t = c.answer-answer.new.registry in let s = c.answer-answer.new.region in
    let row : IsRow (λ g. row_of g (decoded c.args.request.now)) f.registry t f.region s answer = subst (λ (d : Result Message CodecFault). IsRow (λ g. row_of g d) f.registry t f.region s answer) c.decode-message.ensures.exact c.answer-answer.ensures.row in
    let said = subst (λ (d : Result Message CodecFault). IfOk answer (λ (b : Body). (clock : ℕ) → b ≡ body_of (state_in f.registry f.region clock) d)) c.decode-message.ensures.exact c.answer-answer.ensures.body in
    (step-answered f.on f.boots f.clock f.registry t f.region s answer c.args.request.now c.args.self.now c.self.view_is c.requires row said).1
    ∙ ap (λ (r : Reply). Some (reply_spelling r)) (sym c.reply_of.ensures)
