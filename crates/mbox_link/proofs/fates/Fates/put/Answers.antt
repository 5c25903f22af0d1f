use Rattle.std.proofs.Common.{◌≡◌, ◌≤◌, List, ap, subst, ◌∙◌, arith}
use Rattle.mbox_link.specs.declared.fates.Entry.{Entry}
use Rattle.mbox_link.specs.Meetings.{planned, lags}
use Rattle.mbox_link.specs.Fates.{AreHeld}
use Rattle.mbox_link.proofs.FateLaws.{lag-held, planned-fits}
use Rattle.mbox_link.proofs.fates.Fates.put.Goals as goal

pub replace-requires-clause-few : goal.replace-requires-clause-few
replace-requires-clause-few c =
    let number = c.args.number in
    let held = subst AreHeld c.self.view_is c.self.invariant in
    let is : c.entry_of-lag.result.lag ≡ (planned c.args.self.now number).lag = c.entry_of-lag.ensures.lag ∙ ap (λ (es : List Entry). (planned es number).lag) (c.as_slice.ensures.value ∙ c.self.view_is) in
    let less : c.entry_of-lag.result.lag ≤ lags c.args.self.now = lag-held number c.args.self.now held c.entry_of-lag.result.lag is in
    omega (arith, less, held.few)

pub returns-clause-room : goal.returns-clause-room
returns-clause-room c =
    let number = c.args.number in
    let held = subst AreHeld c.self.view_is c.self.invariant in
    let is : c.entry_of-lag.result.lag ≡ (planned c.args.self.now number).lag = c.entry_of-lag.ensures.lag ∙ ap (λ (es : List Entry). (planned es number).lag) (c.as_slice.ensures.value ∙ c.self.view_is) in
    c.replace.ensures.room ∙ planned-fits number c.entry_of-lag.result.lag c.args.self.now held is
