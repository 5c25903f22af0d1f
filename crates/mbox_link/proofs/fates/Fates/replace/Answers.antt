use Rattle.std.proofs.Common.{◌≡◌, ◌+◌, ◌<◌, ◌≤◌, List, sym, ap, subst, ◌∙◌, arith}
use Rattle.mbox_link.specs.declared.fates.Entry.{Entry}
use Rattle.mbox_link.specs.Meetings.{without_entry, lags}
use Rattle.mbox_link.specs.Fates.{AreHeld}
use Rattle.mbox_link.proofs.FateLaws.{AreHeld-with, full-at, room-at, entry-full, lag-full, lag-fits}
use Rattle.mbox_link.proofs.fates.Fates.replace.Goals as goal

pub returns-then-is_full-clause-room : goal.returns-then-is_full-clause-room
returns-then-is_full-clause-room c =
    entry-full c.args.entry.number c.args.entry.lag c.args.self.now
    (full-at c.args.entry.number c.args.self.now c.as_slice.result.now c.others-entries.result.items (c.as_slice.ensures.value ∙ c.self.view_is) c.as_slice.ensures.fits c.others-entries.ensures.left c.if-is_full.ensures.value)

pub sum_of_lags-ticks-requires : goal.sum_of_lags-ticks-requires
sum_of_lags-ticks-requires c = subst (λ (es : List Entry). lags es ≤ 16) (sym c.as_slice-2.ensures.value) c.others-entries.ensures.left_held.few

pub returns-then-ticks-entry-gt16-clause-room : goal.returns-then-ticks-entry-gt16-clause-room
returns-then-ticks-entry-gt16-clause-room c =
    let number = c.args.entry.number in
    let left = c.others-entries.ensures.left ∙ ap (λ (es : List Entry). without_entry number es) (c.as_slice.ensures.value ∙ c.self.view_is) in
    let is : c.sum_of_lags-ticks.result ≡ lags (without_entry number c.args.self.now) = c.sum_of_lags-ticks.ensures.is ∙ ap (λ (es : List Entry). lags es) (c.as_slice-2.ensures.value ∙ left) in
    let past : 16 < lags (without_entry number c.args.self.now) + c.args.entry.lag = omega (arith, is, c.if-ticks-entry-gt16.true) in
    lag-full number c.args.entry.lag c.args.self.now past

pub invariant_of-self : goal.invariant_of-self
invariant_of-self c =
    let number = c.args.entry.number in
    let left = c.others-entries.ensures.left ∙ ap (λ (es : List Entry). without_entry number es) (c.as_slice.ensures.value ∙ c.self.view_is) in
    let is : c.sum_of_lags-ticks.result ≡ lags (without_entry number c.args.self.now) = c.sum_of_lags-ticks.ensures.is ∙ ap (λ (es : List Entry). lags es) (c.as_slice-2.ensures.value ∙ left) in
    let fits : lags (without_entry number c.args.self.now) + c.args.entry.lag ≤ 16 = omega (arith, is, c.if-ticks-entry-gt16.false) in
    rw (c.push.ensures.items, left) (AreHeld-with c.args.entry c.args.self.now (subst AreHeld c.self.view_is c.self.invariant) c.requires.meant fits)

pub returns-clause-room : goal.returns-clause-room
returns-clause-room c =
    let number = c.args.entry.number in
    let left = c.others-entries.ensures.left ∙ ap (λ (es : List Entry). without_entry number es) (c.as_slice.ensures.value ∙ c.self.view_is) in
    let is : c.sum_of_lags-ticks.result ≡ lags (without_entry number c.args.self.now) = c.sum_of_lags-ticks.ensures.is ∙ ap (λ (es : List Entry). lags es) (c.as_slice-2.ensures.value ∙ left) in
    let fits : lags (without_entry number c.args.self.now) + c.args.entry.lag ≤ 16 = omega (arith, is, c.if-ticks-entry-gt16.false) in
    room-at number c.args.self.now c.as_slice.result.now c.others-entries.result.items (c.as_slice.ensures.value ∙ c.self.view_is) c.as_slice.ensures.fits c.others-entries.ensures.left c.is_full.ensures.fits c.if-is_full.ensures.value
    ∙ lag-fits number c.args.entry.lag c.args.self.now fits
