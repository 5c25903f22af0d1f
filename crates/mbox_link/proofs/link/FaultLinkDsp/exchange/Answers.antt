use Rattle.std.proofs.Common.{◌≡◌, ℕ, ◌∙◌, replicate, refl, sym, subst, arith, SFits, rules}
use Rattle.std.proofs.Math.Facts.{to_z-of_z}
use Rattle.std.specs.Int.{w32}
use Rattle.mbox_link.specs.declared.fates.Fate.TheVariants.{Pass, Refuse, Drop, Lose}
use Rattle.mbox_link.specs.Exchange.{more}
use Rattle.mbox_link.specs.Calls.{world, Tick, Led}
use Rattle.mbox_link.specs.Meetings.{planned}
use Rattle.mbox_link.specs.Fates.{IsMeant}
use Rattle.mbox_link.proofs.LinkCalls.{room-for-lag, link_passed, link_lost, link_dropped, link_refused}
use Rattle.mbox_link.proofs.link.FaultLinkDsp.exchange.Goals as goal

pub pass_ticks-requires-clause-room : goal.pass_ticks-requires-clause-room
pass_ticks-requires-clause-room g c =
    room-for-lag g.P.Dsp.means _ _ c.self.view_is c.args.out.now c.requires.room c.take-met.ensures.held c.saturating_add-number.result c.take-met.result.lag c.take-met.ensures.lag

pub returns-in-Pass-clause-did : goal.returns-in-Pass-clause-did
returns-in-Pass-clause-did g c =
    let means = g.P.Dsp.means in
    let inside = c.self.inside in
    let after = c.pass_ticks in
    let sent : c.saturating_add-number.result ≡ more inside.sent = c.saturating_add-number.ensures in
    let fate : Pass ≡ (planned inside.fates (more inside.sent)).fate = rw sent at (sym c.in-Pass.is ∙ c.take-met.ensures.fate) in
    let lag : c.take-met.result.lag ≡ (planned inside.fates (more inside.sent)).lag = rw sent at c.take-met.ensures.lag in
    let m = world after.new.dsp after.new.io after.new.out in
    let came = subst (λ (n : ℕ). Led means (world inside.dsp c.args.io.now c.args.out.now) (replicate n Tick) m) lag after.ensures.came in
    rw (← c.self.view_is) (link_passed means _ _ c.take-met.ensures.held.apart m came _ c.exchange.new.self _ (rw (← fate, c.take-met.ensures.left, sent) refl) _ fate c.exchange.ensures.did)

pub returns-in-Lose-clause-did : goal.returns-in-Lose-clause-did
returns-in-Lose-clause-did g c =
    let means = g.P.Dsp.means in
    let inside = c.self.inside in
    let after = c.pass_ticks in
    let sent : c.saturating_add-number.result ≡ more inside.sent = c.saturating_add-number.ensures in
    let lost : c.saturating_add-self-inside-in-Lose.result ≡ more inside.dropped = c.saturating_add-self-inside-in-Lose.ensures in
    let fate : Lose ≡ (planned inside.fates (more inside.sent)).fate = rw sent at (sym c.in-Lose.is ∙ c.take-met.ensures.fate) in
    let lag : c.take-met.result.lag ≡ (planned inside.fates (more inside.sent)).lag = rw sent at c.take-met.ensures.lag in
    let m = world after.new.dsp after.new.io after.new.out in
    let came = subst (λ (n : ℕ). Led means (world inside.dsp c.args.io.now c.args.out.now) (replicate n Tick) m) lag after.ensures.came in
    rw (← c.self.view_is) (link_lost means _ _ c.take-met.ensures.held.apart m came _ c.exchange-in-Lose.new.self _ (rw (← fate, c.take-met.ensures.left, sent, lost) refl) _ (omega arith) fate c.exchange-in-Lose.ensures.did)

pub returns-in-Drop-clause-did : goal.returns-in-Drop-clause-did
returns-in-Drop-clause-did g c =
    let means = g.P.Dsp.means in
    let inside = c.self.inside in
    let after = c.pass_ticks in
    let sent : c.saturating_add-number.result ≡ more inside.sent = c.saturating_add-number.ensures in
    let dropped : c.saturating_add-self-inside-in-Drop.result ≡ more inside.dropped = c.saturating_add-self-inside-in-Drop.ensures in
    let fate : Drop ≡ (planned inside.fates (more inside.sent)).fate = rw sent at (sym c.in-Drop.is ∙ c.take-met.ensures.fate) in
    let lag : c.take-met.result.lag ≡ (planned inside.fates (more inside.sent)).lag = rw sent at c.take-met.ensures.lag in
    let m = world after.new.dsp after.new.io after.new.out in
    let came = subst (λ (n : ℕ). Led means (world inside.dsp c.args.io.now c.args.out.now) (replicate n Tick) m) lag after.ensures.came in
    rw (← c.self.view_is) (link_dropped means _ _ c.take-met.ensures.held.apart m came _ (rw (← fate, c.take-met.ensures.left, sent, dropped) refl) (omega arith) fate)

pub returns-in-Refuse-clause-did : goal.returns-in-Refuse-clause-did
returns-in-Refuse-clause-did g c =
    let means = g.P.Dsp.means in
    let inside = c.self.inside in
    let after = c.pass_ticks in
    let sent : c.saturating_add-number.result ≡ more inside.sent = c.saturating_add-number.ensures in
    let refused : c.saturating_add-self-inside.result ≡ more inside.refused = c.saturating_add-self-inside.ensures in
    let fate : Refuse c.in-Refuse.error ≡ (planned inside.fates (more inside.sent)).fate = rw sent at (sym c.in-Refuse.is ∙ c.take-met.ensures.fate) in
    let lag : c.take-met.result.lag ≡ (planned inside.fates (more inside.sent)).lag = rw sent at c.take-met.ensures.lag in
    let m = world after.new.dsp after.new.io after.new.out in
    let came = subst (λ (n : ℕ). Led means (world inside.dsp c.args.io.now c.args.out.now) (replicate n Tick) m) lag after.ensures.came in
    let number : SFits w32 c.in-Refuse.error = search rules in
    rw (← c.self.view_is, c.refuse.ensures.bytes, to_z-of_z number)
    (link_refused means _ _ c.take-met.ensures.held.apart m came _ (rw (← fate, c.take-met.ensures.left, sent, refused) refl) c.in-Refuse.error (subst IsMeant c.in-Refuse.is c.take-met.ensures.meant) (omega arith) fate)
