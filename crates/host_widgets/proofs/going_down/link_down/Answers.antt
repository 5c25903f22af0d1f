use Rattle.std.proofs.Common.{sym, subst}
use Rattle.host_widgets.specs.declared.kept.Power.TheVariants.{Off}
use Rattle.host_widgets.specs.declared.kept.Record.{Record}
use Rattle.host_widgets.specs.Host.{Agrees}
use Rattle.host_widgets.proofs.Records.{down-record, down-rests}
use Rattle.host_widgets.proofs.going_down.link_down.Goals as goal

pub returns-clause-agree : goal.returns-clause-agree
returns-clause-agree g c is =
    subst (λ (r : Record). Agrees g.P.Dsp.means c.args.plan.now r c.cut.new.self) (λ i. record { power = Off; streams = sym c.halt_all.ensures i; controls = c.args.kept.now.controls })
    record {
      record_is = down-record c.args.plan.now c.args.kept.now is;
      sides = (down-rests c.args.kept.now.streams, c.cut.ensures.on);
    }
