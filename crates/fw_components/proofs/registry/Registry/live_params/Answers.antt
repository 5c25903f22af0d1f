use Rattle.std.proofs.Common.{sym, ap, subst, ◌∙◌, ℕ, get_or, None, Option}
use Rattle.sof_base.specs.declared.format.Params.{Params}
use Rattle.stream_law.specs.Ways.{is_live_phase}
use Rattle.fw_components.specs.Kept.{IsKept}
use Rattle.fw_components.specs.Tables.{Tables}
use Rattle.fw_components.specs.Tally.{IsTallied}
use Rattle.fw_components.proofs.Tallying.{nowhere-told}
use Rattle.fw_components.proofs.registry.Registry.live_params.Goals as goal

pub returns-in-Some : goal.returns-in-Some
returns-in-Some c =
    let t = c.args.self.now in
    let tallies = c.self.inside.tallies in
    let tied : IsTallied t tallies = subst (λ (t : Tables). IsTallied t tallies) c.self.view_is c.self.invariant.tallied in
    ap (λ (k : ℕ). get_or tallies.params k None) c.in-Some.ensures.some.0 ∙ tied.firsts c.args.id (sym c.in-Some.ensures.listed)

pub returns-in-None : goal.returns-in-None
returns-in-None c =
    sym (ap (λ (a : ℕ × Option Params). a.1) (nowhere-told c.args.self.now (subst IsKept c.self.view_is c.self.invariant.kept) c.args.id (sym c.in-None.ensures.listed) is_live_phase))
