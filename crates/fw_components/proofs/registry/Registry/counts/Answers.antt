use Rattle.std.proofs.Common.{◌≡◌, sym, ap, subst, ◌∙◌, ℕ, true, get_or, Option}
use Rattle.sof_base.specs.declared.format.Params.{Params}
use Rattle.stream_law.specs.Ways.{is_running_phase, is_live_phase}
use Rattle.stream_law.specs.Order.{is_among}
use Rattle.fw_components.specs.Kept.{IsKept}
use Rattle.fw_components.specs.Tables.{Tables, ids_of}
use Rattle.fw_components.specs.Tally.{IsTallied}
use Rattle.fw_components.proofs.Tallying.{nowhere-told}
use Rattle.fw_components.proofs.registry.Registry.counts.Goals as goal

pub returns-in-Some : goal.returns-in-Some
returns-in-Some c =
    let t = c.args.self.now in
    let tallies = c.self.inside.tallies in
    let tied : IsTallied t tallies = subst (λ (t : Tables). IsTallied t tallies) c.self.view_is c.self.invariant.tallied in
    let there : is_among (ids_of t) c.args.id ≡ true = sym c.in-Some.ensures.listed in
    (ap (λ (k : ℕ). get_or tallies.running k 0) c.in-Some.ensures.some.0 ∙ tied.runs c.args.id there, ap (λ (k : ℕ). get_or tallies.live k 0) c.in-Some.ensures.some.0 ∙ tied.lives c.args.id there)

pub returns-in-None : goal.returns-in-None
returns-in-None c =
    let t = c.args.self.now in
    let kept = subst IsKept c.self.view_is c.self.invariant.kept in
    let none = sym c.in-None.ensures.listed in
    (sym (ap (λ (a : ℕ × Option Params). a.0) (nowhere-told t kept c.args.id none is_running_phase)), sym (ap (λ (a : ℕ × Option Params). a.0) (nowhere-told t kept c.args.id none is_live_phase)))
