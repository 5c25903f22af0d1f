use Rattle.std.proofs.Common.{◌≡◌, ◌∙◌, ⊎_elim, Err, refl, ap, subst, rules}
use Rattle.host_widgets.specs.Sides.{world_of}
use Rattle.mbox_link.specs.Calls.{Meaning, World, world}
use Rattle.tplg_plan.specs.declared.plans.Plan.{Plan}
use Rattle.host_widgets.specs.declared.answers.HostFault.TheVariants.{Loaded}
use Rattle.host_widgets.specs.declared.kept.Power.{Power}
use Rattle.host_widgets.specs.declared.kept.Power.TheVariants.{Unloaded}
use Rattle.host_widgets.specs.declared.kept.Record.{Record}
use Rattle.host_widgets.specs.Kept.{first_record}
use Rattle.host_widgets.specs.Host.{Agrees, Sides}
use Rattle.host_widgets.specs.Bringing.{SucceedsExactly}
use Rattle.host_widgets.specs.Orders.{fault_of_load, loading}
use Rattle.host_widgets.specs.TestedOrders.{Tested}
use Rattle.host_widgets.proofs.LoadOrders.{told-early, done-late}
use Rattle.host_widgets.proofs.LoadEnds.{load-agrees, load-exactly}
use Rattle.host_widgets.proofs.loading.load.Goals as goal

-- the record was the first
pub was-first : (plan : Plan) (kept : Record) (power : Power) → kept.power ≡ power → {D : Type 0} (means : Meaning D) (device : D) → Agrees means plan kept device → power ≡ Unloaded → kept ≡ first_record plan
was-first plan kept power is means device agree unloaded = (subst (λ (p : Power). Sides means plan kept device p) (is ∙ unloaded) agree.sides).0

pub returns-in-Unloaded-clause-agree : goal.returns-in-Unloaded-clause-agree
returns-in-Unloaded-clause-agree g c =
    let plan = c.args.plan.now in
    let kept = c.args.kept.now in
    let w = world c.args.dsp.now c.args.io.now c.args.out.now in
    let v = world_of c.power_up.new.side in
    subst (λ (e : Record × g.row.P.Denot). Agrees g.P.Dsp.means plan e.0 e.1) (search rules)
    (load-agrees g.P.Dsp.means plan c.args.heap kept c.requires.plan c.requires.agree.record_is.controls c.power_up.new.side.kept.now w v c.power_up.result c.power_up.ensures.carried
    (was-first plan kept kept.power refl g.P.Dsp.means c.args.dsp.now c.requires.agree c.in-Unloaded.is) c.power_up.ensures.left)

pub returns-in-Unloaded-clause-exactly : goal.returns-in-Unloaded-clause-exactly
returns-in-Unloaded-clause-exactly g c = λ unloaded.
    (let w = world c.args.dsp.now c.args.io.now c.args.out.now in
    let v = world_of c.power_up.new.side in
    subst (λ (d : g.row.P.Denot). SucceedsExactly g.P.Dsp.means c.args.plan.now c.args.heap c.args.dsp.now c.power_up.result d) (search rules)
    (load-exactly g.P.Dsp.means c.args.plan.now c.args.heap c.args.kept.now c.requires.plan c.requires.agree.record_is.controls c.power_up.new.side.kept.now w v c.power_up.result c.power_up.ensures.carried))

pub returns-in-Unloaded-clause-carried : goal.returns-in-Unloaded-clause-carried
returns-in-Unloaded-clause-carried g c =
    let plan = c.args.plan.now in
    let kept = c.args.kept.now in
    let w = world c.args.dsp.now c.args.io.now c.args.out.now in
    let v = world_of c.power_up.new.side in
    subst (λ (e : Record × World g.row.P.Denot). Tested g.P.Dsp.means plan c.args.heap (fault_of_load kept.power) (loading plan kept) kept e.0 w e.1 c.power_up.result) (search rules)
    (done-late g.P.Dsp.means plan c.args.heap (fault_of_load kept.power) (loading plan kept) kept c.power_up.new.side.kept.now w v c.power_up.result (ap fault_of_load c.in-Unloaded.is) c.power_up.ensures.carried)

pub returns-in-On-clause-carried : goal.returns-in-On-clause-carried
returns-in-On-clause-carried g c =
    let plan = c.args.plan.now in
    let kept = c.args.kept.now in
    let w = world c.args.dsp.now c.args.io.now c.args.out.now in
    told-early g.P.Dsp.means plan c.args.heap (fault_of_load kept.power) (loading plan kept) kept kept w w (Err Loaded) Loaded (⊎_elim (λ on. ap fault_of_load on) (λ off. ap fault_of_load off) c.in-On.is) refl refl refl
