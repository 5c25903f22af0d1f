use Rattle.fw_components.specs.Laid.{tables_of}
use Rattle.std.proofs.Common.{subst, ◌≤◌, sym}
use Rattle.fw_components.proofs.KeptLaws.{completed-kept}
use Rattle.fw_components.proofs.Tallying.{pipes-tallied}
use Rattle.fw_components.proofs.registry.Registry.set_complete.Goals as goal

pub invariant_of-self : goal.invariant_of-self
invariant_of-self c = record {
  comps = c.self.invariant.comps;
  buffers = c.self.invariant.buffers;
  pipes = subst (λ n. 32 ≤ n) (sym c.complete_in.ensures.capacity) c.self.invariant.pipes;
  joins = c.self.invariant.joins;
  kept = completed-kept (tables_of c.self.inside) c.self.invariant.kept c.args.id c.complete_in.new.components.items c.complete_in.ensures.items;
  tallied = pipes-tallied (tables_of c.self.inside) c.self.inside.tallies c.self.invariant.tallied c.complete_in.new.components.items;
}
