use Rattle.fw_components.specs.Laid.{tables_of}
use Rattle.std.proofs.Common.{subst, ◌≤◌, sym}
use Rattle.fw_components.proofs.KeptLaws.{ended-kept}
use Rattle.fw_components.proofs.TallyKept.{ended-tallied}
use Rattle.fw_components.proofs.registry.Registry.end.Goals as goal

pub invariant_of-self : goal.invariant_of-self
invariant_of-self c = record {
  comps = c.self.invariant.comps;
  buffers = subst (λ n. 128 ≤ n) (sym c.end_in.ensures.capacity) c.self.invariant.buffers;
  pipes = c.self.invariant.pipes;
  joins = c.self.invariant.joins;
  kept = ended-kept (tables_of c.self.inside) c.self.invariant.kept c.args.buffer c.end_in.new.components.items c.end_in.ensures.items;
  tallied = ended-tallied (tables_of c.self.inside) c.self.inside.tallies c.self.invariant.tallied c.args.buffer c.end_in.new.components.items c.end_in.ensures.items;
}
