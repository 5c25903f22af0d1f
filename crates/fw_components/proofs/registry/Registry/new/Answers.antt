use Rattle.std.proofs.Common.{rules}
use Rattle.fw_components.proofs.KeptLaws.{empty-kept}
use Rattle.fw_components.proofs.Tallying.{none-tallied}
use Rattle.fw_components.proofs.registry.Registry.new.Goals as goal

pub invariant_of-result : goal.invariant_of-result
invariant_of-result c = record {
  comps = search rules;
  buffers = search rules;
  pipes = search rules;
  joins = search rules;
  kept = rw (c.in-Ok.ensures.items, c.in-Ok-with_capacity.ensures.items, c.in-Ok-with_capacity-2.ensures.items, c.in-Ok-with_capacity-3.ensures.items) empty-kept;
  tallied = rw (c.in-Ok.ensures.items, c.in-Ok-with_capacity.ensures.items, c.in-Ok-with_capacity-2.ensures.items, c.in-Ok-with_capacity-3.ensures.items) (none-tallied _);
}
