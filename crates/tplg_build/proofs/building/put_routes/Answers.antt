use Rattle.std.proofs.Common.{◌∷◌, []}
use Rattle.tplg_model.specs.Spelling.{IsBlock}
use Rattle.tplg_build.proofs.ArraySizes.{each_append, each_one}
use Rattle.tplg_build.proofs.building.put_routes.Goals as goal

pub returns-clause-are : goal.returns-clause-are
returns-clause-are c = rw c.in_ok-push.ensures.ok (λ all. each_append IsBlock c.args.blocks.now (c.in_ok-route_block.field-0 ∷ []) all (each_one IsBlock c.in_ok-route_block.field-0 c.in_ok-route_block.ensures.is))
