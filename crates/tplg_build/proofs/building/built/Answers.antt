use Rattle.std.proofs.Common.{rules}
use Rattle.tplg_model.specs.Arrays.{Each}
use Rattle.tplg_build.proofs.SmallLaws.{small-source}
use Rattle.tplg_build.proofs.building.built.Goals as goal

pub returns-clause-is : goal.returns-clause-is
unfolding Each
returns-clause-is c = c.in_ok-put_pcms.ensures.are (c.in_ok-put_routes.ensures.are (c.in_ok-put_widgets.ensures.are (rw c.new-blocks.ensures tt)))

pub put_widgets-requires : goal.put_widgets-requires
put_widgets-requires c = let small = small-source c.args.source.now c.requires in search (rules, small.small)

pub put_routes-requires : goal.put_routes-requires
put_routes-requires c = let small = small-source c.args.source.now c.requires in search (rules, small.routes)
