use Rattle.std.proofs.lemmas.Result.{err_from_is_err_and}
use Rattle.toml.specs.View.{table_view}
use Rattle.tplg_compile.proofs.CompileLaws.{shape-fault, source-found}
use Rattle.tplg_compile.proofs.StatedSizes.{short-numbered, stated-small}
use Rattle.tplg_compile.proofs.StatedCounts.{few-widgets-built, few-routes-built}
use Rattle.tplg_compile.proofs.compiling.unruled.Goals as goal

pub returns-in_err-source-clause-fault : goal.returns-in_err-source-clause-fault
returns-in_err-source-clause-fault c =
    let p = err_from_is_err_and c.from_residual-in_err-source.result c.from_residual-in_err-source.ensures.1 in
    rw (p.1, p.2) (shape-fault c.args.text.now (table_view c.in_ok-table.table) c.in_ok-table.ensures.ok c.in_err-source.field-0.0 c.in_err-source.ensures)

pub returns-clause-found : goal.returns-clause-found
returns-clause-found c =
    (table_view c.in_ok-table.table, c.in_ok-table.ensures.ok, source-found c.args.text.now (table_view c.in_ok-table.table) c.in_ok-table.ensures.ok c.in_ok-source.source c.in_ok-source.ensures c.in_ok-topology.topology c.in_ok-topology.ensures.value)

pub returns-clause-widgets : goal.returns-clause-widgets
returns-clause-widgets c =
    few-widgets-built c.in_ok-source.source c.in_ok-topology.topology (stated-small c.args.text.now (table_view c.in_ok-table.table) c.requires c.in_ok-table.ensures.ok c.in_ok-source.source c.in_ok-source.ensures) c.in_ok-topology.ensures.value

pub returns-clause-routes : goal.returns-clause-routes
returns-clause-routes c =
    few-routes-built c.in_ok-source.source c.in_ok-topology.topology (stated-small c.args.text.now (table_view c.in_ok-table.table) c.requires c.in_ok-table.ensures.ok c.in_ok-source.source c.in_ok-source.ensures) c.in_ok-topology.ensures.value

pub stated-requires : goal.stated-requires
stated-requires c = short-numbered c.args.text.now (table_view c.in_ok-table.table) c.requires c.in_ok-table.ensures.ok

pub built-requires : goal.built-requires
built-requires c = stated-small c.args.text.now (table_view c.in_ok-table.table) c.requires c.in_ok-table.ensures.ok c.in_ok-source.source c.in_ok-source.ensures
