use Rattle.std.proofs.Common.{length, arith, ap, subst}
use Rattle.tplg_model.specs.declared.block.Body.TheVariants.{Manifests, Widgets, Routes, Pcms}
use Rattle.tplg_model.specs.Storable.{IsStorable}
use Rattle.tplg_model.proofs.CountLaws.{count_fits}
use Rattle.tplg_write.proofs.blocks.kind_and_count.Goals as goal

pub overflow_cast-result : goal.overflow_cast-result
overflow_cast-result c = omega (arith, count_fits (Manifests c.in-Manifests.manifests) (subst IsStorable c.in-Manifests.is c.requires) tt, ap length c.items.ensures)

pub overflow_cast-result-in-Widgets : goal.overflow_cast-result-in-Widgets
overflow_cast-result-in-Widgets c = omega (arith, count_fits (Widgets c.in-Widgets.widgets) (subst IsStorable c.in-Widgets.is c.requires) tt, ap length c.items-in-Widgets.ensures)

pub overflow_cast-result-in-Routes : goal.overflow_cast-result-in-Routes
overflow_cast-result-in-Routes c = omega (arith, count_fits (Routes c.in-Routes.routes) (subst IsStorable c.in-Routes.is c.requires) tt, ap length c.items-in-Routes.ensures)

pub overflow_cast-result-in-Pcms : goal.overflow_cast-result-in-Pcms
overflow_cast-result-in-Pcms c = omega (arith, count_fits (Pcms c.in-Pcms.pcms) (subst IsStorable c.in-Pcms.is c.requires) tt, ap length c.items-in-Pcms.ensures)

pub returns-in-Manifests-clause-fit : goal.returns-in-Manifests-clause-fit
returns-in-Manifests-clause-fit c = rw (c.in-Manifests.is) (omega arith, count_fits (Manifests c.in-Manifests.manifests) (subst IsStorable c.in-Manifests.is c.requires) tt)

pub returns-in-Widgets-clause-fit : goal.returns-in-Widgets-clause-fit
returns-in-Widgets-clause-fit c = rw (c.in-Widgets.is) (omega arith, count_fits (Widgets c.in-Widgets.widgets) (subst IsStorable c.in-Widgets.is c.requires) tt)

pub returns-in-Routes-clause-fit : goal.returns-in-Routes-clause-fit
returns-in-Routes-clause-fit c = rw (c.in-Routes.is) (omega arith, count_fits (Routes c.in-Routes.routes) (subst IsStorable c.in-Routes.is c.requires) tt)

pub returns-in-Pcms-clause-fit : goal.returns-in-Pcms-clause-fit
returns-in-Pcms-clause-fit c = rw (c.in-Pcms.is) (omega arith, count_fits (Pcms c.in-Pcms.pcms) (subst IsStorable c.in-Pcms.is c.requires) tt)
