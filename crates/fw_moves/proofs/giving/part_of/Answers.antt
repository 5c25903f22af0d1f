use Rattle.std.proofs.Common.{sym, ap, ◌∙◌, subst, List, ℤ, get_or}
use Rattle.fw_demux.specs.Splits.{all_kept}
use Rattle.fw_units.specs.declared.component.Unit as units
use Rattle.fw_moves.specs.Processed.{IsLevel, output_number}
use Rattle.fw_moves.specs.Moving.{output_samples}
use Rattle.fw_moves.proofs.giving.part_of.Goals as goal

pub mask_of-requires : goal.mask_of-requires
mask_of-requires c = subst IsLevel c.in-Demux.is c.requires.level

pub split-requires-clause-lengths : goal.split-requires-clause-lengths
split-requires-clause-lengths c = sym c.requires.kept

pub returns-in-Demux : goal.returns-in-Demux
returns-in-Demux c =
    let channels = c.args.component.now.channels in let made : List ℤ = c.args.made.now in let number = output_number c.args.joins.now c.args.component.now.id c.args.outlet in
    c.split.ensures
    ∙ ap (λ k. all_kept channels k made) (c.mask_of.ensures.mask ∙ ap (λ n. get_or c.in-Demux.masks n 0) c.output_number-number.ensures)
    ∙ ap (λ (u : units.Unit). output_samples u channels number made) (sym c.in-Demux.is)
