use Rattle.std.proofs.Common.{length, sym, subst, refl, arith, rules}
use Rattle.sof_base.specs.Slots.{IsName}
use Rattle.tplg_build.proofs.OfProgram.{widget_head_is}
use Rattle.tplg_build.proofs.RecordSizes.{widget_size}
use Rattle.tplg_build.proofs.SmallLaws.{small-widget}
use Rattle.tplg_build.proofs.widgets.widget.Goals as goal

pub returns-clause-is : goal.returns-clause-is
returns-clause-is c =
    record {
      head = record {
        slots = widget_head_is c.number.result c.copied-name.result c.copied-sname.result (length c.in_ok-controls.controls) c.in_ok-tokens.tokens (search rules) (subst IsName (sym c.copied-name.ensures.value) c.copied-name.ensures.is_name) (subst IsName (sym c.copied-sname.ensures.value) c.copied-sname.ensures.is_name) (omega (arith, c.in_ok-controls.ensures.few)) (omega (arith, c.in_ok-tokens.ensures.short));
        words = refl;
        tokens = c.in_ok-tokens.ensures.are;
      };
      controls = c.in_ok-controls.ensures.are;
    }

pub returns-clause-short : goal.returns-clause-short
returns-clause-short c = omega (arith, widget_size _ (returns-clause-is c), c.in_ok-tokens.ensures.short, c.in_ok-controls.ensures.short)

pub arrays-requires : goal.arrays-requires
arrays-requires c = let small = small-widget c.args.stated.now c.requires in record { numbers = search (rules, small.numbers); texts = search (rules, small.texts) }

pub controls-requires : goal.controls-requires
controls-requires c = let small = small-widget c.args.stated.now c.requires in record { few = search (rules, small.controls); small = search (rules, small.small) }
