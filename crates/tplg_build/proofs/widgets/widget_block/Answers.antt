use Rattle.std.proofs.Common.{lit<, arith}
use Rattle.tplg_model.specs.Spelling.{IsWidget}
use Rattle.tplg_build.proofs.ArraySizes.{each_one}
use Rattle.tplg_build.proofs.RecordSizes.{one_widget}
use Rattle.tplg_build.proofs.widgets.widget_block.Goals as goal

pub block-requires : goal.block-requires
block-requires c =
    let w = c.in_ok-widget.widget in
    rw (c.in_ok-push.ensures.ok, c.new-widgets.ensures) (record {
      records = each_one IsWidget w c.in_ok-widget.ensures.is;
      sound = record { size = omega (arith, one_widget w, c.in_ok-widget.ensures.short); kept = tt };
      kind = lit< tt;
      count = lit< tt;
    })
