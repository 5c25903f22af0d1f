use Rattle.std.proofs.Common.{◌≡◌, length, ap, ◌∙◌, lit<, arith}
use Rattle.std.proofs.lemmas.List.{length-map}
use Rattle.tplg_build.specs.PcmForm.{route_of}
use Rattle.tplg_build.proofs.RecordSizes.{routes_size}
use Rattle.tplg_build.proofs.routes.route_block.Goals as goal

pub block-requires : goal.block-requires
block-requires c =
    let rs = c.in_ok-routes.field-0 in
    let count : length rs ≡ length c.args.stated.now = ap length c.in_ok-routes.ensures.value ∙ length-map c.args.stated.now route_of in
    record {
      records = c.in_ok-routes.ensures.are;
      sound = record { size = omega (arith, routes_size rs c.in_ok-routes.ensures.are, count, c.requires); kept = tt };
      kind = lit< tt;
      count = omega (arith, count, c.requires);
    }
