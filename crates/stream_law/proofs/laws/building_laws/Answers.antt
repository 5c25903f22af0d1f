use Rattle.std.proofs.Common.{refl, sym, ◌∙◌}
use Rattle.stream_law.specs.Past.{start}
use Rattle.stream_law.proofs.Standing.{Leads-now_view}
use Rattle.stream_law.proofs.Building.{Stands-building, Stands-now_building, Stands-tick_building, Stands-built, bytes-tick_building}
use Rattle.stream_law.proofs.laws.building_laws.Goals as goal

pub returns : goal.returns
unfolding Stands-building Stands-now_building Stands-built
returns c = record {
  begins = λ f whole inputs moments before silent. (Stands-building f whole inputs moments before silent, refl);
  now = λ f f' v fresh whole inputs moments before sees silent agrees. (Stands-now_building f f' v fresh whole inputs moments before sees silent agrees, refl);
  tick = λ f f' whole io io' moments before move. (Stands-tick_building f f' whole io io' moments before move, λ slot. bytes-tick_building f f' whole io io' moments before move slot);
  ends = λ f v fresh whole inputs moments before same. (Stands-built f whole inputs _ before (same ∙ sym (Leads-now_view whole start before.past moments v fresh before.led)), refl);
}
