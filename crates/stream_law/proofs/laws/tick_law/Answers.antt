use Rattle.stream_law.proofs.TickLaw.{Stands-tick, bytes-tick}
use Rattle.stream_law.proofs.laws.tick_law.Goals as goal

pub returns : goal.returns
unfolding Stands-tick
returns c = λ f f' whole io io' moments before move playable. (Stands-tick f whole io moments before playable f' io' move, λ slot. bytes-tick f whole io moments before playable slot)
