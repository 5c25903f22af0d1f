use Rattle.fw_components.proofs.SeenMoves.{tick-made, tick-outputs, tick-numbers, tick-places}
use Rattle.fw_components.proofs.laws.moves_are_ticks.Goals as goal

pub returns-clause-frames : goal.returns-clause-frames
returns-clause-frames c id n looked read t kind wide as_long = tick-made id n looked read t wide kind as_long

pub returns-clause-outputs : goal.returns-clause-outputs
returns-clause-outputs c id b frames t wide = tick-outputs id b frames t wide

pub returns-clause-numbers : goal.returns-clause-numbers
returns-clause-numbers c id n looked t kind wide = tick-numbers id n looked t wide kind

pub returns-clause-places : goal.returns-clause-places
returns-clause-places c id n looked t kind as_long = tick-places id n looked t kind as_long
