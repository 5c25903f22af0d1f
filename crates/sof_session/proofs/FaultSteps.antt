-- The rows of messages that fail while pipelines are made or unmade.
use Rattle.std.proofs.Common.{refl}
use Rattle.stream_law.specs.Ways.{reaches, is_echo, way_joins, ways_to, on_way, agree}
use Rattle.stream_law.specs.Joins.{would_cycle, stays}
use Rattle.sof_session.specs.FaultRows.{RefusedUnmakingCuts, LostUnmakingIsDown, RefusedCloseCuts, DroppedMakingIsDown}

pub refused-is : RefusedUnmakingCuts
unfolding reaches is_echo way_joins ways_to on_way would_cycle stays agree
refused-is = refl

pub lost-is : LostUnmakingIsDown
unfolding reaches is_echo way_joins ways_to on_way would_cycle stays agree
lost-is = refl

pub closed-is : RefusedCloseCuts
unfolding reaches is_echo way_joins ways_to on_way would_cycle stays agree
closed-is = refl

pub dropped-is : DroppedMakingIsDown
unfolding reaches is_echo way_joins ways_to on_way would_cycle stays agree
dropped-is = refl
