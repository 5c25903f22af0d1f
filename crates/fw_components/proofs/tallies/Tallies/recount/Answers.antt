use Rattle.std.proofs.Common.{sym, subst, ◌∙◌, ℕ, List, None, map}
use Rattle.stream_law.specs.Ways.{on_way}
use Rattle.fw_places.proofs.Leaves.{zeros}
use Rattle.fw_units.specs.Units.{pipe_by}
use Rattle.fw_components.specs.Tables.{Tables, graph_of, streams_of}
use Rattle.fw_components.specs.Tally.{AreTold}
use Rattle.fw_components.proofs.HostWays.{all-seen}
use Rattle.fw_components.proofs.Tallying.{idle-tallied, no-params}
use Rattle.fw_components.proofs.tallies.Tallies.recount.Goals as goal

pub count_all-requires-clause-bare : goal.count_all-requires-clause-bare
count_all-requires-clause-bare c = record { running = zeros 256; live = zeros 256; params = λ k. no-params 256 k None }

pub returns-then-not-any_live : goal.returns-then-not-any_live
returns-then-not-any_live c = λ pipes. idle-tallied (record { comps = c.args.comps.now; buffers = c.args.buffers.now; pipes = pipes; joins = c.args.joins.now }) (sym c.any_live.ensures ∙ c.if-not-any_live.true) _ (record { running = zeros 256; live = zeros 256; params = λ k. no-params 256 k None })

pub returns : goal.returns
returns c = λ pipes.
    let t : Tables = record { comps = c.args.comps.now; buffers = c.args.buffers.now; pipes = pipes; joins = c.args.joins.now } in
    let ways = c.ways_over-ways.ensures (map pipe_by pipes) in
    subst (λ (ids : List ℕ). AreTold (on_way (graph_of t)) ids (streams_of t) c.count_all.new.self) ways.ids
    (c.count_all.ensures (graph_of t) ways (all-seen t c.requires.named))
