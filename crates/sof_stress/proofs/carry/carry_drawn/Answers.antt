use Rattle.std.proofs.Common.{◌≡◌, ℕ, List, ◌+◌, ◌*◌, ◌/◌, ◌^◌, ◌∷◌, [], map, length, ap, refl, ◌∙◌, subst, add-one, arith}
use Rattle.std.specs.List.{range_with_len}
use Rattle.std.proofs.lemmas.List.FromFn.{length-map-range_with_len}
use Rattle.sof_script.specs.declared.script.Command.{Command}
use Rattle.sof_stress.specs.CarriedTurns.{CommandsCarried}
use Rattle.sof_stress.specs.Draws.{state_at, drawn, command_by, stream_count}
use Rattle.sof_stress.specs.CarriedTurns.{next_state}
use Rattle.sof_stress.proofs.Ranges.{map-more}
use Rattle.sof_stress.proofs.CarrySteps.{counts-mono, none-yet, one-carried, and-then}
use Rattle.sof_stress.proofs.carry.carry_drawn.Goals as goal

-- the command of a number
abbrev drawn_command : ℕ → ℕ → Command
drawn_command seed k = command_by (stream_count seed) (drawn seed k)

pub loop-init : goal.loop-init
unfolding state_at
loop-init g c = record { state = refl; bound = omega (arith, c.requires.few); so_far = none-yet g.P.Dsp.means c.args.slot _ _ _ _ c.requires.under_way.empty }

pub carry_command-requires-clause-few : goal.carry_command-requires-clause-few
carry_command-requires-clause-few g c =
    let length_is = length-map-range_with_len (drawn_command c.args.seed) 1 c.loop.counter in
    omega (arith, c.loop.invariant.so_far.sent, c.requires.under_way.sent, length_is, c.loop-test.true, c.requires.few)

pub carry_command-requires-clause-counts : goal.carry_command-requires-clause-counts
carry_command-requires-clause-counts g c =
    let length_is = length-map-range_with_len (drawn_command c.args.seed) 1 c.loop.counter in
    let so_far = map (drawn_command c.args.seed) (range_with_len 1 c.loop.counter) in
    counts-mono (10 * 2 ^ 16 + 10 * length so_far) (2 ^ 30) _ (omega (arith, length_is, c.loop-test.true, c.requires.few)) (c.loop.invariant.so_far.counted (10 * 2 ^ 16) c.requires.under_way.counted)

pub loop-preserved : goal.loop-preserved
unfolding state_at
loop-preserved g c =
    let seed = c.args.seed in
    let n = c.loop.counter in
    let next : c.next_state-state.result ≡ state_at seed (n + 1) = rw add-one (c.next_state-state.ensures.next ∙ ap next_state c.loop.invariant.state) in
    let same : n + 1 ≡ 1 + n = omega arith in
    let at : c.next_state-state.result ≡ state_at seed (1 + n) = next ∙ ap (state_at seed) same in
    let made : command_by c.streams_of-streams.result (c.next_state-state.result / 65536) ≡ drawn_command seed (1 + n) = λ k. command_by (c.streams_of-streams.ensures.streams k) (at k / 65536) in
    let here = one-carried g.P.Dsp.means c.args.slot _ (drawn_command seed (1 + n)) (c.command_by-command.ensures ∙ made) c.carry_command.ensures.carried c.carry_command.ensures.sent c.carry_command.ensures.slots c.carry_command.ensures.empty c.carry_command.ensures.counts in
    record {
      state = next;
      bound = c.next_state-state.ensures.bound;
      so_far =
          subst (λ (cs : List Command). CommandsCarried g.P.Dsp.means c.args.slot cs c.args.session.now c.args.inputs.now c.args.outputs.now c.args.counts.now c.carry_command.new.session c.carry_command.new.inputs c.carry_command.new.outputs c.carry_command.new.counts)
          (map-more (drawn_command seed) [] 1 n)
          (and-then g.P.Dsp.means c.args.slot (map (drawn_command seed) (range_with_len 1 n)) (drawn_command seed (1 + n) ∷ []) c.loop.invariant.so_far here);
    }

pub returns : goal.returns
returns g c =
    let all : c.loop.counter ≡ c.args.seed = omega (arith, c.loop-test.false) in
    subst (λ (n : ℕ). CommandsCarried g.P.Dsp.means c.args.slot (map (drawn_command c.args.seed) (range_with_len 1 n)) c.args.session.now c.args.inputs.now c.args.outputs.now c.args.counts.now c.loop.session c.loop.inputs c.loop.outputs c.loop.counts)
    all c.loop.invariant.so_far
