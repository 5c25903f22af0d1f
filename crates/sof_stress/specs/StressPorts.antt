-- The inputs of a stress, by the ids of the hosts, and the slot of its one output, which is the DAI's id.
use Rattle.std.specs.Prelude.{ℕ, true, ◌+◌, ◌*◌, ◌%◌, List, map}
use Rattle.std.specs.List.{range_with_len}
use Rattle.sof_base.specs.Ports.{InputView}

-- after all streams' widgets come the mixer, a buffer, the equaliser, a buffer and the DAI
abbrev pub dai_slot : ℕ → ℕ
dai_slot streams = 5 * streams + 4

-- all bytes of a stream's input
unfoldable pub input_bytes : ℕ → List ℕ
input_bytes i = map (λ j. (7 * j + i) % 256) (range_with_len 0 4800)

-- the input of a stream, of which no more bytes come: a stream has five widgets, of which the first is its host
abbrev pub stream_input : ℕ → InputView
stream_input i = record { slot = 5 * i; position = 0; left = input_bytes i; ended = true }

-- those of each
abbrev pub stress_inputs : ℕ → List InputView
stress_inputs streams = map stream_input (range_with_len 0 streams)
