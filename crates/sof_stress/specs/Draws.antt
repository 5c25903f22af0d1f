-- The numbers that a stress draws, and the command that each makes.
use Rattle.std.specs.Prelude.{ℕ, zero, suc, ◌+◌, ◌*◌, ◌/◌, ◌%◌, ◌^◌, ◌==◌, negsuc, List, [], ◌∷◌, ◌++◌, map, codes, if◌then◌else◌}
use Rattle.std.specs.List.{flat_map, range_with_len}
use Rattle.sof_base.specs.declared.format.Format.TheVariants.{S16}
use Rattle.sof_script.specs.declared.script.Command.{Command}
use Rattle.sof_script.specs.declared.script.Command.TheVariants as commands

-- ---- numbers

-- the state after k draws, from a seed, of a linear congruential generator: that of C's `rand`
unfoldable pub state_at : ℕ → ℕ → ℕ
state_at seed zero = seed
state_at seed (suc k) = (state_at seed k * 1103515245 + 12345) % 2 ^ 31

-- the k-th number drawn, from 1: the upper bits of the state
abbrev pub drawn : ℕ → ℕ → ℕ
drawn seed k = state_at seed k / 65536

-- the streams of a stress by its seed: 1 to 4
abbrev pub stream_count : ℕ → ℕ
stream_count seed = 1 + seed % 4

-- ---- commands

-- a word and a digit: the names of a stream's widgets end in the stream's number
abbrev pub numbered_name : List ℕ → ℕ → List ℕ
numbered_name word i = word ++ (48 + i) ∷ []

-- the host of a stream, and its volume
abbrev pub host_name : ℕ → List ℕ
host_name i = numbered_name (codes "H") i

abbrev pub volume_name : ℕ → List ℕ
volume_name i = numbered_name (codes "V") i

-- The command that a number makes over so many streams: its lowest three bits choose what to do, and the bits above them the
-- stream and the amount.
abbrev pub command_by : ℕ → ℕ → Command
command_by streams r =
    let i = (r / 8) % streams in
    if r % 8 == 0 then commands.Tick (1 + (r / 8) % 10)
    else if r % 8 == 1 then commands.Start (host_name i)
    else if r % 8 == 2 then commands.Set (volume_name i) (((r / 64) % 33) ∷ [])
    else if r % 8 == 3 then commands.Pause (host_name i)
    else if r % 8 == 4 then commands.Release (host_name i)
    else if r % 8 == 5 then commands.Suspend
    else if r % 8 == 6 then commands.Resume
    else commands.Refuse 1 (negsuc 21)

-- a stream is opened, given its parameters, and started
abbrev pub opening : ℕ → List Command
opening i = commands.Open (host_name i) ∷ commands.Params (host_name i) (record { rate = 48000; channels = 2; format = S16 }) ∷ commands.Start (host_name i) ∷ []

-- All: the graph is loaded, each stream started, then come those of as many numbers as the seed says, and last four ticks.
abbrev pub stress_commands : ℕ → List Command
stress_commands seed =
    let streams = stream_count seed in
    commands.Load ∷ [] ++ flat_map opening (range_with_len 0 streams) ++ map (λ k. command_by streams (drawn seed k)) (range_with_len 1 seed) ++ commands.Tick 4 ∷ []
