-- Worked rows of SET_DATA and GET_DATA, which the definitions give by computing alone.
use Rattle.std.proofs.Common.{◌≡◌, refl, ℕ, List, [], ◌∷◌, ◌++◌, take, replicate, true, Some, Ok, Err, ℤ, pos}
use Rattle.sof_base.specs.Slots.{words_bytes, word_at, zeros}
use Rattle.sof_base.specs.BlobFaults.{blob_fault}
use Rattle.sof_base.specs.declared.part.Part.{Part}
use Rattle.sof_base.specs.declared.format.Format.TheVariants.{S32}
use Rattle.stream_law.specs.declared.graph.Kind.TheVariants.{HostPlay, Eq}
use Rattle.stream_law.specs.declared.graph.Setting.TheVariants.{Nothing, Blob}
use Rattle.stream_law.specs.declared.stream.Phase.TheVariants.{Running}
use Rattle.stream_law.specs.State.{FwState, Staging}
use Rattle.stream_law.specs.Ways.{reaches, is_echo, way_joins, ways_to, on_way, live, channels_of}
use Rattle.stream_law.specs.Seen.{flows}
use Rattle.stream_law.specs.Equaliser.{sections_of}
use Rattle.mbox_link.specs.Step.{invalid, no_device, part_at, set_data, get_data}

-- a host of id 0, a buffer of id 2 and an equaliser of id 1 with this blob, on the way of a running stream of one channel
abbrev playing : List ℕ → List ℤ → List Staging → FwState
playing blob numbers staging = record {
  heap = record { holes = []; pieces = [] };
  clock = 0;
  graph = record {
    comps = record { id = 0; kind = HostPlay; pipe = 1; setting = Nothing; ramp = 0 } ∷ record { id = 1; kind = Eq; pipe = 1; setting = Blob blob; ramp = 0 } ∷ [];
    edges = record { buffer = 2; pipe = 1; size = 384; source = Some 0; sink = Some 1 } ∷ [];
    pipes = record { id = 3; index = 1; sched = 0; period = 1000; complete = true } ∷ [];
    joins = record { source = 0; sink = 2 } ∷ record { source = 2; sink = 1 } ∷ [];
  };
  streams = record { host = 0; phase = Running; params = Some (record { rate = 48000; channels = 1; format = S32 }) } ∷ [];
  rings = record { buffer = 2; frames = (pos 9 ∷ []) ∷ [] } ∷ [];
  histories = record { comp = 1; numbers = numbers } ∷ [];
  staging = staging;
}

-- 32 bytes
abbrev header : ℕ → List ℕ
header n = n ∷ replicate 31 0

abbrev a_part : (index remaining : ℕ) (first : ℕ) (bytes : List ℕ) → Part
a_part index remaining first bytes = record { header = header first; remaining = remaining; index = index; bytes = bytes }

-- what is staged at the equaliser after this many parts
abbrev staged : (next remaining : ℕ) (bytes : List ℕ) → List Staging
staged next remaining bytes = record { eq = 1; bytes = bytes; next = next; remaining = remaining } ∷ []

-- ---- parts of 260, 260 and 200 bytes

-- the first and the second are staged
first : set_data (playing [] [] []) 1 (a_part 0 460 7 (replicate 260 5)) ≡ Ok (playing [] [] (staged 1 460 (header 7 ++ replicate 260 5)))
first = refl

second : set_data (playing [] [] (staged 1 460 (header 7 ++ replicate 260 5))) 1 (a_part 1 200 7 (replicate 260 6)) ≡ Ok (playing [] [] (staged 2 200 (header 7 ++ replicate 260 5 ++ replicate 260 6)))
second = refl

-- part 0 begins anew
anew : set_data (playing [] [] (staged 2 200 (header 7 ++ replicate 260 5 ++ replicate 260 6))) 1 (a_part 0 30 8 (replicate 260 9)) ≡ Ok (playing [] [] (staged 1 30 (header 8 ++ replicate 260 9)))
anew = refl

-- the third after the first, the second before it, the second with another header, and the second where another number remains
out_of_order : set_data (playing [] [] (staged 1 460 (header 7 ++ replicate 260 5))) 1 (a_part 2 0 7 (replicate 200 6)) ≡ Err invalid
out_of_order = refl

without_first : set_data (playing [] [] []) 1 (a_part 1 200 7 (replicate 260 6)) ≡ Err invalid
without_first = refl

other_header : set_data (playing [] [] (staged 1 460 (header 7 ++ replicate 260 5))) 1 (a_part 1 200 8 (replicate 260 6)) ≡ Err invalid
other_header = refl

other_length : set_data (playing [] [] (staged 1 460 (header 7 ++ replicate 260 5))) 1 (a_part 1 201 7 (replicate 260 6)) ≡ Err invalid
other_length = refl

-- a part of 259 bytes that is not the last, and 993 bytes in all
short : set_data (playing [] [] []) 1 (a_part 0 461 7 (replicate 259 5)) ≡ Err invalid
short = refl

too_long : set_data (playing [] [] []) 1 (a_part 0 733 7 (replicate 260 5)) ≡ Err invalid
too_long = refl

-- the last part of what is no blob; and parts for a host, and for nothing
no_blob : set_data (playing [] [] (staged 2 200 (header 7 ++ replicate 520 0))) 1 (a_part 2 0 7 (replicate 200 0)) ≡ Err invalid
unfolding blob_fault word_at
no_blob = refl

for_host : set_data (playing [] [] []) 0 (a_part 0 460 7 (replicate 260 5)) ≡ Err invalid
for_host = refl

for_nothing : set_data (playing [] [] []) 9 (a_part 0 460 7 (replicate 260 5)) ≡ Err no_device
for_nothing = refl

-- ---- a blob of 116 bytes: one channel, one response of one section that passes its input

abbrev blob_header : List ℕ
blob_header = words_bytes (4607827 ∷ 0 ∷ 84 ∷ zeros 5)

abbrev blob_rest : List ℕ
blob_rest = words_bytes (0 ∷ 1 ∷ 1 ∷ (zeros 4 ++ 0 ∷ 1 ∷ 1 ∷ (zeros 4 ++ 0 ∷ 0 ∷ 0 ∷ 0 ∷ 1073741824 ∷ 0 ∷ 16384 ∷ [])))

-- its only part puts it in force: an epoch begins with two zeros, and nothing is staged
installed : set_data (playing [] (pos 3 ∷ pos 4 ∷ pos 5 ∷ pos 6 ∷ []) (staged 1 460 (header 7 ++ replicate 260 5))) 1 (record { header = blob_header; remaining = 0; index = 0; bytes = blob_rest }) ≡ Ok (playing (blob_header ++ blob_rest) (pos 0 ∷ pos 0 ∷ []) [])
unfolding blob_fault word_at words_bytes reaches is_echo way_joins ways_to on_way live channels_of flows sections_of
installed = refl

-- a byte less is no blob
cut_short : set_data (playing [] [] []) 1 (record { header = blob_header; remaining = 0; index = 0; bytes = take 83 blob_rest }) ≡ Err invalid
unfolding blob_fault word_at words_bytes
cut_short = refl

-- ---- GET_DATA: a blob of 32, 260 and 40 bytes has two parts

given_first : part_at (playing (header 7 ++ replicate 260 5 ++ replicate 40 6) [] []).graph 1 0 ≡ Some (a_part 0 40 7 (replicate 260 5))
given_first = refl

given_last : part_at (playing (header 7 ++ replicate 260 5 ++ replicate 40 6) [] []).graph 1 1 ≡ Some (a_part 1 0 7 (replicate 40 6))
given_last = refl

past_the_last : get_data (playing (header 7 ++ replicate 260 5 ++ replicate 40 6) [] []) 1 2 ≡ Err invalid
past_the_last = refl

nothing_in_force : get_data (playing [] [] []) 1 0 ≡ Err invalid
nothing_in_force = refl
