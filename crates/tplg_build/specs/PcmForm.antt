-- The PCM that a source states: its names, its numbers, the caps of its directions, and zeros.
use Rattle.std.specs.Prelude.{ℕ, List, [], Option, Some, None, is_some, if◌then◌else◌, replicate}
use Rattle.tplg_model.specs.declared.block.Route.{Route}
use Rattle.tplg_model.specs.declared.pcm.Caps.{Caps}
use Rattle.tplg_model.specs.declared.pcm.StreamRecord.{StreamRecord}
use Rattle.tplg_model.specs.declared.pcm.Pcm.{Pcm}
use Rattle.tplg_build.specs.declared.source.PcmLimits.{PcmLimits}
use Rattle.tplg_build.specs.declared.source.SourcePcm.{SourcePcm}
use Rattle.tplg_build.specs.declared.source.SourceRoute.{SourceRoute}

-- a route has no control
abbrev pub route_of : SourceRoute → Route
route_of r = record { sink = r.sink; control = []; source = r.source }

-- caps of a name have the PCM's limits
abbrev pub caps_with : List ℕ → PcmLimits → Caps
caps_with name limits = record {
  name = name;
  formats = limits.formats;
  rates = 0;
  rate_min = limits.rate_min;
  rate_max = limits.rate_max;
  channels_min = limits.channels_min;
  channels_max = limits.channels_max;
  periods_min = 0;
  periods_max = 0;
  period_size_min = 0;
  period_size_max = 0;
  buffer_size_min = 0;
  buffer_size_max = 0;
  sig_bits = 0;
}

abbrev pub no_limits : PcmLimits
no_limits = record { formats = 0; rate_min = 0; rate_max = 0; channels_min = 0; channels_max = 0 }

-- a direction that is absent has zero caps
abbrev pub caps_of : PcmLimits → Option (List ℕ) → Caps
caps_of limits None = caps_with [] no_limits
caps_of limits (Some name) = caps_with name limits

-- the word that tells whether a direction is there
abbrev pub flag_of : Option (List ℕ) → ℕ
flag_of name = if is_some name then 1 else 0

-- eight empty stream records
abbrev pub empty_streams : List StreamRecord
empty_streams = replicate 8 (record { name = []; format = 0; rate = 0; period_bytes = 0; buffer_bytes = 0; channels = 0 })

-- its DAI's name and number are its own
abbrev pub pcm_of : SourcePcm → Pcm
pcm_of p = record {
  name = p.name;
  dai_name = p.name;
  pcm_id = p.id;
  dai_id = p.id;
  playback = flag_of p.playback;
  capture = flag_of p.capture;
  compress = 0;
  streams = empty_streams;
  num_streams = 0;
  play = caps_of p.limits p.playback;
  cap = caps_of p.limits p.capture;
  flag_mask = 0;
  flags = 0;
  private = [];
}
