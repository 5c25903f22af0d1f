-- What counts of the caps of a stream: the formats that scripts and sources name, and the bounds of rates and channels.
use Rattle.std.specs.Prelude.{Bool, ◌&&◌, ◌==◌, bit_and}
use Rattle.tplg_model.specs.declared.pcm.Caps.{Caps}
use Rattle.tplg_build.specs.declared.source.PcmLimits.{PcmLimits}

-- of formats the bits 2, 6 and 10
abbrev pub limits_in : Caps → PcmLimits
limits_in c = record {
  formats = bit_and c.formats 1092;
  rate_min = c.rate_min;
  rate_max = c.rate_max;
  channels_min = c.channels_min;
  channels_max = c.channels_max;
}

abbrev pub same_limits : PcmLimits → PcmLimits → Bool
same_limits a b =
    (a.formats == b.formats) && ((a.rate_min == b.rate_min) && ((a.rate_max == b.rate_max) && ((a.channels_min == b.channels_min) && (a.channels_max == b.channels_max))))
