-- The parameters that a stream may have, by what its PCM can do.
use Rattle.std.specs.Prelude.{ℕ, Bool, ◌&&◌, ◌==◌, not, nat_le, Option, Some, None, if◌then◌else◌}
use Rattle.std.specs.Int.{bit_at}
use Rattle.sof_base.specs.declared.format.Format.{Format}
use Rattle.sof_base.specs.declared.format.Format.TheVariants.{S16, S24, S32}
use Rattle.sof_base.specs.declared.format.Params.{Params}
use Rattle.mbox_link.specs.Step.{is_rate}
use Rattle.tplg_model.specs.declared.pcm.Caps.{Caps}
use Rattle.host_widgets.specs.declared.answers.HostFault.{HostFault}
use Rattle.host_widgets.specs.declared.answers.HostFault.TheVariants.{Range}

-- a number from a least to a most
abbrev pub is_within : ℕ → ℕ → ℕ → Bool
is_within least most n = nat_le least n && nat_le n most

-- frames a second: a rate of a stream that the PCM can do
abbrev pub has_rate : Caps → ℕ → Bool
has_rate caps rate = is_rate rate && is_within caps.rate_min caps.rate_max rate

-- samples a frame: 1 to 8 that the PCM can do
abbrev pub has_channels : Caps → ℕ → Bool
has_channels caps channels = is_within 1 8 channels && is_within caps.channels_min caps.channels_max channels

-- ALSA's number of a format, which is its bit in the caps
abbrev pub alsa_number : Format → ℕ
alsa_number S16 = 2
alsa_number S24 = 6
alsa_number S32 = 10

-- a format that the PCM can do
abbrev pub has_format : Caps → Format → Bool
has_format caps format = bit_at caps.formats (alsa_number format) == 1

-- the first of rate, channels and format that the stream may not have
abbrev pub params_fault : Caps → Params → Option HostFault
params_fault caps p =
    if not (has_rate caps p.rate) then Some (Range p.rate)
    else if not (has_channels caps p.channels) then Some (Range p.channels)
    else if not (has_format caps p.format) then Some (Range (alsa_number p.format))
    else None
