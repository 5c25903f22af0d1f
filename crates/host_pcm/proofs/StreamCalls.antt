-- Parameters that pass the tests of a stream's PCM.
use Rattle.std.proofs.Common.{◌≡◌, true, None}
use Rattle.std.specs.Prelude.{◌&&◌}
use Rattle.std.proofs.lemmas.Bool.{and_parts}
use Rattle.sof_base.specs.declared.format.Params.{Params}
use Rattle.mbox_link.specs.Step.{is_rate}
use Rattle.tplg_model.specs.declared.pcm.Caps.{Caps}
use Rattle.host_widgets.specs.HostRecord.{are_in_range}
use Rattle.host_pcm.specs.declared.asking.Ask.TheVariants.{Preparing}
use Rattle.host_pcm.specs.Asks.{range_fault}
use Rattle.host_pcm.specs.StreamRanges.{has_rate, has_channels, is_within}
use Rattle.host_pcm.proofs.HostTests.{tests}

-- parameters that pass the tests are in range
pub ranges : (caps : Caps) (p : Params) → range_fault caps (Preparing p) ≡ None → are_in_range p ≡ true
ranges caps p none =
    let rate = tests (has_rate caps p.rate) _ _ none in
    let channels = tests (has_channels caps p.channels) _ _ rate.1 in
    let is_rate_so = (and_parts (is_rate p.rate) (is_within caps.rate_min caps.rate_max p.rate) rate.0).0 in
    let few = (and_parts (is_within 1 8 p.channels) (is_within caps.channels_min caps.channels_max p.channels) channels.0).0 in
    λ i. is_rate_so i && few i
