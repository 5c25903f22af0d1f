-- The host's record of a stream: what it may be, before anything was asked of it, and after the link failed.
use Rattle.std.specs.Prelude.{[], Bool, true, false, ◌&&◌, nat_le, Option, Some, None}
use Rattle.sof_base.specs.declared.format.Params.{Params}
use Rattle.mbox_link.specs.Step.{is_rate}
use Rattle.tplg_model.specs.declared.pcm.Caps.{Caps}
use Rattle.tplg_plan.specs.declared.plans.StreamPlan.{StreamPlan}
use Rattle.host_widgets.specs.declared.kept.Found.{Found}
use Rattle.host_widgets.specs.declared.kept.Found.TheVariants.{Closed, Open, Prepared, Running, Paused}
use Rattle.host_widgets.specs.declared.kept.StreamRec.{StreamRec}

-- frames a second and samples a frame that a stream may have: a rate of a stream, and 1 to 8
abbrev pub are_in_range : Params → Bool
are_in_range p = is_rate p.rate && (nat_le 1 p.channels && nat_le p.channels 8)

-- whether a stream that stands so may have these parameters: none while it is closed or open, else some in range
abbrev pub may_have : Found → Option Params → Bool
may_have Closed None = true
may_have Open None = true
may_have Prepared (Some p) = are_in_range p
may_have Running (Some p) = are_in_range p
may_have Paused (Some p) = are_in_range p
may_have found params = false

-- a stream that is closed has no parameters
abbrev pub closed : StreamRec
closed = record { found = Closed; params = None }

-- what no PCM can do
abbrev pub no_caps : Caps
no_caps = record {
  name = [];
  formats = 0;
  rates = 0;
  rate_min = 0;
  rate_max = 0;
  channels_min = 0;
  channels_max = 0;
  periods_min = 0;
  periods_max = 0;
  period_size_min = 0;
  period_size_max = 0;
  buffer_size_min = 0;
  buffer_size_max = 0;
  sig_bits = 0;
}

-- no stream: a plan has a host for each of its streams
abbrev pub no_stream : StreamPlan
no_stream = record { host = 0; capture = false; caps = no_caps }

-- a stream that was Running or Paused is Prepared
abbrev pub halted_found : Found → Found
halted_found Running = Prepared
halted_found Paused = Prepared
halted_found found = found

abbrev pub halted : StreamRec → StreamRec
halted r = record { found = halted_found r.found; params = r.params }
