-- What the host does to a device: acts, each of which is one message, and what the record says after one that passed.
use Rattle.std.specs.Prelude.{ℕ, List, Bool, true, false, Option, Some, None, if◌then◌else◌}
use Rattle.sof_base.specs.declared.format.Params.{Params}
use Rattle.stream_law.specs.Ways.{is_of}
use Rattle.stream_law.specs.Seen.{is_volume}
use Rattle.tplg_plan.specs.declared.plans.Plan.{Plan}
use Rattle.host_widgets.specs.declared.kept.Found.{Found}
use Rattle.host_widgets.specs.declared.kept.Found.TheVariants.{Prepared, Running, Paused}
use Rattle.host_widgets.specs.declared.kept.StreamRec.{StreamRec}
use Rattle.host_widgets.specs.declared.trigger.Trigger.{Trigger}
use Rattle.host_widgets.specs.declared.trigger.Trigger.TheVariants.{Start, Stop, Pause, Release}
use Rattle.host_widgets.specs.HostRecord.{closed}
use Rattle.host_widgets.specs.declared.kept.Record.{Record}
use Rattle.host_widgets.specs.declared.kept.ControlRec.{ControlRec}
use Rattle.host_widgets.specs.Kept.{with_stream, with_control}
use Rattle.mbox_link.specs.BlobParts.{is_last}

-- an act, by the ids that it is about; a stream by that of its host component, a control by that of its component
pub data Act : Type 0 where
  Make : (id : ℕ) → Act  -- a widget is made
  Join : (source sink : ℕ) → Act  -- a buffer and a component are joined
  Put : (comp : ℕ) (values : List ℕ) → Act  -- a volume, a mux or a demux has these values, by channel or by output
  Part : (comp : ℕ) (blob : List ℕ) (k : ℕ) → Act  -- an equaliser gets the k-th part of a blob
  Finish : (id : ℕ) → Act  -- a pipeline is complete
  Prepare : (host : ℕ) (params : Params) → Act  -- a stream has parameters
  Trig : (host : ℕ) (what : Trigger) → Act  -- a stream is triggered
  Free : (host : ℕ) → Act  -- a stream is without parameters
  Save : Act  -- the power will be cut
  Ask : (comp k : ℕ) → Act  -- a control's values, or the k-th part of its blob, are asked for
  Unmake : (id : ℕ) → Act  -- what this id names is unmade

-- ---- the record after an act that passed

abbrev pub prepared_stream : Params → StreamRec → StreamRec
prepared_stream params r = record { found = Prepared; params = Some params }

abbrev pub triggered_found : Trigger → Found
triggered_found Start = Running
triggered_found Stop = Prepared
triggered_found Pause = Paused
triggered_found Release = Running

abbrev pub triggered_stream : Trigger → StreamRec → StreamRec
triggered_stream what r = record { found = triggered_found what; params = r.params }

abbrev pub with_values : List ℕ → ControlRec → ControlRec
with_values values c = record { values = values; blob = c.blob }

abbrev pub with_blob : List ℕ → ControlRec → ControlRec
with_blob blob c = record { values = c.values; blob = blob }

-- streams are what acts on streams make of them, a control has its values, and its blob with the last part
abbrev pub after : Plan → Act → Record → Record
after plan (Prepare host params) kept = with_stream plan host (prepared_stream params) kept
after plan (Trig host what) kept = with_stream plan host (triggered_stream what) kept
after plan (Free host) kept = with_stream plan host (λ r. closed) kept
after plan (Put comp values) kept = with_control plan comp (with_values values) kept
after plan (Part comp blob k) kept = if is_last blob k then with_control plan comp (with_blob blob) kept else kept
after plan act kept = kept

-- the equaliser whose blob comes in force, or the volume whose gains do
abbrev pub fresh_by : ℕ → Bool → Option ℕ
fresh_by comp true = Some comp
fresh_by comp false = None

abbrev pub fresh_in : Plan → Act → Option ℕ
fresh_in plan (Part comp blob k) = fresh_by comp (is_last blob k)
fresh_in plan (Put comp values) = fresh_by comp (is_of plan.graph is_volume comp)
fresh_in plan act = None
