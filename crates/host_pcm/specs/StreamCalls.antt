-- What a call on a stream does by its test.
use Rattle.std.specs.Prelude.{◌≡◌, ℕ, List, Some, None, Err, set, get_or}
use Rattle.mbox_link.specs.Calls.{World, Meaning}
use Rattle.tplg_plan.specs.declared.plans.Plan.{Plan}
use Rattle.host_widgets.specs.declared.answers.HostFault.{HostFault}
use Rattle.host_widgets.specs.declared.kept.Record.{Record}
use Rattle.host_widgets.specs.Host.{Outcome}
use Rattle.host_widgets.specs.Orders.{Carried, Procedure}
use Rattle.host_pcm.specs.declared.asking.Ask.{Ask}
use Rattle.host_pcm.specs.Asks.{early_fault, stream_at}
use Rattle.host_pcm.specs.StreamOrders.{stream_order, asking_order}
use Rattle.host_widgets.specs.declared.kept.StreamRec.{StreamRec}
use Rattle.host_widgets.specs.declared.kept.Found.TheVariants.{Open}
use Rattle.host_widgets.specs.HostRecord.{closed, no_stream}
use Rattle.tplg_model.specs.declared.pcm.Caps.{Caps}

-- what the PCM of the stream at a place can do
abbrev pub stream_caps : Plan → ℕ → Caps
stream_caps plan k = (get_or plan.streams k no_stream).caps

abbrev pub opened_stream : StreamRec → StreamRec
opened_stream r = record { found = Open; params = None }

abbrev pub shut : StreamRec → StreamRec
shut r = closed

-- the host of the stream at a place
abbrev pub host_at : Plan → ℕ → ℕ
host_at plan k = (get_or plan.streams k no_stream).host

-- of the stream at a place
abbrev pub place_order : Plan → Record → ℕ → Ask → Procedure
place_order plan kept k ask = asking_order plan kept (host_at plan k) (stream_at kept k).found ask

-- the record with another stream at a place
abbrev pub with_stream_at : ℕ → StreamRec → Record → Record
with_stream_at k r kept = record { power = kept.power; streams = set kept.streams k r; controls = kept.controls }

-- a call on the stream of a name: the first test that fails is answered, with nothing changed and no call made; else its order
-- is carried out
pub record Asked {D : Type 0} (means : Meaning D) (plan : Plan) (heap : ℕ) (name : List ℕ) (ask : Ask) (kept kept' : Record) (w v : World D) (result : Outcome) : Type 0 where
  pub early : (fault : HostFault) → early_fault plan kept name ask ≡ Some fault → (result ≡ Err fault) × (v ≡ w) × (kept' ≡ kept)
  pub late : early_fault plan kept name ask ≡ None → Carried means plan heap (stream_order plan kept name ask) kept kept' w v result
