-- A small plan, and what walks of acts over it come to.
use Rattle.std.specs.Prelude.{ℕ, List, [], ◌∷◌, Some, true, false}
use Rattle.sof_base.specs.declared.format.Format.TheVariants.{S16}
use Rattle.sof_base.specs.declared.format.Params.{Params}
use Rattle.mbox_link.specs.declared.fates.Fate.{Fate}
use Rattle.mbox_link.specs.declared.fates.Entry.{Entry}
use Rattle.mbox_link.specs.Meetings.{Queue, next_meeting}
use Rattle.mbox_link.specs.CalmDevice.{calm}
use Rattle.tplg_plan.specs.declared.plans.Plan.{Plan}
use Rattle.host_widgets.specs.declared.kept.Found.{Found}
use Rattle.host_widgets.specs.declared.kept.Found.TheVariants.{Running}
use Rattle.host_widgets.specs.declared.kept.Power.TheVariants.{On}
use Rattle.host_widgets.specs.declared.kept.Record.{Record}
use Rattle.host_widgets.specs.HostRecord.{no_caps}
use Rattle.host_widgets.specs.ActLists.{close_by, go_down}
use Rattle.host_widgets.specs.HostActs.{Act}
use Rattle.host_widgets.specs.OneAct.{act_rules}
use Rattle.host_widgets.specs.Walk.{Walked, walk}

-- one stream that plays, of host 0
abbrev pub one_plan : Plan
one_plan = record {
  graph = record { comps = []; edges = []; pipes = []; joins = [] };
  streams = record { host = 0; capture = false; caps = no_caps } ∷ [];
  controls = [];
  names = [];
  widgets = [];
}

-- 48000 frames a second of 2 channels
abbrev pub shape : Params
shape = record { rate = 48000; channels = 2; format = S16 }

-- its stream stands so
abbrev pub one_stream : Found → Record
one_stream found = record { power = On; streams = record { found = found; params = Some shape } ∷ []; controls = [] }

-- these fates are planned, and no message was sent
abbrev pub ahead : List Entry → Queue
ahead entries = record { sent = 0; entries = entries }

-- the message of this number meets this
abbrev pub meets : ℕ → Fate → Entry
meets number fate = record { number = number; fate = fate; lag = 0 }

-- a stream that runs is closed
abbrev pub closing : List Entry → Walked Record Act Queue
closing entries = walk (act_rules one_plan 0) false (next_meeting calm) (one_stream Running) (ahead entries) (close_by 0 Running)

-- the device goes down while it runs, and goes on after a refusal
abbrev pub going_down : List Entry → Walked Record Act Queue
going_down entries = walk (act_rules one_plan 0) true (next_meeting calm) (one_stream Running) (ahead entries) (go_down one_plan (one_stream Running))
