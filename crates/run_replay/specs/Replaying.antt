-- What `replay` finds at fault with records, one after another, and what it says.
use Rattle.std.specs.Prelude.{ℕ, ◌+◌, nat_lt, Bool, true, false, not, ◌||◌, List, [], ◌∷◌, length, Option, Some, None, codes, if◌then◌else◌}
use Rattle.std.specs.Str.{bytes_eq}
use Rattle.ipc3_trace.specs.declared.entry.Entry.{Entry}
use Rattle.ipc3_trace.specs.declared.entry.Entry.TheVariants.{Boot, Cut, Request, Reply, Tick, Lost}
use Rattle.ipc3_trace.specs.declared.fault.TraceFault.{TraceFault}
use Rattle.ipc3_trace.specs.declared.fault.ReplayFault.{ReplayFault}
use Rattle.ipc3_trace.specs.declared.fault.ReplayFault.TheVariants as faults
use Rattle.ipc3_trace.specs.Records.{record_bytes}
use Rattle.host_widgets.specs.declared.kept.Power.TheVariants.{On, Off}
use Rattle.sof_session.specs.Show.{power_words}
use Rattle.run_replay.specs.declared.replay_fault.Tally.{Tally}
use Rattle.run_desk.specs.Lines.{count_line}

-- ---- what is at fault

-- the place after a record
abbrev pub next_place : ℕ → Entry → ℕ
next_place at e = at + length (record_bytes e)

abbrev pub order_where : Bool → ℕ → Option ReplayFault
order_where wrong at = if wrong then Some (faults.Order at) else None

-- where the device gave a reply, that reply comes next
abbrev pub back_fault : List ℕ → ℕ → Entry → Option ReplayFault
back_fault reply at (Reply other) = if bytes_eq other reply then None else Some (faults.Replied at)
back_fault reply at Lost = Some (faults.Lost at)
back_fault reply at e = Some (faults.Order at)

-- else a boot of a device that is off, with a heap of at most its room, or a cut, a message or a tick of one that is on
abbrev pub call_fault : ℕ → ℕ → Bool → Entry → Option ReplayFault
call_fault room at on (Boot heap) = order_where (on || nat_lt room heap) at
call_fault room at on Cut = order_where (not on) at
call_fault room at on (Request message) = order_where (not on) at
call_fault room at on Tick = order_where (not on) at
call_fault room at on (Reply reply) = Some (faults.Order at)
call_fault room at on Lost = Some (faults.Order at)

-- what is at fault with a record at a place, over a device of this room that is on or off; `awaited` is the reply that it gave, where
-- the record before is a message
abbrev pub record_fault : ℕ → Bool → Option (List ℕ) → ℕ → Entry → Option ReplayFault
record_fault room on None at e = call_fault room at on e
record_fault room on (Some reply) at e = back_fault reply at e

-- and with the end of the records, or their first fault
abbrev pub end_fault : Option (List ℕ) → ℕ → Option TraceFault → Option ReplayFault
end_fault awaited at (Some fault) = Some (faults.Broken fault)
end_fault (Some reply) at None = Some (faults.Order at)
end_fault None at None = None

-- whether a device is on after a record that is not at fault
abbrev pub on_after : Bool → Entry → Bool
on_after on (Boot heap) = true
on_after on Cut = false
on_after on e = on

-- ---- what is said

-- one record more of its kind
abbrev pub tallied : Entry → Tally → Tally
tallied (Boot heap) t = record t { boots = t.boots + 1 }
tallied (Request message) t = record t { messages = t.messages + 1 }
tallied Tick t = record t { ticks = t.ticks + 1 }
tallied e t = t

abbrev pub tally_from : Tally → List Entry → Tally
tally_from t [] = t
tally_from t (e ∷ es) = tally_from (tallied e t) es

-- how many boots, messages and ticks there are among records
abbrev pub tally_of : List Entry → Tally
tally_of es = tally_from (record { boots = 0; messages = 0; ticks = 0 }) es

-- as `show` says it
abbrev pub on_words : Bool → List ℕ
on_words on = power_words (if on then On else Off)

-- what is said once all were given: how many there are, and whether the device is on
abbrev pub replay_lines : Tally → Bool → List (List ℕ)
replay_lines t on =
    count_line (codes "boots ") t.boots
    ∷ count_line (codes "messages ") t.messages
    ∷ count_line (codes "ticks ") t.ticks
    ∷ on_words on
    ∷ []

-- a device that failed in a message
abbrev pub device_line : List ℕ
device_line = codes "device\n"
