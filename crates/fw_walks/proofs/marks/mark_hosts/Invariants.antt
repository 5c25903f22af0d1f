use Rattle.std.proofs.Common.{◌≡◌, ◌==◌, ◌&&◌, ℕ, true, length, take}
use Rattle.std.specs.List.{list_any}
use Rattle.stream_law.specs.Order.{is_among}
use Rattle.fw_walks.specs.Streams.{is_host_of}
use Rattle.fw_places.specs.Walks.{is_marked}
use Rattle.fw_walks.proofs.marks.mark_hosts.Given as goal

abbrev pub invariant-loop-comp : goal.invariant-loop-comp
invariant-loop-comp l = ((x : ℕ) → is_among l.places.ids x ≡ true → is_marked l.places.ids l.marks x ≡ list_any (λ c. c.id == x && is_host_of l.sort l.capture c) (take l.comp-index l.comps)) × (length l.marks ≡ 257)
