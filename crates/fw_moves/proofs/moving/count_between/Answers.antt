use Rattle.std.proofs.Common.{◌≡◌, sym, ap, ◌∙◌, ℕ, ◌+◌, ◌-◌, ◌≤◌, ◌==◌, min, List, length, Some, arith}
use Rattle.std.specs.Prelude.{find}
use Rattle.sof_base.specs.Samples.{Frame}
use Rattle.fw_units.specs.declared.component.Component.{Component}
use Rattle.fw_units.specs.Frames.{buffer_frames, capacity_in}
use Rattle.fw_units.proofs.Standing.{frames-is, capacity-is}
use Rattle.fw_units.proofs.Taking.{taken-found}
use Rattle.fw_moves.proofs.PlaceLaws.{within}
use Rattle.fw_moves.proofs.moving.count_between.Goals as goal

pub bounds-buffers-to : goal.bounds-buffers-to
bounds-buffers-to c = within (λ (y : Component). y.id == c.args._outlet) c.args.buffers.now c.args.to c.requires.to

pub bounds-buffers-from : goal.bounds-buffers-from
bounds-buffers-from c = within (λ (y : Component). y.id == c.args._inlet) c.args.buffers.now c.args.from c.requires.from

-- as many as one holds and the other has room for
held-most : (held space bound count most own : ℕ) → held ≡ own → bound ≡ min space most → count ≡ min held bound → count ≤ own
held-most held space bound count most own is few fewer = omega (arith, is, few, fewer)

room-most : (held space bound count most own room : ℕ) → space + own ≡ room → bound ≡ min space most → count ≡ min held bound → own + count ≤ room
room-most held space bound count most own room is few fewer = omega (arith, is, few, fewer)

count-is : (held space bound count most own other room : ℕ) → held ≡ own → space + other ≡ room → bound ≡ min space most → count ≡ min held bound → count ≡ min own (min (room - other) most)
count-is held space bound count most own other room is free few fewer = omega (arith, is, free, few, fewer)

pub returns-clause-held : goal.returns-clause-held
returns-clause-held c =
    let cs = c.args.buffers.now in let a = c.args._inlet in
    let it : Some c.index-buffers-from.result ≡ find (λ (y : Component). y.id == a) cs = ap (λ (x : Component). Some x) c.index-buffers-from.is ∙ taken-found a cs c.args.from _ c.requires.from in
    held-most c.held-there.result c.room-space.result c.min.result c.min-2.result c.args.most (length (buffer_frames cs a)) (c.held-there.ensures ∙ ap (λ (fs : List Frame). length fs) (frames-is a cs c.index-buffers-from.result it)) c.min.ensures c.min-2.ensures

pub returns-clause-room : goal.returns-clause-room
returns-clause-room c =
    let cs = c.args.buffers.now in let b = c.args._outlet in
    let it : Some c.index-buffers-to.result ≡ find (λ (y : Component). y.id == b) cs = ap (λ (x : Component). Some x) c.index-buffers-to.is ∙ taken-found b cs c.args.to _ c.requires.to in
    let free : c.room-space.result + length (buffer_frames cs b) ≡ capacity_in cs b = ap (λ (fs : List Frame). c.room-space.result + length fs) (sym (frames-is b cs c.index-buffers-to.result it)) ∙ c.room-space.ensures ∙ capacity-is b cs c.index-buffers-to.result it in
    room-most c.held-there.result c.room-space.result c.min.result c.min-2.result c.args.most (length (buffer_frames cs b)) (capacity_in cs b) free c.min.ensures c.min-2.ensures

pub returns-clause-count : goal.returns-clause-count
returns-clause-count c =
    let cs = c.args.buffers.now in let a = c.args._inlet in let b = c.args._outlet in
    let first : Some c.index-buffers-from.result ≡ find (λ (y : Component). y.id == a) cs = ap (λ (x : Component). Some x) c.index-buffers-from.is ∙ taken-found a cs c.args.from _ c.requires.from in
    let second : Some c.index-buffers-to.result ≡ find (λ (y : Component). y.id == b) cs = ap (λ (x : Component). Some x) c.index-buffers-to.is ∙ taken-found b cs c.args.to _ c.requires.to in
    let free : c.room-space.result + length (buffer_frames cs b) ≡ capacity_in cs b = ap (λ (fs : List Frame). c.room-space.result + length fs) (sym (frames-is b cs c.index-buffers-to.result second)) ∙ c.room-space.ensures ∙ capacity-is b cs c.index-buffers-to.result second in
    count-is c.held-there.result c.room-space.result c.min.result c.min-2.result c.args.most (length (buffer_frames cs a)) (length (buffer_frames cs b)) (capacity_in cs b)
    (c.held-there.ensures ∙ ap (λ (fs : List Frame). length fs) (frames-is a cs c.index-buffers-from.result first)) free c.min.ensures c.min-2.ensures
