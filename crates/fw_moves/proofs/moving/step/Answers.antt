use Rattle.std.proofs.Common.{◌≡◌, ◌∙◌, sym, ap, ℕ, ◌*◌, ◌≤◌, ◌==◌, List, Option, length, take, subst, arith, length-take}
use Rattle.std.specs.Prelude.{find}
use Rattle.std.specs.List.{AllByRecursion}
use Rattle.fw_ring.proofs.FrameLaws.{length-frames}
use Rattle.fw_units.specs.declared.component.Component.{Component}
use Rattle.fw_units.specs.Frames.{kept_words, buffer_frames, words_by}
use Rattle.fw_moves.specs.Processed.{IsLevel, feeds_of, IsInlet, IsOutlet, slices_in, chosen_by, made_numbers, output_number, drained_at}
use Rattle.fw_moves.specs.Moving.{AreAt, frames_now}
use Rattle.fw_units.proofs.Ids.{all-by}
use Rattle.fw_moves.proofs.MovedLaws.{run-level, run-feeds, drained-id}
use Rattle.fw_moves.proofs.StepLaws.{mid-ascends}
use Rattle.fw_moves.proofs.StepLaws.{mid-outlets, step-table}
use Rattle.fw_moves.proofs.PlaceLaws.{places-still}
use Rattle.fw_moves.proofs.moving.step.Goals as goal

pub drain_in-requires-clause-held : goal.drain_in-requires-clause-held
drain_in-requires-clause-held c =
    let bs = c.args.buffers.now.items in let x = c.args.component.now in let n = c.args.n in
    all-by (IsInlet bs x.channels n) (λ b. n ≤ length (buffer_frames bs b)) (λ b inlet. inlet.held) c.args.looked.now c.requires.can.inlets

pub give-requires-clause-level : goal.give-requires-clause-level
give-requires-clause-level c =
    let x = c.args.component.now in
    subst (λ (y : Component). IsLevel y.unit) (sym c.make.ensures.component) (run-level (kept_words c.make.new.component) c.args.n x.unit c.requires.can.level)

pub give-requires-clause-feeds : goal.give-requires-clause-feeds
give-requires-clause-feeds c =
    let x = c.args.component.now in
    ap (λ (y : Component). feeds_of y.unit (length c.args.fed.now)) c.make.ensures.component ∙ run-feeds (kept_words c.make.new.component) c.args.n (length c.args.fed.now) x.unit ∙ c.requires.can.feeds

pub give-requires-clause-ascends : goal.give-requires-clause-ascends
give-requires-clause-ascends c = mid-ascends c.args.buffers.now.items c.args.looked.now c.args.fed.now c.args.n c.args.component.now c.requires.can c.drain_in.new.components.items c.drain_in.ensures.items

pub give-requires-clause-places : goal.give-requires-clause-places
give-requires-clause-places c =
    let bs = c.args.buffers.now.items in let looked = c.args.looked.now in let fed = c.args.fed.now in let to = c.args.to.now in let n = c.args.n in
    subst (λ (cs : List Component). AreAt cs fed to) (sym c.drain_in.ensures.items) (places-still (drained_at looked n) (drained-id looked fed c.requires.can.apart n) bs fed to c.requires.to)

pub give-requires-clause-channels : goal.give-requires-clause-channels
give-requires-clause-channels c = subst (λ (y : Component). (1 ≤ y.channels) × (y.channels ≤ 8)) (sym c.make.ensures.component) c.requires.channels

pub give-requires-clause-outlets : goal.give-requires-clause-outlets
give-requires-clause-outlets c =
    let mid = c.drain_in.new.components.items in let fed = c.args.fed.now in let n = c.args.n in
    subst (λ (y : Component). AllByRecursion (IsOutlet mid y.channels n) fed) (sym c.make.ensures.component)
    (mid-outlets c.args.buffers.now.items c.args.looked.now fed n c.args.component.now c.requires.can mid c.drain_in.ensures.items)

pub give-requires-clause-made : goal.give-requires-clause-made
give-requires-clause-made c =
    let size = c.args.n * c.from.result in
    let long : length c.make.new.samples ≡ c.args.n * c.args.component.now.channels = omega (arith, c.make.auto.samples, length-take size c.args.samples.now, c.requires.size, ap (λ (k : ℕ). c.args.n * k) c.from.ensures) in
    long ∙ ap (λ (y : Component). c.args.n * y.channels) (sym c.make.ensures.component)

pub give-requires-clause-kept : goal.give-requires-clause-kept
give-requires-clause-kept c =
    let size = c.args.n * c.from.result in
    let rest = c.split_at_mut-made.result.1.now in
    (let e : length (take size rest) ≡ c.args.n * c.args.component.now.channels = omega (arith, length-take size rest, c.split_at_mut-made.ensures.back_len, c.requires.size, ap (λ (k : ℕ). c.args.n * k) c.from.ensures) in e)
    ∙ ap (λ (y : Component). c.args.n * y.channels) (sym c.make.ensures.component)

pub returns-clause-moved : goal.returns-clause-moved
returns-clause-moved c =
    let bs = c.args.buffers.now.items in let looked = c.args.looked.now in let n = c.args.n in let x = c.args.component.now in
    let made = c.make.ensures.frames ∙ ap (λ (cs : List Component). frames_now c.chosen-chosen.result cs looked n x) c.as_slice.ensures.value ∙ ap (λ (o : Option ℕ). frames_now o bs looked n x) c.chosen-chosen.ensures in
    let new = c.give.new.buffers.items in
    record {
      component = c.make.ensures.component;
      numbers = c.make.ensures.numbers ∙ ap (λ (cs : List Component). made_numbers x.unit x.channels (slices_in cs looked n)) c.as_slice.ensures.value;
      staged = c.make.ensures.staged;
      count = ap length (sym made) ∙ length-frames x.channels n c.make.new.samples;
      table = step-table bs looked c.args.fed.now n x c.requires.can c.drain_in.new.components.items c.drain_in.ensures.items (output_number c.args.joins.now) (kept_words c.make.new.component) c.make.new.component (λ b. words_by (find (λ y. y.id == b) new)) new c.make.new.samples (frames_now (chosen_by x.unit x.id c.args.joins.now) bs looked n x) c.make.ensures.component made c.give.ensures.items;
    }
