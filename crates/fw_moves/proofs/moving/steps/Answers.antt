use Rattle.std.proofs.Common.{◌≡◌, ◌∙◌, ◌+◌, ◌-◌, ◌*◌, ◌/◌, ◌≤◌, sym, ap, subst, map, ◌==◌, ℕ, Option, Some, List, length, get_or, arith}
use Rattle.std.specs.Prelude.{find, position}
use Rattle.std.proofs.lemmas.Nat.{mul-le, div-add-mod'}
use Rattle.stream_law.specs.declared.graph.Join.{Join}
use Rattle.fw_units.specs.declared.component.Component.{Component}
use Rattle.fw_units.specs.Frames.{kept_words, words_by, channels_in}
use Rattle.fw_moves.specs.Processed.{IsOutlet, chosen_by, output_number, fed_at, drained_at}
use Rattle.fw_moves.specs.Moving.{AreAt, CanMove, IsMoved, outlet_frames}
use Rattle.fw_moves.proofs.OutletLaws.{fed-some}
use Rattle.fw_moves.proofs.MadeLaws.{all-at}
use Rattle.fw_moves.proofs.MoveAgain.{can-less}
use Rattle.fw_moves.proofs.MoveAgain.{can-again, moved-again}
use Rattle.fw_moves.proofs.MovedLaws.{run-chosen}
use Rattle.fw_moves.proofs.MovedLaws.{drained-id, fed-id}
use Rattle.fw_moves.proofs.PlaceLaws.{length-places, place-at, places-still}
use Rattle.fw_moves.proofs.moving.steps.Goals as goal

pub bounds-fed-0 : goal.bounds-fed-0
bounds-fed-0 c = fed-some c.args.component.now.unit c.args.fed.now c.requires.can.feeds

pub bounds-to-0 : goal.bounds-to-0
bounds-to-0 c = omega (arith, fed-some c.args.component.now.unit c.args.fed.now c.requires.can.feeds, length-places c.args.buffers.now.items c.args.fed.now c.args.to.now c.requires.to)

pub width_of-requires-clause-place : goal.width_of-requires-clause-place
width_of-requires-clause-place c =
    let fed = c.args.fed.now in let to = c.args.to.now in
    subst (λ (cs : List Component). Some c.from.result ≡ position (λ (y : Component). y.id == get_or fed 0 0) cs) (sym c.as_slice.ensures.value)
    (ap (λ (k : ℕ). Some k) c.from.ensures ∙ place-at c.args.buffers.now.items fed to 0 c.requires.to (fed-some c.args.component.now.unit fed c.requires.can.feeds))

-- places after some frames were moved
still : (chosen : Option ℕ) (numbers : ℕ → ℕ) (looked fed ids places : List ℕ) (a n : ℕ) (bs new : List Component) (x y : Component) → CanMove bs looked fed n x → IsMoved chosen numbers looked fed a bs x new y → AreAt bs ids places → AreAt new ids places
still chosen numbers looked fed ids places a n bs new x y can moved are =
    subst (λ (cs : List Component). AreAt cs ids places) (sym moved.table)
    (places-still (fed_at fed (outlet_frames chosen numbers bs looked a x) (λ b. words_by (find (λ z. z.id == b) new))) (fed-id fed (outlet_frames chosen numbers bs looked a x) (λ b. words_by (find (λ z. z.id == b) new))) (map (drained_at looked a) bs) ids places
    (places-still (drained_at looked a) (drained-id looked fed can.apart a) bs ids places are))

pub step-requires-in-loop-moved-clause-from : goal.step-requires-in-loop-moved-clause-from
step-requires-in-loop-moved-clause-from c =
    let x = c.args.component.now in let joins : List Join = c.args.joins.now in
    still (chosen_by x.unit x.id joins) (output_number joins x.id) c.args.looked.now c.args.fed.now c.args.looked.now c.args.from.now c.loop-moved.moved c.args.n c.args.buffers.now.items c.loop-moved.buffers.items x c.loop-moved.component c.requires.can c.loop-moved.invariant.so_far c.requires.from

pub step-requires-in-loop-moved-clause-to : goal.step-requires-in-loop-moved-clause-to
step-requires-in-loop-moved-clause-to c =
    let x = c.args.component.now in let joins : List Join = c.args.joins.now in
    still (chosen_by x.unit x.id joins) (output_number joins x.id) c.args.looked.now c.args.fed.now c.args.fed.now c.args.to.now c.loop-moved.moved c.args.n c.args.buffers.now.items c.loop-moved.buffers.items x c.loop-moved.component c.requires.can c.loop-moved.invariant.so_far c.requires.to

-- so many frames as there is room for
few : (m most width : ℕ) → 1 ≤ width → most ≡ 2048 / width → m ≤ most → m * width ≤ 2048
few m most width some is low = let a = mul-le m width most width low (omega arith) in let b = div-add-mod' 2048 width in let e : most * width ≡ 2048 / width * width = ap (λ k. k * width) is in omega (arith, a, b, e)

pub step-requires-clause-size : goal.step-requires-clause-size
step-requires-clause-size c =
    let bs = c.args.buffers.now.items in let x = c.args.component.now in let fed = c.args.fed.now in
    let shape = (all-at (IsOutlet bs x.channels c.args.n) fed 0 0 (fed-some x.unit fed c.requires.can.feeds) c.requires.can.outlets).shape in
    let wide : c.width_of.result ≡ x.channels = c.width_of.ensures.is ∙ ap (λ (cs : List Component). channels_in cs (get_or fed 0 0)) c.as_slice.ensures.value ∙ shape in
    let m = few c.min-moved.result c.most_frames-most.result x.channels (omega (arith, c.width_of.ensures.range.0, wide)) (c.most_frames-most.ensures ∙ ap (λ k. 2048 / k) wide) (omega (arith, c.min-moved.ensures)) in
    omega (arith, m, c.requires.size)

pub step-requires-in-loop-moved-clause-channels : goal.step-requires-in-loop-moved-clause-channels
step-requires-in-loop-moved-clause-channels c =
    let bs = c.args.buffers.now.items in let x = c.args.component.now in let fed = c.args.fed.now in
    let shape = (all-at (IsOutlet bs x.channels c.args.n) fed 0 0 (fed-some x.unit fed c.requires.can.feeds) c.requires.can.outlets).shape in
    let wide : c.width_of.result ≡ x.channels = c.width_of.ensures.is ∙ ap (λ (cs : List Component). channels_in cs (get_or fed 0 0)) c.as_slice.ensures.value ∙ shape in
    subst (λ (y : Component). (1 ≤ y.channels) × (y.channels ≤ 8)) (sym c.loop-moved.invariant.so_far.component) (omega (arith, c.width_of.ensures.range.0, wide), omega (arith, c.width_of.ensures.range.1, wide))

pub step-requires-in-loop-moved-clause-size : goal.step-requires-in-loop-moved-clause-size
step-requires-in-loop-moved-clause-size c =
    let bs = c.args.buffers.now.items in let x = c.args.component.now in let fed = c.args.fed.now in
    let shape = (all-at (IsOutlet bs x.channels c.args.n) fed 0 0 (fed-some x.unit fed c.requires.can.feeds) c.requires.can.outlets).shape in
    let wide : c.width_of.result ≡ x.channels = c.width_of.ensures.is ∙ ap (λ (cs : List Component). channels_in cs (get_or fed 0 0)) c.as_slice.ensures.value ∙ shape in
    let m = few c.min-more.result c.most_frames-most.result x.channels (omega (arith, c.width_of.ensures.range.0, wide)) (c.most_frames-most.ensures ∙ ap (λ k. 2048 / k) wide) (omega (arith, c.min-more.ensures)) in
    subst (λ (y : Component). 2 * (c.min-more.result * y.channels) ≤ length c.loop-moved.samples) (sym c.loop-moved.invariant.so_far.component)
    (omega (arith, m, c.requires.size, c.loop-moved.auto.samples))

pub step-requires-in-loop-moved-clause-can : goal.step-requires-in-loop-moved-clause-can
step-requires-in-loop-moved-clause-can c =
    let bs = c.args.buffers.now.items in let x = c.args.component.now in let looked = c.args.looked.now in let fed = c.args.fed.now in let n = c.args.n in
    let joins : List Join = c.args.joins.now in let chosen = chosen_by x.unit x.id joins in let numbers = output_number joins x.id in
    let a = c.loop-moved.moved in let m = c.min-more.result in
    let whole : a + (n - a) ≡ n = omega (arith, c.loop-moved.invariant.within) in
    let can : CanMove bs looked fed (a + (n - a)) x = subst (λ k. CanMove bs looked fed k x) (sym whole) c.requires.can in
    can-less looked fed (n - a) m c.loop-moved.buffers.items c.loop-moved.component (omega (arith, c.min-more.ensures))
    (can-again chosen numbers looked fed a (n - a) bs x can c.loop-moved.buffers.items c.loop-moved.component c.loop-moved.invariant.so_far)

pub loop-moved-preserved : goal.loop-moved-preserved
loop-moved-preserved c =
    let bs = c.args.buffers.now.items in let x = c.args.component.now in let looked = c.args.looked.now in let fed = c.args.fed.now in let n = c.args.n in
    let joins : List Join = c.args.joins.now in let chosen = chosen_by x.unit x.id joins in let numbers = output_number joins x.id in
    let a = c.loop-moved.moved in let m = c.min-more.result in
    let within : a + m ≤ n = omega (arith, c.loop-moved.invariant.within, c.min-more.ensures) in
    let y : Component = c.loop-moved.component in let is = c.loop-moved.invariant.so_far.component in
    let same : chosen_by y.unit y.id joins ≡ chosen = ap (λ (z : Component). chosen_by z.unit z.id joins) is ∙ run-chosen (kept_words y) a x.id x.unit joins in
    let id : y.id ≡ x.id = ap (λ (z : Component). z.id) is in
    record {
      within = within;
      so_far =
          moved-again chosen numbers looked fed a m bs x (can-less looked fed n (a + m) bs x within c.requires.can) c.loop-moved.buffers.items c.loop-moved.component c.loop-moved.invariant.so_far
          c.step-in-loop-moved.new.buffers.items c.step-in-loop-moved.new.component
          (subst (λ (p : Option ℕ × (ℕ → ℕ)). IsMoved p.0 p.1 looked fed m c.loop-moved.buffers.items y c.step-in-loop-moved.new.buffers.items c.step-in-loop-moved.new.component) (λ i. (same i, output_number joins (id i))) c.step-in-loop-moved.ensures.moved);
      capacity = c.step-in-loop-moved.ensures.capacity ∙ c.loop-moved.invariant.capacity;
    }
