use Rattle.std.proofs.Common.{◌≡◌, sym, ap, ◌∙◌, ℕ, ◌==◌, List, [], ◌∷◌, ◌++◌, map, filter, take, length, length-take, get_or, nat_le, cond, Bool, true, false, Some, lit<, arith}
use Rattle.std.proofs.lemmas.Bool.{le-leb, lt-leb}
use Rattle.std.proofs.lemmas.List.{take_all, append-nil}
use Rattle.std.proofs.lemmas.List.Elements.{filter_more}
use Rattle.std.specs.Prelude.{position}
use Rattle.stream_law.proofs.Members.{filter-most}
use Rattle.fw_units.specs.declared.component.Component.{Component}
use Rattle.fw_components.specs.Tables.{held_frames}
use Rattle.fw_moves.proofs.PlaceLaws.{length-places, place-at}
use Rattle.fw_schedule.proofs.EdgePlaces.{placed-more}
use Rattle.fw_schedule.proofs.ticking.holding.Goals as goal
use Rattle.fw_schedule.proofs.ticking.holding.Goals.{then-held_at-ge1, else-held_at-ge1}

pub held_at-requires : goal.held_at-requires
held_at-requires c = ap (λ (n : ℕ). Some n) c.from.ensures ∙ place-at c.args.registry.now.buffers c.args.inlets.now c.args.places.now c.loop-i.i c.requires.places c.loop-i-test.true

pub bounds-places-i : goal.bounds-places-i
bounds-places-i c = omega (arith, c.loop-i-test.true, length-places c.args.registry.now.buffers c.args.inlets.now c.args.places.now c.requires.places)

pub push-requires : goal.push-requires
push-requires c =
    let few = filter-most (λ b. nat_le 1 (length (held_frames c.args.registry.now b))) (take c.loop-i.i c.args.inlets.now) in
    (lit< tt, omega (arith, few, length-take c.loop-i.i c.args.inlets.now, ap length c.loop-i.invariant.ids, c.loop-i-test.true, c.requires.few))

pub push-requires-then-held_at-ge1 : goal.push-requires-then-held_at-ge1
push-requires-then-held_at-ge1 c =
    let few = filter-most (λ b. nat_le 1 (length (held_frames c.args.registry.now b))) (take c.loop-i.i c.args.inlets.now) in
    let as_many = length-places c.args.registry.now.buffers c.loop-i.holding.items c.loop-i.from.items c.loop-i.invariant.places in
    (lit< tt, omega (arith, as_many, few, length-take c.loop-i.i c.args.inlets.now, ap length c.loop-i.invariant.ids, c.loop-i-test.true, c.requires.few))

pub loop-i-preserved : goal.loop-i-preserved
loop-i-preserved c =
    let t = c.args.registry.now in let ids = c.args.inlets.now in let i = c.loop-i.i in let so = c.loop-i.invariant in let low = c.loop-i-test.true in
    let b = get_or ids i 0 in let p : ℕ → Bool = λ b. nat_le 1 (length (held_frames t b)) in
    let next = filter_more p ids i 0 low in
    elim c.if-held_at-ge1.branch [
      | then-held_at-ge1 w ↦
          let yes : p b ≡ true = le-leb 1 (length (held_frames t b)) (omega (arith, w.if-held_at-ge1.true, c.held_at.ensures)) in
          let more = ap (λ xs. xs.items) w.holding-is ∙ w.push.ensures.items in
          let further = ap (λ xs. xs.items) w.from-is ∙ w.push-then-held_at-ge1.ensures.items in
          record {
            ids = more ∙ ap (λ (xs : List ℕ). xs ++ b ∷ []) so.ids ∙ sym (next ∙ ap (λ h. filter p (take i ids) ++ cond h (b ∷ []) []) yes);
            places = placed-more (λ b. position (λ (y : Component). y.id == b) t.buffers) c.loop-i.holding.items c.loop-i.from.items _ _ b (get_or c.args.places.now i 0) so.places more further (place-at t.buffers ids c.args.places.now i c.requires.places low);
          }
      | else-held_at-ge1 w ↦
          let no : p b ≡ false = lt-leb 1 (length (held_frames t b)) (omega (arith, w.if-held_at-ge1.false, c.held_at.ensures)) in
          record {
            ids = ap (λ xs. xs.items) w.holding-is ∙ so.ids ∙ sym (next ∙ ap (λ h. filter p (take i ids) ++ cond h (b ∷ []) []) no ∙ append-nil (filter p (take i ids)));
            places = ap (map (λ (k : ℕ). Some k)) (ap (λ xs. xs.items) w.from-is) ∙ so.places ∙ ap (map (λ b. position (λ (y : Component). y.id == b) t.buffers)) (sym (ap (λ xs. xs.items) w.holding-is));
          }
    ]

pub returns-clause-ids : goal.returns-clause-ids
returns-clause-ids c = c.loop-i.invariant.ids ∙ ap (λ (ids : List ℕ). filter (λ b. nat_le 1 (length (held_frames c.args.registry.now b))) ids) (take_all c.loop-i.i c.args.inlets.now (omega (arith, c.loop-i-test.false)))
