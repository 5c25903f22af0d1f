use Rattle.std.proofs.Common.{◌≡◌, refl, sym, ap, ◌∙◌, subst, ℕ, ◌≤◌, List, [], ◌∷◌, map, take, length, get_or, false, ◌==◌, ◌<◌, arith, Option, Some}
use Rattle.std.proofs.lemmas.List.{take_more, take_all}
use Rattle.std.specs.Prelude.{find}
use Rattle.std.specs.Option.{option_map_or}
use Rattle.sof_base.specs.Samples.{Frame}
use Rattle.stream_law.specs.Order.{is_among}
use Rattle.stream_law.specs.Placed.{Ascends}
use Rattle.fw_units.specs.declared.component.Component.{Component}
use Rattle.fw_units.specs.Units.{unit_frames}
use Rattle.fw_units.specs.Frames.{buffer_frames, taken_at}
use Rattle.fw_moves.specs.Processed.{drained_at}
use Rattle.fw_moves.proofs.Draining.{not-before, drained-none, drained-more}
use Rattle.fw_units.proofs.Ids.{ascends-map}
use Rattle.fw_moves.proofs.MadeLaws.{all-at}
use Rattle.fw_moves.proofs.MovedLaws.{drained-id}
use Rattle.fw_units.proofs.Putting.{taken-put}
use Rattle.fw_units.proofs.Standing.{frames-is}
use Rattle.fw_moves.proofs.StepLaws.{find-apart}
use Rattle.fw_units.proofs.Taking.{taken-found}
use Rattle.fw_moves.specs.Moving.{AreAt}
use Rattle.fw_moves.proofs.PlaceLaws.{length-places, place-at, within, places-still}
use Rattle.fw_moves.proofs.moving.drain_in.Goals as goal

-- the places so far are those of before
still : (all bs : List Component) (looked from : List ℕ) (i n : ℕ) → is_among (take i looked) (get_or looked i 0) ≡ false → bs ≡ map (drained_at (take i looked) n) all → AreAt all looked from → AreAt bs looked from
still all bs looked from i n apart is are =
    subst (λ (cs : List Component). AreAt cs looked from) (sym is)
    (places-still (drained_at (take i looked) n) (drained-id (take i looked) (get_or looked i 0 ∷ []) (apart, tt) n) all looked from are)

pub index_mut-requires : goal.index_mut-requires
index_mut-requires c =
    let all = c.args.components.now.items in let looked = c.args._looked.now in let from = c.args.from.now in let i = c.loop-at.at-index in let b = get_or looked i 0 in
    let bs = c.loop-at.components.items in
    let low : i < length looked = omega (arith, c.loop-at-test.true, length-places all looked from c.requires.places) in
    let apart : is_among (take i looked) b ≡ false = not-before looked i c.requires.single low in
    let place = ap (λ (k : ℕ). Some k) c.from.ensures ∙ place-at bs looked from i (still all bs looked from i c.args.n apart c.loop-at.invariant.so_far c.requires.places) low in
    omega (arith, within (λ (y : Component). y.id == b) bs c.from.result place, c.loop-at.components.ok.0)

pub take-requires : goal.take-requires
take-requires c =
    let all = c.args.components.now.items in let looked = c.args._looked.now in let n = c.args.n in
    let i = c.loop-at.at-index in let b = get_or looked i 0 in let from = c.args.from.now in
    let low : i < length looked = omega (arith, c.loop-at-test.true, length-places all looked from c.requires.places) in
    let apart : is_among (take i looked) b ≡ false = not-before looked i c.requires.single low in
    let same : buffer_frames c.loop-at.components.items b ≡ buffer_frames all b = ap (λ (o : Option Component). option_map_or (λ x. unit_frames x.unit) o []) (ap (find (λ (x : Component). x.id == b)) c.loop-at.invariant.so_far ∙ find-apart (take i looked) n b all apart) in
    let bs = c.loop-at.components.items in let x = c.index_mut.result.now in
    let place = ap (λ (k : ℕ). Some k) c.from.ensures ∙ place-at bs looked from i (still all bs looked from i n apart c.loop-at.invariant.so_far c.requires.places) low in
    let it = ap (λ (y : Component). Some y) c.index_mut.ensures.value ∙ taken-found b bs c.from.result x place in
    subst (λ (fs : List Frame). n ≤ length fs) (sym (frames-is b bs x it ∙ same)) (all-at (λ k. n ≤ length (buffer_frames all k)) looked i 0 low c.requires.held)

pub loop-at-init : goal.loop-at-init
loop-at-init c = record { so_far = drained-none c.args.n c.args.components.now.items; capacity = refl }

pub loop-at-preserved : goal.loop-at-preserved
loop-at-preserved c =
    let all = c.args.components.now.items in let looked = c.args._looked.now in let n = c.args.n in
    let i = c.loop-at.at-index in let b = get_or looked i 0 in let from = c.args.from.now in
    let low : i < length looked = omega (arith, c.loop-at-test.true, length-places all looked from c.requires.places) in
    let apart : is_among (take i looked) b ≡ false = not-before looked i c.requires.single low in
    let bs = c.loop-at.components.items in
    let place = ap (λ (k : ℕ). Some k) c.from.ensures ∙ place-at bs looked from i (still all bs looked from i n apart c.loop-at.invariant.so_far c.requires.places) low in
    let ascends : Ascends (λ (x : Component). x.id) bs = subst (Ascends (λ (x : Component). x.id)) (sym c.loop-at.invariant.so_far) (ascends-map (drained_at (take i looked) n) (drained-id (take i looked) (b ∷ []) (apart, tt) n) all c.requires.ascends) in
    record {
      so_far =
          taken-put b c.from.result bs c.index_mut.result.now c.take.new.self ascends place c.index_mut.ensures.value n c.take.ensures
          ∙ ap (λ (cs : List Component). map (taken_at b n) cs) c.loop-at.invariant.so_far
          ∙ drained-more (take i looked) b n all apart
          ∙ ap (λ (ids : List ℕ). map (drained_at ids n) all) (sym (take_more looked i 0 low));
      capacity = c.loop-at.invariant.capacity;
    }

pub returns-clause-items : goal.returns-clause-items
returns-clause-items c =
    c.loop-at.invariant.so_far ∙ ap (λ (ids : List ℕ). map (drained_at ids c.args.n) c.args.components.now.items) (take_all c.loop-at.at-index c.args._looked.now (omega (arith, c.loop-at-test.false, length-places c.args.components.now.items c.args._looked.now c.args.from.now c.requires.places)))
