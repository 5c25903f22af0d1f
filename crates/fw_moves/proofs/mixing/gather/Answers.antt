use Rattle.std.proofs.Common.{◌≡◌, sym, ap, subst, ◌∙◌, ℕ, ◌+◌, ◌*◌, ◌<◌, ◌≤◌, Some, List, [], ◌∷◌, ℤ, map, take, length, get_or, arith, Bor, length-append}
use Rattle.std.specs.List.{AllByRecursion}
use Rattle.std.proofs.lemmas.List.{take_more, take_all}
use Rattle.sof_base.specs.Equations.{exact_sum}
use Rattle.fw_mixer.proofs.SumLaws.{all-by}
use Rattle.fw_units.specs.Frames.{buffer_frames, channels_in}
use Rattle.fw_moves.specs.Moving.{samples_in, IsWhole}
use Rattle.fw_moves.proofs.MadeLaws.{all-at}
use Rattle.fw_moves.proofs.MixLaws.{all-last, sums-more}
use Rattle.fw_moves.proofs.PlaceLaws.{length-places, place-at}
use Rattle.fw_moves.proofs.mixing.gather.Goals as goal

pub bounds-from-i : goal.bounds-from-i
bounds-from-i g c = omega (arith, c.loop-i-test.true, c.loop-i.auto.i-end, length-places c.args.buffers.now c.args.looked.now c.args.from.now c.requires.places)

pub part_of-part-requires-clause-place : goal.part_of-part-requires-clause-place
part_of-part-requires-clause-place g c = ap (λ (k : ℕ). Some k) c.from.ensures ∙ place-at c.args.buffers.now c.args.looked.now c.args.from.now c.loop-i.i c.requires.places (omega (arith, c.loop-i-test.true, c.loop-i.auto.i-end))

pub part_of-part-requires-clause-held : goal.part_of-part-requires-clause-held
part_of-part-requires-clause-held g c = all-at (λ b. c.args.n ≤ length (buffer_frames c.args.buffers.now b)) c.args.looked.now c.loop-i.i 0 c.loop-i-test.true c.requires.held

pub part_of-part-requires-clause-within : goal.part_of-part-requires-clause-within
part_of-part-requires-clause-within g c =
    let size = all-at (λ b. c.args.done + c.args.left ≡ c.args.n * channels_in c.args.buffers.now b) c.args.looked.now c.loop-i.i 0 c.loop-i-test.true c.requires.size in
    omega (arith, size)

pub push-requires : goal.push-requires
push-requires g c = omega (arith, c.requires.few.0, c.requires.none, c.loop-i.invariant.many, c.loop-i-test.true)

pub loop-i-preserved : goal.loop-i-preserved
loop-i-preserved g c =
    let bs = c.args.buffers.now in let looked = c.args.looked.now in let n : ℕ = c.args.n in let done : ℕ = c.args.done in let p : ℕ = c.loop-i.i in
    let so = c.loop-i.invariant in let parts : List (Bor (List ℤ)) = c.loop-i.parts.items in let part : Bor (List ℤ) = c.part_of-part.result in let b = get_or looked p 0 in
    let low : p < length looked = c.loop-i-test.true in
    let size = all-at (λ b. done + c.args.left ≡ n * channels_in bs b) looked p 0 low c.requires.size in
    let count : ℕ = c.min-count.result in
    let fewer : count ≤ c.loop-i.count = omega (arith, c.min-count.ensures) in
    let fits : count ≤ length part.now = omega (arith, c.min-count.ensures) in
    let pushed = c.push.ensures.items in
    record {
      count = omega (arith, fewer, so.count);
      some = λ some. omega (arith, c.min-count.ensures, so.some some, c.part_of-part.ensures.some (omega (arith, size, some)));
      many = ap (λ (xs : List (Bor (List ℤ))). length xs) pushed ∙ length-append parts (part ∷ []) ∙ (let e : length parts + 1 ≡ p + 1 = omega (arith, so.many) in e);
      long =
          subst (AllByRecursion (λ (x : Bor (List ℤ)). count ≤ length x.now)) (sym pushed)
          (all-last (λ (x : Bor (List ℤ)). count ≤ length x.now) parts part
          (all-by (λ (x : Bor (List ℤ)). c.loop-i.count ≤ length x.now) (λ (x : Bor (List ℤ)). count ≤ length x.now) (λ x l. let e : count ≤ length x.now = omega (arith, l, fewer) in e) parts so.long) fits);
      sums = λ k under.
          subst (λ (xs : List (Bor (List ℤ))). exact_sum k (map (λ (x : Bor (List ℤ)). x.now) xs) ≡ exact_sum (done + k) (map (samples_in bs n) (take (p + 1) looked))) (sym pushed)
          (sums-more (λ (x : Bor (List ℤ)). x.now) parts part (samples_in bs n) looked p done k low (so.sums k (omega (arith, under, fewer))) (c.part_of-part.ensures.are k (omega (arith, under, fits))));
      frames = subst (AllByRecursion (IsWhole bs)) (sym (take_more looked p 0 low)) (all-last (IsWhole bs) (take p looked) b so.frames c.part_of-part.ensures.frames);
    }

pub returns-clause-many : goal.returns-clause-many
returns-clause-many g c = omega (arith, c.loop-i.invariant.many, c.loop-i-test.false, c.loop-i.auto.i-end)

pub returns-clause-sums : goal.returns-clause-sums
returns-clause-sums g c = λ k low.
    c.loop-i.invariant.sums k low
    ∙ ap (λ (ids : List ℕ). exact_sum (c.args.done + k) (map (samples_in c.args.buffers.now c.args.n) ids)) (take_all c.loop-i.i c.args.looked.now (omega (arith, c.loop-i-test.false)))

pub returns-clause-frames : goal.returns-clause-frames
returns-clause-frames g c = subst (AllByRecursion (IsWhole c.args.buffers.now)) (take_all c.loop-i.i c.args.looked.now (omega (arith, c.loop-i-test.false))) c.loop-i.invariant.frames
