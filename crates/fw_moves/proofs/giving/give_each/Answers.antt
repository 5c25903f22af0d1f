use Rattle.std.proofs.Common.{◌≡◌, refl, sym, ap, ◌∙◌, subst, ℕ, ◌==◌, List, map, take, get_or, false, Option, Some, arith}
use Rattle.std.proofs.lemmas.List.{take_more, take_all}
use Rattle.std.specs.Prelude.{find}
use Rattle.sof_base.specs.FrameLists.{frames_of}
use Rattle.stream_law.specs.Placed.{Ascends}
use Rattle.fw_units.specs.declared.component.Component.{Component}
use Rattle.fw_units.specs.Frames.{words_by, pushed_at}
use Rattle.fw_moves.specs.Processed.{IsOutlet, output_number, output_frames, fed_at}
use Rattle.fw_moves.proofs.Draining.{not-before}
use Rattle.fw_moves.proofs.OutletLaws.{fed-none, fed-more, find-unpushed, outlet-still}
use Rattle.fw_units.proofs.Ids.{ascends-map}
use Rattle.fw_moves.proofs.MadeLaws.{all-at}
use Rattle.fw_moves.proofs.MovedLaws.{fed-id}
use Rattle.fw_moves.specs.Moving.{AreAt}
use Rattle.fw_moves.proofs.PlaceLaws.{length-places, place-at, places-still}
use Rattle.fw_moves.proofs.giving.give_each.Goals as goal

pub give_one-requires-clause-ascends : goal.give_one-requires-clause-ascends
give_one-requires-clause-ascends c =
    let x = c.args.component.now in let all = c.args.buffers.now.items in let i = c.loop-i.i in
    let fs = λ (b : ℕ). output_frames x.unit x.channels (output_number c.args.joins.now x.id b) (frames_of x.channels c.args.n c.args.made.now) in
    let words = λ (b : ℕ). words_by (find (λ y. y.id == b) c.loop-i.buffers.items) in
    subst (Ascends (λ (y : Component). y.id)) (sym c.loop-i.invariant.so_far)
    (ascends-map (fed_at (take i c.args.fed.now) fs words) (fed-id (take i c.args.fed.now) fs words) all c.requires.ascends)

pub give_one-requires-clause-outlet : goal.give_one-requires-clause-outlet
give_one-requires-clause-outlet c =
    let x = c.args.component.now in let all = c.args.buffers.now.items in let fed = c.args.fed.now in let i = c.loop-i.i in let b = get_or fed i 0 in
    let fs = λ (b : ℕ). output_frames x.unit x.channels (output_number c.args.joins.now x.id b) (frames_of x.channels c.args.n c.args.made.now) in
    let words = λ (b : ℕ). words_by (find (λ y. y.id == b) c.loop-i.buffers.items) in
    outlet-still (take i fed) fs words all c.loop-i.buffers.items x.channels c.args.n b c.loop-i.invariant.so_far
    (not-before fed i c.requires.single c.loop-i-test.true)
    (all-at (IsOutlet all x.channels c.args.n) fed i 0 c.loop-i-test.true c.requires.outlets)

pub give_one-requires-clause-place : goal.give_one-requires-clause-place
give_one-requires-clause-place c =
    let x = c.args.component.now in let all = c.args.buffers.now.items in let fed = c.args.fed.now in let to = c.args.to.now in let i = c.loop-i.i in
    let fs = λ (b : ℕ). output_frames x.unit x.channels (output_number c.args.joins.now x.id b) (frames_of x.channels c.args.n c.args.made.now) in
    let words = λ (b : ℕ). words_by (find (λ y. y.id == b) c.loop-i.buffers.items) in
    ap (λ (k : ℕ). Some k) c.from-at.ensures
    ∙ place-at c.loop-i.buffers.items fed to i
    (subst (λ (cs : List Component). AreAt cs fed to) (sym c.loop-i.invariant.so_far) (places-still (fed_at (take i fed) fs words) (fed-id (take i fed) fs words) all fed to c.requires.places))
    c.loop-i-test.true

pub bounds-to-i : goal.bounds-to-i
bounds-to-i c = omega (arith, c.loop-i-test.true, length-places c.args.buffers.now.items c.args.fed.now c.args.to.now c.requires.places)

pub loop-i-init : goal.loop-i-init
loop-i-init c =
    let x = c.args.component.now in let all = c.args.buffers.now.items in
    record {
      so_far = fed-none (λ b. output_frames x.unit x.channels (output_number c.args.joins.now x.id b) (frames_of x.channels c.args.n c.args.made.now)) (λ b. words_by (find (λ y. y.id == b) all)) all;
      capacity = refl;
      size = refl;
    }

pub loop-i-preserved : goal.loop-i-preserved
loop-i-preserved c =
    let x = c.args.component.now in let all = c.args.buffers.now.items in let fed = c.args.fed.now in let i = c.loop-i.i in let b = get_or fed i 0 in
    let old = c.loop-i.buffers.items in let new = c.give_one.new.buffers.items in
    let fs = λ (b : ℕ). output_frames x.unit x.channels (output_number c.args.joins.now x.id b) (frames_of x.channels c.args.n c.args.made.now) in
    let before = λ (b : ℕ). words_by (find (λ y. y.id == b) old) in
    let words = λ (b : ℕ). words_by (find (λ y. y.id == b) new) in
    let same : (k : ℕ) → (k == b) ≡ false → words k ≡ before k =
    λ k other. ap (λ (o : Option Component). words_by o) (ap (find (λ (y : Component). y.id == k)) c.give_one.ensures.items ∙ find-unpushed b (fs b) (words b) k old other) in
    record {
      so_far =
          c.give_one.ensures.items
          ∙ ap (λ (cs : List Component). map (pushed_at b (fs b) (words b)) cs) c.loop-i.invariant.so_far
          ∙ fed-more (take i fed) b fs before words (not-before fed i c.requires.single c.loop-i-test.true) same all
          ∙ ap (λ (ids : List ℕ). map (fed_at ids fs words) all) (sym (take_more fed i 0 c.loop-i-test.true));
      capacity = c.give_one.ensures.capacity ∙ c.loop-i.invariant.capacity;
      size = c.give_one.ensures.size ∙ c.loop-i.invariant.size;
    }

pub returns-clause-items : goal.returns-clause-items
returns-clause-items c =
    let x = c.args.component.now in let all = c.args.buffers.now.items in
    let fs = λ (b : ℕ). output_frames x.unit x.channels (output_number c.args.joins.now x.id b) (frames_of x.channels c.args.n c.args.made.now) in
    let words = λ (b : ℕ). words_by (find (λ y. y.id == b) c.loop-i.buffers.items) in
    c.loop-i.invariant.so_far ∙ ap (λ (ids : List ℕ). map (fed_at ids fs words) all) (take_all c.loop-i.i c.args.fed.now c.loop-i-test.false)
