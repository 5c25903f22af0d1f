use Rattle.std.proofs.Common.{◌≡◌, sym, ◌∙◌, ap, ℕ, ◌+◌, ◌-◌, ◌<◌, ◌≤◌, ◌++◌, List, min, length, arith, append_assoc, take-append-drop}
use Rattle.std.proofs.lemmas.List.{with_items_is}
use Rattle.std.specs.Prelude.{vec_len}
use Rattle.std.specs.Vec.{with_items}
use Rattle.sof_base.specs.Ports.{InputView}
use Rattle.sof_io.specs.Round.{round_bytes}
use Rattle.sof_io.specs.Takes.{fuller_input}
use Rattle.sof_io.proofs.InputBytes.{held-is}
use Rattle.sof_io.proofs.RoundBytes.{round-grown}
use Rattle.sof_io.proofs.input.Input.fill.Goals as goal

pub copy_in-requires : goal.copy_in-requires
copy_in-requires c =
    let long = held-is c.self.inside c.args.self.now c.self.invariant.0 (sym c.self.inside.bytes.ok.0) (ap (λ (view : InputView). view.left) c.self.view_is) in
    let count : c.min-count.result ≡ min (length c.args.piece.now) (1048576 - vec_len c.self.inside.bytes) = omega (arith, c.min-count.ensures, c.len.ensures) in
    let back = c.split_at.ensures.back_len in
    let all : length c.as_mut_slice.result.now ≡ vec_len c.self.inside.bytes + c.min-count.result = omega (arith, c.as_mut_slice.ensures.len, c.grow.ensures.len, c.split_at.ensures.front_len) in
    let fits : length c.args.self.now.left + length c.args.piece.now ≤ 1048576 = c.requires in
    let kept = c.self.invariant.0 in
    (omega (arith, all, kept.begins), omega (arith, all, back, count, fits, long, kept.fits, kept.bound))

pub invariant_of-self : goal.invariant_of-self
invariant_of-self c =
    let long = held-is c.self.inside c.args.self.now c.self.invariant.0 (sym c.self.inside.bytes.ok.0) (ap (λ (view : InputView). view.left) c.self.view_is) in
    let count : c.min-count.result ≡ min (length c.args.piece.now) (1048576 - vec_len c.self.inside.bytes) = omega (arith, c.min-count.ensures, c.len.ensures) in
    let all : vec_len c.grow.new.bytes ≡ vec_len c.self.inside.bytes + c.min-count.result = omega (arith, c.grow.ensures.len, c.split_at.ensures.front_len) in
    let fits : length c.args.self.now.left + length c.args.piece.now ≤ 1048576 = c.requires in
    let kept = c.self.invariant.0 in
    let bound : vec_len c.self.inside.bytes ≤ 1048576 = kept.bound in (
      record {
        begins = omega (arith, all, kept.begins);
        fits = omega (arith, all, count, fits, long, kept.fits, bound);
        bound = omega (arith, all, count, bound);
        grows = λ less.
            let less' : vec_len c.grow.new.bytes < 1048576 = less in
            let last = kept.grows (omega (arith, all, less')) in
            omega (arith, all, count, last, less');
      },
      omega (arith, c.self.invariant.1, c.grow.ensures.capacity),
    )

pub returns : goal.returns
returns c =
    let start = c.self.inside.start in let held = c.self.inside.held in let bytes = c.self.inside.bytes.items in
    let piece = c.args.piece.now in let front = c.split_at.result.0.now in let back = c.split_at.result.1.now in
    let count : c.min-count.result ≡ min (length piece) (1048576 - vec_len c.self.inside.bytes) = omega (arith, c.min-count.ensures, c.len.ensures) in
    let len : length bytes ≡ vec_len c.self.inside.bytes = sym c.self.inside.bytes.ok.0 in
    let kept = c.self.invariant.0 in
    let last : 0 < length front → start + held ≡ length bytes =
    λ some. omega (arith, len, kept.grows (omega (arith, some, count, c.split_at.ensures.front_len))) in
    let items : (with_items c.grow.new.bytes c.copy_in.new.bytes).items ≡ c.copy_in.new.bytes =
    with_items_is c.grow.new.bytes c.copy_in.new.bytes (c.copy_in.auto.bytes ∙ c.as_mut_slice.ensures.len) in
    let many : held + length piece ≡ held + c.min-count.result + length back = omega (arith, c.split_at.ensures.back_len) in
    let left : round_bytes start (held + length piece) (with_items c.grow.new.bytes c.copy_in.new.bytes).items ≡ round_bytes start held bytes ++ piece =
    (λ i. round_bytes start (many i) (items i))
    ∙ c.copy_in.ensures
    ∙ (λ i. round_bytes start (held + sym c.split_at.ensures.front_len i) ((c.as_mut_slice.ensures.value ∙ c.grow.ensures.items) i) ++ back)
    ∙ ap (λ (l : List ℕ). l ++ back) (round-grown start held bytes front (omega (arith, len, kept.begins)) (omega (arith, len, kept.fits)) last)
    ∙ append_assoc (round_bytes start held bytes) front back
    ∙ ap (λ (l : List ℕ). round_bytes start held bytes ++ l) ((λ i. c.split_at.ensures.front i ++ c.split_at.ensures.back i) ∙ take-append-drop c.min-count.result piece) in
    (λ i. record { slot = c.self.inside.slot; position = c.self.inside.position; left = left i; ended = c.self.inside.ended })
    ∙ ap (fuller_input piece) c.self.view_is
