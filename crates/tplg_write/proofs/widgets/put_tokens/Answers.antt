use Rattle.std.proofs.Common.{◌≡◌, ℕ, ◌-◌, List, length, arith, ap, length-append}
use Rattle.sof_base.specs.Slots.{Word}
use Rattle.sof_base.specs.Layouts.{wrote}
use Rattle.tplg_model.specs.Arrays.{arrays_spelling}
use Rattle.tplg_write.proofs.PatchLaws.{word_length, patched_raw}
use Rattle.tplg_write.proofs.widgets.put_tokens.Goals as goal

pub overflow_sub-size : goal.overflow_sub-size
overflow_sub-size c =
    let old = c.args.sink.now.added in
    let arrays = arrays_spelling c.args.tokens.now in
    let added = rw c.in_ok-word.ensures.ok at c.in_ok-arrays.ensures.ok in
    omega (arith, c.len-place.ensures, c.len.ensures, ap (λ s. length s.added) added, length-append (wrote old (Word 0)) arrays, word_length old 0)

pub overflow_sub-size-2 : goal.overflow_sub-size-2
overflow_sub-size-2 c =
    let old = c.args.sink.now.added in
    let arrays = arrays_spelling c.args.tokens.now in
    let added = rw c.in_ok-word.ensures.ok at c.in_ok-arrays.ensures.ok in
    omega (arith, c.len-place.ensures, c.len.ensures, ap (λ s. length s.added) added, length-append (wrote old (Word 0)) arrays, word_length old 0)

pub overflow_cast-size : goal.overflow_cast-size
overflow_cast-size c =
    let old = c.args.sink.now.added in
    let arrays = arrays_spelling c.args.tokens.now in
    let added = rw c.in_ok-word.ensures.ok at c.in_ok-arrays.ensures.ok in
    omega (arith, c.requires.room, c.len-place.ensures, c.len.ensures, ap (λ s. length s.added) added, length-append (wrote old (Word 0)) arrays, word_length old 0)

pub patch-requires : goal.patch-requires
patch-requires c =
    let old = c.args.sink.now.added in
    let arrays = arrays_spelling c.args.tokens.now in
    let added = rw c.in_ok-word.ensures.ok at c.in_ok-arrays.ensures.ok in
    omega (arith, c.len-place.ensures, ap (λ s. length s.added) added, length-append (wrote old (Word 0)) arrays, word_length old 0)

pub returns-clause-ok : goal.returns-clause-ok
returns-clause-ok c =
    let old = c.args.sink.now.added in
    let arrays = arrays_spelling c.args.tokens.now in
    let added = rw c.in_ok-word.ensures.ok at c.in_ok-arrays.ensures.ok in
    let size : c.len.result - c.len-place.result - 4 ≡ length arrays = omega (arith, c.len-place.ensures, c.len.ensures, ap (λ s. length s.added) added, length-append (wrote old (Word 0)) arrays, word_length old 0) in
    rw (c.patch.ensures.added, added) (ap (λ (a : List ℕ). record { front = c.args.sink.now.front; added = a }) (patched_raw old arrays (c.len.result - c.len-place.result - 4) c.len-place.result c.len-place.ensures size))
