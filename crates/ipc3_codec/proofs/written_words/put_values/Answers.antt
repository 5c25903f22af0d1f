use Rattle.std.proofs.Common.{◌≡◌, ◌++◌, ◌∷◌, [], List, ℕ, take, get_or, sym, ap, ◌∙◌, arith, append-nil}
use Rattle.std.proofs.lemmas.List.{take_all}
use Rattle.sof_base.specs.Cells.{written}
use Rattle.sof_base.specs.Slots.{slots_cells, words_bytes}
use Rattle.ipc3_model.specs.ControlWords.{value_slots}
use Rattle.ipc3_codec.proofs.WordList.{values-more}
use Rattle.ipc3_codec.proofs.written_words.put_values.Goals as goal

pub loop-i-init : goal.loop-i-init
unfolding slots_cells
loop-i-init c = record { place = omega arith; so_far = sym (append-nil (take c.args.at c.args.out.now)) }

pub put-end-requires : goal.put-end-requires
put-end-requires c = omega (arith, c.loop-i.invariant.place)

pub loop-i-preserved : goal.loop-i-preserved
loop-i-preserved c =
    let front = take c.args.at c.args.out.now in
    let before = c.loop-i.invariant.so_far in
    record {
      place = omega (arith, c.loop-i.invariant.place, c.put-end.ensures.end);
      so_far = values-more front c.args.values.now (take c.put-end.result c.put-end.new.out) c.loop-i.i c.loop-i-test.true (c.put-end.ensures.bytes ∙ ap (λ (t : List ℕ). t ++ words_bytes (c.loop-i.i ∷ get_or c.args.values.now c.loop-i.i 0 ∷ [])) before);
    }

pub returns-clause-end : goal.returns-clause-end
returns-clause-end c = omega (arith, c.loop-i.invariant.place)

pub returns-clause-bytes : goal.returns-clause-bytes
returns-clause-bytes c =
    let whole : take c.loop-i.i c.args.values.now ≡ c.args.values.now = take_all c.loop-i.i c.args.values.now c.loop-i-test.false in
    c.loop-i.invariant.so_far ∙ ap (λ (vs : List ℕ). take c.args.at c.args.out.now ++ written (slots_cells (value_slots 0 vs))) whole
