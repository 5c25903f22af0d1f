use Rattle.std.proofs.Common.{◌≡◌, ℕ, List, ◌++◌, take, refl, ap, ◌∙◌, rules}
use Rattle.sof_base.specs.Slots.{words_bytes, slots_cells, slot_cells}
use Rattle.sof_base.specs.Samples.{width, frame_format}
use Rattle.ipc3_codec.specs.Writing.{halves_bytes}
use Rattle.ipc3_model.specs.StreamWords.{valid_bytes, host_period_bytes}
use Rattle.ipc3_codec.proofs.WordList.{joins}
use Rattle.ipc3_codec.proofs.stream_writing.put_format.Goals as goal

pub returns-clause-bytes : goal.returns-clause-bytes
unfolding words_bytes halves_bytes slots_cells slot_cells
returns-clause-bytes c =
    let p = c.args.params in
    let number : c.number.result ≡ frame_format p.format = c.number.ensures in
    let valid : c.valid_bytes-valid.result ≡ valid_bytes p.format = c.valid_bytes-valid.ensures in
    let container : c.width-container.result ≡ width p.format = c.width-container.ensures in
    let period : c.host_period_bytes.result ≡ host_period_bytes p = c.host_period_bytes.ensures in
    let channels : c.from.result ≡ p.channels = search rules in
    let front = take c.args.at c.args.out.now in
    let first = joins front _ _ _ _ c.put-at.ensures.bytes c.put_halves-at.ensures.bytes in
    joins front _ _ _ _ first c.put.ensures.bytes ∙ ap (λ (t : List ℕ). front ++ t) (rw (number, valid, container, period, channels) refl)
