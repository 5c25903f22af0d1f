use Rattle.std.proofs.Common.{◌≡◌, List, Some, None, get_or, refl, sym, ap, ◌∙◌, arith}
use Rattle.std.proofs.lemmas.Result.{err_from_is_err_and}
use Rattle.toml.specs.Data.{Data, as_array}
use Rattle.toml.specs.View.{view, items_view}
use Rattle.toml.specs.declared.value.Value.{Value}
use Rattle.tplg_compile.specs.ProgramValues.{viewed}
use Rattle.tplg_compile.specs.Entries.{bit_of, bits_with, formats_of}
use Rattle.tplg_compile.proofs.SeenLaws.{list_of-items, seen-drop, seen-past}
use Rattle.tplg_compile.proofs.LoopLaws.{bits-more, bits-lack, bits-end, through}
use Rattle.tplg_compile.proofs.pcms.formats.Goals as goal

listed : (d : Data) (vs : List Value) → as_array d ≡ Some (items_view vs) → formats_of d ≡ bits_with 0 (viewed vs)
unfolding formats_of
listed d vs is = rw (is, list_of-items vs) refl

pub returns-in_err-bits : goal.returns-in_err-bits
returns-in_err-bits c =
    let vs = c.deref-value-items.result.now in
    let i = c.loop-value.value-index in
    let v = c.value-item.result in
    let array : as_array (view c.args.value.now) ≡ Some (items_view vs) = rw c.deref-value-items.ensures.value (sym c.in-Some.ensures) in
    let p = err_from_is_err_and c.from_residual.result c.from_residual.ensures.1 in
    rw (p.1, p.2) (through c.in_err-bits.field-0.0 (bit_of (view v)) (formats_of (view c.args.value.now)) (λ none.
    let here : bit_of (view (get_or vs i v)) ≡ None = rw (← c.value-item.is) none in
    listed _ vs array ∙ sym c.loop-value.invariant ∙ ap (bits_with c.loop-value.bits) (seen-drop vs i v c.loop-value-test.true) ∙ bits-lack c.loop-value.bits _ _ here) c.in_err-bits.ensures)

pub loop-value-preserved : goal.loop-value-preserved
loop-value-preserved c =
    let vs = c.deref-value-items.result.now in
    let i = c.loop-value.value-index in
    let v = c.value-item.result in
    let here : bit_of (view (get_or vs i v)) ≡ Some c.in_ok-bits.field-0 = rw (← c.value-item.is) c.in_ok-bits.ensures in
    sym (ap (bits_with c.loop-value.bits) (seen-drop vs i v c.loop-value-test.true) ∙ bits-more c.loop-value.bits _ _ _ here) ∙ c.loop-value.invariant

pub returns : goal.returns
returns c =
    let vs = c.deref-value-items.result.now in
    let array : as_array (view c.args.value.now) ≡ Some (items_view vs) = rw c.deref-value-items.ensures.value (sym c.in-Some.ensures) in
    listed _ vs array ∙ sym c.loop-value.invariant ∙ ap (bits_with c.loop-value.bits) (seen-past vs c.loop-value.value-index (omega arith)) ∙ bits-end c.loop-value.bits
