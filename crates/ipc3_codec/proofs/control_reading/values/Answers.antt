use Rattle.std.proofs.Common.{◌≡◌, ◌-◌, ◌≤◌, ℕ, Ok, Err, Some, length, take, length-set, refl, sym, ap, ◌∙◌, arith, rules}
use Rattle.std.proofs.lemmas.Bool.{le-leb}
use Rattle.std.proofs.lemmas.List.{length-take}
use Rattle.sof_base.specs.Slots.{word_at}
use Rattle.ipc3_model.specs.ControlWords.{pair_values_at, values_in}
use Rattle.ipc3_codec.specs.Reading.{pair_in, values_read}
use Rattle.ipc3_codec.proofs.Runs.{pairs_from, pairs_passes, pairs_fails, values_step}
use Rattle.ipc3_codec.proofs.control_reading.values.Goals as goal

pub loop-i-init : goal.loop-i-init
unfolding values_read
loop-i-init c =
    let b = c.args.frame.now in
    let k : c.args.count - 0 ≡ word_at b 56 = omega (arith, c.requires.count) in
    record { read = ap (λ (n : ℕ). pairs_from b 0 n (values_in b)) (sym k); so_far = refl; len = refl }

pub returns-in_err-values : goal.returns-in_err-values
returns-in_err-values c =
    let b = c.args.frame.now in
    let f = c.in_err-values.field-0.0 in
    let is : pair_in b c.loop-i.i ≡ Err f = sym c.value.ensures.read ∙ c.in_err-values.was {u = tt} in
    let r : c.from_residual.result ≡ Err f = search rules in
    r ∙ sym (c.loop-i.invariant.read ∙ pairs_fails b c.loop-i.i c.args.count f (values_in b) c.loop-i-test.true is)

pub loop-i-preserved : goal.loop-i-preserved
loop-i-preserved c =
    let b = c.args.frame.now in
    let v = c.in_ok-values.field-0 in
    let is : pair_in b c.loop-i.i ≡ Ok v = sym c.value.ensures.read ∙ c.in_ok-values.was {u = tt} in
    record {
      read = c.loop-i.invariant.read ∙ pairs_passes b c.loop-i.i c.args.count v (values_in b) c.loop-i-test.true is;
      so_far = values_step b c.loop-i.values c.loop-i.i v (omega (arith, c.loop-i.invariant.len, c.requires.small)) c.loop-i.invariant.so_far (search rules);
      len = length-set c.loop-i.values c.loop-i.i v ∙ c.loop-i.invariant.len;
    }

pub returns : goal.returns
returns c =
    let b = c.args.frame.now in
    let end : c.loop-i.i ≡ c.args.count = omega arith in
    let none : c.args.count - c.loop-i.i ≡ 0 = omega arith in
    let read : values_read b ≡ Ok (values_in b) = c.loop-i.invariant.read ∙ ap (λ (n : ℕ). pairs_from b c.loop-i.i n (values_in b)) none in
    let same : values_in b ≡ take c.args.count c.loop-i.values = ap (λ (n : ℕ). pair_values_at n b 92) (sym c.requires.count ∙ sym end) ∙ c.loop-i.invariant.so_far ∙ ap (λ (n : ℕ). take n c.loop-i.values) end in
    let small : length (take c.args.count c.loop-i.values) ≤ 8 = omega (arith, length-take c.args.count c.loop-i.values) in
    let made : c.new.result ≡ Some (values_in b) = c.new.ensures ∙ (rw (le-leb (length (take c.args.count c.loop-i.values)) 8 small, same) refl) in
    c.ok_or.ensures.value ∙ (rw made (sym read))
