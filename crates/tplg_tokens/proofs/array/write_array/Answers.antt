use Rattle.std.proofs.Common.{◌≡◌, ℕ, ap}
use Rattle.tplg_model.specs.Arrays.{array_type, count_of, array_size}
use Rattle.tplg_tokens.proofs.ArrayLoops.{array_written}
use Rattle.tplg_tokens.proofs.array.write_array.Goals as goal

pub returns-clause-ok : goal.returns-clause-ok
returns-clause-ok c =
    let a = c.args.array.now in
    let words = c.array_words-size.result in
    let size : words.0 ≡ array_size a = ap (λ (p : ℕ × ℕ × ℕ). p.0) c.array_words-size.ensures.words in
    let kind : words.1 ≡ array_type a = ap (λ (p : ℕ × ℕ × ℕ). p.1) c.array_words-size.ensures.words in
    let count : words.2 ≡ count_of a = ap (λ (p : ℕ × ℕ × ℕ). p.2) c.array_words-size.ensures.words in
    array_written a words.0 words.1 words.2 c.args.out.now.items c.write_words.new.out.items c.write_elements_of.new.out.items c.write_elements_of.result size kind count c.in_ok-write_words.ensures.ok c.write_elements_of.ensures.ok
