-- Lemmas on parts of a whole list of frames.
use Rattle.std.proofs.Common.{◌≡◌, sym, ap, ◌∙◌, ℕ, ◌+◌, ◌-◌, ◌≤◌, List, ◌++◌, length, take, drop, arith}
use Rattle.std.proofs.lemmas.List.{length-take, length-drop, drop-drop, drop-take, take-append-le, drop-append-le, length-append}
use Rattle.std.proofs.Math.Seq.{take-take, take_all, take_at}
use Rattle.sof_base.specs.Samples.{Frame}
use Rattle.stream_law.specs.Past.{part_of}

pub length-part_of : (xs : List Frame) (from n : ℕ) → from + n ≤ length xs → length (part_of xs from n) ≡ n
length-part_of xs from n fits = omega (arith, length-take n (drop from xs), length-drop from xs)

pub take-part_of : (xs : List Frame) (from n m : ℕ) → m ≤ n → take m (part_of xs from n) ≡ part_of xs from m
take-part_of xs from n m low = take-take m n (drop from xs) low

pub drop-part_of : (xs : List Frame) (from n m : ℕ) → m ≤ n → drop m (part_of xs from n) ≡ part_of xs (from + m) (n - m)
drop-part_of xs from n m low =
    let whole : n ≡ m + (n - m) = omega arith in
    ap (λ k. drop m (take k (drop from xs))) whole ∙ drop-take m (n - m) (drop from xs) ∙ ap (take (n - m)) (drop-drop m from xs)

-- a part that goes up to the end of a list goes on over what is put at the end
pub part_of-grow : (xs ys : List Frame) (from k : ℕ) → length xs ≡ k → from ≤ k → part_of (xs ++ ys) from (k - from) ++ ys ≡ part_of (xs ++ ys) from ((k + length ys) - from)
part_of-grow xs ys from k e low =
    let cut : drop from (xs ++ ys) ≡ drop from xs ++ ys = drop-append-le from xs ys (omega arith) in
    let rest : length (drop from xs) ≡ k - from = omega (arith, length-drop from xs) in
    ap (λ l. take (k - from) l ++ ys) cut ∙ ap (λ l. l ++ ys) (take_at (drop from xs) ys (k - from) rest)
    ∙ sym (ap (take ((k + length ys) - from)) cut ∙ take_all ((k + length ys) - from) (drop from xs ++ ys) (omega (arith, length-append (drop from xs) ys)))

-- a part within a list does not see what is put at the end
pub part_of-prefix : (xs ys : List Frame) (from n : ℕ) → from + n ≤ length xs → part_of (xs ++ ys) from n ≡ part_of xs from n
part_of-prefix xs ys from n fits =
    ap (take n) (drop-append-le from xs ys (omega arith)) ∙ take-append-le n (drop from xs) ys (omega (arith, length-drop from xs))
