-- Texts that grow by pieces.
use Rattle.std.proofs.Common.{◌≡◌, ℕ, List, ◌++◌, Result, OnOk, ap, subst, ◌∙◌, append_assoc}

-- a piece that was put before what is still to come
pub ahead : (start piece text rest : List ℕ) → text ≡ start ++ piece → text ++ rest ≡ start ++ (piece ++ rest)
ahead start piece text rest is = ap (λ xs. xs ++ rest) is ∙ append_assoc start piece rest

-- five pieces, one after the other
pub five : (start a b c d e one two three four : List ℕ) → one ≡ start ++ a → two ≡ one ++ b → three ≡ two ++ c → four ≡ three ++ d
    → four ++ e ≡ start ++ (a ++ (b ++ (c ++ (d ++ e))))
five start a b c d e one two three four first second third fourth =
    ahead three d four e fourth ∙ (ahead two c three (d ++ e) third ∙ (ahead one b two (c ++ (d ++ e)) second
    ∙ ahead start a one (b ++ (c ++ (d ++ e))) first))

-- seven
pub seven : (start a b c d e f g one two three four five_put six : List ℕ) → one ≡ start ++ a → two ≡ one ++ b → three ≡ two ++ c → four ≡ three ++ d
    → five_put ≡ four ++ e → six ≡ five_put ++ f → six ++ g ≡ start ++ (a ++ (b ++ (c ++ (d ++ (e ++ (f ++ g))))))
seven start a b c d e f g one two three four five_put six first second third fourth fifth sixth =
    ahead five_put f six g sixth ∙ (ahead four e five_put (f ++ g) fifth
    ∙ five start a b c d (e ++ (f ++ g)) one two three four first second third fourth)

-- what is written, where all was, is the same text
pub written : {T E : Type 0} (r : Result T E) (text said all : List ℕ) → said ≡ all → OnOk r (text ≡ said) → OnOk r (text ≡ all)
written r text said all same is = subst (λ x. OnOk r (text ≡ x)) same is
