-- Reads and writes one after another, where the bytes are known.
use Rattle.std.proofs.Common.{◌≡◌, ◌<◌, ℕ, Bool, true, false, List, [], ◌++◌, length, Option, Some, None, refl, sym, ◌∙◌, ap, take, drop, ◌-◌, append_assoc, append-nil, length-append, take-append-drop, arith}
use Rattle.std.proofs.lemmas.List.{take_rest}
use Rattle.std.specs.Io.KnownBytes.{Keeps, Appends, Consumes, IsAtEnd}
use Rattle.sof_desk.specs.Desk.{Part}
use Rattle.sof_files.specs.Transfers.{Writes}

pub consumes_none : (a : Option (List ℕ)) → Consumes a a []
consumes_none None = tt
consumes_none (Some xs) = refl

pub consumes_more : (a b c : Option (List ℕ)) (bs more : List ℕ) → Consumes a b bs → Consumes b c more → Consumes a c (bs ++ more)
consumes_more None b c bs more first second = tt
consumes_more (Some xs) None c bs more first second = absurd first
consumes_more (Some xs) (Some ys) None bs more first second = absurd second
consumes_more (Some xs) (Some ys) (Some zs) bs more first second = first ∙ ap (λ t. bs ++ t) second ∙ sym (append_assoc bs more zs)

pub consumed_all : (a b : Option (List ℕ)) (bs all : List ℕ) → Consumes a b bs → IsAtEnd b → a ≡ Some all → bs ≡ all
consumed_all None b bs all consumed ends told = cc
consumed_all (Some xs) None bs all consumed ends told = absurd consumed
consumed_all (Some xs) (Some ys) bs all consumed ends told =
    let is : xs ≡ all = cc in sym (append-nil bs) ∙ ap (λ t. bs ++ t) (sym ends) ∙ sym consumed ∙ is

pub consumed_more_than : (a b : Option (List ℕ)) (bs all : List ℕ) (limit : ℕ) → Consumes a b bs → limit < length bs → a ≡ Some all → limit < length all
consumed_more_than None b bs all limit consumed long told = cc
consumed_more_than (Some xs) None bs all limit consumed long told = absurd consumed
consumed_more_than (Some xs) (Some ys) bs all limit consumed long told =
    let is : all ≡ bs ++ ys = cc in omega (arith, ap length is, length-append bs ys)

pub appends_none : (a : Option (List ℕ)) → Appends a a []
appends_none None = tt
appends_none (Some xs) = sym (append-nil xs)

pub appends_more : (a b c : Option (List ℕ)) (bs more : List ℕ) → Appends a b bs → Appends b c more → Appends a c (bs ++ more)
appends_more None b c bs more first second = tt
appends_more (Some xs) None c bs more first second = absurd first
appends_more (Some xs) (Some ys) None bs more first second = absurd second
appends_more (Some xs) (Some ys) (Some zs) bs more first second = second ∙ ap (λ t. t ++ more) first ∙ append_assoc xs bs more

pub appends_kept : (a b c : Option (List ℕ)) (bs : List ℕ) → Appends a b bs → Keeps b c → Appends a c bs
appends_kept None b c bs first kept = tt
appends_kept (Some xs) None c bs first kept = absurd first
appends_kept (Some xs) (Some ys) None bs first kept = absurd kept
appends_kept (Some xs) (Some ys) (Some zs) bs first kept = kept ∙ first

-- one write more: of a piece this part was written and this rest is left
pub write_step : (piece rest part : List ℕ) (n : ℕ) (a b c : Option (List ℕ)) → part ++ rest ≡ piece → Appends a b part → Appends b c (take n rest) → (more : List ℕ) × ((more ++ take (length rest - n) (drop n rest) ≡ piece) × Appends a c more)
write_step piece rest part n a b c parts first second =
    (part ++ take n rest, (rw take_rest (append_assoc part (take n rest) (drop n rest) ∙ ap (λ t. part ++ t) (take-append-drop n rest) ∙ parts), appends_more a b c part (take n rest) first second))

-- a piece after one that was written whole
pub part_behind : (done : Bool) (near far part : List ℕ) → Part done part far → Part done (near ++ part) (near ++ far)
part_behind true near far part takes = ap (λ t. near ++ t) takes
part_behind false near far part takes = (takes.0, append_assoc near part takes.0 ∙ ap (λ t. near ++ t) takes.1)

pub writes_more : (near far : List ℕ) (done : Bool) (a b c : Option (List ℕ)) → Writes near true a b → Writes far done b c → Writes (near ++ far) done a c
writes_more near far done a b c first second =
    record {
      part = near ++ second.part;
      takes = part_behind done near far second.part second.takes;
      appends = appends_more a b c near second.part (rw first.takes at first.appends) second.appends;
    }
