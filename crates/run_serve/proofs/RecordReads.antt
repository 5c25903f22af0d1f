-- Reads that bring the kind and size of a record, and then its bytes.
use Rattle.std.proofs.Common.{◌≡◌, inl, inr, refl, sym, ◌∙◌, ap, subst, ℕ, ◌+◌, ◌-◌, ◌<◌, ◌≤◌, List, [], ◌∷◌, ◌++◌, length, Some, cond, append_assoc, arith, length-append}
use Rattle.std.proofs.lemmas.Bool.{lt-ltb, le-ltb}
use Rattle.std.proofs.lemmas.Grind.{flat_map-append}
use Rattle.std.proofs.lemmas.List.{append-nil}
use Rattle.sof_desk.specs.Desk.{Read}
use Rattle.ipc3_trace.specs.Kinds.{size_after}
use Rattle.ipc3_trace.proofs.HeadLaws.{size-front}
use Rattle.run_serve.specs.Reads.{requests_slot, asked, record_reads, Brings, BringsMore, joined_pieces, fills, FillsTo, FillsUpTo}

-- ---- what is asked for

pub asked-head : (part : List ℕ) → length part < 8 → asked part ≡ 8 - length part
asked-head part few = ap (λ b. cond b (8 - length part) ((8 + size_after part) - length part)) (lt-ltb (length part) 8 few)

pub asked-body : (part : List ℕ) → 8 ≤ length part → asked part ≡ (8 + size_after part) - length part
asked-body part there = ap (λ b. cond b (8 - length part) ((8 + size_after part) - length part)) (le-ltb (length part) 8 there)

longer : (part piece : List ℕ) (n : ℕ) → length part ≡ n → length (part ++ piece) ≡ n + length piece
longer part piece n is = length-append part piece ∙ ap (λ k. k + length piece) is

joined-more : (part piece : List ℕ) (pieces : List (List ℕ)) → (part ++ piece) ++ joined_pieces pieces ≡ part ++ joined_pieces (piece ∷ pieces)
joined-more part piece pieces = append_assoc part piece (joined_pieces pieces)

-- nothing more comes where the last piece is empty
ended : (part piece : List ℕ) (pieces : List (List ℕ)) → piece ≡ [] → pieces ≡ [] → part ++ joined_pieces (piece ∷ pieces) ≡ part
ended part piece pieces none last = ap (λ ps. part ++ joined_pieces ps) (λ i. none i ∷ last i) ∙ append-nil part

-- ---- what follows kind and size

pub record Follows (part : List ℕ) (at to : ℕ) (pieces : List (List ℕ)) : Type 0 where
  pub brings : Brings part pieces (part ++ joined_pieces pieces)
  pub reads : record_reads part pieces ≡ fills at to pieces

body-follows : (pieces : List (List ℕ)) (part : List ℕ) (at to there : ℕ) → length part ≡ at → 8 ≤ at → to ≡ 8 + size_after part → FillsTo at to pieces there → Follows part at to pieces
body-follows [] part at to there long head to_is fills_to =
    record {
      brings = (asked-body part (omega (arith, long, head)) ∙ omega (arith, long, to_is, fills_to.0), append-nil part);
      reads = refl;
    }
body-follows (piece ∷ pieces) part at to there long head to_is (before, inl (none, last, end)) =
    let asks : asked part ≡ to - at = asked-body part (omega (arith, long, head)) ∙ (λ i. sym to_is i - long i) in
    record {
      brings = (omega (arith, asks, before), inl (none, last, ended part piece pieces none last));
      reads = λ i. Read requests_slot (asks i) (Some piece) ∷ (ap (record_reads (part ++ piece)) last ∙ ap (fills (at + length piece) to) (sym last)) i;
    }
body-follows (piece ∷ pieces) part at to there long head to_is (before, inr (some, fits, rest)) =
    let asks : asked part ≡ to - at = asked-body part (omega (arith, long, head)) ∙ (λ i. sym to_is i - long i) in
    let same : size_after (part ++ piece) ≡ size_after part = size-front part piece (omega (arith, long, head)) in
    let later = body-follows pieces (part ++ piece) (at + length piece) to there (longer part piece at long) (omega (arith, head)) (to_is ∙ ap (λ n. 8 + n) (sym same)) rest in
    record {
      brings = (omega (arith, asks, before), inr (some, omega (arith, asks, fits), subst (Brings (part ++ piece) pieces) (joined-more part piece pieces) later.brings));
      reads = λ i. Read requests_slot (asks i) (Some piece) ∷ later.reads i;
    }

-- and where a read of it fails
pub record FollowsMore (part : List ℕ) (at to : ℕ) (pieces : List (List ℕ)) (there : ℕ) : Type 0 where
  pub brings : BringsMore part pieces (part ++ joined_pieces pieces)
  pub reads : record_reads part pieces ≡ fills at to pieces
  pub asks : asked (part ++ joined_pieces pieces) ≡ to - there

body-more : (pieces : List (List ℕ)) (part : List ℕ) (at to there : ℕ) → length part ≡ at → 8 ≤ at → to ≡ 8 + size_after part → FillsUpTo at to pieces there → FollowsMore part at to pieces there
body-more [] part at to there long head to_is (before, end) =
    let asks : asked part ≡ to - at = asked-body part (omega (arith, long, head)) ∙ (λ i. sym to_is i - long i) in
    record {
      brings = (omega (arith, asks, before), append-nil part);
      reads = refl;
      asks = ap asked (append-nil part) ∙ asks ∙ ap (λ n. to - n) (sym end);
    }
body-more (piece ∷ pieces) part at to there long head to_is (some, fits, rest) =
    let asks : asked part ≡ to - at = asked-body part (omega (arith, long, head)) ∙ (λ i. sym to_is i - long i) in
    let same : size_after (part ++ piece) ≡ size_after part = size-front part piece (omega (arith, long, head)) in
    let later = body-more pieces (part ++ piece) (at + length piece) to there (longer part piece at long) (omega (arith, head)) (to_is ∙ ap (λ n. 8 + n) (sym same)) rest in
    record {
      brings = (some, omega (arith, asks, fits), subst (BringsMore (part ++ piece) pieces) (joined-more part piece pieces) later.brings);
      reads = λ i. Read requests_slot (asks i) (Some piece) ∷ later.reads i;
      asks = ap asked (sym (joined-more part piece pieces)) ∙ later.asks;
    }

-- ---- kind and size

head-asks : (part : List ℕ) (at : ℕ) → length part ≡ at → at < 8 → asked part ≡ 8 - at
head-asks part at long few = asked-head part (omega (arith, long, few)) ∙ ap (λ n. 8 - n) long

-- the file ends within them
pub head-ends : (pieces : List (List ℕ)) (part : List ℕ) (at there : ℕ) → length part ≡ at → there < 8 → FillsTo at 8 pieces there → Follows part at 8 pieces
head-ends [] part at there long few fills_to = absurd (omega (arith, few, fills_to.1))
head-ends (piece ∷ pieces) part at there long few (before, inl (none, last, end)) =
    let asks = head-asks part at long before in
    record {
      brings = (omega (arith, asks, before), inl (none, last, ended part piece pieces none last));
      reads = λ i. Read requests_slot (asks i) (Some piece) ∷ (ap (record_reads (part ++ piece)) last ∙ ap (fills (at + length piece) 8) (sym last)) i;
    }
head-ends (piece ∷ pieces) part at there long few (before, inr (some, fits, rest)) =
    let asks = head-asks part at long before in
    let later = head-ends pieces (part ++ piece) (at + length piece) there (longer part piece at long) few rest in
    record {
      brings = (omega (arith, asks, before), inr (some, omega (arith, asks, fits), subst (Brings (part ++ piece) pieces) (joined-more part piece pieces) later.brings));
      reads = λ i. Read requests_slot (asks i) (Some piece) ∷ later.reads i;
    }

-- a read of them fails
pub head-fails : (pieces : List (List ℕ)) (part : List ℕ) (at there : ℕ) → length part ≡ at → at ≤ 8 → FillsUpTo at 8 pieces there → FollowsMore part at 8 pieces there
head-fails [] part at there long few (before, end) =
    let asks = head-asks part at long before in
    record {
      brings = (omega (arith, asks, before), append-nil part);
      reads = refl;
      asks = ap asked (append-nil part) ∙ asks ∙ ap (λ n. 8 - n) (sym end);
    }
head-fails (piece ∷ pieces) part at there long few (some, fits, rest) =
    let asks = head-asks part at long (omega (arith, some, fits, few)) in
    let later = head-fails pieces (part ++ piece) (at + length piece) there (longer part piece at long) (omega (arith, some, fits, few)) rest in
    record {
      brings = (some, omega (arith, asks, fits), subst (BringsMore (part ++ piece) pieces) (joined-more part piece pieces) later.brings);
      reads = λ i. Read requests_slot (asks i) (Some piece) ∷ later.reads i;
      asks = ap asked (sym (joined-more part piece pieces)) ∙ later.asks;
    }

-- ---- both

two-joined : (part : List ℕ) (first rest : List (List ℕ)) → (part ++ joined_pieces first) ++ joined_pieces rest ≡ part ++ joined_pieces (first ++ rest)
two-joined part first rest = append_assoc part (joined_pieces first) (joined_pieces rest) ∙ ap (λ xs. part ++ xs) (sym (flat_map-append (λ piece. piece) first rest))

-- after all eight bytes were there, pieces bring what follows them
pub record HeadThen (part : List ℕ) (at to : ℕ) (first rest : List (List ℕ)) : Type 0 where
  pub brings : Brings part (first ++ rest) (part ++ joined_pieces (first ++ rest))
  pub reads : record_reads part (first ++ rest) ≡ fills at 8 first ++ fills 8 to rest

pub head-then : (first rest : List (List ℕ)) (part : List ℕ) (at to there : ℕ) → length part ≡ at → FillsTo at 8 first 8 → to ≡ 8 + size_after (part ++ joined_pieces first) → FillsTo 8 to rest there → HeadThen part at to first rest
head-then [] rest part at to there long filled to_is fills_to =
    let later = body-follows rest part 8 to there (long ∙ filled.0) (omega arith) (to_is ∙ ap (λ xs. 8 + size_after xs) (append-nil part)) fills_to in
    record { brings = later.brings; reads = later.reads }
head-then (piece ∷ first) rest part at to there long (before, inl (none, last, end)) to_is fills_to = absurd (omega (arith, before, end))
head-then (piece ∷ first) rest part at to there long (before, inr (some, fits, filled)) to_is fills_to =
    let asks = head-asks part at long before in
    let later = head-then first rest (part ++ piece) (at + length piece) to there (longer part piece at long) filled (to_is ∙ ap (λ xs. 8 + size_after xs) (sym (joined-more part piece first))) fills_to in
    record {
      brings = (omega (arith, asks, before), inr (some, omega (arith, asks, fits), subst (Brings (part ++ piece) (first ++ rest)) (joined-more part piece (first ++ rest)) later.brings));
      reads = λ i. Read requests_slot (asks i) (Some piece) ∷ later.reads i;
    }

-- and where a read of it fails
pub record HeadThenMore (part : List ℕ) (at to : ℕ) (first rest : List (List ℕ)) (there : ℕ) : Type 0 where
  pub brings : BringsMore part (first ++ rest) (part ++ joined_pieces (first ++ rest))
  pub reads : record_reads part (first ++ rest) ≡ fills at 8 first ++ fills 8 to rest
  pub asks : asked (part ++ joined_pieces (first ++ rest)) ≡ to - there

pub head-then-more : (first rest : List (List ℕ)) (part : List ℕ) (at to there : ℕ) → length part ≡ at → FillsTo at 8 first 8 → to ≡ 8 + size_after (part ++ joined_pieces first) → FillsUpTo 8 to rest there → HeadThenMore part at to first rest there
head-then-more [] rest part at to there long filled to_is fills_to =
    let later = body-more rest part 8 to there (long ∙ filled.0) (omega arith) (to_is ∙ ap (λ xs. 8 + size_after xs) (append-nil part)) fills_to in
    record { brings = later.brings; reads = later.reads; asks = later.asks }
head-then-more (piece ∷ first) rest part at to there long (before, inl (none, last, end)) to_is fills_to = absurd (omega (arith, before, end))
head-then-more (piece ∷ first) rest part at to there long (before, inr (some, fits, filled)) to_is fills_to =
    let asks = head-asks part at long before in
    let later = head-then-more first rest (part ++ piece) (at + length piece) to there (longer part piece at long) filled (to_is ∙ ap (λ xs. 8 + size_after xs) (sym (joined-more part piece first))) fills_to in
    record {
      brings = (some, omega (arith, asks, fits), subst (BringsMore (part ++ piece) (first ++ rest)) (joined-more part piece (first ++ rest)) later.brings);
      reads = λ i. Read requests_slot (asks i) (Some piece) ∷ later.reads i;
      asks = ap asked (sym (joined-more part piece (first ++ rest))) ∙ later.asks;
    }
