-- The laws of a whole file.
use Rattle.std.proofs.Common.{◌≡◌, ℕ, zero, suc, ◌+◌, ◌≤◌, ◌<◌, ◌⊎◌, inl, inr, false, eqb, List, [], ◌∷◌, ◌++◌, length, take, drop, Result, Ok, Err, refl, sym, ap, subst, ◌∙◌, arith, length-append, append-nil, append_assoc, add-zero, zero-add}
use Rattle.std.proofs.lemmas.Bool.{ne_eqb}
use Rattle.std.proofs.lemmas.List.{drop_at, drop-drop, take-append-drop, length-take, length-drop, nil_from_length}
use Rattle.tplg_model.specs.declared.fault.TplgFault.{TplgFault}
use Rattle.tplg_model.specs.declared.fault.TplgFault.TheVariants.{OutOfMemory}
use Rattle.tplg_model.specs.declared.block.Topology.{Topology}
use Rattle.sof_base.specs.Cells.{Fits}
use Rattle.std.specs.Prelude.{IfOk, IfErr}
use Rattle.tplg_model.specs.Outcomes.{◌>>=◌, Fails, Gives}
use Rattle.tplg_model.specs.Spelling.{items_cells, BlockValue, block_cells, IsBlock}
use Rattle.tplg_model.specs.Arrays.{Each}
use Rattle.tplg_model.specs.Reading.{block_step, until_end, blocks_of, topology_of}
use Rattle.tplg_model.specs.File.{spelling, IsTopology, IsFileOf, ItemsFirst, BlockFault, IsFileFault}
use Rattle.tplg_model.specs.RecordFaults.{topology_cells}
use Rattle.sof_base.proofs.FieldLaws.{IsBytes, IsBytes-drop}
use Rattle.sof_base.proofs.Fitting.{Fits-append, Fits-split, Fits-length, Fits-written}
use Rattle.tplg_model.proofs.FaultLaws.{fails_along, fails_cases, bind_ok, At_first, Later, bind_err, ok_same, only_first}
use Rattle.tplg_model.proofs.ItemLaws.{Took}
use Rattle.tplg_model.proofs.BlockLaws.{block_item, block_some, block_found, block_only}

abbrev pub Blocks : Type 0
Blocks = List BlockValue

abbrev pub put_before : Blocks → Result Blocks TplgFault → Result Blocks TplgFault
put_before xs read = read >>= λ ys. Ok (xs ++ ys)

-- one turn
abbrev pub more : ℕ → ℕ → List ℕ → Result Blocks TplgFault
more n at bytes = block_step at bytes >>= λ x. until_end block_step n (at + x.1) (drop x.1 bytes) >>= λ xs. Ok (x.0 ∷ xs)

pub turn : (n at : ℕ) (bytes : List ℕ) → 0 < length bytes → until_end block_step (suc n) at bytes ≡ more n at bytes
unfolding until_end
turn n at bytes some = let t : eqb (length bytes) 0 ≡ false = ne_eqb (length bytes) 0 (λ e. omega (arith, e, some)) in rw t refl

pub at_end : (n at : ℕ) (bytes : List ℕ) → length bytes ≡ 0 → until_end block_step n at bytes ≡ Ok []
unfolding until_end
at_end zero at bytes e = refl
at_end (suc n) at bytes e = rw e refl

-- there are bytes, or none
data Ended (bytes : List ℕ) : Type 0 where
  No_more : length bytes ≡ 0 → Ended bytes
  Some_more : 0 < length bytes → Ended bytes

ended : (bytes : List ℕ) → Ended bytes
ended [] = No_more refl
ended (b ∷ bytes) = Some_more (omega arith)

-- ---- what is read is spelled so

abbrev Whole : List ℕ → Blocks → Type 0
Whole bytes xs = Fits bytes (items_cells block_cells xs) × Each IsBlock xs

whole_none : (bytes : List ℕ) → length bytes ≡ 0 → Whole bytes []
unfolding Fits items_cells Each
whole_none [] e = (tt, tt)
whole_none (b ∷ bytes) e = absurd (omega (arith, e))

whole_more : (bytes : List ℕ) (x : BlockValue) (n : ℕ) (xs : Blocks) → Took bytes (block_cells x) n × IsBlock x → Whole (drop n bytes) xs → Whole bytes (x ∷ xs)
unfolding items_cells Each
whole_more bytes x n xs t w =
    (subst (λ (b : List ℕ). Fits b (block_cells x ++ items_cells block_cells xs)) (take-append-drop n bytes) (Fits-append (take n bytes) (drop n bytes) (block_cells x) (items_cells block_cells xs) t.0.fits w.0), (t.1, w.1))

blocks_take : (n at : ℕ) (bytes : List ℕ) (xs : Blocks) → IsBytes bytes → length bytes ≤ n → until_end block_step n at bytes ≡ Ok xs → Whole bytes xs
blocks_take zero at bytes xs h enough e =
    let nothing : length bytes ≡ 0 = omega arith in
    subst (λ (ys : Blocks). Whole bytes ys) (ok_same [] xs (until_end block_step 0 at bytes) (at_end 0 at bytes nothing) e) (whole_none bytes nothing)
blocks_take (suc n) at bytes xs h enough e =
    elim (ended bytes) [
      | No_more nothing ↦ subst (λ (ys : Blocks). Whole bytes ys) (ok_same [] xs (until_end block_step (suc n) at bytes) (at_end (suc n) at bytes nothing) e) (whole_none bytes nothing)
      | Some_more some ↦
          let a = bind_ok (block_step at bytes) (λ x. until_end block_step n (at + x.1) (drop x.1 bytes) >>= λ ys. Ok (x.0 ∷ ys)) xs (sym (turn n at bytes some) ∙ e) in
          let b = bind_ok (until_end block_step n (at + a.0.1) (drop a.0.1 bytes)) (λ ys. Ok (a.0.0 ∷ ys)) xs a.2 in
          let one = block_item.takes at bytes a.0.0 a.0.1 h a.1 in
          let size = block_some at bytes a.0.0 a.0.1 a.1 in
          let others = blocks_take n (at + a.0.1) (drop a.0.1 bytes) b.0 (IsBytes-drop a.0.1 bytes h) (omega (arith, size, enough, length-drop a.0.1 bytes)) b.1 in
          let made : Blocks = a.0.0 ∷ b.0 in
          subst (λ (ys : Blocks). Whole bytes ys) (ok_same made xs (Ok made) refl b.2) (whole_more bytes a.0.0 a.0.1 b.0 one others)
    ]

-- ---- what is spelled is read, and reading goes on after it

record GoesOn (n at : ℕ) (bytes : List ℕ) (xs : Blocks) (place : ℕ) (rest : List ℕ) : Type 0 where
  fuel : ℕ
  enough : length rest ≤ fuel
  is : until_end block_step n at bytes ≡ put_before xs (until_end block_step fuel place rest)

nothing_before : (read : Result Blocks TplgFault) → read ≡ put_before [] read
nothing_before (Ok ys) = refl
nothing_before (Err e) = refl

one_before : (x : BlockValue) (xs : Blocks) (read : Result Blocks TplgFault) → (put_before xs read >>= λ ys. Ok (x ∷ ys)) ≡ put_before (x ∷ xs) read
one_before x xs (Ok ys) = refl
one_before x xs (Err e) = refl

blocks_again : (xs : Blocks) (n at : ℕ) (front rest : List ℕ) → Each IsBlock xs → Fits front (items_cells block_cells xs) → length (front ++ rest) ≤ n → GoesOn n at (front ++ rest) xs (at + length front) rest
unfolding items_cells Each
blocks_again [] n at front rest are f enough =
    let nothing : front ≡ [] = nil_from_length front (Fits-length front [] f) in
    record { fuel = n; enough = omega (arith, enough, length-append front rest); is = rw (nothing, add-zero) (nothing_before (until_end block_step n at rest)) }
blocks_again (x ∷ xs) zero at front rest are f enough =
    let parts = Fits-split front (block_cells x) (items_cells block_cells xs) f in
    let one = block_item.again at x parts.first [] are.0 parts.fits_first in
    let size = block_some at (parts.first ++ []) x (length parts.first) one in
    absurd (omega (arith, enough, ap length parts.whole, length-append front rest, length-append parts.first parts.second, size))
blocks_again (x ∷ xs) (suc m) at front rest are f enough =
    let parts = Fits-split front (block_cells x) (items_cells block_cells xs) f in
    let regrouped : front ++ rest ≡ parts.first ++ (parts.second ++ rest) = ap (λ (t : List ℕ). t ++ rest) parts.whole ∙ append_assoc parts.first parts.second rest in
    let one = block_item.again at x parts.first (parts.second ++ rest) are.0 parts.fits_first in
    let size = block_some at (parts.first ++ (parts.second ++ rest)) x (length parts.first) one in
    let len = length-append parts.first (parts.second ++ rest) in
    let total = ap length regrouped in
    let others = blocks_again xs m (at + length parts.first) parts.second rest are.1 parts.fits_second (omega (arith, enough, total, len, size)) in
    let after = drop_at parts.first (parts.second ++ rest) (length parts.first) refl in
    let place : at + length parts.first + length parts.second ≡ at + length front = omega (arith, ap length parts.whole, length-append parts.first parts.second) in
    let first : until_end block_step (suc m) at (front ++ rest) ≡ (until_end block_step m (at + length parts.first) (parts.second ++ rest) >>= λ ys. Ok (x ∷ ys)) =
    rw regrouped (turn m at (parts.first ++ (parts.second ++ rest)) (omega (arith, len, size)) ∙ (rw (one, after) refl)) in
    record {
      fuel = others.fuel;
      enough = others.enough;
      is = first ∙ ap (λ (r : Result Blocks TplgFault). r >>= λ ys. Ok (x ∷ ys)) others.is ∙ one_before x xs (until_end block_step others.fuel (at + length parts.first + length parts.second) rest) ∙ (rw place refl);
    }

-- ---- faults

-- as a IsFileFault, for bytes that begin at a place
record FaultFrom (at : ℕ) (bytes : List ℕ) (f : TplgFault) : Type 0 where
  blocks : Blocks
  front : List ℕ
  rest : List ℕ
  whole : bytes ≡ front ++ rest
  fits : Fits front (items_cells block_cells blocks)
  are : Each IsBlock blocks
  more_left : 0 < length rest
  first : BlockFault (at + length front) rest f

fault_here : (at : ℕ) (bytes : List ℕ) (f : TplgFault) → 0 < length bytes → BlockFault at bytes f → FaultFrom at bytes f
unfolding Fits items_cells Each
fault_here at bytes f some b = record { blocks = []; front = []; rest = bytes; whole = refl; fits = tt; are = tt; more_left = some; first = rw add-zero b }

fault_more : (at : ℕ) (bytes : List ℕ) (x : BlockValue) (n : ℕ) (f : TplgFault) → Took bytes (block_cells x) n × IsBlock x → FaultFrom (at + n) (drop n bytes) f → FaultFrom at bytes f
unfolding items_cells Each
fault_more at bytes x n f t q =
    let len : length (take n bytes) ≡ n = omega (arith, t.0.within, length-take n bytes) in
    let place : at + length (take n bytes ++ q.front) ≡ at + n + length q.front = omega (arith, length-append (take n bytes) q.front, len) in
    record {
      blocks = x ∷ q.blocks;
      front = take n bytes ++ q.front;
      rest = q.rest;
      whole = sym (take-append-drop n bytes) ∙ ap (λ (t : List ℕ). take n bytes ++ t) q.whole ∙ sym (append_assoc (take n bytes) q.front q.rest);
      fits = Fits-append (take n bytes) q.front (block_cells x) (items_cells block_cells q.blocks) t.0.fits q.fits;
      are = (t.1, q.are);
      more_left = q.more_left;
      first = rw place q.first;
    }

blocks_found : (n at : ℕ) (bytes : List ℕ) (f : TplgFault) → IsBytes bytes → length bytes ≤ n → until_end block_step n at bytes ≡ Err f → FaultFrom at bytes f
blocks_found zero at bytes f h enough e = let none = at_end 0 at bytes (omega arith) in absurd cc
blocks_found (suc n) at bytes f h enough e =
    elim (ended bytes) [
      | No_more nothing ↦ let none = at_end (suc n) at bytes nothing in absurd cc
      | Some_more some ↦
          elim (bind_err (block_step at bytes) (λ x. until_end block_step n (at + x.1) (drop x.1 bytes) >>= λ ys. Ok (x.0 ∷ ys)) f (sym (turn n at bytes some) ∙ e)) [
            | At_first e1 ↦ fault_here at bytes f some (block_found at bytes f h e1)
            | Later x e1 e2 ↦
                let size = block_some at bytes x.0 x.1 e1 in
                let one = block_item.takes at bytes x.0 x.1 h e1 in
                let others = only_first (until_end block_step n (at + x.1) (drop x.1 bytes)) (λ ys. x.0 ∷ ys) f e2 in
                fault_more at bytes x.0 x.1 f one (blocks_found n (at + x.1) (drop x.1 bytes) f (IsBytes-drop x.1 bytes h) (omega (arith, size, enough, length-drop x.1 bytes)) others)
          ]
    ]

-- ---- the four laws

pub file_take : (bytes : List ℕ) (xs : Blocks) → IsBytes bytes → blocks_of bytes ≡ Ok xs → Whole bytes xs
file_take bytes xs h e = blocks_take (length bytes) 0 bytes xs h (omega arith) e

pub file_again : (bytes : List ℕ) (xs : Blocks) → Each IsBlock xs → Fits bytes (items_cells block_cells xs) → blocks_of bytes ≡ Ok xs
file_again bytes xs are f =
    let same : bytes ++ [] ≡ bytes = append-nil bytes in
    let g = blocks_again xs (length bytes) 0 bytes [] are f (rw same (omega arith)) in
    let last : until_end block_step g.fuel (0 + length bytes) [] ≡ Ok [] = at_end g.fuel (0 + length bytes) [] refl in
    let lists = append-nil xs in
    (rw same at g.is) ∙ (rw (last, lists) refl)

pub file_found : (bytes : List ℕ) (f : TplgFault) → IsBytes bytes → blocks_of bytes ≡ Err f → IsFileFault bytes f
file_found bytes f h e =
    let q = blocks_found (length bytes) 0 bytes f h (omega arith) e in
    let first : ItemsFirst block_cells IsBlock bytes = record { items = q.blocks; front = q.front; rest = q.rest; whole = q.whole; fits = q.fits; are = q.are } in
    (first, q.more_left, rw zero-add at q.first)

last_fault : (n at : ℕ) (bytes : List ℕ) (f : TplgFault) → 0 < length bytes → length bytes ≤ n → BlockFault at bytes f → until_end block_step n at bytes ≡ Err f
last_fault zero at bytes f some enough b = absurd (omega arith)
last_fault (suc n) at bytes f some enough b = turn n at bytes some ∙ (rw (block_only at bytes f b) refl)

pub file_only : (bytes : List ℕ) (f : TplgFault) → IsFileFault bytes f → blocks_of bytes ≡ Err f
file_only bytes f q =
    let first : ItemsFirst block_cells IsBlock bytes = q.0 in
    let g = blocks_again first.items (length (first.front ++ first.rest)) 0 first.front first.rest first.are first.fits (omega arith) in
    let place : 0 + length first.front ≡ length first.front = omega arith in
    let last : until_end block_step g.fuel (0 + length first.front) first.rest ≡ Err f = rw place (last_fault g.fuel (length first.front) first.rest f q.1 g.enough q.2) in
    ap blocks_of first.whole ∙ g.is ∙ (rw last refl)

-- ---- the loop

-- blocks are read, and used bytes of the front
pub record SoFar (bytes : List ℕ) (xs : Blocks) (used : ℕ) (total : Result Blocks TplgFault) : Type 0 where
  pub within : used ≤ length bytes
  pub fuel : ℕ
  pub enough : length (drop used bytes) ≤ fuel
  pub whole : put_before xs (until_end block_step fuel used (drop used bytes)) ≡ total

pub SoFar-none : (bytes : List ℕ) → SoFar bytes [] 0 (blocks_of bytes)
SoFar-none bytes = record { within = omega arith; fuel = length bytes; enough = omega arith; whole = sym (nothing_before (blocks_of bytes)) }

regroup : (xs : Blocks) (x : BlockValue) (read : Result Blocks TplgFault) → put_before xs (read >>= λ ys. Ok (x ∷ ys)) ≡ put_before (xs ++ x ∷ []) read
regroup xs x (Ok ys) = ap (λ (zs : Blocks). Ok zs) (sym (append_assoc xs (x ∷ []) ys))
regroup xs x (Err e) = refl

-- one turn of what is still to be read
next_turn : (n used : ℕ) (bytes : List ℕ) (xs : Blocks) (total : Result Blocks TplgFault) → used < length bytes → length (drop used bytes) ≤ n → put_before xs (until_end block_step n used (drop used bytes)) ≡ total
    → (m : ℕ) × (length (drop used bytes) ≤ suc m) × (put_before xs (more m used (drop used bytes)) ≡ total)
next_turn zero used bytes xs total lt enough e = absurd (omega (arith, length-drop used bytes))
next_turn (suc m) used bytes xs total lt enough e = (m, enough, ap (put_before xs) (sym (turn m used (drop used bytes) (omega (arith, length-drop used bytes)))) ∙ e)

pub SoFar-more : (bytes : List ℕ) (xs : Blocks) (used : ℕ) (total : Result Blocks TplgFault) (x : BlockValue) (size : ℕ) → used < length bytes → SoFar bytes xs used total → block_step used (drop used bytes) ≡ Ok (x, size) → used + size ≤ length bytes → 0 < size
    → SoFar bytes (xs ++ x ∷ []) (used + size) total
SoFar-more bytes xs used total x size lt s h within some =
    let t = next_turn s.fuel used bytes xs total lt s.enough s.whole in
    let rest = until_end block_step t.0 (used + size) (drop (used + size) bytes) in
    let next : more t.0 used (drop used bytes) ≡ (rest >>= λ ys. Ok (x ∷ ys)) = rw (h, drop-drop size used bytes) refl in
    record {
      within = within;
      fuel = t.0;
      enough = omega (arith, t.1, length-drop used bytes, length-drop (used + size) bytes);
      whole = sym (regroup xs x rest) ∙ ap (put_before xs) (sym next) ∙ t.2;
    }

pub SoFar-fails : (bytes : List ℕ) (xs : Blocks) (used : ℕ) (total : Result Blocks TplgFault) (e : TplgFault) → used < length bytes → SoFar bytes xs used total → Fails e (block_step used (drop used bytes)) → Fails e total
SoFar-fails bytes xs used total e lt s f =
    let t = next_turn s.fuel used bytes xs total lt s.enough s.whole in
    fails_along e (block_step used (drop used bytes)) total f (λ h. sym t.2 ∙ (rw h refl))

pub SoFar-all : (bytes : List ℕ) (xs : Blocks) (used : ℕ) (total : Result Blocks TplgFault) → length bytes ≤ used → SoFar bytes xs used total → total ≡ Ok xs
SoFar-all bytes xs used total le s =
    let last : until_end block_step s.fuel used (drop used bytes) ≡ Ok [] = at_end s.fuel used (drop used bytes) (omega (arith, length-drop used bytes)) in
    sym s.whole ∙ (rw (last, append-nil xs) refl)

-- ---- what the reader says

pub topology_take : (bytes : List ℕ) (t : Topology) → IsBytes bytes → topology_of bytes ≡ Ok t → IsTopology t × IsFileOf bytes t
topology_take bytes t h e =
    let a = bind_ok (blocks_of bytes) (λ bs. Ok (record { blocks = bs })) t e in
    let w = file_take bytes a.0 h a.1 in
    let made : Topology = record { blocks = a.0 } in
    subst (λ (u : Topology). IsTopology u × IsFileOf bytes u) (ok_same made t (Ok made) refl a.2) (w.1, w.0)

pub topology_again : (bytes : List ℕ) (t : Topology) → IsTopology t → IsFileOf bytes t → topology_of bytes ≡ Ok t
topology_again bytes t is f = rw (file_again bytes t.blocks is f) refl

pub topology_found : (bytes : List ℕ) (f : TplgFault) → IsBytes bytes → topology_of bytes ≡ Err f → IsFileFault bytes f
topology_found bytes f h e = file_found bytes f h (only_first (blocks_of bytes) (λ bs. record { blocks = bs }) f e)

pub topology_only : (bytes : List ℕ) (f : TplgFault) → IsFileFault bytes f → topology_of bytes ≡ Err f
topology_only bytes f q = rw (file_only bytes f q) refl

pub is_found : (bytes : List ℕ) (r : Result Topology TplgFault) → IsBytes bytes → Gives (λ t. t) r (topology_of bytes) → IfOk r (λ t. IsTopology t × IsFileOf bytes t)
is_found bytes (Ok t) h g = topology_take bytes t h g
is_found bytes (Err e) h g = tt

pub is_fault : (bytes : List ℕ) (r : Result Topology TplgFault) → IsBytes bytes → Gives (λ t. t) r (topology_of bytes) → IfErr r (λ f. (f ≡ OutOfMemory) ⊎ IsFileFault bytes f)
is_fault bytes (Ok t) h g = tt
is_fault bytes (Err e) h g =
    elim (fails_cases e (topology_of bytes) g) [ inl m ↦ inl m | inr r ↦ inr (topology_found bytes e h r) ]

-- at most one topology has these bytes for its file
pub one_topology : (bytes : List ℕ) (t u : Topology) → IsTopology t → IsTopology u → IsFileOf bytes t → IsFileOf bytes u → t ≡ u
one_topology bytes t u is_t is_u f g = ok_same t u (topology_of bytes) (topology_again bytes t is_t f) (topology_again bytes u is_u g)

-- what is written is the file of what it was written of
pub IsFileOf-spelling : (t : Topology) → IsFileOf (spelling t) t
IsFileOf-spelling t = Fits-written (topology_cells t)
