-- Parts that are staged: in another graph, and with one more.
use Rattle.std.proofs.Common.{◌≡◌, refl, sym, ap, ◌∙◌, ℕ, zero, suc, ◌+◌, ◌*◌, ◌≤◌, List, [], ◌∷◌, ◌++◌, take, length, Option, Some, None, Bool, true, false, cond, not, ◌==◌, ◌&&◌, ◌||◌, arith, length-append}
use Rattle.std.proofs.lemmas.Bool.{true≢false, false≢true, false_from_ne_true, eqb-true, leb-true, and_parts}
use Rattle.std.specs.Prelude.{find, nat_le}
use Rattle.std.specs.Option.{option_map_or}
use Rattle.std.specs.Str.{bytes_eq}
use Rattle.std.specs.List.{list_any, AllByRecursion}
use Rattle.sof_base.specs.declared.part.Part.{Part}
use Rattle.sof_base.proofs.FieldLaws.{IsBytes}
use Rattle.stream_law.specs.declared.graph.Graph.{Graph}
use Rattle.stream_law.specs.State.{Staging}
use Rattle.stream_law.specs.Seen.{is_equaliser}
use Rattle.stream_law.proofs.Members.{in-all, find-in}
use Rattle.mbox_link.specs.Step.{has_comp, has_kind, kind_at, bytes_left, is_next, keeps_order, staged_bytes, unstaged}
use Rattle.row_laws.specs.Kept.{IsStaged}
use Rattle.row_laws.specs.RowLaws.{IsPart}
use Rattle.row_laws.proofs.Growing.{all-by, some-found}
use Rattle.row_laws.proofs.PartBytes.{bytes-append}

-- where a component's kind is the same
pub staged-same : (g h : Graph) (s : Staging) → kind_at h s.eq ≡ kind_at g s.eq → IsStaged g s → IsStaged h s
staged-same g h s same is = record { equaliser = ap (has_kind is_equaliser) same ∙ is.equaliser; came = is.came; bytes = is.bytes; each = is.each; missing = is.missing; within = is.within }

-- and so for all, where all kinds are
pub staged-all : (g h : Graph) (ss : List Staging) → ((n : ℕ) → kind_at h n ≡ kind_at g n) → AllByRecursion (IsStaged g) ss → AllByRecursion (IsStaged h) ss
staged-all g h ss same all = all-by (IsStaged g) (IsStaged h) (λ s is. staged-same g h s (same s.eq) is) ss all

-- or those of all other ids than one that is no component's
pub staged-other : (g h : Graph) (id : ℕ) (ss : List Staging) → has_comp g id ≡ false → ((n : ℕ) → (n == id) ≡ false → kind_at h n ≡ kind_at g n) → AllByRecursion (IsStaged g) ss → AllByRecursion (IsStaged h) ss
staged-other g h id ss gone same all =
    all-by (IsStaged g) (IsStaged h) (λ s is. staged-same g h s (same s.eq (apart s is)) is) ss all
  where
    apart : (s : Staging) → IsStaged g s → (s.eq == id) ≡ false
    apart s is = false_from_ne_true (s.eq == id) (λ here. true≢false (sym (some-found is_equaliser g.comps s.eq is.equaliser) ∙ ap (has_comp g) (eqb-true s.eq id here) ∙ gone))

-- ---- one part more

-- what is found is staged
pub staged-found : (g : Graph) (id : ℕ) (ss : List Staging) → AllByRecursion (IsStaged g) ss → (s : Staging) → find (λ s. s.eq == id) ss ≡ Some s → IsStaged g s
staged-found g id ss all s found = in-all (IsStaged g) ss s all (find-in (λ (x : Staging). x.eq == id) ss s found).0

-- an equaliser of which nothing is staged
pub unstaged-gone : (id : ℕ) (ss : List Staging) → list_any (λ s. s.eq == id) (unstaged id ss) ≡ false
unstaged-gone id [] = refl
unstaged-gone id (s ∷ ss) = by (s.eq == id) refl (unstaged-gone id ss)
  where
    by : (h : Bool) → (s.eq == id) ≡ h → list_any (λ x. x.eq == id) (unstaged id ss) ≡ false → list_any (λ x. x.eq == id) (cond (not h) (s ∷ unstaged id ss) (unstaged id ss)) ≡ false
    by true is rest = rest
    by false is rest = ap (λ h. h || list_any (λ (x : Staging). x.eq == id) (unstaged id ss)) is ∙ rest

module _ (g : Graph) (id : ℕ) (part : Part) (are : IsPart part) (staged : Option Staging) (found : (s : Staging) → staged ≡ Some s → IsStaged g s) where
  -- what is staged then are bytes
  pub staged-bytes : IsBytes (staged_bytes staged part)
  staged-bytes = by (part.index == 0)
    where
      old : (o : Option Staging) → staged ≡ o → IsBytes (option_map_or (λ (s : Staging). s.bytes) o [])
      old None none i = omega arith
      old (Some s) some i = (found s some).each i

      by : (h : Bool) → IsBytes (cond h (part.header ++ part.bytes) (option_map_or (λ (s : Staging). s.bytes) staged [] ++ part.bytes))
      by true = bytes-append part.header part.bytes are.header are.bytes
      by false = bytes-append (option_map_or (λ (s : Staging). s.bytes) staged []) part.bytes (old staged refl) are.bytes

  -- and they are staged as they should where more are to come
  pub staged-more : has_kind is_equaliser (kind_at g id) ≡ true → keeps_order staged part ≡ true → (part.remaining == 0) ≡ false → IsStaged g (record { eq = id; bytes = staged_bytes staged part; next = part.index + 1; remaining = part.remaining })
  staged-more equaliser order more = record {
    equaliser = equaliser;
    came = omega arith;
    bytes = (counts (part.index == 0) refl parts.0).0;
    each = staged-bytes;
    missing = missing;
    within = (counts (part.index == 0) refl parts.0).1;
  }
    where
      parts : (cond (part.index == 0) (nat_le (bytes_left part) 992) (option_map_or (is_next part) staged false) ≡ true) × ((part.remaining == 0 || length part.bytes == 260) ≡ true)
      parts = and_parts (cond (part.index == 0) (nat_le (bytes_left part) 992) (option_map_or (is_next part) staged false)) (part.remaining == 0 || length part.bytes == 260) order

      missing : 1 ≤ part.remaining
      missing = by part.remaining more
        where
          by : (n : ℕ) → (n == 0) ≡ false → 1 ≤ n
          by zero is = absurd (true≢false is)
          by (suc n) is = omega arith

      whole : length part.bytes ≡ 260
      whole = eqb-true (length part.bytes) 260 (sym (ap (λ h. h || length part.bytes == 260) more) ∙ parts.1)

      counts : (h : Bool) → (part.index == 0) ≡ h → cond h (nat_le (bytes_left part) 992) (option_map_or (is_next part) staged false) ≡ true → (length (cond h (part.header ++ part.bytes) (option_map_or (λ (s : Staging). s.bytes) staged [] ++ part.bytes)) ≡ 32 + 260 * (part.index + 1)) × (260 * (part.index + 1) + part.remaining ≤ 992)
      counts true first few =
          let none : part.index ≡ 0 = eqb-true part.index 0 first in
          let most : length part.bytes + part.remaining ≤ 992 = leb-true (bytes_left part) 992 few in
          let long : length part.header ≡ 32 = are.long in
          let full : length part.bytes ≡ 260 = whole in
          (omega (arith, length-append part.header part.bytes), omega arith)
      counts false later next = at staged refl next
        where
          at : (o : Option Staging) → staged ≡ o → option_map_or (is_next part) o false ≡ true → (length (option_map_or (λ (s : Staging). s.bytes) o [] ++ part.bytes) ≡ 32 + 260 * (part.index + 1)) × (260 * (part.index + 1) + part.remaining ≤ 992)
          at None none wrong = absurd (false≢true wrong)
          at (Some s) some follows =
              let was = found s some in
              let tests = and_parts (part.index == s.next && bytes_eq part.header (take 32 s.bytes)) (bytes_left part == s.remaining) follows in
              let number : part.index ≡ s.next = eqb-true part.index s.next (and_parts (part.index == s.next) (bytes_eq part.header (take 32 s.bytes)) tests.0).0 in
              let left : length part.bytes + part.remaining ≡ s.remaining = eqb-true (bytes_left part) s.remaining tests.1 in
              let long : length s.bytes ≡ 32 + 260 * s.next = was.bytes in
              let within : 260 * s.next + s.remaining ≤ 992 = was.within in
              let full : length part.bytes ≡ 260 = whole in
              (omega (arith, length-append s.bytes part.bytes), omega arith)
