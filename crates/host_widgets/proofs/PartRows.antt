-- The firmware takes the parts of a blob one after another, whatever was staged before the first, and has it in force with the last.
use Rattle.std.proofs.Common.{◌≡◌, refl, sym, ap, subst, ◌∙◌, ℕ, ◌+◌, ◌-◌, ◌*◌, ◌<◌, ◌^◌, Bool, true, false, not, cond, ◌==◌, ◌&&◌, ◌||◌, List, [], ◌∷◌, ◌++◌, length, take, Option, Some, Ok, Err, arith}
use Rattle.std.specs.Prelude.{nat_le, option_map}
use Rattle.std.specs.List.{list_any}
use Rattle.std.specs.Option.{option_map_or}
use Rattle.std.specs.Str.{bytes_eq}
use Rattle.std.proofs.lemmas.Bool.{eq-eqb, eqb-true, le-leb, and_from, or_left, or_right}
use Rattle.std.proofs.lemmas.Slice.Eq.{bytes_eq-Decides}
use Rattle.sof_base.specs.declared.part.Part.{Part}
use Rattle.sof_base.specs.Slots.{AreSlots, IsSlot}
use Rattle.sof_base.specs.BlobFaults.{is_blob}
use Rattle.stream_law.specs.declared.graph.Kind.TheVariants as kinds
use Rattle.stream_law.specs.declared.graph.Comp.{Comp}
use Rattle.stream_law.specs.State.{FwState, Staging}
use Rattle.stream_law.specs.Ways.{comp_of}
use Rattle.stream_law.specs.Seen.{is_equaliser}
use Rattle.stream_law.proofs.Placing.{find-placed_there}
use Rattle.ipc3_model.specs.declared.message.Message.TheVariants.{SetData}
use Rattle.ipc3_model.specs.Meanings.{IsMessage}
use Rattle.mbox_link.specs.BlobParts.{payload, blob_part, is_last, parts}
use Rattle.mbox_link.specs.Step.{row, is_used, has_comp, has_edge, has_pipe, has_kind, kind_at, staging_at, bytes_left, is_next, keeps_order, staged_bytes, unstaged, with_staged, blob_installed, part_staged, no_device, invalid}
use Rattle.host_widgets.proofs.LookedUp.{any-found}
use Rattle.host_widgets.proofs.PartFacts.{front, payload-long, header-long, few-parts, front-header, front-more, part-left, part-some, none-left, last-front, more-behind}

-- ---- the message

pub part-message : (id : ℕ) (blob : List ℕ) → is_blob blob ≡ true → (k : ℕ) → k < parts blob → id < 2 ^ 32 → IsMessage (SetData id (blob_part blob k))
unfolding AreSlots IsSlot
part-message id blob is k low fits =
    let p = payload-long blob is in
    let s = part-some blob is k low in
    let l = part-left blob is k low in
    let few = few-parts blob is in
    ((tt, (omega arith, (tt, (fits, (omega arith, (omega arith, (tt, (tt, (tt, (tt, (tt, (tt, (tt, (tt, (omega (arith, s.1), (omega (arith, p.1), (omega (arith, low, few.1), (tt, (tt, (tt, (tt, (tt, (tt, (tt, (tt, tt))))))))))))))))))))))))), (header-long blob is, rw (le-leb 1 (length (blob_part blob k).bytes) s.0, le-leb (length (blob_part blob k).bytes) 260 s.1) refl, le-leb ((blob_part blob k).remaining + length (blob_part blob k).bytes) 992 (omega (arith, l, p.1))))

-- ---- what is staged

-- the first k parts of a blob, at an equaliser
abbrev pub staged_of : ℕ → List ℕ → ℕ → Staging
staged_of id blob k = record { eq = id; bytes = front blob k; next = k; remaining = length (payload blob) - 260 * k }

-- they are staged; before the first part anything may be
abbrev pub HasStaged : ℕ → List ℕ → ℕ → FwState → Type 0
HasStaged id blob k f = (k == 0) ≡ false → staging_at f id ≡ Some (staged_of id blob k)

-- the state after a part that is taken
abbrev pub part_effect : ℕ → List ℕ → Part → FwState → FwState
part_effect id bytes part f = cond (part.remaining == 0) (blob_installed id bytes f) (with_staged id bytes part f)

module _ (id : ℕ) (blob : List ℕ) (is : is_blob blob ≡ true) (k : ℕ) (low : k < parts blob) (f : FwState) (staged : HasStaged id blob k f) where
  abbrev part : Part
  part = blob_part blob k

  next-is : is_next part (staged_of id blob k) ≡ true
  next-is =
      and_from (part.index == k && bytes_eq part.header (take 32 (front blob k))) (bytes_left part == (length (payload blob) - 260 * k))
      (and_from (part.index == k) (bytes_eq part.header (take 32 (front blob k))) (eq-eqb k k refl)
      (ap (bytes_eq part.header) (front-header blob is k) ∙ (bytes_eq-Decides part.header part.header).1 refl))
      (eq-eqb (bytes_left part) (length (payload blob) - 260 * k) (part-left blob is k low))

  -- it is the first or the next one, and full or the last one
  in-order : keeps_order (staging_at f id) part ≡ true
  in-order = and_from (cond (k == 0) (nat_le (bytes_left part) 992) (option_map_or (is_next part) (staging_at f id) false)) (part.remaining == 0 || length part.bytes == 260) (first (k == 0) refl) (full (is_last blob k) refl)
    where
      first : (b : Bool) → (k == 0) ≡ b → cond b (nat_le (bytes_left part) 992) (option_map_or (is_next part) (staging_at f id) false) ≡ true
      first true e = le-leb (bytes_left part) 992 (let l = part-left blob is k low in let p = (payload-long blob is).1 in omega (arith, l, p))
      first false e = ap (λ (o : Option Staging). option_map_or (is_next part) o false) (staged e) ∙ next-is

      full : (b : Bool) → is_last blob k ≡ b → (part.remaining == 0 || length part.bytes == 260) ≡ true
      full true e = or_left (part.remaining == 0) (length part.bytes == 260) (none-left blob is k low ∙ e)
      full false e = or_right (part.remaining == 0) (length part.bytes == 260) (eq-eqb (length part.bytes) 260 (more-behind blob is k low e).1)

  -- with those before it, it makes the bytes so far
  pub bytes-so-far : staged_bytes (staging_at f id) part ≡ front blob (k + 1)
  bytes-so-far = by (k == 0) refl
    where
      by : (b : Bool) → (k == 0) ≡ b → cond b (part.header ++ part.bytes) (option_map_or (λ (s : Staging). s.bytes) (staging_at f id) [] ++ part.bytes) ≡ front blob (k + 1)
      by true e =
          let none : 0 ≡ k = sym (eqb-true k 0 e) in
          subst (λ (n : ℕ). (blob_part blob n).header ++ (blob_part blob n).bytes ≡ front blob (n + 1)) none refl
      by false e = ap (λ (o : Option Staging). option_map_or (λ (s : Staging). s.bytes) o [] ++ part.bytes) (staged e) ∙ front-more blob is k low

  -- ---- the row

  module _ (x : Comp) (there : comp_of f.graph id ≡ Some x) (kind : x.kind ≡ kinds.Eq) where
    used : is_used f.graph id ≡ true
    used = or_left (has_comp f.graph id || has_edge f.graph id) (has_pipe f.graph id) (or_left (has_comp f.graph id) (has_edge f.graph id) (any-found (λ (c : Comp). c.id == id) f.graph.comps x there))

    equaliser : has_kind is_equaliser (kind_at f.graph id) ≡ true
    equaliser = ap (λ (o : Option Comp). has_kind is_equaliser (option_map (λ (c : Comp). c.kind) o)) there ∙ ap is_equaliser kind

    staged-so : part_staged f id (front blob (k + 1)) part ≡ Ok (part_effect id (front blob (k + 1)) part f)
    staged-so = by (part.remaining == 0) refl
      where
        by : (b : Bool) → (part.remaining == 0) ≡ b →
            cond (not b) (Ok (with_staged id (front blob (k + 1)) part f)) (cond (not (is_blob (front blob (k + 1)))) (Err invalid) (Ok (blob_installed id (front blob (k + 1)) f)))
            ≡ Ok (cond b (blob_installed id (front blob (k + 1)) f) (with_staged id (front blob (k + 1)) part f))
        by true e =
            let whole : is_blob (front blob (k + 1)) ≡ true = ap is_blob (last-front blob is k low (sym (none-left blob is k low) ∙ e)) ∙ is in
            ap (λ (b : Bool). cond (not b) (Err invalid) (Ok (blob_installed id (front blob (k + 1)) f))) whole
        by false e = refl

    pub part-row : row f (SetData id part) ≡ Ok (part_effect id (staged_bytes (staging_at f id) part) part f)
    part-row =
        by (is_used f.graph id) (has_kind is_equaliser (kind_at f.graph id)) (keeps_order (staging_at f id) part) used equaliser in-order
        ∙ ap (λ (bytes : List ℕ). part_staged f id bytes part) bytes-so-far ∙ staged-so ∙ ap (λ (bytes : List ℕ). Ok (part_effect id bytes part f)) (sym bytes-so-far)
      where
        by : (a b c : Bool) → a ≡ true → b ≡ true → c ≡ true →
            cond (not a) (Err no_device) (cond (not b || not c) (Err invalid) (part_staged f id (staged_bytes (staging_at f id) part) part)) ≡ part_staged f id (staged_bytes (staging_at f id) part) part
        by a b c a-is b-is c-is = rw (a-is, b-is, c-is) refl

    -- so far, and with the last one
    pub part-more : is_last blob k ≡ false → row f (SetData id part) ≡ Ok (with_staged id (front blob (k + 1)) part f)
    part-more e =
        part-row ∙ ap (λ (bytes : List ℕ). Ok (part_effect id bytes part f)) bytes-so-far
        ∙ ap (λ (b : Bool). Ok (cond b (blob_installed id (front blob (k + 1)) f) (with_staged id (front blob (k + 1)) part f))) (none-left blob is k low ∙ e)

    pub part-last : is_last blob k ≡ true → row f (SetData id part) ≡ Ok (blob_installed id blob f)
    part-last e =
        part-row ∙ ap (λ (bytes : List ℕ). Ok (part_effect id bytes part f)) (bytes-so-far ∙ last-front blob is k low e)
        ∙ ap (λ (b : Bool). Ok (cond b (blob_installed id blob f) (with_staged id blob part f))) (none-left blob is k low ∙ e)

-- ---- what is staged then

none-staged : (id : ℕ) (ss : List Staging) → list_any (λ (s : Staging). s.eq == id) (unstaged id ss) ≡ false
none-staged id [] = refl
none-staged id (s ∷ ss) = by (s.eq == id) refl (none-staged id ss)
  where
    by : (b : Bool) → (s.eq == id) ≡ b → list_any (λ (t : Staging). t.eq == id) (unstaged id ss) ≡ false → list_any (λ (t : Staging). t.eq == id) (cond (not b) (s ∷ unstaged id ss) (unstaged id ss)) ≡ false
    by true e rest = rest
    by false e rest = ap (λ (b : Bool). b || list_any (λ (t : Staging). t.eq == id) (unstaged id ss)) e ∙ rest

pub staged-then : (id : ℕ) (blob : List ℕ) (k : ℕ) (f : FwState) → HasStaged id blob (k + 1) (with_staged id (front blob (k + 1)) (blob_part blob k) f)
staged-then id blob k f some =
    find-placed_there (λ (s : Staging). s.eq == id) (λ (s : Staging). s.eq) (staged_of id blob (k + 1)) (unstaged id f.staging) (eq-eqb id id refl) (none-staged id f.staging)
