-- The laws of a block.
use Rattle.std.proofs.Common.{◌≡◌, ℕ, ◌+◌, ◌-◌, ◌^◌, ◌≤◌, ◌<◌, ◌⊎◌, inl, inr, Bool, true, false, cond, eqb, ltb, List, [], ◌∷◌, ◌++◌, length, take, drop, Option, Some, None, Result, Ok, Err, refl, sym, ap, subst, ◌∙◌, arith, length-append, append_assoc}
use Rattle.std.proofs.lemmas.Bool.{eqb-true, eqb-false, ne_eqb, ltb-false, le-ltb}
use Rattle.std.proofs.lemmas.List.{take_at, drop_at}
use Rattle.std.proofs.Math.Seq.{take-add}
use Rattle.tplg_model.specs.declared.fault.TplgFault.{TplgFault}
use Rattle.tplg_model.specs.declared.fault.TplgFault.TheVariants.{Truncated, Magic, Abi, HeaderSize}
use Rattle.tplg_model.specs.declared.block.Body.{Body}
use Rattle.tplg_model.specs.declared.block.Body.TheVariants.{Manifests, Widgets, Routes, Pcms, Other}
use Rattle.sof_base.specs.Cells.{Fits}
use Rattle.sof_base.specs.Slots.{slots_cells, AreSlots, part, word_at}
use Rattle.sof_base.specs.Layouts.{Shape, A_word, slots_from}
use Rattle.sof_base.proofs.FieldLaws.{IsBytes, IsBytes-part, length-part, slots_read, slots_again, length-slots}
use Rattle.sof_base.proofs.Fitting.{Fits-append, Fits-split, Fits-length, Fits-fixed, is_fixed}
use Rattle.tplg_model.specs.Outcomes.{◌>>=◌}
use Rattle.tplg_model.specs.Spelling.{IsRoute, route_cells, IsManifest, manifest_cells, IsPcm, pcm_cells, IsWidget, widget_cells, body_cells, block_type, count_of, HasNoRecords, HasOwnForm, BlockValue, header_slots, block_cells, AreRecords, IsBlock}
use Rattle.tplg_model.specs.Storable.{IsStorable}
use Rattle.tplg_model.specs.Reading.{route_step, manifest_step, pcm_step, widget_step, all_items, body_at, unless_fault, block_with, block_step}
use Rattle.tplg_model.specs.File.{WidgetFault, header_fault, PayloadFault, BlockFault}
use Rattle.tplg_model.specs.RecordFaults.{RouteFault, ManifestFault, PcmFault}
use Rattle.tplg_model.proofs.FaultLaws.{bind_ok, ok_same, only_first}
use Rattle.tplg_model.proofs.ItemLaws.{Took, IsItem, all_take, all_again, all_found, all_only}
use Rattle.tplg_model.proofs.RecordLaws.{route_item, route_is_fault, manifest_item, manifest_is_fault}
use Rattle.tplg_model.proofs.PcmLaws.{pcm_item, pcm_is_fault}
use Rattle.tplg_model.proofs.WidgetLaws.{widget_item, widget_is_fault}

-- ---- bodies

pub record BodyTook (kind count : ℕ) (payload : List ℕ) (body : Body) : Type 0 where
  pub fits : Fits payload (body_cells body)
  pub is : AreRecords body
  pub kind_is : block_type body ≡ kind
  pub count_is : count_of body ≡ count
  pub kept : HasOwnForm body

data Kind (kind : ℕ) : Type 0 where
  Is_routes : kind ≡ 4 → Kind kind
  Is_widgets : kind ≡ 5 → Kind kind
  Is_pcms : kind ≡ 7 → Kind kind
  Is_manifests : kind ≡ 8 → Kind kind
  Is_other : HasNoRecords kind → Kind kind

kind_cases : (kind : ℕ) → Kind kind
kind_cases kind = by_tests (eqb kind 4) (eqb kind 5) (eqb kind 7) (eqb kind 8) refl refl refl refl
  where
    by_tests : (a b c d : Bool) → eqb kind 4 ≡ a → eqb kind 5 ≡ b → eqb kind 7 ≡ c → eqb kind 8 ≡ d → Kind kind
    by_tests true b c d p q r s = Is_routes (eqb-true _ _ p)
    by_tests false true c d p q r s = Is_widgets (eqb-true _ _ q)
    by_tests false false true d p q r s = Is_pcms (eqb-true _ _ r)
    by_tests false false false true p q r s = Is_manifests (eqb-true _ _ s)
    by_tests false false false false p q r s = Is_other (eqb-false _ _ p, eqb-false _ _ q, eqb-false _ _ r, eqb-false _ _ s)

-- what reading a body is, by its kind
at_routes : (count at : ℕ) (payload : List ℕ) → body_at 4 count at payload ≡ (all_items route_step count at payload >>= λ rs. Ok (Routes rs))
unfolding body_at
at_routes count at payload = refl

at_widgets : (count at : ℕ) (payload : List ℕ) → body_at 5 count at payload ≡ (all_items widget_step count at payload >>= λ ws. Ok (Widgets ws))
unfolding body_at
at_widgets count at payload = refl

at_pcms : (count at : ℕ) (payload : List ℕ) → body_at 7 count at payload ≡ (all_items pcm_step count at payload >>= λ ps. Ok (Pcms ps))
unfolding body_at
at_pcms count at payload = refl

at_manifests : (count at : ℕ) (payload : List ℕ) → body_at 8 count at payload ≡ (all_items manifest_step count at payload >>= λ ms. Ok (Manifests ms))
unfolding body_at
at_manifests count at payload = refl

at_other : (kind count at : ℕ) (payload : List ℕ) → HasNoRecords kind → body_at kind count at payload ≡ Ok (Other kind count payload)
unfolding body_at
at_other kind count at payload k = rw (ne_eqb kind 4 k.0, ne_eqb kind 5 k.1, ne_eqb kind 7 k.2, ne_eqb kind 8 k.3) refl

body_take : (kind count at : ℕ) (payload : List ℕ) (body : Body) → IsBytes payload → body_at kind count at payload ≡ Ok body → BodyTook kind count payload body
body_take kind count at payload body h e =
    elim (kind_cases kind) [
      | Is_routes k ↦
          let a = bind_ok (all_items route_step count at payload) (λ rs. Ok (Routes rs)) body (sym (at_routes count at payload) ∙ (rw k at e)) in
          let t = all_take route_step route_cells IsRoute route_item count at payload a.0 h a.1 in
          let made : BodyTook kind count payload (Routes a.0) = record { fits = t.fits; is = t.each; kind_is = sym k; count_is = t.count; kept = tt } in
          subst (λ (b : Body). BodyTook kind count payload b) (ok_same (Routes a.0) body (Ok (Routes a.0)) refl a.2) made
      | Is_widgets k ↦
          let a = bind_ok (all_items widget_step count at payload) (λ ws. Ok (Widgets ws)) body (sym (at_widgets count at payload) ∙ (rw k at e)) in
          let t = all_take widget_step widget_cells IsWidget widget_item count at payload a.0 h a.1 in
          let made : BodyTook kind count payload (Widgets a.0) = record { fits = t.fits; is = t.each; kind_is = sym k; count_is = t.count; kept = tt } in
          subst (λ (b : Body). BodyTook kind count payload b) (ok_same (Widgets a.0) body (Ok (Widgets a.0)) refl a.2) made
      | Is_pcms k ↦
          let a = bind_ok (all_items pcm_step count at payload) (λ ps. Ok (Pcms ps)) body (sym (at_pcms count at payload) ∙ (rw k at e)) in
          let t = all_take pcm_step pcm_cells IsPcm pcm_item count at payload a.0 h a.1 in
          let made : BodyTook kind count payload (Pcms a.0) = record { fits = t.fits; is = t.each; kind_is = sym k; count_is = t.count; kept = tt } in
          subst (λ (b : Body). BodyTook kind count payload b) (ok_same (Pcms a.0) body (Ok (Pcms a.0)) refl a.2) made
      | Is_manifests k ↦
          let a = bind_ok (all_items manifest_step count at payload) (λ ms. Ok (Manifests ms)) body (sym (at_manifests count at payload) ∙ (rw k at e)) in
          let t = all_take manifest_step manifest_cells IsManifest manifest_item count at payload a.0 h a.1 in
          let made : BodyTook kind count payload (Manifests a.0) = record { fits = t.fits; is = t.each; kind_is = sym k; count_is = t.count; kept = tt } in
          subst (λ (b : Body). BodyTook kind count payload b) (ok_same (Manifests a.0) body (Ok (Manifests a.0)) refl a.2) made
      | Is_other k ↦
          let made : BodyTook kind count payload (Other kind count payload) = record { fits = Fits-fixed payload; is = tt; kind_is = refl; count_is = refl; kept = k } in
          subst (λ (b : Body). BodyTook kind count payload b) (ok_same (Other kind count payload) body (body_at kind count at payload) (at_other kind count at payload k) e) made
    ]

body_again : (body : Body) (at : ℕ) (payload : List ℕ) → HasOwnForm body → AreRecords body → Fits payload (body_cells body) → body_at (block_type body) (count_of body) at payload ≡ Ok body
body_again (Routes rs) at payload kept is f = at_routes (length rs) at payload ∙ (rw (all_again route_step route_cells IsRoute route_item rs at payload is f) refl)
body_again (Widgets ws) at payload kept is f = at_widgets (length ws) at payload ∙ (rw (all_again widget_step widget_cells IsWidget widget_item ws at payload is f) refl)
body_again (Pcms ps) at payload kept is f = at_pcms (length ps) at payload ∙ (rw (all_again pcm_step pcm_cells IsPcm pcm_item ps at payload is f) refl)
body_again (Manifests ms) at payload kept is f = at_manifests (length ms) at payload ∙ (rw (all_again manifest_step manifest_cells IsManifest manifest_item ms at payload is f) refl)
body_again (Other kind count bytes) at payload kept is f = at_other kind count at payload kept ∙ ap (λ (b : List ℕ). Ok (Other kind count b)) (is_fixed payload bytes f)

body_found : (kind count at : ℕ) (payload : List ℕ) (f : TplgFault) → IsBytes payload → body_at kind count at payload ≡ Err f → PayloadFault kind count at payload f
body_found kind count at payload f h e =
    elim (kind_cases kind) [
      | Is_routes k ↦
          let a = only_first (all_items route_step count at payload) (λ rs. Routes rs) f (sym (at_routes count at payload) ∙ (rw k at e)) in
          inl (k, all_found route_step route_cells IsRoute route_item RouteFault route_is_fault count at payload f h a)
      | Is_widgets k ↦
          let a = only_first (all_items widget_step count at payload) (λ ws. Widgets ws) f (sym (at_widgets count at payload) ∙ (rw k at e)) in
          inr (inl (k, all_found widget_step widget_cells IsWidget widget_item WidgetFault widget_is_fault count at payload f h a))
      | Is_pcms k ↦
          let a = only_first (all_items pcm_step count at payload) (λ ps. Pcms ps) f (sym (at_pcms count at payload) ∙ (rw k at e)) in
          inr (inr (inl (k, all_found pcm_step pcm_cells IsPcm pcm_item PcmFault pcm_is_fault count at payload f h a)))
      | Is_manifests k ↦
          let a = only_first (all_items manifest_step count at payload) (λ ms. Manifests ms) f (sym (at_manifests count at payload) ∙ (rw k at e)) in
          inr (inr (inr (k, all_found manifest_step manifest_cells IsManifest manifest_item ManifestFault manifest_is_fault count at payload f h a)))
      | Is_other k ↦ let o = at_other kind count at payload k in absurd cc
    ]

body_only : (kind count at : ℕ) (payload : List ℕ) (f : TplgFault) → PayloadFault kind count at payload f → body_at kind count at payload ≡ Err f
body_only kind count at payload f (inl (k, q)) = rw k (at_routes count at payload ∙ (rw (all_only route_step route_cells IsRoute route_item RouteFault route_is_fault count at payload f q) refl))
body_only kind count at payload f (inr (inl (k, q))) = rw k (at_widgets count at payload ∙ (rw (all_only widget_step widget_cells IsWidget widget_item WidgetFault widget_is_fault count at payload f q) refl))
body_only kind count at payload f (inr (inr (inl (k, q)))) = rw k (at_pcms count at payload ∙ (rw (all_only pcm_step pcm_cells IsPcm pcm_item PcmFault pcm_is_fault count at payload f q) refl))
body_only kind count at payload f (inr (inr (inr (k, q)))) = rw k (at_manifests count at payload ∙ (rw (all_only manifest_step manifest_cells IsManifest manifest_item ManifestFault manifest_is_fault count at payload f q) refl))

-- a payload that was read is a body of the program
pub body_sound : (kind count at : ℕ) (payload : List ℕ) (body : Body) → IsBytes payload → length payload < 2 ^ 32 → body_at kind count at payload ≡ Ok body → IsStorable body
body_sound kind count at payload body h small e =
    let t = body_take kind count at payload body h e in
    record { size = omega (arith, Fits-length payload (body_cells body) t.fits, small); kept = t.kept }

-- ---- headers

record Right (bytes : List ℕ) : Type 0 where
  long : 36 ≤ length bytes
  magic : word_at bytes 0 ≡ 0x41536F43
  abi : word_at bytes 4 ≡ 5
  header_size : word_at bytes 16 ≡ 36
  room : word_at bytes 24 ≤ length bytes - 36

-- where the five tests find no fault, each is passed
tests_passed : (a b c d e : Bool) (p q r s t : TplgFault) → cond a (Some p) (cond b (cond c (cond d (cond e (Some q) None) (Some r)) (Some s)) (Some t)) ≡ None
    → (a ≡ false) × (b ≡ true) × (c ≡ true) × (d ≡ true) × (e ≡ false)
tests_passed true b c d e p q r s t h = absurd cc
tests_passed false false c d e p q r s t h = absurd cc
tests_passed false true false d e p q r s t h = absurd cc
tests_passed false true true false e p q r s t h = absurd cc
tests_passed false true true true true p q r s t h = absurd cc
tests_passed false true true true false p q r s t h = (refl, refl, refl, refl, refl)

unless_ok : {A : Type 0} (o : Option TplgFault) (right : Result A TplgFault) (x : A) → unless_fault o right ≡ Ok x → (o ≡ None) × (right ≡ Ok x)
unless_ok None right x h = (refl, h)
unless_ok (Some fault) right x h = absurd cc

unless_err : {A : Type 0} (o : Option TplgFault) (right : Result A TplgFault) (f : TplgFault) → unless_fault o right ≡ Err f → (o ≡ Some f) ⊎ ((o ≡ None) × (right ≡ Err f))
unless_err None right f h = inr (refl, h)
unless_err (Some fault) right f h = inl cc

module _ {A : Type 0} (at : ℕ) (bytes : List ℕ) (right : Result A TplgFault) where
  header_ok : (x : A) → unless_fault (header_fault at bytes) right ≡ Ok x → Right bytes × (right ≡ Ok x)
  header_ok x e =
      let u = unless_ok (header_fault at bytes) right x e in
      let t = tests_passed (ltb (length bytes) 36) (eqb (word_at bytes 0) 0x41536F43) (eqb (word_at bytes 4) 5) (eqb (word_at bytes 16) 36) (ltb (length bytes - 36) (word_at bytes 24)) (Truncated at) (Truncated at) (HeaderSize at) (Abi at (word_at bytes 4)) (Magic at) u.0 in
      (record { long = ltb-false _ _ t.0; magic = eqb-true _ _ t.1; abi = eqb-true _ _ t.2; header_size = eqb-true _ _ t.3; room = ltb-false _ _ t.4 }, u.1)

  header_right : Right bytes → unless_fault (header_fault at bytes) right ≡ right
  header_right r =
      let long = le-ltb (length bytes) 36 r.long in
      let room = le-ltb (length bytes - 36) (word_at bytes 24) r.room in
      rw (long, r.magic, r.abi, r.header_size, room) refl

-- ---- blocks

header_shapes : List Shape
header_shapes = A_word ∷ A_word ∷ A_word ∷ A_word ∷ A_word ∷ A_word ∷ A_word ∷ A_word ∷ A_word ∷ []

payload_of : List ℕ → List ℕ
payload_of bytes = part bytes 36 (word_at bytes 24)

read_body : ℕ → List ℕ → Result Body TplgFault
read_body at bytes = body_at (word_at bytes 12) (word_at bytes 32) (at + 36) (payload_of bytes)

block_read : (at : ℕ) (bytes : List ℕ) → block_step at bytes ≡ unless_fault (header_fault at bytes) (read_body at bytes >>= λ body. Ok (block_with body bytes, 36 + word_at bytes 24))
unfolding block_step read_body payload_of
block_read at bytes = refl

-- the words of a right header are those of the block
header_is : (bytes : List ℕ) (body : Body) → Right bytes → BodyTook (word_at bytes 12) (word_at bytes 32) (payload_of bytes) body → slots_from header_shapes bytes 0 0 ≡ header_slots (block_with body bytes)
unfolding header_shapes payload_of
header_is bytes body r t =
    let len : length (body_cells body) ≡ word_at bytes 24 = sym (Fits-length (payload_of bytes) (body_cells body) t.fits) ∙ length-part bytes 36 (word_at bytes 24) (omega (arith, r.long, r.room)) in
    rw (r.magic, r.abi, r.header_size, t.kind_is, t.count_is, len) refl

block_whole : (bytes : List ℕ) (body : Body) → IsBytes bytes → Right bytes → BodyTook (word_at bytes 12) (word_at bytes 32) (payload_of bytes) body → Took bytes (block_cells (block_with body bytes)) (36 + word_at bytes 24) × IsBlock (block_with body bytes)
unfolding payload_of header_shapes
block_whole bytes body h r t =
    let words = slots_read header_shapes bytes 0 0 h r.long refl in
    let is = header_is bytes body r t in
    let fits : Fits (take 36 bytes) (slots_cells (header_slots (block_with body bytes))) = rw is at words.0 in
    let slots : AreSlots (header_slots (block_with body bytes)) = rw is at words.1 in (
      record {
        within = omega (arith, r.long, r.room);
        fits = rw (take-add 36 (word_at bytes 24) bytes) (Fits-append (take 36 bytes) (payload_of bytes) (slots_cells (header_slots (block_with body bytes))) (body_cells body) fits t.fits);
      },
      record { header = slots; kept = t.kept; body = t.is },
    )

took : (at : ℕ) (bytes : List ℕ) (body : Body) → IsBytes bytes → read_body at bytes ≡ Ok body → BodyTook (word_at bytes 12) (word_at bytes 32) (payload_of bytes) body
unfolding read_body payload_of
took at bytes body h e = body_take (word_at bytes 12) (word_at bytes 32) (at + 36) (payload_of bytes) body (IsBytes-part bytes 36 (word_at bytes 24) h) e

block_takes : (at : ℕ) (bytes : List ℕ) (x : BlockValue) (n : ℕ) → IsBytes bytes → block_step at bytes ≡ Ok (x, n) → Took bytes (block_cells x) n × IsBlock x
block_takes at bytes x n h e =
    let read : Result (BlockValue × ℕ) TplgFault = read_body at bytes >>= λ body. Ok (block_with body bytes, 36 + word_at bytes 24) in
    let a = header_ok at bytes read (x, n) (sym (block_read at bytes) ∙ e) in
    let b = bind_ok (read_body at bytes) (λ body. Ok (block_with body bytes, 36 + word_at bytes 24)) (x, n) a.1 in
    let t = took at bytes b.0 h b.1 in
    let made : BlockValue × ℕ = (block_with b.0 bytes, 36 + word_at bytes 24) in
    subst (λ (p : BlockValue × ℕ). Took bytes (block_cells p.0) p.1 × IsBlock p.0) (ok_same made (x, n) (Ok made) refl b.2) (block_whole bytes b.0 h a.0 t)

block_again : (at : ℕ) (x : BlockValue) (front rest : List ℕ) → IsBlock x → Fits front (block_cells x) → block_step at (front ++ rest) ≡ Ok (x, length front)
unfolding read_body payload_of
block_again at x front rest is f =
    let parts = Fits-split front (slots_cells (header_slots x)) (body_cells x.body) f in
    let bytes = front ++ rest in
    let regrouped : bytes ≡ parts.first ++ (parts.second ++ rest) = ap (λ (t : List ℕ). t ++ rest) parts.whole ∙ append_assoc parts.first parts.second rest in
    let words = slots_again (header_slots x) bytes parts.first (parts.second ++ rest) 0 0 is.header regrouped parts.fits_first in
    let e = words.slots in
    let head_len : length parts.first ≡ 36 = Fits-length parts.first (slots_cells (header_slots x)) parts.fits_first ∙ length-slots (header_slots x) is.header in
    let magic : word_at bytes 0 ≡ 0x41536F43 = cc in
    let abi : word_at bytes 4 ≡ 5 = cc in
    let version : word_at bytes 8 ≡ x.version = cc in
    let kind : word_at bytes 12 ≡ block_type x.body = cc in
    let header_size : word_at bytes 16 ≡ 36 = cc in
    let vendor_type : word_at bytes 20 ≡ x.vendor_type = cc in
    let size : word_at bytes 24 ≡ length (body_cells x.body) = cc in
    let index : word_at bytes 28 ≡ x.index = cc in
    let count : word_at bytes 32 ≡ count_of x.body = cc in
    let len : length parts.second ≡ length (body_cells x.body) = Fits-length parts.second (body_cells x.body) parts.fits_second in
    let total : 36 + word_at bytes 24 ≡ length front = omega (arith, head_len, len, size, ap length parts.whole, length-append parts.first parts.second) in
    let payload : payload_of bytes ≡ parts.second = ap (take (word_at bytes 24)) (ap (drop 36) regrouped ∙ drop_at parts.first (parts.second ++ rest) 36 head_len) ∙ take_at parts.second rest (word_at bytes 24) (len ∙ sym size) in
    let right : Right bytes = record { long = omega (arith, total, length-append front rest); magic = magic; abi = abi; header_size = header_size; room = omega (arith, total, length-append front rest) } in
    let body : read_body at bytes ≡ Ok x.body = rw (kind, count, payload) (body_again x.body (at + 36) parts.second is.kept is.body parts.fits_second) in
    let made : block_with x.body bytes ≡ record { version = x.version; vendor_type = x.vendor_type; index = x.index; body = x.body } = cc in
    block_read at bytes ∙ header_right at bytes (read_body at bytes >>= λ b. Ok (block_with b bytes, 36 + word_at bytes 24)) right ∙ (rw (body, made, total) refl)

pub block_item : IsItem block_step block_cells IsBlock
block_item = record { takes = block_takes; again = block_again }

-- a block takes bytes
pub block_some : (at : ℕ) (bytes : List ℕ) (x : BlockValue) (n : ℕ) → block_step at bytes ≡ Ok (x, n) → 0 < n
block_some at bytes x n e =
    let read : Result (BlockValue × ℕ) TplgFault = read_body at bytes >>= λ body. Ok (block_with body bytes, 36 + word_at bytes 24) in
    let a = header_ok at bytes read (x, n) (sym (block_read at bytes) ∙ e) in
    let b = bind_ok (read_body at bytes) (λ body. Ok (block_with body bytes, 36 + word_at bytes 24)) (x, n) a.1 in
    let made : BlockValue × ℕ = (block_with b.0 bytes, 36 + word_at bytes 24) in
    let same : made ≡ (x, n) = ok_same made (x, n) (Ok made) refl b.2 in
    let size : 36 + word_at bytes 24 ≡ n = ap (λ (p : BlockValue × ℕ). p.1) same in
    omega (arith, size)

pub block_found : (at : ℕ) (bytes : List ℕ) (f : TplgFault) → IsBytes bytes → block_step at bytes ≡ Err f → BlockFault at bytes f
unfolding read_body payload_of
block_found at bytes f h e =
    elim (unless_err (header_fault at bytes) (read_body at bytes >>= λ body. Ok (block_with body bytes, 36 + word_at bytes 24)) f (sym (block_read at bytes) ∙ e)) [
      | inl bad ↦ inl bad
      | inr p ↦ inr (p.0, body_found (word_at bytes 12) (word_at bytes 32) (at + 36) (payload_of bytes) f (IsBytes-part bytes 36 (word_at bytes 24) h) (only_first (read_body at bytes) (λ body. (block_with body bytes, 36 + word_at bytes 24)) f p.1))
    ]

pub block_only : (at : ℕ) (bytes : List ℕ) (f : TplgFault) → BlockFault at bytes f → block_step at bytes ≡ Err f
unfolding read_body payload_of
block_only at bytes f (inl bad) = block_read at bytes ∙ ap (λ (o : Option TplgFault). unless_fault o (read_body at bytes >>= λ body. Ok (block_with body bytes, 36 + word_at bytes 24))) bad
block_only at bytes f (inr p) =
    let body : read_body at bytes ≡ Err f = body_only (word_at bytes 12) (word_at bytes 32) (at + 36) (payload_of bytes) f p.1 in
    block_read at bytes ∙ ap (λ (o : Option TplgFault). unless_fault o (read_body at bytes >>= λ b. Ok (block_with b bytes, 36 + word_at bytes 24))) p.0 ∙ (rw body refl)
