-- A tracer that has room for all records of its calls cuts none short.
use Rattle.std.proofs.Common.{◌≡◌, ℕ, ◌+◌, ◌≤◌, Bool, true, false, ◌&&◌, nat_le, List, [], ◌∷◌, ◌++◌, length, refl, sym, ap, subst, ◌∙◌, arith, append-nil, length-append}
use Rattle.std.proofs.lemmas.Bool.{le-leb}
use Rattle.std.proofs.lemmas.Grind.{flat_map-append}
use Rattle.std.specs.List.{AllByRecursion}
use Rattle.std.specs.Prelude.{is_some}
use Rattle.mbox_link.specs.Calls as calls
use Rattle.mbox_link.specs.Calls.{World, Meaning, Call, Did, Led}
use Rattle.ipc3_trace.specs.declared.entry.Entry.{Entry}
use Rattle.ipc3_trace.specs.declared.entry.Entry.TheVariants.{Boot, Cut, Request, Tick}
use Rattle.ipc3_trace.specs.Records.{IsEntry, record_bytes, records_bytes}
use Rattle.ipc3_trace.specs.HeldRecords.{HeldRecords, held_where, piece_fits, exchange_piece}
use Rattle.ipc3_trace.specs.Tracing.{Traced, tracer, kept_where}
use Rattle.ipc3_trace.specs.AlongCalls.{back_of, entries_by, entries_along}
use Rattle.ipc3_trace.specs.CallRecords.{FitsRecords}

-- there is room for a piece, and for records
abbrev HasSpace : HeldRecords → List ℕ → Type 0
HasSpace h piece = length h.bytes + length piece ≤ 1048576

-- these are held after what was, and nothing is cut short
abbrev Follows : HeldRecords → HeldRecords → List Entry → Type 0
Follows h g es = (g.cut_short ≡ false) × (g.bytes ≡ h.bytes ++ records_bytes es)

follows-piece : (t : Bool) (piece : List ℕ) (es : List Entry) (h g : HeldRecords) → g ≡ held_where t piece h → t ≡ true → piece ≡ records_bytes es → h.cut_short ≡ false → Follows h g es
follows-piece true piece es h g e is same none = (ap (λ (x : HeldRecords). x.cut_short) e ∙ none, ap (λ (x : HeldRecords). x.bytes) e ∙ ap (λ (b : List ℕ). h.bytes ++ b) same)
follows-piece false piece es h g e is same none = absurd (cc is)

follows-same : (h g : HeldRecords) → g ≡ h → h.cut_short ≡ false → Follows h g []
follows-same h g e none = (ap (λ (x : HeldRecords). x.cut_short) e ∙ none, ap (λ (x : HeldRecords). x.bytes) e ∙ sym (append-nil h.bytes))

-- one record
follows-one : (e : Entry) (h g : HeldRecords) → g ≡ held_where (piece_fits (record_bytes e) h) (record_bytes e) h → HasSpace h (records_bytes (e ∷ [])) → h.cut_short ≡ false → Follows h g (e ∷ [])
follows-one e h g is room none =
    let same : record_bytes e ≡ records_bytes (e ∷ []) = sym (append-nil (record_bytes e)) in
    follows-piece (piece_fits (record_bytes e) h) (record_bytes e) (e ∷ []) h g is
    (le-leb (length h.bytes + length (record_bytes e)) 1048576 (subst (λ (b : List ℕ). HasSpace h b) (sym same) room)) same none

both-true : (a b : Bool) → a ≡ true → b ≡ true → (a && b) ≡ true
both-true true b e f = f
both-true false b e f = absurd (cc e)

module _ {P : Type 0} (means : Meaning P) where
  where-follows : (t : Bool) (e : Entry) (call : Call) (h g : HeldRecords) → entries_by true call ≡ e ∷ [] → entries_by false call ≡ [] → g ≡ kept_where t (record_bytes e) h → HasSpace h (records_bytes (entries_by t call)) → h.cut_short ≡ false →
      Follows h g (entries_by t call)
  where-follows true e call h g is none k room cut =
      subst (λ (es : List Entry). Follows h g es) (sym is) (follows-one e h g k (subst (λ (es : List Entry). HasSpace h (records_bytes es)) is room) cut)
  where-follows false e call h g is none k room cut = subst (λ (es : List Entry). Follows h g es) (sym none) (follows-same h g k cut)

  did-follows : (call : Call) (w v : World (Traced P)) → Did (tracer means) call w v → w.device.held.cut_short ≡ false →
      HasSpace w.device.held (records_bytes (entries_by (is_some (means.on w.device.device)) call)) → AllByRecursion IsEntry (entries_by (is_some (means.on w.device.device)) call) →
      Follows w.device.held v.device.held (entries_by (is_some (means.on w.device.device)) call)
  did-follows (calls.Boot heap) w v d cut room are = follows-one (Boot heap) w.device.held v.device.held (ap (λ (t : Traced P). t.held) d.0.did.2) room cut
  did-follows calls.Cut w v d cut room are =
      where-follows (is_some (means.on w.device.device)) Cut calls.Cut w.device.held v.device.held refl refl (ap (λ (t : Traced P). t.held) d.0.did.1) room cut
  did-follows (calls.Exchange request answer) w v d cut room are =
      let back = back_of answer in
      let piece = exchange_piece request (record_bytes back) in
      let same : piece ≡ records_bytes (Request request ∷ back ∷ []) = ap (λ (b : List ℕ). record_bytes (Request request) ++ b) (sym (append-nil (record_bytes back))) in
      let space : length w.device.held.bytes + length piece ≤ 1048576 = subst (λ (b : List ℕ). HasSpace w.device.held b) (sym same) room in
      follows-piece (nat_le (length request) 384 && piece_fits piece w.device.held) piece (Request request ∷ back ∷ []) w.device.held v.device.held (ap (λ (t : Traced P). t.held) d.did.2)
      (both-true _ _ (le-leb (length request) 384 are.0) (le-leb (length w.device.held.bytes + length piece) 1048576 space)) same cut
  did-follows calls.Tick w v d cut room are =
      where-follows (is_some (means.on w.device.device)) Tick calls.Tick w.device.held v.device.held refl refl (ap (λ (t : Traced P). t.held) d.did.1) room cut

  all-front : (es fs : List Entry) → AllByRecursion IsEntry (es ++ fs) → AllByRecursion IsEntry es
  all-front [] fs are = tt
  all-front (e ∷ es) fs are = (are.0, all-front es fs are.1)

  all-rest : (es fs : List Entry) → AllByRecursion IsEntry (es ++ fs) → AllByRecursion IsEntry fs
  all-rest [] fs are = are
  all-rest (e ∷ es) fs are = all-rest es fs are.1

  led-fits : (cs : List Call) (w v : World (Traced P)) (led : Led (tracer means) w cs v) → w.device.held.cut_short ≡ false →
      HasSpace w.device.held (records_bytes (entries_along (tracer means) w cs v led)) → AllByRecursion IsEntry (entries_along (tracer means) w cs v led) → v.device.held.cut_short ≡ false
  led-fits [] w v led cut room are = ap (λ (x : World (Traced P)). x.device.held.cut_short) led ∙ cut
  led-fits (call ∷ cs) w v led cut room are =
      let m = led.0 in
      let h = w.device.held in
      let es = entries_by (is_some (means.on w.device.device)) call in
      let fs = entries_along (tracer means) m cs v led.2 in
      let long : length (records_bytes (es ++ fs)) ≡ length (records_bytes es) + length (records_bytes fs) =
      ap length (flat_map-append record_bytes es fs) ∙ length-append (records_bytes es) (records_bytes fs) in
      let first = did-follows call w m led.1 cut (omega (arith, room, long)) (all-front es fs are) in
      let held : length m.device.held.bytes ≡ length h.bytes + length (records_bytes es) = ap length first.1 ∙ length-append h.bytes (records_bytes es) in
      led-fits cs m v led.2 first.0 (omega (arith, room, long, held)) (all-rest es fs are)

pub fits-records : {P : Type 0} (means : Meaning P) → FitsRecords means
fits-records means w v cs led cut are room = led-fits means cs w v led cut room are
