-- A tracer to which all records fit holds those of its calls.
use Rattle.std.proofs.Common.{◌≡◌, ℕ, ◌≤◌, Bool, true, false, ◌&&◌, nat_le, List, [], ◌∷◌, ◌++◌, length, refl, sym, ap, subst, ◌∙◌, append_assoc, append-nil}
use Rattle.std.proofs.lemmas.Bool.{leb-true, and_parts}
use Rattle.std.specs.List.{AllByRecursion}
use Rattle.std.proofs.lemmas.Grind.{flat_map-append}
use Rattle.std.specs.Prelude.{is_some}
use Rattle.mbox_link.specs.Calls as calls
use Rattle.mbox_link.specs.Calls.{World, Meaning, Call, Did, Led}
use Rattle.ipc3_trace.specs.declared.entry.Entry.{Entry}
use Rattle.ipc3_trace.specs.declared.entry.Entry.TheVariants.{Boot, Cut, Request, Tick}
use Rattle.ipc3_trace.specs.Records.{IsEntry, record_bytes, records_bytes}
use Rattle.ipc3_trace.specs.HeldRecords.{HeldRecords, held_where, piece_fits, exchange_piece}
use Rattle.ipc3_trace.specs.Tracing.{Traced, tracer, traced, kept_where}
use Rattle.ipc3_trace.specs.AlongCalls.{back_of, entries_by, entries_along}
use Rattle.ipc3_trace.specs.CallRecords.{HoldsRecords, TracerIsDevice}

-- nothing was cut short, and this piece is held after what was
abbrev Joins : HeldRecords → HeldRecords → List ℕ → Type 0
Joins h g piece = (h.cut_short ≡ false) × (g.bytes ≡ h.bytes ++ piece)

-- or these records, each of which a reader takes
abbrev Holds : HeldRecords → HeldRecords → List Entry → Type 0
Holds h g es = (h.cut_short ≡ false) × (g.bytes ≡ h.bytes ++ records_bytes es) × AllByRecursion IsEntry es

held-piece : (t : Bool) (piece : List ℕ) (h g : HeldRecords) → g ≡ held_where t piece h → g.cut_short ≡ false → (t ≡ true) × Joins h g piece
held-piece true piece h g e none = (refl, (ap (λ (x : HeldRecords). x.cut_short) (sym e) ∙ none, ap (λ (x : HeldRecords). x.bytes) e))
held-piece false piece h g e none = let no : true ≡ false = ap (λ (x : HeldRecords). x.cut_short) (sym e) ∙ none in absurd (cc no)

held-same : (h g : HeldRecords) → g ≡ h → g.cut_short ≡ false → Holds h g []
held-same h g e none = (ap (λ (x : HeldRecords). x.cut_short) (sym e) ∙ none, ap (λ (x : HeldRecords). x.bytes) e ∙ sym (append-nil h.bytes), tt)

one : (h g : HeldRecords) (e : Entry) → IsEntry e → Joins h g (record_bytes e) → Holds h g (e ∷ [])
one h g e is held = (held.0, held.1 ∙ ap (λ (b : List ℕ). h.bytes ++ b) (sym (append-nil (record_bytes e))), (is, tt))

pair : (h g : HeldRecords) (request : List ℕ) (back : Entry) → length request ≤ 384 → IsEntry back → Joins h g (exchange_piece request (record_bytes back)) → Holds h g (Request request ∷ back ∷ [])
pair h g request back few is held =
    (held.0, held.1 ∙ ap (λ (b : List ℕ). h.bytes ++ (record_bytes (Request request) ++ b)) (sym (append-nil (record_bytes back))), (few, (is, tt)))

all-append : (es fs : List Entry) → AllByRecursion IsEntry es → AllByRecursion IsEntry fs → AllByRecursion IsEntry (es ++ fs)
all-append [] fs are all = all
all-append (e ∷ es) fs are all = (are.0, all-append es fs are.1 all)

-- records after records
joined : (h g k : HeldRecords) (es fs : List Entry) → Holds h g es → Holds g k fs → Holds h k (es ++ fs)
joined h g k es fs first later = (
  first.0,
  later.1 ∙ ap (λ (b : List ℕ). b ++ records_bytes fs) first.1 ∙ append_assoc h.bytes (records_bytes es) (records_bytes fs)
      ∙ ap (λ (b : List ℕ). h.bytes ++ b) (sym (flat_map-append record_bytes es fs)),
  all-append es fs first.2 later.2,
)

module _ {P : Type 0} (means : Meaning P) where
  -- of a call that leaves one record where it meets a device that is on
  where_on : (t : Bool) (e : Entry) (call : Call) (h g : HeldRecords) → IsEntry e → entries_by true call ≡ e ∷ [] → entries_by false call ≡ [] → g ≡ kept_where t (record_bytes e) h → g.cut_short ≡ false →
      Holds h g (entries_by t call)
  where_on true e call h g are is none k cut = subst (λ (es : List Entry). Holds h g es) (sym is) (one h g e are (held-piece (piece_fits (record_bytes e) h) (record_bytes e) h g k cut).1)
  where_on false e call h g are is none k cut = subst (λ (es : List Entry). Holds h g es) (sym none) (held-same h g k cut)

  did-held : (call : Call) (w v : World (Traced P)) → Did (tracer means) call w v → v.device.held.cut_short ≡ false →
      Holds w.device.held v.device.held (entries_by (is_some (means.on w.device.device)) call)
  did-held (calls.Boot heap) w v d cut =
      let piece = record_bytes (Boot heap) in
      one w.device.held v.device.held (Boot heap) d.0.did.1 (held-piece (piece_fits piece w.device.held) piece w.device.held v.device.held (ap (λ (t : Traced P). t.held) d.0.did.2) cut).1
  did-held calls.Cut w v d cut =
      where_on (is_some (means.on w.device.device)) Cut calls.Cut w.device.held v.device.held tt refl refl (ap (λ (t : Traced P). t.held) d.0.did.1) cut
  did-held (calls.Exchange request answer) w v d cut =
      let back = back_of answer in
      let piece = exchange_piece request (record_bytes back) in
      let fit = held-piece (nat_le (length request) 384 && piece_fits piece w.device.held) piece w.device.held v.device.held (ap (λ (t : Traced P). t.held) d.did.2) cut in
      pair w.device.held v.device.held request back (leb-true (length request) 384 (and_parts _ _ fit.0).0) d.did.1 fit.1
  did-held calls.Tick w v d cut =
      where_on (is_some (means.on w.device.device)) Tick calls.Tick w.device.held v.device.held tt refl refl (ap (λ (t : Traced P). t.held) d.did.1) cut

  pub led-held : (cs : List Call) (w v : World (Traced P)) (led : Led (tracer means) w cs v) → v.device.held.cut_short ≡ false →
      Holds w.device.held v.device.held (entries_along (tracer means) w cs v led)
  led-held [] w v led cut = held-same w.device.held v.device.held (ap (λ (x : World (Traced P)). x.device.held) led) cut
  led-held (call ∷ cs) w v led cut =
      let m = led.0 in
      let later = led-held cs m v led.2 cut in
      let first = did-held call w m led.1 later.0 in
      joined w.device.held m.device.held v.device.held (entries_by (is_some (means.on w.device.device)) call) (entries_along (tracer means) m cs v led.2) first later

pub holds-records : {P : Type 0} (means : Meaning P) → HoldsRecords means
holds-records means w v cs led cut = led-held means cs w v led cut

module _ {P : Type 0} (means : Meaning P) where
  did-inside : (call : Call) (w v : World (Traced P)) → Did (tracer means) call w v → Did means call (traced w) (traced v)
  did-inside (calls.Boot heap) w v d = (d.0.did.0, d.1)
  did-inside calls.Cut w v d = (d.0.did.0, d.1)
  did-inside (calls.Exchange request answer) w v d = d.did.0
  did-inside calls.Tick w v d = d.did.0

  led-inside : (cs : List Call) (w v : World (Traced P)) (led : Led (tracer means) w cs v) →
      (inside : Led means (traced w) cs (traced v)) × (entries_along (tracer means) w cs v led ≡ entries_along means (traced w) cs (traced v) inside)
  led-inside [] w v led = (ap (λ (x : World (Traced P)). traced x) led, refl)
  led-inside (call ∷ cs) w v led =
      let later = led-inside cs led.0 v led.2 in (
        (traced led.0, did-inside call w led.0 led.1, later.0),
        ap (λ (es : List Entry). entries_by (is_some (means.on w.device.device)) call ++ es) later.1,
      )

pub tracer-is-device : {P : Type 0} (means : Meaning P) → TracerIsDevice means
tracer-is-device means w v cs led = led-inside means cs w v led
