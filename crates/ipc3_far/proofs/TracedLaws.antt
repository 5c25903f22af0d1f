-- While the far side fails in no message and each record goes out, the trace of the calls goes over both ends.
use Rattle.std.proofs.Common.{◌≡◌, ◌∙◌, refl, sym, ap, subst, ℕ, ◌+◌, ◌<◌, ◌^◌, Bool, true, false, List, [], ◌∷◌, ◌++◌, Option, Some, None, arith}
use Rattle.std.proofs.lemmas.List.{append-nil}
use Rattle.std.proofs.lemmas.Grind.{flat_map-append}
use Rattle.std.proofs.KnownBytes.{Appends-nil, Appends-trans, Consumes-nil, Consumes-trans}
use Rattle.std.specs.Prelude.{is_some}
use Rattle.std.specs.List.{flat_map}
use Rattle.std.specs.Io.KnownBytes.{Appends, Consumes}
use Rattle.mbox_link.specs.Calls as calls
use Rattle.mbox_link.specs.Calls.{World, Meaning, Call, Did, Led}
use Rattle.mbox_link.proofs.Led.{Led-one}
use Rattle.ipc3_trace.specs.declared.entry.Entry.{Entry}
use Rattle.ipc3_trace.specs.declared.entry.Entry.TheVariants.{Boot, Cut, Request, Tick}
use Rattle.ipc3_trace.specs.Records.{record_bytes, records_bytes}
use Rattle.ipc3_trace.specs.AlongCalls.{back_of, entries_by, entries_along}
use Rattle.ipc3_far.specs.FarEnds.{FarEnds, Sends, SendsWhere}
use Rattle.ipc3_far.specs.FarDevices.{FarDevice, far, FarAgrees}
use Rattle.ipc3_far.specs.FarCalls.{to_far, from_far, WentOver, TracedCalls}
use Rattle.ipc3_far.proofs.AgreedLaws.{not_fewer}

-- ---- one trace after another

both_parts : (part : Entry → List Entry) (es fs : List Entry) → records_bytes (flat_map part (es ++ fs)) ≡ records_bytes (flat_map part es) ++ records_bytes (flat_map part fs)
both_parts part es fs = ap records_bytes (flat_map-append part es fs) ∙ flat_map-append record_bytes (flat_map part es) (flat_map part fs)

traced_append : (old m new : FarEnds) (es fs : List Entry) → WentOver es old m → WentOver fs m new → WentOver (es ++ fs) old new
traced_append old m new es fs one two = record {
  all = one.all;
  sent = subst (Appends old.sent new.sent) (sym (both_parts to_far es fs)) (Appends-trans old.sent m.sent new.sent (records_bytes (flat_map to_far es)) (records_bytes (flat_map to_far fs)) one.sent two.sent);
  read = subst (Consumes old.unread new.unread) (sym (both_parts from_far es fs)) (Consumes-trans old.unread m.unread new.unread (records_bytes (flat_map from_far es)) (records_bytes (flat_map from_far fs)) one.read two.read);
}

-- ---- one call

module _ (old new : FarEnds) (still : new.stuck ≡ false) where
  -- nothing goes over
  traced_none : new ≡ old → WentOver [] old new
  traced_none same = record {
    all = sym (ap (λ (x : FarEnds). x.stuck) same) ∙ still;
    sent = subst (λ (x : FarEnds). Appends old.sent x.sent []) (sym same) (Appends-nil old.sent);
    read = subst (λ (x : FarEnds). Consumes old.unread x.unread []) (sym same) (Consumes-nil old.unread);
  }

  -- a record goes out
  traced_sent : (e : Entry) → to_far e ≡ e ∷ [] → from_far e ≡ [] → Sends (record_bytes e) old new → WentOver (e ∷ []) old new
  traced_sent e goes comes s =
      let bytes : records_bytes (flat_map to_far (e ∷ [])) ≡ record_bytes e = ap (λ xs. records_bytes (xs ++ [])) goes ∙ append-nil (record_bytes e) in
      let none : records_bytes (flat_map from_far (e ∷ [])) ≡ [] = ap (λ xs. records_bytes (xs ++ [])) comes in
      record {
        all = (s.sent still).0;
        sent = subst (Appends old.sent new.sent) (sym bytes) (s.sent still).1;
        read = subst (Consumes old.unread new.unread) (sym none) (subst (λ u. Consumes old.unread u []) (sym s.unread) (Consumes-nil old.unread));
      }

  traced_cut : (on : Bool) → SendsWhere on (record_bytes Cut) old new → WentOver (entries_by on calls.Cut) old new
  traced_cut true tells = traced_sent Cut refl refl tells
  traced_cut false tells = traced_none tells

  traced_tick : (on : Bool) → SendsWhere on (record_bytes Tick) old new → WentOver (entries_by on calls.Tick) old new
  traced_tick true tells = traced_sent Tick refl refl tells
  traced_tick false tells = traced_none tells

module _ {P : Type 0} (means : Meaning P) where
  traced_message : (request : List ℕ) (own answer : Option (List ℕ)) (f g : FarDevice P) → FarAgrees request own answer f g → g.broken ≡ f.broken → f.broken + 1 < 2 ^ 64 → WentOver (Request request ∷ back_of answer ∷ []) f.ends g.ends
  traced_message request own (Some reply) f g agrees same few = record {
    all = agrees.2.all;
    sent = subst (Appends f.ends.sent g.ends.sent) (sym (append-nil (record_bytes (Request request)))) agrees.2.sent;
    read = subst (Consumes f.ends.unread g.ends.unread) (sym (append-nil (record_bytes (back_of (Some reply))))) agrees.2.read;
  }
  traced_message request own None f g agrees same few = absurd (omega (arith, agrees.0, same, few))

  traced_call : (call : Call) (w m : World (FarDevice P)) → Did (far means) call w m → m.device.broken ≡ w.device.broken → w.device.broken + 1 < 2 ^ 64 → m.device.ends.stuck ≡ false
      → WentOver (entries_by (is_some (means.on w.device.device)) call) w.device.ends m.device.ends
  traced_call (calls.Boot heap) w m did same few still = traced_sent w.device.ends m.device.ends still (Boot heap) refl refl did.0.did.2
  traced_call calls.Cut w m did same few still = traced_cut w.device.ends m.device.ends still (is_some (means.on w.device.device)) did.0.did.2
  traced_call (calls.Exchange request answer) w m did same few still = traced_message request did.did.0 answer w.device m.device did.did.2 same few
  traced_call calls.Tick w m did same few still = traced_tick w.device.ends m.device.ends still (is_some (means.on w.device.device)) did.did.2

  pub traced : TracedCalls means
  traced w v [] led same few still = traced_none w.device.ends v.device.ends still (ap (λ (x : World (FarDevice P)). x.device.ends) led)
  traced w v (call ∷ rest) (m, did, led) same few still =
      let up = not_fewer means (call ∷ []) w m (Led-one (far means) w m call did) in
      let on = not_fewer means rest m v led in
      let here : m.device.broken ≡ w.device.broken = omega (arith, up, on, same) in
      let later = traced m v rest led (same ∙ sym here) (omega (arith, here, few)) still in
      traced_append w.device.ends m.device.ends v.device.ends (entries_by (is_some (means.on w.device.device)) call) (entries_along (far means) m rest v led) (traced_call call w m did here few later.all) later
