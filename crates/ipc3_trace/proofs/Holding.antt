-- Records that do not fit are not held.
use Rattle.std.proofs.Common.{◌≡◌, ℕ, ◌+◌, List, Bool, true, false, ◌&&◌, nat_le, length, sym, ap, ◌∙◌, arith, length-append}
use Rattle.ipc3_trace.specs.declared.kind.RecordKind.{RecordKind}
use Rattle.ipc3_trace.specs.declared.kind.RecordKind.TheVariants as kinds
use Rattle.ipc3_trace.specs.Records.{spelled}
use Rattle.ipc3_trace.specs.HeldRecords.{HeldRecords, held_where, piece_fits, kept, exchange_piece, kept_exchange}
use Rattle.ipc3_trace.proofs.Stands.{length-spelled}

abbrev full : HeldRecords → HeldRecords
full held = record { bytes = held.bytes; cut_short = true }

pub full-kept : (kind : RecordKind) (body : List ℕ) (held : HeldRecords) (t : Bool) → t ≡ nat_le (length held.bytes + (8 + length body)) 1048576 → t ≡ false → full held ≡ kept (spelled kind body) held
full-kept kind body held t e none =
    let no : piece_fits (spelled kind body) held ≡ false = ap (λ (n : ℕ). nat_le (length held.bytes + n) 1048576) (length-spelled kind body) ∙ sym e ∙ none in
    ap (λ (b : Bool). held_where b (spelled kind body) held) (sym no)

length-exchange : (kind : RecordKind) (request body : List ℕ) → length (exchange_piece request (spelled kind body)) ≡ 16 + length request + length body
length-exchange kind request body =
    omega (arith, length-append (spelled kinds.Request request) (spelled kind body), length-spelled kinds.Request request, length-spelled kind body)

pub full-exchange : (kind : RecordKind) (request body : List ℕ) (held : HeldRecords) (t : Bool) →
    t ≡ (nat_le (length request) 384 && nat_le (length held.bytes + (16 + length request + length body)) 1048576) → t ≡ false → full held ≡ kept_exchange request (spelled kind body) held
full-exchange kind request body held t e none =
    let piece = exchange_piece request (spelled kind body) in
    let no : (nat_le (length request) 384 && piece_fits piece held) ≡ false = ap (λ (n : ℕ). nat_le (length request) 384 && nat_le (length held.bytes + n) 1048576) (length-exchange kind request body) ∙ sym e ∙ none in
    ap (λ (b : Bool). held_where b piece held) (sym no)
