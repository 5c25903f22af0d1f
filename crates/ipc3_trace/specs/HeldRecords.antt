-- The records that a tracer holds, in a bounded number of bytes.
use Rattle.std.specs.Prelude.{ℕ, ◌+◌, List, [], ◌++◌, Bool, true, false, ◌&&◌, nat_le, length}
use Rattle.ipc3_trace.specs.declared.kind.RecordKind.TheVariants as kinds
use Rattle.ipc3_trace.specs.Records.{spelled}

-- the bytes of the records since the last drain, and whether one of these did not fit
pub record HeldRecords : Type 0 where
  pub bytes : List ℕ
  pub cut_short : Bool

abbrev pub no_records : HeldRecords
no_records = record { bytes = []; cut_short = false }

-- a piece is held whole, or not at all
abbrev pub held_where : Bool → List ℕ → HeldRecords → HeldRecords
held_where true piece held = record { bytes = held.bytes ++ piece; cut_short = held.cut_short }
held_where false piece held = record { bytes = held.bytes; cut_short = true }

-- there is room for a piece, of 1048576 bytes
abbrev pub piece_fits : List ℕ → HeldRecords → Bool
piece_fits piece held = nat_le (length held.bytes + length piece) 1048576

abbrev pub kept : List ℕ → HeldRecords → HeldRecords
kept piece held = held_where (piece_fits piece held) piece held

-- a message's record, and what came back, are one piece, which a message of more than 384 bytes does not fit
abbrev pub exchange_piece : List ℕ → List ℕ → List ℕ
exchange_piece request back = spelled kinds.Request request ++ back

abbrev pub kept_exchange : List ℕ → List ℕ → HeldRecords → HeldRecords
kept_exchange request back held =
    held_where (nat_le (length request) 384 && piece_fits (exchange_piece request back) held) (exchange_piece request back) held
