-- What holds of the fields of an `Eq`.
use Rattle.std.specs.Prelude.{◌≡◌, ◌<◌, ◌≤◌, length, take, drop}
use Rattle.sof_base.specs.BlobParts.{IsBlob}
use Rattle.eq_biquad.specs.declared.equaliser.Eq.TheInside.{Inside}
use Rattle.eq_blob.specs.WordBytes.{bytes_of_words}
use Rattle.eq_biquad.specs.PieceWords.{words_from, AreNumbers}
use Rattle.eq_biquad.specs.EqState.{EqState}

-- the blob stands in the bytes from byte 64 of the piece on
abbrev pub eq_state : Inside → EqState
eq_state e = record { blob = take e.len (bytes_of_words (words_from 16 256 e.piece.words)); piece = e.piece }

pub record IsEq (e : Inside) : Type 0 where
  pub size : (e.piece.size ≡ 4160) × (length e.piece.words ≡ 1040)
  pub len : e.len ≤ 1024
  pub blob : 0 < e.len → IsBlob (take e.len (bytes_of_words (words_from 16 256 e.piece.words)))
  pub numbers : AreNumbers (drop 528 e.piece.words)
