-- What an exchange and a tick leave and answer.
use Rattle.std.specs.Prelude.{◌≡◌, ◌⊎◌, ℕ, zero, suc, ◌+◌, ◌<◌, ◌≤◌, ◌^◌, ◌-◌, min, List, [], ◌∷◌, Option, Some, None, negsuc}
use Rattle.sof_base.specs.Ports.{Io}
use Rattle.stream_law.specs.State.{FwState}
use Rattle.stream_law.specs.Move.{state_after, audio_after, io_after}
use Rattle.mbox_link.specs.Step.{step, error_reply}

-- a state with the endpoints' bytes, after a tick and after so many
abbrev pub ticked : FwState × Io → FwState × Io
ticked p = (state_after p.0 (audio_after p.0 p.1), io_after p.1 (audio_after p.0 p.1))

abbrev pub ticks : ℕ → FwState × Io → FwState × Io
ticks zero p = p
ticks (suc n) p = ticks n (ticked p)

-- a reply of 12 bytes with a negative error, which is -1 - code
pub record IsRefusal (reply : List ℕ) : Type 0 where
  pub code : ℕ
  pub small : code < 2 ^ 31
  pub is : reply ≡ error_reply (negsuc code)

-- What an exchange may leave and answer, from a state and endpoints. `refused` and `faulted` say that a count of the device rose.
abbrev pub Stepped : (refused faulted : Type 0) → FwState × Io → List ℕ → Option (List ℕ) → Option FwState → Io → Type 0
Stepped refused faulted p request (Some reply) after io =
    (io ≡ p.1)
    × (((after ≡ Some (step p.0 request).0) × (reply ≡ (step p.0 request).1))
    ⊎ (refused × IsRefusal reply × (after ≡ Some p.0)))
Stepped refused faulted p request None after io =
    (io ≡ p.1) × faulted × ((after ≡ Some (step p.0 request).0) ⊎ (after ≡ Some p.0))

-- one of these counts rose, or stands at its last value
abbrev pub Rose : List ℕ → List ℕ → Type 0
Rose [] after = ⊥
Rose (m ∷ before) [] = ⊥
Rose (m ∷ before) (n ∷ after) = ((m < n) ⊎ (2 ^ 64 ≤ n + 1)) ⊎ Rose before after

-- none of these counts fell
abbrev pub NoneFell : List ℕ → List ℕ → Type 0
NoneFell [] [] = Unit {0}
NoneFell [] (n ∷ after) = ⊥
NoneFell (m ∷ before) [] = ⊥
NoneFell (m ∷ before) (n ∷ after) = (m ≤ n) × NoneFell before after

-- one more, up to the last value
abbrev pub more : ℕ → ℕ
more count = min (count + 1) (2 ^ 64 - 1)
