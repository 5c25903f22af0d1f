-- What stands at a stage of a tick.
use Rattle.std.specs.Prelude.{◌≡◌, ℕ, ◌+◌, ◌-◌, ◌^◌, ◌≤◌, List, [], ◌∷◌, map, length, false, if◌then◌else◌}
use Rattle.sof_base.specs.Ports.{InputView, OutputView, Io}
use Rattle.stream_law.specs.Order.{is_among}
use Rattle.stream_law.specs.Placed.{HasDistinct}
use Rattle.stream_law.specs.State.{RingView, History}
use Rattle.stream_law.specs.Table.{number_of, list_of}
use Rattle.stream_law.specs.Move.{Audio, io_after, after_move}
use Rattle.stream_law.specs.Seen.{blob_in}
use Rattle.fw_units.specs.declared.component.Unit as units
use Rattle.fw_units.specs.declared.component.Unit.TheVariants.{Volume, Eq, Buffer}
use Rattle.fw_units.specs.declared.component.Component.{Component}
use Rattle.fw_components.specs.Tables.{Tables, view_by, rings_of, histories_of, staging_of}
use Rattle.fw_units.specs.Frames.{piece_with_words}

-- a unit without what moves: a ring is empty, it and an equaliser have no words in their pieces, and of a volume's ramp nothing is done
abbrev pub bare_unit : units.Unit → units.Unit
bare_unit (Eq eq next remaining) = Eq (record { blob = eq.blob; piece = piece_with_words [] eq.piece }) next remaining
bare_unit (Buffer size ring source sink) = Buffer size (record { frames = []; words = ring.words; channels = ring.channels; start = 0; piece = piece_with_words [] ring.piece }) source sink
bare_unit (Volume gains ramp from done frames piece) = Volume gains ramp from 0 frames piece
bare_unit unit = unit

abbrev pub bare_by : Component → Component
bare_by c = record { id = c.id; pipe = c.pipe; channels = c.channels; unit = bare_unit c.unit }

-- tables without what moves
abbrev pub bare_of : Tables → Tables
bare_of t = record { comps = map bare_by t.comps; buffers = map bare_by t.buffers; pipes = t.pipes; joins = t.joins }

-- rings and histories with what audio has
abbrev pub heard_ring : Audio → RingView → RingView
heard_ring a r = record { buffer = r.buffer; frames = list_of a.rings r.buffer }

abbrev pub heard_history : Audio → History → History
heard_history a h = record { comp = h.comp; numbers = list_of a.numbers h.comp }

-- A tick that began with tables and endpoints has come as far as this audio: rings, histories and endpoints are those of the audio,
-- and all else is as it was.
pub record IsStage (began : Tables) (start : Io) (t : Tables) (inputs' : List InputView) (outputs' : List OutputView) (a : Audio) : Type 0 where
  pub bare : bare_of t ≡ bare_of began
  pub rings : rings_of t ≡ map (heard_ring a) (rings_of began)
  pub histories : histories_of t ≡ map (heard_history a) (histories_of began)
  pub staging : staging_of t ≡ staging_of began
  pub inputs : inputs' ≡ (io_after start a).inputs
  pub outputs : outputs' ≡ (io_after start a).outputs

-- No input comes twice and no output, no position is past its last value, and nothing is left of a slot that is not bound.
pub record AreEnds (start : Io) (a : Audio) : Type 0 where
  pub inputs : HasDistinct (λ x. x.slot) start.inputs
  pub outputs : HasDistinct (λ x. x.slot) start.outputs
  pub low : (x : ℕ) → number_of a.positions x ≤ 2 ^ 64 - 1
  pub none : (x : ℕ) → is_among (map (λ (i : InputView). i.slot) start.inputs) x ≡ false → list_of a.left x ≡ []

-- the component of an id moves: from a stage of a tick on to the next, whatever the tick began with
abbrev pub Moves : (clock id : ℕ) → Tables → List InputView → List OutputView → Tables → List InputView → List OutputView → Type 0
Moves clock id t inputs outputs t' inputs' outputs' =
    (began : Tables) (start : Io) (a : Audio) → AreEnds start a → IsStage began start t inputs outputs a
    → IsStage began start t' inputs' outputs' (after_move (view_by t) (blob_in (view_by t)) clock id a)

-- outputs of the same slots, of which those of some slots alone are longer, by at most 61440 bytes
abbrev pub Grew : List ℕ → List OutputView → List OutputView → Type 0
Grew slots [] [] = Unit {0}
Grew slots (o ∷ old) (n ∷ new) =
    (n.slot ≡ o.slot)
    × (length n.bytes ≤ length o.bytes + (if is_among slots o.slot then 61440 else 0))
    × Grew slots old new
Grew slots _ _ = ⊥

-- the audio that a tick of tables begins with
abbrev pub audio_from : Tables → Io → Audio
audio_from t io = record {
  rings = map (λ r. (r.buffer, r.frames)) (rings_of t);
  numbers = map (λ h. (h.comp, h.numbers)) (histories_of t);
  positions = map (λ x. (x.slot, x.position)) io.inputs;
  left = map (λ x. (x.slot, x.left)) io.inputs;
  written = [];
}
