-- Which widget, route or PCM an entry states.
use Rattle.std.specs.Prelude.{ℕ, ◌&&◌, nat_le, if◌then◌else◌, List, [], ◌∷◌, ◌++◌, length, codes, bit_or, Option, Some, None, unwrap_or}
use Rattle.std.specs.Option.{option_to_list}
use Rattle.std.specs.Str.{bytes_eq}
use Rattle.toml.specs.Data.{Data, Members, as_str, as_array}
use Rattle.tplg_model.specs.declared.tokens.NumberTuple.{NumberTuple}
use Rattle.tplg_model.specs.declared.tokens.TextTuple.{TextTuple}
use Rattle.tplg_build.specs.declared.source.WidgetKind.{WidgetKind}
use Rattle.tplg_build.specs.declared.source.WidgetKind.TheVariants as widget
use Rattle.tplg_build.specs.declared.source.SourceControl.{SourceControl}
use Rattle.tplg_build.specs.declared.source.SourceControl.TheVariants.{Volume, Choice, Blob}
use Rattle.tplg_build.specs.declared.source.SourceWidget.{SourceWidget}
use Rattle.tplg_build.specs.declared.source.SourceRoute.{SourceRoute}
use Rattle.tplg_build.specs.declared.source.PcmLimits.{PcmLimits}
use Rattle.tplg_build.specs.declared.source.SourcePcm.{SourcePcm}
use Rattle.tplg_build.specs.WidgetForm.{text_tuple}
use Rattle.tplg_compile.specs.Outcomes.{◌>>=◌}
use Rattle.tplg_compile.specs.ValueForm.{found_where, number_of, index_of, signed_of, name_of, filled_of, blob_of, item_list, each, required_at, optional_at, in_table, only}
use Rattle.tplg_compile.specs.KeyTables.{Keyed, kind_named, number_tokens, text_tokens, widget_keys, pcm_keys}

-- ---- tokens

-- what stands at each of the keys that an entry has, in the keys' order
unfoldable pub tuples_at : {A : Type 0} → (ℕ → Data → Option A) → List Keyed → Members → Option (List A)
tuples_at read [] entry = Some []
tuples_at read (k ∷ ks) entry = do
  first ← optional_at (read k.1) k.0 entry
  more ← tuples_at read ks entry
  Some (option_to_list first ++ more)

-- a token with a number, and with a text
unfoldable pub stated_number : ℕ → Data → Option NumberTuple
stated_number token d = number_of d >>= λ n. Some (record { token = token; value = n })

unfoldable pub stated_text : ℕ → Data → Option TextTuple
stated_text token d = name_of d >>= λ text. Some (text_tuple token text)

-- ---- controls

-- the volume of a pga
unfoldable pub stated_volume : Members → Option SourceControl
stated_volume entry = do
  known ← only (codes "name" ∷ codes "channels" ∷ codes "min" ∷ codes "max" ∷ codes "tlv_min" ∷ codes "tlv_step" ∷ codes "tlv_mute" ∷ []) entry
  name ← required_at filled_of (codes "name") entry
  channels ← required_at number_of (codes "channels") entry
  min ← required_at signed_of (codes "min") entry
  max ← required_at signed_of (codes "max") entry
  tlv_min ← required_at signed_of (codes "tlv_min") entry
  tlv_step ← required_at number_of (codes "tlv_step") entry
  tlv_mute ← required_at number_of (codes "tlv_mute") entry
  Some (Volume name channels min max tlv_min tlv_step tlv_mute)

-- texts
unfoldable pub names_of : Data → Option (List (List ℕ))
names_of d = as_array d >>= λ ds. each name_of (item_list ds)

-- 1 to 16 of them
unfoldable pub items_of : Data → Option (List (List ℕ))
items_of d = found_where (λ texts. nat_le 1 (length texts) && nat_le (length texts) 16) (names_of d)

-- the choice of a mux
unfoldable pub stated_choice : Members → Option SourceControl
stated_choice entry = do
  known ← only (codes "name" ∷ codes "items" ∷ []) entry
  name ← required_at filled_of (codes "name") entry
  items ← required_at items_of (codes "items") entry
  Some (Choice name items)

-- the blob of an effect
unfoldable pub stated_blob : Members → Option SourceControl
stated_blob entry = do
  known ← only (codes "name" ∷ codes "max" ∷ codes "blob" ∷ []) entry
  name ← required_at filled_of (codes "name") entry
  max ← required_at number_of (codes "max") entry
  blob ← required_at blob_of (codes "blob") entry
  Some (Blob name max blob)

-- the control of a widget of a kind; other kinds have none
abbrev pub stated_control : WidgetKind → Members → Option SourceControl
stated_control widget.Pga entry = stated_volume entry
stated_control widget.Mux entry = stated_choice entry
stated_control widget.Effect entry = stated_blob entry
stated_control _ entry = None

-- ---- widgets

unfoldable pub stated_kind : Data → Option WidgetKind
stated_kind d = filled_of d >>= kind_named

-- the stream name may be absent, and is empty then
unfoldable pub stated_widget : Members → Option SourceWidget
stated_widget entry = do
  known ← only widget_keys entry
  kind ← required_at stated_kind (codes "kind") entry
  name ← required_at filled_of (codes "name") entry
  index ← required_at index_of (codes "index") entry
  sname ← optional_at name_of (codes "sname") entry
  numbers ← tuples_at stated_number number_tokens entry
  texts ← tuples_at stated_text text_tokens entry
  control ← optional_at (in_table (stated_control kind)) (codes "control") entry
  Some (record { kind = kind; name = name; sname = unwrap_or sname []; index = index; numbers = numbers; texts = texts; controls = option_to_list control })

-- ---- routes

unfoldable pub stated_route : Members → Option SourceRoute
stated_route entry = do
  known ← only (codes "sink" ∷ codes "source" ∷ []) entry
  sink ← required_at filled_of (codes "sink") entry
  source ← required_at filled_of (codes "source") entry
  Some (record { source = source; sink = sink })

-- ---- PCMs

-- the bit of a format: bits 2, 6 and 10
abbrev pub bit_named : List ℕ → Option ℕ
bit_named text =
    if bytes_eq text (codes "s16le") then Some 4
    else if bytes_eq text (codes "s24le") then Some 64
    else if bytes_eq text (codes "s32le") then Some 1024
    else None

unfoldable pub bit_of : Data → Option ℕ
bit_of d = as_str d >>= bit_named

-- bits, and those of the formats that values name
unfoldable pub bits_with : ℕ → List Data → Option ℕ
bits_with bits [] = Some bits
bits_with bits (d ∷ ds) = do
  bit ← bit_of d
  bits_with (bit_or bits bit) ds

unfoldable pub formats_of : Data → Option ℕ
formats_of d = as_array d >>= λ ds. bits_with 0 (item_list ds)

unfoldable pub limits_of : Members → Option PcmLimits
limits_of entry = do
  formats ← required_at formats_of (codes "formats") entry
  rate_min ← required_at number_of (codes "rate_min") entry
  rate_max ← required_at number_of (codes "rate_max") entry
  channels_min ← required_at number_of (codes "channels_min") entry
  channels_max ← required_at number_of (codes "channels_max") entry
  Some (record { formats = formats; rate_min = rate_min; rate_max = rate_max; channels_min = channels_min; channels_max = channels_max })

unfoldable pub stated_pcm : Members → Option SourcePcm
stated_pcm entry = do
  known ← only pcm_keys entry
  name ← required_at filled_of (codes "name") entry
  id ← required_at number_of (codes "id") entry
  limits ← limits_of entry
  playback ← optional_at name_of (codes "playback") entry
  capture ← optional_at name_of (codes "capture") entry
  Some (record { name = name; id = id; limits = limits; playback = playback; capture = capture })
