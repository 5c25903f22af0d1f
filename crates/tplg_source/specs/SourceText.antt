-- The text of a source, in TOML: a table for each widget, for each route and for each PCM, with a line for each key.
use Rattle.std.specs.Prelude.{ℕ, ◌==◌, nat_lt, bit_and, if◌then◌else◌, List, [], ◌∷◌, ◌++◌, length, codes, decimal, Option, Some, None}
use Rattle.std.specs.Fmt.{signed_decimal}
use Rattle.std.specs.List.{flat_map}
use Rattle.hex.specs.Hex.{encode_lower}
use Rattle.sof_base.specs.Slots.{until_zero}
use Rattle.tplg_model.specs.declared.tokens.NumberTuple.{NumberTuple}
use Rattle.tplg_model.specs.declared.tokens.TextTuple.{TextTuple}
use Rattle.tplg_build.specs.declared.source.WidgetKind.{WidgetKind}
use Rattle.tplg_build.specs.declared.source.WidgetKind.TheVariants.{Input, Output, Mux, Mixer, Pga, AifIn, AifOut, DaiIn, DaiOut, Buffer, Scheduler, Effect}
use Rattle.tplg_build.specs.declared.source.SourceControl.{SourceControl}
use Rattle.tplg_build.specs.declared.source.SourceControl.TheVariants.{Volume, Choice, Blob}
use Rattle.tplg_build.specs.declared.source.SourceWidget.{SourceWidget}
use Rattle.tplg_build.specs.declared.source.SourceRoute.{SourceRoute}
use Rattle.tplg_build.specs.declared.source.PcmLimits.{PcmLimits}
use Rattle.tplg_build.specs.declared.source.SourcePcm.{SourcePcm}
use Rattle.tplg_build.specs.declared.source.TopologySource.{TopologySource}
use Rattle.tplg_compile.specs.KeyTables.{Keyed, number_tokens, text_tokens}

-- ---- values

-- a byte of a text between quotes: a quote and a backslash have a backslash before them, and what TOML lets no text hold is
-- written by its number, in hex
abbrev pub quoted_byte : ℕ → List ℕ
quoted_byte byte =
    if byte == 34 then codes "\\\""
    else if byte == 92 then codes "\\\\"
    else if nat_lt byte 32 then codes "\\u00" ++ encode_lower (byte ∷ [])
    else if byte == 127 then codes "\\u007f"
    else byte ∷ []

unfoldable pub quoted : List ℕ → List ℕ
quoted text = codes "\"" ++ (flat_map quoted_byte text ++ codes "\"")

-- texts in brackets, each after the first after a comma
unfoldable pub after_comma : List ℕ → List ℕ
after_comma text = codes ", " ++ quoted text

unfoldable pub text_list : List (List ℕ) → List ℕ
text_list [] = codes "[]"
text_list (t ∷ ts) = codes "[" ++ (quoted t ++ (flat_map after_comma ts ++ codes "]"))

-- bytes in hex, between quotes
unfoldable pub hex_text : List ℕ → List ℕ
hex_text bytes = codes "\"" ++ (encode_lower bytes ++ codes "\"")

-- ---- lines

-- a key with its value
unfoldable pub key_line : List ℕ → List ℕ → List ℕ
key_line key value = key ++ (codes " = " ++ (value ++ codes "\n"))

-- a text that is written only where it is not empty, and one that may be absent
unfoldable pub filled_line : List ℕ → List ℕ → List ℕ
filled_line key text = if length text == 0 then [] else key_line key (quoted text)

unfoldable pub optional_line : List ℕ → Option (List ℕ) → List ℕ
optional_line key None = []
optional_line key (Some text) = key_line key (quoted text)

-- ---- widgets

abbrev pub kind_word : WidgetKind → List ℕ
kind_word Input = codes "input"
kind_word Output = codes "output"
kind_word Mux = codes "mux"
kind_word Mixer = codes "mixer"
kind_word Pga = codes "pga"
kind_word AifIn = codes "aif_in"
kind_word AifOut = codes "aif_out"
kind_word DaiIn = codes "dai_in"
kind_word DaiOut = codes "dai_out"
kind_word Buffer = codes "buffer"
kind_word Scheduler = codes "scheduler"
kind_word Effect = codes "effect"

-- the key of a token, of these
abbrev pub key_in : List Keyed → ℕ → List ℕ
key_in [] token = []
key_in (k ∷ ks) token = if k.1 == token then k.0 else key_in ks token

unfoldable pub number_line : NumberTuple → List ℕ
number_line t = key_line (key_in number_tokens t.token) (decimal t.value)

unfoldable pub text_line : TextTuple → List ℕ
text_line t = key_line (key_in text_tokens t.token) (quoted (until_zero t.bytes))

-- the keys of a control
abbrev pub control_keys : SourceControl → List ℕ
control_keys (Volume name channels min max tlv_min tlv_step tlv_mute) =
    key_line (codes "name") (quoted name) ++ (key_line (codes "channels") (decimal channels) ++ (key_line (codes "min") (signed_decimal min)
    ++ (key_line (codes "max") (signed_decimal max) ++ (key_line (codes "tlv_min") (signed_decimal tlv_min) ++ (key_line (codes "tlv_step") (decimal tlv_step)
    ++ key_line (codes "tlv_mute") (decimal tlv_mute))))))
control_keys (Choice name items) = key_line (codes "name") (quoted name) ++ key_line (codes "items") (text_list items)
control_keys (Blob name max blob) = key_line (codes "name") (quoted name) ++ (key_line (codes "max") (decimal max) ++ key_line (codes "blob") (hex_text blob))

-- a control is a table of its widget
unfoldable pub control_text : SourceControl → List ℕ
control_text c = codes "[widget.control]\n" ++ control_keys c

-- the keys that each widget has, and its stream's name
unfoldable pub widget_head : SourceWidget → List ℕ
widget_head w =
    key_line (codes "kind") (quoted (kind_word w.kind)) ++ (key_line (codes "name") (quoted w.name) ++ (key_line (codes "index") (decimal w.index)
    ++ filled_line (codes "sname") w.sname))

unfoldable pub widget_text : SourceWidget → List ℕ
widget_text w =
    codes "[[widget]]\n" ++ (widget_head w ++ (flat_map number_line w.numbers ++ (flat_map text_line w.texts ++ flat_map control_text w.controls)))

-- ---- routes and PCMs

unfoldable pub route_text : SourceRoute → List ℕ
route_text r = codes "[[route]]\n" ++ (key_line (codes "sink") (quoted r.sink) ++ key_line (codes "source") (quoted r.source))

-- the words of formats, by their bits
abbrev pub format_word : ℕ → ℕ → List ℕ → List (List ℕ)
format_word formats bit word = if bit_and formats bit == 0 then [] else word ∷ []

unfoldable pub format_list : ℕ → List (List ℕ)
format_list formats = format_word formats 4 (codes "s16le") ++ (format_word formats 64 (codes "s24le") ++ format_word formats 1024 (codes "s32le"))

unfoldable pub limits_text : PcmLimits → List ℕ
limits_text l =
    key_line (codes "formats") (text_list (format_list l.formats)) ++ (key_line (codes "rate_min") (decimal l.rate_min) ++ (key_line (codes "rate_max") (decimal l.rate_max)
    ++ (key_line (codes "channels_min") (decimal l.channels_min) ++ key_line (codes "channels_max") (decimal l.channels_max))))

unfoldable pub pcm_text : SourcePcm → List ℕ
pcm_text p =
    codes "[[pcm]]\n" ++ (key_line (codes "name") (quoted p.name) ++ (key_line (codes "id") (decimal p.id) ++ (optional_line (codes "playback") p.playback
    ++ (optional_line (codes "capture") p.capture ++ limits_text p.limits))))

-- ---- all

abbrev pub source_text : TopologySource → List ℕ
source_text s = flat_map widget_text s.widgets ++ (flat_map route_text s.routes ++ flat_map pcm_text s.pcms)
