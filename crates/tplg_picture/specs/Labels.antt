-- What a picture's labels say, in units: bytes, Hz, ms, µs and dB.
use Rattle.std.specs.Prelude.{ℕ, suc, ◌/◌, ◌%◌, ℤ, pos, negsuc, ◌==◌, ◌&&◌, not, if◌then◌else◌, List, [], ◌∷◌, ◌++◌, length, find, codes, decimal, Option, Some, None}
use Rattle.std.specs.List.{flat_map}
use Rattle.std.specs.Option.{option_map_or}
use Rattle.stream_law.specs.declared.graph.Comp.{Comp}
use Rattle.stream_law.specs.declared.graph.Kind.{Kind}
use Rattle.stream_law.specs.declared.graph.Kind.TheVariants.{HostPlay, HostCapture, DaiPlay, DaiCapture, Volume, Mixer, Mux, Eq, Demux}
use Rattle.stream_law.specs.Gain.{half_decibels}
use Rattle.tplg_model.specs.declared.pcm.Caps.{Caps}
use Rattle.tplg_plan.specs.declared.plans.Plan.{Plan}
use Rattle.tplg_plan.specs.declared.plans.ControlPlan.{ControlPlan}
use Rattle.tplg_plan.specs.declared.plans.StreamPlan.{StreamPlan}
use Rattle.tplg_plan.specs.declared.plans.ControlKind.{ControlKind}
use Rattle.tplg_plan.specs.declared.plans.ControlKind.TheVariants as control
use Rattle.tplg_plan.specs.Printable.{is_printable}
use Rattle.host_widgets.specs.Controls.{control_of}
use Rattle.sof_script.specs.KindWords.{name_of, kind_words}
use Rattle.tplg_picture.specs.declared.shown.Shown.{Shown}
use Rattle.tplg_picture.specs.declared.shown.ShownPcm.{ShownPcm}
use Rattle.tplg_picture.specs.ShownNames.{live_name_at, shown_pcm_with}

-- ---- names

-- a byte that no other rule of labels is about: itself where it can be printed, and else a question mark
abbrev pub plain_byte : ℕ → List ℕ
plain_byte byte = if is_printable byte then byte ∷ [] else codes "?"

-- What a label says for a byte of a name: a quote would end the label, a backslash would begin an escape, and an ampersand an
-- entity of HTML.
abbrev pub escaped_byte : ℕ → List ℕ
escaped_byte byte = if byte == 34 then codes "\\\"" else if byte == 92 then codes "\\\\" else if byte == 38 then codes "&amp;" else plain_byte byte

abbrev pub escaped : List ℕ → List ℕ
escaped name = flat_map escaped_byte name

-- the name of the widget of an id
abbrev pub escaped_name : Plan → ℕ → List ℕ
escaped_name plan id = escaped (name_of plan id)

-- ---- numbers

-- a least and a greatest number, which may be one
unfoldable pub span_words : ℕ → ℕ → List ℕ
span_words least greatest = if least == greatest then decimal least else decimal least ++ codes " to " ++ decimal greatest

-- so many half decibels, without a sign
unfoldable pub half_words : ℕ → List ℕ
half_words halves = decimal (halves / 2) ++ (if halves % 2 == 1 then codes ".5" else [])

unfoldable pub decibel_words : ℤ → List ℕ
decibel_words (pos halves) = half_words halves
decibel_words (negsuc halves) = codes "-" ++ half_words (suc halves)

-- the gain of a value, by the hundredths of a decibel of value 0 and of each step
unfoldable pub gain_words : ℤ → ℕ → ℕ → List ℕ
gain_words lowest step value = decibel_words (half_decibels lowest step value)

-- the gains of a least and of a greatest value
unfoldable pub gain_span : ℤ → ℕ → ℕ → ℕ → List ℕ
gain_span lowest step least greatest = gain_words lowest step least ++ codes " to " ++ gain_words lowest step greatest ++ codes " dB"

-- ---- lines of a component's label, each after the `\n` that begins it

-- the PCM of a host's stream: its id and its name
unfoldable pub pcm_label : Option ShownPcm → List ℕ
pcm_label None = []
pcm_label (Some p) = codes "\\nPCM " ++ decimal p.id ++ codes " " ++ escaped p.name

-- its rates in Hz and its channels
unfoldable pub rate_label : Caps → List ℕ
rate_label caps = codes "\\n" ++ span_words caps.rate_min caps.rate_max ++ codes " Hz, channels " ++ span_words caps.channels_min caps.channels_max

-- a host's stream
unfoldable pub stream_label : Shown → Option StreamPlan → List ℕ
stream_label shown None = []
stream_label shown (Some s) = pcm_label (shown_pcm_with shown.pcms s.capture s.caps.name) ++ rate_label s.caps

-- a ramp in ms, where there is one
unfoldable pub ramp_label : ℕ → List ℕ
ramp_label ramp = if ramp == 0 then [] else codes "\\nramp " ++ decimal ramp ++ codes " ms"

-- a control's name, where it has one
unfoldable pub title_label : List ℕ → List ℕ
title_label name = if length name == 0 then [] else codes "\\ncontrol " ++ escaped name

-- silence, and the gains of the values from 1 on, where there are such
unfoldable pub muted_label : ℕ → ℤ → ℕ → List ℕ
muted_label max lowest step = codes "\\nmute" ++ (if max == 0 then [] else codes ", " ++ gain_span lowest step 1 max)

-- the gains of a volume's values; value 0 is silent where mute is not 0
unfoldable pub gain_label : ℕ → ℕ → ℤ → ℕ → ℕ → List ℕ
gain_label min max lowest step mute =
    if min == 0 && not (mute == 0) then muted_label max lowest step
    else codes "\\n" ++ gain_span lowest step min max

-- what a live control takes: a volume's values, channels and gains, the number of a mux's choices, the greatest size of an equaliser's
-- blob, or a demux's masks and the number of its first outputs that have one
abbrev pub range_label : ControlKind → List ℕ
range_label (control.Volume min max channels tlv_min tlv_step tlv_mute) = codes "\\nvalues " ++ span_words min max ++ codes ", channels " ++ decimal channels ++ gain_label min max tlv_min tlv_step tlv_mute
range_label (control.Choice items) = codes "\\nchoices " ++ decimal items
range_label (control.Blob most initial) = codes "\\nblob up to " ++ decimal most ++ codes " bytes"
range_label (control.Masks min max channels) = codes "\\nmasks " ++ span_words min max ++ codes ", outputs " ++ decimal channels

-- a live control, where there is one: its name, and what it takes
unfoldable pub control_label : Shown → Option ControlPlan → List ℕ
control_label shown None = []
control_label shown (Some k) = title_label (live_name_at shown k.comp) ++ range_label k.kind

-- a component: its name, its kind, and lines of its stream, its ramp and its live control
unfoldable pub comp_label : Plan → Shown → Comp → List ℕ
comp_label plan shown c =
    escaped_name plan c.id ++ codes "\\n" ++ kind_words c.kind ++ stream_label shown (find (λ s. s.host == c.id) plan.streams)
    ++ ramp_label c.ramp ++ control_label shown (control_of plan c.id)

-- ---- colours

-- each kind has one, light enough for black text
abbrev pub fill_of : Kind → List ℕ
fill_of HostPlay = codes "#8dd3c7"
fill_of HostCapture = codes "#80b1d3"
fill_of (DaiPlay format) = codes "#fdb462"
fill_of (DaiCapture format) = codes "#fb8072"
fill_of Volume = codes "#b3de69"
fill_of Mixer = codes "#ffffb3"
fill_of Mux = codes "#fccde5"
fill_of Eq = codes "#bebada"
fill_of Demux = codes "#d9d9d9"
