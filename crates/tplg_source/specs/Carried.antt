-- What a source can carry of a topology. What has no key in a source is left out: other tokens, other kinds of widgets, other
-- controls, other words, other formats, and names that are no UTF-8.
use Rattle.std.specs.Prelude.{ℕ, ◌*◌, ◌&&◌, ◌||◌, not, ◌==◌, Bool, if◌then◌else◌, List, [], ◌∷◌, length, map, take, drop, codes, Option, Some, None, min, max}
use Rattle.std.specs.Option.{option_map, option_and_then, option_to_list}
use Rattle.std.specs.Int.{w32, cast_signed}
use Rattle.std.specs.List.{flat_map, filter_map, range_with_len, list_any}
use Rattle.std.specs.Str.{bytes_eq, is_utf8}
use Rattle.sof_base.specs.Slots.{is_name, until_zero}
use Rattle.tplg_model.specs.TokenValues.{number_of, text_of}
use Rattle.tplg_model.specs.declared.widget_kind.TheConstants as number
use Rattle.tplg_model.specs.declared.tokens.NumberTuple.{NumberTuple}
use Rattle.tplg_model.specs.declared.tokens.TextTuple.{TextTuple}
use Rattle.tplg_model.specs.declared.tokens.TokenArray.{TokenArray}
use Rattle.tplg_model.specs.declared.control.Control.{Control}
use Rattle.tplg_model.specs.declared.control.Control.TheVariants.{Mixer, Enum, Bytes}
use Rattle.tplg_model.specs.declared.widget.Widget.{Widget}
use Rattle.tplg_model.specs.declared.pcm.Caps.{Caps}
use Rattle.tplg_model.specs.declared.pcm.Pcm.{Pcm}
use Rattle.tplg_model.specs.declared.block.Block.{Block}
use Rattle.tplg_model.specs.declared.block.Route.{Route}
use Rattle.tplg_model.specs.declared.block.Topology.{Topology}
use Rattle.tplg_build.specs.declared.source.WidgetKind.{WidgetKind}
use Rattle.tplg_build.specs.declared.source.WidgetKind.TheVariants as kind
use Rattle.tplg_build.specs.declared.source.SourceControl.{SourceControl}
use Rattle.tplg_build.specs.declared.source.SourceControl.TheVariants.{Volume, Choice, Blob}
use Rattle.tplg_build.specs.declared.source.SourceWidget.{SourceWidget}
use Rattle.tplg_build.specs.declared.source.SourceRoute.{SourceRoute}
use Rattle.tplg_build.specs.declared.source.PcmLimits.{PcmLimits}
use Rattle.tplg_build.specs.declared.source.SourcePcm.{SourcePcm}
use Rattle.tplg_build.specs.declared.source.TopologySource.{TopologySource}
use Rattle.tplg_build.specs.WidgetForm.{text_tuple}
use Rattle.tplg_build.specs.PcmForm.{no_limits}
use Rattle.tplg_widgets.specs.declared.entry.Role.{Role}
use Rattle.tplg_widgets.specs.Tokens.{widget_tokens}
use Rattle.tplg_widgets.specs.Entries.{role_of, is_demux_role, widgets_in, routes_in}
use Rattle.tplg_widgets.specs.LiveControls.{live_of, scale_word}
use Rattle.tplg_widgets.specs.PcmList.{pcms_in}
use Rattle.tplg_same.specs.CapsLimits.{limits_in, same_limits}
use Rattle.tplg_compile.specs.KeyTables.{Keyed, number_tokens, text_tokens}

-- ---- names

-- a name of a topology that is UTF-8; the empty one for any other
abbrev pub carried_name : List ℕ → List ℕ
carried_name name = if is_utf8 name then name else []

-- a name that must not be empty, or else this one
abbrev pub name_or : List ℕ → List ℕ → List ℕ
name_or other name = if length (carried_name name) == 0 then other else name

-- ---- tokens

-- the number of a token that has a key, where the widget has one: its first in an array of numbers
abbrev pub carried_number : List TokenArray → Keyed → Option NumberTuple
carried_number arrays k = option_map (λ n. record { token = k.1; value = n }) (number_of arrays k.1)

-- the text of one, where it is a name and UTF-8
abbrev pub text_kept : ℕ → List ℕ → Option TextTuple
text_kept token text = if is_name text && is_utf8 text then Some (text_tuple token text) else None

abbrev pub carried_text : List TokenArray → Keyed → Option TextTuple
carried_text arrays k = option_and_then (text_kept k.1) (text_of arrays k.1)

-- ---- controls

-- the live control of a widget of this role, where a source has keys for it: a demux's masks have none
abbrev pub keyed_control : Option Role → List Control → Option Control
keyed_control role controls = if is_demux_role role then None else live_of role controls

-- one of an enum's 16 texts, each in a field of 44 bytes: empty where it is no name or no UTF-8
abbrev pub choice_kept : List ℕ → List ℕ
choice_kept text = if is_name text && is_utf8 text then text else []

unfoldable pub choice_at : List ℕ → ℕ → List ℕ
choice_at texts k = choice_kept (until_zero (take 44 (drop (44 * k) texts)))

-- as many of them as the control has, from 1 to 16
abbrev pub carried_choices : ℕ → List ℕ → List (List ℕ)
carried_choices items texts = map (choice_at texts) (range_with_len 0 (max 1 (min 16 items)))

-- a control under its own name, or under its widget's where that is empty or no UTF-8
abbrev pub carried_control : List ℕ → Control → SourceControl
carried_control widget (Mixer head min max platform_max invert num_channels channels private) =
    Volume (name_or widget head.name) num_channels min max (cast_signed w32 (scale_word head 0)) (scale_word head 1) (scale_word head 2)
carried_control widget (Enum head num_channels channels items mask count texts values private) = Choice (name_or widget head.name) (carried_choices items texts)
carried_control widget (Bytes head max mask base num_regs ext_ops private) = Blob (name_or widget head.name) max private

-- ---- widgets

-- the kind of a number, where a source has a word for it
abbrev pub kind_numbered : ℕ → Option WidgetKind
kind_numbered id =
    if id == number.INPUT then Some kind.Input
    else if id == number.OUTPUT then Some kind.Output
    else if id == number.MUX then Some kind.Mux
    else if id == number.MIXER then Some kind.Mixer
    else if id == number.PGA then Some kind.Pga
    else if id == number.AIF_IN then Some kind.AifIn
    else if id == number.AIF_OUT then Some kind.AifOut
    else if id == number.DAI_IN then Some kind.DaiIn
    else if id == number.DAI_OUT then Some kind.DaiOut
    else if id == number.BUFFER then Some kind.Buffer
    else if id == number.SCHEDULER then Some kind.Scheduler
    else if id == number.EFFECT then Some kind.Effect
    else None

abbrev pub widget_of_kind : ℕ → Widget → WidgetKind → SourceWidget
widget_of_kind index w kind = record {
  kind = kind;
  name = w.name;
  sname = carried_name w.sname;
  index = index;
  numbers = filter_map (carried_number w.tokens) number_tokens;
  texts = filter_map (carried_text w.tokens) text_tokens;
  controls = map (carried_control w.name) (option_to_list (keyed_control (role_of w.id (widget_tokens w.tokens).process) w.controls));
}

-- a widget in a block of this index, where its kind has a word, and its name is UTF-8 and not empty
unfoldable pub carried_widget : ℕ → Widget → Option SourceWidget
carried_widget index w = if length (carried_name w.name) == 0 then None else option_map (widget_of_kind index w) (kind_numbered w.id)

abbrev pub carried_widgets : Block → List SourceWidget
carried_widgets b = filter_map (carried_widget b.index) (widgets_in b.body)

-- ---- routes

abbrev pub is_carried : List SourceWidget → List ℕ → Bool
is_carried widgets name = list_any (λ w. bytes_eq w.name name) widgets

-- a route between two widgets that are carried
unfoldable pub carried_route : List SourceWidget → Route → Option SourceRoute
carried_route widgets r = if is_carried widgets r.sink && is_carried widgets r.source then Some (record { source = r.source; sink = r.sink }) else None

abbrev pub carried_routes : List SourceWidget → Block → List SourceRoute
carried_routes widgets b = filter_map (carried_route widgets) (routes_in b.body)

-- ---- PCMs

-- a direction that is there: its flag is set, or its caps have a name; the name is to be UTF-8
abbrev pub carried_side : ℕ → Caps → Option (List ℕ)
carried_side flag c = if (not (flag == 0) || not (length c.name == 0)) && is_utf8 c.name then Some c.name else None

abbrev pub carried_entry : Pcm → PcmLimits → Option (List ℕ) → Option (List ℕ) → SourcePcm
carried_entry p limits playback capture = record { name = name_or (codes "pcm") p.name; id = p.pcm_id; limits = limits; playback = playback; capture = capture }

-- one entry, or two where the directions have other limits
abbrev pub entries_of_sides : Pcm → Option (List ℕ) → Option (List ℕ) → List SourcePcm
entries_of_sides p None None = carried_entry p no_limits None None ∷ []
entries_of_sides p (Some play) None = carried_entry p (limits_in p.play) (Some play) None ∷ []
entries_of_sides p None (Some capture) = carried_entry p (limits_in p.cap) None (Some capture) ∷ []
entries_of_sides p (Some play) (Some capture) =
    if same_limits (limits_in p.play) (limits_in p.cap) then carried_entry p (limits_in p.play) (Some play) (Some capture) ∷ []
    else carried_entry p (limits_in p.play) (Some play) None ∷ carried_entry p (limits_in p.cap) None (Some capture) ∷ []

unfoldable pub pcm_entries : Pcm → List SourcePcm
pcm_entries p = entries_of_sides p (carried_side p.playback p.play) (carried_side p.capture p.cap)

abbrev pub carried_pcms : Block → List SourcePcm
carried_pcms b = flat_map pcm_entries (pcms_in b.body)

-- ---- all

abbrev pub source_with : List SourceWidget → Topology → TopologySource
source_with widgets t = record { widgets = widgets; routes = flat_map (carried_routes widgets) t.blocks; pcms = flat_map carried_pcms t.blocks }

-- the source of a topology: its widgets, routes and PCMs in file order
abbrev pub carried_source : Topology → TopologySource
carried_source t = source_with (flat_map carried_widgets t.blocks) t
