-- Names and kinds of components, as lines say them.
use Rattle.std.specs.Prelude.{ℕ, List, [], ◌++◌, get_or, codes, decimal, Option, Some, None}
use Rattle.sof_base.specs.declared.format.Format.{Format}
use Rattle.sof_base.specs.declared.format.Format.TheVariants.{S16, S24, S32}
use Rattle.stream_law.specs.declared.graph.Kind.{Kind}
use Rattle.stream_law.specs.declared.graph.Kind.TheVariants.{HostPlay, HostCapture, DaiPlay, DaiCapture, Volume, Mixer, Mux, Eq, Demux}
use Rattle.tplg_plan.specs.declared.plans.Plan.{Plan}

-- a format, as scripts write it
abbrev pub format_words : Format → List ℕ
format_words S16 = codes "s16"
format_words S24 = codes "s24"
format_words S32 = codes "s32"

-- a DAI's kind is followed by its format
abbrev pub kind_words : Kind → List ℕ
kind_words HostPlay = codes "host-play"
kind_words HostCapture = codes "host-capture"
kind_words (DaiPlay format) = codes "dai-play " ++ format_words format
kind_words (DaiCapture format) = codes "dai-capture " ++ format_words format
kind_words Volume = codes "volume"
kind_words Mixer = codes "mixer"
kind_words Mux = codes "mux"
kind_words Eq = codes "eq"
kind_words Demux = codes "demux"

-- the name of the widget of an id, and no bytes where there is none
abbrev pub name_of : Plan → ℕ → List ℕ
name_of plan id = get_or plan.names id []

-- the component at an end of an edge; an open end, which no plan has, is a dash
abbrev pub end_words : Option ℕ → List ℕ
end_words None = codes "-"
end_words (Some id) = decimal id
