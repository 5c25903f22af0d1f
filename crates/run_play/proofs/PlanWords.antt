-- The words that a topology's file gives to a plan fit in 32 bits, so the plan of a well-formed topology is a sound plan.
use Rattle.std.proofs.Common.{ℕ, ◌<◌, ◌≤◌, ◌^◌, List, [], ◌∷◌, ◌++◌, map, filter, Option, Some, None, unwrap_or, inl, inr, arith, eqb}
use Rattle.std.proofs.lemmas.Bool.{cases_Bool}
use Rattle.std.proofs.lemmas.List.Elements.{All-from_recursion}
use Rattle.std.specs.List.{All, AllByRecursion, flat_map}
use Rattle.sof_base.specs.declared.format.Format.{Format}
use Rattle.sof_base.specs.declared.format.Format.TheVariants.{S16}
use Rattle.sof_base.specs.Slots.{IsSlot, AreSlots}
use Rattle.tplg_model.specs.declared.tokens.TokenArray.{TokenArray}
use Rattle.tplg_model.specs.declared.tokens.TokenArray.TheVariants.{Uuid, Text, Number}
use Rattle.tplg_model.specs.declared.tokens.NumberTuple.{NumberTuple}
use Rattle.tplg_model.specs.declared.widget.Widget.{Widget}
use Rattle.tplg_model.specs.declared.block.Body.{Body}
use Rattle.tplg_model.specs.declared.block.Body.TheVariants.{Widgets}
use Rattle.tplg_model.specs.declared.block.Topology.{Topology}
use Rattle.tplg_model.specs.Arrays.{Each, IsNumber, AreArrays}
use Rattle.tplg_model.specs.Spelling.{IsWidget, AreRecords, BlockValue, IsBlock, header_slots}
use Rattle.tplg_model.specs.File.{IsTopology}
use Rattle.tplg_model.specs.TokenValues.{number_tuples, first_number, number_of}
use Rattle.tplg_widgets.specs.declared.entry.Entry.{Entry}
use Rattle.tplg_widgets.specs.Tokens.{stated_format}
use Rattle.tplg_plan.specs.WidgetWords.{format_number}
use Rattle.tplg_widgets.specs.Entries.{entry_of, widgets_in, entries_in, entries_of, is_interpreted, interpreted}
use Rattle.tplg_graph.specs.PlanLists.{widget_plan, widgets_on}
use Rattle.tplg_graph.specs.PlanOf.{plan_of}
use Rattle.tplg_plan.specs.Sound.{IsSound}
use Rattle.tplg_plan.specs.WidgetWords.{FitsWords}
use Rattle.tplg_rules.specs.WellFormed.{IsWellFormed}
use Rattle.tplg_graph.proofs.Soundness.{is-sound}

-- a number, where there is one, is a word
abbrev IsWord : Option ℕ → Type 0
IsWord None = Unit {0}
IsWord (Some n) = n < 2 ^ 32

word_or : (o : Option ℕ) → IsWord o → unwrap_or o 0 < 2 ^ 32
word_or None is = omega arith
word_or (Some n) is = is

-- ---- tokens

found_word : (items rest : List NumberTuple) (token : ℕ) → Each IsNumber items → IsWord (first_number rest token) → IsWord (first_number (items ++ rest) token)
unfolding Each
found_word [] rest token are is = is
found_word (item ∷ items) rest token are is =
    elim (cases_Bool (eqb item.token token)) [
      | inl same ↦ rw same are.0.1
      | inr other ↦ rw other (found_word items rest token are.1 is)
    ]

found_in : (arrays : List TokenArray) (token : ℕ) → AreArrays arrays → IsWord (first_number (flat_map number_tuples arrays) token)
unfolding Each
found_in [] token are = tt
found_in (Uuid items ∷ arrays) token are = found_in arrays token are.1
found_in (Text items ∷ arrays) token are = found_in arrays token are.1
found_in (Number numbers ∷ arrays) token are = found_word numbers.items (flat_map number_tuples arrays) token are.0.elements.2 (found_in arrays token are.1)

token_word : (arrays : List TokenArray) (token : ℕ) → AreArrays arrays → IsWord (number_of arrays token)
unfolding number_of
token_word arrays token are = found_in arrays token are

-- ---- widgets

format_fits : (format : Format) → format_number format ≤ 2
format_fits S16 = omega arith
format_fits format = omega arith

abbrev FitsEntry : Entry → Type 0
FitsEntry e = FitsWords (widget_plan e)

entry_fits : (index : ℕ) (w : Widget) → index < 2 ^ 32 → IsWidget w → FitsEntry (entry_of index w)
entry_fits index w fits is =
    let word = λ (token : ℕ). word_or (number_of w.tokens token) (token_word w.tokens token is.head.tokens) in
    record {
      pipe = fits;
      frame_fmt = format_fits (stated_format (entry_of index w).tokens.format);
      periods_sink = word 400;
      periods_source = word 401;
      dai_index = word 155;
      caps = word 101;
      priority = word 201;
      mips = word 202;
      frames = word 204;
      time_domain = word 205;
      ramp_type = word 250;
      ramp_ms = word 251;
    }

abbrev FitEntries : List Entry → Type 0
FitEntries es = AllByRecursion FitsEntry es

entries_fit : (index : ℕ) (ws : List Widget) → index < 2 ^ 32 → Each IsWidget ws → FitEntries (map (entry_of index) ws)
unfolding Each
entries_fit index [] fits are = tt
entries_fit index (w ∷ ws) fits are = (entry_fits index w fits are.0, entries_fit index ws fits are.1)

both_fit : (a b : List Entry) → FitEntries a → FitEntries b → FitEntries (a ++ b)
both_fit [] b first second = second
both_fit (e ∷ a) b first second = (first.0, both_fit a b first.1 second)

body_fits : (index : ℕ) (body : Body) → index < 2 ^ 32 → AreRecords body → FitEntries (map (entry_of index) (widgets_in body))
body_fits index (Widgets ws) fits is = entries_fit index ws fits is
body_fits index body fits is = tt

index_fits : (b : BlockValue) → AreSlots (header_slots b) → b.index < 2 ^ 32
unfolding AreSlots IsSlot
index_fits b are = are.1.1.1.1.1.1.1.0

all_fit : (blocks : List BlockValue) → Each IsBlock blocks → FitEntries (flat_map entries_in blocks)
unfolding Each
all_fit [] are = tt
all_fit (b ∷ blocks) are =
    both_fit (entries_in b) (flat_map entries_in blocks) (body_fits b.index b.body (index_fits b are.0.header) are.0.body) (all_fit blocks are.1)

kept_fit : (es : List Entry) → FitEntries es → FitEntries (filter is_interpreted es)
kept_fit [] fit = tt
kept_fit (e ∷ es) fit =
    elim (cases_Bool (is_interpreted e)) [
      | inl kept ↦ rw kept (fit.0, kept_fit es fit.1)
      | inr left ↦ rw left (kept_fit es fit.1)
    ]

plans_fit : (es : List Entry) → FitEntries es → AllByRecursion FitsWords (widgets_on es)
plans_fit [] fit = tt
plans_fit (e ∷ es) fit = (fit.0, plans_fit es fit.1)

words_fit : (t : Topology) → IsTopology t → All FitsWords (plan_of t).widgets
words_fit t is = All-from_recursion FitsWords (plan_of t).widgets (plans_fit (interpreted (entries_of t)) (kept_fit (entries_of t) (all_fit t.blocks is)))

-- the plan of a well-formed topology that is a file's is a sound plan
pub sound_plan : (t : Topology) → IsTopology t → IsWellFormed t → IsSound (plan_of t)
sound_plan t is whole = is-sound t whole (words_fit t is)
