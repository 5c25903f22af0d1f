-- The file of a trace holds the records, and no bytes of an output: no output has its slot.
use Rattle.std.proofs.Common.{◌≡◌, refl, sym, ap, ◌∙◌, subst, ℕ, suc, ◌<◌, ◌≤◌, Bool, true, false, ◌||◌, eqb, if◌then◌else◌, List, [], ◌∷◌, ◌++◌, map, length, Option, Some, None, inl, inr, arith}
use Rattle.std.proofs.lemmas.Bool.{cases_Bool, or_parts, eq-eqb, ne_eqb}
use Rattle.std.proofs.lemmas.Grind.{flat_map-append}
use Rattle.std.proofs.lemmas.List.{append-nil, length-map}
use Rattle.std.proofs.lemmas.Option.{slice_get_within}
use Rattle.std.specs.List.{AllByRecursion, slice_get}
use Rattle.std.specs.Option.{option_map_or}
use Rattle.std.specs.Str.{bytes_eq}
use Rattle.sof_base.specs.Ports.{OutputView}
use Rattle.sof_io.specs.Bound.{has_slot, output_slots, with_slot}
use Rattle.sof_io.proofs.OutputLaws.{has_slot-with_slot}
use Rattle.stream_law.specs.Past.{Past}
use Rattle.mbox_link.specs.Meetings.{Doing}
use Rattle.sof_desk.specs.Desk.{DeskPlace, Slot, with_more, with_nothing}
use Rattle.tplg_model.specs.declared.block.Topology.{Topology}
use Rattle.tplg_widgets.specs.declared.entry.Entry.{Entry as Widget}
use Rattle.tplg_widgets.specs.Entries.{entries_of, is_interpreted, interpreted}
use Rattle.tplg_widgets.proofs.FileCounts.{few-widgets}
use Rattle.tplg_plan.specs.declared.plans.Plan.{Plan}
use Rattle.tplg_graph.specs.PlanOf.{plan_of}
use Rattle.ipc3_trace.specs.declared.entry.Entry.{Entry}
use Rattle.ipc3_trace.specs.Records.{record_bytes, records_bytes}
use Rattle.sof_script.specs.declared.script.Command.{Command}
use Rattle.sof_script.specs.Commands.{Bound}
use Rattle.host_widgets.specs.declared.kept.Record.{Record}
use Rattle.sof_script.specs.Tasks.{Written, Out}
use Rattle.sof_session.specs.Written.{Ground, At, Leg, IsRun, basis_of, with_bytes, bytes_between, written_between}
use Rattle.run_desk.specs.TopologyBytes.{IsFile}
use Rattle.run_desk.specs.Bindings.{bound_outputs, bound_slots, wrong_behind, wrong_binding}
use Rattle.run_desk.specs.BindingParts.{has_widget_name, has_endpoint, slot_of}
use Rattle.run_play.specs.LineParts.{slot_pieces, line_pieces}
use Rattle.run_play.specs.Rounds.{Round}
use Rattle.run_play.specs.Pieces.{lines_after, pieces_of, bytes_of_pieces}
use Rattle.run_play.specs.Keeping.{trace_slot, fronted, recorded_outs}
use Rattle.run_play.proofs.MetRuns.{all_records}
use Rattle.sof_run.proofs.OnePlay.{all_pieces}
use Rattle.run_play.proofs.Slots.{named_slot, right_first}
use Rattle.run_play.proofs.WrittenPieces.{bytes-append}

-- ---- no output has the slot

named_below : (plan : Plan) (name : List ℕ) (id : ℕ) → has_widget_name plan name id ≡ true → id < length plan.names
named_below plan name id is = by (slice_get plan.names id) refl is
  where
    by : (o : Option (List ℕ)) → slice_get plan.names id ≡ o → option_map_or (λ other. bytes_eq name other) o false ≡ true → id < length plan.names
    by None at is = absurd (cc is)
    by (Some other) at is = slice_get_within plan.names id other at

-- the slot of an endpoint is the place of its widget
slot-below : (plan : Plan) (input : Bool) (name : List ℕ) → has_endpoint plan input name ≡ true → slot_of plan input name < length plan.names
slot-below plan input name there = named_below plan name (slot_of plan input name) (named_slot plan input name there)

or_none : (x y : Bool) → x ≡ false → y ≡ false → (x || y) ≡ false
or_none true y is other = is
or_none false y is other = other

module _ (plan : Plan) (n : ℕ) (few : length plan.names ≤ n) where
  abbrev Misses : List Bound → Type 0
  Misses bs = (bound : List Bound) (outputs : List OutputView) → wrong_behind plan bound bs ≡ None → has_slot n (output_slots outputs) ≡ false → has_slot n (output_slots (bound_outputs plan outputs bs)) ≡ false

  one_more : (bound : List Bound) (b : Bound) (bs : List Bound) (outputs : List OutputView) → Misses bs → wrong_behind plan bound (b ∷ bs) ≡ None → has_slot n (output_slots outputs) ≡ false → (input : Bool) → b.input ≡ input →
      has_slot n (output_slots (bound_outputs plan (if input then outputs else with_slot (slot_of plan input b.endpoint) outputs) bs)) ≡ false
  one_more bound b bs outputs others right none true is = others (bound ++ b ∷ []) outputs (right_first plan bound b bs right).2 none
  one_more bound b bs outputs others right none false is =
      let first = right_first plan bound b bs right in
      let there : has_endpoint plan false b.endpoint ≡ true = subst (λ i. has_endpoint plan i b.endpoint ≡ true) is first.0 in
      let slot = slot_of plan false b.endpoint in
      let below : slot < length plan.names = slot-below plan false b.endpoint there in
      others (bound ++ b ∷ []) (with_slot slot outputs) first.2
      (has_slot-with_slot n slot outputs ∙ or_none (eqb slot n) (has_slot n (output_slots outputs)) (ne_eqb slot n (λ same. past below same)) none)
    where
      past : {slot : ℕ} → slot < length plan.names → slot ≡ n → ⊥
      past below same = omega (arith, below, few, same)

  misses : (bs : List Bound) → Misses bs
  misses [] bound outputs right none = none
  misses (b ∷ bs) bound outputs right none = one_more bound b bs outputs (misses bs) right none b.input refl

few-interpreted : (es : List Widget) → length (interpreted es) ≤ length es
few-interpreted [] = omega arith
few-interpreted (e ∷ es) =
    elim (cases_Bool (is_interpreted e)) [
      | inl is ↦ rw is (omega (arith, few-interpreted es))
      | inr not ↦ rw not (omega (arith, few-interpreted es))
    ]

pub trace-apart : (bytes : List ℕ) (t : Topology) (bs : List Bound) → IsFile bytes t → length bytes ≤ 1048576 → wrong_binding (plan_of t) bs ≡ None → has_slot trace_slot (bound_slots (plan_of t) bs) ≡ false
trace-apart bytes t bs file short right =
    let few = few-widgets bytes t file.1 (omega (arith, short)) in
    let names : length (plan_of t).names ≡ length (interpreted (entries_of t)) = length-map (interpreted (entries_of t)) (λ e. e.name) in
    misses (plan_of t) trace_slot (omega (arith, names, few-interpreted (entries_of t), few)) bs [] [] right refl

-- ---- what is written to it

module _ (n : ℕ) where
  abbrev place : DeskPlace
  place = Slot n

  lines_none : (lines : List (List ℕ)) → bytes_of_pieces place (line_pieces lines) ≡ []
  lines_none [] = refl
  lines_none (line ∷ lines) = lines_none lines

  others_none : (slots : List ℕ) (old new : Past) → has_slot n slots ≡ false → bytes_of_pieces place (slot_pieces (written_between slots old new)) ≡ []
  others_none [] old new none = refl
  others_none (slot ∷ slots) old new none =
      let parts = or_parts (eqb slot n) (has_slot n slots) none in
      by (bytes_between old new slot) parts.0 (others_none slots old new parts.1)
    where
      by : (bytes : List ℕ) → eqb slot n ≡ false → bytes_of_pieces place (slot_pieces (written_between slots old new)) ≡ [] → bytes_of_pieces place (slot_pieces (with_bytes slot bytes (written_between slots old new))) ≡ []
      by [] other rest = rest
      by (byte ∷ bytes) other rest = rw other rest

  front_first : (bytes : List ℕ) (written : List Written) → bytes_of_pieces place (slot_pieces (with_bytes n bytes written)) ≡ bytes ++ bytes_of_pieces place (slot_pieces written)
  front_first [] written = refl
  front_first (byte ∷ bytes) written = rw (eq-eqb n n refl) refl

  -- of an output's bytes
  abbrev IsOther : List ℕ → Out → Type 0
  IsOther slots out = (old : Past) × (new : Past) × (out.written ≡ written_between slots old new)

  -- of a unit with bytes in front
  unit_bytes : (slots : List ℕ) (round : Round) (bytes : List ℕ) (out fronts : Out) → has_slot n slots ≡ false → IsOther slots out → fronts.written ≡ with_bytes n bytes out.written → bytes_of_pieces place (pieces_of round fronts) ≡ bytes
  unit_bytes slots round bytes out fronts none is front =
      bytes-append place (slot_pieces fronts.written) (line_pieces (lines_after round fronts))
      ∙ (λ i. bytes_of_pieces place (slot_pieces (front i)) ++ lines_none (lines_after round fronts) i)
      ∙ append-nil (bytes_of_pieces place (slot_pieces (with_bytes n bytes out.written)))
      ∙ front_first bytes out.written
      ∙ (λ i. bytes ++ (ap (λ (w : List Written). bytes_of_pieces place (slot_pieces w)) is.2 ∙ others_none slots is.0 is.1 none) i)
      ∙ append-nil bytes

-- the outs of a run are bytes of outputs
outs-other : (n : ℕ) (g : Ground) (doing : Doing) (commands : List Command) (at : At Record) (legs : List (Leg Record)) → IsRun (basis_of g) doing commands at legs → AllByRecursion (IsOther n g.slots) (map (λ (leg : Leg Record). leg.out) legs)
outs-other n g doing [] at legs run = subst (λ (ls : List (Leg Record)). AllByRecursion (IsOther n g.slots) (map (λ (leg : Leg Record). leg.out) ls)) (sym run) tt
outs-other n g doing (command ∷ commands) at [] run = absurd run
outs-other n g doing (command ∷ commands) at (leg ∷ legs) run =
    ((at.past, leg.at.past, ap (λ (out : Out). out.written) run.0.out_is), outs-other n g doing commands leg.at legs run.1)

none_some : (n : ℕ) → 0 ≡ suc n → ⊥
none_some n e = omega (arith, e)

some_none : (n : ℕ) → suc n ≡ 0 → ⊥
some_none n e = omega (arith, e)

-- of all units
all-bytes : (slots : List ℕ) (rounds : List Round) (records : List (List Entry)) (outs : List Out) → has_slot trace_slot slots ≡ false → AllByRecursion (IsOther trace_slot slots) outs → length outs ≡ length rounds → length records ≡ length outs →
    bytes_of_pieces (Slot trace_slot) (all_pieces rounds (recorded_outs records outs)) ≡ records_bytes (all_records records)
all-bytes slots [] [] [] none are as_many each = refl
all-bytes slots [] records (out ∷ outs) none are as_many each = absurd (some_none (length outs) as_many)
all-bytes slots [] (es ∷ records) [] none are as_many each = absurd (some_none (length records) each)
all-bytes slots (round ∷ rounds) records [] none are as_many each = absurd (none_some (length rounds) as_many)
all-bytes slots (round ∷ rounds) [] (out ∷ outs) none are as_many each = absurd (none_some (length outs) each)
all-bytes slots (round ∷ rounds) (es ∷ records) (out ∷ outs) none are as_many each =
    bytes-append (Slot trace_slot) (pieces_of round (fronted (records_bytes es) out)) (all_pieces rounds (recorded_outs records outs))
    ∙ (λ i. unit_bytes trace_slot slots round (records_bytes es) out (fronted (records_bytes es) out) none are.0 refl i
    ++ all-bytes slots rounds records outs none are.1 (omega (arith, as_many)) (omega (arith, each)) i)
    ∙ sym (flat_map-append record_bytes es (all_records records))

-- what is stated to be there
told_bytes : (o : Option (List ℕ)) (bytes all : List ℕ) → with_more (with_nothing o) bytes ≡ Some all → all ≡ bytes
told_bytes None bytes all is = absurd (cc is)
told_bytes (Some was) bytes all is = cc is

-- a created file holds what was put to it
pub file-bytes : (n : ℕ) (slots : List ℕ) (o w : Option (List ℕ)) (bytes all : List ℕ) → w ≡ with_more (if has_slot n (n ∷ slots) then with_nothing o else o) bytes → w ≡ Some all → all ≡ bytes
file-bytes n slots o w bytes all wrote told =
    let made : w ≡ with_more (with_nothing o) bytes = wrote ∙ (rw (eq-eqb n n refl) refl) in
    told_bytes o bytes all (sym made ∙ told)

pub trace-bytes : (g : Ground) (doing : Doing) (commands : List Command) (at : At Record) (legs : List (Leg Record)) (rounds : List Round) (records : List (List Entry)) → IsRun (basis_of g) doing commands at legs → has_slot trace_slot g.slots ≡ false →
    length (map (λ (leg : Leg Record). leg.out) legs) ≡ length rounds → length records ≡ length (map (λ (leg : Leg Record). leg.out) legs) →
    bytes_of_pieces (Slot trace_slot) (all_pieces rounds (recorded_outs records (map (λ (leg : Leg Record). leg.out) legs))) ≡ records_bytes (all_records records)
trace-bytes g doing commands at legs rounds records run none as_many each =
    all-bytes g.slots rounds records (map (λ (leg : Leg Record). leg.out) legs) none (outs-other trace_slot g doing commands at legs run) as_many each
