-- What the component at a place is.
use Rattle.std.proofs.Common.{◌≡◌, refl, sym, ap, ◌∙◌, ℕ, zero, suc, ◌/◌, ◌<◌, List, [], ◌∷◌, map, length, get_or, Bool, true, false, cond, ◌==◌, ◌||◌, Option, Some, None, option_map, arith}
use Rattle.std.proofs.lemmas.Bool.{false≢true}
use Rattle.std.specs.Prelude.{find, slice_index}
use Rattle.std.specs.Option.{option_map_or}
use Rattle.sof_base.specs.declared.format.Format.{Format}
use Rattle.sof_base.specs.declared.format.Format.TheVariants.{S32}
use Rattle.sof_base.specs.declared.format.Params.{Params}
use Rattle.stream_law.specs.declared.graph.Kind.{Kind}
use Rattle.stream_law.specs.declared.graph.Comp.{Comp}
use Rattle.stream_law.specs.declared.graph.Pipe.{Pipe}
use Rattle.stream_law.specs.declared.stream.Phase.{Phase}
use Rattle.stream_law.specs.declared.stream.StreamView.{StreamView}
use Rattle.stream_law.specs.State.{View}
use Rattle.stream_law.specs.Ways.{comp_of, pipe_of, components}
use Rattle.stream_law.specs.Moves.{skips_idle_inputs, chooses, period}
use Rattle.stream_law.specs.Endpoints.{is_input, format_by, format_of}
use Rattle.fw_heap.specs.Pieces.{PieceState}
use Rattle.fw_units.specs.declared.component.Unit as units
use Rattle.fw_units.specs.declared.component.Unit.TheVariants.{Host, Dai}
use Rattle.fw_units.specs.declared.component.Component.{Component}
use Rattle.fw_units.specs.Units.{kind_by, comp_by, pipe_by, period_by, streams_by, with_stream_by}
use Rattle.fw_components.specs.Tables.{Tables, graph_of, view_by}
use Rattle.stream_law.proofs.Placing.{Ascends-distinct}
use Rattle.row_laws.proofs.Found.{found-each}
use Rattle.fw_components.specs.Kept.{IsKept}
use Rattle.fw_places.proofs.Marking.{all-at}
use Rattle.fw_walks.proofs.Naming.{find-map}
use Rattle.fw_schedule.specs.Units.{unit_format}
use Rattle.fw_schedule.specs.Outputs.{is_output_kind}

-- what a kind passes the component does
pub kind-passes : (passes : Kind → Bool) (o : Option Comp) (k : Kind) → option_map (λ x. x.kind) o ≡ Some k → option_map_or (λ x. passes x.kind) o false ≡ passes k
kind-passes passes None k e = absurd (cc e)
kind-passes passes (Some x) k e = let same : x.kind ≡ k = cc e in ap passes same

pub same-kind : (o : Option Comp) (x : Comp) (k : Kind) → o ≡ Some x → option_map (λ x. x.kind) o ≡ Some k → k ≡ x.kind
same-kind o x k is e = let both : Some x.kind ≡ Some k = ap (option_map (λ (x : Comp). x.kind)) (sym is) ∙ e in cc

pub chooses-by : (v : View) (c : ℕ) (k : Kind) → option_map (λ x. x.kind) (comp_of v.graph c) ≡ Some k → chooses v c ≡ skips_idle_inputs k
unfolding chooses
chooses-by v c k e = kind-passes (λ k. skips_idle_inputs k) (comp_of v.graph c) k e

-- ---- formats

abbrev params_format : Option Params → Format
params_format params = option_map_or (λ p. p.format) params S32

abbrev found_format : ℕ → List StreamView → Format
found_format id ss = option_map_or (λ s. option_map_or (λ p. p.format) s.params S32) (find (λ s. s.host == id) ss) S32

-- a stream of another host
other-stream : (id own : ℕ) (u : units.Unit) (ss : List StreamView) → (own == id) ≡ false → found_format id (with_stream_by own u ss) ≡ found_format id ss
other-stream id own (Host capture phase params piece) ss other = ap (λ h. option_map_or (λ s. option_map_or (λ p. p.format) s.params S32) (cond h (Some (record { host = own; phase = phase; params = params })) (find (λ s. s.host == id) ss)) S32) other
other-stream id own u ss other = refl

-- the stream of a host is found by its id
stream-found : (id : ℕ) (cs : List Component) (d : Component) → find (λ x. x.id == id) cs ≡ Some d → (capture : Bool) (phase : Phase) (params : Option Params) (piece : PieceState) → d.unit ≡ Host capture phase params piece → found_format id (streams_by cs) ≡ params_format params
stream-found id [] d found capture phase params piece is = absurd (cc found)
stream-found id (c ∷ cs) d found capture phase params piece is = by (c.id == id) refl found (λ rest. stream-found id cs d rest capture phase params piece is)
  where
    by : (h : Bool) → (c.id == id) ≡ h → cond h (Some c) (find (λ x. x.id == id) cs) ≡ Some d → (find (λ x. x.id == id) cs ≡ Some d → found_format id (streams_by cs) ≡ params_format params) → found_format id (with_stream_by c.id c.unit (streams_by cs)) ≡ params_format params
    by true own found rest =
        let same : c ≡ d = cc found in
        ap (λ u. found_format id (with_stream_by c.id u (streams_by cs))) (ap (λ (c : Component). c.unit) same ∙ is)
        ∙ ap (λ h. option_map_or (λ s. option_map_or (λ p. p.format) s.params S32) (cond h (Some (record { host = c.id; phase = phase; params = params })) (find (λ s. s.host == id) (streams_by cs))) S32) own
    by false other found rest = other-stream id c.id c.unit (streams_by cs) other ∙ rest found

format-is : (t : Tables) (id : ℕ) (d : Component) → find (λ x. x.id == id) t.comps ≡ Some d → comp_of (graph_of t) id ≡ Some (comp_by d) → (is_input (kind_by d.unit) || is_output_kind (kind_by d.unit)) ≡ true → unit_format d.unit ≡ format_of (view_by t) id
format-is t id d found there is = by d.unit refl is ∙ sym (ap (λ (o : Option Comp). option_map_or (λ x. format_by (view_by t) id x.kind) o S32) there)
  where
    by : (u : units.Unit) → d.unit ≡ u → (is_input (kind_by u) || is_output_kind (kind_by u)) ≡ true → unit_format u ≡ format_by (view_by t) id (kind_by u)
    by (Host true phase params piece) own is = sym (stream-found id t.comps d found true phase params piece own)
    by (Host false phase params piece) own is = sym (stream-found id t.comps d found false phase params piece own)
    by (Dai true format piece) own is = refl
    by (Dai false format piece) own is = refl
    by u own is = absurd (false≢true is)

-- ---- the component at a place

pub id-at : (cs : List Component) (i : ℕ) (d : Component) → i < length cs → slice_index (map (λ (x : Comp). x.id) (map comp_by cs)) i ≡ (get_or cs i d).id
id-at [] i d lt = absurd (omega (arith, lt))
id-at (x ∷ xs) zero d lt = refl
id-at (x ∷ xs) (suc i) d lt = id-at xs i d (omega (arith, lt))

module _ (t : Tables) (kept : IsKept t) (at : ℕ) (low : at < length t.comps) (d : Component) (is : d ≡ get_or t.comps at d) where
  pub own-at : d.id ≡ slice_index (components (graph_of t)) at
  own-at = ap (λ (c : Component). c.id) is ∙ sym (id-at t.comps at d low)

  found-at : find (λ x. x.id == d.id) t.comps ≡ Some d
  found-at =
      ap (λ (c : Component). find (λ x. x.id == c.id) t.comps) is
      ∙ all-at (λ (x : Component). find (λ y. y.id == x.id) t.comps ≡ Some x) t.comps at d low (found-each (λ (x : Component). x.id) t.comps (Ascends-distinct (λ (x : Component). x.id) t.comps kept.named.comps))
      ∙ ap (λ (c : Component). Some c) (sym is)

  comp-at : comp_of (graph_of t) d.id ≡ Some (comp_by d)
  comp-at = find-map (λ (x : Comp). x.id == d.id) comp_by t.comps ∙ ap (option_map comp_by) found-at

  pub kind-at : option_map (λ x. x.kind) (comp_of (graph_of t) d.id) ≡ Some (kind_by d.unit)
  kind-at = ap (option_map (λ (x : Comp). x.kind)) comp-at

  pub chooses-at : skips_idle_inputs (kind_by d.unit) ≡ chooses (view_by t) d.id
  chooses-at = sym (chooses-by (view_by t) d.id (kind_by d.unit) kind-at)

  pub format-at : (is_input (kind_by d.unit) || is_output_kind (kind_by d.unit)) ≡ true → unit_format d.unit ≡ format_of (view_by t) d.id
  format-at passes = format-is t d.id d found-at comp-at passes

  -- the period of its pipeline, in ticks
  pub period-at : option_map_or (λ p. period_by p.unit) (find (λ p. p.pipe == d.pipe) t.pipes) 0 / 1000 ≡ period (view_by t) d.id
  period-at =
      ap (λ n. n / 1000) (by (find (λ p. p.pipe == d.pipe) t.pipes) ∙ ap (λ (o : Option Pipe). option_map_or (λ p. p.period) o 0) (sym (find-map (λ (p : Pipe). p.index == d.pipe) pipe_by t.pipes)))
      ∙ sym (ap (λ (o : Option Comp). option_map_or (λ x. option_map_or (λ p. p.period) (pipe_of (graph_of t) x.pipe) 0) o 0 / 1000) comp-at)
    where
      by : (o : Option Component) → option_map_or (λ p. period_by p.unit) o 0 ≡ option_map_or (λ p. p.period) (option_map pipe_by o) 0
      by None = refl
      by (Some p) = refl
