-- The turns of a registry's components are those of its graph.
use Rattle.std.proofs.Common.{◌≡◌, refl, sym, ap, ◌∙◌, ℕ, zero, suc, ◌+◌, ◌<◌, List, [], ◌∷◌, map, length, get_or, count_by, Option, Some, None, true, false, cond, ◌&&◌, ◌==◌, arith}
use Rattle.std.proofs.Math.Bool.{and-true}
use Rattle.std.proofs.lemmas.Bool.{eq-eqb}
use Rattle.std.proofs.lemmas.List.Sums.{sum_by-cons}
use Rattle.std.specs.Prelude.{find, is_some}
use Rattle.std.specs.List.{AllByRecursion}
use Rattle.std.specs.Option.{option_map_or}
use Rattle.stream_law.specs.declared.graph.Edge.{Edge}
use Rattle.stream_law.specs.Placed.{Ascends}
use Rattle.stream_law.specs.Ways.{is_end}
use Rattle.stream_law.specs.Waiting.{same_end, is_found, is_open, leads_from, waits}
use Rattle.row_laws.proofs.Found.{found-each}
use Rattle.fw_units.specs.declared.component.Component.{Component}
use Rattle.fw_units.specs.Units.{edge_by, source_by, sink_by}
use Rattle.fw_schedule.proofs.DistinctEdges.{edges-distinct}

-- ---- each edge is found by its buffer

same-end : (o : Option ℕ) → same_end o o ≡ true
same-end None = refl
same-end (Some a) = eq-eqb a a refl

all-found : (edges es : List Edge) → AllByRecursion (λ e. find (λ x. x.buffer == e.buffer) edges ≡ Some e) es → AllByRecursion (λ e. is_found edges e ≡ true) es
all-found edges [] found = tt
all-found edges (e ∷ es) found = (
  ap (λ (o : Option Edge). option_map_or (λ f. same_end f.source e.source && same_end f.sink e.sink) o false) found.0 ∙ (λ i. same-end e.source i && same-end e.sink i),
  all-found edges es found.1,
)

-- the edges of buffers are all found
pub are-found : (bs : List Component) → Ascends (λ c. c.id) bs → AllByRecursion (λ e. is_found (map edge_by bs) e ≡ true) (map edge_by bs)
are-found bs up = all-found (map edge_by bs) (map edge_by bs) (found-each (λ (e : Edge). e.buffer) (map edge_by bs) (edges-distinct (record { comps = []; buffers = bs; pipes = []; joins = [] }) up))

pub at-found : (edges : List Edge) (cs : List Component) (i : ℕ) (d : Component) → i < length cs → AllByRecursion (λ e. is_found edges e ≡ true) (map edge_by cs) → is_found edges (edge_by (get_or cs i d)) ≡ true
at-found edges [] i d low found = absurd (omega arith)
at-found edges (c ∷ cs) zero d low found = found.0
at-found edges (c ∷ cs) (suc i) d low found = at-found edges cs i d (omega arith) found.1

-- ---- how many wait

open-none : (o : Option ℕ) → is_open [] o ≡ is_some o
open-none None = refl
open-none (Some a) = refl

waited : (edges : List Edge) (id : ℕ) (cs : List Component) → AllByRecursion (λ e. is_found edges e ≡ true) (map edge_by cs) → count_by (λ b. is_end (sink_by b.unit) id && is_some (source_by b.unit)) cs ≡ count_by (λ e. is_end e.sink id && (is_found edges e && is_open [] e.source)) (map edge_by cs)
waited edges id [] found = refl
waited edges id (c ∷ cs) found =
    sum_by-cons (λ b. cond (is_end (sink_by b.unit) id && is_some (source_by b.unit)) 1 0) c cs
    ∙ (λ i. cond (is_end (sink_by c.unit) id && (sym found.0 i && sym (open-none (source_by c.unit)) i)) 1 0 + waited edges id cs found.1 i)
    ∙ sym (sum_by-cons (λ e. cond (is_end e.sink id && (is_found edges e && is_open [] e.source)) 1 0) (edge_by c) (map edge_by cs))

pub waits-are : (bs : List Component) (id : ℕ) → Ascends (λ c. c.id) bs → count_by (λ b. is_end (sink_by b.unit) id && is_some (source_by b.unit)) bs ≡ waits (map edge_by bs) [] id
waits-are bs id up = waited (map edge_by bs) id bs (are-found bs up)

-- ---- which lead

-- an edge that is found by its buffer leads from its source
pub leads-found : (edges : List Edge) (id : ℕ) (e : Edge) → is_found edges e ≡ true → leads_from edges id e ≡ is_end e.source id
leads-found edges id e found = ap (λ h. is_end e.source id && h) found ∙ and-true (is_end e.source id)
