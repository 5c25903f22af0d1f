use Rattle.std.proofs.Common.{◌≡◌, ◌⊎◌, inl, inr, ℕ, Result, Ok, Err, refl, sym, ap, ◌∙◌}
use Rattle.toml.specs.Data.{Members}
use Rattle.tplg_model.specs.declared.block.Topology.{Topology}
use Rattle.tplg_build.specs.declared.source.TopologySource.{TopologySource}
use Rattle.tplg_build.specs.TopologyForm.{topology_stated}
use Rattle.tplg_compile.specs.declared.source_fault.List.{List as SourceList}
use Rattle.tplg_compile.specs.declared.source_fault.SourceFault.{SourceFault}
use Rattle.tplg_compile.specs.declared.source_fault.SourceFault.TheVariants.{Syntax, Shape, Rule, OutOfMemory}
use Rattle.tplg_compile.specs.Source.{IsSourceOf, IsShapeFault}
use Rattle.tplg_compile.specs.InOrder.{source_of}
use Rattle.tplg_compile.proofs.SourceLaws.{source_is, source_again, IsFault, fault_is, fault_again}
use Rattle.tplg_compile.proofs.CompileLaws.{compiled_take, compiled_again, text_fault_take, text_fault_again}
use Rattle.tplg_compile.proofs.laws.sources_have_one_form.Goals as goal

one : (table : Members) (t u : Topology) → IsSourceOf table t → IsSourceOf table u → t ≡ u
one table t u a b =
    let same : a.source ≡ b.source = cc (sym (source_again table t a) ∙ source_again table u b) in
    a.built ∙ ap topology_stated same ∙ sym b.built

first : (table : Members) (k l : SourceList) (m n : ℕ) → IsShapeFault table k m → IsShapeFault table l n → (k ≡ l) × (m ≡ n)
first table k l m n a b =
    let same : Shape k m ≡ Shape l n = cc (sym (fault_again table k m a) ∙ fault_again table l n b) in
    (cc same, cc same)

apart : (table : Members) (t : Topology) (l : SourceList) (n : ℕ) → IsSourceOf table t → IsShapeFault table l n → ⊥
apart table t l n a b = cc (sym (source_again table t a) ∙ fault_again table l n b)

-- a table with a fault of some kind
faulty : (table : Members) (e : SourceFault) → IsFault table e → (l : SourceList) × ((n : ℕ) × IsShapeFault table l n)
faulty table Syntax is = absurd is
faulty table (Shape l n) is = (l, (n, is))
faulty table (Rule rule item) is = absurd is
faulty table OutOfMemory is = absurd is

told : (table : Members) (r : Result TopologySource SourceFault) → source_of table ≡ r → ((t : Topology) × IsSourceOf table t) ⊎ ((l : SourceList) × ((n : ℕ) × IsShapeFault table l n))
told table (Ok source) is = inl (topology_stated source, source_is table source is)
told table (Err e) is = inr (faulty table e (fault_is table e is))

pub returns-clause-one : goal.returns-clause-one
returns-clause-one c = one

pub returns-clause-first : goal.returns-clause-first
returns-clause-first c = first

pub returns-clause-apart : goal.returns-clause-apart
returns-clause-apart c = apart

pub returns-clause-either : goal.returns-clause-either
returns-clause-either c = λ table. told table (source_of table) refl

pub returns-clause-carried : goal.returns-clause-carried
returns-clause-carried c = λ text t. (compiled_take text t, compiled_again text t)

pub returns-clause-faults : goal.returns-clause-faults
returns-clause-faults c = λ text f. (text_fault_take text f, text_fault_again text f)
