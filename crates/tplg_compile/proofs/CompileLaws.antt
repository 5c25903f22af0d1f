-- What an end of compiling says of the text, and that each text has one end.
use Rattle.std.proofs.Common.{◌≡◌, ◌⊎◌, inl, inr, ℕ, Bool, true, false, cond, List, Option, Some, None, IfOk, IfErr, Result, Ok, Err, refl, sym, ap, ◌∙◌, subst}
use Rattle.std.proofs.lemmas.Str.{IsUtf8-from_is_utf8, is_utf8-from_IsUtf8}
use Rattle.std.specs.Str.{is_utf8}
use Rattle.toml.specs.Data.{Members}
use Rattle.toml.specs.Parse.{parse_document}
use Rattle.tplg_model.specs.declared.block.Topology.{Topology}
use Rattle.tplg_build.specs.declared.source.TopologySource.{TopologySource}
use Rattle.tplg_build.specs.TopologyForm.{topology_stated}
use Rattle.tplg_rules.specs.WellFormed.{rules_of, IsWellFormed}
use Rattle.tplg_rules.specs.RuleFaults.{IsFaultOf}
use Rattle.tplg_rules.specs.declared.plan_fault.PlanFault.{PlanFault}
use Rattle.tplg_rules.specs.declared.plan_fault.PlanFault.TheVariants as plan
use Rattle.tplg_rules.specs.RuleTest.{ruling_of}
use Rattle.tplg_rules.proofs.RuleTests.{whole_none, breaks_some, none_whole, some_breaks}
use Rattle.tplg_compile.specs.declared.source_fault.SourceFault.{SourceFault}
use Rattle.tplg_compile.specs.declared.source_fault.SourceFault.TheVariants.{Syntax, Shape, Rule, OutOfMemory}
use Rattle.tplg_compile.specs.Results.{FaultIs, AnswerIs, or_fault}
use Rattle.tplg_compile.specs.Source.{IsSourceOf}
use Rattle.tplg_compile.specs.InOrder.{source_of, table_of, checked_by_rules, compiled_of}
use Rattle.tplg_compile.specs.Compiled.{IsDocument, IsCompiled, IsCompileFault}
use Rattle.tplg_compile.specs.RulesKept.{KeepsRules, BreaksRule, IsRuleFault, rule_told}
use Rattle.tplg_compile.proofs.SourceLaws.{bind_ok, bind_err, or_some, or_none, source_is, source_again, fault_is, fault_again}

-- ---- ends

pub told-err : (t : Topology) (f : PlanFault) → IsFaultOf (rules_of t) f → (rule_told f ≡ OutOfMemory) ⊎ IsRuleFault t (rule_told f)
unfolding BreaksRule
told-err t (plan.Rule rule item) is = inr is
told-err t plan.OutOfMemory is = inl refl

pub syntax-fault : (text : List ℕ) (f : SourceFault) → (f ≡ OutOfMemory) ⊎ ((f ≡ Syntax) × IsCompileFault text f) → (f ≡ OutOfMemory) ⊎ IsCompileFault text f
syntax-fault text f (inl memory) = inl memory
syntax-fault text f (inr syntax) = inr syntax.1

module _ (text : List ℕ) (table : Members) (document : IsDocument text table) where
  pub shape-fault : (f : SourceFault) → FaultIs f (source_of table) → (f ≡ OutOfMemory) ⊎ IsCompileFault text f
  shape-fault Syntax first = absurd (fault_is table Syntax first)
  shape-fault (Shape list entry) first = inr (table, document, fault_is table (Shape list entry) first)
  shape-fault (Rule rule item) first = absurd (fault_is table (Rule rule item) first)
  shape-fault OutOfMemory first = inl refl

  pub source-found : (source : TopologySource) → source_of table ≡ Ok source → (topology : Topology) → topology ≡ topology_stated source → IsSourceOf table topology
  source-found source stated topology built = subst (IsSourceOf table) (sym built) (source_is table source stated)

module _ (text : List ℕ) (topology : Topology) (found : (table : Members) × IsDocument text table × IsSourceOf table topology) where
  rule_fault : (f : SourceFault) → IsRuleFault topology f → IsCompileFault text f
  unfolding BreaksRule
  rule_fault Syntax is = absurd is
  rule_fault (Shape list entry) is = absurd is
  rule_fault (Rule rule item) is = (found.0, topology, found.1, found.2, is)
  rule_fault OutOfMemory is = absurd is

  pub rule-fault : (f : SourceFault) → (f ≡ OutOfMemory) ⊎ IsRuleFault topology f → (f ≡ OutOfMemory) ⊎ IsCompileFault text f
  rule-fault f (inl memory) = inl memory
  rule-fault f (inr is) = inr (rule_fault f is)

  pub kept-found : KeepsRules topology → IsCompiled text topology
  unfolding KeepsRules
  kept-found well = record { table = found.0; document = found.1; source = found.2; rules = well }

-- ---- as a function of the text

table_is : (text : List ℕ) (table : Members) → IsDocument text table → table_of text ≡ Some table
table_is text table is = rw (is_utf8-from_IsUtf8 text is.utf8) is.parsed

no_table : (b : Bool) (o : Option Members) → ((m : Members) → b ≡ true → o ≡ Some m → ⊥) → cond b o None ≡ None
no_table false o nothing = refl
no_table true None nothing = refl
no_table true (Some m) nothing = absurd (nothing m refl refl)

pub compiled_again : (text : List ℕ) (t : Topology) → IsCompiled text t → compiled_of text ≡ Ok t
unfolding compiled_of
compiled_again text t is =
    let kept : ruling_of (topology_stated is.source.source) ≡ None = subst (λ (u : Topology). ruling_of u ≡ None) is.source.built (whole_none t is.rules) in
    rw (table_is text is.table is.document, source_again is.table t is.source, kept) (ap Ok (sym is.source.built))

pub text_fault_again : (text : List ℕ) (f : SourceFault) → IsCompileFault text f → compiled_of text ≡ Err f
unfolding compiled_of
text_fault_again text Syntax is =
    let none : table_of text ≡ None = no_table (is_utf8 text) (parse_document text) (λ m u p. is m (record { utf8 = IsUtf8-from_is_utf8 text u; parsed = p })) in
    rw none refl
text_fault_again text (Shape list entry) is = rw (table_is text is.0 is.1, fault_again is.0 list entry is.2) refl
text_fault_again text (Rule rule item) is =
    let stated : IsSourceOf is.0 is.1 = is.3 in
    let broken : ruling_of (topology_stated stated.source) ≡ Some (rule, item) = subst (λ (u : Topology). ruling_of u ≡ Some (rule, item)) stated.built (breaks_some is.1 rule item is.4) in
    rw (table_is text is.0 is.2, source_again is.0 is.1 stated, broken) refl
text_fault_again text OutOfMemory is = absurd is

-- the other way round: what the function of the text gives is so
document_is : (b : Bool) (o : Option Members) (table : Members) → cond b o None ≡ Some table → (b ≡ true) × (o ≡ Some table)
document_is false o table e = absurd (cc e)
document_is true o table e = (refl, e)

is_document : (text : List ℕ) (table : Members) → table_of text ≡ Some table → IsDocument text table
is_document text table e =
    let both = document_is (is_utf8 text) (parse_document text) table e in
    record { utf8 = IsUtf8-from_is_utf8 text both.0; parsed = both.1 }

ruled_ok : (u t : Topology) (r : Option (ℕ × ℕ)) → checked_by_rules u r ≡ Ok t → (r ≡ None) × (u ≡ t)
ruled_ok u t None e = (refl, cc e)
ruled_ok u t (Some (rule, item)) e = absurd (cc e)

ruled_err : (u : Topology) (f : SourceFault) (r : Option (ℕ × ℕ)) → checked_by_rules u r ≡ Err f → (rule : ℕ) × (item : ℕ) × (r ≡ Some (rule, item)) × (Rule rule item ≡ f)
ruled_err u f None e = absurd (cc e)
ruled_err u f (Some (rule, item)) e = (rule, item, refl, cc e)

pub compiled_take : (text : List ℕ) (t : Topology) → compiled_of text ≡ Ok t → IsCompiled text t
unfolding compiled_of
compiled_take text t e =
    let table = bind_ok (or_fault Syntax (table_of text)) _ t e in
    let source = bind_ok (source_of table.0) _ t table.1.1 in
    let top = topology_stated source.0 in
    let kept = ruled_ok top t (ruling_of top) source.1.1 in
    record {
      table = table.0;
      document = is_document text table.0 (or_some Syntax (table_of text) table.0 table.1.0);
      source = subst (IsSourceOf table.0) kept.1 (source_is table.0 source.0 source.1.0);
      rules = subst IsWellFormed kept.1 (none_whole top kept.0);
    }

no_document : (text : List ℕ) → table_of text ≡ None → IsCompileFault text Syntax
no_document text none table is = cc (sym (table_is text table is) ∙ none)

shape_is : (text : List ℕ) (table : Members) (f : SourceFault) → IsDocument text table → source_of table ≡ Err f → IsCompileFault text f
shape_is text table Syntax document e = absurd (fault_is table Syntax e)
shape_is text table (Shape list entry) document e = (table, document, fault_is table (Shape list entry) e)
shape_is text table (Rule rule item) document e = absurd (fault_is table (Rule rule item) e)
shape_is text table OutOfMemory document e = absurd (fault_is table OutOfMemory e)

pub text_fault_take : (text : List ℕ) (f : SourceFault) → compiled_of text ≡ Err f → IsCompileFault text f
unfolding compiled_of
text_fault_take text f e =
    elim (bind_err (or_fault Syntax (table_of text)) _ f e) [
      | inl syntax ↦
          let none = or_none Syntax (table_of text) f syntax in
          subst (IsCompileFault text) none.1 (no_document text none.0)
      | inr table ↦
          let document = is_document text table.0 (or_some Syntax (table_of text) table.0 table.1.0) in
          elim (bind_err (source_of table.0) _ f table.1.1) [
            | inl shape ↦ shape_is text table.0 f document shape
            | inr source ↦
                let top = topology_stated source.0 in
                let broken = ruled_err top f (ruling_of top) source.1.1 in
                let is : IsCompileFault text (Rule broken.0 broken.1) = (table.0, top, document, source_is table.0 source.0 source.1.0, some_breaks top broken.0 broken.1 broken.2) in
                subst (IsCompileFault text) broken.3 is
          ]
    ]

fails : (text : List ℕ) (f : SourceFault) → (f ≡ OutOfMemory) ⊎ IsCompileFault text f → FaultIs f (compiled_of text)
fails text f (inl memory) = subst (λ g. FaultIs g (compiled_of text)) (sym memory) tt
fails text Syntax (inr is) = text_fault_again text Syntax is
fails text (Shape list entry) (inr is) = text_fault_again text (Shape list entry) is
fails text (Rule rule item) (inr is) = text_fault_again text (Rule rule item) is
fails text OutOfMemory (inr is) = tt

-- what was found, and what was told where nothing was
pub gives : (text : List ℕ) (r : Result Topology SourceFault) → IfOk r (IsCompiled text) → IfErr r (λ f. (f ≡ OutOfMemory) ⊎ IsCompileFault text f) → AnswerIs (λ x. x) r (compiled_of text)
gives text (Ok t) found fault = compiled_again text t found
gives text (Err f) found fault = fails text f fault

pub gives-only : (text : List ℕ) (r : Result Topology SourceFault) → AnswerIs (λ x. x) r (compiled_of text) → (t : Topology) → IsCompiled text t → AnswerIs (λ x. x) r (Ok t)
gives-only text r given t is = subst (λ told. AnswerIs (λ x. x) r told) (compiled_again text t is) given

pub gives-fault_only : (text : List ℕ) (r : Result Topology SourceFault) → AnswerIs (λ x. x) r (compiled_of text) → (f : SourceFault) → IsCompileFault text f → AnswerIs (λ x. x) r (Err f)
gives-fault_only text r given f is = subst (λ told. AnswerIs (λ x. x) r told) (text_fault_again text f is) given
