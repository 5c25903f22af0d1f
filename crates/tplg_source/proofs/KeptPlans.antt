-- Texts that keep a plan.
use Rattle.std.proofs.Common.{◌≡◌, ℕ, ◌<◌, ◌≤◌, ◌^◌, nat_le, Bool, true, false, if◌then◌else◌, List, length, Option, Some, None, Result, Ok, Err, refl, sym, ap, subst, ◌∙◌}
use Rattle.tplg_model.specs.declared.block.Topology.{Topology}
use Rattle.tplg_plan.specs.declared.plans.Plan.{Plan}
use Rattle.tplg_widgets.specs.Entries.{entries_of}
use Rattle.tplg_widgets.specs.Ends.{ends_in}
use Rattle.tplg_same.proofs.SameLaws.{right, plan-is}
use Rattle.tplg_graph.specs.PlanOf.{plan_of}
use Rattle.tplg_compile.specs.declared.source_fault.SourceFault.{SourceFault}
use Rattle.tplg_compile.specs.declared.source_fault.SourceFault.TheVariants as fault
use Rattle.tplg_compile.specs.Results.{FaultIs}
use Rattle.tplg_compile.specs.Compiled.{IsCompiled}
use Rattle.tplg_compile.specs.InOrder.{compiled_of}
use Rattle.tplg_compile.proofs.CompileLaws.{compiled_take}
use Rattle.tplg_compile.proofs.StatedSizes.{short-small}
use Rattle.tplg_compile.proofs.StatedCounts.{few-widgets-built, few-routes-built}
use Rattle.tplg_source.specs.Outcome.{text_carrying, KeepsPlan, has_plan, is_kept, kept_text, source_for}

-- what a text compiles to has this plan
by_result : (plan : Plan) (text : List ℕ) (r : Result Topology SourceFault) → compiled_of text ≡ r → has_plan plan r ≡ true → KeepsPlan plan text
by_result plan text (Ok made) is same = record { made = made; compiled = compiled_take text made is; same = plan-is (plan_of made) plan same }
by_result plan text (Err f) is same = absurd (cc same)

pub keeps_plan : (plan : Plan) (text : List ℕ) → is_kept plan text ≡ true → KeepsPlan plan text
keeps_plan plan text is = by_result plan text (compiled_of text) refl (right (nat_le (length text) 1048576) (has_plan plan (compiled_of text)) is)

-- so it is given, and one that does not is not
pub is_given : (plan : Plan) (text : List ℕ) → is_kept plan text ≡ true → kept_text plan text ≡ Some text
is_given plan text is = ap (λ b. if b then Some text else None) is

pub is_lost : (plan : Plan) (text : List ℕ) → is_kept plan text ≡ false → kept_text plan text ≡ None
is_lost plan text is = ap (λ b. if b then Some text else None) is

-- what is given keeps it
kept_is : (plan : Plan) (text found : List ℕ) (b : Bool) → is_kept plan text ≡ b → (if b then Some text else None) ≡ Some found → KeepsPlan plan found
kept_is plan text found true kept is = let same : text ≡ found = cc is in subst (λ x. KeepsPlan plan x) same (keeps_plan plan text kept)
kept_is plan text found false kept is = absurd (cc is)

-- the same by the answer of the test, over the text of a topology
pub text_keeps : (plan : Plan) (text : List ℕ) (answer : Bool) → answer ≡ is_kept plan text → answer ≡ true → KeepsPlan plan text
text_keeps plan text answer test is = keeps_plan plan text (sym test ∙ is)

pub text_given : (plan : Plan) (t : Topology) (text : List ℕ) (answer : Bool) → text ≡ text_carrying t → answer ≡ is_kept plan text → answer ≡ true → kept_text plan (text_carrying t) ≡ Some text
text_given plan t text answer same test is = subst (λ x. kept_text plan x ≡ Some text) same (is_given plan text (sym test ∙ is))

pub text_lost : (plan : Plan) (t : Topology) (text : List ℕ) (answer : Bool) → text ≡ text_carrying t → answer ≡ is_kept plan text → answer ≡ false → kept_text plan (text_carrying t) ≡ None
text_lost plan t text answer same test is = subst (λ x. kept_text plan x ≡ None) same (is_lost plan text (sym test ∙ is))

-- a text that is refused has no plan
pub refused_none : (plan : Plan) (text : List ℕ) (f : SourceFault) → (f ≡ fault.OutOfMemory → ⊥) → FaultIs f (compiled_of text) → false ≡ has_plan plan (compiled_of text)
refused_none plan text fault.Syntax other is = let e : compiled_of text ≡ Err fault.Syntax = is in ap (has_plan plan) (sym e)
refused_none plan text (fault.Shape list entry) other is = let e : compiled_of text ≡ Err (fault.Shape list entry) = is in ap (has_plan plan) (sym e)
refused_none plan text (fault.Rule rule item) other is = let e : compiled_of text ≡ Err (fault.Rule rule item) = is in ap (has_plan plan) (sym e)
refused_none plan text fault.OutOfMemory other is = absurd (other refl)

-- ---- a topology's own plan

pub source_keeps : (t : Topology) (text : List ℕ) → source_for t ≡ Some text → KeepsPlan (plan_of t) text
unfolding source_for
source_keeps t text is = kept_is (plan_of t) (text_carrying t) text (is_kept (plan_of t) (text_carrying t)) refl is

pub source_found : (t : Topology) (plan : Plan) (o : Option (List ℕ)) → plan ≡ plan_of t → kept_text plan (text_carrying t) ≡ o → source_for t ≡ o
unfolding source_for
source_found t plan o same is = ap (λ p. kept_text p (text_carrying t)) (sym same) ∙ is

-- ---- what is compiled has so few widgets and routes that a word can number them

pub few_widgets : (text : List ℕ) (t : Topology) → length text ≤ 1048576 → IsCompiled text t → length (entries_of t) < 2 ^ 32
few_widgets text t short is = few-widgets-built is.source.source t (short-small text is.table short is.document t is.source) is.source.built

pub few_routes : (text : List ℕ) (t : Topology) → length text ≤ 1048576 → IsCompiled text t → length (ends_in t) < 2 ^ 32
few_routes text t short is = few-routes-built is.source.source t (short-small text is.table short is.document t is.source) is.source.built
