-- The row of a message that completes a pipeline.
use Rattle.std.proofs.Common.{◌≡◌, refl, sym, ap, ◌∙◌, ℕ, List, [], ◌∷◌, map, Bool, true, false, cond, not, ◌==◌, Option, Some, None, option_map, Result, Ok, Err, ℤ}
use Rattle.std.specs.Prelude.{find}
use Rattle.std.specs.List.{AllByRecursion, list_any}
use Rattle.stream_law.specs.declared.graph.Pipe.{Pipe}
use Rattle.stream_law.specs.State.{FwState}
use Rattle.mbox_link.specs.Step.{no_device, busy, invalid, is_used, has_comp, with_pipes, completed, complete_pipe, pipe_complete}
use Rattle.stream_law.proofs.Members.{find-in, in-any}
use Rattle.fw_units.specs.declared.component.Component.{Component}
use Rattle.fw_units.specs.Units.{pipe_by, is_pipeline}
use Rattle.fw_components.specs.Kept.{IsPiping}
use Rattle.fw_walks.proofs.Naming.{find-map}
use Rattle.fw_pipeline.specs.Rows.{terms_at, terms_by}

-- a row whose tests pass
pub complete-row : (f : FwState) (id sched : ℕ) (done : Bool) → is_used f.graph id ≡ true → terms_at f.graph id ≡ Some (sched, done) → is_used f.graph sched ≡ true → done ≡ false → has_comp f.graph sched ≡ true → pipe_complete f id ≡ Ok (record f { graph = with_pipes (map (completed id) f.graph.pipes) f.graph })
complete-row f id sched done used is there still comp = by (find (λ p. p.id == id) f.graph.pipes) refl is
  where
    by : (o : Option Pipe) → find (λ p. p.id == id) f.graph.pipes ≡ o → option_map terms_by o ≡ Some (sched, done) → pipe_complete f id ≡ Ok (record f { graph = with_pipes (map (completed id) f.graph.pipes) f.graph })
    by None found is = absurd (cc is)
    by (Some p) found is =
        let same : (p.sched, p.complete) ≡ (sched, done) = cc is in
        let names : p.sched ≡ sched = ap (λ (q : ℕ × Bool). q.0) same in
        let open_still : p.complete ≡ false = ap (λ (q : ℕ × Bool). q.1) same ∙ still in
        ap (λ (q : Bool × Option Pipe). cond (not q.0) (Err no_device) (complete_pipe f id q.1)) (λ i. (used i, found i))
        ∙ ap (λ (q : Bool × Bool × Bool). let r : Result FwState ℤ = cond (not q.0) (Err no_device) (cond q.1 (Err busy) (cond (not q.2) (Err invalid) (Ok (record f { graph = with_pipes (map (completed id) f.graph.pipes) f.graph })))) in r) (λ i. ((ap (is_used f.graph) names ∙ there) i, open_still i, (ap (has_comp f.graph) names ∙ comp) i))

-- what has terms is a pipeline
pub terms-named : (pipes : List Pipe) (id : ℕ) (x : ℕ × Bool) → option_map terms_by (find (λ p. p.id == id) pipes) ≡ Some x → list_any (λ p. p.id == id) pipes ≡ true
terms-named pipes id x is = by (find (λ p. p.id == id) pipes) refl is
  where
    by : (o : Option Pipe) → find (λ p. p.id == id) pipes ≡ o → option_map terms_by o ≡ Some x → list_any (λ p. p.id == id) pipes ≡ true
    by None found is = absurd (cc is)
    by (Some p) found is = let r = find-in (λ p. p.id == id) pipes p found in in-any (λ p. p.id == id) pipes p r.0 r.1

-- those of a pipeline by the tables
pub terms-found : (cs : List Component) (id : ℕ) → option_map (λ (c : Component). terms_by (pipe_by c)) (find (λ c. c.id == id) cs) ≡ option_map terms_by (find (λ p. p.id == id) (map pipe_by cs))
terms-found cs id = by (find (λ c. c.id == id) cs) ∙ ap (option_map terms_by) (sym (find-map (λ (p : Pipe). p.id == id) pipe_by cs))
  where
    by : (o : Option Component) → option_map (λ (c : Component). terms_by (pipe_by c)) o ≡ option_map terms_by (option_map pipe_by o)
    by None = refl
    by (Some c) = refl

-- the pipelines of a registry are pipelines
pub are-pipelines : (cs : List Component) → AllByRecursion (λ c. IsPiping c.unit) cs → AllByRecursion (λ c. is_pipeline c.unit ≡ true) cs
are-pipelines [] all = tt
are-pipelines (c ∷ cs) all = (all.0.0, are-pipelines cs all.1)
