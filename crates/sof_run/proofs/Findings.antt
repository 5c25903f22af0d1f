-- What files come to: it is found step by step, it is what is said of their bytes, and nothing else is.
use Rattle.std.proofs.Common.{◌≡◌, ℕ, ◌<◌, ◌≤◌, nat_lt, Bool, true, false, List, [], ◌∷◌, Option, Some, None, Result, Ok, Err, refl, sym, ◌∙◌, ap, subst, arith}
use Rattle.std.proofs.lemmas.Bool.Decides.{nat_tests}
use Rattle.std.specs.List.{AllByRecursion}
use Rattle.sof_desk.specs.Desk.{Heard}
use Rattle.tplg_model.specs.declared.fault.TplgFault.{TplgFault}
use Rattle.tplg_model.specs.declared.block.Topology.{Topology}
use Rattle.tplg_model.specs.Reading.{topology_of}
use Rattle.tplg_model.proofs.FileLaws.{topology_take, topology_again, topology_found, topology_only}
use Rattle.tplg_rules.specs.WellFormed.{IsWellFormed}
use Rattle.tplg_rules.specs.RuleTest.{ruling_of}
use Rattle.tplg_rules.proofs.RuleTests.{whole_none, none_whole, breaks_some, some_breaks}
use Rattle.tplg_graph.specs.PlanOf.{plan_of}
use Rattle.tplg_compile.specs.declared.source_fault.SourceFault.{SourceFault}
use Rattle.tplg_compile.specs.declared.source_fault.SourceFault.TheVariants as sources
use Rattle.tplg_compile.specs.InOrder.{compiled_of}
use Rattle.tplg_compile.proofs.CompileLaws.{compiled_take, text_fault_take}
use Rattle.sof_script.specs.declared.reading.ScriptFault.{ScriptFault}
use Rattle.sof_script.specs.declared.reading.ScriptFault.TheVariants as scripts
use Rattle.sof_script.specs.Commands.{Read, script_of}
use Rattle.run_desk.specs.declared.preparing.Halt.{Halt}
use Rattle.run_desk.specs.declared.preparing.Halt.TheVariants as halts
use Rattle.run_desk.specs.TopologyBytes.{AreBytes, BringsBytes, IsFile, IsBroken}
use Rattle.run_desk.specs.Bindings.{wrong_binding}
use Rattle.run_desk.specs.Verdicts.{ticks_of, IsScript}
use Rattle.ipc3_trace.specs.declared.entry.Entry.{Entry}
use Rattle.ipc3_trace.specs.declared.fault.TraceFault.{TraceFault}
use Rattle.ipc3_trace.specs.WholeTraces.{IsTraceOf}
use Rattle.ipc3_trace.specs.Reading.{trace_in}
use Rattle.ipc3_trace.proofs.WholeLaws.{has-trace}
use Rattle.sof_run.specs.Calls.{Findings}
use Rattle.sof_run.specs.ComeTo.{FilesComeTo, SourceComesTo}
use Rattle.run_tools.specs.Checks.{TopologyComesTo}
use Rattle.sof_run.specs.Findings.{AreFindings}
use Rattle.run_desk.specs.Prepared.{Prepared, Ready, Halted, prepared, prepared_script, prepared_ticks, prepared_topology, prepared_rules, prepared_bindings, checked}
use Rattle.sof_run.proofs.ScriptReads.{never_wanting}
use Rattle.run_tools.proofs.CheckedFiles.{checked_found}

-- ---- numbers

over : (sum : ℕ) → 60000 < sum → nat_lt 60000 sum ≡ true
over sum many = grind (arith, nat_tests)

not_over : (sum : ℕ) → sum ≤ 60000 → nat_lt 60000 sum ≡ false
not_over sum few = grind (arith, nat_tests)

too_many : (sum : ℕ) → nat_lt 60000 sum ≡ true → 60000 < sum
too_many sum over = grind (arith, nat_tests)

few : (sum : ℕ) → nat_lt 60000 sum ≡ false → sum ≤ 60000
few sum not = grind (arith, nat_tests)

-- ---- a topology and a script

abbrev run_by_bindings : Topology → Read → Option ℕ → Result (Topology × Read) Halt
run_by_bindings t read (Some line) = Err (halts.Binding line)
run_by_bindings t read None = Ok (t, read)

abbrev run_by_rules : Topology → Read → Option (ℕ × ℕ) → Result (Topology × Read) Halt
run_by_rules t read (Some (rule, item)) = Err (halts.Rule rule item)
run_by_rules t read None = run_by_bindings t read (wrong_binding (plan_of t) read.bindings)

abbrev run_by_file : Read → Result Topology TplgFault → Result (Topology × Read) Halt
run_by_file read (Err fault) = Err (halts.Broken fault)
run_by_file read (Ok t) = run_by_rules t read (ruling_of t)

abbrev run_by_ticks : List ℕ → Read → Bool → Result (Topology × Read) Halt
run_by_ticks topology read true = Err (halts.Ticks (ticks_of read.commands))
run_by_ticks topology read false = run_by_file read (topology_of topology)

abbrev run_by_script : List ℕ → Result Read ScriptFault → Result (Topology × Read) Halt
run_by_script topology (Err (scripts.Line line cause)) = Err (halts.Script line cause)
run_by_script topology (Err scripts.OutOfMemory) = Err halts.OutOfMemory
run_by_script topology (Ok read) = run_by_ticks topology read (nat_lt 60000 (ticks_of read.commands))

-- the run that they make, or why they make none
abbrev pub run_of : List ℕ → List ℕ → Result (Topology × Read) Halt
run_of topology script = run_by_script topology (script_of script)

-- a topology's plan stands in its place
abbrev pub as_prepared : Result (Topology × Read) Halt → Prepared
as_prepared (Ok (t, read)) = Ready (plan_of t) read
as_prepared (Err why) = Halted why

same_bindings : (t : Topology) (read : Read) (wrong : Option ℕ) → prepared_bindings (plan_of t) read wrong ≡ as_prepared (run_by_bindings t read wrong)
same_bindings t read (Some line) = refl
same_bindings t read None = refl

same_rules : (t : Topology) (read : Read) (ruling : Option (ℕ × ℕ)) → prepared_rules t read ruling ≡ as_prepared (run_by_rules t read ruling)
same_rules t read (Some (rule, item)) = refl
same_rules t read None = same_bindings t read (wrong_binding (plan_of t) read.bindings)

same_file : (read : Read) (r : Result Topology TplgFault) → prepared_topology read r ≡ as_prepared (run_by_file read r)
same_file read (Err fault) = refl
same_file read (Ok t) = same_rules t read (ruling_of t)

same_ticks : (topology : List ℕ) (read : Read) (many : Bool) → prepared_ticks topology read many ≡ as_prepared (run_by_ticks topology read many)
same_ticks topology read true = refl
same_ticks topology read false = same_file read (topology_of topology)

same_script : (topology : List ℕ) (r : Result Read ScriptFault) → prepared_script topology r ≡ as_prepared (run_by_script topology r)
same_script topology (Err (scripts.Line line cause)) = refl
same_script topology (Err scripts.OutOfMemory) = refl
same_script topology (Ok read) = same_ticks topology read (nat_lt 60000 (ticks_of read.commands))

pub prepared_same : (topology script : List ℕ) → prepared topology script ≡ as_prepared (run_of topology script)
prepared_same topology script = same_script topology (script_of script)

module _ (topology script : List ℕ) where
  -- what is found is what is said of the bytes
  module _ (bytes : AreBytes topology) where
    right_bindings : (t : Topology) (read : Read) (wrong : Option ℕ) → IsScript script read → IsFile topology t → IsWellFormed t → wrong_binding (plan_of t) read.bindings ≡ wrong → FilesComeTo topology script (run_by_bindings t read wrong)
    right_bindings t read (Some line) lines file whole is = (read, t, lines, file, whole, is)
    right_bindings t read None lines file whole is = record { lines = lines; file = file; whole = whole; right = is }

    right_rules : (t : Topology) (read : Read) (ruling : Option (ℕ × ℕ)) → IsScript script read → IsFile topology t → ruling_of t ≡ ruling → FilesComeTo topology script (run_by_rules t read ruling)
    right_rules t read (Some (rule, item)) lines file is = (read, t, lines, file, some_breaks t rule item is)
    right_rules t read None lines file is = right_bindings t read (wrong_binding (plan_of t) read.bindings) lines file (none_whole t is) refl

    right_file : (read : Read) (r : Result Topology TplgFault) → IsScript script read → topology_of topology ≡ r → FilesComeTo topology script (run_by_file read r)
    right_file read (Err fault) lines is = ((read, lines), none, topology_found topology fault bytes is)
      where
        none : IsBroken topology
        none t file = cc (sym is ∙ topology_again topology t file.0 file.1)
    right_file read (Ok t) lines is = right_rules t read (ruling_of t) lines (topology_take topology t bytes is) refl

    right_ticks : (read : Read) (many : Bool) → script_of script ≡ Ok read → nat_lt 60000 (ticks_of read.commands) ≡ many → FilesComeTo topology script (run_by_ticks topology read many)
    right_ticks read true is many = (read, is, refl, too_many (ticks_of read.commands) many)
    right_ticks read false is many = right_file read (topology_of topology) (is, few (ticks_of read.commands) many) refl

    right_script : (r : Result Read ScriptFault) → script_of script ≡ r → FilesComeTo topology script (run_by_script topology r)
    right_script (Err (scripts.Line line cause)) is = is
    right_script (Err scripts.OutOfMemory) is = absurd (never_wanting script is)
    right_script (Ok read) is = right_ticks read (nat_lt 60000 (ticks_of read.commands)) is refl

    pub files_found : FilesComeTo topology script (run_of topology script)
    files_found = right_script (script_of script) refl

  -- and nothing else is said of them
  only_file : (read : Read) → IsScript script read → run_of topology script ≡ run_by_file read (topology_of topology)
  only_file read lines = ap (run_by_script topology) lines.0 ∙ ap (run_by_ticks topology read) (not_over (ticks_of read.commands) lines.1)

  only_rules : (t : Topology) (read : Read) → IsScript script read → IsFile topology t → run_of topology script ≡ run_by_rules t read (ruling_of t)
  only_rules t read lines file = only_file read lines ∙ ap (run_by_file read) (topology_again topology t file.0 file.1)

  pub files_only : (r : Result (Topology × Read) Halt) → FilesComeTo topology script r → run_of topology script ≡ r
  files_only (Ok (t, read)) is =
      only_rules t read is.lines is.file ∙ ap (run_by_rules t read) (whole_none t is.whole) ∙ ap (run_by_bindings t read) is.right
  files_only (Err (halts.Script line cause)) is = ap (run_by_script topology) is
  files_only (Err (halts.Ticks sum)) is =
      ap (run_by_script topology) is.1
      ∙ ap (run_by_ticks topology is.0) (over (ticks_of (is.0).commands) (subst (λ n. 60000 < n) is.2 is.3))
      ∙ ap (λ n. Err (halts.Ticks n)) (sym is.2)
  files_only (Err (halts.Broken fault)) is = only_file is.0.0 is.0.1 ∙ ap (run_by_file is.0.0) (topology_only topology fault is.2)
  files_only (Err (halts.Rule rule item)) is = only_rules is.1 is.0 is.2 is.3 ∙ ap (run_by_rules is.1 is.0) (breaks_some is.1 rule item is.4)
  files_only (Err (halts.Binding line)) is =
      only_rules is.1 is.0 is.2 is.3 ∙ ap (run_by_rules is.1 is.0) (whole_none is.1 is.4) ∙ ap (run_by_bindings is.1 is.0) is.5
  files_only (Err halts.OutOfMemory) is = absurd is

-- ---- a source

compiled_by : (text : List ℕ) (r : Result Topology SourceFault) → compiled_of text ≡ r → SourceComesTo text r
compiled_by text (Ok t) is = compiled_take text t is
compiled_by text (Err fault) is = text_fault_take text fault is

pub compiled_found : (text : List ℕ) → SourceComesTo text (compiled_of text)
compiled_found text = compiled_by text (compiled_of text) refl

-- ---- what loads brought

abbrev pub run_heard : List Heard → Result (Topology × Read) Halt
run_heard [] = Err halts.OutOfMemory
run_heard (Err fault ∷ heard) = Err halts.OutOfMemory
run_heard (Ok topology ∷ []) = Err halts.OutOfMemory
run_heard (Ok topology ∷ Err fault ∷ heard) = Err halts.OutOfMemory
run_heard (Ok topology ∷ Ok script ∷ heard) = run_of topology script

abbrev pub topology_heard : List Heard → Result Topology Halt
topology_heard [] = Err halts.OutOfMemory
topology_heard (Err fault ∷ heard) = Err halts.OutOfMemory
topology_heard (Ok bytes ∷ heard) = checked bytes

abbrev pub source_heard : List Heard → Result Topology SourceFault
source_heard [] = Err sources.OutOfMemory
source_heard (Err fault ∷ heard) = Err sources.OutOfMemory
source_heard (Ok text ∷ heard) = compiled_of text

abbrev pub trace_heard : List Heard → List Entry × Option TraceFault
trace_heard [] = ([], None)
trace_heard (Err fault ∷ heard) = ([], None)
trace_heard (Ok bytes ∷ heard) = trace_in bytes

abbrev pub findings_of : List Heard → Findings
findings_of heard = record { run = run_heard heard; topology = topology_heard heard; source = source_heard heard; trace = trace_heard heard }

-- the first load brought bytes
first_bytes : (bytes : List ℕ) (heard later : List Heard) → heard ≡ Ok bytes ∷ later → AllByRecursion BringsBytes heard → AreBytes bytes
first_bytes bytes heard later is brings =
    let all : AllByRecursion BringsBytes (Ok bytes ∷ later) = subst (λ (hs : List Heard). AllByRecursion BringsBytes hs) is brings in
    all.0

pub are_found : (heard : List Heard) → AllByRecursion BringsBytes heard → AreFindings heard (findings_of heard)
are_found heard brings =
    record {
      run = λ topology script is. subst (λ r. FilesComeTo topology script r) (sym (ap run_heard is)) (files_found topology script (first_bytes topology heard (Ok script ∷ []) is brings));
      topology = λ bytes is. subst (λ r. TopologyComesTo bytes r) (sym (ap topology_heard is)) (checked_found bytes (first_bytes bytes heard [] is brings));
      source = λ text is. subst (λ r. SourceComesTo text r) (sym (ap source_heard is)) (compiled_found text);
      trace = λ bytes is. subst (λ (t : List Entry × Option TraceFault). IsTraceOf bytes t.0 t.1) (sym (ap trace_heard is)) (has-trace bytes (first_bytes bytes heard [] is brings));
    }
