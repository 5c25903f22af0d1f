-- The status by the bytes of the files.
use Rattle.std.proofs.Common.{Bool, ◌≡◌, ◌⊎◌, inl, inr, ℕ, ◌≤◌, true, List, [], ◌∷◌, length, Option, Some, None, Result, Ok, Err, sym, ◌∙◌, ap, subst, codes}
use Rattle.std.specs.List.{last_or}
use Rattle.sof_desk.specs.Desk.{DeskMeaning, Put, Spoken, DeskCall, Load, Did, DeskLed}
use Rattle.tplg_model.specs.declared.block.Topology.{Topology}
use Rattle.tplg_graph.specs.PlanOf.{plan_of}
use Rattle.sof_script.specs.Commands.{Read}
use Rattle.sof_script.specs.Tasks.{Turn}
use Rattle.run_desk.specs.declared.preparing.Halt.{Halt}
use Rattle.run_words.specs.Words.{Form}
use Rattle.run_desk.specs.Todo.{Todo, Ask, Free, Says, DoneBy}
use Rattle.run_desk.specs.Lines.{halt_line, halt_status}
use Rattle.run_desk.specs.Prepared.{prepared}
use Rattle.run_play.specs.Play.{prepared_todo, play}
use Rattle.run_desk.specs.TopologyBytes.{AreBytes}
use Rattle.sof_run.specs.ComeTo.{IsLong, FilesComeTo}
use Rattle.run_desk.specs.Verdicts.{Fit, MakeRun, IsHalt, Verdict}
use Rattle.run_desk.proofs.Statuses.{IsLate}
use Rattle.run_desk.proofs.SaidLines.{said}
use Rattle.run_desk.proofs.AskedFiles.{Asked, Brought, Longer, Missing, Broken, unless_cut, no_memory, where_free, asked}
use Rattle.sof_run.proofs.Throughout.{ready_ends}
use Rattle.sof_run.proofs.Findings.{run_of, as_prepared, prepared_same, files_found}

last_more : (call other : DeskCall) (calls : List DeskCall) → last_or None calls ≡ Some other → last_or None (call ∷ calls) ≡ Some other
last_more call other [] is = absurd (cc is)
last_more call other (first ∷ calls) is = is

module _ (topology script : List ℕ) where
  -- one call more before
  more : (call : DeskCall) (calls : List DeskCall) (status : ℕ) → Verdict topology script calls status → Verdict topology script (call ∷ calls) status
  more call calls status (inl failed) = inl failed
  more call calls status (inr (inl long)) = inr (inl long)
  more call calls status (inr (inr (inl h))) = inr (inr (inl (h.0, h.1, h.2, h.3, last_more call (Did (Put Spoken (halt_line h.0)) true) calls h.4)))
  more call calls status (inr (inr (inr rest))) = inr (inr (inr rest))

  module _ (fit : Fit topology script) (bytes : AreBytes topology) where
    -- the files make no run, or they make one
    stops : (why : Halt) (turns : List Turn) (calls : List DeskCall) (status : ℕ) → IsHalt topology script why → Says (halt_line why) (halt_status why) turns calls status → Verdict topology script calls status
    stops why turns calls status is says =
        unless_cut status (said (halt_line why) (halt_status why) turns calls status says) (λ done. inr (inl (why, done.0, fit, is, ap (λ cs. last_or None cs) done.1)))

    runs : (t : Topology) (read : Read) (calls : List DeskCall) (status : ℕ) → MakeRun topology script t read → IsLate status ⊎ (status ≡ 7) → Verdict topology script calls status
    runs t read calls status is (inl (inl zero)) = inr (inr (inr (zero, fit, (t, (read, is)))))
    runs t read calls status is (inl (inr three)) = inl (inl three)
    runs t read calls status is (inr seven) = inl (inr seven)

    -- by what the files come to
    module _ (on_use : Bool) (heap : ℕ) (trace : Option (List ℕ)) (turns : List Turn) (calls : List DeskCall) (status : ℕ) where
      by_found : (r : Result (Topology × Read) Halt) → FilesComeTo topology script r → DoneBy (prepared_todo on_use heap trace (as_prepared r)) turns calls status → Verdict topology script calls status
      by_found (Ok (t, read)) is goes = runs t read calls status is (ready_ends on_use heap trace (plan_of t) read turns calls status goes)
      by_found (Err why) is goes = stops why turns calls status is goes

      free : DoneBy (Free (prepared_todo on_use heap trace (prepared topology script))) turns calls status → Verdict topology script calls status
      free goes =
          where_free turns calls status goes
          (λ done. by_found (run_of topology script) (files_found topology script bytes) (subst (λ files. DoneBy (prepared_todo on_use heap trace files) turns calls status) (prepared_same topology script) done))

  module _ {D : Type 0} (means : DeskMeaning D) where
    -- a load of a file whose bytes are stated
    module _ (name line bytes : List ℕ) (next : List ℕ → Todo) (too_long : IsLong bytes → IsLong topology ⊎ IsLong script) where
      asks : (turns : List Turn) (calls : List DeskCall) (status : ℕ) (d e : D) → means.holds d name ≡ Some bytes → DoneBy (Ask name 1048576 line next) turns calls status → DeskLed means d calls e
          → (length bytes ≤ 1048576 → AreBytes bytes → (later : List DeskCall) (m : D) → ((other : List ℕ) → means.holds m other ≡ means.holds d other) → DoneBy (next bytes) turns later status → DeskLed means m later e → Verdict topology script later status)
          → Verdict topology script calls status
      asks turns calls status d e told goes led rest = by (asked name 1048576 line next turns means bytes calls status d e (inl told) goes led)
        where
          by : Asked name 1048576 line next turns means bytes calls status d e → Verdict topology script calls status
          by (Brought later m is short are kept holds goes led) =
              subst (λ cs. Verdict topology script cs status) (sym is) (more (Load name 1048576 (Ok bytes)) later status (rest short are later m holds goes led))
          by (Longer later is over says) = unless_cut status (said line 5 turns later status says) (λ five. inl (five.0, too_long over))
          by (Missing later m kept says led) = inl (no_memory turns later status says)
          by (Broken kept three none) = inl (inl three)

    -- the bytes of both files are stated
    pub judge : (form : Form) (turns : List Turn) (calls : List DeskCall) (status : ℕ) (d e : D) → means.holds d form.topology ≡ Some topology → means.holds d form.script ≡ Some script → DoneBy (play form) turns calls status → DeskLed means d calls e → Verdict topology script calls status
    judge form turns calls status d e first second goes led =
        asks form.topology (codes "too long topology\n") topology (λ xs. Ask form.script 1048576 (codes "too long script\n") (λ ys. Free (prepared_todo form.on_use form.heap form.trace (prepared xs ys)))) (λ is. inl is) turns calls status d e first goes led (λ short bytes later m held goes led.
        asks form.script (codes "too long script\n") script (λ ys. Free (prepared_todo form.on_use form.heap form.trace (prepared topology ys))) (λ is. inr is) turns later status m e (held form.script ∙ second) goes led (λ shorter others last n kept goes led.
        free (short, shorter) bytes form.on_use form.heap form.trace turns last status goes))
