-- Status 3 comes only where the desk's count rose.
use Rattle.std.proofs.Common.{◌≡◌, inl, inr, refl, ap, subst, ℕ, ◌+◌, ◌≤◌, Bool, true, false, List, [], ◌∷◌, ◌++◌, map, length, None, arith}
use Rattle.std.proofs.lemmas.List.{append-nil}
use Rattle.std.specs.List.{flat_map}
use Rattle.sof_desk.specs.Desk.{DeskMeaning, DeskAct, DeskCall, Load, Did, Read, Put, Slot, Spoken, Does, CountRose}
use Rattle.mbox_link.specs.Calls.{Meaning}
use Rattle.ipc3_trace.specs.declared.entry.Entry.{Entry}
use Rattle.ipc3_trace.specs.Records.{record_bytes, records_bytes}
use Rattle.run_serve.specs.ServeWords.{ServeNames, wrong_line, too_long_line}
use Rattle.run_serve.specs.AnyCalls.{AnyCall, AtDesk, AtDevice, LedByCalls}
use Rattle.run_serve.specs.Reads.{requests_slot, asked, record_reads, joined_pieces}
use Rattle.run_serve.specs.Placed.{backs_of}
use Rattle.run_serve.specs.Serving.{replies_slot, doing, given_calls, round_calls, served_entries, ServeEnd, Over, Stopped, TooLong, Unread, Unsent, unsent_calls, last_read, ending_calls, IsEnding, serve_opening, Unopened, ServedBy}
use Rattle.run_serve.proofs.CallParts.{led-parts}

-- a count rises that rises after calls which keep it, or before them
rises-after : (a b c : ℕ) → a ≤ b → CountRose b c → CountRose a c
rises-after a b c kept (inl less) = inl (omega (arith, kept, less))
rises-after a b c kept (inr last) = inr last

rises-before : (a b c : ℕ) → CountRose a b → b ≤ c → CountRose a c
rises-before a b c (inl less) kept = inl (omega (arith, kept, less))
rises-before a b c (inr last) kept = inr (omega (arith, kept, last))

module _ {D P : Type 0} (means : DeskMeaning D) (dsp : Meaning P) where
  call-kept : (call : DeskCall) (d e : D) → Does means call d e → means.faults d ≤ means.faults e
  call-kept (Load name limit heard) d e did = did.kept.faults
  call-kept (Did act done) d e did = did.kept.faults
  call-kept (Read slot size got) d e did = did.kept.faults

  calls-kept : (calls : List AnyCall) (d : D) (p : P) (e : D) (q : P) → LedByCalls means dsp d p calls e q → means.faults d ≤ means.faults e
  calls-kept [] d p e q led = omega (arith, ap means.faults led.0)
  calls-kept (AtDesk call ∷ calls) d p e q (m, n, did, led) = omega (arith, call-kept call d m did.0, calls-kept calls m n e q led)
  calls-kept (AtDevice call ∷ calls) d p e q (m, n, did, led) = omega (arith, ap means.faults did.1, calls-kept calls m n e q led)

  -- a call failed, which comes first, or after others
  abbrev Rises : D → D → Type 0
  Rises d e = CountRose (means.faults d) (means.faults e)

  first-failed : (act : DeskAct) (calls : List AnyCall) (d : D) (p : P) (e : D) (q : P) → LedByCalls means dsp d p (AtDesk (Did act false) ∷ calls) e q → Rises d e
  first-failed act calls d p e q (m, n, did, led) = rises-before (means.faults d) (means.faults m) (means.faults e) (did.0.failed refl) (calls-kept calls m n e q led)

  first-unread : (slot size : ℕ) (calls : List AnyCall) (d : D) (p : P) (e : D) (q : P) → LedByCalls means dsp d p (AtDesk (Read slot size None) ∷ calls) e q → Rises d e
  first-unread slot size calls d p e q (m, n, did, led) = rises-before (means.faults d) (means.faults m) (means.faults e) (did.0.failed refl) (calls-kept calls m n e q led)

  later-rises : (first rest : List AnyCall) (d : D) (p : P) (e : D) (q : P) → ((m : D) (n : P) → LedByCalls means dsp m n rest e q → Rises m e) → LedByCalls means dsp d p (first ++ rest) e q → Rises d e
  later-rises first rest d p e q rises led =
      let two = led-parts means dsp first rest d p e q led in
      rises-after (means.faults d) (means.faults two.desk) (means.faults e) (calls-kept first d p two.desk two.device two.one) (rises two.desk two.device two.two)

  -- ---- the files, and the end

  unopened-rises : (acts : List DeskAct) (calls : List AnyCall) (d : D) (p : P) (e : D) (q : P) → Unopened acts calls → LedByCalls means dsp d p calls e q → Rises d e
  unopened-rises [] calls d p e q un led = absurd un
  unopened-rises (act ∷ acts) calls d p e q (inl is) led = first-failed act [] d p e q (subst (λ cs. LedByCalls means dsp d p cs e q) is led)
  unopened-rises (act ∷ acts) calls d p e q (inr (later, is, un)) led =
      later-rises (doing act ∷ []) later d p e q (λ m n led. unopened-rises acts later m n e q un led) (subst (λ cs. LedByCalls means dsp d p cs e q) is led)

  unsent-rises : (x : Entry) (appended : Bool) (d : D) (p : P) (e : D) (q : P) → LedByCalls means dsp d p (unsent_calls x appended) e q → Rises d e
  unsent-rises x false d p e q led = first-failed (Put (Slot replies_slot) (record_bytes x)) [] d p e q led
  unsent-rises x true d p e q led =
      later-rises (doing (Put (Slot replies_slot) (record_bytes x)) ∷ []) (AtDesk (Did (Put Spoken []) false) ∷ []) d p e q (λ m n led. first-failed (Put Spoken []) [] m n e q led) led

  end-rises : (room at : ℕ) (on : Bool) (ending : ServeEnd) (d : D) (p : P) (e : D) (q : P) → IsEnding room at on ending 3 → LedByCalls means dsp d p (ending_calls at ending) e q → Rises d e
  end-rises room at on (Over true) d p e q ends led = absurd (cc (ends.0))
  end-rises room at on (Over false) d p e q ends led =
      later-rises (last_read ∷ []) (AtDesk (Did (Put Spoken []) false) ∷ []) d p e q (λ m n led. first-failed (Put Spoken []) [] m n e q led) led
  end-rises room at on (Stopped pieces wrong true) d p e q ends led = absurd (cc (ends.0))
  end-rises room at on (Stopped pieces wrong false) d p e q ends led =
      later-rises (map AtDesk (record_reads [] pieces)) (AtDesk (Did (Put Spoken (wrong_line wrong at)) false) ∷ []) d p e q (λ m n led. first-failed (Put Spoken (wrong_line wrong at)) [] m n e q led) led
  end-rises room at on (TooLong true) d p e q ends led = absurd (cc (ends.0))
  end-rises room at on (TooLong false) d p e q ends led = first-failed (Put Spoken too_long_line) [] d p e q led
  end-rises room at on (Unread pieces) d p e q ends led =
      let last = asked (joined_pieces pieces) in
      later-rises (map AtDesk (record_reads [] pieces)) (AtDesk (Read requests_slot last None) ∷ []) d p e q (λ m n led. first-unread requests_slot last [] m n e q led) led
  end-rises room at on (Unsent r appended) d p e q ends led =
      let backs = backs_of r.entry r.answer in
      let x = ends.3 in
      later-rises (given_calls r) (flat_map (λ y. unsent_calls y appended) backs) d p e q
      (λ m n led. unsent-rises x.0 appended m n e q
      (subst (λ cs. LedByCalls means dsp m n cs e q) (append-nil (unsent_calls x.0 appended)) (subst (λ ys. LedByCalls means dsp m n (flat_map (λ y. unsent_calls y appended) ys) e q) x.1 led)))
      led

  -- ---- all

  pub three-rises : (room : ℕ) (names : ServeNames) (calls : List AnyCall) (status : ℕ) (d : D) (p : P) (e : D) (q : P) → ServedBy room names calls status → LedByCalls means dsp d p calls e q → status ≡ 3 → Rises d e
  three-rises room names calls status d p e q (inl un) led three = unopened-rises (serve_opening names) calls d p e q un.1 led
  three-rises room names calls status d p e q (inr all) led three =
      let s = all.served in
      let at : ℕ = 0 + length (records_bytes (served_entries s.rounds)) in
      later-rises (map doing (serve_opening names)) all.later d p e q
      (λ m n led. later-rises (flat_map round_calls s.rounds) (ending_calls at s.ending) m n e q
      (λ m n led. end-rises room at s.after s.ending m n e q (subst (IsEnding room at s.after s.ending) three s.ends) led)
      (subst (λ cs. LedByCalls means dsp m n cs e q) s.calls_are led))
      (subst (λ cs. LedByCalls means dsp d p cs e q) all.calls_are led)
