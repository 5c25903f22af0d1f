-- What stands in REPLIES.
use Rattle.std.proofs.Common.{◌≡◌, refl, sym, ◌∙◌, ap, subst, ℕ, Bool, true, false, List, [], ◌∷◌, ◌++◌, map, length, Option, Some, None, append_assoc, ◌+◌}
use Rattle.std.proofs.lemmas.Grind.{flat_map-append}
use Rattle.std.proofs.lemmas.List.{append-nil}
use Rattle.std.specs.List.{flat_map}
use Rattle.sof_desk.specs.Desk.{DeskMeaning, Put, Slot, Spoken, Did, Read, DeskLed, Acted, with_more, with_nothing}
use Rattle.mbox_link.specs.Calls.{Meaning}
use Rattle.ipc3_trace.specs.declared.entry.Entry.{Entry}
use Rattle.ipc3_trace.specs.Records.{record_bytes, records_bytes}
use Rattle.run_serve.specs.ServeWords.{ServeNames, wrong_line, too_long_line}
use Rattle.run_serve.specs.AnyCalls.{AnyCall, AtDesk, LedByCalls}
use Rattle.run_serve.specs.Reads.{requests_slot, asked, record_reads, joined_pieces}
use Rattle.run_serve.specs.Placed.{backs_of}
use Rattle.run_serve.specs.Serving.{replies_slot, ServeRound, doing, sent_calls, given_calls, round_calls, backs_in, served_entries, ServeEnd, Over, Stopped, TooLong, Unread, Unsent, unsent_calls, ending_calls, IsEnding, serve_opening, ServesAll}
use Rattle.run_serve.specs.Served.{unsent_bytes, Wrote}
use Rattle.run_serve.proofs.CallParts.{led-parts, desk-alone}
use Rattle.run_serve.proofs.GivenCalls.{desk-same}
use Rattle.run_serve.proofs.ServedRecords.{given-parts}

-- bytes after bytes
more-nothing : (o : Option (List ℕ)) → with_more o [] ≡ o
more-nothing None = refl
more-nothing (Some bytes) = ap Some (append-nil bytes)

more-twice : (o : Option (List ℕ)) (first rest : List ℕ) → with_more (with_more o first) rest ≡ with_more o (first ++ rest)
more-twice None first rest = refl
more-twice (Some bytes) first rest = ap Some (append_assoc bytes first rest)

-- bytes that were written after none
all-told : (o : Option (List ℕ)) (more bytes : List ℕ) → with_more (with_nothing o) more ≡ Some bytes → bytes ≡ more
all-told None more bytes is = absurd (cc is)
all-told (Some old) more bytes is = cc is

module _ {D P : Type 0} (means : DeskMeaning D) (dsp : Meaning P) where
  abbrev replies : D → Option (List ℕ)
  replies d = means.wrote d (Slot replies_slot)

  -- so many bytes more
  abbrev Adds : D → List ℕ → D → Type 0
  Adds d piece e = replies e ≡ with_more (replies d) piece

  adds-none : (d e : D) → replies e ≡ replies d → Adds d [] e
  adds-none d e same = same ∙ sym (more-nothing (replies d))

  adds-both : (d m e : D) (first rest : List ℕ) → Adds d first m → Adds m rest e → Adds d (first ++ rest) e
  adds-both d m e first rest one two = two ∙ ap (λ o. with_more o rest) one ∙ more-twice (replies d) first rest

  -- ---- reads, what is said and what is appended

  reads-same : (pieces : List (List ℕ)) (part : List ℕ) (d e : D) → DeskLed means d (record_reads part pieces) e → replies e ≡ replies d
  reads-same [] part d e led = ap replies led
  reads-same (piece ∷ pieces) part d e (m, read, led) = reads-same pieces (part ++ piece) m e led ∙ read.wrote (Slot replies_slot)

  said-same : (line : List ℕ) (done : Bool) (d e : D) → Acted means (Put Spoken line) done d e → replies e ≡ replies d
  said-same line done d e acted = acted.wrote (Slot replies_slot)

  appended-adds : (piece : List ℕ) (d e : D) → Acted means (Put (Slot replies_slot) piece) true d e → Adds d piece e
  appended-adds piece d e acted = acted.wrote (Slot replies_slot) ∙ ap (with_more (replies d)) acted.takes

  -- ---- records that were served

  sent-adds : (es : List Entry) (d : D) (p : P) (e : D) (q : P) → LedByCalls means dsp d p (flat_map sent_calls es) e q → Adds d (records_bytes es) e
  sent-adds [] d p e q led = adds-none d e (ap replies led.0)
  sent-adds (x ∷ es) d p e q (m, n, did, (m', n', did', led)) =
      let one = appended-adds (record_bytes x) d m did.0 in
      let same = said-same [] true m m' did'.0 in
      adds-both d m' e (record_bytes x) (records_bytes es) (same ∙ one) (sent-adds es m' n' e q led)

  given-same : (r : ServeRound) (d : D) (p : P) (e : D) (q : P) → LedByCalls means dsp d p (given_calls r) e q → replies e ≡ replies d
  given-same r d p e q led =
      let two = given-parts means dsp r d p e q led in
      ap replies (desk-same means dsp r.entry r.answer two.0 p e q two.2) ∙ reads-same r.pieces [] d two.0 two.1

  rounds-add : (rs : List ServeRound) (d : D) (p : P) (e : D) (q : P) → LedByCalls means dsp d p (flat_map round_calls rs) e q → Adds d (records_bytes (backs_in rs)) e
  rounds-add [] d p e q led = adds-none d e (ap replies led.0)
  rounds-add (r ∷ rs) d p e q led =
      let backs = backs_of r.entry r.answer in
      let two = led-parts means dsp (round_calls r) (flat_map round_calls rs) d p e q led in
      let one = led-parts means dsp (given_calls r) (flat_map sent_calls backs) d p two.desk two.device two.one in
      let here : Adds d (records_bytes backs) two.desk =
      sent-adds backs one.desk one.device two.desk two.device one.two ∙ ap (λ o. with_more o (records_bytes backs)) (given-same r d p one.desk one.device one.one) in
      subst (λ bytes. Adds d bytes e) (sym (flat_map-append record_bytes backs (backs_in rs)))
      (adds-both d two.desk e (records_bytes backs) (records_bytes (backs_in rs)) here (rounds-add rs two.desk two.device e q two.two))

  -- ---- the end

  -- a front of what is not sent
  abbrev AddsFront : D → List ℕ → D → Type 0
  AddsFront d whole e = (front rest : List ℕ) × Adds d front e × (front ++ rest ≡ whole)

  no-front : (d e : D) → replies e ≡ replies d → AddsFront d [] e
  no-front d e same = ([], [], adds-none d e same, refl)

  unsent-adds : (x : Entry) (appended : Bool) (d : D) (p : P) (e : D) (q : P) → LedByCalls means dsp d p (unsent_calls x appended) e q → AddsFront d (record_bytes x) e
  unsent-adds x false d p e q (m, n, did, led) =
      let acted : Acted means (Put (Slot replies_slot) (record_bytes x)) false d m = did.0 in
      (acted.part, acted.takes.0, ap replies led.0 ∙ acted.wrote (Slot replies_slot), acted.takes.1)
  unsent-adds x true d p e q (m, n, did, (m', n', did', led)) = (
    record_bytes x,
    [],
    ap replies led.0 ∙ said-same [] false m m' did'.0 ∙ appended-adds (record_bytes x) d m did.0,
    append-nil (record_bytes x),
  )

  unsent-all : (es : List Entry) (x : Entry) (appended : Bool) (d : D) (p : P) (e : D) (q : P) → es ≡ x ∷ [] → LedByCalls means dsp d p (flat_map (λ y. unsent_calls y appended) es) e q → AddsFront d (records_bytes es) e
  unsent-all es x appended d p e q is led =
      subst (λ ys. AddsFront d (records_bytes ys) e) (sym is)
      (subst (λ bytes. AddsFront d bytes e) (sym (append-nil (record_bytes x)))
      (unsent-adds x appended d p e q (subst (λ cs. LedByCalls means dsp d p cs e q) (append-nil (unsent_calls x appended)) (subst (λ ys. LedByCalls means dsp d p (flat_map (λ y. unsent_calls y appended) ys) e q) is led))))

  end-adds : (room at : ℕ) (on : Bool) (ending : ServeEnd) (status : ℕ) (d : D) (p : P) (e : D) (q : P) → IsEnding room at on ending status → LedByCalls means dsp d p (ending_calls at ending) e q → AddsFront d (unsent_bytes ending) e
  end-adds room at on (Over out) status d p e q ends (m, n, did, (m', n', said, led)) = no-front d e (ap replies led.0 ∙ said-same [] out m m' said.0 ∙ did.0.wrote (Slot replies_slot))
  end-adds room at on (Stopped pieces wrong said) status d p e q ends led =
      let two = led-parts means dsp (map AtDesk (record_reads [] pieces)) (AtDesk (Did (Put Spoken (wrong_line wrong at)) said) ∷ []) d p e q led in
      let first = desk-alone means dsp (record_reads [] pieces) d p two.desk two.device two.one in
      let last = desk-alone means dsp (Did (Put Spoken (wrong_line wrong at)) said ∷ []) two.desk two.device e q two.two in
      no-front d e (ap replies last.0.2 ∙ said-same (wrong_line wrong at) said two.desk last.0.0 last.0.1 ∙ reads-same pieces [] d two.desk first.0)
  end-adds room at on (TooLong said) status d p e q ends (m, n, did, led) = no-front d e (ap replies led.0 ∙ said-same too_long_line said d m did.0)
  end-adds room at on (Unread pieces) status d p e q ends led =
      let read = Read requests_slot (asked (joined_pieces pieces)) None in
      let two = led-parts means dsp (map AtDesk (record_reads [] pieces)) (AtDesk read ∷ []) d p e q led in
      let first = desk-alone means dsp (record_reads [] pieces) d p two.desk two.device two.one in
      let last = desk-alone means dsp (read ∷ []) two.desk two.device e q two.two in
      no-front d e (ap replies last.0.2 ∙ last.0.1.wrote (Slot replies_slot) ∙ reads-same pieces [] d two.desk first.0)
  end-adds room at on (Unsent r appended) status d p e q ends led =
      let backs = backs_of r.entry r.answer in
      let two = led-parts means dsp (given_calls r) (flat_map (λ y. unsent_calls y appended) backs) d p e q led in
      let x = ends.3 in
      let front = unsent-all backs x.0 appended two.desk two.device e q x.1 two.two in (
        front.0,
        front.1,
        front.2 ∙ ap (λ o. with_more o front.0) (given-same r d p two.desk two.device two.one),
        front.3 ∙ ap records_bytes (sym (append-nil backs)),
      )

  -- ---- all

  -- once REPLIES was created it is empty
  opening-empties : (names : ServeNames) (d : D) (p : P) (e : D) (q : P) → LedByCalls means dsp d p (map doing (serve_opening names)) e q → replies e ≡ with_nothing (replies d)
  opening-empties names d p e q (m, n, opened, (m', n', created, led)) =
      ap replies led.0 ∙ created.0.wrote (Slot replies_slot) ∙ ap with_nothing (opened.0.wrote (Slot replies_slot))

  pub was-written : (room : ℕ) (names : ServeNames) (calls : List AnyCall) (status : ℕ) (d : D) (p : P) (e : D) (q : P) → LedByCalls means dsp d p calls e q → (all : ServesAll room names calls status) → Wrote (replies e) all.served.rounds all.served.ending
  was-written room names calls status d p e q led all bytes told =
      let s = all.served in
      let at : ℕ = 0 + length (records_bytes (served_entries s.rounds)) in
      let two = led-parts means dsp (map doing (serve_opening names)) all.later d p e q (subst (λ cs. LedByCalls means dsp d p cs e q) all.calls_are led) in
      let more = led-parts means dsp (flat_map round_calls s.rounds) (ending_calls at s.ending) two.desk two.device e q (subst (λ cs. LedByCalls means dsp two.desk two.device cs e q) s.calls_are two.two) in
      let front = end-adds room at s.after s.ending status more.desk more.device e q s.ends more.two in
      let whole = adds-both two.desk more.desk e (records_bytes (backs_in s.rounds)) front.0 (rounds-add s.rounds two.desk two.device more.desk more.device more.one) front.2 in
      let is = whole ∙ ap (λ o. with_more o (records_bytes (backs_in s.rounds) ++ front.0)) (opening-empties names d p two.desk two.device two.one) in
      (front.0, front.1, all-told (replies d) (records_bytes (backs_in s.rounds) ++ front.0) bytes (sym is ∙ told), front.3)
