-- The records that were served are those of the file, up to its end or its first fault.
use Rattle.std.proofs.Common.{◌≡◌, inl, inr, refl, sym, ◌∙◌, ap, subst, ℕ, ◌+◌, ◌-◌, ◌<◌, ◌≤◌, Bool, true, false, List, [], ◌∷◌, ◌++◌, map, length, take, drop, Option, Some, cond, append_assoc, arith, add-zero, length-append}
use Rattle.std.proofs.lemmas.List.{append-nil, take-append-drop}
use Rattle.std.proofs.Math.Seq.{take-append_seam, drop-append-add}
use Rattle.std.specs.Prelude.{option_map}
use Rattle.std.specs.List.{flat_map, AllByRecursion}
use Rattle.std.specs.Int.{w32, from_le_bytes}
use Rattle.sof_base.specs.Slots.{word_at}
use Rattle.sof_desk.specs.Desk.{DeskMeaning, DeskLed, FrontOf, Did, Put, Spoken}
use Rattle.mbox_link.specs.Calls.{Meaning}
use Rattle.ipc3_trace.specs.declared.entry.Entry.{Entry}
use Rattle.ipc3_trace.specs.declared.kind.RecordKind.{RecordKind}
use Rattle.ipc3_trace.specs.declared.fault.TraceFault.{TraceFault}
use Rattle.ipc3_trace.specs.declared.fault.TraceFault.TheVariants.{Short, Kind, Size}
use Rattle.ipc3_trace.specs.Kinds.{record_numbered, takes_size, size_of_kind, size_after}
use Rattle.ipc3_trace.specs.Records.{IsEntry, record_bytes, records_bytes}
use Rattle.ipc3_trace.specs.TraceFaults.{HasHead, HasKind, IsFaultAt}
use Rattle.ipc3_trace.specs.WholeTraces.{IsOverAt}
use Rattle.ipc3_trace.proofs.HeadLaws.{word-front}
use Rattle.run_serve.specs.declared.lines.Wrong.TheVariants.{Broken, Order}
use Rattle.run_serve.specs.ServeWords.{ServeNames, fault_at, wrong_line}
use Rattle.run_serve.specs.AnyCalls.{AtDesk, LedByCalls}
use Rattle.run_serve.specs.Reads.{requests_slot, asked, record_reads, Brings, joined_pieces}
use Rattle.run_serve.specs.Placed.{backs_of}
use Rattle.run_serve.specs.Serving.{ServeRound, doing, sent_calls, round_calls, AreRounds, served_entries, ServeEnd, Over, Stopped, TooLong, Unread, Unsent, ending_calls, IsEnding, serve_opening}
use Rattle.run_serve.specs.ServeLaws.{fault_of_end, IsReadThrough, ServedTrace}
use Rattle.run_serve.proofs.CallParts.{led-parts, desk-alone}
use Rattle.run_serve.proofs.RecordReads.{asked-head, asked-body}
use Rattle.run_serve.proofs.GivenCalls.{desk-same}
use Rattle.run_serve.proofs.ServedRecords.{round-parts}

-- ---- a fault after records

word-after : (front b rest : List ℕ) (k : ℕ) → k + 4 ≤ length b → word_at (front ++ (b ++ rest)) (length front + k) ≡ word_at b k
unfolding word_at
word-after front b rest k there = ap (λ xs. from_le_bytes w32 (take 4 xs)) (drop-append-add front (b ++ rest) k) ∙ word-front b rest k there

module _ (front b rest : List ℕ) where
  abbrev whole : List ℕ
  whole = front ++ (b ++ rest)

  abbrev at : ℕ
  at = length front

  long : length whole ≡ at + (length b + length rest)
  long = omega (arith, length-append front (b ++ rest), length-append b rest)

  head-after : (number size : ℕ) → HasHead b 0 number size → HasHead whole at number size
  head-after number size has = record {
    there = omega (arith, long, has.there);
    number_is = has.number_is ∙ sym (word-after front b rest 0 (omega (arith, has.there))) ∙ ap (word_at whole) (add-zero at);
    size_is = has.size_is ∙ sym (word-after front b rest 4 (omega (arith, has.there)));
  }

  kind-after : (kind : RecordKind) (size : ℕ) → HasKind b 0 kind size → HasKind whole at kind size
  kind-after kind size has = record { number = has.number; head = head-after has.number size has.head; known = has.known }

  -- so many bytes are asked for after a kind and size that may stand together
  body-asks : (kind : RecordKind) (size : ℕ) → HasKind b 0 kind size → takes_size kind size ≡ true → asked b ≡ (8 + size) - length b
  body-asks kind size has takes =
      let known : record_numbered (word_at b 0) ≡ Some kind = ap record_numbered (sym has.head.number_is) ∙ has.known in
      let is : size_after b ≡ size = (λ i. size_of_kind (known i) (sym has.head.size_is i)) ∙ ap (λ t. cond t size 0) takes in
      asked-body b (omega (arith, has.head.there)) ∙ ap (λ n. (8 + n) - length b) is

  fault-after : (fault : TraceFault) → (0 < asked b → rest ≡ []) → IsFaultAt b 0 fault → IsFaultAt whole at (fault_at at fault)
  fault-after (Short place) over (same, inl cut) =
      let none : length rest ≡ 0 = ap length (over (omega (arith, asked-head b (omega (arith, cut.1)), cut.1))) in
      (refl, inl (omega (arith, long, cut.0), omega (arith, long, cut.1, none)))
  fault-after (Short place) over (same, inr (kind, size, has, takes, cut)) =
      let none : length rest ≡ 0 = ap length (over (omega (arith, body-asks kind size has takes, cut))) in
      (refl, inr (kind, size, kind-after kind size has, takes, omega (arith, long, cut, none)))
  fault-after (Kind place number) over (same, (size, head), unknown) = (refl, (size, head-after number size head), unknown)
  fault-after (Size place) over (same, (kind, size, has, wrong)) = (refl, (kind, size, kind-after kind size has, wrong))

-- ---- what is read

rounds-are : (room : ℕ) (on : Bool) (rs : List ServeRound) (after : Bool) → AreRounds room on rs after → AllByRecursion IsEntry (served_entries rs)
rounds-are room on [] after are = tt
rounds-are room on (r ∷ rs) after are = (are.0.is, rounds-are room _ rs after are.1)

module _ {D P : Type 0} (means : DeskMeaning D) (dsp : Meaning P) where
  abbrev unread : D → Option (List ℕ)
  unread d = means.unread d requests_slot

  -- pieces are a front of what is still to be read, and all of it where more was asked for
  record Came (pieces : List (List ℕ)) (all left : List ℕ) (e : D) : Type 0 where
    rest : List ℕ
    front : left ≡ joined_pieces pieces ++ rest
    still : unread e ≡ Some rest
    over : 0 < asked all → rest ≡ []

  came : (pieces : List (List ℕ)) (part all left : List ℕ) (d e : D) → Brings part pieces all → DeskLed means d (record_reads part pieces) e → unread d ≡ Some left → (all ≡ part ++ joined_pieces pieces) × Came pieces all left e
  came [] part all left d e (none, is) led there = (is ∙ sym (append-nil part), record { rest = left; front = refl; still = ap unread led ∙ there; over = λ more. absurd (omega (arith, more, ap asked is, none)) })
  came (piece ∷ pieces) part all left d e (more, inl (none, last, is)) (m, read, led) there =
      let front : FrontOf left piece = read.answers.1 left there in
      let ends : left ≡ [] = front.ends none in
      let same : e ≡ m = subst (λ ps. DeskLed means m (record_reads (part ++ piece) ps) e) last led in
      let joined : joined_pieces (piece ∷ pieces) ≡ [] = λ i. none i ++ joined_pieces (last i) in (
        is ∙ sym (append-nil part) ∙ ap (λ xs. part ++ xs) (sym joined),
        record {
          rest = [];
          front = ends ∙ ap (λ xs. xs ++ []) (sym joined);
          still = ap unread same ∙ read.unread requests_slot ∙ ap (option_map (drop (length piece))) there ∙ (λ i. Some (drop (length (none i)) (ends i)));
          over = λ more. refl;
        },
      )
  came (piece ∷ pieces) part all left d e (more, inr (some, fits, brings)) (m, read, led) there =
      let front : FrontOf left piece = read.answers.1 left there in
      let left' = drop (length piece) left in
      let two : left ≡ piece ++ left' = sym (take-append-drop (length piece) left) ∙ ap (λ xs. xs ++ left') (sym front.front) in
      let later = came pieces (part ++ piece) all left' m e brings led (read.unread requests_slot ∙ ap (option_map (drop (length piece))) there) in (
        later.0 ∙ append_assoc part piece (joined_pieces pieces),
        record {
          rest = later.1.rest;
          front = two ∙ ap (λ xs. piece ++ xs) later.1.front ∙ sym (append_assoc piece (joined_pieces pieces) later.1.rest);
          still = later.1.still;
          over = later.1.over;
        },
      )

  sent-unread : (es : List Entry) (d : D) (p : P) (e : D) (q : P) → LedByCalls means dsp d p (flat_map sent_calls es) e q → unread e ≡ unread d
  sent-unread [] d p e q led = ap unread led.0
  sent-unread (x ∷ es) d p e q (m, n, did, (m', n', did', led)) = sent-unread es m' n' e q led ∙ did'.0.unread requests_slot ∙ did.0.unread requests_slot

  -- the records of the file that were served, and what comes after them
  record Left (es : List Entry) (left : List ℕ) (e : D) : Type 0 where
    rest : List ℕ
    front : left ≡ records_bytes es ++ rest
    still : unread e ≡ Some rest

  rounds-left : (room : ℕ) (on : Bool) (rs : List ServeRound) (after : Bool) (left : List ℕ) (d : D) (p : P) (e : D) (q : P) → AreRounds room on rs after → LedByCalls means dsp d p (flat_map round_calls rs) e q → unread d ≡ Some left → Left (served_entries rs) left e
  rounds-left room on [] after left d p e q are led there = record { rest = left; front = refl; still = ap unread led.0 ∙ there }
  rounds-left room on (r ∷ rs) after left d p e q are led there =
      let two = led-parts means dsp (round_calls r) (flat_map round_calls rs) d p e q led in
      let s = round-parts means dsp r d p two.desk two.device two.one in
      let c = came r.pieces [] (record_bytes r.entry) left d s.mid are.0.came s.read there in
      let same : unread two.desk ≡ Some c.1.rest = sent-unread (backs_of r.entry r.answer) s.last two.device two.desk two.device s.sent ∙ ap unread (desk-same means dsp r.entry r.answer s.mid p s.last two.device s.called) ∙ c.1.still in
      let later = rounds-left room _ rs after c.1.rest two.desk two.device e q are.1 two.two same in
      record {
        rest = later.rest;
        front = c.1.front ∙ (λ i. sym c.0 i ++ later.front i) ∙ sym (append_assoc (record_bytes r.entry) (records_bytes (served_entries rs)) later.rest);
        still = later.still;
      }

  -- ---- the end

  -- bytes are over after their front, or at fault there
  abbrev Ends : List ℕ → List ℕ → ServeEnd → Type 0
  Ends front rest ending = IsOverAt (front ++ rest) (length front) (fault_of_end (length front) ending)

  end-is : (room at : ℕ) (on : Bool) (ending : ServeEnd) (status : ℕ) (front rest : List ℕ) (d : D) (p : P) (e : D) (q : P) → IsEnding room at on ending status → IsReadThrough ending → LedByCalls means dsp d p (ending_calls at ending) e q → unread d ≡ Some rest → Ends front rest ending
  end-is room at on (Over out) status front rest d p e q ends through (m, n, did, led) there =
      let none : rest ≡ [] = (did.0.answers.1 rest there).ends refl in
      omega (arith, length-append front rest, ap length none)
  end-is room at on (Stopped pieces (Broken fault) said) status front rest d p e q (is, before, (b, brings, wrong)) through led there =
      let two = led-parts means dsp (map AtDesk (record_reads [] pieces)) (AtDesk (Did (Put Spoken (wrong_line (Broken fault) at)) said) ∷ []) d p e q led in
      let first = desk-alone means dsp (record_reads [] pieces) d p two.desk two.device two.one in
      let c = came pieces [] b rest d two.desk brings first.0 there in
      let all : rest ≡ b ++ c.1.rest = c.1.front ∙ ap (λ xs. xs ++ c.1.rest) (sym c.0) in
      subst (λ xs. Ends front xs (Stopped pieces (Broken fault) said)) (sym all)
      (omega (arith, length-append front (b ++ c.1.rest)), fault-after front b c.1.rest fault c.1.over wrong)
  end-is room at on (Stopped pieces Order said) status front rest d p e q ends through led there = absurd through
  end-is room at on (TooLong said) status front rest d p e q ends through led there = absurd through
  end-is room at on (Unread pieces) status front rest d p e q ends through led there = absurd through
  end-is room at on (Unsent r appended) status front rest d p e q ends through led there = absurd through

  opening-opens : (names : ServeNames) (d : D) (p : P) (e : D) (q : P) → LedByCalls means dsp d p (map doing (serve_opening names)) e q → unread e ≡ means.holds d names.requests
  opening-opens names d p e q (m, n, opened, (m', n', created, led)) =
      ap unread led.0 ∙ created.0.unread requests_slot ∙ opened.0.unread requests_slot

pub served-trace : {D P : Type 0} (means : DeskMeaning D) (dsp : Meaning P) → ServedTrace means dsp
served-trace means dsp names old new p q status bytes done all told through =
    let s = all.served in
    let es = served_entries s.rounds in
    let at : ℕ = 0 + length (records_bytes es) in
    let two = led-parts means dsp (map doing (serve_opening names)) all.later old p new q (subst (λ cs. LedByCalls means dsp old p cs new q) all.calls_are done.led) in
    let more = led-parts means dsp (flat_map round_calls s.rounds) (ending_calls at s.ending) two.desk two.device new q (subst (λ cs. LedByCalls means dsp two.desk two.device cs new q) s.calls_are two.two) in
    let left = rounds-left means dsp (dsp.most p) false s.rounds s.after bytes two.desk two.device more.desk more.device s.are more.one (opening-opens means dsp names old p two.desk two.device two.one ∙ told) in
    let ends = end-is means dsp (dsp.most p) at s.after s.ending status (records_bytes es) left.rest more.desk more.device new q s.ends through more.two left.still in
    record {
      are = rounds-are (dsp.most p) false s.rounds s.after s.are;
      stand = ap (take (length (records_bytes es))) left.front ∙ take-append_seam (records_bytes es) left.rest;
      ends = subst (λ xs. IsOverAt xs (length (records_bytes es)) (fault_of_end (length (records_bytes es)) s.ending)) (sym left.front) ends;
    }
