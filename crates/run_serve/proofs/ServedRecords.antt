-- Records that are left, served, make all of them served.
use Rattle.std.proofs.Common.{◌≡◌, inl, inr, refl, sym, ◌∙◌, subst, ℕ, ◌+◌, ◌<◌, ◌≤◌, Bool, List, [], ◌∷◌, ◌++◌, map, length, take, arith, if◌then◌else◌}
use Rattle.std.specs.Prelude.{is_some}
use Rattle.std.specs.List.{flat_map}
use Rattle.sof_desk.specs.Desk.{DeskMeaning, DeskCall, Load, Did, Read, Put, Spoken, DeskLed}
use Rattle.mbox_link.specs.Calls.{Meaning}
use Rattle.ipc3_trace.specs.declared.entry.Entry.{Entry}
use Rattle.ipc3_trace.specs.Records.{record_bytes}
use Rattle.run_desk.specs.Todo.{Stop, Says, Played}
use Rattle.run_serve.specs.declared.lines.Wrong.{Wrong as Misfit}
use Rattle.run_serve.specs.declared.serving.Halt.TheVariants.{Wrong, Desk}
use Rattle.run_serve.specs.ServeWords.{wrong_line, too_long_line}
use Rattle.run_serve.specs.AnyCalls.{AnyCall, AtDesk, AtDevice, LedByCalls}
use Rattle.run_serve.specs.Reads.{record_reads}
use Rattle.run_serve.specs.Placed.{device_calls_of, backs_of}
use Rattle.run_serve.specs.Serving.{too_many_bytes, ServeRound, sent_calls, given_calls, round_calls, IsRound, Over, Stopped, TooLong, Unread, Unsent, last_read, ending_calls, ServedFrom}
use Rattle.run_serve.specs.Sent.{LetOut}
use Rattle.run_serve.specs.Halted.{ServedOne, HaltedAt}
use Rattle.run_serve.proofs.CallParts.{led-append, led-parts, at-desk, desk-alone}
use Rattle.run_serve.proofs.GivenCalls.{After, then-is}
use Rattle.run_serve.proofs.Rounds.{ends-now, serves-more, some-bytes}

module _ {D P : Type 0} (means : DeskMeaning D) (dsp : Meaning P) where
  -- ---- the device over a record's calls

  -- what went out leaves the device as it is
  pub sent-still : (es : List Entry) (d : D) (p : P) (e : D) (q : P) → LedByCalls means dsp d p (flat_map sent_calls es) e q → q ≡ p
  sent-still [] d p e q led = led.1
  sent-still (x ∷ es) d p e q (m, n, did, (m', n', did', led)) = sent-still es m' n' e q led ∙ did'.1 ∙ did.1

  -- what a record's calls did: its reads, its calls on the device, and what went out
  pub record RoundCalls (r : ServeRound) (d : D) (p : P) (e : D) (q : P) : Type 0 where
    pub mid : D
    pub last : D
    pub read : DeskLed means d (record_reads [] r.pieces) mid
    pub called : LedByCalls means dsp mid p (map AtDevice (device_calls_of r.entry r.answer)) last q
    pub sent : LedByCalls means dsp last q (flat_map sent_calls (backs_of r.entry r.answer)) e q

  pub given-parts : (r : ServeRound) (d : D) (p : P) (e : D) (q : P) → LedByCalls means dsp d p (given_calls r) e q → (mid : D) × DeskLed means d (record_reads [] r.pieces) mid × LedByCalls means dsp mid p (map AtDevice (device_calls_of r.entry r.answer)) e q
  given-parts r d p e q led =
      let two = led-parts means dsp (map AtDesk (record_reads [] r.pieces)) (map AtDevice (device_calls_of r.entry r.answer)) d p e q led in
      let first = desk-alone means dsp (record_reads [] r.pieces) d p two.desk two.device two.one in
      (two.desk, first.0, subst (λ y. LedByCalls means dsp two.desk y (map AtDevice (device_calls_of r.entry r.answer)) e q) first.1 two.two)

  pub round-parts : (r : ServeRound) (d : D) (p : P) (e : D) (q : P) → LedByCalls means dsp d p (round_calls r) e q → RoundCalls r d p e q
  round-parts r d p e q led =
      let two = led-parts means dsp (given_calls r) (flat_map sent_calls (backs_of r.entry r.answer)) d p e q led in
      let first = given-parts r d p two.desk two.device two.one in
      let same = sent-still (backs_of r.entry r.answer) two.desk two.device e q two.two in
      record {
        mid = first.0;
        last = two.desk;
        read = first.1;
        called = subst (λ y. LedByCalls means dsp first.0 p (map AtDevice (device_calls_of r.entry r.answer)) two.desk y) (sym same) first.2;
        sent = subst (λ y. LedByCalls means dsp two.desk y (flat_map sent_calls (backs_of r.entry r.answer)) e q) (sym same) two.two;
      }

  pub round-after : (r : ServeRound) (d : D) (p : P) (e : D) (q : P) → IsRound (dsp.most p) (is_some (dsp.on p)) r → LedByCalls means dsp d p (round_calls r) e q → After means dsp r.entry p q
  round-after r d p e q is led = let s = round-parts r d p e q led in then-is means dsp r.entry r.answer s.mid p s.last q is.may s.called

  -- ---- a line that was said

  record SaidLine (line : List ℕ) (n status : ℕ) (d e : D) : Type 0 where
    done : Bool
    is : status ≡ (if done then n else 3)
    led : DeskLed means d (Did (Put Spoken line) done ∷ []) e

  said-line : (line : List ℕ) (n status : ℕ) (d e : D) → Played means (Stop line n) d [] status e → SaidLine line n status d e
  said-line line n status d e played = by played.calls played.goes played.led
    where
      by : (calls : List DeskCall) → Says line n [] calls status → DeskLed means d calls e → SaidLine line n status d e
      by [] says led = absurd says
      by (Load name limit heard ∷ calls) says led = absurd says
      by (Read slot size got ∷ calls) says led = absurd says
      by (Did act done ∷ calls) says led = record {
        done = done;
        is = says.3;
        led = subst (λ cs. DeskLed means d cs e) (λ i. Did (says.0 i) done ∷ says.2 i) led;
      }

  -- ---- from a place on

  -- records from a place on are served, and then comes the end
  abbrev pub ServedOn : ℕ → D → P → ℕ → D → P → Type 0
  ServedOn at d p status e q = (calls : List AnyCall) × LedByCalls means dsp d p calls e q × ServedFrom (dsp.most p) at (is_some (dsp.on p)) calls status

  pub on-more : (at size status : ℕ) (r : ServeRound) (d : D) (p : P) (m : D) (n : P) (e : D) (q : P) → IsRound (dsp.most p) (is_some (dsp.on p)) r → size ≡ length (record_bytes r.entry) → LedByCalls means dsp d p (round_calls r) m n → ServedOn (at + size) m n status e q → ServedOn at d p status e q
  on-more at size status r d p m n e q is size_is led (calls, later, from) =
      let after = round-after r d p m n is led in (
        round_calls r ++ calls,
        led-append means dsp (round_calls r) calls d p m n e q led later,
        serves-more (dsp.most p) at (is_some (dsp.on p)) r calls status is
            (subst (λ b. ServedFrom (dsp.most p) (at + length (record_bytes r.entry)) b calls status) after.on
            (subst (λ room. ServedFrom room (at + length (record_bytes r.entry)) (is_some (dsp.on n)) calls status) after.steady.most
            (subst (λ k. ServedFrom (dsp.most n) (at + k) (is_some (dsp.on n)) calls status) size_is from))),
      )

  pub on-over : (at status : ℕ) (d : D) (p : P) (m : D) (q : P) (e : D) → at < too_many_bytes → LedByCalls means dsp d p (last_read ∷ []) m q → LetOut means status m e → ServedOn at d p status e q
  on-over at status d p m q e before led (out, is, said) =
      let calls = ending_calls at (Over out) in (
        calls,
        led-append means dsp (last_read ∷ []) (AtDesk (Did (Put Spoken []) out) ∷ []) d p m q e q led (at-desk means dsp (Did (Put Spoken []) out ∷ []) m q e (e, said, refl)),
        ends-now (dsp.most p) at (is_some (dsp.on p)) (Over out) calls status (is, before) refl,
      )

  -- the desk failed
  pub on-halted : (at : ℕ) (bytes : List ℕ) (d : D) (p : P) (e : D) (q : P) → at < too_many_bytes → HaltedAt means dsp bytes Desk d p e q → ServedOn at d p 3 e q
  on-halted at bytes d p e q before (Over out, of, ends, led) = absurd of
  on-halted at bytes d p e q before (Stopped pieces wrong said, of, ends, led) = absurd of
  on-halted at bytes d p e q before (TooLong said, of, ends, led) = absurd of
  on-halted at bytes d p e q before (Unread pieces, of, ends, led) =
      (ending_calls 0 (Unread pieces), led, ends-now (dsp.most p) at (is_some (dsp.on p)) (Unread pieces) (ending_calls 0 (Unread pieces)) 3 (refl, before, ends.2) refl)
  on-halted at bytes d p e q before (Unsent r appended, of, ends, led) =
      (ending_calls 0 (Unsent r appended), led, ends-now (dsp.most p) at (is_some (dsp.on p)) (Unsent r appended) (ending_calls 0 (Unsent r appended)) 3 (refl, before, ends.2, ends.3) refl)

  -- a record is at fault, and its line was said or not
  pub on-wrong : (at status there : ℕ) (bytes : List ℕ) (wrong : Misfit) (d : D) (p : P) (m : D) (q : P) (e : D) → at < too_many_bytes → HaltedAt means dsp bytes (Wrong there wrong) d p m q → Played means (Stop (wrong_line wrong at) 2) m [] status e → ServedOn at d p status e q
  on-wrong at status there bytes wrong d p m q e before (within, (pieces, brings, is, led)) played =
      let s = said-line (wrong_line wrong at) 2 status m e played in
      let calls = ending_calls at (Stopped pieces wrong s.done) in (
        calls,
        led-append means dsp (map AtDesk (record_reads [] pieces)) (AtDesk (Did (Put Spoken (wrong_line wrong at)) s.done) ∷ []) d p m q e q led
            (at-desk means dsp (Did (Put Spoken (wrong_line wrong at)) s.done ∷ []) m q e s.led),
        ends-now (dsp.most p) at (is_some (dsp.on p)) (Stopped pieces wrong s.done) calls status (s.is, before, (take there bytes, brings, is)) refl,
      )

  -- there are too many bytes
  pub on-long : (at status : ℕ) (d : D) (p : P) (e : D) → too_many_bytes ≤ at → Played means (Stop too_long_line 5) d [] status e → ServedOn at d p status e p
  on-long at status d p e over played =
      let s = said-line too_long_line 5 status d e played in
      let calls = ending_calls at (TooLong s.done) in (
        calls,
        at-desk means dsp (Did (Put Spoken too_long_line) s.done ∷ []) d p e s.led,
        ends-now (dsp.most p) at (is_some (dsp.on p)) (TooLong s.done) calls status (s.is, over) refl,
      )

  -- ---- what is left

  -- what is left, served, makes all served
  abbrev pub LeftToServe : D → P → ℕ → D → P → Type 0
  LeftToServe old p at d n = (status : ℕ) (e : D) (q : P) → ServedOn at d n status e q → ServedOn 0 old p status e q

  pub left-more : (old : D) (p : P) (at size : ℕ) (d : D) (n : P) (m : D) (k : P) → LeftToServe old p at d n → ServedOne means dsp size d n m k → (size ≡ 0 → ⊥) → LeftToServe old p (at + size) m k
  left-more old p at size d n m k left (inl over) some status e q later = absurd (some over.0)
  left-more old p at size d n m k left (inr (r, is, size_is, led)) some status e q later = left status e q (on-more at size status r d n m k e q is size_is led later)

  pub left-over : (old : D) (p : P) (at status : ℕ) (d : D) (n : P) (m : D) (q : P) (e : D) → LeftToServe old p at d n → at < too_many_bytes → ServedOne means dsp 0 d n m q → LetOut means status m e → ServedOn 0 old p status e q
  left-over old p at status d n m q e left before (inl over) out = left status e q (on-over at status d n m q e before over.1 out)
  left-over old p at status d n m q e left before (inr (r, is, size_is, led)) out = absurd (omega (arith, size_is, some-bytes r.entry))
