-- Records that are served, one after another, and the end.
use Rattle.std.proofs.Common.{◌≡◌, ◌⊎◌, inl, inr, refl, sym, ◌∙◌, ap, subst, ℕ, ◌+◌, ◌≤◌, Bool, true, false, List, [], ◌∷◌, ◌++◌, map, length, take, Some, None, append_assoc, arith, add-zero, length-append, lit<}
use Rattle.std.proofs.lemmas.List.{map-append}
use Rattle.std.specs.Prelude.{is_some}
use Rattle.std.specs.List.{flat_map}
use Rattle.sof_desk.specs.Desk.{DeskMeaning, Put, Slot, Spoken, Did, Read, DeskLed}
use Rattle.mbox_link.specs.Calls.{Meaning}
use Rattle.ipc3_trace.specs.declared.entry.Entry.{Entry}
use Rattle.ipc3_trace.specs.Records.{IsEntry, record_kind, content_of, record_bytes, records_bytes}
use Rattle.ipc3_trace.proofs.Stands.{length-spelled}
use Rattle.run_replay.specs.Replaying.{on_after}
use Rattle.run_serve.specs.declared.giving.Given.{Given}
use Rattle.run_serve.specs.declared.lines.Wrong.{Wrong as Misfit}
use Rattle.run_serve.specs.declared.serving.Halt.TheVariants.{Wrong, Desk}
use Rattle.run_serve.specs.AnyCalls.{AnyCall, AtDesk, AtDevice, LedByCalls}
use Rattle.run_serve.specs.Reads.{requests_slot, asked, record_reads, Brings, joined_pieces, WasBrought, WasUnread}
use Rattle.run_serve.specs.Placed.{device_calls_of, backs_of}
use Rattle.run_serve.specs.Sent.{AllWentOut}
use Rattle.run_serve.specs.Serving.{replies_slot, ServeRound, doing, sent_calls, given_calls, round_calls, IsRound, served_entries, ServeEnd, Unread, Unsent, unsent_calls, ending_calls, IsEnding, IsWrongRecord, ServedFrom}
use Rattle.run_serve.specs.Halted.{ServedOne, HaltedAt}
use Rattle.run_serve.proofs.CallParts.{led-append, at-desk}
use Rattle.run_serve.proofs.GivenCalls.{answer_by, WasCalled}

-- ---- the end, and records before it

pub ends-now : (room at : ℕ) (on : Bool) (ending : ServeEnd) (calls : List AnyCall) (status : ℕ) → IsEnding room at on ending status → calls ≡ ending_calls at ending → ServedFrom room at on calls status
ends-now room at on ending calls status ends is = record {
  rounds = [];
  after = on;
  ending = ending;
  are = refl;
  ends = subst (λ n. IsEnding room n on ending status) (sym (add-zero at)) ends;
  calls_are = is ∙ ap (λ n. ending_calls n ending) (sym (add-zero at));
}

-- the place after a record and those after it
place-more : (at : ℕ) (e : Entry) (es : List Entry) → (at + length (record_bytes e)) + length (records_bytes es) ≡ at + length (records_bytes (e ∷ es))
place-more at e es = omega (arith, length-append (record_bytes e) (records_bytes es))

pub serves-more : (room at : ℕ) (on : Bool) (r : ServeRound) (calls : List AnyCall) (status : ℕ) → IsRound room on r → ServedFrom room (at + length (record_bytes r.entry)) (on_after on r.entry) calls status → ServedFrom room at on (round_calls r ++ calls) status
serves-more room at on r calls status is s =
    let place = place-more at r.entry (served_entries s.rounds) in
    record {
      rounds = r ∷ s.rounds;
      after = s.after;
      ending = s.ending;
      are = (is, s.are);
      ends = subst (λ n. IsEnding room n s.after s.ending status) place s.ends;
      calls_are = ap (λ cs. round_calls r ++ cs) (s.calls_are ∙ ap (λ n. flat_map round_calls s.rounds ++ ending_calls n s.ending) place) ∙ sym (append_assoc (round_calls r) (flat_map round_calls s.rounds) (ending_calls (at + length (records_bytes (served_entries (r ∷ s.rounds)))) s.ending));
    }

pub some-bytes : (e : Entry) → 8 ≤ length (record_bytes e)
some-bytes e = omega (arith, length-spelled (record_kind e) (content_of e))

-- a record that came in pieces, and what was given back
abbrev pub round_of : Entry → List (List ℕ) → Given → ServeRound
round_of e pieces given = record { entry = e; pieces = pieces; answer = answer_by given }

brings-long : (pieces : List (List ℕ)) (part all : List ℕ) → Brings part pieces all → length part ≤ length all
brings-long [] part all (none, is) = omega (arith, ap length is)
brings-long (piece ∷ pieces) part all (more, inl (none, last, is)) = omega (arith, ap length is)
brings-long (piece ∷ pieces) part all (more, inr (some, within, brings)) = omega (arith, brings-long pieces (part ++ piece) all brings, length-append part piece)

-- where nothing is there, one read got nothing
over-reads : (pieces : List (List ℕ)) (bytes : List ℕ) → Brings [] pieces bytes → bytes ≡ [] → record_reads [] pieces ≡ Read requests_slot 8 (Some []) ∷ []
over-reads [] bytes (none, is) over = absurd (omega (arith, none))
over-reads (piece ∷ pieces) bytes (more, inl (none, last, is)) over = λ i. Read requests_slot 8 (Some (none i)) ∷ ap (record_reads piece) last i
over-reads (piece ∷ pieces) bytes (more, inr (some, within, brings)) over = absurd (omega (arith, some, brings-long pieces piece bytes brings, ap length over))

module _ {D P : Type 0} (means : DeskMeaning D) (dsp : Meaning P) where
  -- ---- what came back goes out

  pub went-out : (es : List Entry) (d : D) (p : P) (e : D) → AllWentOut means es true d e → LedByCalls means dsp d p (flat_map sent_calls es) e p
  went-out [] d p e went = (went.1, refl)
  went-out (x ∷ es) d p e went =
      subst (λ xs. LedByCalls means dsp d p (flat_map sent_calls (x ∷ xs)) e p) (sym went.0)
      (at-desk means dsp (Did (Put (Slot replies_slot) (record_bytes x)) true ∷ Did (Put Spoken []) true ∷ []) d p e went.1)

  -- or does not
  record Stays (es : List Entry) (d : D) (p : P) (e : D) : Type 0 where
    back : Entry
    is : es ≡ back ∷ []
    appended : Bool
    led : LedByCalls means dsp d p (flat_map (λ x. unsent_calls x appended) es) e p

  stays-in : (es : List Entry) (d : D) (p : P) (e : D) → AllWentOut means es false d e → Stays es d p e
  stays-in [] d p e went = absurd (cc (went.0))
  stays-in (x ∷ es) d p e (last, went) = by went
    where
      all : Bool → List AnyCall
      all appended = flat_map (λ y. unsent_calls y appended) (x ∷ es)

      only : (appended : Bool) → unsent_calls x appended ≡ all appended
      only false = λ i. AtDesk (Did (Put (Slot replies_slot) (record_bytes x)) false) ∷ flat_map (λ y. unsent_calls y false) (sym last i)
      only true = λ i. doing (Put (Slot replies_slot) (record_bytes x)) ∷ AtDesk (Did (Put Spoken []) false) ∷ flat_map (λ y. unsent_calls y true) (sym last i)

      by : DeskLed means d (Did (Put (Slot replies_slot) (record_bytes x)) false ∷ []) e ⊎ DeskLed means d (Did (Put (Slot replies_slot) (record_bytes x)) true ∷ Did (Put Spoken []) false ∷ []) e → Stays (x ∷ es) d p e
      by (inl led) = record {
        back = x;
        is = λ i. x ∷ last i;
        appended = false;
        led = subst (λ cs. LedByCalls means dsp d p cs e p) (only false) (at-desk means dsp (Did (Put (Slot replies_slot) (record_bytes x)) false ∷ []) d p e led);
      }
      by (inr led) = record {
        back = x;
        is = λ i. x ∷ last i;
        appended = true;
        led = subst (λ cs. LedByCalls means dsp d p cs e p) (only true) (at-desk means dsp (Did (Put (Slot replies_slot) (record_bytes x)) true ∷ Did (Put Spoken []) false ∷ []) d p e led);
      }

  -- ---- one record

  -- a record that came, and was given by its calls
  module _ (x : Entry) (pieces : List (List ℕ)) (given : Given) (d m e : D) (p q : P) (read : DeskLed means d (record_reads [] pieces) m) (called : WasCalled means dsp x given p q) where
    abbrev round : ServeRound
    round = round_of x pieces given

    pub is-round : (bytes : List ℕ) → bytes ≡ record_bytes x → IsEntry x → Brings [] pieces bytes → IsRound (dsp.most p) (is_some (dsp.on p)) (round_of x pieces given)
    is-round bytes same is brings = record { is = is; came = subst (Brings [] pieces) same brings; may = called.may; backs = called.are }

    is-given : LedByCalls means dsp d p (given_calls round) m q
    is-given = led-append means dsp (map AtDesk (record_reads [] pieces)) (map AtDevice (device_calls_of x (answer_by given))) d p m p m q (at-desk means dsp (record_reads [] pieces) d p m read) (called.led m)

    pub is-served : (backs : List Entry) → backs ≡ backs_of x (answer_by given) → AllWentOut means backs true m e → LedByCalls means dsp d p (round_calls (round_of x pieces given)) e q
    is-served backs is went = led-append means dsp (given_calls round) (flat_map sent_calls (backs_of x (answer_by given))) d p m q e q is-given (subst (λ es. LedByCalls means dsp m q (flat_map sent_calls es) e q) is (went-out backs m q e went))

    pub is-unsent : (bytes : List ℕ) (backs : List Entry) → IsRound (dsp.most p) (is_some (dsp.on p)) (round_of x pieces given) → backs ≡ backs_of x (answer_by given) → AllWentOut means backs false m e → HaltedAt means dsp bytes Desk d p e q
    is-unsent bytes backs is same went =
        let s = stays-in (backs_of x (answer_by given)) m q e (subst (λ es. AllWentOut means es false m e) same went) in (
          Unsent round s.appended,
          tt,
          (refl, lit< tt, is, (s.back, s.is)),
          led-append means dsp (given_calls round) (flat_map (λ y. unsent_calls y s.appended) (backs_of x (answer_by given))) d p m q e q is-given s.led,
        )

  -- a read failed
  pub is-unread : (bytes : List ℕ) (d e : D) (p : P) → WasUnread means d e → HaltedAt means dsp bytes Desk d p e p
  is-unread bytes d e p (pieces, more, led) = (Unread pieces, tt, (refl, lit< tt, more), subst (λ cs. LedByCalls means dsp d p cs e p) (map-append AtDesk (record_reads [] pieces) (Read requests_slot (asked (joined_pieces pieces)) None ∷ [])) (at-desk means dsp (record_reads [] pieces ++ (Read requests_slot (asked (joined_pieces pieces)) None ∷ [])) d p e led))

  -- the file ended
  pub is-over : (bytes : List ℕ) (d e : D) (p : P) → WasBrought means bytes d e → bytes ≡ [] → ServedOne means dsp 0 d p e p
  is-over bytes d e p (pieces, brings, led) none =
      inl (refl, subst (λ cs. LedByCalls means dsp d p (map AtDesk cs) e p) (over-reads pieces bytes brings none) (at-desk means dsp (record_reads [] pieces) d p e led))

  -- the next record is at fault
  pub is-wrong : (bytes : List ℕ) (there : ℕ) (wrong : Misfit) (d e : D) (p : P) → there ≤ length bytes → WasBrought means (take there bytes) d e → IsWrongRecord (dsp.most p) (is_some (dsp.on p)) (take there bytes) wrong → HaltedAt means dsp bytes (Wrong there wrong) d p e p
  is-wrong bytes there wrong d e p within (pieces, brings, led) is = (within, (pieces, brings, is, at-desk means dsp (record_reads [] pieces) d p e led))
