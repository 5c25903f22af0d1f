-- Over a device that does nothing of its own accord what comes back is the firmware's.
use Rattle.std.proofs.Common.{◌≡◌, refl, sym, ◌∙◌, ap, subst, ℕ, ◌+◌, Bool, true, false, List, [], ◌∷◌, ◌++◌, map, length, Option, Some, None, arith}
use Rattle.std.proofs.lemmas.List.{append-nil}
use Rattle.std.specs.Prelude.{is_some, option_map}
use Rattle.std.specs.List.{flat_map}
use Rattle.stream_law.specs.State.{FwState}
use Rattle.sof_desk.specs.Desk.{DeskMeaning, Did as DeskDid, Read, Put, Spoken}
use Rattle.mbox_link.specs.Step.{fresh, step}
use Rattle.mbox_link.specs.Exchange.{ticked}
use Rattle.mbox_link.specs.Calls as calls
use Rattle.mbox_link.specs.Calls.{Meaning, Steady, Exchanged, Ticked, world}
use Rattle.mbox_link.proofs.Led.{Steady-by}
use Rattle.ipc3_trace.specs.declared.entry.Entry.{Entry}
use Rattle.ipc3_trace.specs.declared.entry.Entry.TheVariants.{Boot, Cut, Request, Reply, Tick, Lost}
use Rattle.ipc3_trace.specs.Records.{records_bytes}
use Rattle.ipc3_trace.specs.Steps.{recorded, steps_from, quiescent, no_ports, AreAlike}
use Rattle.ipc3_trace.specs.AlongCalls.{entries_by}
use Rattle.ipc3_trace.specs.CallRecords.{IsPlain}
use Rattle.ipc3_trace.proofs.LeadingLaws.{led-leads, replies-are}
use Rattle.sof_session.specs.SessionStep.{Calm}
use Rattle.sof_session.proofs.StepCounts.{Calm-between}
use Rattle.run_replay.specs.Replaying.{on_after}
use Rattle.run_serve.specs.ServeWords.{ServeNames, wrong_line, too_long_line}
use Rattle.run_serve.specs.AnyCalls.{AnyCall, AtDesk, AtDevice, LedByCalls}
use Rattle.run_serve.specs.Reads.{requests_slot, asked, record_reads, joined_pieces}
use Rattle.run_serve.specs.Placed.{may_come, device_calls_of, backs_of}
use Rattle.run_serve.specs.Serving.{ServeRound, doing, given_calls, round_calls, IsRound, AreRounds, served_entries, backs_in, ServeEnd, Over, Stopped, TooLong, Unread, Unsent, unsent_round, given_rounds, unsent_calls, ending_calls, IsEnding, serve_opening, ServesAll}
use Rattle.run_serve.specs.Served.{deeds_of, reply_in}
use Rattle.run_serve.proofs.CallParts.{led-parts, desk-alone, device-alone}
use Rattle.run_serve.proofs.GivenCalls.{is-on, steady-same, steady-by}
use Rattle.run_serve.proofs.ServedRecords.{given-parts, round-parts}

-- the replies that the firmware gives from a state on
abbrev pub replies_from : Option FwState → List Entry → List Entry
replies_from s es = flat_map reply_in (recorded s (flat_map deeds_of es))

module _ {D P : Type 0} (means : DeskMeaning D) (dsp : Meaning P) where
  -- ---- the device over all that were given

  -- the calls of records lead from one device to another
  record GivenOn (r : ServeRound) (p q : P) : Type 0 where
    desk : D
    last : D
    led : LedByCalls means dsp desk p (map AtDevice (device_calls_of r.entry r.answer)) last q

  abbrev AllGiven : List ServeRound → P → P → Type 0
  AllGiven [] p q = q ≡ p
  AllGiven (r ∷ rs) p q = (n : P) × GivenOn r p n × AllGiven rs n q

  given-append : (first rest : List ServeRound) (p n q : P) → AllGiven first p n → AllGiven rest n q → AllGiven (first ++ rest) p q
  given-append [] rest p n q one two = subst (λ x. AllGiven rest x q) one two
  given-append (r ∷ first) rest p n q (x, here, one) two = (x, here, given-append first rest x n q one two)

  rounds-given : (rs : List ServeRound) (d : D) (p : P) (e : D) (q : P) → LedByCalls means dsp d p (flat_map round_calls rs) e q → AllGiven rs p q
  rounds-given [] d p e q led = led.1
  rounds-given (r ∷ rs) d p e q led =
      let two = led-parts means dsp (round_calls r) (flat_map round_calls rs) d p e q led in
      let s = round-parts means dsp r d p two.desk two.device two.one in
      (two.device, record { desk = s.mid; last = s.last; led = s.called }, rounds-given rs two.desk two.device e q two.two)

  unsent-still : (es : List Entry) (appended : Bool) (d : D) (p : P) (e : D) (q : P) → LedByCalls means dsp d p (flat_map (λ x. unsent_calls x appended) es) e q → q ≡ p
  unsent-still [] appended d p e q led = led.1
  unsent-still (x ∷ es) false d p e q (m, n, did, led) = unsent-still es false m n e q led ∙ did.1
  unsent-still (x ∷ es) true d p e q (m, n, did, (m', n', did', led)) = unsent-still es true m' n' e q led ∙ did'.1 ∙ did.1

  end-given : (at : ℕ) (ending : ServeEnd) (d : D) (p : P) (e : D) (q : P) → LedByCalls means dsp d p (ending_calls at ending) e q → AllGiven (unsent_round ending) p q
  end-given at (Over out) d p e q led = (desk-alone means dsp (Read requests_slot 8 (Some []) ∷ DeskDid (Put Spoken []) out ∷ []) d p e q led).1
  end-given at (Stopped pieces wrong said) d p e q led =
      let line = DeskDid (Put Spoken (wrong_line wrong at)) said in
      let two = led-parts means dsp (map AtDesk (record_reads [] pieces)) (AtDesk line ∷ []) d p e q led in
      (desk-alone means dsp (line ∷ []) two.desk two.device e q two.two).1 ∙ (desk-alone means dsp (record_reads [] pieces) d p two.desk two.device two.one).1
  end-given at (TooLong said) d p e q led = (desk-alone means dsp (DeskDid (Put Spoken too_long_line) said ∷ []) d p e q led).1
  end-given at (Unread pieces) d p e q led =
      let read = Read requests_slot (asked (joined_pieces pieces)) None in
      let two = led-parts means dsp (map AtDesk (record_reads [] pieces)) (AtDesk read ∷ []) d p e q led in
      (desk-alone means dsp (read ∷ []) two.desk two.device e q two.two).1 ∙ (desk-alone means dsp (record_reads [] pieces) d p two.desk two.device two.one).1
  end-given at (Unsent r appended) d p e q led =
      let backs = backs_of r.entry r.answer in
      let two = led-parts means dsp (given_calls r) (flat_map (λ x. unsent_calls x appended) backs) d p e q led in
      let s = given-parts means dsp r d p two.desk two.device two.one in
      (two.device, record { desk = s.0; last = two.desk; led = s.2 }, unsent-still backs appended two.desk two.device e q two.two)

  -- the records, with the last of which what came back did not go out
  rounds-append : (room : ℕ) (on : Bool) (rs : List ServeRound) (after : Bool) (r : ServeRound) → AreRounds room on rs after → IsRound room after r → AreRounds room on (rs ++ r ∷ []) (on_after after r.entry)
  rounds-append room on [] after r are is = subst (λ b. IsRound room b r × (on_after after r.entry ≡ on_after b r.entry)) are (is, refl)
  rounds-append room on (x ∷ rs) after r are is = (are.0, rounds-append room (on_after on x.entry) rs after r are.1 is)

  record AllRounds (room : ℕ) (on : Bool) (rs : List ServeRound) : Type 0 where
    last : Bool
    are : AreRounds room on rs last

  all-rounds : (room at : ℕ) (on : Bool) (rs : List ServeRound) (after : Bool) (ending : ServeEnd) (status : ℕ) → AreRounds room on rs after → IsEnding room at after ending status → AllRounds room on (given_rounds rs ending)
  all-rounds room at on rs after (Unsent r appended) status are ends = record { last = on_after after r.entry; are = rounds-append room on rs after r are ends.2 }
  all-rounds room at on rs after (Over out) status are ends = record { last = after; are = subst (λ xs. AreRounds room on xs after) (sym (append-nil rs)) are }
  all-rounds room at on rs after (Stopped pieces wrong said) status are ends = record { last = after; are = subst (λ xs. AreRounds room on xs after) (sym (append-nil rs)) are }
  all-rounds room at on rs after (TooLong said) status are ends = record { last = after; are = subst (λ xs. AreRounds room on xs after) (sym (append-nil rs)) are }
  all-rounds room at on rs after (Unread pieces) status are ends = record { last = after; are = subst (λ xs. AreRounds room on xs after) (sym (append-nil rs)) are }

  -- ---- one after another

  given-steady : (rs : List ServeRound) (p q : P) → AllGiven rs p q → Steady dsp p q
  given-steady [] p q given = steady-same means dsp p q given
  given-steady (r ∷ rs) p q (n, here, rest) = Steady-by dsp p n q (steady-by means dsp r.entry r.answer here.desk p here.last n here.led) (given-steady rs n q rest)

  -- what comes back is the firmware's, and the device stands where the records lead
  pub record Follows (s : Option FwState) (backs es : List Entry) (q : P) : Type 0 where
    pub replied : backs ≡ replies_from s es
    pub stands : AreAlike (dsp.on q) (steps_from s es)

  on-alike : (f : FwState) (o : Option FwState) → AreAlike o (Some f) → is_some o ≡ true
  on-alike f None alike = absurd (cc alike)
  on-alike f (Some g) alike = refl

  module _ (room : ℕ) where
    abbrev Walks : List ServeRound → Type 0
    Walks rs = (s : Option FwState) (p q : P) (after : Bool) → AreRounds room (is_some s) rs after → AllGiven rs p q → AreAlike (dsp.on p) s → dsp.pending p ≡ 0 → Calm dsp p q → Follows s (backs_in rs) (served_entries rs) q

    module _ (rs : List ServeRound) (others : Walks rs) (d : D) (p : P) (m : D) (n q : P) (after : Bool) (rest : AllGiven rs n q) (none : dsp.pending p ≡ 0) (calm : Calm dsp p q) where
      -- what comes after a record
      abbrev Behind : Option FwState → Entry → Option (List ℕ) → Type 0
      Behind s e answer = Follows s (backs_of e answer ++ backs_in rs) (e ∷ served_entries rs) q

      first-calm : Calm dsp p n
      first-calm = Calm-between dsp p p n q (steady-same means dsp p p refl) (given-steady rs n q rest) calm

      later : (t : Option FwState) → Steady dsp p n → AreRounds room (is_some t) rs after → AreAlike (dsp.on n) t → Follows t (backs_in rs) (served_entries rs) q
      later t steady are alike =
          others t n q after are rest alike (omega (arith, steady.pending, none)) (Calm-between dsp p n q q steady (steady-same means dsp q q refl) calm)

      tick-alike : (f : FwState) → AreAlike (dsp.on p) (Some f) → Ticked dsp (world p [] []) (world n [] []) → AreAlike (dsp.on n) (Some (ticked (f, no_ports)).0)
      tick-alike f alike did =
          let led = led-leads dsp (calls.Tick ∷ []) (world p [] []) (world n [] []) (world n [] [], did, refl) (tt, tt) (Some f) alike in
          subst (λ b. AreAlike (dsp.on n) (steps_from (Some f) (entries_by b calls.Tick ++ []))) (on-alike f (dsp.on p) alike) led

      message-walk : (message : List ℕ) (answer : Option (List ℕ)) (f : FwState) → AreRounds room true rs after → AreAlike (dsp.on p) (Some f) → Exchanged dsp message answer (world p [] []) (world n [] []) → Behind (Some f) (Request message) answer
      message-walk message None f are alike did =
          let here = is-on (dsp.on p) (on-alike f (dsp.on p) alike) in
          absurd (first-calm.faults (did.step here.0 here.1).1)
      message-walk message (Some reply) f are alike did =
          let on = on-alike f (dsp.on p) alike in
          let plain : IsPlain dsp (calls.Exchange message (Some reply)) (world p [] []) (world n [] []) = (on, none, first-calm.faults, first-calm.refusals) in
          let is : reply ≡ (step f message).1 = replies-are dsp (world p [] []) (world n [] []) message reply did plain f alike in
          let led = led-leads dsp (calls.Exchange message (Some reply) ∷ []) (world p [] []) (world n [] []) (world n [] [], did, refl) (plain, tt) (Some f) alike in
          let leads : AreAlike (dsp.on n) (Some (step f message).0) =
          subst (λ b. AreAlike (dsp.on n) (steps_from (Some f) (entries_by b (calls.Exchange message (Some reply)) ++ []))) on led in
          let next = later (Some (step f message).0) did.steady are leads in
          record { replied = λ i. Reply (is i) ∷ next.replied i; stands = next.stands }

      one-walk : (s : Option FwState) (e : Entry) (answer : Option (List ℕ)) → may_come room (is_some s) e ≡ true → AreRounds room (on_after (is_some s) e) rs after → LedByCalls means dsp d p (map AtDevice (device_calls_of e answer)) m n → AreAlike (dsp.on p) s → Behind s e answer
      one-walk (Some f) (Boot heap) answer may are led alike = absurd (cc may)
      one-walk None (Boot heap) answer may are led alike =
          let did = (device-alone means dsp (calls.Boot heap) d p m n led).1 in
          let next = later (Some (fresh heap)) (steady-by means dsp (Boot heap) answer d p m n led) are (ap (option_map quiescent) did.0.on) in
          record { replied = next.replied; stands = next.stands }
      one-walk None Cut answer may are led alike = absurd (cc may)
      one-walk (Some f) Cut answer may are led alike =
          let did = (device-alone means dsp calls.Cut d p m n led).1 in
          let next = later None (steady-by means dsp Cut answer d p m n led) are (ap (option_map quiescent) did.0.on) in
          record { replied = next.replied; stands = next.stands }
      one-walk None (Request message) answer may are led alike = absurd (cc may)
      one-walk (Some f) (Request message) answer may are led alike = message-walk message answer f are alike (device-alone means dsp (calls.Exchange message answer) d p m n led).1
      one-walk s (Reply reply) answer may are led alike = absurd (cc may)
      one-walk None Tick answer may are led alike = absurd (cc may)
      one-walk (Some f) Tick answer may are led alike =
          let did = (device-alone means dsp calls.Tick d p m n led).1 in
          let next = later (Some (ticked (f, no_ports)).0) (steady-by means dsp Tick answer d p m n led) are (tick-alike f alike did) in
          record { replied = next.replied; stands = next.stands }
      one-walk s Lost answer may are led alike = absurd (cc may)

    walk : (rs : List ServeRound) → Walks rs
    walk [] s p q after are given alike none calm = record { replied = refl; stands = subst (λ x. AreAlike (dsp.on x) s) (sym given) alike }
    walk (r ∷ rs) s p q after are (n, here, rest) alike none calm =
        one-walk rs (walk rs) here.desk p here.last n q after rest none calm s r.entry r.answer are.0.may are.1 here.led alike

    -- ---- all

    opening-still : (names : ServeNames) (d : D) (p : P) (e : D) (q : P) → LedByCalls means dsp d p (map doing (serve_opening names)) e q → q ≡ p
    opening-still names d p e q (m, n, opened, (m', n', created, led)) = led.1 ∙ created.1 ∙ opened.1

    pub by-firmware : (names : ServeNames) (calls : List AnyCall) (status : ℕ) (d : D) (p : P) (e : D) (q : P) → LedByCalls means dsp d p calls e q → (all : ServesAll room names calls status) → dsp.on p ≡ None → dsp.pending p ≡ 0 → Calm dsp p q →
        Follows None (backs_in (given_rounds all.served.rounds all.served.ending)) (served_entries (given_rounds all.served.rounds all.served.ending)) q
    by-firmware names calls status d p e q led all off none calm =
        let s = all.served in
        let at : ℕ = 0 + length (records_bytes (served_entries s.rounds)) in
        let two = led-parts means dsp (map doing (serve_opening names)) all.later d p e q (subst (λ cs. LedByCalls means dsp d p cs e q) all.calls_are led) in
        let more = led-parts means dsp (flat_map round_calls s.rounds) (ending_calls at s.ending) two.desk two.device e q (subst (λ cs. LedByCalls means dsp two.desk two.device cs e q) s.calls_are two.two) in
        let given = given-append s.rounds (unsent_round s.ending) two.device more.device q (rounds-given s.rounds two.desk two.device more.desk more.device more.one) (end-given at s.ending more.desk more.device e q more.two) in
        let are = all-rounds room at false s.rounds s.after s.ending status s.are s.ends in
        walk (given_rounds s.rounds s.ending) None p q are.last are.are (subst (λ x. AllGiven (given_rounds s.rounds s.ending) x q) (opening-still names d p two.desk two.device two.one) given) (ap (option_map quiescent) off) none calm
