-- A walk over a link is the written walk, by the planned fates and by what the device itself did.
use Rattle.std.proofs.Common.{◌≡◌, refl, sym, ap, ◌∙◌, subst, ℕ, Bool, true, false, List, [], ◌∷◌, ◌++◌, Option, arith}
use Rattle.stream_law.specs.Past.{Moment}
use Rattle.ipc3_model.specs.Messages.{message_spelling}
use Rattle.mbox_link.specs.declared.fates.Fate.{Fate}
use Rattle.mbox_link.specs.declared.fates.Fate.TheVariants.{Pass, Refuse, Drop, Lose}
use Rattle.mbox_link.specs.Exchange.{more}
use Rattle.mbox_link.specs.Fates.{IsMeant, AreHeld}
use Rattle.mbox_link.specs.Calls.{World, Meaning}
use Rattle.mbox_link.specs.Wire.{Wire}
use Rattle.mbox_link.specs.Link.{link, inner, Met, next_fate, next_lag, after_message}
use Rattle.mbox_link.proofs.FateLaws.{AreHeld-without, lags-planned, planned-meant}
use Rattle.host_widgets.specs.Host.{verdict}
use Rattle.mbox_link.specs.Meetings.{Meeting, Queue, Doing, lags, fate_met, next_meeting, queue_of, without_entry}
use Rattle.host_widgets.specs.ActRules.{ActRules}
use Rattle.host_widgets.specs.OneAct.{Performed, outcome_by, lag_of, one_act, performed}
use Rattle.host_widgets.specs.Walk.{Walked, walk, followed_by, goes_past, first_of}
use Rattle.host_widgets.specs.ActCalls.{ActDid, ActsDid, Onwards, next_of, came_to}
use Rattle.sof_session.proofs.LinkFates.{exchange_steady}
use Rattle.sof_session.proofs.Doings.{refused_so, DidSo}

-- ---- walks

-- two walks had the same result
pub record Same {S A Q R : Type 0} (a : Walked S A Q) (b : Walked S A R) : Type 0 where
  pub outcome : a.outcome ≡ b.outcome
  pub left : a.kept ≡ b.kept
  pub moments : a.moments ≡ b.moments
  pub sent : a.sent ≡ b.sent

module _ {P S A : Type 0} (means : Meaning P) (rules : ActRules S A) (kept : S) (act : A) (m : Meeting) (w v : World (Wire P)) (did : ActDid (link means) rules kept act m w v)
    (quiet : means.pending w.device.device ≡ 0) (held : AreHeld w.device.entries) where
  abbrev number : ℕ
  number = more w.device.sent

  abbrev request : List ℕ
  request = message_spelling (rules.message act)

  pub after_is : v.device ≡ after_message w.device v.device.device
  after_is = did.exchanged.did.1

  pub still-quiet : means.pending v.device.device ≡ 0
  still-quiet = let less = (exchange_steady means request did.answer w v did.exchanged).pending in omega (arith, quiet, less)

  pub still-held : AreHeld v.device.entries
  still-held = subst (λ (l : Wire P). AreHeld l.entries) (sym after_is) (AreHeld-without number w.device.entries held)

  -- the ticks that `pending` fell by are those that were planned
  lag-is : m.lag ≡ next_lag w.device
  lag-is =
      let own = lags-planned number w.device.entries held.apart in
      let left : lags v.device.entries ≡ lags (without_entry number w.device.entries) = ap (λ (l : Wire P). lags l.entries) after_is in
      omega (arith, did.lag, quiet, still-quiet, own, left)

  by_fate : (fate : Fate) → IsMeant fate → (u : World P) → Met means fate request did.answer u (inner v) →
      outcome_by m.fate (rules.own kept act) ≡ outcome_by (fate_met fate m.fate) (rules.own kept act)
  by_fate Pass meant u met = refl
  by_fate (Refuse e) meant u met = sym did.came ∙ ap (λ (a : Option (List ℕ)). came_to (verdict a)) met.0 ∙ refused_so e meant
  by_fate Drop meant u met = sym did.came ∙ ap (λ (a : Option (List ℕ)). came_to (verdict a)) met.0
  by_fate Lose meant u met = sym did.came ∙ ap (λ (a : Option (List ℕ)). came_to (verdict a)) met.0

  -- the queue goes on as the link does
  pub next-is : (doing : Doing) → fate_met (next_fate w.device) (doing number) ≡ fate_met (next_fate w.device) m.fate → next_meeting doing (queue_of w.device) ≡ (record { lag = m.lag; fate = fate_met (next_fate w.device) m.fate }, queue_of v.device)
  next-is doing is = λ i. (record { lag = sym lag-is i; fate = is i }, queue_of (sym after_is i))

  pub same-act : one_act rules kept act m ≡ one_act rules kept act (record { lag = m.lag; fate = fate_met (next_fate w.device) m.fate })
  same-act =
      let late = did.exchanged.did.0 in
      λ i. performed rules act kept (lag_of m) (by_fate (next_fate w.device) (planned-meant number w.device.entries held.meant) late.0 late.2 i)

module _ {P S A : Type 0} (means : Meaning P) (rules : ActRules S A) (goes_on : Bool) (doing : Doing) where
  abbrev met_walk : S → List Meeting → List A → Walked S A (List Meeting)
  met_walk kept ms acts = walk rules goes_on next_of kept ms acts

  abbrev pub written_walk : S → Wire P → List A → Walked S A Queue
  written_walk kept wire acts = walk rules goes_on (next_meeting doing) kept (queue_of wire) acts

  -- the result of the written walk is what the messages met, and its queue is the link's
  pub record Agreed (kept : S) (ms : List Meeting) (acts : List A) (w v : World (Wire P)) : Type 0 where
    pub same : Same (met_walk kept ms acts) (written_walk kept w.device acts)
    pub queue : (written_walk kept w.device acts).queue ≡ queue_of v.device

  -- of an act and what comes after it
  record AgreedOf {Q R : Type 0} (a : Walked S A Q) (b : Walked S A R) (q : R) : Type 0 where
    same : Same a b
    queue : b.queue ≡ q

  behind : (act : A) (a : Performed S) (acts : List A) (ms : List Meeting) (mid v : World (Wire P)) (b : Bool) →
      (ActsDid (link means) rules goes_on a.kept acts ms mid v → Agreed a.kept ms acts mid v) →
      Onwards b ms mid v (ActsDid (link means) rules goes_on a.kept acts ms mid v) →
      AgreedOf (followed_by act a ms b (met_walk a.kept ms acts)) (followed_by act a (queue_of mid.device) b (written_walk a.kept mid.device acts)) (queue_of v.device)
  behind act a acts ms mid v true rest did =
      let r = rest did in
      record {
        same = record { outcome = ap (first_of a.outcome) r.same.outcome; left = r.same.left; moments = ap (λ (xs : List Moment). a.moments ++ xs) r.same.moments; sent = ap (λ (xs : List A). act ∷ xs) r.same.sent };
        queue = r.queue;
      }
  behind act a acts ms mid v false rest did = record { same = record { outcome = refl; left = refl; moments = refl; sent = refl }; queue = ap (λ (x : World (Wire P)). queue_of x.device) (sym did.1) }

  pub walks-agree : (acts : List A) (ms : List Meeting) (kept : S) (w v : World (Wire P)) → ActsDid (link means) rules goes_on kept acts ms w v →
      means.pending w.device.device ≡ 0 → AreHeld w.device.entries → DidSo doing w.device.sent w.device.entries ms → Agreed kept ms acts w v
  walks-agree [] ms kept w v did quiet held so = record { same = record { outcome = refl; left = refl; moments = refl; sent = refl }; queue = ap (λ (x : World (Wire P)). queue_of x.device) (sym did.1) }
  walks-agree (act ∷ acts) [] kept w v did quiet held so = absurd did
  walks-agree (act ∷ acts) (m ∷ ms) kept w v did quiet held so =
      let mid = did.0 in
      let a = one_act rules kept act m in
      let r = behind act a acts ms mid v (goes_past goes_on a.outcome)
      (λ more_did. walks-agree acts ms a.kept mid v more_did
      (still-quiet means rules kept act m w mid did.1 quiet held) (still-held means rules kept act m w mid did.1 quiet held)
      (subst (λ (l : Wire P). DidSo doing l.sent l.entries ms) (sym (after_is means rules kept act m w mid did.1 quiet held)) so.1))
      did.2 in
      let whole = subst (λ (p : Performed S × Queue). AgreedOf (followed_by act a ms (goes_past goes_on a.outcome) (met_walk a.kept ms acts)) (followed_by act p.0 p.1 (goes_past goes_on p.0.outcome) (walk rules goes_on (next_meeting doing) p.0.kept p.1 acts)) (queue_of v.device))
      (λ i. (same-act means rules kept act m w mid did.1 quiet held i, queue_of mid.device)) r in
      let named = subst (λ (p : Meeting × Queue). AgreedOf (followed_by act a ms (goes_past goes_on a.outcome) (met_walk a.kept ms acts)) (followed_by act (one_act rules kept act p.0) p.1 (goes_past goes_on (one_act rules kept act p.0).outcome) (walk rules goes_on (next_meeting doing) (one_act rules kept act p.0).kept p.1 acts)) (queue_of v.device))
      (sym (next-is means rules kept act m w mid did.1 quiet held doing so.0)) whole in
      record { same = named.same; queue = named.queue }
