-- Acts over any device, one after another, by any rules: what is so of the firmware goes on to be so, and what stood goes on standing.
use Rattle.std.proofs.Common.{◌≡◌, refl, sym, ap, ◌∙◌, subst, ℕ, ◌-◌, Bool, true, false, List, [], ◌∷◌, ◌++◌, replicate, None, Some, Ok, Err}
use Rattle.sof_base.specs.declared.errno.Errno.{Errno}
use Rattle.sof_base.specs.Ports.{Io}
use Rattle.stream_law.specs.State.{FwState, view_of}
use Rattle.stream_law.specs.Past.{Moment, Now, Tick}
use Rattle.stream_law.specs.Viewing.{IsPlayable}
use Rattle.mbox_link.specs.Step.{row}
use Rattle.mbox_link.specs.Calls.{World, Meaning}
use Rattle.mbox_link.specs.Meetings.{Meeting}
use Rattle.host_widgets.specs.declared.answers.HostFault.TheVariants.{Refused, LinkDown}
use Rattle.host_widgets.specs.ActRules.{ActRules}
use Rattle.host_widgets.specs.Host.{Outcome}
use Rattle.host_widgets.specs.OneAct.{performed, lag_of, outcome_by}
use Rattle.host_widgets.specs.Walk.{Walked, walk, followed_by, goes_past, first_of}
use Rattle.host_widgets.specs.ActCalls.{ActsDid, Onwards, next_of}
use Rattle.host_widgets.proofs.AfterExchange.{before, it-came, Left, it-left}
use Rattle.host_widgets.proofs.StandingOn.{StandsOn, ReadsOn, LeadsOn, LeavesAll, still-stands, stands-none, stands-by, reads-by, reads-of, ticks-stand, ticks-leave}
use Rattle.host_widgets.proofs.UpWalks.{passed-free}
use Rattle.host_widgets.proofs.WalksHold.{ByLink}

-- the first fault of a refusal and of what came after it
after-refusal : (e : Errno) (rest : Outcome) (Up Down : Type 0) → ByLink rest Up Down → ByLink (first_of (Err (Refused e)) rest) Up Down
after-refusal e (Ok done) Up Down x = x
after-refusal e (Err (Refused d)) Up Down x = x
after-refusal e (Err fault) Up Down x = x

module _ {D : Type 0} (means : Meaning D) where
  -- the device is on in a state that is so, and stands these moments later
  pub record Held (So : FwState → Type 0) (f : FwState) (w v : World D) (moments : List Moment) : Type 0 where
    pub state : FwState
    pub is_on : means.on v.device ≡ Some state
    pub so : So state
    pub stands : StandsOn (Some f) w.io (Some state) v.io moments

  -- where the link failed, its endpoints went on up to there
  abbrev pub HeldBy : {S A Q : Type 0} → (S → FwState → Type 0) → FwState → World D → World D → Walked S A Q → Type 0
  HeldBy Keeps f w v walked = ByLink walked.outcome (Held (Keeps walked.kept) f w v walked.moments) (ReadsOn (Some f) w.io v.io walked.moments)

  -- what is so from a state after some moments is so from before them
  later : (So : FwState → Type 0) (f g : FwState) (w mid v : World D) (ms more : List Moment) → StandsOn (Some f) w.io (Some g) mid.io ms → (o : Outcome) →
      ByLink o (Held So g mid v more) (ReadsOn (Some g) mid.io v.io more) → ByLink o (Held So f w v (ms ++ more)) (ReadsOn (Some f) w.io v.io (ms ++ more))
  later So f g w mid v ms more stands = by
    where
      onto : Held So g mid v more → Held So f w v (ms ++ more)
      onto h = record { state = h.state; is_on = h.is_on; so = h.so; stands = stands-by (Some f) (Some g) (Some h.state) w.io mid.io v.io ms more stands h.stands }

      by : (o : Outcome) → ByLink o (Held So g mid v more) (ReadsOn (Some g) mid.io v.io more) → ByLink o (Held So f w v (ms ++ more)) (ReadsOn (Some f) w.io v.io (ms ++ more))
      by (Ok done) x = onto x
      by (Err LinkDown) x = reads-by (Some f) (Some g) w.io mid.io v.io ms more stands x
      by (Err (Refused e)) x = onto x
      by (Err fault) x = onto x

module _ {S A : Type 0} (rules : ActRules S A) (goes_on : Bool) (Keeps : S → FwState → Type 0) where
  -- What is so of a firmware before acts. It may play; and after ticks it keeps what is kept, a row that was done leads on to what is so
  -- before those after it, and it is so before them after a refusal too, where acts go on.
  abbrev pub LeadOn : List A → S → FwState → Type 0
  LeadOn [] kept f = Keeps kept f
  LeadOn (act ∷ acts) kept f =
      IsPlayable (view_of f)
      × ((g : FwState) → LeavesAll f g →
      Keeps kept g
      × (rules.own kept act ≡ None → (h : FwState) → row g (rules.message act) ≡ Ok h →
      LeadsOn (Some g) (Some h) (Now (rules.view (rules.after act kept)) (rules.fresh act) ∷ []) × LeadOn acts (rules.after act kept) h)
      × (goes_on ≡ true → LeadOn acts kept g))

  pub walk-stands : {D : Type 0} (means : Meaning D) (acts : List A) (ms : List Meeting) (kept : S) (w v : World D) → ActsDid means rules goes_on kept acts ms w v → (f : FwState) → means.on w.device ≡ Some f → LeadOn acts kept f →
      HeldBy means Keeps f w v (walk rules goes_on next_of kept ms acts)
  walk-stands {D = D} means [] ms kept w v did f on keeps = record {
    state = f;
    is_on = ap (λ (x : World D). means.on x.device) did.1 ∙ on;
    so = keeps;
    stands = subst (λ (x : World D). StandsOn (Some f) w.io (Some f) x.io []) (sym did.1) (stands-none (Some f) w.io);
  }
  walk-stands means (act ∷ acts) [] kept w v did f on lead = absurd did
  walk-stands {D = D} means (act ∷ acts) (m ∷ ms) kept w v (mid, did, onwards) f on lead =
      by (outcome_by m.fate (rules.own kept act)) refl (subst Leaves did.came (it-left means (rules.message act) did.message did.answer w mid f on did.exchanged)) onwards
      (λ now more g g_on g_leads. walk-stands means acts ms now mid v more g g_on g_leads)
    where
      at : FwState × Io
      at = before means (rules.message act) did.message did.answer w mid f on did.exchanged

      Leaves : Outcome → Type 0
      Leaves o = Left means (rules.message act) did.message did.answer w mid f on did.exchanged o

      n : ℕ
      n = means.pending w.device - means.pending mid.device

      -- the ticks before its message
      ticked : StandsOn (Some f) w.io (Some at.0) mid.io (lag_of m)
      ticked =
          subst (λ (p : Io × ℕ). StandsOn (Some f) w.io (Some at.0) p.0 (replicate p.1 Tick)) (λ i. (sym (it-came means (rules.message act) did.message did.answer w mid f on did.exchanged).endpoints i, sym did.lag i))
          (ticks-stand n f w.io lead.0)

      led : Keeps kept at.0 × (rules.own kept act ≡ None → (h : FwState) → row at.0 (rules.message act) ≡ Ok h → LeadsOn (Some at.0) (Some h) (Now (rules.view (rules.after act kept)) (rules.fresh act) ∷ []) × LeadOn acts (rules.after act kept) h)
          × (goes_on ≡ true → LeadOn acts kept at.0)
      led = lead.1 at.0 (ticks-leave n f w.io)

      Goes : Type 0
      Goes = (now : S) → ActsDid means rules goes_on now acts ms mid v → (g : FwState) → means.on mid.device ≡ Some g → LeadOn acts now g → HeldBy means Keeps g mid v (walk rules goes_on next_of now ms acts)

      ends : means.on mid.device ≡ Some at.0 → v ≡ mid → Held means (Keeps kept) f w v (lag_of m)
      ends at_on same = record {
        state = at.0;
        is_on = ap (λ (x : World D). means.on x.device) same ∙ at_on;
        so = led.0;
        stands = subst (λ (x : World D). StandsOn (Some f) w.io (Some at.0) x.io (lag_of m)) (sym same) ticked;
      }

      refused : (e : Errno) (b : Bool) → goes_on ≡ b → means.on mid.device ≡ Some at.0 → Onwards b ms mid v (ActsDid means rules goes_on kept acts ms mid v) → Goes →
          HeldBy means Keeps f w v (followed_by act (performed rules act kept (lag_of m) (Err (Refused e))) ms b (walk rules goes_on next_of kept ms acts))
      refused e true goes at_on more go =
          let x = walk rules goes_on next_of kept ms acts in
          after-refusal e x.outcome (Held means (Keeps x.kept) f w v (lag_of m ++ x.moments)) (ReadsOn (Some f) w.io v.io (lag_of m ++ x.moments))
          (later means (Keeps x.kept) f at.0 w mid v (lag_of m) x.moments ticked x.outcome (go kept more at.0 at_on (led.2 goes)))
      refused e false goes at_on more go = ends at_on more.1

      by : (o : Outcome) → outcome_by m.fate (rules.own kept act) ≡ o → Leaves o → (let a = performed rules act kept (lag_of m) o in Onwards (goes_past goes_on a.outcome) ms mid v (ActsDid means rules goes_on a.kept acts ms mid v)) → Goes →
          (let a = performed rules act kept (lag_of m) o in HeldBy means Keeps f w v (followed_by act a ms (goes_past goes_on a.outcome) (walk rules goes_on next_of a.kept ms acts)))
      by (Ok done) is (g, g_on, row_is) more go =
          let r = led.1 (passed-free m.fate (rules.own kept act) is) g row_is in
          let x = walk rules goes_on next_of (rules.after act kept) ms acts in
          let now : List Moment = Now (rules.view (rules.after act kept)) (rules.fresh act) ∷ [] in
          later means (Keeps x.kept) f g w mid v (lag_of m ++ now) x.moments
          (stands-by (Some f) (Some at.0) (Some g) w.io mid.io mid.io (lag_of m) now ticked (still-stands (Some at.0) (Some g) now tt r.0 mid.io)) x.outcome (go (rules.after act kept) more g g_on r.1)
      by (Err (Refused e)) is at_on more go = refused e goes_on refl at_on more go
      by (Err LinkDown) is up more go = subst (λ (x : World D). ReadsOn (Some f) w.io x.io (lag_of m)) (sym more.1) (reads-of (Some f) (Some at.0) w.io mid.io (lag_of m) ticked)
      by (Err fault) is at_on more go = ends at_on more.1
