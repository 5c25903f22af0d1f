-- A command depends on a device's doings at the numbers of its own messages alone, so doings of commands join into one of a run.
use Rattle.std.proofs.Common.{◌≡◌, refl, ap, ◌∙◌, ℕ, ◌+◌, ◌<◌, ◌≤◌, ◌^◌, ◌-◌, Bool, true, false, List, [], ◌∷◌, length, arith}
use Rattle.std.specs.Prelude.{nat_le, if◌then◌else◌}
use Rattle.mbox_link.specs.declared.fates.Fate.{Fate}
use Rattle.mbox_link.specs.Exchange.{more}
use Rattle.mbox_link.specs.Meetings.{Meeting, Queue, Doing, fate_met, next_meeting, planned}
use Rattle.host_widgets.specs.ActRules.{ActRules}
use Rattle.host_widgets.specs.OneAct.{Performed, one_act}
use Rattle.host_widgets.specs.Walk.{Walked, walk, followed_by, goes_past}

module _ {S A : Type 0} (rules : ActRules S A) (goes_on : Bool) where
  abbrev pub walked : Doing → S → Queue → List A → Walked S A Queue
  walked doing kept q acts = walk rules goes_on (next_meeting doing) kept q acts

  -- numbers go up
  abbrev Up : ℕ → Walked S A Queue → Type 0
  Up sent w = sent ≤ w.queue.sent

  joined-up : (act : A) (a : Performed S) (q : Queue) (b : Bool) (rest : Walked S A Queue) (sent : ℕ) → sent ≤ q.sent → q.sent ≤ rest.queue.sent → Up sent (followed_by act a q b rest)
  joined-up act a q true rest sent low high = omega (arith, low, high)
  joined-up act a q false rest sent low high = low

  pub walk-up : (doing : Doing) (acts : List A) (kept : S) (q : Queue) → q.sent + length acts < 2 ^ 64 - 1 → Up q.sent (walked doing kept q acts)
  walk-up doing [] kept q few = omega arith
  walk-up doing (act ∷ acts) kept q few =
      let p = next_meeting doing q in
      let a = one_act rules kept act p.0 in
      let one_more : more q.sent ≡ q.sent + 1 = omega (arith, few) in
      joined-up act a p.1 (goes_past goes_on a.outcome) (walked doing a.kept p.1 acts) q.sent (omega (arith, one_more)) (walk-up doing acts a.kept p.1 (omega (arith, few, one_more)))

  -- by at most one for each act
  joined-few : (act : A) (a : Performed S) (q : Queue) (b : Bool) (rest : Walked S A Queue) (most : ℕ) → q.sent ≤ most → rest.queue.sent ≤ most → (followed_by act a q b rest).queue.sent ≤ most
  joined-few act a q true rest most first later = later
  joined-few act a q false rest most first later = first

  more-few : (count : ℕ) → more count ≤ count + 1
  more-few count = omega arith

  pub walk-few : (doing : Doing) (acts : List A) (kept : S) (q : Queue) → (walked doing kept q acts).queue.sent ≤ q.sent + length acts
  walk-few doing [] kept q = omega arith
  walk-few doing (act ∷ acts) kept q =
      let p = next_meeting doing q in
      let a = one_act rules kept act p.0 in
      joined-few act a p.1 (goes_past goes_on a.outcome) (walked doing a.kept p.1 acts) (q.sent + length (act ∷ acts)) (omega (arith, more-few q.sent)) (omega (arith, more-few q.sent, walk-few doing acts a.kept p.1))

  -- doings that are one at the numbers of its messages lead to one walk
  abbrev SameFrom : Doing → Doing → ℕ → ℕ → Type 0
  SameFrom d e from to = (number : ℕ) → from < number → number ≤ to → d number ≡ e number

  joined-same : (act : A) (a : Performed S) (q : Queue) (b : Bool) (rest rest' : Walked S A Queue) (d e : Doing) (sent : ℕ) → q.sent ≤ rest.queue.sent →
      SameFrom d e sent (followed_by act a q b rest).queue.sent → (SameFrom d e sent rest.queue.sent → rest ≡ rest') → followed_by act a q b rest ≡ followed_by act a q b rest'
  joined-same act a q true rest rest' d e sent up same next = ap (followed_by act a q true) (next same)
  joined-same act a q false rest rest' d e sent up same next = refl

  least : (act : A) (a : Performed S) (q : Queue) (b : Bool) (rest : Walked S A Queue) → q.sent ≤ rest.queue.sent → q.sent ≤ (followed_by act a q b rest).queue.sent
  least act a q true rest up = up
  least act a q false rest up = omega arith

  pub same-walk : (d e : Doing) (acts : List A) (kept : S) (q : Queue) → q.sent + length acts < 2 ^ 64 - 1 → SameFrom d e q.sent (walked d kept q acts).queue.sent → walked d kept q acts ≡ walked e kept q acts
  same-walk d e [] kept q few same = refl
  same-walk d e (act ∷ acts) kept q few same =
      let n = more q.sent in
      let one_more : n ≡ q.sent + 1 = omega (arith, few) in
      let p = next_meeting d q in
      let a = one_act rules kept act p.0 in
      let up = walk-up d acts a.kept p.1 (omega (arith, few, one_more)) in
      let whole = least act a p.1 (goes_past goes_on a.outcome) (walked d a.kept p.1 acts) up in
      let here : d n ≡ e n = same n (omega (arith, one_more)) whole in
      joined-same act a p.1 (goes_past goes_on a.outcome) (walked d a.kept p.1 acts) (walked e a.kept p.1 acts) d e q.sent up same
      (λ so. same-walk d e acts a.kept p.1 (omega (arith, few, one_more)) (λ number low high. so number (omega (arith, low, one_more)) high))
      ∙ ap (λ (f : Fate). let m : Meeting × Queue = (record { lag = (planned q.entries n).lag; fate = fate_met (planned q.entries n).fate f }, p.1) in
      followed_by act (one_act rules kept act m.0) m.1 (goes_past goes_on (one_act rules kept act m.0).outcome) (walked e (one_act rules kept act m.0).kept m.1 acts)) here

-- the doings up to a number, and those after it
abbrev pub then_by : ℕ → Doing → Doing → Doing
then_by last d e number = if nat_le number last then d number else e number

pub first-same : (last : ℕ) (d e : Doing) (number : ℕ) → number ≤ last → then_by last d e number ≡ d number
first-same last d e number low = ap (λ (b : Bool). if b then d number else e number) (let is : nat_le number last ≡ true = grind (arith, low) in is)

pub later-same : (last : ℕ) (d e : Doing) (number : ℕ) → last < number → then_by last d e number ≡ e number
later-same last d e number high = ap (λ (b : Bool). if b then d number else e number) (let is : nat_le number last ≡ false = grind (arith, high) in is)
