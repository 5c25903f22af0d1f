-- Acts that are sent one after another: one act, acts after an act, and the turns of a loop.
use Rattle.std.proofs.Common.{◌≡◌, ◌⊎◌, inl, inr, ℕ, ◌*◌, List, [], ◌∷◌, ◌++◌, Bool, true, false, Option, is_some, Ok, Err, refl, sym, ap, subst, ◌∙◌}
use Rattle.sof_base.specs.declared.errno.Errno.{Errno}
use Rattle.sof_base.specs.Ports.{HasRoom}
use Rattle.ipc3_model.specs.Messages.{message_spelling}
use Rattle.mbox_link.specs.Calls.{World, Meaning}
use Rattle.mbox_link.proofs.Rooms.{HasRoom-now}
use Rattle.tplg_plan.specs.declared.plans.Plan.{Plan}
use Rattle.host_widgets.specs.declared.answers.HostFault.TheVariants.{Refused}
use Rattle.host_widgets.specs.HostActs.{Act}
use Rattle.host_widgets.specs.ActMessages.{act_message}
use Rattle.host_widgets.specs.ActCalls.{came_to}
use Rattle.host_widgets.specs.Host.{Outcome, verdict}
use Rattle.host_widgets.specs.Bringing.{Sent}
use Rattle.host_widgets.specs.Walk.{goes_past, first_of}
use Rattle.host_widgets.proofs.Exchanges.{state_of, came, Came-on}
use Rattle.host_pm.specs.InTurn.{Behind, InTurn, Told}

-- ---- the first fault

pub first-none : (o : Outcome) → first_of o (Ok tt) ≡ o
first-none (Ok done) = refl
first-none (Err fault) = refl

-- what acts go on after
abbrev pub IsUp : Outcome → Type 0
IsUp o = (o ≡ Ok tt) ⊎ ((e : Errno) × (o ≡ Err (Refused e)))

up-is : (goes_on : Bool) (o : Outcome) → goes_past goes_on o ≡ true → IsUp o
up-is goes_on (Ok done) is = inl refl
up-is goes_on (Err (Refused e)) is = inr (e, refl)
up-is goes_on (Err fault) is = absurd (cc is)

past-refusals : (e d : Errno) (c : Outcome) → first_of (Err (Refused e)) (first_of (Err (Refused d)) c) ≡ first_of (Err (Refused e)) c
past-refusals e d (Ok done) = refl
past-refusals e d (Err (Refused c)) = refl
past-refusals e d (Err fault) = refl

three : (a b c : Outcome) → IsUp a → IsUp b → first_of a (first_of b c) ≡ first_of (first_of a b) c
three a b c (inl is) up = (λ i. first_of (is i) (first_of b c)) ∙ (λ i. first_of (first_of (sym is i) b) c)
three a b c (inr (e, is)) (inl none) = (λ i. first_of (is i) (first_of (none i) c)) ∙ (λ i. first_of (first_of (sym is i) (sym none i)) c)
three a b c (inr (e, is)) (inr (d, that)) = (λ i. first_of (is i) (first_of (that i) c)) ∙ past-refusals e d c ∙ (λ i. first_of (first_of (sym is i) (sym that i)) c)

-- acts go on after both
pub both-past : (goes_on : Bool) (a b : Outcome) → goes_past goes_on a ≡ true → goes_past goes_on b ≡ true → goes_past goes_on (first_of a b) ≡ true
both-past goes_on a b past then_past = by (up-is goes_on a past) (up-is goes_on b then_past)
  where
    by : IsUp a → IsUp b → goes_past goes_on (first_of a b) ≡ true
    by (inl is) up = ap (λ (o : Outcome). goes_past goes_on (first_of o b)) is ∙ then_past
    by (inr (e, is)) (inl none) = (λ i. goes_past goes_on (first_of (is i) (none i))) ∙ ap (goes_past goes_on) (sym is) ∙ past
    by (inr (e, is)) (inr (d, that)) = (λ i. goes_past goes_on (first_of (is i) (that i))) ∙ ap (goes_past goes_on) (sym is) ∙ past

module _ {D : Type 0} (means : Meaning D) (plan : Plan) (goes_on : Bool) where
  abbrev pub Turn : List Act → World D → World D → Outcome → Type 0
  Turn acts w v o = InTurn means plan goes_on acts w v o

  abbrev said : Option (List ℕ) → Outcome
  said answer = came_to (verdict answer)

  -- ---- one act

  pub turn-one : (act : Act) (w v : World D) (result : Outcome) → Told means (message_spelling (act_message plan act)) w v result → Turn (act ∷ []) w v result
  turn-one act w v result it = (sent.answer, sent.led.0, sent.led.1, behind (goes_past goes_on (said sent.answer)))
    where
      sent : Sent means (message_spelling (act_message plan act)) w v it.reply
      sent = it.sent

      told : result ≡ said sent.answer
      told = it.said ∙ ap came_to sent.said

      behind : (b : Bool) → Behind b (said sent.answer) (λ rest. (v ≡ sent.led.0) × (rest ≡ Ok tt)) (v ≡ sent.led.0) result
      behind true = (Ok tt, (sent.led.2, refl), told ∙ sym (first-none (said sent.answer)))
      behind false = (sent.led.2, told)

  -- ---- acts after one act

  module _ (act : Act) (acts : List Act) (w m : World D) (o : Outcome) (one : Turn (act ∷ []) w m o) where
    abbrev c : Outcome
    c = said one.0

    abbrev OneBehind : Bool → Type 0
    OneBehind b = Behind b c (λ rest. (m ≡ one.1) × (rest ≡ Ok tt)) (m ≡ one.1) o

    same-said : (b : Bool) → OneBehind b → (m ≡ one.1) × (o ≡ c)
    same-said true (r, none, is) = (none.0, is ∙ ap (first_of c) none.1 ∙ first-none c)
    same-said false (same, is) = (same, is)

    same : (m ≡ one.1) × (o ≡ c)
    same = same-said (goes_past goes_on c) one.3

    pub turn-more : goes_past goes_on o ≡ true → (v : World D) (rest : Outcome) → Turn acts m v rest → Turn (act ∷ acts) w v (first_of o rest)
    turn-more past v rest more = (
      one.0,
      one.1,
      one.2,
      subst (λ (b : Bool). Behind b c (λ r. Turn acts one.1 v r) (v ≡ one.1) (first_of o rest)) (sym past ∙ ap (goes_past goes_on) same.1)
          (rest, subst (λ (x : World D). Turn acts x v rest) same.0 more, ap (λ (x : Outcome). first_of x rest) same.1),
    )

    pub turn-ends : goes_past goes_on o ≡ false → Turn (act ∷ acts) w m o
    turn-ends ends = (one.0, one.1, one.2, subst (λ (b : Bool). Behind b c (λ r. Turn acts one.1 m r) (m ≡ one.1) o) (sym ends ∙ ap (goes_past goes_on) same.1) same)

  -- ---- what they keep: the device stays on, and the outputs keep room for what is pending

  abbrev pub Ready : World D → Type 0
  Ready w = (is_some (means.on w.device) ≡ true) × HasRoom (61440 * means.pending w.device) w.io.outputs

  pub turns-ready : (acts : List Act) (w v : World D) (o : Outcome) → Turn acts w v o → Ready w → Ready v
  turns-ready [] w v o turn ready = subst Ready (sym turn.0) ready
  turns-ready (act ∷ acts) w v o (answer, mid, x, behind) ready = by (goes_past goes_on (said answer)) behind (λ r more. turns-ready acts mid v r more then_ready)
    where
      then_ready : Ready mid
      then_ready =
          let s = state_of (means.on w.device) ready.0 in (
            Came-on means (message_spelling (act_message plan act)) answer w mid _ (came means (message_spelling (act_message plan act)) answer w mid s.0 s.1 x),
            HasRoom-now (61440 * means.pending w.device) (61440 * means.pending mid.device) w.io.outputs mid.io.outputs x.room ready.1,
          )

      by : (b : Bool) → Behind b (said answer) (λ r. Turn acts mid v r) (v ≡ mid) o → ((r : Outcome) → Turn acts mid v r → Ready v) → Ready v
      by true (r, more, is) go = go r more
      by false (same, is) go = subst Ready (sym same) then_ready

  -- ---- the turns of a loop: what is to come decides the result of all

  abbrev pub Ahead : List Act → World D → List Act → World D → Outcome → Type 0
  Ahead all w acts m so_far = (v : World D) (o : Outcome) → Turn acts m v o → Turn all w v (first_of so_far o)

  -- at most one act
  abbrev pub IsFew : List Act → Type 0
  IsFew [] = Unit {0}
  IsFew (act ∷ []) = Unit {0}
  IsFew (act ∷ other ∷ acts) = ⊥

  module _ (all : List Act) (w : World D) (rest : List Act) (m v : World D) (so_far o : Outcome) where
    pub ahead-more : (xs : List Act) → IsFew xs → Ahead all w (xs ++ rest) m so_far → Turn xs m v o → goes_past goes_on so_far ≡ true → goes_past goes_on o ≡ true → Ahead all w rest v (first_of so_far o)
    ahead-more xs few ahead turn past then_past u r more =
        subst (Turn all w u) (three so_far o r (up-is goes_on so_far past) (up-is goes_on o then_past)) (ahead u (first_of o r) (by xs few turn))
      where
        by : (xs : List Act) → IsFew xs → Turn xs m v o → Turn (xs ++ rest) m u (first_of o r)
        by [] few (same, is) = subst (λ (p : World D × Outcome). Turn rest p.0 u (first_of p.1 r)) (λ i. (same i, sym is i)) more
        by (act ∷ []) few turn = turn-more act rest m v o turn then_past u r more
        by (act ∷ other ∷ acts) few turn = absurd few

    pub ahead-ends : (xs : List Act) → IsFew xs → Ahead all w (xs ++ rest) m so_far → Turn xs m v o → goes_past goes_on o ≡ false → Turn all w v (first_of so_far o)
    ahead-ends xs few ahead turn ends = ahead v o (by xs few turn)
      where
        by : (xs : List Act) → IsFew xs → Turn xs m v o → Turn (xs ++ rest) m v o
        by [] few (same, is) = absurd (let no : true ≡ false = ap (goes_past goes_on) (sym is) ∙ ends in cc no)
        by (act ∷ []) few turn = turn-ends act rest m v o turn ends
        by (act ∷ other ∷ acts) few turn = absurd few
