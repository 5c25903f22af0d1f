-- Messages that make pipelines, sent one after another, with those that passed.
use Rattle.std.proofs.Common.{◌≡◌, refl, sym, ap, subst, ◌∙◌, ℕ, zero, suc, ◌+◌, ◌<◌, List, [], ◌∷◌, ◌++◌, map, filter, take, drop, length, get_or, Bool, true, false, cond, Option, None, Result, Ok, Err, MatchResult, append-nil, take-append-drop, arith}
use Rattle.std.specs.List.{filter_map, cons_option, flat_map, AllByRecursion}
use Rattle.std.proofs.lemmas.List.{take_more}
use Rattle.std.proofs.lemmas.Result.{MatchResult-weaker}
use Rattle.stream_law.specs.declared.graph.Pipe.{Pipe}
use Rattle.stream_law.specs.Order.{is_among}
use Rattle.stream_law.specs.declared.graph.Join.{Join as Joined}
use Rattle.ipc3_model.specs.declared.reply.Reply.{Reply}
use Rattle.ipc3_model.specs.Messages.{message_spelling}
use Rattle.mbox_link.specs.Calls.{World, Meaning}
use Rattle.tplg_plan.specs.declared.plans.Plan.{Plan}
use Rattle.host_widgets.specs.declared.answers.HostFault.{HostFault}
use Rattle.host_widgets.specs.HostActs.{Act, Make, Join, Finish}
use Rattle.host_widgets.specs.ActLists.{control_acts}
use Rattle.host_widgets.specs.ActCalls.{came_to}
use Rattle.host_widgets.specs.ActCarried.{ActsSent}
use Rattle.host_widgets.specs.ActMessages.{act_message}
use Rattle.host_widgets.specs.Bringing.{Sent}
use Rattle.host_widgets.specs.Groups.{is_control_of, put_acts_of, finish_acts_of}
use Rattle.host_widgets.specs.Host.{Outcome, verdict}
use Rattle.host_widgets.specs.MadeLists.{ActsPassed, MadeListed, widget_made}
use Rattle.host_widgets.proofs.ControlLists.{Pair}
use Rattle.host_widgets.proofs.Walks.{passing, IsOn, HasPendingRoom, sent-on, sent-room}

-- what is so of all is so of the one at a place
pub all-at : {X : Type 0} (P : X → Type 0) (xs : List X) (i : ℕ) (d : X) → i < length xs → AllByRecursion P xs → P (get_or xs i d)
all-at P [] i d low all = absurd (omega (arith, low))
all-at P (x ∷ xs) zero d low all = all.0
all-at P (x ∷ xs) (suc i) d low all = all-at P xs i d (omega (arith, low)) all.1

-- what was made of these is these
pub making-made : (ids : List ℕ) → filter_map widget_made (map Make ids) ≡ ids
making-made [] = refl
making-made (id ∷ ids) = ap (λ (xs : List ℕ). id ∷ xs) (making-made ids)

-- the controls of these indices are set
pub put-acts : (plan : Plan) (n : List ℕ) (ps : List Pair) → flat_map (put_acts_of plan n) ps ≡ flat_map control_acts (filter (is_control_of plan n) ps)
put-acts plan n [] = refl
put-acts plan n (p ∷ ps) = ap (λ (xs : List Act). put_acts_of plan n p ++ xs) (put-acts plan n ps) ∙ by (is_control_of plan n p)
  where
    by : (b : Bool) → cond b (control_acts p) [] ++ flat_map control_acts (filter (is_control_of plan n) ps) ≡ flat_map control_acts (cond b (p ∷ filter (is_control_of plan n) ps) (filter (is_control_of plan n) ps))
    by true = refl
    by false = refl

-- the pipelines of these indices are completed
pub finish-acts : (n : List ℕ) (ps : List Pipe) → flat_map (finish_acts_of n) ps ≡ map Finish (map (λ (p : Pipe). p.id) (filter (λ (p : Pipe). is_among n p.index) ps))
finish-acts n [] = refl
finish-acts n (p ∷ ps) = ap (λ (xs : List Act). finish_acts_of n p ++ xs) (finish-acts n ps) ∙ by (is_among n p.index)
  where
    by : (b : Bool) → cond b (Finish p.id ∷ []) [] ++ map Finish (map (λ (q : Pipe). q.id) (filter (λ (q : Pipe). is_among n q.index) ps)) ≡ map Finish (map (λ (q : Pipe). q.id) (cond b (p ∷ filter (λ (q : Pipe). is_among n q.index) ps) (filter (λ (q : Pipe). is_among n q.index) ps)))
    by true = refl
    by false = refl

abbrev pub join_act : Joined → Act
join_act j = Join j.source j.sink

-- acts that make no widget
abbrev pub MakeNone : List Act → Type 0
MakeNone acts = AllByRecursion (λ a. widget_made a ≡ None) acts

module _ {D : Type 0} (means : Meaning D) (plan : Plan) where
  -- ---- one after another

  -- what passed of one act
  abbrev pub passed_of : {T : Type 0} → Act → Result T HostFault → List Act
  passed_of act (Ok done) = act ∷ []
  passed_of act (Err fault) = []

  one_came : (act : Act) (m v : World D) (r : Result Reply HostFault) → v ≡ m →
      MatchResult r (λ reply. (rest : List Act) × (passed_of act r ≡ act ∷ rest) × ((rest ≡ []) × (v ≡ m) × (came_to r ≡ Ok tt))) (λ fault. (passed_of act r ≡ []) × (v ≡ m) × (came_to r ≡ Err fault))
  one_came act m v (Ok reply) same = ([], refl, (refl, same, refl))
  one_came act m v (Err fault) same = (refl, same, refl)

  pub listed-one : (act : Act) (r : Result Reply HostFault) (w v : World D) → Sent means (message_spelling (act_message plan act)) w v r → ActsPassed means plan (act ∷ []) (passed_of act r) w v (came_to r)
  listed-one act r w v sent =
      let m = sent.led.0 in (
        m,
        sent.answer,
        sent.led.1,
        subst (λ (said : Result Reply HostFault). MatchResult said (λ reply. (rest : List Act) × (passed_of act r ≡ act ∷ rest) × ((rest ≡ []) × (v ≡ m) × (came_to r ≡ Ok tt))) (λ fault. (passed_of act r ≡ []) × (v ≡ m) × (came_to r ≡ Err fault)))
            sent.said (one_came act m v r sent.led.2),
      )

  -- acts after acts that have passed
  pub listed-then : (acts more ps qs : List Act) (w m v : World D) (result : Outcome) → ActsPassed means plan acts ps w m passing → ActsPassed means plan more qs m v result → ActsPassed means plan (acts ++ more) (ps ++ qs) w v result
  listed-then [] more ps qs w m v result first rest =
      subst (λ (x : World D). ActsPassed means plan more (ps ++ qs) x v result) first.1 (subst (λ (xs : List Act). ActsPassed means plan more (xs ++ qs) m v result) (sym first.0) rest)
  listed-then (act ∷ acts) more ps qs w m v result (mid, answer, x, on) rest = (
    mid,
    answer,
    x,
    MatchResult-weaker (verdict answer) on (λ reply passed. (passed.0 ++ qs, ap (λ (xs : List Act). xs ++ qs) passed.1, listed-then acts more passed.0 qs mid m v result passed.2 rest)) (λ fault none. absurd (cc none.2)),
  )

  -- after a failure no act follows
  pub listed-ended : (acts more ps : List Act) (w v : World D) (fault : HostFault) → ActsPassed means plan acts ps w v (Err fault) → ActsPassed means plan (acts ++ more) ps w v (Err fault)
  listed-ended [] more ps w v fault first = absurd (cc first.2)
  listed-ended (act ∷ acts) more ps w v fault (mid, answer, x, on) = (
    mid,
    answer,
    x,
    MatchResult-weaker (verdict answer) on (λ reply r. (r.0, r.1, listed-ended acts more r.0 mid v fault r.2)) (λ fault end. end),
  )

  -- all of them passed
  pub listed-all : (acts ps : List Act) (w v : World D) → ActsPassed means plan acts ps w v passing → ps ≡ acts
  listed-all [] ps w v sent = sent.0
  listed-all (act ∷ acts) ps w v (mid, answer, x, on) = by (verdict answer) on (λ rest sent. listed-all acts rest mid v sent)
    where
      by : (r : Result Reply HostFault) → MatchResult r (λ reply. (rest : List Act) × (ps ≡ act ∷ rest) × ActsPassed means plan acts rest mid v passing) (λ fault. (ps ≡ []) × (v ≡ mid) × (passing ≡ Err fault)) →
          ((rest : List Act) → ActsPassed means plan acts rest mid v passing → rest ≡ acts) → ps ≡ act ∷ acts
      by (Ok reply) (rest, at, sent) go = at ∙ ap (λ (xs : List Act). act ∷ xs) (go rest sent)
      by (Err fault) end go = absurd (cc end.2)

  -- the same without what passed
  pub listed-sent : (acts : List Act) (ps : List Act) (w v : World D) (result : Outcome) → ActsPassed means plan acts ps w v result → ActsSent means plan acts w v result
  listed-sent [] ps w v result sent = (sent.1, sent.2)
  listed-sent (act ∷ acts) ps w v result (mid, answer, x, on) = (mid, answer, x, MatchResult-weaker (verdict answer) on (λ reply r. listed-sent acts r.0 mid v result r.2) (λ fault end. (end.1, end.2)))

  -- so they keep what acts keep that were sent
  pub listed-on : (acts ps : List Act) (w v : World D) (result : Outcome) → ActsPassed means plan acts ps w v result → IsOn means plan w → IsOn means plan v
  listed-on acts ps w v result sent = sent-on means plan acts w v result (listed-sent acts ps w v result sent)

  pub listed-room : (acts ps : List Act) (w v : World D) (result : Outcome) → ActsPassed means plan acts ps w v result → HasPendingRoom means plan w → HasPendingRoom means plan v
  listed-room acts ps w v result sent = sent-room means plan acts w v result (listed-sent acts ps w v result sent)

  -- ---- the turns of a loop over items that each are an act

  module _ {X : Type 0} (act_of : X → Act) (items : List X) (i : ℕ) (d : X) (within : i < length items) (w m v : World D) (answer : Result Reply HostFault) (so_far : ActsPassed means plan (map act_of (take i items)) (map act_of (take i items)) w m passing) (sent : Sent means (message_spelling (act_message plan (act_of (get_or items i d)))) m v answer) where
    abbrev turn : Act
    turn = act_of (get_or items i d)

    map-append : (xs ys : List X) → map act_of (xs ++ ys) ≡ map act_of xs ++ map act_of ys
    map-append [] ys = refl
    map-append (x ∷ xs) ys = ap (λ (zs : List Act). act_of x ∷ zs) (map-append xs ys)

    front : map act_of (take (i + 1) items) ≡ map act_of (take i items) ++ turn ∷ []
    front = ap (map act_of) (take_more items i d within) ∙ map-append (take i items) (get_or items i d ∷ [])

    pub one-more : (reply : Reply) → answer ≡ Ok reply → ActsPassed means plan (map act_of (take (i + 1) items)) (map act_of (take (i + 1) items)) w v passing
    one-more reply is =
        let one = listed-one turn (Ok reply) m v (subst (λ (r : Result Reply HostFault). Sent means (message_spelling (act_message plan turn)) m v r) is sent) in
        subst (λ (xs : List Act). ActsPassed means plan xs xs w v passing) (sym front) (listed-then (map act_of (take i items)) (turn ∷ []) (map act_of (take i items)) (turn ∷ []) w m v passing so_far one)

    pub one-ends : (fault : HostFault) (result : Outcome) → answer ≡ Err fault → result ≡ Err fault → ActsPassed means plan (map act_of items) (map act_of (take i items)) w v result
    one-ends fault result is this =
        let one = listed-one turn (Err fault) m v (subst (λ (r : Result Reply HostFault). Sent means (message_spelling (act_message plan turn)) m v r) is sent) in
        let all : map act_of (take (i + 1) items) ++ map act_of (drop (i + 1) items) ≡ map act_of items = sym (map-append (take (i + 1) items) (drop (i + 1) items)) ∙ ap (map act_of) (take-append-drop (i + 1) items) in
        let most = listed-then (map act_of (take i items)) (turn ∷ []) (map act_of (take i items)) [] w m v (Err fault) so_far one in
        let first = subst (λ (xs : List Act). ActsPassed means plan xs (map act_of (take i items)) w v (Err fault)) (sym front) (subst (λ (xs : List Act). ActsPassed means plan (map act_of (take i items) ++ turn ∷ []) xs w v (Err fault)) (append-nil (map act_of (take i items))) most) in
        subst (λ (r : Outcome). ActsPassed means plan (map act_of items) (map act_of (take i items)) w v r) (sym this)
        (subst (λ (xs : List Act). ActsPassed means plan xs (map act_of (take i items)) w v (Err fault)) all (listed-ended (map act_of (take (i + 1) items)) (map act_of (drop (i + 1) items)) (map act_of (take i items)) w v fault first))

  -- ---- acts of the ordinary host

  -- what passed of these
  pub sent-listed : (acts : List Act) (w v : World D) (result : Outcome) → ActsSent means plan acts w v result → (passed : List Act) × ActsPassed means plan acts passed w v result
  sent-listed [] w v result sent = ([], (refl, sent.0, sent.1))
  sent-listed (act ∷ acts) w v result (mid, answer, x, on) = by (verdict answer) refl on (λ rest. sent-listed acts mid v result rest)
    where
      Told : List Act → Result Reply HostFault → Type 0
      Told passed r = MatchResult r (λ reply. (rest : List Act) × (passed ≡ act ∷ rest) × ActsPassed means plan acts rest mid v result) (λ fault. (passed ≡ []) × (v ≡ mid) × (result ≡ Err fault))

      by : (r : Result Reply HostFault) → verdict answer ≡ r → MatchResult r (λ reply. ActsSent means plan acts mid v result) (λ fault. (v ≡ mid) × (result ≡ Err fault)) →
          (ActsSent means plan acts mid v result → (passed : List Act) × ActsPassed means plan acts passed mid v result) → (passed : List Act) × ActsPassed means plan (act ∷ acts) passed w v result
      by (Ok reply) is rest go = let l = go rest in (act ∷ l.0, (mid, answer, x, subst (Told (act ∷ l.0)) (sym is) (l.0, refl, l.1)))
      by (Err fault) is end go = ([], (mid, answer, x, subst (Told []) (sym is) (refl, end.0, end.1)))

  pub none-made : (acts : List Act) (ps : List Act) (w v : World D) (result : Outcome) → MakeNone acts → ActsPassed means plan acts ps w v result → filter_map widget_made ps ≡ []
  none-made [] ps w v result none sent = ap (filter_map widget_made) sent.0
  none-made (act ∷ acts) ps w v result none (mid, answer, x, on) = by (verdict answer) on (λ rest sent. none-made acts rest mid v result none.1 sent)
    where
      by : (r : Result Reply HostFault) → MatchResult r (λ reply. (rest : List Act) × (ps ≡ act ∷ rest) × ActsPassed means plan acts rest mid v result) (λ fault. (ps ≡ []) × (v ≡ mid) × (result ≡ Err fault)) →
          ((rest : List Act) → ActsPassed means plan acts rest mid v result → filter_map widget_made rest ≡ []) → filter_map widget_made ps ≡ []
      by (Ok reply) (rest, at, sent) go = ap (filter_map widget_made) at ∙ ap (λ (o : Option ℕ). cons_option o (filter_map widget_made rest)) none.0 ∙ go rest sent
      by (Err fault) end go = ap (filter_map widget_made) end.0

  -- these widgets were made, and are listed
  pub listed-so : (ids so_far : List ℕ) (made made' : List ℕ) (w v : World D) (result : Outcome) → ActsPassed means plan (map Make ids) (map Make so_far) w v result → made' ≡ made ++ so_far → MadeListed means plan (map Make ids) made made' w v result
  listed-so ids so_far made made' w v result sent are = record { passed = map Make so_far; sent = sent; made_are = are ∙ ap (λ (xs : List ℕ). made ++ xs) (sym (making-made so_far)) }
