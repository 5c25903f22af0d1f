-- Acts that were sent, one after another.
use Rattle.std.proofs.Common.{◌≡◌, ℕ, ◌+◌, ◌*◌, ◌<◌, List, [], ◌∷◌, ◌++◌, length, Option, is_some, Bool, true, false, Result, Ok, Err, refl, sym, ◌∙◌, ap, subst, arith, MatchResult, append_assoc, append-nil, take, drop, get_or, take-append-drop, map}
use Rattle.std.specs.List.{flat_map}
use Rattle.std.specs.Result.{IsErr, IsErrAnd}
use Rattle.std.proofs.lemmas.List.{length-map}
use Rattle.std.proofs.Math.ListN.{get_or-map}
use Rattle.std.proofs.lemmas.List.{take_more, drop_more}
use Rattle.std.proofs.lemmas.Result.{MatchResult-weaker}
use Rattle.sof_base.specs.Ports.{HasRoom}
use Rattle.ipc3_model.specs.declared.reply.Reply.{Reply}
use Rattle.ipc3_model.specs.Messages.{message_spelling}
use Rattle.mbox_link.specs.Calls.{World, Meaning, Exchanged}
use Rattle.mbox_link.proofs.Rooms.{HasRoom-now}
use Rattle.tplg_plan.specs.declared.plans.Plan.{Plan}
use Rattle.host_widgets.specs.declared.answers.HostFault.{HostFault}
use Rattle.host_widgets.specs.HostActs.{Act}
use Rattle.host_widgets.specs.ActMessages.{act_message}
use Rattle.host_widgets.specs.Host.{Outcome, verdict}
use Rattle.host_widgets.specs.Bringing.{Sent}
use Rattle.host_widgets.specs.ActCalls.{ActsDid, Onwards, came_to}
use Rattle.host_widgets.specs.ActCarried.{ActsSent}
use Rattle.host_widgets.specs.OneAct.{act_rules, one_act}
use Rattle.host_widgets.specs.Walk.{goes_past}
use Rattle.host_widgets.specs.declared.kept.Record.{Record}
use Rattle.mbox_link.specs.Meetings.{Meeting}
use Rattle.host_widgets.proofs.Exchanges.{state_of, came, Came-on}
use Rattle.std.proofs.lemmas.Grind.{flat_map-append}

abbrev pub passing : Outcome
passing = Ok tt

abbrev pub failing : HostFault → Outcome
failing fault = Err fault

-- ---- acts that were sent, with their calls

module _ {D : Type 0} (means : Meaning D) (plan : Plan) where
  -- one act, by the result of its exchange
  one_came : (m v : World D) (r : Result Reply HostFault) → v ≡ m → MatchResult r (λ reply. (v ≡ m) × (came_to r ≡ Ok tt)) (λ fault. (v ≡ m) × (came_to r ≡ Err fault))
  one_came m v (Ok reply) same = (same, refl)
  one_came m v (Err fault) same = (same, refl)

  pub sent-one : (act : Act) (r : Result Reply HostFault) (w v : World D) → Sent means (message_spelling (act_message plan act)) w v r → ActsSent means plan (act ∷ []) w v (came_to r)
  sent-one act r w v sent =
      let m = sent.led.0 in (
        m,
        sent.answer,
        sent.led.1,
        subst (λ (said : Result Reply HostFault). MatchResult said (λ reply. (v ≡ m) × (came_to r ≡ Ok tt)) (λ fault. (v ≡ m) × (came_to r ≡ Err fault))) sent.said (one_came m v r sent.led.2),
      )

  -- acts after acts that have passed
  pub sent-then : (acts more : List Act) (w m v : World D) (result : Outcome) → ActsSent means plan acts w m passing → ActsSent means plan more m v result → ActsSent means plan (acts ++ more) w v result
  sent-then [] more w m v result first rest = subst (λ (x : World D). ActsSent means plan more x v result) first.0 rest
  sent-then (act ∷ acts) more w m v result (mid, answer, x, on) rest = (
    mid,
    answer,
    x,
    MatchResult-weaker (verdict answer) on (λ reply passed. sent-then acts more mid m v result passed rest) (λ fault none. absurd (cc none.1)),
  )

  -- after a failure no act follows
  pub sent-ended : (acts more : List Act) (w v : World D) (fault : HostFault) → ActsSent means plan acts w v (Err fault) → ActsSent means plan (acts ++ more) w v (Err fault)
  sent-ended [] more w v fault first = absurd (cc first.1)
  sent-ended (act ∷ acts) more w v fault (mid, answer, x, on) = (
    mid,
    answer,
    x,
    MatchResult-weaker (verdict answer) on (λ reply rest. sent-ended acts more mid v fault rest) (λ fault end. end),
  )

  -- ---- what they keep

  module _ (Kept : World D → Type 0) (each : (request : List ℕ) (answer : Option (List ℕ)) (w v : World D) → Exchanged means request answer w v → Kept w → Kept v) where
    -- what each exchange keeps
    pub sent-keep : (acts : List Act) (w v : World D) (result : Outcome) → ActsSent means plan acts w v result → Kept w → Kept v
    sent-keep [] w v result sent kept = subst Kept (sym sent.0) kept
    sent-keep (act ∷ acts) w v result (mid, answer, x, on) kept = by (verdict answer) on (each (message_spelling (act_message plan act)) answer w mid x kept) (sent-keep acts mid v result)
      where
        by : (r : Result Reply HostFault) → MatchResult r (λ reply. ActsSent means plan acts mid v result) (λ fault. (v ≡ mid) × (result ≡ Err fault)) → Kept mid → (ActsSent means plan acts mid v result → Kept mid → Kept v) → Kept v
        by (Ok reply) rest now go = go rest now
        by (Err fault) end now go = subst Kept (sym end.0) now

    -- the same of acts by what they met
    pub did-keep : (heap : ℕ) (goes_on : Bool) (acts : List Act) (ms : List Meeting) (now : Record) (w v : World D) → ActsDid means (act_rules plan heap) goes_on now acts ms w v → Kept w → Kept v
    did-keep heap goes_on [] ms now w v did kept = subst Kept (sym did.1) kept
    did-keep heap goes_on (act ∷ acts) [] now w v did kept = absurd did
    did-keep heap goes_on (act ∷ acts) (m ∷ ms) now w v (mid, d, on) kept =
        by (goes_past goes_on (one_act (act_rules plan heap) now act m).outcome) on (each (message_spelling (act_message plan act)) d.answer w mid d.exchanged kept) (did-keep heap goes_on acts ms (one_act (act_rules plan heap) now act m).kept mid v)
      where
        by : (b : Bool) → Onwards b ms mid v (ActsDid means (act_rules plan heap) goes_on (one_act (act_rules plan heap) now act m).kept acts ms mid v) → Kept mid → (ActsDid means (act_rules plan heap) goes_on (one_act (act_rules plan heap) now act m).kept acts ms mid v → Kept mid → Kept v) → Kept v
        by true rest at go = go rest at
        by false end at go = subst Kept (sym end.1) at

  -- the device stays on, and the outputs keep room for what is pending
  abbrev pub IsOn : World D → Type 0
  IsOn w = is_some (means.on w.device) ≡ true

  abbrev pub HasPendingRoom : World D → Type 0
  HasPendingRoom w = HasRoom (61440 * means.pending w.device) w.io.outputs

  on-stays : (request : List ℕ) (answer : Option (List ℕ)) (w v : World D) → Exchanged means request answer w v → IsOn w → IsOn v
  on-stays request answer w v x on = let s = state_of (means.on w.device) on in Came-on means request answer w v _ (came means request answer w v s.0 s.1 x)

  room-stays : (request : List ℕ) (answer : Option (List ℕ)) (w v : World D) → Exchanged means request answer w v → HasPendingRoom w → HasPendingRoom v
  room-stays request answer w v x room = HasRoom-now (61440 * means.pending w.device) (61440 * means.pending v.device) w.io.outputs v.io.outputs x.room room

  pub sent-on : (acts : List Act) (w v : World D) (result : Outcome) → ActsSent means plan acts w v result → IsOn w → IsOn v
  sent-on = sent-keep IsOn on-stays

  pub sent-room : (acts : List Act) (w v : World D) (result : Outcome) → ActsSent means plan acts w v result → HasPendingRoom w → HasPendingRoom v
  sent-room = sent-keep HasPendingRoom room-stays

  -- for a caller that goes on after acts
  pub did-on : (heap : ℕ) (goes_on : Bool) (acts : List Act) (ms : List Meeting) (now : Record) (w v : World D) → ActsDid means (act_rules plan heap) goes_on now acts ms w v → IsOn w → IsOn v
  did-on = did-keep IsOn on-stays

  pub did-room : (heap : ℕ) (goes_on : Bool) (acts : List Act) (ms : List Meeting) (now : Record) (w v : World D) → ActsDid means (act_rules plan heap) goes_on now acts ms w v → HasPendingRoom w → HasPendingRoom v
  did-room = did-keep HasPendingRoom room-stays

  -- ---- the turns of a loop over items that each are an act

  module _ {X : Type 0} (act_of : X → Act) (items xs : List X) (same : xs ≡ items) (i : ℕ) (d : X) (within : i < length xs) (w m v : World D) (answer : Result Reply HostFault) (so_far : ActsSent means plan (take i (map act_of items)) w m passing) (sent : Sent means (message_spelling (act_message plan (act_of (get_or xs i d)))) m v answer) where
    within_acts : i < length (map act_of items)
    within_acts = omega (arith, length-map items act_of, ap length same, within)

    act_is : get_or (map act_of items) i (act_of d) ≡ act_of (get_or xs i d)
    act_is = get_or-map act_of items i d ∙ ap (λ (ys : List X). act_of (get_or ys i d)) (sym same)

    pub sent-more : (reply : Reply) → answer ≡ Ok reply → ActsSent means plan (take (i + 1) (map act_of items)) w v passing
    sent-more reply is =
        let acts = map act_of items in
        let act = act_of (get_or xs i d) in
        let next : take (i + 1) acts ≡ take i acts ++ act ∷ [] = take_more acts i (act_of d) within_acts ∙ ap (λ (a : Act). take i acts ++ a ∷ []) act_is in
        subst (λ (xs : List Act). ActsSent means plan xs w v passing) (sym next) (sent-then (take i acts) (act ∷ []) w m v passing so_far (sent-one act (Ok reply) m v (subst (λ (r : Result Reply HostFault). Sent means (message_spelling (act_message plan act)) m v r) is sent)))

    pub sent-ends : (fault : HostFault) (result : Outcome) → answer ≡ Err fault → result ≡ Err fault → ActsSent means plan (map act_of items) w v result
    sent-ends fault result is this =
        let acts = map act_of items in
        let act = act_of (get_or xs i d) in
        let split : (take i acts ++ act ∷ []) ++ drop (i + 1) acts ≡ acts =
        append_assoc (take i acts) (act ∷ []) (drop (i + 1) acts)
        ∙ ap (λ (a : Act). take i acts ++ a ∷ drop (i + 1) acts) (sym act_is)
        ∙ ap (λ (xs : List Act). take i acts ++ xs) (sym (drop_more acts i (act_of d) within_acts))
        ∙ take-append-drop i acts in
        let failed = sent-one act (Err fault) m v (subst (λ (r : Result Reply HostFault). Sent means (message_spelling (act_message plan act)) m v r) is sent) in
        subst (λ (r : Outcome). ActsSent means plan acts w v r) (sym this)
        (subst (λ (xs : List Act). ActsSent means plan xs w v (Err fault)) split
        (sent-ended (take i acts ++ act ∷ []) (drop (i + 1) acts) w v fault (sent-then (take i acts) (act ∷ []) w m v (Err fault) so_far failed)))

  -- ---- the turns of a loop over items that each are some acts

  module _ {X : Type 0} (acts_of : X → List Act) (items xs : List X) (same : xs ≡ items) (i : ℕ) (d : X) (within : i < length xs) (w m v : World D) (so_far : ActsSent means plan (flat_map acts_of (take i items)) w m passing) (result : Outcome) (step : ActsSent means plan (acts_of (get_or xs i d)) m v result) where
    within_items : i < length items
    within_items = omega (arith, ap length same, within)

    item_is : get_or xs i d ≡ get_or items i d
    item_is = ap (λ (ys : List X). get_or ys i d) same

    front : flat_map acts_of (take (i + 1) items) ≡ flat_map acts_of (take i items) ++ acts_of (get_or xs i d)
    front =
        ap (flat_map acts_of) (take_more items i d within_items)
        ∙ flat_map-append acts_of (take i items) (get_or items i d ∷ [])
        ∙ ap (λ (acts : List Act). flat_map acts_of (take i items) ++ acts) (append-nil (acts_of (get_or items i d)) ∙ ap acts_of (sym item_is))

    pub sent-all : result ≡ Ok tt → ActsSent means plan (flat_map acts_of (take (i + 1) items)) w v passing
    sent-all passed =
        subst (λ (acts : List Act). ActsSent means plan acts w v passing) (sym front)
        (sent-then (flat_map acts_of (take i items)) (acts_of (get_or xs i d)) w m v passing so_far (subst (λ (r : Outcome). ActsSent means plan (acts_of (get_or xs i d)) m v r) passed step))

    pub sent-stops : (fault : HostFault) (end : Outcome) → result ≡ Err fault → end ≡ Err fault → ActsSent means plan (flat_map acts_of items) w v end
    sent-stops fault end failed this =
        let rest : List Act = flat_map acts_of (drop (i + 1) items) in
        let split : flat_map acts_of (take (i + 1) items) ++ rest ≡ flat_map acts_of items = sym (flat_map-append acts_of (take (i + 1) items) (drop (i + 1) items)) ∙ ap (flat_map acts_of) (take-append-drop (i + 1) items) in
        let first = sent-then (flat_map acts_of (take i items)) (acts_of (get_or xs i d)) w m v (Err fault) so_far (subst (λ (r : Outcome). ActsSent means plan (acts_of (get_or xs i d)) m v r) failed step) in
        subst (λ (r : Outcome). ActsSent means plan (flat_map acts_of items) w v r) (sym this)
        (subst (λ (acts : List Act). ActsSent means plan acts w v (Err fault)) split
        (sent-ended (flat_map acts_of (take (i + 1) items)) rest w v fault (subst (λ (acts : List Act). ActsSent means plan acts w v (Err fault)) (sym front) first)))

-- what a `?` hands on
pub handed_on : (result : Outcome) (fault : HostFault) → IsErr result × IsErrAnd result (λ f. f ≡ fault) → result ≡ Err fault
handed_on (Ok done) fault (err, same) = absurd (cc err)
handed_on (Err f) fault (err, same) = ap (λ (x : HostFault). Err x) same
