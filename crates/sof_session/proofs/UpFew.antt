-- How many messages a command sends at most where pipelines are made on use.
use Rattle.std.proofs.Common.{◌≡◌, refl, sym, ◌∙◌, ℕ, ◌+◌, ◌≤◌, ◌-◌, ◌++◌, ◌==◌, length, map, filter, Bool, true, false, not, cond, List, [], ◌∷◌, Option, Some, None, Ok, Err, inl, inr, arith}
use Rattle.std.specs.Option.{option_map_or, option_or}
use Rattle.std.specs.List.{flat_map, zip}
use Rattle.std.proofs.lemmas.Bool.{eqb-true, false≢true}
use Rattle.std.proofs.lemmas.List.{length-append, length-map}
use Rattle.stream_law.specs.Order.{is_among}
use Rattle.stream_law.specs.Ways.{buffers, components}
use Rattle.stream_law.specs.declared.graph.Join.{Join}
use Rattle.stream_law.specs.declared.graph.Pipe.{Pipe}
use Rattle.stream_law.proofs.Members.{IsIn, filter-most}
use Rattle.tplg_plan.specs.declared.plans.Plan.{Plan}
use Rattle.tplg_plan.specs.Sound.{IsSound}
use Rattle.host_widgets.specs.declared.answers.HostFault.{HostFault}
use Rattle.host_widgets.specs.declared.answers.HostFault.TheVariants.{Refused}
use Rattle.host_widgets.specs.declared.kept.Found.{Found}
use Rattle.host_widgets.specs.declared.kept.Found.TheVariants as founds
use Rattle.host_widgets.specs.declared.kept.Power.{Power}
use Rattle.host_widgets.specs.declared.kept.Power.TheVariants as powers
use Rattle.host_widgets.specs.declared.kept.Record.{Record}
use Rattle.host_widgets.specs.Acts.{widget_ids, widget_words}
use Rattle.host_widgets.specs.ActLists.{control_acts, prepare_acts, close_by}
use Rattle.host_widgets.specs.Host.{Outcome, IsRecordOf}
use Rattle.host_widgets.specs.HostActs.{Act, Make, Finish, Unmake}
use Rattle.host_widgets.specs.HostActs as acts
use Rattle.host_widgets.specs.Orders.{Procedure}
use Rattle.host_widgets.specs.Routines.{Routine}
use Rattle.host_widgets.proofs.FewJoins.{few-brought}
use Rattle.host_widgets.specs.UpActs.{widgets_of, making_acts, pipe_ids, unmade_order, unmaking_acts}
use Rattle.host_dynamic.specs.Dynamic.{plain_job, lacking, after_unmaking, unmade, after_making, opening_by, after_closing, closing_by, after_resuming, resuming_job, is_control_up, unsent, with_stream_shut, parting}
use Rattle.host_widgets.specs.UpState.{UpState}
use Rattle.host_widgets.specs.There.{ids_there_of}
use Rattle.host_widgets.specs.Need.{is_needed, need_in}
use Rattle.host_widgets.specs.Up.{is_join_at, buffer_joins}
use Rattle.host_dynamic.specs.UpStates.{IsUpState}
use Rattle.host_widgets.proofs.Sublists.{AreOnce, once-filter, distinct-once}
use Rattle.sof_script.specs.declared.script.Command.{Command}
use Rattle.sof_script.specs.declared.script.Command.TheVariants as commands
use Rattle.sof_session.specs.Commands.{order_of}
use Rattle.sof_session.specs.CommandTests.{fault_of}
use Rattle.sof_session.specs.UpCommands.{up_fault, up_job}
use Rattle.sof_session.proofs.FewOrders.{few-most, few-prepares, few-tested}
use Rattle.sof_session.proofs.PlanCounts.{few-streams_and_controls}
use Rattle.sof_session.proofs.RoutineNumbers.{SendsWithin}
use Rattle.host_widgets.specs.Groups.{is_control_of, finish_ids}
use Rattle.host_widgets.specs.Indices.{pipe_indices, join_index}

few-flat : {X Y : Type 0} (f : X → List Y) (p : X → Bool) (xs : List X) → length (flat_map f (filter p xs)) ≤ length (flat_map f xs)
few-flat f p [] = omega arith
few-flat {X} f p (x ∷ xs) = by (p x) (few-flat f p xs)
  where
    by : (b : Bool) → length (flat_map f (filter p xs)) ≤ length (flat_map f xs) → length (flat_map f (cond b (x ∷ filter p xs) (filter p xs))) ≤ length (f x ++ flat_map f xs)
    by true few = omega (arith, few, length-append (f x) (flat_map f (filter p xs)), length-append (f x) (flat_map f xs))
    by false few = omega (arith, few, length-append (f x) (flat_map f xs))

-- ---- what is listed by numbers, each no more than once

module _ {X : Type 0} (test : ℕ → X → Bool) (one : (x : X) (i j : ℕ) → test i x ≡ true → test j x ≡ true → i ≡ j) where
  abbrev listed : List ℕ → List X → List X
  listed ns xs = flat_map (λ (i : ℕ). filter (test i) xs) ns

  -- the numbers at which it is
  abbrev hits : X → List ℕ → List ℕ
  hits x ns = filter (λ (i : ℕ). test i x) ns

  listed-none : (ns : List ℕ) → length (listed ns []) ≡ 0
  listed-none [] = refl
  listed-none (n ∷ ns) = listed-none ns

  listed-more : (x : X) (xs : List X) (ns : List ℕ) → length (listed ns (x ∷ xs)) ≡ length (hits x ns) + length (listed ns xs)
  listed-more x xs [] = refl
  listed-more x xs (n ∷ ns) = by (test n x) (listed-more x xs ns)
    where
      by : (b : Bool) → length (listed ns (x ∷ xs)) ≡ length (hits x ns) + length (listed ns xs) →
          length (cond b (x ∷ filter (test n) xs) (filter (test n) xs) ++ listed ns (x ∷ xs)) ≡ length (cond b (n ∷ hits x ns) (hits x ns)) + length (filter (test n) xs ++ listed ns xs)
      by true rest = omega (arith, rest, length-append (filter (test n) xs) (listed ns (x ∷ xs)), length-append (filter (test n) xs) (listed ns xs))
      by false rest = omega (arith, rest, length-append (filter (test n) xs) (listed ns (x ∷ xs)), length-append (filter (test n) xs) (listed ns xs))

  none-hits : (x : X) (n : ℕ) (ns : List ℕ) → test n x ≡ true → (IsIn n ns → ⊥) → length (hits x ns) ≡ 0
  none-hits x n [] at gone = refl
  none-hits x n (m ∷ ns) at gone = by (test m x) refl (none-hits x n ns at (λ there. gone (inr there)))
    where
      by : (b : Bool) → test m x ≡ b → length (hits x ns) ≡ 0 → length (cond b (m ∷ hits x ns) (hits x ns)) ≡ 0
      by true here rest = absurd (gone (inl (one x n m at here)))
      by false here rest = rest

  few-hits : (x : X) (ns : List ℕ) → AreOnce ns → length (hits x ns) ≤ 1
  few-hits x [] once = omega arith
  few-hits x (n ∷ ns) once = by (test n x) refl (few-hits x ns once.1)
    where
      by : (b : Bool) → test n x ≡ b → length (hits x ns) ≤ 1 → length (cond b (n ∷ hits x ns) (hits x ns)) ≤ 1
      by true here rest = omega (arith, none-hits x n ns here once.0)
      by false here rest = rest

  few-listed : (xs : List X) (ns : List ℕ) → AreOnce ns → length (listed ns xs) ≤ length xs
  few-listed [] ns once = omega (arith, listed-none ns)
  few-listed (x ∷ xs) ns once = omega (arith, listed-more x xs ns, few-hits x ns once, few-listed xs ns once)

-- ---- making and unmaking

module _ (plan : Plan) (sound : IsSound plan) where
  one-index : (id i j : ℕ) → ((widget_words plan id).pipe == i) ≡ true → ((widget_words plan id).pipe == j) ≡ true → i ≡ j
  one-index id i j first second = sym (eqb-true (widget_words plan id).pipe i first) ∙ eqb-true (widget_words plan id).pipe j second

  one-buffer : (x : Join) (i j : ℕ) → is_join_at plan.graph i x ≡ true → is_join_at plan.graph j x ≡ true → i ≡ j
  one-buffer x i j first second = by (join_index plan.graph x) first second
    where
      by : (o : Option ℕ) → option_map_or (λ (k : ℕ). k == i) o false ≡ true → option_map_or (λ (k : ℕ). k == j) o false ≡ true → i ≡ j
      by None first second = absurd (false≢true first)
      by (Some k) first second = sym (eqb-true k i first) ∙ eqb-true k j second

  -- no more messages than bring all up
  pub few-making : (kept : Record) (n : List ℕ) → AreOnce n → IsRecordOf plan kept → length (making_acts plan kept n) ≤ 832
  few-making kept n once is =
      let widgets = few-listed (λ (i id : ℕ). (widget_words plan id).pipe == i) one-index (widget_ids plan) n once in
      let joins = few-listed (is_join_at plan.graph) one-buffer plan.graph.joins n once in
      let puts = few-flat control_acts (is_control_of plan n) (zip plan.controls kept.controls) in
      let pipes = filter-most (λ (p : Pipe). is_among n p.index) plan.graph.pipes in
      let a : List Act = map Make (widgets_of plan n) in
      let b : List Act = map (λ (j : Join). acts.Join j.source j.sink) (flat_map (buffer_joins plan.graph) n) in
      let c : List Act = flat_map control_acts (filter (is_control_of plan n) (zip plan.controls kept.controls)) in
      let d : List Act = map Finish (finish_ids plan.graph n) in
      let a' : List Act = map Make (widget_ids plan) in
      let b' : List Act = map (λ (j : Join). acts.Join j.source j.sink) plan.graph.joins in
      let c' : List Act = flat_map control_acts (zip plan.controls kept.controls) in
      let d' : List Act = map (λ (p : Pipe). Finish p.id) plan.graph.pipes in
      omega (
        arith,
        widgets,
        joins,
        puts,
        pipes,
        length-append a (b ++ (c ++ d)),
        length-append b (c ++ d),
        length-append c d,
        length-append a' (b' ++ (c' ++ d')),
        length-append b' (c' ++ d'),
        length-append c' d',
        length-map (widgets_of plan n) Make,
        length-map (flat_map (buffer_joins plan.graph) n) (λ (j : Join). acts.Join j.source j.sink),
        length-map (finish_ids plan.graph n) Finish,
        length-map (filter (λ (p : Pipe). is_among n p.index) plan.graph.pipes) (λ (p : Pipe). p.id),
        length-map (widget_ids plan) Make,
        length-map plan.graph.joins (λ (j : Join). acts.Join j.source j.sink),
        length-map plan.graph.pipes (λ (p : Pipe). Finish p.id),
        few-brought plan kept sound is.controls,
      )

  pub few-unmaking : (ids : List ℕ) → length (unmaking_acts plan ids) ≤ 288
  few-unmaking ids =
      let all : List ℕ = pipe_ids plan.graph ++ (buffers plan.graph ++ components plan.graph) in
      omega (
        arith,
        length-map (unmade_order plan.graph ids) Unmake,
        filter-most (is_among ids) all,
        length-append (pipe_ids plan.graph) (buffers plan.graph ++ components plan.graph),
        length-append (buffers plan.graph) (components plan.graph),
        length-map plan.graph.pipes (λ p. p.id),
        length-map plan.graph.edges (λ e. e.buffer),
        length-map plan.graph.comps (λ c. c.id),
        sound.comps,
        sound.edges,
        sound.pipes,
      )

-- ---- routines

module _ (plan : Plan) (sound : IsSound plan) where
  abbrev Sends : ℕ → Routine UpState Act → Type 0
  Sends n routine = SendsWithin n routine

  unmaking-ends : (done : UpState → UpState) (n : ℕ) (now : UpState) (o : Outcome) → Sends n (after_unmaking done now o)
  unmaking-ends done n now (Ok passed) = tt
  unmaking-ends done n now (Err fault) = tt

  -- what is unmade has no more than 288 ids
  unmade-few : (ids : List ℕ) (done : UpState → UpState) (now : UpState) (n : ℕ) → 288 ≤ n → Sends n (unmade plan ids done now)
  unmade-few ids done now n most = (omega (arith, most, few-unmaking plan sound (ids_there_of plan ids now.there)), unmaking-ends done _)

  making-ends : (host : ℕ) (ns : List ℕ) (n : ℕ) → 288 ≤ n → (now : UpState) (o : Outcome) → Sends n (after_making plan host ns now o)
  making-ends host ns n most now (Ok passed) = tt
  making-ends host ns n most now (Err (Refused e)) = unmade-few ns (λ x. x) now n most
  making-ends host ns n most now (Err fault) = tt

  lacking-once : (up : List ℕ) (host : ℕ) → AreOnce (lacking plan up host)
  lacking-once up host = once-filter (λ (i : ℕ). not (is_among up i)) (need_in plan.graph host) (once-filter (is_needed plan.graph host) (pipe_indices plan.graph) (distinct-once (pipe_indices plan.graph) sound.indices))

  opening-few : (s : UpState) → IsRecordOf plan s.kept → (host : ℕ) (power : Power) → Sends 1200 (opening_by power plan host (lacking plan s.up host) s)
  opening-few s is host powers.On =
      let ns = lacking plan s.up host in
      let made = few-making plan sound s.kept ns (lacking-once s.up host) is in
      (omega (arith, made), making-ends host ns (1200 - length (making_acts plan s.kept ns)) (omega (arith, made)))
  opening-few s is host power = tt

  closing-ends : (host n : ℕ) → 288 ≤ n → (now : UpState) (o : Outcome) → Sends n (after_closing plan host now o)
  closing-ends host n most now (Ok passed) = unmade-few (parting plan host now) (with_stream_shut plan host) now n most
  closing-ends host n most now (Err (Refused e)) = tt
  closing-ends host n most now (Err fault) = tt

  few-close : (host : ℕ) (found : Found) → length (close_by host found) ≤ 2
  few-close host founds.Running = omega arith
  few-close host founds.Paused = omega arith
  few-close host founds.Prepared = omega arith
  few-close host found = omega arith

  closing-few : (s : UpState) (host : ℕ) (found : Found) (power : Power) → Sends 1200 (closing_by power plan host found s)
  closing-few s host found powers.On = let few = few-close host found in (omega (arith, few), closing-ends host (1200 - length (close_by host found)) (omega (arith, few)))
  closing-few s host found power = tt

  resuming-ends : (before : UpState) (n : ℕ) (now : UpState) (o : Outcome) → Sends n (after_resuming before now o)
  resuming-ends before n now (Ok passed) = tt
  resuming-ends before n now (Err fault) = tt

  resuming-few : (heap : ℕ) (s : UpState) → IsUpState plan s → Sends 1200 (resuming_job plan heap s).routine
  resuming-few heap s is =
      let making = making_acts plan s.kept s.up in
      let prepares = flat_map prepare_acts (zip plan.streams s.kept.streams) in (
        omega (
          arith,
          few-making plan sound s.kept s.up (distinct-once s.up is.once) is.record_is,
          few-prepares plan.streams s.kept.streams,
          few-streams_and_controls plan sound,
          length-append making prepares,
        ),
        resuming-ends s _,
      )

  -- one that sends what the ordinary host does
  plain-few : (s : UpState) (n : ℕ) (o : Procedure) → length o.acts ≤ n → Sends n (plain_job plan s o).routine
  plain-few s n o few = (few, λ now outcome. tt)

  control-few : (b : Bool) (s : UpState) (o : Procedure) → length o.acts ≤ 1200 → Sends 1200 (plain_job plan s (cond b o (unsent o))).routine
  control-few true s o few = plain-few s 1200 o few
  control-few false s o few = plain-few s 1200 (unsent o) (omega arith)

-- ---- commands

-- a tick sends none
abbrev pub up_most : Command → ℕ
up_most (commands.Tick n) = 0
up_most command = 1200

pub most-few : (command : Command) → up_most command ≤ 1200
most-few (commands.Tick n) = omega arith
most-few command = omega arith

first-none : (a b : Option HostFault) → option_or a b ≡ None → a ≡ None
first-none None b none = refl
first-none (Some fault) b none = absurd (cc none)

-- what passes the tests on use passes those of the record
pub record-none : (plan : Plan) (s : UpState) (command : Command) → up_fault plan s command ≡ None → fault_of plan s.kept command ≡ None
record-none plan s (commands.Read name) none = first-none _ _ none
record-none plan s command none = none

module _ (plan : Plan) (sound : IsSound plan) (heap : ℕ) (s : UpState) (is : IsUpState plan s) where
  -- the ordinary order of a command has few acts
  order-few : (command : Command) → up_fault plan s command ≡ None → length (order_of plan s.kept command).acts ≤ 1200
  order-few command none = let few = few-tested plan sound command s.kept is.record_is (record-none plan s command none) in let most = few-most command in omega (arith, few, most)

  pub up-few : (command : Command) → up_fault plan s command ≡ None → SendsWithin (up_most command) (up_job plan heap s command).routine
  up-few commands.Load none = tt
  up-few commands.Unload none = tt
  up-few commands.Resume none = resuming-few plan sound heap s is
  up-few (commands.Open name) none = opening-few plan sound s is.record_is _ s.kept.power
  up-few (commands.Close name) none = closing-few plan sound s _ _ s.kept.power
  up-few (commands.Set name values) none = control-few plan sound (is_control_up plan s.up name) s (order_of plan s.kept (commands.Set name values)) (order-few (commands.Set name values) none)
  up-few (commands.Bytes name blob) none = control-few plan sound (is_control_up plan s.up name) s (order_of plan s.kept (commands.Bytes name blob)) (order-few (commands.Bytes name blob) none)
  up-few (commands.Tick n) none = plain-few plan sound s 0 (order_of plan s.kept (commands.Tick n)) (omega arith)
  up-few command none = plain-few plan sound s 1200 (order_of plan s.kept command) (order-few command none)
