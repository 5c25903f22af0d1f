-- The lists of acts that make and unmake pipelines lead on, stage by stage.
use Rattle.std.proofs.Common.{◌≡◌, refl, sym, ap, ◌∙◌, subst, ℕ, Bool, true, false, List, [], ◌∷◌, ◌++◌, map, filter, inl, inr, ◌||◌, Some, None, Ok, append-nil}
use Rattle.std.specs.Prelude.{Option}
use Rattle.std.specs.Option.{option_map_or}
use Rattle.std.specs.List.{flat_map, list_all, AllByRecursion}
use Rattle.std.proofs.lemmas.Bool.{false≢true}
use Rattle.sof_base.specs.declared.errno.Errno.{Errno}
use Rattle.stream_law.specs.declared.graph.Join.{Join}
use Rattle.stream_law.specs.State.{FwState}
use Rattle.stream_law.specs.Order.{is_among}
use Rattle.stream_law.specs.Past.{Now}
use Rattle.stream_law.specs.Viewing.{IsPlayable}
use Rattle.stream_law.proofs.Members.{IsIn, kept-in}
use Rattle.mbox_link.specs.Step.{row}
use Rattle.tplg_plan.specs.declared.plans.Plan.{Plan}
use Rattle.tplg_plan.specs.declared.plans.ControlKind.{ControlKind}
use Rattle.tplg_plan.specs.declared.plans.ControlKind.TheVariants as kinds
use Rattle.tplg_plan.specs.Sound.{IsSound}
use Rattle.mbox_link.specs.BlobParts.{part_numbers}
use Rattle.host_widgets.specs.declared.kept.ControlRec.{ControlRec}
use Rattle.host_widgets.specs.declared.kept.Record.{Record}
use Rattle.host_widgets.specs.declared.kept.StreamRec.{StreamRec}
use Rattle.host_widgets.specs.ActLists.{control_acts, control_acts_by}
use Rattle.host_widgets.specs.HostActs.{Act, Make, Part, Finish, Unmake, fresh_in, after}
use Rattle.host_widgets.specs.HostActs as acts
use Rattle.host_widgets.specs.HostRecord.{may_have}
use Rattle.host_widgets.specs.Kept.{controls_of}
use Rattle.host_widgets.proofs.StandingOn.{LeadsOn}
use Rattle.host_widgets.specs.UpActs.{widgets_of, making_acts, unmade_order, unmaking_acts}
use Rattle.host_widgets.specs.There.{There, there_in, there_view, there_after, ids_there_of}
use Rattle.host_widgets.specs.UpState.{UpState, up_own, up_act_rules}
use Rattle.host_widgets.specs.Need.{HasBrought}
use Rattle.host_widgets.specs.Up.{buffer_joins, is_join_at}
use Rattle.host_widgets.proofs.Needs.{flat-in, in-among}
use Rattle.host_widgets.proofs.RowsTold.{told}
use Rattle.host_widgets.proofs.StagePrepares.{up-amid}
use Rattle.host_widgets.proofs.Sublists.{filter-append, filter-all, filter-none, AreOnce}
use Rattle.host_widgets.proofs.UpContext.{IsServing, AreApart, among-both, join-at}
use Rattle.host_widgets.proofs.UpExchanges.{SaysSo}
use Rattle.host_widgets.proofs.UpMaking.{makes-up, makes-answered}
use Rattle.host_widgets.proofs.UpSending.{AreAnswered}
use Rattle.host_widgets.proofs.UpStages.{Stage, stage_graph, stage_streams, IsStage, index_of_id, is_join_of, up_stage, IsAmid}
use Rattle.host_dynamic.proofs.UpUnmaking.{unmakes-amid, unmakes-answered}
use Rattle.host_widgets.proofs.UpWalks.{Runs, with_there}
use Rattle.sof_session.proofs.UpStageRows.{Builds}
use Rattle.sof_session.proofs.UpStandsWalks.{AreLed}
use Rattle.host_widgets.specs.ActMessages.{act_message}
use Rattle.host_widgets.specs.Groups.{is_control_of, finish_ids}
use Rattle.std.proofs.lemmas.Grind.{flat_map-append}
use Rattle.host_widgets.proofs.BuildingActs.{all-both, all-flat, all-mapped}

-- each stream may have the parameters that it has
abbrev pub AllMay : Record → Type 0
AllMay kept = list_all (λ (r : StreamRec). may_have r.found r.params) kept.streams ≡ true

-- at some stage between what is up and what is up with these
abbrev pub IsAt : Plan → Record → List ℕ → List ℕ → There → Type 0
IsAt plan kept up n t = (st : Stage) × IsAmid plan up n st × IsStage plan kept st t

-- a tick may come at every stage
abbrev pub PlaysAtStages : Plan → Type 0
PlaysAtStages plan = (kept : Record) (up n : List ℕ) → IsServing plan kept up → AllMay kept → (st : Stage) → IsAmid plan up n st → IsPlayable (record { graph = stage_graph plan kept st; streams = stage_streams plan kept st })

-- an act that leads from one stage to another leaves what stood standing
abbrev pub RowsAtStages : Plan → Type 0
RowsAtStages plan = (kept : Record) (up n : List ℕ) → IsServing plan kept up → AllMay kept → (act : Act) → Builds act → (f g : FwState) → IsAt plan kept up n (there_in f) → IsAt plan kept up n (there_in g) → row f (act_message plan act) ≡ Ok g →
    LeadsOn (Some f) (Some g) (Now (there_view (there_in g)) (fresh_in plan act) ∷ [])

-- ---- lists

-- what the firmware does is what the rules say
pub row-takes : (plan : Plan) (u : UpState) (act : Act) (f g : FwState) → SaysSo plan u act (up_own plan u act) (told (row f (act_message plan act))) → up_own plan u act ≡ None → row f (act_message plan act) ≡ Ok g → there_in g ≡ there_after plan act u.there
row-takes plan u act f g says free done =
    let passed : told (row f (act_message plan act)) ≡ Ok (there_after plan act u.there) = subst (λ (o : Option Errno). SaysSo plan u act o (told (row f (act_message plan act)))) free says in
    cc (sym (ap told done) ∙ passed)

module _ (plan : Plan) (plays : PlaysAtStages plan) (rows : RowsAtStages plan) where
  module _ (kept : Record) (up n : List ℕ) (serving : IsServing plan kept up) (may : AllMay kept) where
    abbrev Mid : There → Type 0
    Mid t = IsAt plan kept up n t

    pub at-plays : (t : There) → Mid t → IsPlayable (there_view t)
    at-plays t (st, amid, is) = subst IsPlayable (sym (ap there_view is.is)) (plays kept up n serving may st amid)

    -- what is there at the beginning of such acts, or at their end
    mid-of : (End : There → Type 0) → ((t : There) → End t → Mid t) → (acts : List Act) (u : UpState) → Runs plan Mid u acts End → Mid u.there
    mid-of End ends [] u runs = ends u.there runs
    mid-of End ends (act ∷ acts) u runs = runs.0

    pub runs-led : (End : There → Type 0) → ((t : There) → End t → Mid t) → (acts : List Act) → AllByRecursion Builds acts → (u : UpState) → AreAnswered plan u acts → Runs plan Mid u acts End → AreLed plan false u acts
    runs-led End ends [] all u answered runs = tt
    runs-led End ends (act ∷ acts) all u answered runs = (
      at-plays u.there runs.0,
      λ f g same staged free done.
          (let is : there_in g ≡ there_after plan act u.there = row-takes plan u act f g (answered.1 f same staged) free done in
          let next = mid-of End ends acts (with_there plan u (there_after plan act u.there)) (runs.2 free) in
          record {
            there = is;
            leads = subst (λ (t : There). LeadsOn (Some f) (Some g) (Now (there_view t) (fresh_in plan act) ∷ [])) is
                (rows kept up n serving may act all.0 f g (subst Mid (sym same) runs.0) (subst Mid (sym is) next) done);
            staged = answered.2 f g staged done;
          }),
      λ free. runs-led End ends acts all.1 ((up_act_rules plan).after act u) (answered.3 free)
          (subst (λ (x : UpState). Runs plan Mid x acts End) (λ i. record { kept = sym runs.1 i; up = u.up; there = there_after plan act u.there }) (runs.2 free)),
      λ on. absurd (false≢true on),
    )

  -- ---- making

  control-builds : (comp : ℕ) (kind : ControlKind) (c : ControlRec) → AllByRecursion Builds (control_acts_by comp kind c)
  control-builds comp (kinds.Blob most initial) c = all-mapped Builds (Part comp c.blob) (part_numbers c.blob) (λ k. tt)
  control-builds comp kind c = (tt, tt)

  pub making-builds : (kept : Record) (n : List ℕ) → AllByRecursion Builds (making_acts plan kept n)
  making-builds kept n =
      (all-both Builds (map Make (widgets_of plan n)) (map (λ (j : Join). acts.Join j.source j.sink) (flat_map (buffer_joins plan.graph) n) ++ (flat_map control_acts (filter (is_control_of plan n) (controls_of plan kept)) ++ map Finish (finish_ids plan.graph n)))
      (all-mapped Builds Make (widgets_of plan n) (λ id. tt))
      (all-both Builds (map (λ (j : Join). acts.Join j.source j.sink) (flat_map (buffer_joins plan.graph) n)) (flat_map control_acts (filter (is_control_of plan n) (controls_of plan kept)) ++ map Finish (finish_ids plan.graph n))
      (all-mapped Builds (λ (j : Join). acts.Join j.source j.sink) (flat_map (buffer_joins plan.graph) n) (λ j. tt))
      (all-both Builds (flat_map control_acts (filter (is_control_of plan n) (controls_of plan kept))) (map Finish (finish_ids plan.graph n))
      (all-flat Builds control_acts (filter (is_control_of plan n) (controls_of plan kept)) (λ p. control-builds p.0.comp p.0.kind p.1))
      (all-mapped Builds Finish (finish_ids plan.graph n) (λ id. tt)))))

  module _ (sound : IsSound plan) where
    -- what is up with these is between
    pub both-amid : (up n : List ℕ) → AreApart up n → HasBrought plan.graph (is_among (up ++ n)) → IsAmid plan up n (up_stage plan (up ++ n))
    both-amid up n apart more =
        let a = up-amid plan sound (up ++ n) more in
        record {
          there = λ id is. among-both up n (index_of_id plan id) ∙ or-left (is_among up (index_of_id plan id)) (is_among n (index_of_id plan id)) is;
          only = λ id is. sym (among-both up n (index_of_id plan id)) ∙ is;
          joins = a.joins;
          rest =
              ap (filter (is_join_of plan.graph up)) (flat_map-append (buffer_joins plan.graph) up n)
              ∙ filter-append (is_join_of plan.graph up) (flat_map (buffer_joins plan.graph) up) (flat_map (buffer_joins plan.graph) n)
              ∙ (λ i. filter-all (is_join_of plan.graph up) (flat_map (buffer_joins plan.graph) up) (each true up (λ k there. in-among up k there) (flat_map (buffer_joins plan.graph) up) (λ j there. there)) i
              ++ filter-none (is_join_of plan.graph up) (flat_map (buffer_joins plan.graph) n) (each false n (λ k there. apart k (in-among n k there)) (flat_map (buffer_joins plan.graph) n) (λ j there. there)) i)
              ∙ append-nil (flat_map (buffer_joins plan.graph) up);
          todo = λ p none. absurd none;
          done = λ id is. refl;
        }
      where
        or-left : (a b : Bool) → a ≡ true → (a || b) ≡ true
        or-left true b is = refl
        or-left false b is = absurd (false≢true is)

        each : (b : Bool) (xs : List ℕ) → ((k : ℕ) → IsIn k xs → is_among up k ≡ b) → (js : List Join) → ((j : Join) → IsIn j js → IsIn j (flat_map (buffer_joins plan.graph) xs)) → AllByRecursion (λ (j : Join). is_join_of plan.graph up j ≡ b) js
        each b xs is [] within = tt
        each b xs is (j ∷ js) within =
            let r = flat-in (buffer_joins plan.graph) xs j (within j (inl refl)) in
            let k = kept-in (is_join_at plan.graph r.0) plan.graph.joins j r.2 in
            (ap (λ (o : Option ℕ). option_map_or (is_among up) o false) (join-at plan sound r.0 j k.1) ∙ is r.0 r.1, each b xs is js (λ i there. within i (inr there)))

    pub making-led : (s : UpState) (up n : List ℕ) → IsServing plan s.kept up → AllMay s.kept → AreApart up n → HasBrought plan.graph (is_among (up ++ n)) → AreOnce n → IsStage plan s.kept (up_stage plan up) s.there → AreLed plan false s (making_acts plan s.kept n)
    making-led s up n serving may apart more once is =
        runs-led s.kept up n serving may (λ t. IsStage plan s.kept (up_stage plan (up ++ n)) t) (λ t at. (up_stage plan (up ++ n), both-amid up n apart more, at)) (making_acts plan s.kept n) (making-builds s.kept n) s
        (makes-answered plan sound s up n serving apart more once is) (makes-up plan sound s up n serving apart more once is)

    -- ---- unmaking

    pub unmaking-led : (s : UpState) (up n : List ℕ) → IsServing plan s.kept up → AllMay s.kept → AreApart up n → HasBrought plan.graph (is_among up) → (st : Stage) (t : There) → IsAmid plan up n st → IsStage plan s.kept st t →
        AreLed plan false (with_there plan s t) (unmaking_acts plan (ids_there_of plan n t))
    unmaking-led s up n serving may apart brought st t amid is =
        runs-led s.kept up n serving may (λ x. IsStage plan s.kept (up_stage plan up) x) (λ x at. (up_stage plan up, up-between, at)) (unmaking_acts plan (ids_there_of plan n t)) (all-mapped Builds Unmake (unmade_order plan.graph (ids_there_of plan n t)) (λ id. tt)) (with_there plan s t)
        (unmakes-answered plan sound s up n serving apart st t amid is) (unmakes-amid plan sound s up n serving apart st t amid is)
      where
        up-between : IsAmid plan up n (up_stage plan up)
        up-between =
            let a = up-amid plan sound up brought in
            record { there = a.there; only = λ id in_up. wider (is_among up (index_of_id plan id)) (is_among n (index_of_id plan id)) in_up; joins = a.joins; rest = a.rest; todo = a.todo; done = a.done }
          where
            wider : (x y : Bool) → x ≡ true → (x || y) ≡ true
            wider true y in_up = refl
            wider false y in_up = absurd (false≢true in_up)
