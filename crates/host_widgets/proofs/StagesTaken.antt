-- A firmware that answers acts as the rules say follows them as a load does: it refuses what the sizes tell, and no audio is moved.
use Rattle.std.proofs.Common.{◌≡◌, refl, sym, ap, subst, ◌∙◌, inl, inr, ℕ, ◌<◌, List, [], ◌∷◌, ◌++◌, map, length, Bool, true, false, cond, ◌==◌, Some, None, Ok, Err, append_assoc, append-nil}
use Rattle.std.specs.Prelude.{Option, Result, ℤ, option_and_then}
use Rattle.std.specs.List.{flat_map, AllByRecursion}
use Rattle.sof_base.specs.declared.errno.Errno.{Errno}
use Rattle.sof_base.specs.declared.part.Part.{Part as Carried}
use Rattle.sof_base.specs.Holes.{rounded, fits}
use Rattle.stream_law.specs.declared.graph.Comp.{Comp}
use Rattle.stream_law.specs.declared.graph.Join.{Join as Joined}
use Rattle.stream_law.specs.declared.graph.Setting.{Setting}
use Rattle.stream_law.specs.State.{FwState}
use Rattle.stream_law.specs.Seen.{is_volume, seen}
use Rattle.stream_law.specs.Ways.{comp_of, is_of}
use Rattle.stream_law.proofs.Members.{IsIn}
use Rattle.ipc3_model.specs.declared.message.Message.{Message}
use Rattle.ipc3_model.specs.declared.message.Message.TheVariants.{SetValue}
use Rattle.ipc3_model.specs.Meanings.{IsMessage}
use Rattle.mbox_link.specs.BlobParts.{blob_part, part_numbers}
use Rattle.mbox_link.specs.Step.{blob_installed, new_setting, no_memory, row, staged_bytes, staging_at, with_setting_at, with_staged}
use Rattle.tplg_plan.specs.declared.plans.Plan.{Plan}
use Rattle.tplg_plan.specs.declared.plans.ControlPlan.{ControlPlan}
use Rattle.tplg_plan.specs.declared.plans.ControlKind.{ControlKind}
use Rattle.tplg_plan.specs.declared.plans.ControlKind.TheVariants.{Volume, Choice, Blob, Masks}
use Rattle.tplg_plan.specs.Sound.{IsSound, Names}
use Rattle.host_widgets.specs.declared.kept.ControlRec.{ControlRec}
use Rattle.host_widgets.specs.declared.kept.Record.{Record}
use Rattle.host_widgets.specs.ActLists.{control_acts, control_acts_by}
use Rattle.host_widgets.specs.ActMessages.{act_message, put_message, set_message}
use Rattle.host_widgets.specs.Acts.{widget_words}
use Rattle.host_widgets.specs.Controls.{control_of}
use Rattle.host_widgets.specs.Expected.{loaded_heap, needed_by, stated_bytes}
use Rattle.host_widgets.specs.Host.{errno}
use Rattle.host_widgets.specs.HostActs.{Act, Make, Join, Put, Part, Finish, Prepare}
use Rattle.host_widgets.specs.OneAct.{own}
use Rattle.host_widgets.specs.There.{There, there_after, there_in}
use Rattle.host_widgets.specs.UpState.{UpState, up_own}
use Rattle.host_widgets.proofs.ControlLists.{Pair, Takes}
use Rattle.host_widgets.proofs.Effects.{Follows, FollowAll, effect, effects, value_effect}
use Rattle.host_widgets.proofs.LeadingOn.{LeadsTo}
use Rattle.host_widgets.proofs.Makes.{AreOwn, own_at, refused-number}
use Rattle.host_widgets.proofs.MakeStates.{message-comp, message-buffer, message-pipe}
use Rattle.host_widgets.proofs.ManyEffects.{AllFree}
use Rattle.host_widgets.proofs.NamedIds.{named-at}
use Rattle.host_widgets.proofs.PartRows.{part_effect}
use Rattle.host_widgets.proofs.QuietStates.{IsBuild, IsQuiet, effect-quiet, quiet-still, row-effect}
use Rattle.host_widgets.proofs.RowsThere.{IsNoPart}
use Rattle.host_widgets.proofs.RowsTold.{told}
use Rattle.host_widgets.proofs.SilentTicks.{at}
use Rattle.host_widgets.proofs.StagedParts.{ArePartsWhole, IsLoose, other-loose, part-loose}
use Rattle.host_widgets.proofs.StageMessages.{make-whole}
use Rattle.host_widgets.proofs.UpExchanges.{IsOwn, SaysSo}
use Rattle.host_widgets.proofs.UpSending.{Staged, StagedFirst, staged-still}
use Rattle.host_widgets.proofs.UpWalks.{with_there}

-- ---- lists that make pipelines, act by act

pub mapped-on : {X : Type 0} (P : List Act → Type 0) (f : X → Act) (xs : List X) → ((x : X) → IsIn x xs → (acts : List Act) → P acts → P (f x ∷ acts)) → (rest : List Act) → P rest → P (map f xs ++ rest)
mapped-on P f [] each rest then = then
mapped-on P f (x ∷ xs) each rest then = each x (inl refl) (map f xs ++ rest) (mapped-on P f xs (λ y there. each y (inr there)) rest then)

module _ (P : List Act → Type 0) (none : P []) (join : (source sink : ℕ) (acts : List Act) → P acts → P (Join source sink ∷ acts))
    (control : (id : ℕ) (kind : ControlKind) (r : ControlRec) → Takes kind r → (acts : List Act) → P acts → P (control_acts_by id kind r ++ acts)) (finish : (id : ℕ) (acts : List Act) → P acts → P (Finish id ∷ acts)) where
  controls-on : (ps : List Pair) → AllByRecursion (λ (p : Pair). Takes p.0.kind p.1) ps → (rest : List Act) → P rest → P (flat_map control_acts ps ++ rest)
  controls-on [] takes rest then = then
  controls-on (p ∷ ps) takes rest then =
      subst P (sym (append_assoc (control_acts p) (flat_map control_acts ps) rest))
      (control p.0.comp p.0.kind p.1 takes.0 (flat_map control_acts ps ++ rest) (controls-on ps takes.1 rest then))

  -- all that comes after the widgets
  pub rest-on : (joins : List Joined) (ps : List Pair) (ids : List ℕ) → AllByRecursion (λ (p : Pair). Takes p.0.kind p.1) ps → P (map (λ (j : Joined). Join j.source j.sink) joins ++ (flat_map control_acts ps ++ map Finish ids))
  rest-on joins ps ids takes =
      mapped-on P (λ (j : Joined). Join j.source j.sink) joins (λ j here acts then. join j.source j.sink acts then) (flat_map control_acts ps ++ map Finish ids)
      (controls-on ps takes (map Finish ids) (subst P (append-nil (map Finish ids)) (mapped-on P Finish ids (λ id here acts then. finish id acts then) [] none)))

-- ---- acts that make pipelines

abbrev pub Builds : Plan → Act → Type 0
Builds plan (Make id) = id < length plan.widgets
Builds plan (Join source sink) = Unit {0}
Builds plan (Put comp values) = Unit {0}
Builds plan (Part comp blob k) = Unit {0}
Builds plan (Finish id) = Unit {0}
Builds plan act = ⊥

set-is : (comp : ℕ) (values : List ℕ) (kind : ControlKind) → (command : ℕ) × (sent : List ℕ) × (set_message comp values kind ≡ SetValue comp command sent)
set-is comp values (Volume min max channels lowest step mute) = (_, _, refl)
set-is comp values kind = (_, _, refl)

put-is : (comp : ℕ) (values : List ℕ) (k : Option ControlPlan) → (command : ℕ) × (sent : List ℕ) × (put_message comp values k ≡ SetValue comp command sent)
put-is comp values (Some k) = set-is comp values k.kind
put-is comp values None = (_, _, refl)

value-heap : (id : ℕ) (o : Option Setting) (f : FwState) → (value_effect id o f).heap ≡ f.heap
value-heap id None f = refl
value-heap id (Some setting) f = by (is_of f.graph is_volume id)
  where
    by : (b : Bool) → (cond b (seen (with_setting_at f id setting) (Some id) f) (record f { graph = (with_setting_at f id setting).graph })).heap ≡ f.heap
    by true = refl
    by false = refl

part-heap : (id : ℕ) (bytes : List ℕ) (part : Carried) (f : FwState) → (part_effect id bytes part f).heap ≡ f.heap
part-heap id bytes part f = by (part.remaining == 0)
  where
    by : (b : Bool) → (cond b (blob_installed id bytes f) (with_staged id bytes part f)).heap ≡ f.heap
    by true = refl
    by false = refl

pub told-ok : (r : Result FwState ℤ) (x : There) → told r ≡ Ok x → (g : FwState) × (r ≡ Ok g) × (there_in g ≡ x)
told-ok (Ok g) x is = (g, refl, cc is)
told-ok (Err e) x is = absurd (cc is)

told-err : (r : Result FwState ℤ) (e : ℤ) → told r ≡ Err e → r ≡ Err e
told-err (Ok g) e is = absurd (cc is)
told-err (Err n) e is = let same : n ≡ e = cc is in λ i. Err (same i)

module _ (plan : Plan) (sound : IsSound plan) where
  built : (act : Act) → Builds plan act → IsBuild (act_message plan act)
  built (Make id) low = by (named-at plan sound id low)
    where
      by : Names plan.graph id (widget_words plan id) → IsBuild (act_message plan (Make id))
      by (inl x) = subst IsBuild (sym (message-comp plan 0 sound id x)) tt
      by (inr (inl x)) = subst IsBuild (sym (message-buffer plan 0 sound id x)) tt
      by (inr (inr x)) = subst IsBuild (sym (message-pipe plan 0 sound id x)) tt
  built (Join source sink) builds = tt
  built (Put comp values) builds = let put = put-is comp values (control_of plan comp) in subst IsBuild (sym put.2) tt
  built (Part comp blob k) builds = tt
  built (Finish id) builds = tt
  built act builds = absurd builds

  -- by its holes a firmware refuses what the rules on use do
  own-same : (s : UpState) (t : There) (act : Act) → Builds plan act → (f : FwState) → there_in f ≡ t → own_at plan f act ≡ up_own plan (with_there plan s t) act
  own-same s t (Make id) builds f same = ap (λ (x : There). cond (fits (rounded (stated_bytes plan id)) x.heap.holes) None (Some (errno no_memory))) same
  own-same s t (Prepare host params) builds f same = absurd builds
  own-same s t act builds f same = refl

  own-number : (heap : ℕ) (kept : Record) (act : Act) → Builds plan act → (e : Errno) → own plan heap kept act ≡ Some e → (e ≡ errno no_memory) × (heap < needed_by plan (length plan.widgets))
  own-number heap kept (Make id) low e refused = refused-number plan heap kept id low e refused
  own-number heap kept (Prepare host params) builds e refused = absurd builds
  own-number heap kept act builds e refused = absurd (cc refused)

  -- what is staged after one
  next-loose : (act : Act) → Builds plan act → (acts : List Act) (f : FwState) → ArePartsWhole (act ∷ acts) → IsLoose (act ∷ acts) f.staging → ArePartsWhole acts × IsLoose acts (effect (act_message plan act) f).staging
  next-loose (Make id) low acts f whole loose = (whole, other-loose (act_message plan (Make id)) (make-whole plan sound id low) acts f loose)
  next-loose (Join source sink) builds acts f whole loose = (whole, other-loose (act_message plan (Join source sink)) tt acts f loose)
  next-loose (Put comp values) builds acts f whole loose = let put = put-is comp values (control_of plan comp) in (whole, other-loose (act_message plan (Put comp values)) (subst IsNoPart (sym put.2) tt) acts f loose)
  next-loose (Part comp blob k) builds acts f whole loose = (whole.1, part-loose comp blob k acts f whole loose)
  next-loose (Finish id) builds acts f whole loose = (whole, other-loose (act_message plan (Finish id)) tt acts f loose)
  next-loose act builds acts f whole loose = absurd builds

  -- once all widgets are made no act changes the heap
  module _ (heap : ℕ) (kept : Record) where
    abbrev IsLoadedOwn : List Act → Type 0
    IsLoadedOwn acts = (f : FwState) → f.heap ≡ loaded_heap plan heap → AreOwn plan heap sound kept f acts

    pub rest-own : (joins : List Joined) (ps : List Pair) (ids : List ℕ) → AllByRecursion (λ (p : Pair). Takes p.0.kind p.1) ps → IsLoadedOwn (map (λ (j : Joined). Join j.source j.sink) joins ++ (flat_map control_acts ps ++ map Finish ids))
    rest-own = rest-on IsLoadedOwn (λ f is. is) (λ source sink acts then f is. (refl, λ free. then (effect (act_message plan (Join source sink)) f) is)) control (λ id acts then f is. (refl, λ free. then (effect (act_message plan (Finish id)) f) is))
      where
        put : (id : ℕ) (values : List ℕ) (acts : List Act) → IsLoadedOwn acts → IsLoadedOwn (Put id values ∷ acts)
        put id values acts then f is = (
          refl,
          λ free.
              (let p = put-is id values (control_of plan id) in
              then (effect (act_message plan (Put id values)) f)
              (ap (λ (m : Message). (effect m f).heap) p.2 ∙ value-heap id (option_and_then (λ (c : Comp). new_setting c.kind c.setting p.0 p.1) (comp_of f.graph id)) f ∙ is)),
        )

        control : (id : ℕ) (kind : ControlKind) (r : ControlRec) → Takes kind r → (acts : List Act) → IsLoadedOwn acts → IsLoadedOwn (control_acts_by id kind r ++ acts)
        control id (Volume min max channels lowest step mute) r takes acts then = put id r.values acts then
        control id (Choice items) r takes acts then = put id r.values acts then
        control id (Masks min max channels) r takes acts then = put id r.values acts then
        control id (Blob most initial) r takes acts then =
            mapped-on IsLoadedOwn (Part id r.blob) (part_numbers r.blob)
            (λ k here rest later f is. (refl, λ free. later (effect (act_message plan (Part id r.blob k)) f) (part-heap id (staged_bytes (staging_at f id) (blob_part r.blob k)) (blob_part r.blob k) f ∙ is))) acts then

-- ---- one act

module _ (plan : Plan) (sound : IsSound plan) (heap : ℕ) (kept : Record) (s : UpState) where
  module _ (act : Act) (t : There) (f : FwState) (same : there_in f ≡ t) (staged : Staged act f) (builds : Builds plan act) (one : own plan heap kept act ≡ own_at plan f act) (says : (g : FwState) → there_in g ≡ t → Staged act g → IsOwn plan (with_there plan s t) act g) where
    abbrev m : Message
    m = act_message plan act

    abbrev Says : FwState → Option Errno → Type 0
    Says g o = SaysSo plan (with_there plan s t) act o (told (row g m))

    own-is : own plan heap kept act ≡ up_own plan (with_there plan s t) act
    own-is = one ∙ own-same plan sound s t act builds f same

    taken : (g : FwState) → there_in g ≡ t → Staged act g → own plan heap kept act ≡ None → (row g m ≡ Ok (effect m g)) × (there_in (effect m g) ≡ there_after plan act t)
    taken g there ready free =
        let r = told-ok (row g m) (there_after plan act t) (subst (Says g) (sym own-is ∙ free) (says g there ready)) in
        let e : effect m g ≡ r.0 = row-effect m g r.0 (built plan sound act builds) r.1 in
        (r.1 ∙ (λ i. Ok (sym e i)), ap there_in e ∙ r.2)

    refused : (g : FwState) → there_in g ≡ t → Staged act g → (e : Errno) → own plan heap kept act ≡ Some e → row g m ≡ Err no_memory
    refused g there ready e denied =
        let said = subst (Says g) (sym own-is ∙ denied) (says g there ready) in
        let number : said.0 ≡ no_memory = ap (λ (x : Errno). x.0) (said.2 ∙ (own-number plan sound heap kept act builds e denied).0) in
        told-err (row g m) said.0 said.1 ∙ (λ i. Err (number i))

    follows : IsMessage m → IsQuiet f → Follows plan heap kept f act
    follows fit quiet = record {
      still = quiet-still f quiet;
      message = fit;
      passes = λ free n. (taken (at f n) same (staged-still act f (at f n) refl staged) free).0;
      refuses = λ e denied n. refused (at f n) same (staged-still act f (at f n) refl staged) e denied;
      number = λ e denied. own-number plan sound heap kept act builds e denied;
    }

  -- ---- one after another

  module _ (Mid End : There → Type 0) where
    -- where none was refused it is quiet, with the heap of a load, and nothing is staged
    pub record HasEndedQuiet (f : FwState) : Type 0 where
      pub there : End (there_in f)
      pub quiet : IsQuiet f
      pub pieces : f.heap ≡ loaded_heap plan heap
      pub staging : f.staging ≡ []

    pub record Goes (f : FwState) (acts : List Act) : Type 0 where
      pub follow : FollowAll plan heap kept f acts
      pub ends : AllFree plan heap kept acts → HasEndedQuiet (effects plan acts f)

    pub goes : (acts : List Act) (t : There) (f : FwState) → there_in f ≡ t → StagedFirst acts f → IsQuiet f → ArePartsWhole acts → IsLoose acts f.staging → AllByRecursion (Builds plan) acts → AreOwn plan heap sound kept f acts →
        LeadsTo plan Mid (with_there plan s t) acts End → Goes f acts
    goes [] t f same staged quiet whole loose builds owns leads =
        record { follow = tt; ends = λ free. record { there = subst End (sym same) leads; quiet = quiet; pieces = owns; staging = loose } }
    goes (act ∷ acts) t f same staged quiet whole loose builds owns leads =
        let rest : own plan heap kept act ≡ None → Goes (effect (act_message plan act) f) acts = λ free.
        (let now = taken act t f same staged builds.0 owns.0 leads.3 f same staged free in
        let ok : up_own plan (with_there plan s t) act ≡ None = sym (own-is act t f same staged builds.0 owns.0 leads.3) ∙ free in
        let next = next-loose plan sound act builds.0 acts f whole loose in
        goes acts (there_after plan act t) (effect (act_message plan act) f) now.1 (leads.4 f (effect (act_message plan act) f) staged now.0)
        (effect-quiet f quiet (act_message plan act) (effect (act_message plan act) f) (built plan sound act builds.0) now.0) next.0 next.1 builds.1 (owns.1 free)
        (leads.5 ok)) in
        record {
          follow = (follows act t f same staged builds.0 owns.0 leads.3 leads.2 quiet, λ free. (rest free).follow);
          ends = λ free. (rest free.0).ends free.1;
        }
