-- The law of one act for the parts of a blob at the equaliser of a place: those before the last leave all but what is staged, and
-- with the last an epoch begins.
use Rattle.std.proofs.Common.{◌≡◌, refl, sym, ap, subst, ◌∙◌, ℕ, ◌+◌, ◌<◌, Bool, true, false, cond, ◌==◌, List, [], ◌∷◌, ◌++◌, map, length, Option, Some, None, option_map, Ok}
use Rattle.std.specs.Option.{option_map_or}
use Rattle.sof_base.specs.Ports.{InputView}
use Rattle.sof_base.specs.BlobFaults.{is_blob}
use Rattle.stream_law.specs.declared.graph.Comp.{Comp}
use Rattle.stream_law.specs.State.{FwState, View, view_of}
use Rattle.stream_law.specs.Ways.{buffers, comp_of}
use Rattle.stream_law.specs.Made.{blob}
use Rattle.stream_law.specs.Seen.{blob_in, seen}
use Rattle.stream_law.specs.Past.{Moment, Now, Leads, after_now}
use Rattle.stream_law.specs.Stands.{Stands}
use Rattle.stream_law.specs.Viewing.{Sees, StaysAsLive}
use Rattle.stream_law.proofs.SeenLaws.{seen-sees}
use Rattle.stream_law.proofs.Shapes.{live-stays}
use Rattle.stream_law.proofs.Standing.{Stands-now}
use Rattle.stream_law.proofs.Waits.{eqb_turned}
use Rattle.ipc3_model.specs.declared.message.Message.TheVariants.{SetData}
use Rattle.ipc3_model.specs.Messages.{message_spelling, decoded}
use Rattle.ipc3_model.specs.Meanings.{IsMessage}
use Rattle.mbox_link.specs.BlobParts.{is_last, blob_part, parts}
use Rattle.mbox_link.specs.Step.{blob_installed, body_of, row, unstaged, with_staged}
use Rattle.tplg_plan.specs.declared.plans.Plan.{Plan}
use Rattle.tplg_plan.specs.declared.plans.ControlPlan.{ControlPlan}
use Rattle.tplg_plan.specs.Sound.{IsSound}
use Rattle.host_widgets.specs.declared.kept.ControlRec.{ControlRec}
use Rattle.host_widgets.specs.declared.kept.Record.{Record}
use Rattle.host_widgets.specs.ActLists.{part_acts}
use Rattle.host_widgets.specs.Host.{IsRecordOf}
use Rattle.host_widgets.specs.HostActs.{Part, after, fresh_by, with_blob}
use Rattle.host_widgets.specs.Kept.{with_control}
use Rattle.host_widgets.specs.Named.{is_named}
use Rattle.host_widgets.specs.declared.answers.Answer.TheVariants.{Done}
use Rattle.host_widgets.specs.ViewOf.{set_comp, record_setting, record_view}
use Rattle.host_widgets.proofs.Effects.{decoded-message}
use Rattle.host_widgets.proofs.LookedUp.{found-is}
use Rattle.host_widgets.proofs.OneActLaws.{IsTaken, LeavesSo, bare-passes}
use Rattle.host_widgets.proofs.PartFacts.{front}
use Rattle.host_widgets.proofs.PartRows.{HasStaged, part-message}
use Rattle.host_widgets.proofs.PartsReady.{made-last, made-more, parts-ready}
use Rattle.host_widgets.proofs.WalksHold.{AreTaken}
use Rattle.host_ctl.specs.ControlAsks.{bytes_fault, installing_fault, named_control}
use Rattle.host_ctl.specs.ControlOrders.{bytes_order, installing_order}
use Rattle.host_ctl.specs.ControlAnswers.{MayInstall}
use Rattle.host_ctl.specs.ControlPlaces.{control_here, control_place}
use Rattle.host_widgets.proofs.ActSteps.{each-law, sends-taken}
use Rattle.host_ctl.proofs.BlobCalls.{a-blob, blob_view, now-record, now-view, parts-each}
use Rattle.host_ctl.proofs.BlobTests.{installable-here}
use Rattle.host_ctl.proofs.ControlActs.{same-controls}
use Rattle.host_ctl.proofs.ControlTests.{loaded, place-low}
use Rattle.host_ctl.proofs.ControlsThere.{lost-here, named-here}
use Rattle.host_ctl.proofs.ControlsTaken.{id-low}
use Rattle.host_ctl.proofs.PutShows.{elsewhere-at, found-set}
use Rattle.host_ctl.proofs.PutStands.{put-stands, shape-with}

module _ (plan : Plan) (sound : IsSound plan) (kept : Record) (is : IsRecordOf plan kept) (i : ℕ) (low : i < length plan.controls) (bytes : List ℕ) (may : MayInstall (control_here plan i).kind bytes) where
  abbrev id : ℕ
  id = (control_here plan i).comp

  abbrev now : Record
  now = with_control plan id (with_blob bytes) kept

  whole-blob : is_blob bytes ≡ true
  whole-blob = a-blob plan sound kept is i low bytes may

  will : IsRecordOf plan now
  will = now-record plan sound kept is i low bytes may

  -- ---- with the last part

  -- the blobs of other equalisers stay
  others : (c : ℕ) → (id == c) ≡ false → blob_in (record_view plan now) c ≡ blob_in (record_view plan kept) c
  others c apart =
      ap (λ (o : Option Comp). option_map_or (λ (x : Comp). blob x.setting) o []) (found-set plan now c plan.graph.comps)
      ∙ by (comp_of plan.graph c) refl
      ∙ sym (ap (λ (o : Option Comp). option_map_or (λ (x : Comp). blob x.setting) o []) (found-set plan kept c plan.graph.comps))
    where
      by : (o : Option Comp) → comp_of plan.graph c ≡ o → option_map_or (λ (x : Comp). blob x.setting) (option_map (set_comp plan now) o) [] ≡ option_map_or (λ (x : Comp). blob x.setting) (option_map (set_comp plan kept) o) []
      by None e = refl
      by (Some x) e =
          let same : x.id ≡ c = found-is (λ (y : Comp). y.id) plan.graph.comps c x e in
          let other : (x.id == id) ≡ false = ap (λ (n : ℕ). n == id) same ∙ turned c apart in
          ap (λ (o : Option (ControlPlan × ControlRec)). blob (record_setting x.kind o)) (elsewhere-at id (with_blob bytes) x.id other plan.controls kept.controls)
        where
          turned : (c : ℕ) → (id == c) ≡ false → (c == id) ≡ false
          turned c apart = eqb_turned c id ∙ apart

  -- what stood stands, and the equaliser's epoch begins
  module _ (f f' : FwState) (shows : view_of f ≡ record_view plan kept) (rings : map (λ r. r.buffer) f.rings ≡ buffers plan.graph) (made : f' ≡ record (seen (record_view plan now) (Some id) f) { staging = unstaged id f.staging }) where
    sees : Sees f (record_view plan now) (Some id) f'
    sees =
        let s = seen-sees f (record_view plan now) (Some id) rings in
        subst (Sees f (record_view plan now) (Some id)) (sym made) (record { clock = s.clock; view = s.view; buffers = s.buffers; rings = s.rings; remembered = s.remembered; histories = s.histories })

    blob-stands : (whole : List (ℕ × List ℕ)) (inputs : List InputView) (before : List Moment) (stood : Stands (Some f) whole inputs before) →
        (after_it : Stands (Some f') whole inputs (before ++ Now (record_view plan now) (Some id) ∷ [])) × Leads whole stood.past (Now (record_view plan now) (Some id) ∷ []) after_it.past
    unfolding Stands-now
    blob-stands whole inputs before stood = (
      Stands-now f f' (record_view plan now) (Some id) whole inputs before stood sees will.shapes
          (subst (λ (v : View). StaysAsLive v (record_view plan now) (Some id)) (sym shows) (live-stays (record_view plan kept) (record_view plan now) (Some id) (shape-with plan kept id (with_blob bytes) (Some id) others is))),
      (after_now (record_view plan now) (Some id) stood.past, refl, refl),
    )

  -- ---- one part

  module _ (k : ℕ) (few : k < parts bytes) where
    message : IsMessage (SetData id (blob_part bytes k))
    message = part-message id bytes whole-blob k few (id-low plan sound kept is i low)

    unchanged : with_control plan 0 (λ c. c) kept ≡ kept
    unchanged = λ j. record { power = kept.power; streams = kept.streams; controls = same-controls plan.controls kept.controls j }

    -- before the last
    leaves-more : is_last bytes k ≡ false → (f f' : FwState) → view_of f ≡ record_view plan kept → map (λ r. r.buffer) f.rings ≡ buffers plan.graph → f' ≡ with_staged id (front bytes (k + 1)) (blob_part bytes k) f → LeavesSo plan (Part id bytes k) f f' (after plan (Part id bytes k) kept)
    leaves-more more f f' shows rings made =
        let stays : kept ≡ after plan (Part id bytes k) kept = ap (λ (b : Bool). cond b now kept) (sym more) in
        let shows' : view_of f ≡ record_view plan (with_control plan 0 (λ c. c) kept) = shows ∙ ap (record_view plan) (sym unchanged) in
        let next = with_staged id (front bytes (k + 1)) (blob_part bytes k) f in
        subst (λ (x : FwState × Record). LeavesSo plan (Part id bytes k) f x.0 x.1) (λ j. (sym made j, (unchanged ∙ stays) j)) record {
          record_now = subst (IsRecordOf plan) (sym unchanged) is;
          shows_now = shows';
          heap = refl;
          rings = rings;
          stands = λ whole inputs before stood. subst (λ (fresh : Option ℕ). (after_it : Stands (Some next) whole inputs (before ++ Now (record_view plan (with_control plan 0 (λ c. c) kept)) fresh ∷ [])) × Leads whole stood.past (Now (record_view plan (with_control plan 0 (λ c. c) kept)) fresh ∷ []) after_it.past) (sym (ap (fresh_by id) more))
              (put-stands plan kept 0 (λ c. c) (λ c. refl) is f next shows shows' refl refl refl whole inputs before stood);
        }

    -- the last
    leaves-last : is_last bytes k ≡ true → (f f' : FwState) → view_of f ≡ record_view plan kept → map (λ r. r.buffer) f.rings ≡ buffers plan.graph → f' ≡ blob_installed id bytes f → LeavesSo plan (Part id bytes k) f f' (after plan (Part id bytes k) kept)
    leaves-last last f f' shows rings made =
        let stays : now ≡ after plan (Part id bytes k) kept = ap (λ (b : Bool). cond b now kept) (sym last) in
        let v : View = record_view plan now in
        let made_so : f' ≡ record (seen v (Some id) f) { staging = unstaged id f.staging } =
        made ∙ ap (λ (w : View). record (seen w (Some id) f) { staging = unstaged id f.staging }) (ap (blob_view id bytes) shows ∙ now-view plan sound kept is i low bytes may) in
        let next : FwState = record (seen v (Some id) f) { staging = unstaged id f.staging } in
        subst (λ (x : FwState × Record). LeavesSo plan (Part id bytes k) f x.0 x.1) (λ j. (sym made_so j, stays j)) record {
          record_now = will;
          shows_now = refl;
          heap = refl;
          rings = (seen-sees f v (Some id) rings).buffers;
          stands = λ whole inputs before stood. subst (λ (fresh : Option ℕ). (after_it : Stands (Some next) whole inputs (before ++ Now v fresh ∷ [])) × Leads whole stood.past (Now v fresh ∷ []) after_it.past) (sym (ap (fresh_by id) last))
              (blob-stands f next shows rings refl whole inputs before stood);
        }

    pub part-taken : IsTaken plan kept (Part id bytes k)
    part-taken = record {
      message = message;
      passes = λ f. bare-passes (body_of f (decoded (message_spelling (SetData id (blob_part bytes k))))) (ap (body_of f) (decoded-message (SetData id (blob_part bytes k)) message));
      record_is = is;
      leaves = λ f f' shows rings ready done. by (is_last bytes k) refl f f' shows rings ready done;
    }
      where
        by : (b : Bool) → is_last bytes k ≡ b → (f f' : FwState) → view_of f ≡ record_view plan kept → map (λ r. r.buffer) f.rings ≡ buffers plan.graph → HasStaged id bytes k f → row f (SetData id (blob_part bytes k)) ≡ Ok f' → LeavesSo plan (Part id bytes k) f f' (after plan (Part id bytes k) kept)
        by true last f f' shows rings ready done = leaves-last last f f' shows rings (made-last id bytes whole-blob k few f f' ready last done)
        by false more f f' shows rings ready done = leaves-more more f f' shows rings (made-more id bytes whole-blob k few f f' ready more done)

  -- ---- all of them

  pub parts-taken : AreTaken plan false kept (part_acts id bytes)
  parts-taken = record { each = each-law plan (part_acts id bytes) kept (parts-each plan sound kept is i low bytes may (IsTaken plan) part-taken).0; ready = parts-ready id bytes whole-blob plan }

-- ---- the order of a call

module _ (plan : Plan) (sound : IsSound plan) (kept : Record) (is : IsRecordOf plan kept) (name bytes : List ℕ) where
  -- where no test fails, the law of one act holds of each part
  pub bytes-taken : bytes_fault plan kept name bytes ≡ None → AreTaken plan false kept (bytes_order plan kept name bytes).acts
  bytes-taken none = by (control_place plan name) refl
    where
      by : (place : Option ℕ) → control_place plan name ≡ place → AreTaken plan false kept (bytes_order plan kept name bytes).acts
      by None at = absurd (cc (sym (ap (installing_fault name bytes) (lost-here (λ (k : ControlPlan). is_named plan name k.comp) plan.controls at)) ∙ (loaded kept.power (installing_fault name bytes (named_control plan name)) none).1))
      by (Some i) at =
          let low = place-low plan name i at in
          let k = control_here plan i in
          let may = installable-here plan sound kept is name i at bytes none in
          subst (λ (o : Option ControlPlan). AreTaken plan false kept (installing_order plan kept bytes o).acts) (sym (named-here plan sound kept is i low name at))
          (sends-taken plan kept kept.power (part_acts k.comp bytes) (with_control plan k.comp (with_blob bytes)) Done (parts-taken plan sound kept is i low bytes may))
