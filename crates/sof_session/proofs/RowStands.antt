-- What stands goes on standing over a row that makes, joins, sets, completes or frees what is not Live.
use Rattle.std.proofs.Common.{◌≡◌, ◌⊎◌, inl, inr, refl, sym, ap, ◌∙◌, subst, ℕ, Bool, true, false, not, cond, ◌||◌, ◌==◌, List, [], ◌∷◌, map, Option, Some, None, Result, Ok, Err, ℤ}
use Rattle.std.specs.Prelude.{find, option_and_then}
use Rattle.std.specs.Option.{option_map_or}
use Rattle.sof_base.specs.BlobFaults.{is_blob}
use Rattle.sof_base.specs.declared.part.Part.{Part}
use Rattle.stream_law.specs.declared.graph.Comp.{Comp}
use Rattle.stream_law.specs.declared.graph.Graph.{Graph}
use Rattle.stream_law.specs.declared.graph.Setting.{Setting}
use Rattle.stream_law.specs.State.{FwState, RingView, History, view_of}
use Rattle.stream_law.specs.Order.{is_among}
use Rattle.stream_law.specs.Past.{Now}
use Rattle.stream_law.specs.Seen.{is_volume, is_equaliser, seen}
use Rattle.stream_law.specs.Viewing.{Sees}
use Rattle.stream_law.specs.Ways.{comp_of, buffers, is_of, agree}
use Rattle.stream_law.proofs.SeenLaws.{seen-sees}
use Rattle.ipc3_model.specs.declared.message.Message.{Message}
use Rattle.ipc3_model.specs.declared.message.Message.TheVariants as messages
use Rattle.mbox_link.specs.Step.{no_device, invalid, is_used, kind_at, has_kind, new_setting, with_setting_at, value_set, staging_at, keeps_order, staged_bytes, with_staged, with_blob_at, blob_installed, row}
use Rattle.host_widgets.specs.HostActs.{fresh_by}
use Rattle.host_widgets.proofs.StandingOn.{LeadsOn}
use Rattle.sof_session.proofs.LiveViews.{SameLife, LeavesLife, sees-stands, life-stands}
use Rattle.sof_session.proofs.RowsLeave.{IsOfGraph, row-leaves}

-- the component at which a message puts gains or a blob in force
abbrev pub fresh_of : FwState → Message → Option ℕ
fresh_of f (messages.SetValue id command values) = fresh_by id (is_of f.graph is_volume id)
fresh_of f (messages.SetData id part) = fresh_by id (part.remaining == 0)
fresh_of f m = None

-- one that changes no stream
abbrev pub IsStill : Message → Type 0
IsStill (messages.PcmParams host direction params) = ⊥
IsStill (messages.PcmFree id) = ⊥
IsStill (messages.TrigStart id) = ⊥
IsStill (messages.TrigStop id) = ⊥
IsStill (messages.TrigPause id) = ⊥
IsStill (messages.TrigRelease id) = ⊥
IsStill m = Unit {0}

-- ---- what a setting leaves

module _ (f : FwState) (id : ℕ) where
  abbrev g : Graph
  g = f.graph

  abbrev AreNamed : Type 0
  AreNamed = map (λ (r : RingView). r.buffer) f.rings ≡ buffers f.graph

  -- a state that sees its view with this mark, or has none
  abbrev Leaves : Option ℕ → FwState → Type 0
  Leaves fresh next = (AreNamed → Sees f (view_of next) fresh next) ⊎ (LeavesLife f next × (fresh ≡ None))

  abbrev IsLeft : Option ℕ → Result FwState ℤ → Type 0
  IsLeft fresh (Ok next) = Leaves fresh next
  IsLeft fresh (Err e) = Unit {0}

  record Left (fresh : Option ℕ) (r : Result FwState ℤ) : Type 0 where
    is : IsLeft fresh r

  test : (fresh : Option ℕ) (b : Bool) (x y : Result FwState ℤ) → Left fresh x → Left fresh y → Left fresh (cond b x y)
  test fresh true x y first second = first
  test fresh false x y first second = second

  refused : (fresh : Option ℕ) (e : ℤ) → Left fresh (Err e)
  refused fresh e = record { is = tt }

  -- a state with the same edges, rings and numbers
  same : (next : FwState) → next.clock ≡ f.clock → buffers next.graph ≡ buffers g → next.rings ≡ f.rings → next.histories ≡ f.histories → Left None (Ok next)
  same next clock edges rings histories = record {
    is = inr (
      record {
        clock = clock;
        ringed = λ is. ap (map (λ (r : RingView). r.buffer)) rings ∙ is ∙ sym edges;
        frames = λ b. inl (ap (λ (rs : List RingView). option_map_or (λ (r : RingView). r.frames) (find (λ (r : RingView). r.buffer == b) rs) []) rings);
        numbers = λ c there. ap (λ (hs : List History). option_map_or (λ (h : History). h.numbers) (find (λ (h : History). h.comp == c) hs) []) histories;
        named = λ c there was. ap (λ (hs : List History). is_among (map (λ (h : History). h.comp) hs) c) histories ∙ was;
      },
      refl,
    );
  }

  setting-left : (setting : Setting) (b : Bool) → Left (fresh_by id b) (Ok (cond b (seen (with_setting_at f id setting) (Some id) f) (record f { graph = (with_setting_at f id setting).graph })))
  setting-left setting true = record { is = inl (λ named. seen-sees f (with_setting_at f id setting) (Some id) named) }
  setting-left setting false = same (record f { graph = (with_setting_at f id setting).graph }) refl refl refl refl

  value-left : (o : Option Setting) → Left (fresh_by id (is_of g is_volume id)) (value_set f id o)
  value-left None = refused (fresh_by id (is_of g is_volume id)) invalid
  value-left (Some setting) = setting-left setting (is_of g is_volume id)

  installed : (bytes : List ℕ) → AreNamed → Sees f (view_of (blob_installed id bytes f)) (Some id) (blob_installed id bytes f)
  installed bytes named =
      let s = seen-sees f (with_blob_at f id bytes) (Some id) named in
      record { clock = s.clock; view = refl; buffers = s.buffers; rings = s.rings; remembered = s.remembered; histories = s.histories }

  part-left : (bytes : List ℕ) (part : Part) (b : Bool) → Left (fresh_by id b) (cond (not b) (Ok (with_staged id bytes part f)) (cond (not (is_blob bytes)) (Err invalid) (Ok (blob_installed id bytes f))))
  part-left bytes part true = test (Some id) (not (is_blob bytes)) _ _ (refused (Some id) invalid) (record { is = inl (installed bytes) })
  part-left bytes part false = same (with_staged id bytes part f) refl refl refl refl

  set-leaves : (command : ℕ) (values : List ℕ) (next : FwState) → row f (messages.SetValue id command values) ≡ Ok next → Leaves (fresh_by id (is_of g is_volume id)) next
  set-leaves command values next done =
      let fresh = fresh_by id (is_of g is_volume id) in
      subst (IsLeft fresh) done (test fresh (not (is_used g id)) _ _ (refused fresh no_device) (value-left (option_and_then (λ (c : Comp). new_setting c.kind c.setting command values) (comp_of g id)))).is

  data-leaves : (part : Part) (next : FwState) → row f (messages.SetData id part) ≡ Ok next → Leaves (fresh_by id (part.remaining == 0)) next
  data-leaves part next done =
      let fresh = fresh_by id (part.remaining == 0) in
      subst (IsLeft fresh) done
      (test fresh (not (is_used g id)) _ _ (refused fresh no_device)
      (test fresh (not (has_kind is_equaliser (kind_at g id)) || not (keeps_order (staging_at f id) part)) _ _ (refused fresh invalid) (part-left (staged_bytes (staging_at f id) part) part (part.remaining == 0)))).is

  -- values are put at a component that is there
  abbrev IsFound : Result FwState ℤ → Type 0
  IsFound (Ok next) = (c : Comp) × (comp_of g id ≡ Some c)
  IsFound (Err e) = Unit {0}

  pub set-found : (command : ℕ) (values : List ℕ) (next : FwState) → row f (messages.SetValue id command values) ≡ Ok next → (c : Comp) × (comp_of f.graph id ≡ Some c)
  set-found command values next done = subst IsFound done (used (not (is_used g id)) (value_set f id (option_and_then (λ (c : Comp). new_setting c.kind c.setting command values) (comp_of g id))) (found (comp_of g id) refl))
    where
      used : (b : Bool) (r : Result FwState ℤ) → IsFound r → IsFound (cond b (Err no_device) r)
      used true r is = tt
      used false r is = is

      put : (o : Option Setting) → (c : Comp) × (comp_of g id ≡ Some c) → IsFound (value_set f id o)
      put None at = tt
      put (Some setting) at = at

      found : (o : Option Comp) → comp_of g id ≡ o → IsFound (value_set f id (option_and_then (λ (c : Comp). new_setting c.kind c.setting command values) o))
      found None at = tt
      found (Some c) at = put (new_setting c.kind c.setting command values) (c, at)

-- ---- a row

module _ (f next : FwState) (same : SameLife (view_of f) (view_of next)) (agrees : agree (view_of next) ≡ true) where
  by-leaves : (id : ℕ) (fresh : Option ℕ) → Leaves f id fresh next → LeadsOn (Some f) (Some next) (Now (view_of next) fresh ∷ [])
  by-leaves id fresh (inl sees) = sees-stands f next same fresh agrees (λ whole inputs before stood. sees stood.holds.buffers)
  by-leaves id fresh (inr (leaves, none)) = subst (λ (o : Option ℕ). LeadsOn (Some f) (Some next) (Now (view_of next) o ∷ [])) (sym none) (life-stands f next same leaves agrees)

  of-graph : (m : Message) → IsOfGraph f m → row f m ≡ Ok next → LeadsOn (Some f) (Some next) (Now (view_of next) None ∷ [])
  of-graph m of done = life-stands f next same (row-leaves f m of next done) agrees

  pub row-stands : (m : Message) → IsStill m → row f m ≡ Ok next → LeadsOn (Some f) (Some next) (Now (view_of next) (fresh_of f m) ∷ [])
  row-stands (messages.SetValue id command values) still done = by-leaves id (fresh_by id (is_of f.graph is_volume id)) (set-leaves f id command values next done)
  row-stands (messages.SetData id part) still done = by-leaves id (fresh_by id (part.remaining == 0)) (data-leaves f id part next done)
  row-stands (messages.PcmParams host direction params) still done = absurd still
  row-stands (messages.PcmFree id) still done = absurd still
  row-stands (messages.TrigStart id) still done = absurd still
  row-stands (messages.TrigStop id) still done = absurd still
  row-stands (messages.TrigPause id) still done = absurd still
  row-stands (messages.TrigRelease id) still done = absurd still
  row-stands m still done = of-graph m tt done
