-- What is there once acts have passed that make: what was, and each widget that they made.
use Rattle.std.proofs.Common.{◌≡◌, refl, sym, ap, subst, ◌∙◌, ℕ, ◌+◌, List, [], ◌∷◌, ◌++◌, map, filter, length, Bool, true, false, cond, not, inl, inr, ◌⊎◌, ◌==◌, ◌||◌, ◌&&◌, Option, Some, None, Ok, Err}
use Rattle.std.specs.Prelude.{Result, ℤ, MatchResult, find, nat_lt, nat_le, unwrap_or, option_and_then}
use Rattle.std.specs.Option.{option_map}
use Rattle.std.specs.List.{filter_map, cons_option, flat_map}
use Rattle.std.proofs.lemmas.Bool.{true≢false, eqb-true}
use Rattle.ipc3_model.specs.declared.reply.Reply.{Reply}
use Rattle.sof_base.specs.declared.errno.Errno.{Errno}
use Rattle.stream_law.specs.declared.graph.Comp.{Comp}
use Rattle.stream_law.specs.declared.graph.Edge.{Edge}
use Rattle.stream_law.specs.declared.graph.Join.{Join as Joined}
use Rattle.stream_law.specs.declared.graph.Pipe.{Pipe}
use Rattle.stream_law.specs.declared.graph.Setting.{Setting}
use Rattle.stream_law.specs.Placed.{placed}
use Rattle.stream_law.specs.Seen.{seen, is_volume}
use Rattle.stream_law.specs.State.{FwState, HeapView, PieceView}
use Rattle.stream_law.specs.Ways.{comp_of, edge_of, is_of, is_complete, buffers, components}
use Rattle.stream_law.specs.Order.{is_among}
use Rattle.stream_law.proofs.Among.{is_among-filter}
use Rattle.stream_law.proofs.Members.{IsIn, in-each, kept-in}
use Rattle.ipc3_model.specs.declared.message.CompWords.{CompWords}
use Rattle.ipc3_model.specs.declared.message.Message.TheVariants as messages
use Rattle.mbox_link.specs.BlobParts.{is_last}
use Rattle.mbox_link.specs.Calls.{World, Meaning}
use Rattle.mbox_link.specs.Step.{row, busy, no_device, no_memory, invalid, has_comp, has_index, is_used, has_hole, heap_with_piece, comp_bytes, buffer_bytes, pipe_bytes, kind_of, is_joined, is_refused_join, complete_pipe, new_setting, value_set, with_setting_at}
use Rattle.tplg_plan.specs.declared.plans.Plan.{Plan}
use Rattle.tplg_plan.specs.declared.plans.ControlPlan.{ControlPlan}
use Rattle.tplg_plan.specs.declared.plans.ControlKind.{ControlKind}
use Rattle.tplg_plan.specs.declared.plans.ControlKind.TheVariants as controls
use Rattle.host_widgets.specs.declared.answers.HostFault.{HostFault}
use Rattle.host_widgets.specs.declared.kept.ControlRec.{ControlRec}
use Rattle.host_widgets.specs.declared.kept.Record.{Record}
use Rattle.host_widgets.specs.ActLists.{control_acts_by, control_acts}
use Rattle.host_widgets.specs.ActMessages.{act_message, set_message, put_message}
use Rattle.host_widgets.specs.Acts.{widget_ids, widget_words, pipe_by_id, component_words, comp_message, buffer_message, pipe_message}
use Rattle.host_widgets.specs.Controls.{control_of}
use Rattle.host_widgets.specs.Host.{Outcome, verdict}
use Rattle.host_widgets.specs.HostActs.{Act, Make, Join, Put, Part, Finish, Unmake}
use Rattle.host_widgets.specs.Kept.{controls_of}
use Rattle.host_widgets.specs.UpActs.{widgets_at, widgets_of, making_acts, pipe_ids, unmaking_acts}
use Rattle.host_widgets.specs.There.{There, there_in, silent_state, by_part, there_after, ids_there, ids_there_of, shown_ids}
use Rattle.host_widgets.specs.UpState.{UpState, up_own, up_act_rules}
use Rattle.host_widgets.specs.Up.{buffer_joins}
use Rattle.host_widgets.proofs.Needs.{among-in, in-among, in-either, flat-in}
use Rattle.host_widgets.proofs.RowsTold.{told}
use Rattle.host_widgets.proofs.Sublists.{filter-same}
use Rattle.host_widgets.proofs.UpContext.{AreApart}
use Rattle.host_widgets.proofs.UpExchanges.{SaysSo, IsOwn}
use Rattle.host_widgets.proofs.UpSending.{Staged, AreAnswered, after_all, AreFree}
use Rattle.host_widgets.proofs.UpStages.{index_of_id}
use Rattle.host_widgets.specs.Groups.{is_control_of, finish_ids}
use Rattle.host_widgets.specs.MadeLists.{ActsPassed, widget_made}
use Rattle.host_widgets.proofs.StageStays.{from-map}

-- ---- rows that leave the heap

KeepsHeap : HeapView → Result FwState ℤ → Type 0
KeepsHeap h r = (t : There) → told r ≡ Ok t → t.heap ≡ h

keeps-none : (h : HeapView) (e : ℤ) → KeepsHeap h (Err e)
unfolding KeepsHeap
keeps-none h e t is = absurd (cc is)

keeps-behind : (h : HeapView) (b : Bool) (e : ℤ) (r : Result FwState ℤ) → KeepsHeap h r → KeepsHeap h (cond b (Err e) r)
keeps-behind h true e r keeps = keeps-none h e
keeps-behind h false e r keeps = keeps

keeps-ok : (h : HeapView) (f : FwState) → f.heap ≡ h → KeepsHeap h (Ok f)
unfolding KeepsHeap
keeps-ok h f same t is = let one : there_in f ≡ t = cc is in ap (λ (x : There). x.heap) (sym one) ∙ same

module _ (f : FwState) where
  connect-keeps : (source sink : ℕ) → KeepsHeap f.heap (row f (messages.Connect source sink))
  connect-keeps source sink =
      keeps-behind f.heap (not (is_used f.graph source && is_used f.graph sink)) no_device _ (keeps-behind f.heap (is_joined f.graph source sink) busy _ (keeps-behind f.heap (is_refused_join f source sink) invalid _ (keeps-ok f.heap _ refl)))

  completed-keeps : (id : ℕ) (o : Option Pipe) → KeepsHeap f.heap (complete_pipe f id o)
  completed-keeps id None = keeps-none f.heap invalid
  completed-keeps id (Some p) = keeps-behind f.heap (not (is_used f.graph p.sched)) no_device _ (keeps-behind f.heap p.complete busy _ (keeps-behind f.heap (not (has_comp f.graph p.sched)) invalid _ (keeps-ok f.heap _ refl)))

  complete-keeps : (id : ℕ) → KeepsHeap f.heap (row f (messages.PipeComplete id))
  complete-keeps id = keeps-behind f.heap (not (is_used f.graph id)) no_device _ (completed-keeps id (find (λ (p : Pipe). p.id == id) f.graph.pipes))

  value-keeps : (id : ℕ) (o : Option Setting) → KeepsHeap f.heap (value_set f id o)
  value-keeps id None = keeps-none f.heap invalid
  value-keeps id (Some setting) = by (is_of f.graph is_volume id)
    where
      by : (b : Bool) → KeepsHeap f.heap (Ok (cond b (seen (with_setting_at f id setting) (Some id) f) (record f { graph = (with_setting_at f id setting).graph })))
      by true = keeps-ok f.heap _ refl
      by false = keeps-ok f.heap _ refl

  set-keeps : (id command : ℕ) (values : List ℕ) → KeepsHeap f.heap (row f (messages.SetValue id command values))
  set-keeps id command values = keeps-behind f.heap (not (is_used f.graph id)) no_device _ (value-keeps id (option_and_then (λ (c : Comp). new_setting c.kind c.setting command values) (comp_of f.graph id)))

  setting-keeps : (comp : ℕ) (values : List ℕ) (q : ControlKind) → KeepsHeap f.heap (row f (set_message comp values q))
  setting-keeps comp values (controls.Volume min max channels lowest step mute) = set-keeps comp _ _
  setting-keeps comp values kind = set-keeps comp _ _

  put-keeps : (comp : ℕ) (values : List ℕ) (o : Option ControlPlan) → KeepsHeap f.heap (row f (put_message comp values o))
  put-keeps comp values None = set-keeps comp _ _
  put-keeps comp values (Some k) = setting-keeps comp values k.kind

-- ---- rows that make a widget

placed-among : (p : PieceView) (ps : List PieceView) (x : ℕ) → is_among (map (λ (q : PieceView). q.id) (placed (λ (q : PieceView). q.id) p ps)) x ≡ ((p.id == x) || is_among (map (λ (q : PieceView). q.id) ps) x)
placed-among p [] x = refl
placed-among p (y ∷ ys) x = by (nat_lt p.id y.id) (placed-among p ys x)
  where
    swap : (a b c : Bool) → (b || (a || c)) ≡ (a || (b || c))
    swap true true c = refl
    swap true false c = refl
    swap false b c = refl

    by : (b : Bool) → is_among (map (λ (q : PieceView). q.id) (placed (λ (q : PieceView). q.id) p ys)) x ≡ ((p.id == x) || is_among (map (λ (q : PieceView). q.id) ys) x) →
        is_among (map (λ (q : PieceView). q.id) (cond b (p ∷ y ∷ ys) (y ∷ placed (λ (q : PieceView). q.id) p ys))) x ≡ ((p.id == x) || ((y.id == x) || is_among (map (λ (q : PieceView). q.id) ys) x))
    by true rest = refl
    by false rest = ap (λ (b : Bool). (y.id == x) || b) rest ∙ swap (p.id == x) (y.id == x) (is_among (map (λ (q : PieceView). q.id) ys) x)

AddsPiece : ℕ → HeapView → Result FwState ℤ → Type 0
AddsPiece id h r = (t : There) → told r ≡ Ok t → (x : ℕ) → is_among (ids_there t) x ≡ ((id == x) || is_among (map (λ (p : PieceView). p.id) h.pieces) x)

adds-none : (id : ℕ) (h : HeapView) (e : ℤ) → AddsPiece id h (Err e)
unfolding AddsPiece
adds-none id h e t is = absurd (cc is)

adds-behind : (id : ℕ) (h : HeapView) (b : Bool) (e : ℤ) (r : Result FwState ℤ) → AddsPiece id h r → AddsPiece id h (cond b (Err e) r)
adds-behind id h true e r adds = adds-none id h e
adds-behind id h false e r adds = adds

adds-ok : (id bytes : ℕ) (h : HeapView) (f : FwState) → f.heap ≡ heap_with_piece id bytes h → AddsPiece id h (Ok f)
unfolding AddsPiece
adds-ok id bytes h f same t is x =
    let one : there_in f ≡ t = cc is in
    ap (λ (y : There). is_among (ids_there y) x) (sym one) ∙ ap (λ (y : HeapView). is_among (map (λ (p : PieceView). p.id) y.pieces) x) same ∙ placed-among _ h.pieces x

-- what is stated
adds-told : (id : ℕ) (h : HeapView) (r : Result FwState ℤ) (t : There) → AddsPiece id h r → told r ≡ Ok t → (x : ℕ) → is_among (ids_there t) x ≡ ((id == x) || is_among (map (λ (p : PieceView). p.id) h.pieces) x)
unfolding AddsPiece
adds-told id h r t adds is = adds t is

keeps-told : (h : HeapView) (r : Result FwState ℤ) (t : There) → KeepsHeap h r → told r ≡ Ok t → t.heap ≡ h
unfolding KeepsHeap
keeps-told h r t keeps is = keeps t is

module _ (f : FwState) where
  comp-adds : (id pipe periods_sink periods_source frame_fmt : ℕ) (kind : CompWords) → AddsPiece id f.heap (row f (messages.CompNew id pipe periods_sink periods_source frame_fmt kind))
  comp-adds id pipe periods_sink periods_source frame_fmt kind =
      adds-behind id f.heap (is_used f.graph id || is_complete f.graph pipe) busy _
      (adds-behind id f.heap (nat_le 128 (length f.graph.comps) || not (has_hole f (comp_bytes (kind_of kind frame_fmt)))) no_memory _ (adds-ok id (comp_bytes (kind_of kind frame_fmt)) f.heap _ refl))

  buffer-adds : (id pipe size caps : ℕ) → AddsPiece id f.heap (row f (messages.BufferNew id pipe size caps))
  buffer-adds id pipe size caps =
      adds-behind id f.heap (is_used f.graph id || is_complete f.graph pipe) busy _ (adds-behind id f.heap (nat_le 128 (length f.graph.edges) || not (has_hole f (buffer_bytes size))) no_memory _ (adds-ok id (buffer_bytes size) f.heap _ refl))

  pipe-adds : (id pipe sched period priority mips frames time_domain : ℕ) → AddsPiece id f.heap (row f (messages.PipeNew id pipe sched period priority mips frames time_domain))
  pipe-adds id pipe sched period priority mips frames time_domain =
      adds-behind id f.heap (is_used f.graph id || has_index f.graph pipe) busy _ (adds-behind id f.heap (nat_le 32 (length f.graph.pipes) || not (has_hole f pipe_bytes)) no_memory _ (adds-ok id pipe_bytes f.heap _ refl))

module _ (plan : Plan) where
  -- whatever its id names
  make-adds : (f : FwState) (id : ℕ) → AddsPiece id f.heap (row f (act_message plan (Make id)))
  make-adds f id = by (comp_of plan.graph id) (edge_of plan.graph id) (pipe_by_id plan id)
    where
      by : (c : Option Comp) (e : Option Edge) (p : Option Pipe) →
          AddsPiece id f.heap (row f (unwrap_or (option_map (comp_message id (control_of plan id) (widget_words plan id)) c) (unwrap_or (option_map (buffer_message id (widget_words plan id)) e) (unwrap_or (option_map (λ (p : Pipe). pipe_message id (widget_words plan id) p.sched p.period) p) (pipe_message id (widget_words plan id) 0 0)))))
      by (Some c) e p = comp-adds f id (widget_words plan id).pipe (widget_words plan id).periods_sink (widget_words plan id).periods_source (widget_words plan id).frame_fmt (component_words c.kind (control_of plan id) (widget_words plan id))
      by None (Some e) p = buffer-adds f id (widget_words plan id).pipe e.size (widget_words plan id).caps
      by None None (Some p) = pipe-adds f id (widget_words plan id).pipe p.sched p.period (widget_words plan id).priority (widget_words plan id).mips (widget_words plan id).frames (widget_words plan id).time_domain
      by None None None = pipe-adds f id (widget_words plan id).pipe 0 0 (widget_words plan id).priority (widget_words plan id).mips (widget_words plan id).frames (widget_words plan id).time_domain

  -- ---- one act

  -- an act that makes, of these indices
  abbrev pub MakesOf : List ℕ → Act → Type 0
  MakesOf n (Make id) = is_among n (index_of_id plan id) ≡ true
  MakesOf n (Join source sink) = Unit {0}
  MakesOf n (Put comp values) = Unit {0}
  MakesOf n (Part comp blob k) = Unit {0}
  MakesOf n (Finish id) = Unit {0}
  MakesOf n act = ⊥

  -- what an act makes is there after it
  abbrev IsAdded : UpState → Act → There → Type 0
  IsAdded u act t = (x : ℕ) → is_among (ids_there t) x ≡ (is_among (filter_map widget_made (act ∷ [])) x || is_among (ids_there u.there) x)

  one-kept : (u : UpState) (act : Act) (t : There) → KeepsHeap u.there.heap (row (silent_state u.there) (act_message plan act)) → told (row (silent_state u.there) (act_message plan act)) ≡ Ok t → (x : ℕ) → is_among (ids_there t) x ≡ is_among (ids_there u.there) x
  one-kept u act t keeps is x = ap (λ (h : HeapView). is_among (map (λ (p : PieceView). p.id) h.pieces) x) (keeps-told u.there.heap (row (silent_state u.there) (act_message plan act)) t keeps is)

  told-of : (u : UpState) (act : Act) → up_own plan u act ≡ None → IsOwn plan u act (silent_state u.there) → told (row (silent_state u.there) (act_message plan act)) ≡ Ok (there_after plan act u.there)
  told-of u act free own = subst (λ (o : Option Errno). SaysSo plan u act o (told (row (silent_state u.there) (act_message plan act)))) free own

  one-there : (n : List ℕ) (u : UpState) (act : Act) → MakesOf n act → up_own plan u act ≡ None → ((f : FwState) → there_in f ≡ u.there → Staged act f → IsOwn plan u act f) → IsAdded u act (there_after plan act u.there)
  one-there n u (Make id) of free own x =
      adds-told id u.there.heap (row (silent_state u.there) (act_message plan (Make id))) (there_after plan (Make id) u.there) (make-adds (silent_state u.there) id) (told-of u (Make id) free (own (silent_state u.there) refl tt)) x ∙ by (id == x)
    where
      by : (b : Bool) → (b || is_among (ids_there u.there) x) ≡ ((b || false) || is_among (ids_there u.there) x)
      by true = refl
      by false = refl
  one-there n u (Join source sink) of free own x = one-kept u (Join source sink) (there_after plan (Join source sink) u.there) (connect-keeps (silent_state u.there) source sink) (told-of u (Join source sink) free (own (silent_state u.there) refl tt)) x
  one-there n u (Put comp values) of free own x = one-kept u (Put comp values) (there_after plan (Put comp values) u.there) (put-keeps (silent_state u.there) comp values (control_of plan comp)) (told-of u (Put comp values) free (own (silent_state u.there) refl tt)) x
  one-there n u (Part comp blob k) of free own x = by (is_last blob k)
    where
      by : (b : Bool) → is_among (ids_there (by_part comp blob b u.there)) x ≡ is_among (ids_there u.there) x
      by true = refl
      by false = refl
  one-there n u (Finish id) of free own x = one-kept u (Finish id) (there_after plan (Finish id) u.there) (complete-keeps (silent_state u.there) id) (told-of u (Finish id) free (own (silent_state u.there) refl tt)) x
  one-there n u act of free own x = absurd of

  -- ---- acts one after another

  -- these are the first of those
  abbrev pub Begins : List Act → List Act → Type 0
  Begins [] acts = Unit {0}
  Begins (p ∷ ps) [] = ⊥
  Begins (p ∷ ps) (act ∷ acts) = (p ≡ act) × Begins ps acts

  pub passed-begins : {D : Type 0} (means : Meaning D) (acts : List Act) (ps : List Act) (w v : World D) (result : Outcome) → ActsPassed means plan acts ps w v result → Begins ps acts
  passed-begins means [] ps w v result sent = subst (λ (xs : List Act). Begins xs []) (sym sent.0) tt
  passed-begins {D} means (act ∷ acts) ps w v result (mid, answer, x, on) = by (verdict answer) on (λ rest sent. passed-begins means acts rest mid v result sent)
    where
      by : (r : Result Reply HostFault) → MatchResult r (λ reply. (rest : List Act) × (ps ≡ act ∷ rest) × ActsPassed means plan acts rest mid v result) (λ fault. (ps ≡ []) × (v ≡ mid) × (result ≡ Err fault)) →
          ((rest : List Act) → ActsPassed means plan acts rest mid v result → Begins rest acts) → Begins ps (act ∷ acts)
      by (Ok reply) (rest, at, sent) go = subst (λ (xs : List Act). Begins xs (act ∷ acts)) (sym at) (refl, go rest sent)
      by (Err fault) end go = subst (λ (xs : List Act). Begins xs (act ∷ acts)) (sym end.0) tt

  made-more : (act : Act) (ps : List Act) (x : ℕ) (b : Bool) → (is_among (filter_map widget_made ps) x || (is_among (filter_map widget_made (act ∷ [])) x || b)) ≡ (is_among (filter_map widget_made (act ∷ ps)) x || b)
  made-more act ps x b = by (widget_made act)
    where
      swap : (a c d : Bool) → (a || ((c || false) || d)) ≡ ((c || a) || d)
      swap true true d = refl
      swap true false d = refl
      swap false true d = refl
      swap false false d = refl

      by : (o : Option ℕ) → (is_among (filter_map widget_made ps) x || (is_among (cons_option o []) x || b)) ≡ (is_among (cons_option o (filter_map widget_made ps)) x || b)
      by None = refl
      by (Some id) = swap (is_among (filter_map widget_made ps) x) (id == x) b

  pub made-there : (n : List ℕ) (acts : List Act) (ps : List Act) (u : UpState) → ((a : Act) → IsIn a acts → MakesOf n a) → Begins ps acts → AreFree plan u ps → AreAnswered plan u acts →
      (x : ℕ) → is_among (ids_there (after_all plan u ps).there) x ≡ (is_among (filter_map widget_made ps) x || is_among (ids_there u.there) x)
  made-there n acts [] u of begins free answered x = refl
  made-there n [] (p ∷ ps) u of begins free answered x = absurd begins
  made-there n (act ∷ acts) (p ∷ ps) u of (is, begins) free answered x =
      subst (λ (q : Act). AreFree plan u (q ∷ ps) → is_among (ids_there (after_all plan u (q ∷ ps)).there) x ≡ (is_among (filter_map widget_made (q ∷ ps)) x || is_among (ids_there u.there) x)) (sym is)
      (λ free.
      made-there n acts ps ((up_act_rules plan).after act u) (λ a there. of a (inr there)) begins free.1 (answered.3 free.0) x
      ∙ ap (λ (b : Bool). is_among (filter_map widget_made ps) x || b) (one-there n u act (of act (inl refl)) free.0 answered.1 x)
      ∙ made-more act ps x (is_among (ids_there u.there) x))
      free

  -- what was made is of these indices
  pub made-of : (n : List ℕ) (acts : List Act) (ps : List Act) → ((a : Act) → IsIn a acts → MakesOf n a) → Begins ps acts → (x : ℕ) → IsIn x (filter_map widget_made ps) → is_among n (index_of_id plan x) ≡ true
  made-of n acts [] of begins x none = absurd none
  made-of n [] (p ∷ ps) of begins x there = absurd begins
  made-of n (act ∷ acts) (p ∷ ps) of (is, begins) x there =
      by act (of act (inl refl)) (made-of n acts ps (λ a there. of a (inr there)) begins x) (subst (λ (q : Act). IsIn x (filter_map widget_made (q ∷ ps))) is there)
    where
      by : (a : Act) → MakesOf n a → (IsIn x (filter_map widget_made ps) → is_among n (index_of_id plan x) ≡ true) → IsIn x (filter_map widget_made (a ∷ ps)) → is_among n (index_of_id plan x) ≡ true
      by (Make id) of rest (inl same) = ap (λ (y : ℕ). is_among n (index_of_id plan y)) same ∙ of
      by (Make id) of rest (inr more) = rest more
      by (Join source sink) of rest more = rest more
      by (Put comp values) of rest more = rest more
      by (Part comp blob k) of rest more = rest more
      by (Finish id) of rest more = rest more
      by act of rest more = absurd of

  -- ---- the acts that make

  control-makes : (n : List ℕ) (comp : ℕ) (q : ControlKind) (c : ControlRec) (a : Act) → IsIn a (control_acts_by comp q c) → MakesOf n a
  control-makes n comp (controls.Volume min max channels lowest step mute) c a (inl is) = subst (MakesOf n) (sym is) tt
  control-makes n comp (controls.Volume min max channels lowest step mute) c a (inr none) = absurd none
  control-makes n comp (controls.Choice items) c a (inl is) = subst (MakesOf n) (sym is) tt
  control-makes n comp (controls.Choice items) c a (inr none) = absurd none
  control-makes n comp (controls.Masks min max channels) c a (inl is) = subst (MakesOf n) (sym is) tt
  control-makes n comp (controls.Masks min max channels) c a (inr none) = absurd none
  control-makes n comp (controls.Blob most initial) c a there = let r = from-map (Part comp c.blob) _ a there in subst (MakesOf n) (sym r.2) tt

  pub making-makes : (kept : Record) (n : List ℕ) (a : Act) → IsIn a (making_acts plan kept n) → MakesOf n a
  making-makes kept n a there = first (in-either (map Make (widgets_of plan n)) (joins ++ (puts ++ finishes)) a there)
    where
      joins : List Act
      joins = map (λ (j : Joined). Join j.source j.sink) (flat_map (buffer_joins plan.graph) n)

      puts : List Act
      puts = flat_map control_acts (filter (is_control_of plan n) (controls_of plan kept))

      finishes : List Act
      finishes = map Finish (finish_ids plan.graph n)

      last : IsIn a puts ⊎ IsIn a finishes → MakesOf n a
      last (inl in_puts) = let r = flat-in control_acts (filter (is_control_of plan n) (controls_of plan kept)) a in_puts in control-makes n r.0.0.comp r.0.0.kind r.0.1 a r.2
      last (inr in_finishes) = let r = from-map Finish (finish_ids plan.graph n) a in_finishes in subst (MakesOf n) (sym r.2) tt

      second : IsIn a joins ⊎ IsIn a (puts ++ finishes) → MakesOf n a
      second (inl in_joins) = let r = from-map (λ (j : Joined). Join j.source j.sink) (flat_map (buffer_joins plan.graph) n) a in_joins in subst (MakesOf n) (sym r.2) tt
      second (inr more) = last (in-either puts finishes a more)

      first : IsIn a (map Make (widgets_of plan n)) ⊎ IsIn a (joins ++ (puts ++ finishes)) → MakesOf n a
      first (inl in_makes) =
          let r = from-map Make (widgets_of plan n) a in_makes in
          let i = flat-in (widgets_at plan) n r.0 r.1 in
          let k = kept-in (λ (x : ℕ). index_of_id plan x == i.0) (widget_ids plan) r.0 i.2 in
          subst (MakesOf n) (sym r.2) (ap (is_among n) (eqb-true (index_of_id plan r.0) i.0 k.1) ∙ in-among n i.0 i.1)
      first (inr more) = second (in-either joins (puts ++ finishes) a more)

  -- ---- what is unmade again

  -- what of these indices is there is what was made of them, where none of them was up
  module _ (up n : List ℕ) (apart : AreApart up n) (u : UpState) (was : ids_there u.there ≡ shown_ids plan up) (ps : List Act) (begins : Begins ps (making_acts plan u.kept n)) (free : AreFree plan u ps) (answered : AreAnswered plan u (making_acts plan u.kept n)) where
    abbrev made : List ℕ
    made = filter_map widget_made ps

    abbrev now : There
    now = (after_all plan u ps).there

    same-id : (x : ℕ) → is_among made x ≡ is_among (ids_there_of plan n now) x
    same-id x =
        by (is_among n (index_of_id plan x)) refl
        ∙ sym (is_among-filter (λ (id : ℕ). is_among n (index_of_id plan id)) (ids_there now) x)
      where
        there : is_among (ids_there now) x ≡ (is_among made x || (is_among up (index_of_id plan x) && is_among (widget_ids plan) x))
        there =
            made-there n (making_acts plan u.kept n) ps u (making-makes u.kept n) begins free answered x
            ∙ ap (λ (xs : List ℕ). is_among made x || is_among xs x) was
            ∙ ap (λ (b : Bool). is_among made x || b) (is_among-filter (λ (id : ℕ). is_among up (index_of_id plan id)) (widget_ids plan) x)

        or-none : (a : Bool) → a ≡ (a || false)
        or-none true = refl
        or-none false = refl

        by : (b : Bool) → is_among n (index_of_id plan x) ≡ b → is_among made x ≡ (is_among n (index_of_id plan x) && is_among (ids_there now) x)
        by true e =
            or-none (is_among made x)
            ∙ sym (ap (λ (b : Bool). is_among made x || (b && is_among (widget_ids plan) x)) (apart (index_of_id plan x) e))
            ∙ sym there
            ∙ sym (ap (λ (b : Bool). b && is_among (ids_there now) x) e)
        by false e = none (is_among made x) refl ∙ sym (ap (λ (b : Bool). b && is_among (ids_there now) x) e)
          where
            none : (b : Bool) → is_among made x ≡ b → is_among made x ≡ false
            none false is = is
            none true is = absurd (true≢false (sym (made-of n (making_acts plan u.kept n) ps (making-makes u.kept n) begins x (among-in made x is)) ∙ e))

    pub unmakes-same : unmaking_acts plan made ≡ unmaking_acts plan (ids_there_of plan n now)
    unmakes-same =
        let ids : List ℕ = pipe_ids plan.graph ++ (buffers plan.graph ++ components plan.graph) in
        ap (map Unmake) (filter-same (is_among made) (is_among (ids_there_of plan n now)) ids (in-each (λ (x : ℕ). is_among made x ≡ is_among (ids_there_of plan n now) x) ids (λ x here. same-id x)))
