-- The messages that make groups of pipelines, with the widgets that were made.
use Rattle.std.proofs.Common.{◌≡◌, sym, ap, subst, ◌∙◌, ℕ, List, ◌++◌, map, filter, inl, inr, ◌⊎◌, None, Err, append-nil}
use Rattle.std.specs.List.{filter_map, flat_map, AllByRecursion}
use Rattle.std.proofs.lemmas.List.Elements.{filter_map-append}
use Rattle.stream_law.specs.declared.graph.Join.{Join as Joined}
use Rattle.stream_law.proofs.Members.{IsIn, in-each}
use Rattle.mbox_link.specs.Calls.{World, Meaning}
use Rattle.tplg_plan.specs.declared.plans.Plan.{Plan}
use Rattle.tplg_plan.specs.Sound.{IsSound}
use Rattle.tplg_plan.specs.declared.plans.ControlKind.{ControlKind}
use Rattle.tplg_plan.specs.declared.plans.ControlKind.TheVariants as controls
use Rattle.host_widgets.specs.declared.answers.HostFault.{HostFault}
use Rattle.host_widgets.specs.declared.kept.ControlRec.{ControlRec}
use Rattle.host_widgets.specs.declared.kept.Record.{Record}
use Rattle.host_widgets.specs.ActCarried.{ActsSent}
use Rattle.host_widgets.specs.Acts.{widget_ids}
use Rattle.host_widgets.specs.ActLists.{control_acts_by, control_acts, bring_up}
use Rattle.host_widgets.specs.Groups.{is_control_of, finish_ids, making_lists}
use Rattle.host_widgets.specs.Host.{Outcome}
use Rattle.host_widgets.specs.Indices.{pipe_indices}
use Rattle.host_widgets.specs.HostActs.{Act, Make, Part, Finish}
use Rattle.host_widgets.specs.Kept.{controls_of}
use Rattle.host_widgets.specs.MadeLists.{MadeListed, widget_made}
use Rattle.host_widgets.proofs.Needs.{in-either, flat-in}
use Rattle.host_widgets.proofs.StageStays.{from-map}
use Rattle.host_widgets.proofs.MadeSent.{join_act, listed-then, listed-ended, sent-listed, listed-sent, none-made}
use Rattle.host_widgets.proofs.Wholes.{bring-up-lists}
use Rattle.host_widgets.proofs.Walks.{passing, sent-then, sent-ended}

module _ (plan : Plan) (kept : Record) (ids : List ℕ) (joined : List Joined) (n : List ℕ) where
  abbrev pub joins : List Act
  joins = map join_act joined

  abbrev pub puts : List Act
  puts = flat_map control_acts (filter (is_control_of plan n) (controls_of plan kept))

  abbrev pub finishes : List Act
  finishes = map Finish (finish_ids plan.graph n)

  abbrev pub rest : List Act
  rest = joins ++ (puts ++ finishes)

  control-none : (comp : ℕ) (q : ControlKind) (c : ControlRec) (a : Act) → IsIn a (control_acts_by comp q c) → widget_made a ≡ None
  control-none comp (controls.Volume min max channels lowest step mute) c a (inl is) = ap (λ (x : Act). widget_made x) is
  control-none comp (controls.Volume min max channels lowest step mute) c a (inr none) = absurd none
  control-none comp (controls.Choice items) c a (inl is) = ap (λ (x : Act). widget_made x) is
  control-none comp (controls.Choice items) c a (inr none) = absurd none
  control-none comp (controls.Masks min max channels) c a (inl is) = ap (λ (x : Act). widget_made x) is
  control-none comp (controls.Masks min max channels) c a (inr none) = absurd none
  control-none comp (controls.Blob most initial) c a there = let r = from-map (Part comp c.blob) _ a there in ap (λ (x : Act). widget_made x) r.2

  rest-none : AllByRecursion (λ (a : Act). widget_made a ≡ None) rest
  rest-none = in-each (λ (a : Act). widget_made a ≡ None) rest (λ a there. first a (in-either joins (puts ++ finishes) a there))
    where
      last : (a : Act) → IsIn a puts ⊎ IsIn a finishes → widget_made a ≡ None
      last a (inl in_puts) = let r = flat-in control_acts (filter (is_control_of plan n) (controls_of plan kept)) a in_puts in control-none r.0.0.comp r.0.0.kind r.0.1 a r.2
      last a (inr in_finishes) = let r = from-map Finish (finish_ids plan.graph n) a in_finishes in ap (λ (x : Act). widget_made x) r.2

      first : (a : Act) → IsIn a joins ⊎ IsIn a (puts ++ finishes) → widget_made a ≡ None
      first a (inl in_joins) = let r = from-map join_act joined a in_joins in ap (λ (x : Act). widget_made x) r.2
      first a (inr more) = last a (in-either puts finishes a more)

  module _ {D : Type 0} (means : Meaning D) (made made' : List ℕ) (w : World D) where
    -- all widgets were made
    module _ (m : World D) (widgets : MadeListed means plan (map Make ids) made made' w m passing) where
      behind : (v : World D) (result : Outcome) → ActsSent means plan rest m v result → MadeListed means plan (making_lists plan kept ids joined n) made made' w v result
      behind v result sent =
          let l = sent-listed means plan rest m v result sent in record {
            passed = widgets.passed ++ l.0;
            sent = (listed-then means plan (map Make ids) rest widgets.passed l.0 w m v result widgets.sent l.1);
            made_are = widgets.made_are ∙ ap (λ (xs : List ℕ). made ++ xs)
                (sym (filter_map-append widget_made widgets.passed l.0 ∙ ap (λ (xs : List ℕ). filter_map widget_made widgets.passed ++ xs) (none-made means plan rest l.0 m v result rest-none l.1) ∙ append-nil (filter_map widget_made widgets.passed)));
          }

      pub joins-failed : (v : World D) (fault : HostFault) → ActsSent means plan joins m v (Err fault) → MadeListed means plan (making_lists plan kept ids joined n) made made' w v (Err fault)
      joins-failed v fault sent = behind v (Err fault) (sent-ended means plan joins (puts ++ finishes) m v fault sent)

      pub puts-failed : (j v : World D) (fault : HostFault) → ActsSent means plan joins m j passing → ActsSent means plan puts j v (Err fault) → MadeListed means plan (making_lists plan kept ids joined n) made made' w v (Err fault)
      puts-failed j v fault first sent = behind v (Err fault) (sent-then means plan joins (puts ++ finishes) m j v (Err fault) first (sent-ended means plan puts finishes j v fault sent))

      pub finished : (j p v : World D) (result : Outcome) → ActsSent means plan joins m j passing → ActsSent means plan puts j p passing → ActsSent means plan finishes p v result → MadeListed means plan (making_lists plan kept ids joined n) made made' w v result
      finished j p v result first second sent = behind v result (sent-then means plan joins (puts ++ finishes) m j v result first (sent-then means plan puts finishes j p v result second sent))

    -- a widget was not made
    pub widgets-failed : (v : World D) (fault : HostFault) → MadeListed means plan (map Make ids) made made' w v (Err fault) → MadeListed means plan (making_lists plan kept ids joined n) made made' w v (Err fault)
    widgets-failed v fault l = record {
      passed = l.passed;
      sent = (listed-ended means plan (map Make ids) rest l.passed w v fault l.sent);
      made_are = l.made_are;
    }

-- ---- all pipelines as one group

-- to make all of a plan is to bring a device up
pub brought-sent : {D : Type 0} (means : Meaning D) (plan : Plan) → IsSound plan → (kept : Record) (ids : List ℕ) (joined : List Joined) (n made made' : List ℕ) (w v : World D) (result : Outcome) →
    ids ≡ widget_ids plan → joined ≡ plan.graph.joins → n ≡ pipe_indices plan.graph → MadeListed means plan (making_lists plan kept ids joined n) made made' w v result → ActsSent means plan (bring_up plan kept) w v result
brought-sent means plan sound kept ids joined n made made' w v result all_ids all_joins all l =
    subst (λ (acts : List Act). ActsSent means plan acts w v result) ((λ i. making_lists plan kept (all_ids i) (all_joins i) (all i)) ∙ sym (bring-up-lists plan sound kept))
    (listed-sent means plan (making_lists plan kept ids joined n) l.passed w v result l.sent)
