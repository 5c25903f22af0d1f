-- The laws of routes and manifests.
use Rattle.std.proofs.Common.{◌≡◌, ℕ, ◌≤◌, Bool, true, false, ◌&&◌, cond, ltb, List, [], ◌∷◌, ◌++◌, length, Some, None, Ok, Err, refl, sym, ap, subst, ◌∙◌, arith, length-append}
use Rattle.std.proofs.lemmas.Bool.{ltb-false, le-ltb}
use Rattle.tplg_model.specs.declared.fault.TplgFault.{TplgFault}
use Rattle.tplg_model.specs.declared.fault.TplgFault.TheVariants.{Payload, Name}
use Rattle.tplg_model.specs.declared.block.Route.{Route}
use Rattle.tplg_model.specs.declared.block.Manifest.{Manifest}
use Rattle.sof_base.specs.Cells.{Fits}
use Rattle.sof_base.specs.Slots.{Slot, has_name}
use Rattle.sof_base.specs.Layouts.{name_at}
use Rattle.sof_base.specs.Layouts.{Shape, A_word, A_size, A_name, A_words, all_named}
use Rattle.sof_base.proofs.FieldLaws.{IsBytes, length-part, length-words, slots_read, slots_again, length-slots}
use Rattle.sof_base.proofs.Fitting.{Fits-length}
use Rattle.tplg_model.specs.Outcomes.{◌>>=◌}
use Rattle.tplg_model.specs.Spelling.{route_slots, route_cells, IsRoute, manifest_slots, manifest_cells, IsManifest}
use Rattle.tplg_model.specs.Reading.{label_at, route_with, route_step, manifest_with, manifest_step}
use Rattle.tplg_model.specs.RecordFaults.{RouteFault, ManifestFault}
use Rattle.tplg_model.proofs.FaultLaws.{passed, passed_last}
use Rattle.tplg_model.proofs.ItemLaws.{Took, IsItem, IsFault}
use Rattle.tplg_model.proofs.KindLaws.{number, text, pick, SizedKind, sized_step, sized_takes, sized_again, sized_found, sized_only}

-- ---- manifests

abbrev manifest_shapes : List Shape
manifest_shapes = A_size 112 ∷ A_words 26 ∷ A_word ∷ []

manifest_from : List Slot → Manifest
manifest_from ss = record { words = text (pick 1 ss); private = text (pick 3 ss) }

manifest_kind : SizedKind 112 manifest_shapes manifest_with manifest_slots (λ m. length m.private) (λ _. Unit {0}) (λ m. length m.words ≡ 26)
unfolding manifest_from pick number text
manifest_kind = record {
  wide = refl;
  is = λ bytes n h k e long. rw (length-part bytes 112 n long, e) refl;
  rest = λ bytes n h k long. length-words 26 bytes 4;
  shape = λ m is. rw is refl;
  back = λ bytes m is e. (ap (λ (ss : List Slot). number (pick 2 ss)) e, ap manifest_from e);
}

manifest_same : (at : ℕ) (bytes : List ℕ) → manifest_step at bytes ≡ sized_step 112 manifest_shapes manifest_with at bytes
unfolding manifest_step
manifest_same at bytes = refl

pub manifest_item : IsItem manifest_step manifest_cells IsManifest
manifest_item = record {
  takes = λ at bytes x n h e. sized_takes 112 manifest_shapes manifest_with manifest_slots (λ m. length m.private) (λ _. Unit {0}) (λ m. length m.words ≡ 26) manifest_kind at bytes x n h tt (sym (manifest_same at bytes) ∙ e);
  again = λ at x front rest is f. manifest_same at (front ++ rest) ∙ sized_again 112 manifest_shapes manifest_with manifest_slots (λ m. length m.private) (λ _. Unit {0}) (λ m. length m.words ≡ 26) manifest_kind at x front rest is f;
}

pub manifest_is_fault : IsFault manifest_step ManifestFault
manifest_is_fault = record {
  found = λ at bytes f h e. sized_found 112 manifest_shapes [] manifest_with (λ b. refl) at bytes f (sym (manifest_same at bytes) ∙ e);
  only = λ at bytes f e. manifest_same at bytes ∙ sized_only 112 manifest_shapes [] manifest_with (λ b. refl) at bytes f e;
}

-- ---- routes

abbrev route_shapes : List Shape
route_shapes = A_name ∷ A_name ∷ A_name ∷ []

route_of : List ℕ → Route
route_of bytes = record { sink = name_at bytes 0; control = name_at bytes 44; source = name_at bytes 88 }

-- three names, as one test
three_names : {A B : Type 0} (t a b c : Bool) (p q : TplgFault) (x y z : B) (g : B → B → B → A)
    → cond t (Err p) (cond a (Ok x) (Err q) >>= λ i. cond b (Ok y) (Err q) >>= λ j. cond c (Ok z) (Err q) >>= λ k. Ok (g i j k)) ≡ cond t (Err p) (cond (a && (b && (c && true))) (Ok (g x y z)) (Err q))
three_names true a b c p q x y z g = refl
three_names false false b c p q x y z g = refl
three_names false true false c p q x y z g = refl
three_names false true true false p q x y z g = refl
three_names false true true true p q x y z g = refl

route_same : (at : ℕ) (bytes : List ℕ) → route_step at bytes ≡ cond (ltb (length bytes) 132) (Err (Payload at)) (cond (all_named route_shapes bytes 0 0) (Ok (route_of bytes, 132)) (Err (Name at)))
unfolding route_step label_at route_of
route_same at bytes = three_names (ltb (length bytes) 132) (has_name bytes 0) (has_name bytes 44) (has_name bytes 88) (Payload at) (Name at) (name_at bytes 0) (name_at bytes 44) (name_at bytes 88) (λ i j k. (route_with i j k, 132))

route_from : List Slot → Route
route_from ss = record { sink = text (pick 0 ss); control = text (pick 1 ss); source = text (pick 2 ss) }

route_takes : (at : ℕ) (bytes : List ℕ) (x : Route) (n : ℕ) → IsBytes bytes → route_step at bytes ≡ Ok (x, n) → Took bytes (route_cells x) n × IsRoute x
unfolding route_of
route_takes at bytes x n h e =
    let a = passed (ltb (length bytes) 132) (Payload at) (cond (all_named route_shapes bytes 0 0) (Ok (route_of bytes, 132)) (Err (Name at))) (x, n) (sym (route_same at bytes) ∙ e) in
    let b = passed_last (all_named route_shapes bytes 0 0) (Name at) (route_of bytes, 132) (x, n) a.1 in
    let long : 132 ≤ length bytes = ltb-false _ _ a.0 in
    let r = slots_read route_shapes bytes 0 0 h long b.0 in
    subst (λ (p : Route × ℕ). Took bytes (route_cells p.0) p.1 × IsRoute p.0) b.1 (record { within = long; fits = r.0 }, r.1)

route_again : (at : ℕ) (x : Route) (front rest : List ℕ) → IsRoute x → Fits front (route_cells x) → route_step at (front ++ rest) ≡ Ok (x, length front)
unfolding route_of route_from pick text
route_again at x front rest is f =
    let bytes = front ++ rest in
    let r = slots_again (route_slots x) bytes front rest 0 0 is refl f in
    let len : length front ≡ 132 = Fits-length front (route_cells x) f ∙ length-slots (route_slots x) is in
    let same : route_of bytes ≡ x = ap route_from r.slots in
    let long : ltb (length bytes) 132 ≡ false = le-ltb _ _ (omega (arith, length-append front rest, len)) in
    route_same at bytes ∙ (rw (long, r.ok, same, len) refl)

pub route_item : IsItem route_step route_cells IsRoute
route_item = record { takes = route_takes; again = route_again }

pub route_is_fault : IsFault route_step RouteFault
route_is_fault = record {
  found = λ at bytes f h e. found (ltb (length bytes) 132) (all_named route_shapes bytes 0 0) (Payload at) (Name at) (route_of bytes, 132) f (sym (route_same at bytes) ∙ e);
  only = λ at bytes f e. route_same at bytes ∙ only (ltb (length bytes) 132) (all_named route_shapes bytes 0 0) (Payload at) (Name at) (route_of bytes, 132) f e;
}
  where
    found : (a b : Bool) (p q : TplgFault) (x : Route × ℕ) (f : TplgFault) → cond a (Err p) (cond b (Ok x) (Err q)) ≡ Err f → cond a (Some p) (cond b None (Some q)) ≡ Some f
    found true b p q x f e = cc
    found false true p q x f e = absurd cc
    found false false p q x f e = cc

    only : (a b : Bool) (p q : TplgFault) (x : Route × ℕ) (f : TplgFault) → cond a (Some p) (cond b None (Some q)) ≡ Some f → cond a (Err p) (cond b (Ok x) (Err q)) ≡ Err f
    only true b p q x f e = cc
    only false true p q x f e = absurd cc
    only false false p q x f e = cc
