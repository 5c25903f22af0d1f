-- Bindings, one after another.
use Rattle.std.proofs.Common.{◌≡◌, ℕ, ◌+◌, ◌<◌, Bool, List, [], ◌∷◌, ◌++◌, length, take, drop, get_or, find, ◌||◌, Some, true, false, refl, sym, ap, ◌∙◌, if◌then◌else◌}
use Rattle.std.proofs.lemmas.List.{take_more, drop_more}
use Rattle.std.specs.List.{list_any}
use Rattle.std.specs.Option.{option_map_or}
use Rattle.stream_law.specs.declared.graph.Comp.{Comp}
use Rattle.std.specs.Str.{bytes_eq}
use Rattle.tplg_plan.specs.declared.plans.Plan.{Plan}
use Rattle.sof_script.specs.declared.script.Binding.{Binding}
use Rattle.sof_script.specs.Commands.{Bound}
use Rattle.sof_script.specs.ScriptRead.{bound_of, bounds_of}
use Rattle.run_desk.specs.Bindings.{is_sought, is_right, wrong_behind}
use Rattle.run_desk.specs.BindingParts.{is_endpoint_bound}

bounds-append : (a b : List Binding) → bounds_of (a ++ b) ≡ bounds_of a ++ bounds_of b
bounds-append [] b = refl
bounds-append (x ∷ a) b = ap (λ (xs : List Bound). bound_of x ∷ xs) (bounds-append a b)

-- whether one is bound, by the bindings as they are
pub bound_same : (bs : List Binding) (endpoint : List ℕ) → list_any (λ b. bytes_eq endpoint b.endpoint) bs ≡ is_endpoint_bound (bounds_of bs) endpoint
bound_same [] endpoint = refl
bound_same (b ∷ bs) endpoint = ap (λ (t : Bool). bytes_eq endpoint b.endpoint || t) (bound_same bs endpoint)

module _ (plan : Plan) (bs : List Binding) (k : ℕ) (b : Binding) (within : k < length bs) (is : b ≡ get_or bs k b) where
  pub front : bounds_of (take (k + 1) bs) ≡ bounds_of (take k bs) ++ bound_of b ∷ []
  front = ap bounds_of (take_more bs k b within ∙ ap (λ (x : Binding). take k bs ++ x ∷ []) (sym is)) ∙ bounds-append (take k bs) (b ∷ [])

  pub back : bounds_of (drop k bs) ≡ bound_of b ∷ bounds_of (drop (k + 1) bs)
  back = ap bounds_of (drop_more bs k b within) ∙ ap (λ (x : Binding). bound_of x ∷ bounds_of (drop (k + 1) bs)) (sym is)

  -- one more is right
  pub right_more : is_right plan (bounds_of (take k bs)) (bound_of b) ≡ true → wrong_behind plan (bounds_of (take (k + 1) bs)) (bounds_of (drop (k + 1) bs)) ≡ wrong_behind plan (bounds_of (take k bs)) (bounds_of (drop k bs))
  right_more right = ap (λ (xs : List Bound). wrong_behind plan xs (bounds_of (drop (k + 1) bs))) front ∙ sym (ap (wrong_behind plan (bounds_of (take k bs))) back ∙ ap (λ (t : Bool). if t then wrong_behind plan (bounds_of (take k bs) ++ bound_of b ∷ []) (bounds_of (drop (k + 1) bs)) else Some b.line) right)

  -- it is the first that is wrong
  pub wrong_here : is_right plan (bounds_of (take k bs)) (bound_of b) ≡ false → wrong_behind plan (bounds_of (take k bs)) (bounds_of (drop k bs)) ≡ Some b.line
  wrong_here wrong = ap (wrong_behind plan (bounds_of (take k bs))) back ∙ ap (λ (t : Bool). if t then wrong_behind plan (bounds_of (take k bs) ++ bound_of b ∷ []) (bounds_of (drop (k + 1) bs)) else Some b.line) wrong

-- ---- slots

-- the slot among some components
abbrev pub slot_in : Plan → Bool → List ℕ → List Comp → ℕ
slot_in plan input name comps = option_map_or (λ c. c.id) (find (is_sought plan input name) comps) 0

module _ (plan : Plan) (input : Bool) (name : List ℕ) (comps : List Comp) (k : ℕ) (c : Comp) (within : k < length comps) (is : c ≡ get_or comps k c) where
  at : drop k comps ≡ c ∷ drop (k + 1) comps
  at = drop_more comps k c within ∙ ap (λ (x : Comp). x ∷ drop (k + 1) comps) (sym is)

  -- this one is sought
  pub slot_here : is_sought plan input name c ≡ true → slot_in plan input name (drop k comps) ≡ c.id
  slot_here sought = ap (slot_in plan input name) at ∙ ap (λ (t : Bool). option_map_or (λ x. x.id) (if t then Some c else find (is_sought plan input name) (drop (k + 1) comps)) 0) sought

  -- it is not
  pub slot_later : is_sought plan input name c ≡ false → slot_in plan input name (drop (k + 1) comps) ≡ slot_in plan input name (drop k comps)
  slot_later other = sym (ap (slot_in plan input name) at ∙ ap (λ (t : Bool). option_map_or (λ x. x.id) (if t then Some c else find (is_sought plan input name) (drop (k + 1) comps)) 0) other)
