-- What is found in tables, and what is left of them once something is gone.
use Rattle.std.proofs.Common.{◌≡◌, refl, sym, ap, ◌∙◌, ℕ, List, [], ◌∷◌, ◌++◌, length, filter, Bool, true, false, not, ◌==◌, ◌||◌, arith, Option, Some}
use Rattle.std.proofs.lemmas.List.Folds.{list_any-append}
use Rattle.std.specs.Prelude.{find}
use Rattle.std.specs.List.{list_any, AllByRecursion}
use Rattle.sof_base.specs.declared.hole.Hole.{Hole}
use Rattle.stream_law.specs.declared.graph.Join.{Join}
use Rattle.fw_units.specs.declared.component.Component.{Component}
use Rattle.fw_units.specs.Units.{unit_frames, capacity_by}
use Rattle.fw_components.specs.Tables.{Tables, held_frames, capacity_at}
use Rattle.std.specs.Option.{option_map_or}
use Rattle.mbox_link.specs.Step.{touches}
use Rattle.fw_units.specs.Changes.{has_id, given_by, given_all}
use Rattle.fw_components.specs.Changes.{is_there, found, tables_without, without_by}
use Rattle.fw_units.proofs.Found.{find-first, find-past}

-- ---- what is found in the tables

module _ (t : Tables) (id : ℕ) where
  pub comp-found : (c : Component) → has_id t.comps id ≡ true → Some c ≡ find (λ c. c.id == id) t.comps → Some c ≡ found t id
  comp-found c there e = e ∙ sym (find-first id t.comps (t.buffers ++ t.pipes) there)

  pub buffer-found : (c : Component) → has_id t.comps id ≡ false → has_id t.buffers id ≡ true → Some c ≡ find (λ c. c.id == id) t.buffers → Some c ≡ found t id
  buffer-found c gone there e = e ∙ sym (find-past id t.comps (t.buffers ++ t.pipes) gone ∙ find-first id t.buffers t.pipes there)

  pub pipe-found : (c : Component) → has_id t.comps id ≡ false → has_id t.buffers id ≡ false → Some c ≡ find (λ c. c.id == id) t.pipes → Some c ≡ found t id
  pipe-found c gone far e = e ∙ sym (find-past id t.comps (t.buffers ++ t.pipes) gone ∙ find-past id t.buffers t.pipes far)

  pub none-there : has_id t.comps id ≡ false → has_id t.buffers id ≡ false → has_id t.pipes id ≡ false → is_there t id ≡ false
  none-there gone far never =
      list_any-append (λ (c : Component). c.id == id) t.comps (t.buffers ++ t.pipes)
      ∙ ap (λ h. h || list_any (λ (c : Component). c.id == id) (t.buffers ++ t.pipes)) gone
      ∙ list_any-append (λ (c : Component). c.id == id) t.buffers t.pipes
      ∙ ap (λ h. h || has_id t.pipes id) far ∙ never

  pub without-comp : (new : List Component) → has_id t.comps id ≡ true → new ≡ filter (λ c. not (c.id == id)) t.comps → record { comps = new; buffers = t.buffers; pipes = t.pipes; joins = t.joins } ≡ tables_without id t
  without-comp new there is =
      ap (λ (cs : List Component). record { comps = cs; buffers = t.buffers; pipes = t.pipes; joins = t.joins }) is
      ∙ ap (λ h. without_by h (has_id t.buffers id) id t) (sym there)

  pub without-buffer : (new : List Component) (joins : List Join) → has_id t.comps id ≡ false → has_id t.buffers id ≡ true → new ≡ filter (λ c. not (c.id == id)) t.buffers → joins ≡ filter (λ j. not (touches id j)) t.joins → record { comps = t.comps; buffers = new; pipes = t.pipes; joins = joins } ≡ tables_without id t
  without-buffer new joins gone there is left =
      ap (λ (p : List Component × List Join). record { comps = t.comps; buffers = p.0; pipes = t.pipes; joins = p.1 }) (λ i. (is i, left i))
      ∙ ap (λ (p : Bool × Bool). without_by p.0 p.1 id t) (λ i. (sym gone i, sym there i))

  pub without-pipe : (new : List Component) → has_id t.comps id ≡ false → has_id t.buffers id ≡ false → new ≡ filter (λ c. not (c.id == id)) t.pipes → record { comps = t.comps; buffers = t.buffers; pipes = new; joins = t.joins } ≡ tables_without id t
  without-pipe new gone far is =
      ap (λ (cs : List Component). record { comps = t.comps; buffers = t.buffers; pipes = cs; joins = t.joins }) is
      ∙ ap (λ (p : Bool × Bool). without_by p.0 p.1 id t) (λ i. (sym gone i, sym far i))

-- ---- all pieces

pub given-append : (xs ys : List Component) (holes : List Hole) → given_all (xs ++ ys) holes ≡ given_all ys (given_all xs holes)
given-append [] ys holes = refl
given-append (x ∷ xs) ys holes = given-append xs ys (given_by x holes)

pub all-first : (P : Component → Type 0) (xs ys : List Component) → AllByRecursion P (xs ++ ys) → AllByRecursion P xs
all-first P [] ys all = tt
all-first P (x ∷ xs) ys all = (all.0, all-first P xs ys all.1)

pub all-rest : (P : Component → Type 0) (xs ys : List Component) → AllByRecursion P (xs ++ ys) → AllByRecursion P ys
all-rest P [] ys all = all
all-rest P (x ∷ xs) ys all = all-rest P xs ys all.1

-- ---- what is at a place

pub buffer-at : (t : Tables) (id at : ℕ) (c : Component) → Some c ≡ find (λ x. x.id == id) t.buffers → (unit_frames c.unit ≡ held_frames t id) × (capacity_by c.unit ≡ capacity_at t id)
buffer-at t id at c e = (ap (λ (o : Option Component). option_map_or (λ x. unit_frames x.unit) o []) e, ap (λ (o : Option Component). option_map_or (λ x. capacity_by x.unit) o 0) e)

pub empty-first : (xs ys : List Component) → length (xs ++ ys) ≡ 0 → (length xs ≡ 0) × (length ys ≡ 0)
empty-first [] ys e = (refl, e)
empty-first (x ∷ xs) ys e = absurd (omega (arith, e))
