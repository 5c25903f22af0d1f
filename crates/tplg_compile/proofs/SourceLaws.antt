-- Reading from the first entry to the last gives what a table states, and else the first entry at fault.
use Rattle.std.proofs.Common.{◌≡◌, ◌⊎◌, inl, inr, ℕ, suc, ◌+◌, List, [], ◌∷◌, ◌++◌, length, Option, Some, None, IsSome, Result, Ok, Err, refl, sym, ap, ◌∙◌, subst, arith}
use Rattle.toml.specs.Data.{Data, Members}
use Rattle.tplg_model.specs.declared.block.Topology.{Topology}
use Rattle.tplg_build.specs.declared.source.TopologySource.{TopologySource}
use Rattle.tplg_build.specs.TopologyForm.{topology_stated}
use Rattle.tplg_compile.specs.declared.source_fault.List.{List as SourceList}
use Rattle.tplg_compile.specs.declared.source_fault.List.TheVariants.{Top, Widget, Route, Pcm}
use Rattle.tplg_compile.specs.declared.source_fault.SourceFault.{SourceFault}
use Rattle.tplg_compile.specs.declared.source_fault.SourceFault.TheVariants.{Shape}
use Rattle.tplg_compile.specs.Outcomes as found
use Rattle.tplg_compile.specs.Results.{◌>>=◌, or_fault}
use Rattle.tplg_compile.specs.ValueForm.{in_table, each}
use Rattle.tplg_compile.specs.DocumentLists.{lists_of}
use Rattle.tplg_compile.specs.Entries.{stated_widget, stated_route, stated_pcm}
use Rattle.tplg_compile.specs.Source.{IsSourceOf, IsFirstMisfit, IsShapeFault}
use Rattle.tplg_compile.specs.InOrder.{entries_read, source_of}

-- ---- steps, taken apart

bind_some : {A B : Type 0} (o : Option A) (f : A → Option B) (y : B) → found.◌>>=◌ o f ≡ Some y → (x : A) × ((o ≡ Some x) × (f x ≡ Some y))
bind_some None f y e = absurd (cc e)
bind_some (Some x) f y e = (x, (refl, e))

pub bind_ok : {A B : Type 0} (r : Result A SourceFault) (f : A → Result B SourceFault) (y : B) → (r >>= f) ≡ Ok y → (x : A) × ((r ≡ Ok x) × (f x ≡ Ok y))
bind_ok (Err fault) f y e = absurd (cc e)
bind_ok (Ok x) f y e = (x, (refl, e))

pub bind_err : {A B : Type 0} (r : Result A SourceFault) (f : A → Result B SourceFault) (e : SourceFault) → (r >>= f) ≡ Err e → (r ≡ Err e) ⊎ ((x : A) × ((r ≡ Ok x) × (f x ≡ Err e)))
bind_err (Err fault) f e is = inl (cc is)
bind_err (Ok x) f e is = inr (x, (refl, is))

pub or_some : {A : Type 0} (fault : SourceFault) (o : Option A) (x : A) → or_fault fault o ≡ Ok x → o ≡ Some x
or_some fault None x e = absurd (cc e)
or_some fault (Some y) x e = cc e

pub or_none : {A : Type 0} (fault : SourceFault) (o : Option A) (e : SourceFault) → or_fault fault o ≡ Err e → (o ≡ None) × (fault ≡ e)
or_none fault None e is = (refl, cc is)
or_none fault (Some x) e is = absurd (cc is)

is_there : {A : Type 0} (o : Option A) (x : A) → o ≡ Some x → IsSome o
is_there o x e = rw e refl

what_there : {A : Type 0} (o : Option A) → IsSome o → (x : A) × (o ≡ Some x)
what_there None is = absurd (cc is)
what_there (Some x) is = (x, refl)

-- ---- a list of entries

module _ {A : Type 0} (list : SourceList) (read : Data → Option A) where
  told_all : (place : ℕ) (ds : List Data) (xs : List A) → entries_read list read place ds ≡ Ok xs → each read ds ≡ Some xs
  unfolding entries_read each
  told_all place [] xs e = let same : [] ≡ xs = cc e in ap Some same
  told_all place (d ∷ ds) xs e =
      let p = bind_ok (or_fault (Shape list place) (read d)) _ xs e in
      let q = bind_ok (entries_read list read (place + 1) ds) _ xs p.1.1 in
      let same : p.0 ∷ q.0 ≡ xs = cc q.1.1 in
      rw (or_some (Shape list place) (read d) p.0 p.1.0, told_all (place + 1) ds q.0 q.1.0) (ap Some same)

  all_told : (place : ℕ) (ds : List Data) (xs : List A) → each read ds ≡ Some xs → entries_read list read place ds ≡ Ok xs
  unfolding entries_read each
  all_told place [] xs e = let same : [] ≡ xs = cc e in ap Ok same
  all_told place (d ∷ ds) xs e =
      let p = bind_some (read d) _ xs e in
      let q = bind_some (each read ds) _ xs p.1.1 in
      let same : p.0 ∷ q.0 ≡ xs = cc q.1.1 in
      rw (p.1.0, all_told (place + 1) ds q.0 q.1.0) (ap Ok same)

  -- what was told of the rest, after one more entry
  one_more : (d : Data) (ds : List Data) (n : ℕ) (x : A) → read d ≡ Some x → IsFirstMisfit read ds n → IsFirstMisfit read (d ∷ ds) (n + 1)
  unfolding each
  one_more d ds n x is first =
      let rest = what_there (each read first.before) first.fit in
      record {
        before = d ∷ first.before;
        entry = first.entry;
        behind = first.behind;
        whole = ap (λ es. d ∷ es) first.whole;
        count = omega (arith, first.count);
        fit = rw (is, rest.1) refl;
        misfit = first.misfit;
      }

  told_first : (place : ℕ) (ds : List Data) (e : SourceFault) → entries_read list read place ds ≡ Err e → (n : ℕ) × ((e ≡ Shape list (place + n)) × IsFirstMisfit read ds n)
  unfolding entries_read each
  told_first place [] e is = absurd (cc is)
  told_first place (d ∷ ds) e is =
      elim (bind_err (or_fault (Shape list place) (read d)) _ e is) [
        | inl here ↦
            let none = or_none (Shape list place) (read d) e here in
            (0, (sym none.1 ∙ ap (Shape list) (let same : place ≡ place + 0 = omega arith in same), record { before = []; entry = d; behind = ds; whole = refl; count = refl; fit = refl; misfit = none.0 }))
        | inr later ↦
            let value = or_some (Shape list place) (read d) later.0 later.1.0 in
            elim (bind_err (entries_read list read (place + 1) ds) _ e later.1.1) [
              | inl there ↦
                  let r = told_first (place + 1) ds e there in
                  (r.0 + 1, (r.1.0 ∙ ap (Shape list) (let same : place + 1 + r.0 ≡ place + (r.0 + 1) = omega arith in same), one_more d ds r.0 later.0 value r.1.1))
              | inr none ↦ absurd (cc none.1.1)
            ]
      ]

  first_told : (before : List Data) (place : ℕ) (entry : Data) (behind : List Data) → IsSome (each read before) → read entry ≡ None → entries_read list read place (before ++ entry ∷ behind) ≡ Err (Shape list (place + length before))
  unfolding entries_read each
  first_told [] place entry behind fit misfit = rw misfit (ap (λ n. Err (Shape list n)) (let same : place ≡ place + 0 = omega arith in same))
  first_told (d ∷ before) place entry behind fit misfit =
      let all = what_there (each read (d ∷ before)) fit in
      let p = bind_some (read d) _ all.0 all.1 in
      let q = bind_some (each read before) _ all.0 p.1.1 in
      let rest = first_told before (place + 1) entry behind (is_there (each read before) q.0 q.1.0) misfit in
      rw (p.1.0, rest) (ap (λ n. Err (Shape list n)) (let same : place + 1 + length before ≡ place + suc (length before) = omega arith in same))

  misfit_told : (ds : List Data) (n : ℕ) → IsFirstMisfit read ds n → entries_read list read 0 ds ≡ Err (Shape list n)
  misfit_told ds n first =
      rw first.whole (first_told first.before 0 first.entry first.behind first.fit first.misfit ∙ ap (λ k. Err (Shape list k)) (let same : 0 + length first.before ≡ n = omega (arith, first.count) in same))

-- ---- a document

pub source_is : (table : Members) (source : TopologySource) → source_of table ≡ Ok source → IsSourceOf table (topology_stated source)
unfolding source_of
source_is table source e =
    let lists = bind_ok (or_fault (Shape Top 0) (lists_of table)) _ source e in
    let widgets = bind_ok (entries_read Widget (in_table stated_widget) 0 lists.0.widgets) _ source lists.1.1 in
    let routes = bind_ok (entries_read Route (in_table stated_route) 0 lists.0.routes) _ source widgets.1.1 in
    let pcms = bind_ok (entries_read Pcm (in_table stated_pcm) 0 lists.0.pcms) _ source routes.1.1 in
    let made : TopologySource = record { widgets = widgets.0; routes = routes.0; pcms = pcms.0 } in
    let same : made ≡ source = cc pcms.1.1 in
    record {
      lists = lists.0;
      source = made;
      has_lists = or_some (Shape Top 0) (lists_of table) lists.0 lists.1.0;
      widgets = told_all Widget (in_table stated_widget) 0 lists.0.widgets widgets.0 widgets.1.0;
      routes = told_all Route (in_table stated_route) 0 lists.0.routes routes.0 routes.1.0;
      pcms = told_all Pcm (in_table stated_pcm) 0 lists.0.pcms pcms.0 pcms.1.0;
      built = ap topology_stated (sym same);
    }

pub source_again : (table : Members) (t : Topology) (is : IsSourceOf table t) → source_of table ≡ Ok is.source
unfolding source_of
source_again table t is =
    let lists = is.lists in
    rw (is.has_lists, all_told Widget (in_table stated_widget) 0 lists.widgets is.source.widgets is.widgets, all_told Route (in_table stated_route) 0 lists.routes is.source.routes is.routes, all_told Pcm (in_table stated_pcm) 0 lists.pcms is.source.pcms is.pcms) refl

zero_on : (list : SourceList) (n : ℕ) → Shape list (0 + n) ≡ Shape list n
zero_on list n = ap (Shape list) (let same : 0 + n ≡ n = omega arith in same)

-- a fault is of a list's first misfit
abbrev pub IsFault : Members → SourceFault → Type 0
IsFault table (Shape list entry) = IsShapeFault table list entry
IsFault table f = ⊥

pub fault_is : (table : Members) (e : SourceFault) → source_of table ≡ Err e → IsFault table e
unfolding source_of
fault_is table e is =
    elim (bind_err (or_fault (Shape Top 0) (lists_of table)) _ e is) [
      | inl top ↦
          let none = or_none (Shape Top 0) (lists_of table) e top in
          subst (IsFault table) none.1 (none.0, refl)
      | inr lists ↦
          let has = or_some (Shape Top 0) (lists_of table) lists.0 lists.1.0 in
          elim (bind_err (entries_read Widget (in_table stated_widget) 0 lists.0.widgets) _ e lists.1.1) [
            | inl widget ↦
                let r = told_first Widget (in_table stated_widget) 0 lists.0.widgets e widget in
                subst (IsFault table) (sym (r.1.0 ∙ zero_on Widget r.0)) (lists.0, (has, r.1.1))
            | inr widgets ↦
                let fit = is_there (each (in_table stated_widget) lists.0.widgets) widgets.0 (told_all Widget (in_table stated_widget) 0 lists.0.widgets widgets.0 widgets.1.0) in
                elim (bind_err (entries_read Route (in_table stated_route) 0 lists.0.routes) _ e widgets.1.1) [
                  | inl route ↦
                      let r = told_first Route (in_table stated_route) 0 lists.0.routes e route in
                      subst (IsFault table) (sym (r.1.0 ∙ zero_on Route r.0)) (lists.0, (has, (fit, r.1.1)))
                  | inr routes ↦
                      let fit_too = is_there (each (in_table stated_route) lists.0.routes) routes.0 (told_all Route (in_table stated_route) 0 lists.0.routes routes.0 routes.1.0) in
                      elim (bind_err (entries_read Pcm (in_table stated_pcm) 0 lists.0.pcms) _ e routes.1.1) [
                        | inl pcm ↦
                            let r = told_first Pcm (in_table stated_pcm) 0 lists.0.pcms e pcm in
                            subst (IsFault table) (sym (r.1.0 ∙ zero_on Pcm r.0)) (lists.0, (has, (fit, (fit_too, r.1.1))))
                        | inr none ↦ absurd (cc none.1.1)
                      ]
                ]
          ]
    ]

pub fault_again : (table : Members) (list : SourceList) (entry : ℕ) → IsShapeFault table list entry → source_of table ≡ Err (Shape list entry)
unfolding source_of
fault_again table Top entry is = rw (is.0, is.1) refl
fault_again table Widget entry is = rw (is.1.0, misfit_told Widget (in_table stated_widget) is.0.widgets entry is.1.1) refl
fault_again table Route entry is =
    let widgets = what_there (each (in_table stated_widget) is.0.widgets) is.1.1.0 in
    rw (is.1.0, all_told Widget (in_table stated_widget) 0 is.0.widgets widgets.0 widgets.1, misfit_told Route (in_table stated_route) is.0.routes entry is.1.1.1) refl
fault_again table Pcm entry is =
    let widgets = what_there (each (in_table stated_widget) is.0.widgets) is.1.1.0 in
    let routes = what_there (each (in_table stated_route) is.0.routes) is.1.1.1.0 in
    rw (is.1.0, all_told Widget (in_table stated_widget) 0 is.0.widgets widgets.0 widgets.1, all_told Route (in_table stated_route) 0 is.0.routes routes.0 routes.1, misfit_told Pcm (in_table stated_pcm) is.0.pcms entry is.1.1.1.1) refl
