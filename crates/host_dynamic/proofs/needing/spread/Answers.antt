use Rattle.std.proofs.Common.{◌≡◌, sym, ap, subst, ◌∙◌, ℕ, List, ◌++◌, get_or, Bool, true, false}
use Rattle.std.proofs.lemmas.Bool.{or_cases}
use Rattle.std.proofs.Common.{inl, inr, ◌⊎◌}
use Rattle.stream_law.specs.declared.graph.Comp.{Comp}
use Rattle.stream_law.specs.declared.graph.Edge.{Edge}
use Rattle.stream_law.specs.declared.graph.Pipe.{Pipe}
use Rattle.stream_law.specs.declared.graph.Graph.{Graph}
use Rattle.stream_law.specs.Ways.{splits, reaches}
use Rattle.stream_law.specs.Order.{is_among}
use Rattle.stream_law.proofs.Members.{in-all, in-each}
use Rattle.host_widgets.specs.Need.{end_index, HasAt, is_joined_to}
use Rattle.host_dynamic.specs.Spreading.{AllAllowed, HasNoted, BringsScheduler, BringsEnds, IsSplitMarked}
use Rattle.host_dynamic.proofs.Noted.{has-more}
use Rattle.host_dynamic.proofs.Searchable.{comps-low, joins-low}
use Rattle.host_dynamic.proofs.Spreading.{again, kept-by, allowed-at, closed-allows}
use Rattle.host_dynamic.proofs.needing.spread.Goals as goal
use Rattle.host_widgets.specs.Indices.{index_at}

pub mark_splits-requires-clause-comps : goal.mark_splits-requires-clause-comps
mark_splits-requires-clause-comps c = comps-low c.args.plan.now c.requires.plan

pub mark_splits-requires-2-clause-comps : goal.mark_splits-requires-2-clause-comps
mark_splits-requires-2-clause-comps c = comps-low c.args.plan.now c.requires.plan

pub walk-requires-clause-joins : goal.walk-requires-clause-joins
walk-requires-clause-joins c = joins-low c.args.plan.now c.requires.plan

pub walk-requires-2-clause-joins : goal.walk-requires-2-clause-joins
walk-requires-2-clause-joins c = joins-low c.args.plan.now c.requires.plan

-- one list behind another, four times
four : (n0 n1 n2 n3 n4 : List ℕ) → (xs : List ℕ) × (n1 ≡ n0 ++ xs) → (xs : List ℕ) × (n2 ≡ n1 ++ xs) → (xs : List ℕ) × (n3 ≡ n2 ++ xs) → (xs : List ℕ) × (n4 ≡ n3 ++ xs) → (xs : List ℕ) × (n4 ≡ n0 ++ xs)
four n0 n1 n2 n3 n4 a b c d = let ab = two n0 n1 n2 a b in let abc = two n0 n2 n3 ab c in two n0 n3 n4 abc d
  where
    two : (x y z : List ℕ) → (xs : List ℕ) × (y ≡ x ++ xs) → (xs : List ℕ) × (z ≡ y ++ xs) → (xs : List ℕ) × (z ≡ x ++ xs)
    two x y z (us, p) (vs, q) = (us ++ vs, q ∙ ap (λ (ws : List ℕ). ws ++ vs) p ∙ again x us vs)

pub returns-clause-step : goal.returns-clause-step
returns-clause-step c =
    let plan = c.args.plan.now in let g : Graph = plan.graph in
    let n0 : List ℕ = c.args.needed.now.items in let n1 : List ℕ = c.note_marked.new.needed.items in let n2 : List ℕ = c.note_marked-2.new.needed.items in let n3 : List ℕ = c.note_ends.new.needed.items in let n4 : List ℕ = c.note_schedulers.new.needed.items in
    let o : List Bool = c.walk.new.marks in let b : List Bool = c.walk-2.new.marks in
    let k1 : HasNoted (is_among n1) n0 = kept-by n0 n1 c.note_marked.ensures.more.grown.0 c.note_marked.ensures.more.grown.1 in
    let k2 : HasNoted (is_among n2) n1 = kept-by n1 n2 c.note_marked-2.ensures.more.grown.0 c.note_marked-2.ensures.more.grown.1 in
    let k3 : HasNoted (is_among n3) n2 = kept-by n2 n3 c.note_ends.ensures.more.grown.0 c.note_ends.ensures.more.grown.1 in
    let k4 : HasNoted (is_among n4) n3 = kept-by n3 n4 c.note_schedulers.ensures.more.grown.0 c.note_schedulers.ensures.more.grown.1 in
    record {
      marked = λ x is. c.walk.ensures.kept x (c.mark_splits.ensures.kept x is);
      marked_back = λ x is. c.walk-2.ensures.kept x (c.mark_splits-2.ensures.kept x is);
      grown = four n0 n1 n2 n3 n4 c.note_marked.ensures.more.grown c.note_marked-2.ensures.more.grown c.note_ends.ensures.more.grown c.note_schedulers.ensures.more.grown;
      sound = λ p closed held on back.
          let o1 = c.walk.ensures.sound p (c.mark_splits.ensures.sound false p closed (subst (λ (xs : List ℕ). HasNoted p xs) (sym c.as_slice.ensures.value) held) on) in
          let b1 = c.walk-2.ensures.sound p (c.mark_splits-2.ensures.sound true p closed (subst (λ (xs : List ℕ). HasNoted p xs) (sym c.as_slice-2.ensures.value) held) back) in
          let h1 = c.note_marked.ensures.more.sound p closed (allowed-at g false p o o1) held in
          let h2 = c.note_marked-2.ensures.more.sound p closed (allowed-at g true p b b1) h1 in
          let h3 = c.note_ends.ensures.more.sound p closed tt h2 in
          (c.note_schedulers.ensures.more.sound p closed tt h3, o1, b1);
      closed = λ same.
          let down : HasNoted (is_among n0) n4 = λ i is. ap (λ (xs : List ℕ). is_among xs i) (sym same) ∙ is in
          let on : (x : ℕ) → get_or o x false ≡ true → HasAt (is_among n4) (index_at g x) = λ x is. has-more (is_among n1) (is_among n4) (index_at g x) (λ i h. k4 i (k3 i (k2 i h))) (c.note_marked.ensures.marked x is) in
          let back : (x : ℕ) → get_or b x false ≡ true → HasAt (is_among n4) (index_at g x) = λ x is. has-more (is_among n2) (is_among n4) (index_at g x) (λ i h. k4 i (k3 i h)) (c.note_marked-2.ensures.marked x is) in
          let allowed : AllAllowed g false (is_among n4) o = closed-allows g (joins-low plan c.requires.plan) false (is_among n4) o c.walk.ensures.closed on in
          let allowed_back : AllAllowed g true (is_among n4) b = closed-allows g (joins-low plan c.requires.plan) true (is_among n4) b c.walk-2.ensures.closed back in
          record {
            closed = record {
              schedulers = in-each (λ (p : Pipe). is_among n4 p.index ≡ true → HasAt (is_among n4) (index_at g p.sched)) g.pipes
                  (λ p there is. in-all (BringsScheduler g n3 n4) g.pipes p c.note_schedulers.ensures.brought there (k3 p.index (k2 p.index (k1 p.index (down p.index is)))));
              ends = in-each (λ (e : Edge). is_among n4 e.pipe ≡ true → HasAt (is_among n4) (end_index g e.source) × HasAt (is_among n4) (end_index g e.sink)) g.edges
                  (λ e there is. let both = in-all (BringsEnds g n2 n3) g.edges e c.note_ends.ensures.brought there (k2 e.pipe (k1 e.pipe (down e.pipe is))) in (has-more (is_among n3) (is_among n4) (end_index g e.source) k4 both.0, has-more (is_among n3) (is_among n4) (end_index g e.sink) k4 both.1));
              split = in-each (λ (s : Comp). splits s.kind ≡ true → is_among n4 s.pipe ≡ true → (x : ℕ) → is_joined_to g s.id x ≡ true → HasAt (is_among n4) (index_at g x)) g.comps
                  (λ s there split is x joined. either g n4 o b allowed allowed_back s x
                  (c.walk.ensures.kept s.id (in-all (IsSplitMarked c.as_slice.result.now c.mark_splits.new.marks) g.comps s c.mark_splits.ensures.marked there split (ap (λ (xs : List ℕ). is_among xs s.pipe) c.as_slice.ensures.value ∙ down s.pipe is)))
                  (c.walk-2.ensures.kept s.id (in-all (IsSplitMarked c.as_slice-2.result.now c.mark_splits-2.new.marks) g.comps s c.mark_splits-2.ensures.marked there split (ap (λ (xs : List ℕ). is_among xs s.pipe) c.as_slice-2.ensures.value ∙ down s.pipe is)))
                  (or_cases (reaches g s.id x) (reaches g x s.id) joined));
            };
            allowed = allowed;
            allowed_back = allowed_back;
          };
    }
  where
    either : (g : Graph) (n : List ℕ) (o b : List Bool) → AllAllowed g false (is_among n) o → AllAllowed g true (is_among n) b → (s : Comp) (x : ℕ) → get_or o s.id false ≡ true → get_or b s.id false ≡ true → (reaches g s.id x ≡ true) ⊎ (reaches g x s.id ≡ true) → HasAt (is_among n) (index_at g x)
    either g n o b on back s x mo mb (inl a) = on s.id mo x a
    either g n o b on back s x mo mb (inr a) = back s.id mb x a
