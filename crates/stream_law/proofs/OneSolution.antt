-- The equations of a tick's counts have one solution.
use Rattle.std.proofs.Common.{◌≡◌, refl, sym, ap, subst, ◌∙◌, ℕ, zero, suc, ◌+◌, ◌-◌, ◌<◌, ◌≤◌, List, [], ◌∷◌, ◌++◌, map, Bool, true, false, cond, ◌==◌, ◌&&◌, ◌||◌, not, nat_le, Option, Some, None, arith, min}
use Rattle.std.proofs.lemmas.List.{append-nil}
use Rattle.std.proofs.lemmas.Bool.{eqb-true, false≢true}
use Rattle.stream_law.specs.Table.{table, updated, number_of}
use Rattle.stream_law.specs.State.{View}
use Rattle.stream_law.specs.Ways.{components, buffers, source_of, sink_of, is_end, outs, active_end}
use Rattle.stream_law.specs.Order.{is_among}
use Rattle.stream_law.specs.Moves.{frames_to_move, may_move, looks, looked_at, fed, fed_by, is_empty, least, quota, runs, chooses}
use Rattle.stream_law.specs.Counts.{Counts, Counting, put_after, taken_after, frames_held, frames_free, moved_by}
use Rattle.stream_law.specs.StreamLaws.{IsRanked}
use Rattle.stream_law.proofs.Tables.{value_of-table_same, value_of-updated_same, filter_same, map_same, table_same}
use Rattle.stream_law.proofs.Rounds.{moves_in, counts_by}

-- an end that is a component is that component
pub is_end-some : (end : Option ℕ) (c : ℕ) → is_end end c ≡ true → end ≡ Some c
is_end-some None c e = absurd (false≢true e)
is_end-some (Some a) c e = ap Some (eqb-true a c e)

-- what a component looks at depends only on what its edges in hold
pub looked_at_same : (v : View) (held other : ℕ → ℕ) (c : ℕ) → ((b : ℕ) → is_end (sink_of v.graph b) c ≡ true → held b ≡ other b) → looked_at v held c ≡ looked_at v other c
looked_at_same v held other c same =
    filter_same (λ b. is_end (sink_of v.graph b) c) (looks v held c) (looks v other c) (buffers v.graph) (λ b e.
    ap (λ m. not (chooses v c) || (active_end v (source_of v.graph b) && nat_le 1 m)) (same b e))

-- what a component moves depends only on what its edges in hold and its edges out have room for
pub frames_to_move_same : (v : View) (t : ℕ) (held other free room : ℕ → ℕ) (c : ℕ) → ((b : ℕ) → is_end (sink_of v.graph b) c ≡ true → held b ≡ other b) → ((b : ℕ) → is_end (source_of v.graph b) c ≡ true → free b ≡ room b) → frames_to_move v t held free c ≡ frames_to_move v t other room c
unfolding frames_to_move
frames_to_move_same v t held other free room c same alike =
    ap (λ (l : List ℕ × (List ℕ × List ℕ)). cond (runs v t c && (not (chooses v c) || not (is_empty l.0)) && (is_empty (outs v.graph c) || not (is_empty (fed_by v c)))) (least (quota v t c) (l.1.0 ++ l.1.1)) 0) (λ i. (looked_same i, (held_over i, free_over i)))
  where
    looked_same : looked_at v held c ≡ looked_at v other c
    looked_same = looked_at_same v held other c same

    held_over : map held (looked_at v held c) ≡ map other (looked_at v other c)
    held_over = ap (map held) looked_same ∙ map_same (λ b. is_end (sink_of v.graph b) c) (looks v other c) held other (buffers v.graph) same

    free_over : map free (fed_by v c) ≡ map room (fed_by v c)
    free_over = map_same (λ b. is_end (source_of v.graph b) c) (fed v) free room (buffers v.graph) alike

-- no more moves than an edge that is looked at holds, and than an edge that is fed has room for
pub least-le_front : (q : ℕ) (f : ℕ → ℕ) (ids rest : List ℕ) (b : ℕ) → is_among ids b ≡ true → least q (map f ids ++ rest) ≤ f b
least-le_front q f [] rest b there = absurd (false≢true there)
least-le_front q f (i ∷ ids) rest b there = head (i == b) refl there (least-le_front q f ids rest b)
  where
    head : (h : Bool) → (i == b) ≡ h → (h || is_among ids b) ≡ true → (is_among ids b ≡ true → least q (map f ids ++ rest) ≤ f b) → min (f i) (least q (map f ids ++ rest)) ≤ f b
    head true e h more = let same : f i ≡ f b = ap f (eqb-true i b e) in omega arith
    head false e h more = let low : least q (map f ids ++ rest) ≤ f b = more h in omega arith

pub least-le_back : (q : ℕ) (xs : List ℕ) (f : ℕ → ℕ) (ids : List ℕ) (b : ℕ) → is_among ids b ≡ true → least q (xs ++ map f ids) ≤ f b
least-le_back q [] f ids b there = subst (λ l. least q l ≤ f b) (append-nil (map f ids)) (least-le_front q f ids [] b there)
least-le_back q (x ∷ xs) f ids b there = let low : least q (xs ++ map f ids) ≤ f b = least-le_back q xs f ids b there in omega arith

pub frames_to_move-le_held : (v : View) (t : ℕ) (held free : ℕ → ℕ) (c b : ℕ) → is_among (looked_at v held c) b ≡ true → frames_to_move v t held free c ≤ held b
unfolding frames_to_move
frames_to_move-le_held v t held free c b there = chosen (may_move v t held c)
  where
    chosen : (h : Bool) → cond h (least (quota v t c) (map held (looked_at v held c) ++ map free (fed_by v c))) 0 ≤ held b
    chosen true = least-le_front (quota v t c) held (looked_at v held c) (map free (fed_by v c)) b there
    chosen false = omega arith

pub frames_to_move-le_room : (v : View) (t : ℕ) (held free : ℕ → ℕ) (c b : ℕ) → is_among (fed_by v c) b ≡ true → frames_to_move v t held free c ≤ free b
unfolding frames_to_move
frames_to_move-le_room v t held free c b there = chosen (may_move v t held c)
  where
    chosen : (h : Bool) → cond h (least (quota v t c) (map held (looked_at v held c) ++ map free (fed_by v c))) 0 ≤ free b
    chosen true = least-le_back (quota v t c) (map held (looked_at v held c)) free (fed_by v c) b there
    chosen false = omega arith

-- what a component moves depends only on what was put into its edges in
pub frames_moved_same : (v : View) (t : ℕ) (old : Counts) (put other : List (ℕ × ℕ)) (c : ℕ) → ((b : ℕ) → is_end (sink_of v.graph b) c ≡ true → number_of put b ≡ number_of other b) → frames_to_move v t (frames_held old put) (frames_free v old) c ≡ frames_to_move v t (frames_held old other) (frames_free v old) c
frames_moved_same v t old put other c same =
    frames_to_move_same v t (frames_held old put) (frames_held old other) (frames_free v old) (frames_free v old) c (λ b e. ap (λ n. n - number_of old.taken b) (same b e)) (λ b e. refl)

-- what an edge has after the tick depends only on what its source moves
pub put_after_same : (v : View) (old : Counts) (n m : List (ℕ × ℕ)) (b : ℕ) → ((a : ℕ) → source_of v.graph b ≡ Some a → number_of n a ≡ number_of m a) → put_after v old n b ≡ put_after v old m b
put_after_same v old n m b same = ap (λ k. number_of old.put b + cond (fed v b) k 0) (moved_same (source_of v.graph b) refl)
  where
    moved_same : (end : Option ℕ) → source_of v.graph b ≡ end → moved_by n end ≡ moved_by m end
    moved_same None e = refl
    moved_same (Some a) e = same a e

module _ (v : View) (t : ℕ) (old : Counts) (rank : ℕ → ℕ) (ranked : IsRanked v.graph rank)
    (n m : List (ℕ × ℕ)) (new other : Counts) (first : Counting v t old n new) (second : Counting v t old m other) where
  -- where the sources of an edge move the same, the edge has the same
  puts_agree : (b : ℕ) → ((a : ℕ) → source_of v.graph b ≡ Some a → number_of n a ≡ number_of m a) → number_of new.put b ≡ number_of other.put b
  puts_agree b same =
      ap (λ l. number_of l b) first.puts
      ∙ value_of-updated_same 0 (buffers v.graph) (put_after v old n) (put_after v old m) old.put b (put_after_same v old n m b same)
      ∙ sym (ap (λ l. number_of l b) second.puts)

  -- where the edges into a component have the same, the component moves the same
  moves_agree : (c : ℕ) → ((b : ℕ) → is_end (sink_of v.graph b) c ≡ true → number_of new.put b ≡ number_of other.put b) → number_of n c ≡ number_of m c
  moves_agree c same =
      ap (λ l. number_of l c) first.moves
      ∙ value_of-table_same 0 (components v.graph) (frames_to_move v t (frames_held old new.put) (frames_free v old)) (frames_to_move v t (frames_held old other.put) (frames_free v old)) c (frames_moved_same v t old new.put other.put c same)
      ∙ sym (ap (λ l. number_of l c) second.moves)

  -- two solutions move the same up to any rank
  moves_below : (k : ℕ) (c : ℕ) → rank c < k → number_of n c ≡ number_of m c
  moves_below zero c low = absurd (omega arith)
  moves_below (suc k) c low =
      moves_agree c (λ b e. puts_agree b (λ a source.
      let rise : rank a < rank c = ranked.rises b a c source (is_end-some (sink_of v.graph b) c e) in
      moves_below k a (omega arith)))

  -- so they put the same
  puts_same : new.put ≡ other.put
  puts_same =
      first.puts
      ∙ ap (λ f. updated (buffers v.graph) f old.put) (λ i b. put_after_same v old n m b (λ a source. moves_below (suc (rank a)) a (omega arith)) i)
      ∙ sym second.puts

  -- and move the same
  pub moves_same : n ≡ m
  moves_same = first.moves ∙ ap (λ put. table (components v.graph) (frames_to_move v t (frames_held old put) (frames_free v old))) puts_same ∙ sym second.moves

  -- and take the same: the solution is one
  pub counts_same : new ≡ other
  counts_same = λ i. record { put = puts_same i; taken = takes_same i }
    where
      takes_same : new.taken ≡ other.taken
      takes_same = first.takes ∙ ap (λ (p : List (ℕ × ℕ) × List (ℕ × ℕ)). updated (buffers v.graph) (taken_after v old p.0 p.1) old.taken) (λ i. (puts_same i, moves_same i)) ∙ sym second.takes

module _ (v : View) (t : ℕ) (old : Counts) (rank : ℕ → ℕ) (ranked : IsRanked v.graph rank) where
  -- what the edges have after so many rounds
  abbrev put_in : ℕ → List (ℕ × ℕ)
  put_in k = updated (buffers v.graph) (put_after v old (moves_in v t old k)) old.put

  -- one more round changes nothing below the rank of the round
  settles : (k : ℕ) (c : ℕ) → rank c < k → number_of (moves_in v t old k) c ≡ number_of (moves_in v t old (suc k)) c
  settles zero c low = absurd (omega arith)
  settles (suc k) c low =
      value_of-table_same 0 (components v.graph) (frames_to_move v t (frames_held old (put_in k)) (frames_free v old)) (frames_to_move v t (frames_held old (put_in (suc k))) (frames_free v old)) c
      (frames_moved_same v t old (put_in k) (put_in (suc k)) c (λ b e.
      value_of-updated_same 0 (buffers v.graph) (put_after v old (moves_in v t old k)) (put_after v old (moves_in v t old (suc k))) old.put b
      (put_after_same v old (moves_in v t old k) (moves_in v t old (suc k)) b (λ a source.
      let rise : rank a < rank c = ranked.rises b a c source (is_end-some (sink_of v.graph b) c e) in
      settles k a (omega arith)))))

  -- as many rounds as there are ranks solve the equations
  pub solves : (k : ℕ) → ((c : ℕ) → rank c < k) → Counting v t old (moves_in v t old k) (counts_by v old (moves_in v t old k))
  solves zero low = absurd (let none : rank 0 < 0 = low 0 in omega arith)
  solves (suc k) low = record { moves = settled; puts = refl; takes = refl }
    where
      settled : moves_in v t old (suc k) ≡ table (components v.graph) (frames_to_move v t (frames_held old (put_in (suc k))) (frames_free v old))
      settled = table_same (components v.graph) (frames_to_move v t (frames_held old (put_in k)) (frames_free v old)) (frames_to_move v t (frames_held old (put_in (suc k))) (frames_free v old)) (λ c.
          frames_moved_same v t old (put_in k) (put_in (suc k)) c (λ b e.
          value_of-updated_same 0 (buffers v.graph) (put_after v old (moves_in v t old k)) (put_after v old (moves_in v t old (suc k))) old.put b
          (put_after_same v old (moves_in v t old k) (moves_in v t old (suc k)) b (λ a source.
          let rise : rank a < rank c = ranked.rises b a c source (is_end-some (sink_of v.graph b) c e) in
          let top : rank c < suc k = low c in
          settles k a (omega arith)))))
