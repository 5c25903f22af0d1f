use Rattle.std.proofs.Common.{◌≡◌, sym, subst, ℕ, List, Bool, true, false, length, get_or, arith}
use Rattle.std.specs.List.{AllByRecursion}
use Rattle.stream_law.specs.declared.graph.Join.{Join}
use Rattle.stream_law.specs.Order.{is_among}
use Rattle.fw_places.specs.Walks.{IsWithin, IsClosed, is_marked, is_reached}
use Rattle.fw_places.specs.Charts.{Chart}
use Rattle.fw_places.proofs.Charts.{places-within, none-past, take-few}
use Rattle.fw_places.proofs.Reaching.{marks-reach}
use Rattle.fw_places.proofs.places.Places.spread_from.Goals as goal

pub spread-requires : goal.spread-requires
spread-requires c = record {
  size = c.requires.size;
  few = omega (arith, take-few c.self.inside.count c.self.inside.ends, c.self.invariant.within);
  within = subst (λ (js : List Join). AllByRecursion (IsWithin 257) js) (sym c.self.invariant.places) (places-within c.self.inside.ids.items 257 (omega (arith, c.self.invariant.few)) _);
  found = c.requires.found;
}

pub returns-clause-reached : goal.returns-clause-reached
returns-clause-reached c =
    let old : List Bool = c.args.marks.now in let new : List Bool = c.spread.new.marks in
    let begins : Chart → Type 0 = λ v. (x : ℕ) → is_among v.ids x ≡ true → is_marked v.ids new x ≡ is_reached c.args.back v.ids v.joins old x in
    subst begins c.self.view_is (marks-reach c.args.back c.self.inside.ids.items _ c.self.invariant.listed old new c.spread.ensures.kept
    (subst (λ (js : List Join). IsClosed c.args.back js (λ k. get_or new k false)) c.self.invariant.places c.spread.ensures.closed)
    (subst (λ (js : List Join). (q : ℕ → Bool) → IsClosed c.args.back js q → ((k : ℕ) → get_or old k false ≡ true → q k ≡ true) → (k : ℕ) → get_or new k false ≡ true → q k ≡ true) c.self.invariant.places c.spread.ensures.least))

pub returns-clause-past : goal.returns-clause-past
returns-clause-past c =
    let old : List Bool = c.args.marks.now in let new : List Bool = c.spread.new.marks in
    let stays : Chart → Type 0 = λ v. get_or old (length v.ids) false ≡ false → get_or new (length v.ids) false ≡ false in
    subst stays c.self.view_is (none-past c.args.back c.self.inside.ids.items _ c.self.invariant.listed old new
    (subst (λ (js : List Join). (q : ℕ → Bool) → IsClosed c.args.back js q → ((k : ℕ) → get_or old k false ≡ true → q k ≡ true) → (k : ℕ) → get_or new k false ≡ true → q k ≡ true) c.self.invariant.places c.spread.ensures.least))
