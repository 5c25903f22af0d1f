use Rattle.std.proofs.Common.{◌≡◌, refl, sym, ap, ◌∙◌, ℕ, List, Bool, true, false, cond, Option, Some, None, is_some}
use Rattle.std.specs.Str.{bytes_eq}
use Rattle.std.specs.HashMap as hash
use Rattle.std.proofs.lemmas.Slice.Eq.{bytes_eq-Decides}
use Rattle.std.proofs.lemmas.Bool.{true≢false, false≢true}
use Rattle.tplg_widgets.specs.KeptNumbers.{kept_first}
use Rattle.tplg_widgets.proofs.first_names.keep_first.Goals as goal

bytes_eq-itself : (a : List ℕ) → bytes_eq a a ≡ true
bytes_eq-itself a = (bytes_eq-Decides a a).1 refl

-- a name that has a number keeps it
had : (f : List ℕ → Option ℕ) (name q : List ℕ) (n : ℕ) → is_some (f name) ≡ true → f q ≡ kept_first (f q) (bytes_eq q name) n
had f name q n h = by_test (bytes_eq q name) refl (f q) refl
  where
    by_test : (b : Bool) → bytes_eq q name ≡ b → (o : Option ℕ) → f q ≡ o → o ≡ kept_first o b n
    by_test b e (Some x) g = refl
    by_test false e None g = refl
    by_test true e None g = absurd (true≢false (sym h ∙ ap (λ x. is_some (f x)) (sym ((bytes_eq-Decides q name).0 e)) ∙ ap is_some g))

-- a name that has none gets this one
got : (f g : List ℕ → Option ℕ) (name q : List ℕ) (n : ℕ) → is_some (f name) ≡ false → g q ≡ cond (bytes_eq name q) (Some n) (f q) → g q ≡ kept_first (f q) (bytes_eq q name) n
got f g name q n h e = e ∙ by_test (bytes_eq q name) refl (bytes_eq name q) refl (f q) refl
  where
    by_test : (b : Bool) → bytes_eq q name ≡ b → (t : Bool) → bytes_eq name q ≡ t → (o : Option ℕ) → f q ≡ o → cond t (Some n) o ≡ kept_first o b n
    by_test true d true k None i = refl
    by_test false d false k None i = refl
    by_test false d false k (Some x) i = refl
    by_test true d true k (Some x) i = absurd (false≢true (sym h ∙ ap (λ x. is_some (f x)) (sym ((bytes_eq-Decides q name).0 d)) ∙ ap is_some i))
    by_test true d false k o i = absurd (false≢true (sym k ∙ ap (λ x. bytes_eq x q) (sym ((bytes_eq-Decides q name).0 d)) ∙ bytes_eq-itself q))
    by_test false d true k o i = absurd (false≢true (sym d ∙ ap (bytes_eq q) ((bytes_eq-Decides name q).0 k) ∙ bytes_eq-itself q))

pub returns-then-contains_key : goal.returns-then-contains_key
returns-then-contains_key c = λ q. had (λ n. hash.get_by (λ k. bytes_eq n k.now) c.args.numbers.now) c.args.name.now q c.args.number (sym c.contains_key.ensures ∙ c.if-contains_key.true)

pub returns : goal.returns
returns c = λ q. got (λ n. hash.get_by (λ k. bytes_eq n k.now) c.args.numbers.now) (λ n. hash.get_by (λ k. bytes_eq n k.now) c.insert.new.self) c.args.name.now q c.args.number (sym c.contains_key.ensures ∙ c.if-contains_key.false) (c.in_ok-insert.ensures.updates.0 (record { ref_ptr = (0, 0); now = q }))
