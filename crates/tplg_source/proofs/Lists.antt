-- Lists that grow by what a function gives of each item.
use Rattle.std.proofs.Common.{◌≡◌, ℕ, ◌+◌, ◌<◌, List, [], ◌∷◌, ◌++◌, length, map, get_or, take, Option, Some, None, refl, sym, ap, ◌∙◌, append_assoc, zero-add}
use Rattle.std.specs.Option.{option_to_list}
use Rattle.std.specs.List.{filter_map, cons_option, range_with_len}
use Rattle.std.proofs.lemmas.List.{take_more}
use Rattle.std.proofs.lemmas.List.Elements.{filter_map-append}
use Rattle.std.proofs.lemmas.List.FromFn.{map-range_with_len_more}
use Rattle.tplg_compile.specs.declared.keys.TokenKey.{TokenKey}
use Rattle.tplg_compile.specs.KeyTables.{Keyed}
use Rattle.tplg_compile.specs.ProgramValues.{keyed_by}

-- what a function gives of one item
of_one : {Y : Type 0} (o : Option Y) → cons_option o [] ≡ option_to_list o
of_one None = refl
of_one (Some y) = refl

kept_more : {X Y : Type 0} (f : X → Option Y) (xs : List X) (i : ℕ) (x : X) → i < length xs → x ≡ get_or xs i x → filter_map f (take (i + 1) xs) ≡ filter_map f (take i xs) ++ option_to_list (f x)
kept_more f xs i x within here =
    ap (filter_map f) (take_more xs i x within) ∙ filter_map-append f (take i xs) (get_or xs i x ∷ [])
    ∙ ap (λ z. filter_map f (take i xs) ++ cons_option (f z) []) (sym here) ∙ ap (λ zs. filter_map f (take i xs) ++ zs) (of_one (f x))

-- what a function gives of one item more was put after what it gives of those before
pub kept_on : {X Y : Type 0} (f : X → Option Y) (xs : List X) (i : ℕ) (x : X) (start so_far next : List Y) → i < length xs → x ≡ get_or xs i x
    → so_far ≡ start ++ filter_map f (take i xs) → next ≡ so_far ++ option_to_list (f x) → next ≡ start ++ filter_map f (take (i + 1) xs)
kept_on f xs i x start so_far next within here was put =
    put ∙ ap (λ zs. zs ++ option_to_list (f x)) was ∙ append_assoc start (filter_map f (take i xs)) (option_to_list (f x))
    ∙ ap (λ zs. start ++ zs) (sym (kept_more f xs i x within here))

-- of one number more
pub made_on : {X : Type 0} (f : ℕ → X) (n : ℕ) (so_far next : List X) (x : X) → so_far ≡ map f (range_with_len 0 n) → next ≡ so_far ++ x ∷ [] → x ≡ f n
    → next ≡ map f (range_with_len 0 (n + 1))
made_on f n so_far next x was put is =
    put ∙ ap (λ zs. zs ++ x ∷ []) was ∙ ap (λ z. map f (range_with_len 0 n) ++ z ∷ []) is ∙ sym (map-range_with_len_more f 0 n n (zero-add n))

-- ---- keys of the program

keyed_by-append : (ks ls : List TokenKey) → keyed_by (ks ++ ls) ≡ keyed_by ks ++ keyed_by ls
keyed_by-append [] ls = refl
keyed_by-append (k ∷ ks) ls = ap (λ zs. (k.key.now, k.token) ∷ zs) (keyed_by-append ks ls)

keys_more : {Y : Type 0} (f : Keyed → Option Y) (ks : List TokenKey) (i : ℕ) (d : TokenKey) → i < length ks
    → filter_map f (keyed_by (take (i + 1) ks)) ≡ filter_map f (keyed_by (take i ks)) ++ option_to_list (f ((get_or ks i d).key.now, (get_or ks i d).token))
keys_more f ks i d within =
    let k = get_or ks i d in
    ap (λ zs. filter_map f (keyed_by zs)) (take_more ks i d within) ∙ ap (filter_map f) (keyed_by-append (take i ks) (k ∷ []))
    ∙ filter_map-append f (keyed_by (take i ks)) ((k.key.now, k.token) ∷ []) ∙ ap (λ zs. filter_map f (keyed_by (take i ks)) ++ zs) (of_one (f (k.key.now, k.token)))

-- the same of keys
pub keys_on : {Y : Type 0} (f : Keyed → Option Y) (ks : List TokenKey) (i : ℕ) (d : TokenKey) (so_far next : List Y) → i < length ks
    → so_far ≡ filter_map f (keyed_by (take i ks)) → next ≡ so_far ++ option_to_list (f ((get_or ks i d).key.now, (get_or ks i d).token)) → next ≡ filter_map f (keyed_by (take (i + 1) ks))
keys_on f ks i d so_far next within was put =
    put ∙ ap (λ zs. zs ++ option_to_list (f ((get_or ks i d).key.now, (get_or ks i d).token))) was ∙ sym (keys_more f ks i d within)
