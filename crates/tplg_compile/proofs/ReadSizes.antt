-- What is read of a text is no larger than the text.
use Rattle.std.proofs.Common.{◌≡◌, ℕ, zero, suc, ◌+◌, ◌*◌, ◌<◌, ◌≤◌, Bool, true, false, ◌==◌, List, [], ◌∷◌, ◌++◌, length, length-append, take, drop, Option, Some, None, option_map, option_and_then, is_some, unwrap_or, Ordering, Less, Equal, Greater, nat_cmp, refl, ap, inl, inr, subst, arith}
use Rattle.std.specs.Prelude.{if◌then◌else◌, encode_utf8}
use Rattle.std.proofs.lemmas.Bool.{cases_Bool}
use Rattle.std.proofs.lemmas.List.{length-drop}
use Rattle.std.proofs.lemmas.Str.{length-encode, len_utf8_bounds}
use Rattle.std.specs.List.{prefix_len}
use Rattle.std.specs.Ordering.{match_ordering}
use Rattle.std.specs.Cmp.Lexicographic.{slice_cmp}
use Rattle.toml_parser.specs.Lexical.{Read, first, is_ws, is_bare, skip_ws, skip_from, skip_blank, skip_turn, starts_newline, dot, line_feed, right_bracket, right_brace, equals}
use Rattle.toml_parser.specs.Strings.{Key, simple_escape, hex_len, hex_escape, escape_char, escape, at_delims, special, prepend, after_piece, body, trim_newline, one_line, quoted, simple_key, key_after, key, recursion_limit}
use Rattle.toml_parser.specs.Numbers.{word_len, word_value, unquoted}
use Rattle.toml_parser.specs.declared.scalar.Scalar.{Scalar}
use Rattle.toml_parser.specs.declared.scalar.Scalar.TheVariants.{Boolean, Integer, Float, Datetime}
use Rattle.toml.specs.Data.{Data, string, array, table, Items, no_items, item, Members, no_members, member, push_item, same_key}
use Rattle.toml.specs.Tables.{implicit, dotted, header, Node, Nodes, no_nodes, node, value, open_table, open_array, get_node, insert, replace, close, close_node, Edit, header_node, dot_node, by_header, by_dot, along_header, along_dots, Definition, key_value, std_table, array_table, Expression, new_node, redefine, at_found, at_key, put, Document, define}
use Rattle.toml.specs.Parse.{after_byte, after_element, key_equals, keyval, items, members, scalar_data, atom, val, header_key, expression, line, lines, skip_bom, parse_document}

-- ---- what holds of something, if it is there

unfoldable pub Holds : {A : Type 0} → (A → Type 0) → Option A → Type 0
Holds P None = Unit {0}
Holds P (Some x) = P x

pub missing : {A : Type 0} (P : A → Type 0) → Holds P None
unfolding Holds
missing P = tt

pub there : {A : Type 0} {x : A} (P : A → Type 0) → P x → Holds P (Some x)
unfolding Holds
there P h = h

pub held : {A : Type 0} (P : A → Type 0) (x : A) → Holds P (Some x) → P x
unfolding Holds
held P x h = h

pub holds-of : {A : Type 0} (P : A → Type 0) (o : Option A) (x : A) → o ≡ Some x → Holds P o → P x
unfolding Holds
holds-of P o x is h = subst (Holds P) is h

pub holds-if : {A : Type 0} (P : A → Type 0) (b : Bool) (x y : Option A) → Holds P x → Holds P y → Holds P (if b then x else y)
holds-if P true x y hx hy = hx
holds-if P false x y hx hy = hy

pub holds-map : {A B : Type 0} (P : A → Type 0) (Q : B → Type 0) (f : A → B) (o : Option A) → Holds P o → ((x : A) → P x → Q (f x)) → Holds Q (option_map f o)
unfolding Holds
holds-map P Q f None h by = tt
holds-map P Q f (Some x) h by = by x h

pub holds-then : {A B : Type 0} (P : A → Type 0) (Q : B → Type 0) (f : A → Option B) (o : Option A) → Holds P o → ((x : A) → P x → Holds Q (f x)) → Holds Q (option_and_then f o)
unfolding Holds
holds-then P Q f None h by = tt
holds-then P Q f (Some x) h by = by x h

any : {A : Type 0} (o : Option A) → Holds (λ _. Unit {0}) o
unfolding Holds
any None = tt
any (Some x) = tt

pub at-if : {A : Type 0} (P : A → Type 0) (b : Bool) (x y : A) → P x → P y → P (if b then x else y)
at-if P true x y hx hy = hx
at-if P false x y hx hy = hy

-- ---- texts

skip-within : (comments inside : Bool) (text : List ℕ) → length (skip_from comments inside text) ≤ length text
unfolding skip_from
skip-within comments inside [] = omega arith
skip-within comments inside (c ∷ cs) =
    let next = skip-within comments (unwrap_or (skip_turn comments inside c (first cs)) false) cs in
    elim (cases_Bool (is_some (skip_turn comments inside c (first cs)))) [
      | inl more ↦ rw more (omega arith)
      | inr stop ↦ rw stop (omega arith)
    ]

-- ---- values

-- how many items there are
abbrev pub item_count : Items → ℕ
item_count no_items = 0
item_count (item d ds) = item_count ds + 1

-- no array of a value has more than this many items, and no text more than four times as many bytes
abbrev mutual
  pub IsWithin : ℕ → Data → Type 0
  IsWithin b (string s) = length s ≤ 4 * b
  IsWithin b (array ds) = (item_count ds ≤ b) × ItemsAreWithin b ds
  IsWithin b (table ms) = MembersAreWithin b ms
  IsWithin b _ = Unit {0}

  pub ItemsAreWithin : ℕ → Items → Type 0
  ItemsAreWithin b no_items = Unit {0}
  ItemsAreWithin b (item d ds) = IsWithin b d × ItemsAreWithin b ds

  pub MembersAreWithin : ℕ → Members → Type 0
  MembersAreWithin b no_members = Unit {0}
  MembersAreWithin b (member k d ms) = IsWithin b d × MembersAreWithin b ms

pub by-ordering : {X : Type 0} (P : X → Type 0) (o : Ordering) (x y z : X) → P x → P y → P z → P (match_ordering o x y z)
by-ordering P Less x y z hx hy hz = hx
by-ordering P Equal x y z hx hy hz = hy
by-ordering P Greater x y z hx hy hz = hz

module _ (b : ℕ) where
  -- no longer than b
  abbrev pub IsShort : List ℕ → Type 0
  IsShort text = length text ≤ b

  -- a value of which something holds, and a short rest
  abbrev pub Leaves : {A : Type 0} → (A → Type 0) → A × List ℕ → Type 0
  Leaves V p = V p.0 × IsShort p.1

  short-drop : (n : ℕ) (text : List ℕ) → IsShort text → IsShort (drop n text)
  short-drop n text h = omega (arith, length-drop n text)

  short-skip_from : (comments inside : Bool) (text : List ℕ) → IsShort text → IsShort (skip_from comments inside text)
  short-skip_from comments inside text h = omega (arith, skip-within comments inside text)

  short-skip_ws : (text : List ℕ) → IsShort text → IsShort (skip_ws text)
  unfolding skip_ws
  short-skip_ws text h = short-drop (prefix_len is_ws text) text h

  short-trim : (text : List ℕ) → IsShort text → IsShort (trim_newline text)
  short-trim text h = at-if IsShort (first text == line_feed) (drop 1 text) (if starts_newline text then drop 2 text else text) (short-drop 1 text h) (at-if IsShort (starts_newline text) (drop 2 text) text (short-drop 2 text h) h)

  -- ---- strings

  -- at most four bytes, where there is a piece
  abbrev IsPiece : Option (List ℕ) → Type 0
  IsPiece None = Unit {0}
  IsPiece (Some bytes) = length bytes ≤ 4

  abbrev Anything : {A : Type 0} → A → Type 0
  Anything x = Unit {0}

  escape_char-leaves : (text : List ℕ) → IsShort text → Holds (Leaves Anything) (escape_char text)
  unfolding escape_char hex_escape
  escape_char-leaves text h =
      holds-if (Leaves Anything) _ _ _
      (holds-if (Leaves Anything) _ _ _ (there _ (tt, short-drop (hex_len (first text)) (drop 1 text) (short-drop 1 text h))) (missing _))
      (holds-map Anything (Leaves Anything) _ (simple_escape (first text)) (any (simple_escape (first text))) (λ c _. (tt, short-drop 1 text h)))

  short-encoded : (c : ℕ) → length (encode_utf8 c) ≤ 4
  short-encoded c = omega (arith, length-encode c, (len_utf8_bounds c).1)

  escape-leaves : (multi : Bool) (text : List ℕ) → IsShort text → Holds (Leaves (λ bytes. length bytes ≤ 4)) (escape multi text)
  unfolding escape
  escape-leaves multi text h =
      holds-if (Leaves (λ bytes. length bytes ≤ 4)) _ _ _
      (there _ (omega arith, short-skip_from false false text h))
      (holds-map (Leaves Anything) (Leaves (λ bytes. length bytes ≤ 4)) _ (escape_char text) (escape_char-leaves text h) (λ p q. (short-encoded p.0, q.1)))

  at_delims-leaves : (delim : ℕ) (text : List ℕ) → IsShort text → Holds (Leaves IsPiece) (at_delims delim text)
  at_delims-leaves delim text h =
      let few : length (delim ∷ []) ≤ 4 = omega arith in
      holds-if (Leaves IsPiece) _ _ _ (there _ (tt, short-drop 3 text h)) (holds-if (Leaves IsPiece) _ _ _ (there {x = (Some (delim ∷ []), drop 1 text)} (Leaves IsPiece) (few, short-drop 1 text h)) (missing _))

  special-leaves : (delim : ℕ) (multi : Bool) (text : List ℕ) → IsShort text → Holds (Leaves IsPiece) (special delim multi text)
  unfolding special
  special-leaves delim multi text h =
      holds-if (Leaves IsPiece) _ _ _
      (holds-if (Leaves IsPiece) multi _ _ (at_delims-leaves delim text h) (there _ (tt, short-drop 1 text h)))
      (holds-if (Leaves IsPiece) _ _ _
      (holds-map (Leaves (λ bytes. length bytes ≤ 4)) (Leaves IsPiece) _ (escape multi (drop 1 text)) (escape-leaves multi (drop 1 text) (short-drop 1 text h)) (λ p q. q))
      (holds-if (Leaves IsPiece) _ _ _ (there {x = (Some (first text ∷ []), drop 1 text)} (Leaves IsPiece) (let few : length (first text ∷ []) ≤ 4 = omega arith in few, short-drop 1 text h)) (missing _)))

  abbrev IsText : ℕ → List ℕ → Type 0
  IsText n bytes = length bytes ≤ 4 * n

  prepend-leaves : (n : ℕ) (front : List ℕ) (r : Read (List ℕ)) → length front ≤ 4 → Holds (Leaves (IsText n)) r → Holds (Leaves (IsText (suc n))) (prepend front r)
  prepend-leaves n front r few h =
      holds-map (Leaves (IsText n)) (Leaves (IsText (suc n))) (λ p. (front ++ p.0, p.1)) r h (λ p q. (omega (arith, length-append front p.0, q.0), q.1))

  after_piece-leaves : (n : ℕ) (more : List ℕ → Read (List ℕ)) → ((text : List ℕ) → IsShort text → Holds (Leaves (IsText n)) (more text)) → (piece : Option (List ℕ)) (rest : List ℕ) → IsPiece piece → IsShort rest → Holds (Leaves (IsText (suc n))) (after_piece more piece rest)
  after_piece-leaves n more leaves None rest is short = there _ (omega arith, short)
  after_piece-leaves n more leaves (Some bytes) rest is short = prepend-leaves n bytes (more rest) is (leaves rest short)

  body-leaves : (delim : ℕ) (multi : Bool) (n : ℕ) (text : List ℕ) → IsShort text → Holds (Leaves (IsText n)) (body delim multi n text)
  unfolding body
  body-leaves delim multi zero text h = missing _
  body-leaves delim multi (suc n) text h =
      holds-if (Leaves (IsText (suc n))) _ _ _
      (prepend-leaves n (first text ∷ []) (body delim multi n (drop 1 text)) (omega arith) (body-leaves delim multi n (drop 1 text) (short-drop 1 text h)))
      (holds-then (Leaves IsPiece) (Leaves (IsText (suc n))) _ (special delim multi text) (special-leaves delim multi text h) (λ p q. after_piece-leaves n (body delim multi n) (body-leaves delim multi n) p.0 p.1 q.0 q.1))

  -- a text of at most four times b
  abbrev IsBounded : List ℕ → Type 0
  IsBounded bytes = length bytes ≤ 4 * b

  bounded : (n : ℕ) (r : Read (List ℕ)) → n ≤ b → Holds (Leaves (IsText n)) r → Holds (Leaves IsBounded) r
  unfolding Holds
  bounded n None most h = tt
  bounded n (Some p) most h = (omega (arith, h.0), h.1)

  one_line-leaves : (text : List ℕ) → IsShort text → Holds (Leaves IsBounded) (one_line text)
  unfolding one_line
  one_line-leaves text h = bounded (length text) (body (first text) false (length text) (drop 1 text)) h (body-leaves (first text) false (length text) (drop 1 text) (short-drop 1 text h))

  quoted-leaves : (text : List ℕ) → IsShort text → Holds (Leaves IsBounded) (quoted text)
  unfolding quoted
  quoted-leaves text h =
      let start = trim_newline (drop 3 text) in
      holds-if (Leaves IsBounded) _ _ _
      (bounded (length text) (body (first text) true (length text) start) h (body-leaves (first text) true (length text) start (short-trim (drop 3 text) (short-drop 3 text h))))
      (one_line-leaves text h)

  -- ---- keys

  only-rest : {A : Type 0} (V : A → Type 0) (r : Read A) → Holds (Leaves V) r → Holds (Leaves Anything) r
  unfolding Holds
  only-rest V None h = tt
  only-rest V (Some p) h = (tt, h.1)

  simple_key-leaves : (text : List ℕ) → IsShort text → Holds (Leaves Anything) (simple_key text)
  unfolding simple_key
  simple_key-leaves text h =
      holds-if (Leaves Anything) _ _ _ (only-rest IsBounded (one_line text) (one_line-leaves text h)) (holds-if (Leaves Anything) _ _ _ (there _ (tt, short-drop (prefix_len is_bare text) text h)) (missing _))

  key_after-leaves : (n : ℕ) (path : List (List ℕ)) (text : List ℕ) → IsShort text → Holds (Leaves Anything) (key_after n path text)
  unfolding key_after
  key_after-leaves zero path text h = missing _
  key_after-leaves (suc n) path text h =
      holds-then (Leaves Anything) (Leaves Anything) _ (simple_key text) (simple_key-leaves text h) (λ p q.
      let rest = skip_ws p.1 in
      let short = short-skip_ws p.1 q.1 in
      holds-if (Leaves Anything) (first rest == dot) _ _ (key_after-leaves n (path ++ p.0 ∷ []) (skip_ws (drop 1 rest)) (short-skip_ws (drop 1 rest) (short-drop 1 rest short))) (there _ (tt, short)))

  -- ---- values

  after_byte-leaves : (byte : ℕ) (text : List ℕ) → IsShort text → Holds IsShort (after_byte byte text)
  after_byte-leaves byte text h = holds-if IsShort _ _ _ (there _ (short-drop 1 text h)) (missing _)

  after_element-leaves : (closing : ℕ) (text : List ℕ) → IsShort text → Holds IsShort (after_element closing text)
  unfolding after_element
  after_element-leaves closing text h =
      let rest = skip_blank text in
      let short = short-skip_from true false text h in
      holds-if IsShort _ _ _ (there _ (short-drop 1 rest short)) (holds-if IsShort _ _ _ (there _ short) (missing _))

  key_equals-leaves : (text : List ℕ) → IsShort text → Holds (Leaves Anything) (key_equals text)
  unfolding key_equals
  key_equals-leaves text h =
      holds-then (Leaves Anything) (Leaves Anything) _ (key text) (key_after-leaves recursion_limit [] text h) (λ k q.
      holds-map IsShort (Leaves Anything) _ (after_byte equals k.1) (after_byte-leaves equals k.1 q.1) (λ rest short. (tt, short-skip_ws rest short)))

  scalar-within : (s : Scalar) → IsWithin b (scalar_data s)
  scalar-within (Boolean x) = tt
  scalar-within (Integer z) = tt
  scalar-within (Float x) = tt
  scalar-within (Datetime dt) = tt

  unquoted-leaves : (text : List ℕ) → IsShort text → Holds (Leaves Anything) (unquoted text)
  unfolding unquoted
  unquoted-leaves text h =
      holds-if (Leaves Anything) _ _ _ (missing _)
      (holds-map Anything (Leaves Anything) _ (word_value (take (word_len text) text)) (any (word_value (take (word_len text) text))) (λ d _. (tt, short-drop (word_len text) text h)))

  atom-leaves : (text : List ℕ) → IsShort text → Holds (Leaves (IsWithin b)) (atom text)
  unfolding atom
  atom-leaves text h =
      holds-if (Leaves (IsWithin b)) _ _ _
      (holds-map (Leaves IsBounded) (Leaves (IsWithin b)) _ (quoted text) (quoted-leaves text h) (λ p q. q))
      (holds-map (Leaves Anything) (Leaves (IsWithin b)) _ (unquoted text) (unquoted-leaves text h) (λ p q. (scalar-within p.0, q.1)))

  -- ---- tables that are being made

  -- each open array has fewer than k complete elements
  abbrev mutual
    pub NodeIsWithin : ℕ → Node → Type 0
    NodeIsWithin k (value d) = IsWithin b d
    NodeIsWithin k (open_table origin ns) = NodesAreWithin k ns
    NodeIsWithin k (open_array done ns) = (item_count done < k) × (ItemsAreWithin b done × NodesAreWithin k ns)

    pub NodesAreWithin : ℕ → Nodes → Type 0
    NodesAreWithin k no_nodes = Unit {0}
    NodesAreWithin k (node l x ns) = NodeIsWithin k x × NodesAreWithin k ns

  mutual
    node-more : (k m : ℕ) (x : Node) → k ≤ m → NodeIsWithin k x → NodeIsWithin m x
    node-more k m (value d) le h = h
    node-more k m (open_table origin ns) le h = nodes-more k m ns le h
    node-more k m (open_array done ns) le h = (omega (arith, h.0), (h.1.0, nodes-more k m ns le h.1.1))

    nodes-more : (k m : ℕ) (ns : Nodes) → k ≤ m → NodesAreWithin k ns → NodesAreWithin m ns
    nodes-more k m no_nodes le h = tt
    nodes-more k m (node l x ns) le h = (node-more k m x le h.0, nodes-more k m ns le h.1)

  push-count : (ds : Items) (d : Data) → item_count (push_item ds d) ≡ item_count ds + 1
  push-count no_items d = refl
  push-count (item e ds) d = ap (λ n. n + 1) (push-count ds d)

  push-within : (ds : Items) (d : Data) → ItemsAreWithin b ds → IsWithin b d → ItemsAreWithin b (push_item ds d)
  push-within no_items d h is = (is, tt)
  push-within (item e ds) d h is = (h.0, push-within ds d h.1 is)

  mutual
    close_node-within : (k : ℕ) (x : Node) → k ≤ b → NodeIsWithin k x → IsWithin b (close_node x)
    close_node-within k (value d) le h = h
    close_node-within k (open_table origin ns) le h = close-within k ns le h
    close_node-within k (open_array done ns) le h = (omega (arith, push-count done (table (close ns)), h.0), push-within done (table (close ns)) h.1.0 (close-within k ns le h.1.1))

    close-within : (k : ℕ) (ns : Nodes) → k ≤ b → NodesAreWithin k ns → MembersAreWithin b (close ns)
    close-within k no_nodes le h = tt
    close-within k (node l x ns) le h = (close_node-within k x le h.0, close-within k ns le h.1)

  insert-within : (k : ℕ) (l : List ℕ) (x : Node) (ns : Nodes) → NodeIsWithin k x → NodesAreWithin k ns → NodesAreWithin k (insert l x ns)
  insert-within k l x no_nodes is h = (is, tt)
  insert-within k l x (node m y ns) is h =
      by-ordering (NodesAreWithin k) (slice_cmp nat_cmp l m) (node l x (node m y ns)) (node m x ns) (node m y (insert l x ns)) (is, h) (is, h.1) (h.0, insert-within k l x ns is h.1)

  replace-within : (k : ℕ) (l : List ℕ) (x : Node) (ns : Nodes) → NodeIsWithin k x → NodesAreWithin k ns → NodesAreWithin k (replace l x ns)
  replace-within k l x no_nodes is h = tt
  replace-within k l x (node m y ns) is h =
      at-if (NodesAreWithin k) (same_key l m) (node m x ns) (node m y (replace l x ns)) (is, h.1) (h.0, replace-within k l x ns is h.1)

  get-within : (k : ℕ) (l : List ℕ) (ns : Nodes) → NodesAreWithin k ns → Holds (NodeIsWithin k) (get_node l ns)
  get-within k l no_nodes h = missing _
  get-within k l (node m y ns) h = holds-if (NodeIsWithin k) (same_key l m) (Some y) (get_node l ns) (there _ h.0) (get-within k l ns h.1)

  -- an edit that leaves tables within m of tables within k
  abbrev Grows : ℕ → ℕ → Edit → Type 0
  Grows k m edit = (ns : Nodes) → NodesAreWithin k ns → Holds (NodesAreWithin m) (edit ns)

  header_node-grows : (k m : ℕ) (edit : Edit) (x : Node) → k ≤ m → Grows k m edit → NodeIsWithin k x → Holds (NodeIsWithin m) (header_node edit x)
  header_node-grows k m edit (value d) le e h = missing _
  header_node-grows k m edit (open_table origin ns) le e h = holds-map (NodesAreWithin m) (NodeIsWithin m) (open_table origin) (edit ns) (e ns h) (λ new q. q)
  header_node-grows k m edit (open_array done ns) le e h = holds-map (NodesAreWithin m) (NodeIsWithin m) (open_array done) (edit ns) (e ns h.1.1) (λ new q. (omega (arith, h.0), (h.1.0, q)))

  by_header-grows : (k m : ℕ) (l : List ℕ) (edit : Edit) (ns : Nodes) (o : Option Node) → k ≤ m → Grows k m edit → NodesAreWithin k ns → Holds (NodeIsWithin k) o → Holds (NodesAreWithin m) (by_header l edit ns o)
  by_header-grows k m l edit ns None le e h is = holds-map (NodesAreWithin m) (NodesAreWithin m) _ (edit no_nodes) (e no_nodes tt) (λ new q. insert-within m l (open_table implicit new) ns q (nodes-more k m ns le h))
  by_header-grows k m l edit ns (Some x) le e h is = holds-map (NodeIsWithin m) (NodesAreWithin m) _ (header_node edit x) (header_node-grows k m edit x le e (held (NodeIsWithin k) x is)) (λ new q. replace-within m l new ns q (nodes-more k m ns le h))

  along_header-grows : (k m : ℕ) (path : List (List ℕ)) (edit : Edit) → k ≤ m → Grows k m edit → Grows k m (along_header path edit)
  unfolding along_header
  along_header-grows k m [] edit le e ns h = e ns h
  along_header-grows k m (l ∷ path) edit le e ns h = by_header-grows k m l (along_header path edit) ns (get_node l ns) le (along_header-grows k m path edit le e) h (get-within k l ns h)

  dot_node-grows : (k : ℕ) (edit : Edit) (x : Node) → Grows k k edit → NodeIsWithin k x → Holds (NodeIsWithin k) (dot_node edit x)
  dot_node-grows k edit (value d) e h = missing _
  dot_node-grows k edit (open_table header ns) e h = missing _
  dot_node-grows k edit (open_table implicit ns) e h = holds-map (NodesAreWithin k) (NodeIsWithin k) (open_table dotted) (edit ns) (e ns h) (λ new q. q)
  dot_node-grows k edit (open_table dotted ns) e h = holds-map (NodesAreWithin k) (NodeIsWithin k) (open_table dotted) (edit ns) (e ns h) (λ new q. q)
  dot_node-grows k edit (open_array done ns) e h = missing _

  by_dot-grows : (k : ℕ) (l : List ℕ) (edit : Edit) (ns : Nodes) (o : Option Node) → Grows k k edit → NodesAreWithin k ns → Holds (NodeIsWithin k) o → Holds (NodesAreWithin k) (by_dot l edit ns o)
  by_dot-grows k l edit ns None e h is = holds-map (NodesAreWithin k) (NodesAreWithin k) _ (edit no_nodes) (e no_nodes tt) (λ new q. insert-within k l (open_table dotted new) ns q h)
  by_dot-grows k l edit ns (Some x) e h is = holds-map (NodeIsWithin k) (NodesAreWithin k) _ (dot_node edit x) (dot_node-grows k edit x e (held (NodeIsWithin k) x is)) (λ new q. replace-within k l new ns q h)

  along_dots-grows : (k : ℕ) (path : List (List ℕ)) (edit : Edit) → Grows k k edit → Grows k k (along_dots path edit)
  unfolding along_dots
  along_dots-grows k [] edit e ns h = e ns h
  along_dots-grows k (l ∷ path) edit e ns h = by_dot-grows k l (along_dots path edit) ns (get_node l ns) (along_dots-grows k path edit e) h (get-within k l ns h)

  -- the value of a definition, if it has one
  abbrev DefinitionIsWithin : Definition → Type 0
  DefinitionIsWithin (key_value d) = IsWithin b d
  DefinitionIsWithin std_table = Unit {0}
  DefinitionIsWithin array_table = Unit {0}

  redefine-within : (k : ℕ) (what : Definition) (x : Node) → k ≤ b → NodeIsWithin k x → Holds (NodeIsWithin (suc k)) (redefine what x)
  redefine-within k (key_value d) x le h = missing _
  redefine-within k std_table (value d) le h = missing _
  redefine-within k std_table (open_table implicit ns) le h = there _ (nodes-more k (suc k) ns (omega arith) h)
  redefine-within k std_table (open_table dotted ns) le h = missing _
  redefine-within k std_table (open_table header ns) le h = missing _
  redefine-within k std_table (open_array done ns) le h = missing _
  redefine-within k array_table (value d) le h = missing _
  redefine-within k array_table (open_table origin ns) le h = missing _
  redefine-within k array_table (open_array done ns) le h =
      there _ (omega (arith, h.0, push-count done (table (close ns))), (push-within done (table (close ns)) h.1.0 (close-within k ns le h.1.1), tt))

  new-within : (k : ℕ) (what : Definition) → DefinitionIsWithin what → NodeIsWithin (suc k) (new_node what)
  new-within k (key_value d) is = is
  new-within k std_table is = tt
  new-within k array_table is = (omega arith, (tt, tt))

  at_key-grows : (k : ℕ) (l : List ℕ) (what : Definition) → k ≤ b → DefinitionIsWithin what → Grows k (suc k) (at_key l what)
  unfolding at_key
  at_key-grows k l what le is ns h = by (get_node l ns) (get-within k l ns h)
    where
      by : (o : Option Node) → Holds (NodeIsWithin k) o → Holds (NodesAreWithin (suc k)) (at_found l what ns o)
      by None _ = there _ (insert-within (suc k) l (new_node what) ns (new-within k what is) (nodes-more k (suc k) ns (omega arith) h))
      by (Some x) q = holds-map (NodeIsWithin (suc k)) (NodesAreWithin (suc k)) _ (redefine what x) (redefine-within k what x le (held (NodeIsWithin k) x q)) (λ y r. replace-within (suc k) l y ns r (nodes-more k (suc k) ns (omega arith) h))

  -- a pair needs no new element
  at_pair-grows : (k : ℕ) (l : List ℕ) (d : Data) → IsWithin b d → Grows k k (at_key l (key_value d))
  unfolding at_key
  at_pair-grows k l d is ns h = by (get_node l ns)
    where
      by : (o : Option Node) → Holds (NodesAreWithin k) (at_found l (key_value d) ns o)
      by None = there _ (insert-within k l (value d) ns is h)
      by (Some x) = missing _

  put-grows : (k : ℕ) (key : Key) (d : Data) → IsWithin b d → Grows k k (put key d)
  put-grows k key d is = along_dots-grows k key.0 (at_key key.1 (key_value d)) (at_pair-grows k key.1 d is)

  -- ---- arrays and inline tables

  -- a reader of values that are within b
  abbrev ReadsValues : (List ℕ → Read Data) → Type 0
  ReadsValues read = (text : List ℕ) → IsShort text → Holds (Leaves (IsWithin b)) (read text)

  keyval-leaves : (read : List ℕ → Read Data) → ReadsValues read → (text : List ℕ) → IsShort text → Holds (Leaves (λ e. IsWithin b e.1)) (keyval read text)
  keyval-leaves read reads text h =
      holds-then (Leaves Anything) (Leaves (λ e. IsWithin b e.1)) _ (key_equals text) (key_equals-leaves text h) (λ k q.
      holds-map (Leaves (IsWithin b)) (Leaves (λ e. IsWithin b e.1)) _ (read k.1) (reads k.1 q.1) (λ d r. r))

  -- few items, each within b
  abbrev AreFew : Items → Type 0
  AreFew ds = (item_count ds ≤ b) × ItemsAreWithin b ds

  items-leaves : (read : List ℕ → Read Data) → ReadsValues read → (n : ℕ) (found : Items) (text : List ℕ) → IsShort text → item_count found + n ≤ b → ItemsAreWithin b found → Holds (Leaves AreFew) (items read n found text)
  unfolding items
  items-leaves read reads zero found text h few are = missing _
  items-leaves read reads (suc n) found text h few are =
      let start = skip_blank text in
      let short = short-skip_from true false text h in
      holds-if (Leaves AreFew) _ _ _ (there _ ((omega arith, are), short-drop 1 start short))
      (holds-then (Leaves (IsWithin b)) (Leaves AreFew) _ (read start) (reads start short) (λ v q.
      holds-then IsShort (Leaves AreFew) _ (after_element right_bracket v.1) (after_element-leaves right_bracket v.1 q.1) (λ rest r.
      items-leaves read reads n (push_item found v.0) rest r (omega (arith, push-count found v.0)) (push-within found v.0 are q.0))))

  members-leaves : (read : List ℕ → Read Data) → ReadsValues read → (n : ℕ) (found : Nodes) (text : List ℕ) → IsShort text → NodesAreWithin 0 found → Holds (Leaves (MembersAreWithin b)) (members read n found text)
  unfolding members
  members-leaves read reads zero found text h are = missing _
  members-leaves read reads (suc n) found text h are =
      let start = skip_blank text in
      let short = short-skip_from true false text h in
      holds-if (Leaves (MembersAreWithin b)) _ _ _ (there _ (close-within 0 found (omega arith) are, short-drop 1 start short))
      (holds-then (Leaves (λ e. IsWithin b e.1)) (Leaves (MembersAreWithin b)) _ (keyval read start) (keyval-leaves read reads start short) (λ e q.
      holds-then (NodesAreWithin 0) (Leaves (MembersAreWithin b)) _ (put e.0.0 e.0.1 found) (put-grows 0 e.0.0 e.0.1 q.0 found are) (λ more s.
      holds-then IsShort (Leaves (MembersAreWithin b)) _ (after_element right_brace e.1) (after_element-leaves right_brace e.1 q.1) (λ rest r.
      members-leaves read reads n more rest r s))))

  val-leaves : (depth : ℕ) → ReadsValues (val depth)
  unfolding val
  val-leaves zero text h = atom-leaves text h
  val-leaves (suc depth) text h =
      holds-if (Leaves (IsWithin b)) _ _ _
      (holds-map (Leaves AreFew) (Leaves (IsWithin b)) _ (items (val depth) (length text) no_items (drop 1 text)) (items-leaves (val depth) (val-leaves depth) (length text) no_items (drop 1 text) (short-drop 1 text h) (omega (arith, h)) tt) (λ ds q. q))
      (holds-if (Leaves (IsWithin b)) _ _ _
      (holds-map (Leaves (MembersAreWithin b)) (Leaves (IsWithin b)) _ (members (val depth) (length text) no_nodes (drop 1 text)) (members-leaves (val depth) (val-leaves depth) (length text) no_nodes (drop 1 text) (short-drop 1 text h) tt) (λ ms q. q))
      (atom-leaves text h))

  -- ---- documents

  header_key-leaves : (text : List ℕ) → IsShort text → Holds (Leaves Anything) (header_key text)
  unfolding header_key
  header_key-leaves text h =
      holds-then (Leaves Anything) (Leaves Anything) _ (key (skip_ws text)) (key_after-leaves recursion_limit [] (skip_ws text) (short-skip_ws text h)) (λ k q.
      holds-map IsShort (Leaves Anything) _ (after_byte right_bracket k.1) (after_byte-leaves right_bracket k.1 q.1) (λ rest short. (tt, short)))

  abbrev ExpressionIsWithin : Expression → Type 0
  ExpressionIsWithin e = DefinitionIsWithin e.1

  expression-leaves : (text : List ℕ) → IsShort text → Holds (Leaves ExpressionIsWithin) (expression text)
  unfolding expression
  expression-leaves text h =
      holds-if (Leaves ExpressionIsWithin) _ _ _
      (holds-then (Leaves Anything) (Leaves ExpressionIsWithin) _ (header_key (drop 2 text)) (header_key-leaves (drop 2 text) (short-drop 2 text h)) (λ k q.
      holds-map IsShort (Leaves ExpressionIsWithin) _ (after_byte right_bracket k.1) (after_byte-leaves right_bracket k.1 q.1) (λ rest short. (tt, short))))
      (holds-if (Leaves ExpressionIsWithin) _ _ _
      (holds-map (Leaves Anything) (Leaves ExpressionIsWithin) _ (header_key (drop 1 text)) (header_key-leaves (drop 1 text) (short-drop 1 text h)) (λ k q. q))
      (holds-map (Leaves (λ e. IsWithin b e.1)) (Leaves ExpressionIsWithin) _ (keyval (val recursion_limit) text) (keyval-leaves (val recursion_limit) (val-leaves recursion_limit) text h) (λ p q. q)))

  line-leaves : (text : List ℕ) → IsShort text → Holds (Leaves ExpressionIsWithin) (line text)
  unfolding line
  line-leaves text h =
      holds-then (Leaves ExpressionIsWithin) (Leaves ExpressionIsWithin) _ (expression text) (expression-leaves text h) (λ e q. holds-if (Leaves ExpressionIsWithin) _ _ _ (there _ q) (missing _))

  abbrev DocumentIsWithin : ℕ → Document → Type 0
  DocumentIsWithin k doc = NodesAreWithin k doc.0

  define-within : (k : ℕ) (doc : Document) (e : Expression) → k ≤ b → DocumentIsWithin k doc → ExpressionIsWithin e → Holds (DocumentIsWithin (suc k)) (define doc e)
  unfolding define
  define-within k doc (key, key_value d) le h is =
      holds-map (NodesAreWithin (suc k)) (DocumentIsWithin (suc k)) _ (along_header doc.1 (put key d) doc.0)
      (along_header-grows (suc k) (suc k) doc.1 (put key d) (omega arith) (put-grows (suc k) key d is) doc.0 (nodes-more k (suc k) doc.0 (omega arith) h)) (λ root q. q)
  define-within k doc (key, std_table) le h is =
      holds-map (NodesAreWithin (suc k)) (DocumentIsWithin (suc k)) _ (along_header key.0 (at_key key.1 std_table) doc.0)
      (along_header-grows k (suc k) key.0 (at_key key.1 std_table) (omega arith) (at_key-grows k key.1 std_table le tt) doc.0 h) (λ root q. q)
  define-within k doc (key, array_table) le h is =
      holds-map (NodesAreWithin (suc k)) (DocumentIsWithin (suc k)) _ (along_header key.0 (at_key key.1 array_table) doc.0)
      (along_header-grows k (suc k) key.0 (at_key key.1 array_table) (omega arith) (at_key-grows k key.1 array_table le tt) doc.0 h) (λ root q. q)

  lines-within : (n k : ℕ) (doc : Document) (text : List ℕ) → k + n ≤ b → IsShort text → DocumentIsWithin k doc → Holds (DocumentIsWithin b) (lines n doc text)
  unfolding lines
  lines-within zero k doc text le short h = missing _
  lines-within (suc n) k doc text le short h =
      let start = skip_blank text in
      let few = short-skip_from true false text short in
      holds-if (DocumentIsWithin b) _ _ _ (there _ (nodes-more k b doc.0 (omega arith) h))
      (holds-then (Leaves ExpressionIsWithin) (DocumentIsWithin b) _ (line start) (line-leaves start few) (λ e q.
      holds-then (DocumentIsWithin (suc k)) (DocumentIsWithin b) _ (define doc e.0) (define-within k doc e.0 (omega arith) h q.0) (λ next r.
      lines-within n (suc k) next e.1 (omega arith) q.1 r)))

  short-bom : (text : List ℕ) → IsShort text → IsShort (skip_bom text)
  unfolding skip_bom
  short-bom text h = at-if IsShort _ (drop 3 text) text (short-drop 3 text h) h

  pub document-within : (text : List ℕ) (doc : Members) → length text < b → parse_document text ≡ Some doc → MembersAreWithin b doc
  unfolding parse_document
  document-within text doc short is =
      let start = skip_bom text in
      holds-of (MembersAreWithin b) (option_map (λ d. close d.0) (lines (suc (length text)) (no_nodes, []) start)) doc is
      (holds-map (DocumentIsWithin b) (MembersAreWithin b) (λ d. close d.0) (lines (suc (length text)) (no_nodes, []) start)
      (lines-within (suc (length text)) 0 (no_nodes, []) start (omega arith) (short-bom text (omega arith)) tt)
      (λ d q. close-within b d.0 (omega arith) q))
