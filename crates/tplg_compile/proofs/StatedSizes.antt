-- What a text of at most 1048576 bytes states is within the limits of the builder.
use Rattle.std.proofs.Common.{◌≡◌, ℕ, suc, ◌+◌, ◌*◌, ◌≤◌, ◌%◌, Bool, true, ◌==◌, List, [], ◌∷◌, ◌++◌, length, length-append, Option, Some, None, Result, Ok, Err, codes, nat_cmp, refl, sym, ◌∙◌, subst, arith}
use Rattle.std.specs.Prelude.{nat_le, option_map}
use Rattle.std.specs.List.{list_all}
use Rattle.std.specs.Option.{option_to_list, option_map_or}
use Rattle.std.specs.Result.{result_ok}
use Rattle.std.specs.Cmp.Lexicographic.{slice_cmp}
use Rattle.std.proofs.lemmas.Bool.{le-leb}
use Rattle.hex.specs.Hex as hex
use Rattle.hex.specs.declared.error.FromHexError.{FromHexError}
use Rattle.hex.specs.declared.error.FromHexError.TheVariants.{OddLength}
use Rattle.toml.specs.Data.{Data, string, integer, float, boolean, datetime, array, table, Items, no_items, item, Members, no_members, member, get_member, as_str, as_array, as_table}
use Rattle.tplg_model.specs.declared.block.Topology.{Topology}
use Rattle.tplg_build.specs.declared.source.WidgetKind.{WidgetKind}
use Rattle.tplg_build.specs.declared.source.WidgetKind.TheVariants as widget
use Rattle.tplg_build.specs.declared.source.SourceControl.{SourceControl}
use Rattle.tplg_build.specs.declared.source.SourceControl.TheVariants.{Volume, Choice, Blob}
use Rattle.tplg_build.specs.declared.source.SourceWidget.{SourceWidget}
use Rattle.tplg_build.specs.declared.source.TopologySource.{TopologySource}
use Rattle.tplg_build.specs.TopologyForm.{topology_stated}
use Rattle.tplg_build.specs.SmallSource.{is_small_control, is_small_widget, is_small_source}
use Rattle.tplg_compile.specs.Outcomes.{◌>>=◌}
use Rattle.tplg_compile.specs.ValueForm.{blob_of, item_list, each, in_table, required_at, optional_at, only, number_of, signed_of, filled_of, name_of, index_of}
use Rattle.tplg_compile.specs.KeyTables.{Keyed, number_tokens, text_tokens, widget_keys}
use Rattle.tplg_compile.specs.ProgramValues.{pga_keys, mux_keys, effect_keys, document_keys, perhaps}
use Rattle.tplg_compile.specs.DocumentLists.{Lists, are_tables, entries_of, entries_at, lists_of}
use Rattle.tplg_compile.specs.NumberedEntries.{HasNumberedEntries}
use Rattle.tplg_compile.specs.Entries.{tuples_at, stated_number, stated_text, stated_volume, stated_choice, stated_blob, stated_control, stated_kind, stated_widget, stated_route, items_of}
use Rattle.tplg_compile.specs.Source.{IsSourceOf}
use Rattle.tplg_compile.specs.InOrder.{source_of}
use Rattle.tplg_compile.specs.Compiled.{IsDocument}
use Rattle.tplg_compile.proofs.SourceLaws.{source_is, source_again}
use Rattle.tplg_compile.proofs.ReadSizes.{Holds, missing, there, held, holds-of, holds-if, holds-map, at-if, by-ordering, item_count, IsWithin, ItemsAreWithin, MembersAreWithin, document-within}

-- ---- steps

after : {A B : Type 0} (P : A → Type 0) (Q : B → Type 0) (o : Option A) (f : A → Option B) → Holds P o → ((x : A) → P x → Holds Q (f x)) → Holds Q (o >>= f)
after P Q None f h by = missing Q
after P Q (Some x) f h by = by x (held P x h)

after-any : {A B : Type 0} (Q : B → Type 0) (o : Option A) (f : A → Option B) → ((x : A) → Holds Q (f x)) → Holds Q (o >>= f)
after-any Q None f by = missing Q
after-any Q (Some x) f by = by x

-- ---- blobs

decoded-more : (n byte : ℕ) (r : Result (List ℕ) FromHexError) → Holds (λ bytes. 2 * length bytes ≤ n) (result_ok r) → Holds (λ bytes. 2 * length bytes ≤ n + 2) (result_ok (hex.◌>>=◌ r (λ bytes. Ok (byte ∷ bytes))))
decoded-more n byte (Ok bytes) h =
    let few = held (λ bytes. 2 * length bytes ≤ n) bytes h in
    let more : 2 * length (byte ∷ bytes) ≤ n + 2 = omega (arith, few) in
    there {x = byte ∷ bytes} (λ bytes. 2 * length bytes ≤ n + 2) more
decoded-more n byte (Err fault) h = missing _

decoded-then : {A : Type 0} (Q : List ℕ → Type 0) (r : Result A FromHexError) (f : A → Result (List ℕ) FromHexError) → ((x : A) → Holds Q (result_ok (f x))) → Holds Q (result_ok (hex.◌>>=◌ r f))
decoded-then Q (Ok x) f by = by x
decoded-then Q (Err fault) f by = missing Q

pairs-half : (i : ℕ) (text : List ℕ) → Holds (λ bytes. 2 * length bytes ≤ length text) (result_ok (hex.decode_pairs i text))
unfolding hex.decode_pairs
pairs-half i [] = let none : 2 * length {A = ℕ} [] ≤ 0 = omega arith in there {x = []} (λ bytes. 2 * length bytes ≤ 0) none
pairs-half i (digit ∷ []) = missing _
pairs-half i (high ∷ low ∷ rest) =
    let rest_half = decoded-then (λ bytes. 2 * length bytes ≤ length rest + 2) (hex.pair_value high low i) (λ byte. hex.◌>>=◌ (hex.decode_pairs (i + 2) rest) (λ bytes. Ok (byte ∷ bytes))) (λ byte. decoded-more (length rest) byte (hex.decode_pairs (i + 2) rest) (pairs-half (i + 2) rest)) in
    let same : length rest + 2 ≡ suc (suc (length rest)) = omega arith in
    subst (λ n. Holds (λ bytes. 2 * length bytes ≤ n) (result_ok (hex.decode_pairs i (high ∷ low ∷ rest)))) same rest_half

decoded-half : (text : List ℕ) → Holds (λ bytes. 2 * length bytes ≤ length text) (result_ok (hex.decode_of text))
decoded-half text = at-if (λ r. Holds (λ bytes. 2 * length bytes ≤ length text) (result_ok r)) (length text % 2 == 1) (Err OddLength) (hex.decode_pairs 0 text) (missing _) (pairs-half 0 text)

-- ---- lists

every-item : {A : Type 0} (o : Option A) → length (option_to_list o) ≤ 1
every-item None = omega arith
every-item (Some x) = omega arith

tuples-few : {A : Type 0} (read : ℕ → Data → Option A) (ks : List Keyed) (entry : Members) → Holds (λ xs. length xs ≤ length ks) (tuples_at read ks entry)
unfolding tuples_at optional_at
tuples-few read [] entry = there _ (omega arith)
tuples-few {A} read (k ∷ ks) entry =
    after-any (λ (xs : List A). length xs ≤ suc (length ks)) (perhaps (read k.1) (get_member k.0 entry)) _ (λ (found : Option A).
    after (λ (more : List A). length more ≤ length ks) (λ (xs : List A). length xs ≤ suc (length ks)) (tuples_at read ks entry) _ (tuples-few read ks entry) (λ more few.
    let fits : length (option_to_list found ++ more) ≤ suc (length ks) = omega (arith, length-append (option_to_list found) more, every-item found, few) in
    there {x = option_to_list found ++ more} (λ (xs : List A). length xs ≤ suc (length ks)) fits))

list-count : (ds : Items) → length (item_list ds) ≡ item_count ds
list-count no_items = refl
list-count (item d ds) = omega (arith, list-count ds)

module _ (b : ℕ) where
  abbrev AllWithin : List Data → Type 0
  AllWithin [] = Unit {0}
  AllWithin (d ∷ ds) = IsWithin b d × AllWithin ds

  list-within : (ds : Items) → ItemsAreWithin b ds → AllWithin (item_list ds)
  list-within no_items h = tt
  list-within (item d ds) h = (h.0, list-within ds h.1)

  -- at most b entries, each within b
  abbrev IsBoundedList : List Data → Type 0
  IsBoundedList ds = (length ds ≤ b) × AllWithin ds

  -- ---- look-ups

  member-within : (k : List ℕ) (ms : Members) → MembersAreWithin b ms → Holds (IsWithin b) (get_member k ms)
  member-within k no_members h = missing _
  member-within k (member l d ms) h =
      by-ordering (Holds (IsWithin b)) (slice_cmp nat_cmp k l) (get_member k ms) (Some d) (get_member k ms) (member-within k ms h.1) (there (IsWithin b) h.0) (member-within k ms h.1)

  abbrev AreFewItems : Items → Type 0
  AreFewItems ds = (item_count ds ≤ b) × ItemsAreWithin b ds

  array-within : (d : Data) → IsWithin b d → Holds AreFewItems (as_array d)
  array-within (string s) h = missing _
  array-within (integer z) h = missing _
  array-within (float x) h = missing _
  array-within (boolean x) h = missing _
  array-within (datetime dt) h = missing _
  array-within (array ds) h = there AreFewItems h
  array-within (table ms) h = missing _

  table-within : (d : Data) → IsWithin b d → Holds (MembersAreWithin b) (as_table d)
  table-within (string s) h = missing _
  table-within (integer z) h = missing _
  table-within (float x) h = missing _
  table-within (boolean x) h = missing _
  table-within (datetime dt) h = missing _
  table-within (array ds) h = missing _
  table-within (table ms) h = there (MembersAreWithin b) h

  abbrev IsBoundedText : List ℕ → Type 0
  IsBoundedText text = length text ≤ 4 * b

  text-within : (d : Data) → IsWithin b d → Holds IsBoundedText (as_str d)
  text-within (string s) h = there IsBoundedText h
  text-within (integer z) h = missing _
  text-within (float x) h = missing _
  text-within (boolean x) h = missing _
  text-within (datetime dt) h = missing _
  text-within (array ds) h = missing _
  text-within (table ms) h = missing _

  in_table-holds : {A : Type 0} (P : A → Type 0) (read : Members → Option A) (d : Data) → IsWithin b d → ((entry : Members) → MembersAreWithin b entry → Holds P (read entry)) → Holds P (in_table read d)
  unfolding in_table
  in_table-holds P read d h by = after (MembersAreWithin b) P (as_table d) _ (table-within d h) by

  -- ---- the lists of a document

  entries-bounded : (d : Data) → IsWithin b d → Holds IsBoundedList (entries_of d)
  unfolding entries_of
  entries-bounded d h =
      after IsBoundedList IsBoundedList (option_map item_list (as_array d)) _
      (holds-map AreFewItems IsBoundedList item_list (as_array d) (array-within d h) (λ ds few. (omega (arith, list-count ds, few.0), list-within ds few.1)))
      (λ ds bounded. holds-if IsBoundedList (are_tables ds) (Some ds) None (there IsBoundedList bounded) (missing _))

  absent-bounded : (o : Option Data) → Holds (IsWithin b) o → Holds IsBoundedList (option_map_or entries_of o (Some []))
  absent-bounded None h = there IsBoundedList (omega arith, tt)
  absent-bounded (Some d) h = entries-bounded d (held (IsWithin b) d h)

  at-bounded : (key : List ℕ) (doc : Members) → MembersAreWithin b doc → Holds IsBoundedList (entries_at key doc)
  unfolding entries_at
  at-bounded key doc h = absent-bounded (get_member key doc) (member-within key doc h)

  abbrev AreBoundedLists : Lists → Type 0
  AreBoundedLists lists = IsBoundedList lists.widgets × (IsBoundedList lists.routes × IsBoundedList lists.pcms)

  lists-bounded : (doc : Members) → MembersAreWithin b doc → Holds AreBoundedLists (lists_of doc)
  unfolding lists_of
  lists-bounded doc h =
      after-any AreBoundedLists (only document_keys doc) _ (λ known.
      after IsBoundedList AreBoundedLists (entries_at (codes "widget") doc) _ (at-bounded (codes "widget") doc h) (λ widgets w.
      after IsBoundedList AreBoundedLists (entries_at (codes "route") doc) _ (at-bounded (codes "route") doc h) (λ routes r.
      after IsBoundedList AreBoundedLists (entries_at (codes "pcm") doc) _ (at-bounded (codes "pcm") doc h) (λ pcms p.
      there {x = record { widgets = widgets; routes = routes; pcms = pcms }} AreBoundedLists (w, (r, p))))))

  -- ---- what entries state

  abbrev AllPass : {A : Type 0} → (A → Bool) → ℕ → List A → Type 0
  AllPass p n xs = (list_all p xs ≡ true) × (length xs ≡ n)

  each-pass : {A : Type 0} (p : A → Bool) (read : Data → Option A) (ds : List Data) → ((d : Data) → IsWithin b d → Holds (λ x. p x ≡ true) (read d)) → AllWithin ds → Holds (AllPass p (length ds)) (each read ds)
  unfolding each
  each-pass p read [] passes h = there (AllPass p 0) (refl, refl)
  each-pass {A} p read (d ∷ ds) passes h =
      after (λ (x : A). p x ≡ true) (AllPass p (suc (length ds))) (read d) _ (passes d h.0) (λ x is.
      after (AllPass p (length ds)) (AllPass p (suc (length ds))) (each read ds) _ (each-pass p read ds passes h.1) (λ xs are.
      let count : length (x ∷ xs) ≡ suc (length ds) = omega (arith, are.1) in
      there {x = x ∷ xs} (AllPass p (suc (length ds))) (rw (is, are.0) refl, count)))

  module _ (least : b ≤ 2000000) where
    abbrev IsBlob : List ℕ → Type 0
    IsBlob bytes = nat_le (length bytes) 4000000 ≡ true

    blob-small : (d : Data) → IsWithin b d → Holds IsBlob (blob_of d)
    unfolding blob_of
    blob-small d h = after IsBoundedText IsBlob (as_str d) _ (text-within d h) (λ text short. small text short (result_ok (hex.decode_of text)) (decoded-half text))
      where
        small : (text : List ℕ) → IsBoundedText text → (o : Option (List ℕ)) → Holds (λ bytes. 2 * length bytes ≤ length text) o → Holds IsBlob o
        small text short None half = missing _
        small text short (Some bytes) half = there IsBlob (le-leb (length bytes) 4000000 (omega (arith, least, short, held (λ bytes. 2 * length bytes ≤ length text) bytes half)))

    abbrev IsSmall : SourceControl → Type 0
    IsSmall control = is_small_control control ≡ true

    volume-small : (entry : Members) → Holds IsSmall (stated_volume entry)
    unfolding stated_volume
    volume-small entry =
        after-any IsSmall (only pga_keys entry) _ (λ known.
        after-any IsSmall (required_at filled_of (codes "name") entry) _ (λ name.
        after-any IsSmall (required_at number_of (codes "channels") entry) _ (λ channels.
        after-any IsSmall (required_at signed_of (codes "min") entry) _ (λ min.
        after-any IsSmall (required_at signed_of (codes "max") entry) _ (λ max.
        after-any IsSmall (required_at signed_of (codes "tlv_min") entry) _ (λ tlv_min.
        after-any IsSmall (required_at number_of (codes "tlv_step") entry) _ (λ tlv_step.
        after-any IsSmall (required_at number_of (codes "tlv_mute") entry) _ (λ tlv_mute.
        there {x = Volume name channels min max tlv_min tlv_step tlv_mute} IsSmall refl))))))))

    choice-small : (entry : Members) → Holds IsSmall (stated_choice entry)
    unfolding stated_choice
    choice-small entry =
        after-any IsSmall (only mux_keys entry) _ (λ known.
        after-any IsSmall (required_at filled_of (codes "name") entry) _ (λ name.
        after-any IsSmall (required_at items_of (codes "items") entry) _ (λ items. there {x = Choice name items} IsSmall refl)))

    required-blob : (key : List ℕ) (entry : Members) → MembersAreWithin b entry → Holds IsBlob (required_at blob_of key entry)
    unfolding required_at
    required-blob key entry h = after (IsWithin b) IsBlob (get_member key entry) _ (member-within key entry h) blob-small

    data-small : (entry : Members) → MembersAreWithin b entry → Holds IsSmall (stated_blob entry)
    unfolding stated_blob
    data-small entry h =
        after-any IsSmall (only effect_keys entry) _ (λ known.
        after-any IsSmall (required_at filled_of (codes "name") entry) _ (λ name.
        after-any IsSmall (required_at number_of (codes "max") entry) _ (λ max.
        after IsBlob IsSmall (required_at blob_of (codes "blob") entry) _ (required-blob (codes "blob") entry h) (λ blob is. there {x = Blob name max blob} IsSmall is))))

    control-small : (kind : WidgetKind) (entry : Members) → MembersAreWithin b entry → Holds IsSmall (stated_control kind entry)
    control-small widget.Pga entry h = volume-small entry
    control-small widget.Mux entry h = choice-small entry
    control-small widget.Effect entry h = data-small entry h
    control-small _ entry h = missing _

    abbrev IsSmallIfAny : Option SourceControl → Type 0
    IsSmallIfAny control = list_all is_small_control (option_to_list control) ≡ true

    optional-small : (kind : WidgetKind) (key : List ℕ) (entry : Members) → MembersAreWithin b entry → Holds IsSmallIfAny (optional_at (in_table (stated_control kind)) key entry)
    unfolding optional_at
    optional-small kind key entry h = by (get_member key entry) (member-within key entry h)
      where
        by : (o : Option Data) → Holds (IsWithin b) o → Holds IsSmallIfAny (perhaps (in_table (stated_control kind)) o)
        by None is = there {x = None} IsSmallIfAny refl
        by (Some d) is =
            holds-map IsSmall IsSmallIfAny Some (in_table (stated_control kind) d) (in_table-holds IsSmall (stated_control kind) d (held (IsWithin b) d is) (control-small kind)) (λ control small. rw small refl)

    abbrev IsSmallWidget : SourceWidget → Type 0
    IsSmallWidget w = is_small_widget w ≡ true

    widget-small : (entry : Members) → MembersAreWithin b entry → Holds IsSmallWidget (stated_widget entry)
    unfolding stated_widget is_small_widget
    widget-small entry h =
        after-any IsSmallWidget (only widget_keys entry) _ (λ known.
        after-any IsSmallWidget (required_at stated_kind (codes "kind") entry) _ (λ kind.
        after-any IsSmallWidget (required_at filled_of (codes "name") entry) _ (λ name.
        after-any IsSmallWidget (required_at index_of (codes "index") entry) _ (λ index.
        after-any IsSmallWidget (optional_at name_of (codes "sname") entry) _ (λ sname.
        after (λ xs. length xs ≤ 14) IsSmallWidget (tuples_at stated_number number_tokens entry) _ (tuples-few stated_number number_tokens entry) (λ numbers n.
        after (λ xs. length xs ≤ 3) IsSmallWidget (tuples_at stated_text text_tokens entry) _ (tuples-few stated_text text_tokens entry) (λ texts t.
        after IsSmallIfAny IsSmallWidget (optional_at (in_table (stated_control kind)) (codes "control") entry) _ (optional-small kind (codes "control") entry h) (λ control small.
        there IsSmallWidget (rw (le-leb (length numbers) 1000000 (omega (arith, n)), le-leb (length texts) 1000000 (omega (arith, t)), le-leb (length (option_to_list control)) 1000 (omega (arith, every-item control)), small) refl)))))))))

    source-small : (doc : Members) (t : Topology) (is : IsSourceOf doc t) → MembersAreWithin b doc → is_small_source is.source ≡ true
    unfolding is_small_source
    source-small doc t is h =
        let lists = holds-of AreBoundedLists (lists_of doc) is.lists is.has_lists (lists-bounded doc h) in
        let widgets = holds-of (AllPass is_small_widget (length (is.lists).widgets)) (each (in_table stated_widget) (is.lists).widgets) (is.source).widgets is.widgets
        (each-pass is_small_widget (in_table stated_widget) (is.lists).widgets (λ d within. in_table-holds IsSmallWidget stated_widget d within widget-small) lists.0.1) in
        let routes = holds-of (AllPass (λ route. true) (length (is.lists).routes)) (each (in_table stated_route) (is.lists).routes) (is.source).routes is.routes
        (each-pass (λ route. true) (in_table stated_route) (is.lists).routes (λ d within. any-route (in_table stated_route d)) lists.1.0.1) in
        rw (widgets.0, le-leb (length (is.source).widgets) 4294967295 (omega (arith, least, lists.0.0, widgets.1)), le-leb (length (is.source).routes) 32000000 (omega (arith, least, lists.1.0.0, routes.1))) refl
      where
        any-route : {A : Type 0} (o : Option A) → Holds (λ x. true ≡ true) o
        any-route None = missing _
        any-route (Some x) = there {x = x} (λ x. true ≡ true) refl

-- ---- all of it

module _ (text : List ℕ) (doc : Members) (short : length text ≤ 1048576) (document : IsDocument text doc) where
  within : MembersAreWithin 1048577 doc
  within = document-within 1048577 text doc (omega (arith, short)) document.parsed

  -- the builder has room for what such a text states
  pub short-small : (t : Topology) (is : IsSourceOf doc t) → is_small_source is.source ≡ true
  short-small t is = source-small 1048577 (omega arith) doc t is within

  pub stated-small : (source : TopologySource) → source_of doc ≡ Ok source → is_small_source source ≡ true
  stated-small source stated =
      let is = source_is doc source stated in
      let same : is.source ≡ source = cc (sym (source_again doc (topology_stated source) is) ∙ stated) in
      subst (λ (s : TopologySource). is_small_source s ≡ true) same (short-small (topology_stated source) is)

  -- and a word numbers the entries of each list
  pub short-numbered : HasNumberedEntries doc
  short-numbered lists is =
      let bounded = holds-of (AreBoundedLists 1048577) (lists_of doc) lists is (lists-bounded 1048577 doc within) in
      record { widgets = omega (arith, bounded.0.0); routes = omega (arith, bounded.1.0.0); pcms = omega (arith, bounded.1.1.0) }
