-- What words of each form ask for: no words have two forms.
use Rattle.std.proofs.Common.{◌≡◌, ℕ, ◌≤◌, nat_le, ◌&&◌, Bool, true, false, List, [], ◌∷◌, Option, Some, None, refl, sym, ◌∙◌, ap, subst, codes, if◌then◌else◌}
use Rattle.std.specs.Prelude.{option_map, Ok, Err}
use Rattle.std.specs.Result.{result_ok}
use Rattle.std.specs.Option.{option_or, option_and_then}
use Rattle.std.specs.Str.{bytes_eq}
use Rattle.std.proofs.lemmas.Bool.{false≢true, and_parts, leb-true}
use Rattle.std.proofs.lemmas.Slice.Eq.{bytes_eq-Decides}
use Rattle.sof_script.specs.declared.fault_causes.Cause.{Cause}
use Rattle.sof_script.specs.declared.fault_causes.Cause.TheVariants as causes
use Rattle.sof_script.specs.ValueForms.{in_range, decimal_value, number_value}
use Rattle.run_words.specs.Words.{Form, is_file_name, named_by, form_with, untraced_by, untraced_of, dynamic_of, traced_of, play_of, trace_named}
use Rattle.run_words.specs.ToolForms.{check_of, graph_file_of, CompileNames, compile_of, SourceFiles, source_files_of, stress_of}
use Rattle.run_words.specs.TraceForms.{decode_of, replay_of}
use Rattle.run_words.specs.FormParts.{form, source_files}
use Rattle.run_words.specs.Requests.{Request, Play, Check, Picture, Compile, Source, Stress, Decode, Replay, request_of}

-- a value that a test lets through
some_by : {A : Type 0} (b : Bool) (o : Option A) (a : A) → (if b then o else None) ≡ Some a → (b ≡ true) × (o ≡ Some a)
some_by true o a is = (refl, is)
some_by false o a is = absurd (cc is)

-- ---- what is asked for

pub play_asked : (room : ℕ) (words : List (List ℕ)) (form : Form) → play_of room words ≡ Some form → request_of room words ≡ Some (Play form)
play_asked room words form is = rw is refl

pub check_asked : (room : ℕ) (words : List (List ℕ)) (name : List ℕ) → check_of words ≡ Some name → request_of room words ≡ Some (Check name)
check_asked room [] name is = absurd (cc is)
check_asked room (verb ∷ []) name is = absurd (cc is)
check_asked room (verb ∷ topology ∷ []) name is = rw is refl
check_asked room (verb ∷ topology ∷ more ∷ words) name is = absurd (cc is)

pub compile_asked : (room : ℕ) (words : List (List ℕ)) (names : CompileNames) → compile_of words ≡ Some names → request_of room words ≡ Some (Compile names)
compile_asked room [] names is = absurd (cc is)
compile_asked room (verb ∷ []) names is = absurd (cc is)
compile_asked room (verb ∷ source ∷ []) names is = absurd (cc is)
compile_asked room (verb ∷ source ∷ out ∷ []) names is = rw is refl
compile_asked room (verb ∷ source ∷ out ∷ more ∷ words) names is = absurd (cc is)

-- a verb is not two
not_both : (verb one other : List ℕ) → bytes_eq verb one ≡ true → bytes_eq verb other ≡ bytes_eq one other
not_both verb one other is = ap (λ v. bytes_eq v other) ((bytes_eq-Decides verb one).0 is)

-- the verb of words that name a file
verb_is : (word verb file name : List ℕ) → named_by word (verb ∷ file ∷ []) ≡ Some name → bytes_eq verb word ≡ true
verb_is word verb file name is = (and_parts (bytes_eq verb word) (is_file_name file) (some_by (bytes_eq verb word && is_file_name file) (Some file) name is).0).0

pub graph_asked : (room : ℕ) (words : List (List ℕ)) (name : List ℕ) → graph_file_of words ≡ Some name → request_of room words ≡ Some (Picture name)
graph_asked room [] name is = absurd (cc is)
graph_asked room (verb ∷ []) name is = absurd (cc is)
graph_asked room (verb ∷ topology ∷ []) name is =
    let same : bytes_eq verb (codes "graph") ≡ true = verb_is (codes "graph") verb topology name is in
    let no_check : bytes_eq verb (codes "check") ≡ false = not_both verb (codes "graph") (codes "check") same in
    rw (no_check, is) refl
graph_asked room (verb ∷ topology ∷ more ∷ words) name is = absurd (cc is)

pub source_asked : (room : ℕ) (words : List (List ℕ)) (files : SourceFiles) → source_files_of words ≡ Some files → request_of room words ≡ Some (Source files)
source_asked room [] files is = absurd (cc is)
source_asked room (verb ∷ []) files is = absurd (cc is)
source_asked room (verb ∷ topology ∷ []) files is = absurd (cc is)
source_asked room (verb ∷ topology ∷ out ∷ []) files is =
    let named = is_file_name topology && is_file_name out in
    let same = (and_parts (bytes_eq verb (codes "source")) named (some_by (bytes_eq verb (codes "source") && named) (Some (source_files topology out)) files is).0).0 in
    let no_compile : bytes_eq verb (codes "compile") ≡ false = not_both verb (codes "source") (codes "compile") same in
    rw (no_compile, is) refl
source_asked room (verb ∷ topology ∷ out ∷ more ∷ words) files is = absurd (cc is)

pub stress_asked : (room : ℕ) (words : List (List ℕ)) (seed : ℕ) → stress_of words ≡ Some seed → request_of room words ≡ Some (Stress seed)
stress_asked room [] seed is = absurd (cc is)
stress_asked room (verb ∷ []) seed is = absurd (cc is)
stress_asked room (verb ∷ number ∷ []) seed is =
    let same = (some_by (bytes_eq verb (codes "stress")) (result_ok (number_value 1 1000 number)) seed is).0 in
    let no_check : bytes_eq verb (codes "check") ≡ false = not_both verb (codes "stress") (codes "check") same in
    let no_graph : bytes_eq verb (codes "graph") ≡ false = not_both verb (codes "stress") (codes "graph") same in
    rw (no_check, no_graph, is) refl
stress_asked room (verb ∷ number ∷ more ∷ words) seed is = absurd (cc is)

pub decode_asked : (room : ℕ) (words : List (List ℕ)) (name : List ℕ) → decode_of words ≡ Some name → request_of room words ≡ Some (Decode name)
decode_asked room [] name is = absurd (cc is)
decode_asked room (verb ∷ []) name is = absurd (cc is)
decode_asked room (verb ∷ trace ∷ []) name is =
    let same : bytes_eq verb (codes "decode") ≡ true = verb_is (codes "decode") verb trace name is in
    let no_check : bytes_eq verb (codes "check") ≡ false = not_both verb (codes "decode") (codes "check") same in
    let no_graph : bytes_eq verb (codes "graph") ≡ false = not_both verb (codes "decode") (codes "graph") same in
    let no_stress : bytes_eq verb (codes "stress") ≡ false = not_both verb (codes "decode") (codes "stress") same in
    rw (no_check, no_graph, no_stress, is) refl
decode_asked room (verb ∷ trace ∷ more ∷ words) name is = absurd (cc is)

pub replay_asked : (room : ℕ) (words : List (List ℕ)) (name : List ℕ) → replay_of words ≡ Some name → request_of room words ≡ Some (Replay name)
replay_asked room [] name is = absurd (cc is)
replay_asked room (verb ∷ []) name is = absurd (cc is)
replay_asked room (verb ∷ trace ∷ []) name is =
    let same : bytes_eq verb (codes "replay") ≡ true = verb_is (codes "replay") verb trace name is in
    let no_check : bytes_eq verb (codes "check") ≡ false = not_both verb (codes "replay") (codes "check") same in
    let no_graph : bytes_eq verb (codes "graph") ≡ false = not_both verb (codes "replay") (codes "graph") same in
    let no_stress : bytes_eq verb (codes "stress") ≡ false = not_both verb (codes "replay") (codes "stress") same in
    let no_decode : bytes_eq verb (codes "decode") ≡ false = not_both verb (codes "replay") (codes "decode") same in
    rw (no_check, no_graph, no_stress, no_decode, is) refl
replay_asked room (verb ∷ trace ∷ more ∷ words) name is = absurd (cc is)

-- what asks for a replay has its form
pub replay_meant : (room : ℕ) (words : List (List ℕ)) (name : List ℕ) → request_of room words ≡ Some (Replay name) → replay_of words ≡ Some name
replay_meant room words name is = by (play_of room words) (check_of words) (graph_file_of words) (compile_of words) (source_files_of words) (stress_of words) (decode_of words) (replay_of words) is
  where
    by : (p : Option Form) (c g : Option (List ℕ)) (s : Option CompileNames) (f : Option SourceFiles) (n : Option ℕ) (d w : Option (List ℕ)) →
        option_or (option_map Play p) (option_or (option_map Check c) (option_or (option_map Picture g) (option_or (option_map Compile s) (option_or (option_map Source f) (option_or (option_map Stress n) (option_or (option_map Decode d) (option_map Replay w))))))) ≡ Some (Replay name) → w ≡ Some name
    by (Some asked) c g s f n d w is = absurd (cc is)
    by None (Some asked) g s f n d w is = absurd (cc is)
    by None None (Some asked) s f n d w is = absurd (cc is)
    by None None None (Some asked) f n d w is = absurd (cc is)
    by None None None None (Some asked) n d w is = absurd (cc is)
    by None None None None None (Some asked) d w is = absurd (cc is)
    by None None None None None None (Some asked) w is = absurd (cc is)
    by None None None None None None None (Some asked) is = cc is
    by None None None None None None None None is = absurd (cc is)

-- a trace is kept only of a play
pub none_kept : (room : ℕ) (words : List (List ℕ)) (r : Option Request) → request_of room words ≡ r → ((form : Form) → r ≡ Some (Play form) → ⊥) → trace_named room words ≡ None
none_kept room words r is other = by (play_of room words) refl
  where
    by : (p : Option Form) → play_of room words ≡ p → option_and_then (λ (form : Form). form.trace) p ≡ None
    by None asked = refl
    by (Some form) asked = absurd (other form (sym is ∙ play_asked room words form asked))

pub kept_of : (room : ℕ) (words : List (List ℕ)) (form : Form) → play_of room words ≡ Some form → trace_named room words ≡ form.trace
kept_of room words form is = ap (option_and_then (λ (form : Form). form.trace)) is

-- what asks for a play has its form
pub play_meant : (room : ℕ) (words : List (List ℕ)) (form : Form) → request_of room words ≡ Some (Play form) → play_of room words ≡ Some form
play_meant room words form is = by (play_of room words) (check_of words) (graph_file_of words) (compile_of words) (source_files_of words) (stress_of words) (decode_of words) (replay_of words) is
  where
    by : (p : Option Form) (c g : Option (List ℕ)) (s : Option CompileNames) (f : Option SourceFiles) (n : Option ℕ) (d w : Option (List ℕ)) →
        option_or (option_map Play p) (option_or (option_map Check c) (option_or (option_map Picture g) (option_or (option_map Compile s) (option_or (option_map Source f) (option_or (option_map Stress n) (option_or (option_map Decode d) (option_map Replay w))))))) ≡ Some (Play form) → p ≡ Some form
    by (Some asked) c g s f n d w is = cc is
    by None (Some asked) g s f n d w is = absurd (cc is)
    by None None (Some asked) s f n d w is = absurd (cc is)
    by None None None (Some asked) f n d w is = absurd (cc is)
    by None None None None (Some asked) n d w is = absurd (cc is)
    by None None None None None (Some asked) d w is = absurd (cc is)
    by None None None None None None (Some asked) w is = absurd (cc is)
    by None None None None None None None (Some asked) is = absurd (cc is)
    by None None None None None None None None is = absurd (cc is)

-- an option of no value
none_by : {A : Type 0} (o : Option A) → ((a : A) → o ≡ Some a → ⊥) → o ≡ None
none_by None none = refl
none_by (Some a) none = absurd (none a refl)

-- words that ask for nothing have none of the forms
pub nothing_asked : (room : ℕ) (words : List (List ℕ)) → request_of room words ≡ None → (play_of room words ≡ None) × (check_of words ≡ None) × (graph_file_of words ≡ None) × (compile_of words ≡ None) × (source_files_of words ≡ None) × (stress_of words ≡ None) × (decode_of words ≡ None) × (replay_of words ≡ None)
nothing_asked room words none = (
  none_by (play_of room words) (λ form is. cc (sym none ∙ play_asked room words form is)),
  none_by (check_of words) (λ name is. cc (sym none ∙ check_asked room words name is)),
  none_by (graph_file_of words) (λ name is. cc (sym none ∙ graph_asked room words name is)),
  none_by (compile_of words) (λ names is. cc (sym none ∙ compile_asked room words names is)),
  none_by (source_files_of words) (λ files is. cc (sym none ∙ source_asked room words files is)),
  none_by (stress_of words) (λ seed is. cc (sym none ∙ stress_asked room words seed is)),
  none_by (decode_of words) (λ name is. cc (sym none ∙ decode_asked room words name is)),
  none_by (replay_of words) (λ name is. cc (sym none ∙ replay_asked room words name is)),
)

-- and the other way round
pub formless_asked : (room : ℕ) (words : List (List ℕ)) → play_of room words ≡ None → check_of words ≡ None → graph_file_of words ≡ None → compile_of words ≡ None → source_files_of words ≡ None → stress_of words ≡ None → decode_of words ≡ None → replay_of words ≡ None → request_of room words ≡ None
formless_asked room words no_play no_check no_graph no_compile no_source no_stress no_decode no_replay = rw (no_play, no_check, no_graph, no_compile, no_source, no_stress, no_decode, no_replay) refl

-- ---- its numbers

in_range_most : (least most : ℕ) (o : Option ℕ) (n : ℕ) → result_ok (in_range least most o) ≡ Some n → n ≤ most
in_range_most least most None n is = absurd (cc is)
in_range_most least most (Some m) n is = by (nat_le least m && nat_le m most) refl is
  where
    by : (t : Bool) → (nat_le least m && nat_le m most) ≡ t → result_ok {T = ℕ} {E = Cause} (if t then Ok m else Err causes.Number) ≡ Some n → n ≤ most
    by true test is = let same : m ≡ n = cc is in subst (λ (k : ℕ). k ≤ most) same (leb-true m most (and_parts (nat_le least m) (nat_le m most) test).1)
    by false test is = absurd (cc is)

-- the heap of a form is at most the room, and where pipelines are made on use, no trace is kept
abbrev pub IsFormIn : ℕ → Form → Type 0
IsFormIn room f = (f.heap ≤ room) × (f.on_use ≡ true → f.trace ≡ None)

form_in : (on_use : Bool) (room : ℕ) (heap topology script : List ℕ) (trace : Option (List ℕ)) (f : Form) → (on_use ≡ true → trace ≡ None) →
    form_with on_use (result_ok (number_value 0 room heap)) topology script trace ≡ Some f → IsFormIn room f
form_in on_use room heap topology script trace f untraced is = by (result_ok (number_value 0 room heap)) refl is
  where
    by : (o : Option ℕ) → result_ok (number_value 0 room heap) ≡ o → form_with on_use o topology script trace ≡ Some f → IsFormIn room f
    by None number is = absurd (cc is)
    by (Some n) number is =
        let same : form on_use n topology script trace ≡ f = cc (some_by (is_file_name topology && is_file_name script) (Some (form on_use n topology script trace)) f is).1 in
        subst (IsFormIn room) same (in_range_most 0 room (decimal_value heap) n number, untraced)

untraced_in : (word : List ℕ) (on_use : Bool) (room : ℕ) (words : List (List ℕ)) (f : Form) → untraced_by word on_use room words ≡ Some f → IsFormIn room f
untraced_in word on_use room [] f is = absurd (cc is)
untraced_in word on_use room (verb ∷ []) f is = absurd (cc is)
untraced_in word on_use room (verb ∷ heap ∷ []) f is = absurd (cc is)
untraced_in word on_use room (verb ∷ heap ∷ topology ∷ []) f is = absurd (cc is)
untraced_in word on_use room (verb ∷ heap ∷ topology ∷ script ∷ []) f is =
    form_in on_use room heap topology script None f (λ uses. refl) (some_by (bytes_eq verb word) (form_with on_use (result_ok (number_value 0 room heap)) topology script None) f is).1
untraced_in word on_use room (verb ∷ heap ∷ topology ∷ script ∷ more ∷ words) f is = absurd (cc is)

traced_in : (room : ℕ) (words : List (List ℕ)) (f : Form) → traced_of room words ≡ Some f → IsFormIn room f
traced_in room [] f is = absurd (cc is)
traced_in room (verb ∷ []) f is = absurd (cc is)
traced_in room (verb ∷ heap ∷ []) f is = absurd (cc is)
traced_in room (verb ∷ heap ∷ topology ∷ []) f is = absurd (cc is)
traced_in room (verb ∷ heap ∷ topology ∷ script ∷ []) f is = absurd (cc is)
traced_in room (verb ∷ heap ∷ topology ∷ script ∷ trace ∷ []) f is =
    form_in false room heap topology script (Some trace) f (λ uses. absurd (false≢true uses))
    (some_by (bytes_eq verb (codes "trace") && is_file_name trace) (form_with false (result_ok (number_value 0 room heap)) topology script (Some trace)) f is).1
traced_in room (verb ∷ heap ∷ topology ∷ script ∷ trace ∷ more ∷ words) f is = absurd (cc is)

pub play_in : (room : ℕ) (words : List (List ℕ)) (f : Form) → play_of room words ≡ Some f → IsFormIn room f
play_in room words f is = by (untraced_of room words) refl is
  where
    later : (o : Option Form) → dynamic_of room words ≡ o → option_or o (traced_of room words) ≡ Some f → IsFormIn room f
    later (Some g) dynamic is = untraced_in (codes "dynamic") true room words f (dynamic ∙ is)
    later None dynamic is = traced_in room words f is

    by : (o : Option Form) → untraced_of room words ≡ o → option_or o (option_or (dynamic_of room words) (traced_of room words)) ≡ Some f → IsFormIn room f
    by (Some g) untraced is = untraced_in (codes "play") false room words f (untraced ∙ is)
    by None untraced is = later (dynamic_of room words) refl is

-- the number of a stress is at most 1000
pub stress_most : (words : List (List ℕ)) (seed : ℕ) → stress_of words ≡ Some seed → seed ≤ 1000
stress_most [] seed is = absurd (cc is)
stress_most (verb ∷ []) seed is = absurd (cc is)
stress_most (verb ∷ number ∷ []) seed is =
    in_range_most 1 1000 (decimal_value number) seed (some_by (bytes_eq verb (codes "stress")) (result_ok (number_value 1 1000 number)) seed is).1
stress_most (verb ∷ number ∷ more ∷ words) seed is = absurd (cc is)

-- a form is one of these, and a number at most this
abbrev pub IsWithin : ℕ → Request → Type 0
IsWithin room (Play f) = IsFormIn room f
IsWithin room (Check name) = Unit {0}
IsWithin room (Picture name) = Unit {0}
IsWithin room (Compile names) = Unit {0}
IsWithin room (Source files) = Unit {0}
IsWithin room (Stress seed) = seed ≤ 1000
IsWithin room (Decode name) = Unit {0}
IsWithin room (Replay name) = Unit {0}

pub asked_within : (room : ℕ) (words : List (List ℕ)) (r : Request) → request_of room words ≡ Some r → IsWithin room r
asked_within room words r is = by (play_of room words) refl (check_of words) (graph_file_of words) (compile_of words) (source_files_of words) (stress_of words) refl (decode_of words) (replay_of words) is
  where
    by : (p : Option Form) → play_of room words ≡ p → (c g : Option (List ℕ)) (s : Option CompileNames) (f : Option SourceFiles) (n : Option ℕ) → stress_of words ≡ n → (d w : Option (List ℕ)) →
        option_or (option_map Play p) (option_or (option_map Check c) (option_or (option_map Picture g) (option_or (option_map Compile s) (option_or (option_map Source f) (option_or (option_map Stress n) (option_or (option_map Decode d) (option_map Replay w))))))) ≡ Some r → IsWithin room r
    by (Some asked) is_play c g s f n is_stress d w is = let same : Play asked ≡ r = cc is in subst (IsWithin room) same (play_in room words asked is_play)
    by None is_play (Some name) g s f n is_stress d w is = let same : Check name ≡ r = cc is in subst (IsWithin room) same tt
    by None is_play None (Some name) s f n is_stress d w is = let same : Picture name ≡ r = cc is in subst (IsWithin room) same tt
    by None is_play None None (Some names) f n is_stress d w is = let same : Compile names ≡ r = cc is in subst (IsWithin room) same tt
    by None is_play None None None (Some files) n is_stress d w is = let same : Source files ≡ r = cc is in subst (IsWithin room) same tt
    by None is_play None None None None (Some seed) is_stress d w is = let same : Stress seed ≡ r = cc is in subst (IsWithin room) same (stress_most words seed is_stress)
    by None is_play None None None None None is_stress (Some name) w is = let same : Decode name ≡ r = cc is in subst (IsWithin room) same tt
    by None is_play None None None None None is_stress None (Some name) is = let same : Replay name ≡ r = cc is in subst (IsWithin room) same tt
    by None is_play None None None None None is_stress None None is = absurd (cc is)
