-- The laws of a PCM.
use Rattle.std.proofs.Common.{◌≡◌, ℕ, zero, suc, ◌+◌, ◌-◌, Bool, true, false, ◌&&◌, cond, ltb, List, [], ◌∷◌, ◌++◌, length, take, drop, Result, Ok, Err, refl, sym, ap, subst, ◌∙◌, arith, length-append}
use Rattle.std.proofs.lemmas.List.{take-append-drop}
use Rattle.tplg_model.specs.declared.fault.TplgFault.{TplgFault}
use Rattle.tplg_model.specs.declared.fault.TplgFault.TheVariants.{Payload, Name}
use Rattle.tplg_model.specs.declared.pcm.Caps.{Caps}
use Rattle.tplg_model.specs.declared.pcm.StreamRecord.{StreamRecord}
use Rattle.tplg_model.specs.declared.pcm.Pcm.{Pcm}
use Rattle.sof_base.specs.Cells.{fixed, Fits}
use Rattle.tplg_model.specs.Outcomes.{◌>>=◌}
use Rattle.sof_base.specs.Slots.{Slot, Word, slots_cells, AreSlots, part, word_at, has_name}
use Rattle.sof_base.specs.Layouts.{name_at}
use Rattle.sof_base.specs.Layouts.{Shape, A_word, A_long, A_size, A_name, widths, slots_from, shapes_of}
use Rattle.tplg_model.specs.Spelling.{items_cells, stream_record_slots, caps_slots, pcm_head_slots, pcm_tail_slots, pcm_cells, IsPcm}
use Rattle.tplg_model.specs.Storable.{stream_cells, caps_cells}
use Rattle.tplg_model.specs.Reading.{label_at, stream_with, stream_step, caps_at, caps_step, parts_step, streams_step, tail_size, pcm_with, pcm_step}
use Rattle.tplg_model.specs.File.{have_names, pcm_names}
use Rattle.tplg_model.specs.RecordFaults.{PcmFault}
use Rattle.tplg_model.specs.Arrays.{Each}
use Rattle.tplg_model.proofs.ItemLaws.{Took, IsItem, IsFault}
use Rattle.tplg_model.proofs.KindLaws.{number, text, pick, Tail, tail_is, tail_again, found_by_tests, only_by_tests}
use Rattle.sof_base.proofs.FieldLaws.{IsBytes, length-part, slots_read, slots_again, AllAgain, length-slots, length-fixed}
use Rattle.sof_base.proofs.Fitting.{Fits-fixed, is_fixed}
use Rattle.tplg_model.proofs.SectionLaws.{IsPart, Fields, fields_part, equal_parts, fits_joined, Wide, joined_fits, total}

-- one name, and then no fault
label_then : {A : Type 0} (b : Bool) (f : TplgFault) (name : List ℕ) (g : List ℕ → A) → (cond b (Ok name) (Err f) >>= λ n. Ok (g n)) ≡ cond (b && true) (Ok (g name)) (Err f)
label_then true f name g = refl
label_then false f name g = refl

stream_shapes : List Shape
stream_shapes = A_size 72 ∷ A_name ∷ A_long ∷ A_word ∷ A_word ∷ A_word ∷ A_word ∷ []

stream_from : List Slot → StreamRecord
stream_from ss = record { name = text (pick 1 ss); format = number (pick 2 ss); rate = number (pick 3 ss); period_bytes = number (pick 4 ss); buffer_bytes = number (pick 5 ss); channels = number (pick 6 ss) }

stream_fields : Fields stream_shapes stream_step stream_record_slots
unfolding stream_shapes stream_step label_at stream_from pick number text
stream_fields = record {
  make = λ bytes off. stream_with (name_at bytes (off + 4)) bytes off;
  same = λ at bytes off. label_then (has_name bytes (off + 4)) (Name at) (name_at bytes (off + 4)) (λ name. stream_with name bytes off);
  is = λ bytes off. refl;
  shape = λ x. refl;
  back = λ bytes off x e. ap stream_from e;
}

stream_part : IsPart 72 stream_step stream_cells (λ s. AreSlots (stream_record_slots s))
unfolding stream_shapes
stream_part = fields_part stream_shapes stream_step stream_record_slots stream_fields

caps_shapes : List Shape
caps_shapes = A_size 104 ∷ A_name ∷ A_long ∷ A_word ∷ A_word ∷ A_word ∷ A_word ∷ A_word ∷ A_word ∷ A_word ∷ A_word ∷ A_word ∷ A_word ∷ A_word ∷ A_word ∷ []

caps_from : List Slot → Caps
caps_from ss = record { name = text (pick 1 ss); formats = number (pick 2 ss); rates = number (pick 3 ss); rate_min = number (pick 4 ss); rate_max = number (pick 5 ss); channels_min = number (pick 6 ss); channels_max = number (pick 7 ss); periods_min = number (pick 8 ss); periods_max = number (pick 9 ss); period_size_min = number (pick 10 ss); period_size_max = number (pick 11 ss); buffer_size_min = number (pick 12 ss); buffer_size_max = number (pick 13 ss); sig_bits = number (pick 14 ss) }

caps_fields : Fields caps_shapes caps_step caps_slots
unfolding caps_shapes caps_step label_at caps_from pick number text
caps_fields = record {
  make = λ bytes off. caps_at (name_at bytes (off + 4)) bytes off;
  same = λ at bytes off. label_then (has_name bytes (off + 4)) (Name at) (name_at bytes (off + 4)) (λ name. caps_at name bytes off);
  is = λ bytes off. refl;
  shape = λ x. refl;
  back = λ bytes off x e. ap caps_from e;
}

caps_part : IsPart 104 caps_step caps_cells (λ c. AreSlots (caps_slots c))
unfolding caps_shapes
caps_part = fields_part caps_shapes caps_step caps_slots caps_fields

-- ---- a chain of steps, of which none looks at what another gave

pub record Chain {A B C D E F : Type 0} {Y : Type 0} (r0 : Result A TplgFault) (r1 : Result B TplgFault) (r2 : Result C TplgFault) (r3 : Result D TplgFault) (r4 : Result E TplgFault) (r5 : Result F TplgFault) (g : A → B → C → D → E → F → Y) (y : Y) : Type 0 where
  pub a : A
  pub b : B
  pub c : C
  pub d : D
  pub e : E
  pub f : F
  pub is0 : r0 ≡ Ok a
  pub is1 : r1 ≡ Ok b
  pub is2 : r2 ≡ Ok c
  pub is3 : r3 ≡ Ok d
  pub is4 : r4 ≡ Ok e
  pub is5 : r5 ≡ Ok f
  pub made : g a b c d e f ≡ y

chain : {A B C D E F Y : Type 0} (r0 : Result A TplgFault) (r1 : Result B TplgFault) (r2 : Result C TplgFault) (r3 : Result D TplgFault) (r4 : Result E TplgFault) (r5 : Result F TplgFault) (g : A → B → C → D → E → F → Y) (y : Y)
    → (r0 >>= λ a. r1 >>= λ b. r2 >>= λ c. r3 >>= λ d. r4 >>= λ e. r5 >>= λ f. Ok (g a b c d e f)) ≡ Ok y → Chain r0 r1 r2 r3 r4 r5 g y
chain (Ok a) (Ok b) (Ok c) (Ok d) (Ok e) (Ok f) g y h = record { a = a; b = b; c = c; d = d; e = e; f = f; is0 = refl; is1 = refl; is2 = refl; is3 = refl; is4 = refl; is5 = refl; made = cc }
chain (Err x) r1 r2 r3 r4 r5 g y h = absurd cc
chain (Ok a) (Err x) r2 r3 r4 r5 g y h = absurd cc
chain (Ok a) (Ok b) (Err x) r3 r4 r5 g y h = absurd cc
chain (Ok a) (Ok b) (Ok c) (Err x) r4 r5 g y h = absurd cc
chain (Ok a) (Ok b) (Ok c) (Ok d) (Err x) r5 g y h = absurd cc
chain (Ok a) (Ok b) (Ok c) (Ok d) (Ok e) (Err x) g y h = absurd cc

-- what a name says
record Named (bytes : List ℕ) (off : ℕ) (name : List ℕ) : Type 0 where
  ok : has_name bytes off ≡ true
  is : name_at bytes off ≡ name

named_is : (at : ℕ) (bytes : List ℕ) (off : ℕ) (name : List ℕ) → label_at at bytes off ≡ Ok name → Named bytes off name
unfolding label_at
named_is at bytes off name e = let t = last (has_name bytes off) (Name at) (name_at bytes off) name e in record { ok = t.0; is = t.1 }
  where
    last : (b : Bool) (f : TplgFault) (x y : List ℕ) → cond b (Ok x) (Err f) ≡ Ok y → (b ≡ true) × (x ≡ y)
    last true f x y e = (refl, cc)
    last false f x y e = absurd cc

named_again : (at : ℕ) (bytes : List ℕ) (off : ℕ) (name : List ℕ) → Named bytes off name → label_at at bytes off ≡ Ok name
unfolding label_at
named_again at bytes off name n = rw (n.ok, n.is) refl

-- fields that are spelled at an offset
slots_here : (ss : List Slot) (bytes : List ℕ) (off : ℕ) → AreSlots ss → Fits (part bytes off (widths (shapes_of ss))) (slots_cells ss) → AllAgain ss bytes off 0
slots_here ss bytes off are f =
    let place : off + 0 ≡ off = omega arith in
    let n = widths (shapes_of ss) in
    slots_again ss bytes (part bytes off n) (drop n (drop off bytes)) off 0 are (ap (λ (m : ℕ). drop m bytes) place ∙ sym (take-append-drop n (drop off bytes))) f

-- ---- a PCM

head_shapes : List Shape
head_shapes = A_size 912 ∷ A_name ∷ A_name ∷ A_word ∷ A_word ∷ A_word ∷ A_word ∷ A_word ∷ []

tail_shapes : List Shape
tail_shapes = A_word ∷ A_word ∷ A_word ∷ []

streams_part : IsPart 576 (λ at bytes off. parts_step 72 (stream_step at bytes) 8 off) (λ xs. items_cells stream_cells xs) (λ xs. Each (λ s. AreSlots (stream_record_slots s)) xs × (length xs ≡ 8))
streams_part = equal_parts 72 stream_step stream_cells (λ s. AreSlots (stream_record_slots s)) stream_part 8

pcm_widths : ℕ → List ℕ
pcm_widths size = 112 ∷ 576 ∷ 4 ∷ 104 ∷ 104 ∷ 12 ∷ size ∷ []

pcm_whole : (bytes : List ℕ) (size : ℕ) (name dai_name : List ℕ) (streams : List StreamRecord) (play cap : Caps) → IsBytes bytes → Tail 912 size bytes → Named bytes 4 name → Named bytes 48 dai_name
    → Fits (part bytes 112 576) (items_cells stream_cells streams) × (Each (λ s. AreSlots (stream_record_slots s)) streams × (length streams ≡ 8))
    → Fits (part bytes 692 104) (caps_cells play) × AreSlots (caps_slots play)
    → Fits (part bytes 796 104) (caps_cells cap) × AreSlots (caps_slots cap)
    → Took bytes (pcm_cells (pcm_with size name dai_name streams play cap bytes)) (912 + size) × IsPcm (pcm_with size name dai_name streams play cap bytes)
unfolding head_shapes tail_shapes pcm_widths
pcm_whole bytes size name dai_name streams play cap h room is_name is_dai some_streams some_play some_cap =
    let x = pcm_with size name dai_name streams play cap bytes in
    let head = slots_read head_shapes bytes 0 0 h (omega (arith, room.room)) (rw (is_name.ok, is_dai.ok) refl) in
    let head_is : slots_from head_shapes bytes 0 0 ≡ pcm_head_slots x = rw (is_name.is, is_dai.is) refl in
    let count = slots_read (A_word ∷ []) bytes 688 0 h (omega (arith, room.room)) refl in
    let last = slots_read tail_shapes bytes 900 0 h (omega (arith, room.room)) refl in
    let last_is : slots_from tail_shapes bytes 900 0 ≡ pcm_tail_slots x = rw (room.is, length-part bytes 912 size room.room) refl in
    let f0 : Fits (part bytes 0 112) (slots_cells (pcm_head_slots x)) = subst (λ (ss : List Slot). Fits (part bytes 0 112) (slots_cells ss)) head_is head.0 in
    let f5 : Fits (part bytes 900 12) (slots_cells (pcm_tail_slots x)) = subst (λ (ss : List Slot). Fits (part bytes 900 12) (slots_cells ss)) last_is last.0 in
    let f6 : Fits (part bytes 912 size) (fixed (part bytes 912 size)) = Fits-fixed (part bytes 912 size) in
    let all = fits_joined bytes 0 (pcm_widths size) (slots_cells (pcm_head_slots x) ∷ items_cells stream_cells streams ∷ slots_cells (Word (word_at bytes 688) ∷ []) ∷ caps_cells play ∷ caps_cells cap ∷ slots_cells (pcm_tail_slots x) ∷ fixed (part bytes 912 size) ∷ [])
    (f0, (some_streams.0, (count.0, (some_play.0, (some_cap.0, (f5, (f6, tt))))))) in
    let sum : total (pcm_widths size) ≡ 912 + size = omega arith in (
      record { within = room.room; fits = subst (λ (n : ℕ). Fits (take n bytes) (pcm_cells x)) sum all },
      record {
        head = subst AreSlots head_is head.1;
        streams = some_streams.1.0;
        eight = some_streams.1.1;
        num_streams = count.1;
        play = some_play.1;
        cap = some_cap.1;
        tail = subst AreSlots last_is last.1;
      },
    )

pcm_takes : (at : ℕ) (bytes : List ℕ) (x : Pcm) (n : ℕ) → IsBytes bytes → pcm_step at bytes ≡ Ok (x, n) → Took bytes (pcm_cells x) n × IsPcm x
unfolding pcm_step streams_step
pcm_takes at bytes x n h e =
    let t = chain (tail_size 912 at bytes) (label_at at bytes 4) (label_at at bytes 48) (streams_step at bytes) (caps_step at bytes 692) (caps_step at bytes 796) (λ size name dai_name streams play cap. (pcm_with size name dai_name streams play cap bytes, 912 + size)) (x, n) e in
    let room = tail_is 912 at bytes t.a t.is0 in
    let whole = pcm_whole bytes t.a t.b t.c t.d t.e t.f h room (named_is at bytes 4 t.b t.is1) (named_is at bytes 48 t.c t.is2)
    (streams_part.takes at bytes 112 t.d h (omega (arith, room.room)) t.is3) (caps_part.takes at bytes 692 t.e h (omega (arith, room.room)) t.is4) (caps_part.takes at bytes 796 t.f h (omega (arith, room.room)) t.is5) in
    subst (λ (p : Pcm × ℕ). Took bytes (pcm_cells p.0) p.1 × IsPcm p.0) t.made whole

pcm_wide : (x : Pcm) → IsPcm x → Wide (pcm_widths (length x.private)) (slots_cells (pcm_head_slots x) ∷ items_cells stream_cells x.streams ∷ slots_cells (Word x.num_streams ∷ []) ∷ caps_cells x.play ∷ caps_cells x.cap ∷ slots_cells (pcm_tail_slots x) ∷ fixed x.private ∷ [])
unfolding pcm_widths
pcm_wide x is = (length-slots (pcm_head_slots x) is.head, (streams_part.wide x.streams (is.streams, is.eight), (length-slots (Word x.num_streams ∷ []) is.num_streams, (caps_part.wide x.play is.play, (caps_part.wide x.cap is.cap, (length-slots (pcm_tail_slots x) is.tail, (length-fixed x.private, tt)))))))

-- the words of x in the place of those of three lists of fields
pcm_from : Pcm → List Slot → List Slot → List Slot → List ℕ → Pcm
pcm_from x head count last private = record {
  name = x.name;
  dai_name = x.dai_name;
  pcm_id = number (pick 3 head);
  dai_id = number (pick 4 head);
  playback = number (pick 5 head);
  capture = number (pick 6 head);
  compress = number (pick 7 head);
  streams = x.streams;
  num_streams = number (pick 0 count);
  play = x.play;
  cap = x.cap;
  flag_mask = number (pick 0 last);
  flags = number (pick 1 last);
  private = private;
}

and_both : (a b : Bool) → (a && b) ≡ true → (a ≡ true) × (b ≡ true)
and_both true b e = (refl, e)
and_both false b e = absurd cc

pcm_again : (at : ℕ) (x : Pcm) (front rest : List ℕ) → IsPcm x → Fits front (pcm_cells x) → pcm_step at (front ++ rest) ≡ Ok (x, length front)
unfolding pcm_step streams_step head_shapes tail_shapes pcm_widths pick number text pcm_from
pcm_again at x front rest is f =
    let bytes = front ++ rest in
    let p = joined_fits bytes 0 (pcm_widths (length x.private)) (slots_cells (pcm_head_slots x) ∷ items_cells stream_cells x.streams ∷ slots_cells (Word x.num_streams ∷ []) ∷ caps_cells x.play ∷ caps_cells x.cap ∷ slots_cells (pcm_tail_slots x) ∷ fixed x.private ∷ []) front rest (pcm_wide x is) refl f in
    let len : length front ≡ 912 + length x.private = omega (arith, p.1) in
    let head = slots_here (pcm_head_slots x) bytes 0 is.head p.0.0 in
    let count = slots_here (Word x.num_streams ∷ []) bytes 688 is.num_streams p.0.1.1.0 in
    let last = slots_here (pcm_tail_slots x) bytes 900 is.tail p.0.1.1.1.1.1.0 in
    let names = and_both (has_name bytes 4) (has_name bytes 48 && true) head.ok in
    let dai_ok = and_both (has_name bytes 48) true names.1 in
    let size = tail_again 912 at bytes (length x.private) (record { room = omega (arith, len, length-append front rest); is = ap (λ (ss : List Slot). number (pick 2 ss)) last.slots }) in
    let name = named_again at bytes 4 x.name (record { ok = names.0; is = ap (λ (ss : List Slot). text (pick 1 ss)) head.slots }) in
    let dai_name = named_again at bytes 48 x.dai_name (record { ok = dai_ok.0; is = ap (λ (ss : List Slot). text (pick 2 ss)) head.slots }) in
    let streams = streams_part.again at bytes 112 x.streams (is.streams, is.eight) p.0.1.0 in
    let play = caps_part.again at bytes 692 x.play is.play p.0.1.1.1.0 in
    let cap = caps_part.again at bytes 796 x.cap is.cap p.0.1.1.1.1.0 in
    let private = is_fixed (part bytes 912 (length x.private)) x.private p.0.1.1.1.1.1.1.0 in
    let same : pcm_with (length x.private) x.name x.dai_name x.streams x.play x.cap bytes ≡ x =
    ap (λ (ss : List Slot). pcm_from x ss (slots_from (A_word ∷ []) bytes 688 0) (slots_from tail_shapes bytes 900 0) (part bytes 912 (length x.private))) head.slots
    ∙ ap (λ (ss : List Slot). pcm_from x (pcm_head_slots x) ss (slots_from tail_shapes bytes 900 0) (part bytes 912 (length x.private))) count.slots
    ∙ ap (λ (ss : List Slot). pcm_from x (pcm_head_slots x) (Word x.num_streams ∷ []) ss (part bytes 912 (length x.private))) last.slots
    ∙ ap (pcm_from x (pcm_head_slots x) (Word x.num_streams ∷ []) (pcm_tail_slots x)) private in
    rw (size, name, dai_name, streams, play, cap, same, len) refl

pub pcm_item : IsItem pcm_step pcm_cells IsPcm
pcm_item = record { takes = pcm_takes; again = pcm_again }

-- ---- the fault of a PCM

then_made : {A B : Type 0} (b : Bool) (q : TplgFault) (x : A) (g : A → B) → (cond b (Ok x) (Err q) >>= λ y. Ok (g y)) ≡ cond b (Ok (g x)) (Err q)
then_made true q x g = refl
then_made false q x g = refl

-- parts that fail in one way, as one test
all_parts : ℕ → (ℕ → Bool) → ℕ → ℕ → Bool
all_parts w has zero off = true
all_parts w has (suc n) off = has off && all_parts w has n (off + w)

made_parts : {A : Type 0} → ℕ → (ℕ → A) → ℕ → ℕ → List A
made_parts w make zero off = []
made_parts w make (suc n) off = make off ∷ made_parts w make n (off + w)

one_part : {A : Type 0} (a b : Bool) (q : TplgFault) (x : A) (xs : List A) → (cond a (Ok x) (Err q) >>= λ y. cond b (Ok xs) (Err q) >>= λ ys. Ok (y ∷ ys)) ≡ cond (a && b) (Ok (x ∷ xs)) (Err q)
one_part true true q x xs = refl
one_part true false q x xs = refl
one_part false b q x xs = refl

parts_made : {A : Type 0} (w : ℕ) (step : ℕ → Result A TplgFault) (has : ℕ → Bool) (make : ℕ → A) (q : TplgFault) → ((off : ℕ) → step off ≡ cond (has off) (Ok (make off)) (Err q))
    → (n off : ℕ) → parts_step w step n off ≡ cond (all_parts w has n off) (Ok (made_parts w make n off)) (Err q)
unfolding parts_step all_parts made_parts
parts_made w step has make q one zero off = refl
parts_made w step has make q one (suc n) off =
    let first = one off in
    let others = parts_made w step has make q one n (off + w) in
    rw (first, others) (one_part (has off) (all_parts w has n (off + w)) q (make off) (made_parts w make n (off + w)))

gates : {A B C D E F Y : Type 0} (r : Result A TplgFault) (a b c d e : Bool) (q : TplgFault) (i : B) (j : C) (k : D) (l : E) (m : F) (g : A → B → C → D → E → F → Y)
    → (r >>= λ n. cond a (Ok i) (Err q) >>= λ i1. cond b (Ok j) (Err q) >>= λ j1. cond c (Ok k) (Err q) >>= λ k1. cond d (Ok l) (Err q) >>= λ l1. cond e (Ok m) (Err q) >>= λ m1. Ok (g n i1 j1 k1 l1 m1))
    ≡ (r >>= λ n. cond (a && (b && (c && (d && e)))) (Ok (g n i j k l m)) (Err q))
gates (Err x) a b c d e q i j k l m g = refl
gates (Ok n) false b c d e q i j k l m g = refl
gates (Ok n) true false c d e q i j k l m g = refl
gates (Ok n) true true false d e q i j k l m g = refl
gates (Ok n) true true true false e q i j k l m g = refl
gates (Ok n) true true true true false q i j k l m g = refl
gates (Ok n) true true true true true q i j k l m g = refl

-- tests in front of a test, one by one
abbrev each_test : List Bool → Bool → Bool
each_test [] last = last
each_test (b ∷ bs) last = b && each_test bs last

each_then : (bs : List Bool) (last : Bool) → (each_test bs true && last) ≡ each_test bs last
each_then [] last = refl
each_then (true ∷ bs) last = each_then bs last
each_then (false ∷ bs) last = refl

and_end : (b : Bool) → b ≡ (b && true)
and_end true = refl
and_end false = refl

-- the tests of the stream records stand between the others
between : (a b : Bool) (ss : List Bool) (d e : Bool) → (a && (b && (each_test ss true && (d && e)))) ≡ (a && (b && each_test ss (d && (e && true))))
between a b ss d e = ap (λ (r : Bool). a && (b && r)) (each_then ss (d && e) ∙ ap (λ (r : Bool). each_test ss (d && r)) (and_end e))

pcm_of : ℕ → List ℕ → Pcm
pcm_of n bytes =
    pcm_with n (name_at bytes 4) (name_at bytes 48) (made_parts 72 (λ off. stream_with (name_at bytes (off + 4)) bytes off) 8 112)
    (caps_at (name_at bytes 696) bytes 692) (caps_at (name_at bytes 800) bytes 796) bytes

-- a PCM's tests as one
abbrev pcm_gate : ℕ → List ℕ → Result (Pcm × ℕ) TplgFault
pcm_gate at bytes = tail_size 912 at bytes >>= λ n. cond (have_names bytes pcm_names) (Ok (pcm_of n bytes, 912 + n)) (Err (Name at))

pcm_gated : (at : ℕ) (bytes : List ℕ) → pcm_step at bytes ≡ pcm_gate at bytes
unfolding pcm_step streams_step caps_step stream_step label_at all_parts made_parts pcm_of
pcm_gated at bytes =
    let h = has_name bytes in
    let streams = parts_made 72 (λ off. stream_step at bytes off) (λ off. has_name bytes (off + 4)) (λ off. stream_with (name_at bytes (off + 4)) bytes off) (Name at)
    (λ off. then_made (has_name bytes (off + 4)) (Name at) (name_at bytes (off + 4)) (λ name. stream_with name bytes off)) 8 112 in
    let play = then_made (has_name bytes 696) (Name at) (name_at bytes 696) (λ name. caps_at name bytes 692) in
    let cap = then_made (has_name bytes 800) (Name at) (name_at bytes 800) (λ name. caps_at name bytes 796) in
    let made = made_parts 72 (λ off. stream_with (name_at bytes (off + 4)) bytes off) 8 112 in
    rw (streams, play, cap) (gates (tail_size 912 at bytes) (h 4) (h 48) (all_parts 72 (λ off. has_name bytes (off + 4)) 8 112) (h 696) (h 800) (Name at) (name_at bytes 4) (name_at bytes 48) made
    (caps_at (name_at bytes 696) bytes 692) (caps_at (name_at bytes 800) bytes 796) (λ n name dai_name ss play_caps cap_caps. (pcm_with n name dai_name ss play_caps cap_caps bytes, 912 + n)))
    ∙ ap (λ (b : Bool). tail_size 912 at bytes >>= λ n. cond b (Ok (pcm_of n bytes, 912 + n)) (Err (Name at)))
    (between (h 4) (h 48) (h 116 ∷ h 188 ∷ h 260 ∷ h 332 ∷ h 404 ∷ h 476 ∷ h 548 ∷ h 620 ∷ []) (h 696) (h 800))

pcm_found : (at : ℕ) (bytes : List ℕ) (f : TplgFault) → pcm_gate at bytes ≡ Err f → PcmFault at bytes f
unfolding tail_size
pcm_found at bytes f e = found_by_tests (ltb (length bytes) 912) (ltb (length bytes - 912) (word_at bytes 908)) (have_names bytes pcm_names) (Payload at) (Name at) (word_at bytes 908) (λ n. (pcm_of n bytes, 912 + n)) f e

pcm_only : (at : ℕ) (bytes : List ℕ) (f : TplgFault) → PcmFault at bytes f → pcm_gate at bytes ≡ Err f
unfolding tail_size
pcm_only at bytes f e = only_by_tests (ltb (length bytes) 912) (ltb (length bytes - 912) (word_at bytes 908)) (have_names bytes pcm_names) (Payload at) (Name at) (word_at bytes 908) (λ n. (pcm_of n bytes, 912 + n)) f e

pub pcm_is_fault : IsFault pcm_step PcmFault
pcm_is_fault = record { found = found; only = only }
  where
    found : (at : ℕ) (bytes : List ℕ) (f : TplgFault) → IsBytes bytes → pcm_step at bytes ≡ Err f → PcmFault at bytes f
    found at bytes f h e = pcm_found at bytes f (sym (pcm_gated at bytes) ∙ e)

    only : (at : ℕ) (bytes : List ℕ) (f : TplgFault) → PcmFault at bytes f → pcm_step at bytes ≡ Err f
    only at bytes f e = pcm_gated at bytes ∙ pcm_only at bytes f e
