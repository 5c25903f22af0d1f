-- Where a device and the endpoints stood, they stand some moments later: what inputs gave and outputs gained goes on with the past.
use Rattle.std.proofs.Common.{◌≡◌, refl, sym, ap, ◌∙◌, subst, ℕ, zero, suc, List, [], ◌∷◌, ◌++◌, map, replicate, Bool, true, false, ◌&&◌, Option, Some, None}
use Rattle.std.specs.Prelude.{if◌then◌else◌}
use Rattle.std.proofs.lemmas.Bool.{and_parts}
use Rattle.std.proofs.lemmas.List.{append-nil, append_assoc}
use Rattle.sof_base.specs.Ports.{Io, InputView, OutputView}
use Rattle.stream_law.specs.State.{FwState, RingView, View, view_of}
use Rattle.stream_law.specs.Table.{list_of}
use Rattle.stream_law.specs.Ways.{agree, is_of, live}
use Rattle.stream_law.specs.Seen.{flows, remembers, goes_on, keeps_numbers, numbers_in, marked}
use Rattle.stream_law.specs.Past.{Moment, Boot, Cut, Now, Tick, Past, Leads, new_life, after_now}
use Rattle.stream_law.specs.Move.{audio_after, state_after, io_after}
use Rattle.stream_law.specs.Stands.{Stands, ring_frames}
use Rattle.stream_law.specs.InputsRead.{Reads}
use Rattle.stream_law.specs.Viewing.{IsPlayable}
use Rattle.stream_law.proofs.Building.{lying-empty}
use Rattle.stream_law.proofs.Keyed.{keys-remade}
use Rattle.stream_law.proofs.Standing.{Leads-push, Stands-cut, Stands-now}
use Rattle.stream_law.proofs.TickLaw.{Stands-tick, bytes-tick, tick_solved}
use Rattle.stream_law.proofs.TickLaw as law
use Rattle.mbox_link.specs.Exchange.{ticked, ticks}

-- ---- moments

-- moments after moments
pub leads-append : (whole : List (ℕ × List ℕ)) (ms more : List Moment) (a b c : Past) → Leads whole a ms b → Leads whole b more c → Leads whole a (ms ++ more) c
leads-append whole [] more a b c first rest = subst (λ (p : Past). Leads whole p more c) (sym first) rest
leads-append whole (m ∷ ms) more a b c first rest = (first.0, first.1, leads-append whole ms more first.0 b c first.2 rest)

-- no tick
abbrev pub AllStill : List Moment → Type 0
AllStill [] = Unit {0}
AllStill (Boot ∷ ms) = AllStill ms
AllStill (Cut ∷ ms) = AllStill ms
AllStill (Now view fresh ∷ ms) = AllStill ms
AllStill (Tick ∷ ms) = ⊥

-- no byte comes without a tick
pub still-bytes : (whole : List (ℕ × List ℕ)) (ms : List Moment) → AllStill ms → (p q : Past) → Leads whole p ms q → q.bytes ≡ p.bytes
still-bytes whole [] all p q led = ap (λ (x : Past). x.bytes) (sym led)
still-bytes whole (Boot ∷ ms) all p q led = still-bytes whole ms all led.0 q led.2 ∙ ap (λ (x : Past). x.bytes) led.1
still-bytes whole (Cut ∷ ms) all p q led = still-bytes whole ms all led.0 q led.2 ∙ ap (λ (x : Past). x.bytes) led.1
still-bytes whole (Now view fresh ∷ ms) all p q led = still-bytes whole ms all led.0 q led.2 ∙ ap (λ (x : Past). x.bytes) led.1
still-bytes whole (Tick ∷ ms) all p q led = absurd all

-- ---- what outputs gain

-- an output with more bytes
abbrev pub with_more : (ℕ → List ℕ) → OutputView → OutputView
with_more more o = record { slot = o.slot; bytes = o.bytes ++ more o.slot }

-- Between two pasts each slot got these bytes, and the outputs gained them.
pub record Gained (old new : List OutputView) (p q : Past) : Type 0 where
  pub more : ℕ → List ℕ
  pub bytes : (slot : ℕ) → list_of q.bytes slot ≡ list_of p.bytes slot ++ more slot
  pub outputs : new ≡ map (with_more more) old

none-more : (outputs : List OutputView) → outputs ≡ map (with_more (λ slot. [])) outputs
none-more [] = refl
none-more (o ∷ outputs) = λ i. record { slot = o.slot; bytes = sym (append-nil o.bytes) i } ∷ none-more outputs i

-- none
pub gained-none : (outputs : List OutputView) (p q : Past) → ((slot : ℕ) → list_of q.bytes slot ≡ list_of p.bytes slot) → Gained outputs outputs p q
gained-none outputs p q same = record {
  more = λ slot. [];
  bytes = λ slot. same slot ∙ sym (append-nil (list_of p.bytes slot));
  outputs = none-more outputs;
}

more-twice : (f g : ℕ → List ℕ) (outputs : List OutputView) → map (with_more g) (map (with_more f) outputs) ≡ map (with_more (λ slot. f slot ++ g slot)) outputs
more-twice f g [] = refl
more-twice f g (o ∷ outputs) = λ i. record { slot = o.slot; bytes = append_assoc o.bytes (f o.slot) (g o.slot) i } ∷ more-twice f g outputs i

-- and then more
pub gained-by : (a b c : List OutputView) (p q r : Past) → Gained a b p q → Gained b c q r → Gained a c p r
gained-by a b c p q r first rest = record {
  more = λ slot. first.more slot ++ rest.more slot;
  bytes = λ slot. rest.bytes slot ∙ ap (λ (xs : List ℕ). xs ++ rest.more slot) (first.bytes slot) ∙ append_assoc (list_of p.bytes slot) (first.more slot) (rest.more slot);
  outputs = rest.outputs ∙ ap (map (with_more rest.more)) first.outputs ∙ more-twice first.more rest.more a;
}

-- ---- what stands

-- a device that stood so, with its endpoints, stands so these moments later
abbrev pub StandsOn : Option FwState → Io → Option FwState → Io → List Moment → Type 0
StandsOn f io g io' ms = (whole : List (ℕ × List ℕ)) (before : List Moment) (stood : Stands f whole io.inputs before) →
    (after : Stands g whole io'.inputs (before ++ ms)) × Leads whole stood.past ms after.past × Gained io.outputs io'.outputs stood.past after.past

-- and of a device of which nothing else is known: its endpoints went on up to there
abbrev pub ReadsOn : Option FwState → Io → Io → List Moment → Type 0
ReadsOn f io io' ms = (whole : List (ℕ × List ℕ)) (before : List Moment) (stood : Stands f whole io.inputs before) →
    (after : Reads whole io'.inputs (before ++ ms)) × Leads whole stood.past ms after.past × Gained io.outputs io'.outputs stood.past after.past

-- where inputs stay as they are
abbrev pub LeadsOn : Option FwState → Option FwState → List Moment → Type 0
LeadsOn f g ms = (whole : List (ℕ × List ℕ)) (inputs : List InputView) (before : List Moment) (stood : Stands f whole inputs before) →
    (after : Stands g whole inputs (before ++ ms)) × Leads whole stood.past ms after.past

pub stands-none : (f : Option FwState) (io : Io) → StandsOn f io f io []
stands-none f io whole before stood =
    subst (λ (all : List Moment). (after : Stands f whole io.inputs all) × Leads whole stood.past [] after.past × Gained io.outputs io.outputs stood.past after.past) (sym (append-nil before))
    (stood, refl, gained-none io.outputs stood.past stood.past (λ slot. refl))

-- moments without a tick
pub still-stands : (f g : Option FwState) (ms : List Moment) → AllStill ms → LeadsOn f g ms → (io : Io) → StandsOn f io g io ms
still-stands f g ms still leads io whole before stood =
    let s = leads whole io.inputs before stood in
    (s.0, s.1, gained-none io.outputs stood.past s.0.past (λ slot. ap (λ (bytes : List (ℕ × List ℕ)). list_of bytes slot) (still-bytes whole ms still stood.past s.0.past s.1)))

-- moments after moments
pub stands-by : (f g h : Option FwState) (a b c : Io) (ms more : List Moment) → StandsOn f a g b ms → StandsOn g b h c more → StandsOn f a h c (ms ++ more)
stands-by f g h a b c ms more first rest whole before stood =
    let one = first whole before stood in
    let two = rest whole (before ++ ms) one.0 in
    subst (λ (all : List Moment). (after : Stands h whole c.inputs all) × Leads whole stood.past (ms ++ more) after.past × Gained a.outputs c.outputs stood.past after.past) (append_assoc before ms more)
    (two.0, leads-append whole ms more stood.past one.0.past two.0.past one.1 two.1, gained-by a.outputs b.outputs c.outputs stood.past one.0.past two.0.past one.2 two.2)

pub reads-by : (f g : Option FwState) (a b c : Io) (ms more : List Moment) → StandsOn f a g b ms → ReadsOn g b c more → ReadsOn f a c (ms ++ more)
reads-by f g a b c ms more first rest whole before stood =
    let one = first whole before stood in
    let two = rest whole (before ++ ms) one.0 in
    subst (λ (all : List Moment). (after : Reads whole c.inputs all) × Leads whole stood.past (ms ++ more) after.past × Gained a.outputs c.outputs stood.past after.past) (append_assoc before ms more)
    (two.0, leads-append whole ms more stood.past one.0.past two.0.past one.1 two.1, gained-by a.outputs b.outputs c.outputs stood.past one.0.past two.0.past one.2 two.2)

pub reads-of : (f g : Option FwState) (a b : Io) (ms : List Moment) → StandsOn f a g b ms → ReadsOn f a b ms
reads-of f g a b ms stands whole before stood =
    let s = stands whole before stood in
    (record { past = s.0.past; led = s.0.led; read = s.0.read }, s.1, s.2)

-- a device that goes on as it is, with the view that it has
pub same-now : (f : FwState) → LeadsOn (Some f) (Some f) (Now (view_of f) None ∷ [])
unfolding Stands-now
same-now f whole inputs before stood =
    let v = view_of f in (
      Stands-now f f v None whole inputs before stood
          record {
            clock = refl;
            view = refl;
            buffers = stood.holds.buffers;
            rings = λ b. ring b (flows v b) refl;
            remembered = λ c there. stood.holds.remembered c (ap (λ (w : View). remembers w c) (sym stood.holds.view) ∙ there);
            histories = λ c there. sym (ap (λ (t : Bool). if t then numbers_in f c else marked v v c (numbers_in f c)) (goes c there));
          }
          (ap agree stood.holds.view ∙ stood.agrees)
          record { room = λ b was now. refl; kinds = λ c there was. refl; on = λ c there goes. (refl, refl, refl) },
      (after_now v None stood.past, refl, refl),
    )
  where
    -- a ring in which no frame may lie is empty
    ring : (b : ℕ) (t : Bool) → flows (view_of f) b ≡ t → ring_frames f b ≡ (if t then ring_frames f b else [])
    ring b true flow = refl
    ring b false flow = stood.holds.rings b ∙ lying-empty stood.past b stood.kept (ap (λ (w : View). flows w b) (sym stood.holds.view) ∙ flow)

    goes : (c : ℕ) → remembers (view_of f) c ≡ true → goes_on (view_of f) (view_of f) None c ≡ true
    goes c there =
        let is_live : live (view_of f) c ≡ true = (and_parts (live (view_of f) c) (is_of (view_of f).graph keeps_numbers c) there).0 in
        λ i. is_live i && is_live i && true

-- a device that is cut then is off, and stands so
pub cut-stands : (f : Option FwState) (a b : Io) (ms : List Moment) → ReadsOn f a b ms → StandsOn f a None b (ms ++ Cut ∷ [])
unfolding Stands-cut
cut-stands f a b ms reads whole before stood =
    let r = reads whole before stood in
    let p = new_life false r.0.past in
    let gained : Gained a.outputs b.outputs stood.past p = record { more = r.2.more; bytes = r.2.bytes; outputs = r.2.outputs } in
    subst (λ (all : List Moment). (after : Stands None whole b.inputs all) × Leads whole stood.past (ms ++ Cut ∷ []) after.past × Gained a.outputs b.outputs stood.past after.past) (append_assoc before ms (Cut ∷ []))
    (Stands-cut whole b.inputs (before ++ ms) r.0, Leads-push whole stood.past r.0.past p ms Cut r.1 refl, gained)

-- ---- ticks

pub one-tick : (f : FwState) (io : Io) → IsPlayable (view_of f) → StandsOn (Some f) io (Some (ticked (f, io)).0) (ticked (f, io)).1 (Tick ∷ [])
unfolding Stands-tick
one-tick f io playable whole before s =
    let a = audio_after f io in
    let later = Stands-tick f whole io before s playable (state_after f a) (io_after io a) record { state = refl; endpoints = refl } in (
      later,
      (later.past, (law.n f whole io before s playable, tick_solved whole s.past (law.n f whole io before s playable) (law.new f whole io before s playable) (law.made f whole io before s playable) (law.solution f whole io before s playable)), refl),
      record { more = λ slot. list_of a.written slot; bytes = bytes-tick f whole io before s playable; outputs = refl },
    )

-- so many ticks of a device whose view may play
pub ticks-stand : (n : ℕ) (f : FwState) (io : Io) → IsPlayable (view_of f) → StandsOn (Some f) io (Some (ticks n (f, io)).0) (ticks n (f, io)).1 (replicate n Tick)
ticks-stand zero f io playable = stands-none (Some f) io
ticks-stand (suc n) f io playable =
    let next = ticked (f, io) in
    stands-by (Some f) (Some next.0) (Some (ticks n next).0) io next.1 (ticks n next).1 (Tick ∷ []) (replicate n Tick) (one-tick f io playable) (ticks-stand n next.0 next.1 playable)

-- they leave all but audio and the clock
pub record LeavesAll (f g : FwState) : Type 0 where
  pub view : view_of g ≡ view_of f
  pub heap : g.heap ≡ f.heap
  pub staging : g.staging ≡ f.staging
  pub buffers : map (λ (r : RingView). r.buffer) g.rings ≡ map (λ (r : RingView). r.buffer) f.rings

pub ticks-leave : (n : ℕ) (f : FwState) (io : Io) → LeavesAll f (ticks n (f, io)).0
ticks-leave zero f io = record { view = refl; heap = refl; staging = refl; buffers = refl }
ticks-leave (suc n) f io =
    let next = ticked (f, io) in
    let rest = ticks-leave n next.0 next.1 in
    record {
      view = rest.view;
      heap = rest.heap;
      staging = rest.staging;
      buffers = rest.buffers ∙ keys-remade (λ (r : RingView). r.buffer) (λ (r : RingView). record { buffer = r.buffer; frames = list_of (audio_after f io).rings r.buffer }) (λ r. refl) f.rings;
    }
