-- The records that calls on a tracer leave, and that they are those of deeds, where the device did nothing of its own accord.
use Rattle.std.proofs.Common.{◌≡◌, refl, sym, ap, ◌∙◌, subst, ℕ, zero, suc, ◌+◌, ◌-◌, ◌*◌, ◌≤◌, replicate, Bool, true, false, List, [], ◌∷◌, ◌++◌, length, Option, Some, None, arith, append_assoc, append-nil, length-append}
use Rattle.std.specs.List.{AllByRecursion}
use Rattle.std.specs.Prelude.{is_some, option_map}
use Rattle.std.proofs.lemmas.Grind.{flat_map-append}
use Rattle.std.proofs.lemmas.Bool.{eqb-true}
use Rattle.stream_law.specs.State.{FwState}
use Rattle.mbox_link.specs.Step.{fresh, step}
use Rattle.mbox_link.specs.Exchange.{Stepped, Rose, ticked, ticks}
use Rattle.mbox_link.specs.Calls as calls
use Rattle.mbox_link.specs.Calls.{World, Meaning, Call, Did, Led, Exchanged, Ticked, Steady}
use Rattle.mbox_link.proofs.Led.{Led-steady}
use Rattle.ipc3_trace.specs.declared.kind.RecordKind.TheVariants as kinds
use Rattle.ipc3_trace.specs.declared.entry.Entry.{Entry}
use Rattle.ipc3_trace.specs.declared.entry.Entry.TheVariants.{Boot, Cut, Request, Reply, Tick}
use Rattle.ipc3_trace.specs.Records.{IsEntry, record_kind, content_of, record_bytes, records_bytes}
use Rattle.ipc3_trace.specs.Tracing.{Traced, tracer}
use Rattle.ipc3_trace.specs.Steps.{AreAlike, quiescent, no_ports, steps_from, Deed, Start, Stop, Send, Wait, recorded}
use Rattle.ipc3_trace.specs.AlongCalls.{back_of, entries_by, entries_along}
use Rattle.ipc3_trace.specs.CallRecords.{ArePlain}
use Rattle.ipc3_trace.proofs.Stands.{length-spelled, takes-entry}
use Rattle.ipc3_trace.proofs.LeadingLaws.{records-lead, reply-is}
use Rattle.sof_session.specs.SessionStep.{Calm}

-- ---- how many bytes records have

size-four : (n : ℕ) → n ≡ 4 → n ≤ 384
size-four n is = omega (arith, is)

content-few : (e : Entry) → IsEntry e → length (content_of e) ≤ 384
content-few (Boot heap) is = size-four (length (content_of (Boot heap))) (eqb-true (length (content_of (Boot heap))) 4 (takes-entry (Boot heap) is))
content-few (Request message) is = is
content-few (Reply reply) is = is.1
content-few e is = omega arith

pub entry-few : (e : Entry) → IsEntry e → length (record_bytes e) ≤ 392
entry-few e is = omega (arith, length-spelled (record_kind e) (content_of e), content-few e is)

tick-few : length (record_bytes Tick) ≤ 8
tick-few = omega (arith, length-spelled kinds.Tick [])

cut-few : length (record_bytes Cut) ≤ 8
cut-few = omega (arith, length-spelled kinds.Cut [])

long-append : (es fs : List Entry) → length (records_bytes (es ++ fs)) ≡ length (records_bytes es) + length (records_bytes fs)
long-append es fs = ap length (flat_map-append record_bytes es fs) ∙ length-append (records_bytes es) (records_bytes fs)

long-one : (e : Entry) → length (records_bytes (e ∷ [])) ≡ length (record_bytes e)
long-one e = ap length (append-nil (record_bytes e))

long-two : (e f : Entry) → length (records_bytes (e ∷ f ∷ [])) ≡ length (record_bytes e) + length (record_bytes f)
long-two e f = length-append (record_bytes e) (record_bytes f ++ []) ∙ ap (λ (n : ℕ). length (record_bytes e) + n) (long-one f)

all-append : (es fs : List Entry) → AllByRecursion IsEntry es → AllByRecursion IsEntry fs → AllByRecursion IsEntry (es ++ fs)
all-append [] fs are all = all
all-append (e ∷ es) fs are all = (are.0, all-append es fs are.1 all)

-- ---- deeds after deeds

pub recorded-append : (d e : List Deed) (s : Option FwState) → recorded s (d ++ e) ≡ recorded s d ++ recorded (steps_from s (recorded s d)) e
recorded-append [] e s = refl
recorded-append (Start heap ∷ d) e s = ap (λ (es : List Entry). Boot heap ∷ es) (recorded-append d e (Some (fresh heap)))
recorded-append (Stop ∷ d) e None = recorded-append d e None
recorded-append (Send message ∷ d) e None = recorded-append d e None
recorded-append (Wait ∷ d) e None = recorded-append d e None
recorded-append (Stop ∷ d) e (Some f) = ap (λ (es : List Entry). Cut ∷ es) (recorded-append d e None)
recorded-append (Send message ∷ d) e (Some f) = ap (λ (es : List Entry). Request message ∷ Reply (step f message).1 ∷ es) (recorded-append d e (Some (step f message).0))
recorded-append (Wait ∷ d) e (Some f) = ap (λ (es : List Entry). Tick ∷ es) (recorded-append d e (Some (ticked (f, no_ports)).0))

-- ---- over a tracer; `C` says that the device does nothing of its own accord

module _ {P : Type 0} (device : Meaning P) (C : Type 0) where
  abbrev T : Meaning (Traced P)
  T = tracer device

  -- These calls lead from one world to another, and leave at most so many bytes of records, each of which a reader takes. They are the
  -- records of these deeds, from where the records before lead.
  pub record Leaves (w v : World (Traced P)) (cs : List Call) (deeds : List Deed) (most : ℕ) : Type 0 where
    pub led : Led T w cs v
    pub are : AllByRecursion IsEntry (entries_along T w cs v led)
    pub few : length (records_bytes (entries_along T w cs v led)) ≤ most
    pub met : C → T.pending w.device ≡ 0 → (s : Option FwState) → AreAlike (T.on w.device) s → ArePlain T w cs v led × (entries_along T w cs v led ≡ recorded s deeds)

  -- ---- calls after calls

  record Joined (w m v : World (Traced P)) (a : List Call) (first : Led T w a m) (b : List Call) (later : Led T m b v) : Type 0 where
    led : Led T w (a ++ b) v
    entries : entries_along T w (a ++ b) v led ≡ entries_along T w a m first ++ entries_along T m b v later
    plain : ArePlain T w a m first → ArePlain T m b v later → ArePlain T w (a ++ b) v led

  joined : (a : List Call) (w m v : World (Traced P)) (first : Led T w a m) (b : List Call) (later : Led T m b v) → Joined w m v a first b later
  joined [] w m v first b later =
      let whole = subst (λ (x : World (Traced P)). (led : Led T x b v) × (entries_along T x b v led ≡ entries_along T m b v later) × (ArePlain T m b v later → ArePlain T x b v led)) first (later, refl, λ plain. plain) in
      record { led = whole.0; entries = whole.1; plain = λ none plain. whole.2 plain }
  joined (call ∷ a) w m v first b later =
      let rest = joined a first.0 m v first.2 b later in
      let es = entries_by (is_some (T.on w.device)) call in
      record {
        led = (first.0, first.1, rest.led);
        entries = ap (λ (fs : List Entry). es ++ fs) rest.entries ∙ sym (append_assoc es (entries_along T first.0 a m first.2) (entries_along T m b v later));
        plain = λ x y. (x.0, rest.plain x.1 y);
      }

  pub none-leaves : {w v : World (Traced P)} (most : ℕ) → v ≡ w → Leaves w v [] [] most
  none-leaves most same = record { led = same; are = tt; few = omega arith; met = λ c none s alike. (tt, refl) }

  pub within : {w v : World (Traced P)} {cs : List Call} {deeds : List Deed} {n : ℕ} (most : ℕ) → n ≤ most → Leaves w v cs deeds n → Leaves w v cs deeds most
  within most less l = record { led = l.led; are = l.are; few = omega (arith, less, l.few); met = l.met }

  pub retold : {w v : World (Traced P)} {cs : List Call} {d e : List Deed} {most : ℕ} → Leaves w v cs d most → (C → d ≡ e) → Leaves w v cs e most
  retold l same = record {
    led = l.led;
    are = l.are;
    few = l.few;
    met = λ c none s alike. let r = l.met c none s alike in (r.0, r.1 ∙ ap (recorded s) (same c));
  }

  pub leaves-steady : (w v : World (Traced P)) (cs : List Call) (d : List Deed) (n : ℕ) → Leaves w v cs d n → Steady T w.device v.device
  leaves-steady w v cs d n l = Led-steady T cs w v l.led

  pub append-leaves : {w m v : World (Traced P)} {before after : List Call} {d e : List Deed} {n k : ℕ} (most : ℕ) → n + k ≤ most → Leaves w m before d n → Leaves m v after e k → Leaves w v (before ++ after) (d ++ e) most
  append-leaves {w} {m} {v} {before} {after} {d} {e} {n} {k} most less a b =
      let j = joined before w m v a.led after b.led in
      let es = entries_along T w before m a.led in
      let fs = entries_along T m after v b.led in
      let long : length (records_bytes (es ++ fs)) ≡ length (records_bytes es) + length (records_bytes fs) = long-append es fs in
      record {
        led = j.led;
        are = subst (AllByRecursion IsEntry) (sym j.entries) (all-append es fs a.are b.are);
        few = let same : length (records_bytes (entries_along T w (before ++ after) v j.led)) ≡ length (records_bytes (es ++ fs)) = ap (λ (xs : List Entry). length (records_bytes xs)) j.entries in omega (arith, same, long, a.few, b.few, less);
        met = λ c none s alike.
            let first = a.met c none s alike in
            let lead = subst (λ (xs : List Entry). AreAlike (T.on m.device) (steps_from s xs)) first.1 (records-lead T w m before a.led first.0 s alike) in
            let fewer = (leaves-steady w m before d n a).pending in
            let later = b.met c (omega (arith, none, fewer)) (steps_from s (recorded s d)) lead in (
              j.plain first.0 later.0,
              j.entries ∙ (λ i. first.1 i ++ later.1 i) ∙ sym (recorded-append d e s),
            );
      }

  -- ---- one call

  pub boot-leaves : (heap : ℕ) (w v : World (Traced P)) → Did T (calls.Boot heap) w v → Leaves w v (calls.Boot heap ∷ []) (Start heap ∷ []) 392
  boot-leaves heap w v d = record {
    led = (v, d, refl);
    are = (d.0.did.1, tt);
    few = omega (arith, long-one (Boot heap), entry-few (Boot heap) d.0.did.1);
    met = λ c none s alike. ((tt, tt), refl);
  }

  -- of a call that leaves one record where it meets a device that is on
  abbrev Met : Call → Deed → Type 0
  Met call deed = (o s : Option FwState) → AreAlike o s → entries_by (is_some o) call ++ [] ≡ recorded s (deed ∷ [])

  cut-met : Met calls.Cut Stop
  cut-met None None alike = refl
  cut-met None (Some g) alike = absurd (cc alike)
  cut-met (Some f) None alike = absurd (cc alike)
  cut-met (Some f) (Some g) alike = refl

  tick-met : Met calls.Tick Wait
  tick-met None None alike = refl
  tick-met None (Some g) alike = absurd (cc alike)
  tick-met (Some f) None alike = absurd (cc alike)
  tick-met (Some f) (Some g) alike = refl

  are-cut : (on : Bool) → AllByRecursion IsEntry (entries_by on calls.Cut ++ [])
  are-cut true = (tt, tt)
  are-cut false = tt

  are-tick : (on : Bool) → AllByRecursion IsEntry (entries_by on calls.Tick ++ [])
  are-tick true = (tt, tt)
  are-tick false = tt

  few-cut : (on : Bool) → length (records_bytes (entries_by on calls.Cut ++ [])) ≤ 8
  few-cut true = omega (arith, long-one Cut, cut-few)
  few-cut false = omega arith

  few-tick : (on : Bool) → length (records_bytes (entries_by on calls.Tick ++ [])) ≤ 8
  few-tick true = omega (arith, long-one Tick, tick-few)
  few-tick false = omega arith

  pub cut-leaves : (w v : World (Traced P)) → Did T calls.Cut w v → Leaves w v (calls.Cut ∷ []) (Stop ∷ []) 392
  cut-leaves w v d = record {
    led = (v, d, refl);
    are = are-cut (is_some (T.on w.device));
    few = omega (arith, few-cut (is_some (T.on w.device)));
    met = λ c none s alike. ((tt, tt), cut-met (T.on w.device) s alike);
  }

  pub tick-leaves : (w v : World (Traced P)) → Ticked T w v → Leaves w v (calls.Tick ∷ []) (Wait ∷ []) 8
  tick-leaves w v d = record {
    led = (v, d, refl);
    are = are-tick (is_some (T.on w.device));
    few = few-tick (is_some (T.on w.device));
    met = λ c none s alike. ((tt, tt), tick-met (T.on w.device) s alike);
  }

  -- so many ticks
  pub ticks-leave : (n : ℕ) (w v : World (Traced P)) → Led T w (replicate n calls.Tick) v → Leaves w v (replicate n calls.Tick) (replicate n Wait) (8 * n)
  ticks-leave zero w v led = none-leaves (8 * 0) led
  ticks-leave (suc n) w v led = append-leaves (8 * suc n) (omega arith) (tick-leaves w led.0 led.1) (ticks-leave n led.0 v led.2)

  -- they leave a device on
  pub ticks-on : (n : ℕ) (w v : World (Traced P)) → Led T w (replicate n calls.Tick) v → is_some (T.on w.device) ≡ true → is_some (T.on v.device) ≡ true
  ticks-on zero w v led on = ap (λ (x : World (Traced P)). is_some (T.on x.device)) led ∙ on
  ticks-on (suc n) w v led on = ticks-on n led.0 v led.2 (by (T.on w.device) refl on)
    where
      by : (o : Option FwState) → T.on w.device ≡ o → is_some o ≡ true → is_some (T.on led.0.device) ≡ true
      by None e here = absurd (cc here)
      by (Some f) e here = ap is_some (led.1.on f e).0

  -- ---- a message

  module _ (request : List ℕ) (answer : Option (List ℕ)) (w v : World (Traced P)) (on : is_some (T.on w.device) ≡ true) (short : length request ≤ 384) (x : Exchanged T request answer w v) (calm : C → Calm T w.device v.device) where
    abbrev Own : Option (List ℕ) → FwState → Type 0
    Own answer f = Stepped (Rose (T.refusals w.device) (T.refusals v.device)) (Rose (T.faults w.device) (T.faults v.device)) (ticks (T.pending w.device - T.pending v.device) (f, w.io)) request answer (T.on v.device) v.io

    -- it was answered by the firmware's reply
    answered : (a : Option (List ℕ)) → Exchanged T request a w v → Calm T w.device v.device → T.pending w.device ≡ 0 → (f g : FwState) → T.on w.device ≡ Some f → AreAlike (T.on w.device) (Some g) →
        Request request ∷ back_of a ∷ [] ≡ Request request ∷ Reply (step g request).1 ∷ []
    answered None y c none f g is alike = absurd (c.faults (y.step f is).1)
    answered (Some reply) y c none f g is alike =
        ap (λ (bytes : List ℕ). Request request ∷ Reply bytes ∷ []) (reply-is T w v request reply y (on, none, c.faults, c.refusals) g alike)

    met-by : C → T.pending w.device ≡ 0 → (o s : Option FwState) → T.on w.device ≡ o → is_some o ≡ true → AreAlike o s → Request request ∷ back_of answer ∷ [] ≡ recorded s (Send request ∷ [])
    met-by c none None s is here alike = absurd (cc here)
    met-by c none (Some f) None is here alike = absurd (cc alike)
    met-by c none (Some f) (Some g) is here alike = answered answer x (calm c) none f g is (ap (option_map quiescent) is ∙ alike)

    pub exchange-leaves : Leaves w v (calls.Exchange request answer ∷ []) (Send request ∷ []) 784
    exchange-leaves = record {
      led = (v, x, refl);
      are = (short, (x.did.1, tt));
      few = omega (arith, long-two (Request request) (back_of answer), entry-few (Request request) short, entry-few (back_of answer) x.did.1);
      met = λ c none s alike. (((on, none, (calm c).faults, (calm c).refusals), tt), met-by c none (T.on w.device) s refl on alike);
    }
