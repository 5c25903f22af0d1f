-- The files of a run were opened and its session begun, or the run ended before.
use Rattle.std.proofs.Common.{◌≡◌, ◌⊎◌, inl, inr, ℕ, ◌≤◌, Bool, true, false, eqb, ltb, nat_eq, ◌||◌, if◌then◌else◌, List, [], ◌∷◌, ◌++◌, length, Option, Some, None, unwrap_or, refl, sym, ◌∙◌, ap, subst, arith}
use Rattle.std.proofs.lemmas.List.{append-nil}
use Rattle.std.proofs.lemmas.Bool.{cases_Bool}
use Rattle.std.specs.List.{AllByRecursion}
use Rattle.sof_base.specs.Ports.{InputView, OutputView}
use Rattle.sof_io.specs.Bound.{has_slot, output_slots, with_slot}
use Rattle.sof_io.specs.Takes.{input_slots}
use Rattle.sof_io.specs.Fills.{with_input}
use Rattle.sof_io.proofs.InputLaws.{has_slot-with_input}
use Rattle.sof_io.proofs.OutputLaws.{has_slot-with_slot}
use Rattle.sof_desk.specs.Desk.{DeskMeaning, DeskPlace, Slot, Spoken, DeskAct, Create, Put, Open, DeskCall, Load, Did, Read, DeskLed, Acted, Part, Takes, same_place, with_more, with_nothing, written_after}
use Rattle.tplg_plan.specs.declared.plans.Plan.{Plan}
use Rattle.sof_script.specs.Commands.{Bound}
use Rattle.stream_law.specs.Table.{list_of}
use Rattle.sof_session.specs.NewInputs.{AreNew}
use Rattle.sof_script.specs.Tasks.{Turn}
use Rattle.run_desk.specs.Lines.{no_memory_line}
use Rattle.run_desk.specs.Todo.{Todo, Ask, Do, Free, Says, DoneBy}
use Rattle.run_desk.specs.Bindings.{bound_slot, bound_inputs, bound_files, bound_outputs}
use Rattle.run_play.specs.Play.{bindings_todo, traced_todo}
use Rattle.run_play.specs.Keeping.{trace_slot, trace_slots}
use Rattle.run_play.specs.Pieces.{opened, WroteNone}
use Rattle.run_play.specs.LineParts.{IsKeptOrOpened}
use Rattle.run_play.specs.Plays.{IsGiven}
use Rattle.run_desk.specs.OpeningCalls.{IsOpeningAct}
use Rattle.run_play.proofs.WrittenPieces.{more_none, put_part}
use Rattle.run_desk.proofs.AskedFiles.{Asked, Brought, Longer, Missing, Broken, asked}

-- ---- slots

or_right : (x y : Bool) → y ≡ true → (x || y) ≡ true
or_right true y is = refl
or_right false y is = is

-- a slot that is there stays there
stays_more : (slot : ℕ) (outputs : List OutputView) (n : ℕ) → has_slot n (output_slots outputs) ≡ true → has_slot n (output_slots (with_slot slot outputs)) ≡ true
stays_more slot outputs n is = has_slot-with_slot n slot outputs ∙ or_right (eqb slot n) (has_slot n (output_slots outputs)) is

abbrev StaysBound : Plan → List Bound → Type 0
StaysBound plan bs = (outputs : List OutputView) (n : ℕ) → has_slot n (output_slots outputs) ≡ true → has_slot n (output_slots (bound_outputs plan outputs bs)) ≡ true

stays_one : (plan : Plan) (b : Bound) (bs : List Bound) → StaysBound plan bs → (outputs : List OutputView) (n : ℕ) → has_slot n (output_slots outputs) ≡ true → (input : Bool) → has_slot n (output_slots (bound_outputs plan (if input then outputs else with_slot (bound_slot plan b) outputs) bs)) ≡ true
stays_one plan b bs others outputs n is true = others outputs n is
stays_one plan b bs others outputs n is false = others (with_slot (bound_slot plan b) outputs) n (stays_more (bound_slot plan b) outputs n is)

pub stays_bound : (plan : Plan) (bs : List Bound) → StaysBound plan bs
stays_bound plan [] outputs n is = is
stays_bound plan (b ∷ bs) outputs n is = stays_one plan b bs (stays_bound plan bs) outputs n is b.input

emptied_twice : (a b : Bool) (o : Option (List ℕ)) → (if a then with_nothing (if b then with_nothing o else o) else (if b then with_nothing o else o)) ≡ (if a || b then with_nothing o else o)
emptied_twice true true None = refl
emptied_twice true true (Some bytes) = refl
emptied_twice true false o = refl
emptied_twice false b o = refl

-- one more file is created
opened_more : (slot : ℕ) (outputs : List OutputView) (place : DeskPlace) (o : Option (List ℕ)) → (if same_place (Slot slot) place then with_nothing (opened (output_slots outputs) place o) else opened (output_slots outputs) place o) ≡ opened (output_slots (with_slot slot outputs)) place o
opened_more slot outputs Spoken o = refl
opened_more slot outputs (Slot n) o =
    emptied_twice (nat_eq slot n) (has_slot n (output_slots outputs)) o
    ∙ ap (λ (t : Bool). if t then with_nothing o else o) (sym (has_slot-with_slot n slot outputs))

pub opened_none : (place : DeskPlace) (o : Option (List ℕ)) → o ≡ opened [] place o
opened_none Spoken o = refl
opened_none (Slot n) o = refl

pub bind : {A B C : Type 0} → A ⊎ B → (A → C ⊎ B) → C ⊎ B
bind (inl a) f = f a
bind (inr b) f = inr b

part_of : (done : Bool) (part piece : List ℕ) → Part done part piece → (rest : List ℕ) × (part ++ rest ≡ piece)
part_of true part piece is = ([], append-nil part ∙ is)
part_of false part piece is = is

unwritten : (b : Bool) (o : Option (List ℕ)) → o ≡ (if b then with_more o [] else o)
unwritten true o = more_none o
unwritten false o = refl

module _ {D : Type 0} (means : DeskMeaning D) where
  -- nothing was written but the line for want of memory, or a front of it, or no byte
  abbrev NoneWrote : D → D → Type 0
  NoneWrote old new =
      (part : List ℕ) × ((rest : List ℕ) × (part ++ rest ≡ no_memory_line))
      × ((place : DeskPlace) → means.wrote new place ≡ (if same_place Spoken place then with_more (means.wrote old place) part else means.wrote old place))

  -- the run ended before any file was opened, with no turn
  pub record Stopped (turns : List Turn) (status : ℕ) (old new : D) : Type 0 where
    pub ended : (status ≡ 3) ⊎ (status ≡ 7)
    pub none : turns ≡ []
    pub wrote : NoneWrote old new

  -- the desk failed at a file, and nothing was written
  pub record NotOpened (turns : List Turn) (status : ℕ) (old new : D) : Type 0 where
    pub ended : status ≡ 3
    pub none : turns ≡ []
    pub kept : (place : DeskPlace) → means.wrote new place ≡ means.wrote old place

  none_wrote : (old new : D) → ((place : DeskPlace) → means.wrote new place ≡ means.wrote old place) → NoneWrote old new
  none_wrote old new kept = ([], (no_memory_line, refl), λ place. kept place ∙ unwritten (same_place Spoken place) (means.wrote old place))

  line_wrote : (act : DeskAct) (done : Bool) (old m new : D) → act ≡ Put Spoken no_memory_line → Acted means act done old m → new ≡ m → NoneWrote old new
  line_wrote act done old m new is acted last =
      (acted.part, part_of done acted.part no_memory_line (subst (λ a. Takes a done acted.part) is acted.takes), λ place. ap (λ d. means.wrote d place) last ∙ put_part means Spoken no_memory_line act done old m is acted place)

  -- after calls that wrote nothing
  stopped_later : (turns : List Turn) (status : ℕ) (old m new : D) → ((place : DeskPlace) → means.wrote m place ≡ means.wrote old place) → Stopped turns status m new → Stopped turns status old new
  stopped_later turns status old m new kept s =
      record { ended = s.ended; none = s.none; wrote = (s.wrote.0, s.wrote.1, λ place. s.wrote.2 place ∙ ap (λ o. if same_place Spoken place then with_more o s.wrote.0 else o) (kept place)) }

  -- there was no memory
  wanting : (turns : List Turn) (calls : List DeskCall) (status : ℕ) (old new : D) → Says no_memory_line 7 turns calls status → DeskLed means old calls new → Stopped turns status old new
  wanting turns [] status old new says led = absurd says
  wanting turns (Load name limit heard ∷ calls) status old new says led = absurd says
  wanting turns (Read n size got ∷ calls) status old new says led = absurd says
  wanting turns (Did act true ∷ calls) status old new says led =
      let last : new ≡ led.0 = subst (λ cs. DeskLed means led.0 cs new) says.2 led.2 in
      record { ended = inr says.3; none = says.1; wrote = line_wrote act true old led.0 new says.0 led.1 last }
  wanting turns (Did act false ∷ calls) status old new says led =
      let last : new ≡ led.0 = subst (λ cs. DeskLed means led.0 cs new) says.2 led.2 in
      record { ended = inl says.3; none = says.1; wrote = line_wrote act false old led.0 new says.0 led.1 last }

  -- what comes next was done, from another desk
  pub record Next (todo : Todo) (turns : List Turn) (status : ℕ) (mid new : D) : Type 0 where
    pub calls : List DeskCall
    pub goes : DoneBy todo turns calls status
    pub led : DeskLed means mid calls new

  -- one that gave the same, where nothing was written
  pub record Onwards (todo : Todo) (turns : List Turn) (status : ℕ) (old new : D) : Type 0 where
    pub mid : D
    pub next : Next todo turns status mid new
    pub wrote : (place : DeskPlace) → means.wrote mid place ≡ means.wrote old place
    pub holds : (name : List ℕ) → means.holds mid name ≡ means.holds old name

  pub free_goes : (rest : Todo) (turns : List Turn) (status : ℕ) (old new : D) → Next (Free rest) turns status old new → Next rest turns status old new ⊎ Stopped turns status old new
  free_goes rest turns status old new n = by n.calls n.goes n.led
    where
      by : (calls : List DeskCall) → DoneBy (Free rest) turns calls status → DeskLed means old calls new → Next rest turns status old new ⊎ Stopped turns status old new
      by calls (inl goes) led = inl record { calls = calls; goes = goes; led = led }
      by calls (inr says) led = inr (wanting turns calls status old new says led)

  -- a load of a file whose bytes are stated and fit
  module _ (name : List ℕ) (limit : ℕ) (line : List ℕ) (rest : List ℕ → Todo) (turns : List Turn) (status : ℕ) (old new : D) (bytes : List ℕ) (told : means.holds old name ≡ Some bytes) (short : length bytes ≤ limit) where
    pub ask_goes : Next (Ask name limit line rest) turns status old new → Onwards (rest bytes) turns status old new ⊎ Stopped turns status old new
    ask_goes n = by (asked name limit line rest turns means bytes n.calls status old new (inl told) n.goes n.led)
      where
        by : Asked name limit line rest turns means bytes n.calls status old new → Onwards (rest bytes) turns status old new ⊎ Stopped turns status old new
        by (Brought later m is fits are kept holds goes led) = inl record { mid = m; next = record { calls = later; goes = goes; led = led }; wrote = kept; holds = holds }
        by (Longer later is over says) = absurd (omega (arith, over, short))
        by (Missing later m kept says led) = inr (stopped_later turns status old m new kept (wanting turns later status m new says led))
        by (Broken kept three none) = inr record { ended = inl three; none = none; wrote = none_wrote old new kept }

  -- a file is opened or created
  pub record Done (act : DeskAct) (todo : Todo) (turns : List Turn) (status : ℕ) (old new : D) : Type 0 where
    pub mid : D
    pub next : Next todo turns status mid new
    pub acted : Acted means act true old mid

  act_goes : (act : DeskAct) → IsOpeningAct act → (rest : Todo) (turns : List Turn) (status : ℕ) (old new : D) → Next (Do act rest) turns status old new → Done act rest turns status old new ⊎ NotOpened turns status old new
  act_goes act opens rest turns status old new n = by n.calls n.goes n.led
    where
      kept : (act : DeskAct) → IsOpeningAct act → (part : List ℕ) (place : DeskPlace) (o : Option (List ℕ)) → written_after act false part place o ≡ o
      kept (Create slot name) opens part place o = refl
      kept (Put to piece) opens part place o = absurd opens
      kept (Open slot name) opens part place o = refl

      by : (calls : List DeskCall) → DoneBy (Do act rest) turns calls status → DeskLed means old calls new → Done act rest turns status old new ⊎ NotOpened turns status old new
      by [] goes led = absurd goes
      by (Load name limit heard ∷ calls) goes led = absurd goes
      by (Read n size got ∷ calls) goes led = absurd goes
      by (Did a true ∷ calls) goes led =
          inl record { mid = led.0; next = record { calls = calls; goes = goes.1; led = led.2 }; acted = subst (λ x. Acted means x true old led.0) goes.0 led.1 }
      by (Did a false ∷ calls) goes led =
          let acted : Acted means act false old led.0 = subst (λ x. Acted means x false old led.0) goes.0 led.1 in
          let last : new ≡ led.0 = subst (λ cs. DeskLed means led.0 cs new) goes.1.1 led.2 in
          inr record { ended = goes.1.2; none = goes.1.0; kept = λ place. ap (λ d. means.wrote d place) last ∙ acted.wrote place ∙ kept act opens acted.part place (means.wrote old place) }

  -- ---- files that are open

  -- at a desk the files of these outputs are created, and nothing was written since another
  abbrev pub AreOpen : List OutputView → D → D → Type 0
  AreOpen outputs base d = (place : DeskPlace) → means.wrote d place ≡ opened (output_slots outputs) place (means.wrote base place)

  created_open : (slot : ℕ) (file : List ℕ) (outputs : List OutputView) (base d e : D) → AreOpen outputs base d → Acted means (Create slot file) true d e → AreOpen (with_slot slot outputs) base e
  created_open slot file outputs base d e are acted place =
      acted.wrote place
      ∙ ap (λ o. if same_place (Slot slot) place then with_nothing o else o) (are place)
      ∙ opened_more slot outputs place (means.wrote base place)

  -- the run ended while or before the files of these slots were created; where there was no memory, none was created
  pub record Before (slots : List ℕ) (turns : List Turn) (status : ℕ) (old new : D) : Type 0 where
    pub ended : (status ≡ 3) ⊎ (status ≡ 7)
    pub none : turns ≡ []
    pub wrote : WroteNone means slots old new
    pub wanting : status ≡ 7 → (slot : ℕ) → means.wrote new (Slot slot) ≡ means.wrote old (Slot slot)

  -- before any file was opened
  module _ (all : List ℕ) (base d new : D) (are : AreOpen [] base d) (turns : List Turn) (status : ℕ) where
    pub stopped_before : {A : Type 0} → A ⊎ Stopped turns status d new → A ⊎ Before all turns status base new
    stopped_before (inl a) = inl a
    stopped_before (inr s) = inr record {
      ended = s.ended;
      none = s.none;
      wrote = record {
        part = s.wrote.0;
        front = s.wrote.1;
        said = s.wrote.2 Spoken ∙ ap (λ o. with_more o s.wrote.0) (are Spoken);
        outputs = λ n. inl (s.wrote.2 (Slot n) ∙ are (Slot n));
      };
      wanting = λ is n. s.wrote.2 (Slot n) ∙ are (Slot n);
    }

  -- at a file
  module _ (all : List ℕ) (outputs : List OutputView) (stays : (n : ℕ) → has_slot n (output_slots outputs) ≡ true → has_slot n all ≡ true) (base d new : D) (are : AreOpen outputs base d) (turns : List Turn) (status : ℕ) where
    kept : (n : ℕ) (b : Bool) (o later : Option (List ℕ)) → has_slot n (output_slots outputs) ≡ b → later ≡ (if b then with_nothing o else o) → IsKeptOrOpened all (Slot n) o later
    kept n true o later bound is = inr (is ∙ ap (λ (t : Bool). if t then with_nothing o else o) (sym (stays n bound)))
    kept n false o later free is = inl is

    three : {C : Type 0} → status ≡ 3 → status ≡ 7 → C
    three is other = absurd (omega (arith, is, other))

    pub failed_before : {A : Type 0} → A ⊎ NotOpened turns status d new → A ⊎ Before all turns status base new
    failed_before (inl a) = inl a
    failed_before (inr f) = inr record {
      ended = inl f.ended;
      none = f.none;
      wrote = record {
        part = [];
        front = (no_memory_line, refl);
        said = f.kept Spoken ∙ are Spoken ∙ more_none (means.wrote base Spoken);
        outputs = λ n. kept n (has_slot n (output_slots outputs)) (means.wrote base (Slot n)) (means.wrote new (Slot n)) refl (f.kept (Slot n) ∙ are (Slot n));
      };
      wanting = λ is n. three f.ended is;
    }

  -- ---- files of which nothing was read

  -- nothing was read of the inputs' files, which have these bytes
  pub record AreUnread (inputs : List InputView) (files : List (ℕ × List ℕ)) (d : D) : Type 0 where
    pub new : AreNew inputs
    pub told : (slot : ℕ) → has_slot slot (input_slots inputs) ≡ true → means.unread d slot ≡ Some (list_of files slot)
    pub none : (slot : ℕ) → has_slot slot (input_slots inputs) ≡ false → list_of files slot ≡ []

  -- none is open yet
  pub none_unread : (d : D) → AreUnread [] [] d
  none_unread d = record { new = tt; told = λ slot there. absurd (cc there); none = λ slot apart. refl }

  -- other calls leave what is to be read
  pub unread_kept : (inputs : List InputView) (files : List (ℕ × List ℕ)) (d e : D) → ((slot : ℕ) → means.unread e slot ≡ means.unread d slot) → AreUnread inputs files d → AreUnread inputs files e
  unread_kept inputs files d e same u = record { new = u.new; told = λ slot there. same slot ∙ u.told slot there; none = u.none }

  new_more : (slot : ℕ) (inputs : List InputView) → AreNew inputs → AreNew (with_input slot inputs)
  new_more slot [] new = (refl, tt)
  new_more slot (input ∷ inputs) new =
      elim (cases_Bool (ltb slot input.slot)) [
        | inl above ↦ rw above (refl, new)
        | inr below ↦ rw below (new.0, new_more slot inputs new.1)
      ]

  -- one more file
  module _ (slot : ℕ) (file bytes : List ℕ) (inputs : List InputView) (files : List (ℕ × List ℕ)) (d e : D) (u : AreUnread inputs files d) (told : means.holds d file ≡ Some bytes) (acted : Acted means (Open slot file) true d e) where
    told_by : (b : Bool) (other : ℕ) (o : Option (List ℕ)) (xs : List ℕ) → (b ≡ false → o ≡ Some xs) → (if b then means.holds d file else o) ≡ Some (if b then bytes else xs)
    told_by true other o xs is = told
    told_by false other o xs is = is refl

    there_by : (b x : Bool) → (b || x) ≡ true → b ≡ false → x ≡ true
    there_by true x is differs = absurd (cc differs)
    there_by false x is differs = is

    none_by : (b x : Bool) (xs : List ℕ) → (b || x) ≡ false → (x ≡ false → xs ≡ []) → (if b then bytes else xs) ≡ []
    none_by true x xs is none = absurd (cc is)
    none_by false x xs is none = none is

    unread_more : AreUnread (with_input slot inputs) ((slot, bytes) ∷ files) e
    unread_more = record {
      new = new_more slot inputs u.new;
      told = λ other there. acted.unread other ∙ told_by (nat_eq slot other) other (means.unread d other) (list_of files other)
          (λ differs. u.told other (there_by (eqb slot other) (has_slot other (input_slots inputs)) (sym (has_slot-with_input other slot inputs) ∙ there) differs));
      none = λ other apart. none_by (eqb slot other) (has_slot other (input_slots inputs)) (list_of files other) (sym (has_slot-with_input other slot inputs) ∙ apart) (u.none other);
    }

  -- ---- the bindings

  module _ (holds : List ℕ → Option (List ℕ)) (plan : Plan) (rest : Todo) (turns : List Turn) (status : ℕ) (base new : D) where
    -- the files are open, and what comes next was done
    pub record Opened (inputs : List InputView) (outputs : List OutputView) (files : List (ℕ × List ℕ)) : Type 0 where
      pub mid : D
      pub next : Next rest turns status mid new
      pub are : AreOpen outputs base mid
      pub unread : AreUnread inputs files mid

    abbrev Opens : List Bound → Type 0
    Opens bs = (inputs : List InputView) (outputs : List OutputView) (files : List (ℕ × List ℕ)) (old : D) → AllByRecursion (IsGiven holds) bs → ((name : List ℕ) → means.holds old name ≡ holds name) → AreOpen outputs base old → AreUnread inputs files old →
        Next (bindings_todo plan bs rest) turns status old new →
        Opened (bound_inputs plan inputs bs) (bound_outputs plan outputs bs) (bound_files plan holds files bs) ⊎ Before (output_slots (bound_outputs plan outputs bs)) turns status base new

    -- one binding, and those after it
    module _ (b : Bound) (bs : List Bound) (others : Opens bs) (inputs : List InputView) (outputs : List OutputView) (files : List (ℕ × List ℕ)) (old : D) (given : IsGiven holds b) (later : AllByRecursion (IsGiven holds) bs)
        (held : (name : List ℕ) → means.holds old name ≡ holds name) (are : AreOpen outputs base old) (unread : AreUnread inputs files old) where
      abbrev slot : ℕ
      slot = bound_slot plan b

      abbrev bytes : List ℕ
      bytes = unwrap_or (holds b.file) []

      abbrev after : Todo
      after = bindings_todo plan bs rest

      abbrev outputs_by : Bool → List OutputView
      outputs_by input = bound_outputs plan (if input then outputs else with_slot slot outputs) bs

      abbrev By : Bool → Type 0
      By input = Opened (bound_inputs plan (if input then with_input slot inputs else inputs) bs) (outputs_by input) (bound_files plan holds (if input then (slot, bytes) ∷ files else files) bs) ⊎ Before (output_slots (outputs_by input)) turns status base new

      stays_created : (n : ℕ) → has_slot n (output_slots outputs) ≡ true → has_slot n (output_slots (outputs_by false)) ≡ true
      stays_created n is = stays_bound plan bs (with_slot slot outputs) n (stays_more slot outputs n is)

      one : (input : Bool) → b.input ≡ input → Next (Do (if input then Open slot b.file else Create slot b.file) after) turns status old new → By input
      one true is n =
          let file = given is in
          let told : means.holds old b.file ≡ Some bytes = held b.file ∙ file.1 ∙ ap (λ o. Some (unwrap_or o [])) (sym file.1) in
          bind (failed_before (output_slots (outputs_by true)) outputs (stays_bound plan bs outputs) base old new are turns status (act_goes (Open slot b.file) tt after turns status old new n)) (λ a.
          others (with_input slot inputs) outputs ((slot, bytes) ∷ files) a.mid later (λ name. a.acted.kept.holds name ∙ held name) (λ place. a.acted.wrote place ∙ are place)
          (unread_more slot b.file bytes inputs files old a.mid unread told a.acted) a.next)
      one false is n =
          bind (failed_before (output_slots (outputs_by false)) outputs stays_created base old new are turns status (act_goes (Create slot b.file) tt after turns status old new n)) (λ a.
          others inputs (with_slot slot outputs) files a.mid later (λ name. a.acted.kept.holds name ∙ held name) (created_open slot b.file outputs base old a.mid are a.acted)
          (unread_kept inputs files old a.mid a.acted.unread unread) a.next)

    pub open_all : (bs : List Bound) → Opens bs
    open_all [] inputs outputs files old given held are unread n = inl record { mid = old; next = n; are = are; unread = unread }
    open_all (b ∷ bs) inputs outputs files old given held are unread n = one b bs (open_all bs) inputs outputs files old given.0 given.1 held are unread b.input refl n

-- ---- the file of a trace

-- one more slot is made, before these
made_more : (slot : ℕ) (slots : List ℕ) (place : DeskPlace) (o : Option (List ℕ)) → (if same_place (Slot slot) place then with_nothing (opened slots place o) else opened slots place o) ≡ opened (slot ∷ slots) place o
made_more slot slots Spoken o = refl
made_more slot slots (Slot n) o = emptied_twice (nat_eq slot n) (has_slot n slots) o

module _ {D : Type 0} (means : DeskMeaning D) where
  -- at a desk the files of these slots are made, and nothing was written since another
  abbrev pub AreMade : List ℕ → D → D → Type 0
  AreMade slots base d = (place : DeskPlace) → means.wrote d place ≡ opened slots place (means.wrote base place)

  kept_more : (slot n : ℕ) (slots : List ℕ) (was later : Option (List ℕ)) (b : Bool) → has_slot n slots ≡ b → later ≡ (if b then with_nothing was else was) → IsKeptOrOpened (slot ∷ slots) (Slot n) was later
  kept_more slot n slots was later true there is = inr (is ∙ ap (λ (t : Bool). if t then with_nothing was else was) (sym (or_right (eqb slot n) (has_slot n slots) there)))
  kept_more slot n slots was later false free is = inl is

  -- what may have been made of some may have been made of one more
  kept_or_more : (slot n : ℕ) (slots : List ℕ) (was later : Option (List ℕ)) → IsKeptOrOpened slots (Slot n) was later → IsKeptOrOpened (slot ∷ slots) (Slot n) was later
  kept_or_more slot n slots was later (inl same) = inl same
  kept_or_more slot n slots was later (inr is) = kept_more slot n slots was later (has_slot n slots) refl is

  before_more : (slot : ℕ) (slots : List ℕ) (turns : List Turn) (status : ℕ) (old new : D) → Before means slots turns status old new → Before means (slot ∷ slots) turns status old new
  before_more slot slots turns status old new b = record {
    ended = b.ended;
    none = b.none;
    wrote = record {
      part = b.wrote.part;
      front = b.wrote.front;
      said = b.wrote.said;
      outputs = λ n. kept_or_more slot n slots (means.wrote old (Slot n)) (means.wrote new (Slot n)) (b.wrote.outputs n);
    };
    wanting = b.wanting;
  }

  pub before_traced : (trace : Option (List ℕ)) (slots : List ℕ) (turns : List Turn) (status : ℕ) (old new : D) → Before means slots turns status old new → Before means (trace_slots trace ++ slots) turns status old new
  before_traced None slots turns status old new b = b
  before_traced (Some name) slots turns status old new b = before_more trace_slot slots turns status old new b

  -- the trace's file was made where one is kept, and what comes next was done
  pub record Traced (trace : Option (List ℕ)) (slots : List ℕ) (rest : Todo) (turns : List Turn) (status : ℕ) (base old new : D) : Type 0 where
    pub mid : D
    pub next : Next means rest turns status mid new
    pub are : AreMade (trace_slots trace ++ slots) base mid
    pub unread : (slot : ℕ) → means.unread mid slot ≡ means.unread old slot

  pub traced_goes : (trace : Option (List ℕ)) (outputs : List OutputView) (rest : Todo) (turns : List Turn) (status : ℕ) (base old new : D) → AreOpen means outputs base old → Next means (traced_todo trace rest) turns status old new →
      Traced trace (output_slots outputs) rest turns status base old new ⊎ Before means (trace_slots trace ++ output_slots outputs) turns status base new
  traced_goes None outputs rest turns status base old new are n = inl record { mid = old; next = n; are = are; unread = λ slot. refl }
  traced_goes (Some name) outputs rest turns status base old new are n =
      bind (failed_before means (trace_slot ∷ output_slots outputs) outputs (λ k there. or_right (eqb trace_slot k) (has_slot k (output_slots outputs)) there) base old new are turns status
      (act_goes means (Create trace_slot name) tt rest turns status old new n)) (λ a.
      inl record {
        mid = a.mid;
        next = a.next;
        are = λ place. a.acted.wrote place ∙ ap (λ o. if same_place (Slot trace_slot) place then with_nothing o else o) (are place) ∙ made_more trace_slot (output_slots outputs) place (means.wrote base place);
        unread = a.acted.unread;
      })
