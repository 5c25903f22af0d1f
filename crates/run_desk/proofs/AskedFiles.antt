-- A file that is asked for: what was done is by the result of its load.
use Rattle.std.proofs.Common.{◌≡◌, ◌⊎◌, inl, inr, ℕ, ◌≤◌, ◌<◌, List, [], ◌∷◌, length, Some, Ok, Err, ap, ◌∙◌, subst, arith}
use Rattle.sof_desk.specs.declared.calls.LoadFault.TheVariants as faults
use Rattle.sof_desk.specs.Desk.{DeskMeaning, DeskPlace, DeskCall, Load, Did, Read, DeskLed, Loaded}
use Rattle.sof_script.specs.Tasks.{Turn}
use Rattle.run_desk.specs.TopologyBytes.{AreBytes}
use Rattle.run_desk.specs.Lines.{no_memory_line}
use Rattle.run_desk.specs.DeskCalls.{heard_in, saying}
use Rattle.run_desk.specs.Todo.{Todo, Ask, Says, DoneBy}
use Rattle.run_desk.proofs.Steps.{no_turns}
use Rattle.run_desk.proofs.SaidLines.{said}

-- the desk failed, or memory was missing
abbrev pub IsCutOff : ℕ → Type 0
IsCutOff status = (status ≡ 3) ⊎ (status ≡ 7)

-- where the desk did not fail, this comes with it
pub unless_cut : {A X : Type 0} (status : ℕ) → (status ≡ 3) ⊎ A → (A → X) → IsCutOff status ⊎ X
unless_cut status (inl three) so = inl (inl three)
unless_cut status (inr done) so = inr (so done)

pub no_memory : (turns : List Turn) (calls : List DeskCall) (status : ℕ) → Says no_memory_line 7 turns calls status → IsCutOff status
no_memory turns calls status says = by (said no_memory_line 7 turns calls status says)
  where
    by : (status ≡ 3) ⊎ ((status ≡ 7) × (calls ≡ saying no_memory_line ∷ [])) → IsCutOff status
    by (inl three) = inl three
    by (inr seven) = inr seven.0

-- memory was there, or not
pub where_free : {A X : Type 0} (turns : List Turn) (calls : List DeskCall) (status : ℕ) → A ⊎ Says no_memory_line 7 turns calls status → (A → IsCutOff status ⊎ X) → IsCutOff status ⊎ X
where_free turns calls status (inl goes) so = so goes
where_free turns calls status (inr says) so = inl (no_memory turns calls status says)

module _ (name : List ℕ) (limit : ℕ) (line : List ℕ) (next : List ℕ → Todo) (turns : List Turn) where
  -- no turn comes before what is done with the bytes
  pub asked_alone : (calls : List DeskCall) (status : ℕ) → DoneBy (Ask name limit line next) turns calls status → ((bytes : List ℕ) (later : List DeskCall) → DoneBy (next bytes) turns later status → turns ≡ []) → turns ≡ []
  asked_alone [] status goes alone = absurd goes
  asked_alone (Did act done ∷ calls) status goes alone = absurd goes
  asked_alone (Read slot size got ∷ calls) status goes alone = absurd goes
  asked_alone (Load n l (Ok got) ∷ calls) status goes alone = alone got calls goes.2
  asked_alone (Load n l (Err faults.TooLong) ∷ calls) status goes alone = no_turns line 5 turns calls status goes.2
  asked_alone (Load n l (Err faults.OutOfMemory) ∷ calls) status goes alone = no_turns no_memory_line 7 turns calls status goes.2
  asked_alone (Load n l (Err faults.Failed) ∷ calls) status goes alone = goes.2.0

  module _ {D : Type 0} (means : DeskMeaning D) (bytes : List ℕ) where
    -- the load brought the bytes, or the file was too long, or memory was missing, or the load failed
    pub data Asked (calls : List DeskCall) (status : ℕ) (d e : D) : Type 0 where
      Brought : (later : List DeskCall) (m : D) (is : calls ≡ Load name limit (Ok bytes) ∷ later) (short : length bytes ≤ limit) (are : AreBytes bytes) (kept : (place : DeskPlace) → means.wrote m place ≡ means.wrote d place) (holds : (other : List ℕ) → means.holds m other ≡ means.holds d other) (goes : DoneBy (next bytes) turns later status) (led : DeskLed means m later e) → Asked calls status d e
      Longer : (later : List DeskCall) (is : calls ≡ Load name limit (Err faults.TooLong) ∷ later) (over : limit < length bytes) (says : Says line 5 turns later status) → Asked calls status d e
      Missing : (later : List DeskCall) (m : D) (kept : (place : DeskPlace) → means.wrote m place ≡ means.wrote d place) (says : Says no_memory_line 7 turns later status) (led : DeskLed means m later e) → Asked calls status d e
      Broken : (kept : (place : DeskPlace) → means.wrote e place ≡ means.wrote d place) (three : status ≡ 3) (none : turns ≡ []) → Asked calls status d e

    -- the desk failed or memory was missing, or the file was too long and the line for that was said, or it is as `X` says
    abbrev pub Judged : Type 0 → List DeskCall → ℕ → Type 0
    Judged X calls status = IsCutOff status ⊎ (((status ≡ 5) × (limit < length bytes) × (calls ≡ Load name limit (Err faults.TooLong) ∷ saying line ∷ [])) ⊎ X)

    -- the bytes are those that the file is stated to have, or those that the load brought
    pub asked : (calls : List DeskCall) (status : ℕ) (d e : D) → (means.holds d name ≡ Some bytes) ⊎ (heard_in calls ≡ Ok bytes ∷ []) → DoneBy (Ask name limit line next) turns calls status → DeskLed means d calls e → Asked calls status d e
    asked [] status d e by goes led = absurd goes
    asked (Did act done ∷ calls) status d e by goes led = absurd goes
    asked (Read slot size got ∷ calls) status d e by goes led = absurd goes
    asked (Load n l (Ok got) ∷ calls) status d e by goes led =
        let loaded : Loaded means n l (Ok got) d led.0 = led.1 in
        let same : got ≡ bytes = elim by [ inl told ↦ loaded.answers.1 bytes (ap (means.holds d) goes.0 ∙ told) | inr heard ↦ cc heard ] in
        let short : length bytes ≤ limit = subst (λ k. length bytes ≤ k) goes.1 (subst (λ xs. length xs ≤ l) same loaded.answers.0) in
        Brought calls led.0 (λ i. Load (goes.0 i) (goes.1 i) (Ok (same i)) ∷ calls) short (subst AreBytes same goes.3) loaded.wrote loaded.kept.holds (subst (λ xs. DoneBy (next xs) turns calls status) same goes.2) led.2
    asked (Load n l (Err faults.TooLong) ∷ calls) status d e by goes led =
        let loaded : Loaded means n l (Err faults.TooLong) d led.0 = led.1 in
        let over : l < length bytes = elim by [ inl told ↦ loaded.answers bytes (ap (means.holds d) goes.0 ∙ told) | inr heard ↦ absurd (cc heard) ] in
        Longer calls (λ i. Load (goes.0 i) (goes.1 i) (Err faults.TooLong) ∷ calls) (subst (λ k. k < length bytes) goes.1 over) goes.2
    asked (Load n l (Err faults.OutOfMemory) ∷ calls) status d e by goes led =
        let loaded : Loaded means n l (Err faults.OutOfMemory) d led.0 = led.1 in
        Missing calls led.0 loaded.wrote goes.2 led.2
    asked (Load n l (Err faults.Failed) ∷ calls) status d e by goes led =
        let loaded : Loaded means n l (Err faults.Failed) d led.0 = led.1 in
        let last : e ≡ led.0 = subst (λ cs. DeskLed means led.0 cs e) goes.2.1 led.2 in
        Broken (λ place. ap (λ x. means.wrote x place) last ∙ loaded.wrote place) goes.2.2 goes.2.0

    -- the status and all calls are by the bytes, and by what was done with them where the load brought them
    pub judged : {X : Type 0} (calls : List DeskCall) (status : ℕ) (d e : D) → Asked calls status d e
        → ((later : List DeskCall) → calls ≡ Load name limit (Ok bytes) ∷ later → length bytes ≤ limit → AreBytes bytes → DoneBy (next bytes) turns later status → Judged X calls status) → Judged X calls status
    judged calls status d e (Brought later m is short are kept holds goes led) so = so later is short are goes
    judged calls status d e (Longer later is over says) so =
        unless_cut status (said line 5 turns later status says) (λ five. inl (five.0, over, is ∙ ap (λ cs. Load name limit (Err faults.TooLong) ∷ cs) five.1))
    judged calls status d e (Missing later m kept says led) so = inl (no_memory turns later status says)
    judged calls status d e (Broken kept three none) so = inl (inl three)

    -- what was written is by the bytes of a file within its limit
    pub asked_wrote : (W : D → Type 0) (calls : List DeskCall) (status : ℕ) (d e : D) → length bytes ≤ limit → Asked calls status d e → ((m : D) → ((place : DeskPlace) → means.wrote m place ≡ means.wrote d place) → W m → W d)
        → ((later : List DeskCall) (m : D) → AreBytes bytes → DoneBy (next bytes) turns later status → DeskLed means m later e → W m) → ((later : List DeskCall) (m : D) → Says no_memory_line 7 turns later status → DeskLed means m later e → W m)
        → (status ≡ 3 → W e) → W d
    asked_wrote W calls status d e fits (Brought later m is short are kept holds goes led) since brought missing failed = since m kept (brought later m are goes led)
    asked_wrote W calls status d e fits (Longer later is over says) since brought missing failed = absurd (omega (arith, fits, over))
    asked_wrote W calls status d e fits (Missing later m kept says led) since brought missing failed = since m kept (missing later m says led)
    asked_wrote W calls status d e fits (Broken kept three none) since brought missing failed = since e kept (failed three)
