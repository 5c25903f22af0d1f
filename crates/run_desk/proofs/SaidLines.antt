-- A line that is said, and what is written then.
use Rattle.std.proofs.Common.{◌≡◌, ◌⊎◌, inl, inr, ℕ, Bool, true, false, List, [], ◌∷◌, ◌++◌, Option, Some, None, sym, ◌∙◌, ap, subst, append_assoc, if◌then◌else◌}
use Rattle.std.proofs.lemmas.List.{append-nil}
use Rattle.sof_desk.specs.Desk.{DeskMeaning, DeskPlace, Spoken, DeskAct, Put, DeskCall, Load, Did, Read, DeskLed, Acted, Part, Takes, same_place, with_more, written_after}
use Rattle.sof_script.specs.Tasks.{Turn}
use Rattle.run_desk.specs.Todo.{Says}
use Rattle.run_desk.specs.DeskCalls.{saying}
use Rattle.run_desk.specs.SaidText.{Spoke, IsFront}

-- a line that was said, with its status, or that was not
pub said : (line : List ℕ) (n : ℕ) (turns : List Turn) (calls : List DeskCall) (status : ℕ) → Says line n turns calls status → (status ≡ 3) ⊎ ((status ≡ n) × (calls ≡ saying line ∷ []))
said line n turns [] status says = absurd says
said line n turns (Load name limit heard ∷ calls) status says = absurd says
said line n turns (Read slot size got ∷ calls) status says = absurd says
said line n turns (Did act true ∷ calls) status says = inr (says.3, λ i. Did (says.0 i) true ∷ says.2 i)
said line n turns (Did act false ∷ calls) status says = inl says.3

-- bytes after bytes, at a place
pub more_behind : (b : Bool) (o w v : Option (List ℕ)) (first rest : List ℕ) → w ≡ (if b then with_more o first else o) → v ≡ (if b then with_more w rest else w) → v ≡ (if b then with_more o (first ++ rest) else o)
more_behind true None w v first rest one two = two ∙ ap (λ x. with_more x rest) one
more_behind true (Some bytes) w v first rest one two = two ∙ ap (λ x. with_more x rest) one ∙ ap Some (append_assoc bytes first rest)
more_behind false o w v first rest one two = two ∙ one

pub none_more : (b : Bool) (o v : Option (List ℕ)) → v ≡ o → v ≡ (if b then with_more o [] else o)
none_more true None v same = same
none_more true (Some bytes) v same = same ∙ ap Some (sym (append-nil bytes))
none_more false o v same = same

-- a front after a whole is a front
pub front_behind : (first part text : List ℕ) → IsFront part text → IsFront (first ++ part) (first ++ text)
front_behind first part text front = (front.0, append_assoc first part front.0 ∙ ap (λ xs. first ++ xs) front.1)

module _ {D : Type 0} (means : DeskMeaning D) where
  pub nothing : (d e : D) → ((place : DeskPlace) → means.wrote e place ≡ means.wrote d place) → Spoke means [] d e
  nothing d e kept place = none_more (same_place Spoken place) (means.wrote d place) (means.wrote e place) (kept place)

  pub behind : (first rest : List ℕ) (d m e : D) → Spoke means first d m → Spoke means rest m e → Spoke means (first ++ rest) d e
  behind first rest d m e one two place = more_behind (same_place Spoken place) (means.wrote d place) (means.wrote m place) (means.wrote e place) first rest (one place) (two place)

  pub put : (line : List ℕ) (act : DeskAct) (done : Bool) (d e : D) → act ≡ Put Spoken line → (acted : Acted means act done d e) → Spoke means acted.part d e
  put line act done d e is acted place = acted.wrote place ∙ ap (λ a. written_after a done acted.part place (means.wrote d place)) is

  pub took : (line : List ℕ) (act : DeskAct) (done : Bool) (part : List ℕ) → act ≡ Put Spoken line → Takes act done part → Part done part line
  took line act done part is takes = subst (λ a. Takes a done part) is takes

  -- a text was said with a status, or a front of it with 3
  pub record Parted (text : List ℕ) (n : ℕ) (d e : D) (status : ℕ) : Type 0 where
    pub part : List ℕ
    pub spoke : Spoke means part d e
    pub is : ((status ≡ n) × (part ≡ text)) ⊎ ((status ≡ 3) × IsFront part text)

  -- nothing comes after a line that failed
  pub line_failed : (line text : List ℕ) (n : ℕ) (act : DeskAct) (calls : List DeskCall) (d e : D) (status : ℕ) → act ≡ Put Spoken line → calls ≡ [] → status ≡ 3 → DeskLed means d (Did act false ∷ calls) e → Parted (line ++ text) n d e status
  line_failed line text n act calls d e status is last three led =
      let acted : Acted means act false d led.0 = led.1 in
      let same : e ≡ led.0 = subst (λ cs. DeskLed means led.0 cs e) last led.2 in
      let front = took line act false acted.part is acted.takes in
      record {
        part = acted.part;
        spoke = λ place. ap (λ x. means.wrote x place) same ∙ put line act false d led.0 is acted place;
        is = inr (three, (front.0 ++ text, sym (append_assoc acted.part front.0 text) ∙ ap (λ xs. xs ++ text) front.1));
      }

  pub line_parted : (line : List ℕ) (n : ℕ) (turns : List Turn) (calls : List DeskCall) (d e : D) (status : ℕ) → Says line n turns calls status → DeskLed means d calls e → Parted line n d e status
  line_parted line n turns [] d e status says led = absurd says
  line_parted line n turns (Load name limit heard ∷ calls) d e status says led = absurd says
  line_parted line n turns (Read slot size got ∷ calls) d e status says led = absurd says
  line_parted line n turns (Did act true ∷ calls) d e status says led =
      let acted : Acted means act true d led.0 = led.1 in
      let same : e ≡ led.0 = subst (λ cs. DeskLed means led.0 cs e) says.2 led.2 in
      record {
        part = acted.part;
        spoke = λ place. ap (λ x. means.wrote x place) same ∙ put line act true d led.0 says.0 acted place;
        is = inl (says.3, took line act true acted.part says.0 acted.takes);
      }
  line_parted line n turns (Did act false ∷ calls) d e status says led =
      subst (λ text. Parted text n d e status) (append-nil line) (line_failed line [] n act calls d e status says.0 says.2 says.3 led)
