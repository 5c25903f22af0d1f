-- What an exchange did, by its answer.
use Rattle.std.proofs.Common.{◌≡◌, ◌⊎◌, inl, inr, ⊎_elim, ℕ, ◌-◌, Bool, true, false, cond, ℤ, pos, negsuc, List, Option, Some, None, is_some, Result, Ok, Err, refl, sym, ap, subst, ◌∙◌}
use Rattle.std.specs.Prelude.{IfErr, ◌↔◌}
use Rattle.std.specs.Option.{option_map}
use Rattle.sof_base.specs.declared.errno.Errno.{Errno}
use Rattle.sof_base.specs.Ports.{Io}
use Rattle.stream_law.specs.State.{FwState}
use Rattle.std.specs.Int.{w32}
use Rattle.std.specs.Int.RustNames.{FitsSigned}
use Rattle.ipc3_model.specs.declared.reply.Reply.{Reply}
use Rattle.ipc3_model.specs.declared.reply.Body.{Body}
use Rattle.ipc3_model.specs.declared.fault.CodecFault.{CodecFault}
use Rattle.ipc3_model.specs.Messages.{decoded}
use Rattle.ipc3_model.specs.Replies.{decoded_reply}
use Rattle.mbox_link.specs.Step.{step, row_of, body_of, replied, error_reply}
use Rattle.mbox_link.specs.Exchange.{ticks, Rose}
use Rattle.mbox_link.specs.Calls.{World, Meaning, Exchanged}
use Rattle.host_widgets.specs.declared.answers.HostFault.{HostFault}
use Rattle.host_widgets.specs.declared.answers.HostFault.TheVariants.{Refused, LinkDown}
use Rattle.host_widgets.specs.Host.{plainly_done, verdict, judged, errno, is_negative}
use Rattle.host_widgets.specs.Bringing.{Sent, IsBare, IsRead}
use Rattle.host_widgets.proofs.ReplyErrors.{reply_with, done_reply, read-zero, decoded-error, zero-fits, negative-fits, IsErrorNumber, row_of_numbers}

pub state_of : (o : Option FwState) → is_some o ≡ true → (s : FwState) × (o ≡ Some s)
state_of None some = absurd (cc some)
state_of (Some s) some = (s, refl)

-- ---- the four ways of an exchange, from a state and endpoints

module _ {D : Type 0} (means : Meaning D) (request : List ℕ) (answer : Option (List ℕ)) (w v : World D) (p : FwState × Io) where
  -- the firmware took the message
  pub record Took : Type 0 where
    pub next : FwState
    pub said : answer ≡ Some (done_reply (body_of p.0 (decoded request)))
    pub row : row_of p.0 (decoded request) ≡ Ok next
    pub on : means.on v.device ≡ Some next

  -- it refused it by itself
  pub record RefusedIt : Type 0 where
    pub error : ℤ
    pub number : IsErrorNumber error
    pub said : answer ≡ Some (error_reply error)
    pub row : row_of p.0 (decoded request) ≡ Err error
    pub on : means.on v.device ≡ Some p.0

  -- it was refused on the way
  pub record Intercepted : Type 0 where
    pub error : ℤ
    pub number : IsErrorNumber error
    pub said : answer ≡ Some (error_reply error)
    pub rose : Rose (means.refusals w.device) (means.refusals v.device)
    pub on : means.on v.device ≡ Some p.0

  -- the link failed
  pub record Failed : Type 0 where
    pub said : answer ≡ None
    pub rose : Rose (means.faults w.device) (means.faults v.device)
    pub on : is_some (means.on v.device) ≡ true

  -- the ticks leave the endpoints so, and then one of the four is the case
  pub record Came : Type 0 where
    pub endpoints : v.io ≡ p.1
    pub way : Took ⊎ (RefusedIt ⊎ (Intercepted ⊎ Failed))

  by_row : (r : Result FwState ℤ) → r ≡ row_of p.0 (decoded request) → (means.on v.device ≡ Some (replied p.0 (body_of p.0 (decoded request)) r).0) → (answer ≡ Some (replied p.0 (body_of p.0 (decoded request)) r).1) → IfErr r IsErrorNumber → Took ⊎ (RefusedIt ⊎ (Intercepted ⊎ Failed))
  by_row (Ok next) is on said number = inl record { next = next; said = said; row = sym is; on = on }
  by_row (Err e) is on said number = inr (inl record { error = e; number = number; said = said; row = sym is; on = on })

some_left : (o : Option FwState) (f g : FwState) → (o ≡ Some f) ⊎ (o ≡ Some g) → is_some o ≡ true
some_left o f g (inl is) = ap is_some is
some_left o f g (inr is) = ap is_some is

module _ {D : Type 0} (means : Meaning D) (request : List ℕ) where
  -- an exchange from a device that is on comes in one of the four ways
  pub came : (answer : Option (List ℕ)) (w v : World D) (s : FwState) → means.on w.device ≡ Some s → Exchanged means request answer w v → Came means request answer w v (ticks (means.pending w.device - means.pending v.device) (s, w.io))
  unfolding step
  came None w v s on x =
      let p = ticks (means.pending w.device - means.pending v.device) (s, w.io) in
      let left = x.step s on in
      record { endpoints = left.0; way = inr (inr (inr record { said = refl; rose = left.1; on = some_left (means.on v.device) (step p.0 request).0 p.0 left.2 })) }
  came (Some reply) w v s on x =
      let p = ticks (means.pending w.device - means.pending v.device) (s, w.io) in
      let left = x.step s on in
      record {
        endpoints = left.0;
        way = ⊎_elim
            (λ own. by_row means request (Some reply) w v p (row_of p.0 (decoded request)) refl own.0 (ap Some own.1) (row_of_numbers p.0 (decoded request)))
            (λ refusal. let number : IsErrorNumber (negsuc refusal.1.code) = record { code = refusal.1.code; small = refusal.1.small; is = refl } in inr (inr (inl record { error = negsuc refusal.1.code; number = number; said = ap Some refusal.1.is; rose = refusal.0; on = refusal.2 })))
            left.1;
      }

-- a device stays on over an exchange
pub Came-on : {D : Type 0} (means : Meaning D) (request : List ℕ) (answer : Option (List ℕ)) (w v : World D) (p : FwState × Io) → Came means request answer w v p → is_some (means.on v.device) ≡ true
Came-on means request answer w v p c =
    ⊎_elim (λ took. ap is_some took.on) (λ rest. ⊎_elim (λ own. ap is_some own.on) (λ rest. ⊎_elim (λ other. ap is_some other.on) (λ failed. failed.on) rest) rest) c.way

-- ---- what the host makes of them

pub verdict-zero : verdict (Some (error_reply (pos 0))) ≡ Ok (reply_with (pos 0))
verdict-zero = ap judged (decoded-error (pos 0) zero-fits)

pub verdict-number : (e : ℤ) → IsErrorNumber e → verdict (Some (error_reply e)) ≡ Err (Refused (errno e))
verdict-number e number =
    subst (λ (x : ℤ). verdict (Some (error_reply x)) ≡ Err (Refused (errno x))) (sym number.is) (ap judged (decoded-error (negsuc number.code) (negative-fits number.code number.small)))

-- the fields of `Sent` that speak of the result alone
pub record Judges (request : List ℕ) (answer : Option (List ℕ)) (result : Result Reply HostFault) : Type 0 where
  pub passed : (reply : Reply) → result ≡ Ok reply → (reply.error ≡ pos 0) × IsRead answer reply
  pub refused : (e : Errno) → (result ≡ Err (Refused e)) ↔ ((reply : Reply) × (option_map decoded_reply answer ≡ Some (Ok reply)) × (is_negative reply.error ≡ true) × (errno reply.error ≡ e))
  pub down : (result ≡ Err LinkDown) ↔ (answer ≡ None)
  pub read : IsBare request → (bytes : List ℕ) → answer ≡ Some bytes → (reply : Reply) × (decoded_reply bytes ≡ Ok reply)

-- one way from a fact that cannot be to another
never : {A B : Type 0} → (A → ⊥) → (B → ⊥) → A ↔ B
never f g = (λ a. absurd (f a), λ b. absurd (g b))

-- what an answer is read as
abbrev read : Option (List ℕ) → Option (Result Reply CodecFault)
read answer = option_map decoded_reply answer

abbrev reads : Option (List ℕ) → Reply → Type 0
reads answer reply = read answer ≡ Some (Ok reply)

-- a reply whose error is 0 passes, and one whose error is negative does not
abbrev IsDone : Reply → Type 0
IsDone reply = (reply.error ≡ pos 0) ⊎ (is_negative reply.error ≡ true)

-- a reply that is read, by whether its error is negative
abbrev judged_by : Bool → Reply → Result Reply HostFault
judged_by b reply = cond b (Err (Refused (errno reply.error))) (Ok reply)

abbrev IsRefused : Option (List ℕ) → Errno → Type 0
IsRefused answer e = (reply : Reply) × reads answer reply × (is_negative reply.error ≡ true) × (errno reply.error ≡ e)

module _ (answer : Option (List ℕ)) (reply : Reply) (is : reads answer reply) where
  one_reply : (other : Reply) → reads answer other → reply ≡ other
  one_reply other so = cc (sym is ∙ so)

  passed-by : (b : Bool) → is_negative reply.error ≡ b → IsDone reply → (other : Reply) → judged_by b reply ≡ Ok other → (other.error ≡ pos 0) × IsRead answer other
  passed-by true sign done other so = absurd (cc so)
  passed-by false sign done other so =
      let same : reply ≡ other = cc so in
      let zero : reply.error ≡ pos 0 = ⊎_elim (λ zero. zero) (λ negative. (let no : false ≡ true = sym sign ∙ negative in absurd (cc no))) done in
      (ap (λ (r : Reply). r.error) (sym same) ∙ zero, inl (is ∙ ap (λ (r : Reply). Some (Ok r)) same))

  refused-by : (b : Bool) → is_negative reply.error ≡ b → (e : Errno) → (judged_by b reply ≡ Err (Refused e)) ↔ IsRefused answer e
  refused-by true sign e = (
    λ so. (reply, is, sign, cc so),
    λ (other, so, negative, number). (let e_is : errno reply.error ≡ e = ap (λ (r : Reply). errno r.error) (one_reply other so) ∙ number in ap (λ (x : Errno). Err (Refused x)) e_is),
  )
  refused-by false sign e = never
      (λ so. cc so)
      (λ (other, so, negative, number). (let no : false ≡ true = sym sign ∙ ap (λ (r : Reply). is_negative r.error) (one_reply other so) ∙ negative in cc no))

  up-by : (b : Bool) → judged_by b reply ≡ Err LinkDown → ⊥
  up-by true so = cc so
  up-by false so = cc so

-- a reply with a body may not be read at all
module _ (request bytes : List ℕ) (bare : IsBare request → (reply : Reply) × (decoded_reply bytes ≡ Ok reply)) where
  all-read : IsBare request → (given : List ℕ) → Some bytes ≡ Some given → (reply : Reply) × (decoded_reply given ≡ Ok reply)
  all-read is_bare given same = let one : bytes ≡ given = cc same in subst (λ (bs : List ℕ). (reply : Reply) × (decoded_reply bs ≡ Ok reply)) one (bare is_bare)

  judges-read : (d : Result Reply CodecFault) → decoded_reply bytes ≡ d → ((reply : Reply) → d ≡ Ok reply → IsDone reply) → Judges request (Some bytes) (judged d)
  judges-read (Ok reply) is done =
      let so : reads (Some bytes) reply = ap Some is in
      record {
        passed = passed-by (Some bytes) reply so (is_negative reply.error) refl (done reply refl);
        refused = refused-by (Some bytes) reply so (is_negative reply.error) refl;
        down = never (up-by (Some bytes) reply so (is_negative reply.error)) (λ none. cc none);
        read = all-read;
      }
  judges-read (Err fault) is done = record {
    passed = λ reply so. (let same : plainly_done ≡ reply = cc so in (ap (λ (r : Reply). r.error) (sym same), inr (fault, ap Some is, sym same)));
    refused = λ e. never (λ so. cc so) (λ (reply, so, negative, number). (let other : Some (decoded_reply bytes) ≡ Some (Ok reply) = so in cc (sym is ∙ (let same : decoded_reply bytes ≡ Ok reply = cc other in same))));
    down = never (λ so. cc so) (λ none. cc none);
    read = all-read;
  }

judges-none : (request : List ℕ) → Judges request None (Err LinkDown)
judges-none request = record {
  passed = λ reply is. absurd (cc is);
  refused = λ e. never (λ is. cc is) (λ (reply, is, negative, number). cc is);
  down = (λ is. refl, λ is. refl);
  read = λ _ bytes is. absurd (cc is);
}

-- a reply with error 0
judges-done : (request : List ℕ) (f : FwState) → Judges request (Some (done_reply (body_of f (decoded request)))) (verdict (Some (done_reply (body_of f (decoded request)))))
judges-done request f =
    let body = body_of f (decoded request) in
    let bytes = done_reply body in
    judges-read request bytes
    (λ bare. (reply_with (pos 0), ap (λ (b : Body). decoded_reply (done_reply b)) (bare f) ∙ decoded-error (pos 0) zero-fits))
    (decoded_reply bytes) refl (λ reply is. inl (read-zero body reply is))

-- a reply with a negative error
judges-number : (request : List ℕ) (e : ℤ) → IsErrorNumber e → Judges request (Some (error_reply e)) (verdict (Some (error_reply e)))
judges-number request e number =
    let fits = subst (λ (x : ℤ). FitsSigned w32 x) (sym number.is) (negative-fits number.code number.small) in
    let read_so : decoded_reply (error_reply e) ≡ Ok (reply_with e) = decoded-error e fits in
    let negative : is_negative e ≡ true = ap is_negative number.is in
    judges-read request (error_reply e) (λ _. (reply_with e, read_so)) (decoded_reply (error_reply e)) refl
    (λ reply is. inr (let same : reply_with e ≡ reply = cc (sym read_so ∙ is) in ap (λ (r : Reply). is_negative r.error) (sym same) ∙ negative))

module _ {D : Type 0} (means : Meaning D) (request : List ℕ) (answer : Option (List ℕ)) (w v : World D) where
  abbrev JudgesWell : Option (List ℕ) → Type 0
  JudgesWell a = Judges request a (verdict a)

  judges-came : (p : FwState × Io) → Came means request answer w v p → JudgesWell answer
  judges-came p c = ⊎_elim
      (λ took. subst JudgesWell (sym took.said) (judges-done request p.0))
      (λ rest. ⊎_elim
      (λ own. subst JudgesWell (sym own.said) (judges-number request own.error own.number))
      (λ rest. ⊎_elim
      (λ other. subst JudgesWell (sym other.said) (judges-number request other.error other.number))
      (λ failed. subst JudgesWell (sym failed.said) (judges-none request))
      rest)
      rest)
      c.way

  -- one exchange, and what it comes to
  pub sent : (result : Result Reply HostFault) → is_some (means.on w.device) ≡ true → Exchanged means request answer w v → result ≡ verdict answer → Sent means request w v result
  sent result on x said =
      let s = state_of (means.on w.device) on in
      let j = subst (λ (r : Result Reply HostFault). Judges request answer r) (sym said) (judges-came (ticks (means.pending w.device - means.pending v.device) (s.0, w.io)) (came means request answer w v s.0 s.1 x)) in
      record { answer = answer; led = (v, x, refl); said = said; passed = j.passed; refused = j.refused; down = j.down; read = j.read }
