-- Acts, one after another.
use Rattle.std.specs.Prelude.{List, [], ◌∷◌, ◌++◌, Bool, true, false, Ok, Err}
use Rattle.stream_law.specs.Past.{Moment}
use Rattle.host_widgets.specs.declared.answers.HostFault.TheVariants.{Refused, LinkDown}
use Rattle.host_widgets.specs.Host.{Outcome}
use Rattle.mbox_link.specs.Meetings.{Meeting}
use Rattle.host_widgets.specs.ActRules.{ActRules}
use Rattle.host_widgets.specs.OneAct.{Performed, one_act}

-- The result of acts: the first fault, or that the link is down; what is kept after them; the moments of the device; the acts
-- whose messages were sent; and what gives the meetings of later messages.
pub record Walked (S A Q : Type 0) : Type 0 where
  pub outcome : Outcome
  pub kept : S
  pub moments : List Moment
  pub sent : List A
  pub queue : Q

-- after an act that passed acts go on, after one that was refused where the command says so, and after a failed link never
abbrev pub goes_past : Bool → Outcome → Bool
goes_past goes_on (Ok done) = true
goes_past goes_on (Err (Refused e)) = goes_on
goes_past goes_on (Err fault) = false

-- a failed link is reported before a refusal, and the first refusal before later ones
abbrev pub first_of : Outcome → Outcome → Outcome
first_of (Ok done) rest = rest
first_of (Err fault) (Err LinkDown) = Err LinkDown
first_of (Err fault) rest = Err fault

-- an act, and where they go on, the acts after it
abbrev pub followed_by : {S A Q : Type 0} → A → Performed S → Q → Bool → Walked S A Q → Walked S A Q
followed_by act a q true rest = record {
  outcome = first_of a.outcome rest.outcome;
  kept = rest.kept;
  moments = a.moments ++ rest.moments;
  sent = act ∷ rest.sent;
  queue = rest.queue;
}
followed_by act a q false rest = record { outcome = a.outcome; kept = a.kept; moments = a.moments; sent = act ∷ []; queue = q }

-- The acts in order, each by one message, up to the first after which they do not go on. `next` says what the next message
-- meets, with what is left for later ones.
abbrev pub walk : {S A Q : Type 0} → ActRules S A → Bool → (Q → Meeting × Q) → S → Q → List A → Walked S A Q
walk rules goes_on next kept q [] = record { outcome = Ok tt; kept = kept; moments = []; sent = []; queue = q }
walk rules goes_on next kept q (act ∷ acts) =
    let a = one_act rules kept act (next q).0 in
    followed_by act a (next q).1 (goes_past goes_on a.outcome) (walk rules goes_on next a.kept (next q).1 acts)
