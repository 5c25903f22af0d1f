-- How often moments, and the calls that they say, boot a device.
use Rattle.std.proofs.Common.{◌≡◌, refl, ap, ◌∙◌, ℕ, zero, suc, List, [], ◌∷◌, ◌++◌, replicate}
use Rattle.stream_law.specs.Past as past
use Rattle.stream_law.specs.Past.{Moment}
use Rattle.mbox_link.specs.Exchange.{more}
use Rattle.mbox_link.specs.Calls.{World, Meaning, Led}
use Rattle.host_widgets.specs.ActCalls.{calls_of}
use Rattle.sof_session.specs.Written.{boots_in, raised}

-- ---- moments

-- those of two lists of moments, one after the other
pub boots-append : (a b : List Moment) (count : ℕ) → raised (boots_in (a ++ b)) count ≡ raised (boots_in b) (raised (boots_in a) count)
boots-append [] b count = refl
boots-append (past.Boot ∷ a) b count = boots-append a b (more count)
boots-append (past.Cut ∷ a) b count = boots-append a b count
boots-append (past.Now view fresh ∷ a) b count = boots-append a b count
boots-append (past.Tick ∷ a) b count = boots-append a b count

-- none of them is a boot
abbrev pub NoBoot : List Moment → Type 0
NoBoot moments = boots_in moments ≡ 0

pub none-more : (a b : List Moment) → NoBoot a → NoBoot b → NoBoot (a ++ b)
none-more [] b first rest = rest
none-more (past.Boot ∷ a) b first rest = absurd (cc first)
none-more (past.Cut ∷ a) b first rest = none-more a b first rest
none-more (past.Now view fresh ∷ a) b first rest = none-more a b first rest
none-more (past.Tick ∷ a) b first rest = none-more a b first rest

pub none-late : (n : ℕ) → NoBoot (replicate n past.Tick)
none-late zero = refl
none-late (suc n) = none-late n

-- ---- calls

module _ {D : Type 0} (means : Meaning D) where
  pub led-boots : (heap : ℕ) (moments : List Moment) (w v : World D) → Led means w (calls_of heap moments) v → means.boots v.device ≡ raised (boots_in moments) (means.boots w.device)
  led-boots heap [] w v led = ap (λ (x : World D). means.boots x.device) led
  led-boots heap (past.Boot ∷ moments) w v led = led-boots heap moments led.0 v led.2 ∙ ap (raised (boots_in moments)) led.1.0.boots
  led-boots heap (past.Cut ∷ moments) w v led = led-boots heap moments led.0 v led.2 ∙ ap (raised (boots_in moments)) led.1.0.boots
  led-boots heap (past.Now view fresh ∷ moments) w v led = led-boots heap moments w v led
  led-boots heap (past.Tick ∷ moments) w v led = led-boots heap moments led.0 v led.2 ∙ ap (raised (boots_in moments)) led.1.boots
