-- A turn that gives a call to a device outside a session.
use Rattle.std.proofs.Common.{◌≡◌, refl, subst, List, [], ◌∷◌, arith}
use Rattle.mbox_link.specs.Calls.{Meaning, Call, Did, Steady, world}
use Rattle.sof_session.specs.Lives.{Life, Bare, Seated, Turned, Turns, device_of}
use Rattle.sof_script.specs.Tasks.{Task, Give, Turn}
use Rattle.sof_session.specs.SessionStep.{Calm}
use Rattle.sof_session.proofs.LinkFates.{Steady-none}
use Rattle.sof_session.proofs.StepCounts.{Calm-between}
use Rattle.sof_session.proofs.SteadyLives.{lives-steady}
use Rattle.run_replay.proofs.ReplayPhases.{call-steady}

module _ {P : Type 0} (dsp : Meaning P) where
  -- the device after it, and what comes after it
  pub record Given (call : Call) (turns : List Turn) (d : P) (last : Life P) : Type 0 where
    pub after : P
    pub did : Did dsp call (world d [] []) (world after [] [])
    pub rest : Turns dsp (Bare after) turns last

  pub first-given : (call : Call) (turn : Turn) (turns : List Turn) (d : P) (last : Life P) → turn.task ≡ Give call → Turns dsp (Bare d) (turn ∷ turns) last → Given call turns d last
  first-given call turn turns d last is turned = by turned.0 (subst (λ (task : Task). Turned dsp task turn.out (Bare d) turned.0) is turned.1) turned.2
    where
      by : (m : Life P) → Turned dsp (Give call) turn.out (Bare d) m → Turns dsp m turns last → Given call turns d last
      by (Bare after) did rest = record { after = after; did = did; rest = rest }
      by (Seated seat inputs slots) did rest = absurd did

  module _ {call : Call} {turns : List Turn} {d : P} {last : Life P} (g : Given call turns d last) where
    pub later-steady : Steady dsp g.after (device_of last)
    later-steady = lives-steady dsp turns (Bare g.after) last g.rest

    pub did-steady : Steady dsp d g.after
    did-steady = call-steady dsp call d g.after g.did

    -- no count rises in it, or after it
    pub first-calm : Calm dsp d (device_of last) → Calm dsp d g.after
    first-calm calm = Calm-between dsp d d g.after (device_of last) (Steady-none dsp d d refl) later-steady calm

    pub later-calm : Calm dsp d (device_of last) → Calm dsp g.after (device_of last)
    later-calm calm = Calm-between dsp d g.after (device_of last) (device_of last) did-steady (Steady-none dsp (device_of last) (device_of last) refl) calm

    pub none-pending : dsp.pending d ≡ 0 → dsp.pending g.after ≡ 0
    none-pending none = omega (arith, did-steady.pending, none)
