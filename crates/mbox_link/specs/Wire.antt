-- A link as a value.
use Rattle.std.specs.Prelude.{ℕ, List, []}
use Rattle.mbox_link.specs.declared.fates.Entry.{Entry}

-- a link: its device, the planned fates and lags that are held, the messages so far, and how many of them it lost and refused
pub record Wire (P : Type 0) : Type 0 where
  pub device : P
  pub entries : List Entry
  pub sent : ℕ
  pub dropped : ℕ
  pub refused : ℕ

-- a link over a device, with nothing planned and nothing sent
abbrev pub new_link : {P : Type 0} → P → Wire P
new_link dsp = record { device = dsp; entries = []; sent = 0; dropped = 0; refused = 0 }
