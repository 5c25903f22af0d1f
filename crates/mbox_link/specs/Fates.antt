-- Planned fates and lags, as a link holds them.
use Rattle.std.specs.Prelude.{◌≡◌, ℕ, ◌<◌, ◌≤◌, ◌^◌, ℤ, negsuc, false, List, [], ◌∷◌}
use Rattle.mbox_link.specs.declared.fates.Fate.{Fate}
use Rattle.mbox_link.specs.declared.fates.Fate.TheVariants.{Pass, Refuse, Drop, Lose}
use Rattle.mbox_link.specs.declared.fates.Entry.{Entry}
use Rattle.mbox_link.specs.Meetings.{is_planned, lags}

-- a negative error of 32 bits: -1 - code
pub record IsError (error : ℤ) : Type 0 where
  pub code : ℕ
  pub small : code < 2 ^ 31
  pub is : error ≡ negsuc code

-- a refusal has a negative error
abbrev pub IsMeant : Fate → Type 0
IsMeant (Refuse e) = IsError e
IsMeant Pass = Unit {0}
IsMeant Drop = Unit {0}
IsMeant Lose = Unit {0}

abbrev pub AllMeant : List Entry → Type 0
AllMeant [] = Unit {0}
AllMeant (entry ∷ entries) = IsMeant entry.fate × AllMeant entries

-- no message has two entries
abbrev pub AreEntriesApart : List Entry → Type 0
AreEntriesApart [] = Unit {0}
AreEntriesApart (entry ∷ entries) = (is_planned entry.number entries ≡ false) × AreEntriesApart entries

-- what a link holds: each refusal has a negative error, no message has two entries, and all lags are at most 16 ticks
pub record AreHeld (entries : List Entry) : Type 0 where
  pub meant : AllMeant entries
  pub apart : AreEntriesApart entries
  pub few : lags entries ≤ 16
