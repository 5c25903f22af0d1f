-- Sections of two channels that lie side by side, and the parts of their numbers.
use Rattle.std.specs.Prelude.{◌≡◌, ◌+◌, ◌*◌, ◌^◌, ◌<◌, ◌≤◌, List, [], ◌∷◌, ◌++◌, true, ℤ, pos, ◌+ℤ◌, ◌-ℤ◌, nat_abs, FitsSigned}
use Rattle.std.specs.Int.{w64}
use Rattle.sof_base.specs.Blob.{is_shift}
use Rattle.sof_base.specs.Equations as law
use Rattle.stream_law.specs.Equaliser.{passed_sections}
use Rattle.eq_biquad.specs.declared.lane.Lane.{Lane}
use Rattle.eq_biquad.specs.declared.side_by_side.NearSeries.{NearSeries}
use Rattle.eq_biquad.specs.declared.side_by_side.Series.{Series}
use Rattle.eq_biquad.specs.declared.stages.NearPair.{NearPair}
use Rattle.eq_biquad.specs.Lanes.{lane}
use Rattle.eq_biquad.specs.Pairs.{left_number, right_number, BothAre}
use Rattle.eq_biquad.specs.Passing.{passed_samples, numbers_passed}
use Rattle.eq_blob.specs.Sections.{law_section}
use Rattle.eq_biquad.specs.Stretches.{OnlyChannels}

-- ---- sections

-- a section that may go beside another: its sums stay below 7 * 2 ^ 61 in size, and what its input adds to what was fed back fits
-- in 64 bits
pub record FitsBeside (s : law.Section) : Type 0 where
  pub ahead : nat_abs s.b1 + (nat_abs s.b2 + nat_abs s.a2) < 2 ^ 32
  pub all : nat_abs s.b0 + nat_abs s.a1 + (nat_abs s.b1 + (nat_abs s.b2 + nat_abs s.a2)) < 7 * 2 ^ 30
  pub even : nat_abs s.b0 + nat_abs s.a1 < 2 ^ 32
  pub shift : is_shift s.shift ≡ true

-- a section whose gain is 1
abbrev pub HasUnitGain : law.Section → Type 0
HasUnitGain s = (s.shift ≡ pos 0) × (s.gain ≡ pos 16384)

-- the sections of a series
abbrev pub series_of : Series → List law.Section
series_of s = law_section s.first ∷ law_section s.second ∷ []

abbrev pub HaveUnitGains : law.Section → law.Section → Type 0
HaveUnitGains s t = HasUnitGain s × HasUnitGain t

abbrev pub AreBeside : Series → Series → Type 0
AreBeside left right = (FitsBeside (law_section left.first) × FitsBeside (law_section left.second)) × (FitsBeside (law_section right.first) × FitsBeside (law_section right.second))

-- ---- the parts of their numbers

-- the first number and the 2 ^ 29 that rounds
abbrev pub left_sum : NearPair → ℤ
left_sum near = left_number near.ahead +ℤ left_number near.fed

abbrev pub right_sum : NearPair → ℤ
right_sum near = right_number near.ahead +ℤ right_number near.fed

abbrev pub left_first : NearPair → ℤ
left_first near = left_sum near -ℤ pos 536870912

abbrev pub right_first : NearPair → ℤ
right_first near = right_sum near -ℤ pos 536870912

-- the two numbers
abbrev pub left_numbers : NearPair → List ℤ
left_numbers near = left_first near ∷ left_number near.second ∷ []

abbrev pub right_numbers : NearPair → List ℤ
right_numbers near = right_first near ∷ right_number near.second ∷ []

-- those of a series
abbrev pub left_series : NearSeries → List ℤ
left_series near = left_numbers near.first ++ left_numbers near.second

abbrev pub right_series : NearSeries → List ℤ
right_series near = right_numbers near.first ++ right_numbers near.second

-- parts that fit, and whose sums do
pub record ArePartsOf (near : NearPair) : Type 0 where
  pub ahead : BothAre (FitsSigned w64) near.ahead
  pub fed : BothAre (FitsSigned w64) near.fed
  pub second : BothAre (FitsSigned w64) near.second
  pub sums : (nat_abs (left_sum near) < 7 * 2 ^ 61) × (nat_abs (right_sum near) < 7 * 2 ^ 61)

-- how far the parts of a section's numbers are from 0
pub record IsNear (s : law.Section) (a f n : ℤ) : Type 0 where
  pub sum : nat_abs a + nat_abs s.b0 * 2 ^ 31 < 7 * 2 ^ 61
  pub fed : nat_abs f ≤ nat_abs s.a1 * 2 ^ 31
  pub second : nat_abs n ≤ (nat_abs s.b2 + nat_abs s.a2) * 2 ^ 31

pub record AreNear (s t : law.Section) (near : NearPair) : Type 0 where
  pub parts : ArePartsOf near
  pub left : IsNear s (left_sum near) (left_number near.fed) (left_number near.second)
  pub right : IsNear t (right_sum near) (right_number near.fed) (right_number near.second)

abbrev pub AreNearSeries : Series → Series → NearSeries → Type 0
AreNearSeries left right near = AreNear (law_section left.first) (law_section right.first) near.first × AreNear (law_section left.second) (law_section right.second) near.second

-- ---- samples

-- a sample x goes through sections with numbers and becomes y
pub record GoesThrough (ss : List law.Section) (ns : List ℤ) (x : ℤ) (ns' : List ℤ) (y : ℤ) : Type 0 where
  pub sample : y ≡ (passed_sections ss ns x).sample
  pub numbers : ns' ≡ (passed_sections ss ns x).numbers

-- all samples of a channel go through two sections, and those of the channel after it through two others
pub record BothGo (l r : Series) (before after : NearSeries) (at : Lane) (samples samples' : List ℤ) : Type 0 where
  pub left : lane at.channels at.channel at.frames samples' ≡ passed_samples (series_of l) (left_series before) (lane at.channels at.channel at.frames samples)
  pub right : lane at.channels (at.channel + 1) at.frames samples' ≡ passed_samples (series_of r) (right_series before) (lane at.channels (at.channel + 1) at.frames samples)
  pub others : OnlyChannels at.channels at.channel samples samples'
  pub after_left : left_series after ≡ numbers_passed (series_of l) (left_series before) (lane at.channels at.channel at.frames samples)
  pub after_right : right_series after ≡ numbers_passed (series_of r) (right_series before) (lane at.channels (at.channel + 1) at.frames samples)
  pub near : AreNearSeries l r after
