-- What a stress states is within the limits of the builder.
use Rattle.std.proofs.Common.{◌≡◌, ℕ, zero, suc, ◌<◌, ◌≤◌, ◌^◌, length, true, refl, lit<, arith}
use Rattle.tplg_build.specs.SmallSource.{is_small_widget, is_small_source}
use Rattle.tplg_widgets.specs.Entries.{entries_of}
use Rattle.tplg_widgets.specs.Ends.{ends_in}
use Rattle.sof_stress.specs.StressGraph.{stress_source, stress_topology}

pub stress-small : (streams : ℕ) → streams ≤ 4 → is_small_source (stress_source streams) ≡ true
unfolding is_small_source is_small_widget
stress-small zero few = refl
stress-small (suc zero) few = refl
stress-small (suc (suc zero)) few = refl
stress-small (suc (suc (suc zero))) few = refl
stress-small (suc (suc (suc (suc zero)))) few = refl
stress-small (suc (suc (suc (suc (suc n))))) few = absurd (omega (arith, few))

-- its widgets and its routes are few
pub stress-widgets : (streams : ℕ) → streams ≤ 4 → length (entries_of (stress_topology streams)) < 2 ^ 32
unfolding stress_topology
stress-widgets zero few = lit< tt
stress-widgets (suc zero) few = lit< tt
stress-widgets (suc (suc zero)) few = lit< tt
stress-widgets (suc (suc (suc zero))) few = lit< tt
stress-widgets (suc (suc (suc (suc zero)))) few = lit< tt
stress-widgets (suc (suc (suc (suc (suc n))))) few = absurd (omega (arith, few))

pub stress-routes : (streams : ℕ) → streams ≤ 4 → length (ends_in (stress_topology streams)) < 2 ^ 32
unfolding stress_topology
stress-routes zero few = lit< tt
stress-routes (suc zero) few = lit< tt
stress-routes (suc (suc zero)) few = lit< tt
stress-routes (suc (suc (suc zero))) few = lit< tt
stress-routes (suc (suc (suc (suc zero)))) few = lit< tt
stress-routes (suc (suc (suc (suc (suc n))))) few = absurd (omega (arith, few))
