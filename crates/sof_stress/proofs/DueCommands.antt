-- Each command of a stress is one that is carried out, and they are few.
use Rattle.std.proofs.Common.{◌≡◌, ℕ, ◌+◌, ◌*◌, ◌/◌, ◌%◌, ◌≤◌, ◌==◌, Bool, true, false, List, [], ◌∷◌, ◌++◌, map, length, Option, Some, None, refl, arith, length-append, lit≤, if◌then◌else◌}
use Rattle.std.specs.List.{AllByRecursion, flat_map, range_with_len}
use Rattle.std.proofs.lemmas.List.FromFn.{length-range_with_len, length-map-range_with_len}
use Rattle.sof_script.specs.declared.script.Command.{Command}
use Rattle.sof_script.specs.declared.script.Command.TheVariants as commands
use Rattle.sof_stress.specs.Draws.{command_by, drawn, stream_count, opening, stress_commands}
use Rattle.sof_stress.specs.CarriedTurns.{openings, drawn_commands}
use Rattle.sof_script.specs.Ticks.{command_ticks}
use Rattle.sof_session.specs.Modes.{most_sent_in, most_sent_by}
use Rattle.sof_script.specs.Ticks.{earlier as earlier_turns}
use Rattle.sof_stress.specs.CarriedTurns.{IsDue}

-- ---- how much each does

-- no command sends more than 1200 messages, in either mode
mode-most : (up : Option (List ℕ)) → most_sent_in up ≤ 1200
mode-most None = lit≤ tt
mode-most (Some up) = lit≤ tt

pub at-most-by : (up : Option (List ℕ)) (c : Command) → most_sent_by up c ≤ 1200
at-most-by up (commands.Tick t) = lit≤ tt
at-most-by up c = mode-most up

-- none that is due has more than ten turns
pub earlier-few : (c : Command) → command_ticks c ≤ 10 → earlier_turns c ≤ 9
earlier-few (commands.Tick t) few = omega (arith, few)
earlier-few c few = omega arith

-- ---- lists

all-append : (xs ys : List Command) → AllByRecursion IsDue xs → AllByRecursion IsDue ys → AllByRecursion IsDue (xs ++ ys)
all-append [] ys first second = second
all-append (x ∷ xs) ys first second = (first.0, all-append xs ys first.1 second)

all-map : (f : ℕ → Command) → ((k : ℕ) → IsDue (f k)) → (ks : List ℕ) → AllByRecursion IsDue (map f ks)
all-map f due [] = tt
all-map f due (k ∷ ks) = (due k, all-map f due ks)

all-flat : (f : ℕ → List Command) → ((k : ℕ) → AllByRecursion IsDue (f k)) → (ks : List ℕ) → AllByRecursion IsDue (flat_map f ks)
all-flat f due [] = tt
all-flat f due (k ∷ ks) = all-append (f k) (flat_map f ks) (due k) (all-flat f due ks)

-- ---- commands

due-either : (b : Bool) (x y : Command) → IsDue x → IsDue y → IsDue (if b then x else y)
due-either true x y first second = first
due-either false x y first second = second

-- the command that a number makes
pub due-by : (streams r : ℕ) → IsDue (command_by streams r)
due-by streams r =
    let amount : 1 + (r / 8) % 10 ≤ 10 = omega arith in
    due-either (r % 8 == 0) _ _ (record { numbers = refl; ticks = amount })
    (due-either (r % 8 == 1) _ _ (record { numbers = refl; ticks = omega arith })
    (due-either (r % 8 == 2) _ _ (record { numbers = refl; ticks = omega arith })
    (due-either (r % 8 == 3) _ _ (record { numbers = refl; ticks = omega arith })
    (due-either (r % 8 == 4) _ _ (record { numbers = refl; ticks = omega arith })
    (due-either (r % 8 == 5) _ _ (record { numbers = refl; ticks = omega arith })
    (due-either (r % 8 == 6) _ _ (record { numbers = refl; ticks = omega arith })
    (record { numbers = refl; ticks = omega arith })))))))

due-opening : (i : ℕ) → AllByRecursion IsDue (opening i)
due-opening i = (
  record { numbers = refl; ticks = omega arith },
  (record { numbers = refl; ticks = omega arith }, (record { numbers = refl; ticks = omega arith }, tt)),
)

-- all are carried out
pub all-due : (seed : ℕ) → AllByRecursion IsDue (stress_commands seed)
all-due seed =
    all-append (commands.Load ∷ [] ++ openings (stream_count seed) ++ drawn_commands seed) (commands.Tick 4 ∷ [])
    (all-append (commands.Load ∷ [] ++ openings (stream_count seed)) (drawn_commands seed)
    (all-append (commands.Load ∷ []) (openings (stream_count seed)) (record { numbers = refl; ticks = omega arith }, tt) (all-flat opening due-opening (range_with_len 0 (stream_count seed))))
    (all-map (λ k. command_by (stream_count seed) (drawn seed k)) (λ k. due-by (stream_count seed) (drawn seed k)) (range_with_len 1 seed)))
    (record { numbers = refl; ticks = omega arith }, tt)

-- ---- how many

pub opened-length : (ks : List ℕ) → length (flat_map opening ks) ≡ 3 * length ks
opened-length [] = omega arith
opened-length (k ∷ ks) = omega (arith, opened-length ks)

-- there are few
pub few-commands : (seed : ℕ) → seed ≤ 1000 → length (stress_commands seed) ≤ 1014
few-commands seed small =
    omega (
      arith,
      length-append (commands.Load ∷ [] ++ openings (stream_count seed) ++ drawn_commands seed) (commands.Tick 4 ∷ []),
      length-append (commands.Load ∷ [] ++ openings (stream_count seed)) (drawn_commands seed),
      length-append (commands.Load ∷ []) (openings (stream_count seed)),
      opened-length (range_with_len 0 (stream_count seed)),
      length-range_with_len 0 (stream_count seed),
      length-map-range_with_len (λ k. command_by (stream_count seed) (drawn seed k)) 1 seed,
    )
