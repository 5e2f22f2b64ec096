-- A tape whose last record is not above the odometer at which its open contact opened, and that not
-- above the odometer in force: what comes of it rises.
-- Assumes nothing.
use Prim.Native.Nat.{ℕ, ◌≤◌}
use mathlib.Core.Path.{◌≡◌, refl, sym, ap, ◌∙◌, subst⁻¹}
use mathlib.Core.List.{List, [], ◌∷◌, ◌++◌}
use Rattle.antenna.specs.declared.Stand.{Stand}
use Rattle.ride.specs.Record.{odometer_of}
use Rattle.std.specs.Prelude.{Option, Some, None}
use Rattle.recording.specs.declared.Tape.{Tape}
use Rattle.recording.specs.Recording.{Taped, silent, and_then}
use Rattle.recording.specs.Rising.{AllAccepted}
use Rattle.recording.proofs.Accepting.{Made, accepts}

abbrev pub last_of : Option ℕ → ℕ
last_of None = 0
last_of (Some place) = place

-- An open contact opened at or after the last record, and not after the odometer in force.
abbrev pub OpenWithin : Stand → Tape → Type 0
OpenWithin Stand.Outside tape = Unit
OpenWithin (Stand.Inside sound) tape = (last_of tape.last ≤ tape.opened) × (tape.opened ≤ tape.odometer)

pub record Steady (tape : Tape) : Type 0 where
  pub high : tape.odometer ≤ 4000000000
  pub last : last_of tape.last ≤ tape.odometer
  pub opened : OpenWithin tape.ear.stand tape

-- The odometer of the last of some records.
abbrev pub final : ℕ → List (List ℕ) → ℕ
final last [] = last
final last (r ∷ rs) = final (odometer_of r) rs

-- What comes of a steady tape: accepted records, of which the last is the tape's, and a steady
-- tape.
pub record Rises (from : Tape) (x : Taped) : Type 0 where
  pub steady : Steady x.tape
  pub all : AllAccepted (last_of from.last) x.records
  pub ends : final (last_of from.last) x.records ≡ last_of x.tape.last

pub all_join : (last : ℕ) (rs qs : List (List ℕ)) → AllAccepted last rs → AllAccepted (final last rs) qs → AllAccepted last (rs ++ qs)
all_join last [] qs a b = b
all_join last (r ∷ rs) qs (one, a) b = (one, all_join (odometer_of r) rs qs a b)

pub final_join : (last : ℕ) (rs qs : List (List ℕ)) → final last (rs ++ qs) ≡ final (final last rs) qs
final_join last [] qs = refl
final_join last (r ∷ rs) qs = final_join (odometer_of r) rs qs

pub rises_then : (from : Tape) (x : Taped) (f : Tape → Taped) → Rises from x → ((t : Tape) → Steady t → Rises t (f t)) → Rises from (and_then x f)
rises_then from x f a on =
    let b = on x.tape a.steady in
    record {
      steady = b.steady;
      all = all_join (last_of from.last) x.records (f x.tape).records a.all (subst⁻¹ (λ (z : ℕ). AllAccepted z (f x.tape).records) a.ends b.all);
      ends = final_join (last_of from.last) x.records (f x.tape).records ∙ ap (λ (z : ℕ). final z (f x.tape).records) a.ends ∙ b.ends;
    }

pub rises_silent : (from next : Tape) → next.last ≡ from.last → Steady next → Rises from (silent next)
rises_silent from next e s = record { steady = s; all = tt; ends = ap last_of (sym e) }

pub rises_one : (from next : Tape) (odometer : ℕ) (r : List ℕ) → Made odometer r → last_of from.last ≤ odometer → odometer ≤ 4000000000 → next.last ≡ Some odometer → Steady next
    → Rises from (record { tape = next; records = r ∷ [] })
rises_one from next odometer r m low high e s =
    record { steady = s; all = (accepts (last_of from.last) odometer r m low high, tt); ends = m.at ∙ ap last_of (sym e) }
