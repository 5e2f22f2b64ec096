-- The record at a byte of a trace, by whether it stands there whole.
-- Assumes nothing.
use mathlib.Core.Path.{◌≡◌, ap₂, ◌∙◌}
use mathlib.Core.List.{List}
use Prim.Native.Nat.{ℕ, ◌+◌, ◌-◌, ◌≤◌, ◌<◌}
use native.Mathlib.Omega.{arith}
use lib.ListN.{length, get_or}
use borrow.Author.Tests.{le-leb, lt-leb}
use Rattle.trace_text.specs.declared.What.{What}
use Rattle.trace_text.specs.declared.Said.{Said}
use Rattle.trace_text.specs.Thing.{place_of, thing_of, thing_at}

module _ (t : List ℕ) (at : ℕ) where
  pub too_short : length t < 8 → Said.Nothing ≡ thing_at t at
  unfolding thing_at
  too_short h = let beyond : length t < at + 8 = omega arith in simp (lt-leb _ _ beyond)

  pub too_far : 8 ≤ length t → length t - 8 < at → Said.Nothing ≡ thing_at t at
  unfolding thing_at
  too_far l h = let beyond : length t < at + 8 = omega arith in simp (lt-leb _ _ beyond)

  pub stands : (p : ℕ) (w : What) → 8 ≤ length t → at ≤ length t - 8
      → p ≡ place_of (get_or t at 0) (get_or t (at + 1) 0) (get_or t (at + 2) 0) (get_or t (at + 3) 0)
      → w ≡ thing_of (get_or t (at + 4) 0) (get_or t (at + 5) 0) (get_or t (at + 6) 0) (get_or t (at + 7) 0) → Said.Thing p w ≡ thing_at t at
  unfolding thing_at
  stands p w l h e f = let within : at + 8 ≤ length t = omega arith in ap₂ Said.Thing e f ∙ simp (le-leb _ _ within)
