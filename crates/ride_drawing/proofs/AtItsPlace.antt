-- A sign stands at its place or at an edge: by which side of the strip's edge the place lies on.
-- Assumes nothing.
use mathlib.Core.Path.{◌≡◌, refl}
use mathlib.Core.Bool.{Bool, true, false}
use Prim.Native.Nat.{ℕ, ◌+◌, ◌-◌, ◌≤◌, ◌<◌}
use native.Mathlib.Omega.{arith}
use lib.Dec.{leb}
use borrow.Author.Tests.{le-leb, lt-leb, leb-true, leb-false}
use Rattle.words.specs.Answer.{pick}
use Rattle.ride_drawing.specs.Strip.{lesser, on_strip}
use Rattle.ride_drawing.specs.Places.{AtItsPlace}

module _ (edge place : ℕ) where
  abbrev at : Bool → ℕ
  at b = pick b (1000 + lesser (place - edge) 10000) (1000 - (edge - place))

  there_by : (b : Bool) → leb edge place ≡ b → edge ≤ place + 1000 → place ≤ edge + 10000 → at b + edge ≡ place + 1000
  there_by true e h k =
      let from : edge ≤ place = leb-true edge place e in
      let small : place - edge ≤ 10000 = omega arith in
      simp (le-leb _ _ small) (omega arith)
  there_by false e h k =
      let short : place < edge = leb-false edge place e in
      omega arith

  there : edge ≤ place + 1000 → place ≤ edge + 10000 → on_strip edge place + edge ≡ place + 1000
  unfolding on_strip
  there h k = there_by (leb edge place) refl h k

  before : place + 1000 < edge → on_strip edge place ≡ 0
  unfolding on_strip
  before h =
      let short : place < edge = omega arith in
      simp (lt-leb _ _ short) (omega arith)

  behind : edge + 10000 < place → on_strip edge place ≡ 11000
  unfolding on_strip
  behind h =
      let from : edge ≤ place = omega arith in
      let long : 10000 < place - edge = omega arith in
      simp (le-leb _ _ from, lt-leb _ _ long)

pub at_its_place : AtItsPlace
at_its_place = record { there = there; before = before; behind = behind }
