-- One bit of the walk: what the contacts from bit i on are, by what the count after that bit says.
-- Assumes nothing.
use Prim.Native.Nat.{ℕ, suc, ◌+◌, ◌-◌, ◌≤◌, ◌<◌}
use mathlib.Core.Path.{◌≡◌}
use mathlib.Core.List.{List}
use native.Mathlib.Omega.{arith}
use borrow.Author.Tests.{le-leb, lt-leb}
use Rattle.telegram.specs.Stretch.{bit_at}
use Rattle.contact.specs.History.{after, zeroes, opens, closes}
use Rattle.contact.specs.Contacts.{outside, since, contact, quiet, refused, contacts}

-- At the end of the record.
module _ (b : List ℕ) (h i end : ℕ) (over : end ≤ i) where
  pub ends_outside : contacts b outside h i (end - i) ≡ quiet
  unfolding contacts
  ends_outside = let e : end - i ≡ 0 = omega arith in simp e

  pub ends_inside : (s : ℕ) → contacts b (since s) h i (end - i) ≡ refused 9
  unfolding contacts
  ends_inside s = let e : end - i ≡ 0 = omega arith in simp e

-- At a bit: the history after it is `now`, which has z zeroes.
module _ (b : List ℕ) (h i end now z : ℕ) (below : i < end) (new : now ≡ after h (bit_at b i)) (counted : z ≡ zeroes now) where
  pub goes_in : 8 ≤ z → contacts b outside h i (end - i) ≡ contacts b (since i) now (i + 1) (end - (i + 1))
  unfolding contacts opens
  goes_in t =
      let e : end - i ≡ suc (end - (i + 1)) = omega arith in
      simp (e, ← new, le-leb 8 (zeroes now) (omega arith))

  pub stays_out : z < 8 → contacts b outside h i (end - i) ≡ contacts b outside now (i + 1) (end - (i + 1))
  unfolding contacts opens
  stays_out t =
      let e : end - i ≡ suc (end - (i + 1)) = omega arith in
      simp (e, ← new, lt-leb 8 (zeroes now) (omega arith))

  pub goes_out : (s : ℕ) → z ≤ 4
      → contacts b (since s) h i (end - i)
      ≡ contact s (i - s) (record { next = i + 1; left = end - (i + 1); history = now }) (contacts b outside now (i + 1) (end - (i + 1)))
  unfolding contacts closes
  goes_out s t =
      let e : end - i ≡ suc (end - (i + 1)) = omega arith in
      simp (e, ← new, le-leb (zeroes now) 4 (omega arith))

  pub stays_in : (s : ℕ) → 4 < z → contacts b (since s) h i (end - i) ≡ contacts b (since s) now (i + 1) (end - (i + 1))
  unfolding contacts closes
  stays_in s t =
      let e : end - i ≡ suc (end - (i + 1)) = omega arith in
      simp (e, ← new, lt-leb (zeroes now) 4 (omega arith))
