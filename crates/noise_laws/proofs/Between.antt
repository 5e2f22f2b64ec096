-- Where the line is quiet before what is passed and after it, up to three flips in forty bits open
-- no contact before it, and none stays open for fifteen bits after it.
-- Assumes nothing.
use Prim.Native.Nat.{ℕ, suc, ◌+◌, ◌-◌, ◌≤◌, ◌<◌}
use mathlib.Core.Path.{◌≡◌, refl, ap}
use mathlib.Core.Bool.{Bool, true, false}
use mathlib.Core.List.{List}
use native.Mathlib.Omega.{arith}
use lib.Dec.{leb}
use borrow.Author.Tests.{leb-true, leb-false}
use Rattle.contact.specs.History.{zeroes}
use Rattle.contact.specs.Contacts.{contacts_from, from_start}
use Rattle.contact_laws.specs.Zeroes.{zeroes_in}
use Rattle.noise_laws.specs.Pass.{InForty}
use Rattle.noise_laws.proofs.Flips.{zeroes_flips, any_few}
use Rattle.noise_laws.proofs.Where.{AllWithin, history, latest_few, latest_sixteen, all_within}

module _ (line : ℕ → ℕ) (b : List ℕ) (most from to first last : ℕ) (few : InForty most line b from to) (three : most ≤ 3) (long : from + 40 ≤ to)
    (first-low : from ≤ last) (quiet-before : (i : ℕ) → i < first → line i ≡ 1) (quiet_after : (i : ℕ) → last ≤ i → line i ≡ 1) where
  -- Among quiet bits, forty at most, at most three are zeroes.
  pub at_most_three : (p n : ℕ) → from ≤ p → n ≤ 40 → p + n ≤ to → ((i : ℕ) → i < n → line (p + i) ≡ 1) → zeroes_in b p n ≤ 3
  at_most_three p n low short high ones = omega (arith, zeroes_flips line b p n ones, any_few line b most from to few long p n low short high, three)

  before : (k : ℕ) → from + k < to → from + k < first → zeroes (history b from (suc k)) < 8
  before k room less = go (leb (suc k) 16) refl
    where
      go : (t : Bool) → leb (suc k) 16 ≡ t → zeroes (history b from (suc k)) < 8
      go true q =
          let low = leb-true (suc k) 16 q in
          omega (arith, latest_few b from (suc k) low, at_most_three from (suc k) (omega arith) (omega arith) (omega arith) (λ i l. quiet-before (from + i) (omega arith)))
      go false q =
          let high = leb-false (suc k) 16 q in
          let m = suc k - 16 in
          let e : m + 16 ≡ suc k = omega arith in
          omega (arith, ap (λ (x : ℕ). zeroes (history b from x)) e, latest_sixteen b from m, at_most_three (from + m) 16 (omega arith) (omega arith) (omega arith) (λ i l. quiet-before (from + m + i) (omega arith)))

  beyond : (k : ℕ) → from + k < to → last + 15 ≤ from + k → zeroes (history b from (suc k)) ≤ 4
  beyond k room more =
      let m = k - 15 in
      let e : m + 16 ≡ suc k = omega arith in
      omega (arith, ap (λ (x : ℕ). zeroes (history b from x)) e, latest_sixteen b from m, at_most_three (from + m) 16 (omega arith) (omega arith) (omega arith) (λ i l. quiet_after (from + m + i) (omega arith)))

  pub between : AllWithin first (last + 15) (contacts_from b (from_start from (to - from)))
  between = all_within b from to first (last + 15) before beyond (omega arith)
