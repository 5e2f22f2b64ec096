-- Where the contacts of a line lie: between two bits, before the first of which nothing can open
-- one, and from the second of which on nothing can stay open.
-- Assumes nothing.
use Prim.Native.Nat.{ℕ, zero, suc, ◌+◌, ◌-◌, ◌≤◌, ◌<◌}
use mathlib.Core.Path.{◌≡◌, refl, ap, ap₂}
use mathlib.Core.Bool.{Bool, true, false}
use mathlib.Core.List.{List}
use native.Mathlib.Omega.{arith}
use lib.Dec.{leb}
use borrow.Author.Tests.{leb-true, leb-false}
use Rattle.words.specs.Answer.{pick}
use Rattle.telegram.specs.Stretch.{bit_at, inside}
use Rattle.contact.specs.History.{sixteen_ones, after, zeroes_of, zeroes, opens, closes}
use Rattle.contact.specs.Contacts.{Mode, outside, since, Contacts, contact, quiet, refused, contacts, contacts_from, from_start}
use Rattle.contact.specs.declared.Search.{Search}
use Rattle.contact.proofs.Stays.{grows, on}
use Rattle.contact_laws.specs.Zeroes.{zeroes_in}
use Rattle.contact_laws.proofs.Quiet.{short, full}

-- Each of the contacts lies between the bits low and high.
abbrev pub AllWithin : ℕ → ℕ → Contacts → Type 0
AllWithin low high (contact start length then rest) = (low ≤ start) × (start + length ≤ high) × AllWithin low high rest
AllWithin low high quiet = Unit
AllWithin low high (refused n) = Unit

-- The history after n of the bits from bit `from` on.
abbrev pub history : List ℕ → ℕ → ℕ → ℕ
history b from n = on b sixteen_ones from n

-- Its zeroes are those of the latest sixteen of these bits, or of all of them where they are fewer.
pub latest_few : (b : List ℕ) (from n : ℕ) → n ≤ 16 → zeroes (history b from n) ≡ zeroes_in b from n
unfolding zeroes_of
latest_few b from n low =
    let e : 16 - n + n ≡ 16 = omega arith in
    let none : zeroes_of sixteen_ones 16 ≡ 0 = refl in
    omega (arith, short b sixteen_ones from n low, grows sixteen_ones (16 - n) n, ap (zeroes_of sixteen_ones) e, none)

pub latest_sixteen : (b : List ℕ) (from m : ℕ) → zeroes (history b from (m + 16)) ≡ zeroes_in b (from + m) 16
latest_sixteen b from m = full b sixteen_ones from m

module _ (b : List ℕ) (from to low high : ℕ)
    (before : (k : ℕ) → from + k < to → from + k < low → zeroes (history b from (suc k)) < 8)
    (beyond : (k : ℕ) → from + k < to → high ≤ from + k → zeroes (history b from (suc k)) ≤ 4) where
  -- What is known of where the detector stands, at the k-th bit.
  abbrev Stands : Mode → ℕ → Type 0
  Stands outside k = Unit
  Stands (since s) k = (low ≤ s) × (s ≤ from + k) × (from + k ≤ high)

  one_more : (k h i : ℕ) → i ≡ from + k → h ≡ history b from k → after h (bit_at b i) ≡ history b from (suc k)
  one_more k h i e same = ap₂ (λ (x y : ℕ). after x (bit_at b y)) same e

  not_early : (k : ℕ) → from + k < to → 8 ≤ zeroes (history b from (suc k)) → low ≤ from + k
  not_early k room eight = go (leb low (from + k)) refl
    where
      go : (t : Bool) → leb low (from + k) ≡ t → low ≤ from + k
      go true q = leb-true low (from + k) q
      go false q = absurd (omega (arith, eight, before k room (leb-false low (from + k) q)))

  not_late : (k : ℕ) → from + k < to → 4 < zeroes (history b from (suc k)) → from + suc k ≤ high
  not_late k room five = go (leb high (from + k)) refl
    where
      go : (t : Bool) → leb high (from + k) ≡ t → from + suc k ≤ high
      go true q = absurd (omega (arith, five, beyond k room (leb-true high (from + k) q)))
      go false q = let less = leb-false high (from + k) q in omega arith

  walk : (n : ℕ) (m : Mode) (k h i : ℕ) → i ≡ from + k → h ≡ history b from k → i + n ≡ to → Stands m k → AllWithin low high (contacts b m h i n)
  unfolding contacts opens closes
  walk zero outside k h i e same end st = tt
  walk zero (since s) k h i e same end st = tt
  walk (suc n) outside k h i e same end st =
      go (leb 8 (zeroes now)) refl
      (λ early late. walk n (since i) (suc k) now (i + 1) (omega arith) more (omega arith) (early, omega arith, late))
      (walk n outside (suc k) now (i + 1) (omega arith) more (omega arith) tt)
    where
      now : ℕ
      now = after h (bit_at b i)

      more : now ≡ history b from (suc k)
      more = one_more k h i e same

      go : (t : Bool) → leb 8 (zeroes now) ≡ t → (low ≤ i → from + suc k ≤ high → AllWithin low high (contacts b (since i) now (i + 1) n)) → AllWithin low high (contacts b outside now (i + 1) n)
          → AllWithin low high (pick t (contacts b (since i) now (i + 1) n) (contacts b outside now (i + 1) n))
      go true q opened on-so =
          let eight = leb-true 8 (zeroes now) q in
          let count = ap zeroes more in
          opened (omega (arith, e, not_early k (omega arith) (omega arith))) (not_late k (omega arith) (omega arith))
      go false q opened on-so = on-so
  walk (suc n) (since s) k h i e same end st =
      go (leb (zeroes now) 4) refl
      (walk n outside (suc k) now (i + 1) (omega arith) more (omega arith) tt)
      (λ late. walk n (since s) (suc k) now (i + 1) (omega arith) more (omega arith) (st.0, omega (arith, st.1), late))
    where
      now : ℕ
      now = after h (bit_at b i)

      more : now ≡ history b from (suc k)
      more = one_more k h i e same

      then : Search
      then = record { next = i + 1; left = n; history = now }

      go : (t : Bool) → leb (zeroes now) 4 ≡ t → AllWithin low high (contacts b outside now (i + 1) n) → (from + suc k ≤ high → AllWithin low high (contacts b (since s) now (i + 1) n))
          → AllWithin low high (pick t (contact s (i - s) then (contacts b outside now (i + 1) n)) (contacts b (since s) now (i + 1) n))
      go true q rest on-so = (st.0, omega (arith, st.1, st.2, e), rest)
      go false q rest on-so =
          let five = leb-false (zeroes now) 4 q in
          let count = ap zeroes more in
          on-so (not_late k (omega arith) (omega arith))

  pub all_within : from ≤ to → AllWithin low high (contacts_from b (from_start from (to - from)))
  unfolding contacts_from from_start
  all_within order = go (inside b from (to - from))
    where
      go : (t : Bool) → AllWithin low high (pick t (contacts b outside sixteen_ones from (to - from)) (refused 5))
      go true = walk (to - from) outside 0 sixteen_ones from (omega arith) refl (omega arith) tt
      go false = tt

-- Every contact of a record lies in it.
pub within_record : (b : List ℕ) (from to : ℕ) → from ≤ to → AllWithin from to (contacts_from b (from_start from (to - from)))
within_record b from to order = all_within b from to from to (λ k room less. absurd (omega arith)) (λ k room more. absurd (omega arith)) order
