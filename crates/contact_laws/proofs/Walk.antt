-- A pass of the antenna over sixteen bits and more: the contact opens once and closes once.
-- Assumes nothing.
use Prim.Native.Nat.{ℕ, zero, suc, ◌+◌, ◌-◌, ◌≤◌, ◌<◌}
use mathlib.Core.Path.{◌≡◌, refl, sym, ap, ◌∙◌, subst}
use mathlib.Core.Logic.{◌⊎◌, inl, inr}
use mathlib.Core.Bool.{Bool, true, false}
use mathlib.Core.List.{List}
use native.Mathlib.Omega.{arith}
use lib.Dec.{leb}
use borrow.Author.Tests.{leb-true, leb-false}
use Rattle.contact.specs.History.{zeroes_of, zeroes}
use Rattle.contact.specs.Contacts.{outside, since, contact, contacts}
use Rattle.contact.proofs.Steps.{goes_in, stays_out, goes_out, stays_in}
use Rattle.contact.proofs.Stays.{grows, on, behind}
use Rattle.contact_laws.proofs.Counts.{at_most}

-- The first number at which f is v or more, up to one at which it is.
pub record First (f : ℕ → ℕ) (v top : ℕ) : Type 0 where
  pub at : ℕ
  pub low : at ≤ top
  pub now : v ≤ f at
  pub before : (n : ℕ) → n < at → f n < v

search_on : (f : ℕ → ℕ) (v top m j : ℕ) → m + j ≡ top → v ≤ f top → ((n : ℕ) → n < m → f n < v) → First f v top
search_on f v top m zero e t none = record { at = top; low = omega arith; now = t; before = λ n l. none n (omega arith) }
search_on f v top m (suc j) e t none = go (leb v (f m)) refl (λ none'. search_on f v top (suc m) j (omega arith) t none')
  where
    one_more : f m < v → (n : ℕ) → (n < m) ⊎ (n ≡ m) → f n < v
    one_more less n (inl l) = none n l
    one_more less n (inr same) = subst (λ (k : ℕ). f k < v) (sym same) less

    sides : (n : ℕ) (t : Bool) → leb m n ≡ t → n < suc m → (n < m) ⊎ (n ≡ m)
    sides n true q l = let up = leb-true m n q in inr (omega arith)
    sides n false q l = inl (leb-false m n q)

    go : (t : Bool) → leb v (f m) ≡ t → (((n : ℕ) → n < suc m → f n < v) → First f v top) → First f v top
    go true q on = record { at = m; low = omega arith; now = leb-true v (f m) q; before = none }
    go false q on = on (λ n l. one_more (leb-false v (f m) q) n (sides n (leb m n) refl l))

pub first : (f : ℕ → ℕ) (v top : ℕ) → v ≤ f top → First f v top
first f v top t = search_on f v top 0 top (omega arith) t (λ n l. omega arith)

-- The latest twelve bits are ones: as between two passes.
abbrev pub Still : ℕ → Type 0
Still h = zeroes_of h 12 ≡ 0

-- Then fewer of the latest have no zero,
pub still_fewer : (h k : ℕ) → Still h → k ≤ 12 → zeroes_of h k ≡ 0
still_fewer h k still low =
    let rest = 12 - k in
    let e : k + rest ≡ 12 = omega arith in
    omega (arith, grows h k rest, ap (zeroes_of h) e)

-- and more have no more than what is beyond the twelve.
pub still_more : (h k : ℕ) → Still h → zeroes_of h (12 + k) ≤ k
still_more h k still = omega (arith, at_most h 12 k)

module _ (b : List ℕ) (h i : ℕ) where
  -- The zeroes among the latest sixteen after one bit more than n.
  abbrev pub z : ℕ → ℕ
  z n = zeroes (on b h i (suc n))

  -- How many of the sixteen are ones.
  abbrev pub ones : ℕ → ℕ
  ones n = 16 - z n

module _ (b : List ℕ) (h i end : ℕ) where
  -- Where none of n bits opens a contact, the contacts are those from after them on.
  pub none_opens : (n : ℕ) → i + n ≤ end → ((k : ℕ) → k < n → z b h i k < 8)
      → contacts b outside h i (end - i) ≡ contacts b outside (on b h i n) (i + n) (end - (i + n))
  none_opens n room each =
      behind b h i outside end n room
      (λ k less. stays_out b (on b h i k) (i + k) end (on b h i (suc k)) (z b h i k) (omega arith) refl refl (each k less))

  -- Where none of n bits closes it, likewise.
  pub none_closes : (s n : ℕ) → i + n ≤ end → ((k : ℕ) → k < n → 4 < z b h i k)
      → contacts b (since s) h i (end - i) ≡ contacts b (since s) (on b h i n) (i + n) (end - (i + n))
  none_closes s n room each =
      behind b h i (since s) end n room
      (λ k less. stays_in b (on b h i k) (i + k) end (on b h i (suc k)) (z b h i k) (omega arith) refl refl s (each k less))

  -- The first bit with which there are eight opens one.
  pub opens_at : {top : ℕ} (f : First (z b h i) 8 top) → i + f.at < end
      → contacts b outside h i (end - i)
      ≡ contacts b (since (i + f.at)) (on b h i (suc f.at)) (i + f.at + 1) (end - (i + f.at + 1))
  opens_at f room =
      none_opens f.at (omega arith) f.before
      ∙ goes_in b (on b h i f.at) (i + f.at) end (on b h i (suc f.at)) (z b h i f.at) room refl refl f.now

  -- The first bit with which there are four or fewer, and so twelve ones or more, closes it.
  pub closes_at : (s : ℕ) {top : ℕ} (f : First (ones b h i) 12 top) → i + f.at < end
      → contacts b (since s) h i (end - i)
      ≡ contact s (i + f.at - s) (record { next = i + f.at + 1; left = end - (i + f.at + 1); history = on b h i (suc f.at) })
      (contacts b outside (on b h i (suc f.at)) (i + f.at + 1) (end - (i + f.at + 1)))
  closes_at s f room =
      let four : z b h i f.at ≤ 4 = omega (arith, f.now) in
      none_closes s f.at (omega arith) (λ k l. omega (arith, f.before k l))
      ∙ goes_out b (on b h i f.at) (i + f.at) end (on b h i (suc f.at)) (z b h i f.at) room refl refl s four
