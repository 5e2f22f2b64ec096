-- The zeroes among the latest sixteen bits, by those that have come; and ones, after which nothing
-- opens.
-- Assumes nothing.
use Prim.Native.Nat.{ℕ, zero, suc, ◌+◌, ◌-◌, ◌≤◌, ◌<◌}
use mathlib.Core.Path.{◌≡◌, refl, sym, ap, ◌∙◌}
use mathlib.Core.Bool.{Bool, true, false}
use mathlib.Core.List.{List}
use native.Mathlib.Nat.{add-zero, add-suc}
use native.Mathlib.Omega.{arith}
use lib.Dec.{leb}
use borrow.Author.Tests.{leb-true, leb-false}
use Rattle.telegram.specs.Stretch.{bit_at}
use Rattle.contact.specs.History.{after, zeroes_of, zeroes}
use Rattle.contact.specs.Contacts.{outside, contacts}
use Rattle.contact.proofs.Stays.{on}
use Rattle.contact_laws.specs.Zeroes.{zeroes_in}
use Rattle.contact_laws.proofs.Counts.{in_ones, run}
use Rattle.contact_laws.proofs.Walk.{Still, still_fewer, still_more, none_opens}

-- The history after j bits more.
pub on_on : (b : List ℕ) (h i m j : ℕ) → on b (on b h i m) (i + m) j ≡ on b h i (m + j)
on_on b h i m zero = ap (on b h i) (sym (add-zero m))
on_on b h i m (suc j) =
    let e : i + m + j ≡ i + (m + j) = omega arith in
    ap (λ (x : ℕ). after x (bit_at b (i + m + j))) (on_on b h i m j)
    ∙ ap (λ (k : ℕ). after (on b h i (m + j)) (bit_at b k)) e
    ∙ ap (on b h i) (sym (add-suc m j))

-- The zeroes among the latest sixteen: after n of the bits, not more than sixteen,
pub short : (b : List ℕ) (h i n : ℕ) → n ≤ 16 → zeroes (on b h i n) ≡ zeroes_in b i n + zeroes_of h (16 - n)
unfolding zeroes
short b h i n low =
    let e : 16 - n + n ≡ 16 = omega arith in
    ap (zeroes_of (on b h i n)) (sym e) ∙ run b h i (16 - n) n (omega arith)

-- and after more.
pub full : (b : List ℕ) (h i m : ℕ) → zeroes (on b h i (m + 16)) ≡ zeroes_in b (i + m) 16
unfolding zeroes zeroes_of
full b h i m =
    ap zeroes (sym (on_on b h i m 16)) ∙ short b (on b h i m) (i + m) 16 (omega arith) ∙ add-zero (zeroes_in b (i + m) 16)

-- Ones, with the latest twelve before them ones: no contact opens, and the latest twelve are ones.
module _ (b : List ℕ) (h i end : ℕ) (still : Still h) where
  pub still_on : (n : ℕ) → ((k : ℕ) → k < n → bit_at b (i + k) ≡ 1) → Still (on b h i n)
  unfolding zeroes_of
  still_on n ones_there = go (leb n 12) refl
    where
      go : (t : Bool) → leb n 12 ≡ t → Still (on b h i n)
      go true q =
          let few = leb-true n 12 q in
          let k = 12 - n in
          let e : k + n ≡ 12 = omega arith in
          omega (arith, run b h i k n (omega arith), ap (zeroes_of (on b h i n)) e, in_ones b i n ones_there, still_fewer h k still (omega arith))
      go false q =
          let many = leb-false n 12 q in
          let m = n - 12 in
          let e : m + 12 ≡ n = omega arith in
          let whole = run b (on b h i m) (i + m) 0 12 (omega arith) in
          let all : zeroes_in b (i + m) 12 ≡ 0 =
          in_ones b (i + m) 12 (λ k l. let f : i + m + k ≡ i + (m + k) = omega arith in ap (bit_at b) f ∙ ones_there (m + k) (omega arith)) in
          ap (λ (x : ℕ). zeroes_of x 12) (sym (on_on b h i m 12 ∙ ap (on b h i) e)) ∙ whole ∙ ap (λ (x : ℕ). x + 0) all

  -- With twelve ones latest there are at most four zeroes.
  pub still_four : (x : ℕ) → Still x → zeroes x ≤ 4
  unfolding zeroes
  still_four x s = still_more x 4 s

  pub quiet_on : (n : ℕ) → i + n ≤ end → ((k : ℕ) → k < n → bit_at b (i + k) ≡ 1)
      → contacts b outside h i (end - i) ≡ contacts b outside (on b h i n) (i + n) (end - (i + n))
  quiet_on n room ones_there =
      none_opens b h i end n room
      (λ k l. omega (arith, still_four (on b h i (suc k)) (still_on (suc k) (λ j m. ones_there j (omega arith)))))
